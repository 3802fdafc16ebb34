-- No blank stands before this place.
use Rattle.std.proofs.Common.{◌≡◌, ◌-◌, ◌≤◌, false, length, take}
use Rattle.std.specs.List.{list_any}
use Rattle.cnf_base.specs.Text.{is_blank}
use Rattle.text_scan.proofs.lexer.letters.Given as goal

abbrev pub invariant-loop-len : goal.invariant-loop-len
invariant-loop-len l = record { range : l.len ≤ length l.bytes; none : list_any is_blank (take l.len l.bytes) ≡ false }

abbrev pub decreases-loop-len : goal.decreases-loop-len
decreases-loop-len l = length l.bytes - l.len
