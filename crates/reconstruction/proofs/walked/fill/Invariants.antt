-- What the loop of `fill` keeps.
use Rattle.std.proofs.Common.{◌≡◌, ◌<◌, ℕ, length, take}
use Rattle.std.specs.Prelude.{if◌then◌else◌}
use Rattle.cnf_base.specs.Truth.{assignment_of}
use Rattle.reconstruction.specs.Entries.{variables_of}
use Rattle.reconstruction.specs.SetsBack.{is_among}
use Rattle.reconstruction.proofs.walked.fill.Given as goal

abbrev pub invariant-entries : goal.invariant-entries
invariant-entries l = record {
  one_each : length l.values ≡ length l.fn.values;
  filled : (v : ℕ) → 0 < v → assignment_of l.values v
      ≡ (if is_among (variables_of (take l.entry-index l.entries)) v then l.value else assignment_of l.fn.values v);
}
