-- What the loops of `put_literals` keep.
use Rattle.std.proofs.Common.{◌≡◌, ◌≤◌, ◌++◌, true, drop, length}
use Rattle.std.specs.List.{list_all}
use Rattle.cnf_base.specs.Truth.{is_literal_of}
use Rattle.cnf_base.specs.ProofText.{max_literal}
use Rattle.lrat_write.specs.LineText.{literals_text}
use Rattle.lrat_write.proofs.backward.put_literals.Given as goal

abbrev pub invariant-literals : goal.invariant-literals
invariant-literals l =
    (l.left ≤ length l.literals) × (l.at ≤ 256) × (drop l.at l.buffer ≡ literals_text (drop l.left l.literals) ++ drop l.end l.fn.buffer)
    × (list_all (is_literal_of max_literal) (drop l.left l.literals) ≡ true)

abbrev pub decreases-literals : goal.decreases-literals
decreases-literals l = l.left
