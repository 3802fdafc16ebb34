-- What the loop of `expect_rows` keeps: the words are text.
use denote.Shadow.{shadow}
use denote.Text.{Utf8}
use Rattle.program_tests.proofs.faults.expect_rows.Given as goal

abbrev pub invariant-loop-row : goal.invariant-loop-row
invariant-loop-row g l = shadow (Utf8 l.line)
