-- Those of the clause are marked, and of the candidate's so far the others.
use Rattle.std.proofs.Common.{◌++◌, take}
use Rattle.drat_rules.specs.Addition.{others_of}
use Rattle.drat_checker.specs.Hints.{HasSame}
use Rattle.drat_checker.proofs.marks.mark_both.Given as goal

abbrev pub invariant-loop-literal : goal.invariant-loop-literal
invariant-loop-literal l = HasSame l.marks (l.clause ++ others_of l.fn.pivot (take l.literal-index l.other))
