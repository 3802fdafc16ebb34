-- The hints so far refute, with what is needed of the literals that weren't taken.
use Rattle.lrat_rules.specs.Chain.{literals_of}
use Rattle.drat_checker.specs.Hints.{RefuteSoFar, untaken}
use Rattle.drat_checker.proofs.hints.explain_by.Given as goal

abbrev pub invariant-loop-place : goal.invariant-loop-place
invariant-loop-place l =
    RefuteSoFar l.fn.db l.fn.trail l.fn.given l.fn.first (untaken l.fn.first l.fn.trail l.taken) (literals_of l.needed) l.found
