-- The numbers so far.
use Rattle.std.proofs.Common.{◌≡◌, true, false}
use Rattle.std.specs.List.{list_all}
use Rattle.cnf_base.specs.ProofText.{is_id}
use Rattle.drat_checker.specs.Numbers.{has_number}
use Rattle.lrat_from_drat.specs.Lrat.{tautologies_below}
use Rattle.lrat_from_drat.proofs.Started.{OwnSoFar}
use Rattle.lrat_from_drat.proofs.start.tautologies.Given as goal

abbrev pub invariant-loop-number : goal.invariant-loop-number
invariant-loop-number l = record {
  wanted : l.line.is_wanted ≡ l.fn.line.is_wanted;
  range : list_all is_id l.ids ≡ true;
  own : OwnSoFar l.fn.judge l.ids l.number;
  zero : has_number 0 l.ids ≡ false;
  all : l.ids ≡ tautologies_below l.number l.fn.judge;
}
