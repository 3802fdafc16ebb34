-- The literals so far, each in its range.
use Rattle.std.proofs.Common.{◌≡◌, true, take}
use Rattle.std.specs.List.{list_all}
use Rattle.cnf_base.specs.Truth.{is_literal_of}
use Rattle.cnf_base.specs.ProofText.{max_literal}
use Rattle.drat_checker.proofs.line.copied.Given as goal

abbrev pub invariant-loop-literal : goal.invariant-loop-literal
invariant-loop-literal l = record {
  copy : l.lits ≡ take l.literal-index l.clause;
  range : list_all (is_literal_of max_literal) (take l.literal-index l.clause) ≡ true;
}
