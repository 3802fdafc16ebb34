-- The literals so far, and those that follow are the list.
use Rattle.std.proofs.Common.{◌≡◌, true, ◌++◌, drop}
use Rattle.std.specs.List.{list_all}
use Rattle.cnf_base.specs.Truth.{is_literal_of}
use Rattle.cnf_base.specs.ProofText.{max_literal}
use Rattle.drat_text.proofs.build.push_literals.Given as goal

abbrev pub invariant-loop-literal : goal.invariant-loop-literal
invariant-loop-literal l = record {
  same : l.clause ++ drop l.literal-index l.literals ≡ l.fn.clause ++ l.literals;
  range : list_all (is_literal_of max_literal) (drop l.literal-index l.literals) ≡ true;
}
