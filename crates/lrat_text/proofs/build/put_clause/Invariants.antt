-- The literals so far stand before this place.
use Rattle.std.proofs.Common.{◌≡◌, true, take}
use Rattle.std.specs.List.{list_all}
use Rattle.cnf_base.specs.Truth.{is_literal_of}
use Rattle.cnf_base.specs.ProofText.{max_literal}
use Rattle.lrat_text.proofs.build.put_clause.Given as goal

abbrev pub invariant-loop-place : goal.invariant-loop-place
invariant-loop-place l = record {
  same : l.clause ≡ take l.place l.numbers;
  range : list_all (is_literal_of max_literal) (take l.place l.numbers) ≡ true;
}
