-- Steps whose deletions name clauses that stand at their turn.
use Rattle.std.specs.Prelude.{ℤ, List, [], ◌∷◌, ◌++◌, IsTrue, ⊤}
use Rattle.drat_text.specs.declared.step.DratStep.{DratStep}
use Rattle.drat_text.specs.declared.step.DratStep.TheVariants.{Add as adds, Delete as deletes}
use Rattle.drat_rules.specs.Clauses.{is_among, without_first}

abbrev pub DeletesStanding : List (List ℤ) → List DratStep → Type 0
DeletesStanding clauses [] = ⊤
DeletesStanding clauses (adds clause ∷ steps) = DeletesStanding (clauses ++ clause ∷ []) steps
DeletesStanding clauses (deletes clause ∷ steps) = IsTrue (is_among clauses clause) × DeletesStanding (without_first clause clauses) steps
