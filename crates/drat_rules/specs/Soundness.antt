-- The words of the soundness law: what a good step does to an assignment that satisfies the clauses. (Järvisalo, Heule,
-- Biere: Inprocessing Rules, IJCAR 2012: a RAT clause keeps satisfiability.)
use Rattle.std.specs.Prelude.{◌⊎◌, Bool, true, ℤ, List, [], ◌∷◌}
use Rattle.std.specs.List.{list_all}
use Rattle.cnf_base.specs.Truth.{Assignment, Satisfies}
use Rattle.drat_text.specs.declared.step.DratStep.{DratStep}
use Rattle.drat_text.specs.declared.step.DratStep.TheVariants.{Add as adds, Delete as deletes}
use Rattle.lrat_rules.specs.Soundness.{make_true, has_no_zero}

-- the clauses hold under the assignment, or under it with the added clause's first literal made true
abbrev pub SatisfiesAllUpToPivot : Assignment → List ℤ → List (List ℤ) → Type 0
SatisfiesAllUpToPivot a [] clauses = Satisfies a clauses
SatisfiesAllUpToPivot a (pivot ∷ others) clauses = Satisfies a clauses ⊎ Satisfies (make_true pivot a) clauses

-- no literal of the clauses is 0, whose negation would be itself
abbrev pub have_no_zero : List (List ℤ) → Bool
have_no_zero clauses = list_all has_no_zero clauses

-- no literal that the step adds is 0
abbrev pub drat_step_has_no_zero : DratStep → Bool
drat_step_has_no_zero (adds clause) = has_no_zero clause
drat_step_has_no_zero (deletes clause) = true
