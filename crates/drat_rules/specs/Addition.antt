-- When an addition is good: unit propagation from its clause's negation comes to a conflict (reverse unit propagation,
-- RUP), or the clause has a first literal, the pivot, and propagation comes to a conflict from the negation of the clause
-- together with each candidate, a clause that has the pivot's negation, this one left out (resolution asymmetric tautology,
-- RAT). Whether it does is told by quiet sets; no hints are given. (Järvisalo, Heule, Biere: Inprocessing Rules, IJCAR 2012;
-- Wetzler, Heule, Hunt: DRAT-trim, SAT 2014.)
use Rattle.std.specs.Prelude.{Bool, not, ◌||◌, ℤ, neg_ℤ, List, [], ◌∷◌, ◌++◌, Option, None, Some, if◌then◌else◌}
use Rattle.std.specs.List.{filter, list_all}
use Rattle.std.specs.Ordering.{int_eq}
use Rattle.lrat_rules.specs.declared.outcome.Reason.{Reason}
use Rattle.lrat_rules.specs.declared.outcome.Reason.TheVariants.{NoConflict, CandidateOpen}
use Rattle.lrat_rules.specs.Addition.{holds_negated}
use Rattle.drat_rules.specs.Quiet.{has_quiet}

-- a candidate's literals other than the pivot's negation
abbrev pub others_of : ℤ → List ℤ → List ℤ
others_of pivot clause = filter (λ x. not (int_eq x (neg_ℤ pivot))) clause

-- this one is no candidate, or no quiet set has its other literals and those of the clause
abbrev pub passes_candidate : List (List ℤ) → ℤ → List ℤ → List ℤ → Bool
passes_candidate clauses pivot clause other =
    not (holds_negated pivot other) || not (has_quiet clauses (clause ++ others_of pivot other))

-- where some quiet set has the clause's own literals
abbrev pub open_fault : List (List ℤ) → List ℤ → Option Reason
open_fault clauses [] = Some NoConflict
open_fault clauses (pivot ∷ others) =
    if list_all (passes_candidate clauses pivot (pivot ∷ others)) clauses then None else Some CandidateOpen

-- why the addition of this clause is not good where these clauses stand; nothing where it is
abbrev pub drat_fault : List (List ℤ) → List ℤ → Option Reason
drat_fault clauses clause = if has_quiet clauses clause then open_fault clauses clause else None
