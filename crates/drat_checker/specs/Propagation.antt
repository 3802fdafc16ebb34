-- What unit propagation does to the false literals of an addition: which are forced, and where it has ended.
use Rattle.std.specs.Prelude.{◌≡◌, Bool, true, false, ◌&&◌, ℤ, neg_ℤ, List, [], ◌∷◌, ◌++◌, Option, None, Some, if◌then◌else◌}
use Rattle.std.specs.List.{list_any, list_all}
use Rattle.std.specs.Ordering.{int_eq}
use Rattle.lrat_rules.specs.declared.outcome.Effect.{Effect}
use Rattle.lrat_rules.specs.declared.outcome.Effect.TheVariants.{Conflict, Unit as Forced, NotUnit}
use Rattle.lrat_rules.specs.declared.outcome.Reason.{Reason}
use Rattle.lrat_rules.specs.declared.outcome.Reason.TheVariants.{NoConflict, CandidateOpen}
use Rattle.lrat_rules.specs.Chain.{FalseSet, literals_of, effect}
use Rattle.drat_rules.specs.Quiet.{closed_under, IsQuiet, Falsifies}
use Rattle.drat_rules.specs.Addition.{passes_candidate}
use Rattle.drat_checker.specs.Places.{Place}

-- literals were put behind those that were there
pub record Extends (old new : List ℤ) : Type 0 where
  pub rest : List ℤ
  pub parts : new ≡ old ++ rest

-- this effect makes this literal false
abbrev pub makes_false : ℤ → Effect → Bool
makes_false x Conflict = false
makes_false x (Forced literal) = int_eq x (neg_ℤ literal)
makes_false x NotUnit = false

-- each literal behind a front is the negation of what a clause forces under those before it
abbrev pub derived : List (List ℤ) → List ℤ → List ℤ → Bool
derived clauses front [] = true
derived clauses front (x ∷ rest) =
    list_any (λ c. makes_false x (effect (literals_of front) c)) clauses && derived clauses (front ++ x ∷ []) rest

-- literals were put behind those that were there by propagation
pub record Derives (clauses : List (List ℤ)) (old new : List ℤ) : Type 0 where
  pub rest : List ℤ
  pub parts : new ≡ old ++ rest
  pub derived : derived clauses old rest ≡ true

-- propagation finds nothing new on any clause
pub record IsClosed (clauses : List (List ℤ)) (literals : List ℤ) : Type 0 where
  pub closed : list_all (closed_under (literals_of literals)) clauses ≡ true

-- a quiet set has the literals of the one list where it has those of the other
pub record SameQuiet (clauses : List (List ℤ)) (old new : List ℤ) : Type 0 where
  pub same : (q : FalseSet) → IsQuiet clauses q → list_all q old ≡ list_all q new

-- a set has the new literals exactly where it has the old ones and those of the clause
pub record HasAlso (clause old new : List ℤ) : Type 0 where
  pub also : (q : FalseSet) → list_all q new ≡ (list_all q old && list_all q clause)

-- a set that has these literals has one beside its negation
pub record Clashes (literals : List ℤ) : Type 0 where
  pub clash : (q : FalseSet) → ((x : ℤ) → q x ≡ true → q (neg_ℤ x) ≡ false) → Falsifies q literals → ⊥

-- the same of a number's clause as of a candidate, where it has one
abbrev pub place_passes : List (List ℤ) → ℤ → List ℤ → Place → Bool
place_passes clauses pivot literals None = true
place_passes clauses pivot literals (Some other) = passes_candidate clauses pivot literals other

-- why an addition isn't good where propagation from its clause comes to no conflict, by the literals that are false then
abbrev pub candidates_fault : List (List ℤ) → List ℤ → ℤ → Option Reason
candidates_fault clauses literals pivot =
    if list_all (passes_candidate clauses pivot literals) clauses then None else Some CandidateOpen

abbrev pub fault_under : List (List ℤ) → List ℤ → List ℤ → Option Reason
fault_under clauses literals [] = Some NoConflict
fault_under clauses literals (pivot ∷ others) = candidates_fault clauses literals pivot
