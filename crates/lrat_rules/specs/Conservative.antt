-- Conservative steps: those that keep each assignment of the formula's variables that satisfies the formula. A clause that a proof of such
-- steps adds over these variables follows from the formula, so that one proof answers many questions. (Kullmann: On a
-- Generalization of Extended Resolution, Discrete Applied Mathematics, 1999; Järvisalo, Heule, Biere: Inprocessing Rules, IJCAR 2012.)
use Rattle.std.specs.Prelude.{◌≡◌, ◌⊎◌, ℕ, Bool, true, false, ◌&&◌, ◌||◌, ℤ, nat_abs, nat_lt, List, [], ◌∷◌, Option, None, Some}
use Rattle.cnf_base.specs.declared.step.Step.{Step}
use Rattle.cnf_base.specs.declared.step.Step.TheVariants.{Add, Delete}
use Rattle.lrat_rules.specs.State.{State}
use Rattle.lrat_rules.specs.Chain.{literals_of, chain, Outcome, Open, Closed, Bad}
use Rattle.lrat_rules.specs.Run.{after_step}

-- the hints reach a conflict
abbrev pub is_closed : Outcome → Bool
is_closed (Open n) = false
is_closed Closed = true
is_closed (Bad reason) = false

-- the clause's first literal is of a variable above these
abbrev pub begins_above : ℕ → List ℤ → Bool
begins_above vars [] = false
begins_above vars (pivot ∷ clause) = nat_lt vars (nat_abs pivot)

-- A deletion, an addition whose positive hints reach a conflict, or one whose first literal is of a variable that isn't the formula's.
abbrev pub is_conservative : ℕ → State → Step → Bool
is_conservative vars state (Add id clause hints groups) = is_closed (chain state.live (literals_of clause) hints) || begins_above vars
    clause
is_conservative vars state (Delete id ids) = true

-- each of the steps is so at its turn
abbrev pub are_conservative : ℕ → State → List Step → Bool
are_conservative vars state [] = true
are_conservative vars state (step ∷ steps) = is_conservative vars state step && are_conservative vars (after_step state step) steps

-- the clause that a step adds, if it adds one
abbrev pub added_clause : Step → Option (List ℤ)
added_clause (Add id clause hints groups) = Some clause
added_clause (Delete id ids) = None

-- one of the steps adds this clause
abbrev pub IsAddedBy : List Step → List ℤ → Type 0
IsAddedBy [] clause = ⊥
IsAddedBy (step ∷ steps) clause = (added_clause step ≡ Some clause) ⊎ IsAddedBy steps clause
