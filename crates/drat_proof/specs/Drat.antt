-- The DRAT proof that an LRAT text over a formula becomes: of its lines before the first bad one, each addition adds its
-- clause, and each deletion deletes, in the order in which they are named, the clauses that are live at their turn.
-- (LRAT: Cruz-Filipe, Heule, Hunt, Kaufmann, Schneider-Kamp, CADE 2017. DRAT: Wetzler, Heule, Hunt, SAT 2014.)
use Rattle.std.specs.Prelude.{ℕ, ℤ, Bool, true, false, List, [], ◌∷◌, ◌++◌, Option, None, Some}
use Rattle.std.specs.FinMap as map
use Rattle.cnf_base.specs.declared.step.Step.{Step}
use Rattle.cnf_base.specs.declared.step.Step.TheVariants.{Add, Delete}
use Rattle.cnf_base.specs.Formula.{Formula}
use Rattle.cnf_base.specs.Limits.{max_bytes}
use Rattle.lrat_text.specs.Steps.{Steps, no_more, overlong, no_step, next_step, steps}
use Rattle.lrat_rules.specs.declared.outcome.Reason.{Reason}
use Rattle.lrat_rules.specs.State.{State, Live, clause_at, start}
use Rattle.lrat_rules.specs.Run.{step_fault, after_step}
use Rattle.drat_text.specs.declared.step.DratStep.{DratStep}
use Rattle.drat_text.specs.declared.step.DratStep.TheVariants.{Add as adds, Delete as deletes}
use Rattle.drat_text.specs.DratText.{drat_text}
use Rattle.fresh_names.specs.Fresh.{fresh}

-- the deletion of a clause, where there is one
abbrev pub deletion_of : Option (List ℤ) → List DratStep
deletion_of None = []
deletion_of (Some clause) = deletes clause ∷ []

-- a deletion for each of these numbers that is live at its turn
abbrev pub deletions : Live → List ℕ → List DratStep
deletions live [] = []
deletions live (id ∷ ids) = deletion_of (clause_at live id) ++ deletions (map.remove live id) ids

-- what a good step becomes
abbrev pub drat_of_step : State → Step → List DratStep
drat_of_step state (Add id clause hints groups) = adds clause ∷ []
drat_of_step state (Delete id ids) = deletions state.live ids

-- nothing comes from a fault on
abbrev pub unless_fault : Option Reason → List DratStep → List DratStep
unless_fault None steps = steps
unless_fault (Some reason) steps = []

-- what steps become from this state on, up to the first that isn't good
abbrev pub drat_of : State → Steps → List DratStep
drat_of state (no_more line) = []
drat_of state overlong = []
drat_of state (no_step line) = []
drat_of state (next_step step line steps) =
    unless_fault (step_fault state step) (drat_of_step state step ++ drat_of (after_step state step) steps)

-- what a whole text becomes; of one that is too long, the lines that end within the limit
abbrev pub drat_steps : List (List ℤ) → List ℕ → List DratStep
drat_steps clauses bytes = drat_of (start clauses) (steps max_bytes bytes)

abbrev pub drat : List (List ℤ) → List ℕ → List ℕ
drat clauses bytes = drat_text (drat_steps clauses bytes)

-- the same where new names may be asked for, of the variables above the formula's
abbrev pub named_drat_steps : Bool → Formula → List ℕ → List DratStep
named_drat_steps false formula bytes = drat_steps formula.clauses bytes
named_drat_steps true formula bytes = fresh formula.vars (drat_steps formula.clauses bytes)

abbrev pub named_drat : Bool → Formula → List ℕ → List ℕ
named_drat has_new_names formula bytes = drat_text (named_drat_steps has_new_names formula bytes)
