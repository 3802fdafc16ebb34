-- The LRAT proof that a DRAT text over a formula becomes, but for which hints its lines have: where propagation from its clause comes to a
-- conflict an addition has hints, and else a group for each candidate, in the order of their numbers. The formula's clauses have the numbers
-- from 1 on, and each addition the next one. Tautologies are no clauses of it: those of the formula are deleted in its first line, and the
-- others have no lines.
-- (LRAT: Cruz-Filipe, Heule, Hunt, Kaufmann, Schneider-Kamp, CADE 2017. DRAT: Wetzler, Heule, Hunt, SAT 2014.)
use Rattle.std.specs.Prelude.{ℕ, zero, suc, ◌+◌, Bool, false, ℤ, List, [], ◌∷◌, ◌++◌, length, map, set, Option, None, Some, if◌then◌else◌}
use Rattle.std.specs.Option.{option_map}
use Rattle.cnf_base.specs.declared.step.Step.{Step}
use Rattle.cnf_base.specs.declared.step.Step.TheVariants.{Add, Delete}
use Rattle.cnf_base.specs.ProofText.{is_empty}
use Rattle.cnf_base.specs.Limits.{max_bytes}
use Rattle.lrat_text.specs.LineSteps.{StepsOf, no_more, overlong, no_step, next_step}
use Rattle.lrat_rules.specs.declared.outcome.Reason.{Reason}
use Rattle.drat_text.specs.declared.step.DratStep.{DratStep}
use Rattle.drat_text.specs.declared.step.DratStep.TheVariants.{Add as adds, Delete as deletes}
use Rattle.drat_text.specs.DratSteps.{drat_steps_in}
use Rattle.drat_rules.specs.Clauses.{Equality}
use Rattle.drat_rules.specs.Quiet.{has_quiet}
use Rattle.drat_rules.specs.Run.{drat_step_fault}
use Rattle.drat_checker.specs.Places.{Place, Places, is_twin, place_at, standing}
use Rattle.drat_checker.specs.Hints.{is_tautology, plain}
use Rattle.drat_checker.specs.Lines.{group_ids, ids_of}

-- What a line says but for its hints. An addition has its number, its clause, whether it has no hints that refute the clause, and the numbers
-- of the candidates that have a group.
pub data Outline : Type 0 where
  Added : ℕ → List ℤ → Bool → List ℕ → Outline
  Deleted : ℕ → List ℕ → Outline

abbrev pub outline : Step → Outline
outline (Add id clause hints groups) = Added id clause (is_empty hints) (ids_of groups)
outline (Delete id ids) = Deleted id ids

-- the place of the first clause that is told to be this one
abbrev pub first_twin : Equality → List ℤ → Places → Option ℕ
first_twin same clause [] = None
first_twin same clause (place ∷ places) =
    if is_twin same clause place then Some 0 else option_map (λ number. number + 1) (first_twin same clause places)

-- the clauses that stand behind a step
abbrev pub cleared : Places → Option ℕ → Places
cleared places None = places
cleared places (Some number) = set places number None

abbrev pub places_after : Equality → Places → DratStep → Places
places_after same places (adds clause) = places ++ Some clause ∷ []
places_after same places (deletes clause) = cleared places (first_twin same clause places)

-- the addition of a clause that is no tautology
abbrev pub addition : Places → List ℤ → List Outline
addition places clause =
    if is_tautology clause then []
    else Added (length places + 1) clause (has_quiet (standing places) clause) (group_ids places clause) ∷ []

-- The deletion of a clause that is there. It begins with the last number that was given.
abbrev pub deletion : ℕ → ℕ → Place → List Outline
deletion last number None = []
deletion last number (Some clause) = Deleted last ((number + 1) ∷ []) ∷ []

abbrev pub deletion_at : Places → Option ℕ → List Outline
deletion_at places None = []
deletion_at places (Some number) = deletion (length places) number (plain (place_at places number))

-- what a good step becomes
abbrev pub lrat_of_step : Equality → Places → DratStep → List Outline
lrat_of_step same places (adds clause) = addition places clause
lrat_of_step same places (deletes clause) = deletion_at places (first_twin same clause places)

-- nothing comes from a fault on
abbrev pub unless_fault : Option Reason → List Outline → List Outline
unless_fault None steps = steps
unless_fault (Some reason) steps = []

-- what steps become from these clauses on, up to the first that isn't good
abbrev pub lrat_of : Equality → Places → StepsOf DratStep → List Outline
lrat_of same places (no_more line) = []
lrat_of same places overlong = []
lrat_of same places (no_step line) = []
lrat_of same places (next_step step line steps) =
    unless_fault (drat_step_fault (standing places) step)
    (lrat_of_step same places step ++ lrat_of same (places_after same places step) steps)

-- a tautology stands there
abbrev pub is_dropped : Place → Bool
is_dropped None = false
is_dropped (Some clause) = is_tautology clause

-- the numbers of the tautologies among the first of these places, and among all
abbrev pub number_if : Bool → ℕ → List ℕ
number_if is_asked id = if is_asked then id ∷ [] else []

abbrev pub tautologies_below : ℕ → Places → List ℕ
tautologies_below zero places = []
tautologies_below (suc number) places = tautologies_below number places ++ number_if (is_dropped (place_at places number)) (number + 1)

abbrev pub tautologies_of : Places → List ℕ
tautologies_of places = tautologies_below (length places) places

-- the line that deletes them, where there are any
abbrev pub beginning_by : ℕ → List ℕ → List Outline
beginning_by last [] = []
beginning_by last (id ∷ ids) = Deleted last (id ∷ ids) ∷ []

abbrev pub beginning : List (List ℤ) → List Outline
beginning clauses = beginning_by (length clauses) (tautologies_of (map Some clauses))

-- what a whole text becomes; of one that is too long, the lines that end within the limit
abbrev pub lrat_steps : Equality → List (List ℤ) → List ℕ → List Outline
lrat_steps same clauses bytes = beginning clauses ++ lrat_of same (map Some clauses) (drat_steps_in max_bytes bytes)
