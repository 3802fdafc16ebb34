-- The trimmed form of a verified proof. 'The end' is its first addition of the empty clause. Of the steps up to the end, each addition
-- is cut to what it needs, and kept where it is the end or a later kept one names it; a deletion keeps the numbers that are the
-- formula's or kept. (Trimming from the back: Heule, Hunt, Wetzler: Trimming while Checking Clausal Proofs, FMCAD 2013.)
use Rattle.std.specs.Prelude.{ℕ, ◌+◌, Bool, true, false, ◌||◌, ◌&&◌, ℤ, List, [], ◌∷◌, length, Option, None, Some, IsTrue, ⊤, nat_eq}
use Rattle.std.specs.Prelude.{nat_le}
use Rattle.std.specs.Prelude.{if◌then◌else◌}
use Rattle.std.specs.List.{filter, flat_map, list_any, count_by}
use Rattle.std.specs.FinMap as map
use Rattle.cnf_base.specs.declared.list.Group.{Group}
use Rattle.cnf_base.specs.declared.step.Step.{Step}
use Rattle.cnf_base.specs.declared.step.Step.TheVariants.{Add, Delete}
use Rattle.cnf_base.specs.Limits.{max_bytes}
use Rattle.cnf_base.specs.ProofText.{is_empty}
use Rattle.lrat_text.specs.Steps.{Steps, no_more, overlong, no_step, next_step, steps}
use Rattle.lrat_rules.specs.State.{State, Live, clause_at, start}
use Rattle.lrat_rules.specs.Run.{after_step, step_adds_empty}
use Rattle.lrat_rules.specs.Derivation.{text_of}
use Rattle.lrat_checker.specs.Cuts.{Cut, cut_of}

-- the number of a clause, where there is one
abbrev pub id_if_live : ℕ → Option (List ℤ) → List ℕ → List ℕ
id_if_live id None ids = ids
id_if_live id (Some clause) ids = id ∷ ids

-- those of these numbers that are live at their turn, at which each goes
abbrev pub live_ids : Live → List ℕ → List ℕ
live_ids live [] = []
live_ids live (id ∷ ids) = id_if_live id (clause_at live id) (live_ids (map.remove live id) ids)

abbrev pub cut_addition : ℕ → List ℤ → Cut → Step
cut_addition id clause cut = Add id clause cut.pos cut.groups

-- an addition with the hints that it needs, a deletion with the numbers that are live at their turn
abbrev pub cut_step : State → Step → Step
cut_step state (Add id clause hints groups) = cut_addition id clause (cut_of state.live clause hints groups)
cut_step state (Delete id ids) = Delete id (live_ids state.live ids)

-- these steps, or none
abbrev pub none_if : Bool → List Step → List Step
none_if true steps = []
none_if false steps = steps

-- the steps from this state on, cut, up to the first that adds the empty clause
abbrev pub cut_steps : State → Steps → List Step
cut_steps state (no_more line) = []
cut_steps state overlong = []
cut_steps state (no_step line) = []
cut_steps state (next_step step line steps) =
    cut_step state step ∷ none_if (step_adds_empty step) (cut_steps (after_step state step) steps)

-- those of a whole text
abbrev pub cut_up_to_end : List (List ℤ) → List ℕ → List Step
cut_up_to_end clauses bytes = cut_steps (start clauses) (steps max_bytes bytes)

-- the group is of this number's clause, or has it as a hint
abbrev pub group_names : ℕ → Group → Bool
group_names id group = nat_eq id group.id || list_any (nat_eq id) group.hints

-- the step has this number as a hint or in a group
abbrev pub names : Step → ℕ → Bool
names (Add own clause hints groups) id = list_any (nat_eq id) hints || list_any (group_names id) groups
names (Delete own ids) id = false

-- where later steps need these numbers: an addition is kept where it is the end or is needed; deletions are
abbrev pub is_kept : (ℕ → Bool) → Step → Bool
is_kept needed (Add id clause hints groups) = is_empty clause || needed id
is_kept needed (Delete id ids) = true

-- the number is named by a step that is kept, from the last step back
abbrev pub needed : List Step → ℕ → Bool
needed [] id = false
needed (step ∷ steps) id = (is_kept (needed steps) step && names step id) || needed steps id

-- the steps that are kept
abbrev pub kept : List Step → List Step
kept [] = []
kept (step ∷ steps) = if is_kept (needed steps) step then step ∷ kept steps else kept steps

-- a deletion, unless it deletes nothing
abbrev pub deletion_of : ℕ → List ℕ → List Step
deletion_of id [] = []
deletion_of id (first ∷ ids) = Delete id (first ∷ ids) ∷ []

-- the number of a clause of a formula of so many, or of a kept addition
abbrev pub is_there : ℕ → (ℕ → Bool) → ℕ → Bool
is_there count needed id = nat_le id count || needed id

-- a deletion with those of its numbers
abbrev pub trimmed_step : ℕ → (ℕ → Bool) → Step → List Step
trimmed_step count needed (Add id clause hints groups) = Add id clause hints groups ∷ []
trimmed_step count needed (Delete id ids) = deletion_of id (filter (is_there count needed) ids)

abbrev pub trimmed_steps : ℕ → (ℕ → Bool) → List Step → List Step
trimmed_steps count needed steps = flat_map (trimmed_step count needed) steps

-- cut steps, trimmed
abbrev pub trimmed_of : ℕ → List Step → List Step
trimmed_of count steps = trimmed_steps count (needed steps) (kept steps)

-- the steps of the trimmed form of a text
abbrev pub trimmed : List (List ℤ) → List ℕ → List Step
trimmed clauses bytes = trimmed_of (length clauses) (cut_up_to_end clauses bytes)

-- the trimmed form
abbrev pub trim : List (List ℤ) → List ℕ → List ℕ
trim clauses bytes = text_of (trimmed clauses bytes)

-- Counts. The step is an addition.
abbrev pub is_addition : Step → Bool
is_addition (Add id clause hints groups) = true
is_addition (Delete id ids) = false

-- how many additions there are among steps
abbrev pub additions : List Step → ℕ
additions steps = count_by is_addition steps

-- 1 where the step is an addition
abbrev pub one_if_addition : Step → ℕ
one_if_addition step = if is_addition step then 1 else 0

-- how many are ahead
abbrev pub additions_ahead : Steps → ℕ
additions_ahead (no_more line) = 0
additions_ahead overlong = 0
additions_ahead (no_step line) = 0
additions_ahead (next_step step line steps) = one_if_addition step + additions_ahead steps

-- and in a text
abbrev pub additions_of_text : List ℕ → ℕ
additions_of_text bytes = additions_ahead (steps max_bytes bytes)

-- What trimming leaves: each addition but those of the empty clause is named by a later step.
abbrev pub is_named : Step → List Step → Bool
is_named (Add id clause hints groups) later = is_empty clause || list_any (λ step. names step id) later
is_named (Delete id ids) later = true

abbrev pub each_named : List Step → Bool
each_named [] = true
each_named (step ∷ steps) = is_named step steps && each_named steps

-- a set of numbers has what each step names that is the end or that it keeps
abbrev pub IsClosed : List Step → (ℕ → Bool) → Type 0
IsClosed [] numbers = ⊤
IsClosed (step ∷ steps) numbers =
    ((id : ℕ) → IsTrue (is_kept numbers step) → IsTrue (names step id) → IsTrue (numbers id)) × IsClosed steps numbers
