-- What is kept of steps whose lines can be read again can be read again.
use Rattle.std.proofs.Common.{◌≡◌, ℕ, zero, suc, Bool, true, false, ◌&&◌, ℤ, List, [], ◌∷◌, ◌++◌, take, None, Some, refl}
use Rattle.std.specs.Prelude.{map, nat_le, if◌then◌else◌}
use Rattle.std.specs.FinMap as finmap
use Rattle.std.specs.List.{list_all, filter}
use Rattle.std.proofs.lemmas.Bool.{and_parts, and_from}
use Rattle.cnf_base.specs.declared.list.Group.{Group}
use Rattle.cnf_base.specs.declared.step.Step.{Step}
use Rattle.cnf_base.specs.declared.step.Step.TheVariants.{Add, Delete}
use Rattle.cnf_base.specs.Truth.{is_literal_of}
use Rattle.cnf_base.specs.ProofText.{max_id, max_literal, is_id, is_group, is_printable}
use Rattle.lrat_text.specs.Steps.{Steps, no_more, overlong, no_step, next_step}
use Rattle.lrat_rules.specs.State.{State, Live, clause_at}
use Rattle.lrat_rules.specs.Chain.{FalseSet, literals_of, chain, Outcome, Open, Closed, Bad}
use Rattle.lrat_rules.specs.Run.{after_step, step_adds_empty}
use Rattle.lrat_checker.specs.Cuts.{used, group_use, cut_group, cut_groups}
use Rattle.proof_trim.specs.Trimmed.{id_if_live, live_ids, cut_step, none_if, cut_steps, is_kept, needed, kept, deletion_of, is_there}
use Rattle.proof_trim.specs.Trimmed.{trimmed_steps, trimmed_of}

all_taken : {X : Type 0} (p : X → Bool) (n : ℕ) (xs : List X) → list_all p xs ≡ true → list_all p (take n xs) ≡ true
all_taken p zero xs h = refl
all_taken p (suc n) [] h = refl
all_taken p (suc n) (x ∷ xs) h =
    let parts = and_parts (p x) (list_all p xs) h in and_from (p x) (list_all p (take n xs)) parts.0 (all_taken p n xs parts.1)

all_filtered : {X : Type 0} (p q : X → Bool) (xs : List X) → list_all p xs ≡ true → list_all p (filter q xs) ≡ true
all_filtered p q [] h = refl
all_filtered p q (x ∷ xs) h =
    let parts = and_parts (p x) (list_all p xs) h in
    elim (q x) as (λ b. list_all p (if b then x ∷ filter q xs else filter q xs) ≡ true) [
      | true ↦ and_from (p x) (list_all p (filter q xs)) parts.0 (all_filtered p q xs parts.1)
      | false ↦ all_filtered p q xs parts.1
    ]

all_live : (live : Live) (ids : List ℕ) → list_all is_id ids ≡ true → list_all is_id (live_ids live ids) ≡ true
all_live live [] h = refl
all_live live (id ∷ ids) h =
    let parts = and_parts (is_id id) (list_all is_id ids) h in
    let rest : list_all is_id (live_ids (finmap.remove live id) ids) ≡ true = all_live (finmap.remove live id) ids parts.1 in
    elim (clause_at live id) as (λ p. list_all is_id (id_if_live id p (live_ids (finmap.remove live id) ids)) ≡ true) [
      | None ↦ rest
      | Some clause ↦ and_from (is_id id) (list_all is_id (live_ids (finmap.remove live id) ids)) parts.0 rest
    ]

all_groups : (live : Live) (n : FalseSet) (pivot : ℤ) (groups : List Group) → list_all is_group groups ≡ true
    → list_all is_group (map (cut_group live n pivot) groups) ≡ true
all_groups live n pivot [] h = refl
all_groups live n pivot (group ∷ groups) h =
    let parts = and_parts (is_group group) (list_all is_group groups) h in
    let own = and_parts (is_id group.id) (list_all is_id group.hints) parts.0 in
    and_from (is_group (cut_group live n pivot group)) (list_all is_group (map (cut_group live n pivot) groups))
    (and_from (is_id group.id) (list_all is_id (take (group_use live n pivot group) group.hints)) own.0
    (all_taken is_id (group_use live n pivot group) group.hints own.1))
    (all_groups live n pivot groups parts.1)

all_cut_groups : (live : Live) (clause : List ℤ) (groups : List Group) (o : Outcome) → list_all is_group groups ≡ true
    → list_all is_group (cut_groups live clause groups o) ≡ true
all_cut_groups live clause groups (Bad reason) h = refl
all_cut_groups live clause groups Closed h = refl
all_cut_groups live [] groups (Open n) h = refl
all_cut_groups live (pivot ∷ clause) groups (Open n) h = all_groups live n pivot groups h

pub printable-cut : (state : State) (step : Step) → is_printable step ≡ true → is_printable (cut_step state step) ≡ true
printable-cut state (Add id clause hints groups) h =
    let last = and_parts (is_id id && list_all (is_literal_of max_literal) clause && list_all is_id hints) (list_all is_group groups) h in
    let before = and_parts (is_id id && list_all (is_literal_of max_literal) clause) (list_all is_id hints) last.0 in
    let n : FalseSet = literals_of clause in
    let pos : List ℕ = take (used state.live n hints) hints in
    and_from (is_id id && list_all (is_literal_of max_literal) clause && list_all is_id pos)
    (list_all is_group (cut_groups state.live clause groups (chain state.live n hints)))
    (and_from (is_id id && list_all (is_literal_of max_literal) clause) (list_all is_id pos) before.0
    (all_taken is_id (used state.live n hints) hints before.1))
    (all_cut_groups state.live clause groups (chain state.live n hints) last.1)
printable-cut state (Delete id ids) h =
    let parts = and_parts (nat_le id max_id) (list_all is_id ids) h in
    and_from (nat_le id max_id) (list_all is_id (live_ids state.live ids)) parts.0 (all_live state.live ids parts.1)

-- all steps that a reader gives can be read again
abbrev pub are_printable : Steps → Bool
are_printable (no_more line) = true
are_printable overlong = true
are_printable (no_step line) = true
are_printable (next_step step line steps) = is_printable step && are_printable steps

unless_ended : (b : Bool) (more : List Step) → list_all is_printable more ≡ true → list_all is_printable (none_if b more) ≡ true
unless_ended true more e = refl
unless_ended false more e = e

pub printable-cut_steps : (steps : Steps) (state : State) → are_printable steps ≡ true → list_all is_printable (cut_steps state steps) ≡
    true
printable-cut_steps (no_more line) state h = refl
printable-cut_steps overlong state h = refl
printable-cut_steps (no_step line) state h = refl
printable-cut_steps (next_step step line steps) state h =
    let parts = and_parts (is_printable step) (are_printable steps) h in
    and_from (is_printable (cut_step state step)) (list_all is_printable (none_if (step_adds_empty step) (cut_steps (after_step state
    step) steps)))
    (printable-cut state step parts.0)
    (unless_ended (step_adds_empty step) (cut_steps (after_step state step) steps) (printable-cut_steps steps (after_step state step)
    parts.1))

printable-kept : (steps : List Step) → list_all is_printable steps ≡ true → list_all is_printable (kept steps) ≡ true
printable-kept [] h = refl
printable-kept (step ∷ steps) h =
    let parts = and_parts (is_printable step) (list_all is_printable steps) h in
    elim (is_kept (needed steps) step) as (λ b. list_all is_printable (if b then step ∷ kept steps else kept steps) ≡ true) [
      | true ↦ and_from (is_printable step) (list_all is_printable (kept steps)) parts.0 (printable-kept steps parts.1)
      | false ↦ printable-kept steps parts.1
    ]

deletion_printable : (id : ℕ) (left : List ℕ) (more : List Step) → nat_le id max_id ≡ true → list_all is_id left ≡ true
    → list_all is_printable more ≡ true → list_all is_printable (deletion_of id left ++ more) ≡ true
deletion_printable id [] more small all rest = rest
deletion_printable id (first ∷ left) more small all rest =
    and_from (is_printable (Delete id (first ∷ left))) (list_all is_printable more)
    (and_from (nat_le id max_id) (list_all is_id (first ∷ left)) small all) rest

printable-trimmed : (count : ℕ) (needs : ℕ → Bool) (steps : List Step) → list_all is_printable steps ≡ true
    → list_all is_printable (trimmed_steps count needs steps) ≡ true
printable-trimmed count needs [] h = refl
printable-trimmed count needs (Add id clause hints groups ∷ steps) h =
    let step : Step = Add id clause hints groups in
    let parts = and_parts (is_printable step) (list_all is_printable steps) h in
    and_from (is_printable step) (list_all is_printable (trimmed_steps count needs steps)) parts.0 (printable-trimmed count needs steps
    parts.1)
printable-trimmed count needs (Delete id ids ∷ steps) h =
    let parts = and_parts (is_printable (Delete id ids)) (list_all is_printable steps) h in
    let own = and_parts (nat_le id max_id) (list_all is_id ids) parts.0 in
    deletion_printable id (filter (is_there count needs) ids) (trimmed_steps count needs steps) own.0 (all_filtered is_id (is_there count
    needs) ids own.1)
    (printable-trimmed count needs steps parts.1)

pub printable-trimmed_of : (count : ℕ) (steps : List Step) → list_all is_printable steps ≡ true
    → list_all is_printable (trimmed_of count steps) ≡ true
printable-trimmed_of count steps h = printable-trimmed count (needed steps) (kept steps) (printable-kept steps h)
