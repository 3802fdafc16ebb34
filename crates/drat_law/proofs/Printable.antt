-- The steps that an LRAT text becomes can be written and read again: their literals are in the range of the format.
use Rattle.std.proofs.Common.{◌≡◌, ◌<◌, ◌≤◌, ℕ, zero, suc, ◌+◌, Bool, true, false, cond, ℤ, List, [], ◌∷◌, ◌++◌, length, map, Option, None, Some}
use Rattle.std.proofs.Common.{refl, sym, ap, ◌∙◌, subst, arith, nat_cmp, inl, inr}
use Rattle.std.specs.Prelude.{⊤, ◌&&◌, nat_abs, slice_index_or}
use Rattle.std.specs.List.{list_all}
use Rattle.std.specs.Ordering.{eq_by_cmp}
use Rattle.std.specs.FinMap as finmap
use Rattle.std.proofs.lemmas.Bool.{and_parts, cases_lt, le-leb, leb-true}
use Rattle.std.proofs.lemmas.Cmp.{nat_cmp_total}
use Rattle.std.proofs.lemmas.List.Folds.{list_all-append}
use Rattle.cnf_base.specs.declared.list.Group.{Group}
use Rattle.cnf_base.specs.declared.step.Step.{Step}
use Rattle.cnf_base.specs.declared.step.Step.TheVariants.{Add, Delete}
use Rattle.cnf_base.specs.ProofText.{Line, line_of_row, max_literal, proof_lines, step_of}
use Rattle.cnf_base.specs.Text.{Row, end_line, rows}
use Rattle.cnf_base.specs.Truth.{AreClausesOf, is_literal_of}
use Rattle.lrat_text.specs.Steps.{AreFront, Steps, lines_then, no_more, overlong, no_step, next_step, step_then, steps}
use Rattle.lrat_rules.specs.State.{State, Live, clause_at, start, with_clause, without_clauses}
use Rattle.lrat_rules.specs.Run.{after_step, step_fault}
use Rattle.lrat_checker.specs.TextVerdict.{max_bytes}
use Rattle.drat_text.specs.DratText.{is_drat_printable}
use Rattle.drat_proof.specs.Drat.{deletion_of, deletions, drat_of, drat_of_step, drat_steps, unless_fault}

abbrev are_literals : List ℤ → Bool
are_literals clause = list_all (is_literal_of max_literal) clause

-- those of the live clauses
abbrev LiveAre : Live → Type 0
LiveAre live = (id : ℕ) (clause : List ℤ) → clause_at live id ≡ Some clause → are_literals clause ≡ true

same_clause : {x y : List ℤ} → ◌≡◌ {A = Option (List ℤ)} (Some x) (Some y) → x ≡ y
same_clause e = cc

added_are : (live : Live) (id : ℕ) (clause : List ℤ) → LiveAre live → are_literals clause ≡ true → LiveAre (with_clause live id clause)
added_are live id clause each new q other at =
    let is : cond (eq_by_cmp nat_cmp q id) (Some clause) (clause_at live q)
    ≡ Some other = sym (finmap.get-insert nat_cmp_total live id clause q) ∙ at in
    elim (eq_by_cmp nat_cmp q id) as (λ b. cond b (Some clause) (clause_at live q) ≡ Some other → are_literals other ≡ true) [
      | true ↦ λ e. subst (λ o. are_literals o ≡ true) (same_clause e) new
      | false ↦ λ e. each q other e
    ] is

left_are : (live : Live) (id : ℕ) → LiveAre live → LiveAre (finmap.remove live id)
left_are live id each q other at =
    let is : cond (eq_by_cmp nat_cmp q id) None (clause_at live q) ≡ Some other = sym (finmap.get-remove nat_cmp_total live id q) ∙ at in
    elim (eq_by_cmp nat_cmp q id) as (λ b. cond b None (clause_at live q) ≡ Some other → are_literals other ≡ true) [
      | true ↦ λ e. cc
      | false ↦ λ e. each q other e
    ] is

all_left_are : (live : Live) (ids : List ℕ) → LiveAre live → LiveAre (without_clauses live ids)
all_left_are live [] each = each
all_left_are live (id ∷ ids) each = all_left_are (finmap.remove live id) ids (left_are live id each)

-- those of an addition
abbrev StepAre : Step → Type 0
StepAre (Add id clause hints groups) = are_literals clause ≡ true
StepAre (Delete id ids) = ⊤

abbrev AllAre : Steps → Type 0
AllAre (no_more line) = ⊤
AllAre overlong = ⊤
AllAre (no_step line) = ⊤
AllAre (next_step step line steps) = StepAre step × AllAre steps

after_are : (state : State) (step : Step) → LiveAre state.live → StepAre step → LiveAre (after_step state step).live
after_are state (Add id clause hints groups) each new = added_are state.live id clause each new
after_are state (Delete id ids) each new = all_left_are state.live ids each

both : {a b : Bool} → a ≡ true → b ≡ true → (a && b) ≡ true
both e d = rw (e, d) refl

deletions_are : (live : Live) (ids : List ℕ) → LiveAre live → list_all is_drat_printable (deletions live ids) ≡ true
deletions_are live [] each = refl
deletions_are live (id ∷ ids) each =
    let rest : list_all is_drat_printable (deletions (finmap.remove live id) ids)
    ≡ true = deletions_are (finmap.remove live id) ids (left_are live id each) in
    elim (clause_at live id)
    as (λ o. clause_at live id ≡ o → list_all is_drat_printable (deletion_of o ++ deletions (finmap.remove live id) ids) ≡ true) [
      | None ↦ λ none. rest
      | Some clause ↦ λ at. both (each id clause at) rest
    ] refl

step_are : (state : State) (step : Step) → LiveAre state.live → StepAre step → list_all is_drat_printable (drat_of_step state step) ≡ true
step_are state (Add id clause hints groups) each new = both new refl
step_are state (Delete id ids) each new = deletions_are state.live ids each

steps_are : (state : State) (steps : Steps) → LiveAre state.live → AllAre steps → list_all is_drat_printable (drat_of state steps) ≡ true
steps_are state (no_more line) each all = refl
steps_are state overlong each all = refl
steps_are state (no_step line) each all = refl
steps_are state (next_step step line steps) each all =
    let front = drat_of_step state step in
    let rest = drat_of (after_step state step) steps in
    let whole : list_all is_drat_printable (front ++ rest) ≡ true = list_all-append is_drat_printable front rest
    ∙ both (step_are state step each all.0) (steps_are (after_step state step) steps (after_are state step each all.0) all.1) in
    elim (step_fault state step) as (λ o. list_all is_drat_printable (unless_fault o (front ++ rest)) ≡ true) [
      | None ↦ whole
      | Some reason ↦ refl
    ]

-- those of the lines of a text
abbrev LineIs : Line → Type 0
LineIs line = (step : Step) → line.step ≡ Some step → StepAre step

abbrev LinesAre : List Line → Type 0
LinesAre [] = ⊤
LinesAre (line ∷ lines) = LineIs line × LinesAre lines

lines_steps : (lines : List Line) (steps : Steps) → LinesAre lines → AllAre steps → AllAre (lines_then lines steps)
lines_steps [] steps are all = all
lines_steps (line ∷ lines) steps are all =
    let rest : AllAre (lines_then lines steps) = lines_steps lines steps are.1 all in
    elim line.step as (λ o. line.step ≡ o → AllAre (step_then o line.line (lines_then lines steps))) [
      | None ↦ λ none. tt
      | Some step ↦ λ is. (are.0 step is, rest)
    ] refl

front_lines : (front rest : List Line) → LinesAre (front ++ rest) → LinesAre front
front_lines [] rest are = tt
front_lines (line ∷ front) rest are = (are.0, front_lines front rest are.1)

at_index : (test : List ℤ → Bool) (clauses : List (List ℤ)) (i : ℕ) → list_all test clauses ≡ true → i < length clauses
    → test (slice_index_or clauses i []) ≡ true
at_index test [] i all less = absurd (omega (arith, less))
at_index test (clause ∷ clauses) zero all less = (and_parts _ _ all).0
at_index test (clause ∷ clauses) (suc i) all less = at_index test clauses i (and_parts _ _ all).1 (omega (arith, less))

wider : (vars : ℕ) (x : ℤ) → vars ≤ max_literal → is_literal_of vars x ≡ true → is_literal_of max_literal x ≡ true
wider vars x fits is =
    let parts = and_parts _ _ is in
    both parts.0 (le-leb (nat_abs x) max_literal (omega (arith, leb-true (nat_abs x) vars parts.1, fits)))

all_wider : (vars : ℕ) (clause : List ℤ) → vars ≤ max_literal → list_all (is_literal_of vars) clause ≡ true → are_literals clause ≡ true
all_wider vars [] fits all = refl
all_wider vars (x ∷ clause) fits all =
    let parts = and_parts _ _ all in
    both (wider vars x fits parts.0) (all_wider vars clause fits parts.1)

-- the clauses of `start_law`, of `step_range_law`, and of the laws of whole and of long texts
module _
    (stands : (clauses : List (List ℤ)) (i : ℕ) → i < length clauses → clause_at (start clauses).live (i + 1)
    ≡ Some (slice_index_or clauses i []))
    (none_at_zero : (clauses : List (List ℤ)) → clause_at (start clauses).live 0 ≡ None)
    (none_above : (clauses : List (List ℤ)) (id : ℕ) → length clauses < id → clause_at (start clauses).live id ≡ None)
    (in_range : (words : List (List ℕ)) (id : ℕ) (literals : List ℤ) (hints : List ℕ) (groups : List Group) → step_of words
    ≡ Some (Add id literals hints groups) → are_literals literals ≡ true)
    (whole_text : (limit : ℕ) (bytes : List ℕ) → length bytes ≤ limit → steps limit bytes
    ≡ lines_then (proof_lines bytes) (no_more (end_line bytes)))
    (long_text : (limit : ℕ) (bytes : List ℕ) → limit < length bytes → AreFront (steps limit bytes) (proof_lines bytes)) where
  start_are : (vars : ℕ) (clauses : List (List ℤ)) → vars ≤ max_literal → AreClausesOf vars clauses → LiveAre (start clauses).live
  start_are vars clauses fits of_vars zero clause at = absurd (apart (sym (none_at_zero clauses) ∙ at)) where
    apart : ◌≡◌ {A = Option (List ℤ)} None (Some clause) → ⊥
    apart e = cc
  start_are vars clauses fits of_vars (suc i) clause at =
      let next : i + 1 ≡ suc i = omega arith in
      elim (cases_lt i (length clauses)) [
        | inl less ↦ all_wider vars clause fits (subst (λ c. list_all (is_literal_of vars) c ≡ true)
            (same_clause (sym (stands clauses i less) ∙ ap (clause_at (start clauses).live) next ∙ at)) (at_index (list_all (is_literal_of vars)) clauses i of_vars less))
        | inr above ↦ absurd (apart (sym (none_above clauses (suc i) (omega (arith, above))) ∙ at))
      ] where
        apart : ◌≡◌ {A = Option (List ℤ)} None (Some clause) → ⊥
        apart e = cc

  step_is : (words : List (List ℕ)) (step : Step) → step_of words ≡ Some step → StepAre step
  step_is words (Add id clause hints groups) is = in_range words id clause hints groups is
  step_is words (Delete id ids) is = tt

  rows_are : (rows : List Row) → LinesAre (map line_of_row rows)
  rows_are [] = tt
  rows_are (row ∷ rows) = (λ step is. step_is row.words step is, rows_are rows)

  text_are : (bytes : List ℕ) → AllAre (steps max_bytes bytes)
  text_are bytes = elim (cases_lt max_bytes (length bytes)) [
    | inr short ↦ subst (λ s. AllAre s) (sym (whole_text max_bytes bytes short))
        (lines_steps (proof_lines bytes) (no_more (end_line bytes)) (rows_are (rows 99 bytes)) tt)
    | inl long ↦ let front = long_text max_bytes bytes long in
        subst (λ s. AllAre s) (sym front.steps) (lines_steps front.front overlong
        (front_lines front.front front.rest (subst (λ l. LinesAre l) front.parts (rows_are (rows 99 bytes)))) tt)
  ]

  pub drat_steps-printable : (vars : ℕ) (clauses : List (List ℤ)) (bytes : List ℕ) → vars ≤ max_literal → AreClausesOf vars clauses
      → list_all is_drat_printable (drat_steps clauses bytes) ≡ true
  drat_steps-printable vars clauses bytes fits of_vars = steps_are (start clauses) (steps max_bytes bytes)
      (start_are vars clauses fits of_vars) (text_are bytes)
