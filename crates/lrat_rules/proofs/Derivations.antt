-- Derivations: one step more, their written form, and what follows from a live clause without literals.
use Rattle.std.proofs.Common.{◌≡◌, ℕ, ◌+◌, Bool, true, false, not, ◌||◌, ◌&&◌, ℤ, List, [], ◌∷◌, ◌++◌, length, None, Some, refl, sym, ap}
use Rattle.std.proofs.Common.{◌∙◌, subst, inl, inr, arith, append_assoc}
use Rattle.std.specs.List.{list_any, list_all}
use Rattle.std.proofs.lemmas.Bool.{and_parts, and_from, or_parts, cases_Bool, both_ways}
use Rattle.std.proofs.lemmas.List.{append-nil}
use Rattle.std.proofs.lemmas.List.Folds.{list_all-append}
use Rattle.std.proofs.lemmas.Grind.{flat_map-append}
use Rattle.cnf_base.specs.declared.step.Step.{Step}
use Rattle.cnf_base.specs.declared.step.Step.TheVariants.{Add, Delete}
use Rattle.cnf_base.specs.Text.{line_ends}
use Rattle.cnf_base.specs.ProofText.{Line, max_literal, is_id, is_group, is_empty, is_printable, proof_lines, line_of_step, are_whole_lines}
use Rattle.cnf_base.specs.Truth.{Assignment, Satisfies, AreClausesOf, is_literal_of}
use Rattle.lrat_rules.specs.State.{State, clause_at, start}
use Rattle.lrat_rules.specs.Run.{Reached, run, judge_step, step_fault, after_step, step_adds_empty, line_adds_empty, Refutes, Spells}
use Rattle.lrat_rules.specs.Derivation.{lines_from, text_of, deletes_added, delete_added, IsDerivation, IsWritten}
use Rattle.lrat_rules.specs.Soundness.{step_has_no_zero, lines_have_no_zero}
use Rattle.lrat_rules.proofs.SoundSteps.{LivePass, LivePass-with_clause, LivePass-without_clauses, LivePass-start, run-sound, same_reached}
use Rattle.lrat_rules.proofs.Refuted.{Refutes-Spells, has_no_zero-literals, start_model}
use Rattle.lrat_rules.proofs.MoreLines.{run-append, run_on}

-- One step more.
lines_from-append : (line : ℕ) (xs ys : List Step) → lines_from line (xs ++ ys) ≡ lines_from line xs ++ lines_from (line + length xs) ys
lines_from-append line [] ys = let same : line ≡ line + 0 = omega arith in ap (λ (n : ℕ). lines_from n ys) same
lines_from-append line (x ∷ xs) ys =
    let same : line + 1 + length xs ≡ line + length (x ∷ xs) = omega arith in
    ap (λ ls. record { line = line; step = Some x } ∷ ls) (lines_from-append (line + 1) xs ys
    ∙ ap (λ (n : ℕ). lines_from (line + 1) xs ++ lines_from n ys) same)

delete_added-one_more : (count line : ℕ) (state reached : State) (steps : List Step) (step : Step) → run state (lines_from line steps)
    ≡ Reached reached
    → delete_added count state steps ≡ true → deletes_added count reached step ≡ true → delete_added count state (steps ++ step ∷ []) ≡ true
delete_added-one_more count line state reached [] step h each last =
    and_from (deletes_added count state step) true (subst (λ (s : State). deletes_added count s step
    ≡ true) (sym (same_reached state reached h)) last) refl
delete_added-one_more count line state reached (x ∷ xs) step h each last =
    let parts = and_parts (deletes_added count state x) (delete_added count (after_step state x) xs) each in
    and_from (deletes_added count state x) (delete_added count (after_step state x) (xs ++ step ∷ [])) parts.0
    (delete_added-one_more count (line + 1) (after_step state x) reached xs step
    (run_on state reached line x (lines_from (line + 1) xs) h) parts.1 last)

pub IsDerivation-one_more : (clauses : List (List ℤ)) (steps : List Step) (state : State) (step : Step) → IsDerivation clauses steps state
    → step_fault state step ≡ None
    → is_printable step ≡ true → deletes_added (length clauses) state step ≡ true
    → IsDerivation clauses (steps ++ step ∷ []) (after_step state step)
IsDerivation-one_more clauses steps state step d good printable deletions = record {
  reached = ap (run (start clauses)) (lines_from-append 1 steps (step ∷ []))
      ∙ run-append (start clauses) state (lines_from 1 steps) (lines_from (1 + length steps) (step ∷ [])) d.reached
      ∙ ap (judge_step state (1 + length steps) (λ next. Reached next) step) good;
  printable = list_all-append is_printable steps (step ∷ []) ∙ and_from (list_all is_printable steps) (is_printable step
      && true) d.printable (and_from (is_printable step) true printable refl);
  deletions = delete_added-one_more (length clauses) 1 (start clauses) state steps step d.reached d.deletions deletions;
}

pub text_of-one_more : (steps : List Step) (step : Step) → text_of (steps ++ step ∷ []) ≡ text_of steps ++ line_of_step step
text_of-one_more steps step = flat_map-append line_of_step steps (step ∷ [])
    ∙ ap (λ (line : List ℕ). text_of steps ++ line) (append-nil (line_of_step step))

-- No clause without literals comes into being where no step adds one.
abbrev is_full : List ℤ → Bool
is_full clause = not (is_empty clause)

all_full : (clauses : List (List ℤ)) → list_any is_empty clauses ≡ false → list_all is_full clauses ≡ true
all_full [] none = refl
all_full (clause ∷ clauses) none =
    let parts = or_parts (is_empty clause) (list_any is_empty clauses) none in
    and_from (is_full clause) (list_all is_full clauses) (ap not parts.0) (all_full clauses parts.1)

full-step : (state : State) (step : Step) → LivePass is_full state.live → step_adds_empty step ≡ false
    → LivePass is_full (after_step state step).live
full-step state (Add id clause hints groups) each full = LivePass-with_clause is_full state.live id clause each (ap not full)
full-step state (Delete id ids) each full = LivePass-without_clauses is_full state.live ids each

full-run : (line : ℕ) (state reached : State) (steps : List Step) → run state (lines_from line steps) ≡ Reached reached
    → LivePass is_full state.live
    → list_any step_adds_empty steps ≡ false → LivePass is_full reached.live
full-run line state reached [] h each none = subst (λ (s : State). LivePass is_full s.live) (same_reached state reached h) each
full-run line state reached (step ∷ steps) h each none =
    let parts = or_parts (step_adds_empty step) (list_any step_adds_empty steps) none in
    full-run (line + 1) (after_step state step) reached steps (run_on state reached line step (lines_from (line + 1) steps) h)
    (full-step state step each parts.0) parts.1

-- The written form is read again.
module _ (appended : (bytes : List ℕ) (step : Step) → are_whole_lines bytes ≡ true → is_printable step ≡ true
    → proof_lines (bytes ++ line_of_step step) ≡ proof_lines bytes ++ record { line = line_ends bytes + 1; step = Some step } ∷ [])
    (whole : (bytes : List ℕ) (step : Step) → are_whole_lines (bytes ++ line_of_step step) ≡ true)
    (ends : (bytes : List ℕ) (step : Step) → is_printable step ≡ true → line_ends (bytes ++ line_of_step step) ≡ line_ends bytes + 1) where
  whole-text_of : (bytes : List ℕ) (steps : List Step) → are_whole_lines bytes ≡ true → are_whole_lines (bytes ++ text_of steps) ≡ true
  whole-text_of bytes [] h = ap are_whole_lines (append-nil bytes) ∙ h
  whole-text_of bytes (step ∷ steps) h =
      ap are_whole_lines (sym (append_assoc bytes (line_of_step step) (text_of steps)))
      ∙ whole-text_of (bytes ++ line_of_step step) steps (whole bytes step)

  proof_lines-text_of : (bytes : List ℕ) (steps : List Step) → are_whole_lines bytes ≡ true → list_all is_printable steps ≡ true
      → proof_lines (bytes ++ text_of steps) ≡ proof_lines bytes ++ lines_from (line_ends bytes + 1) steps
  proof_lines-text_of bytes [] h printable = ap proof_lines (append-nil bytes) ∙ sym (append-nil (proof_lines bytes))
  proof_lines-text_of bytes (step ∷ steps) h printable =
      let parts = and_parts (is_printable step) (list_all is_printable steps) printable in
      let next : Line = record { line = line_ends bytes + 1; step = Some step } in
      ap proof_lines (sym (append_assoc bytes (line_of_step step) (text_of steps)))
      ∙ proof_lines-text_of (bytes ++ line_of_step step) steps (whole bytes step) parts.1
      ∙ (λ i. appended bytes step h parts.0 i ++ lines_from (ends bytes step parts.0 i + 1) steps)
      ∙ append_assoc (proof_lines bytes) (next ∷ []) (lines_from (line_ends bytes + 1 + 1) steps)

  pub lines_of_text : (steps : List Step) → list_all is_printable steps ≡ true → proof_lines (text_of steps) ≡ lines_from 1 steps
  lines_of_text steps printable = proof_lines-text_of [] steps refl printable

  Spells-text_of : (clauses : List (List ℤ)) (steps : List Step) (state : State) → run (start clauses) (lines_from 1 steps) ≡ Reached state
      → list_all is_printable steps ≡ true → Spells clauses (text_of steps) state
  Spells-text_of clauses steps state reached printable = record {
    whole = whole-text_of [] steps refl;
    reached = ap (run (start clauses)) (lines_of_text steps printable) ∙ reached;
  }

  pub Spells-IsWritten : (clauses : List (List ℤ)) (bytes : List ℕ) (state : State) → IsWritten clauses bytes state
      → Spells clauses bytes state
  Spells-IsWritten clauses bytes state w = subst (λ (b : List ℕ). Spells clauses b state) (sym w.text)
      (Spells-text_of clauses w.steps state w.derived.reached w.derived.printable)

  pub Refutes-run : (clauses : List (List ℤ)) (steps : List Step) (state : State) → run (start clauses) (lines_from 1 steps) ≡ Reached state
      → list_all is_printable steps ≡ true → list_any step_adds_empty steps ≡ true → Refutes clauses (text_of steps)
  Refutes-run clauses steps state reached printable empty =
      Refutes-Spells clauses (text_of steps) state (Spells-text_of clauses steps state reached printable)
      (ap (list_any (λ (line : Line). line_adds_empty line.step)) (lines_of_text steps printable) ∙ lines_add_empty 1 steps ∙ empty)
    where
      lines_add_empty : (line : ℕ) (xs : List Step) → list_any (λ (l : Line). line_adds_empty l.step) (lines_from line xs)
          ≡ list_any step_adds_empty xs
      lines_add_empty line [] = refl
      lines_add_empty line (x ∷ xs) = ap (λ b. step_adds_empty x || b) (lines_add_empty (line + 1) xs)

  pub Refutes-by_step : (clauses : List (List ℤ)) (steps : List Step) (state : State) → IsDerivation clauses steps state
      → list_any step_adds_empty steps ≡ true → Refutes clauses (text_of steps)
  Refutes-by_step clauses steps state d empty = Refutes-run clauses steps state d.reached d.printable empty

  -- a live clause without literals was added, where the formula has none
  pub Refutes-live : (clauses : List (List ℤ)) (bytes : List ℕ) (state : State) (id : ℕ) → IsWritten clauses bytes state
      → list_any is_empty clauses ≡ false
      → clause_at state.live id ≡ Some [] → Refutes clauses bytes
  Refutes-live clauses bytes state id w none at =
      subst (Refutes clauses) (sym w.text)
      (elim (cases_Bool (list_any step_adds_empty w.steps)) [
        | inl has ↦ Refutes-by_step clauses w.steps state w.derived has
        | inr clean ↦ absurd (both_ways false refl (full-run 1 (start clauses) state w.steps w.derived.reached
            (LivePass-start is_full clauses (all_full clauses none)) clean id [] at))
      ])

-- Steps whose lines can be read again add no literal 0.
pub step_no_zero : (step : Step) → is_printable step ≡ true → step_has_no_zero step ≡ true
step_no_zero (Add id clause hints groups) h =
    has_no_zero-literals max_literal clause (and_parts (is_id id) _
    (and_parts (is_id id && list_all (is_literal_of max_literal) clause) _ (and_parts _ (list_all is_group groups) h).0).0).1
step_no_zero (Delete id ids) h = refl

steps_no_zero : (line : ℕ) (steps : List Step) → list_all is_printable steps ≡ true → lines_have_no_zero (lines_from line steps) ≡ true
steps_no_zero line [] h = refl
steps_no_zero line (step ∷ steps) h =
    let parts = and_parts (is_printable step) (list_all is_printable steps) h in
    and_from (step_has_no_zero step) (lines_have_no_zero (lines_from (line + 1) steps)) (step_no_zero step parts.0)
    (steps_no_zero (line + 1) steps parts.1)

pub unsatisfiable_derived : (vars : ℕ) (clauses : List (List ℤ)) (steps : List Step) (state : State) (id : ℕ) → AreClausesOf vars clauses
    → IsDerivation clauses steps state
    → clause_at state.live id ≡ Some [] → (a : Assignment) → Satisfies a clauses → ⊥
unsatisfiable_derived vars clauses steps state id ranges d at a satisfies =
    let survives = run-sound a (start clauses) state (lines_from 1 steps) (start_model vars clauses ranges a satisfies)
    (steps_no_zero 1 steps d.printable) d.reached in
    both_ways false refl (survives.model.satisfied id [] at)
