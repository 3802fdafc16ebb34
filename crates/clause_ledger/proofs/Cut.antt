-- A derivation without its last step is one of the state before it, and what a ledger wrote is a proof, or one that was cut short.
use Rattle.std.proofs.Common.{◌≡◌, ℕ, ◌+◌, true, false, ℤ, List, [], ◌∷◌, ◌++◌, length, take, drop, None, Some, inl, inr, refl, sym}
use Rattle.std.proofs.Common.{◌∙◌, ap}
use Rattle.std.proofs.lemmas.Bool.{and_parts, and_from}
use Rattle.std.proofs.lemmas.List.{append-nil, take-append-drop}
use Rattle.std.proofs.lemmas.List.Folds.{list_all-append}
use Rattle.std.specs.List.{list_all}
use Rattle.cnf_base.specs.declared.step.Step.{Step}
use Rattle.cnf_base.specs.ProofText.{is_printable, line_of_step}
use Rattle.lrat_rules.specs.State.{State, start}
use Rattle.lrat_rules.specs.Run.{Reached, Stopped, after_step, judge_step, run, step_fault}
use Rattle.lrat_rules.specs.Derivation.{IsCutProof, IsWritten, delete_added, deletes_added, lines_from, text_of}
use Rattle.clause_ledger.specs.Book.{IsProofOf, IsTextOf, after_steps}
use Rattle.clause_ledger.proofs.Written.{TextLaw, whole}

-- a step that leads on is good
one_good : (state end : State) (line : ℕ) (step : Step) → run state (lines_from line (step ∷ [])) ≡ Reached end → (step_fault state step ≡ None)
    × (after_step state step ≡ end)
one_good state end line step is =
    elim (step_fault state step) as (λ f. step_fault state step ≡ f → judge_step state line (λ s. Reached s) step f ≡ Reached end
    → (step_fault state step ≡ None) × (after_step state step ≡ end)) [
      | None ↦ λ good leads. (good, let e : Reached (after_step state step) ≡ Reached end = leads in cc)
      | Some reason ↦ λ bad stops. absurd (let e : Stopped line reason ≡ Reached end = stops in cc)
    ] refl is

run_split : (state end : State) (line : ℕ) (earlier : List Step) (last : Step) → run state (lines_from line (earlier ++ last ∷ [])) ≡ Reached end
    → (run state (lines_from line earlier) ≡ Reached (after_steps state earlier)) × (step_fault (after_steps state earlier) last ≡ None)
    × (after_step (after_steps state earlier) last ≡ end)
run_split state end line [] last is = let one = one_good state end line last is in (refl, one.0, one.1)
run_split state end line (step ∷ earlier) last is =
    elim (step_fault state step) as (λ f. step_fault state step ≡ f
    → judge_step state line (λ s. run s (lines_from (line + 1) (earlier ++ last ∷ []))) step f ≡ Reached end
    → (judge_step state line (λ s. run s (lines_from (line + 1) earlier)) step f ≡ Reached (after_steps (after_step state step) earlier))
    × (step_fault (after_steps (after_step state step) earlier) last ≡ None)
    × (after_step (after_steps (after_step state step) earlier) last ≡ end)) [
      | None ↦ λ _ leads. run_split (after_step state step) end (line + 1) earlier last leads
      | Some reason ↦ λ _ stops. absurd (let e : Stopped line reason ≡ Reached end = stops in cc)
    ] refl is

added_split : (count : ℕ) (state : State) (earlier : List Step) (last : Step) → delete_added count state (earlier ++ last ∷ []) ≡ true
    → (delete_added count state earlier ≡ true) × (deletes_added count (after_steps state earlier) last ≡ true)
added_split count state [] last is = (refl, (and_parts (deletes_added count state last) true is).0)
added_split count state (step ∷ earlier) last is =
    let parts = and_parts (deletes_added count state step) (delete_added count (after_step state step) (earlier ++ last ∷ [])) is in
    let more = added_split count (after_step state step) earlier last parts.1 in
    (and_from (deletes_added count state step) (delete_added count (after_step state step) earlier) parts.0 more.0, more.1)

-- two lists with a last element are equal only with equal fronts
same_front : (xs ys : List Step) (x y : Step) → xs ++ x ∷ [] ≡ ys ++ y ∷ [] → (xs ≡ ys) × (x ≡ y)
same_front [] [] x y is = (refl, let e : x ∷ [] ≡ y ∷ [] = is in cc)
same_front [] (b ∷ []) x y is = absurd (let e : x ∷ [] ≡ b ∷ y ∷ [] = is in cc)
same_front [] (b ∷ c ∷ ys) x y is = absurd (let e : x ∷ [] ≡ b ∷ c ∷ (ys ++ y ∷ []) = is in cc)
same_front (a ∷ []) [] x y is = absurd (let e : a ∷ x ∷ [] ≡ y ∷ [] = is in cc)
same_front (a ∷ c ∷ xs) [] x y is = absurd (let e : a ∷ c ∷ (xs ++ x ∷ []) ≡ y ∷ [] = is in cc)
same_front (a ∷ xs) (b ∷ ys) x y is =
    let e : a ∷ (xs ++ x ∷ []) ≡ b ∷ (ys ++ y ∷ []) = is in
    let heads : a ≡ b = cc in
    let tails : xs ++ x ∷ [] ≡ ys ++ y ∷ [] = cc in
    let more = same_front xs ys x y tails in
    (ap (λ (z : Step). z ∷ xs) heads ∙ ap (λ (zs : List Step). b ∷ zs) more.0, more.1)

module _ (text : TextLaw) (clauses : List (List ℤ)) (steps : List Step) (state : State) (bytes : List ℕ) (proof : IsProofOf clauses steps state) where
  pub whole_written : IsTextOf true steps bytes → IsWritten clauses bytes state
  whole_written is = record { steps = steps; derived = proof.derived; text = whole steps bytes is }

  module _ (earlier : List Step) (last : Step) (parts : steps ≡ earlier ++ last ∷ []) where
    abbrev before : State
    before = after_steps (start clauses) earlier

    split : (run (start clauses) (lines_from 1 earlier) ≡ Reached before) × (step_fault before last ≡ None) × (after_step before last ≡ state)
    split = run_split (start clauses) state 1 earlier last
        (ap (λ (s : List Step). run (start clauses) (lines_from 1 s)) (sym parts) ∙ proof.derived.reached)

    printable : (list_all is_printable earlier ≡ true) × (is_printable last ≡ true)
    printable =
        let all = and_parts (list_all is_printable earlier) (list_all is_printable (last ∷ [])) (sym (list_all-append is_printable earlier (last ∷ []))
        ∙ ap (list_all is_printable) (sym parts) ∙ proof.derived.printable) in
        (all.0, (and_parts (is_printable last) true all.1).0)

    added : (delete_added (length clauses) (start clauses) earlier ≡ true) × (deletes_added (length clauses) before last ≡ true)
    added = added_split (length clauses) (start clauses) earlier last
        (ap (delete_added (length clauses) (start clauses)) (sym parts) ∙ proof.derived.deletions)

    cut_at : (front rest : List ℕ) → line_of_step last ≡ front ++ rest → bytes ≡ text_of earlier ++ front → IsCutProof clauses bytes before state
    cut_at front rest line is = record {
      whole = text_of earlier;
      cut = front;
      parts = is;
      written = record {
        steps = earlier;
        derived = record { reached = split.0; printable = printable.0; deletions = added.0 };
        text = refl;
      };
      line = record {
        step = last;
        good = split.1;
        printable = printable.1;
        deletions = added.1;
        leads = split.2;
        rest = rest;
        line = line;
      };
    }

    pub cut_written : IsTextOf false steps bytes → IsCutProof clauses bytes before state
    cut_written (inl is) = cut_at (line_of_step last) [] (sym (append-nil (line_of_step last)))
        (is ∙ ap text_of parts ∙ text earlier last)
    cut_written (inr torn) =
        let cut = torn.1 in
        let same = same_front cut.earlier earlier cut.last last (sym cut.parts ∙ parts) in
        cut_at (take cut.count (line_of_step last)) (drop cut.count (line_of_step last))
        (sym (take-append-drop cut.count (line_of_step last)))
        (cut.text ∙ (λ i. text_of (same.0 i) ++ take cut.count (line_of_step (same.1 i))))
