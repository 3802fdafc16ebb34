-- How far a conversion has come: what was written leads from each state that follows the first judge's clauses to one that follows these.
use Rattle.std.proofs.Common.{◌≡◌, ℕ, ◌+◌, Bool, true, ◌||◌, List, [], ◌∷◌, ◌++◌, length, map, Some}
use Rattle.std.proofs.Common.{sym, ◌∙◌, ap, append_assoc, arith, inl, inr}
use Rattle.std.specs.Prelude.{IsTrue}
use Rattle.std.specs.List.{list_any}
use Rattle.std.proofs.lemmas.Bool.{and_from, and_parts, or_cases, or_left, or_right}
use Rattle.std.proofs.lemmas.List.Folds.{list_all-append, list_any-append}
use Rattle.std.proofs.lemmas.Grind.{flat_map-append}
use Rattle.cnf_base.specs.declared.step.Step.{Step}
use Rattle.cnf_base.specs.ProofText.{Line, is_printable, line_of_step}
use Rattle.host_io.specs.Channel.{Channel}
use Rattle.lrat_rules.specs.State.{State}
use Rattle.lrat_rules.specs.Run.{Reached, after_step, run, step_adds_empty}
use Rattle.lrat_rules.specs.Derivation.{lines_from, text_of}
use Rattle.lrat_rules.proofs.MoreLines.{run-append, run_on}
use Rattle.lrat_rules.proofs.SoundSteps.{same_reached}
use Rattle.drat_text.specs.declared.step.DratStep.{DratStep}
use Rattle.drat_rules.specs.Run.{adds_empty}
use Rattle.drat_checker.specs.Places.{Places}
use Rattle.lrat_from_drat.specs.Following.{Follows, Leads, are_exact, is_exact_step}
use Rattle.lrat_from_drat.specs.Lrat.{Outline, outline}

-- steps that lead on
lines_from-append : (line : ℕ) (xs ys : List Step) → lines_from line (xs ++ ys) ≡ lines_from line xs ++ lines_from (line + length xs) ys
lines_from-append line [] ys = let same : line ≡ line + 0 = omega arith in ap (λ (n : ℕ). lines_from n ys) same
lines_from-append line (x ∷ xs) ys =
    let same : line + 1 + length xs ≡ line + length (x ∷ xs) = omega arith in
    ap (λ (ls : List Line). record { line = line; step = Some x } ∷ ls) (lines_from-append (line + 1) xs ys
    ∙ ap (λ (n : ℕ). lines_from (line + 1) xs ++ lines_from n ys) same)

exact-append : (a b : State) (line : ℕ) (xs ys : List Step) → run a (lines_from line xs) ≡ Reached b → are_exact a xs ≡ true
    → are_exact b ys ≡ true → are_exact a (xs ++ ys) ≡ true
exact-append a b line [] ys runs f g = ap (λ s. are_exact s ys) (same_reached a b runs) ∙ g
exact-append a b line (x ∷ xs) ys runs f g =
    let parts = and_parts (is_exact_step a x) (are_exact (after_step a x) xs) f in
    and_from _ _ parts.0
    (exact-append (after_step a x) b (line + 1) xs ys (run_on a b line x (lines_from (line + 1) xs) runs) parts.1 g)

pub leads-then : {a b c : State} {xs ys : List Step} → Leads a b xs → Leads b c ys → Leads a c (xs ++ ys)
leads-then {a} {b} {c} {xs} {ys} f g = record {
  reached = λ line. ap (run a) (lines_from-append line xs ys)
      ∙ run-append a b (lines_from line xs) (lines_from (line + length xs) ys) (f.reached line) ∙ g.reached (line + length xs);
  exact = exact-append a b 1 xs ys (f.reached 1) f.exact g.exact;
  printable = list_all-append is_printable xs ys ∙ and_from _ _ f.printable g.printable;
}

pub text-append : (xs ys : List Step) → text_of (xs ++ ys) ≡ text_of xs ++ text_of ys
text-append xs ys = flat_map-append line_of_step xs ys

-- what was written so far from a state on, and its outlines
pub record SoFar (tells : Bool) (out_old out_new : Channel) (from : State) (places : Places) (has_empty : Bool)
    (front : List Outline) : Type 0 where
  pub then : State
  pub steps : List Step
  pub leads : Leads from then steps
  pub follows : Follows then places
  pub alike : map outline steps ≡ front
  pub empty : has_empty ≡ true → list_any step_adds_empty steps ≡ true
  pub written : IsTrue tells → out_new.written ≡ out_old.written ++ text_of steps

-- an earlier step adds the empty clause, or the last one
pub either-empty : (has_empty behind : Bool) (step : DratStep) (xs ys : List Step) → behind ≡ (has_empty || adds_empty step)
    → (has_empty ≡ true → list_any step_adds_empty xs ≡ true) → (adds_empty step ≡ true → list_any step_adds_empty ys ≡ true)
    → behind ≡ true → list_any step_adds_empty (xs ++ ys) ≡ true
either-empty has_empty behind step xs ys told before last is =
    elim (or_cases has_empty (adds_empty step) (sym told ∙ is)) [
      | inl earlier ↦ list_any-append step_adds_empty xs ys ∙ or_left _ _ (before earlier)
      | inr now ↦ list_any-append step_adds_empty xs ys ∙ or_right (list_any step_adds_empty xs) _ (last now)
    ]

-- the lines of one more step
pub one_more : (start middle end : List ℕ) (front piece : List Step) → middle ≡ start ++ text_of front → end ≡ middle ++ text_of piece
    → end ≡ start ++ text_of (front ++ piece)
one_more start middle end front piece first second =
    second ∙ ap (λ (l : List ℕ). l ++ text_of piece) first ∙ append_assoc start (text_of front) (text_of piece)
    ∙ ap (λ (l : List ℕ). start ++ l) (sym (text-append front piece))
