-- The numbers that kept steps name are within each set of numbers that has what it keeps names: no smaller set will do.
use Rattle.std.proofs.Common.{◌≡◌, ℕ, Bool, true, ◌&&◌, List, [], ◌∷◌, inl, inr}
use Rattle.std.proofs.lemmas.Bool.{and_parts, or_cases, or_left, or_right}
use Rattle.cnf_base.specs.declared.step.Step.{Step}
use Rattle.cnf_base.specs.declared.step.Step.TheVariants.{Add, Delete}
use Rattle.cnf_base.specs.ProofText.{is_empty}
use Rattle.proof_trim.specs.Trimmed.{names, is_kept, needed, IsClosed}

kept_too : (step : Step) (few many : ℕ → Bool) → ((id : ℕ) → few id ≡ true → many id ≡ true) → is_kept few step ≡ true
    → is_kept many step ≡ true
kept_too (Add id clause hints groups) few many more h =
    elim (or_cases (is_empty clause) (few id) h) [
      | inl empty ↦ or_left (is_empty clause) (many id) empty
      | inr has ↦ or_right (is_empty clause) (many id) (more id has)
    ]
kept_too (Delete id ids) few many more h = h

pub least : (steps : List Step) (numbers : ℕ → Bool) → IsClosed steps numbers → (id : ℕ) → needed steps id ≡ true → numbers id ≡ true
least [] numbers closed id h = cc
least (step ∷ steps) numbers closed id h =
    elim (or_cases (is_kept (needed steps) step && names step id) (needed steps id) h) [
      | inl here ↦
          let both = and_parts (is_kept (needed steps) step) (names step id) here in
          closed.0 id (kept_too step (needed steps) numbers (least steps numbers closed.1) both.0) both.1
      | inr later ↦ least steps numbers closed.1 id later
    ]
