-- Trimming what was trimmed changes nothing, and each addition is named by a later step.
use Rattle.std.proofs.Common.{◌≡◌, ℕ, Bool, true, false, ◌||◌, ◌&&◌, List, [], ◌∷◌, ◌++◌, refl, ap, ◌∙◌, inl, inr}
use Rattle.std.specs.Prelude.{if◌then◌else◌}
use Rattle.std.specs.List.{list_any, filter}
use Rattle.std.proofs.lemmas.Bool.{and_parts, and_from, or_cases, or_left, or_right}
use Rattle.cnf_base.specs.declared.step.Step.{Step}
use Rattle.cnf_base.specs.declared.step.Step.TheVariants.{Add, Delete}
use Rattle.cnf_base.specs.ProofText.{is_empty}
use Rattle.proof_trim.specs.Core.{are_naming}
use Rattle.proof_trim.specs.Trimmed.{names, is_kept, needed, kept, deletion_of, is_there, trimmed_steps, trimmed_of, is_named, each_named}

filter_twice : (test : ℕ → Bool) (ids : List ℕ) → filter test (filter test ids) ≡ filter test ids
filter_twice test [] = refl
filter_twice test (id ∷ ids) =
    elim (test id) as (λ b. test id ≡ b → filter test (if b then id ∷ filter test ids else filter test ids)
    ≡ (if b then id ∷ filter test ids else filter test ids)) [
      | true ↦ λ is. ap (λ (b : Bool). if b then id ∷ filter test (filter test ids) else filter test (filter test ids)) is
          ∙ ap (λ (l : List ℕ). id ∷ l) (filter_twice test ids)
      | false ↦ λ is. filter_twice test ids
    ] refl

-- what is named by kept steps is named
pub needed_named : (steps : List Step) (id : ℕ) → needed steps id ≡ true → list_any (λ step. names step id) steps ≡ true
needed_named [] id h = cc
needed_named (step ∷ steps) id h =
    elim (or_cases (is_kept (needed steps) step && names step id) (needed steps id) h) [
      | inl here ↦ or_left (names step id) (list_any (λ s. names s id) steps) (and_parts (is_kept (needed steps) step) (names step id)
          here).1
      | inr later ↦ or_right (names step id) (list_any (λ s. names s id) steps) (needed_named steps id later)
    ]

named_later : (b : Bool) (later : List Step) (id : ℕ) → (b || needed later id) ≡ true → (b || list_any (λ s. names s id) later) ≡ true
named_later true later id h = refl
named_later false later id h = needed_named later id h

module _ (count : ℕ) (needs : ℕ → Bool) where
  abbrev rest : List Step → List Step
  rest steps = trimmed_steps count needs (kept steps)

  -- A deletion in front needs nothing, is kept, and is trimmed no more.
  needed-deletion : (id : ℕ) (ids : List ℕ) (steps : List Step) (x : ℕ) → needed (deletion_of id ids ++ steps) x ≡ needed steps x
  needed-deletion id [] steps x = refl
  needed-deletion id (first ∷ ids) steps x = refl

  kept-deletion : (id : ℕ) (ids : List ℕ) (steps : List Step) → kept (deletion_of id ids ++ steps) ≡ deletion_of id ids ++ kept steps
  kept-deletion id [] steps = refl
  kept-deletion id (first ∷ ids) steps = refl

  trimmed-deletion : (id : ℕ) (ids : List ℕ) (steps : List Step) → filter (is_there count needs) ids ≡ ids
      → trimmed_steps count needs (deletion_of id ids ++ steps) ≡ deletion_of id ids ++ trimmed_steps count needs steps
  trimmed-deletion id [] steps same = refl
  trimmed-deletion id (first ∷ ids) steps same = ap (λ (l : List ℕ). deletion_of id l ++ trimmed_steps count needs steps) same

  named-deletion : (id : ℕ) (ids : List ℕ) (steps : List Step) → each_named (deletion_of id ids ++ steps) ≡ each_named steps
  named-deletion id [] steps = refl
  named-deletion id (first ∷ ids) steps = refl

  -- What is left needs what all needed.
  needed-rest : (steps : List Step) (x : ℕ) → needed (rest steps) x ≡ needed steps x
  needed-rest [] x = refl
  needed-rest (Add id clause hints groups ∷ steps) x =
      let step : Step = Add id clause hints groups in
      elim (is_kept (needed steps) step) as (λ b. is_kept (needed steps) step ≡ b
      → needed (trimmed_steps count needs (if b then step ∷ kept steps else kept steps)) x ≡ ((b && names step x) || needed steps x)) [
        | true ↦ λ is.
            (λ i. (is_kept (λ y. needed-rest steps y i) step && names step x) || needed-rest steps x i)
            ∙ ap (λ (b : Bool). (b && names step x) || needed steps x) is
        | false ↦ λ is. needed-rest steps x
      ] refl
  needed-rest (Delete id ids ∷ steps) x =
      needed-deletion id (filter (is_there count needs) ids) (rest steps) x ∙ needed-rest steps x

  -- What its additions name is what all needed.
  named-deletion_none : (id : ℕ) (ids : List ℕ) (steps : List Step) (x : ℕ) → are_naming (deletion_of id ids ++ steps) x
      ≡ are_naming steps x
  named-deletion_none id [] steps x = refl
  named-deletion_none id (first ∷ ids) steps x = refl

  pub named-rest : (steps : List Step) (x : ℕ) → are_naming (rest steps) x ≡ needed steps x
  named-rest [] x = refl
  named-rest (Add id clause hints groups ∷ steps) x =
      let step : Step = Add id clause hints groups in
      elim (is_kept (needed steps) step) as (λ b. is_kept (needed steps) step ≡ b
      → are_naming (trimmed_steps count needs (if b then step ∷ kept steps else kept steps)) x ≡ ((b && names step x) || needed steps x)) [
        | true ↦ λ is. ap (λ (b : Bool). names step x || b) (named-rest steps x)
        | false ↦ λ is. named-rest steps x
      ] refl
  named-rest (Delete id ids ∷ steps) x = named-deletion_none id (filter (is_there count needs) ids) (rest steps) x ∙ named-rest steps x

  -- Each of its steps is kept.
  kept-rest : (steps : List Step) → kept (rest steps) ≡ rest steps
  kept-rest [] = refl
  kept-rest (Add id clause hints groups ∷ steps) =
      let step : Step = Add id clause hints groups in
      elim (is_kept (needed steps) step) as (λ b. is_kept (needed steps) step ≡ b
      → kept (trimmed_steps count needs (if b then step ∷ kept steps else kept steps))
      ≡ trimmed_steps count needs (if b then step ∷ kept steps else kept steps)) [
        | true ↦ λ is.
            let still : is_kept (needed (rest steps)) step ≡ true = (λ i. is_kept (λ y. needed-rest steps y i) step) ∙ is in
            (λ i. if still i then step ∷ kept-rest steps i else kept-rest steps i)
        | false ↦ λ is. kept-rest steps
      ] refl
  kept-rest (Delete id ids ∷ steps) =
      kept-deletion id (filter (is_there count needs) ids) (rest steps)
      ∙ ap (λ (l : List Step). deletion_of id (filter (is_there count needs) ids) ++ l) (kept-rest steps)

  -- Its deletions have nothing to lose.
  pub trimmed-twice : (steps : List Step) → trimmed_steps count needs (trimmed_steps count needs steps) ≡ trimmed_steps count needs steps
  trimmed-twice [] = refl
  trimmed-twice (Add id clause hints groups ∷ steps) = ap (λ (l : List Step). Add id clause hints groups ∷ l) (trimmed-twice steps)
  trimmed-twice (Delete id ids ∷ steps) =
      let left : List ℕ = filter (is_there count needs) ids in
      trimmed-deletion id left (trimmed_steps count needs steps) (filter_twice (is_there count needs) ids)
      ∙ ap (λ (l : List Step). deletion_of id left ++ l) (trimmed-twice steps)

  -- Each addition is named by a later one.
  pub each_named-rest : (steps : List Step) → each_named (rest steps) ≡ true
  each_named-rest [] = refl
  each_named-rest (Add id clause hints groups ∷ steps) =
      let step : Step = Add id clause hints groups in
      elim (is_kept (needed steps) step) as (λ b. is_kept (needed steps) step ≡ b
      → each_named (trimmed_steps count needs (if b then step ∷ kept steps else kept steps)) ≡ true) [
        | true ↦ λ is.
            and_from (is_named step (rest steps)) (each_named (rest steps))
            (named_later (is_empty clause) (rest steps) id ((λ i. is_kept (λ y. needed-rest steps y i) step) ∙ is)) (each_named-rest steps)
        | false ↦ λ is. each_named-rest steps
      ] refl
  each_named-rest (Delete id ids ∷ steps) =
      named-deletion id (filter (is_there count needs) ids) (rest steps) ∙ each_named-rest steps

pub trimmed_again : (count : ℕ) (steps : List Step) → trimmed_of count (trimmed_of count steps) ≡ trimmed_of count steps
trimmed_again count steps =
    let all : List Step = trimmed_of count steps in
    (λ i. trimmed_steps count (λ x. needed-rest count (needed steps) steps x i) (kept-rest count (needed steps) steps i))
    ∙ trimmed-twice count (needed steps) (kept steps)
