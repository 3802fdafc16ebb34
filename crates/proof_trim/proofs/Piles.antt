-- Stacks of steps, and how many additions there are.
use Rattle.std.proofs.Common.{◌≡◌, ℕ, ◌+◌, Bool, List, [], ◌∷◌, ◌++◌, refl, sym, ap, ◌∙◌, append_assoc, arith}
use Rattle.std.specs.Prelude.{reverse}
use Rattle.std.specs.Prelude.{cond}
use Rattle.std.specs.List.{filter}
use Rattle.std.proofs.lemmas.List.{append-nil, reverse-append}
use Rattle.std.proofs.lemmas.List.Sums.{sum_by-cons}
use Rattle.cnf_base.specs.declared.step.Step.{Step}
use Rattle.cnf_base.specs.declared.step.Step.TheVariants.{Add, Delete}
use Rattle.proof_trim.specs.Packed.{packed_back}
use Rattle.proof_trim.specs.Sweep.{pile_of}
use Rattle.proof_trim.specs.Trimmed.{additions, deletion_of, is_addition, is_there, one_if_addition, trimmed_steps}

pile-append : (xs ys : List Step) → pile_of (xs ++ ys) ≡ pile_of xs ++ pile_of ys
pile-append [] ys = refl
pile-append (x ∷ xs) ys = ap (λ (l : List ℕ). packed_back x ++ l) (pile-append xs ys) ∙ sym (append_assoc (packed_back x) (pile_of xs)
    (pile_of ys))

-- a step under those that came later
pub pile_later : (step : Step) (later : List Step) → pile_of (reverse (step ∷ later)) ≡ pile_of (reverse later) ++ packed_back step
pile_later step later =
    ap pile_of (reverse-append (step ∷ []) later)
    ∙ pile-append (reverse later) (step ∷ [])
    ∙ ap (λ (l : List ℕ). pile_of (reverse later) ++ l) (append-nil (packed_back step))

pub none_more : (n : ℕ) → 0 + n ≡ n
none_more n = omega arith

-- one step more
pub one_counted : (step : Step) (steps : List Step) → additions (step ∷ steps) ≡ one_if_addition step + additions steps
one_counted (Add id clause hints groups) steps = sum_by-cons (λ (s : Step). cond (is_addition s) 1 0) (Add id clause hints groups) steps
one_counted (Delete id ids) steps = sum_by-cons (λ (s : Step). cond (is_addition s) 1 0) (Delete id ids) steps

-- cutting deletions leaves all additions
deleted_none : (id : ℕ) (ids : List ℕ) (steps : List Step) → additions (deletion_of id ids ++ steps) ≡ additions steps
deleted_none id [] steps = refl
deleted_none id (first ∷ ids) steps = one_counted (Delete id (first ∷ ids)) steps ∙ none_more (additions steps)

pub additions_stay : (count : ℕ) (needs : ℕ → Bool) (steps : List Step) → additions (trimmed_steps count needs steps) ≡ additions steps
additions_stay count needs [] = refl
additions_stay count needs (Add id clause hints groups ∷ steps) =
    one_counted (Add id clause hints groups) (trimmed_steps count needs steps)
    ∙ ap (λ (n : ℕ). 1 + n) (additions_stay count needs steps)
    ∙ sym (one_counted (Add id clause hints groups) steps)
additions_stay count needs (Delete id ids ∷ steps) =
    deleted_none id (filter (is_there count needs) ids) (trimmed_steps count needs steps)
    ∙ additions_stay count needs steps ∙ sym (one_counted (Delete id ids) steps ∙ none_more (additions steps))
