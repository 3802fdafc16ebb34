-- What the sweep over packed steps leaves.
use Rattle.std.specs.Prelude.{◌≡◌, ℕ, ◌+◌, Bool, ◌&&◌, ◌||◌, List, [], ◌∷◌, ◌++◌, if◌then◌else◌}
use Rattle.cnf_base.specs.declared.step.Step.{Step}
use Rattle.proof_trim.specs.Packed.{kind_of, own_number, codes_back, packed_back, packed_on, stack_of}
use Rattle.proof_trim.specs.Trimmed.{additions, is_kept, kept, names, needed, one_if_addition}
use Rattle.proof_trim.specs.declared.sweep.Kept.{Kept}

-- a stack of steps, of which the last one is on top; they are given from the last one back
abbrev pub pile_of : List Step → List ℕ
pile_of [] = []
pile_of (step ∷ earlier) = packed_back step ++ pile_of earlier

-- the first number, 0 where there is none
abbrev pub first_of : List ℕ → ℕ
first_of [] = 0
first_of (number ∷ numbers) = number

-- what is kept of these steps, the first one on top, and the numbers that it names
pub record Sweeps (steps : List Step) (back : Kept) (named : ℕ → Bool) : Type 0 where
  pub row : back.row ≡ stack_of (kept steps)
  pub additions : back.additions ≡ additions (kept steps)
  pub numbers : (id : ℕ) → named id ≡ needed steps id

-- one step was looked at, whose codes were on top
pub record Looks (step : Step) (before after : Kept) (old new : ℕ → Bool) : Type 0 where
  pub row : after.row ≡ (if is_kept old step then packed_on step else []) ++ before.row
  pub additions : after.additions ≡ (if is_kept old step then one_if_addition step else 0) + before.additions
  pub numbers : (id : ℕ) → new id ≡ ((is_kept old step && names step id) || old id)

-- what is said of any step that has this kind and own number, and whose codes are on top: they are gone then
abbrev pub LooksAt : ℕ → ℕ → List ℕ → List ℕ → Kept → Kept → (ℕ → Bool) → (ℕ → Bool) → Type 0
LooksAt kind id codes now before after old new = (step : Step) (below : List ℕ) → kind ≡ kind_of step → id ≡ own_number step
    → codes ≡ codes_back step ++ below → (now ≡ below) × Looks step before after old new
