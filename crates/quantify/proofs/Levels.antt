-- Values by levels where that of one level is set, and the first ones are fixed.
use Rattle.std.proofs.Common.{◌≡◌, ◌≤◌, ◌||◌, ◌==◌, ℕ, Bool, true, false, refl, arith, eqb-true, eq-eqb, nat_lt}
use Rattle.std.specs.Prelude.{if◌then◌else◌}
use Rattle.std.proofs.lemmas.Bool.{ltb-true}
use Rattle.node_table.specs.Value.{Levels, fixed_to}
use Rattle.operations.specs.Results.{with_level}

-- the value of the level that is set, and those of the others
pub set_level : (a : Levels) (level : ℕ) (value : Bool) → with_level a level value level ≡ value
set_level a level value = rw (eq-eqb level level refl) refl

pub other_level : (a : Levels) (level : ℕ) (value : Bool) (i : ℕ) → (i ≡ level → ⊥) → with_level a level value i ≡ a i
other_level a level value i differ = elim (i == level) as (λ b. (i == level) ≡ b → (if b then value else a i) ≡ a i) [
  | true ↦ λ is. absurd (differ (eqb-true i level is))
  | false ↦ λ is. refl
] refl

-- a later level is set before or after the first ones are fixed
pub set_fixed : (a fixed : Levels) (first level : ℕ) (value : Bool) → first ≤ level → fixed_to first fixed (with_level a level value)
    ≡ with_level (fixed_to first fixed a) level value
set_fixed a fixed first level value later = λ k i. at i k
  where
    at : (i : ℕ) → fixed_to first fixed (with_level a level value) i ≡ with_level (fixed_to first fixed a) level value i
    at i = elim (i == level) as (λ b. (i == level) ≡ b → (if nat_lt i first then fixed i else (if b then value else a i))
        ≡ (if b then value else (if nat_lt i first then fixed i else a i))) [
          | false ↦ λ is. refl
          | true ↦ λ is. elim (nat_lt i first) as (λ c. nat_lt i first ≡ c → (if c then fixed i else value) ≡ value) [
            | false ↦ λ no. refl
            | true ↦ λ yes. absurd (let small = ltb-true i first yes in let same = eqb-true i level is in omega (arith, small, same, later))
          ] refl
        ] refl

pub either_same : (b : Bool) → b ≡ (b || b)
either_same true = refl
either_same false = refl
