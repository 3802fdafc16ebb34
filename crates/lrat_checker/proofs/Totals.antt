-- Sums over the numbers below a bound.
use Rattle.std.proofs.Common.{◌≡◌, ℕ, zero, suc, ◌+◌, ◌-◌, ◌<◌, ◌≤◌, ◌≢◌, inl, inr, ap, arith}
use Rattle.std.proofs.lemmas.Bool.{cases_eq, cases_lt}
use Rattle.lrat_checker.specs.Counts.{total}

module _ (f g : ℕ → ℕ) where
  pub total_le : ((i : ℕ) → f i ≤ g i) → (n : ℕ) → total f n ≤ total g n
  total_le le zero = omega arith
  total_le le (suc n) = omega (arith, total_le le n, le n)

  -- one of them more
  pub total_less : ((i : ℕ) → f i ≤ g i) → (k : ℕ) → f k + 1 ≤ g k → (n : ℕ) → k < n → total f n + 1 ≤ total g n
  total_less le k more zero lt = absurd (omega arith)
  total_less le k more (suc n) lt =
      elim (cases_eq n k) [
        | inl same ↦ let here : f n + 1 ≤ g n = omega (arith, more, ap f same, ap g same) in omega (arith, total_le le n, here)
        | inr other ↦ omega (arith, total_less le k more n (omega arith), le n)
      ]

pub total_grows : (f : ℕ → ℕ) (m n : ℕ) → m ≤ n → total f m ≤ total f n
total_grows f m zero le = omega (arith, ap (total f) (let is : m ≡ 0 = omega arith in is))
total_grows f m (suc n) le =
    elim (cases_lt n m) [
      | inl lt ↦ omega (arith, ap (total f) (let is : m ≡ suc n = omega arith in is))
      | inr below ↦ omega (arith, total_grows f m n below)
    ]

-- one number's part is changed
module _ (f g : ℕ → ℕ) (k : ℕ) (same : (i : ℕ) → i ≢ k → g i ≡ f i) where
  before : (n : ℕ) → n ≤ k → total g n ≡ total f n
  before zero le = omega arith
  before (suc n) le = omega (arith, before n (omega arith), same n (λ is. omega arith))

  pub total_raised : (n : ℕ) → total g n ≤ total f n + g k
  total_raised zero = omega arith
  total_raised (suc n) =
      elim (cases_eq n k) [
        | inl is ↦ omega (arith, before n (omega arith), ap g is)
        | inr other ↦ omega (arith, total_raised n, same n other)
      ]

  lowered : g k ≡ 0 → (n : ℕ) → k < n → total g n + f k ≤ total f n
  lowered none zero lt = absurd (omega arith)
  lowered none (suc n) lt =
      elim (cases_eq n k) [
        | inl is ↦ omega (arith, before n (omega arith), ap g is, ap f is)
        | inr other ↦ omega (arith, lowered none n (omega arith), same n other)
      ]

  -- the part is taken away: no sum is above a bound of the earlier ones less the part
  pub total_lowered : g k ≡ 0 → (bound : ℕ) → ((n : ℕ) → total f n ≤ bound) → (n : ℕ) → total g n ≤ bound - f k
  total_lowered none bound bounded n =
      elim (cases_lt k n) [
        | inl lt ↦ omega (arith, lowered none n lt, bounded n)
        | inr le ↦ omega (arith, total_grows g n (suc k) (omega arith), lowered none (suc k) (omega arith), bounded (suc k))
      ]
