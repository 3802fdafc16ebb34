-- A number that enters a set.
use Rattle.std.proofs.Common.{◌≡◌, ℕ, ◌<◌, ◌/◌, ◌%◌, ◌^◌, Bool, true, false, nat_eq, ◌||◌, refl, sym, ap, ◌∙◌, arith, eqb-true}
use Rattle.std.specs.Prelude.{max}
use Rattle.std.specs.Int.{bit_at}
use Rattle.std.specs.Int.Bits.{bit_or}
use Rattle.std.proofs.lemmas.Bool.{eq-eqb, eqb-false, ne_eqb}
use Rattle.std.proofs.lemmas.Nat.Bits.{bit_at-lt, bit_at-pow_same, bit_at-pow_other, bit_at_or}
use Rattle.proof_trim.specs.Bits.{is_set}

no_more : (bit : ℕ) → max bit 0 ≡ bit
no_more bit = omega arith

one_more : (bit : ℕ) → bit < 2 → max bit 1 ≡ 1
one_more bit small = omega (arith, small)

-- one bit more of a word
pub bit_set : (word place other : ℕ) → is_set (bit_or word (2 ^ place)) other ≡ (nat_eq other place || is_set word other)
bit_set word place other =
    ap (λ (bit : ℕ). nat_eq bit 1) (bit_at_or word (2 ^ place) other) ∙ by (nat_eq other place) refl where
      by : (b : Bool) → nat_eq other place ≡ b → nat_eq (max (bit_at word other) (bit_at (2 ^ place) other)) 1 ≡ (b || is_set word other)
      by true is =
          let same : other ≡ place = eqb-true other place is in
          ap (λ (n : ℕ). nat_eq (max (bit_at word other) (bit_at (2 ^ place) n)) 1) same
          ∙ ap (λ (bit : ℕ). nat_eq (max (bit_at word other) bit) 1) (bit_at-pow_same place)
          ∙ ap (λ (bit : ℕ). nat_eq bit 1) (one_more (bit_at word other) (bit_at-lt word other))
      by false is =
          ap (λ (bit : ℕ). nat_eq (max (bit_at word other) bit) 1) (bit_at-pow_other place other (eqb-false other place is))
          ∙ ap (λ (bit : ℕ). nat_eq bit 1) (no_more (bit_at word other))

-- one number more, by the word that changed
module _ (id : ℕ) (old new : ℕ → ℕ) (others : (page : ℕ) → nat_eq page (id / 64) ≡ false → new page ≡ old page)
    (bits : (place : ℕ) → is_set (new (id / 64)) place ≡ (nat_eq place (id % 64) || is_set (old (id / 64)) place)) where
  pub entered : (other : ℕ) → is_set (new (other / 64)) (other % 64) ≡ (nat_eq other id || is_set (old (other / 64)) (other % 64))
  entered other = by (nat_eq (other / 64) (id / 64)) refl where
    elsewhere : (other / 64 ≡ id / 64 → ⊥) → other ≡ id → ⊥
    elsewhere apart same = apart (ap (λ (n : ℕ). n / 64) same)

    same_place : other / 64 ≡ id / 64 → nat_eq (other % 64) (id % 64) ≡ nat_eq other id
    same_place page = at (nat_eq (other % 64) (id % 64)) refl where
      at : (b : Bool) → nat_eq (other % 64) (id % 64) ≡ b → b ≡ nat_eq other id
      at true is =
          let place : other % 64 ≡ id % 64 = eqb-true (other % 64) (id % 64) is in
          let same : other ≡ id = omega (arith, page, place) in
          sym (eq-eqb other id same)
      at false is = sym (ne_eqb other id (λ e. eqb-false (other % 64) (id % 64) is (ap (λ (n : ℕ). n % 64) e)))

    by : (b : Bool) → nat_eq (other / 64) (id / 64) ≡ b
        → is_set (new (other / 64)) (other % 64) ≡ (nat_eq other id || is_set (old (other / 64)) (other % 64))
    by true is =
        let page : other / 64 ≡ id / 64 = eqb-true (other / 64) (id / 64) is in
        ap (λ (n : ℕ). is_set (new n) (other % 64)) page
        ∙ bits (other % 64)
        ∙ (λ i. same_place page i || is_set (old (sym page i)) (other % 64))
    by false is =
        ap (λ (n : ℕ). is_set n (other % 64)) (others (other / 64) is)
        ∙ ap (λ (b : Bool). b || is_set (old (other / 64)) (other % 64))
        (sym (ne_eqb other id (elsewhere (eqb-false (other / 64) (id / 64) is))))
