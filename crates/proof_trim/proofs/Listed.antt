-- Numbers in a row, and those of them that pass a test.
use Rattle.std.proofs.Common.{◌≡◌, ℕ, zero, suc, ◌+◌, ◌-◌, ◌<◌, ◌≤◌, Bool, true, false, ◌||◌, ◌&&◌, List, [], ◌∷◌, refl, sym, ap, ◌∙◌}
use Rattle.std.proofs.Common.{arith, nat_eq, eqb-true, inl, inr}
use Rattle.std.specs.Prelude.{if◌then◌else◌}
use Rattle.std.specs.List.{filter, list_all, range_with_len}
use Rattle.std.specs.Prelude.{map}
use Rattle.std.proofs.lemmas.Bool.{and_parts, both_ways, cases_lt, eq-eqb}
use Rattle.std.proofs.lemmas.Map.Views.{any-filter_same}
use Rattle.proof_trim.proofs.Chains.{has_id}

-- From the greatest down to the first, one pushed after another.
pub at_first : (test : ℕ → Bool) (count : ℕ) → [] ≡ filter test (range_with_len (count + 1) (count - count))
at_first test count =
    let none : count - count ≡ 0 = omega arith in
    sym (ap (λ (n : ℕ). filter test (range_with_len (count + 1) n)) none)

pub one_less : (test : ℕ → Bool) (count id : ℕ) (row now : List ℕ) → 0 < id → id ≤ count
    → row ≡ filter test (range_with_len (id + 1) (count - id)) → now ≡ (if test id then id ∷ row else row)
    → now ≡ filter test (range_with_len (id - 1 + 1) (count - (id - 1)))
one_less test count id row now positive within so_far put =
    let first : id - 1 + 1 ≡ id = omega (arith, positive) in
    let longer : count - (id - 1) ≡ suc (count - id) = omega (arith, positive, within) in
    put ∙ ap (λ (l : List ℕ). if test id then id ∷ l else l) so_far
    ∙ sym (λ i. filter test (range_with_len (first i) (longer i)))

pub at_last : (test : ℕ → Bool) (count id : ℕ) (row : List ℕ) → id ≤ 0 → row ≡ filter test (range_with_len (id + 1) (count - id))
    → row ≡ filter test (range_with_len 1 count)
at_last test count id row end so_far =
    let first : id + 1 ≡ 1 = omega (arith, end) in
    let all : count - id ≡ count = omega (arith, end) in
    so_far ∙ (λ i. filter test (range_with_len (first i) (all i)))

-- Which numbers are in a row, and which of them pass.
pub in_range : (first count id : ℕ) → first ≤ id → id < first + count → has_id (range_with_len first count) id ≡ true
in_range first zero id above below = absurd (omega (arith, above, below))
in_range first (suc count) id above below =
    elim (nat_eq id first) as (λ b. nat_eq id first ≡ b → (b || has_id (range_with_len (first + 1) count) id) ≡ true) [
      | true ↦ λ same. refl
      | false ↦ λ apart.
          elim (cases_lt first id) [
            | inl later ↦ in_range (first + 1) count id (omega (arith, later)) (omega (arith, below))
            | inr here ↦
                let same : id ≡ first = omega (arith, here, above) in
                absurd (both_ways (nat_eq id first) apart (eq-eqb id first same))
          ]
    ] refl

pub passing : (test : ℕ → Bool) (ids : List ℕ) (id : ℕ) → has_id (filter test ids) id ≡ (test id && has_id ids id)
passing test ids id = any-filter_same (nat_eq id) test (test id) (λ k same. ap test (sym (eqb-true id k same))) ids

-- what each of them passes
pub each_listed : {X : Type 0} (f : ℕ → X) (test : X → Bool) (ids : List ℕ) (id : ℕ) → list_all test (map f ids) ≡ true
    → has_id ids id ≡ true → test (f id) ≡ true
each_listed f test [] id all listed = cc
each_listed f test (first ∷ ids) id all listed =
    let both = and_parts (test (f first)) (list_all test (map f ids)) all in
    elim (nat_eq id first) as (λ b. nat_eq id first ≡ b → (b || has_id ids id) ≡ true → test (f id) ≡ true) [
      | true ↦ λ same h. ap (λ (k : ℕ). test (f k)) (eqb-true id first same) ∙ both.0
      | false ↦ λ apart h. each_listed f test ids id both.1 h
    ] refl listed
