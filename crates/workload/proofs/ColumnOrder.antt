-- A list in which each number stands as often as in 1, 2, .. up to its length is an order; the column order is one.
use Rattle.std.proofs.Common.{◌≡◌, ℕ, zero, suc, ◌<◌, ◌≤◌, List, [], ◌∷◌, length, refl, sym, ◌∙◌, ap, arith, inl, inr}
use Rattle.std.specs.Prelude.{slice_index_or}
use Rattle.std.proofs.lemmas.Bool.{cases_eq, cases_lt}
use Rattle.cnf_base.specs.Order.{natural, IsOrder}
use Rattle.workload.specs.Board.{board_formula, column_order}
use Rattle.workload.proofs.Standing.{standing, standing_natural, standing_outside, same_number, other_number}
use Rattle.workload.proofs.Exchange.{standing_in_columns, length_of_columns}

-- what stands at a place stands once or more, at two places twice or more
at_place : (xs : List ℕ) (place : ℕ) → place < length xs → 0 < standing (slice_index_or xs place 0) xs
at_place [] place small = absurd (omega (arith, small))
at_place (x ∷ xs) zero small = omega (arith, same_number x x refl)
at_place (x ∷ xs) (suc place) small = omega (arith, at_place xs place (omega (arith, small)))

at_two : (xs : List ℕ) (place other : ℕ) → place < other → other < length xs → slice_index_or xs place 0 ≡ slice_index_or xs other 0
    → 1 < standing (slice_index_or xs other 0) xs
at_two [] place other less small same = absurd (omega (arith, small))
at_two (x ∷ xs) place zero less small same = absurd (omega (arith, less))
at_two (x ∷ xs) zero (suc other) less small same =
    omega (arith, same_number (slice_index_or xs other 0) x same, at_place xs other (omega (arith, small)))
at_two (x ∷ xs) (suc place) (suc other) less small same = omega (
  arith,
  at_two xs place other (omega (arith, less)) (omega (arith, small)) same,
)

-- where a number stands that does
found : (i : ℕ) (xs : List ℕ) → 0 < standing i xs → (place : ℕ) × (place < length xs) × (slice_index_or xs place 0 ≡ i)
found i [] some = absurd (omega (arith, some))
found i (x ∷ xs) some =
    elim (cases_eq x i) [
      | inl same ↦ (0, omega arith, same)
      | inr differ ↦
          let rest = found i xs (omega (arith, some, other_number i x differ)) in
          (suc rest.0, omega (arith, rest.1), rest.2)
    ]

-- each number stands as often as in 1, 2, .. up to the length
abbrev Once : List ℕ → Type 0
Once xs = (i : ℕ) → standing i xs ≡ standing i (natural (length xs))

inside : (xs : List ℕ) → Once xs → (place : ℕ) → place < length xs → (0 < slice_index_or xs place 0)
    × (slice_index_or xs place 0 ≤ length xs)
inside xs once place small =
    let value : ℕ = slice_index_or xs place 0 in (
      elim (cases_lt 0 value) [
        | inl some ↦ some
        | inr none ↦ absurd (omega (
          arith,
          at_place xs place small,
          once value,
          standing_outside value (length xs) (inl (omega (arith, none))),
        ))
      ],
      elim (cases_lt (length xs) value) [
        | inl past ↦ absurd (omega (arith, at_place xs place small, once value, standing_outside value (length xs) (inr past)))
        | inr within ↦ within
      ],
    )

not_twice : (xs : List ℕ) → Once xs → (place other : ℕ) → place < other → other < length xs → slice_index_or xs place 0
    ≡ slice_index_or xs other 0 → ⊥
not_twice xs once place other less small same =
    let value : ℕ = slice_index_or xs other 0 in
    let bounds = inside xs once other small in
    omega (arith, at_two xs place other less small same, once value, standing_natural value (length xs) bounds.0 bounds.1)

once_is_order : (xs : List ℕ) → Once xs → IsOrder xs
once_is_order xs once = record {
  within = inside xs once;
  apart = λ place other small late same.
      elim (cases_lt place other) [
        | inl before ↦ absurd (not_twice xs once place other before late same)
        | inr behind ↦
            elim (cases_lt other place) [
              | inl after ↦ absurd (not_twice xs once other place after small (sym same))
              | inr equal ↦ omega (arith, behind, equal)
            ]
      ];
  each = λ variable positive small. found variable xs (omega (arith, once variable, standing_natural variable (length xs) positive small));
}

pub column_order_is_order : (n : ℕ) → IsOrder (column_order n) × (length (column_order n) ≡ (board_formula n).vars)
column_order_is_order n =
    let once : Once (column_order n) = λ i. standing_in_columns n i ∙ ap (λ (k : ℕ). standing i (natural k)) (sym (length_of_columns n)) in
    (once_is_order (column_order n) once, length_of_columns n)
