-- The clauses that the entries of two caches name, as one list.
use Rattle.std.proofs.Common.{◌≡◌, ◌∙◌, ℕ, zero, suc, ◌+◌, ◌*◌, ◌≤◌, List, [], ◌∷◌, ◌++◌, length, Contains, refl, sym, ap, subst, arith}
use Rattle.std.proofs.Common.{inl, inr}
use Rattle.std.proofs.lemmas.List.{length-append}
use Rattle.std.proofs.lemmas.List.Elements.{Contains-append_cases, Contains-append_left, Contains-append_right}
use Rattle.node_table.specs.declared.node.Justification.{Justification}
use Rattle.node_table.specs.declared.node.Justification.TheVariants.{Trivial, Clause}
use Rattle.operations.specs.Entries.{Entry, IsNamed, just_of}
use Rattle.bdd_terms.proofs.AllCaches.{AreUnnamed, names_none}

-- the clause that a justification names, before others
abbrev with_number : Justification → List ℕ → List ℕ
with_number Trivial ids = ids
with_number (Clause id) ids = id ∷ ids

-- the clauses that the justifications of a list name
module _ {X : Type 0} (just : X → Justification) where
  abbrev pub numbers : List X → List ℕ
  numbers [] = []
  numbers (x ∷ xs) = with_number (just x) (numbers xs)

  few_with : (own : Justification) (ids : List ℕ) → length (with_number own ids) ≤ length ids + 1
  few_with Trivial ids = omega arith
  few_with (Clause id) ids = omega arith

  pub few_numbers : (xs : List X) → length (numbers xs) ≤ length xs
  few_numbers [] = omega arith
  few_numbers (x ∷ xs) = omega (arith, few_with (just x) (numbers xs), few_numbers xs)

  has_own : (own : Justification) (ids : List ℕ) (id : ℕ) → own ≡ Clause id → Contains (with_number own ids) id
  has_own own ids id is = subst (λ (j : Justification). Contains (with_number j ids) id) (sym is) (zero, omega arith, refl)

  has_other : (own : Justification) (ids : List ℕ) (id : ℕ) → Contains ids id → Contains (with_number own ids) id
  has_other Trivial ids id there = there
  has_other (Clause own) ids id (k, small, at) = (suc k, omega (arith, small), at)

  pub has_number : (xs : List X) (x : X) (id : ℕ) → Contains xs x → just x ≡ Clause id → Contains (numbers xs) id
  has_number [] x id there is = absurd (omega (arith, there.1))
  has_number (y ∷ ys) x id (zero, small, at) is = has_own (just y) (numbers ys) id (ap just at ∙ is)
  has_number (y ∷ ys) x id (suc k, small, at) is = has_other (just y) (numbers ys) id (has_number ys x id (k, omega (arith, small), at) is)

-- what the entries of all caches name stands in two lists
pub named_few : (ands implications rest : List Entry) → AreUnnamed rest → (size : ℕ) → length ands ≤ size → length implications ≤ size
    → (ids : List ℕ) × (length ids ≤ 2 * size) × ((id : ℕ) → IsNamed (ands ++ (implications ++ rest)) id → Contains ids id)
named_few ands implications rest none size few_ands few_implications =
    let one = numbers just_of ands in
    let two = numbers just_of implications in (
      one ++ two,
      omega (arith, length-append one two, few_numbers just_of ands, few_numbers just_of implications, few_ands, few_implications),
      λ id named. elim (Contains-append_cases ands (implications ++ rest) named.0 named.1) [
        | inl first ↦ Contains-append_left one two id (has_number just_of ands named.0 id first named.2)
        | inr later ↦ elim (Contains-append_cases implications rest named.0 later) [
          | inl second ↦ Contains-append_right one two id (has_number just_of implications named.0 id second named.2)
          | inr last ↦ absurd (names_none named.0 id (none named.0 last) named.2)
        ]
      ],
    )
