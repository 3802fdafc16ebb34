-- Extension variables of nodes that were given back: they are free again.
use Rattle.std.proofs.Common.{◌≡◌, ◌⊎◌, ℕ, ◌+◌, ◌<◌, ◌≤◌, Bool, true, false, not, List, [], ◌∷◌, ◌++◌, length, map, get_or, Some, Contains}
use Rattle.std.proofs.Common.{cond, refl, sym, ap, ◌∙◌, subst, inl, inr, arith}
use Rattle.std.specs.Prelude.{nat_eq, IsPermutation}
use Rattle.std.specs.List.{IsDistinct, filter}
use Rattle.std.proofs.lemmas.List.{length-append}
use Rattle.std.proofs.lemmas.List.Elements.{Contains-append_cases, Contains-append_left, Contains-append_right}
use Rattle.std.proofs.lemmas.List.Sorted.{Contains-permutation, IsPermutation-sym, length_permutation}
use Rattle.slab.specs.Slab.{Slab, get, entries, slab_len}
use Rattle.slab.proofs.SlabLemmas.{Contains-cons, Contains-cons_cases, Contains-entries}
use Rattle.node_table.specs.declared.stored.StoredNode.{StoredNode}
use Rattle.node_table.specs.Stored.{HasVariables, IsFalling, IsStoredAs}
use Rattle.node_table.specs.Swept.{unmarked}
use Rattle.node_table.proofs.Falling.{distinct_append, distinct_falling}
use Rattle.node_table.proofs.Numbered.{Contains-mapped, distinct_numbers}
use Rattle.node_table.proofs.Remaining.{AreApart, KeepsMarked, kept_marked, left_over}

-- what a filter keeps passes its test, and it keeps all that passes
module _ {X : Type 0} (p : X → Bool) where
  kept_here : (x y : X) (rest : List X) → (Contains rest y → Contains rest y) → (b : Bool) → p x ≡ b → Contains (cond b (x ∷ rest) rest) y
      → ((x ≡ y) × (p x ≡ true)) ⊎ Contains rest y
  kept_here x y rest same true passes among = elim (Contains-cons_cases x y rest among) [
    | inl here ↦ inl (here, passes)
    | inr there ↦ inr there
  ]
  kept_here x y rest same false passes among = inr among

  pub Contains-filtered : (xs : List X) (y : X) → Contains (filter p xs) y → Contains xs y × (p y ≡ true)
  Contains-filtered [] y among = absurd (omega (arith, among.1))
  Contains-filtered (x ∷ xs) y among = elim (kept_here x y (filter p xs) (λ h. h) (p x) refl among) [
    | inl here ↦ ((0, omega arith, here.0), ap p (sym here.0) ∙ here.1)
    | inr there ↦ let later = Contains-filtered xs y there in (Contains-cons x y xs later.0, later.1)
  ]

  keeps_more : (x y : X) (rest : List X) → Contains rest y → (b : Bool) → Contains (cond b (x ∷ rest) rest) y
  keeps_more x y rest among true = Contains-cons x y rest among
  keeps_more x y rest among false = among

  pub Contains-filter : (xs : List X) (y : X) → Contains xs y → p y ≡ true → Contains (filter p xs) y
  Contains-filter [] y among passes = absurd (omega (arith, among.1))
  Contains-filter (x ∷ xs) y among passes = elim (Contains-cons_cases x y xs among) [
    | inl here ↦ subst (λ b. Contains (cond b (x ∷ filter p xs) (filter p xs)) y) (sym (ap p here ∙ passes)) (0, omega arith, here)
    | inr there ↦ keeps_more x y (filter p xs) (Contains-filter xs y there passes) (p x)
  ]

pub Contains-map : {X : Type 0} (f : X → ℕ) (xs : List X) (x : X) → Contains xs x → Contains (map f xs) (f x)
Contains-map f [] x among = absurd (omega (arith, among.1))
Contains-map f (y ∷ xs) x among = elim (Contains-cons_cases y x xs among) [
  | inl here ↦ (0, omega arith, ap f here)
  | inr there ↦ Contains-cons (f y) (f x) (map f xs) (Contains-map f xs x there)
]

abbrev variable_of : ℕ × StoredNode → ℕ
variable_of entry = entry.1.variable

-- the variables of the nodes that aren't marked, by rising key
abbrev pub freed : List Bool → Slab StoredNode → List ℕ
freed marks nodes = map variable_of (unmarked marks nodes)

-- a variable of a node that isn't marked
record IsFreed (marks : List Bool) (nodes : Slab StoredNode) (variable : ℕ) : Type 0 where
  key : ℕ
  node : StoredNode
  stands : get nodes key ≡ Some node
  mark : get_or marks key false ≡ false
  own : node.variable ≡ variable

not_true : (b : Bool) → not b ≡ true → b ≡ false
not_true true is = sym is
not_true false is = refl

entry_unmarked : (marks : List Bool) (nodes : Slab StoredNode) (entry : ℕ × StoredNode) → Contains (unmarked marks nodes) entry
    → (get nodes entry.0 ≡ Some entry.1) × (get_or marks entry.0 false ≡ false)
entry_unmarked marks nodes entry among =
    let kept = Contains-filtered (λ (e : ℕ × StoredNode). not (get_or marks e.0 false)) (entries nodes) entry among in
    ((Contains-entries nodes entry.0 entry.1).0 kept.0, not_true (get_or marks entry.0 false) kept.1)

is_freed : (marks : List Bool) (nodes : Slab StoredNode) (variable : ℕ) → Contains (freed marks nodes) variable
    → IsFreed marks nodes variable
is_freed marks nodes variable among =
    let from = Contains-mapped variable_of (unmarked marks nodes) variable among in
    let was = entry_unmarked marks nodes from.0 from.1 in
    record { key = from.0.0; node = from.0.1; stands = was.0; mark = was.1; own = from.2 }

among_freed : (marks : List Bool) (nodes : Slab StoredNode) (key : ℕ) (node : StoredNode) → get nodes key ≡ Some node
    → get_or marks key false ≡ false → Contains (freed marks nodes) node.variable
among_freed marks nodes key node is mark =
    Contains-map variable_of (unmarked marks nodes) (key, node)
    (Contains-filter (λ (e : ℕ × StoredNode). not (get_or marks e.0 false)) (entries nodes) (key, node)
    ((Contains-entries nodes key node).1 is) (ap not mark))

module _ {levels next : ℕ} {free : List ℕ} {capacity : ℕ} {old : Slab StoredNode} (have : HasVariables levels next free capacity old)
    (apart : AreApart old) (marks : List Bool) where
  -- those that were free and those that are free now all differ
  pub distinct_free : IsDistinct nat_eq (free ++ freed marks old)
  distinct_free =
      distinct_append free (freed marks old) (distinct_falling free have.falling)
      (distinct_numbers marks variable_of old (λ a b first second same.
      apart a.0 b.0 a.1 b.1 (entry_unmarked marks old a first).0 (entry_unmarked marks old b second).0 same))
      (λ n among also. let was = is_freed marks old n also in have.unowned was.key was.node was.stands
      (subst (Contains free) (sym was.own) among))

  module _ (after : List ℕ) (new : Slab StoredNode) (kept : KeepsMarked marks old new)
      (permutation : IsPermutation (free ++ freed marks old) after) where
    free_cases : (variable : ℕ) → Contains after variable → Contains free variable ⊎ IsFreed marks old variable
    free_cases variable among =
        elim (Contains-append_cases free (freed marks old) variable
        (Contains-permutation after (free ++ freed marks old) variable
        (IsPermutation-sym (free ++ freed marks old) after permutation) among)) [
          | inl before ↦ inl before
          | inr given ↦ inr (is_freed marks old variable given)
        ]

    free_after : (variable : ℕ) → Contains (free ++ freed marks old) variable → Contains after variable
    free_after variable among = Contains-permutation (free ++ freed marks old) after variable permutation among

    within_after : (variable : ℕ) → Contains after variable → (levels < variable) × (variable < next)
    within_after variable among = elim (free_cases variable among) [
      | inl before ↦ have.within variable before
      | inr given ↦ subst (λ v. (levels < v) × (v < next)) given.own (have.stored given.key given.node given.stands)
    ]

    unowned_after : (key : ℕ) (node : StoredNode) → get new key ≡ Some node → Contains after node.variable → ⊥
    unowned_after key node is among =
        let was = left_over marks old new kept key node is in
        elim (free_cases node.variable among) [
          | inl before ↦ have.unowned key node was.1 before
          | inr given ↦
              let same : given.key ≡ key = apart given.key key given.node node given.stands was.1 given.own in
              let both : false ≡ true = sym given.mark ∙ ap (λ k. get_or marks k false) same ∙ was.0 in cc
        ]

    covered_after : (variable : ℕ) → levels < variable → variable < next → Contains after variable ⊎ IsStoredAs new variable
    covered_after variable above below = elim (have.covered variable above below) [
      | inl before ↦ inl (free_after variable (Contains-append_left free (freed marks old) variable before))
      | inr is ↦ elim (get_or marks is.key false) as (λ b. get_or marks is.key false ≡ b → Contains after variable
          ⊎ IsStoredAs new variable) [
            | true ↦ λ mark. inr (record {
              key = is.key;
              node = is.node;
              stands = kept_marked marks old new kept is.key mark
                  ∙ is.stands;
              own = is.own;
            })
            | false ↦ λ mark. inl (free_after variable (Contains-append_right free (freed marks old) variable
                (subst (Contains (freed marks old)) is.own (among_freed marks old is.key is.node is.stands mark))))
          ] refl
    ]

    -- once they were given back they are free
    pub HasVariables-swept : IsFalling after → slab_len new + length (freed marks old) ≡ slab_len old → (wider : ℕ) → capacity ≤ wider
        → HasVariables levels next after wider new
    HasVariables-swept falling fewer wider no_less = record {
      stored = λ key node is. have.stored key node (left_over marks old new kept key node is).1;
      falling = falling;
      within = within_after;
      unowned = unowned_after;
      covered = covered_after;
      counted = omega (
        arith,
        have.counted,
        fewer,
        length_permutation (free ++ freed marks old) after permutation,
        length-append free (freed marks old),
      );
      few = have.few;
      room = omega (arith, have.room, no_less);
    }
