-- The terms that are out, and those in hand: the same ones, however they are listed.
use Rattle.std.proofs.Common.{◌≡◌, ◌≢◌, ◌⊎◌, ◌∙◌, ◌<◌, ◌≤◌, ◌+◌, ◌++◌, ◌&&◌, ℕ, zero, suc, Bool, true, false, cond, List, [], ◌∷◌, Contains}
use Rattle.std.proofs.Common.{length}
use Rattle.std.proofs.Common.{refl, ap, arith, inl, inr}
use Rattle.std.specs.Prelude.{◌==◌, slice_index_or}
use Rattle.std.specs.List.{count_by}
use Rattle.std.proofs.lemmas.Bool.{and_parts, cases_Bool, cond-true, cond-false}
use Rattle.std.proofs.lemmas.Bool.Decides.{Decides-eqb}
use Rattle.std.proofs.lemmas.List.Sums.{sum_by-append, sum_by-cons}
use Rattle.node_table.specs.declared.node.Node.{Node}
use Rattle.node_table.specs.declared.node.Node.TheVariants.{False, True, Inner}
use Rattle.node_table.specs.declared.node.NodeKey.{NodeKey}
use Rattle.node_table.specs.declared.node.Justification.{Justification}
use Rattle.node_table.specs.declared.node.Justification.TheVariants.{Clause, Trivial}
use Rattle.bdd_terms.specs.declared.held.HeldTerm.{HeldTerm}
use Rattle.bdd_terms.specs.Runner.{IsListed, IsWithout, true_term}
use Rattle.parity_terms.specs.Owned.{Owns, takes_place}

-- counting, one by one
module _ (is_one : HeldTerm → Bool) where
  pub count_cons : (held : HeldTerm) (terms : List HeldTerm)
      → count_by is_one (held ∷ terms) ≡ cond (is_one held) 1 0 + count_by is_one terms
  count_cons held terms = sum_by-cons (λ x. cond (is_one x) 1 0) held terms

  pub count_append : (front behind : List HeldTerm)
      → count_by is_one (front ++ behind) ≡ count_by is_one front + count_by is_one behind
  count_append front behind = sum_by-append (λ x. cond (is_one x) 1 0) front behind

  count_true : (held : HeldTerm) (terms : List HeldTerm) → is_one held ≡ true
      → count_by is_one (held ∷ terms) ≡ suc (count_by is_one terms)
  count_true held terms is =
      let one = count_cons held terms in let at = cond-true {A = ℕ} (is_one held) 1 0 is in omega (arith, one, at)

  count_false : (held : HeldTerm) (terms : List HeldTerm) → is_one held ≡ false
      → count_by is_one (held ∷ terms) ≡ count_by is_one terms
  count_false held terms is =
      let one = count_cons held terms in let at = cond-false {A = ℕ} (is_one held) 1 0 is in omega (arith, one, at)

  -- one that is there counts
  counted : (terms : List HeldTerm) (k : ℕ) (held : HeldTerm) → k < length terms → slice_index_or terms k held ≡ held
      → is_one held ≡ true → 1 ≤ count_by is_one terms
  counted [] k held small at is = absurd (omega (arith, small))
  counted (first ∷ more) zero held small at is =
      let whole = count_true first more (ap is_one at ∙ is) in omega (arith, whole)
  counted (first ∷ more) (suc k) held small at is =
      let rest = counted more k held (omega (arith, small)) at is in
      let whole = count_cons first more in
      omega (arith, rest, whole)

  -- what counts is there
  pub there : (held : HeldTerm) → ((other : HeldTerm) → is_one other ≡ true → other ≡ held) → (terms : List HeldTerm)
      → 1 ≤ count_by is_one terms → Contains terms held
  there held only [] some = absurd (omega (arith, some))
  there held only (first ∷ more) some = elim (cases_Bool (is_one first)) [
    | inl is ↦ (0, omega arith, only first is)
    | inr other ↦
        let whole = count_false first more other in
        let rest = there held only more (omega (arith, some, whole)) in
        (suc rest.0, omega (arith, rest.1), rest.2)
  ]

  -- none counts where all do
  none_counts : ((held : HeldTerm) → is_one held ≡ true) → (terms : List HeldTerm) → 0 ≡ count_by is_one terms → length terms ≡ 0
  none_counts all [] none = refl
  none_counts all (first ∷ more) none = absurd (let whole = count_true first more (all first) in omega (arith, whole, none))

-- a test for one term
abbrev same_node : Node → Node → Bool
same_node False False = true
same_node False True = false
same_node False (Inner key) = false
same_node True False = false
same_node True True = true
same_node True (Inner key) = false
same_node (Inner one) False = false
same_node (Inner one) True = false
same_node (Inner one) (Inner other) = one.index == other.index

abbrev same_unit : Justification → Justification → Bool
same_unit Trivial Trivial = true
same_unit Trivial (Clause id) = false
same_unit (Clause id) Trivial = false
same_unit (Clause one) (Clause other) = one == other

abbrev is_this : HeldTerm → HeldTerm → Bool
is_this held other = same_node other.node held.node && same_unit other.unit held.unit

node_itself : (node : Node) → same_node node node ≡ true
node_itself False = refl
node_itself True = refl
node_itself (Inner key) = (Decides-eqb key.index key.index).1 refl

unit_itself : (unit : Justification) → same_unit unit unit ≡ true
unit_itself Trivial = refl
unit_itself (Clause id) = (Decides-eqb id id).1 refl

inner_is : (one other : NodeKey) → one.index ≡ other.index → Inner one ≡ Inner other
inner_is one other same = λ i. Inner (record { index = same i })

node_is : (one other : Node) → same_node one other ≡ true → one ≡ other
node_is False False is = refl
node_is False True is = absurd (let e : false ≡ true = is in cc)
node_is False (Inner key) is = absurd (let e : false ≡ true = is in cc)
node_is True False is = absurd (let e : false ≡ true = is in cc)
node_is True True is = refl
node_is True (Inner key) is = absurd (let e : false ≡ true = is in cc)
node_is (Inner one) False is = absurd (let e : false ≡ true = is in cc)
node_is (Inner one) True is = absurd (let e : false ≡ true = is in cc)
node_is (Inner one) (Inner other) is = inner_is one other ((Decides-eqb one.index other.index).0 is)

unit_is : (one other : Justification) → same_unit one other ≡ true → one ≡ other
unit_is Trivial Trivial is = refl
unit_is Trivial (Clause id) is = absurd (let e : false ≡ true = is in cc)
unit_is (Clause id) Trivial is = absurd (let e : false ≡ true = is in cc)
unit_is (Clause one) (Clause other) is = ap Clause ((Decides-eqb one other).0 is)

this_itself : (held : HeldTerm) → is_this held held ≡ true
this_itself held = ap (λ b. b && same_unit held.unit held.unit) (node_itself held.node) ∙ unit_itself held.unit

this_is : (held other : HeldTerm) → is_this held other ≡ true → other ≡ held
this_is held other is =
    let parts = and_parts (same_node other.node held.node) (same_unit other.unit held.unit) is in
    (λ i. record { node = node_is other.node held.node parts.0 i; unit = unit_is other.unit held.unit parts.1 i })

-- whether a term takes a place
not_true : (node : Node) (unit : Justification) → node ≢ True → takes_place node unit ≡ true
not_true False unit other = refl
not_true True unit other = absurd (other refl)
not_true (Inner key) unit other = refl

is_true : (held : HeldTerm) → takes_place held.node held.unit ≡ false → held ≡ true_term
is_true held none = go held.node held.unit refl refl none
  where
    go : (node : Node) (unit : Justification) → held.node ≡ node → held.unit ≡ unit → takes_place node unit ≡ false → held ≡ true_term
    go False unit at at_unit none = absurd (let e : true ≡ false = none in cc)
    go True Trivial at at_unit none = λ i. record { node = at i; unit = at_unit i }
    go True (Clause id) at at_unit none = absurd (let e : true ≡ false = none in cc)
    go (Inner key) unit at at_unit none = absurd (let e : true ≡ false = none in cc)

abbrev owning : (HeldTerm → Bool) → HeldTerm → Bool
owning is_one held = takes_place held.node held.unit && is_one held

-- a term that is out is owned
pub owned_there : (held : HeldTerm) (terms out : List HeldTerm) → Owns terms out → Contains out held → Contains terms held
owned_there held terms out owns among =
    let some = counted (is_this held) out among.0 held among.1 among.2 (this_itself held) in
    let same = owns (is_this held) in
    there (owning (is_this held)) held (λ other is. this_is held other (and_parts (takes_place other.node other.unit) (is_this held other)
    is).1)
    terms (omega (arith, some, same))

-- a term that is owned is out, or True
pub owned_good : (held : HeldTerm) (terms out : List HeldTerm) → Owns terms out → Contains terms held
    → (held ≡ true_term) ⊎ Contains out held
owned_good held terms out owns among = elim (cases_Bool (takes_place held.node held.unit)) [
  | inl takes ↦ inr (
      let some = counted (owning (is_this held)) terms among.0 held among.1 among.2
      (ap (λ b. b && is_this held held) takes ∙ this_itself held) in
      let same = owns (is_this held) in
      there (is_this held) held (this_is held) out (omega (arith, some, same)))
  | inr none ↦ inl (is_true held none)
]

-- the last one is owned as the first one is
pub owns_last : (held : HeldTerm) (terms out : List HeldTerm) → Owns (terms ++ held ∷ []) out → Owns (held ∷ terms) out
owns_last held terms out owns is_one =
    let same = owns is_one in
    let parts = count_append (owning is_one) terms (held ∷ []) in
    let one = count_cons (owning is_one) held [] in
    let whole = count_cons (owning is_one) held terms in
    omega (arith, same, parts, one, whole)

pub owns_with : (held : HeldTerm) (terms out : List HeldTerm) → Owns (held ∷ terms) out → Owns (terms ++ held ∷ []) out
owns_with held terms out owns is_one =
    let same = owns is_one in
    let parts = count_append (owning is_one) terms (held ∷ []) in
    let one = count_cons (owning is_one) held [] in
    let whole = count_cons (owning is_one) held terms in
    omega (arith, same, parts, one, whole)

-- none is owned where none is out
pub owns_none : (out : List HeldTerm) → Owns [] out → length out ≡ 0
owns_none out owns = none_counts (λ held. true) (λ held. refl) out (owns (λ held. true))

pub none_owned : (out : List HeldTerm) → length out ≡ 0 → Owns [] out
none_owned [] none is_one = refl
none_owned (first ∷ more) none is_one = absurd (omega (arith, none))

-- a term that is given is owned
pub owns_given : (held : HeldTerm) (terms before after : List HeldTerm) → Owns terms before → IsListed before after held
    → Owns (held ∷ terms) after
owns_given held terms before after owns (inl listed) is_one =
    let same = owns is_one in
    let whole = count_cons (owning is_one) held terms in
    let none = cond-false {A = ℕ} (owning is_one held) 1 0
    (ap (λ (h : HeldTerm). owning is_one h) listed.0) in
    let kept : count_by is_one after ≡ count_by is_one before = ap (λ (l : List HeldTerm). count_by is_one l) listed.1 in
    omega (arith, same, whole, none, kept)
owns_given held terms before after owns (inr listed) is_one =
    let same = owns is_one in
    let whole = count_cons (owning is_one) held terms in
    let takes = ap (λ b. cond {A = ℕ} (b && is_one held) 1 0) (not_true held.node held.unit listed.0) in
    let kept : count_by is_one after ≡ count_by is_one (before ++ held ∷ []) = ap (λ (l : List HeldTerm). count_by is_one l) listed.1 in
    let parts = count_append is_one before (held ∷ []) in
    let one = count_cons is_one held [] in
    omega (arith, same, whole, takes, kept, parts, one)

-- a term that is released is owned no more
pub owns_released : (held : HeldTerm) (terms before after : List HeldTerm) → Owns (held ∷ terms) before
    → ((held ≡ true_term) × (after ≡ before)) ⊎ ((held.node ≢ True) × IsWithout held before after) → Owns terms after
owns_released held terms before after owns (inl out) is_one =
    let same = owns is_one in
    let whole = count_cons (owning is_one) held terms in
    let none = cond-false {A = ℕ} (owning is_one held) 1 0
    (ap (λ (h : HeldTerm). owning is_one h) out.0) in
    let kept : count_by is_one after ≡ count_by is_one before = ap (λ (l : List HeldTerm). count_by is_one l) out.1 in
    omega (arith, same, whole, none, kept)
owns_released held terms before after owns (inr out) is_one =
    let same = owns is_one in
    let whole = count_cons (owning is_one) held terms in
    let takes = ap (λ b. cond {A = ℕ} (b && is_one held) 1 0) (not_true held.node held.unit out.0) in
    let was : count_by is_one before ≡ count_by is_one (out.1.front ++ held ∷ out.1.behind) =
    ap (λ (l : List HeldTerm). count_by is_one l) out.1.was in
    let is : count_by is_one after ≡ count_by is_one (out.1.front ++ out.1.behind) =
    ap (λ (l : List HeldTerm). count_by is_one l) out.1.is in
    let parts = count_append is_one out.1.front (held ∷ out.1.behind) in
    let one = count_cons is_one held out.1.behind in
    let left = count_append is_one out.1.front out.1.behind in
    omega (arith, same, whole, takes, was, is, parts, one, left)
