-- The unit of a conjunction that is neither operand, and of what another node implies.
use Rattle.std.proofs.Common.{◌≡◌, ◌≢◌, ℕ, zero, suc, ◌<◌, ◌==◌, Bool, true, false, not, ◌&&◌, ◌||◌, ℤ, pos, neg_ℤ, nat_abs, List, [], ◌∷◌}
use Rattle.std.proofs.Common.{Option, None, Some, is_some, refl, sym, ap, ◌∙◌, subst, arith, inl, inr, ne_eqb}
use Rattle.std.specs.Prelude.{IsTrue, IsFalse, nat_lt}
use Rattle.std.specs.List.{list_any}
use Rattle.std.specs.Ordering.{int_eq}
use Rattle.std.proofs.lemmas.Bool.{and_from, cases_Bool, lt-ltb}
use Rattle.std.proofs.lemmas.Bool.Decides.{Decides-int_eq}
use Rattle.lrat_rules.specs.State.{Live, clause_at}
use Rattle.lrat_rules.specs.Strict.{RefutesStrictly}
use Rattle.hint_chain.specs.declared.atom.Atom.{Atom}
use Rattle.hint_chain.specs.declared.atom.Atom.TheVariants.{Never, Of}
use Rattle.hint_chain.specs.Atoms.{clause_from_atoms, is_trivial}
use Rattle.hint_chain.specs.Additions.{conjunction, implication}
use Rattle.hint_chain.specs.Closing.{are_apart, are_among}
use Rattle.node_table.specs.declared.node.Node.{Node}
use Rattle.node_table.specs.declared.node.Node.TheVariants.{False, True, Inner}
use Rattle.node_table.specs.declared.node.NodeKey.{NodeKey}
use Rattle.node_table.specs.declared.node.Branch.{Branch}
use Rattle.node_table.specs.declared.node.Justification.{Justification}
use Rattle.node_table.specs.declared.node.Justification.TheVariants.{Trivial, Clause}
use Rattle.node_table.specs.Diagram.{Graph, IsReduced, branch_at, is_node}
use Rattle.node_table.specs.Value.{value_of}
use Rattle.node_table.specs.Defined.{atom_of, atom_in}
use Rattle.node_table.specs.Justification.{IsJustified}
use Rattle.node_table.specs.Laws.{Canonical}
use Rattle.operations.specs.Results.{Conjoined, Implied, conjunction_atoms, implication_atoms}
use Rattle.bdd_terms.proofs.Listed.{some_of}

-- an inner node, with its branch
pub record IsInner (graph : Graph) (node : Node) : Type 0 where
  pub key : NodeKey
  pub branch : Branch
  pub named : node ≡ Inner key
  pub stands : branch_at graph key.index ≡ Some branch
  pub atom : atom_of graph node ≡ Of (pos branch.variable)

pub not_both : (b : Bool) → b ≡ true → b ≡ false → ⊥
not_both b holds fails = cc

pub inner_of : (graph : Graph) (node : Node) → is_node graph node ≡ true → node ≢ False → node ≢ True → IsInner graph node
inner_of graph False is not_false not_true = absurd (not_false refl)
inner_of graph True is not_false not_true = absurd (not_true refl)
inner_of graph (Inner key) is not_false not_true =
    let found = some_of (branch_at graph key.index) is in
    record { key = key; branch = found.0; named = refl; stands = found.1; atom = ap atom_in found.1 }

pub above_zero : (graph : Graph) → IsReduced graph → (node : Node) (inner : IsInner graph node) → 0 < inner.branch.variable
above_zero graph reduced node inner = omega (arith, reduced.above inner.key.index inner.branch inner.stands)

-- where two inner nodes differ, so do their variables
pub apart_of : (graph : Graph) → IsReduced graph → (u v : Node) (one : IsInner graph u) (other : IsInner graph v) → u ≢ v
    → one.branch.variable ≢ other.branch.variable
apart_of graph reduced u v one other differ same =
    differ (one.named ∙ (λ k. Inner
    (record { index = reduced.apart one.key.index other.key.index one.branch other.branch one.stands other.stands same k }))
    ∙ sym other.named)

and_true_left : (b c : Bool) → (b && c) ≡ true → b ≡ true
and_true_left true c e = refl
and_true_left false c e = cc

and_same : (b : Bool) → (b && true) ≡ b
and_same true = refl
and_same false = refl

module _ (canonical : Canonical) (graph : Graph) (reduced : IsReduced graph) (live : Live) (u v w : Node) (just : Justification)
    (is_u : is_node graph u ≡ true) (is_v : is_node graph v ≡ true)
    (conjoined : Conjoined graph live u v w just) where
  pub first_not_true : w ≢ v → u ≢ True
  first_not_true differ is = differ (canonical graph reduced w v conjoined.stands is_v (λ a. conjoined.value a
      ∙ (λ k. value_of graph a (is k) && value_of graph a v)))

  pub second_not_true : w ≢ u → v ≢ True
  second_not_true differ is = differ (canonical graph reduced w u conjoined.stands is_u (λ a. conjoined.value a
      ∙ (λ k. value_of graph a u && value_of graph a (is k)) ∙ and_same (value_of graph a u)))

  pub not_true : w ≢ u → w ≢ True
  not_true differ is =
      differ (is ∙ sym (canonical graph reduced u True is_u refl
      (λ a. and_true_left (value_of graph a u) (value_of graph a v) (sym (conjoined.value a) ∙ (λ k. value_of graph a (is k))))))

-- the unit of an inner node is a live clause
pub unit_given : (live : Live) (x : ℤ) (unit : Justification) → IsJustified live (Of x ∷ []) unit → unit ≢ Trivial
unit_given live x Trivial is same = let e : false ≡ true = is in cc
unit_given live x (Clause id) is same = cc

pub unit_stands : (live : Live) (x : ℤ) (id : ℕ) → IsJustified live (Of x ∷ []) (Clause id) → clause_at live id ≡ Some (x ∷ [])
unit_stands live x id is = is.1

-- literals of different variables above 0
differs : (n m : ℕ) → n ≢ m → (n == m) ≡ false
differs n m e = ne_eqb n m e

nonzero_apart : (n : ℕ) → 0 < n → (rest : List ℤ) → list_any (λ y. n == nat_abs y) rest ≡ false → are_apart rest ≡ true
    → are_apart (pos n ∷ rest) ≡ true
nonzero_apart n some rest apart more =
    and_from (nat_lt 0 n && not (list_any (λ y. n == nat_abs y) rest)) (are_apart rest)
    (and_from (nat_lt 0 n) (not (list_any (λ y. n == nat_abs y) rest)) (lt-ltb 0 n some) (ap not apart)) more

two_apart : (a b : ℕ) → 0 < a → 0 < b → a ≢ b → are_apart (pos a ∷ pos b ∷ []) ≡ true
two_apart a b pa pb ab = nonzero_apart a pa (pos b ∷ []) ((λ k. differs a b ab k || false)) (nonzero_apart b pb [] refl refl)

pub three_apart : (a b c : ℕ) → 0 < a → 0 < b → 0 < c → a ≢ b → a ≢ c → b ≢ c → are_apart (pos a ∷ pos b ∷ pos c ∷ []) ≡ true
three_apart a b c pa pb pc ab ac bc = nonzero_apart a pa (pos b ∷ pos c ∷ []) (λ k. differs a b ab k
    || (differs a c ac k || false)) (two_apart b c pb pc bc)

-- the clause of a node alone, and of which variables it and the operands' are
pub are_apart_of : (graph : Graph) → IsReduced graph → (u v w : Node) (one : IsInner graph u) (other : IsInner graph v) → is_node graph w
    ≡ true → u ≢ v → w ≢ u → w ≢ v → w ≢ True
    → (clause : List ℤ) → clause_from_atoms (atom_of graph w ∷ []) ≡ Some clause
    → are_apart (pos one.branch.variable ∷ pos other.branch.variable ∷ clause) ≡ true
are_apart_of graph reduced u v False one other is_w uv wu wv some clause at =
    subst (λ (c : List ℤ). are_apart (pos one.branch.variable ∷ pos other.branch.variable ∷ c) ≡ true) (inside [] clause at)
    (two_apart _ _ (above_zero graph reduced u one) (above_zero graph reduced v other) (apart_of graph reduced u v one other uv))
  where
    inside : (x y : List ℤ) → Some x ≡ Some y → x ≡ y
    inside x y e = cc
are_apart_of graph reduced u v True one other is_w uv wu wv some clause at = absurd (some refl)
are_apart_of graph reduced u v (Inner key) one other is_w uv wu wv some clause at =
    let own = inner_of graph (Inner key) is_w (λ e. cc) (λ e. cc) in
    subst (λ (c : List ℤ). are_apart (pos one.branch.variable ∷ pos other.branch.variable ∷ c)
    ≡ true) (inside _ clause (sym (ap (λ (x : Atom). clause_from_atoms (x ∷ [])) own.atom) ∙ at))
    (three_apart _ _ _ (above_zero graph reduced u one) (above_zero graph reduced v other) (above_zero graph reduced (Inner key) own)
    (apart_of graph reduced u v one other uv) (apart_of graph reduced u (Inner key) one own (λ e. wu (sym e)))
    (apart_of graph reduced v (Inner key) other own (λ e. wv (sym e))))
  where
    inside : (x y : List ℤ) → Some x ≡ Some y → x ≡ y
    inside x y e = cc

-- the conjunction's clause isn't true by itself
opposite_pos : (a c : ℕ) → 0 < a → a ≢ c → int_eq (neg_ℤ (neg_ℤ (pos a))) (pos c) ≡ false
opposite_pos zero c some differ = absurd (omega (arith, some))
opposite_pos (suc a) c some differ = elim (cases_Bool (int_eq (pos (suc a)) (pos c))) [
  | inl same ↦ absurd (differ (inside (suc a) c ((Decides-int_eq (pos (suc a)) (pos c)).0 same)))
  | inr other ↦ other
]
  where
    inside : (x y : ℕ) → pos x ≡ pos y → x ≡ y
    inside x y e = cc

opposite_neg : (a b : ℕ) → 0 < a → 0 < b → int_eq (neg_ℤ (neg_ℤ (pos a))) (neg_ℤ (pos b)) ≡ false
opposite_neg zero b some other = absurd (omega (arith, some))
opposite_neg (suc a) zero some other = absurd (omega (arith, other))
opposite_neg (suc a) (suc b) some other = refl

with_never : (a b : ℕ) → 0 < a → 0 < b → is_trivial (conjunction (Of (pos a)) (Of (pos b)) Never) ≡ false
with_never a b pa pb = (λ k. (opposite_neg a b pa pb k || false) || false)

with_other : (a b c : ℕ) → 0 < a → 0 < b → a ≢ c → b ≢ c → is_trivial (conjunction (Of (pos a)) (Of (pos b)) (Of (pos c))) ≡ false
with_other a b c pa pb ac bc = (λ k. (opposite_neg a b pa pb k || (opposite_pos a c pa ac k || false))
    || ((opposite_pos b c pb bc k || false) || false))

pub not_trivial : (graph : Graph) → IsReduced graph → (u v w : Node) (one : IsInner graph u) (other : IsInner graph v) → is_node graph w
    ≡ true → w ≢ u → w ≢ v → w ≢ True
    → is_trivial (conjunction_atoms graph u v w) ≡ false
not_trivial graph reduced u v False one other is_w wu wv some =
    (λ k. is_trivial (conjunction (one.atom k) (other.atom k) Never))
    ∙ with_never _ _ (above_zero graph reduced u one) (above_zero graph reduced v other)
not_trivial graph reduced u v True one other is_w wu wv some = absurd (some refl)
not_trivial graph reduced u v (Inner key) one other is_w wu wv some =
    let own = inner_of graph (Inner key) is_w (λ e. cc) (λ e. cc) in
    (λ k. is_trivial (conjunction (one.atom k) (other.atom k) (own.atom k)))
    ∙ with_other _ _ _ (above_zero graph reduced u one) (above_zero graph reduced v other)
    (apart_of graph reduced u (Inner key) one own (λ e. wu (sym e))) (apart_of graph reduced v (Inner key) other own (λ e. wv (sym e)))

pub just_given : (live : Live) (atoms : List Atom) (just : Justification) → is_trivial atoms ≡ false → IsJustified live atoms just → just ≢ Trivial
just_given live atoms Trivial none is same = let e : true ≡ false = sym is ∙ none in cc
just_given live atoms (Clause id) none is same = cc

abbrev pub Among : Type 0
Among = (atoms : List Atom) (clause : List ℤ) → clause_from_atoms atoms ≡ Some clause → IsTrue (are_among atoms clause)

abbrev pub Given : Type 0
Given = (atoms : List Atom) → IsFalse (is_trivial atoms) → IsTrue (is_some (clause_from_atoms atoms))

abbrev pub Follows : Type 0
Follows = (live : Live) (u v : ℤ) (w : Atom) (clause justified : List ℤ) (unit_u unit_v id : ℕ) → clause_from_atoms (w ∷ []) ≡ Some clause
    → IsTrue (are_apart (u ∷ v ∷ clause))
    → clause_at live unit_u ≡ Some (u ∷ []) → clause_at live unit_v ≡ Some (v ∷ []) → clause_at live id ≡ Some justified
    → IsTrue (are_among (conjunction (Of u) (Of v) w) justified)
    → RefutesStrictly live clause (unit_u ∷ unit_v ∷ id ∷ [])

and_twice : (b : Bool) → (b && b) ≡ b
and_twice true = refl
and_twice false = refl

clause_from : (o : Option (List ℤ)) → is_some o ≡ true → (clause : List ℤ) × (o ≡ Some clause)
clause_from None is = absurd (let e : false ≡ true = is in cc)
clause_from (Some clause) is = (clause, refl)

-- the conjunction is neither operand, and no operand is False
module _ (canonical : Canonical) (graph : Graph) (reduced : IsReduced graph) (live : Live) (u v w : Node) (just : Justification)
    (is_u : is_node graph u ≡ true) (is_v : is_node graph v ≡ true)
    (conjoined : Conjoined graph live u v w just) (some_u : u ≢ False) (some_v : v ≢ False) (wu : w ≢ u) (wv : w ≢ v) where
  one : IsInner graph u
  one = inner_of graph u is_u some_u (first_not_true canonical graph reduced live u v w just is_u is_v conjoined wv)

  other : IsInner graph v
  other = inner_of graph v is_v some_v (second_not_true canonical graph reduced live u v w just is_u is_v conjoined wu)

  operands_differ : u ≢ v
  operands_differ same =
      wu (canonical graph reduced w u conjoined.stands is_u (λ a. conjoined.value a
      ∙ (λ k. value_of graph a u && value_of graph a (sym same k)) ∙ and_twice (value_of graph a u)))

  open_w : w ≢ True
  open_w = not_true canonical graph reduced live u v w just is_u is_v conjoined wu

  pub first_named : (unit : Justification) → IsJustified live (atom_of graph u ∷ []) unit → unit ≢ Trivial
  first_named unit proved = unit_given live (pos one.branch.variable) unit
      (subst (λ (x : Atom). IsJustified live (x ∷ []) unit) one.atom proved)

  pub second_named : (unit : Justification) → IsJustified live (atom_of graph v ∷ []) unit → unit ≢ Trivial
  second_named unit proved = unit_given live (pos other.branch.variable) unit
      (subst (λ (x : Atom). IsJustified live (x ∷ []) unit) other.atom proved)

  pub just_named : just ≢ Trivial
  just_named = just_given live (conjunction_atoms graph u v w) just
      (not_trivial graph reduced u v w one other conjoined.stands wu wv open_w) conjoined.justified

  pub unit_refuted : Among → Given → Follows → (first second both : ℕ) → IsJustified live (atom_of graph u ∷ []) (Clause first)
      → IsJustified live (atom_of graph v ∷ []) (Clause second)
      → IsJustified live (conjunction_atoms graph u v w) (Clause both) → (clause : List ℤ) → clause_from_atoms (atom_of graph w ∷ []) ≡ Some clause
      → RefutesStrictly live clause (first ∷ second ∷ both ∷ [])
  unit_refuted among given follows first second both unit_u unit_v proved clause at =
      let atoms = conjunction_atoms graph u v w in
      let found = clause_from (clause_from_atoms atoms) (given atoms proved.0) in
      let within : are_among (conjunction (Of (pos one.branch.variable)) (Of (pos other.branch.variable)) (atom_of graph w)) found.0
      ≡ true =
      subst (λ (x : Atom). are_among (conjunction x (Of (pos other.branch.variable)) (atom_of graph w)) found.0 ≡ true) one.atom
      (subst (λ (y : Atom). are_among (conjunction (atom_of graph u) y (atom_of graph w)) found.0
      ≡ true) other.atom (among atoms found.0 found.1)) in
      follows live (pos one.branch.variable) (pos other.branch.variable) (atom_of graph w) clause found.0 first second both at
      (are_apart_of graph reduced u v w one other conjoined.stands operands_differ wu wv open_w clause at)
      (unit_stands live (pos one.branch.variable) first (subst (λ (x : Atom). IsJustified live (x ∷ []) (Clause first)) one.atom unit_u))
      (unit_stands live (pos other.branch.variable) second (subst
      (λ (x : Atom). IsJustified live (x ∷ []) (Clause second)) other.atom unit_v))
      (proved.1 ∙ found.1) within

-- What a node implies is another one, and isn't True; and the node isn't False.
abbrev pub FollowsOne : Type 0
FollowsOne = (live : Live) (u : ℤ) (w : Atom) (clause justified : List ℤ) (unit_u id : ℕ) → clause_from_atoms (w ∷ []) ≡ Some clause
    → IsTrue (are_apart (u ∷ clause))
    → clause_at live unit_u ≡ Some (u ∷ []) → clause_at live id ≡ Some justified → IsTrue (are_among (implication (Of u) w) justified)
    → RefutesStrictly live clause (unit_u ∷ id ∷ [])

implied_apart : (graph : Graph) → IsReduced graph → (u w : Node) (one : IsInner graph u) → is_node graph w ≡ true → w ≢ u → w ≢ True
    → (clause : List ℤ) → clause_from_atoms (atom_of graph w ∷ []) ≡ Some clause → are_apart (pos one.branch.variable ∷ clause) ≡ true
implied_apart graph reduced u False one is_w wu some clause at =
    subst (λ (c : List ℤ). are_apart (pos one.branch.variable ∷ c)
    ≡ true) (inside [] clause at) (nonzero_apart _ (above_zero graph reduced u one) [] refl refl)
  where
    inside : (x y : List ℤ) → Some x ≡ Some y → x ≡ y
    inside x y e = cc
implied_apart graph reduced u True one is_w wu some clause at = absurd (some refl)
implied_apart graph reduced u (Inner key) one is_w wu some clause at =
    let own = inner_of graph (Inner key) is_w (λ e. cc) (λ e. cc) in
    subst (λ (c : List ℤ). are_apart (pos one.branch.variable ∷ c)
    ≡ true) (inside _ clause (sym (ap (λ (x : Atom). clause_from_atoms (x ∷ [])) own.atom) ∙ at))
    (two_apart _ _ (above_zero graph reduced u one) (above_zero graph reduced (Inner key) own)
    (apart_of graph reduced u (Inner key) one own (λ e. wu (sym e))))
  where
    inside : (x y : List ℤ) → Some x ≡ Some y → x ≡ y
    inside x y e = cc

implied_open : (graph : Graph) → IsReduced graph → (u w : Node) (one : IsInner graph u) → is_node graph w ≡ true → w ≢ u → w ≢ True
    → is_trivial (implication_atoms graph u w) ≡ false
implied_open graph reduced u False one is_w wu some = λ k. is_trivial (implication (one.atom k) Never)
implied_open graph reduced u True one is_w wu some = absurd (some refl)
implied_open graph reduced u (Inner key) one is_w wu some =
    let own = inner_of graph (Inner key) is_w (λ e. cc) (λ e. cc) in
    (λ k. is_trivial (implication (one.atom k) (own.atom k)))
    ∙ (λ k. (opposite_pos _ _ (above_zero graph reduced u one) (apart_of graph reduced u (Inner key) one own (λ e. wu (sym e))) k || false)
    || false)

module _ (canonical : Canonical) (graph : Graph) (reduced : IsReduced graph) (live : Live) (u w : Node) (just : Justification)
    (is_u : is_node graph u ≡ true) (is_w : is_node graph w ≡ true)
    (implied : Implied graph live u w just) (some_u : u ≢ False) (wu : w ≢ u) (open_w : w ≢ True) where
  implying : IsInner graph u
  implying = inner_of graph u is_u some_u (λ is. open_w (canonical graph reduced w True is_w refl
      (λ a. implied.value a (λ k. value_of graph a (is k)))))

  pub implying_named : (unit : Justification) → IsJustified live (atom_of graph u ∷ []) unit → unit ≢ Trivial
  implying_named unit proved = unit_given live (pos implying.branch.variable) unit
      (subst (λ (x : Atom). IsJustified live (x ∷ []) unit) implying.atom proved)

  pub implication_named : just ≢ Trivial
  implication_named = just_given live (implication_atoms graph u w) just
      (implied_open graph reduced u w implying is_w wu open_w) implied.justified

  pub implied_refuted : Among → Given → FollowsOne → (first id : ℕ) → IsJustified live (atom_of graph u ∷ []) (Clause first)
      → IsJustified live (implication_atoms graph u w) (Clause id)
      → (clause : List ℤ) → clause_from_atoms (atom_of graph w ∷ []) ≡ Some clause → RefutesStrictly live clause (first ∷ id ∷ [])
  implied_refuted among given follows first id unit_u proved clause at =
      let atoms = implication_atoms graph u w in
      let found = clause_from (clause_from_atoms atoms) (given atoms proved.0) in
      follows live (pos implying.branch.variable) (atom_of graph w) clause found.0 first id at
      (implied_apart graph reduced u w implying is_w wu open_w clause at)
      (unit_stands live (pos implying.branch.variable) first (subst
      (λ (x : Atom). IsJustified live (x ∷ []) (Clause first)) implying.atom unit_u))
      (proved.1 ∙ found.1)
      (subst (λ (x : Atom). are_among (implication x (atom_of graph w)) found.0 ≡ true) implying.atom (among atoms found.0 found.1))
