-- Pairs of operands: when they are the same, how many of them there are, and those of two lists of nodes.
use Rattle.std.proofs.Common.{◌≡◌, ◌∙◌, ◌≤◌, ◌<◌, ◌*◌, ◌++◌, ◌||◌, zero, suc, Bool, true, false, List, [], ◌∷◌, length, map, Contains, refl}
use Rattle.std.proofs.Common.{sym, ap, eq-eqb, subst, arith, inl, inr}
use Rattle.std.proofs.Math.Nat.{suc-mul}
use Rattle.std.specs.Cmp.{IsEquivalence}
use Rattle.std.specs.List.{AllByRecursion, IsDistinct}
use Rattle.std.proofs.lemmas.Bool.{or_left, or_right, or_cases}
use Rattle.std.proofs.lemmas.List.{length-append, length-map}
use Rattle.std.proofs.lemmas.Map.Made.{length-le_from_is_member}
use Rattle.node_table.specs.declared.node.Node.{Node}
use Rattle.node_table.specs.declared.node.Node.TheVariants.{False, True, Inner}
use Rattle.node_table.specs.contracts.node.NodePartialEq.TheImpl as node_equality
use Rattle.operations.specs.Pairs.{Pair, equal_pairs, is_one, same_pair}

node_itself : (x : Node) → node_equality.ghosts.eq x x ≡ true
node_itself False = refl
node_itself True = refl
node_itself (Inner a) = eq-eqb a.index a.index refl

same_pair-itself : (pair : Pair) → same_pair pair pair ≡ true
same_pair-itself pair = rw (node_itself pair.0, node_itself pair.1) refl

pairs_equal : IsEquivalence same_pair
pairs_equal = record {
  refl = λ x. same_pair-itself x;
  symm = λ x y. elim (same_pair x y) as (λ b. same_pair x y ≡ b → b ≡ same_pair y x) [
    | true ↦ λ is. sym (subst (λ (z : Pair). same_pair z x ≡ true) (equal_pairs x y is) (same_pair-itself x))
    | false ↦ λ is. elim (same_pair y x) as (λ b. same_pair y x ≡ b → false ≡ b) [
      | true ↦ λ back. sym is ∙ subst (λ (z : Pair). same_pair z y ≡ true) (equal_pairs y x back) (same_pair-itself y)
      | false ↦ λ back. refl
    ] refl
  ] refl;
  congr = λ x y z is. ap (λ (p : Pair). same_pair p z) (equal_pairs x y is);
}

-- so different pairs that are all among others are no more than those
pub no_longer : (few more : List Pair) → IsDistinct same_pair few → ((pair : Pair) → is_one few pair ≡ true → is_one more pair ≡ true)
    → length few ≤ length more
no_longer few more distinct among = length-le_from_is_member pairs_equal few more distinct among

none_same : (few : List Pair) (own : Pair) → is_one few own ≡ false → AllByRecursion (λ pair. same_pair own pair ≡ false) few
none_same [] own none = tt
none_same (pair ∷ few) own none = (
  or_none_left (same_pair own pair) (is_one few own) none,
  none_same few own (or_none_right (same_pair own pair) (is_one few own) none),
)
  where
    or_none_left : (a b : Bool) → (a || b) ≡ false → a ≡ false
    or_none_left true b is = cc
    or_none_left false b is = refl

    or_none_right : (a b : Bool) → (a || b) ≡ false → b ≡ false
    or_none_right true b is = cc
    or_none_right false b is = is

pub one_more : (few more : List Pair) (own : Pair) → IsDistinct same_pair few
    → ((pair : Pair) → is_one few pair ≡ true → is_one more pair ≡ true) → is_one few own ≡ false → is_one more own ≡ true
    → length few < length more
unfolding IsDistinct
one_more few more own distinct among apart there =
    let all : length (own ∷ few) ≤ length more = no_longer (own ∷ few) more (none_same few own apart, distinct)
    (λ pair is. elim (or_cases (same_pair pair own) (is_one few pair) is) [
      | inl same ↦ subst (λ (p : Pair). is_one more p ≡ true) (sym (equal_pairs pair own same)) there
      | inr other ↦ among pair other
    ]) in
    omega (arith, all)

pub among_more : (few more : List Pair) (own : Pair) → ((pair : Pair) → is_one few pair ≡ true → is_one more pair ≡ true) → is_one more own
    ≡ true → (pair : Pair) → is_one (own ∷ few) pair ≡ true → is_one more pair ≡ true
among_more few more own among there pair is = elim (or_cases (same_pair pair own) (is_one few pair) is) [
  | inl same ↦ subst (λ (p : Pair). is_one more p ≡ true) (sym (equal_pairs pair own same)) there
  | inr other ↦ among pair other
]

-- another pair is among one more only where it was
pub other_same : (few : List Pair) (own pair : Pair) → (pair ≡ own → ⊥) → is_one (own ∷ few) pair ≡ is_one few pair
other_same few own pair differ = elim (same_pair pair own) as (λ b. same_pair pair own ≡ b → (b || is_one few pair) ≡ is_one few pair) [
  | true ↦ λ is. absurd (differ (equal_pairs pair own is))
  | false ↦ λ is. refl
] refl

-- each node of one list with each of the other
abbrev pub pairs_of : List Node → List Node → List Pair
pairs_of [] vs = []
pairs_of (u ∷ us) vs = map (λ v. (u, v)) vs ++ pairs_of us vs

pub pairs_of-length : (us vs : List Node) → length (pairs_of us vs) ≡ length us * length vs
pairs_of-length [] vs = omega arith
pairs_of-length (u ∷ us) vs =
    let pair : Node → Pair = λ v. (u, v) in
    let row = length-map vs pair in
    let rest = pairs_of-length us vs in
    let all = length-append (map pair vs) (pairs_of us vs) in
    let product = suc-mul (length us) (length vs) in
    omega (arith, row, rest, all, product)

one_of_left : (one two : List Pair) (pair : Pair) → is_one one pair ≡ true → is_one (one ++ two) pair ≡ true
one_of_left [] two pair is = cc
one_of_left (own ∷ one) two pair is = elim (or_cases (same_pair pair own) (is_one one pair) is) [
  | inl same ↦ or_left (same_pair pair own) (is_one (one ++ two) pair) same
  | inr other ↦ or_right (same_pair pair own) (is_one (one ++ two) pair) (one_of_left one two pair other)
]

one_of_right : (one two : List Pair) (pair : Pair) → is_one two pair ≡ true → is_one (one ++ two) pair ≡ true
one_of_right [] two pair is = is
one_of_right (own ∷ one) two pair is = or_right (same_pair pair own) (is_one (one ++ two) pair) (one_of_right one two pair is)

row_has : (u : Node) (vs : List Node) (v : Node) → Contains vs v → is_one (map (λ w. (u, w)) vs) (u, v) ≡ true
row_has u [] v there = absurd (omega (arith, there.1))
row_has u (w ∷ vs) v (zero, small, is) = or_left (same_pair (u, v) (u, w)) (is_one (map (λ n. (u, n)) vs) (u, v))
    (subst (λ (n : Node). same_pair (u, v) (u, n) ≡ true) (sym is) (same_pair-itself (u, v)))
row_has u (w ∷ vs) v (suc k, small, is) = or_right (same_pair (u, v) (u, w)) (is_one (map (λ n. (u, n)) vs) (u, v))
    (row_has u vs v (k, omega (arith, small), is))

pub pairs_of-has : (us vs : List Node) (u v : Node) → Contains us u → Contains vs v → is_one (pairs_of us vs) (u, v) ≡ true
pairs_of-has [] vs u v there and = absurd (omega (arith, there.1))
pairs_of-has (w ∷ us) vs u v (zero, small, is) and =
    one_of_left (map (λ n. (w, n)) vs) (pairs_of us vs) (u, v) (subst (λ (n : Node). is_one (map (λ m. (n, m)) vs) (u, v)
    ≡ true) (sym is) (row_has u vs v and))
pairs_of-has (w ∷ us) vs u v (suc k, small, is) and = one_of_right (map (λ n. (w, n)) vs) (pairs_of us vs) (u, v)
    (pairs_of-has us vs u v (k, omega (arith, small), is) and)
