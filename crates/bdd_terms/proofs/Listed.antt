-- Nodes of a reduced graph, by rising keys: their functions aren't constant, and differ from one another.
use Rattle.std.proofs.Common.{◌≡◌, ℕ, zero, suc, ◌<◌, Bool, true, false, ◌&&◌, List, [], ◌∷◌, map, length, Option, None, Some, is_some}
use Rattle.std.proofs.Common.{nat_cmp, T, Less, Equal, Greater, refl, sym, ap, ◌∙◌, arith, eq-eqb}
use Rattle.std.specs.Prelude.{slice_index_or}
use Rattle.std.specs.List.{list_any}
use Rattle.std.specs.Ordering.{is_lt, eq_by_cmp}
use Rattle.std.specs.Cmp.{unsigned_tied, ranked}
use Rattle.std.specs.FinMap.Entries.{below_all, is_sorted}
use Rattle.std.proofs.lemmas.Bool.{or_left, or_right}
use Rattle.std.proofs.lemmas.List.{length-map}
use Rattle.node_table.specs.declared.node.Node.TheVariants.{False, True}
use Rattle.node_table.specs.declared.node.NodeKey.{NodeKey}
use Rattle.node_table.specs.declared.node.Branch.{Branch}
use Rattle.node_table.specs.Diagram.{Graph, IsReduced, branch_at}
use Rattle.node_table.specs.Value.{Levels, value_of}
use Rattle.node_table.specs.Made.{inner}
use Rattle.node_table.specs.Laws.{Canonical}
use Rattle.bdd_terms.specs.Parts.{Differ, IsEssential, part_at}

pub some_of : (o : Option Branch) → is_some o ≡ true → (b : Branch) × (o ≡ Some b)
some_of None is = absurd (let e : false ≡ true = is in cc)
some_of (Some b) is = (b, refl)

-- the keys of sorted entries: each is listed, and they rise
abbrev pub key_at : List (ℕ × Branch) → ℕ → ℕ
key_at es place = slice_index_or (map (λ e. e.0) es) place 0

both_parts : (a b : Bool) → T (a && b) → T a × T b
both_parts true b h = (tt, h)
both_parts false b h = absurd h

is_less : (x y : ℕ) → T (is_lt (nat_cmp x y)) → x < y
is_less x y h =
    elim (nat_cmp x y) as (λ r. r ≡ nat_cmp x y → T (is_lt r) → x < y) [
      | Less ↦ λ is _. ranked x y Less is
      | Equal ↦ λ is no. absurd no
      | Greater ↦ λ is no. absurd no
    ] refl h

pub listed : (es : List (ℕ × Branch)) (place : ℕ) → place < length es → list_any (eq_by_cmp nat_cmp (key_at es place)) (map (λ e. e.0) es)
    ≡ true
listed [] place small = absurd (omega (arith, small))
listed (e ∷ es) zero small = or_left (eq_by_cmp nat_cmp e.0 e.0) _ (unsigned_tied e.0 e.0 ∙ eq-eqb e.0 e.0 refl)
listed (e ∷ es) (suc place) small = or_right (eq_by_cmp nat_cmp (key_at es place) e.0) _ (listed es place (omega (arith, small)))

above_at : (key : ℕ) (es : List (ℕ × Branch)) → T (below_all nat_cmp key es) → (place : ℕ) → place < length es → key < key_at es place
above_at key [] below place small = absurd (omega (arith, small))
above_at key (e ∷ es) below zero small = is_less key e.0 (both_parts (is_lt (nat_cmp key e.0)) (below_all nat_cmp key es) below).0
above_at key (e ∷ es) below (suc place) small = above_at key es (both_parts (is_lt (nat_cmp key e.0))
    (below_all nat_cmp key es) below).1 place (omega (arith, small))

rise : (es : List (ℕ × Branch)) → T (is_sorted nat_cmp es) → (place other : ℕ) → place < other → other < length es → key_at es place
    < key_at es other
rise [] sorted place other less small = absurd (omega (arith, small))
rise (e ∷ es) sorted zero zero less small = absurd (omega (arith, less))
rise (e ∷ es) sorted zero (suc other) less small = above_at e.0 es
    (both_parts (below_all nat_cmp e.0 es) (is_sorted nat_cmp es) sorted).0 other (omega (arith, small))
rise (e ∷ es) sorted (suc place) zero less small = absurd (omega (arith, less))
rise (e ∷ es) sorted (suc place) (suc other) less small =
    rise es (both_parts (below_all nat_cmp e.0 es) (is_sorted nat_cmp es) sorted).1 place other (omega (arith, less)) (omega (arith, small))

same_key : (key other : ℕ) → inner key ≡ inner other → key ≡ other
same_key key other is = let same : ◌≡◌ {A = NodeKey} (record { index = key }) (record { index = other }) = cc in
    ap (λ (k : NodeKey). k.index) same

-- the functions of listed nodes
abbrev pub functions_of : Graph → List (ℕ × Branch) → List (Levels → Bool)
functions_of graph es = map (λ e a. value_of graph a (inner e.0)) es

pub length-functions : (graph : Graph) (es : List (ℕ × Branch)) → length (functions_of graph es) ≡ length es
length-functions graph es = length-map {B = Levels → Bool} es (λ e a. value_of graph a (inner e.0))

pub function_at : (graph : Graph) (es : List (ℕ × Branch)) (place : ℕ) → place < length es → part_at (functions_of graph es) place
    ≡ (λ a. value_of graph a (inner (key_at es place)))
function_at graph [] place small = absurd (omega (arith, small))
function_at graph (e ∷ es) zero small = refl
function_at graph (e ∷ es) (suc place) small = function_at graph es place (omega (arith, small))

module _ (canonical : Canonical) (graph : Graph) (reduced : IsReduced graph) (es : List (ℕ × Branch)) (sorted : T (is_sorted nat_cmp es))
    (stands : (place : ℕ) → place < length es → is_some (branch_at graph (key_at es place)) ≡ true) where
  pub essential_at : (place : ℕ) → place < length es → IsEssential (part_at (functions_of graph es) place)
  essential_at place small value same = constant value (λ a. sym (λ k. function_at graph es place small k a) ∙ same a)
    where
      constant : (value : Bool) → ((a : Levels) → value_of graph a (inner (key_at es place)) ≡ value) → ⊥
      constant true same = let is : inner (key_at es place) ≡ True = canonical graph reduced (inner (key_at es place)) True
          (stands place small) refl same in cc
      constant false same = let is : inner (key_at es place) ≡ False = canonical graph reduced (inner (key_at es place)) False
          (stands place small) refl same in cc

  pub differ_at : (place other : ℕ) → place < other → other < length es
      → Differ (part_at (functions_of graph es) place) (part_at (functions_of graph es) other)
  differ_at place other less small same =
      let sooner : place < length es = omega (arith, less, small) in
      let equal : (a : Levels) → value_of graph a (inner (key_at es place)) ≡ value_of graph a (inner (key_at es other)) =
      λ a. sym (λ k. function_at graph es place sooner k a) ∙ same a ∙ (λ k. function_at graph es other small k a) in
      let is : key_at es place ≡ key_at es other =
      same_key (key_at es place) (key_at es other) (canonical graph reduced (inner (key_at es place)) (inner (key_at es other))
      (stands place sooner) (stands other small) equal) in
      let apart = rise es sorted place other less small in
      omega (arith, is, apart)
