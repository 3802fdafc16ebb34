-- The sum of some variables, modulo 2, is that of their levels.
use Rattle.std.proofs.Common.{◌≡◌, ◌∙◌, ◌++◌, ◌+◌, ◌<◌, ◌||◌, ℕ, zero, suc, Bool, true, false, List, [], ◌∷◌, Contains, length, map}
use Rattle.std.proofs.Common.{reverse, refl, sym, ap, arith, eq-eqb, eqb-true, ne_eqb}
use Rattle.std.specs.Prelude.{slice_index_or, ◌==◌, cond}
use Rattle.std.specs.Bool.{beq}
use Rattle.std.specs.List.{filter}
use Rattle.std.proofs.lemmas.List.{reverse-append}
use Rattle.cnf_base.specs.Truth.{Assignment}
use Rattle.parity_nodes.specs.Sums.{AreRising, IsSum, exclusive_or, odd_over, sum_is}
use Rattle.node_table.specs.declared.node.Node.{Node}
use Rattle.clause_terms.specs.Term.{by_variable}
use Rattle.node_table.specs.Diagram.{Graph, IsOrder, IsReduced, levels, variable_at}
use Rattle.node_table.specs.Value.{Levels, by_level}
use Rattle.quantify.specs.SomeValues.{AreRising as AreLevelsFrom}
use Rattle.schedule_plan.specs.ScheduleState.{is_among}
use Rattle.bdd_terms.specs.Parity.{AreVariables, IsNodeOf, sum_function}
use Rattle.bdd_terms.specs.Sets.{AreSetLevels}
use Rattle.bdd_terms.proofs.Places.{value_there}
use Rattle.bdd_terms.proofs.SetLevels.{filter_reverse, map_reverse}

none_more : (b : Bool) → exclusive_or false b ≡ b
none_more true = refl
none_more false = refl

more_none : (b : Bool) → exclusive_or b false ≡ b
more_none true = refl
more_none false = refl

in_turn : (a b c : Bool) → exclusive_or (exclusive_or a b) c ≡ exclusive_or a (exclusive_or b c)
in_turn true true true = refl
in_turn true true false = refl
in_turn true false true = refl
in_turn true false false = refl
in_turn false true true = refl
in_turn false true false = refl
in_turn false false true = refl
in_turn false false false = refl

other_way : (a b : Bool) → exclusive_or a b ≡ exclusive_or b a
other_way true true = refl
other_way true false = refl
other_way false true = refl
other_way false false = refl

-- lists behind one another, and backwards
pub odd_append : (xs ys : List ℕ) (a : ℕ → Bool) → odd_over (xs ++ ys) a ≡ exclusive_or (odd_over xs a) (odd_over ys a)
odd_append [] ys a = sym (none_more (odd_over ys a))
odd_append (x ∷ xs) ys a = ap (exclusive_or (a x)) (odd_append xs ys a) ∙ sym (in_turn (a x) (odd_over xs a) (odd_over ys a))

pub odd_reverse : (xs : List ℕ) (a : ℕ → Bool) → odd_over (reverse xs) a ≡ odd_over xs a
odd_reverse [] a = refl
odd_reverse (x ∷ xs) a =
    ap (λ (l : List ℕ). odd_over l a) (reverse-append (x ∷ []) xs) ∙ odd_append (reverse xs) (x ∷ []) a
    ∙ (λ i. exclusive_or (odd_reverse xs a i) (more_none (a x) i)) ∙ other_way (odd_over xs a) (a x)

-- by another function
pub odd_map : (f : ℕ → ℕ) (xs : List ℕ) (a : ℕ → Bool) → odd_over (map f xs) a ≡ odd_over xs (λ n. a (f n))
odd_map f [] a = refl
odd_map f (x ∷ xs) a = ap (exclusive_or (a (f x))) (odd_map f xs a)

-- Of the numbers that pass a test, one after another: the sum is that of each test, where no number passes two.
pub record Excludes (one other : ℕ → Bool) : Type 0 where
  pub each : (x : ℕ) → one x ≡ true → other x ≡ false

filtered_more : (p : Bool) (v : Bool) (x : ℕ) (rest : List ℕ) (a : ℕ → Bool) → a x ≡ v
    → odd_over (cond p (x ∷ rest) rest) a ≡ exclusive_or (cond p v false) (odd_over rest a)
filtered_more true v x rest a is = ap (λ b. exclusive_or b (odd_over rest a)) is
filtered_more false v x rest a is = sym (none_more (odd_over rest a))

two_tests : (p q v r s : Bool) → (p ≡ true → q ≡ false) → exclusive_or (cond (p || q) v false) (exclusive_or r s)
    ≡ exclusive_or (exclusive_or (cond p v false) r) (exclusive_or (cond q v false) s)
two_tests true true v r s apart = absurd (let e : true ≡ false = apart refl in cc)
two_tests true false v r s apart = sym (in_turn v r s) ∙ ap (exclusive_or (exclusive_or v r)) (sym (none_more s))
two_tests false true v r s apart =
    sym (in_turn v r s) ∙ ap (λ b. exclusive_or b s) (other_way v r) ∙ in_turn r v s
    ∙ ap (λ b. exclusive_or b (exclusive_or v s)) (sym (none_more r))
two_tests false false v r s apart =
    none_more (exclusive_or r s) ∙ (λ i. exclusive_or (sym (none_more r) i) (sym (none_more s) i))

pub odd_either : (p q : ℕ → Bool) → Excludes p q → (xs : List ℕ) (a : ℕ → Bool) → odd_over (filter (λ x. p x || q x) xs) a
    ≡ exclusive_or (odd_over (filter p xs) a) (odd_over (filter q xs) a)
odd_either p q apart [] a = refl
odd_either p q apart (x ∷ xs) a =
    filtered_more (p x || q x) (a x) x (filter (λ y. p y || q y) xs) a refl
    ∙ ap (exclusive_or (cond (p x || q x) (a x) false)) (odd_either p q apart xs a)
    ∙ two_tests (p x) (q x) (a x) (odd_over (filter p xs) a) (odd_over (filter q xs) a) (apart.each x)
    ∙ sym (λ i. exclusive_or (filtered_more (p x) (a x) x (filter p xs) a refl i) (filtered_more (q x) (a x) x (filter q xs) a refl i))

odd_nowhere : (test : ℕ → Bool) (xs : List ℕ) (a : ℕ → Bool) → ((i : ℕ) → i < length xs → test (slice_index_or xs i 0) ≡ false)
    → odd_over (filter test xs) a ≡ false
odd_nowhere test [] a none = refl
odd_nowhere test (x ∷ xs) a none =
    filtered_more (test x) (a x) x (filter test xs) a refl
    ∙ (λ i. exclusive_or (cond (none 0 (omega arith) i) (a x) false)
    (odd_nowhere test xs a (λ k small. none (suc k) (omega (arith, small))) i))

-- a number that stands once
pub odd_one : (x : ℕ) (xs : List ℕ) (a : ℕ → Bool) (place : ℕ) → place < length xs → slice_index_or xs place 0 ≡ x
    → ((i j : ℕ) → i < length xs → j < length xs → slice_index_or xs i 0 ≡ slice_index_or xs j 0 → i ≡ j)
    → odd_over (filter (λ y. y == x) xs) a ≡ a x
odd_one x [] a place small at apart = absurd (omega (arith, small))
odd_one x (y ∷ ys) a zero small at apart =
    filtered_more (y == x) (a y) y (filter (λ z. z == x) ys) a refl
    ∙ (λ i. exclusive_or (cond (eq-eqb y x at i) (a y) false) (odd_nowhere (λ z. z == x) ys a
    (λ k within. ne_eqb (slice_index_or ys k 0) x (λ same. let e : suc k ≡ 0 = apart (suc k) 0 (omega (arith, within)) (omega arith)
    (same ∙ sym at) in omega (arith, e))) i))
    ∙ more_none (a y) ∙ ap a at
odd_one x (y ∷ ys) a (suc place) small at apart =
    let other : (y == x) ≡ false = ne_eqb y x (λ same. let e : 0 ≡ suc place = apart 0 (suc place) (omega arith) small (same ∙ sym at) in
    omega (arith, e)) in
    filtered_more (y == x) (a y) y (filter (λ z. z == x) ys) a refl
    ∙ (λ i. exclusive_or (cond (other i) (a y) false) (odd_one x ys a place (omega (arith, small)) at
    (λ i j within_i within_j same. let e : suc i ≡ suc j = apart (suc i) (suc j) (omega (arith, within_i)) (omega (arith, within_j)) same in
    omega (arith, e)) i))
    ∙ none_more (a x)

not_among : (more : List ℕ) (x : ℕ) → (Contains more x → ⊥) → is_among more x ≡ false
not_among [] x none = refl
not_among (y ∷ more) x none =
    let other : (x == y) ≡ false = ne_eqb x y (λ same. none (zero, omega arith, sym same)) in
    let rest = not_among more x (λ there. none (suc there.0, omega (arith, there.1), there.2)) in
    (λ i. other i || rest i)

-- different variables, in whatever order
pub odd_among : (order variables : List ℕ) (a : ℕ → Bool) → IsOrder order → AreVariables (length order) variables
    → odd_over (filter (is_among variables) order) a ≡ odd_over variables a
odd_among order [] a ordered are = odd_nowhere (λ x. false) order a (λ i small. refl)
odd_among order (x ∷ more) a ordered are =
    let there = ordered.each x are.0 are.1.0 in
    let apart : Excludes (λ y. y == x) (is_among more) = record {
      each = λ y is. ap (is_among more) (eqb-true y x is) ∙ not_among more x are.1.1.0;
    } in
    odd_either (λ y. y == x) (is_among more) apart order a
    ∙ (λ i. exclusive_or (odd_one x order a there.0 there.1 there.2 ordered.apart i) (odd_among order more a ordered are.1.1.1 i))

rising_same : (first bound : ℕ) (set : List ℕ) → AreLevelsFrom first bound set → AreRising first bound set
rising_same first bound [] rising = tt
rising_same first bound (level ∷ more) rising = (rising.0, (rising.1.0, rising_same (level + 1) bound more rising.1.1))

same_over : (first bound : ℕ) (set : List ℕ) (a b : ℕ → Bool) → AreLevelsFrom first bound set → ((l : ℕ) → l < bound → a l ≡ b l)
    → odd_over set a ≡ odd_over set b
same_over first bound [] a b rising same = refl
same_over first bound (level ∷ more) a b rising same =
    let here = same level rising.1.0 in
    let rest = same_over (level + 1) bound more a b rising.1.1 same in
    (λ i. exclusive_or (here i) (rest i))

module _ (graph : Graph) (reduced : IsReduced graph) (ordered : IsOrder graph.order) (variables set : List ℕ)
    (are : AreVariables (levels graph) variables) (of_set : AreSetLevels graph variables set) where
  pub set_rising : AreRising 0 (levels graph) set
  set_rising = rising_same 0 (levels graph) set of_set.rising

  -- by assignments, and by levels
  pub sum_by_levels : (v : Assignment) → odd_over set (by_level graph.order v) ≡ odd_over variables v
  sum_by_levels v =
      sym (odd_map (variable_at graph) set v) ∙ sym (odd_reverse (map (variable_at graph) set) v)
      ∙ ap (λ (l : List ℕ). odd_over l v) (sym (map_reverse (variable_at graph) set) ∙ of_set.falls)
      ∙ ap (λ (l : List ℕ). odd_over l v) (filter_reverse (is_among variables) graph.order)
      ∙ odd_reverse (filter (is_among variables) graph.order) v ∙ odd_among graph.order variables v ordered are

  pub sum_same : (bit : Bool) (a : Levels) → sum_is bit set a ≡ sum_function graph.order variables bit a
  sum_same bit a = ap (λ b. beq b bit)
      (sym (same_over 0 (levels graph) set (by_level graph.order (by_variable graph.order a)) a of_set.rising
      (λ l small. value_there graph reduced ordered a l small)) ∙ sum_by_levels (by_variable graph.order a))

  -- the node of the levels is that of the variables
  pub sum_node : (new : Graph) → new.order ≡ graph.order → (bit : Bool) (node : Node) → IsSum new set bit node
      → IsNodeOf new (sum_is bit variables) node
  sum_node new same bit node is = record {
    stands = is.stands;
    value = λ a. is.value (by_level new.order a)
        ∙ ap (λ (order : List ℕ). sum_is bit set (by_level order a)) same ∙ ap (λ b. beq b bit) (sum_by_levels a);
  }
