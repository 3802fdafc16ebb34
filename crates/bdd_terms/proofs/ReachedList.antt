-- The nodes that a node reaches, as a list without repetition: it is no longer than the node's function has parts.
use Rattle.std.proofs.Common.{◌≡◌, ◌∙◌, ◌+◌, ◌<◌, ◌≤◌, ◌==◌, ◌||◌, ℕ, zero, suc, Bool, true, false, cond, List, [], ◌∷◌, map, length}
use Rattle.std.proofs.Common.{Option, None, Some, Contains, is_some, nat_cmp, T, Equal, refl, sym, ap, subst, arith, inl, inr, eq-eqb}
use Rattle.std.specs.List.{list_any}
use Rattle.std.specs.Ordering.{eq_by_cmp}
use Rattle.std.specs.FinMap.Entries.{find, find-where_key, is_some-find, is_sorted, is_sorted-where_key, where_key}
use Rattle.std.specs.Cmp.{unsigned_tied}
use Rattle.std.proofs.lemmas.Bool.{cases_lt, eqb-true, or_cases, or_left, or_right}
use Rattle.std.proofs.lemmas.List.{length-map}
use Rattle.node_table.specs.declared.node.Node.{Node}
use Rattle.node_table.specs.declared.node.Node.TheVariants.{False, True, Inner}
use Rattle.node_table.specs.declared.node.NodeKey.{NodeKey}
use Rattle.node_table.specs.declared.node.Branch.{Branch}
use Rattle.node_table.specs.Diagram.{Graph, IsReduced, branch_at, branch_of, is_node, level_in, level_of, levels}
use Rattle.node_table.specs.Laws.{Canonical, Subfunctions}
use Rattle.node_table.specs.Made.{Reaches, child_of, end_of, inner}
use Rattle.node_table.specs.Value.{Levels, IsSubfunction, value_of}
use Rattle.operations.specs.Price.{HoldsReached}
use Rattle.bdd_terms.specs.Parts.{HasAtMost, part_at}
use Rattle.bdd_terms.proofs.ReachedParts.{part_of_same, reached_part}
use Rattle.bdd_terms.proofs.Listed.{differ_at, essential_at, function_at, functions_of, key_at, length-functions, listed, some_of}
use Rattle.std.specs.FinMap as finmap

-- one of a node's children does
abbrev below : (Node → ℕ → Bool) → Option Branch → ℕ → Bool
below leads_on None key = false
below leads_on (Some branch) key = leads_on branch.high key || leads_on branch.low key

-- within so many steps a node leads to the inner node of this key
abbrev leads : Graph → ℕ → Node → ℕ → Bool
leads graph steps False key = false
leads graph steps True key = false
leads graph zero (Inner own) key = own.index == key
leads graph (suc steps) (Inner own) key = (own.index == key) || below (leads graph steps) (branch_at graph own.index) key

own_key : (own : NodeKey) (key : ℕ) → (own.index == key) ≡ true → Inner own ≡ inner key
own_key own key is = let same = eqb-true own.index key is in ap (λ (n : ℕ). inner n) same

key_is : (own : NodeKey) (key : ℕ) → Inner own ≡ inner key → own.index ≡ key
key_is own key is = let same : ◌≡◌ {A = NodeKey} own (record { index = key }) = cc in ap (λ (k : NodeKey). k.index) same

module _ (graph : Graph) where
  here : (own : NodeKey) (key : ℕ) → (own.index == key) ≡ true → Reaches graph (Inner own) (inner key)
  here own key is = record { path = []; ends = own_key own key is }

  child : (to_high : Bool) (node other : Node) → Reaches graph (child_of to_high node (branch_of graph node)) other
      → Reaches graph node other
  child to_high node other is = record { path = to_high ∷ is.path; ends = is.ends }

  -- what it leads to it reaches
  reaches_led : (steps : ℕ) (node : Node) (key : ℕ) → leads graph steps node key ≡ true → Reaches graph node (inner key)
  reaches_led steps False key is = absurd (let e : false ≡ true = is in cc)
  reaches_led steps True key is = absurd (let e : false ≡ true = is in cc)
  reaches_led zero (Inner own) key is = here own key is
  reaches_led (suc steps) (Inner own) key is = elim (or_cases (own.index == key)
      (below (leads graph steps) (branch_at graph own.index) key) is) [
        | inl same ↦ here own key same
        | inr further ↦ go (λ node led. reaches_led steps node key led) (branch_at graph own.index) refl further
      ]
    where
      go : ((node : Node) → leads graph steps node key ≡ true → Reaches graph node (inner key)) → (o : Option Branch)
          → branch_at graph own.index ≡ o → below (leads graph steps) o key ≡ true
          → Reaches graph (Inner own) (inner key)
      go next None at led = absurd (let e : false ≡ true = led in cc)
      go next (Some b) at led = elim (or_cases (leads graph steps b.high key) (leads graph steps b.low key) led) [
        | inl high ↦ child true (Inner own) (inner key) (subst (λ (o : Option Branch). Reaches graph (child_of true (Inner own) o)
            (inner key)) (sym at) (next b.high high))
        | inr low ↦ child false (Inner own) (inner key) (subst (λ (o : Option Branch). Reaches graph (child_of false (Inner own) o)
            (inner key)) (sym at) (next b.low low))
      ]

  module _ (reduced : IsReduced graph) where
    -- what it reaches is there, and it leads to it
    led : (path : List Bool) (steps : ℕ) (node : Node) (key : ℕ) → is_node graph node ≡ true → levels graph ≤ level_of graph node + steps
        → end_of graph node path ≡ inner key
        → (is_some (branch_at graph key) ≡ true) × (leads graph steps node key ≡ true)
    led [] steps False key is deep ends = absurd (let wrong : False ≡ inner key = ends in cc)
    led [] steps True key is deep ends = absurd (let wrong : True ≡ inner key = ends in cc)
    led [] zero (Inner own) key is deep ends = (
      subst (λ (k : ℕ). is_some (branch_at graph k) ≡ true) (key_is own key ends) is,
      eq-eqb own.index key (key_is own key ends),
    )
    led [] (suc steps) (Inner own) key is deep ends = (
      subst (λ (k : ℕ). is_some (branch_at graph k) ≡ true) (key_is own key ends) is,
      or_left (own.index == key) (below (leads graph steps) (branch_at graph own.index) key)
          (eq-eqb own.index key (key_is own key ends)),
    )
    led (to_high ∷ path) steps False key is deep ends = led path steps False key is deep ends
    led (to_high ∷ path) steps True key is deep ends = led path steps True key is deep ends
    led (to_high ∷ path) steps (Inner own) key is deep ends = go
        (λ few node there far at_end. led path few node key there far at_end) steps deep (some_of (branch_at graph own.index) is)
      where
        go : ((few : ℕ) (node : Node) → is_node graph node ≡ true → levels graph ≤ level_of graph node + few → end_of graph node path
            ≡ inner key → (is_some (branch_at graph key) ≡ true) × (leads graph few node key ≡ true))
            → (steps : ℕ) → levels graph ≤ level_of graph (Inner own) + steps
            → (found : (b : Branch) × (branch_at graph own.index ≡ Some b)) → (is_some (branch_at graph key) ≡ true)
            × (leads graph steps (Inner own) key ≡ true)
        go next zero short found =
            let level : level_of graph (Inner own) ≡ found.0.level = ap (level_in (levels graph)) found.1 in
            let small = reduced.level own.index found.0 found.1 in
            absurd (omega (arith, short, level, small))
        go next (suc steps) long found = turn to_high (subst (λ (o : Option Branch). end_of graph (child_of to_high (Inner own) o) path
            ≡ inner key) found.1 ends)
          where
            b : Branch
            b = found.0

            level : level_of graph (Inner own) ≡ b.level
            level = ap (level_in (levels graph)) found.1

            further : (below (leads graph steps) (Some b) key ≡ true) → leads graph (suc steps) (Inner own) key ≡ true
            further is = or_right (own.index == key) _ ((λ k. below (leads graph steps) (found.1 k) key) ∙ is)

            turn : (h : Bool) → end_of graph (child_of h (Inner own) (Some b)) path ≡ inner key → (is_some (branch_at graph key) ≡ true)
                × (leads graph (suc steps) (Inner own) key ≡ true)
            turn true at_end =
                let high = reduced.high own.index b found.1 in
                let rest = next steps b.high high.stands (omega (arith, long, level, high.below)) at_end in
                (rest.0, further (or_left (leads graph steps b.high key) (leads graph steps b.low key) rest.1))
            turn false at_end =
                let low = reduced.low own.index b found.1 in
                let rest = next steps b.low low.stands (omega (arith, long, level, low.below)) at_end in
                (rest.0, further (or_right (leads graph steps b.high key) (leads graph steps b.low key) rest.1))

-- a key of the entries is one of their nodes
contains_key : (es : List (ℕ × Branch)) (key : ℕ) → list_any (eq_by_cmp nat_cmp key) (map (λ e. e.0) es) ≡ true
    → Contains (map (λ (e : ℕ × Branch). inner e.0) es) (inner key)
contains_key [] key is = absurd (let e : false ≡ true = is in cc)
contains_key (e ∷ es) key is = elim (or_cases (eq_by_cmp nat_cmp key e.0) (list_any (eq_by_cmp nat_cmp key) (map (λ f. f.0) es)) is) [
  | inl same ↦ let at = eqb-true key e.0 (sym (unsigned_tied key e.0) ∙ same) in (zero, omega arith, ap (λ (n : ℕ). inner n) (sym at))
  | inr rest ↦ let there = contains_key es key rest in (suc there.0, omega (arith, there.1), there.2)
]

module _ (law : Subfunctions) (canonical : Canonical) (graph : Graph) (reduced : IsReduced graph) (u : Node) (stands : is_node graph u
    ≡ true) where
  abbrev is_led : ℕ → Bool
  is_led key = leads graph (levels graph) u key

  abbrev all : List (ℕ × Branch)
  all = finmap.entries graph.nodes

  abbrev es : List (ℕ × Branch)
  es = where_key nat_cmp is_led all

  alike : (q x : ℕ) → nat_cmp q x ≡ Equal → is_led x ≡ is_led q
  alike q x is = ap is_led (sym (finmap.nat_cmp-IsAntisymmetric q x is))

  abbrev reached_nodes : List Node
  reached_nodes = map (λ (e : ℕ × Branch). inner e.0) es

  holds_reached : HoldsReached graph u reached_nodes
  holds_reached False reaches inner_one = absurd (inner_one.0 refl)
  holds_reached True reaches inner_one = absurd (inner_one.1 refl)
  holds_reached (Inner own) reaches inner_one =
      let key = own.index in
      let is = led graph reduced reaches.path (levels graph) u key stands (omega arith) reaches.ends in
      contains_key es key (sym (is_some-find nat_cmp key es) ∙ ap is_some (find-where_key nat_cmp is_led key (alike key) all)
      ∙ (λ k. is_some (cond (is.1 k) (find nat_cmp key all) None)) ∙ sym (ap is_some (finmap.get-entries graph.nodes key)) ∙ is.0)

  some_cond : (b : Bool) (o : Option Branch) → is_some (cond b o None) ≡ true → (b ≡ true) × (is_some o ≡ true)
  some_cond false o is = absurd (let e : false ≡ true = is in cc)
  some_cond true o is = (refl, is)

  led_at : (place : ℕ) → place < length es → (is_led (key_at es place) ≡ true) × (is_some (branch_at graph (key_at es place)) ≡ true)
  led_at place small =
      let q = key_at es place in
      let parts = some_cond (is_led q) (find nat_cmp q all) (sym (ap is_some (find-where_key nat_cmp is_led q (alike q) all))
      ∙ is_some-find nat_cmp q es ∙ listed es place small) in
      (parts.0, ap is_some (finmap.get-entries graph.nodes q) ∙ parts.1)

  module _ (function : Levels → Bool) (same : (a : Levels) → value_of graph a u ≡ function a) where
    sorted : T (is_sorted nat_cmp es)
    sorted = is_sorted-where_key nat_cmp is_led all (finmap.entries_sorted graph.nodes)

    there : (place : ℕ) → place < length es → is_some (branch_at graph (key_at es place)) ≡ true
    there place small = (led_at place small).1

    part : (place : ℕ) → place < length es → IsSubfunction function (part_at (functions_of graph es) place)
    part place small =
        let key = key_at es place in
        let reached = reached_part law graph reduced u (inner key) stands (reaches_led graph (levels graph) u key (led_at place small).0) in
        subst (IsSubfunction function) (sym (function_at graph es place small))
        (part_of_same (λ a. value_of graph a u) function (λ a. value_of graph a (inner key)) (λ a. value_of graph a (inner key)) same
        (λ a. refl) reached)

    few_reached : (width : ℕ) → HasAtMost function width → length es ≤ width
    few_reached width most = elim (cases_lt width (length es)) [
      | inr few ↦ few
      | inl many ↦
          let count = length-functions graph es in
          let within : (place : ℕ) → place < length (functions_of graph es) → place
          < length es = λ place small. omega (arith, small, count) in
          absurd (most (record {
            parts = functions_of graph es;
            more = omega (arith, many, count);
            are = λ place small. part place (within place small);
            essential = λ place small. essential_at canonical graph reduced es sorted there place (within place small);
            differ = λ place other less small. differ_at canonical graph reduced es sorted there place other less (within other small);
          }))
    ]

    -- the nodes that it reaches are listed, and no more than its function has parts
    pub reached_few : (width : ℕ) → HasAtMost function width → (nodes : List Node) × HoldsReached graph u nodes × (length nodes ≤ width)
    reached_few width most =
        let few = few_reached width most in
        let count = length-map {B = Node} es (λ e. inner e.0) in
        (reached_nodes, holds_reached, omega (arith, few, count))
