-- Quantified variables, set back in a list of values.
use Rattle.std.proofs.Common.{◌≡◌, ℕ, zero, suc, ◌+◌, ◌-◌, ◌<◌, ◌≤◌, Bool, false, not, None, Some, List, [], ◌∷◌, length, take}
use Rattle.std.proofs.Common.{reverse, refl, sym, ap, ◌∙◌, arith, inl, inr, eq-eqb, ne_eqb}
use Rattle.std.specs.Prelude.{slice_set, slice_index_or, if◌then◌else◌, ◌==◌}
use Rattle.std.proofs.lemmas.Bool.{cases_eq}
use Rattle.std.proofs.lemmas.List.{get_or-set_same, get_or-set_other, set-set, take_more}
use Rattle.cnf_base.specs.Truth.{Assignment, assignment_of, with_value}
use Rattle.node_table.specs.declared.node.Node.{Node}
use Rattle.node_table.specs.declared.node.Node.TheVariants.{False, True, Inner}
use Rattle.node_table.specs.Diagram.{Graph, IsOrder, IsReduced, branch_at, levels}
use Rattle.node_table.specs.Value.{Levels, branch_value, by_level, value_of, value_within}
use Rattle.clause_terms.specs.Recovery.{set_node_back, set_nodes_back}
use Rattle.clause_terms.specs.Walk.{AreAlike}
use Rattle.clause_terms.proofs.AddedLiteral.{reverse_more}

-- a node's value reads the variables of the levels alone
value_of_levels : (graph : Graph) → IsReduced graph → (a b : Levels) → ((i : ℕ) → i < levels graph → a i ≡ b i) → (steps : ℕ) (node : Node)
    → value_within steps graph a node ≡ value_within steps graph b node
value_of_levels graph reduced a b same steps False = refl
value_of_levels graph reduced a b same steps True = refl
value_of_levels graph reduced a b same zero (Inner key) = refl
value_of_levels graph reduced a b same (suc steps) (Inner key) =
    elim (branch_at graph key.index) as (λ o. branch_at graph key.index ≡ o → branch_value a (value_within steps graph a) o
    ≡ branch_value b (value_within steps graph b) o) [
      | None ↦ λ _. refl
      | Some branch ↦ λ at. λ i. if same branch.level (reduced.level key.index branch at) i
          then value_of_levels graph reduced a b same steps branch.high i else value_of_levels graph reduced a b same steps branch.low i
    ] refl

value_alike : (graph : Graph) → IsReduced graph → IsOrder graph.order → (a b : Assignment) → AreAlike a b → (node : Node)
    → value_of graph (by_level graph.order a) node ≡ value_of graph (by_level graph.order b) node
value_alike graph reduced ordered a b alike node =
    value_of_levels graph reduced (by_level graph.order a) (by_level graph.order b)
    (λ level small. alike.same (slice_index_or graph.order level 0) (ordered.within level small).0) (levels graph) node

with_value_alike : (a b : Assignment) → AreAlike a b → (x : ℕ) (s t : Bool) → s ≡ t → AreAlike (with_value a x s) (with_value b x t)
with_value_alike a b alike x s t same = record { same = λ variable some. λ i. if variable == x then same i else alike.same variable some i }

back_alike : (graph : Graph) → IsReduced graph → IsOrder graph.order → (a b : Assignment) → AreAlike a b → (x : ℕ) (node : Node)
    → AreAlike (set_node_back graph a (x, node)) (set_node_back graph b (x, node))
back_alike graph reduced ordered a b alike x node =
    with_value_alike a b alike x _ _
    (ap not (value_alike graph reduced ordered (with_value a x false) (with_value b x false)
    (with_value_alike a b alike x false false refl) node))

-- alike values are set back alike
pub all_back_alike : (graph : Graph) → IsReduced graph → IsOrder graph.order → (trail : List (ℕ × Node)) (a b : Assignment) → AreAlike a b
    → AreAlike (set_nodes_back graph a trail) (set_nodes_back graph b trail)
all_back_alike graph reduced ordered [] a b alike = alike
all_back_alike graph reduced ordered (kept ∷ trail) a b alike =
    all_back_alike graph reduced ordered trail (set_node_back graph a kept) (set_node_back graph b kept)
    (back_alike graph reduced ordered a b alike kept.0 kept.1)

-- one place of the list written
value_set : (values : List Bool) (x : ℕ) (t : Bool) → 0 < x → x ≤ length values
    → AreAlike (assignment_of (slice_set values (x - 1) t)) (with_value (assignment_of values) x t)
value_set values x t some within = record {
  same = λ variable above. elim (cases_eq variable x) [
    | inl at ↦
        let place : variable - 1 ≡ x - 1 = ap (λ v. v - 1) at in
        ap (λ k. slice_index_or (slice_set values (x - 1) t) k false) place
        ∙ get_or-set_same values (x - 1) t false (omega (arith, some, within))
        ∙ sym (ap (λ s. if s then t else assignment_of values variable) (eq-eqb variable x at))
    | inr differ ↦
        get_or-set_other values (x - 1) (variable - 1) t false (λ same. differ (omega (arith, same, some, above)))
        ∙ sym (ap (λ s. if s then t else assignment_of values variable) (ne_eqb variable x differ))
  ];
}

-- what is written for a variable that is set back
pub set_in_place : (graph : Graph) → IsReduced graph → IsOrder graph.order → (values : List Bool) (x : ℕ) (node : Node) → 0 < x → x
    ≤ length values
    → AreAlike (assignment_of (slice_set (slice_set values (x - 1) false) (x - 1)
    (not (value_of graph (by_level graph.order (assignment_of (slice_set values (x - 1) false))) node))))
    (set_node_back graph (assignment_of values) (x, node))
set_in_place graph reduced ordered values x node some within =
    let cleared = value_set values x false some within in
    let asked : Bool = value_of graph (by_level graph.order (assignment_of (slice_set values (x - 1) false))) node in
    let meant : Bool = value_of graph (by_level graph.order (with_value (assignment_of values) x false)) node in
    let equal : asked ≡ meant = value_alike graph reduced ordered (assignment_of (slice_set values (x - 1) false))
    (with_value (assignment_of values) x false) cleared node in
    let written = value_set values x (not asked) some within in
    record {
      same = λ variable above.
          ap (λ (list : List Bool). assignment_of list variable) (set-set values (x - 1) false (not asked))
          ∙ written.same variable above ∙ ap (λ (t : Bool). with_value (assignment_of values) x (not t) variable) equal;
    }

-- the rest of a trail is set back behind its last variable
pub one_back : (graph : Graph) → IsReduced graph → IsOrder graph.order → (trail : List (ℕ × Node)) (place : ℕ) (kept : ℕ × Node) → place
    < length trail → slice_index_or trail place kept ≡ kept
    → (before after end : Assignment) → AreAlike after (set_node_back graph before kept)
    → AreAlike (set_nodes_back graph before (reverse (take (place + 1) trail))) end
    → AreAlike (set_nodes_back graph after (reverse (take place trail))) end
one_back graph reduced ordered trail place kept inside is before after end set rest =
    let turned : reverse (take (place + 1) trail) ≡ kept ∷ reverse (take place trail) =
    reverse_more (take place trail) (take (place + 1) trail) (slice_index_or trail place kept) kept
    (take_more trail place kept inside) is in
    let alike = all_back_alike graph reduced ordered (reverse (take place trail)) after (set_node_back graph before kept) set in
    record {
      same = λ variable above.
          alike.same variable above
          ∙ ap (λ (list : List (ℕ × Node)). set_nodes_back graph before list variable) (sym turned)
          ∙ rest.same variable above;
    }
