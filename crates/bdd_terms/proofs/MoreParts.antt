-- Where each node is of a part of some kind, and a further part is the function of none, there are more parts than nodes.
use Rattle.std.proofs.Common.{◌≡◌, ℕ, zero, suc, ◌<◌, Bool, true, false, List, ◌∷◌, length, Some, is_some, sym, ◌∙◌, subst, refl, arith}
use Rattle.node_table.specs.declared.node.Node.{Node}
use Rattle.node_table.specs.declared.node.Node.TheVariants.{False, True}
use Rattle.node_table.specs.declared.node.Branch.{Branch}
use Rattle.node_table.specs.Diagram.{Graph, IsReduced, branch_at, is_node}
use Rattle.node_table.specs.Value.{Levels, value_of}
use Rattle.node_table.specs.Table.{live_nodes}
use Rattle.node_table.specs.Made.{inner}
use Rattle.node_table.specs.Laws.{Canonical}
use Rattle.bdd_terms.specs.Parts.{AreMore, Differ, IsEssential, part_at}
use Rattle.bdd_terms.proofs.Listed.{differ_at, essential_at, function_at, functions_of, key_at, length-functions, listed, some_of}
use Rattle.std.specs.FinMap as finmap

-- of any kind of parts: the functions of all nodes, and one that is that of no node
module _ (canonical : Canonical) (graph : Graph) (reduced : IsReduced graph) (is_part : (Levels → Bool) → Type 0)
    (each : (key : ℕ) (branch : Branch) → branch_at graph key ≡ Some branch → is_part (λ a. value_of graph a (inner key)))
    (further : Levels → Bool) (is_further : is_part further)
    (nowhere : (node : Node) → is_node graph node ≡ true → ((a : Levels) → value_of graph a node ≡ further a) → ⊥) where
  abbrev es : List (ℕ × Branch)
  es = finmap.entries graph.nodes

  stands : (place : ℕ) → place < length es → is_some (branch_at graph (key_at es place)) ≡ true
  stands place small = finmap.contains_key-keys graph.nodes (key_at es place) ∙ listed es place small

  part_of_node : (place : ℕ) → place < length es → is_part (part_at (functions_of graph es) place)
  part_of_node place small =
      let found = some_of (branch_at graph (key_at es place)) (stands place small) in
      subst is_part (sym (function_at graph es place small)) (each (key_at es place) found.0 found.1)

  nowhere_at : (place : ℕ) → place < length es → Differ further (part_at (functions_of graph es) place)
  nowhere_at place small same = nowhere (inner (key_at es place)) (stands place small)
      (λ a. sym (λ k. function_at graph es place small k a) ∙ sym (same a))

  abbrev all : List (Levels → Bool)
  all = further ∷ functions_of graph es

  few : (place : ℕ) → suc place < length all → place < length es
  few place small = omega (arith, small, length-functions graph es)

  are_parts : (place : ℕ) → place < length all → is_part (part_at all place)
  are_parts zero small = is_further
  are_parts (suc place) small = part_of_node place (few place small)

  essential : (place : ℕ) → place < length all → IsEssential (part_at all place)
  essential zero small true same = nowhere True refl (λ a. sym (same a))
  essential zero small false same = nowhere False refl (λ a. sym (same a))
  essential (suc place) small value same = essential_at canonical graph reduced es (finmap.entries_sorted graph.nodes) stands place
      (few place small) value same

  differ : (place other : ℕ) → place < other → other < length all → Differ (part_at all place) (part_at all other)
  differ zero zero less small same = omega (arith, less)
  differ zero (suc other) less small same = nowhere_at other (few other small) same
  differ (suc place) zero less small same = omega (arith, less)
  differ (suc place) (suc other) less small same = differ_at canonical graph reduced es
      (finmap.entries_sorted graph.nodes) stands place other (omega (arith, less)) (few other small) same

  pub are_more : (number : ℕ) → live_nodes graph ≡ number → AreMore is_part number
  are_more number live = record {
    parts = all;
    more = omega (arith, length-functions graph es, finmap.len-entries graph.nodes, live);
    are = are_parts;
    essential = essential;
    differ = differ;
  }
