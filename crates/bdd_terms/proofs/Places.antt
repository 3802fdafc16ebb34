-- Values by variables, where those by levels are known.
use Rattle.std.proofs.Common.{◌≡◌, ℕ, zero, suc, ◌<◌, true, refl, sym, ap, ◌∙◌, arith, eq-eqb, ne_eqb}
use Rattle.std.specs.Prelude.{◌==◌, if◌then◌else◌}
use Rattle.std.specs.List.{position_or_len}
use Rattle.std.proofs.lemmas.List.Sums.{position_or_len_is}
use Rattle.node_table.specs.declared.node.Node.{Node}
use Rattle.node_table.specs.declared.node.Node.TheVariants.{False, True, Inner}
use Rattle.node_table.specs.Diagram.{Graph, IsOrder, IsReduced, branch_at, is_node, levels, variable_at}
use Rattle.node_table.specs.Value.{Levels, branch_value, value_within}
use Rattle.clause_terms.specs.Term.{by_variable}
use Rattle.bdd_terms.proofs.Listed.{some_of}

-- the nodes look at no other levels than those of the order
module _ (graph : Graph) (reduced : IsReduced graph) (ordered : IsOrder graph.order) where
  pub place_of_variable : (level : ℕ) → level < levels graph
      → position_or_len (λ x. x == variable_at graph level) graph.order ≡ level
  place_of_variable level small =
      position_or_len_is (λ x. x == variable_at graph level) graph.order level 0 (omega (arith, small))
      (λ k before. ne_eqb (variable_at graph k) (variable_at graph level)
      (λ same. omega (arith, before, ordered.apart k level (omega (arith, before, small)) small same)))
      (λ _. eq-eqb (variable_at graph level) (variable_at graph level) refl)

  pub value_there : (a : Levels) (level : ℕ) → level < levels graph → by_variable graph.order a (variable_at graph level) ≡ a level
  value_there a level small = ap a (place_of_variable level small)

  pub agree_within : (steps : ℕ) (a b : Levels) (node : Node) → is_node graph node ≡ true
      → ((level : ℕ) → level < levels graph → a level ≡ b level) → value_within steps graph a node ≡ value_within steps graph b node
  agree_within steps a b False is same = refl
  agree_within steps a b True is same = refl
  agree_within zero a b (Inner key) is same = refl
  agree_within (suc steps) a b (Inner key) is same =
      let branch = some_of (branch_at graph key.index) is in
      let at = branch.1 in
      let same_high : value_within steps graph a branch.0.high ≡ value_within steps graph b branch.0.high =
      agree_within steps a b branch.0.high (reduced.high key.index branch.0 at).stands same in
      let same_low : value_within steps graph a branch.0.low ≡ value_within steps graph b branch.0.low = agree_within steps a b branch.0.low
      (reduced.low key.index branch.0 at).stands same in
      let same_here : a branch.0.level ≡ b branch.0.level = same branch.0.level (reduced.level key.index branch.0 at) in
      ap (branch_value a (value_within steps graph a)) at
      ∙ (λ i. if same_here i then same_high i else same_low i)
      ∙ sym (ap (branch_value b (value_within steps graph b)) at)
