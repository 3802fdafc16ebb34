-- What a node reaches is a part of it.
use Rattle.std.proofs.Common.{◌≡◌, ◌∙◌, Bool, true, false, List, [], ◌∷◌, Option, Some, refl, sym, ap, subst, arith, eq-eqb}
use Rattle.std.specs.Prelude.{if◌then◌else◌}
use Rattle.node_table.specs.declared.node.Node.{Node}
use Rattle.node_table.specs.declared.node.Node.TheVariants.{False, True, Inner}
use Rattle.node_table.specs.declared.node.NodeKey.{NodeKey}
use Rattle.node_table.specs.declared.node.Branch.{Branch}
use Rattle.node_table.specs.Diagram.{Graph, IsReduced, branch_at, branch_of, child_in, high_at, is_node, level_in, level_of, levels, low_at}
use Rattle.node_table.specs.Laws.{Subfunctions}
use Rattle.node_table.specs.Made.{Reaches, child_of, end_of}
use Rattle.node_table.specs.Value.{Levels, IsSubfunction, value_of}
use Rattle.bdd_terms.proofs.Listed.{some_of}

-- what a node reaches is a part of it
module _ (law : Subfunctions) (graph : Graph) (reduced : IsReduced graph) where
  record IsPartOf (node part : Node) : Type 0 where
    stands : is_node graph part ≡ true
    is_part : IsSubfunction (λ a. value_of graph a node) (λ a. value_of graph a part)

  child_inner : (to_high : Bool) (key : NodeKey) (b : Branch) → branch_at graph key.index ≡ Some b → is_node graph (Inner key) ≡ true
      → IsPartOf (Inner key) (if to_high then b.high else b.low)
  child_inner true key b at is =
      let level : level_of graph (Inner key) ≡ b.level = ap (level_in (levels graph)) at in
      let same : high_at graph b.level (Inner key) ≡ b.high = ap (child_in (λ branch. branch.high) b.level (Inner key)) at
      ∙ ap (λ t. if t then b.high else Inner key) (eq-eqb b.level b.level refl) in
      record {
        stands = (reduced.high key.index b at).stands;
        is_part = subst (λ (n : Node). IsSubfunction (λ a. value_of graph a (Inner key)) (λ a. value_of graph a n)) same
            (law.high graph reduced b.level (Inner key) is (omega (arith, level)) (reduced.level key.index b at));
      }
  child_inner false key b at is =
      let level : level_of graph (Inner key) ≡ b.level = ap (level_in (levels graph)) at in
      let same : low_at graph b.level (Inner key) ≡ b.low = ap (child_in (λ branch. branch.low) b.level (Inner key)) at
      ∙ ap (λ t. if t then b.low else Inner key) (eq-eqb b.level b.level refl) in
      record {
        stands = (reduced.low key.index b at).stands;
        is_part = subst (λ (n : Node). IsSubfunction (λ a. value_of graph a (Inner key)) (λ a. value_of graph a n)) same
            (law.low graph reduced b.level (Inner key) is (omega (arith, level)) (reduced.level key.index b at));
      }

  child_part : (to_high : Bool) (node : Node) → is_node graph node ≡ true → IsPartOf node (child_of to_high node (branch_of graph node))
  child_part to_high False is = record { stands = refl; is_part = law.same (λ a. value_of graph a False) }
  child_part to_high True is = record { stands = refl; is_part = law.same (λ a. value_of graph a True) }
  child_part to_high (Inner key) is =
      let found = some_of (branch_at graph key.index) is in
      subst (λ (o : Option Branch). IsPartOf (Inner key) (child_of to_high (Inner key) o)) (sym found.1)
      (child_inner to_high key found.0 found.1 is)

  end_part : (node : Node) (path : List Bool) → is_node graph node ≡ true
      → IsSubfunction (λ a. value_of graph a node) (λ a. value_of graph a (end_of graph node path))
  end_part node [] is = law.same (λ a. value_of graph a node)
  end_part node (to_high ∷ path) is =
      let child = child_of to_high node (branch_of graph node) in
      let part = child_part to_high node is in
      law.further (λ a. value_of graph a node) (λ a. value_of graph a child) (λ a. value_of graph a (end_of graph child path)) part.is_part
      (end_part child path part.stands)

  pub reached_part : (node other : Node) → is_node graph node ≡ true → Reaches graph node other
      → IsSubfunction (λ a. value_of graph a node) (λ a. value_of graph a other)
  reached_part node other is reaches = subst (λ (n : Node). IsSubfunction (λ a. value_of graph a node)
      (λ a. value_of graph a n)) reaches.ends (end_part node reaches.path is)

-- a part of one function is a part of another one with the same values, and so is another with the same values as the part
pub part_of_same : (one other part same : Levels → Bool) → ((a : Levels) → one a ≡ other a) → ((a : Levels) → same a ≡ part a)
    → IsSubfunction one part → IsSubfunction other same
part_of_same one other part same first second is = record { level = is.level; fixed = is.fixed; same = λ a. second a ∙ is.same a ∙ first _ }
