-- Values of nodes: that there are always steps enough, the value by cofactors, and that it depends on no level above
-- the node's own.
use Rattle.std.proofs.Common.{◌≡◌, ℕ, zero, suc, ◌-◌, ◌≤◌, true, false, None, Some, is_some, refl, sym, ap, ◌∙◌, arith}
use Rattle.std.specs.Prelude.{if◌then◌else◌}
use Rattle.node_table.specs.declared.node.Node.{Node}
use Rattle.node_table.specs.declared.node.Node.TheVariants.{False, True, Inner}
use Rattle.node_table.specs.declared.node.NodeKey.{NodeKey}
use Rattle.node_table.specs.declared.node.Branch.{Branch}
use Rattle.node_table.specs.Diagram.{Graph, IsReduced, branch_at, branch_of, is_node, levels, level_of, level_in}
use Rattle.node_table.specs.Value.{Levels, branch_value, value_within, value_of, IsChosen}

-- a node of the graph that is no constant has a branch
pub branch_of_node : (graph : Graph) (key : NodeKey) → is_node graph (Inner key) ≡ true → (branch : Branch)
    × (branch_at graph key.index ≡ Some branch)
branch_of_node graph key is =
    elim (branch_at graph key.index) as (λ o. branch_at graph key.index ≡ o → is_some o ≡ true → (branch : Branch)
    × (branch_at graph key.index ≡ Some branch)) [
      | None ↦ λ _ h. absurd (let b : false ≡ true = h in cc)
      | Some branch ↦ λ at _. (branch, at)
    ] refl is

pub level_of-inner : (graph : Graph) (key : NodeKey) (branch : Branch) → branch_at graph key.index ≡ Some branch
    → level_of graph (Inner key) ≡ branch.level
level_of-inner graph key branch at = ap (level_in (levels graph)) at

-- as many steps as levels below the node are enough: more give the same
enough : (graph : Graph) → IsReduced graph → (a : Levels) (steps more : ℕ) (node : Node) → is_node graph node ≡ true
    → levels graph - level_of graph node ≤ steps → levels graph - level_of graph node ≤ more → value_within steps graph a node
    ≡ value_within more graph a node
enough graph reduced a steps more False is one two = refl
enough graph reduced a steps more True is one two = refl
enough graph reduced a zero more (Inner key) is one two =
    let branch = branch_of_node graph key is in
    absurd (omega (arith, one, level_of-inner graph key branch.0 branch.1, reduced.level key.index branch.0 branch.1))
enough graph reduced a (suc steps) zero (Inner key) is one two =
    let branch = branch_of_node graph key is in
    absurd (omega (arith, two, level_of-inner graph key branch.0 branch.1, reduced.level key.index branch.0 branch.1))
enough graph reduced a (suc steps) (suc more) (Inner key) is one two =
    let branch = branch_of_node graph key is in
    let b = branch.0 in
    let at = branch.1 in
    let here = level_of-inner graph key b at in
    let high = reduced.high key.index b at in
    let low = reduced.low key.index b at in
    let small = reduced.level key.index b at in
    let same_high : value_within steps graph a b.high ≡ value_within more graph a b.high =
    enough graph reduced a steps more b.high high.stands (omega (arith, one, here, high.below, small))
    (omega (arith, two, here, high.below, small)) in
    let same_low : value_within steps graph a b.low ≡ value_within more graph a b.low =
    enough graph reduced a steps more b.low low.stands (omega (arith, one, here, low.below, small))
    (omega (arith, two, here, low.below, small)) in
    ap (branch_value a (value_within steps graph a)) at
    ∙ (λ i. if a b.level then same_high i else same_low i)
    ∙ sym (ap (branch_value a (value_within more graph a)) at)

-- an inner node has the value of the child that its variable chooses
pub value_of-inner : (graph : Graph) → IsReduced graph → (a : Levels) (key : NodeKey) (branch : Branch) → branch_at graph key.index
    ≡ Some branch
    → value_of graph a (Inner key) ≡ (if a branch.level then value_of graph a branch.high else value_of graph a branch.low)
value_of-inner graph reduced a key b at =
    let small = reduced.level key.index b at in
    let high = reduced.high key.index b at in
    let low = reduced.low key.index b at in
    let is : is_node graph (Inner key) ≡ true = ap is_some at in
    let here = level_of-inner graph key b at in
    let one_more : value_of graph a (Inner key) ≡ value_within (suc (levels graph)) graph a (Inner key) =
    enough graph reduced a (levels graph) (suc (levels graph)) (Inner key) is (omega (arith, here)) (omega (arith, here)) in
    one_more ∙ ap (branch_value a (value_within (levels graph) graph a)) at

pub high_chosen : (graph : Graph) → IsReduced graph → (a : Levels) (node : Node) (branch : Branch) → branch_of graph node ≡ Some branch
    → a branch.level ≡ true → IsChosen graph a node branch.high
high_chosen graph reduced a False branch at chosen = absurd (let none : None ≡ Some branch = at in cc)
high_chosen graph reduced a True branch at chosen = absurd (let none : None ≡ Some branch = at in cc)
high_chosen graph reduced a (Inner key) b at chosen =
    let high = reduced.high key.index b at in
    record {
      stands = high.stands;
      same = sym (value_of-inner graph reduced a key b at ∙ ap (λ t. if t then value_of graph a b.high else value_of graph a b.low) chosen);
      nearer = omega (arith, high.below, level_of-inner graph key b at, reduced.level key.index b at);
    }

pub low_chosen : (graph : Graph) → IsReduced graph → (a : Levels) (node : Node) (branch : Branch) → branch_of graph node ≡ Some branch
    → a branch.level ≡ false → IsChosen graph a node branch.low
low_chosen graph reduced a False branch at chosen = absurd (let none : None ≡ Some branch = at in cc)
low_chosen graph reduced a True branch at chosen = absurd (let none : None ≡ Some branch = at in cc)
low_chosen graph reduced a (Inner key) b at chosen =
    let low = reduced.low key.index b at in
    record {
      stands = low.stands;
      same = sym (value_of-inner graph reduced a key b at ∙ ap (λ t. if t then value_of graph a b.high else value_of graph a b.low) chosen);
      nearer = omega (arith, low.below, level_of-inner graph key b at, reduced.level key.index b at);
    }
