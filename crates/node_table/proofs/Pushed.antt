-- A node more among the stored ones.
use Rattle.std.proofs.Common.{◌≡◌, ◌≢◌, ℕ, ◌+◌, ◌<◌, ◌≤◌, true, List, length, get_or, Option, None, Some, refl, sym, ap, ◌∙◌, subst, arith}
use Rattle.std.proofs.Common.{inl, inr}
use Rattle.std.specs.FinMap as map
use Rattle.std.specs.Option.{option_map}
use Rattle.std.proofs.lemmas.Bool.{cases_eq}
use Rattle.slab.specs.Slab.{Slab, Updates, get, slab_len}
use Rattle.cnf_base.specs.ProofText.{max_id}
use Rattle.node_table.specs.declared.index.Index.{Index}
use Rattle.node_table.specs.declared.node.Branch.{Branch}
use Rattle.node_table.specs.declared.node.Node.{Node}
use Rattle.node_table.specs.declared.node.Node.TheVariants.{False, True, Inner}
use Rattle.node_table.specs.declared.stored.StoredNode.{StoredNode}
use Rattle.node_table.specs.Index.{IsIndexOf}
use Rattle.node_table.specs.Diagram.{IsBelow, IsReduced, IsWanted, FitsIn, branch_at, is_node, levels, with_branch}
use Rattle.node_table.specs.Stored.{branch_in, graph_of, number_of, HasSmallKey, IsStored}
use Rattle.node_table.proofs.Keyed.{branch_at-graph_of, graph_of-joined, len-keyed}
use Rattle.node_table.proofs.Grown.{IsReduced-joined}
use Rattle.node_table.proofs.Values.{branch_of_node}

-- the stored node of a node of the graph
pub record HasStored (slots : List (Option StoredNode)) (key : ℕ) (branch : Branch) : Type 0 where
  pub node : StoredNode
  pub stands : get_or slots key None ≡ Some node
  pub branch_is : branch ≡ branch_in node

has_stored : (slot : Option StoredNode) (branch : Branch) → option_map branch_in slot ≡ Some branch → (node : StoredNode)
    × (slot ≡ Some node) × (branch ≡ branch_in node)
has_stored None branch is = absurd (let none : None ≡ Some branch = is in cc)
has_stored (Some node) branch is = let same : Some (branch_in node) ≡ Some branch = is in (node, refl, cc)

pub stored_from_branch : (order : List ℕ) (slots : List (Option StoredNode)) (key : ℕ) (branch : Branch)
    → branch_at (graph_of order slots) key ≡ Some branch → HasStored slots key branch
stored_from_branch order slots key branch is =
    let found = has_stored (get_or slots key None) branch (sym (branch_at-graph_of order slots key) ∙ is) in
    record { node = found.0; stands = found.1; branch_is = found.2 }

pub branch_from_stored : (order : List ℕ) (slots : List (Option StoredNode)) (key : ℕ) (node : StoredNode) → get_or slots key None
    ≡ Some node → branch_at (graph_of order slots) key ≡ Some (branch_in node)
branch_from_stored order slots key node is = branch_at-graph_of order slots key ∙ ap (option_map branch_in) is

pub unused_key : (order : List ℕ) (slots : List (Option StoredNode)) (key : ℕ) → get_or slots key None ≡ None
    → branch_at (graph_of order slots) key ≡ None
unused_key order slots key none = branch_at-graph_of order slots key ∙ ap (option_map branch_in) none

-- an extension variable that no stored node has is no node's
pub own_variable : (order : List ℕ) (slots : List (Option StoredNode)) (variable : ℕ)
    → ((key : ℕ) (node : StoredNode) → get_or slots key None ≡ Some node → node.variable ≢ variable)
    → (key : ℕ) (branch : Branch) → branch_at (graph_of order slots) key ≡ Some branch → branch.variable ≢ variable
own_variable order slots variable own key branch is same =
    let found = stored_from_branch order slots key branch is in
    own key found.node found.stands (sym (ap (λ (b : Branch). b.variable) found.branch_is) ∙ same)

-- what holds of each stored node, and of the new one, holds of each stored node after
pub each_stored : (old new : Slab StoredNode) (key : ℕ) (node : StoredNode) → Updates old new key (Some node)
    → (P : ℕ → StoredNode → Type 0) → P key node
    → ((other : ℕ) (one : StoredNode) → get old other ≡ Some one → P other one) → (other : ℕ) (one : StoredNode) → get new other ≡ Some one
    → P other one
each_stored old new key node updates P here there other one is =
    elim (cases_eq other key) [
      | inl same ↦
          let at : Some node ≡ Some one = sym updates.changed ∙ ap (get new) (sym same) ∙ is in
          let node_is : node ≡ one = cc in
          subst (λ (k : ℕ). P k one) (sym same) (subst (P key) node_is here)
      | inr differ ↦ there other one (sym (updates.others other differ) ∙ is)
    ]

-- A node that joins the stored ones.
pub record Joins (order : List ℕ) (old new : Slab StoredNode) (key : ℕ) (node : StoredNode) : Type 0 where
  pub few : slab_len old < 100000000
  pub more : slab_len new ≡ slab_len old + 1
  pub small : key < 100000000
  pub vacant : get old key ≡ None
  pub updates : Updates old new key (Some node)
  pub above : length order < node.variable
  pub own : (other : ℕ) (one : StoredNode) → get old other ≡ Some one → one.variable ≢ node.variable
  pub first : number_of node.first ≤ max_id + 1
  pub fits : FitsIn (graph_of order old.slots) (branch_in node)

pub joined_graph : (order : List ℕ) (old new : Slab StoredNode) (key : ℕ) (node : StoredNode) → Joins order old new key node
    → graph_of order new.slots ≡ with_branch (graph_of order old.slots) key (branch_in node)
joined_graph order old new key node joins = graph_of-joined order old.slots new.slots key node joins.updates.changed joins.updates.others

pub IsStored-joined : (order places : List ℕ) (before after : Index) (old new : Slab StoredNode) (key : ℕ) (node : StoredNode)
    → IsStored order places before old → Joins order old new key node
    → IsIndexOf after new → IsStored order places after new
IsStored-joined order places before after old new key node stored joins indexed =
    let branch = branch_in node in
    let unused = unused_key order old.slots key joins.vacant in
    let own = own_variable order old.slots node.variable joins.own in
    record {
      ordered = stored.ordered;
      few_levels = stored.few_levels;
      few_nodes = omega (arith, joins.few, joins.more);
      inverse = stored.inverse;
      reduced = subst IsReduced (sym (joined_graph order old new key node joins))
          (IsReduced-joined (graph_of order old.slots) stored.reduced key branch unused joins.fits joins.above own);
      small_keys = each_stored old new key node joins.updates (λ k one. k < 100000000) joins.small stored.small_keys;
      firsts = each_stored old new key node joins.updates (λ k one. number_of one.first ≤ max_id + 1) joins.first stored.firsts;
      indexed = indexed;
    }

-- the nodes that stand have keys that fit a child's word
pub small_from_stands : (order places : List ℕ) (index : Index) (nodes : Slab StoredNode) → IsStored order places index nodes
    → (node : Node) → is_node (graph_of order nodes.slots) node ≡ true → HasSmallKey node
small_from_stands order places index nodes stored False is = tt
small_from_stands order places index nodes stored True is = tt
small_from_stands order places index nodes stored (Inner key) is =
    let branch = branch_of_node (graph_of order nodes.slots) key is in
    let found = stored_from_branch order nodes.slots key.index branch.0 branch.1 in
    stored.small_keys key.index found.node found.stands

-- the slab has room for more, and the index too
pub IsStored-room : (order places : List ℕ) (before after : Index) (old room : Slab StoredNode) → room
    ≡ record old { capacity = room.capacity } → IsStored order places before old → IsIndexOf after room
    → IsStored order places after room
IsStored-room order places before after old room kept stored indexed =
    subst (IsStored order places after) (sym kept) (record {
      ordered = stored.ordered;
      few_levels = stored.few_levels;
      few_nodes = stored.few_nodes;
      inverse = stored.inverse;
      reduced = stored.reduced;
      small_keys = stored.small_keys;
      firsts = stored.firsts;
      indexed = subst (IsIndexOf after) kept indexed;
    })

-- the node entered under the vacant key, once the slab had room
pub Joins-entered : (order : List ℕ) (old room new : Slab StoredNode) (key : ℕ) (node : StoredNode) → room
    ≡ record old { capacity = room.capacity } → map.len (graph_of order old.slots).nodes < 100000000
    → key < 100000000 → get room key ≡ None → Updates room new key (Some node) → slab_len new ≡ slab_len room + 1
    → length order < node.variable → ((other : ℕ) (one : StoredNode) → get old other ≡ Some one → one.variable ≢ node.variable)
    → (level variable : ℕ) (high low : Node) (first : ℕ) → branch_in node
    ≡ record { level = level; variable = variable; high = high; low = low; first = first }
    → level < levels (graph_of order old.slots) → IsBelow (graph_of order old.slots) level high
    → IsBelow (graph_of order old.slots) level low → IsWanted (graph_of order old.slots) level high low → first ≤ max_id + 1
    → Joins order old new key node
Joins-entered order old room new key node kept few small vacant updates more above own level variable high low first node_is few_level
    below_high below_low wanted few_first =
    let graph = graph_of order old.slots in
    let count = len-keyed 0 old.slots in
    let same : slab_len room ≡ slab_len old = ap slab_len kept in
    let number : number_of node.first ≡ first = ap (λ (b : Branch). b.first) node_is in
    record {
      few = omega (arith, few, count);
      more = omega (arith, more, same);
      small = small;
      vacant = ap (λ s. get s key) (sym kept) ∙ vacant;
      updates = record {
        changed = updates.changed;
        others = λ other differ. updates.others other differ ∙ ap (λ s. get s other) kept;
      };
      above = above;
      own = own;
      first = omega (arith, number, few_first);
      fits = subst (FitsIn graph) (sym node_is) (record {
        level = few_level;
        high = below_high;
        low = below_low;
        differ = wanted.differ;
        alone = λ other branch is alike. wanted.missing other branch is alike.level alike.high alike.low;
      });
    }
