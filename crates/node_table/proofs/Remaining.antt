-- The stored nodes that remain once those that aren't marked were given back.
use Rattle.std.proofs.Common.{◌≡◌, ℕ, ◌≤◌, Bool, true, false, List, get_or, Option, None, Some, refl, sym, ap, ◌∙◌, arith}
use Rattle.std.specs.Prelude.{if◌then◌else◌}
use Rattle.std.specs.Option.{option_map}
use Rattle.slab.specs.Slab.{Slab, get, slab_len}
use Rattle.node_table.specs.declared.index.Index.{Index}
use Rattle.node_table.specs.declared.stored.StoredNode.{StoredNode}
use Rattle.node_table.specs.Diagram.{IsReduced, branch_at}
use Rattle.node_table.specs.Index.{IsIndexOf}
use Rattle.node_table.specs.Marks.{AreMarks}
use Rattle.node_table.specs.Stored.{IsStored, branch_in, graph_of}
use Rattle.node_table.specs.Swept.{IsSwept}
use Rattle.node_table.proofs.Keyed.{branch_at-graph_of}
use Rattle.node_table.proofs.Pushed.{branch_from_stored}
use Rattle.node_table.proofs.Swept.{reduced_swept}

-- under each key stands what stood there if it is marked, and nothing else
abbrev pub KeepsMarked : List Bool → Slab StoredNode → Slab StoredNode → Type 0
KeepsMarked marks old new = (key : ℕ) → get new key ≡ (if get_or marks key false then get old key else None)

-- no two nodes have one variable
abbrev pub AreApart : Slab StoredNode → Type 0
AreApart nodes = (key other : ℕ) (one two : StoredNode) → get nodes key ≡ Some one → get nodes other ≡ Some two → one.variable
    ≡ two.variable → key ≡ other

pub apart_reduced : (order : List ℕ) (nodes : Slab StoredNode) → IsReduced (graph_of order nodes.slots) → AreApart nodes
apart_reduced order nodes reduced key other one two is also same =
    reduced.apart key other (branch_in one) (branch_in two) (branch_from_stored order nodes.slots key one is)
    (branch_from_stored order nodes.slots other two also) same

module _ (marks : List Bool) (old new : Slab StoredNode) (kept : KeepsMarked marks old new) where
  pub kept_marked : (key : ℕ) → get_or marks key false ≡ true → get new key ≡ get old key
  kept_marked key mark = kept key ∙ ap (λ b. if b then get old key else None) mark

  -- a node that remains is marked, and was there
  pub left_over : (key : ℕ) (node : StoredNode) → get new key ≡ Some node → (get_or marks key false ≡ true) × (get old key ≡ Some node)
  left_over key node is =
      elim (get_or marks key false) as (λ b. get_or marks key false ≡ b → (get_or marks key false ≡ true) × (get old key ≡ Some node)) [
        | true ↦ λ mark. (mark, sym (kept_marked key mark) ∙ is)
        | false ↦ λ mark. absurd (let none : None ≡ Some node = sym (kept key ∙ ap (λ b. if b then get old key else None) mark) ∙ is in cc)
      ] refl

  pub IsSwept-stored : (order : List ℕ) → IsSwept (graph_of order old.slots) (graph_of order new.slots) marks
  IsSwept-stored order = record {
    order = refl;
    nodes = λ key. branch_at-graph_of order new.slots key ∙ ap (λ (slot : Option StoredNode). option_map branch_in slot) (kept key)
        ∙ either key (get_or marks key false);
  }
    where
      either : (key : ℕ) (b : Bool) → option_map branch_in (if b then get old key else None)
          ≡ (if b then branch_at (graph_of order old.slots) key else None)
      either key true = sym (branch_at-graph_of order old.slots key)
      either key false = refl

  pub IsStored-swept : (order places : List ℕ) (before after : Index) → IsStored order places before old
      → AreMarks (graph_of order old.slots) marks → slab_len new ≤ slab_len old → IsIndexOf after new
      → IsStored order places after new
  IsStored-swept order places before after stored are fewer indexed = record {
    ordered = stored.ordered;
    few_levels = stored.few_levels;
    few_nodes = omega (arith, stored.few_nodes, fewer);
    inverse = stored.inverse;
    reduced = reduced_swept (graph_of order old.slots) (graph_of order new.slots) marks are (IsSwept-stored order) stored.reduced;
    small_keys = λ key node is. stored.small_keys key node (left_over key node is).1;
    firsts = λ key node is. stored.firsts key node (left_over key node is).1;
    indexed = indexed;
  }
