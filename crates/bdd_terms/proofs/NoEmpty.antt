-- No empty clause comes but with a term that is False.
use Rattle.std.proofs.Common.{◌≡◌, ◌≢◌, Bool, true, false, Option, None, Some, is_some, refl, sym, ap, ◌∙◌}
use Rattle.std.specs.Option.{option_map}
use Rattle.lrat_rules.specs.State.{clause_at}
use Rattle.node_table.specs.declared.node.Node.{Node}
use Rattle.node_table.specs.declared.node.Node.TheVariants.{False, True, Inner}
use Rattle.node_table.specs.declared.node.Branch.{Branch}
use Rattle.node_table.specs.Defined.{literal_of_branch}
use Rattle.node_table.specs.Diagram.{Graph, IsReduced, branch_at, branch_of, is_node}
use Rattle.node_table.specs.Laws.{Canonical}
use Rattle.node_table.specs.Table.{TableState, AddsNoEmpty, IsSame}
use Rattle.node_table.specs.Value.{Levels, value_of}

module _ {S : Type 0} where
  pub no_change : (table : TableState S) → AddsNoEmpty table table
  no_change table = record { each = λ id is. is }

  pub further_empty : (old mid new : TableState S) → AddsNoEmpty old mid → AddsNoEmpty mid new → AddsNoEmpty old new
  further_empty old mid new one two = record { each = λ id is. one.each id (two.each id is) }

  -- a refusal that changes nothing
  pub same_empty : (old new : TableState S) → IsSame old new → AddsNoEmpty old new
  same_empty old new same = record {
    each = λ id is. sym (ap (λ (t : TableState S). clause_at t.book.state.live id) same) ∙ is;
  }

-- a node that is no constant has a literal
pub has_literal : (graph : Graph) (w : Node) → is_node graph w ≡ true → w ≢ True → w ≢ False
    → option_map literal_of_branch (branch_of graph w) ≡ None → ⊥
has_literal graph False stands not_true not_false none = not_false (λ i. False)
has_literal graph True stands not_true not_false none = not_true (λ i. True)
has_literal graph (Inner key) stands not_true not_false none = by_branch (branch_at graph key.index) stands none
  where
    by_branch : (found : Option Branch) → is_some found ≡ true → option_map literal_of_branch found ≡ None → ⊥
    by_branch None stands none = cc
    by_branch (Some branch) stands none = cc

-- what a term's node that isn't False implies isn't False
pub implied_open : Canonical → (graph : Graph) → IsReduced graph → (u w : Node) → is_node graph u ≡ true → u ≢ False
    → ((a : Levels) → value_of graph a u ≡ true → value_of graph a w ≡ true) → w ≢ False
implied_open canonical graph reduced u w stands open_u implied same =
    open_u (canonical graph reduced u False stands refl (λ a. at a (value_of graph a u) (λ i. value_of graph a u)))
  where
    at : (a : Levels) (value : Bool) → value_of graph a u ≡ value → value_of graph a u ≡ false
    at a true is = absurd (let holds = implied a is in
        let fails : value_of graph a w ≡ false = ap (value_of graph a) same in let e : true ≡ false = sym holds ∙ fails in cc)
    at a false is = is
