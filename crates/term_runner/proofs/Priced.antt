-- How many numbers a try of a move gives, and a move in two tries.
use Rattle.std.proofs.Common.{◌≡◌, ℕ, ◌+◌, ◌*◌, ◌≤◌, ◌∙◌, false, List, Option, None, Some, sym, ap, arith, inl, inr}
use Rattle.std.proofs.Math.Nat.{add-mul, one-mul}
use Rattle.cnf_base.specs.Formula.{Formula}
use Rattle.node_table.specs.declared.error.TableError.{TableError}
use Rattle.node_table.specs.declared.node.Branch.{Branch}
use Rattle.node_table.specs.Diagram.{KeepsNodes, branch_at, levels}
use Rattle.node_table.specs.Laws.{Canonical, Growth}
use Rattle.node_table.specs.Made.{inner}
use Rattle.node_table.specs.Progress.{Leaves}
use Rattle.node_table.specs.Table.{TableState, AddsAtMost, live_nodes}
use Rattle.node_table.specs.Value.{value_of}
use Rattle.operations.specs.Budget.{most_additions}
use Rattle.schedule_plan.specs.declared.plan.Move.{Move}
use Rattle.schedule_plan.specs.Plan.{Stage, after_move}
use Rattle.term_runner.specs.Price.{AddsFew, most_nodes}
use Rattle.bdd_terms.specs.Price.{IsMovePrice}
use Rattle.bdd_terms.specs.Tidy.{IsTidy}
use Rattle.term_runner.specs.Width.{HoldsAtMost, IsPartInHand}
use Rattle.term_runner.specs.Nodes.{IsGivenPart, KeepsOrMakes}
use Rattle.term_runner.proofs.InHand.{given_part}
use Rattle.bdd_terms.proofs.Priced.{few_tried, price_tried}

-- so many moves and one more
pub one_more : (count price : ℕ) → (count + 1) * price ≡ count * price + price
one_more count price = add-mul count 1 price ∙ ap (λ n. count * price + n) (one-mul price)

-- between two moves
pub tidy_few : (live left width : ℕ) → IsTidy live left → left ≤ width → live ≤ 2 * width + 999
tidy_few live left width tidy few = elim tidy [ inl small ↦ omega (arith, small) | inr more ↦ omega (arith, more, few) ]

-- and however a move ends
pub moved_few : (old new left width : ℕ) → IsTidy old left → left ≤ width → AddsFew old new width → new ≤ most_nodes width
moved_few old new left width tidy few adds =
    let before = tidy_few old left width tidy few in
    elim adds [ inl more ↦ omega (arith, before, more) | inr all ↦ omega (arith, all) ]

-- that of a move
module _ {S : Type 0} (growth : Growth) (canonical : Canonical) (formula : Formula) (order : List ℕ) (before after : Stage) (step : Move)
    (leads : after_move formula before step ≡ Some after) (old new : TableState S) (error : Option TableError) (leaves : Leaves old new error)
    (keeps : KeepsNodes old.graph new.graph)
    (made : KeepsOrMakes old.graph new.graph (IsGivenPart formula order before after)) (width : ℕ)
    (most : HoldsAtMost formula order before after width) where
  makes_parts : (key : ℕ) (branch : Branch) → branch_at new.graph key ≡ Some branch → branch_at old.graph key ≡ None
      → IsPartInHand false formula order before after (λ a. value_of new.graph a (inner key))
  makes_parts key branch at none = elim (made.each key branch at) [
    | inl there ↦ absurd (let wrong : Some branch ≡ None = sym there.0 ∙ none in cc)
    | inr part ↦ given_part false formula order before after _ part
  ]

  pub tried_few : live_nodes new.graph ≤ live_nodes old.graph + width
  tried_few = few_tried growth canonical old new error leaves keeps (IsPartInHand false formula order before after) makes_parts width most

  pub tried : (vars size price : ℕ) → levels old.graph ≡ vars → IsMovePrice vars size width price
      → AddsAtMost (most_additions (levels old.graph) + 1) old new
      → (width * width ≤ size → AddsAtMost (2 * (width * width) + 1) old new) → 2 * new.book.state.top ≤ 2 * old.book.state.top + price
  tried = price_tried growth canonical old new error leaves keeps (IsPartInHand false formula order before after) makes_parts width most
