-- A move of a plan: what it begins with, a try of it, and a move that was taken.
use Rattle.std.specs.Prelude.{◌≡◌, ◌⊎◌, ◌≤◌, ◌+◌, ◌*◌, ℕ, Bool, false, [], Some, Result, Err, IfOk, OnOk, IsErr, IsTrue}
use Rattle.cnf_base.specs.Formula.{Formula}
use Rattle.lrat_rules.specs.State.{clause_at}
use Rattle.node_table.specs.declared.error.TableError.{TableError}
use Rattle.node_table.specs.declared.error.TableError.TheVariants.{NodeLimit}
use Rattle.node_table.specs.Diagram.{KeepsNodes, levels}
use Rattle.node_table.specs.Progress.{Leaves, error_of}
use Rattle.node_table.specs.Table.{AddsAtMost, UnlessTorn, live_nodes}
use Rattle.operations.specs.Budget.{most_additions}
use Rattle.quantify.specs.RunsFor.{LacksOneOf}
use Rattle.schedule_plan.specs.declared.plan.Move.{Move}
use Rattle.schedule_plan.specs.Plan.{Stage, after_move}
use Rattle.schedule_plan.specs.SetMove.{move_in_order}
use Rattle.term_runner.specs.declared.stacked.StackedTerms.{StackedTerms}
use Rattle.bdd_terms.specs.Caches.{HaveRoom, HaveSize, sizes}
use Rattle.term_runner.specs.Held.{IsUnrefuted}
use Rattle.term_runner.specs.Nodes.{IsGivenPart, KeepsOrMakes}
use Rattle.term_runner.specs.Price.{AddsFew}
use Rattle.bdd_terms.specs.Price.{IsMovePrice}
use Rattle.term_runner.specs.Stacked.{HasOwnUnits, IsAtStage, IsOpen}
use Rattle.term_runner.specs.Tidy.{IsByRule, WereLeft}
use Rattle.term_runner.specs.Width.{HoldsAtMost, keeps_trail}

-- Between two moves: no clause waits for its deletion, and the terms are those of a stage, from which the move leads on. The variables
-- of a set are quantified in the reversed order.
pub record MayMove {S : Type 0} (formula : Formula) (step : Move) (terms : StackedTerms S) : Type 0 where
  pub ready : IsOpen formula terms
  pub settled : terms.table.retired ≡ []
  pub own : HasOwnUnits terms
  pub stage : Stage
  pub next : Stage
  pub at : IsAtStage formula terms stage
  pub leads : after_move formula stage (move_in_order terms.table.graph.order step) ≡ Some next

-- A try of a move from this stage to the next. Done, it leaves the terms of the next one, or the formula is refuted. Else
-- it leaves its operands, unless a write failed, and at the limit of nodes it may be tried again. However it ends, nodes stay,
-- and the new clauses are those of new nodes and no more beside them than this, or, where the caches have room for all pairs of
-- parts in hand, than two for each of these.
pub record Tried {S : Type 0} (formula : Formula) (stage next : Stage) (old new : StackedTerms S) (result : Result Bool TableError) : Type 0 where
  pub held : IfOk result (λ refuted. refuted ≡ false → IsAtStage formula new next)
  pub refuted : IfOk result (λ refuted. IsTrue refuted → (id : ℕ) × (clause_at new.table.book.state.live id ≡ Some []))
  pub ready : UnlessTorn result (IsOpen formula new)
  pub own : IfOk result (λ refuted. refuted ≡ false → HasOwnUnits new)
  pub unchanged : UnlessTorn result (IsErr result → (new.out.items ≡ old.out.items) × (new.trail ≡ old.trail))
  pub again : result ≡ Err NodeLimit → HasOwnUnits new
  pub at_again : result ≡ Err NodeLimit → IsAtStage formula new stage
  pub leaves : Leaves old.table new.table (error_of result)
  pub no_empty : IsUnrefuted old.table new.table result
  pub nodes : KeepsNodes old.table.graph new.table.graph
  pub adds : AddsAtMost (most_additions (levels old.table.graph) + 1) old.table new.table
  pub pairs : (width : ℕ) → HaveRoom old.caches width → HoldsAtMost formula old.table.graph.order stage next width
      → AddsAtMost (2 * (width * width) + 1) old.table new.table
  pub made : KeepsOrMakes old.table.graph new.table.graph (IsGivenPart formula old.table.graph.order stage next)
  pub lacks : result ≡ Err NodeLimit → LacksOneOf new.table.graph (IsGivenPart formula old.table.graph.order stage next)
  pub sizes : sizes new.caches ≡ sizes old.caches
  pub left : new.left ≡ old.left

-- A move that was taken from this stage to the next. At the limit of nodes there are but those that the terms reached, and the
-- move's own. Nothing is given back but at the limit, or where there are many. However it ends, it gave so many numbers at most,
-- and, where the trail's terms don't stand among the nodes, made so few nodes, by the parts in hand at the move.
pub record Moved {S : Type 0} (formula : Formula) (stage next : Stage) (old new : StackedTerms S) (result : Result Bool TableError) : Type 0 where
  pub held : IfOk result (λ refuted. refuted ≡ false → IsAtStage formula new next)
  pub refuted : IfOk result (λ refuted. IsTrue refuted → (id : ℕ) × (clause_at new.table.book.state.live id ≡ Some []))
  pub ready : OnOk result (IsOpen formula new)
  pub settled : IfOk result (λ refuted. refuted ≡ false → new.table.retired ≡ [])
  pub own : IfOk result (λ refuted. refuted ≡ false → HasOwnUnits new)
  pub leaves : Leaves old.table new.table (error_of result)
  pub no_empty : IsUnrefuted old.table new.table result
  pub made : KeepsOrMakes old.table.graph new.table.graph (IsGivenPart formula old.table.graph.order stage next)
  pub lacks : result ≡ Err NodeLimit → LacksOneOf new.table.graph (IsGivenPart formula old.table.graph.order stage next)
  pub full : result ≡ Err NodeLimit → (were : WereLeft (keeps_trail old.table.max_nodes) formula old.table.graph.order stage new.left)
      × KeepsOrMakes were.graph new.table.graph (IsGivenPart formula old.table.graph.order stage next)
  pub left : (new.left ≡ old.left) ⊎ (WereLeft (keeps_trail old.table.max_nodes) formula old.table.graph.order stage new.left
      ⊎ WereLeft (keeps_trail old.table.max_nodes) formula old.table.graph.order next new.left)
  pub rule : IsByRule old.table.graph new.table.graph (IsGivenPart formula old.table.graph.order stage next) old.table.max_nodes
      old.left new.left
  pub price : (size width price : ℕ) → HaveSize old.caches size → IsMovePrice (levels old.table.graph) size width price
      → HoldsAtMost formula old.table.graph.order stage next width → new.table.book.state.top ≤ old.table.book.state.top + price
  pub few : keeps_trail old.table.max_nodes ≡ false → (width : ℕ) → HoldsAtMost formula old.table.graph.order stage next width
      → AddsFew (live_nodes old.table.graph) (live_nodes new.table.graph) width
  pub sizes : sizes new.caches ≡ sizes old.caches
