-- A move that was taken: its error is handed on, and behind it nodes are given back where there are many.
use Rattle.std.proofs.Common.{◌≡◌, ◌∙◌, ◌⊎◌, ℕ, Bool, true, false, [], Some, Result, Ok, Err, refl, sym, ap, subst, arith, inl, inr}
use Rattle.std.specs.Prelude.{OnOk}
use Rattle.cnf_base.specs.Formula.{Formula}
use Rattle.node_table.specs.declared.error.TableError.{TableError}
use Rattle.node_table.specs.declared.error.TableError.TheVariants.{NodeLimit, OutOfMemory, WriteFault}
use Rattle.node_table.specs.Diagram.{Graph, IsOrder}
use Rattle.node_table.specs.HandedOn.{no_error, same_error}
use Rattle.node_table.specs.Laws.{Canonical, StepByStep, Subfunctions}
use Rattle.node_table.specs.Progress.{Continues, Leaves, error_of}
use Rattle.node_table.specs.Refused.{no_nodes_left}
use Rattle.node_table.specs.Table.{AddsNoEmpty, live_nodes}
use Rattle.schedule_plan.specs.declared.plan.Move.{Move}
use Rattle.schedule_plan.specs.Plan.{Stage, after_move}
use Rattle.term_runner.specs.declared.stacked.StackedTerms.{StackedTerms}
use Rattle.bdd_terms.specs.Caches.{sizes}
use Rattle.term_runner.specs.Moves.{Moved}
use Rattle.term_runner.specs.Nodes.{IsGivenPart, KeepsOrMakes}
use Rattle.term_runner.specs.Price.{AddsFew}
use Rattle.term_runner.specs.Stacked.{HasOwnUnits, IsAtStage, IsOpen}
use Rattle.term_runner.specs.Tidy.{IsByRule, WereLeft, held_nodes}
use Rattle.bdd_terms.specs.Tidy.{IsTidy, LeavesReached}
use Rattle.term_runner.specs.Width.{keeps_trail}
use Rattle.term_runner.proofs.Due.{due_behind}
use Rattle.term_runner.proofs.FewLeft.{few_left, in_hand_behind}
use Rattle.term_runner.proofs.NoEmpty.{fewer_empty, fewer_left, no_true}
use Rattle.bdd_terms.proofs.NoEmpty.{further_empty}
use Rattle.term_runner.proofs.Tidied.{made_behind, none_made, were_left}
use Rattle.term_runner.proofs.Tried.{failed_with, no_memory_limit}

-- Behind a move that left many nodes those that no term reaches are given back.
module _ {S : Type 0} (canonical : Canonical) (steps : StepByStep S) (formula : Formula) (stage next : Stage) (step : Move)
    (leads : after_move formula stage step ≡ Some next) (old one mid : StackedTerms S)
    (own : Moved formula stage next old one (Ok false)) (many : IsTidy (live_nodes one.table.graph) one.left → ⊥)
    (top : mid.table.book.state.top ≡ one.table.book.state.top) (same : sizes mid.caches ≡ sizes one.caches) where
  unrefuted_yet : AddsNoEmpty old.table one.table
  unrefuted_yet = own.no_empty no_error (no_true false refl)

  by_rule : (left : ℕ) → IsByRule old.table.graph mid.table.graph (IsGivenPart formula old.table.graph.order stage next)
      old.table.max_nodes old.left left
  by_rule left = due_behind old.table.graph one.table.graph mid.table.graph _ old.table.max_nodes old.left one.left left
      own.leaves.sound.tied.reduced own.made many own.rule

  -- that is refused
  pub moved_full : (r : Result Bool TableError) (came : TableError) → r ≡ Err came → (came ≡ OutOfMemory) ⊎ (came ≡ WriteFault)
      → Leaves one.table mid.table (Some came) → mid.table.graph ≡ one.table.graph → mid.left ≡ one.left
      → Moved formula stage next old mid r
  moved_full r came is because leaves graph left = record {
    held = failed_with r came is _;
    refuted = failed_with r came is _;
    ready = subst (λ (r : Result Bool TableError). OnOk r (IsOpen formula mid)) (sym is) tt;
    settled = failed_with r came is _;
    own = failed_with r came is _;
    leaves = subst (λ (r : Result Bool TableError). Leaves old.table mid.table (error_of r)) (sym is)
        (steps.leave old.table one.table mid.table (Some came) own.leaves leaves);
    no_empty = λ whole unrefuted. further_empty old.table one.table mid.table unrefuted_yet
        (fewer_left {T = ℕ} one.table mid.table (Err came) leaves (λ torn. whole (is ∙ ap Err (same_error torn))) top);
    made = subst (λ (graph : Graph). KeepsOrMakes old.table.graph graph (IsGivenPart formula old.table.graph.order stage next))
        (sym graph) own.made;
    lacks = λ limit. absurd (no_limit_here limit);
    full = λ limit. absurd (no_limit_here limit);
    left = subst (λ (n : ℕ). (n ≡ old.left) ⊎ (WereLeft (keeps_trail old.table.max_nodes) formula old.table.graph.order stage n
        ⊎ WereLeft (keeps_trail old.table.max_nodes) formula old.table.graph.order next n)) (sym left) own.left;
    rule = by_rule mid.left;
    price = λ size width price have paid most. let once = own.price size width price have paid most in omega (arith, once, top);
    few = λ none width most. subst (λ (graph : Graph). AddsFew (live_nodes old.table.graph) (live_nodes graph) width) (sym graph)
        (own.few none width most);
    sizes = same ∙ own.sizes;
  }
    where
      no_limit_here : r ≡ Err NodeLimit → ⊥
      no_limit_here limit = elim because [
        | inl memory ↦ no_memory_limit (sym memory ∙ same_error (sym is ∙ limit))
        | inr torn ↦ no_nodes_left (sym (same_error (sym is ∙ limit)) ∙ torn)
      ]

  -- and done
  pub moved_back : Subfunctions → IsOrder old.table.graph.order → Continues one.table mid.table → IsAtStage formula mid next
      → IsOpen formula mid → mid.table.retired ≡ [] → HasOwnUnits mid
      → LeavesReached one.table.graph mid.table.graph (held_nodes mid.out.items mid.trail.recent) → mid.left ≡ live_nodes mid.table.graph
      → mid.trail.recent ≡ [] → Moved formula stage next old mid (Ok false)
  moved_back law ordered so_far at ready none units reached count gone =
      let continues = steps.go_on old.table one.table mid.table own.leaves so_far in
      let were : (keeps : Bool) → WereLeft keeps formula old.table.graph.order next mid.left = λ keeps. were_left keeps formula one.table.graph mid.table.graph mid.table.book.state.live mid.out.items mid.trail next
      old.table.graph.order _ at reached continues.order count (λ _. gone) in
      record {
        held = λ is. at;
        refuted = λ is. absurd (let e : false ≡ true = is in cc);
        ready = ready;
        settled = λ is. none;
        own = λ is. units;
        leaves = continues;
        no_empty = λ whole unrefuted. further_empty old.table one.table mid.table unrefuted_yet
            (fewer_empty one.table mid.table so_far top);
        made = made_behind old.table.graph one.table.graph mid.table.graph mid.table.graph (held_nodes mid.out.items mid.trail.recent)
            (IsGivenPart formula old.table.graph.order stage next) own.made reached
            (none_made mid.table.graph (IsGivenPart formula old.table.graph.order stage next));
        lacks = λ limit. absurd (no_error limit);
        full = λ limit. absurd (no_error limit);
        left = inr (inr (were (keeps_trail old.table.max_nodes)));
        rule = by_rule mid.left;
        price = λ size width price have paid most. let once = own.price size width price have paid most in omega (arith, once, top);
        few = λ _ width most.
            let left = few_left law canonical formula old.table.graph.order ordered stage next next
            (in_hand_behind formula stage next step leads) _ (were false) width most in
            inr (omega (arith, left, count));
        sizes = same ∙ own.sizes;
      }
