-- What is left to show of `take_moves`.
use Rattle.std.proofs.Common.{rules, ◌≡◌, ℕ, suc, ◌+◌, ◌*◌, ◌≤◌, Bool, true, false, List, Option, Result, length, take, reverse, None, Some}
use Rattle.std.proofs.Common.{Ok, Err, ap, refl}
use Rattle.std.proofs.Common.{sym, ◌∙◌, subst, arith, inl, inr}
use Rattle.std.proofs.Math.Nat.{mul-le-mul_right}
use Rattle.std.proofs.lemmas.Bool.{cases_Bool, ltb-true}
use Rattle.std.specs.List.{slice_get}
use Rattle.cnf_base.specs.Formula.{Formula}
use Rattle.node_table.specs.declared.node.Node.{Node}
use Rattle.node_table.specs.Diagram.{is_node, levels}
use Rattle.node_table.specs.Value.{by_level, value_of}
use Rattle.node_table.specs.declared.error.TableError.TheVariants.{NodeLimit, OutOfMemory}
use Rattle.node_table.specs.declared.error.TableError.{TableError}
use Rattle.node_table.specs.Progress.{Leaves}
use Rattle.node_table.specs.Table.{live_nodes}
use Rattle.schedule_plan.specs.declared.plan.Move.{Move}
use Rattle.schedule_plan.specs.Plan.{Stage, after_move, after_moves, no_stage}
use Rattle.schedule_plan.specs.SetMove.{in_order, move_in_order}
use Rattle.quantify.specs.RunsFor.{LacksOneOf}
use Rattle.term_runner.specs.Tidy.{WereLeft}
use Rattle.std.proofs.lemmas.List.{length-map}
use Rattle.term_runner.specs.Moves.{Moved}
use Rattle.term_runner.specs.Stacked.{IsAtStage}
use Rattle.term_runner.specs.Price.{IsLeanAtEnd, IsPaid, most_nodes}
use Rattle.bdd_terms.specs.Price.{IsMovePrice}
use Rattle.term_runner.specs.Width.{HasWidth, HoldsAtMost, keeps_trail}
use Rattle.term_runner.specs.Nodes.{IsGivenPart, KeepsOrMakes}
use Rattle.term_runner.specs.Opened.{LeavesKind}
use Rattle.term_runner.specs.Held.{top_node}
use Rattle.node_table.specs.HandedOn.{no_error, came_from, if_handed, no_answer, same_error}
use Rattle.term_runner.proofs.Stacks.{top_stands, top_value}
use Rattle.term_runner.proofs.Between.{IsNext, at_last, leads_here, next_at, some_at, step_at}
use Rattle.bdd_terms.specs.Caches.{all_entries}
use Rattle.term_runner.proofs.Least.{recovered}
use Rattle.term_runner.proofs.Trails.{are_variables}
use Rattle.bdd_terms.proofs.Leaving.{error_handed}
use Rattle.term_runner.proofs.Leaving.{memory_left, most_left}
use Rattle.bdd_terms.proofs.NoEmpty.{further_empty, no_change}
use Rattle.term_runner.proofs.NoEmpty.{no_true}
use Rattle.term_runner.proofs.InHand.{short_at_limit}
use Rattle.term_runner.proofs.Planned.{moved_on}
use Rattle.term_runner.proofs.Few.{added_between, has_added, held_length}
use Rattle.term_runner.proofs.FewLeft.{few_left, in_hand_behind}
use Rattle.term_runner.proofs.Paid.{kind_of_memory, lean_here, paid_behind}
use Rattle.term_runner.proofs.Priced.{moved_few, one_more, tidy_few}
use Rattle.term_runner.proofs.stacked.StackedTerms.take_moves.Given.{Over}
use Rattle.term_runner.proofs.stacked.StackedTerms.take_moves.Goals as goal
use Rattle.term_runner.proofs.stacked.StackedTerms.take_moves.Goals.{After-few_law-2, After-take_move}

pub unreachable-requires : goal.unreachable-requires
unreachable-requires g c = some_at c.args.plan.now c.moves.i (omega (arith, c.moves-test.true, c.len-i-end.ensures))
    c.in_default.ensures.none

pub moves-init : goal.moves-init
moves-init g c =
    let table = c.args.self.now.table in
    record {
      few = omega arith;
      counted = c.requires.begun;
      tidy = inl (omega (arith, c.requires.empty));
      left = λ none width has. omega (arith, c.requires.none_left);
      price = λ width price has is. omega arith;
      size = c.requires.size;
      between = record { stage = no_stage; front = refl; rest = refl; at = c.requires.at };
      ready = c.requires.ready;
      settled = c.requires.settled;
      own = c.requires.own;
      continues = (c.steps_law.ensures.none table c.requires.ready.over.sound).leaves;
      no_empty = no_change table;
    }

pub take_move-requires : goal.take_move-requires
take_move-requires g c =
    let held = c.moves.invariant in
    let between = held.between in
    let at : slice_get (in_order c.args.self.now.table.graph.order c.args.plan.now) c.moves.i ≡ Some
    (move_in_order c.args.self.now.table.graph.order c.in-Some.step.now) = step_at c.args.self.now.table.graph.order c.args.plan.now
    c.moves.i c.in-Some.step.now c.in-Some.ensures.some in
    let next = next_at c.args.formula.now (in_order c.args.self.now.table.graph.order c.args.plan.now) c.moves.i c.moves.self.table.graph
    c.moves.self.table.book.state.live c.moves.self.out.items
    c.moves.self.trail c.requires.plan.last (move_in_order c.args.self.now.table.graph.order c.in-Some.step.now) c.requires.plan.possible
    at between in
    record {
      ready = held.ready;
      settled = held.settled;
      own = held.own;
      stage = between.stage;
      next = next.next;
      at = between.at;
      leads = leads_here c.args.formula.now _ _ _ _ c.in-Some.step.now (sym c.moves.invariant.continues.order) next.is;
    }

-- a reclamation that keeps no term of the trail
without : (most : ℕ) (formula : Formula) (order : List ℕ) (stage : Stage) (left : ℕ) → WereLeft (keeps_trail most) formula order stage left
    → keeps_trail most ≡ false → WereLeft false formula order stage left
without most formula order stage left were none = subst (λ (keeps : Bool). WereLeft keeps formula order stage left) none were

-- fewer nodes than a thousand are few at any width
few_allowed : (most live width : ℕ) → keeps_trail most ≡ true → live ≤ most → live ≤ most_nodes width
few_allowed most live width keeps few = let small = ltb-true most 1000 keeps in omega (arith, small, few)

-- at each move of the plan no more parts are in hand than its width says
at_move : (formula : Formula) (plan : List Move) (order : List ℕ) (i : ℕ) (step : Move) (before after : Stage)
    → slice_get (in_order order plan) i ≡ Some step → after_moves formula no_stage (take i (in_order order plan)) ≡ Some before
    → after_move formula before step ≡ Some after → (width : ℕ) → HasWidth formula order plan width
    → HoldsAtMost formula order before after width
at_move formula plan order i step before after at reached leads width has more =
    has (record {
      count = i;
      before = before;
      after = after;
      move = record { step = step; is = at; reached = reached; leads = leads };
      more = more;
    })

-- the move that was taken, from this stage
next_here : (g : Over) (c : After-take_move g) → IsNext c.args.formula.now (in_order c.args.self.now.table.graph.order c.args.plan.now)
    c.moves.i c.moves.invariant.between.stage
    (move_in_order c.args.self.now.table.graph.order c.in-Some.step.now) c.requires.plan.last
next_here g c =
    let between = c.moves.invariant.between in
    next_at c.args.formula.now (in_order c.args.self.now.table.graph.order c.args.plan.now) c.moves.i c.moves.self.table.graph
    c.moves.self.table.book.state.live c.moves.self.out.items
    c.moves.self.trail c.requires.plan.last (move_in_order c.args.self.now.table.graph.order c.in-Some.step.now) c.requires.plan.possible
    (step_at c.args.self.now.table.graph.order c.args.plan.now c.moves.i c.in-Some.step.now c.in-Some.ensures.some) between

moved_here : (g : Over) (c : After-take_move g) (r : Result Bool TableError)
    → ((stage next : Stage) → IsAtStage c.args.formula.now c.moves.self stage
    → after_move c.args.formula.now stage (move_in_order c.moves.self.table.graph.order c.in-Some.step.now) ≡ Some next
    → Moved c.args.formula.now stage next c.moves.self c.take_move.new.self r)
    → Moved c.args.formula.now c.moves.invariant.between.stage (next_here g c).next c.moves.self c.take_move.new.self r
moved_here g c r moved = moved c.moves.invariant.between.stage (next_here g c).next c.moves.invariant.between.at
    (leads_here c.args.formula.now _ _ _ _ c.in-Some.step.now (sym c.moves.invariant.continues.order) (next_here g c).is)

-- a move gives so many numbers, however it ended
near_by : (g : Over) (c : After-take_move g) (width price : ℕ)
    → HasWidth c.args.formula.now c.args.self.now.table.graph.order c.args.plan.now width
    → IsMovePrice (levels c.args.self.now.table.graph) c.args.capacity width price
    → c.take_move.new.self.table.book.state.top ≤ c.moves.self.table.book.state.top + price
near_by g c width price has is =
    let formula = c.args.formula.now in
    let plan = c.args.plan.now in
    let table = c.moves.self.table in
    let between = c.moves.invariant.between in
    let order = c.moves.invariant.continues.order in
    let at : slice_get (in_order c.args.self.now.table.graph.order c.args.plan.now) c.moves.i ≡ Some
    (move_in_order c.args.self.now.table.graph.order c.in-Some.step.now) = step_at c.args.self.now.table.graph.order c.args.plan.now
    c.moves.i c.in-Some.step.now c.in-Some.ensures.some in
    let next = next_here g c in
    let most : HoldsAtMost formula table.graph.order between.stage next.next width =
    subst (λ (o : List ℕ). HoldsAtMost formula o between.stage next.next width) (sym order)
    (at_move formula plan c.args.self.now.table.graph.order c.moves.i (move_in_order c.args.self.now.table.graph.order c.in-Some.step.now)
    between.stage next.next at between.front next.is width has)
    in
    (moved_here g c _ c.take_move.ensures.moved).price c.args.capacity width price c.moves.invariant.size
    (subst (λ (vars : ℕ). IsMovePrice vars c.args.capacity width price) (sym (ap length order)) is) most

-- and all so far
so_far : (g : Over) (c : After-take_move g) (width price : ℕ)
    → HasWidth c.args.formula.now c.args.self.now.table.graph.order c.args.plan.now width
    → IsMovePrice (levels c.args.self.now.table.graph) c.args.capacity width price
    → c.take_move.new.self.table.book.state.top ≤ c.args.self.now.table.book.state.top + (c.moves.i + 1) * price
so_far g c width price has is =
    let own = near_by g c width price has is in
    let before = c.moves.invariant.price width price has is in
    omega (arith, own, before, one_more c.moves.i price)

-- all moves' price is no less than that of some
within_all : (few all price first last : ℕ) → few ≤ all → last ≤ first + few * price → last ≤ first + all * price
within_all few all price first last small own = let more : few * price ≤ all * price = mul-le-mul_right price small in
    omega (arith, own, more)

pub moves-preserved : goal.moves-preserved
moves-preserved g c =
    let between = c.moves.invariant.between in
    let at : slice_get (in_order c.args.self.now.table.graph.order c.args.plan.now) c.moves.i ≡ Some
    (move_in_order c.args.self.now.table.graph.order c.in-Some.step.now) = step_at c.args.self.now.table.graph.order c.args.plan.now
    c.moves.i c.in-Some.step.now c.in-Some.ensures.some in
    let next = next_at c.args.formula.now (in_order c.args.self.now.table.graph.order c.args.plan.now) c.moves.i c.moves.self.table.graph
    c.moves.self.table.book.state.live c.moves.self.out.items
    c.moves.self.trail c.requires.plan.last (move_in_order c.args.self.now.table.graph.order c.in-Some.step.now) c.requires.plan.possible
    at between in
    let moved : after_moves c.args.formula.now no_stage (take (suc c.moves.i) (in_order c.args.self.now.table.graph.order c.args.plan.now))
    ≡ Some next.next = moved_on c.args.formula.now (in_order c.args.self.now.table.graph.order c.args.plan.now) c.moves.i
    (move_in_order c.args.self.now.table.graph.order c.in-Some.step.now) no_stage between.stage next.next at
    between.front next.is in
    let shift : suc c.moves.i ≡ c.moves.i + 1 = omega arith in
    let own = c.in_ok-take_move.ensures.moved between.stage next.next between.at
    (leads_here c.args.formula.now _ _ _ _ c.in-Some.step.now (sym c.moves.invariant.continues.order) next.is) in
    let front : after_moves c.args.formula.now no_stage (take (c.moves.i + 1) (in_order c.args.self.now.table.graph.order c.args.plan.now))
    ≡ Some next.next = subst (λ (n : ℕ). after_moves c.args.formula.now no_stage
    (take n (in_order c.args.self.now.table.graph.order c.args.plan.now))
    ≡ Some next.next) shift moved in
    record {
      few = omega (arith, c.moves-test.true, c.len-i-end.ensures);
      counted = omega (arith, c.note.ensures, c.moves.invariant.counted);
      price = λ width price has is. so_far g (goal.at.moves-preserved g c).After-take_move width price has is;
      size = own.sizes ∙ c.moves.invariant.size;
      tidy = c.in_ok-take_move.ensures.tidy (ap Ok c.if-branch.false);
      left = λ none width has.
          let before = c.moves.self.table in
          let none_here : keeps_trail c.args.self.now.table.max_nodes ≡ false → keeps_trail before.max_nodes ≡ false = λ is.
          ap keeps_trail c.moves.invariant.continues.max_nodes ∙ is in
          let most = at_move c.args.formula.now c.args.plan.now c.args.self.now.table.graph.order c.moves.i
          (move_in_order c.args.self.now.table.graph.order c.in-Some.step.now) between.stage
          next.next at between.front next.is width has in
          let most_here = subst (λ (o : List ℕ). HoldsAtMost c.args.formula.now o between.stage next.next width)
          (sym c.moves.invariant.continues.order) most in
          let ordered = c.moves.invariant.ready.over.sound.tied.ordered in
          elim own.left [
            | inl same ↦ subst (λ (n : ℕ). n ≤ width) (sym same) (c.moves.invariant.left none width has)
            | inr were ↦ elim were [
              | inl here ↦ few_left c.subfunction_law.ensures c.canonical_law.ensures c.args.formula.now before.graph.order ordered
                  between.stage next.next between.stage (λ term stacked. inl stacked) _
                  (without before.max_nodes c.args.formula.now before.graph.order between.stage _ here (none_here none)) width most_here
              | inr behind ↦
                  few_left c.subfunction_law.ensures c.canonical_law.ensures c.args.formula.now before.graph.order ordered between.stage
                  next.next next.next
                  (in_hand_behind c.args.formula.now between.stage next.next (move_in_order c.args.self.now.table.graph.order
                  c.in-Some.step.now) next.is) _ (without before.max_nodes c.args.formula.now before.graph.order next.next _ behind
                  (none_here none)) width most_here
            ]
          ];
      between = record {
        stage = next.next;
        front = front;
        rest = next.rest ∙ sym c.requires.plan.possible;
        at = own.held c.if-branch.false;
      };
      ready = own.ready;
      settled = own.settled c.if-branch.false;
      own = own.own c.if-branch.false;
      continues = c.steps_law.ensures.go_on c.args.self.now.table c.moves.self.table c.take_move.new.self.table c.moves.invariant.continues
          own.leaves;
      no_empty = further_empty c.args.self.now.table c.moves.self.table c.take_move.new.self.table c.moves.invariant.no_empty
          (own.no_empty no_error (no_true _ c.if-branch.false));
    }

pub recover_all-requires-clause-node : goal.recover_all-requires-clause-node
recover_all-requires-clause-node g c =
    let table = c.moves.self.table in
    let held = at_last c.args.formula.now (in_order c.args.self.now.table.graph.order c.args.plan.now) c.moves.i table.graph
    table.book.state.live c.moves.self.out.items c.moves.self.trail
    c.requires.plan.last (omega (
      arith,
      c.moves-test.false,
      c.len-i-end.ensures,
      length-map c.args.plan.now
          (move_in_order c.args.self.now.table.graph.order),
    )) c.requires.plan.possible c.moves.invariant.between in
    subst (λ (n : Node). is_node table.graph n ≡ true) (sym (c.top-node.ensures ∙ (λ k. top_node (reverse (c.as_slice.ensures.value k)))))
    (top_stands c.args.formula.now table.graph table.book.state.live (reverse c.moves.self.out.items) c.requires.plan.last.stack
    held.held).0

pub recover_all-requires-clause-some : goal.recover_all-requires-clause-some
recover_all-requires-clause-some g c is =
    let table = c.moves.self.table in
    let held = at_last c.args.formula.now (in_order c.args.self.now.table.graph.order c.args.plan.now) c.moves.i table.graph
    table.book.state.live c.moves.self.out.items c.moves.self.trail
    c.requires.plan.last (omega (
      arith,
      c.moves-test.false,
      c.len-i-end.ensures,
      length-map c.args.plan.now
          (move_in_order c.args.self.now.table.graph.order),
    )) c.requires.plan.possible c.moves.invariant.between in
    (top_stands c.args.formula.now table.graph table.book.state.live (reverse c.moves.self.out.items) c.requires.plan.last.stack
    held.held).1
    (sym (c.top-node.ensures ∙ (λ k. top_node (reverse (c.as_slice.ensures.value k)))) ∙ is)

pub recover_all-requires-clause-trail : goal.recover_all-requires-clause-trail
recover_all-requires-clause-trail g c =
    let table = c.moves.self.table in
    let formula = c.args.formula.now in
    let held = at_last formula (in_order c.args.self.now.table.graph.order c.args.plan.now) c.moves.i table.graph table.book.state.live
    c.moves.self.out.items c.moves.self.trail
    c.requires.plan.last (omega (
      arith,
      c.moves-test.false,
      c.len-i-end.ensures,
      length-map c.args.plan.now
          (move_in_order c.args.self.now.table.graph.order),
    )) c.requires.plan.possible c.moves.invariant.between in (
      formula,
      c.requires.plan.last.trail,
      held.kept,
      are_variables formula (in_order c.args.self.now.table.graph.order c.args.plan.now) no_stage c.requires.plan.last
          c.requires.plan.possible tt,
      sym c.moves.invariant.ready.over.vars,
    )

pub returns-clause-found : goal.returns-clause-found
returns-clause-found g c =
    let table = c.moves.self.table in
    let formula = c.args.formula.now in
    let held = at_last formula (in_order c.args.self.now.table.graph.order c.args.plan.now) c.moves.i table.graph table.book.state.live
    c.moves.self.out.items c.moves.self.trail
    c.requires.plan.last (omega (
      arith,
      c.moves-test.false,
      c.len-i-end.ensures,
      length-map c.args.plan.now
          (move_in_order c.args.self.now.table.graph.order),
    )) c.requires.plan.possible c.moves.invariant.between in
    recovered formula table.graph c.args.self.now.table.graph.order c.args.plan.now c.moves.invariant.continues.order c.requires.plan
    c.formula_law.ensures.literals c.moves.invariant.ready.over.vars c.top-node.result
    (λ a. (λ k. value_of table.graph (by_level table.graph.order a)
    ((c.top-node.ensures ∙ (λ m. top_node (reverse (c.as_slice.ensures.value m)))) k))
    ∙ top_value formula table.graph table.book.state.live (reverse c.moves.self.out.items) c.requires.plan.last.stack held.held
    c.requires.plan.one_term a)
    c.in_ok-model.model (c.in_ok-model.ensures formula c.requires.plan.last.trail held.kept)

pub returns-clause-leaves : goal.returns-clause-leaves
returns-clause-leaves g c = c.moves.invariant.continues

pub returns-clause-short : goal.returns-clause-short
returns-clause-short g c is = absurd (no_error is)

pub returns-in_err-take_move-clause-found : goal.returns-in_err-take_move-clause-found
returns-in_err-take_move-clause-found g c = no_answer _ c.in_err-take_move.field-0.0 _ c.from_residual.ensures.1

pub returns-in_err-take_move-clause-leaves : goal.returns-in_err-take_move-clause-leaves
returns-in_err-take_move-clause-leaves g c =
    let old = c.args.self.now.table in
    let mid = c.moves.self.table in
    let new = c.take_move.new.self.table in
    subst (λ (error : Option TableError). Leaves old new error)
    (sym (error_handed _ c.in_err-take_move.field-0.0 c.from_residual.ensures.1))
    (c.steps_law.ensures.leave old mid new
    (Some c.in_err-take_move.field-0.0) c.moves.invariant.continues (moved_here g
    (goal.at.returns-in_err-take_move-clause-leaves g c).After-take_move _ c.in_err-take_move.ensures.moved).leaves)

pub returns-in_err-take_move-clause-short : goal.returns-in_err-take_move-clause-short
returns-in_err-take_move-clause-short g c is =
    let formula = c.args.formula.now in
    let plan = c.args.plan.now in
    let order = c.args.self.now.table.graph.order in
    let new = c.take_move.new.self.table.graph in
    let between = c.moves.invariant.between in
    let next = next_here g (goal.at.returns-in_err-take_move-clause-short g c).After-take_move in
    let limit = ap Err (came_from _ c.in_err-take_move.field-0.0 NodeLimit c.from_residual.ensures.1 is) in
    let same = c.moves.invariant.continues.order in
    let own = moved_here g (goal.at.returns-in_err-take_move-clause-short g c).After-take_move _ c.in_err-take_move.ensures.moved in
    let most = c.moves.invariant.continues.max_nodes in
    let full = subst (λ (o : List ℕ). (were : WereLeft (keeps_trail c.args.self.now.table.max_nodes) formula o between.stage
    c.take_move.new.self.left) × KeepsOrMakes were.graph new (IsGivenPart formula o between.stage next.next)) same (subst (λ (n : ℕ). (were : WereLeft (keeps_trail n) formula c.moves.self.table.graph.order between.stage
    c.take_move.new.self.left) × KeepsOrMakes were.graph new (IsGivenPart formula c.moves.self.table.graph.order between.stage next.next))
    most (own.full limit)) in
    let lacks = subst (λ (o : List ℕ). LacksOneOf new (IsGivenPart formula o between.stage next.next)) same (own.lacks limit) in
    short_at_limit c.subfunction_law.ensures (keeps_trail c.args.self.now.table.max_nodes) formula order c.requires.ready.over.sound.tied.ordered plan c.moves.i between.stage next.next
    (record {
      step = (move_in_order c.args.self.now.table.graph.order c.in-Some.step.now);
      is = step_at order plan c.moves.i c.in-Some.step.now c.in-Some.ensures.some;
      reached = between.front;
      leads = next.is;
    }) c.take_move.new.self.left full.0 new full.1 lacks

pub returns-then-branch-clause-leaves : goal.returns-then-branch-clause-leaves
returns-then-branch-clause-leaves g c =
    c.steps_law.ensures.go_on c.args.self.now.table c.moves.self.table c.take_move.new.self.table c.moves.invariant.continues
    (moved_here g (goal.at.returns-then-branch-clause-leaves g c).After-take_move _ c.in_ok-take_move.ensures.moved).leaves

pub returns-then-branch-clause-found : goal.returns-then-branch-clause-found
returns-then-branch-clause-found g c =
    (moved_here g (goal.at.returns-then-branch-clause-found g c).After-take_move _ c.in_ok-take_move.ensures.moved).refuted c.if-branch.true

pub returns-in_err-model-clause-leaves : goal.returns-in_err-model-clause-leaves
returns-in_err-model-clause-leaves g c =
    let old = c.args.self.now.table in
    let new = c.moves.self.table in
    memory_left old new _ (search rules) c.moves.invariant.continues

-- the nodes behind a move, however it ended
nodes_so_far : (g : Over) (c : After-take_move g) (width : ℕ)
    → HasWidth c.args.formula.now c.args.self.now.table.graph.order c.args.plan.now width → live_nodes c.take_move.new.self.table.graph
    ≤ most_nodes width
nodes_so_far g c width has =
    let formula = c.args.formula.now in
    let plan = c.args.plan.now in
    let table = c.moves.self.table in
    let between = c.moves.invariant.between in
    let at : slice_get (in_order c.args.self.now.table.graph.order c.args.plan.now) c.moves.i ≡ Some
    (move_in_order c.args.self.now.table.graph.order c.in-Some.step.now) = step_at c.args.self.now.table.graph.order c.args.plan.now
    c.moves.i c.in-Some.step.now c.in-Some.ensures.some in
    let next = next_here g c in
    let most : HoldsAtMost formula table.graph.order between.stage next.next width =
    subst (λ (o : List ℕ). HoldsAtMost formula o between.stage next.next width) (sym c.moves.invariant.continues.order)
    (at_move formula plan c.args.self.now.table.graph.order c.moves.i (move_in_order c.args.self.now.table.graph.order c.in-Some.step.now)
    between.stage next.next at between.front next.is width has)
    in
    let moved = moved_here g c _ c.take_move.ensures.moved in
    let allowed : keeps_trail table.max_nodes ≡ keeps_trail c.args.self.now.table.max_nodes = ap keeps_trail
    c.moves.invariant.continues.max_nodes in
    elim (cases_Bool (keeps_trail table.max_nodes)) [
      | inl keeps ↦ few_allowed table.max_nodes (live_nodes c.take_move.new.self.table.graph) width keeps
          (omega (arith, c.take_move.ensures.within, most_left table c.take_move.new.self.table _ moved.leaves))
      | inr none ↦ moved_few (live_nodes table.graph) (live_nodes c.take_move.new.self.table.graph) c.moves.self.left width
          c.moves.invariant.tidy (c.moves.invariant.left (sym allowed ∙ none) width has) (moved.few none width most)
    ]

-- a move that was taken keeps within the price, however it ended
paid_so_far : (g : Over) (c : After-take_move g) (width price : ℕ)
    → HasWidth c.args.formula.now c.args.self.now.table.graph.order c.args.plan.now width
    → IsMovePrice (levels c.args.self.now.table.graph) c.args.capacity width price
    → (error : Option TableError) → Leaves c.moves.self.table c.take_move.new.self.table error
    → LeavesKind c.args.self.now.table c.take_move.new.self.table
    (IsPaid (levels c.args.self.now.table.graph) c.args.self.now.table.inputs c.args.self.now.table.book.state.top (length c.args.plan.now)
    c.args.capacity width price) error
paid_so_far g c width price has is error leaves =
    let first = c.args.self.now.table in
    let mid = c.moves.self.table in
    let new = c.take_move.new.self.table in
    let added =
    added_between c.args.formula.now (in_order c.args.self.now.table.graph.order c.args.plan.now) c.moves.i mid
    (all_entries c.moves.self.caches) c.moves.self.out.items c.moves.self.trail (2
    * c.args.capacity) (c.few_law.ensures c.args.capacity c.moves.invariant.size)
    c.moves.invariant.settled c.moves.invariant.own c.moves.invariant.between in
    let all = within_all (c.moves.i + 1) (length c.args.plan.now) price first.book.state.top new.book.state.top
    (omega (arith, c.moves-test.true, c.len-i-end.ensures)) (so_far g c width price has is) in
    paid_behind c.lean_law.ensures.lean c.in_use_law.ensures first mid new c.moves.invariant.continues first.book.state.top c.args.capacity
    (2 * c.args.capacity + length (reverse c.moves.self.out.items)) (length c.args.plan.now) width price
    added.0 (omega (arith, added.1, c.requires.ready.over.counted)) (omega (arith, all)) (near_by g c width price has is)
    (nodes_so_far g c width has) error leaves

pub returns-in_err-take_move-clause-paid : goal.returns-in_err-take_move-clause-paid
returns-in_err-take_move-clause-paid g c width price has is =
    let first = c.args.self.now.table in
    let new = c.take_move.new.self.table in
    let kind = IsPaid (levels first.graph) first.inputs first.book.state.top (length c.args.plan.now) c.args.capacity width price in
    subst (λ (error : Option TableError). LeavesKind first new kind error) (sym
    (error_handed _ c.in_err-take_move.field-0.0 c.from_residual.ensures.1))
    (paid_so_far g (goal.at.returns-in_err-take_move-clause-paid g c).After-take_move width price has is
    (Some c.in_err-take_move.field-0.0) (moved_here g (goal.at.returns-in_err-take_move-clause-paid g c).After-take_move _
    c.in_err-take_move.ensures.moved).leaves)

pub returns-then-branch-clause-paid : goal.returns-then-branch-clause-paid
returns-then-branch-clause-paid g c width price has is = paid_so_far g
    (goal.at.returns-then-branch-clause-paid g c).After-take_move width price has is None
    (moved_here g (goal.at.returns-then-branch-clause-paid g c).After-take_move _ c.in_ok-take_move.ensures.moved).leaves

-- behind the last move
paid_at_last : (g : Over) (c : After-few_law-2 g) (width price : ℕ)
    → HasWidth c.args.formula.now c.args.self.now.table.graph.order c.args.plan.now width
    → IsMovePrice (levels c.args.self.now.table.graph) c.args.capacity width price
    → IsPaid (levels c.args.self.now.table.graph) c.args.self.now.table.inputs c.args.self.now.table.book.state.top
    (length c.args.plan.now) c.args.capacity width price c.moves.self.table.book.state
paid_at_last g c width price has is =
    let first = c.args.self.now.table in
    let mid = c.moves.self.table in
    let added =
    added_between c.args.formula.now (in_order c.args.self.now.table.graph.order c.args.plan.now) c.moves.i mid
    (all_entries c.moves.self.caches) c.moves.self.out.items c.moves.self.trail (2
    * c.args.capacity) (c.few_law-2.ensures c.args.capacity c.moves.invariant.size)
    c.moves.invariant.settled c.moves.invariant.own c.moves.invariant.between in
    let all = within_all c.moves.i (length c.args.plan.now) price first.book.state.top mid.book.state.top c.moves.invariant.few
    (c.moves.invariant.price width price has is) in
    let few : live_nodes mid.graph ≤ most_nodes width = elim (cases_Bool (keeps_trail first.max_nodes)) [
      | inl keeps ↦ few_allowed first.max_nodes (live_nodes mid.graph) width keeps
          (omega (arith, c.table_law.ensures.few_nodes, c.moves.invariant.continues.max_nodes))
      | inr none ↦
          let tidy = tidy_few (live_nodes mid.graph) c.moves.self.left width c.moves.invariant.tidy (c.moves.invariant.left none width has) in
          omega (arith, tidy)
    ] in
    paid_behind c.lean_law.ensures.lean c.in_use_law.ensures first mid mid c.moves.invariant.continues first.book.state.top c.args.capacity
    (2 * c.args.capacity + length (reverse c.moves.self.out.items)) (length c.args.plan.now) width price
    added.0 (omega (arith, added.1, c.requires.ready.over.counted)) (omega (arith, all)) (omega arith)
    (omega (arith, few)) None (c.steps_law.ensures.none mid c.moves.invariant.ready.over.sound).leaves

pub returns-in_err-model-clause-paid : goal.returns-in_err-model-clause-paid
returns-in_err-model-clause-paid g c width price has is =
    kind_of_memory c.args.self.now.table c.moves.self.table
    (IsPaid (levels c.args.self.now.table.graph) c.args.self.now.table.inputs c.args.self.now.table.book.state.top (length c.args.plan.now)
    c.args.capacity width price) _
    (search rules)
    (paid_at_last g (goal.at.returns-in_err-model-clause-paid g c).After-few_law-2 width price has is)

pub returns-clause-paid : goal.returns-clause-paid
returns-clause-paid g c width price has is = paid_at_last g (goal.at.returns-clause-paid g c).After-few_law-2 width price has is

pub returns-clause-lean : goal.returns-clause-lean
returns-clause-lean g c some =
    let formula = c.args.formula.now in
    let first = c.args.self.now.table in
    let table = c.moves.self.table in
    let so_far = c.moves.invariant.continues in
    let held = at_last formula (in_order c.args.self.now.table.graph.order c.args.plan.now) c.moves.i table.graph table.book.state.live
    c.moves.self.out.items c.moves.self.trail
    c.requires.plan.last (omega (
      arith,
      c.moves-test.false,
      c.len-i-end.ensures,
      length-map c.args.plan.now
          (move_in_order c.args.self.now.table.graph.order),
    )) c.requires.plan.possible c.moves.invariant.between in
    let one = held_length formula table.graph table.book.state.live (reverse c.moves.self.out.items) c.requires.plan.last.stack held.held in
    let added = has_added table (all_entries c.moves.self.caches) (reverse c.moves.self.out.items) (2
    * c.args.capacity) (c.few_law-2.ensures c.args.capacity c.moves.invariant.size) c.moves.invariant.settled c.moves.invariant.own in
    let own = lean_here c.lean_law.ensures.lean table c.moves.invariant.ready.over.sound (2 * c.args.capacity
    + length (reverse c.moves.self.out.items)) added in
    let more : IsLeanAtEnd (levels table.graph) table.inputs c.args.capacity table.book.state = omega
    (arith, own, one, c.requires.plan.one_term) in
    subst (λ (vars : ℕ). IsLeanAtEnd vars first.inputs c.args.capacity table.book.state) (ap length so_far.order)
    (subst (λ (inputs : ℕ). IsLeanAtEnd (levels table.graph) inputs c.args.capacity table.book.state) so_far.inputs more)

pub returns-in_err-take_move-clause-no_empty : goal.returns-in_err-take_move-clause-no_empty
returns-in_err-take_move-clause-no_empty g c =
    let came = c.in_err-take_move.field-0.0 in
    if_handed _ came _ c.from_residual.ensures.1
    (λ whole. further_empty c.args.self.now.table c.moves.self.table c.take_move.new.self.table c.moves.invariant.no_empty
    ((moved_here g (goal.at.returns-in_err-take_move-clause-no_empty g c).After-take_move _ c.in_err-take_move.ensures.moved).no_empty
    (λ torn. whole (same_error torn)) (λ is. no_error (sym is))))

pub returns-in_err-model-clause-no_empty : goal.returns-in_err-model-clause-no_empty
returns-in_err-model-clause-no_empty g c = if_handed _ OutOfMemory _ c.from_residual-in_err-model.ensures.1
    (λ whole. c.moves.invariant.no_empty)
