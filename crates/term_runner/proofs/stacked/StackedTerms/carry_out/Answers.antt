-- Each move is one of four calls.
use Rattle.std.proofs.Common.{◌≡◌, Some, subst}
use Rattle.schedule_plan.specs.declared.plan.Move.{Move}
use Rattle.schedule_plan.specs.Plan.{after_move}
use Rattle.schedule_plan.specs.SetMove.{move_in_order}
use Rattle.term_runner.specs.Moves.{MayMove}
use Rattle.term_runner.proofs.stacked.StackedTerms.carry_out.Goals as goal

pub push-requires : goal.push-requires
push-requires g c = subst (λ (m : Move). MayMove c.args.formula.now m c.args.self.now) c.in-Push.is c.requires

pub returns-in-Push : goal.returns-in-Push
returns-in-Push g c stage next at leads =
    c.push.ensures stage next at
    (subst (λ (m : Move). after_move c.args.formula.now stage (move_in_order c.args.self.now.table.graph.order m) ≡ Some next)
    c.in-Push.is leads)

pub conjoin-requires : goal.conjoin-requires
conjoin-requires g c = (
  c.args.formula.now,
  subst (λ (m : Move). MayMove c.args.formula.now m c.args.self.now) c.in-And.is c.requires,
)

pub returns-in-And : goal.returns-in-And
returns-in-And g c stage next at leads =
    c.conjoin.ensures c.args.formula.now stage next c.requires.ready at
    (subst (λ (m : Move). after_move c.args.formula.now stage (move_in_order c.args.self.now.table.graph.order m) ≡ Some next)
    c.in-And.is leads)

pub quantify-requires : goal.quantify-requires
quantify-requires g c = (
  c.args.formula.now,
  subst (λ (m : Move). MayMove c.args.formula.now m c.args.self.now) c.in-Exists.is c.requires,
)

pub returns-in-Exists : goal.returns-in-Exists
returns-in-Exists g c stage next at leads =
    c.quantify.ensures c.args.formula.now stage next c.requires.ready at
    (subst (λ (m : Move). after_move c.args.formula.now stage (move_in_order c.args.self.now.table.graph.order m) ≡ Some next)
    c.in-Exists.is leads)

pub quantify_all-requires : goal.quantify_all-requires
quantify_all-requires g c = (
  c.args.formula.now,
  subst (λ (m : Move). MayMove c.args.formula.now m c.args.self.now) c.in-ExistsAll.is c.requires,
)

pub returns-in-ExistsAll : goal.returns-in-ExistsAll
returns-in-ExistsAll g c stage next at leads =
    c.quantify_all.ensures c.args.formula.now stage next c.requires.ready at
    (subst (λ (m : Move). after_move c.args.formula.now stage (move_in_order c.args.self.now.table.graph.order m) ≡ Some next)
    c.in-ExistsAll.is leads)
