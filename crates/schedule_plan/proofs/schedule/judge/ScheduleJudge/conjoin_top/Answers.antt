-- What is left to show of `ScheduleJudge::conjoin_top`.
use Rattle.std.proofs.Common.{refl, ap, ◌∙◌, ◌-◌, take, length}
use Rattle.schedule_plan.proofs.Steps.{and_at}
use Rattle.schedule_plan.proofs.schedule.judge.ScheduleJudge.conjoin_top.Goals as goal

pub returns-clause-stands : goal.returns-clause-stands
returns-clause-stands c =
    let old = c.args.self.now in
    let fewer = c.truncate.ensures.items ∙ ap (λ n. take (n - 1) old.starts.items) (ap length c.as_slice-terms.ensures.value) in
    let next = and_at c.args.formula.now old (record {
      moves = c.push.new.self;
      uses = old.uses;
      flags = old.flags;
      starts = c.truncate.new.self;
      pushes = old.pushes;
    })
    c.requires.stands.stage c.requires.stands.at c.requires.two c.in_ok-push.ensures.items refl refl fewer refl in
    record { stage = next.0; at = next.1 }
