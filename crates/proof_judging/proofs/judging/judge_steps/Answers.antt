-- Each turn is a step more, and each exit the end of the run.
use Rattle.std.proofs.Common.{rules, ◌∙◌, ap, subst}
use Rattle.std.specs.Prelude.{Ok}
use Rattle.lrat_text.specs.LineReader.{given}
use Rattle.proof_judging.specs.Verdict.{end_verdict}
use Rattle.proof_judging.specs.Rules.{ReadsStep}
use Rattle.proof_judging.proofs.Running.{none_yet, turn}
use Rattle.proof_judging.proofs.Ending.{stops_bad, stops_error, stops_last, stops_unanswered}
use Rattle.proof_judging.proofs.judging.judge_steps.Goals as goal

pub steps-init : goal.steps-init
steps-init g c =
    let rules = g.J.StepJudge.rules in
    record {
      reading = c.requires.reading;
      ready = c.requires.ready;
      so_far = none_yet g.F.LineForm.form g.J.StepJudge.tells rules (g.J.StepJudge.channel c.args.world.now)
          (rules.place c.args.judge.now) (rules.work c.args.judge.now c.args.world.now) c.args.reader.now;
    }

pub steps-preserved : goal.steps-preserved
steps-preserved g c =
    let read = subst (λ x. ReadsStep g.F.LineForm.form g.J.StepJudge.tells (g.J.StepJudge.channel c.steps.world)
    (g.J.StepJudge.channel c.next.new.world) c.steps.reader c.next.new.reader (given c.next.new.step (Ok x))) c.in-Ok-Some.field-0-is
    c.in-Ok-Some.ensures.reads in
    record {
      reading = read.moves.reading;
      ready = search rules;
      so_far = turn _ _ g.J.StepJudge.rules _ _ _ _ _ _ _ _ _ _ _ _ _ c.steps.invariant.so_far c.in-Ok-Some.ensures.work _ _
          c.in-Ok-None-take.ensures.unread c.next.new.step _ c.in-Ok-Some.line _ _ c.in-Ok-Some.ensures.reads
          c.in-Ok-Some.field-0-is c.in-Ok-None-take.ensures.judges c.in-Ok-None-take.ensures.does c.in-Ok-None-take.field-0-is
          c.or_adds_empty-has_empty.ensures;
    }

pub returns-in-Ok-Some-take-clause-runs : goal.returns-in-Ok-Some-take-clause-runs
returns-in-Ok-Some-take-clause-runs g c =
    (stops_bad _ _ g.J.StepJudge.rules c.told_law.ensures _ _ _ _ _ _ _ _ _ _ _ _ c.steps.invariant.so_far c.in-Ok-Some.ensures.work _ _
    c.in-Ok-Some-take.ensures.unread c.next.new.step _ c.in-Ok-Some.line c.in-Ok-Some.ensures.reads
    c.in-Ok-Some.field-0-is c.near_law.ensures _ _ c.in-Ok-Some-take.reason c.in-Ok-Some-take.ensures.judges c.in-Ok-Some-take.ensures.does
    c.in-Ok-Some-take.field-0-is).0

pub returns-in-Ok-Some-take-clause-checks : goal.returns-in-Ok-Some-take-clause-checks
returns-in-Ok-Some-take-clause-checks g c =
    (stops_bad _ _ g.J.StepJudge.rules c.told_law.ensures _ _ _ _ _ _ _ _ _ _ _ _ c.steps.invariant.so_far c.in-Ok-Some.ensures.work _ _
    c.in-Ok-Some-take.ensures.unread c.next.new.step _ c.in-Ok-Some.line c.in-Ok-Some.ensures.reads
    c.in-Ok-Some.field-0-is c.near_law.ensures _ _ c.in-Ok-Some-take.reason c.in-Ok-Some-take.ensures.judges c.in-Ok-Some-take.ensures.does
    c.in-Ok-Some-take.field-0-is).1

pub returns-in-Err-take-clause-runs : goal.returns-in-Err-take-clause-runs
returns-in-Err-take-clause-runs g c =
    (stops_unanswered _ _ g.J.StepJudge.rules c.told_law.ensures _ _ _ _ _ _ _ _ _ _ _ _ c.steps.invariant.so_far c.in-Ok-Some.ensures.work
    (g.J.StepJudge.rules.place c.take.new.self) _
    c.in-Err-take.ensures.unread c.next.new.step _ c.in-Ok-Some.line c.in-Ok-Some.ensures.reads
    c.in-Ok-Some.field-0-is c.near_law.ensures _ c.in-Err-take.error c.in-Err-take.ensures.judges c.in-Err-take.ensures.does).0

pub returns-in-Err-take-clause-checks : goal.returns-in-Err-take-clause-checks
returns-in-Err-take-clause-checks g c =
    (stops_unanswered _ _ g.J.StepJudge.rules c.told_law.ensures _ _ _ _ _ _ _ _ _ _ _ _ c.steps.invariant.so_far c.in-Ok-Some.ensures.work
    (g.J.StepJudge.rules.place c.take.new.self) _
    c.in-Err-take.ensures.unread c.next.new.step _ c.in-Ok-Some.line c.in-Ok-Some.ensures.reads
    c.in-Ok-Some.field-0-is c.near_law.ensures _ c.in-Err-take.error c.in-Err-take.ensures.judges c.in-Err-take.ensures.does).1

pub returns-in-Ok-None-clause-runs : goal.returns-in-Ok-None-clause-runs
returns-in-Ok-None-clause-runs g c =
    (stops_last _ _ g.J.StepJudge.rules c.told_law.ensures _ _ _ _ _ _ _ _ _ _ _ _ c.steps.invariant.so_far c.in-Ok-None.ensures.work _ c.next.new.step
    c.in-Ok-None.ensures.reads c.in-Ok-None.field-0-is _ (c.verdict_at_end.ensures ∙ ap (end_verdict c.steps.has_empty) c.line.ensures)).0

pub returns-in-Ok-None-clause-checks : goal.returns-in-Ok-None-clause-checks
returns-in-Ok-None-clause-checks g c =
    (stops_last _ _ g.J.StepJudge.rules c.told_law.ensures _ _ _ _ _ _ _ _ _ _ _ _ c.steps.invariant.so_far c.in-Ok-None.ensures.work _ c.next.new.step
    c.in-Ok-None.ensures.reads c.in-Ok-None.field-0-is _ (c.verdict_at_end.ensures ∙ ap (end_verdict c.steps.has_empty) c.line.ensures)).1

pub returns-in-Err-clause-runs : goal.returns-in-Err-clause-runs
returns-in-Err-clause-runs g c =
    (stops_error _ _ g.J.StepJudge.rules c.told_law.ensures _ _ _ _ _ _ _ _ _ _ _ _ c.steps.invariant.so_far c.in-Err.ensures.work c.in-Err.error _
    c.in-Err.ensures.reads c.answer_by.ensures).0

pub returns-in-Err-clause-checks : goal.returns-in-Err-clause-checks
returns-in-Err-clause-checks g c =
    (stops_error _ _ g.J.StepJudge.rules c.told_law.ensures _ _ _ _ _ _ _ _ _ _ _ _ c.steps.invariant.so_far c.in-Err.ensures.work c.in-Err.error _
    c.in-Err.ensures.reads c.answer_by.ensures).1
