-- The run so far.
use Rattle.std.specs.Prelude.{◌≡◌}
use Rattle.lrat_text.specs.declared.reader.ReaderStatus.TheVariants.{Reading}
use Rattle.lrat_text.specs.LineReader.{fuel}
use Rattle.proof_judging.proofs.Running.{SoFar}
use Rattle.proof_judging.proofs.judging.judge_steps.Given as goal

abbrev pub invariant-steps : goal.invariant-steps
invariant-steps g l =
    let rules = g.J.StepJudge.rules in
    record {
      reading : l.reader.status ≡ Reading;
      ready : g.J.StepJudge.is_ready l.judge l.world;
      so_far : SoFar g.F.LineForm.form g.J.StepJudge.tells rules (g.J.StepJudge.channel l.fn.world) (g.J.StepJudge.channel l.world)
          (rules.place l.fn.judge) (rules.place l.judge) (rules.work l.fn.judge l.fn.world) (rules.work l.judge l.world) l.has_empty
          l.fn.reader l.reader;
    }

abbrev pub decreases-steps : goal.decreases-steps
decreases-steps g l = fuel g.F.LineForm.form l.reader
