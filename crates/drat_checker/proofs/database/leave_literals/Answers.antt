-- One list after another.
use Rattle.drat_checker.proofs.Kept.{rising-then}
use Rattle.drat_checker.proofs.database.leave_literals.Goals as goal

pub loop-literal-preserved : goal.loop-literal-preserved
loop-literal-preserved c = record {
  kept = record {
    kept = λ key. record {
      kept = λ number is has.
          (c.leave.ensures.kept.kept key).kept number is ((c.loop-literal.invariant.kept.kept key).kept number is has);
    };
  };
  rising = λ most. rising-then (c.loop-literal.invariant.rising most) (c.leave.ensures.rising most);
}
