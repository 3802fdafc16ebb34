-- What is left to show of `run`.
use Rattle.solver_cli.proofs.VerdictLaws.{both}
use Rattle.solver_cli.proofs.Whole.{promises}
use Rattle.solver_cli.proofs.program.run.Goals as goal

pub returns : goal.returns
returns g c = record {
  promises = λ texts fits. promises
      (both
      (record {
        sound = c.soundness_law.ensures.refuted;
        verified = c.check_law.ensures.verified;
        refused = c.check_law.ensures.refused;
        overlong = c.check_law.ensures.overlong;
      })
      (record {
        sound = c.check_drat_law.ensures.refuted;
        verified = c.check_drat_law.ensures.verified;
        overlong = c.check_drat_law.ensures.overlong;
      })
      (record {
        refutes = c.trim_law.ensures.refutes;
        named = c.trim_law.ensures.named;
        verified = c.trim_law.ensures.verified;
        again = c.trim_law.ensures.again;
        core_refuted = c.trim_law.ensures.core_refuted;
        core_unsatisfiable = c.trim_law.ensures.core_unsatisfiable;
      }))
      _ (g.H.Host.channel c.work-status.new.host) (g.H.Host.channel c.explain.new.host) (g.H.Host.files c.work-status.new.host)
      (g.H.Host.files c.explain.new.host) c.requires.unnamed
      c.work-status.ensures.stages c.work-status.ensures.told c.work-status.ensures.files c.explain.ensures.told c.explain.ensures.kept
      c.complain.ensures.complains c.complain.ensures.kept;
}
