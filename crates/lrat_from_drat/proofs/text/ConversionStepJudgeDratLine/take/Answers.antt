-- By what comes of the step.
use Rattle.std.proofs.Common.{refl}
use Rattle.host_io.specs.declared.role.Role.TheVariants.{ProofIn, ProofOut}
use Rattle.drat_rules.specs.Clauses.{equality_of}
use Rattle.lrat_from_drat.specs.declared.text.Conversion.{Conversion}
use Rattle.lrat_from_drat.proofs.Converting.{takes_judges, takes_writes, where_good}
use Rattle.lrat_from_drat.proofs.text.ConversionStepJudgeDratLine.take.Goals as goal

pub returns-clause-judges : goal.returns-clause-judges
returns-clause-judges g c =
    takes_judges (λ (conversion : Conversion). equality_of conversion.deletions) (λ (conversion : Conversion). conversion.judge)
    g.H.Host.channel g.H.Host.files g.H.Host.tells (g.H.Host.channel c.args.host.now ProofOut)
    (g.H.Host.channel c.take_step.new.host ProofOut) (equality_of c.args.self.now.deletions) c.args.self.now.judge c.take_step.new.judge
    c.args.step.now c.take_step.result c.take_step.ensures.takes

pub returns-clause-does : goal.returns-clause-does
returns-clause-does g c = (
  c.take_step.ensures.kept,
  takes_writes g.H.Host.tells (g.H.Host.channel c.args.host.now ProofOut) (g.H.Host.channel c.take_step.new.host ProofOut)
      (equality_of c.args.self.now.deletions) c.args.self.now.judge c.take_step.new.judge c.args.step.now c.take_step.result
      c.requires.ready.followed c.take_step.ensures.takes,
  c.take_step.ensures.takes,
)

pub returns-clause-unread : goal.returns-clause-unread
returns-clause-unread g c = c.take_step.ensures.kept.others ProofIn refl

pub returns-clause-ready : goal.returns-clause-ready
returns-clause-ready g c =
    where_good (g.H.Host.channel c.args.host.now ProofIn) (g.H.Host.channel c.take_step.new.host ProofIn)
    (g.H.Host.channel c.args.host.now ProofOut) (g.H.Host.channel c.take_step.new.host ProofOut) g.H.Host.tells
    c.args.self.now.line.is_wanted c.take_step.new.line.is_wanted (equality_of c.args.self.now.deletions) c.args.self.now.judge
    c.take_step.new.judge c.args.step.now c.take_step.result c.requires.ready c.take_step.ensures.takes
    (c.take_step.ensures.kept.others ProofIn refl) c.take_step.ensures.wanted
