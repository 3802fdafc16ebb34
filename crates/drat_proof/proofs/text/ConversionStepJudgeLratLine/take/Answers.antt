-- By what comes of the step.
use Rattle.std.proofs.Common.{refl, sym, ◌∙◌, ap}
use Rattle.host_io.specs.declared.role.Role.TheVariants.{ProofIn, ProofOut}
use Rattle.host_io.specs.Channel.{Channel}
use Rattle.drat_proof.specs.declared.text.Conversion.{Conversion}
use Rattle.drat_proof.specs.Naming.{names_ahead}
use Rattle.drat_proof.proofs.Converting.{takes_judges, takes_on, takes_writes, where_good}
use Rattle.drat_proof.proofs.text.ConversionStepJudgeLratLine.take.Goals as goal

pub returns-clause-judges : goal.returns-clause-judges
returns-clause-judges g c =
    takes_judges (λ (conversion : Conversion). conversion.judge) (λ (conversion : Conversion). names_ahead conversion.naming)
    g.H.Host.channel g.H.Host.files g.H.Host.tells (g.H.Host.channel c.args.host.now ProofOut)
    (g.H.Host.channel c.take_step.new.host ProofOut) c.args.self.now.judge c.take_step.new.judge (names_ahead c.args.self.now.naming)
    (names_ahead c.take_step.new.naming) c.args.step.now c.take_step.result c.take_step.ensures.takes

pub returns-clause-does : goal.returns-clause-does
returns-clause-does g c = (
  c.take_step.ensures.kept,
  takes_on g.H.Host.tells (g.H.Host.channel c.args.host.now ProofOut) (g.H.Host.channel c.take_step.new.host ProofOut)
      c.args.self.now.judge c.take_step.new.judge (names_ahead c.args.self.now.naming) (names_ahead c.take_step.new.naming)
      c.args.step.now c.take_step.result c.take_step.ensures.takes,
)

pub returns-clause-unread : goal.returns-clause-unread
returns-clause-unread g c = c.take_step.ensures.kept.others ProofIn refl

pub returns-clause-ready : goal.returns-clause-ready
returns-clause-ready g c =
    let in_name = ap (λ (x : Channel). x.name) (c.take_step.ensures.kept.others ProofIn refl) in
    let out_name = (takes_writes g.H.Host.tells (g.H.Host.channel c.args.host.now ProofOut)
    (g.H.Host.channel c.take_step.new.host ProofOut) c.args.self.now.judge c.take_step.new.judge (names_ahead c.args.self.now.naming)
    (names_ahead c.take_step.new.naming) c.args.step.now c.take_step.result c.take_step.ensures.takes).name in
    where_good c.take_step.result
    ((λ e. c.requires.ready.0 (sym in_name ∙ e)), (λ e. c.requires.ready.1 (sym out_name ∙ e)))
