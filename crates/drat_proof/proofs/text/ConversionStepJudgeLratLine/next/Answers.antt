-- The roles keep their names.
use Rattle.std.proofs.Common.{refl, sym, ◌∙◌, ap}
use Rattle.host_io.specs.declared.role.Role.TheVariants.{ProofOut}
use Rattle.host_io.specs.Channel.{Channel}
use Rattle.drat_proof.proofs.text.ConversionStepJudgeLratLine.next.Goals as goal

pub returns-clause-work : goal.returns-clause-work
returns-clause-work g c = (refl, c.read_step.ensures.kept)

pub returns-clause-ready : goal.returns-clause-ready
returns-clause-ready g c =
    let out_name = ap (λ (x : Channel). x.name) (c.read_step.ensures.kept.others ProofOut refl) in
    ((λ e. c.requires.ready.0 (sym c.read_step.ensures.reads.reads.name ∙ e)), (λ e. c.requires.ready.1 (sym out_name ∙ e)))
