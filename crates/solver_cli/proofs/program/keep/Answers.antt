-- What is left to show of `keep`.
use Rattle.std.proofs.Common.{rules, refl}
use Rattle.host_io.specs.declared.role.Role.TheVariants.{ProofOut, Made, Out}
use Rattle.solver_cli.proofs.StagedTrim.{keeps, kept_all, kept_core, kept_steps, uncored, unkept}
use Rattle.solver_cli.proofs.program.keep.Goals as goal

pub returns-then-is_err-clause-came : goal.returns-then-is_err-clause-came
returns-then-is_err-clause-came g c =
    unkept c.put_proof.result c.put_proof.ensures.puts (search rules) (c.put_proof.ensures.kept.others Made refl)
    (c.put_proof.ensures.kept.others Out refl) refl

pub returns-then-is_err-clause-beside : goal.returns-then-is_err-clause-beside
returns-then-is_err-clause-beside g c = kept_steps c.put_proof.ensures.kept

pub returns-then-is_err-2-clause-came : goal.returns-then-is_err-2-clause-came
returns-then-is_err-2-clause-came g c =
    uncored c.put_core.result c.put_proof.ensures.puts (search rules) (c.put_core.ensures.kept.others ProofOut refl)
    (c.put_proof.ensures.kept.others Made refl) (c.put_proof.ensures.kept.others Out refl) c.put_core.ensures.puts (search rules)
    (c.put_core.ensures.kept.others Out refl) refl

pub returns-then-is_err-2-clause-beside : goal.returns-then-is_err-2-clause-beside
returns-then-is_err-2-clause-beside g c = kept_core c.put_proof.ensures.kept c.put_core.ensures.kept

pub returns-clause-came : goal.returns-clause-came
returns-clause-came g c =
    keeps c.put_proof.ensures.puts (search rules) (c.put_core.ensures.kept.others ProofOut refl)
    (c.put_trimmed-printed.ensures.kept.others ProofOut refl) c.put_core.ensures.puts (search rules) (c.put_proof.ensures.kept.others Made refl)
    (c.put_trimmed-printed.ensures.kept.others Made refl) (c.put_proof.ensures.kept.others Out refl) (c.put_core.ensures.kept.others Out refl)
    c.put_trimmed-printed.ensures.puts c.ended_by.ensures

pub returns-clause-beside : goal.returns-clause-beside
returns-clause-beside g c = kept_all c.requires.unnamed c.put_proof.ensures.kept c.put_core.ensures.kept c.put_trimmed-printed.ensures.kept
