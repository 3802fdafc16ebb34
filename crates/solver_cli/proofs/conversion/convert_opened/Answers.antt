-- What is left to show of `convert_opened`.
use Rattle.std.proofs.Common.{rules, refl, Ok, Err}
use Rattle.host_io.specs.declared.role.Role.TheVariants.{ProofIn}
use Rattle.solver_cli.proofs.Converting.{flushed, torn, unflushed}
use Rattle.solver_cli.proofs.conversion.convert_opened.Goals as goal

pub returns-in_err-verdict-clause-converts : goal.returns-in_err-verdict-clause-converts
returns-in_err-verdict-clause-converts g c =
    unflushed
    c.convert_into.ensures.converts
    c.in_err-verdict.was (first_of (search rules, cc))

pub returns-in-Ok-clause-converts : goal.returns-in-Ok-clause-converts
returns-in-Ok-clause-converts g c =
    flushed
    c.convert_into.ensures.converts
    c.in_ok-verdict.was (Ok c.in-Ok.field-0) c.in-Ok.ensures.flushes refl (c.flush.ensures.kept.others ProofIn refl)

pub returns-in-Err-clause-converts : goal.returns-in-Err-clause-converts
returns-in-Err-clause-converts g c =
    torn
    c.convert_into.ensures.converts
    c.in_ok-verdict.was (Err c.in-Err.field-0) c.in-Err.ensures.flushes refl (c.flush.ensures.kept.others ProofIn refl)
