-- What is left to show of `rewrite`.
use Rattle.std.proofs.Common.{rules, refl, sym}
use Rattle.host_io.specs.declared.role.Role.TheVariants.{ProofIn, ProofOut}
use Rattle.solver_cli.proofs.Converting.{kept_as, kept_read, kept_written, rewritten, then_kept, uncreated, unread}
use Rattle.solver_cli.proofs.conversion.rewrite.Goals as goal

pub returns-then-is_err-clause-rewrites : goal.returns-then-is_err-clause-rewrites
returns-then-is_err-clause-rewrites g c =
    unread c.open_read.ensures.opens (search rules) (c.open_read.ensures.kept.others ProofOut refl) c.requires.unwritten

pub returns-then-is_err-2-clause-rewrites : goal.returns-then-is_err-2-clause-rewrites
returns-then-is_err-2-clause-rewrites g c =
    uncreated c.open_read.ensures.opens (search rules) (c.open_read.ensures.kept.others ProofOut refl) c.create.ensures.opens (search rules)
    (c.create.ensures.kept.others ProofIn refl)

pub returns-clause-rewrites : goal.returns-clause-rewrites
returns-clause-rewrites g c =
    rewritten c.open_read.ensures.opens (search rules) c.open_read.ensures.content
    (c.open_read.ensures.kept.others ProofOut refl)
    c.create.ensures.opens (search rules) (c.create.ensures.kept.others ProofIn refl) c.convert_opened.ensures.converts

pub returns-then-is_err-clause-kept : goal.returns-then-is_err-clause-kept
returns-then-is_err-clause-kept g c = kept_read c.open_read.ensures.kept

pub returns-then-is_err-2-clause-kept : goal.returns-then-is_err-2-clause-kept
returns-then-is_err-2-clause-kept g c = then_kept (kept_read c.open_read.ensures.kept) (kept_written c.create.ensures.kept refl)

pub returns-clause-kept : goal.returns-clause-kept
returns-clause-kept g c =
    kept_as (sym c.convert_opened.ensures.converts.name)
    (then_kept (then_kept (kept_read c.open_read.ensures.kept) (kept_written c.create.ensures.kept refl)) c.convert_opened.ensures.kept)
