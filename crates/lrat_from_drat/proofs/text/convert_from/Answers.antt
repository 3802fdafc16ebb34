-- The steps behind the beginning, and a beginning that failed.
use Rattle.std.proofs.Common.{Err, refl, sym, subst}
use Rattle.host_io.specs.declared.role.Role.TheVariants.{ProofIn, ProofOut}
use Rattle.host_io.specs.Channel.{Channel}
use Rattle.drat_rules.specs.Clauses.{equality_of}
use Rattle.drat_proof.proofs.Roles.{kept_none, kept_then_second}
use Rattle.lrat_from_drat.specs.Following.{Follows}
use Rattle.lrat_from_drat.specs.Conversion.{ConvertsFrom}
use Rattle.lrat_from_drat.proofs.Whole.{ends-early, goes-on-from, kept_then_both}
use Rattle.lrat_from_drat.proofs.text.convert_from.Goals as goal

pub convert_steps-requires-clause-followed : goal.convert_steps-requires-clause-followed
convert_steps-requires-clause-followed g c =
    let begun = c.in-Ok.ensures.begins c.requires.clauses.0 c.requires.clauses.1 in
    (begun.then, subst (Follows begun.then) (sym c.requires.clauses.1) begun.follows)

pub returns-in-Ok-clause-converts : goal.returns-in-Ok-clause-converts
returns-in-Ok-clause-converts g c = λ clauses is.
    goes-on-from (c.in-Ok.ensures.begins clauses is) (c.begin_in.ensures.kept.others ProofIn refl) is c.convert_steps.ensures.converts

pub returns-in-Ok-clause-kept : goal.returns-in-Ok-clause-kept
returns-in-Ok-clause-kept g c =
    let begun = c.in-Ok.ensures.begins c.requires.clauses.0 c.requires.clauses.1 in
    kept_then_both c.begin_in.ensures.kept c.convert_steps.ensures.kept begun.lines.name

pub returns-in-Err-clause-converts : goal.returns-in-Err-clause-converts
returns-in-Err-clause-converts g c = λ clauses is.
    subst (λ (i : Channel). ConvertsFrom g.H.Host.tells (g.H.Host.channel c.args.host.now ProofIn) i
    (g.H.Host.channel c.args.host.now ProofOut) (g.H.Host.channel c.begin_in.new.host ProofOut)
    (equality_of c.args.conversion.now.deletions) clauses
    c.args.reader.now (Err c.in-Err.error)) (sym (c.begin_in.ensures.kept.others ProofIn refl))
    (ends-early g.H.Host.tells (g.H.Host.channel c.args.host.now ProofIn) (g.H.Host.channel c.args.host.now ProofOut)
    (g.H.Host.channel c.begin_in.new.host ProofOut) (equality_of c.args.conversion.now.deletions) clauses c.args.reader.now c.in-Err.error
    (c.in-Err.ensures.begins clauses is))

pub returns-in-Err-clause-kept : goal.returns-in-Err-clause-kept
returns-in-Err-clause-kept g c = kept_then_second (kept_none _ _) c.begin_in.ensures.kept refl
