-- A refusal leaves the sets as they were, and the places stand where the stamps do.
use Rattle.std.proofs.Common.{◌≡◌, true, subst, sym}
use Rattle.lrat_rules.specs.Stamps.{has_place}
use Rattle.lrat_rules.specs.declared.stamps.Stamps.{Stamps}
use Rattle.lrat_rules.proofs.FalseStamps.{on_err}
use Rattle.lrat_rules.proofs.chain.Chain.restart.Goals as goal

pub returns-in_err-reserve_all-clause-err : goal.returns-in_err-reserve_all-clause-err
returns-in_err-reserve_all-clause-err c = on_err c.from_residual.result c.reserve_all.ensures.same

pub mark_all-requires-clause-places : goal.mark_all-requires-clause-places
mark_all-requires-clause-places c = λ x is.
    subst (λ (stamps : Stamps). has_place stamps x ≡ true) (sym c.clear.ensures.stamps) (c.in_ok-reserve_all.ensures.ok x is)
