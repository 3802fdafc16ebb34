-- What is left to show of `Kept::clause`.
use Rattle.std.proofs.Common.{◌-◌, ◌<◌, None, get_or, ◌∙◌, ap, arith}
use Rattle.clause_ledger.proofs.Places.{kept_at-place}
use Rattle.clause_ledger.proofs.kept.Kept.clause.Goals as goal

pub returns : goal.returns
returns c =
    let above : 0 < c.args.id = omega (arith, c.if-number-eq0.false, c.get-number.ensures) in
    c.at.ensures ∙ ap (λ n. get_or c.args.self.now.places (n - 1) None) c.get-number.ensures
    ∙ kept_at-place c.args.self.now.places c.args.id above
