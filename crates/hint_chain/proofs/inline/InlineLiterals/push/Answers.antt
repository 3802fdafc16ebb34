-- What is left to show of `InlineLiterals::push`.
use Rattle.std.proofs.Common.{◌<◌, rules}
use Rattle.hint_chain.proofs.Padding.{IsPadded-set}
use Rattle.hint_chain.proofs.inline.InlineLiterals.push.Goals as goal

pub invariant_of-self : goal.invariant_of-self
invariant_of-self g c =
    let room : c.self.inside.count < g.row.N = search rules in
    IsPadded-set g.row.N c.self.inside.literals c.self.inside.count c.args.literal room c.self.invariant
