-- What is left to show of `enter`.
use Rattle.std.proofs.Common.{sym, ◌∙◌}
use Rattle.parity_equations.specs.Index.{number_of}
use Rattle.parity_equations.proofs.Keys.{has_already, put_under}
use Rattle.parity_equations.proofs.index.Index.enter.Goals as goal

pub returns-then-contains_key : goal.returns-then-contains_key
returns-then-contains_key c = has_already (number_of c.args.self.now) c.args.key c.args.number
    (sym c.contains_key.ensures ∙ c.if-contains_key.true)

pub returns : goal.returns
returns c = put_under (number_of c.args.self.now) (number_of (record { numbers = c.insert.new.self })) c.args.key c.args.number
    (sym c.contains_key.ensures ∙ c.if-contains_key.false) c.in_ok-insert.ensures.updates.0
