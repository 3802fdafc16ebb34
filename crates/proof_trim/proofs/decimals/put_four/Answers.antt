-- What is left to show of `put_four`.
use Rattle.std.proofs.Common.{◌+◌, ◌/◌, ◌%◌, [], ◌∷◌, take}
use Rattle.proof_trim.proofs.Pairs.{behind}
use Rattle.proof_trim.proofs.decimals.put_four.Goals as goal

pub returns-clause-text : goal.returns-clause-text
returns-clause-text c =
    behind (take c.args.at c.args.bytes.now) (take c.put_pair-behind.result c.put_pair-behind.new.bytes)
    ((48 + c.args.four / 100 / 10) ∷ (48 + c.args.four / 100 % 10) ∷ [])
    ((48 + c.args.four % 100 / 10) ∷ (48 + c.args.four % 100 % 10) ∷ []) (take c.put_pair.result c.put_pair.new.bytes)
    c.put_pair-behind.ensures.text c.put_pair.ensures.text
