-- What is left to show of `put_pair`.
use Rattle.std.proofs.Common.{◌+◌, ◌/◌, ◌%◌, [], ◌∷◌, take}
use Rattle.proof_trim.proofs.Pairs.{behind}
use Rattle.proof_trim.proofs.decimals.put_pair.Goals as goal

pub returns-clause-text : goal.returns-clause-text
returns-clause-text c =
    behind (take c.args.at c.args.bytes.now) (take c.put_byte-behind.result c.put_byte-behind.new.bytes) ((48 + c.args.pair / 10) ∷ [])
    ((48 + c.args.pair % 10) ∷ []) (take c.put_byte.result c.put_byte.new.bytes) c.put_byte-behind.ensures.text c.put_byte.ensures.text
