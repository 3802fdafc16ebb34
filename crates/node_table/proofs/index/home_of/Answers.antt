-- What is left to show of `home_of`.
use Rattle.std.proofs.Common.{◌*◌, ◌/◌, ◌%◌, ◌^◌, ap}
use Rattle.node_table.specs.Index.{home_of}
use Rattle.node_table.proofs.index.home_of.Goals as goal

pub returns-clause-value : goal.returns-clause-value
unfolding home_of
returns-clause-value c = ap (λ n. n % 2 ^ 32 * c.args.size / 2 ^ 32) c.hash_one-hash.ensures
