-- What is left to show of `canonical_law`.
use Rattle.node_table.proofs.Canonical.{canonical}
use Rattle.node_table.proofs.laws.canonical_law.Goals as goal

pub returns : goal.returns
returns c graph reduced u v is stands equal = canonical graph reduced u v is stands equal
