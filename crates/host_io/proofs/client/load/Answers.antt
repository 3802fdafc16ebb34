-- What is left to show of `load`.
use Rattle.std.proofs.Common.{rules}
use Rattle.host_io.proofs.client.load.Goals as goal

pub returns-clause-kept : goal.returns-clause-kept
returns-clause-kept g c =
    let made = c.new-source.ensures in
    (c.beside_kept.ensures.source made.same_reference made.same_value made.role c.fill.ensures.beside (search rules)).kept
