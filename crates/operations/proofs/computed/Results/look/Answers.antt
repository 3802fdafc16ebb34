-- A look-up by the laws of the bounded cache.
use Rattle.std.proofs.Common.{ap}
use Rattle.op_cache.specs.Cache.{Cache}
use Rattle.operations.proofs.computed.Results.look.Goals as goal

pub returns-clause-looked : goal.returns-clause-looked
returns-clause-looked g c =
    c.cache_law.ensures.looked g.C.Computed.entry_of c.key_law.ensures c.args.self.now.results c.look.new.self c.len.ensures.bounded
    c.args.key c.look.result c.look.ensures.value c.look.ensures.entries

pub returns-clause-missed : goal.returns-clause-missed
returns-clause-missed g c none =
    ap (λ (results : Cache g.row.C-Key.Denot g.row.C-Value.Denot). record c.args.self.now { results = results })
    ((returns-clause-looked g c).missed none)
