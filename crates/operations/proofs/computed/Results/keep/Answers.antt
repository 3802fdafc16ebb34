-- One more entry by the laws of the bounded cache.
use Rattle.std.proofs.Common.{None, refl, sym}
use Rattle.operations.proofs.computed.Results.keep.Goals as goal

pub returns-in-None-clause-kept : goal.returns-in-None-clause-kept
returns-in-None-clause-kept g c =
    c.cache_law.ensures.kept g.C.Computed.entry_of c.key_law.ensures c.args.self.now.results c.keep.new.self c.len.ensures.bounded
    c.len-2.ensures.bounded c.args.key c.args.value c.in-Ok.ensures.entries c.in-Ok.ensures.found None
    (rw (sym c.in-Ok.ensures.handed_back, c.in-None.is) refl)

pub returns-in-Some-clause-kept : goal.returns-in-Some-clause-kept
returns-in-Some-clause-kept g c =
    c.cache_law.ensures.kept g.C.Computed.entry_of c.key_law.ensures c.args.self.now.results c.keep.new.self c.len.ensures.bounded
    c.len-2.ensures.bounded c.args.key c.args.value c.in-Ok.ensures.entries c.in-Ok.ensures.found c.clause.result
    (rw (sym c.in-Ok.ensures.handed_back, c.in-Some.is) c.clause.ensures)
