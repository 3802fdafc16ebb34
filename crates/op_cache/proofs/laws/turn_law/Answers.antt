-- The lemmas of `Turns`, at the equality of the keys.
use Rattle.op_cache.proofs.Turns.{begins, ends, shows, kept, gone}
use Rattle.op_cache.proofs.laws.turn_law.Goals as goal

pub returns : goal.returns
returns g c = record {
  begins = begins;
  ends = ends;
  shows = shows;
  kept = kept g.K.PartialEq.eq g.met.K.Eq.laws;
  gone = gone;
}
