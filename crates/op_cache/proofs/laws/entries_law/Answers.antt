-- The lemmas of `Contained`, and those of the kit's `lru` on what a look-up finds.
use Rattle.lru.proofs.CallerLemmas.{Contains-lookup}
use Rattle.op_cache.proofs.Contained.{looked_same, looked_as_many, finds, contained, others, no_fewer}
use Rattle.op_cache.proofs.Values.{looked_values}
use Rattle.op_cache.proofs.laws.entries_law.Goals as goal

pub returns : goal.returns
returns g c = record {
  found = λ entries key value is. Contains-lookup (g.K.PartialEq.eq key) entries value is;
  finds = finds g.K.PartialEq.eq g.met.K.Eq.laws;
  looked_same = looked_same g.K.PartialEq.eq;
  looked_values = looked_values g.K.PartialEq.eq g.met.K.Eq.laws;
  looked_as_many = looked_as_many g.K.PartialEq.eq;
  kept_only = λ entries capacity key value entry is. contained g.K.PartialEq.eq g.met.K.Eq.laws entries capacity key value entry is;
  others = others g.K.PartialEq.eq g.met.K.Eq.laws;
  no_fewer = no_fewer g.K.PartialEq.eq;
}
