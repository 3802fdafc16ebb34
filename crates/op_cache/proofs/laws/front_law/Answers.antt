-- The lemmas of `Front` and `Values`, at the equality of the keys.
use Rattle.op_cache.proofs.Front.{none_used, stands, looked_again, looked_more, looked_none, kept_again, kept_more, popped, pushed_out}
use Rattle.op_cache.proofs.Values.{kept_again_values, kept_more_values}
use Rattle.op_cache.proofs.laws.front_law.Goals as goal

pub returns : goal.returns
returns g c = record {
  none = none_used g.K.PartialEq.eq;
  stands = stands g.K.PartialEq.eq;
  looked_again = looked_again g.K.PartialEq.eq;
  looked_more = looked_more g.K.PartialEq.eq g.met.K.Eq.laws;
  looked_none = looked_none g.K.PartialEq.eq;
  kept_again = kept_again g.K.PartialEq.eq;
  kept_more = kept_more g.K.PartialEq.eq g.met.K.Eq.laws;
  kept_again_values = kept_again_values g.K.PartialEq.eq g.met.K.Eq.laws;
  kept_more_values = kept_more_values g.K.PartialEq.eq g.met.K.Eq.laws;
  popped = popped g.K.PartialEq.eq;
  pushed_out = pushed_out g.K.PartialEq.eq g.met.K.Eq.laws;
}
