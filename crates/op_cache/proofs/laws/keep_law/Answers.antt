-- The lemmas of `Contained` on what is handed back.
use Rattle.op_cache.proofs.Contained.{replaced, added, pushed_out}
use Rattle.op_cache.proofs.laws.keep_law.Goals as goal

pub returns : goal.returns
returns g c = record {
  replaced = replaced g.K.PartialEq.eq;
  added = added g.K.PartialEq.eq;
  pushed_out = pushed_out g.K.PartialEq.eq;
}
