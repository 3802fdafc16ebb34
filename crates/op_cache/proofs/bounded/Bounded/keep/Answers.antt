-- What `push` of the kit's `lru` makes and hands back is what `kept` says.
use Rattle.lru.proofs.CallerLemmas.{lookup-put_entries}
use Rattle.op_cache.proofs.Bounds.{pushed_bounded, kept_is}
use Rattle.op_cache.proofs.bounded.Bounded.keep.Goals as goal
use Rattle.op_cache.proofs.bounded.Bounded.keep.Goals.{in-Ok, in-Err}

pub invariant_of-self : goal.invariant_of-self
invariant_of-self g c = pushed_bounded g.K.PartialEq.eq g.met.K.Eq.laws c.push.result c.self.inside.cache c.push.new.self
    c.args.key c.args.value c.push.ensures.entries c.push.ensures.err c.self.invariant

pub returns-clause-handed_back : goal.returns-clause-handed_back
returns-clause-handed_back g c =
    let same = kept_is g.K.PartialEq.eq g.met.K.Eq.laws c.self.inside.cache.entries c.self.inside.cache.cap c.args.key c.args.value
    c.self.invariant in
    elim c.match-push.branch [
      | in-Ok w ↦ rw (w.result-is, ← c.self.view_is, w.in-Ok.ensures.old) same.1
      | in-Err w ↦ rw w.result-is tt
    ]

pub returns-clause-found : goal.returns-clause-found
returns-clause-found g c = elim c.match-push.branch [
  | in-Ok w ↦ rw (w.result-is, w.in-Ok.ensures.entries)
      (lookup-put_entries g.K.PartialEq.eq c.self.inside.cache c.args.key c.args.value g.met.K.Eq.laws)
  | in-Err w ↦ rw w.result-is tt
]
