-- A clause that is the reason of no root leaves all of them.
use Rattle.std.proofs.Common.{sym, subst}
use Rattle.drat_checker.specs.declared.roots.Roots.{Roots}
use Rattle.drat_checker.specs.declared.roots.Roots.TheVariants.{Stale, Settled}
use Rattle.drat_checker.specs.Places.{Places}
use Rattle.drat_checker.specs.Roots.{AreKept}
use Rattle.drat_checker.proofs.Fewer.{roots-fewer, watched-fewer}
use Rattle.drat_checker.proofs.roots.lowered.Goals as goal

pub returns-then-spare : goal.returns-then-spare
returns-then-spare c = λ fewer kept is were.
    let both = subst (λ (r : Roots). AreKept r c.args.db.now kept c.args.trail.now) c.in-Settled.is were in
    subst (λ (ps : Places). AreKept Settled ps kept c.args.trail.now) (sym is) (
      watched-fewer c.args.db.now c.args.number kept both.0,
      roots-fewer c.args.db.now c.args.number kept c.args.trail.now
          (c.is_spare-spare.ensures c.if-spare.true c.args.db.now (sym c.in-Some.ensures) both.1.reasons) both.1,
    )

pub returns-else-spare : goal.returns-else-spare
returns-else-spare c = λ fewer kept is were.
    subst (λ (ps : Places). AreKept Stale ps kept c.args.trail.now) (sym is)
    (watched-fewer c.args.db.now c.args.number kept
    (subst (λ (r : Roots). AreKept r c.args.db.now kept c.args.trail.now) c.in-Settled.is were).0)

pub returns-in-None : goal.returns-in-None
returns-in-None c = λ fewer kept is were.
    subst (λ (ps : Places). AreKept Stale ps kept c.args.trail.now) (sym is)
    (watched-fewer c.args.db.now c.args.number kept
    (subst (λ (r : Roots). AreKept r c.args.db.now kept c.args.trail.now) c.in-Settled.is were).0)

pub returns-in-Clash : goal.returns-in-Clash
returns-in-Clash c = λ fewer kept is were.
    subst (λ (ps : Places). AreKept Stale ps kept c.args.trail.now) (sym is)
    (watched-fewer c.args.db.now c.args.number kept
    (subst (λ (r : Roots). AreKept r c.args.db.now kept c.args.trail.now) c.in-Clash.is were).0)

pub returns-in-Stale : goal.returns-in-Stale
returns-in-Stale c = λ fewer kept is were.
    subst (λ (ps : Places). AreKept Stale ps kept c.args.trail.now) (sym is)
    (watched-fewer c.args.db.now c.args.number kept
    (subst (λ (r : Roots). AreKept r c.args.db.now kept c.args.trail.now) c.in-Stale.is were))
