-- A clash refutes, and so does what propagation finds; else what it ends with is a quiet set.
use Rattle.std.proofs.Common.{◌≡◌, ◌++◌, ℤ, List, Option, IfSome, is_some, take, sym, ap, ◌∙◌, subst}
use Rattle.drat_checker.specs.Places.{standing}
use Rattle.drat_checker.specs.declared.addition.Refutation.{Refutation}
use Rattle.drat_checker.specs.Propagation.{SameQuiet}
use Rattle.drat_checker.specs.Reasons.{ClashesAt, Refutes}
use Rattle.drat_checker.specs.Watches.{IsGuarded}
use Rattle.drat_checker.proofs.Propagated.{clashed, extends-front, extends-then, same-also, same-then}
use Rattle.drat_checker.proofs.Derived.{derives-extends, derives-same}
use Rattle.drat_checker.proofs.FalseSets.{free-held}
use Rattle.drat_checker.proofs.Ends.{ends-with, refuted-by, some-map}
use Rattle.drat_checker.proofs.Lifts.{if-some-at, none-of}
use Rattle.drat_checker.proofs.Reasoned.{keeps-both}
use Rattle.drat_checker.proofs.Settled.{guard-more, holds-more, moves-fewer}
use Rattle.drat_checker.proofs.Visited.{held-then, more-false}
use Rattle.drat_checker.proofs.Watched.{moves-none}
use Rattle.drat_checker.proofs.addition.refute.Goals as goal

pub returns-in-Some-clause-refuted : goal.returns-in-Some-clause-refuted
returns-in-Some-clause-refuted c =
    clashed c.quiet_law.ensures.none c.quiet_law.ensures.fails (standing c.args.db.now) (c.args.trail.now.literals ++ c.args.clause.now)
    (c.in_ok-clash.ensures.clash (ap is_some c.in-Some.is))

pub returns-in-Some-clause-refutes : goal.returns-in-Some-clause-refutes
returns-in-Some-clause-refutes c =
    if-some-at (ClashesAt c.assume.new.trail c.args.clause.now) c.in_ok-clash.clash c.in-Some.literal c.in-Some.is
    c.in_ok-clash.ensures.held

pub returns-clause-refutes : goal.returns-clause-refutes
returns-clause-refutes c =
    subst (λ (o : Option Refutation). IfSome o (Refutes c.args.db.now c.propagate.new.trail c.args.clause.now)) (sym c.of_conflict.ensures)
    (refuted-by c.args.db.now c.propagate.new.trail c.args.clause.now c.in_ok-conflict.conflict c.in_ok-conflict.ensures.falsified
    (free-held c.propagate.new.trail.literals c.args.clause.now c.apart_law.ensures
    (held-then c.args.clause.now (c.in_ok-clash.ensures.also c.in_default.is) (derives-extends c.in_ok-conflict.ensures.derives))))

pub returns-clause-held : goal.returns-clause-held
returns-clause-held c = λ is.
    held-then c.args.clause.now (c.in_ok-clash.ensures.also c.in_default.is) (derives-extends c.in_ok-conflict.ensures.derives)

pub returns-in-Some-clause-moves : goal.returns-in-Some-clause-moves
returns-in-Some-clause-moves c = moves-none c.args.kept.now.pairs.items c.args.trail.now.literals

pub returns-in-Some-clause-extends : goal.returns-in-Some-clause-extends
returns-in-Some-clause-extends c = c.in_ok-clash.ensures.extends

pub returns-in-Some-clause-reasons : goal.returns-in-Some-clause-reasons
returns-in-Some-clause-reasons c = c.in_ok-clash.ensures.reasons c.args.db.now

pub returns-clause-reasons : goal.returns-clause-reasons
returns-clause-reasons c = keeps-both (c.in_ok-clash.ensures.reasons c.args.db.now) c.in_ok-conflict.ensures.reasons

pub propagate-requires : goal.propagate-requires
propagate-requires c =
    let e = c.in_ok-clash.ensures.extends in
    let front : take c.len-count.result c.assume.new.trail.literals ≡ c.args.trail.now.literals =
    ap (λ n. take n c.assume.new.trail.literals) c.len-count.ensures.literals ∙ extends-front e in
    record {
      watched = c.requires.watched;
      guarded = subst (λ (l : List ℤ). IsGuarded c.args.db.now c.args.kept.now.pairs.items l c.assume.new.trail.literals) (sym front)
          (guard-more c.args.db.now c.args.kept.now.pairs.items c.args.trail.now.literals e c.requires.settled.guarded);
      holds = holds-more c.args.db.now e c.requires.settled.holds;
    }

pub returns-clause-refuted : goal.returns-clause-refuted
returns-clause-refuted c =
    ap is_some c.of_conflict.ensures ∙ some-map c.in_ok-conflict.conflict ∙
    let clauses = standing c.args.db.now in
    let start = c.args.trail.now.literals ++ c.args.clause.now in
    let same : SameQuiet clauses start c.assume.new.trail.literals =
    same-also clauses c.args.clause.now c.args.trail.now.literals c.assume.new.trail.literals
    (c.in_ok-clash.ensures.also c.in_default.is) in
    ends-with c.quiet_law.ensures.none c.quiet_law.ensures.fails clauses start c.assume.new.trail.literals c.propagate.new.trail.literals
    (is_some c.in_ok-conflict.conflict) same (derives-same c.propagation_law.ensures.forced c.in_ok-conflict.ensures.derives)
    c.apart_law.ensures
    c.in_ok-conflict.ensures.conflict (λ none. c.in_ok-conflict.ensures.closed (none-of c.in_ok-conflict.conflict none))

pub returns-clause-same : goal.returns-clause-same
returns-clause-same c = λ is.
    same-then
    (same-also (standing c.args.db.now) c.args.clause.now c.args.trail.now.literals c.assume.new.trail.literals
    (c.in_ok-clash.ensures.also c.in_default.is))
    (derives-same c.propagation_law.ensures.forced c.in_ok-conflict.ensures.derives)

pub returns-clause-moves : goal.returns-clause-moves
returns-clause-moves c =
    moves-fewer c.args.kept.now.pairs.items c.propagate.new.kept.pairs.items c.args.trail.now.literals c.assume.new.trail.literals
    (more-false c.in_ok-clash.ensures.extends) c.in_ok-conflict.ensures.moves

pub returns-clause-extends : goal.returns-clause-extends
returns-clause-extends c = extends-then c.in_ok-clash.ensures.extends (derives-extends c.in_ok-conflict.ensures.derives)
