-- A clause that is good without propagation, a conflict of the clauses alone, and what the roots tell.
use Rattle.std.proofs.Common.{◌≡◌, [], None, refl, sym, ◌∙◌, ap, subst}
use Rattle.std.proofs.lemmas.Bool.{both_ways}
use Rattle.drat_rules.specs.Addition.{drat_fault}
use Rattle.drat_checker.specs.Places.{Places, standing}
use Rattle.drat_checker.specs.Trail.{Trail}
use Rattle.drat_checker.specs.Lines.{IsGoodLine}
use Rattle.drat_checker.specs.Roots.{AreRoots, IsClash}
use Rattle.drat_checker.proofs.Lifts.{if-some-at}
use Rattle.drat_checker.proofs.Propagated.{fault-refuted}
use Rattle.drat_checker.proofs.Reasoned.{reasons-assumed}
use Rattle.drat_checker.proofs.Rooted.{clash-under}
use Rattle.drat_checker.proofs.Lined.{good-hints}
use Rattle.drat_checker.proofs.numbered.NumberedJudge.fault_of.Goals as goal

pub returns-then-is_plainly_good-clause-fault : goal.returns-then-is_plainly_good-clause-fault
returns-then-is_plainly_good-clause-fault c =
    subst (λ (ps : Places). None ≡ drat_fault (standing ps) c.args.clause.now) c.self.view_is
    (sym (c.is_plainly_good.ensures.good c.if-is_plainly_good.true))

pub returns-then-is_plainly_good-clause-line : goal.returns-then-is_plainly_good-clause-line
returns-then-is_plainly_good-clause-line c = λ is wanted plain.
    absurd (both_ways c.clear.new.self.is_wanted (c.is_plainly_good.ensures.unwanted c.if-is_plainly_good.true)
    (c.clear.ensures.wanted ∙ wanted))

pub settle-requires : goal.settle-requires
settle-requires c = c.self.invariant

pub invariant_of-self-in-Some : goal.invariant_of-self-in-Some
invariant_of-self-in-Some c = (
  c.in_ok-clash.ensures.watched,
  if-some-at (IsClash c.self.inside.db c.settle.new.trail) c.in_ok-clash.clash c.in-Some.number c.in-Some.is c.in_ok-clash.ensures.clash,
)

pub returns-in-Some-clause-fault : goal.returns-in-Some-clause-fault
returns-in-Some-clause-fault c =
    subst (λ (ps : Places). None ≡ drat_fault (standing ps) c.args.clause.now) c.self.view_is
    (fault-refuted (standing c.self.inside.db) c.args.clause.now
    (clash-under c.quiet_law.ensures.none c.quiet_law.ensures.fails (standing c.self.inside.db) c.args.clause.now
    (if-some-at (IsClash c.self.inside.db c.settle.new.trail) c.in_ok-clash.clash c.in-Some.number c.in-Some.is
    c.in_ok-clash.ensures.clash).none))

pub returns-in-Some-clause-line : goal.returns-in-Some-clause-line
returns-in-Some-clause-line c = λ is wanted plain.
    let clash = if-some-at (IsClash c.self.inside.db c.settle.new.trail) c.in_ok-clash.clash c.in-Some.number c.in-Some.is
    c.in_ok-clash.ensures.clash in
    subst (λ (ps : Places). IsGoodLine ps c.args.clause.now c.note_refutation.new.self.hints c.note_refutation.new.self.groups)
    c.self.view_is
    (good-hints c.self.inside.db c.args.clause.now c.note_refutation.new.self.hints c.note_refutation.new.self.groups
    (c.note_refutation.ensures.groups ∙ c.clear.ensures.groups)
    (clash-under c.quiet_law.ensures.none c.quiet_law.ensures.fails (standing c.self.inside.db) c.args.clause.now clash.none)
    ((c.in_ok-note_refutation.ensures.explain (c.clear.ensures.wanted ∙ wanted)).closes
    (reasons-assumed c.self.inside.db [] c.args.clause.now c.settle.new.trail refl clash.reasons) clash.units
    (c.refutation_by-refutation.ensures c.self.inside.db clash.falsified) plain))

pub addition_fault-requires : goal.addition_fault-requires
addition_fault-requires c = record {
  watched = c.in_ok-clash.ensures.watched;
  roots = c.in_ok-clash.ensures.settled c.in_default.is;
  hints = c.clear.ensures.hints;
  groups = c.clear.ensures.groups;
}

pub invariant_of-self-2 : goal.invariant_of-self-2
invariant_of-self-2 c =
    let roots = c.in_ok-clash.ensures.settled c.in_default.is in (
      c.in_ok-fault.ensures.watched,
      subst (λ (t : Trail). AreRoots c.self.inside.db c.addition_fault.new.kept t) (sym c.in_ok-fault.ensures.same) (record {
        derives = roots.derives;
        closed = roots.closed;
        settled = c.in_ok-fault.ensures.settled;
        reasons = roots.reasons;
        units = roots.units;
      }),
    )

pub returns-clause-fault : goal.returns-clause-fault
returns-clause-fault c =
    c.in_ok-fault.ensures.fault ∙ ap (λ (ps : Places). drat_fault (standing ps) c.args.clause.now) c.self.view_is

pub returns-clause-line : goal.returns-clause-line
returns-clause-line c = λ is wanted plain.
    subst (λ (ps : Places). IsGoodLine ps c.args.clause.now c.addition_fault.new.line.hints c.addition_fault.new.line.groups) c.self.view_is
    (c.in_ok-fault.ensures.line is (c.clear.ensures.wanted ∙ wanted) plain)
