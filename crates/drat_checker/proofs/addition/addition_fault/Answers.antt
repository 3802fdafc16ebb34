-- A clause that is refuted is good; else its candidates decide, by what propagation left false. The roots are in each quiet set.
use Rattle.std.proofs.Common.{◌≡◌, ℕ, true, ℤ, List, [], ◌++◌, length, is_some, refl, sym, ◌∙◌, ap}
use Rattle.drat_rules.specs.Quiet.{has_quiet}
use Rattle.drat_checker.specs.Places.{Places, standing}
use Rattle.drat_checker.specs.Propagation.{Derives, Extends, SameQuiet}
use Rattle.drat_checker.specs.declared.watches.Watches.{Watches}
use Rattle.drat_checker.specs.Trail.{AreOnce, Trail, cut}
use Rattle.drat_checker.specs.Reasons.{AreByUnits, AreReasons, KeepsReasons, Refutes}
use Rattle.drat_checker.specs.Roots.{AreRoots}
use Rattle.drat_checker.proofs.Propagated.{FailsLaw, ForcedLaw, NoneLaw, fault-open, fault-refuted, has_quiet-same, none-has, some-has}
use Rattle.drat_checker.proofs.Propagated.{same-behind, same-then}
use Rattle.drat_checker.proofs.Derived.{derives-same}
use Rattle.drat_checker.proofs.Lifts.{if-some-at}
use Rattle.drat_checker.proofs.Reasoned.{cut-back, reasons-assumed}
use Rattle.drat_checker.proofs.FalseSets.{has_own}
use Rattle.drat_checker.proofs.Lined.{good-hints}
use Rattle.drat_checker.proofs.Settled.{settled-front}
use Rattle.drat_checker.proofs.Units.{units-extended}
use Rattle.drat_checker.proofs.Visited.{more-false}
use Rattle.drat_checker.proofs.addition.addition_fault.Goals as goal

-- the clause's literals alone, or behind the roots
with-roots : ForcedLaw → (clauses : List (List ℤ)) (roots clause : List ℤ) → Derives clauses [] roots
    → SameQuiet clauses clause (roots ++ clause)
with-roots forced clauses roots clause are = same-behind clauses [] roots clause (derives-same forced are)

quiet-roots : NoneLaw → FailsLaw → ForcedLaw → (clauses : List (List ℤ)) (roots clause : List ℤ) → Derives clauses [] roots
    → has_quiet clauses clause ≡ has_quiet clauses (roots ++ clause)
quiet-roots none fails forced clauses roots clause are =
    has_quiet-same none fails clauses clause (roots ++ clause) (with-roots forced clauses roots clause are)

pub returns-in-Some-clause-fault : goal.returns-in-Some-clause-fault
returns-in-Some-clause-fault c =
    let clauses = standing c.args.db.now in
    let clause = c.args.clause.now in
    let roots = c.args.trail.now.literals in
    fault-refuted clauses clause
    (quiet-roots c.quiet_law.ensures.none c.quiet_law.ensures.fails c.propagation_law.ensures.forced clauses roots clause
    c.requires.roots.derives
    ∙ none-has (has_quiet clauses (roots ++ clause)) (sym (ap is_some c.in-Some.is) ∙ c.in_ok-refutation.ensures.refuted))

-- back to the roots
back : (places : Places) (clause : List ℤ) (old new : Trail) (count : ℕ) → count ≡ length old.literals → count ≡ length old.reasons
    → Extends old.literals new.literals → KeepsReasons places clause old new → cut count new ≡ old
back places clause old new count literals reasons e k = cut-back count literals (sym reasons ∙ literals) e k

pub returns-in-Some-clause-same : goal.returns-in-Some-clause-same
returns-in-Some-clause-same c =
    c.truncate.ensures
    ∙ back c.args.db.now c.args.clause.now c.args.trail.now c.refute.new.trail c.len-roots.result c.len-roots.ensures.literals
    c.len-roots.ensures.reasons c.in_ok-refutation.ensures.extends c.in_ok-refutation.ensures.reasons

-- the reasons behind the clause
reasoned : (places : Places) (clause : List ℤ) (old new : Trail) → AreReasons places [] old → KeepsReasons places clause old new
    → AreReasons places clause new
reasoned places clause old new are keeps = keeps.kept clause (has_own clause) (reasons-assumed places [] clause old refl are)

-- and the unit clauses among them
with-units : (places : Places) (kept : Watches) (clause : List ℤ) (old new : Trail) → AreRoots places kept old → AreOnce new.literals
    → Extends old.literals new.literals → KeepsReasons places clause old new → AreByUnits places places new
with-units places kept clause old new roots once e keeps =
    units-extended places places old new once roots.reasons.many e keeps.rest keeps.parts roots.settled.holds roots.units

pub returns-in-Some-clause-line : goal.returns-in-Some-clause-line
returns-in-Some-clause-line c = λ is wanted plain.
    let clause = c.args.clause.now in
    good-hints c.args.db.now clause c.note_refutation.new.self.hints c.note_refutation.new.self.groups
    (c.note_refutation.ensures.groups ∙ c.requires.groups)
    (quiet-roots c.quiet_law.ensures.none c.quiet_law.ensures.fails c.propagation_law.ensures.forced (standing c.args.db.now)
    c.args.trail.now.literals clause c.requires.roots.derives
    ∙ none-has (has_quiet (standing c.args.db.now) (c.args.trail.now.literals ++ clause))
    (sym (ap is_some c.in-Some.is) ∙ c.in_ok-refutation.ensures.refuted))
    ((c.in_ok-note_refutation.ensures.explain wanted).closes
    (reasoned c.args.db.now clause c.args.trail.now c.refute.new.trail c.requires.roots.reasons c.in_ok-refutation.ensures.reasons)
    (with-units c.args.db.now c.args.kept.now clause c.args.trail.now c.refute.new.trail c.requires.roots c.once_law.ensures
    c.in_ok-refutation.ensures.extends c.in_ok-refutation.ensures.reasons)
    (if-some-at (Refutes c.args.db.now c.refute.new.trail clause) c.in_ok-refutation.refutation c.in-Some.found c.in-Some.is
    c.in_ok-refutation.ensures.refutes) plain)

pub returns-clause-fault : goal.returns-clause-fault
returns-clause-fault c =
    let clauses = standing c.args.db.now in
    let clause = c.args.clause.now in
    let roots = c.args.trail.now.literals in
    let same = with-roots c.propagation_law.ensures.forced clauses roots clause c.requires.roots.derives in
    let some : has_quiet clauses clause ≡ true =
    has_quiet-same c.quiet_law.ensures.none c.quiet_law.ensures.fails clauses clause (roots ++ clause) same
    ∙ some-has (has_quiet clauses (roots ++ clause)) (sym (ap is_some c.in_default.is) ∙ c.in_ok-refutation.ensures.refuted) in
    c.in_ok-fault.ensures.fault
    ∙ fault-open c.quiet_law.ensures.none c.quiet_law.ensures.fails clauses clause c.refute.new.trail.literals
    (same-then same (c.in_ok-refutation.ensures.same c.in_default.is)) some

pub returns-clause-line : goal.returns-clause-line
returns-clause-line c = λ is wanted plain.
    let clauses = standing c.args.db.now in
    let clause = c.args.clause.now in
    let roots = c.args.trail.now.literals in
    c.in_ok-fault.ensures.line is wanted plain
    (quiet-roots c.quiet_law.ensures.none c.quiet_law.ensures.fails c.propagation_law.ensures.forced clauses roots clause
    c.requires.roots.derives
    ∙ some-has (has_quiet clauses (roots ++ clause)) (sym (ap is_some c.in_default.is) ∙ c.in_ok-refutation.ensures.refuted))

pub returns-clause-same : goal.returns-clause-same
returns-clause-same c =
    c.truncate-2.ensures ∙ ap (cut c.len-roots.result) c.in_ok-fault.ensures.same
    ∙ back c.args.db.now c.args.clause.now c.args.trail.now c.refute.new.trail c.len-roots.result c.len-roots.ensures.literals
    c.len-roots.ensures.reasons c.in_ok-refutation.ensures.extends c.in_ok-refutation.ensures.reasons

pub refute-requires : goal.refute-requires
refute-requires c = record { watched = c.requires.watched; settled = c.requires.roots.settled }

pub fault_under-requires : goal.fault_under-requires
fault_under-requires c = record {
  watched = c.in_ok-refutation.ensures.watched;
  settled = c.in_ok-refutation.ensures.settled c.in_default.is;
  assumed = record {
    reasons = reasoned c.args.db.now c.args.clause.now c.args.trail.now c.refute.new.trail c.requires.roots.reasons
        c.in_ok-refutation.ensures.reasons;
    units = with-units c.args.db.now c.args.kept.now c.args.clause.now c.args.trail.now c.refute.new.trail c.requires.roots
        c.once_law.ensures c.in_ok-refutation.ensures.extends c.in_ok-refutation.ensures.reasons;
    held = c.in_ok-refutation.ensures.held c.in_default.is;
  };
  hints = c.requires.hints;
  groups = c.requires.groups;
}

pub returns-in-Some-clause-settled : goal.returns-in-Some-clause-settled
returns-in-Some-clause-settled c =
    settled-front c.args.db.now c.args.kept.now c.refute.new.kept c.args.trail.now.literals c.args.trail.now.literals (λ x m. m)
    c.in_ok-refutation.ensures.moves c.requires.roots.settled

pub returns-clause-settled : goal.returns-clause-settled
returns-clause-settled c =
    settled-front c.args.db.now c.refute.new.kept c.fault_under.new.kept c.args.trail.now.literals c.refute.new.trail.literals
    (more-false c.in_ok-refutation.ensures.extends) c.in_ok-fault.ensures.moves
    (settled-front c.args.db.now c.args.kept.now c.refute.new.kept c.args.trail.now.literals c.args.trail.now.literals (λ x m. m)
    c.in_ok-refutation.ensures.moves c.requires.roots.settled)
