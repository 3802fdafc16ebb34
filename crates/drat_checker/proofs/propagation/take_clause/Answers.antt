-- What one clause does: it is false, it forces a literal, or nothing.
use Rattle.std.proofs.Common.{◌≡◌, Bool, true, ℤ, neg_ℤ, List, [], Some, inl, inr, sym, ◌∙◌, ap, subst}
use Rattle.std.proofs.Math.IntN.{neg_ℤ-neg_ℤ}
use Rattle.std.proofs.lemmas.Bool.{both_ways}
use Rattle.lrat_rules.specs.declared.outcome.Effect.TheVariants.{Conflict, Unit as Forced}
use Rattle.lrat_rules.specs.Chain.{literals_of, effect}
use Rattle.lrat_rules.specs.Trail.{with_last}
use Rattle.drat_checker.specs.Propagation.{Derives}
use Rattle.drat_checker.specs.Trail.{with_reason}
use Rattle.drat_checker.specs.Reasons.{KeepsReasons, is_short_place}
use Rattle.drat_checker.proofs.Propagated.{either, unclashed, false_clause}
use Rattle.drat_checker.proofs.Guarded.{conflict-false, forced-held, forced-unfalse}
use Rattle.drat_checker.proofs.Visited.{last-negated, true-by}
use Rattle.drat_checker.proofs.Derived.{derives-none, derives-forced}
use Rattle.drat_checker.proofs.Units.{units-falsified, units-last}
use Rattle.drat_checker.proofs.Reasoned.{keeps-falsified, keeps-forced, keeps-none}
use Rattle.drat_checker.proofs.propagation.take_clause.Goals as goal

pub returns-in-Conflict-clause-conflict : goal.returns-in-Conflict-clause-conflict
returns-in-Conflict-clause-conflict c = λ is.
    let e : effect (literals_of c.args.trail.now.literals) c.args.clause.now ≡ Conflict = sym c.effect_of.ensures ∙ c.in-Conflict.is in
    false_clause c.quiet_law.ensures.fails c.propagation_law.ensures.forced c.propagation_law.ensures.conflict c.args.trail.now.literals
    c.args.clause.now e

pub returns-in-Conflict-clause-derives : goal.returns-in-Conflict-clause-derives
returns-in-Conflict-clause-derives c = λ clauses among. derives-none clauses c.args.trail.now.literals

pub returns-in-NotUnit-clause-taken : goal.returns-in-NotUnit-clause-taken
returns-in-NotUnit-clause-taken c = λ is. inl (sym c.effect_of.ensures ∙ c.in-NotUnit.is)

pub returns-in-NotUnit-clause-derives : goal.returns-in-NotUnit-clause-derives
returns-in-NotUnit-clause-derives c = λ clauses among. derives-none clauses c.args.trail.now.literals

-- what is forced isn't false, so its negation doesn't clash
unclashing : (trail clause : List ℤ) (y negated : ℤ) (clash : Bool) → effect (literals_of trail) clause ≡ Forced y → negated ≡ neg_ℤ y
    → clash ≡ literals_of trail (neg_ℤ negated) → clash ≡ true → ⊥
unclashing trail clause y negated clash e is of set =
    both_ways (literals_of trail y) (forced-unfalse (literals_of trail) clause y e)
    (ap (literals_of trail) (sym (neg_ℤ-neg_ℤ y) ∙ ap neg_ℤ (sym is)) ∙ sym of ∙ set)

pub returns-then-clash-clause-conflict : goal.returns-then-clash-clause-conflict
returns-then-clash-clause-conflict c =
    absurd (unclashing c.args.trail.now.literals c.args.clause.now c.in-Unit.literal c.negated.result c.in_ok-clash-in-Unit.clash
    (sym c.effect_of.ensures ∙ c.in-Unit.is) c.negated.ensures c.in_ok-clash-in-Unit.ensures.clash c.if-clash.true)

pub returns-then-clash-clause-falsified : goal.returns-then-clash-clause-falsified
returns-then-clash-clause-falsified c =
    absurd (unclashing c.args.trail.now.literals c.args.clause.now c.in-Unit.literal c.negated.result c.in_ok-clash-in-Unit.clash
    (sym c.effect_of.ensures ∙ c.in-Unit.is) c.negated.ensures c.in_ok-clash-in-Unit.ensures.clash c.if-clash.true)

pub returns-then-clash-clause-derives : goal.returns-then-clash-clause-derives
returns-then-clash-clause-derives c =
    absurd (unclashing c.args.trail.now.literals c.args.clause.now c.in-Unit.literal c.negated.result c.in_ok-clash-in-Unit.clash
    (sym c.effect_of.ensures ∙ c.in-Unit.is) c.negated.ensures c.in_ok-clash-in-Unit.ensures.clash c.if-clash.true)

pub returns-then-clash-clause-reasons : goal.returns-then-clash-clause-reasons
returns-then-clash-clause-reasons c =
    absurd (unclashing c.args.trail.now.literals c.args.clause.now c.in-Unit.literal c.negated.result c.in_ok-clash-in-Unit.clash
    (sym c.effect_of.ensures ∙ c.in-Unit.is) c.negated.ensures c.in_ok-clash-in-Unit.ensures.clash c.if-clash.true)

pub returns-else-clash-clause-taken : goal.returns-else-clash-clause-taken
returns-else-clash-clause-taken c = λ is.
    let trail = c.args.trail.now.literals in
    let e : effect (literals_of trail) c.args.clause.now ≡ Forced c.in-Unit.literal = sym c.effect_of.ensures ∙ c.in-Unit.is in
    let new : c.falsify.new.self.literals ≡ with_last (neg_ℤ c.in-Unit.literal) trail =
    unclashed c.in_ok-clash-in-Unit.clash c.falsify.new.self.literals trail (with_last c.negated.result trail) c.if-clash.false
    c.in_ok-clash-in-Unit.ensures.literals
    ∙ ap (λ z. with_last z trail) c.negated.ensures in
    inr (true-by c.falsify.new.self.literals c.args.clause.now c.in-Unit.literal
    (forced-held (literals_of trail) c.args.clause.now c.in-Unit.literal e)
    (subst (λ (l : List ℤ). literals_of l (neg_ℤ c.in-Unit.literal) ≡ true) (sym new) (last-negated (neg_ℤ c.in-Unit.literal) trail)))

pub returns-else-clash-clause-derives : goal.returns-else-clash-clause-derives
returns-else-clash-clause-derives c = λ clauses among.
    let trail = c.args.trail.now.literals in
    let e : effect (literals_of trail) c.args.clause.now ≡ Forced c.in-Unit.literal = sym c.effect_of.ensures ∙ c.in-Unit.is in
    let forced : Derives clauses trail (with_last c.negated.result trail) =
    subst (λ (z : ℤ). Derives clauses trail (with_last z trail)) (sym c.negated.ensures)
    (derives-forced trail c.args.clause.now c.in-Unit.literal e clauses among) in
    either (Derives clauses trail) c.in_ok-clash-in-Unit.clash c.falsify.new.self.literals trail (with_last c.negated.result trail)
    (derives-none clauses trail) forced c.in_ok-clash-in-Unit.ensures.literals

pub returns-else-clash-clause-reasons : goal.returns-else-clash-clause-reasons
returns-else-clash-clause-reasons c = λ places stands.
    let trail = c.args.trail.now in
    let e : effect (literals_of trail.literals) c.args.clause.now ≡ Forced c.in-Unit.literal = sym c.effect_of.ensures ∙ c.in-Unit.is in
    let forced : KeepsReasons places [] trail (with_reason c.negated.result (Some c.args.number) trail) =
    subst (λ (z : ℤ). KeepsReasons places [] trail (with_reason z (Some c.args.number) trail)) (sym c.negated.ensures)
    (keeps-forced places trail c.args.number c.args.clause.now c.in-Unit.literal stands e) in
    keeps-falsified c.in_ok-clash-in-Unit.clash (with_reason c.negated.result (Some c.args.number) trail) forced
    c.in_ok-clash-in-Unit.ensures.reasons

pub returns-in-Conflict-clause-falsified : goal.returns-in-Conflict-clause-falsified
returns-in-Conflict-clause-falsified c = λ places stands. record {
  clause = c.args.clause.now;
  stands = stands;
  falsified = conflict-false (literals_of c.args.trail.now.literals) c.args.clause.now (sym c.effect_of.ensures ∙ c.in-Conflict.is);
}

pub returns-in-Conflict-clause-reasons : goal.returns-in-Conflict-clause-reasons
returns-in-Conflict-clause-reasons c = λ places stands. keeps-none places c.args.trail.now

pub returns-in-NotUnit-clause-reasons : goal.returns-in-NotUnit-clause-reasons
returns-in-NotUnit-clause-reasons c = λ places stands. keeps-none places c.args.trail.now

pub returns-in-Conflict-clause-units : goal.returns-in-Conflict-clause-units
returns-in-Conflict-clause-units c = λ places stands short units. units

pub returns-in-NotUnit-clause-units : goal.returns-in-NotUnit-clause-units
returns-in-NotUnit-clause-units c = λ places stands short units. units

pub returns-then-clash-clause-units : goal.returns-then-clash-clause-units
returns-then-clash-clause-units c =
    absurd (unclashing c.args.trail.now.literals c.args.clause.now c.in-Unit.literal c.negated.result c.in_ok-clash-in-Unit.clash
    (sym c.effect_of.ensures ∙ c.in-Unit.is) c.negated.ensures c.in_ok-clash-in-Unit.ensures.clash c.if-clash.true)

pub returns-else-clash-clause-units : goal.returns-else-clash-clause-units
returns-else-clash-clause-units c = λ places stands short units.
    units-falsified places c.in_ok-clash-in-Unit.clash (with_reason c.negated.result (Some c.args.number) c.args.trail.now) units
    (units-last places c.args.trail.now c.negated.result (Some c.args.number) (ap is_short_place stands ∙ short) units)
    c.in_ok-clash-in-Unit.ensures.reasons
