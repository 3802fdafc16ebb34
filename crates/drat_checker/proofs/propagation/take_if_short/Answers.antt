-- A short clause is taken, and any other one is passed over.
use Rattle.std.proofs.Common.{◌≡◌, ◌⊎◌, true, ℤ, List, inl, inr, sym, ◌∙◌}
use Rattle.std.proofs.lemmas.Bool.{both_ways}
use Rattle.lrat_rules.specs.declared.outcome.Effect.TheVariants.{NotUnit}
use Rattle.lrat_rules.specs.Chain.{literals_of, effect}
use Rattle.drat_checker.specs.Database.{is_short}
use Rattle.drat_checker.specs.Watches.{is_true}
use Rattle.drat_checker.proofs.Derived.{derives-none}
use Rattle.drat_checker.proofs.Guarded.{short-not-unit}
use Rattle.drat_checker.proofs.Lifts.{if-ok, on-ok}
use Rattle.drat_checker.proofs.Reasoned.{keeps-none}
use Rattle.drat_checker.proofs.propagation.take_if_short.Goals as goal

-- a short clause forces something
true-of : (old new clause : List ℤ) → is_short clause ≡ true → (effect (literals_of old) clause ≡ NotUnit) ⊎ (is_true new clause ≡ true)
    → is_true new clause ≡ true
true-of old new clause short (inl nothing) = absurd (short-not-unit (literals_of old) clause short nothing)
true-of old new clause short (inr holds) = holds

pub returns-then-is_short-clause-taken : goal.returns-then-is_short-clause-taken
returns-then-is_short-clause-taken c =
    if-ok c.take_clause.result
    (λ conflict h is short. true-of c.args.trail.now.literals c.take_clause.new.trail.literals c.args.clause.now short (h is))
    c.take_clause.ensures.taken

pub returns-then-is_short-clause-units : goal.returns-then-is_short-clause-units
returns-then-is_short-clause-units c =
    on-ok c.take_clause.result (λ h places stands. h places stands (sym c.is_short.ensures ∙ c.if-is_short.true)) c.take_clause.ensures.units

pub returns-else-is_short-clause-taken : goal.returns-else-is_short-clause-taken
returns-else-is_short-clause-taken c = λ is short.
    absurd (both_ways (is_short c.args.clause.now) (sym c.is_short.ensures ∙ c.if-is_short.false) short)

pub returns-else-is_short-clause-derives : goal.returns-else-is_short-clause-derives
returns-else-is_short-clause-derives c = λ clauses among. derives-none clauses c.args.trail.now.literals

pub returns-else-is_short-clause-reasons : goal.returns-else-is_short-clause-reasons
returns-else-is_short-clause-reasons c = λ places stands. keeps-none places c.args.trail.now
