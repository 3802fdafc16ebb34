-- A clause that forces nothing has two that aren't false; another one is no case of the last clause.
use Rattle.std.proofs.Common.{◌≡◌, ℤ, sym, ◌∙◌}
use Rattle.lrat_rules.specs.declared.outcome.Effect.TheVariants.{Conflict, Unit as Forced, NotUnit}
use Rattle.drat_checker.proofs.Lifts.{if-some-any}
use Rattle.drat_checker.proofs.watches.choose.Goals as goal

not-conflict : Conflict ≡ NotUnit → ⊥
not-conflict e = cc

not-forced : (k : ℤ) → Forced k ≡ NotUnit → ⊥
not-forced k e = cc

pub returns-in-Conflict-clause-unfalse : goal.returns-in-Conflict-clause-unfalse
returns-in-Conflict-clause-unfalse c = if-some-any c.two_of.result (λ pair nothing.
    absurd (not-conflict (sym c.in-Conflict.is ∙ c.effect_of.ensures ∙ nothing)))

pub returns-in-Unit-clause-unfalse : goal.returns-in-Unit-clause-unfalse
returns-in-Unit-clause-unfalse c = if-some-any c.two_of-in-Unit.result (λ pair nothing.
    absurd (not-forced c.in-Unit.field-0 (sym c.in-Unit.is ∙ c.effect_of.ensures ∙ nothing)))
