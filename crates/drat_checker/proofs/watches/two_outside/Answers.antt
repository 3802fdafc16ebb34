-- A clause that forces nothing has two different literals that aren't false.
use Rattle.std.proofs.Common.{◌≡◌, ℤ, refl, sym, ◌∙◌}
use Rattle.lrat_rules.specs.declared.outcome.Effect.TheVariants.{Conflict, Unit as Forced, NotUnit}
use Rattle.lrat_rules.specs.Chain.{literals_of}
use Rattle.drat_checker.proofs.Guarded.{last-forced}
use Rattle.drat_checker.proofs.Picked.{none-outside}
use Rattle.drat_checker.proofs.watches.two_outside.Goals as goal

not-conflict : Conflict ≡ NotUnit → ⊥
not-conflict e = cc

not-forced : (k : ℤ) → Forced k ≡ NotUnit → ⊥
not-forced k e = cc

pub returns-in-None : goal.returns-in-None
returns-in-None c =
    absurd (not-conflict (sym (none-outside (literals_of c.args.trail.now.literals) c.args.clause.now (c.in-None.ensures.none refl)) ∙
    c.requires))

pub returns-in-None-find : goal.returns-in-None-find
returns-in-None-find c =
    absurd (not-forced c.in-Some.second
    (sym (last-forced (literals_of c.args.trail.now.literals) c.in-Some.second c.args.clause.now
    (c.in-None-find.ensures.none refl) c.in-Some.ensures.found
    c.in-Some.ensures.unfalse) ∙ c.requires))
