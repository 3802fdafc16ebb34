-- The pair has the literal first, second, or not.
use Rattle.std.proofs.Common.{inl, inr, refl, sym, ap, ◌∙◌}
use Rattle.drat_checker.specs.Watches.{is_in}
use Rattle.drat_checker.proofs.Looks.{not-of}
use Rattle.drat_checker.proofs.FalseSets.{int_eq-true}
use Rattle.drat_checker.proofs.watches.other_in.Goals as goal

pub returns-then-eq : goal.returns-then-eq
returns-then-eq c = record {
  own = c.in-Some.pair;
  is = c.in-Some.is;
  sides = inl (int_eq-true c.in-Some.pair.first c.args.literal (sym c.eq.ensures ∙ c.if-eq.true), refl);
}

pub returns-then-eq-2 : goal.returns-then-eq-2
returns-then-eq-2 c = record {
  own = c.in-Some.pair;
  is = c.in-Some.is;
  sides = inr (int_eq-true c.in-Some.pair.second c.args.literal (sym c.eq-in-Some.ensures ∙ c.if-eq-2.true), refl);
}

pub returns-else-eq-2 : goal.returns-else-eq-2
returns-else-eq-2 c =
    ap (λ p. is_in p c.args.literal) c.in-Some.is
    ∙ not-of c.in-Some.pair c.args.literal (sym c.eq.ensures ∙ c.if-eq.false) (sym c.eq-in-Some.ensures ∙ c.if-eq-2.false)
