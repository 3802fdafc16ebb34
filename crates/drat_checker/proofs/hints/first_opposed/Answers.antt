-- One literal more, and the end.
use Rattle.std.proofs.Common.{◌≡◌, ◌+◌, ℕ, true, ℤ, pos, neg_ℤ, List, Option, take, sym, ap, ◌∙◌, subst}
use Rattle.std.specs.Prelude.{IfSome}
use Rattle.std.proofs.lemmas.List.{get_or_read, take_all}
use Rattle.lrat_rules.specs.Chain.{literals_of}
use Rattle.drat_checker.specs.Places.{IsAtMost, lesser_of}
use Rattle.drat_checker.specs.Trail.{IsAt}
use Rattle.drat_checker.proofs.Hinted.{each-literal}
use Rattle.drat_checker.proofs.Opposed.{AreBehind, IsOpposedAt, at-most-more, at-most-own, first-opposed, none-opposed, opposed-more}
use Rattle.drat_checker.proofs.Trails.{at-any}
use Rattle.drat_checker.proofs.hints.first_opposed.Goals as goal

pub loop-literal-init : goal.loop-literal-init
loop-literal-init c = record { behind = λ x m. cc; own = tt }

pub loop-literal-preserved : goal.loop-literal-preserved
loop-literal-preserved c =
    let literals = c.args.trail.now.literals in
    let given = c.args.given.now in
    let i = c.loop-literal.literal-index in
    let x = c.literal-item.result in
    let first = c.loop-literal.first in
    let other = c.place.result in
    let own : literals_of given x ≡ true =
    ap (literals_of given) (get_or_read given i x c.loop-literal-test.true c.literal-item.is (pos 0))
    ∙ at-any given i c.loop-literal-test.true in
    record {
      behind = subst (AreBehind literals (take (i + 1) given)) (sym c.earlier-first.ensures)
          (each-literal (λ (y : ℤ). (k : ℕ) → IsAt literals (neg_ℤ y) k → IsAtMost (lesser_of first other) k) given i x
          c.loop-literal-test.true c.literal-item.is (λ y m k at. at-most-more first other k (c.loop-literal.invariant.behind y m k at))
          (λ k at. at-most-own literals c.once_law.ensures c.negated.result first other c.place.ensures.found c.place.ensures.none k
          (subst (λ (z : ℤ). IsAt literals z k) (sym c.negated.ensures) at)));
      own = subst (λ (o : Option ℕ). IfSome o (IsOpposedAt literals given)) (sym c.earlier-first.ensures)
          (opposed-more literals c.once_law.ensures given x c.negated.result c.negated.ensures own first other
          c.loop-literal.invariant.own c.place.ensures.found);
    }

pub returns-clause-found : goal.returns-clause-found
returns-clause-found c =
    let given = c.args.given.now in
    first-opposed c.args.trail.now.literals given c.loop-literal.first (λ x m.
    c.loop-literal.invariant.behind x
    (ap (λ (l : List ℤ). literals_of l x) (take_all c.loop-literal.literal-index given c.loop-literal-test.false) ∙ m))
    c.loop-literal.invariant.own

pub returns-clause-none : goal.returns-clause-none
returns-clause-none c = λ is.
    let given = c.args.given.now in
    none-opposed c.args.trail.now.literals given c.loop-literal.first is (λ x m.
    c.loop-literal.invariant.behind x
    (ap (λ (l : List ℤ). literals_of l x) (take_all c.loop-literal.literal-index given c.loop-literal-test.false) ∙ m))
