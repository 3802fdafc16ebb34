-- The number is in the list of the first literal, and then in that of the second, and no list loses it.
use Rattle.std.proofs.Common.{◌≡◌, true, ℤ, inl, inr, sym, ap, ◌∙◌, subst, int_eq}
use Rattle.std.proofs.lemmas.Bool.{or_cases}
use Rattle.drat_checker.specs.Numbers.{has_number}
use Rattle.drat_checker.specs.Watches.{is_in, watchers}
use Rattle.drat_checker.proofs.FalseSets.{int_eq-true}
use Rattle.drat_checker.proofs.Lifts.{on-ok}
use Rattle.drat_checker.proofs.Placed.{each-along, same-each}
use Rattle.drat_checker.proofs.watches.enter_pair.Goals as goal

pub returns-in-None-clause-kept : goal.returns-in-None-clause-kept
returns-in-None-clause-kept c = same-each c.args.lists.now

pub returns-in_ok-enter-in-Some-clause-kept : goal.returns-in_ok-enter-in-Some-clause-kept
returns-in_ok-enter-in-Some-clause-kept c = each-along c.enter.ensures.kept c.enter-in-Some.ensures.kept

pub returns-in_ok-enter-in-Some-clause-entered : goal.returns-in_ok-enter-in-Some-clause-entered
returns-in_ok-enter-in-Some-clause-entered c =
    let pair = c.in-Some.pair in
    on-ok c.enter-in-Some.result
    (λ second x own.
    elim (or_cases (int_eq x pair.first) _ (ap (λ p. is_in p x) (sym c.in-Some.is) ∙ own)) [
      | inl one ↦ subst (λ (y : ℤ). has_number c.args.number (watchers c.enter-in-Some.new.self y) ≡ true) (sym
          (int_eq-true x pair.first one))
          ((c.enter-in-Some.ensures.kept.kept pair.first).kept c.args.number c.in_ok-enter-in-Some.ensures.entered)
      | inr two ↦ subst (λ (y : ℤ). has_number c.args.number (watchers c.enter-in-Some.new.self y) ≡ true) (sym
          (int_eq-true x pair.second two))
          second
    ])
    c.enter-in-Some.ensures.entered
