-- One number more, a clause that is false, and the end.
use Rattle.std.proofs.Common.{◌≡◌, ℕ, List, is_some, take, get_or, inl, inr, sym, ◌∙◌, ap, subst, nat_eq}
use Rattle.std.specs.Prelude.{IsTrue, slice_index}
use Rattle.std.proofs.lemmas.Bool.{or_cases}
use Rattle.std.proofs.lemmas.List.{take_all}
use Rattle.std.proofs.lemmas.List.Folds.{list_any_more}
use Rattle.std.proofs.lemmas.Map.Views.{exact_unsigned_eq}
use Rattle.drat_checker.specs.Places.{place_at, standing}
use Rattle.drat_checker.specs.Numbers.{has_number}
use Rattle.drat_checker.specs.Reasons.{IsFalsified}
use Rattle.drat_checker.proofs.Lifts.{if-some-at}
use Rattle.drat_checker.proofs.Propagated.{none-before}
use Rattle.drat_checker.proofs.Derived.{derives-none, derives-then, derives-extends, derives-same}
use Rattle.drat_checker.proofs.Reasoned.{keeps-none, keeps-then}
use Rattle.drat_checker.proofs.Visited.{true-more}
use Rattle.drat_checker.proofs.propagation.take_short.Goals as goal

pub loop-number-init : goal.loop-number-init
loop-number-init c = record {
  derives = derives-none (standing c.args.db.now) c.args.trail.now.literals;
  reasons = keeps-none c.args.db.now c.args.trail.now;
  holds = λ number clause none stands short. absurd (cc);
  units = λ units. units;
}

pub loop-number-preserved : goal.loop-number-preserved
loop-number-preserved c =
    let so_far = c.loop-number.invariant in
    let step = c.in_ok-conflict.ensures in
    let numbers = c.short-numbers.result.now in
    let i = c.loop-number.number-index in
    record {
      derives = derives-then so_far.derives step.derives;
      reasons = keeps-then so_far.reasons step.reasons;
      holds = λ number clause m stands short.
          elim (or_cases (has_number number (take i numbers)) _
          (sym (list_any_more (nat_eq number) numbers i 0 c.loop-number-test.true) ∙ m)) [
            | inl earlier ↦ true-more clause (derives-extends step.derives) (so_far.holds number clause earlier stands short)
            | inr now ↦
                let is : number ≡ slice_index numbers i = exact_unsigned_eq number (get_or numbers i 0) now in
                step.taken c.in-None.is clause (ap (place_at c.args.db.now) (sym is) ∙ stands) short
          ];
      units = λ units. step.units (so_far.units units);
    }

pub returns-in-Some-clause-conflict : goal.returns-in-Some-clause-conflict
returns-in-Some-clause-conflict c = λ is.
    none-before c.quiet_law.ensures.none c.quiet_law.ensures.fails (standing c.args.db.now) c.args.trail.now.literals
    c.loop-number.trail.literals
    (derives-same c.propagation_law.ensures.forced c.loop-number.invariant.derives)
    (c.in_ok-conflict.ensures.conflict (ap is_some c.in-Some.is))

pub returns-in-Some-clause-falsified : goal.returns-in-Some-clause-falsified
returns-in-Some-clause-falsified c =
    if-some-at (IsFalsified c.args.db.now c.take_number.new.trail.literals) c.in_ok-conflict.conflict c.in-Some.own c.in-Some.is
    c.in_ok-conflict.ensures.falsified

pub returns-in-Some-clause-derives : goal.returns-in-Some-clause-derives
returns-in-Some-clause-derives c = derives-then c.loop-number.invariant.derives c.in_ok-conflict.ensures.derives

pub returns-in-Some-clause-reasons : goal.returns-in-Some-clause-reasons
returns-in-Some-clause-reasons c = keeps-then c.loop-number.invariant.reasons c.in_ok-conflict.ensures.reasons

pub returns-clause-reasons : goal.returns-clause-reasons
returns-clause-reasons c = c.loop-number.invariant.reasons

pub returns-clause-holds : goal.returns-clause-holds
returns-clause-holds c = λ is. record {
  holds = λ number clause stands short.
      c.loop-number.invariant.holds number clause
      (subst (λ (l : List ℕ). IsTrue (has_number number l))
      (sym (take_all c.loop-number.number-index c.short-numbers.result.now c.loop-number-test.false))
      (c.short-numbers.ensures number clause stands short)) stands short;
}

pub returns-clause-derives : goal.returns-clause-derives
returns-clause-derives c = c.loop-number.invariant.derives

pub returns-in-Some-clause-units : goal.returns-in-Some-clause-units
returns-in-Some-clause-units c = λ units. c.in_ok-conflict.ensures.units (c.loop-number.invariant.units units)

pub returns-clause-units : goal.returns-clause-units
returns-clause-units c = c.loop-number.invariant.units
