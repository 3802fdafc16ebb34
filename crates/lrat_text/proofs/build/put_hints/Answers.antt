-- The groups in turn; the first number that is no hint ends the list, or shows that it has none.
use Rattle.std.proofs.Common.{◌≡◌, ◌+◌, ◌-◌, ℕ, suc, List, [], ◌∷◌, ◌++◌, ℤ, nat_abs, true, length, drop, take, get_or, pos, option_map, refl, sym, ◌∙◌, ap, subst, arith, add-one, length-drop, take_all, get_or-drop}
use Rattle.cnf_base.specs.ProofText.{is_hint, groups_of}
use Rattle.lrat_text.specs.Numbers.{IsIdFront}
use Rattle.lrat_text.proofs.GoesOn.{read_back}
use Rattle.lrat_text.proofs.Ends.{ended_at, never_ended, hints_deny, plain_hints, no_groups, are_hints, group_more, hint_small, IsGroupMore}
use Rattle.lrat_text.proofs.build.put_hints.Goals as goal

pub groups-init : goal.groups-init
groups-init c =
    let front = c.in_ok-end.ensures in
    let own : List ℤ = take c.in_ok-end.end c.args.numbers.now in
    record {
      within = front.within;
      all = are_hints own front.all;
      hints = front.given_are ∙ sym (plain_hints own front.all);
      groups = c.clear.ensures ∙ sym (no_groups own front.all);
      stops = front.stops;
    }

pub groups-preserved : goal.groups-preserved
groups-preserved c =
    let numbers : List ℤ = c.args.numbers.now in
    let end = c.groups.end in
    let count = c.in_ok-count.count in
    let rest : take (length numbers - (end + 1)) (drop (end + 1) numbers) ≡ drop (suc end) numbers =
    take_all (length numbers - (end + 1)) (drop (end + 1) numbers) (omega (arith, length-drop (end + 1) numbers))
    ∙ ap (λ n. drop n numbers) (add-one end) in
    let front : IsIdFront count c.put_front-in-groups.new.ids (drop (suc end) numbers) =
    subst (IsIdFront count c.put_front-in-groups.new.ids) rest c.in_ok-count.ensures in
    let first : ℤ = get_or numbers end (pos 0) in
    let is : is_hint first ≡ true = sym c.is_within_at.ensures ∙ c.if-not-is_within_at.false in
    let more : IsGroupMore numbers end count c.put_front-in-groups.new.ids =
    group_more numbers end count c.put_front-in-groups.new.ids c.groups-test.true c.groups.invariant.all
    is (c.groups.invariant.stops c.groups-test.true) front in
    let named : c.unsigned_abs.result ≡ nat_abs first = c.unsigned_abs.ensures.value ∙ ap nat_abs (read_back first (hint_small first is)) in
    let behind : suc end + count ≡ end + (count + 1) = omega arith in
    let size : end + (count + 1) ≡ end + suc count = ap (λ n. end + n) (add-one count) in
    record {
      within = omega (arith, front.within, length-drop (suc end) numbers, c.groups-test.true);
      all = rw size more.all;
      hints = rw size (c.groups.invariant.hints ∙ sym more.hints);
      groups = c.in_ok-push.ensures.ok
          ∙ (λ i. c.groups.invariant.groups i ++ (record { id = named i; hints = c.put_front-in-groups.new.ids }) ∷ [])
          ∙ sym more.groups ∙ ap (λ n. groups_of (take n numbers)) (sym size);
      stops = λ inside.
          rw (← behind, ← get_or-drop (suc end) numbers count (pos 0)) (front.stops (omega (arith, inside, length-drop (suc end) numbers)));
    }

pub returns-then-not-is_within_at-clause-split : goal.returns-then-not-is_within_at-clause-split
returns-then-not-is_within_at-clause-split c =
    let numbers : List ℤ = c.args.numbers.now in
    let f : ℕ → List ℤ × List ℤ = λ n. (take n numbers, drop (n + 1) numbers) in
    let parts : f c.groups.end ≡ (take c.groups.end numbers, drop (suc c.groups.end) numbers) = rw (add-one c.groups.end) refl in
    ended_at is_hint hints_deny f numbers c.groups.end c.groups.invariant.all c.groups-test.true
    (sym c.is_within_at.ensures ∙ c.if-not-is_within_at.true) parts ∙ ap (option_map f) (sym c.zero_at.ensures)

pub returns-clause-split : goal.returns-clause-split
returns-clause-split c = never_ended is_hint hints_deny c.args.numbers.now c.groups.end c.groups.invariant.all
    (omega (arith, c.groups-test.false))
