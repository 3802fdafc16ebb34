-- Watched literals, as numbers go from the lists of literals that they watch no more, and as a clause watches another literal.
use Rattle.std.proofs.Common.{◌≡◌, ℕ, ◌<◌, ◌≢◌, ◌⊎◌, true, false, ◌&&◌, ℤ, List, length, set, None, Some, is_some, nat_eq, int_eq}
use Rattle.std.proofs.Common.{inl, inr, refl, sym, ap, ◌∙◌, subst, eqb-true}
use Rattle.std.proofs.Math.Seq.{get_or-set_same, get_or-set_other}
use Rattle.std.proofs.lemmas.Bool.{and_parts, or_cases, or_left, or_right, both_ways, false_from_ne_true, cases_eq}
use Rattle.std.proofs.lemmas.List.Folds.{list_any-append}
use Rattle.lrat_rules.specs.Chain.{literals_of}
use Rattle.drat_checker.specs.declared.pair.Pair.{Pair}
use Rattle.drat_checker.specs.Places.{Places, place_at}
use Rattle.drat_checker.specs.Numbers.{has_number}
use Rattle.drat_checker.specs.Watches.{Pairs, Watchers, ArePairs, IsPair, IsWatched, KeepsBoth, MovesWatches, beside, is_in, is_of, pair_at}
use Rattle.drat_checker.specs.Watches.{watches}
use Rattle.drat_checker.specs.Visits.{IsMoved}
use Rattle.drat_checker.proofs.FalseSets.{int_eq-true, eq-int_eq}

-- no literal loses a number from its watchers, but one literal may lose one number
pub record KeepsWatchers (old new : Watchers) (number : ℕ) (literal : ℤ) : Type 0 where
  pub kept : (n : ℕ) (x : ℤ) → (nat_eq n number && int_eq x literal) ≡ false → has_number n (old x) ≡ true → has_number n (new x) ≡ true

-- two kinds of lists
pub in-one : (one other : Watchers) (n : ℕ) (x : ℤ) → has_number n (one x) ≡ true → has_number n (beside one other x) ≡ true
in-one one other n x h = list_any-append (nat_eq n) (one x) (other x) ∙ or_left _ _ h

pub in-other : (one other : Watchers) (n : ℕ) (x : ℤ) → has_number n (other x) ≡ true → has_number n (beside one other x) ≡ true
in-other one other n x h = list_any-append (nat_eq n) (one x) (other x) ∙ or_right (has_number n (one x)) _ h

pub of-either : (one other : Watchers) (n : ℕ) (x : ℤ) → has_number n (beside one other x) ≡ true
    → (has_number n (one x) ≡ true) ⊎ (has_number n (other x) ≡ true)
of-either one other n x h = or_cases (has_number n (one x)) _ (sym (list_any-append (nat_eq n) (one x) (other x)) ∙ h)

pub each-beside : (one one' other : Watchers) (n : ℕ) (x : ℤ) → (has_number n (one x) ≡ true → has_number n (one' x) ≡ true)
    → has_number n (beside one other x) ≡ true → has_number n (beside one' other x) ≡ true
each-beside one one' other n x f h =
    elim (of-either one other n x h) [
      | inl here ↦ in-one one' other n x (f here)
      | inr there ↦ in-other one' other n x there
    ]

pub swapped : (one other : Watchers) (n : ℕ) (x : ℤ) → has_number n (beside one other x) ≡ true
    → has_number n (beside other one x) ≡ true
swapped one other n x h =
    elim (of-either one other n x h) [
      | inl here ↦ in-other other one n x here
      | inr there ↦ in-one other one n x there
    ]

pub keeps-beside : {one one' : Watchers} {number : ℕ} {literal : ℤ} (other : Watchers) → KeepsWatchers one one' number literal
    → KeepsWatchers (beside one other) (beside one' other) number literal
keeps-beside {one} {one'} other keeps = record {
  kept = λ n x apart listed. each-beside one one' other n x (keeps.kept n x apart) listed;
}

pub both-then : {a b c : Watchers} → KeepsBoth a b → KeepsBoth b c → KeepsBoth a c
both-then f g = record { kept = λ n x h. g.kept n x (f.kept n x h) }

pub both-same : (all : Watchers) → KeepsBoth all all
both-same all = record { kept = λ n x h. h }

pub own-first : (pair : Pair) → is_of pair pair.first ≡ true
own-first pair = or_left _ _ (eq-int_eq pair.first pair.first refl)

pub own-second : (pair : Pair) → is_of pair pair.second ≡ true
own-second pair = or_right (int_eq pair.second pair.first) _ (eq-int_eq pair.second pair.second refl)

-- the number that goes from the literal's list doesn't watch it
pub watched-gone : (pairs : Pairs) (all all' : Watchers) (places : Places) (number : ℕ) (literal : ℤ) → IsWatched pairs all places
    → KeepsWatchers all all' number literal
    → ((clause : List ℤ) → place_at places number ≡ Some clause → watches pairs number literal ≡ false) → IsWatched pairs all' places
watched-gone pairs all all' places number literal w keeps unwatched = record {
  are = w.are;
  listed = λ n clause x at watched.
      keeps.kept n x (false_from_ne_true _ (λ both.
      let parts = and_parts (nat_eq n number) (int_eq x literal) both in
      let same : n ≡ number = eqb-true n number parts.0 in
      let here : watches pairs number literal ≡ true =
      subst (λ (m : ℕ). watches pairs m literal ≡ true) same
      (subst (λ (y : ℤ). watches pairs n y ≡ true) (int_eq-true x literal parts.1) watched) in
      both_ways (watches pairs number literal) (unwatched clause (ap (place_at places) (sym same) ∙ at)) here))
      (w.listed n clause x at watched);
}

-- a clause watches another literal in the place of that one
module _ (pairs : Pairs) (places : Places) (number : ℕ) (literal : ℤ) (are : ArePairs pairs places) where
  module _ (literals : List ℤ) (pair : Pair) (moved : IsMoved places pairs literals literal number pair) (pairs' : Pairs)
      (is' : pairs' ≡ set pairs number (Some pair)) (within : number < length pairs) where
    at-number : pair_at pairs' number ≡ Some pair
    at-number = ap (λ (ps : Pairs). pair_at ps number) is' ∙ get_or-set_same pairs number (Some pair) None within

    at-other : (n : ℕ) → n ≢ number → pair_at pairs' n ≡ pair_at pairs n
    at-other n other = ap (λ (ps : Pairs). pair_at ps n) is' ∙ get_or-set_other pairs number n (Some pair) None other

    new-pair : (x : ℤ) → watches pairs' number x ≡ true → is_of pair x ≡ true
    new-pair x now = ap (λ p. is_in p x) (sym at-number) ∙ now

    same-clause : (n : ℕ) (clause : List ℤ) → n ≡ number → place_at places n ≡ Some clause → moved.clause ≡ clause
    same-clause n clause same at =
        let both : Some moved.clause ≡ Some clause = sym moved.stands ∙ ap (place_at places) (sym same) ∙ at in
        cc

    pub pairs-moved : ArePairs pairs' places
    pairs-moved = record {
      own = λ n clause own at is. elim (cases_eq n number) [
        | inl same ↦
            let new : Some pair ≡ Some own = sym at-number ∙ ap (pair_at pairs') (sym same) ∙ is in
            let pairs_are : pair ≡ own = cc in
            let it : IsPair pair moved.clause = record { first = moved.first; second = moved.second; apart = moved.apart } in
            subst (λ (p : Pair). IsPair p clause) pairs_are
            (subst (λ (c : List ℤ). IsPair pair c) (same-clause n clause same at) it)
        | inr other ↦ are.own n clause own at (sym (at-other n other) ∙ is)
      ];
      there = λ n clause at long. elim (cases_eq n number) [
        | inl same ↦ ap is_some (ap (pair_at pairs') same ∙ at-number)
        | inr other ↦ ap is_some (at-other n other) ∙ are.there n clause at long
      ];
    }

    pub watched-moved : (all all' : Watchers) → IsWatched pairs all places → KeepsWatchers all all' number literal
        → has_number number (all' pair.first) ≡ true → IsWatched pairs' all' places
    watched-moved all all' w keeps entered = record {
      are = pairs-moved;
      listed = λ n clause x at watched. elim (cases_eq n number) [
        | inl same ↦
            subst (λ (m : ℕ). has_number m (all' x) ≡ true) (sym same)
            (elim (or_cases (int_eq x pair.first) _ (new-pair x (ap (λ m. watches pairs' m x) (sym same) ∙ watched))) [
              | inl one ↦ subst (λ (y : ℤ). has_number number (all' y) ≡ true) (sym (int_eq-true x pair.first one)) entered
              | inr two ↦ subst (λ (y : ℤ). has_number number (all' y) ≡ true) (sym (int_eq-true x pair.second two))
                  (keeps.kept number pair.second
                  (false_from_ne_true _ (λ both.
                  both_ways (int_eq pair.second literal) moved.other (and_parts (nat_eq number number)
                  (int_eq pair.second literal) both).1))
                  (w.listed number moved.clause pair.second moved.stands moved.kept))
            ])
        | inr other ↦
            keeps.kept n x
            (false_from_ne_true _ (λ both. other (eqb-true n number (and_parts (nat_eq n number) (int_eq x literal) both).0)))
            (w.listed n clause x at (ap (λ p. is_in p x) (sym (at-other n other)) ∙ watched))
      ];
    }

    -- what is watched now and false was watched before
    pub moves-to : MovesWatches pairs pairs' literals
    moves-to = record {
      moved = λ n x now x_false. elim (cases_eq n number) [
        | inl same ↦
            ap (λ m. watches pairs m x) same
            ∙ elim (or_cases (int_eq x pair.first) _ (new-pair x (ap (λ m. watches pairs' m x) (sym same) ∙ now))) [
              | inl one ↦ absurd (both_ways (literals_of literals pair.first) moved.unfalse
                  (subst (λ (y : ℤ). literals_of literals y ≡ true) (int_eq-true x pair.first one) x_false))
              | inr two ↦ subst (λ (y : ℤ). watches pairs number y ≡ true) (sym (int_eq-true x pair.second two)) moved.kept
            ]
        | inr other ↦ ap (λ p. is_in p x) (sym (at-other n other)) ∙ now
      ];
    }

    -- the clause watches the literal no more
    pub moved-away : literals_of literals literal ≡ true → watches pairs' number literal ≡ false
    moved-away is_false = false_from_ne_true _ (λ now.
        elim (or_cases (int_eq literal pair.first) _ (new-pair literal now)) [
          | inl one ↦ both_ways (literals_of literals pair.first) moved.unfalse
              (subst (λ (y : ℤ). literals_of literals y ≡ true) (int_eq-true literal pair.first one) is_false)
          | inr two ↦ both_ways (int_eq pair.second literal) moved.other
              (eq-int_eq pair.second literal (sym (int_eq-true literal pair.second two)))
        ])

-- one after another
pub moves-none : (pairs : Pairs) (literals : List ℤ) → MovesWatches pairs pairs literals
moves-none pairs literals = record { moved = λ n x now x_false. now }

pub moves-then : {a b c : Pairs} (literals more : List ℤ) → ((x : ℤ) → literals_of literals x ≡ true → literals_of more x ≡ true)
    → MovesWatches a b literals → MovesWatches b c more → MovesWatches a c literals
moves-then literals more longer f s = record {
  moved = λ n x now x_false. f.moved n x (s.moved n x now (longer x x_false)) x_false;
}
