-- Where propagation ends by watched literals: the clauses are closed, and stay guarded as watches move and literals are taken back.
use Rattle.std.proofs.Common.{◌≡◌, ℕ, ◌+◌, ◌<◌, ◌≤◌, Bool, true, false, ◌⊎◌, ◌||◌, ℤ, pos, List, [], ◌∷◌, length, take, drop, get_or, None, Some}
use Rattle.std.proofs.Common.{is_some}
use Rattle.std.proofs.Common.{int_eq, inl, inr, refl, sym, ap, ◌∙◌, subst, arith}
use Rattle.std.proofs.lemmas.Bool.{or_cases, or_left, or_right}
use Rattle.std.proofs.lemmas.List.{get_or_read, take_all, take_more, take-append-le, take-append-drop}
use Rattle.std.proofs.lemmas.List.Folds.{list_any-append}
use Rattle.lrat_rules.specs.Chain.{literals_of}
use Rattle.drat_rules.specs.Quiet.{closed_under}
use Rattle.drat_checker.specs.declared.pair.Pair.{Pair}
use Rattle.drat_checker.specs.declared.watches.Watches.{Watches}
use Rattle.drat_checker.specs.Places.{Places, standing}
use Rattle.drat_checker.specs.Propagation.{Extends, IsClosed}
use Rattle.drat_checker.specs.Trail.{IsApart}
use Rattle.drat_checker.specs.Database.{is_short}
use Rattle.drat_checker.specs.Numbers.{has_number}
use Rattle.drat_checker.specs.LiteralLists.{KeepsOthers}
use Rattle.drat_checker.specs.Watches.{Pairs, Watchers, AreHeads, ArePairs, AreTrue, AreVisited, IsGuarded, IsSettled, IsWatched}
use Rattle.drat_checker.specs.Watches.{MovesWatches, all_watchers, is_in, is_true, pair_at, watchers, watches}
use Rattle.drat_checker.proofs.FalseSets.{int_eq-true}
use Rattle.drat_checker.proofs.Guarded.{true-closed, two-closed}
use Rattle.drat_checker.proofs.Standing.{all-standing}
use Rattle.drat_checker.proofs.Visited.{true-more}
use Rattle.drat_checker.proofs.Trails.{at-any}
use Rattle.drat_checker.proofs.Watched.{of-either, own-first, own-second}

-- the literals of a front are among all
pub front-false : (xs : List ℤ) (n : ℕ) (x : ℤ) → literals_of (take n xs) x ≡ true → literals_of xs x ≡ true
front-false xs n x m =
    ap (λ (l : List ℤ). literals_of l x) (sym (take-append-drop n xs)) ∙ list_any-append (int_eq x) (take n xs) (drop n xs) ∙ or_left _ _ m

or_last : (b : Bool) → (b || false) ≡ true → b ≡ true
or_last true h = refl
or_last false h = h

false-not-true : false ≡ true → ⊥
false-not-true e = cc

-- a literal of a front, one longer, of a list that grew: of the front before, or the one at the place
front-next : {old new : List ℤ} (place : ℕ) (x : ℤ) → place < length old → x ≡ get_or old place x → Extends old new → (y : ℤ)
    → literals_of (take (place + 1) new) y ≡ true → (literals_of (take place old) y ≡ true) ⊎ (y ≡ x)
front-next {old} {new} place x within at e y front =
    let le : place + 1 ≤ length old = omega arith in
    let parts : (literals_of (take place old) y || (int_eq y (get_or old place x) || false)) ≡ true =
    sym (list_any-append (int_eq y) (take place old) (get_or old place x ∷ []))
    ∙ ap (λ (l : List ℤ). literals_of l y) (sym (take_more old place x within))
    ∙ ap (λ (l : List ℤ). literals_of l y) (sym (take-append-le (place + 1) old e.rest le))
    ∙ ap (λ (l : List ℤ). literals_of (take (place + 1) l) y) (sym e.parts) ∙ front in
    elim (or_cases (literals_of (take place old) y) _ parts) [
      | inl earlier ↦ inl earlier
      | inr here ↦ inr (int_eq-true y (get_or old place x) (or_last (int_eq y (get_or old place x)) here) ∙ sym at)
    ]

-- one no longer, of a list that grew
front-same : {old new : List ℤ} (place : ℕ) → place ≤ length old → Extends old new → take place new ≡ take place old
front-same {old} {new} place le e = ap (take place) e.parts ∙ take-append-le place old e.rest le

-- the literal at a place is one of them
pub own-false : (xs : List ℤ) (x : ℤ) (place : ℕ) → place < length xs → x ≡ get_or xs place x → literals_of xs x ≡ true
own-false xs x place within at = ap (literals_of xs) (get_or_read xs place x within at (pos 0)) ∙ at-any xs place within

-- the next literal has visited its clauses
module _ (places : Places) (kept kept' : Watches) (old new : List ℤ) (e : Extends old new)
    (moves : MovesWatches kept.pairs.items kept'.pairs.items old) where
  grown : (place : ℕ) → place ≤ length old → IsGuarded places kept.pairs.items (take place old) old
      → IsGuarded places kept'.pairs.items (take place new) new
  grown place le guard = record {
    guarded = λ n clause x stands watched m.
        let front : literals_of (take place old) x ≡ true = ap (λ (l : List ℤ). literals_of l x) (sym (front-same place le e)) ∙ m in
        true-more clause e (guard.guarded n clause x stands (moves.moved n x watched (front-false old place x front)) front);
  }

  pub heads-next : (watched : IsWatched kept.pairs.items (all_watchers kept) places) (next late : ℕ) (x : ℤ) → next < length old
      → x ≡ get_or old next x → late ≤ length old → watchers kept'.late ≡ watchers kept.late
      → AreVisited places kept'.pairs.items x new (watchers kept.lists x) [] → AreHeads places kept old next late
      → AreHeads places kept' new (next + 1) late
  heads-next watched next late x within at le same visited heads = record {
    next = record {
      guarded = λ n clause y stands now_watched front.
          elim (front-next next x within at e y front) [
            | inl earlier ↦ elim (or_cases (is_true old clause) _
                (heads.next.guarded n clause y stands (moves.moved n y now_watched (front-false old next y earlier)) earlier)) [
                  | inl holds ↦ or_left _ _ (true-more clause e holds)
                  | inr listed ↦ or_right (is_true new clause) _ (ap (λ (w : Watchers). has_number n (w y)) same ∙ listed)
                ]
            | inr is ↦
                let watched' : watches kept'.pairs.items n x ≡ true =
                subst (λ (z : ℤ). watches kept'.pairs.items n z ≡ true) is now_watched in
                let before : watches kept.pairs.items n x ≡ true = moves.moved n x watched' (own-false old x next within at) in
                elim (of-either (watchers kept.lists) (watchers kept.late) n x (watched.listed n clause x stands before)) [
                  | inl soon ↦ or_left _ _ (or_last (is_true new clause) (visited.visited n clause stands watched' soon))
                  | inr listed ↦ or_right (is_true new clause) _
                      (ap (λ (w : Watchers). has_number n (w y)) same ∙ ap (λ z. has_number n (watchers kept.late z)) is ∙ listed)
                ]
          ];
    };
    late = grown late le heads.late;
  }

  -- and here its late ones
  pub heads-late : (next late : ℕ) (x : ℤ) → late < length old → x ≡ get_or old late x → length old ≤ next
      → KeepsOthers x kept.late kept'.late → AreVisited places kept'.pairs.items x new (watchers kept.late x) []
      → next ≤ length old → AreHeads places kept old next late → AreHeads places kept' new next (late + 1)
  heads-late next late x within at past kept_others visited le heads = record {
    next = record {
      guarded = λ n clause y stands watched m.
          let front : literals_of (take next old) y ≡ true = ap (λ (l : List ℤ). literals_of l y) (sym (front-same next le e)) ∙ m in
          elim (or_cases (is_true old clause) _
          (heads.next.guarded n clause y stands (moves.moved n y watched (front-false old next y front)) front)) [
            | inl holds ↦ or_left _ _ (true-more clause e holds)
            | inr listed ↦ elim (int_eq y x) as (λ b. int_eq y x ≡ b → (is_true new clause || has_number n (watchers kept'.late y)) ≡ true) [
              | true ↦ λ same.
                  let is : y ≡ x = int_eq-true y x same in
                  or_left _ _ (or_last (is_true new clause) (visited.visited n clause stands
                  (subst (λ (z : ℤ). watches kept'.pairs.items n z ≡ true) is watched)
                  (subst (λ (z : ℤ). has_number n (watchers kept.late z) ≡ true) is listed)))
              | false ↦ λ other. or_right (is_true new clause) _ ((kept_others.kept y other).kept n listed)
            ] refl
          ];
    };
    late = record {
      guarded = λ n clause y stands watched front.
          elim (front-next late x within at e y front) [
            | inl earlier ↦ true-more clause e
                (heads.late.guarded n clause y stands (moves.moved n y watched (front-false old late y earlier)) earlier)
            | inr is ↦
                let watched' : watches kept'.pairs.items n x ≡ true = subst (λ (z : ℤ). watches kept'.pairs.items n z ≡ true) is watched in
                let x_false : literals_of old x ≡ true = own-false old x late within at in
                let whole : literals_of (take next old) x ≡ true = ap (λ (l : List ℤ). literals_of l x) (take_all next old past) ∙ x_false in
                elim (or_cases (is_true old clause) _
                (heads.next.guarded n clause x stands (moves.moved n x watched' x_false) whole)) [
                  | inl holds ↦ true-more clause e holds
                  | inr listed ↦ or_last (is_true new clause) (visited.visited n clause stands watched' listed)
                ]
          ];
    };
  }

-- at the start
pub heads-start : (places : Places) (kept : Watches) (literals : List ℤ) (from : ℕ)
    → IsGuarded places kept.pairs.items (take from literals) literals → AreHeads places kept literals from from
heads-start places kept literals from guard = record {
  next = record { guarded = λ n clause x stands watched m. or_left _ _ (guard.guarded n clause x stands watched m) };
  late = guard;
}

-- nothing is left
pub guard-end : (places : Places) (pairs : Pairs) (place : ℕ) (literals : List ℤ) → length literals ≤ place
    → IsGuarded places pairs (take place literals) literals → IsGuarded places pairs literals literals
guard-end places pairs place literals past guard =
    subst (λ (l : List ℤ). IsGuarded places pairs l literals) (take_all place literals past) guard

pub guard-none : (places : Places) (pairs : Pairs) (literals : List ℤ) → IsGuarded places pairs [] literals
guard-none places pairs literals = record { guarded = λ n clause x stands watched none. absurd (false-not-true none) }

-- more literals are false, fewer clauses stand, watches moved
pub guard-more : (places : Places) (pairs : Pairs) (front : List ℤ) {old new : List ℤ} → Extends old new → IsGuarded places pairs front old
    → IsGuarded places pairs front new
guard-more places pairs front e guard = record {
  guarded = λ n clause x stands watched m. true-more clause e (guard.guarded n clause x stands watched m);
}

pub holds-more : (places : Places) {old new : List ℤ} → Extends old new → AreTrue places old → AreTrue places new
holds-more places e holds = record { holds = λ n clause stands short. true-more clause e (holds.holds n clause stands short) }

pub guard-moved : (places : Places) (pairs pairs' : Pairs) (xs literals : List ℤ)
    → ((x : ℤ) → literals_of xs x ≡ true → literals_of literals x ≡ true) → MovesWatches pairs pairs' literals
    → IsGuarded places pairs xs xs → IsGuarded places pairs' xs xs
guard-moved places pairs pairs' xs literals among moves guard = record {
  guarded = λ n clause x stands watched m. guard.guarded n clause x stands (moves.moved n x watched (among x m)) m;
}

pub moves-fewer : (pairs pairs' : Pairs) (literals more : List ℤ) → ((x : ℤ) → literals_of literals x ≡ true → literals_of more x ≡ true)
    → MovesWatches pairs pairs' more → MovesWatches pairs pairs' literals
moves-fewer pairs pairs' literals more among moves = record { moved = λ n x watched m. moves.moved n x watched (among x m) }

-- all clauses are closed
pub settled-closed : (kept : Watches) (places : Places) (literals : List ℤ) → ArePairs kept.pairs.items places → IsApart literals
    → IsSettled kept places literals → IsClosed (standing places) literals
settled-closed kept places literals pairs apart settled =
    let watched-is : (n : ℕ) (pair : Pair) (x : ℤ) → pair_at kept.pairs.items n ≡ Some pair → is_in (Some pair) x ≡ true
    → watches kept.pairs.items n x ≡ true = λ n pair x is own. ap (λ p. is_in p x) is ∙ own in
    record {
      closed = all-standing (closed_under (literals_of literals)) places (λ n clause stands.
          elim (is_short clause) as (λ b. is_short clause ≡ b → closed_under (literals_of literals) clause ≡ true) [
            | true ↦ λ short. true-closed literals clause apart (settled.holds.holds n clause stands short)
            | false ↦ λ long. elim (pair_at kept.pairs.items n)
                as (λ p. pair_at kept.pairs.items n ≡ p → is_some p ≡ true → closed_under (literals_of literals) clause ≡ true) [
                  | None ↦ λ is none. absurd (false-not-true none)
                  | Some pair ↦ λ is _.
                      let own = pairs.own n clause pair stands is in
                      elim (literals_of literals pair.first)
                      as (λ b. literals_of literals pair.first ≡ b → closed_under (literals_of literals) clause ≡ true) [
                        | true ↦ λ one. true-closed literals clause apart
                            (settled.guarded.guarded n clause pair.first stands (watched-is n pair pair.first is (own-first pair)) one)
                        | false ↦ λ not_one. elim (literals_of literals pair.second)
                            as (λ b. literals_of literals pair.second ≡ b → closed_under (literals_of literals) clause ≡ true) [
                              | true ↦ λ two. true-closed literals clause apart
                                  (settled.guarded.guarded n clause pair.second stands (watched-is n pair pair.second is
                                  (own-second pair)) two)
                              | false ↦ λ not_two. two-closed literals clause pair.first pair.second own.first own.second own.apart
                                  not_one not_two
                            ] refl
                      ] refl
                ] refl (pairs.there n clause stands long)
          ] refl);
    }

-- the false literals are as before, and the watches moved under them
pub settled-moved : (places : Places) (kept kept' : Watches) (old new : List ℤ) → new ≡ old
    → MovesWatches kept.pairs.items kept'.pairs.items old → IsSettled kept places old → IsSettled kept' places new
settled-moved places kept kept' old new same moves settled =
    subst (λ (l : List ℤ). IsSettled kept' places l) (sym same) (record {
      guarded = guard-moved places kept.pairs.items kept'.pairs.items old old (λ x m. m) moves settled.guarded;
      holds = settled.holds;
    })

-- the same for fewer false literals
pub settled-front : (places : Places) (kept kept' : Watches) (front literals : List ℤ)
    → ((x : ℤ) → literals_of front x ≡ true → literals_of literals x ≡ true) → MovesWatches kept.pairs.items kept'.pairs.items literals
    → IsSettled kept places front → IsSettled kept' places front
settled-front places kept kept' front literals among moves settled = record {
  guarded = guard-moved places kept.pairs.items kept'.pairs.items front literals among moves settled.guarded;
  holds = settled.holds;
}
