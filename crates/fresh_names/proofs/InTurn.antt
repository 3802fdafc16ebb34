-- By the new names variables come into use in turn, each at the moment at which its own did; and deletions still name clauses that stand.
use Rattle.std.proofs.Common.{◌≡◌, ℕ, zero, suc, ◌+◌, ◌<◌, ◌≤◌, Bool, true, false, not, ◌||◌, ◌&&◌, ℤ, List, [], ◌∷◌, ◌++◌, length, map}
use Rattle.std.proofs.Common.{nat_eq, nat_lt, inl, inr, if◌then◌else◌, refl, sym, ap, ◌∙◌, subst, arith, length-append}
use Rattle.std.specs.Prelude.{nat_abs}
use Rattle.std.specs.List.{list_any, list_all, range_with_len}
use Rattle.std.proofs.lemmas.Bool.{and_parts, and_from, and_left, and_right, or_cases, or_from, or_left, or_right}
use Rattle.std.proofs.lemmas.Bool.{false_from_ne_true, not_from_true, not_from_false, cases_lt}
use Rattle.std.proofs.lemmas.Bool.Decides.{Decides-eqb, Decides-int_eq, Decides-ltb}
use Rattle.std.proofs.lemmas.List.{map-append}
use Rattle.std.proofs.lemmas.Slice.Eq.{slice_eq-Decides}
use Rattle.cnf_base.specs.Truth.{AreClausesOf}
use Rattle.drat_text.specs.declared.step.DratStep.{DratStep}
use Rattle.drat_text.specs.declared.step.DratStep.TheVariants.{Add as adds, Delete as deletes}
use Rattle.drat_rules.specs.Clauses.{same_list, is_among, without_first}
use Rattle.drat_rules.specs.Hits.{DeletesStanding}
use Rattle.fresh_names.specs.Fresh.{Names, is_new, entered, entered_as, all_entered, all_left, left, named, fresh_from, first_names, fresh}
use Rattle.fresh_names.specs.Uses.{is_in_use, is_unused, come_with, come_into_use}
use Rattle.fresh_names.proofs.Given.{IsKnown, at-value}
use Rattle.fresh_names.proofs.Literals.{abs-named, named-same}
use Rattle.fresh_names.proofs.Counted.{AreNames, held_in, held, one_if, names-added, names-deleted, name-left, known_literal, literal-known}
use Rattle.fresh_names.proofs.Counted.{all-known, same_list-true, uses-entered}
use Rattle.fresh_names.proofs.Renamed.{QuietLaws}
use Rattle.fresh_names.proofs.Followed.{stay, lists-stay, among-known, without-stays}
use Rattle.fresh_names.proofs.Refuted.{names-first, every-own}

-- a variable is in use where it is counted
counted-in : (v : ℕ) (xs : List ℤ) → nat_eq (held_in v xs) 0 ≡ not (list_any (λ x. nat_eq v (nat_abs x)) xs)
counted-in v [] = refl
counted-in v (x ∷ xs) =
    elim (nat_eq v (nat_abs x)) as (λ b. nat_eq (one_if b + held_in v xs) 0 ≡ not (b || list_any (λ y. nat_eq v (nat_abs y)) xs)) [
      | true ↦ false_from_ne_true _ (λ e. let none : 1 + held_in v xs ≡ 0 = (Decides-eqb (1 + held_in v xs) 0).0 e in absurd (omega arith))
      | false ↦ let same : 0 + held_in v xs ≡ held_in v xs = omega arith in ap (λ k. nat_eq k 0) same ∙ counted-in v xs
    ]

none-of-two : (a b : ℕ) → nat_eq (a + b) 0 ≡ (nat_eq a 0 && nat_eq b 0)
none-of-two zero b = let same : 0 + b ≡ b = omega arith in ap (λ k. nat_eq k 0) same
none-of-two (suc a) b =
    some (suc a + b) (omega arith) ∙ sym (and_left _ _ (some (suc a) (omega arith)))
  where
    some : (n : ℕ) → 0 < n → nat_eq n 0 ≡ false
    some n more = false_from_ne_true _ (λ e. let none : n ≡ 0 = (Decides-eqb n 0).0 e in omega arith)

not-or : (a b : Bool) → (not a && not b) ≡ not (a || b)
not-or true b = refl
not-or false b = refl

counted-use : (v : ℕ) (cs : List (List ℤ)) → nat_eq (held v cs) 0 ≡ not (is_in_use cs v)
counted-use v [] = refl
counted-use v (c ∷ cs) =
    none-of-two (held_in v c) (held v cs)
    ∙ (λ i. counted-in v c i && counted-use v cs i)
    ∙ not-or (list_any (λ x. nat_eq v (nat_abs x)) c) (is_in_use cs v)

not-past : (vars v : ℕ) → v ≤ vars → nat_lt vars v ≡ false
not-past vars v own = false_from_ne_true _ (λ e. let past : vars < v = (Decides-ltb vars v).0 e in omega arith)

-- so it is new where it is unused
unused-new : (vars : ℕ) (clauses : List (List ℤ)) (names : Names) → AreNames vars clauses names → (v : ℕ)
    → is_unused vars clauses v ≡ is_new vars names v
unused-new vars clauses names are v =
    elim (cases_lt vars v) [
      | inl past ↦
          ap (λ b. nat_lt vars v && b) (sym (counted-use v clauses) ∙ ap (λ k. nat_eq k 0) (sym (are.counted v past)))
      | inr own ↦
          and_left _ _ (not-past vars v own) ∙ sym (and_left _ _ (not-past vars v own))
    ]

-- the name of a variable in use is in use
in-use-named : (name : ℕ → ℕ) (v : ℕ) (xs : List ℤ) → list_any (λ x. nat_eq v (nat_abs x)) xs ≡ true
    → list_any (λ x. nat_eq (name v) (nat_abs x)) (map (named name) xs) ≡ true
in-use-named name v [] h = cc
in-use-named name v (x ∷ xs) h =
    elim (or_cases (nat_eq v (nat_abs x)) _ h) [
      | inl here ↦ or_left _ _ ((Decides-eqb (name v) (nat_abs (named name x))).1
          (ap name ((Decides-eqb v (nat_abs x)).0 here) ∙ sym (abs-named name x)))
      | inr later ↦ or_right _ _ (in-use-named name v xs later)
    ]

use-named : (name : ℕ → ℕ) (v : ℕ) (cs : List (List ℤ)) → is_in_use cs v ≡ true → is_in_use (map (map (named name)) cs) (name v) ≡ true
use-named name v [] h = cc
use-named name v (c ∷ cs) h =
    elim (or_cases (list_any (λ x. nat_eq v (nat_abs x)) c) _ h) [
      | inl here ↦ or_left _ _ (in-use-named name v c here)
      | inr later ↦ or_right _ _ (use-named name v cs later)
    ]

-- the next name isn't
module _ (vars : ℕ) (clauses : List (List ℤ)) (names : Names) (are : AreNames vars clauses names) where
  below-next : (v : ℕ) → IsKnown vars names v → names.name v < names.next
  below-next v known =
      elim (cases_lt vars v) [
        | inl past ↦ elim known [
          | inl own ↦ absurd (omega arith)
          | inr used ↦ (are.given.above v past used).1
        ]
        | inr own ↦
            let is : names.name v ≡ v = are.given.own v own in
            let room : vars < names.next = are.given.room in
            omega arith
      ]

  none-in : (xs : List ℤ) → list_all (known_literal vars names) xs ≡ true
      → list_any (λ x. nat_eq names.next (nat_abs x)) (map (named names.name) xs) ≡ false
  none-in [] known = refl
  none-in (x ∷ xs) known =
      let parts = and_parts (known_literal vars names x) _ known in
      or_from _ _
      (false_from_ne_true _ (λ e.
      let same : names.next ≡ names.name (nat_abs x) =
      (Decides-eqb names.next (nat_abs (named names.name x))).0 e ∙ abs-named names.name x in
      let below : names.name (nat_abs x) < names.next = below-next (nat_abs x) (literal-known vars names x parts.0) in
      absurd (omega arith)))
      (none-in xs parts.1)

  none-in-any : (cs : List (List ℤ)) → list_all (list_all (known_literal vars names)) cs ≡ true
      → is_in_use (map (map (named names.name)) cs) names.next ≡ false
  none-in-any [] known = refl
  none-in-any (c ∷ cs) known =
      let parts = and_parts (list_all (known_literal vars names) c) _ known in
      or_from _ _ (none-in c parts.0) (none-in-any cs parts.1)

  next-unused : is_unused vars (map (map (named names.name)) clauses) names.next ≡ true
  next-unused =
      and_from _ _ ((Decides-ltb vars names.next).1 are.given.room)
      (not_from_false _ (none-in-any clauses (all-known vars clauses names are)))

  known-used : (v : ℕ) → is_new vars names v ≡ false → is_unused vars (map (map (named names.name)) clauses) (names.name v) ≡ false
  known-used v known =
      elim (cases_lt vars v) [
        | inl past ↦ and_right _ _ (not_from_true _ (use-named names.name v clauses (in-use past)))
        | inr own ↦
            let is : names.name v ≡ v = are.given.own v own in
            and_left _ _ (not-past vars (names.name v) (omega arith))
      ] where
        from-not : (b : Bool) → not b ≡ false → b ≡ true
        from-not true e = refl
        from-not false e = cc

        in-use : vars < v → is_in_use clauses v ≡ true
        in-use past = from-not _ (ap (λ b. b && not (is_in_use clauses v)) (sym ((Decides-ltb vars v).1 past))
            ∙ unused-new vars clauses names are v ∙ known)

-- how a variable enters: with the next name, or with the one that it has
enters : (vars : ℕ) (clauses : List (List ℤ)) (names : Names) → AreNames vars clauses names → (v : ℕ)
    → (if is_unused vars (map (map (named names.name)) clauses) ((entered vars names v).name v) then (entered vars names v).name v ∷ [] else [])
    ≡ range_with_len names.next (length (if is_unused vars clauses v then v ∷ [] else []))
enters vars clauses names are v =
    elim (is_new vars names v) as (λ b. is_new vars names v ≡ b
    → (if is_unused vars (map (map (named names.name)) clauses) ((entered_as b names v).name v) then (entered_as b names v).name v ∷ [] else [])
    ≡ range_with_len names.next (length (if is_unused vars clauses v then v ∷ [] else []))) [
      | true ↦ λ new.
          let here : (entered_as true names v).name v ≡ names.next = at-value names.name v names.next in
          (λ i. if is_unused vars (map (map (named names.name)) clauses) (here i) then here i ∷ [] else [])
          ∙ ap (λ b. if b then names.next ∷ [] else []) (next-unused vars clauses names are)
          ∙ ap (λ b. range_with_len names.next (length (if b then v ∷ [] else []))) (sym (unused-new vars clauses names are v ∙ new))
      | false ↦ λ known.
          ap (λ b. if b then names.name v ∷ [] else []) (known-used vars clauses names are v known)
          ∙ ap (λ b. range_with_len names.next (length (if b then v ∷ [] else []))) (sym (unused-new vars clauses names are v ∙ known))
    ] refl

next-name : (vars : ℕ) (clauses : List (List ℤ)) (names : Names) → AreNames vars clauses names → (v : ℕ)
    → (entered vars names v).next ≡ names.next + length (if is_unused vars clauses v then v ∷ [] else [])
next-name vars clauses names are v =
    elim (is_new vars names v) as (λ b. is_new vars names v ≡ b
    → (entered_as b names v).next ≡ names.next + length (if is_unused vars clauses v then v ∷ [] else [])) [
      | true ↦ λ new. ap (λ b. names.next + length (if b then v ∷ [] else [])) (sym (unused-new vars clauses names are v ∙ new))
      | false ↦ λ known.
          let same : names.next ≡ names.next + 0 = omega arith in
          same ∙ ap (λ b. names.next + length (if b then v ∷ [] else [])) (sym (unused-new vars clauses names are v ∙ known))
    ] refl

-- numbers in turn, and those behind them
ranges : (a k m : ℕ) → range_with_len a k ++ range_with_len (a + k) m ≡ range_with_len a (k + m)
ranges a zero m = let one : a + 0 ≡ a = omega arith in let two : 0 + m ≡ m = omega arith in λ i. range_with_len (one i) (sym two i)
ranges a (suc k) m =
    let one : a + suc k ≡ (a + 1) + k = omega arith in
    let two : suc k + m ≡ suc (k + m) = omega arith in
    ap (λ l. a ∷ l) (ap (λ n. range_with_len (a + 1) k ++ range_with_len n m) one ∙ ranges (a + 1) k m) ∙ ap (range_with_len a) (sym two)

in-turn : (next : ℕ) (front rest own others : List ℕ) → front ≡ range_with_len next (length own)
    → rest ≡ range_with_len (next + length own) (length others) → front ++ rest ≡ range_with_len next (length (own ++ others))
in-turn next front rest own others f r =
    (λ i. f i ++ r i) ∙ ranges next (length own) (length others) ∙ ap (range_with_len next) (sym (length-append own others))

-- the clauses that stand by the names behind one more
renamed-added : (vars : ℕ) (clauses : List (List ℤ)) (names : Names) → AreNames vars clauses names → (clause : List ℤ)
    → map (map (named (all_entered vars names clause).name)) (clauses ++ clause ∷ [])
    ≡ map (map (named names.name)) clauses ++ map (named (all_entered vars names clause).name) clause ∷ []
renamed-added vars clauses names are clause =
    map-append (map (named (all_entered vars names clause).name)) clauses (clause ∷ [])
    ∙ ap (λ (cs : List (List ℤ)). cs ++ map (named (all_entered vars names clause).name) clause ∷ [])
    (lists-stay vars names clause clauses (all-known vars clauses names are))

-- what comes with a clause
module _ (vars : ℕ) where
  next-behind : (clauses : List (List ℤ)) (names : Names) (xs : List ℤ) → AreNames vars clauses names
      → (all_entered vars names xs).next ≡ names.next + length (come_with vars clauses xs)
  next-behind clauses names [] are = omega arith
  next-behind clauses names (x ∷ xs) are =
      let more = entered vars names (nat_abs x) in
      let own = if is_unused vars clauses (nat_abs x) then nat_abs x ∷ [] else [] in
      let others = come_with vars (clauses ++ (x ∷ []) ∷ []) xs in
      let rest : (all_entered vars more xs).next ≡ more.next + length others =
      next-behind (clauses ++ (x ∷ []) ∷ []) more xs (names-added vars clauses names (x ∷ []) are) in
      let one : more.next ≡ names.next + length own = next-name vars clauses names are (nat_abs x) in
      let both : length (own ++ others) ≡ length own + length others = length-append own others in
      omega arith

  come-named : (clauses : List (List ℤ)) (names : Names) (xs : List ℤ) → AreNames vars clauses names
      → come_with vars (map (map (named names.name)) clauses) (map (named (all_entered vars names xs).name) xs)
      ≡ range_with_len names.next (length (come_with vars clauses xs))
  come-named clauses names [] are = refl
  come-named clauses names (x ∷ xs) are =
      (λ i. (if is_unused vars stand (variable i) then variable i ∷ [] else [])
      ++ come_with vars (stand ++ (here i ∷ []) ∷ []) (map (named final) xs))
      ∙ in-turn names.next _ _ own others (enters vars clauses names are v)
      (ap (λ (cs : List (List ℤ)). come_with vars cs (map (named final) xs)) (sym (renamed-added vars clauses names are (x ∷ [])))
      ∙ come-named (clauses ++ (x ∷ []) ∷ []) more xs next
      ∙ ap (λ k. range_with_len k (length others)) (next-name vars clauses names are v))
    where
      v : ℕ
      v = nat_abs x

      more : Names
      more = entered vars names v

      final : ℕ → ℕ
      final = (all_entered vars more xs).name

      stand : List (List ℤ)
      stand = map (map (named names.name)) clauses

      own : List ℕ
      own = if is_unused vars clauses v then v ∷ [] else []

      others : List ℕ
      others = come_with vars (clauses ++ (x ∷ []) ∷ []) xs

      next : AreNames vars (clauses ++ (x ∷ []) ∷ []) more
      next = names-added vars clauses names (x ∷ []) are

      known : IsKnown vars more v
      known = elim (cases_lt vars v) [
        | inl past ↦
            let uses : more.uses v ≡ names.uses v + (one_if (nat_eq v v) + 0) = uses-entered vars names (x ∷ []) v in
            let one : one_if (nat_eq v v) ≡ 1 = ap one_if ((Decides-eqb v v).1 refl) in
            inr (omega arith)
        | inr own_variable ↦ inl own_variable
      ]

      here : named final x ≡ named more.name x
      here = named-same final more.name x (stay vars more xs v known)

      variable : nat_abs (named final x) ≡ more.name v
      variable = ap nat_abs here ∙ abs-named more.name x

-- a clause that stands, stands by the names
among-named : (to : ℤ → ℤ) (clauses : List (List ℤ)) (clause : List ℤ) → is_among clauses clause ≡ true
    → is_among (map (map to) clauses) (map to clause) ≡ true
among-named to [] clause among = cc
among-named to (c ∷ cs) clause among =
    elim (or_cases (same_list clause c) _ among) [
      | inl here ↦ or_left _ _ ((slice_eq-Decides Decides-int_eq (map to clause) (map to c) _ refl).1
          (ap (map to) (same_list-true clause c here)))
      | inr later ↦ or_right (same_list (map to clause) (map to c)) _ (among-named to cs clause later)
    ]

-- from step to step
module _ (laws : QuietLaws) (vars : ℕ) where
  renamed-deleted : (clauses : List (List ℤ)) (names : Names) (clause : List ℤ) → AreNames vars clauses names
      → is_among clauses clause ≡ true
      → without_first (map (named (all_left names clause).name) clause) (map (map (named names.name)) clauses)
      ≡ map (map (named (all_left names clause).name)) (without_first clause clauses)
  renamed-deleted clauses names clause are among =
      let knowns = all-known vars clauses names are in
      ap (λ (f : ℕ → ℕ). without_first (map (named f) clause) (map (map (named names.name)) clauses)) (name-left names clause)
      ∙ without-stays vars names are.given laws clauses clause
      (among-known (list_all (known_literal vars names)) clauses clause knowns among) knowns
      ∙ ap (λ (f : ℕ → ℕ). map (map (named f)) (without_first clause clauses)) (sym (name-left names clause))

  in-turn-from : (clauses : List (List ℤ)) (names : Names) (steps : List DratStep) → AreNames vars clauses names
      → DeletesStanding clauses steps
      → come_into_use vars (map (map (named names.name)) clauses) (fresh_from vars names steps)
      ≡ range_with_len names.next (length (come_into_use vars clauses steps))
  in-turn-from clauses names [] are stand = refl
  in-turn-from clauses names (adds clause ∷ steps) are stand =
      in-turn names.next _ _ (come_with vars clauses clause) (come_into_use vars (clauses ++ clause ∷ []) steps)
      (come-named vars clauses names clause are)
      (ap (λ (cs : List (List ℤ)). come_into_use vars cs (fresh_from vars (all_entered vars names clause) steps))
      (sym (renamed-added vars clauses names are clause))
      ∙ in-turn-from (clauses ++ clause ∷ []) (all_entered vars names clause) steps (names-added vars clauses names clause are) stand
      ∙ ap (λ k. range_with_len k (length (come_into_use vars (clauses ++ clause ∷ []) steps))) (next-behind vars clauses names clause are))
  in-turn-from clauses names (deletes clause ∷ steps) are stand =
      ap (λ (cs : List (List ℤ)). come_into_use vars cs (fresh_from vars (all_left names clause) steps))
      (renamed-deleted clauses names clause are stand.0)
      ∙ in-turn-from (without_first clause clauses) (all_left names clause) steps (names-deleted vars clauses names clause are stand.0)
      stand.1
      ∙ ap (λ k. range_with_len k (length (come_into_use vars (without_first clause clauses) steps))) (next-left names clause)
    where
      next-left : (names : Names) (clause : List ℤ) → (all_left names clause).next ≡ names.next
      next-left names [] = refl
      next-left names (x ∷ xs) = next-left (left names (nat_abs x)) xs

  stand-from : (clauses : List (List ℤ)) (names : Names) (steps : List DratStep) → AreNames vars clauses names
      → DeletesStanding clauses steps → DeletesStanding (map (map (named names.name)) clauses) (fresh_from vars names steps)
  stand-from clauses names [] are stand = tt
  stand-from clauses names (adds clause ∷ steps) are stand =
      subst (λ (cs : List (List ℤ)). DeletesStanding cs (fresh_from vars (all_entered vars names clause) steps))
      (renamed-added vars clauses names are clause)
      (stand-from (clauses ++ clause ∷ []) (all_entered vars names clause) steps (names-added vars clauses names clause are) stand)
  stand-from clauses names (deletes clause ∷ steps) are stand = (
    ap (λ (f : ℕ → ℕ). is_among (map (map (named names.name)) clauses) (map (named f) clause)) (name-left names clause)
        ∙ among-named (named names.name) clauses clause stand.0,
    subst (λ (cs : List (List ℤ)). DeletesStanding cs (fresh_from vars (all_left names clause) steps))
        (sym (renamed-deleted clauses names clause are stand.0))
        (stand-from (without_first clause clauses) (all_left names clause) steps (names-deleted vars clauses names clause are stand.0)
        stand.1),
  )

  pub fresh-in-turn : (clauses : List (List ℤ)) (steps : List DratStep) → AreClausesOf vars clauses → DeletesStanding clauses steps
      → come_into_use vars clauses (fresh vars steps) ≡ range_with_len (vars + 1) (length (come_into_use vars clauses steps))
  fresh-in-turn clauses steps are stand =
      ap (λ (cs : List (List ℤ)). come_into_use vars cs (fresh vars steps)) (sym (every-own clauses))
      ∙ in-turn-from clauses (first_names vars) steps (names-first vars clauses are) stand

  pub fresh-stands : (clauses : List (List ℤ)) (steps : List DratStep) → AreClausesOf vars clauses → DeletesStanding clauses steps
      → DeletesStanding clauses (fresh vars steps)
  fresh-stands clauses steps are stand =
      subst (λ (cs : List (List ℤ)). DeletesStanding cs (fresh vars steps)) (every-own clauses)
      (stand-from clauses (first_names vars) steps (names-first vars clauses are) stand)
