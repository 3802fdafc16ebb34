-- The walk over the numbers that watch a literal that is false: those that are visited have a clause that is true, or watch it no more.
use Rattle.std.proofs.Common.{◌≡◌, ℕ, ◌+◌, ◌<◌, ◌≢◌, ◌⊎◌, Bool, true, false, ◌||◌, ◌&&◌, ℤ, neg_ℤ, List, [], ◌∷◌, ◌++◌, length, take, get_or}
use Rattle.std.proofs.Common.{Some, cond, nat_eq, int_eq, inl, inr, refl, sym, ap, ◌∙◌, subst, eqb-true}
use Rattle.std.specs.List.{list_all}
use Rattle.std.proofs.lemmas.Bool.{and_parts, or_cases, or_left, or_right, cases_eq}
use Rattle.std.proofs.lemmas.List.Folds.{list_any_more, list_any-append}
use Rattle.lrat_rules.specs.Chain.{literals_of}
use Rattle.lrat_rules.specs.Trail.{with_last}
use Rattle.drat_checker.specs.declared.literal_lists.LiteralLists.{LiteralLists}
use Rattle.drat_checker.specs.Places.{Places, place_at}
use Rattle.drat_checker.specs.Numbers.{has_number}
use Rattle.drat_checker.specs.LiteralLists.{KeepsEach, KeepsOthers, numbers_at}
use Rattle.drat_checker.specs.Propagation.{Extends, HasAlso}
use Rattle.drat_checker.specs.Watches.{Pairs, Watchers, AreVisited, IsWatched, KeepsBoth}
use Rattle.drat_checker.specs.Watches.{beside, is_true, watchers, watchers_with, watches}
use Rattle.drat_checker.proofs.FalseSets.{all_members, at_member, has_own, int_eq-true, eq-int_eq}
use Rattle.drat_checker.proofs.Watched.{KeepsWatchers, in-one, in-other, of-either}

-- a clause that is true stays so as literals become false
pub more-false : {old new : List ℤ} → Extends old new → (x : ℤ) → literals_of old x ≡ true → literals_of new x ≡ true
more-false {old} {new} e x m = ap (λ (l : List ℤ). literals_of l x) e.parts ∙ list_any-append (int_eq x) old e.rest ∙ or_left _ _ m

pub held-more : {old new : List ℤ} (clause : List ℤ) → Extends old new → list_all (literals_of old) clause ≡ true
    → list_all (literals_of new) clause ≡ true
held-more {old} {new} clause e all = all_members (literals_of new) clause (λ x m. more-false e x (at_member (literals_of old) clause x all m))

-- the literals of a clause that became false stay so
pub held-then : {old now new : List ℤ} (clause : List ℤ) → HasAlso clause old now → Extends now new
    → list_all (literals_of new) clause ≡ true
held-then {old} {now} {new} clause also e =
    held-more clause e (and_parts (list_all (literals_of now) old) _ (sym (also.also (literals_of now)) ∙ has_own now)).1

pub true-more : {old new : List ℤ} (clause : List ℤ) → Extends old new → is_true old clause ≡ true → is_true new clause ≡ true
true-more [] e h = h
true-more {old} {new} (y ∷ ys) e h =
    elim (or_cases (literals_of old (neg_ℤ y)) _ h) [
      | inl here ↦ or_left _ _ (more-false e (neg_ℤ y) here)
      | inr later ↦ or_right (literals_of new (neg_ℤ y)) _ (true-more ys e later)
    ]

-- the negation of a literal of the clause is false
pub true-by : (literals clause : List ℤ) (y : ℤ) → literals_of clause y ≡ true → literals_of literals (neg_ℤ y) ≡ true
    → is_true literals clause ≡ true
true-by literals [] y m negated = cc
true-by literals (x ∷ xs) y m negated =
    elim (or_cases (int_eq y x) _ m) [
      | inl here ↦ or_left _ _ (subst (λ (z : ℤ). literals_of literals (neg_ℤ z) ≡ true) (int_eq-true y x here) negated)
      | inr later ↦ or_right (literals_of literals (neg_ℤ x)) _ (true-by literals xs y later negated)
    ]

-- the literal that was put at the end is there
pub last-negated : (x : ℤ) (xs : List ℤ) → literals_of (with_last x xs) x ≡ true
last-negated x xs =
    elim (literals_of xs x) as (λ b. literals_of xs x ≡ b → literals_of (cond b xs (xs ++ x ∷ [])) x ≡ true) [
      | true ↦ λ there. there
      | false ↦ λ new. list_any-append (int_eq x) xs (x ∷ []) ∙ or_right (literals_of xs x) _ (or_left _ _ (eq-int_eq x x refl))
    ] refl

-- one number of the walk: what becomes of its clause is said, and the others are as before
pub visited-next : (places : Places) (pairs pairs' : Pairs) (literal : ℤ) (old new : List ℤ) (out out' : List ℕ) (i left k : ℕ)
    → left ≡ i + 1 → i < length out → k ≡ get_or out i 0 → Extends old new → take i out' ≡ take i out
    → ((n : ℕ) → n ≢ k → watches pairs' n literal ≡ true → watches pairs n literal ≡ true)
    → ((clause : List ℤ) → place_at places k ≡ Some clause → watches pairs' k literal ≡ true → is_true new clause ≡ true)
    → (numbers : List ℕ) → AreVisited places pairs literal old numbers (take left out)
    → AreVisited places pairs' literal new numbers (take i out')
visited-next places pairs pairs' literal old new out out' i left k more within at e front keeps here numbers before = record {
  visited = λ n clause stands watched own. elim (cases_eq n k) [
    | inl same ↦ or_left _ _
        (here clause (ap (place_at places) (sym same) ∙ stands) (ap (λ m. watches pairs' m literal) (sym same) ∙ watched))
    | inr other ↦ elim (or_cases (is_true old clause) _ (before.visited n clause stands (keeps n other watched) own)) [
      | inl holds ↦ or_left _ _ (true-more clause e holds)
      | inr listed ↦
          let parts : (has_number n (take i out) || nat_eq n (get_or out i 0)) ≡ true =
          sym (list_any_more (nat_eq n) out i 0 within) ∙ ap (λ m. has_number n (take m out)) (sym more) ∙ listed in
          elim (or_cases (has_number n (take i out)) _ parts) [
            | inl earlier ↦ or_right (is_true new clause) _ (ap (has_number n) front ∙ earlier)
            | inr now ↦ absurd (other (eqb-true n (get_or out i 0) now ∙ sym at))
          ]
    ]
  ];
}

-- at the start all are still to come
pub visited-start : (places : Places) (pairs : Pairs) (literal : ℤ) (literals : List ℤ) (numbers : List ℕ)
    → AreVisited places pairs literal literals numbers numbers
visited-start places pairs literal literals numbers = record {
  visited = λ n clause at watched own. or_right (is_true literals clause) _ own;
}

-- where there are none nothing is visited
pub visited-none : (places : Places) (pairs : Pairs) (literal : ℤ) (literals : List ℤ) (numbers : List ℕ) → numbers ≡ []
    → AreVisited places pairs literal literals numbers []
visited-none places pairs literal literals numbers none =
    subst (λ (l : List ℕ). AreVisited places pairs literal literals numbers l) none (visited-start places pairs literal literals numbers)

and_true-false : (b : Bool) → (b && true) ≡ false → b ≡ false
and_true-false true e = e
and_true-false false e = refl

-- lists as the walk changes them
pub keeps-dropped : (lists lists' : LiteralLists) (literal : ℤ) (out out' : List ℕ) (k : ℕ) → KeepsEach lists lists'
    → ((n : ℕ) → nat_eq n k ≡ false → has_number n out ≡ true → has_number n out' ≡ true)
    → KeepsWatchers (watchers_with lists literal out) (watchers_with lists' literal out') k literal
keeps-dropped lists lists' literal out out' k kept dropped = record {
  kept = λ n x apart listed.
      elim (int_eq x literal)
      as (λ b. (nat_eq n k && b) ≡ false → has_number n (cond b out (numbers_at lists x)) ≡ true
      → has_number n (cond b out' (numbers_at lists' x)) ≡ true) [
        | true ↦ λ not_both there. dropped n (and_true-false (nat_eq n k) not_both) there
        | false ↦ λ _ there. (kept.kept x).kept n there
      ] apart listed;
}

pub entered-at : (lists : LiteralLists) (literal x : ℤ) (out : List ℕ) (k : ℕ) → int_eq x literal ≡ false
    → has_number k (numbers_at lists x) ≡ true → has_number k (watchers_with lists literal out x) ≡ true
entered-at lists literal x out k other listed =
    ap (λ b. has_number k (cond b out (numbers_at lists x))) other ∙ listed

-- the list of a literal is taken out, and given back
pub watched-same : (pairs : Pairs) (all all' : Watchers) (places : Places) → IsWatched pairs all places
    → ((n : ℕ) (x : ℤ) → has_number n (all x) ≡ true → has_number n (all' x) ≡ true) → IsWatched pairs all' places
watched-same pairs all all' places w same = record {
  are = w.are;
  listed = λ n clause x at watched. same n x (w.listed n clause x at watched);
}

pub taken-out : (lists lists' : LiteralLists) (literal : ℤ) (out : List ℕ) → out ≡ numbers_at lists literal
    → ((x : ℤ) → int_eq x literal ≡ false → numbers_at lists' x ≡ numbers_at lists x) → (n : ℕ) (x : ℤ)
    → has_number n (watchers lists x) ≡ true → has_number n (watchers_with lists' literal out x) ≡ true
taken-out lists lists' literal out is others n x listed =
    elim (int_eq x literal) as (λ b. int_eq x literal ≡ b → has_number n (cond b out (numbers_at lists' x)) ≡ true) [
      | true ↦ λ same. ap (has_number n) (is ∙ ap (numbers_at lists) (sym (int_eq-true x literal same))) ∙ listed
      | false ↦ λ other. ap (has_number n) (others x other) ∙ listed
    ] refl

-- the lists of other literals
pub others-kept : (lists taken walked given : LiteralLists) (literal : ℤ)
    → ((x : ℤ) → int_eq x literal ≡ false → numbers_at taken x ≡ numbers_at lists x) → KeepsEach taken walked
    → ((x : ℤ) → int_eq x literal ≡ false → numbers_at given x ≡ numbers_at walked x) → KeepsOthers literal lists given
others-kept lists taken walked given literal out kept back = record {
  kept = λ x other. record {
    kept = λ n listed. ap (has_number n) (back x other) ∙ (kept.kept x).kept n (ap (has_number n) (out x other) ∙ listed);
  };
}

pub given-back : (lists lists' : LiteralLists) (literal : ℤ) (out : List ℕ) → numbers_at lists' literal ≡ out
    → ((x : ℤ) → int_eq x literal ≡ false → numbers_at lists' x ≡ numbers_at lists x) → (n : ℕ) (x : ℤ)
    → has_number n (watchers_with lists literal out x) ≡ true → has_number n (watchers lists' x) ≡ true
given-back lists lists' literal out is others n x listed =
    elim (int_eq x literal)
    as (λ b. int_eq x literal ≡ b → has_number n (cond b out (numbers_at lists x)) ≡ true → has_number n (numbers_at lists' x) ≡ true) [
      | true ↦ λ same there. ap (has_number n) (ap (numbers_at lists') (int_eq-true x literal same) ∙ is) ∙ there
      | false ↦ λ other there. ap (has_number n) (others x other) ∙ there
    ] refl listed

-- a number goes from a list of one kind to that of another
module _ (lists taken given others others' : LiteralLists) (literal : ℤ) (number : ℕ) (out left : List ℕ) (moves : Bool)
    (is : out ≡ numbers_at lists literal)
    (apart : (x : ℤ) → int_eq x literal ≡ false → numbers_at taken x ≡ numbers_at lists x)
    (back : numbers_at given literal ≡ left)
    (apart' : (x : ℤ) → int_eq x literal ≡ false → numbers_at given x ≡ numbers_at taken x)
    (stay : (n : ℕ) → nat_eq n number ≡ false → has_number n out ≡ true → has_number n left ≡ true)
    (none : moves ≡ false → left ≡ out) (kept : KeepsEach others others')
    (entered : moves ≡ true → has_number number (numbers_at others' literal) ≡ true) where
  own-moved : (n : ℕ) → has_number n out ≡ true
      → (has_number n (numbers_at given literal) ≡ true) ⊎ (has_number n (numbers_at others' literal) ≡ true)
  own-moved n listed =
      elim (nat_eq n number) as (λ b. nat_eq n number ≡ b
      → (has_number n (numbers_at given literal) ≡ true) ⊎ (has_number n (numbers_at others' literal) ≡ true)) [
        | true ↦ λ same. elim moves as (λ b. moves ≡ b
            → (has_number n (numbers_at given literal) ≡ true) ⊎ (has_number n (numbers_at others' literal) ≡ true)) [
              | true ↦ λ e. inr
                  (subst (λ (m : ℕ). has_number m (numbers_at others' literal) ≡ true) (sym (eqb-true n number same)) (entered e))
              | false ↦ λ e. inl (ap (has_number n) (back ∙ none e) ∙ listed)
            ] refl
        | false ↦ λ other. inl (ap (has_number n) back ∙ stay n other listed)
      ] refl

  one-moved : (n : ℕ) (x : ℤ) → has_number n (numbers_at lists x) ≡ true
      → (has_number n (numbers_at given x) ≡ true) ⊎ (has_number n (numbers_at others' x) ≡ true)
  one-moved n x listed =
      elim (int_eq x literal) as (λ b. int_eq x literal ≡ b
      → (has_number n (numbers_at given x) ≡ true) ⊎ (has_number n (numbers_at others' x) ≡ true)) [
        | true ↦ λ same.
            let at : x ≡ literal = int_eq-true x literal same in
            subst (λ (y : ℤ). (has_number n (numbers_at given y) ≡ true) ⊎ (has_number n (numbers_at others' y) ≡ true)) (sym at)
            (own-moved n (ap (has_number n) (is ∙ ap (numbers_at lists) (sym at)) ∙ listed))
        | false ↦ λ other. inl (ap (has_number n) (apart' x other ∙ apart x other) ∙ listed)
      ] refl

  pub moved-over : KeepsBoth (beside (watchers lists) (watchers others)) (beside (watchers given) (watchers others'))
  moved-over = record {
    kept = λ n x listed. elim (of-either (watchers lists) (watchers others) n x listed) [
      | inl here ↦ elim (one-moved n x here) [
        | inl stays ↦ in-one (watchers given) (watchers others') n x stays
        | inr goes ↦ in-other (watchers given) (watchers others') n x goes
      ]
      | inr there ↦ in-other (watchers given) (watchers others') n x ((kept.kept x).kept n there)
    ];
  }
