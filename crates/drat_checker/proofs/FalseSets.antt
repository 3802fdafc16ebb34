-- Lists of false literals, as they grow and are taken back: which sets have them, and that none stands beside its negation.
use Rattle.std.proofs.Common.{◌≡◌, ℕ, zero, suc, ◌<◌, Bool, true, false, cond, ◌||◌, ◌&&◌, ℤ, pos, negsuc, neg_ℤ, List, [], ◌∷◌, ◌++◌}
use Rattle.std.proofs.Common.{◌+◌, int_eq, inl, inr, not, refl, sym, ap, ◌∙◌, subst, take, drop, get_or, length, arith}
use Rattle.std.specs.Prelude.{nat_abs}
use Rattle.std.specs.List.{list_all, filter}
use Rattle.std.proofs.Math.IntN.{neg_ℤ-neg_ℤ}
use Rattle.std.proofs.lemmas.Bool.{and_parts, and_from, or_cases, or_left, or_right, or_from, both_ways, false_from_ne_true}
use Rattle.std.proofs.lemmas.Bool.Decides.{Decides-int_eq}
use Rattle.std.proofs.lemmas.List.{append-nil, take-append-drop}
use Rattle.std.proofs.lemmas.List.Elements.{filter_more}
use Rattle.std.proofs.lemmas.List.Folds.{list_any-append, list_all-append, list_all_at, list_all_more}
use Rattle.lrat_rules.specs.Chain.{FalseSet, literals_of}
use Rattle.lrat_rules.specs.Trail.{with_last}
use Rattle.drat_checker.specs.Propagation.{Clashes}
use Rattle.drat_checker.specs.Reasons.{AreFree}
use Rattle.drat_checker.specs.Trail.{IsApart}

pub int_eq-true : (x y : ℤ) → int_eq x y ≡ true → x ≡ y
int_eq-true x y h = (Decides-int_eq x y).0 h

pub eq-int_eq : (x y : ℤ) → x ≡ y → int_eq x y ≡ true
eq-int_eq x y e = (Decides-int_eq x y).1 e

-- a set that has all literals of a list has each
pub at_member : (q : FalseSet) (xs : List ℤ) (x : ℤ) → list_all q xs ≡ true → literals_of xs x ≡ true → q x ≡ true
at_member q [] x all m = cc
at_member q (y ∷ ys) x all m =
    elim (or_cases (int_eq x y) _ m) [
      | inl here ↦ subst (λ z. q z ≡ true) (sym (int_eq-true x y here)) (and_parts (q y) _ all).0
      | inr later ↦ at_member q ys x (and_parts (q y) _ all).1 later
    ]

-- each list has its own
pub all_members : (p : FalseSet) (xs : List ℤ) → ((x : ℤ) → literals_of xs x ≡ true → p x ≡ true) → list_all p xs ≡ true
all_members p [] each = refl
all_members p (y ∷ ys) each =
    and_from _ _ (each y (or_left _ _ (eq-int_eq y y refl))) (all_members p ys (λ x m. each x (or_right (int_eq x y) _ m)))

pub has_own : (xs : List ℤ) → list_all (literals_of xs) xs ≡ true
has_own xs = all_members (literals_of xs) xs (λ x m. m)

pub has-left : (xs ys : List ℤ) → list_all (literals_of (xs ++ ys)) xs ≡ true
has-left xs ys = all_members (literals_of (xs ++ ys)) xs (λ x m. list_any-append (int_eq x) xs ys ∙ or_left _ _ m)

pub has-right : (xs ys : List ℤ) → list_all (literals_of (xs ++ ys)) ys ≡ true
has-right xs ys = all_members (literals_of (xs ++ ys)) ys (λ x m. list_any-append (int_eq x) xs ys ∙ or_right (literals_of xs x) _ m)

and_true : (b c : Bool) → (b && (c && true)) ≡ (b && c)
and_true true true = refl
and_true true false = refl
and_true false c = refl

and_assoc : (a b c : Bool) → ((a && b) && c) ≡ (a && (b && c))
and_assoc true b c = refl
and_assoc false b c = refl

pub and_nothing : (b : Bool) → b ≡ (b && true)
and_nothing true = refl
and_nothing false = refl

pub and_known : (b c : Bool) → (b ≡ true → c ≡ true) → b ≡ (b && c)
and_known true c known = sym (known refl)
and_known false c known = refl

pub all-last : (q : FalseSet) (xs : List ℤ) (x : ℤ) → list_all q (xs ++ x ∷ []) ≡ (list_all q xs && q x)
all-last q xs x = list_all-append q xs (x ∷ []) ∙ and_true (list_all q xs) (q x)

pub all-with_last : (q : FalseSet) (xs : List ℤ) (x : ℤ) → list_all q (with_last x xs) ≡ (list_all q xs && q x)
all-with_last q xs x =
    elim (literals_of xs x)
    as (λ b. literals_of xs x ≡ b → list_all q (cond b xs (xs ++ x ∷ [])) ≡ (list_all q xs && q x)) [
      | true ↦ λ there. and_known (list_all q xs) (q x) (λ all. at_member q xs x all there)
      | false ↦ λ new. all-last q xs x
    ] refl

-- a literal that is put at the end, where its negation isn't there
or_last : (b : Bool) → (b || false) ≡ true → b ≡ true
or_last true h = refl
or_last false h = h

no_own : (x : ℤ) → 0 < nat_abs x → neg_ℤ x ≡ x → ⊥
no_own (pos zero) nonzero same = absurd (omega arith)
no_own (pos (suc n)) nonzero same = cc
no_own (negsuc n) nonzero same = cc

own_negation : (x : ℤ) → 0 < nat_abs x → int_eq (neg_ℤ x) x ≡ true → ⊥
own_negation x nonzero same = no_own x nonzero (int_eq-true (neg_ℤ x) x same)

pub apart-push : (xs : List ℤ) (x : ℤ) → IsApart xs → 0 < nat_abs x → literals_of xs (neg_ℤ x) ≡ false → IsApart (xs ++ x ∷ [])
apart-push xs x old nonzero absent = record {
  apart = λ y m.
      let either = sym (list_any-append (int_eq y) xs (x ∷ [])) ∙ m in
      list_any-append (int_eq (neg_ℤ y)) xs (x ∷ [])
      ∙ elim (literals_of xs y) as (λ b. literals_of xs y ≡ b → (b || (int_eq y x || false)) ≡ true
      → (literals_of xs (neg_ℤ y) || (int_eq (neg_ℤ y) x || false)) ≡ false) [
        | true ↦ λ there h. or_from _ _ (old.apart y there) (or_from _ _ (false_from_ne_true _ (λ same.
            both_ways (literals_of xs (neg_ℤ x)) absent
            (subst (λ z. literals_of xs z ≡ true) (sym (neg_ℤ-neg_ℤ y) ∙ ap neg_ℤ (int_eq-true (neg_ℤ y) x same)) there))) refl)
        | false ↦ λ new h.
            let is : y ≡ x = int_eq-true y x (or_last (int_eq y x) h) in
            or_from _ _ (ap (λ z. literals_of xs (neg_ℤ z)) is ∙ absent) (or_from _ _ (false_from_ne_true _ (λ same.
            own_negation x nonzero (subst (λ z. int_eq (neg_ℤ z) x ≡ true) is same))) refl)
      ] refl either;
}

-- a front of them
in_front : (xs : List ℤ) (n : ℕ) (x : ℤ) → literals_of (take n xs) x ≡ true → literals_of xs x ≡ true
in_front xs n x m =
    ap (λ l. literals_of l x) (sym (take-append-drop n xs)) ∙ list_any-append (int_eq x) (take n xs) (drop n xs) ∙ or_left _ _ m

pub apart-take : (xs : List ℤ) (n : ℕ) → IsApart xs → IsApart (take n xs)
apart-take xs n old = record {
  apart = λ x m.
      false_from_ne_true _
      (λ there. both_ways (literals_of xs (neg_ℤ x)) (old.apart x (in_front xs n x m)) (in_front xs n (neg_ℤ x) there));
}

-- what all of a list pass, those of a front do, and the one at a place
pub all-front : (p : FalseSet) (xs : List ℤ) (i : ℕ) → list_all p xs ≡ true → list_all p (take i xs) ≡ true
all-front p xs i all =
    (and_parts (list_all p (take i xs)) (list_all p (drop i xs))
    (sym (list_all-append p (take i xs) (drop i xs)) ∙ ap (list_all p) (take-append-drop i xs) ∙ all)).0

pub all-at : (p : FalseSet) (xs : List ℤ) (i : ℕ) (d : ℤ) → i < length xs → list_all p xs ≡ true → p (get_or xs i d) ≡ true
all-at p xs i d within all =
    elim (p (get_or xs i d)) as (λ b. p (get_or xs i d) ≡ b → b ≡ true) [
      | true ↦ λ e. refl
      | false ↦ λ e. absurd (both_ways (list_all p xs) (list_all_at p xs i d within e) all)
    ] refl

-- what those that are left by a test pass
pub all-filter : (q p : FalseSet) (xs : List ℤ) → list_all q (filter p xs) ≡ list_all (λ x. not (p x) || q x) xs
all-filter q p [] = refl
all-filter q p (x ∷ xs) =
    elim (p x) as (λ b. list_all q (cond b (x ∷ filter p xs) (filter p xs)) ≡ ((not b || q x) && list_all (λ y. not (p y) || q y) xs)) [
      | true ↦ ap (λ b. q x && b) (all-filter q p xs)
      | false ↦ all-filter q p xs
    ]

-- a literal that is left is one that passes
and_none : (b : Bool) → false ≡ (b && false)
and_none true = refl
and_none false = refl

pub of-filter : (p : ℤ → Bool) (xs : List ℤ) (x : ℤ) → literals_of (filter p xs) x ≡ (p x && literals_of xs x)
of-filter p [] x = and_none (p x)
of-filter p (y ∷ ys) x =
    elim (int_eq x y) as (λ b. int_eq x y ≡ b
    → literals_of (cond (p y) (y ∷ filter p ys) (filter p ys)) x ≡ (p x && (b || literals_of ys x))) [
      | true ↦ λ same.
          elim (p y) as (λ c. p x ≡ c → literals_of (cond c (y ∷ filter p ys) (filter p ys)) x ≡ (p x && true)) [
            | true ↦ λ e. or_left _ _ same ∙ sym (ap (λ b. b && true) e)
            | false ↦ λ e. of-filter p ys x ∙ ap (λ b. b && literals_of ys x) e ∙ sym (ap (λ b. b && true) e)
          ] (ap p (int_eq-true x y same))
      | false ↦ λ other.
          elim (p y) as (λ c. literals_of (cond c (y ∷ filter p ys) (filter p ys)) x ≡ (p x && literals_of ys x)) [
            | true ↦ ap (λ b. b || literals_of (filter p ys) x) other ∙ of-filter p ys x
            | false ↦ of-filter p ys x
          ]
    ] refl

-- where none stands beside its negation, none is the negation of one of them
pub free-held : (literals xs : List ℤ) → IsApart literals → list_all (literals_of literals) xs ≡ true → AreFree literals xs
free-held literals xs apart all = record {
  free = λ x m.
      false_from_ne_true _ (λ there.
      both_ways (literals_of literals (neg_ℤ x)) (apart.apart x m) (at_member (literals_of literals) xs (neg_ℤ x) all there));
}

pub free-both : (literals xs ys : List ℤ) → AreFree literals xs → AreFree literals ys → AreFree literals (xs ++ ys)
free-both literals xs ys f g = record {
  free = λ x m. list_any-append (int_eq (neg_ℤ x)) xs ys ∙ or_from _ _ (f.free x m) (g.free x m);
}

-- a set has the literals that are false now exactly where it has those at the start and these
abbrev pub HasSoFar : List ℤ → List ℤ → List ℤ → FalseSet → Type 0
HasSoFar start now front q = list_all q now ≡ (list_all q start && list_all q front)

-- One literal of a clause more is false. `start` has the literals that were false before the clause.
module _ (start old clause : List ℤ) (i : ℕ) (x : ℤ) (within : i < length clause) (at : x ≡ get_or clause i x) where
  pub also-more : (q : FalseSet) (new : List ℤ) → new ≡ with_last x old → HasSoFar start old (take i clause) q
      → list_all q new ≡ (list_all q start && list_all q (take (i + 1) clause))
  also-more q new is so_far =
      ap (list_all q) is ∙ all-with_last q old x ∙ ap (λ b. b && q x) so_far
      ∙ and_assoc (list_all q start) (list_all q (take i clause)) (q x)
      ∙ ap (λ b. list_all q start && b)
      (ap (λ y. list_all q (take i clause) && q y) at ∙ sym (list_all_more q clause i x within))

  pub clash-at : ((q : FalseSet) → HasSoFar start old (take i clause) q) → literals_of old (neg_ℤ x) ≡ true → Clashes (start ++ clause)
  clash-at so_far there = record {
    clash = λ q apart has.
        let parts = and_parts (list_all q start) (list_all q clause) (sym (list_all-append q start clause) ∙ has) in
        let on_trail : list_all q old ≡ true = so_far q ∙ and_from _ _ parts.0 (all-front q clause i parts.1) in
        let own : q x ≡ true = ap q at ∙ all-at q clause i x within parts.1 in
        both_ways (q (neg_ℤ x)) (apart x own) (at_member q old (neg_ℤ x) on_trail there);
  }

-- the literal is one of the clause's
pub own-literal : (clause : List ℤ) (i : ℕ) (x : ℤ) → i < length clause → x ≡ get_or clause i x → literals_of clause x ≡ true
own-literal clause i x within at = ap (literals_of clause) at ∙ all-at (literals_of clause) clause i x within (has_own clause)

-- The same of those literals of a clause that pass a test.
module _ (p : FalseSet) (start old clause : List ℤ) (i : ℕ) (x : ℤ) (within : i < length clause) (at : x ≡ get_or clause i x) where
  more : filter p (take (i + 1) clause) ≡ filter p (take i clause) ++ cond (p x) (x ∷ []) []
  more = filter_more p clause i x within ∙ ap (λ y. filter p (take i clause) ++ cond (p y) (y ∷ []) []) (sym at)

  pub others-skip : (q : FalseSet) → p x ≡ false → HasSoFar start old (filter p (take i clause)) q
      → list_all q old ≡ (list_all q start && list_all q (filter p (take (i + 1) clause)))
  others-skip q fails so_far =
      let none : filter p (take (i + 1) clause) ≡ filter p (take i clause) =
      more ∙ ap (λ b. filter p (take i clause) ++ cond b (x ∷ []) []) fails ∙ append-nil (filter p (take i clause)) in
      so_far ∙ ap (λ l. list_all q start && list_all q l) (sym none)

  pub others-more : (q : FalseSet) (new : List ℤ) → p x ≡ true → new ≡ with_last x old → HasSoFar start old (filter p (take i clause)) q
      → list_all q new ≡ (list_all q start && list_all q (filter p (take (i + 1) clause)))
  others-more q new passes is so_far =
      let one : filter p (take (i + 1) clause) ≡ filter p (take i clause) ++ x ∷ [] =
      more ∙ ap (λ b. filter p (take i clause) ++ cond b (x ∷ []) []) passes in
      ap (list_all q) is ∙ all-with_last q old x ∙ ap (λ b. b && q x) so_far
      ∙ and_assoc (list_all q start) (list_all q (filter p (take i clause))) (q x)
      ∙ ap (λ b. list_all q start && b) (sym (ap (list_all q) one ∙ all-last q (filter p (take i clause)) x))

  pub own-other : p x ≡ true → literals_of (filter p clause) x ≡ true
  own-other passes =
      let q = literals_of (filter p clause) in
      let each : list_all (λ y. not (p y) || q y) clause ≡ true = sym (all-filter q p clause) ∙ has_own (filter p clause) in
      ap (λ b. not b || q x) (sym passes) ∙ ap (λ y. not (p y) || q y) at ∙ all-at (λ y. not (p y) || q y) clause i x within each

  pub others-clash : ((q : FalseSet) → HasSoFar start old (filter p (take i clause)) q) → p x ≡ true → literals_of old (neg_ℤ x) ≡ true
      → Clashes (start ++ filter p clause)
  others-clash so_far passes there = record {
    clash = λ q apart has.
        let parts = and_parts (list_all q start) (list_all q (filter p clause)) (sym (list_all-append q start (filter p clause)) ∙ has) in
        let each : list_all (λ y. not (p y) || q y) clause ≡ true = sym (all-filter q p clause) ∙ parts.1 in
        let front : list_all q (filter p (take i clause)) ≡ true =
        all-filter q p (take i clause) ∙ all-front (λ y. not (p y) || q y) clause i each in
        let on_trail : list_all q old ≡ true = so_far q ∙ and_from _ _ parts.0 front in
        let own : q x ≡ true =
        ap (λ b. not b || q x) (sym passes) ∙ ap (λ y. not (p y) || q y) at ∙ all-at (λ y. not (p y) || q y) clause i x within each in
        both_ways (q (neg_ℤ x)) (apart x own) (at_member q old (neg_ℤ x) on_trail there);
  }
