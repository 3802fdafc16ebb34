-- Literals that propagation puts behind others: which sets have them, and that they stay derived as clauses come.
use Rattle.std.proofs.Common.{◌≡◌, true, false, cond, not, ℤ, neg_ℤ, List, [], ◌∷◌, ◌++◌, if◌then◌else◌, int_eq}
use Rattle.std.proofs.Common.{refl, sym, ap, ◌∙◌, subst, append_assoc}
use Rattle.std.specs.List.{list_any, list_all}
use Rattle.std.proofs.lemmas.Bool.{and_parts, and_from, or_left}
use Rattle.std.proofs.lemmas.List.{append-nil}
use Rattle.std.proofs.lemmas.List.Folds.{list_any-append}
use Rattle.lrat_rules.specs.declared.outcome.Effect.{Effect}
use Rattle.lrat_rules.specs.declared.outcome.Effect.TheVariants.{Conflict, Unit as Forced, NotUnit}
use Rattle.lrat_rules.specs.Chain.{FalseSet, literals_of, outside, effect_of_outside, effect}
use Rattle.lrat_rules.specs.Trail.{with_last}
use Rattle.drat_rules.specs.Clauses.{is_among}
use Rattle.drat_rules.specs.Quiet.{IsQuiet, Includes}
use Rattle.drat_checker.specs.Propagation.{Derives, Extends, SameQuiet, derived, makes_false}
use Rattle.drat_checker.proofs.FalseSets.{int_eq-true, eq-int_eq, at_member, all-last, and_known}
use Rattle.drat_checker.proofs.Propagated.{ForcedLaw}
use Rattle.drat_checker.proofs.Standing.{some-clause, any-among}

pub derives-none : (clauses : List (List ℤ)) (xs : List ℤ) → Derives clauses xs xs
derives-none clauses xs = record { rest = []; parts = sym (append-nil xs); derived = refl }

derived-then : (clauses : List (List ℤ)) (front xs ys : List ℤ) → derived clauses front xs ≡ true
    → derived clauses (front ++ xs) ys ≡ true → derived clauses front (xs ++ ys) ≡ true
derived-then clauses front [] ys first later = subst (λ (l : List ℤ). derived clauses l ys ≡ true) (append-nil front) later
derived-then clauses front (x ∷ xs) ys first later =
    let parts = and_parts (list_any (λ c. makes_false x (effect (literals_of front) c)) clauses) _ first in
    and_from _ _ parts.0
    (derived-then clauses (front ++ x ∷ []) xs ys parts.1
    (subst (λ (l : List ℤ). derived clauses l ys ≡ true) (sym (append_assoc front (x ∷ []) xs)) later))

pub derives-then : {clauses : List (List ℤ)} {a b c : List ℤ} → Derives clauses a b → Derives clauses b c → Derives clauses a c
derives-then {clauses} {a} {b} {c} d e = record {
  rest = d.rest ++ e.rest;
  parts = e.parts ∙ ap (λ (l : List ℤ). l ++ e.rest) d.parts ∙ append_assoc a d.rest e.rest;
  derived = derived-then clauses a d.rest e.rest d.derived
      (subst (λ (l : List ℤ). derived clauses l e.rest ≡ true) d.parts e.derived);
}

pub derives-is : {clauses : List (List ℤ)} {a b c : List ℤ} → c ≡ b → Derives clauses a b → Derives clauses a c
derives-is is d = record { rest = d.rest; parts = is ∙ d.parts; derived = d.derived }

pub derives-extends : {clauses : List (List ℤ)} {a b : List ℤ} → Derives clauses a b → Extends a b
derives-extends d = record { rest = d.rest; parts = d.parts }

-- what one clause forces
pub derives-forced : (xs clause : List ℤ) (literal : ℤ) → effect (literals_of xs) clause ≡ Forced literal → (clauses : List (List ℤ))
    → is_among clauses clause ≡ true → Derives clauses xs (with_last (neg_ℤ literal) xs)
derives-forced xs clause literal e clauses among =
    elim (literals_of xs (neg_ℤ literal)) as (λ b. Derives clauses xs (cond b xs (xs ++ neg_ℤ literal ∷ []))) [
      | true ↦ derives-none clauses xs
      | false ↦ record {
        rest = neg_ℤ literal ∷ [];
        parts = refl;
        derived = and_from _ _ (any-among (λ c. makes_false (neg_ℤ literal) (effect (literals_of xs) c)) clauses clause
            (ap (makes_false (neg_ℤ literal)) e ∙ eq-int_eq (neg_ℤ literal) (neg_ℤ literal) refl) among) refl;
      }
    ]

-- the sets that have them
forces-it : (x : ℤ) (e : Effect) → makes_false x e ≡ true → (literal : ℤ) × (e ≡ Forced literal) × (x ≡ neg_ℤ literal)
forces-it x Conflict h = cc
forces-it x (Forced literal) h = (literal, refl, int_eq-true x (neg_ℤ literal) h)
forces-it x NotUnit h = cc

module _ (forced : ForcedLaw) (clauses : List (List ℤ)) (q : FalseSet) (quiet : IsQuiet clauses q) where
  has-next : (front : List ℤ) (x : ℤ) → list_any (λ c. makes_false x (effect (literals_of front) c)) clauses ≡ true
      → list_all q front ≡ true → q x ≡ true
  has-next front x any has =
      let some = some-clause (λ c. makes_false x (effect (literals_of front) c)) clauses any in
      let it = forces-it x (effect (literals_of front) some.0) some.2 in
      ap q it.2
      ∙ forced clauses q (literals_of front) some.0 it.0 quiet (record { includes = λ y m. at_member q front y has m }) some.1 it.1

  same-derived : (front rest : List ℤ) → derived clauses front rest ≡ true → list_all q front ≡ list_all q (front ++ rest)
  same-derived front [] h = ap (list_all q) (sym (append-nil front))
  same-derived front (x ∷ rest) h =
      let parts = and_parts (list_any (λ c. makes_false x (effect (literals_of front) c)) clauses) _ h in
      and_known (list_all q front) (q x) (has-next front x parts.0)
      ∙ sym (all-last q front x)
      ∙ same-derived (front ++ x ∷ []) rest parts.1
      ∙ ap (list_all q) (append_assoc front (x ∷ []) rest)

pub derives-same : ForcedLaw → {clauses : List (List ℤ)} {a b : List ℤ} → Derives clauses a b → SameQuiet clauses a b
derives-same forced {clauses} {a} {b} d = record {
  same = λ q quiet. same-derived forced clauses q quiet a d.rest d.derived ∙ ap (list_all q) (sym d.parts);
}

-- a clause more
derived-more : (clauses : List (List ℤ)) (clause front rest : List ℤ) → derived clauses front rest ≡ true
    → derived (clauses ++ clause ∷ []) front rest ≡ true
derived-more clauses clause front [] h = refl
derived-more clauses clause front (x ∷ rest) h =
    let parts = and_parts (list_any (λ c. makes_false x (effect (literals_of front) c)) clauses) _ h in
    and_from _ _
    (list_any-append (λ c. makes_false x (effect (literals_of front) c)) clauses (clause ∷ []) ∙ or_left _ _ parts.0)
    (derived-more clauses clause (front ++ x ∷ []) rest parts.1)

pub derives-more : {clauses : List (List ℤ)} {a b : List ℤ} (clause : List ℤ) → Derives clauses a b → Derives (clauses ++ clause ∷ []) a b
derives-more {clauses} {a} {b} clause d = record {
  rest = d.rest;
  parts = d.parts;
  derived = derived-more clauses clause a d.rest
      d.derived;
}

-- A clause that forces nothing where more is false forced nothing before.
outside_twice : (n q : FalseSet) → Includes q n → (clause : List ℤ) → outside q (outside n clause) ≡ outside q clause
outside_twice n q w [] = refl
outside_twice n q w (x ∷ xs) =
    elim (n x)
    as (λ b. n x ≡ b → outside q (cond (not b) (x ∷ outside n xs) (outside n xs)) ≡ cond (not (q x)) (x ∷ outside q xs) (outside q xs)) [
      | true ↦ λ e. outside_twice n q w xs ∙ sym (ap (λ b. cond (not b) (x ∷ outside q xs) (outside q xs)) (w.includes x e))
      | false ↦ λ e. ap (λ l. cond (not (q x)) (x ∷ l) l) (outside_twice n q w xs)
    ] refl

copies_in : (q : FalseSet) (x : ℤ) (xs : List ℤ) → list_all (int_eq x) xs ≡ true → q x ≡ true → outside q xs ≡ []
copies_in q x [] same h = refl
copies_in q x (y ∷ ys) same h =
    let in_q : q y ≡ true = ap q (sym (int_eq-true x y (and_parts (int_eq x y) _ same).0)) ∙ h in
    ap (λ b. cond (not b) (y ∷ outside q ys) (outside q ys)) in_q ∙ copies_in q x ys (and_parts (int_eq x y) _ same).1 h

copies_out : (q : FalseSet) (x : ℤ) (xs : List ℤ) → list_all (int_eq x) xs ≡ true → q x ≡ false → outside q xs ≡ xs
copies_out q x [] same h = refl
copies_out q x (y ∷ ys) same h =
    let not_in : q y ≡ false = ap q (sym (int_eq-true x y (and_parts (int_eq x y) _ same).0)) ∙ h in
    ap (λ b. cond (not b) (y ∷ outside q ys) (outside q ys)) not_in
    ∙ ap (λ l. y ∷ l) (copies_out q x ys (and_parts (int_eq x y) _ same).1 h)

conflict-not : Conflict ≡ NotUnit → ⊥
conflict-not e = cc

not_copies : (q : FalseSet) (xs : List ℤ) → effect_of_outside (outside q xs) ≡ NotUnit → effect_of_outside xs ≡ NotUnit
not_copies q [] h = cc
not_copies q (x ∷ xs) h =
    elim (list_all (int_eq x) xs)
    as (λ b. list_all (int_eq x) xs ≡ b → (if b then Forced x else NotUnit) ≡ NotUnit) [
      | true ↦ λ same. elim (q x)
          as (λ b. q x ≡ b → effect_of_outside (cond (not b) (x ∷ outside q xs) (outside q xs)) ≡ NotUnit → Forced x ≡ NotUnit) [
            | true ↦ λ e h'. absurd (conflict-not (ap effect_of_outside (sym (copies_in q x xs same e)) ∙ h'))
            | false ↦ λ e h'.
                ap (λ b. if b then Forced x else NotUnit) (sym same)
                ∙ ap (λ l. effect_of_outside (x ∷ l)) (sym (copies_out q x xs same e)) ∙ h'
          ] refl h
      | false ↦ λ other. refl
    ] refl

pub not_unit-before : (n q : FalseSet) → Includes q n → (clause : List ℤ) → effect q clause ≡ NotUnit → effect n clause ≡ NotUnit
not_unit-before n q i clause h =
    not_copies q (outside n clause) (ap effect_of_outside (outside_twice n q i clause) ∙ h)
