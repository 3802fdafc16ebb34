-- Which reasons are clauses of one literal: they stay so as literals are put behind others, where such a clause comes, and where one goes that
-- is no reason.
use Rattle.std.proofs.Common.{◌≡◌, ℕ, ◌<◌, Bool, true, false, cond, not, ◌||◌, ℤ, pos, neg_ℤ, int_eq, List, [], ◌∷◌, ◌++◌, length}
use Rattle.std.proofs.Common.{get_or, set, length-append, ◌+◌, Option, None, Some, inl, inr, refl, sym, ap, ◌∙◌, subst, arith}
use Rattle.std.specs.List.{list_all}
use Rattle.std.proofs.Math.ListN.{get_or-append}
use Rattle.std.proofs.Math.Seq.{get_or-append_seam, get_or-set_other, get_or-set_same}
use Rattle.std.proofs.lemmas.Bool.{and_from, both_ways, cases_eq}
use Rattle.std.proofs.lemmas.List.Folds.{list_all-append, list_all_at}
use Rattle.lrat_rules.specs.declared.outcome.Effect.{Effect}
use Rattle.lrat_rules.specs.declared.outcome.Effect.TheVariants.{Unit as Forced}
use Rattle.lrat_rules.specs.Chain.{literals_of, effect}
use Rattle.drat_rules.specs.Quiet.{adds_nothing}
use Rattle.drat_checker.specs.Places.{Place, Places, place_at}
use Rattle.drat_checker.specs.Database.{is_short}
use Rattle.drat_checker.specs.Propagation.{Extends}
use Rattle.drat_checker.specs.Trail.{AreOnce, IsAt, Trail, with_other_reason, with_reason}
use Rattle.drat_checker.specs.Reasons.{AllByUnits, AreByUnits, IsNoReason, is_by_unit, is_short_place}
use Rattle.drat_checker.specs.Watches.{AreTrue}
use Rattle.drat_checker.proofs.FalseSets.{at_member, int_eq-true}
use Rattle.drat_checker.proofs.Guarded.{some-true}
use Rattle.drat_checker.proofs.Hinted.{forced-others}
use Rattle.drat_checker.proofs.Standing.{place-push, place-set, place-within}
use Rattle.drat_checker.proofs.Trails.{found-at, once-at}

false-not-true : false ≡ true → ⊥
false-not-true e = cc

or-last : (b : Bool) → (b || false) ≡ true → b ≡ true
or-last true h = refl
or-last false h = h

-- a clause of one literal
module _ (clause : List ℤ) (y : ℤ) (e : effect (literals_of []) clause ≡ Forced y) where
  pub short-forced : is_short clause ≡ true
  short-forced = ap (λ (f : Effect). not (adds_nothing (λ _. false) f)) e

  only-literal : (z : ℤ) → literals_of clause z ≡ true → z ≡ y
  only-literal z m =
      int_eq-true z y (or-last (int_eq z y)
      (at_member (λ z. int_eq z y || literals_of [] z) clause z (forced-others (literals_of []) clause y e) m))

pub forced-inside : (y z : ℤ) → Forced y ≡ Forced z → y ≡ z
forced-inside y z e = cc

same-forced : (clause own : List ℤ) (y z : ℤ) → clause ≡ own → effect (literals_of []) clause ≡ Forced y
    → effect (literals_of []) own ≡ Forced z → y ≡ z
same-forced clause own y z same e f =
    forced-inside y z (sym e ∙ ap (effect (literals_of [])) same ∙ f)

-- all of them are
pub units-last : (places : Places) (trail : Trail) (x : ℤ) (reason : Option ℕ) → is_by_unit places reason ≡ true
    → AllByUnits places trail → AllByUnits places (with_reason x reason trail)
units-last places trail x reason is a =
    elim (literals_of trail.literals x) as (λ b. AllByUnits places (cond b trail (record {
      literals = trail.literals ++ x ∷ [];
      reasons = trail.reasons ++ reason ∷ [];
    }))) [
      | true ↦ a
      | false ↦ record {
        all = list_all-append (is_by_unit places) trail.reasons (reason ∷ []) ∙ and_from _ _ a.all (and_from _ _ is refl);
      }
    ]

pub units-falsified : (places : Places) {old new : Trail} (clash : Bool) (last : Trail) → AllByUnits places old → AllByUnits places last
    → new ≡ cond clash old last → AllByUnits places new
units-falsified places true last a b is = subst (AllByUnits places) (sym is) a
units-falsified places false last a b is = subst (AllByUnits places) (sym is) b

all-at : (p : Option ℕ → Bool) (xs : List (Option ℕ)) (k : ℕ) → k < length xs → list_all p xs ≡ true → p (get_or xs k None) ≡ true
all-at p xs k within all =
    elim (p (get_or xs k None)) as (λ b. p (get_or xs k None) ≡ b → b ≡ true) [
      | true ↦ λ e. refl
      | false ↦ λ e. absurd (both_ways (list_all p xs) (list_all_at p xs k None within e) all)
    ] refl

pub units-all : (asked places : Places) (trail : Trail) → length trail.reasons ≡ length trail.literals → AllByUnits places trail
    → AreByUnits asked places trail
units-all asked places trail many a = record {
  unit = λ k number clause y at stands e.
      let within : k < length trail.literals = at.within in
      all-at (is_by_unit places) trail.reasons k (omega (arith, within, many)) a.all;
}

-- literals are put behind those that were there, among them all that clauses of one literal force
module _ (asked places : Places) (old new : Trail) (once : AreOnce new.literals) (many : length old.reasons ≡ length old.literals)
    (more : Extends old.literals new.literals) (rest : List (Option ℕ)) (parts : new.reasons ≡ old.reasons ++ rest) where
  still-at : (x : ℤ) (k : ℕ) → IsAt old.literals x k → IsAt new.literals x k
  still-at x k at =
      let within : k < length old.literals = at.within in
      let long : length new.literals ≡ length old.literals + length more.rest = ap length more.parts
      ∙ length-append old.literals more.rest in
      record {
        within = omega (arith, within, long);
        own = ap (λ (l : List ℤ). get_or l k (pos 0)) more.parts ∙ get_or-append old.literals more.rest (pos 0) k within ∙ at.own;
      }

  held-before : AreTrue asked old.literals → (number : ℕ) (clause : List ℤ) (y : ℤ) → place_at asked number ≡ Some clause
      → effect (literals_of []) clause ≡ Forced y → literals_of old.literals (neg_ℤ y) ≡ true
  held-before holds number clause y stands e =
      let some = some-true old.literals clause (holds.holds number clause stands (short-forced clause y e)) in
      ap (λ z. literals_of old.literals (neg_ℤ z)) (sym (only-literal clause y e some.0 some.1)) ∙ some.2

  pub units-extended : AreTrue asked old.literals → AreByUnits asked places old → AreByUnits asked places new
  units-extended holds u = record {
    unit = λ k number clause y at stands e.
        let first : (j : ℕ) × IsAt old.literals (neg_ℤ y) j =
        found-at old.literals (neg_ℤ y) (held-before holds number clause y stands e) in
        let here : first.0 ≡ k = once-at new.literals once (neg_ℤ y) first.0 k (still-at (neg_ℤ y) first.0 first.1) at in
        let within : first.0 < length old.literals = first.1.within in
        let inside : first.0 < length old.reasons = omega (arith, within, many) in
        ap (is_by_unit places) (ap (λ n. get_or new.reasons n None) (sym here)
        ∙ ap (λ (l : List (Option ℕ)). get_or l first.0 None) parts ∙ get_or-append old.reasons rest None first.0 inside)
        ∙ u.unit first.0 number clause y first.1 stands e;
  }

-- a clause comes behind the others
unit-more : (places : Places) (place : Place) (reason : Option ℕ) → is_by_unit places reason ≡ true
    → is_by_unit (places ++ place ∷ []) reason ≡ true
unit-more places place None is = is
unit-more places place (Some number) is =
    elim (place_at places number) as (λ p. place_at places number ≡ p → is_short_place p ≡ true
    → is_short_place (place_at (places ++ place ∷ []) number) ≡ true) [
      | None ↦ λ at h. absurd (false-not-true h)
      | Some clause ↦ λ at h.
          ap is_short_place (get_or-append places (place ∷ []) None number (place-within places number clause at) ∙ at) ∙ h
    ] refl is

pub units-more : (asked places : Places) (place : Place) (trail : Trail) → AreByUnits asked places trail
    → AreByUnits asked (places ++ place ∷ []) trail
units-more asked places place trail u = record {
  unit = λ k number clause y at stands e. unit-more places place (get_or trail.reasons k None) (u.unit k number clause y at stands e);
}

-- and is asked about: it has no literal alone whose negation is false, or is its reason
module _ (before : Places) (clause : List ℤ) (trail : Trail) (u : AreByUnits before (before ++ Some clause ∷ []) trail) where
  abbrev all : Places
  all = before ++ Some clause ∷ []

  pub units-other : ((k : ℕ) (y : ℤ) → effect (literals_of []) clause ≡ Forced y → IsAt trail.literals (neg_ℤ y) k → ⊥)
      → AreByUnits all all trail
  units-other none = record {
    unit = λ k number own y at stands e. elim (place-push before clause number own stands) [
      | inl old ↦ u.unit k number own y at old e
      | inr last ↦ absurd (none k y (ap (effect (literals_of [])) last.1 ∙ e) at)
    ];
  }

  pub units-cited : AreOnce trail.literals → length trail.reasons ≡ length trail.literals → (number place : ℕ) → number ≡ length before
      → (z : ℤ) → effect (literals_of []) clause ≡ Forced z → IsAt trail.literals (neg_ℤ z) place
      → AreByUnits all all (with_other_reason place number trail)
  units-cited once many number place is z forces there = record {
    unit = λ k n own y at stands e.
        let within : place < length trail.literals = there.within in
        let inside : place < length trail.reasons = omega (arith, within, many) in
        elim (cases_eq k place) [
          | inl same ↦
              ap (is_by_unit all) (ap (λ m. get_or (set trail.reasons place (Some number)) m None) same
              ∙ get_or-set_same trail.reasons place (Some number) None inside)
              ∙ ap is_short_place (ap (place_at all) is ∙ get_or-append_seam before (Some clause) [] None)
              ∙ short-forced clause z forces
          | inr other ↦
              ap (is_by_unit all) (get_or-set_other trail.reasons place k (Some number) None other)
              ∙ elim (place-push before clause n own stands) [
                | inl old ↦ u.unit k n own y at old e
                | inr last ↦
                    let one : z ≡ y = same-forced clause own z y last.1 forces e in
                    absurd (other (once-at trail.literals once (neg_ℤ y) k place at
                    (subst (λ (x : ℤ). IsAt trail.literals (neg_ℤ x) place) one there)))
              ]
        ];
  }

-- a clause goes that is no reason
unit-emptied : (places : Places) (gone : ℕ) (reason : Option ℕ) → (reason ≡ Some gone → ⊥) → is_by_unit places reason ≡ true
    → is_by_unit (set places gone None) reason ≡ true
unit-emptied places gone None other is = is
unit-emptied places gone (Some number) other is =
    ap is_short_place (get_or-set_other places gone number None None (λ same. other (ap Some same))) ∙ is

pub units-emptied : (places : Places) (gone : ℕ) (trail : Trail) → IsNoReason trail gone → AreByUnits places places trail
    → AreByUnits (set places gone None) (set places gone None) trail
units-emptied places gone trail none u = record {
  unit = λ k number clause y at stands e.
      unit-emptied places gone (get_or trail.reasons k None) (none.other k at.within)
      (u.unit k number clause y at (place-set places gone number clause stands) e);
}

-- the same reasons of the same literals
pub units-same : (asked places : Places) (old new : Trail) → new.literals ≡ old.literals → new.reasons ≡ old.reasons
    → AreByUnits asked places old → AreByUnits asked places new
units-same asked places old new literals reasons u = record {
  unit = λ k number clause y at stands e.
      ap (λ (l : List (Option ℕ)). is_by_unit places (get_or l k None)) reasons
      ∙ u.unit k number clause y (subst (λ (l : List ℤ). IsAt l (neg_ℤ y) k) literals at) stands e;
}
