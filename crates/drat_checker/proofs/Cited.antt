-- Which clauses are the reasons of false literals: one of a single literal may become the reason of what it forces, one that is the reason of
-- none may go, and literals that all have clauses as their reasons are derived from these.
use Rattle.std.proofs.Common.{◌≡◌, ℕ, suc, ◌<◌, Bool, true, false, ◌||◌, ℤ, pos, neg_ℤ, int_eq, List, [], ◌∷◌, ◌++◌, length, take}
use Rattle.std.proofs.Common.{get_or, set, Option, None, Some, inl, inr, refl, sym, ap, ◌∙◌, arith, append_assoc, length-set}
use Rattle.std.specs.List.{list_all, list_any}
use Rattle.std.proofs.Math.IntN.{neg_ℤ-neg_ℤ}
use Rattle.std.proofs.Math.Seq.{get_or-set_other, get_or-set_same}
use Rattle.std.proofs.lemmas.Bool.{and_from, and_parts, both_ways, cases_eq, false_from_ne_true, or_cases, or_left}
use Rattle.std.proofs.lemmas.List.{append-nil}
use Rattle.lrat_rules.specs.declared.outcome.Effect.{Effect}
use Rattle.lrat_rules.specs.declared.outcome.Effect.TheVariants.{Unit as Forced, NotUnit}
use Rattle.lrat_rules.specs.Chain.{FalseSet, literals_of, effect}
use Rattle.drat_checker.specs.Places.{Places, place_at, standing}
use Rattle.drat_checker.specs.Propagation.{Derives, derived, makes_false}
use Rattle.drat_checker.specs.Trail.{AreOnce, IsApart, IsAt, Trail, with_other_reason}
use Rattle.drat_checker.specs.Reasons.{AreReasons, IsNoReason, is_reason, place_forces}
use Rattle.drat_checker.proofs.FalseSets.{at_member, eq-int_eq, int_eq-true}
use Rattle.drat_checker.proofs.Derived.{not_unit-before}
use Rattle.drat_checker.proofs.Guarded.{forced-held, last-forced}
use Rattle.drat_checker.proofs.Hinted.{IsForced, forced-at, forced-others, forced-place}
use Rattle.drat_checker.proofs.Settled.{front-false}
use Rattle.drat_checker.proofs.Standing.{among-place, any-among, same_inside}
use Rattle.drat_checker.proofs.Trails.{at-any, once-at}

or-last : (b : Bool) → (b || false) ≡ true → b ≡ true
or-last true h = refl
or-last false h = h

-- what a clause of one literal forces it forces wherever that literal isn't false
all-weaker : (n : FalseSet) (y : ℤ) (clause : List ℤ) → list_all (λ z. int_eq z y || literals_of [] z) clause ≡ true
    → list_all (λ z. int_eq z y || n z) clause ≡ true
all-weaker n y [] all = refl
all-weaker n y (z ∷ zs) all =
    let parts = and_parts (int_eq z y || false) _ all in
    and_from _ _ (or_left _ _ (or-last (int_eq z y) parts.0)) (all-weaker n y zs parts.1)

pub unit-anywhere : (n : FalseSet) (clause : List ℤ) (y : ℤ) → effect (literals_of []) clause ≡ Forced y → n y ≡ false
    → effect n clause ≡ Forced y
unit-anywhere n clause y e new =
    last-forced n y clause (all-weaker n y clause (forced-others (literals_of []) clause y e))
    (forced-held (literals_of []) clause y e) new

-- it becomes the reason
module _ (places : Places) (assumed : List ℤ) (trail : Trail) (place number : ℕ) (clause : List ℤ) (y : ℤ)
    (apart : IsApart trail.literals) (stands : place_at places number ≡ Some clause) (unit : effect (literals_of []) clause ≡ Forced y)
    (at : IsAt trail.literals (neg_ℤ y) place) (r : AreReasons places assumed trail) where
  forced-negation : literals_of trail.literals (neg_ℤ y) ≡ true
  forced-negation = ap (literals_of trail.literals) (sym at.own) ∙ at-any trail.literals place at.within

  unforced : literals_of (take place trail.literals) y ≡ false
  unforced = false_from_ne_true _ (λ there.
      both_ways (literals_of trail.literals (neg_ℤ y)) (apart.apart y (front-false trail.literals place y there)) forced-negation)

  own-reason : is_reason places assumed (take place trail.literals) (get_or trail.literals place (pos 0)) (Some number) ≡ true
  own-reason =
      ap (place_forces (take place trail.literals) (get_or trail.literals place (pos 0))) stands
      ∙ ap (makes_false (get_or trail.literals place (pos 0)))
      (unit-anywhere (literals_of (take place trail.literals)) clause y unit unforced)
      ∙ eq-int_eq (get_or trail.literals place (pos 0)) (neg_ℤ y) at.own

  pub reasons-cited : AreReasons places assumed (with_other_reason place number trail)
  reasons-cited = record {
    many = length-set trail.reasons place (Some number) ∙ r.many;
    reason = λ k within. elim (cases_eq k place) [
      | inl same ↦
          let inside : place < length trail.reasons = omega (arith, at.within, r.many) in
          ap (is_reason places assumed (take k trail.literals) (get_or trail.literals k (pos 0)))
          (ap (λ n. get_or (set trail.reasons place (Some number)) n None) same
          ∙ get_or-set_same trail.reasons place (Some number) None inside)
          ∙ ap (λ n. is_reason places assumed (take n trail.literals) (get_or trail.literals n (pos 0)) (Some number)) same ∙ own-reason
      | inr other ↦
          ap (is_reason places assumed (take k trail.literals) (get_or trail.literals k (pos 0)))
          (get_or-set_other trail.reasons place k (Some number) None other)
          ∙ r.reason k within
    ];
  }

-- a clause that is no reason
module _ (places : Places) (trail : Trail) (number : ℕ) (clause : List ℤ) (stands : place_at places number ≡ Some clause)
    (r : AreReasons places [] trail) where
  reason-at : (k : ℕ) → k < length trail.literals → get_or trail.reasons k None ≡ Some number
      → place_forces (take k trail.literals) (get_or trail.literals k (pos 0)) (place_at places number) ≡ true
  reason-at k within is =
      ap (is_reason places [] (take k trail.literals) (get_or trail.literals k (pos 0))) (sym is) ∙ r.reason k within

  forces-not : (x : ℤ) (e : Effect) → e ≡ NotUnit → makes_false x e ≡ true → ⊥
  forces-not x e is h = let f : makes_false x NotUnit ≡ true = ap (makes_false x) (sym is) ∙ h in cc

  -- since it forces nothing
  pub spare-open : effect (literals_of trail.literals) clause ≡ NotUnit → IsNoReason trail number
  spare-open e = record {
    other = λ k within is.
        forces-not (get_or trail.literals k (pos 0)) (effect (literals_of (take k trail.literals)) clause)
        (not_unit-before (literals_of (take k trail.literals)) (literals_of trail.literals)
        (record { includes = λ x m. front-false trail.literals k x m }) clause e)
        (ap (place_forces (take k trail.literals) (get_or trail.literals k (pos 0))) (sym stands) ∙ reason-at k within is);
  }

  -- or since what it forces is false by another one
  module _ (apart : IsApart trail.literals) (once : AreOnce trail.literals) (y : ℤ) (place : ℕ)
      (e : effect (literals_of trail.literals) clause ≡ Forced y) (at : IsAt trail.literals (neg_ℤ y) place)
      (other : get_or trail.reasons place None ≡ Some number → ⊥) where
    -- what it is the reason of is the negation of what it forces
    same-forced : (k : ℕ) → k < length trail.literals → IsForced places (take k trail.literals) (get_or trail.literals k (pos 0)) number
        → get_or trail.literals k (pos 0) ≡ neg_ℤ y
    same-forced k within f =
        let same : f.clause ≡ clause = same_inside f.clause clause (sym f.stands ∙ stands) in
        let held : literals_of clause f.literal ≡ true =
        ap (λ (c : List ℤ). literals_of c f.literal) (sym same)
        ∙ forced-held (literals_of (take k trail.literals)) f.clause f.literal f.forces in
        let there : literals_of trail.literals (neg_ℤ f.literal) ≡ true =
        ap (literals_of trail.literals) (sym f.negates) ∙ at-any trail.literals k within in
        let unfalse : literals_of trail.literals f.literal ≡ false =
        ap (literals_of trail.literals) (sym (neg_ℤ-neg_ℤ f.literal)) ∙ apart.apart (neg_ℤ f.literal) there in
        let either : (int_eq f.literal y || literals_of trail.literals f.literal) ≡ true =
        at_member (λ z. int_eq z y || literals_of trail.literals z) clause f.literal
        (forced-others (literals_of trail.literals) clause y e) held in
        elim (or_cases (int_eq f.literal y) _ either) [
          | inl is ↦ f.negates ∙ ap neg_ℤ (int_eq-true f.literal y is)
          | inr falsified ↦ absurd (both_ways (literals_of trail.literals f.literal) unfalse falsified)
        ]

    pub spare-forced : IsNoReason trail number
    spare-forced = record {
      other = λ k within is.
          let f = forced-at places (take k trail.literals) (get_or trail.literals k (pos 0)) number (reason-at k within is) in
          let here : k ≡ place = once-at trail.literals once (neg_ℤ y) k place
          (record { within = within; own = same-forced k within f }) at in
          other (ap (λ n. get_or trail.reasons n None) (sym here) ∙ is);
    }

-- it goes
reason-emptied : (places : Places) (gone : ℕ) (assumed front : List ℤ) (x : ℤ) (reason : Option ℕ) → (reason ≡ Some gone → ⊥)
    → is_reason places assumed front x reason ≡ true → is_reason (set places gone None) assumed front x reason ≡ true
reason-emptied places gone assumed front x None other is = is
reason-emptied places gone assumed front x (Some number) other is =
    ap (place_forces front x) (get_or-set_other places gone number None None (λ same. other (ap Some same))) ∙ is

pub reasons-emptied : (places : Places) (gone : ℕ) (assumed : List ℤ) (trail : Trail) → IsNoReason trail gone
    → AreReasons places assumed trail → AreReasons (set places gone None) assumed trail
reasons-emptied places gone assumed trail none r = record {
  many = r.many;
  reason = λ k within. reason-emptied places gone assumed (take k trail.literals) (get_or trail.literals k (pos 0))
      (get_or trail.reasons k None) (none.other k within) (r.reason k within);
}

-- literals that clauses force are derived
module _ (places : Places) where
  reason-any : (front : List ℤ) (x : ℤ) (reason : Option ℕ) → is_reason places [] front x reason ≡ true
      → list_any (λ c. makes_false x (effect (literals_of front) c)) (standing places) ≡ true
  reason-any front x None is = cc
  reason-any front x (Some number) is =
      let at = forced-place front x (place_at places number) is in
      any-among (λ c. makes_false x (effect (literals_of front) c)) (standing places) at.0 at.2 (among-place places number at.0 at.1)

  derived-reasons : (front rest : List ℤ) (reasons : List (Option ℕ)) → ((k : ℕ) → k < length rest
      → is_reason places [] (front ++ take k rest) (get_or rest k (pos 0)) (get_or reasons k None) ≡ true)
      → derived (standing places) front rest ≡ true
  derived-reasons front [] reasons each = refl
  derived-reasons front (x ∷ rest) [] each =
      let none : is_reason places [] (front ++ []) x None ≡ true = each 0 (omega arith) in
      cc
  derived-reasons front (x ∷ rest) (reason ∷ reasons) each =
      let own : is_reason places [] (front ++ []) x reason ≡ true = each 0 (omega arith) in
      and_from _ _
      (reason-any front x reason (ap (λ (l : List ℤ). is_reason places [] l x reason) (sym (append-nil front)) ∙ own))
      (derived-reasons (front ++ x ∷ []) rest reasons (λ k within.
      ap (λ (l : List ℤ). is_reason places [] l (get_or rest k (pos 0)) (get_or reasons k None)) (append_assoc front (x ∷ []) (take k rest))
      ∙ each (suc k) (omega (arith, within))))

  pub derives-reasons : (trail : Trail) → AreReasons places [] trail → Derives (standing places) [] trail.literals
  derives-reasons trail r = record {
    rest = trail.literals;
    parts = refl;
    derived = derived-reasons [] trail.literals trail.reasons r.reason;
  }
