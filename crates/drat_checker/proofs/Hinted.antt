-- Hints from a conflict back refute, and each is needed: each step back needs the literals of one clause more.
use Rattle.std.proofs.Common.{◌≡◌, ℕ, zero, suc, ◌+◌, ◌<◌, ◌≤◌, Bool, true, false, cond, not, ◌||◌, ◌⊎◌, ℤ, pos, neg_ℤ, int_eq}
use Rattle.std.proofs.Common.{List, [], ◌∷◌, ◌++◌, length, take, reverse, IfSome, Option}
use Rattle.std.proofs.Common.{get_or, None, Some, if◌then◌else◌, inl, inr, refl, sym, ap, ◌∙◌, subst, arith}
use Rattle.std.proofs.Common.{append_assoc}
use Rattle.std.specs.List.{list_any, list_all, filter}
use Rattle.std.specs.FinMap as map
use Rattle.std.proofs.Math.IntN.{neg_ℤ-neg_ℤ}
use Rattle.std.proofs.lemmas.Bool.{and_parts, and_from, or_cases, or_left, or_right, both_ways, false_from_ne_true}
use Rattle.std.proofs.lemmas.List.Elements.{filter_more}
use Rattle.std.proofs.lemmas.List.{append-nil, reverse-append, take_all, take_more, take-take}
use Rattle.std.proofs.lemmas.List.Folds.{list_all-append, list_any-append}
use Rattle.lrat_rules.specs.declared.outcome.Effect.{Effect}
use Rattle.lrat_rules.specs.declared.outcome.Effect.TheVariants.{Conflict, Unit as Forced, NotUnit}
use Rattle.cnf_base.specs.ProofText.{is_id}
use Rattle.lrat_rules.specs.State.{Live, clause_at}
use Rattle.lrat_rules.specs.Chain.{FalseSet, effect, effect_of_outside, literals_of, outside, with_literal}
use Rattle.lrat_rules.specs.Addition.{if_live}
use Rattle.drat_checker.specs.Exact.{forces_it, has_unit, is_direct, is_exact, is_exact_effect, is_exact_hint, is_held, is_unit_of}
use Rattle.drat_checker.specs.Database.{is_short}
use Rattle.lrat_rules.specs.Trail.{with_last}
use Rattle.drat_checker.specs.declared.flags.Flags.{Flags}
use Rattle.drat_checker.specs.Flags.{is_set}
use Rattle.drat_checker.specs.Places.{Place, Places, place_at}
use Rattle.drat_checker.specs.Propagation.{makes_false}
use Rattle.drat_checker.specs.Trail.{AreOnce, IsApart, IsAt, Trail}
use Rattle.drat_checker.specs.declared.hints.FirstConflict.{FirstConflict}
use Rattle.drat_checker.specs.Reasons.{AreByUnits, AreFree, AreReasons, ClashesAt, IsFalsified, is_by_unit, is_reason, is_short_place}
use Rattle.drat_checker.specs.Reasons.{place_forces}
use Rattle.drat_checker.specs.Hints.{AreLive, AreMarks, ClashesAssumed, HasSame, IsConflict, IsFirstClash, IsFirstConflict, IsForcedAt}
use Rattle.drat_checker.specs.Hints.{IsHeldAt, IsStart, NoneClashes, Refute, RefuteSoFar, is_tautology, plain, untaken}
use Rattle.drat_checker.proofs.FalseSets.{all_members, at_member, eq-int_eq, int_eq-true}
use Rattle.drat_checker.proofs.Guarded.{forced-held, last-forced}
use Rattle.drat_checker.proofs.Settled.{front-false}
use Rattle.drat_checker.proofs.Standing.{same_inside}
use Rattle.drat_checker.proofs.Trails.{at-any, at-front, literals_of-last, new-at}

-- all literals of a clause but the one that it forces are false
copies-of : (xs : List ℤ) (y : ℤ) → effect_of_outside xs ≡ Forced y → list_all (int_eq y) xs ≡ true
copies-of [] y e = cc
copies-of (x ∷ xs) y e =
    elim (list_all (int_eq x) xs) as (λ b. list_all (int_eq x) xs ≡ b → (if b then Forced x else NotUnit) ≡ Forced y
    → list_all (int_eq y) (x ∷ xs) ≡ true) [
      | true ↦ λ all is.
          let same : x ≡ y = cc in
          and_from _ _ (eq-int_eq y x (sym same)) (subst (λ (z : ℤ). list_all (int_eq z) xs ≡ true) same all)
      | false ↦ λ all is. cc
    ] refl e

others-in : (n : FalseSet) (y : ℤ) (clause : List ℤ) → list_all (int_eq y) (outside n clause) ≡ true
    → list_all (λ z. int_eq z y || n z) clause ≡ true
others-in n y [] all = refl
others-in n y (z ∷ zs) all =
    elim (n z) as (λ b. n z ≡ b → list_all (int_eq y) (cond (not b) (z ∷ outside n zs) (outside n zs)) ≡ true
    → list_all (λ z. int_eq z y || n z) (z ∷ zs) ≡ true) [
      | true ↦ λ e rest. and_from _ _ (or_right (int_eq z y) _ e) (others-in n y zs rest)
      | false ↦ λ e rest.
          let parts = and_parts (int_eq y z) _ rest in
          and_from _ _ (or_left _ _ (eq-int_eq z y (sym (int_eq-true y z parts.0)))) (others-in n y zs parts.1)
    ] refl all

pub forced-others : (n : FalseSet) (clause : List ℤ) (y : ℤ) → effect n clause ≡ Forced y
    → list_all (λ z. int_eq z y || n z) clause ≡ true
forced-others n clause y e = others-in n y clause (copies-of (outside n clause) y e)

-- a literal and its negation
pub some-pair : (clause rest : List ℤ) (x : ℤ) → literals_of rest x ≡ true → literals_of clause (neg_ℤ x) ≡ true
    → list_any (λ y. literals_of clause (neg_ℤ y)) rest ≡ true
some-pair clause [] x own negation = cc
some-pair clause (y ∷ ys) x own negation =
    elim (or_cases (int_eq x y) _ own) [
      | inl here ↦ or_left _ _ (ap (λ z. literals_of clause (neg_ℤ z)) (sym (int_eq-true x y here)) ∙ negation)
      | inr later ↦ or_right (literals_of clause (neg_ℤ y)) _ (some-pair clause ys x later negation)
    ]

-- what a place forces
forced-by : (x : ℤ) (e : Effect) → makes_false x e ≡ true → (y : ℤ) × (e ≡ Forced y) × (x ≡ neg_ℤ y)
forced-by x Conflict h = cc
forced-by x (Forced y) h = (y, refl, int_eq-true x (neg_ℤ y) h)
forced-by x NotUnit h = cc

false-not-true : false ≡ true → ⊥
false-not-true e = cc

pub record IsForced (places : Places) (front : List ℤ) (x : ℤ) (number : ℕ) : Type 0 where
  pub clause : List ℤ
  pub stands : place_at places number ≡ Some clause
  pub literal : ℤ
  pub forces : effect (literals_of front) clause ≡ Forced literal
  pub negates : x ≡ neg_ℤ literal

pub forced-place : (front : List ℤ) (x : ℤ) (place : Place) → place_forces front x place ≡ true
    → (clause : List ℤ) × (place ≡ Some clause) × (makes_false x (effect (literals_of front) clause) ≡ true)
forced-place front x None h = cc
forced-place front x (Some clause) h = (clause, refl, h)

pub forced-at : (places : Places) (front : List ℤ) (x : ℤ) (number : ℕ) → place_forces front x (place_at places number) ≡ true
    → IsForced places front x number
forced-at places front x number h =
    let at = forced-place front x (place_at places number) h in
    let by = forced-by x (effect (literals_of front) at.0) at.2 in
    record { clause = at.0; stands = at.1; literal = by.0; forces = by.1; negates = by.2 }

-- a clause that forces a new literal is no tautology
pub some-both : (clause rest : List ℤ) → list_any (λ x. literals_of clause (neg_ℤ x)) rest ≡ true
    → (x : ℤ) × (literals_of rest x ≡ true) × (literals_of clause (neg_ℤ x) ≡ true)
some-both clause [] h = cc
some-both clause (x ∷ xs) h =
    elim (or_cases (literals_of clause (neg_ℤ x)) _ h) [
      | inl here ↦ (x, or_left _ _ (eq-int_eq x x refl), here)
      | inr later ↦
          let more = some-both clause xs later in
          (more.0, or_right (int_eq more.0 x) _ more.1, more.2)
    ]

module _ (front : List ℤ) (apart : (x : ℤ) → literals_of front x ≡ true → literals_of front (neg_ℤ x) ≡ false) (clause : List ℤ) (y : ℤ)
    (others : list_all (λ z. int_eq z y || literals_of front z) clause ≡ true) (new : literals_of front (neg_ℤ y) ≡ false)
    (nonzero : neg_ℤ y ≡ y → ⊥) where
  in-either : (z : ℤ) → literals_of clause z ≡ true → (int_eq z y || literals_of front z) ≡ true
  in-either z m = at_member (λ z. int_eq z y || literals_of front z) clause z others m

  not-both : (x : ℤ) → literals_of clause x ≡ true → literals_of clause (neg_ℤ x) ≡ true → ⊥
  not-both x own negated =
      elim (or_cases (int_eq x y) _ (in-either x own)) [
        | inl here ↦
            let is : x ≡ y = int_eq-true x y here in
            elim (or_cases (int_eq (neg_ℤ x) y) _ (in-either (neg_ℤ x) negated)) [
              | inl same ↦ nonzero (ap neg_ℤ (sym is) ∙ int_eq-true (neg_ℤ x) y same)
              | inr there ↦ both_ways (literals_of front (neg_ℤ y)) new (ap (λ z. literals_of front (neg_ℤ z)) (sym is) ∙ there)
            ]
        | inr there ↦ elim (or_cases (int_eq (neg_ℤ x) y) _ (in-either (neg_ℤ x) negated)) [
          | inl same ↦
              let is : neg_ℤ y ≡ x = ap neg_ℤ (sym (int_eq-true (neg_ℤ x) y same)) ∙ neg_ℤ-neg_ℤ x in
              both_ways (literals_of front (neg_ℤ y)) new (ap (literals_of front) is ∙ there)
          | inr beside ↦ both_ways (literals_of front (neg_ℤ x)) (apart x there) beside
        ]
      ]

  pub no-tautology : is_tautology clause ≡ false
  no-tautology = false_from_ne_true _ (λ h. let some = some-both clause clause h in not-both some.0 some.1 some.2)

nonzero-at : (literals : List ℤ) → IsApart literals → (x y : ℤ) → literals_of literals x ≡ true → x ≡ neg_ℤ y → neg_ℤ y ≡ y → ⊥
nonzero-at literals apart x y there negates same =
    let own : neg_ℤ x ≡ x = ap neg_ℤ (negates ∙ same) ∙ sym negates in
    both_ways (literals_of literals x) (ap (literals_of literals) (sym own) ∙ apart.apart x there) there

pub plain-reason : (literals : List ℤ) → IsApart literals → AreOnce literals → (k : ℕ) → k < length literals → (clause : List ℤ) (y : ℤ)
    → get_or literals k (pos 0) ≡ neg_ℤ y → effect (literals_of (take k literals)) clause ≡ Forced y → is_tautology clause ≡ false
plain-reason literals apart once k within clause y negates e =
    no-tautology (take k literals)
    (λ x m. false_from_ne_true _ (λ there.
    both_ways (literals_of literals (neg_ℤ x)) (apart.apart x (front-false literals k x m)) (front-false literals k (neg_ℤ x) there)))
    clause y (forced-others (literals_of (take k literals)) clause y e)
    (ap (literals_of (take k literals)) (sym negates) ∙ new-at literals once k within)
    (nonzero-at literals apart (get_or literals k (pos 0)) y (at-any literals k within) negates)

-- a clause that stands and is no tautology is live
pub live-at : (live : Live) (places : Places) → AreLive live places → (number : ℕ) (clause : List ℤ) → place_at places number ≡ Some clause
    → is_tautology clause ≡ false → clause_at live (number + 1) ≡ Some clause
live-at live places are number clause at fails =
    are.same number ∙ ap plain at ∙ ap (λ b. if b then None else Some clause) fails

none-outside : (n : FalseSet) (clause : List ℤ) → list_all n clause ≡ true → outside n clause ≡ []
none-outside n [] all = refl
none-outside n (z ∷ zs) all =
    let parts = and_parts (n z) (list_all n zs) all in
    ap (λ b. cond (not b) (z ∷ outside n zs) (outside n zs)) parts.0 ∙ none-outside n zs parts.1

-- one hint
module _ (live : Live) (n : FalseSet) (hint : ℕ) (hints : List ℕ) (clause : List ℤ) (at : clause_at live hint ≡ Some clause) where
  abbrev later : FalseSet → Bool
  later m = is_exact live m hints

  pub of-effect : (e : Effect) → effect n clause ≡ e → is_exact_effect live clause hints n later e ≡ true
      → is_exact live n (hint ∷ hints) ≡ true
  of-effect e is h = ap (is_exact_hint live hints n later) at ∙ ap (is_exact_effect live clause hints n later) is ∙ h

  pub hint-forces : (y : ℤ) → list_all (λ z. int_eq z y || n z) clause ≡ true → literals_of clause y ≡ true → n y ≡ false
      → n (neg_ℤ y) ≡ false → is_held live hints (neg_ℤ y) ≡ true → is_direct live clause y ≡ true
      → is_exact live (with_literal (neg_ℤ y) n) hints ≡ true → is_exact live n (hint ∷ hints) ≡ true
  hint-forces y all own unfalse new used direct h =
      of-effect (Forced y) (last-forced n y clause all own unfalse) (and_from _ _ (ap not new) (and_from _ _ used (and_from _ _ direct h)))

pub hint-false : (live : Live) (n : FalseSet) (hint : ℕ) (clause : List ℤ) → clause_at live hint ≡ Some clause → list_all n clause ≡ true
    → is_exact live n (hint ∷ []) ≡ true
hint-false live n hint clause at all =
    of-effect live n hint [] clause at Conflict (ap effect_of_outside (none-outside n clause all)) refl

-- what numbers pass, they pass with one more, and turned
all-last-number : (p : ℕ → Bool) (xs : List ℕ) (x : ℕ) → list_all p xs ≡ true → p x ≡ true → list_all p (xs ++ x ∷ []) ≡ true
all-last-number p xs x all one = list_all-append p xs (x ∷ []) ∙ and_from _ _ all (and_from _ _ one refl)

all-turned : (p : ℕ → Bool) (xs : List ℕ) → list_all p xs ≡ true → list_all p (reverse xs) ≡ true
all-turned p [] all = refl
all-turned p (x ∷ xs) all =
    let parts = and_parts (p x) (list_all p xs) all in
    ap (list_all p) (reverse-append (x ∷ []) xs) ∙ all-last-number p (reverse xs) x (all-turned p xs parts.1) parts.0

-- a literal that a clause of one of the hints has
held-by : (live : Live) (hint : ℕ) (clause : List ℤ) (x : ℤ) → clause_at live hint ≡ Some clause → literals_of clause x ≡ true
    → if_live (λ c. literals_of c x) (clause_at live hint) ≡ true
held-by live hint clause x at own = ap (if_live (λ c. literals_of c x)) at ∙ own

-- what is needed where nothing was
pub own-marked : (places : Places) (number : ℕ) (none marked : List ℤ) → none ≡ []
    → ((x : ℤ) → literals_of marked x ≡ true → (literals_of none x ≡ true) ⊎ IsHeldAt places number x)
    → (clause : List ℤ) → place_at places number ≡ Some clause → (x : ℤ) → literals_of marked x ≡ true → literals_of clause x ≡ true
own-marked places number none marked is own clause stands x m =
    elim (own x m) [
      | inl before ↦ absurd (false-not-true (ap (λ (l : List ℤ). literals_of l x) (sym is) ∙ before))
      | inr now ↦ ap (λ (c : List ℤ). literals_of c x) (same_inside clause now.clause (sym stands ∙ now.stands)) ∙ now.own
    ]

-- the conflict alone
pub refute-start : (places : Places) (trail : Trail) (given : List ℤ) (first : FirstConflict) (left needed : FalseSet) (found : List ℕ)
    → ((x : ℤ) → literals_of (take first.count trail.literals) x ≡ true → left x ≡ true)
    → ((clause : List ℤ) → place_at places first.number ≡ Some clause → (x : ℤ) → literals_of clause x ≡ true → needed x ≡ true)
    → ((clause : List ℤ) → place_at places first.number ≡ Some clause → (x : ℤ) → needed x ≡ true → literals_of clause x ≡ true)
    → is_id (first.number + 1) ≡ true → found ≡ (first.number + 1) ∷ [] → RefuteSoFar places trail given first left needed found
refute-start places trail given first left needed found whole has no_more id is =
    subst (RefuteSoFar places trail given first left needed) (sym is) (record {
      ids = and_from _ _ id refl;
      held = λ live assumed are start x need.
          let conflict = start.conflict.conflict in
          or_left _ _ (held-by live (first.number + 1) conflict.clause x
          (live-at live places are first.number conflict.clause conflict.stands conflict.plain)
          (no_more conflict.clause conflict.stands x need));
      exact = λ live assumed n are start all front bounded.
          let conflict = start.conflict.conflict in
          let clause = conflict.clause in
          hint-false live n (first.number + 1) clause (live-at live places are first.number clause conflict.stands conflict.plain)
          (all_members n clause (λ x m.
          elim (or_cases (literals_of (take first.count trail.literals) x) (literals_of assumed x)
          (at_member (λ z. literals_of (take first.count trail.literals) z || literals_of assumed z) clause x conflict.falsified m)) [
            | inl there ↦ front x (whole x there) (has clause conflict.stands x m)
            | inr own ↦ at_member n assumed x all own
          ]));
    })

pub front-front : (literals : List ℤ) (k count : ℕ) → k ≤ count → (x : ℤ) → literals_of (take k literals) x ≡ true
    → literals_of (take count literals) x ≡ true
front-front literals k count within x m =
    front-false (take count literals) k x (ap (λ (l : List ℤ). literals_of l x) (take-take k count literals within) ∙ m)

-- the reason of a literal whose negation a live clause states alone is such a clause
unit-live : (live : Live) (y : ℤ) (ids : List ℕ) → list_any (λ id. if_live (is_unit_of y) (clause_at live id)) ids ≡ true
    → (id : ℕ) × (if_live (is_unit_of y) (clause_at live id) ≡ true)
unit-live live y [] h = cc
unit-live live y (id ∷ ids) h =
    elim (or_cases (if_live (is_unit_of y) (clause_at live id)) _ h) [
      | inl here ↦ (id, here)
      | inr later ↦ unit-live live y ids later
    ]

unit-of : (y : ℤ) (e : Effect) → forces_it y e ≡ true → e ≡ Forced y
unit-of y Conflict h = cc
unit-of y (Forced z) h = ap Forced (int_eq-true z y h)
unit-of y NotUnit h = cc

plain-place : (place : Place) (y : ℤ) → if_live (is_unit_of y) (plain place) ≡ true
    → (clause : List ℤ) × (place ≡ Some clause) × (effect (literals_of []) clause ≡ Forced y)
plain-place None y h = cc
plain-place (Some clause) y h =
    elim (is_tautology clause) as (λ b. if_live (is_unit_of y) (if b then None else Some clause) ≡ true
    → (own : List ℤ) × (Some clause ≡ Some own) × (effect (literals_of []) own ≡ Forced y)) [
      | true ↦ λ h'. cc
      | false ↦ λ h'. (clause, refl, unit-of y (effect (literals_of []) clause) h')
    ] h

unit-at : (live : Live) (places : Places) → AreLive live places → (y : ℤ) (id : ℕ) → if_live (is_unit_of y) (clause_at live id) ≡ true
    → (number : ℕ) × (clause : List ℤ) × (place_at places number ≡ Some clause) × (effect (literals_of []) clause ≡ Forced y)
unit-at live places are y zero h =
    let none : if_live (is_unit_of y) None ≡ true = ap (if_live (is_unit_of y)) (sym are.none_at_zero) ∙ h in
    absurd (false-not-true none)
unit-at live places are y (suc number) h =
    let next : suc number ≡ number + 1 = omega arith in
    let own = plain-place (place_at places number) y
    (ap (if_live (is_unit_of y)) (sym (ap (clause_at live) next ∙ are.same number)) ∙ h) in
    (number, own.0, own.1, own.2)

direct-reason : (live : Live) (places : Places) → AreLive live places → (trail : Trail) → AreByUnits places places trail
    → (place : ℕ) (y : ℤ) → IsAt trail.literals (neg_ℤ y) place → (reason : ℕ) → get_or trail.reasons place None ≡ Some reason
    → (clause : List ℤ) → place_at places reason ≡ Some clause → is_direct live clause y ≡ true
direct-reason live places are trail units place y at reason is clause stands =
    elim (has_unit live y) as (λ b. has_unit live y ≡ b → (not b || is_short clause) ≡ true) [
      | true ↦ λ some.
          let id = unit-live live y (map.keys live) some in
          let unit = unit-at live places are y id.0 id.1 in
          ap is_short_place (sym stands) ∙ ap (is_by_unit places) (sym is)
          ∙ units.unit place unit.0 unit.1 y at unit.2 unit.3
      | false ↦ λ none. refl
    ] refl

-- One place back: its literal is assumed or isn't needed, or a clause forced it.
or-last : (b : Bool) → (b || false) ≡ true → b ≡ true
or-last true h = h
or-last false h = h

module _ (places : Places) (trail : Trail) (given : List ℤ) (first : FirstConflict) (place : ℕ) (before : place < first.count)
    (within : place < length trail.literals) (left left' : FalseSet)
    (split : (z : ℤ) → left z ≡ true → (z ≡ get_or trail.literals place (pos 0)) ⊎ (left' z ≡ true))
    (more : (z : ℤ) → left' z ≡ true → left z ≡ true) (needed needed' : FalseSet) (kept : (z : ℤ) → needed z ≡ true → needed' z ≡ true)
  where
    abbrev own : ℤ
    own = get_or trail.literals place (pos 0)

    abbrev front : List ℤ
    front = take place trail.literals

    still-bounded : (assumed : List ℤ) (n : FalseSet) → ((x : ℤ) → n x ≡ true → (literals_of assumed x || left' x) ≡ true)
        → (x : ℤ) → n x ≡ true → (literals_of assumed x || left x) ≡ true
    still-bounded assumed n bounded x m =
        elim (or_cases (literals_of assumed x) (left' x) (bounded x m)) [
          | inl a ↦ or_left _ _ a
          | inr l ↦ or_right (literals_of assumed x) _ (more x l)
        ]

    forced-here : (assumed : List ℤ) (reason : ℕ) → IsForcedAt trail given place reason → IsStart places trail given assumed first
        → IsForced places front own reason
    forced-here assumed reason why start =
        forced-at places front own reason (ap (is_reason places assumed front own) (sym why.reason) ∙ start.reasons.reason place within)

    pub step-idle : (found : List ℕ) → ((z : ℤ) → needed' z ≡ true → needed z ≡ true)
        → ((assumed : List ℤ) → IsStart places trail given assumed first → needed own ≡ true → literals_of assumed own ≡ true)
        → RefuteSoFar places trail given first left needed found → RefuteSoFar places trail given first left' needed' found
    step-idle found no_more idle so_far = record {
      ids = so_far.ids;
      held = λ live assumed are start x need. so_far.held live assumed are start x (no_more x need);
      exact = λ live assumed n are start all has bounded.
          so_far.exact live assumed n are start all (λ z there need.
          elim (split z there) [
            | inl is ↦ at_member n assumed z all (ap (literals_of assumed) is ∙ idle assumed start (ap needed (sym is) ∙ need))
            | inr still ↦ has z still (kept z need)
          ]) (still-bounded assumed n bounded);
    }

    pub step-forced : IsApart trail.literals → AreOnce trail.literals → left own ≡ true → left' own ≡ false
        → ((z : ℤ) → left' z ≡ true → literals_of trail.literals z ≡ true) → (found found' : List ℕ) (reason : ℕ)
        → IsForcedAt trail given place reason → needed own ≡ true → found' ≡ found ++ (reason + 1) ∷ [] → is_id (reason + 1) ≡ true
        → ((z : ℤ) → needed' z ≡ true → (needed z ≡ true) ⊎ IsHeldAt places reason z)
        → ((clause : List ℤ) → place_at places reason ≡ Some clause → (z : ℤ) → literals_of clause z ≡ true → needed' z ≡ true)
        → ((clause : List ℤ) → place_at places reason ≡ Some clause → (z : ℤ) → literals_of clause z ≡ true → literals_of front z ≡ true
        → left' z ≡ true)
        → RefuteSoFar places trail given first left needed found → RefuteSoFar places trail given first left' needed' found'
    step-forced apart once here gone inside found found' reason why need is id no_more has_all still so_far = record {
      ids = ap (list_all is_id) is ∙ all-last-number is_id found (reason + 1) so_far.ids id;
      held = λ live assumed are start x need'.
          let forced : IsForced places front own reason = forced-here assumed reason why start in
          let turned : reverse found' ≡ (reason + 1) ∷ reverse found = ap reverse is ∙ reverse-append found ((reason + 1) ∷ []) in
          ap (λ (l : List ℕ). is_held live l x) turned
          ∙ elim (no_more x need') [
            | inl before' ↦ or_right (if_live (λ c. literals_of c x) (clause_at live (reason + 1))) _ (so_far.held live assumed are start x before')
            | inr now ↦ or_left _ _ (held-by live (reason + 1) forced.clause x
                (live-at live places are reason forced.clause forced.stands
                (plain-reason trail.literals apart once place within forced.clause forced.literal forced.negates forced.forces))
                (ap (λ (c : List ℤ). literals_of c x) (same_inside forced.clause now.clause (sym forced.stands ∙ now.stands)) ∙ now.own))
          ];
      exact = λ live assumed n are start all has bounded.
          let forced : IsForced places front own reason = forced-here assumed reason why start in
          let y = forced.literal in
          let is_own : neg_ℤ y ≡ own = sym forced.negates in
          let fails : is_tautology forced.clause ≡ false =
          plain-reason trail.literals apart once place within forced.clause y forced.negates forced.forces in
          let others : list_all (λ z. int_eq z y || literals_of front z) forced.clause ≡ true =
          forced-others (literals_of front) forced.clause y forced.forces in
          let has_others : list_all (λ z. int_eq z y || n z) forced.clause ≡ true =
          all_members (λ z. int_eq z y || n z) forced.clause (λ z m.
          elim (or_cases (int_eq z y) _ (at_member (λ z. int_eq z y || literals_of front z) forced.clause z others m)) [
            | inl same ↦ or_left _ _ same
            | inr earlier ↦ or_right (int_eq z y) _
                (has z (still forced.clause forced.stands z m earlier) (has_all forced.clause forced.stands z m))
          ]) in
          let free : literals_of assumed (neg_ℤ own) ≡ false =
          start.conflict.free.free own (at-front trail.literals place first.count before within) in
          let back : neg_ℤ own ≡ y = ap neg_ℤ forced.negates ∙ neg_ℤ-neg_ℤ y in
          let new_literal : n y ≡ false =
          false_from_ne_true _ (λ m.
          elim (or_cases (literals_of assumed y) (left' y) (bounded y m)) [
            | inl a ↦ both_ways (literals_of assumed y) (ap (literals_of assumed) (sym back) ∙ free) a
            | inr l ↦ both_ways (literals_of trail.literals (neg_ℤ own)) (apart.apart own (at-any trail.literals place within))
                (ap (literals_of trail.literals) back ∙ inside y l)
          ]) in
          let new_own : n own ≡ false =
          false_from_ne_true _ (λ m.
          elim (or_cases (literals_of assumed own) (left' own) (bounded own m)) [
            | inl a ↦ both_ways (literals_of given own) why.new (start.same.same own ∙ a)
            | inr l ↦ both_ways (left' own) gone l
          ]) in
          let m : FalseSet = with_literal (neg_ℤ y) n in
          ap (is_exact live n) (ap reverse is ∙ reverse-append found ((reason + 1) ∷ []))
          ∙ hint-forces live n (reason + 1) (reverse found) forced.clause
          (live-at live places are reason forced.clause forced.stands fails) y has_others
          (forced-held (literals_of front) forced.clause y forced.forces) new_literal (ap n is_own ∙ new_own)
          (ap (is_held live (reverse found)) is_own ∙ so_far.held live assumed are start own need)
          (direct-reason live places are trail start.units place y (record { within = within; own = forced.negates }) reason why.reason
          forced.clause forced.stands)
          (so_far.exact live assumed m are start
          (all_members m assumed (λ z a. or_right (int_eq z (neg_ℤ y)) _ (at_member n assumed z all a)))
          (λ z there need.
          elim (split z there) [
            | inl same ↦ or_left _ _ (eq-int_eq z (neg_ℤ y) (same ∙ forced.negates))
            | inr later ↦ or_right (int_eq z (neg_ℤ y)) _ (has z later (kept z need))
          ])
          (λ z either.
          elim (or_cases (int_eq z (neg_ℤ y)) (n z) either) [
            | inl same ↦ or_right (literals_of assumed z) _ (ap left (int_eq-true z (neg_ℤ y) same ∙ is_own) ∙ here)
            | inr old ↦ still-bounded assumed n bounded z old
          ]));
    }

-- where what is left isn't needed, or is assumed
pub refute-end : (places : Places) (trail : Trail) (given : List ℤ) (first : FirstConflict) (left needed : FalseSet) (found : List ℕ)
    → ((x : ℤ) → left x ≡ true → needed x ≡ true → literals_of given x ≡ true)
    → RefuteSoFar places trail given first left needed found → Refute places trail given first (reverse found)
refute-end places trail given first left needed found none so_far = record {
  ids = all-turned is_id found so_far.ids;
  exact = λ live assumed n are start same.
      so_far.exact live assumed n are start (all_members n assumed (λ x m. same x ∙ m))
      (λ x there need. same x ∙ sym (start.same.same x) ∙ none x there need) (λ x m. or_left _ _ (sym (same x) ∙ m));
}

-- The literals before a place are left, and before the next one.
module _ (literals : List ℤ) (place : ℕ) (within : place < length literals) where
  parts-of : (z : ℤ) → literals_of (take (place + 1) literals) z
      ≡ (literals_of (take place literals) z || (int_eq z (get_or literals place (pos 0)) || false))
  parts-of z =
      ap (λ (l : List ℤ). literals_of l z) (take_more literals place (pos 0) within)
      ∙ list_any-append (int_eq z) (take place literals) (get_or literals place (pos 0) ∷ [])

  pub front-split : (z : ℤ) → literals_of (take (place + 1) literals) z ≡ true
      → (z ≡ get_or literals place (pos 0)) ⊎ (literals_of (take place literals) z ≡ true)
  front-split z m =
      elim (or_cases (literals_of (take place literals) z) _ (sym (parts-of z) ∙ m)) [
        | inl earlier ↦ inr earlier
        | inr last ↦
            inl (int_eq-true z (get_or literals place (pos 0)) (or-last (int_eq z (get_or literals place (pos 0))) last))
      ]

marked-with : (old : List ℤ) (x y : ℤ) → literals_of (with_last x old) y ≡ (int_eq y x || literals_of old y)
marked-with old x y =
    elim (literals_of old x) as (λ b. literals_of old x ≡ b → literals_of (cond b old (old ++ x ∷ [])) y ≡
    (int_eq y x || literals_of old y)) [
      | true ↦ λ there. elim (int_eq y x) as (λ b. int_eq y x ≡ b → literals_of old y ≡ (b || literals_of old y)) [
        | true ↦ λ same. ap (literals_of old) (int_eq-true y x same) ∙ there
        | false ↦ λ other. refl
      ] refl
      | false ↦ λ new. literals_of-last old x y
    ] refl

-- Those of the first literals are left that weren't taken, and fewer once one is.
not-true : (b : Bool) → not b ≡ true → b ≡ false
not-true true h = cc
not-true false h = refl

pub untaken-all : (first : FirstConflict) (trail : Trail) (taken : List ℤ) → taken ≡ []
    → (x : ℤ) → literals_of (take first.count trail.literals) x ≡ true → untaken first trail taken x ≡ true
untaken-all first trail taken none x m = and_from _ _ m (ap (λ (l : List ℤ). not (literals_of l x)) none)

pub untaken-false : (first : FirstConflict) (trail : Trail) (taken : List ℤ) (x : ℤ) → untaken first trail taken x ≡ true
    → literals_of trail.literals x ≡ true
untaken-false first trail taken x is =
    front-false trail.literals first.count x (and_parts (literals_of (take first.count trail.literals) x) _ is).0

module _ (first : FirstConflict) (trail : Trail) (place : ℕ) (before : place < first.count) (within : place < length trail.literals) (x : ℤ)
    (at : x ≡ get_or trail.literals place (pos 0)) (taken taken' : List ℤ) (marks : taken' ≡ with_last x taken) where
  sets : (z : ℤ) → literals_of taken' z ≡ (int_eq z x || literals_of taken z)
  sets z = ap (λ (l : List ℤ). literals_of l z) marks ∙ marked-with taken x z

  pub untaken-split : (z : ℤ) → untaken first trail taken z ≡ true
      → (z ≡ get_or trail.literals place (pos 0)) ⊎ (untaken first trail taken' z ≡ true)
  untaken-split z is =
      let parts = and_parts (literals_of (take first.count trail.literals) z) (not (literals_of taken z)) is in
      elim (int_eq z x) as (λ b. int_eq z x ≡ b → (z ≡ get_or trail.literals place (pos 0)) ⊎ (untaken first trail taken' z ≡ true)) [
        | true ↦ λ same. inl (int_eq-true z x same ∙ at)
        | false ↦ λ other. inr (and_from _ _ parts.0 (ap not (sets z ∙ ap (λ b. b || literals_of taken z) other) ∙ parts.1))
      ] refl

  pub untaken-more : (z : ℤ) → untaken first trail taken' z ≡ true → untaken first trail taken z ≡ true
  untaken-more z is =
      let parts = and_parts (literals_of (take first.count trail.literals) z) (not (literals_of taken' z)) is in
      and_from _ _ parts.0
      (ap not (false_from_ne_true _ (λ there.
      both_ways (literals_of taken' z) (not-true (literals_of taken' z) parts.1) (sets z ∙ or_right (int_eq z x) _ there))))

  pub untaken-here : literals_of taken x ≡ false → untaken first trail taken (get_or trail.literals place (pos 0)) ≡ true
  untaken-here new =
      and_from _ _ (at-front trail.literals place first.count before within)
      (ap (λ z. not (literals_of taken z)) (sym at) ∙ ap not new)

  pub untaken-gone : untaken first trail taken' (get_or trail.literals place (pos 0)) ≡ false
  untaken-gone =
      false_from_ne_true _ (λ is.
      both_ways (literals_of taken' x)
      (ap (literals_of taken') at
      ∙ not-true (literals_of taken' (get_or trail.literals place (pos 0)))
      (and_parts (literals_of (take first.count trail.literals) (get_or trail.literals place (pos 0))) _ is).1)
      (sets x ∙ or_left _ _ (eq-int_eq x x refl)))

  pub untaken-still : (z : ℤ) → literals_of taken' z ≡ false → literals_of (take place trail.literals) z ≡ true
      → untaken first trail taken' z ≡ true
  untaken-still z new m =
      and_from _ _ (front-front trail.literals place first.count (omega (arith, before)) z m) (ap not new)

pub none-untaken : (first : FirstConflict) (trail : Trail) (given taken : List ℤ) (x : ℤ)
    → (literals_of taken x || literals_of given x) ≡ true → untaken first trail taken x ≡ true → literals_of given x ≡ true
none-untaken first trail given taken x either is =
    elim (or_cases (literals_of taken x) (literals_of given x) either) [
      | inl there ↦ absurd (both_ways (literals_of taken x)
          (not-true (literals_of taken x) (and_parts (literals_of (take first.count trail.literals) x) _ is).1) there)
      | inr own ↦ own
    ]

-- what holds of the literals up to a place, and of the one there
pub each-literal : (P : ℤ → Type 0) (clause : List ℤ) (i : ℕ) (x : ℤ) → i < length clause → x ≡ get_or clause i x
    → ((y : ℤ) → literals_of (take i clause) y ≡ true → P y) → P x → (y : ℤ) → literals_of (take (i + 1) clause) y ≡ true → P y
each-literal P clause i x within at so_far here y m =
    let parts : (literals_of (take i clause) y || (int_eq y (get_or clause i x) || false)) ≡ true =
    sym (list_any-append (int_eq y) (take i clause) (get_or clause i x ∷ []))
    ∙ ap (λ (l : List ℤ). literals_of l y) (sym (take_more clause i x within)) ∙ m in
    elim (or_cases (literals_of (take i clause) y) _ parts) [
      | inl earlier ↦ so_far y earlier
      | inr last ↦
          subst P (at ∙ sym (int_eq-true y (get_or clause i x) (or-last (int_eq y (get_or clause i x)) last))) here
    ]

-- The conflict by how propagation came to it.
pub conflict-falsified : (places : Places) (literals assumed : List ℤ) (number : ℕ) → IsApart literals → IsFalsified places literals number
    → IsConflict places literals assumed number
conflict-falsified places literals assumed number apart f = record {
  clause = f.clause;
  stands = f.stands;
  plain = false_from_ne_true _ (λ h.
      let some = some-both f.clause f.clause h in
      both_ways (literals_of literals (neg_ℤ some.0)) (apart.apart some.0
      (at_member (literals_of literals) f.clause some.0 f.falsified some.1))
      (at_member (literals_of literals) f.clause (neg_ℤ some.0) f.falsified some.2));
  falsified = all_members (λ x. literals_of literals x || literals_of assumed x) f.clause (λ x m.
      or_left _ _ (at_member (literals_of literals) f.clause x f.falsified m));
}

pub first-falsified : (places : Places) (literals assumed : List ℤ) (number count : ℕ) → count ≡ length literals → IsApart literals
    → IsFalsified places literals number → AreFree literals assumed
    → IsFirstConflict places literals assumed (record { number = number; count = count })
first-falsified places literals assumed number count is apart falsified free =
    let whole : take count literals ≡ literals = take_all count literals (omega (arith, is)) in
    record {
      conflict = subst (λ (l : List ℤ). IsConflict places l assumed number) (sym whole)
          (conflict-falsified places literals assumed number apart falsified);
      free = subst (λ (l : List ℤ). AreFree l assumed) (sym whole) free;
    }

-- The reason of a literal: a clause, or it is assumed.
pub reason-assumed : (places : Places) (assumed : List ℤ) (trail : Trail) (k : ℕ) → k < length trail.literals
    → AreReasons places assumed trail → get_or trail.reasons k None ≡ None → literals_of assumed (get_or trail.literals k (pos 0)) ≡ true
reason-assumed places assumed trail k within are none =
    ap (is_reason places assumed (take k trail.literals) (get_or trail.literals k (pos 0))) (sym none) ∙ are.reason k within

pub reason-some : (trail : Trail) (given : List ℤ) (place : ℕ) (o : Option ℕ) → o ≡ get_or trail.reasons place None
    → literals_of given (get_or trail.literals place (pos 0)) ≡ false → IfSome o (IsForcedAt trail given place)
reason-some trail given place None is new = tt
reason-some trail given place (Some number) is new = record { new = new; reason = sym is }

module _ (places : Places) (trail : Trail) (given assumed : List ℤ) (same : HasSame given assumed) (are : AreReasons places assumed trail)
  where
    pub first-clash : IsApart trail.literals → AreOnce trail.literals → (first : FirstConflict) → IsFirstClash trail given first
        → IsFirstConflict places trail.literals assumed first
    first-clash apart once first clash =
        let k = first.count in
        let front = take k trail.literals in
        let x = get_or trail.literals k (pos 0) in
        let forced : IsForced places front x first.number =
        forced-at places front x first.number (ap (is_reason places assumed front x) (sym clash.reason) ∙ are.reason k clash.within) in
        let y = forced.literal in
        let is : y ≡ neg_ℤ x = sym (neg_ℤ-neg_ℤ y) ∙ ap neg_ℤ (sym forced.negates) in
        let others = forced-others (literals_of front) forced.clause y forced.forces in
        record {
          conflict = record {
            clause = forced.clause;
            stands = forced.stands;
            plain = plain-reason trail.literals apart once k clash.within forced.clause y forced.negates forced.forces;
            falsified = all_members (λ z. literals_of front z || literals_of assumed z) forced.clause (λ z m.
                elim (or_cases (int_eq z y) _ (at_member (λ z. int_eq z y || literals_of front z) forced.clause z others m)) [
                  | inl own ↦
                      or_right (literals_of front z) _
                      (ap (literals_of assumed) (int_eq-true z y own ∙ is) ∙ sym (same.same (neg_ℤ x)) ∙ clash.negation)
                  | inr there ↦ or_left _ _ there
                ]);
          };
          free = record { free = λ z m. sym (same.same (neg_ℤ z)) ∙ clash.free.free z m };
        }

    -- where there is none, the literals that are assumed clash
    pub clash-assumed : (literal : ℤ) → ClashesAt trail assumed literal → NoneClashes trail given ⊎ ClashesAssumed trail given
        → is_tautology assumed ≡ true
    clash-assumed literal clash (inl free) =
        absurd (both_ways (literals_of given (neg_ℤ (neg_ℤ literal))) (free.none.free (neg_ℤ literal) clash.negation)
        (same.same (neg_ℤ (neg_ℤ literal)) ∙ ap (literals_of assumed) (neg_ℤ-neg_ℤ literal) ∙ clash.own))
    clash-assumed literal clash (inr both) =
        let x = get_or trail.literals both.place (pos 0) in
        some-pair assumed assumed x (reason-assumed places assumed trail both.place both.within are both.reason)
        (sym (same.same (neg_ℤ x)) ∙ both.negation)

-- of marks
pub marks-push : {old new : Flags} {literals : List ℤ} → AreMarks old literals → (literal : ℤ)
    → ((x : ℤ) → is_set new x ≡ (int_eq x literal || is_set old x)) → AreMarks new (literals ++ literal ∷ [])
marks-push {literals = literals} m literal sets = record {
  flagged = λ x. sets x ∙ ap (λ b. int_eq x literal || b) (m.flagged x) ∙ sym (literals_of-last literals literal x);
}

pub apart-plain : (clause : List ℤ) → IsApart clause → is_tautology clause ≡ false
apart-plain clause apart =
    false_from_ne_true _ (λ h.
    let some = some-both clause clause h in
    both_ways (literals_of clause (neg_ℤ some.0)) (apart.apart some.0 some.1) some.2)

pub marked-kept : (old new : List ℤ) (x : ℤ) → new ≡ with_last x old → (y : ℤ) → literals_of old y ≡ true → literals_of new y ≡ true
marked-kept old new x is y m = ap (λ (l : List ℤ). literals_of l y) is ∙ marked-with old x y ∙ or_right (int_eq y x) _ m

pub marked-none : (b : Bool) → b ≡ (b || false)
marked-none true = refl
marked-none false = refl

or-later : (a b c : Bool) → (a || (b || c)) ≡ (b || (a || c))
or-later true true c = refl
or-later true false c = refl
or-later false b c = refl

pub marked-more : (start old new clause : List ℤ) (i : ℕ) (x : ℤ) → new ≡ with_last x old → i < length clause → x ≡ get_or clause i x
    → (y : ℤ) → literals_of old y ≡ (literals_of start y || literals_of (take i clause) y)
    → literals_of new y ≡ (literals_of start y || literals_of (take (i + 1) clause) y)
marked-more start old new clause i x is within at y so_far =
    let more : take (i + 1) clause ≡ take i clause ++ x ∷ [] =
    take_more clause i x within ∙ ap (λ z. take i clause ++ z ∷ []) (sym at) in
    ap (λ (l : List ℤ). literals_of l y) is ∙ marked-with old x y ∙ ap (λ b. int_eq y x || b) so_far
    ∙ or-later (int_eq y x) (literals_of start y) (literals_of (take i clause) y)
    ∙ ap (λ b. literals_of start y || b) (sym (literals_of-last (take i clause) x y))
    ∙ ap (λ (l : List ℤ). literals_of start y || literals_of l y) (sym more)

-- the literals of a clause, and those of another that pass a test
module _ (p : FalseSet) (clause other : List ℤ) (i : ℕ) (x : ℤ) (within : i < length other) (at : x ≡ get_or other i x) where
  pub filter-next : filter p (take (i + 1) other) ≡ filter p (take i other) ++ cond (p x) (x ∷ []) []
  filter-next = filter_more p other i x within ∙ ap (λ y. filter p (take i other) ++ cond (p y) (y ∷ []) []) (sym at)

  pub same-skip : p x ≡ false → (old : List ℤ) → HasSame old (clause ++ filter p (take i other))
      → HasSame old (clause ++ filter p (take (i + 1) other))
  same-skip fails old so_far =
      subst (λ (l : List ℤ). HasSame old (clause ++ l))
      (sym (filter-next ∙ ap (λ b. filter p (take i other) ++ cond b (x ∷ []) []) fails ∙ append-nil (filter p (take i other)))) so_far

  pub same-more : p x ≡ true → (old new : List ℤ) → new ≡ with_last x old → HasSame old (clause ++ filter p (take i other))
      → HasSame new (clause ++ filter p (take (i + 1) other))
  same-more passes old new is so_far = record {
    same = λ y.
        let front = clause ++ filter p (take i other) in
        let more : front ++ x ∷ [] ≡ clause ++ filter p (take (i + 1) other) =
        append_assoc clause (filter p (take i other)) (x ∷ [])
        ∙ ap (λ (l : List ℤ). clause ++ l) (sym (filter-next ∙ ap (λ b. filter p (take i other) ++ cond b (x ∷ []) []) passes)) in
        ap (λ (l : List ℤ). literals_of l y) is ∙ marked-with old x y ∙ ap (λ b. int_eq y x || b) (so_far.same y)
        ∙ sym (literals_of-last front x y) ∙ ap (λ (l : List ℤ). literals_of l y) more;
  }

pub marked-next : (old new clause : List ℤ) (i : ℕ) (x : ℤ) → new ≡ with_last x old → take (i + 1) clause ≡ take i clause ++ x ∷ []
    → ((y : ℤ) → literals_of old y ≡ literals_of (take i clause) y) → (y : ℤ) → literals_of new y ≡ literals_of (take (i + 1) clause) y
marked-next old new clause i x is more so_far y =
    ap (λ (l : List ℤ). literals_of l y) is ∙ marked-with old x y ∙ ap (λ b. int_eq y x || b) (so_far y)
    ∙ sym (literals_of-last (take i clause) x y) ∙ ap (λ (l : List ℤ). literals_of l y) (sym more)
