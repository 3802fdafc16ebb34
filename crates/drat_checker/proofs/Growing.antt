-- The roots where a clause came behind the others.
use Rattle.std.proofs.Common.{◌≡◌, ◌⊎◌, ℕ, true, ℤ, List, [], ◌∷◌, ◌++◌, length, Option, None, Some, inl, inr, refl, sym, ap, ◌∙◌, subst}
use Rattle.std.proofs.Math.Seq.{get_or-append_seam}
use Rattle.std.proofs.lemmas.Bool.{both_ways, or_left, or_right}
use Rattle.std.proofs.lemmas.List.Folds.{list_any-append}
use Rattle.lrat_rules.specs.declared.outcome.Effect.TheVariants.{NotUnit}
use Rattle.lrat_rules.specs.Chain.{literals_of, effect}
use Rattle.drat_rules.specs.Clauses.{same_list, is_among}
use Rattle.drat_checker.specs.declared.watches.Watches.{Watches}
use Rattle.drat_checker.specs.Places.{Places, place_at, standing}
use Rattle.drat_checker.specs.Propagation.{Derives, Extends}
use Rattle.drat_checker.specs.Database.{is_short}
use Rattle.drat_checker.specs.Watches.{AreTrue, IsGuarded, is_true, watches}
use Rattle.drat_checker.specs.Trail.{AreOnce, Trail}
use Rattle.drat_checker.specs.Reasons.{AreByUnits, AreReasons}
use Rattle.drat_checker.specs.Roots.{IsGrowing}
use Rattle.drat_checker.proofs.Derived.{derives-more}
use Rattle.drat_checker.proofs.Guarded.{short-not-unit}
use Rattle.drat_checker.proofs.Reasoned.{reasons-more}
use Rattle.drat_checker.proofs.Units.{units-extended, units-more}
use Rattle.drat_checker.proofs.Standing.{eq-same_list, place-push, standing-push}
use Rattle.drat_checker.proofs.Visited.{true-more}

pub last-stands : (before : Places) (number : ℕ) (clause : List ℤ) → number ≡ length before
    → place_at (before ++ Some clause ∷ []) number ≡ Some clause
last-stands before number clause last =
    ap (place_at (before ++ Some clause ∷ [])) last ∙ get_or-append_seam before (Some clause) [] None

module _ (places : Places) (number : ℕ) (clause : List ℤ) (kept : Watches) (trail : Trail) (g : IsGrowing places number clause kept trail)
  where
    stand : standing places ≡ standing g.before ++ clause ∷ []
    stand = ap standing g.is ∙ standing-push g.before clause

    pub growing-among : is_among (standing places) clause ≡ true
    growing-among =
        ap (λ (cs : List (List ℤ)). is_among cs clause) stand
        ∙ list_any-append (same_list clause) (standing g.before) (clause ∷ [])
        ∙ or_right (is_among (standing g.before) clause) _ (or_left _ _ (eq-same_list clause clause refl))

    pub growing-derived : Derives (standing places) [] trail.literals
    growing-derived = subst (λ (cs : List (List ℤ)). Derives cs [] trail.literals) (sym stand) (derives-more clause g.derives)

    pub growing-reasons : AreReasons places [] trail
    growing-reasons = subst (λ (ps : Places). AreReasons ps [] trail) (sym g.is) (reasons-more g.before (Some clause) [] trail g.reasons)

    pub growing-stands : place_at places number ≡ Some clause
    growing-stands = ap (λ (ps : Places). place_at ps number) g.is ∙ last-stands g.before number clause g.last

    pub growing-units : AreByUnits g.before places trail
    growing-units = subst (λ (ps : Places). AreByUnits g.before ps trail) (sym g.is) (units-more g.before g.before (Some clause) trail g.units)

    -- where the clause is cited behind what it forces
    pub growing-cited : (taken cited : Trail) → AreOnce taken.literals → Extends trail.literals taken.literals → (rest : List (Option ℕ))
        → taken.reasons ≡ trail.reasons ++ rest → length taken.reasons ≡ length taken.literals
        → ((before : Places) → number ≡ length before → length taken.reasons ≡ length taken.literals
        → AreByUnits before (before ++ Some clause ∷ []) taken
        → AreByUnits (before ++ Some clause ∷ []) (before ++ Some clause ∷ []) cited)
        → AreByUnits places places cited
    growing-cited taken cited once e rest parts many cites =
        subst (λ (ps : Places). AreByUnits ps ps cited) (sym g.is)
        (cites g.before g.last many (subst (λ (ps : Places). AreByUnits g.before ps taken) g.is
        (units-extended g.before places trail taken once g.reasons.many e rest parts g.holds growing-units)))

    at-before : (n : ℕ) (c : List ℤ) → place_at places n ≡ Some c → (place_at g.before n ≡ Some c) ⊎ ((n ≡ length g.before) × (clause ≡ c))
    at-before n c at = place-push g.before clause n c (ap (λ (ps : Places). place_at ps n) (sym g.is) ∙ at)

    module _ (new : List ℤ) (e : Extends trail.literals new)
        (taken : (effect (literals_of trail.literals) clause ≡ NotUnit) ⊎ (is_true new clause ≡ true)) where
      pub growing-guarded : IsGuarded places kept.pairs.items trail.literals new
      growing-guarded = record {
        guarded = λ n c x at watched m. elim (at-before n c at) [
          | inl old ↦ true-more c e (g.guarded.guarded n c x old watched m)
          | inr last ↦ elim taken [
            | inl nothing ↦ absurd (both_ways (literals_of trail.literals x)
                (g.unfalse nothing x (subst (λ (k : ℕ). watches kept.pairs.items k x ≡ true) last.0 watched)) m)
            | inr holds ↦ subst (λ (d : List ℤ). is_true new d ≡ true) last.1 holds
          ]
        ];
      }

      pub growing-holds : AreTrue places new
      growing-holds = record {
        holds = λ n c at short. elim (at-before n c at) [
          | inl old ↦ true-more c e (g.holds.holds n c old short)
          | inr last ↦ elim taken [
            | inl nothing ↦ absurd (short-not-unit (literals_of trail.literals) clause (ap is_short last.1 ∙ short) nothing)
            | inr holds ↦ subst (λ (d : List ℤ). is_true new d ≡ true) last.1 holds
          ]
        ];
      }
