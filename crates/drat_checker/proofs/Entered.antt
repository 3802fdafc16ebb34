-- The clause of the next number is watched beside the others.
use Rattle.std.proofs.Common.{◌≡◌, ℕ, zero, suc, ◌<◌, true, false, ℤ, List, [], ◌∷◌, ◌++◌, length, Option, None, Some, is_some, int_eq}
use Rattle.std.proofs.Common.{◌⊎◌, inl, inr, refl, sym, ap, ◌∙◌, subst, arith}
use Rattle.std.proofs.Math.ListN.{get_or-append}
use Rattle.std.proofs.Math.Seq.{get_or-append_seam}
use Rattle.std.proofs.lemmas.Bool.{or_cases}
use Rattle.lrat_rules.specs.Chain.{literals_of}
use Rattle.drat_checker.proofs.FalseSets.{int_eq-true}
use Rattle.drat_checker.specs.declared.pair.Pair.{Pair}
use Rattle.drat_checker.specs.Places.{Place, Places, place_at}
use Rattle.drat_checker.specs.Numbers.{has_number}
use Rattle.drat_checker.specs.Database.{is_short}
use Rattle.drat_checker.specs.declared.watches.Watches.{Watches}
use Rattle.drat_checker.specs.Watches.{Pairs, Watchers, AreWatched, IsPair, IsWatched, is_in, pair_at}

pub place-last : (ps : Places) (place : Place) (n : ℕ) (d : List ℤ) → place_at (ps ++ place ∷ []) n ≡ Some d
    → ((n < length ps) × (place_at ps n ≡ Some d)) ⊎ ((n ≡ length ps) × (place ≡ Some d))
place-last [] place zero d at = inr (refl, at)
place-last [] place (suc n) d at = cc
place-last (p ∷ ps) place zero d at = inl (omega arith, at)
place-last (p ∷ ps) place (suc n) d at =
    elim (place-last ps place n d at) [
      | inl old ↦ let lt : n < length ps = old.0 in inl (omega arith, old.1)
      | inr new ↦ inr (ap suc new.0, new.1)
    ]

nothing-at : (n : ℕ) (clause : List ℤ) → place_at [] n ≡ Some clause → ⊥
nothing-at n clause at = cc

-- no clause is watched where there is none
pub watched-none : (kept : Watches) → kept.pairs.items ≡ [] → AreWatched kept []
watched-none kept none = record {
  many = ap length none;
  watched = record {
    are = record {
      own = λ n clause pair at is. absurd (nothing-at n clause at);
      there = λ n clause at long. absurd
          (nothing-at n clause at);
    };
    listed = λ n clause x at watched. absurd (nothing-at n clause at);
  };
}

module _ (pairs : Pairs) (all all' : Watchers) (places : Places) (place : Place) (pair : Option Pair) (many : length pairs ≡ length places)
    (own : (clause : List ℤ) (p : Pair) → place ≡ Some clause → pair ≡ Some p → IsPair p clause)
    (there : (clause : List ℤ) → place ≡ Some clause → is_short clause ≡ false → is_some pair ≡ true)
    (keeps : (n : ℕ) (x : ℤ) → has_number n (all x) ≡ true → has_number n (all' x) ≡ true)
    (entered : (x : ℤ) → is_in pair x ≡ true → has_number (length pairs) (all' x) ≡ true) where
  pub pair-old : (n : ℕ) → n < length places → pair_at (pairs ++ pair ∷ []) n ≡ pair_at pairs n
  pair-old n within = get_or-append pairs (pair ∷ []) None n (omega (arith, many))

  pub pair-new : (n : ℕ) → n ≡ length places → pair_at (pairs ++ pair ∷ []) n ≡ pair
  pair-new n is = ap (pair_at (pairs ++ pair ∷ [])) (is ∙ sym many) ∙ get_or-append_seam pairs pair [] None

  pub entered-watched : IsWatched pairs all places → IsWatched (pairs ++ pair ∷ []) all' (places ++ place ∷ [])
  entered-watched w = record {
    are = record {
      own = λ n clause p at is. elim (place-last places place n clause at) [
        | inl old ↦ w.are.own n clause p old.1 (sym (pair-old n old.0) ∙ is)
        | inr new ↦ own clause p new.1 (sym (pair-new n new.0) ∙ is)
      ];
      there = λ n clause at long. elim (place-last places place n clause at) [
        | inl old ↦ ap is_some (pair-old n old.0) ∙ w.are.there n clause old.1 long
        | inr new ↦ ap is_some (pair-new n new.0) ∙ there clause new.1 long
      ];
    };
    listed = λ n clause x at watched. elim (place-last places place n clause at) [
      | inl old ↦ keeps n x (w.listed n clause x old.1 (ap (λ p. is_in p x) (sym (pair-old n old.0)) ∙ watched))
      | inr new ↦ subst (λ (m : ℕ). has_number m (all' x) ≡ true) (many ∙ sym new.0)
          (entered x (ap (λ p. is_in p x) (sym (pair-new n new.0)) ∙ watched))
    ];
  }

-- a literal of a pair both of which aren't false
pub unfalse-in : (pair : Option Pair) (literals : List ℤ) (x : ℤ)
    → ((p : Pair) → pair ≡ Some p → (literals_of literals p.first ≡ false) × (literals_of literals p.second ≡ false))
    → is_in pair x ≡ true → literals_of literals x ≡ false
unfalse-in None literals x both own = cc
unfalse-in (Some p) literals x both own =
    let parts = both p refl in
    elim (or_cases (int_eq x p.first) _ own) [
      | inl one ↦ ap (literals_of literals) (int_eq-true x p.first one) ∙ parts.0
      | inr two ↦ ap (literals_of literals) (int_eq-true x p.second two) ∙ parts.1
    ]
