-- The places of a set of levels, and the levels behind them.
use Rattle.std.proofs.Common.{◌≡◌, ◌∙◌, ◌+◌, ◌<◌, ◌≤◌, ℕ, List, ◌∷◌, sym, arith, drop, get_or, length, subst}
use Rattle.std.proofs.lemmas.List.{drop_more, length-drop}
use Rattle.quantify.specs.SetQuantification.{from_level}
use Rattle.quantify.specs.SomeValues.{AreRising}
use Rattle.quantify.proofs.SomeValues.{first_later, rising_drop}

module _ (bound at own : ℕ) (set : List ℕ) (rising : AreRising 0 bound set) (within : at < length set) where
  pub place_some : 0 < length (drop at set)
  place_some = omega (arith, length-drop at set, within)

  rising_at : AreRising 0 bound (get_or set at 0 ∷ drop (at + 1) set)
  rising_at = subst (AreRising 0 bound) (drop_more set at 0 within) (rising_drop 0 bound set at rising)

  -- a level behind one of the set is within the bound
  pub place_within : own ≤ get_or set at 0 → own < bound
  place_within later = omega (arith, rising_at.1.0, later)

  -- the level of the set itself: those of the next places stand behind it
  pub place_own : get_or set at 0 ≡ own → (drop at set ≡ own ∷ drop (at + 1) set) × AreRising (own + 1) bound (drop (at + 1) set)
  place_own is = (
    drop_more set at 0 within ∙ (λ i. is i ∷ drop (at + 1) set),
    subst (λ (n : ℕ). AreRising (n + 1) bound (drop (at + 1) set)) is rising_at.1.1,
  )

  -- a level before: those from this place on stand behind it
  pub place_behind : own < get_or set at 0 → AreRising (own + 1) bound (drop at set)
  place_behind later = subst (AreRising (own + 1) bound) (sym (drop_more set at 0 within)) (omega (arith, later), rising_at.1)

  -- the first place whose level doesn't stand before
  pub place_first : (place : ℕ) → drop at set ≡ from_level own (drop place set) → own ≤ get_or set at 0
  place_first place is = first_later own (drop place set) (get_or set at 0) (drop (at + 1) set) (sym is ∙ drop_more set at 0 within)
