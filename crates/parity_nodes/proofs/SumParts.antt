-- Both sums of later levels are parts of a sum: those with the levels before them fixed so that the rest has to have this sum.
use Rattle.std.proofs.Common.{◌≡◌, ◌∙◌, ◌<◌, ◌≤◌, ◌+◌, ◌-◌, ℕ, zero, suc, Bool, true, false, List, [], ◌∷◌, length, drop, refl, sym, ap, subst, arith}
use Rattle.std.specs.Prelude.{◌==◌, nat_lt, slice_index_or}
use Rattle.std.specs.Bool.{beq}
use Rattle.std.proofs.lemmas.Bool.{lt-ltb, le-ltb, cond-true, cond-false}
use Rattle.std.proofs.lemmas.List.{drop_more}
use Rattle.node_table.specs.Laws.{Subfunctions}
use Rattle.node_table.specs.Value.{IsSubfunction, Levels, fixed_to}
use Rattle.parity_nodes.specs.Sums.{AreRising, IsBeforeLevels, exclusive_or, odd_over, sum_is}

-- only the levels of the set count
agree_over : (first bound : ℕ) (set : List ℕ) (a b : Levels) → AreRising first bound set → ((l : ℕ) → first ≤ l → a l ≡ b l)
    → odd_over set a ≡ odd_over set b
agree_over first bound [] a b rising agree = refl
agree_over first bound (level ∷ more) a b rising agree =
    let here = agree level rising.0 in
    let rest = agree_over (level + 1) bound more a b rising.1.1 (λ l above. agree l (omega (arith, above, rising.0))) in
    (λ i. exclusive_or (here i) (rest i))

-- the bit that the first level has to have
left_over : (bit b o : Bool) → beq o b ≡ beq (exclusive_or (exclusive_or bit b) o) bit
left_over false false false = refl
left_over false false true = refl
left_over false true false = refl
left_over false true true = refl
left_over true false false = refl
left_over true false true = refl
left_over true true false = refl
left_over true true true = refl

first_fixed : (first bound level : ℕ) (more : List ℕ) (bit b : Bool) → AreRising first bound (level ∷ more)
    → IsSubfunction (sum_is bit (level ∷ more)) (sum_is b more)
first_fixed first bound level more bit b rising = record {
  level = level + 1;
  fixed = λ l. exclusive_or bit b;
  same = λ a.
      let now : Levels = fixed_to (level + 1) (λ l. exclusive_or bit b) a in
      let here : now level ≡ exclusive_or bit b = cond-true (nat_lt level (level + 1)) (exclusive_or bit b) (a level)
      (lt-ltb level (level + 1) (omega arith)) in
      let rest : odd_over more now ≡ odd_over more a = agree_over (level + 1) bound more now a rising.1.1
      (λ l above. cond-false (nat_lt l (level + 1)) (exclusive_or bit b) (a l) (le-ltb l (level + 1) above)) in
      left_over bit b (odd_over more a) ∙ sym (λ i. beq (exclusive_or (here i) (rest i)) bit);
}

pub later_sum : Subfunctions → (first bound : ℕ) (set : List ℕ) (bit b : Bool) (i : ℕ) → AreRising first bound set → 0 < i → i ≤ length set
    → IsSubfunction (sum_is bit set) (sum_is b (drop i set))
later_sum parts first bound set bit b zero rising some within = absurd (omega (arith, some))
later_sum parts first bound [] bit b (suc i) rising some within = absurd (omega (arith, within))
later_sum parts first bound (level ∷ more) bit b (suc zero) rising some within = first_fixed first bound level more bit b rising
later_sum parts first bound (level ∷ more) bit b (suc (suc i)) rising some within =
    parts.further (sum_is bit (level ∷ more)) (sum_is b more) (sum_is b (drop (suc i) more))
    (first_fixed first bound level more bit b rising)
    (later_sum parts (level + 1) bound more b b (suc i) rising.1.1 (omega arith) (omega (arith, within)))

-- a level of a rising set is below the bound, and before those behind it
pub level_at : (first bound : ℕ) (set : List ℕ) (i d : ℕ) → AreRising first bound set → i < length set → slice_index_or set i d < bound
level_at first bound [] i d rising small = absurd (omega (arith, small))
level_at first bound (level ∷ more) zero d rising small = rising.1.0
level_at first bound (level ∷ more) (suc i) d rising small = level_at (level + 1) bound more i d rising.1.1 (omega (arith, small))

before_more : (level bound : ℕ) (more : List ℕ) → AreRising (level + 1) bound more → IsBeforeLevels level more
before_more level bound [] rising = tt
before_more level bound (next ∷ more) rising = omega (arith, rising.0)

pub before_rest : (first bound : ℕ) (set : List ℕ) (i d : ℕ) → AreRising first bound set → i < length set
    → IsBeforeLevels (slice_index_or set i d) (drop (suc i) set)
before_rest first bound [] i d rising small = absurd (omega (arith, small))
before_rest first bound (level ∷ more) zero d rising small = before_more level bound more rising.1.1
before_rest first bound (level ∷ more) (suc i) d rising small = before_rest (level + 1) bound more i d rising.1.1 (omega (arith, small))

module _ (bound : ℕ) (set : List ℕ) (i : ℕ) (rising : AreRising 0 bound set) (some : 1 < i) (within : i ≤ length set) where
  -- the level before the rest
  pub next_before : IsBeforeLevels (slice_index_or set (i - 1) 0) (drop i set)
  next_before =
      let one : suc (i - 1) ≡ i = omega (arith, some) in
      subst (λ n. IsBeforeLevels (slice_index_or set (i - 1) 0) (drop n set)) one
      (before_rest 0 bound set (i - 1) 0 rising (omega (arith, some, within)))

  pub next_level : slice_index_or set (i - 1) 0 < bound
  next_level = level_at 0 bound set (i - 1) 0 rising (omega (arith, some, within))

  pub next_rest : drop (i - 1) set ≡ slice_index_or set (i - 1) 0 ∷ drop i set
  next_rest =
      let one : i - 1 + 1 ≡ i = omega (arith, some) in
      drop_more set (i - 1) 0 (omega (arith, some, within)) ∙ ap (λ n. slice_index_or set (i - 1) 0 ∷ drop n set) one

  pub next_part : Subfunctions → (bit b : Bool) → IsSubfunction (sum_is bit set) (sum_is b (slice_index_or set (i - 1) 0 ∷ drop i set))
  next_part parts bit b = subst (λ (l : List ℕ). IsSubfunction (sum_is bit set) (sum_is b l)) next_rest
      (later_sum parts 0 bound set bit b (i - 1) rising (omega (arith, some)) (omega (arith, some, within)))

-- the first level, and the rest
module _ (bound : ℕ) (set : List ℕ) (rising : AreRising 0 bound set) (some : 0 < length set) where
  pub head_rest : set ≡ slice_index_or set 0 0 ∷ drop 1 set
  head_rest = drop_more set 0 0 some

  pub head_before : IsBeforeLevels (slice_index_or set 0 0) (drop 1 set)
  head_before = before_rest 0 bound set 0 0 rising some

  pub head_level : slice_index_or set 0 0 < bound
  head_level = level_at 0 bound set 0 0 rising some

pub some_of : (set : List ℕ) → (length set == 0) ≡ false → 0 < length set
some_of [] none = absurd (let e : true ≡ false = none in cc)
some_of (level ∷ more) some = omega arith
