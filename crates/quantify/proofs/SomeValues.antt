-- The quantification by a set of levels, of any function: on what it doesn't depend, by the sides of an earlier level, and what
-- fixing earlier levels makes of it.
use Rattle.std.proofs.Common.{◌≡◌, ◌∙◌, ◌+◌, ◌<◌, ◌≤◌, ◌||◌, ◌==◌, ℕ, zero, suc, max, Bool, true, false, List, [], ◌∷◌, refl, sym, ap, arith}
use Rattle.std.proofs.Common.{drop, length, nat_lt, take, Contains, subst, inl, inr}
use Rattle.std.specs.Prelude.{if◌then◌else◌}
use Rattle.std.proofs.lemmas.Bool.{cases_lt, le-ltb, lt-ltb, ltb-false, ltb-true}
use Rattle.node_table.specs.Value.{Levels, IsSubfunction, fixed_to}
use Rattle.operations.specs.Results.{with_level}
use Rattle.quantify.specs.SetQuantification.{from_level}
use Rattle.quantify.specs.SomeValues.{AreRising, IsFromPlace, some_values}
use Rattle.quantify.proofs.Disjunctions.{choose_either}
use Rattle.quantify.proofs.Levels.{either_same, other_level, set_fixed}

-- the function doesn't depend on the levels before this one
abbrev pub IsFrom : ℕ → (Levels → Bool) → Type 0
IsFrom first f = (a b : Levels) → ((i : ℕ) → first ≤ i → a i ≡ b i) → f a ≡ f b

-- nor does what some value of a level makes of it, and of any levels
one_from : (level : ℕ) (g : Levels → Bool) (first : ℕ) → IsFrom first g
    → IsFrom first (λ a. g (with_level a level true) || g (with_level a level false))
one_from level g first is a b same = λ k. by true k || by false k
  where
    by : (value : Bool) → g (with_level a level value) ≡ g (with_level b level value)
    by value = is (with_level a level value) (with_level b level value)
        (λ i later. ap (λ (x : Bool). if i == level then value else x) (same i later))

pub some_from : (set : List ℕ) (f : Levels → Bool) (first : ℕ) → IsFrom first f → IsFrom first (some_values set f)
some_from [] f first is = is
some_from (level ∷ more) f first is = one_from level (some_values more f) first (some_from more f first is)

-- so a level before it may be left out,
pub some_skipped : (level : ℕ) (more : List ℕ) (f : Levels → Bool) (first : ℕ) → level < first → IsFrom first f → (a : Levels)
    → some_values (level ∷ more) f a ≡ some_values more f a
some_skipped level more f first before is a = (λ k. by true k || by false k) ∙ sym (either_same (some_values more f a))
  where
    by : (value : Bool) → some_values more f (with_level a level value) ≡ some_values more f a
    by value = some_from more f first is (with_level a level value) a
        (λ i later. other_level a level value i (λ same. absurd (omega (arith, same, later, before))))

-- and all that stand before it
pub some_later : (own : ℕ) (set : List ℕ) (f : Levels → Bool) → IsFrom own f → (a : Levels)
    → some_values set f a ≡ some_values (from_level own set) f a
some_later own [] f is a = refl
some_later own (level ∷ more) f is a =
    elim (nat_lt level own) as (λ b. nat_lt level own ≡ b
    → some_values (level ∷ more) f a ≡ some_values (if b then from_level own more else (level ∷ more)) f a) [
      | true ↦ λ before. some_skipped level more f own (ltb-true level own before) is a ∙ some_later own more f is a
      | false ↦ λ before. refl
    ] refl

-- functions that are the same are so once levels are quantified
pub some_same : (set : List ℕ) (f g : Levels → Bool) → ((a : Levels) → f a ≡ g a) → some_values set f ≡ some_values set g
some_same set f g same = λ k. some_values set (λ a. same a k)

-- levels that rise from one on do so from an earlier one, and without those before some place
pub rising_from : (first earlier bound : ℕ) (set : List ℕ) → earlier ≤ first → AreRising first bound set → AreRising earlier bound set
rising_from first earlier bound [] before rising = tt
rising_from first earlier bound (level ∷ more) before rising = (omega (arith, before, rising.0), rising.1)

pub rising_drop : (first bound : ℕ) (set : List ℕ) (place : ℕ) → AreRising first bound set → AreRising first bound (drop place set)
rising_drop first bound set zero rising = rising
rising_drop first bound [] (suc place) rising = tt
rising_drop first bound (level ∷ more) (suc place) rising =
    rising_drop first bound more place (rising_from (level + 1) first bound more (omega (arith, rising.0)) rising.1.1)

-- there are no more of them than levels
pub rising_few : (first bound : ℕ) (set : List ℕ) → first ≤ bound → AreRising first bound set → length set + first ≤ bound
rising_few first bound [] within rising = omega (arith, within)
rising_few first bound (level ∷ more) within rising =
    omega (arith, rising_few (level + 1) bound more (omega (arith, rising.1.0)) rising.1.1, rising.0)

-- by the sides of a level before the set
one_sides : (own level : ℕ) → own < level → (g high low : Levels → Bool) → ((a : Levels) → g a ≡ (if a own then high a else low a))
    → (a : Levels) → (g (with_level a level true) || g (with_level a level false))
    ≡ (if a own then high (with_level a level true) || high (with_level a level false)
    else low (with_level a level true) || low (with_level a level false))
one_sides own level before g high low sides a =
    (λ k. by true k || by false k)
    ∙ sym (choose_either (a own) (high (with_level a level true) || high (with_level a level false))
    (low (with_level a level true) || low (with_level a level false))
    (high (with_level a level true)) (low (with_level a level true)) (high (with_level a level false)) (low (with_level a level false))
    refl refl)
  where
    by : (value : Bool) → g (with_level a level value) ≡ (if a own then high (with_level a level value) else low (with_level a level value))
    by value =
        sides (with_level a level value)
        ∙ (λ k. if other_level a level value own (λ same. absurd (omega (arith, same, before))) k then high (with_level a level value) else
        low (with_level a level value))

pub some_sides : (own bound : ℕ) (set : List ℕ) → AreRising (own + 1) bound set → (f high low : Levels → Bool)
    → ((a : Levels) → f a ≡ (if a own then high a else low a)) → (a : Levels)
    → some_values set f a ≡ (if a own then some_values set high a else some_values set low a)
some_sides own bound [] rising f high low sides = sides
some_sides own bound (level ∷ more) rising f high low sides =
    one_sides own level (omega (arith, rising.0)) (some_values more f) (some_values more high) (some_values more low)
    (some_sides own bound more (rising_from (level + 1) (own + 1) bound more (omega (arith, rising.0)) rising.1.1) f high low sides)

-- levels before the set are fixed before it is quantified, or after
one_fixed : (count level : ℕ) → count ≤ level → (g h : Levels → Bool) (fixed : Levels) → ((a : Levels) → g a ≡ h (fixed_to count fixed a))
    → (a : Levels) → (g (with_level a level true) || g (with_level a level false))
    ≡ (h (with_level (fixed_to count fixed a) level true) || h (with_level (fixed_to count fixed a) level false))
one_fixed count level later g h fixed same a = λ k. by true k || by false k
  where
    by : (value : Bool) → g (with_level a level value) ≡ h (with_level (fixed_to count fixed a) level value)
    by value = same (with_level a level value) ∙ ap h (set_fixed a fixed count level value later)

pub some_fixed : (count bound : ℕ) (set : List ℕ) → AreRising count bound set → (f : Levels → Bool) (fixed a : Levels)
    → some_values set (λ b. f (fixed_to count fixed b)) a ≡ some_values set f (fixed_to count fixed a)
some_fixed count bound [] rising f fixed a = refl
some_fixed count bound (level ∷ more) rising f fixed a =
    one_fixed count level rising.0 (some_values more (λ b. f (fixed_to count fixed b))) (some_values more f) fixed
    (some_fixed count bound more (rising_from (level + 1) count bound more (omega (arith, rising.0)) rising.1.1) f fixed) a

-- the first of the levels that don't stand before one
pub first_later : (own : ℕ) (set : List ℕ) (level : ℕ) (more : List ℕ) → from_level own set ≡ level ∷ more → own ≤ level
first_later own [] level more is = cc
first_later own (x ∷ xs) level more is =
    elim (nat_lt x own) as (λ b. nat_lt x own ≡ b → (if b then from_level own xs else (x ∷ xs)) ≡ level ∷ more → own ≤ level) [
      | true ↦ λ before rest. first_later own xs level more rest
      | false ↦ λ before rest. let same : x ≡ level = cc in omega (arith, ltb-false x own before, same)
    ] refl is

-- a part from some place on, with so many first levels fixed at least
abbrev pub IsFromFixed : (Levels → Bool) → List ℕ → (Levels → Bool) → ℕ → Type 0
IsFromFixed f set part count = (is : IsFromPlace f set part) × (count ≤ is.is_part.level)

-- the parts of a function from the places of more levels, where the one before them is fixed
pub part_next : (level : ℕ) (more : List ℕ) (f part : Levels → Bool) (is : IsFromPlace f more part) → level < is.is_part.level
    → IsFromPlace f (level ∷ more) part
part_next level more f part is fixed = record {
  place = suc is.place;
  within = omega (arith, is.within);
  is_part = is.is_part;
  behind = front;
}
  where
    front : (other : ℕ) → Contains (level ∷ take is.place more) other → other < is.is_part.level
    front other (zero, small, at) = subst (λ (n : ℕ). n < is.is_part.level) at fixed
    front other (suc k, small, at) = is.behind other (k, omega (arith, small), at)

-- a level behind those that are fixed has its own value
behind_fixed : (count : ℕ) (fixed a : Levels) (i : ℕ) → count ≤ i → fixed_to count fixed a i ≡ a i
behind_fixed count fixed a i later = ap (λ (b : Bool). if b then fixed i else a i) (le-ltb i count later)

-- where the function doesn't depend on the levels before this one, these may be fixed too
pub part_raised : (own : ℕ) (set : List ℕ) (f part : Levels → Bool) → IsFrom own f → IsFromPlace f set part → IsFromFixed f set part own
part_raised own set f part from is = elim (cases_lt is.is_part.level own) [
  | inr fixed ↦ (is, fixed)
  | inl few ↦ (
    record {
      place = is.place;
      within = is.within;
      is_part = record {
        level = own;
        fixed = is.is_part.fixed;
        same = λ a. is.is_part.same a ∙ some_from (drop is.place set) f own from (fixed_to is.is_part.level is.is_part.fixed a)
            (fixed_to own is.is_part.fixed a)
            (λ i later. behind_fixed is.is_part.level is.is_part.fixed a i (omega (arith, few, later))
            ∙ sym (behind_fixed own is.is_part.fixed a i later));
      };
      behind = λ level there. let before = is.behind level there in omega (arith, before, few);
    },
    omega arith,
  )
]

part_later_fixed : (own : ℕ) (set : List ℕ) (f part : Levels → Bool) → IsFromFixed f (from_level own set) part own
    → IsFromFixed f set part own
unfolding part_next
part_later_fixed own [] f part is = is
part_later_fixed own (level ∷ more) f part is =
    elim (nat_lt level own) as (λ b. nat_lt level own ≡ b → IsFromFixed f (if b then from_level own more else (level ∷ more)) part own
    → IsFromFixed f (level ∷ more) part own) [
      | true ↦ λ before has.
          let rest = part_later_fixed own more f part has in
          (part_next level more f part rest.0 (omega (arith, ltb-true level own before, rest.1)), rest.1)
      | false ↦ λ before has. has
    ] refl is

pub part_later : (own : ℕ) (set : List ℕ) (f part : Levels → Bool) → IsFrom own f → IsFromPlace f (from_level own set) part
    → IsFromPlace f set part
part_later own set f part from is = (part_later_fixed own set f part (part_raised own (from_level own set) f part from is)).0

-- where the set has a level more, which is fixed, or none more
pub part_chosen : (chosen : Bool) (level : ℕ) (more : List ℕ) (f part : Levels → Bool) → IsFromFixed f more part (level + 1)
    → IsFromPlace f (if chosen then (level ∷ more) else more) part
part_chosen true level more f part is = part_next level more f part is.0 (omega (arith, is.1))
part_chosen false level more f part is = is.0

-- levels fixed by one list of values, and then by another
chosen_twice : (p q r x y z : Bool) → (p ≡ true → r ≡ true) → (p ≡ false → q ≡ r)
    → (if p then x else (if q then y else z)) ≡ (if r then (if p then x else y) else z)
chosen_twice true q true x y z first second = refl
chosen_twice true q false x y z first second = absurd (let e : false ≡ true = first refl in cc)
chosen_twice false true true x y z first second = refl
chosen_twice false true false x y z first second = absurd (let e : true ≡ false = second refl in cc)
chosen_twice false false true x y z first second = absurd (let e : false ≡ true = second refl in cc)
chosen_twice false false false x y z first second = refl

fixed_twice : (count level : ℕ) (fixed later a : Levels) (i : ℕ) → fixed_to count fixed (fixed_to level later a) i
    ≡ fixed_to (max count level) (λ j. if nat_lt j count then fixed j else later j) a i
fixed_twice count level fixed later a i =
    chosen_twice (nat_lt i count) (nat_lt i level) (nat_lt i (max count level)) (fixed i) (later i) (a i)
    (λ small. lt-ltb i (max count level) (omega (arith, ltb-true i count small)))
    (λ large. elim (cases_lt i level) [
      | inl small ↦ lt-ltb i level small ∙ sym (lt-ltb i (max count level) (omega (arith, small)))
      | inr above ↦ le-ltb i level above ∙ sym (le-ltb i (max count level) (omega (arith, above, ltb-false i count large)))
    ])

-- the parts of a function with levels before the set fixed are those of the function, with these fixed
pub part_fixed : (count bound : ℕ) (set : List ℕ) → AreRising count bound set → (f g : Levels → Bool) (fixed : Levels)
    → ((a : Levels) → g a ≡ f (fixed_to count fixed a)) → (part : Levels → Bool) → IsFromPlace g set part → IsFromFixed f set part count
part_fixed count bound set rising f g fixed same part is = (
  record {
    place = is.place;
    within = is.within;
    is_part = record {
      level = max count is.is_part.level;
      fixed = λ j. if nat_lt j count then fixed j else is.is_part.fixed j;
      same = λ a. is.is_part.same a
          ∙ (λ k. some_same (drop is.place set) g (λ b. f (fixed_to count fixed b)) same k
          (fixed_to is.is_part.level is.is_part.fixed a))
          ∙ some_fixed count bound (drop is.place set) (rising_drop count bound set is.place rising) f fixed
          (fixed_to is.is_part.level is.is_part.fixed a)
          ∙ (λ k. some_values (drop is.place set) f (λ i. fixed_twice count is.is_part.level fixed is.is_part.fixed a i k));
    };
    behind = λ level there. let before = is.behind level there in omega (arith, before);
  },
  omega arith,
)

-- the function itself is a part of it, where the set has levels
pub part_whole : (set : List ℕ) → 0 < length set → (f part : Levels → Bool) → IsSubfunction (some_values set f) part
    → IsFromPlace f set part
part_whole set some f part is =
    record { place = 0; within = some; is_part = is; behind = λ level there. absurd (omega (arith, there.1)) }
