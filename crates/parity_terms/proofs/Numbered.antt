-- There are no more essential parts than numbers for them; those of several functions have numbers behind one another.
use Rattle.std.proofs.Common.{◌≡◌, ◌⊎◌, ◌<◌, ◌≤◌, ◌+◌, ℕ, zero, suc, Bool, true, false, List, [], ◌∷◌, length, refl}
use Rattle.std.proofs.Common.{sym, ap}
use Rattle.std.proofs.Common.{subst, arith, inl, inr, ne_eqb, get_or}
use Rattle.std.specs.Prelude.{nat_eq}
use Rattle.std.specs.List.{AllByRecursion, IsDistinct, list_any}
use Rattle.std.proofs.lemmas.Bool.{eqb-true, or_cases}
use Rattle.std.proofs.lemmas.Map.Keys.{IsDistinct-cons}
use Rattle.std.proofs.lemmas.Map.Steps.{length-le_from_distinct_below}
use Rattle.node_table.specs.Value.{IsSubfunction, Levels}
use Rattle.bdd_terms.specs.Counting.{IsPartOfOne}
use Rattle.bdd_terms.specs.Parts.{AreMore, HasAtMost, IsEssential, part_at}
use Rattle.parity_terms.specs.Numbered.{AreNumbered}

last : (count : ℕ) → count < suc count
last count = omega arith

earlier : (count place : ℕ) → place < count → place < suc count
earlier count place small = omega (arith, small)

-- numbers by places, from the last one down
abbrev before : (count : ℕ) → ((place : ℕ) → place < suc count → ℕ) → (place : ℕ) → place < count → ℕ
before count number place small = number place (earlier count place small)

abbrev listed : (count : ℕ) → ((place : ℕ) → place < count → ℕ) → List ℕ
listed zero number = []
listed (suc count) number = number count (last count) ∷ listed count (before count number)

length-listed : (count : ℕ) (number : (place : ℕ) → place < count → ℕ) → length (listed count number) ≡ count
length-listed zero number = refl
length-listed (suc count) number = ap suc (length-listed count (before count number))

-- each listed number is one of them
record IsListed (count : ℕ) (number : (place : ℕ) → place < count → ℕ) (q : ℕ) : Type 0 where
  place : ℕ
  small : place < count
  is : q ≡ number place small

of_listed : (count : ℕ) (number : (place : ℕ) → place < count → ℕ) (q : ℕ) → list_any (nat_eq q) (listed count number) ≡ true
    → IsListed count number q
of_listed zero number q there = absurd (let e : false ≡ true = there in cc)
of_listed (suc count) number q there =
    elim (or_cases (nat_eq q (number count (last count))) (list_any (nat_eq q) (listed count (before count number))) there) [
      | inl here ↦ record { place = count; small = last count; is = eqb-true q (number count (last count)) here }
      | inr later ↦
          let found = of_listed count (before count number) q later in
          record { place = found.place; small = earlier count found.place found.small; is = found.is }
    ]

differs : (count : ℕ) (number : (place : ℕ) → place < count → ℕ) (own : ℕ)
    → ((place : ℕ) (small : place < count) → own ≡ number place small → ⊥)
    → AllByRecursion (λ q. nat_eq own q ≡ false) (listed count number)
differs zero number own apart = tt
differs (suc count) number own apart = (
  ne_eqb own (number count (last count)) (λ is. apart count (last count) is),
  differs count (before count number) own (λ place small is. apart place (earlier count place small) is),
)

distinct : (count : ℕ) (number : (place : ℕ) → place < count → ℕ)
    → ((place other : ℕ) (small : place < count) (less : other < count) → place < other → number place small ≡ number other less → ⊥)
    → IsDistinct nat_eq (listed count number)
unfolding IsDistinct
distinct zero number apart = tt
distinct (suc count) number apart =
    IsDistinct-cons nat_eq (number count (last count)) (listed count (before count number))
    (differs count (before count number) (number count (last count))
    (λ place small is. apart place count (earlier count place small) (last count) small (sym is)))
    (distinct count (before count number)
    (λ place other small less lower is. apart place other (earlier count place small) (earlier count other less) lower is))

-- no more parts than numbers
pub few_numbered : (is_part : (Levels → Bool) → Type 0) (bound number : ℕ) → AreNumbered is_part bound → AreMore is_part number → number <
    bound
few_numbered is_part bound number numbered more =
    let few = length-le_from_distinct_below (listed (length more.parts) own) bound
    (distinct (length more.parts) own (λ place other small less lower is. more.differ place other lower less
    (numbered.same _ _ _ _ _ _ is)))
    (λ q there. let found = of_listed (length more.parts) own q there in
    subst (λ n. n < bound) (sym found.is) (numbered.below _ (more.are found.place found.small) (more.essential found.place found.small))) in
    omega (arith, few, length-listed (length more.parts) own, more.more)
  where
    own : (place : ℕ) → place < length more.parts → ℕ
    own place small = numbered.number (part_at more.parts place) (more.are place small) (more.essential place small)

-- a function whose parts have numbers
pub numbered_few : (f : Levels → Bool) (bound width : ℕ) → bound ≤ width → AreNumbered (IsSubfunction f) bound → HasAtMost f width
numbered_few f bound width less numbered more =
    let few = few_numbered (IsSubfunction f) bound width numbered more in omega (arith, few, less)

-- fewer numbers are some of more
pub at_most : (is_part : (Levels → Bool) → Type 0) (few many : ℕ) → few ≤ many → AreNumbered is_part few → AreNumbered is_part many
at_most is_part few many less numbered = record {
  number = numbered.number;
  below = λ part is essential. let own = numbered.below part is essential in omega (arith, own, less);
  same = numbered.same;
}

-- parts of one kind that are parts of another
pub numbered_by : (is_part is_other : (Levels → Bool) → Type 0) (bound : ℕ) → ((part : Levels → Bool) → is_other part → is_part part)
    → AreNumbered is_part bound → AreNumbered is_other bound
numbered_by is_part is_other bound by numbered = record {
  number = λ part is essential. numbered.number part (by part is) essential;
  below = λ part is essential. numbered.below part (by part is) essential;
  same = λ one other is_one is_two one_varies two_varies is.
      numbered.same one other (by one is_one) (by other is_two) one_varies two_varies is;
}

-- those of two kinds, one behind the other
module _ (first second : (Levels → Bool) → Type 0) (m n : ℕ) (numbered : AreNumbered first m) (numbered_second : AreNumbered second n) where
  abbrev in_turn : (part : Levels → Bool) → first part ⊎ second part → IsEssential part → ℕ
  in_turn part (inl is) essential = numbered.number part is essential
  in_turn part (inr is) essential = m + numbered_second.number part is essential

  below_both : (part : Levels → Bool) (is : first part ⊎ second part) (essential : IsEssential part) → in_turn part is essential < m + n
  below_both part (inl is) essential = let own = numbered.below part is essential in omega (arith, own)
  below_both part (inr is) essential = let own = numbered_second.below part is essential in omega (arith, own)

  same_of_both : (one other : Levels → Bool) (is_one : first one ⊎ second one) (is_other : first other ⊎ second other)
      (one_varies : IsEssential one) (other_varies : IsEssential other)
      → in_turn one is_one one_varies ≡ in_turn other is_other other_varies → (a : Levels) → one a ≡ other a
  same_of_both one other (inl is) (inl is_too) one_varies other_varies same = numbered.same one other is is_too one_varies other_varies same
  same_of_both one other (inl is) (inr is_too) one_varies other_varies same =
      let own = numbered.below one is one_varies in absurd (omega (arith, own, same))
  same_of_both one other (inr is) (inl is_too) one_varies other_varies same =
      let own = numbered.below other is_too other_varies in absurd (omega (arith, own, same))
  same_of_both one other (inr is) (inr is_too) one_varies other_varies same =
      numbered_second.same one other is is_too one_varies other_varies (omega (arith, same))

  pub both_numbered : AreNumbered (λ part. first part ⊎ second part) (m + n)
  both_numbered = record { number = in_turn; below = below_both; same = same_of_both }

-- parts of functions of a list: of the first one, or of the rest
part_of_list : (f : Levels → Bool) (rest : List (Levels → Bool)) (part : Levels → Bool) → IsPartOfOne (f ∷ rest) part
    → IsSubfunction f part ⊎ IsPartOfOne rest part
part_of_list f rest part is = by_place is.among.0 is.among.1 is.among.2
  where
    by_place : (k : ℕ) → k < length (f ∷ rest) → get_or (f ∷ rest) k is.function ≡ is.function
        → IsSubfunction f part ⊎ IsPartOfOne rest part
    by_place zero small at = inl (subst (λ (g : Levels → Bool). IsSubfunction g part) (sym at) is.is_part)
    by_place (suc k) small at = inr (record { function = is.function; among = (k, omega (arith, small), at); is_part = is.is_part })

pub none_numbered : AreNumbered (IsPartOfOne []) 0
none_numbered = record {
  number = λ part is essential. 0;
  below = λ part is essential. absurd (no_part part is);
  same = λ one other is is_too one_varies other_varies same. absurd (no_part one is);
}
  where
    no_part : (part : Levels → Bool) → IsPartOfOne [] part → ⊥
    no_part part is = let small = is.among.1 in omega (arith, small)

pub one_more : (f : Levels → Bool) (rest : List (Levels → Bool)) (m n : ℕ) → AreNumbered (IsSubfunction f) m
    → AreNumbered (IsPartOfOne rest) n → AreNumbered (IsPartOfOne (f ∷ rest)) (m + n)
one_more f rest m n first others =
    numbered_by (λ part. IsSubfunction f part ⊎ IsPartOfOne rest part) (IsPartOfOne (f ∷ rest)) (m + n) (part_of_list f rest)
    (both_numbered (IsSubfunction f) (IsPartOfOne rest) m n first others)

-- a function with the same values
pub numbered_same : (f g : Levels → Bool) (bound : ℕ) → ((a : Levels) → f a ≡ g a) → AreNumbered (IsSubfunction f) bound
    → AreNumbered (IsSubfunction g) bound
numbered_same f g bound same numbered = subst (λ (h : Levels → Bool). AreNumbered (IsSubfunction h) bound) (λ i a. same a i) numbered
