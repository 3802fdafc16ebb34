-- Sums of rows: with one row more or less, with a row behind the others, and what is left of an equation when rows are added to it.
use Rattle.std.proofs.Common.{◌≡◌, ◌∙◌, ◌<◌, ◌++◌, ◌&&◌, ℕ, zero, suc, Bool, true, false, not, List, [], ◌∷◌, length, refl, sym, ap}
use Rattle.std.proofs.Common.{arith}
use Rattle.std.specs.Prelude.{slice_index_or}
use Rattle.parity_equations.specs.Conflict.{AreSpanned, IsSpanned, Vector, exclusive_or, total}

pub sum_itself : (b : Bool) → exclusive_or b b ≡ false
sum_itself true = refl
sum_itself false = refl

sum_nothing : (b : Bool) → exclusive_or b false ≡ b
sum_nothing true = refl
sum_nothing false = refl

grouped : (a b c : Bool) → exclusive_or (exclusive_or a b) c ≡ exclusive_or a (exclusive_or b c)
grouped true true true = refl
grouped true true false = refl
grouped true false true = refl
grouped true false false = refl
grouped false true true = refl
grouped false true false = refl
grouped false false true = refl
grouped false false false = refl

-- none is chosen
total_none : (rows : List Vector) (place : ℕ) → total (λ i. false) rows place ≡ false
total_none [] place = refl
total_none (first ∷ more) place = ap (exclusive_or false) (total_none more place)

pub spanned_none : (rows : List Vector) (v : Vector) → ((place : ℕ) → v place ≡ false) → IsSpanned rows v
spanned_none rows v none = record { chosen = λ i. false; sum = λ place. none place ∙ sym (total_none rows place) }

-- by other values
pub spanned_same : (rows : List Vector) (v w : Vector) → ((place : ℕ) → w place ≡ v place) → IsSpanned rows v → IsSpanned rows w
spanned_same rows v w same spanned = record { chosen = spanned.chosen; sum = λ place. same place ∙ spanned.sum place }

-- one row is chosen where it wasn't, or the other way round
abbrev turned : ℕ → (ℕ → Bool) → ℕ → Bool
turned zero chosen zero = not (chosen zero)
turned zero chosen (suc i) = chosen (suc i)
turned (suc k) chosen zero = chosen zero
turned (suc k) chosen (suc i) = turned k (λ j. chosen (suc j)) i

turned_first : (c f t : Bool) → exclusive_or (not c && f) t ≡ exclusive_or (exclusive_or (c && f) t) f
turned_first true true true = refl
turned_first true true false = refl
turned_first true false true = refl
turned_first true false false = refl
turned_first false true true = refl
turned_first false true false = refl
turned_first false false true = refl
turned_first false false false = refl

total_turned : (rows : List Vector) (k : ℕ) (d : Vector) (chosen : ℕ → Bool) (place : ℕ) → k < length rows
    → total (turned k chosen) rows place ≡ exclusive_or (total chosen rows place) (slice_index_or rows k d place)
total_turned [] k d chosen place small = absurd (omega (arith, small))
total_turned (first ∷ more) zero d chosen place small =
    turned_first (chosen 0) (first place) (total (λ i. chosen (suc i)) more place)
total_turned (first ∷ more) (suc k) d chosen place small =
    ap (exclusive_or (chosen 0 && first place)) (total_turned more k d (λ i. chosen (suc i)) place (omega (arith, small)))
    ∙ sym (grouped (chosen 0 && first place) (total (λ i. chosen (suc i)) more place) (slice_index_or more k d place))

spanned_turned : (rows : List Vector) (v : Vector) (k : ℕ) (d : Vector) → k < length rows → IsSpanned rows v
    → IsSpanned rows (λ place. exclusive_or (v place) (slice_index_or rows k d place))
spanned_turned rows v k d small spanned = record {
  chosen = turned k spanned.chosen;
  sum = λ place. ap (λ b. exclusive_or b (slice_index_or rows k d place)) (spanned.sum place)
      ∙ sym (total_turned rows k d spanned.chosen place small);
}

-- This is left of an equation by sums with rows.
pub record LeavesOf (rows : List Vector) (v left : Vector) : Type 0 where
  pub rest : IsSpanned rows (λ place. exclusive_or (v place) (left place))

taken_apart : (v r c n : Bool) → n ≡ exclusive_or r c → exclusive_or v n ≡ exclusive_or (exclusive_or v c) r
taken_apart v r c n is = ap (exclusive_or v) is ∙ go v r c
  where
    go : (v r c : Bool) → exclusive_or v (exclusive_or r c) ≡ exclusive_or (exclusive_or v c) r
    go true true true = refl
    go true true false = refl
    go true false true = refl
    go true false false = refl
    go false true true = refl
    go false true false = refl
    go false false true = refl
    go false false false = refl

pub leaves_further : (rows : List Vector) (v current next : Vector) (k : ℕ) (d : Vector) → k < length rows → LeavesOf rows v current
    → ((place : ℕ) → next place ≡ exclusive_or (slice_index_or rows k d place) (current place)) → LeavesOf rows v next
leaves_further rows v current next k d small left sum = record {
  rest = spanned_same rows (λ place. exclusive_or (exclusive_or (v place) (current place)) (slice_index_or rows k d place))
      (λ place. exclusive_or (v place) (next place))
      (λ place. taken_apart (v place) (slice_index_or rows k d place) (current place) (next place) (sum place))
      (spanned_turned rows (λ place. exclusive_or (v place) (current place)) k d small left.rest);
}

-- nothing is left: it is a sum of rows
pub spanned_whole : (rows : List Vector) (v left : Vector) → LeavesOf rows v left → ((place : ℕ) → left place ≡ false) → IsSpanned rows v
spanned_whole rows v left leaves nothing =
    spanned_same rows (λ place. exclusive_or (v place) (left place)) v
    (λ place. sym (ap (exclusive_or (v place)) (nothing place) ∙ sum_nothing (v place))) leaves.rest

-- a row behind the others, chosen or not
abbrev with_last : ℕ → Bool → (ℕ → Bool) → ℕ → Bool
with_last zero last chosen i = last
with_last (suc n) last chosen zero = chosen zero
with_last (suc n) last chosen (suc i) = with_last n last (λ j. chosen (suc j)) i

total_last : (rows : List Vector) (row : Vector) (last : Bool) (chosen : ℕ → Bool) (place : ℕ)
    → total (with_last (length rows) last chosen) (rows ++ row ∷ []) place ≡ exclusive_or (total chosen rows place) (last && row place)
total_last [] row last chosen place = sum_nothing (last && row place) ∙ go (last && row place)
  where
    go : (b : Bool) → b ≡ exclusive_or false b
    go true = refl
    go false = refl
total_last (first ∷ more) row last chosen place =
    ap (exclusive_or (chosen 0 && first place)) (total_last more row last (λ i. chosen (suc i)) place)
    ∙ sym (grouped (chosen 0 && first place) (total (λ i. chosen (suc i)) more place) (last && row place))

spanned_more : (rows : List Vector) (row v : Vector) → IsSpanned rows v → IsSpanned (rows ++ row ∷ []) v
spanned_more rows row v spanned = record {
  chosen = with_last (length rows) false spanned.chosen;
  sum = λ place. spanned.sum place
      ∙ sym (total_last rows row false spanned.chosen place ∙ sum_nothing (total spanned.chosen rows place));
}

-- what is left is the row behind the others
pub spanned_last : (rows : List Vector) (v left : Vector) → LeavesOf rows v left → IsSpanned (rows ++ left ∷ []) v
spanned_last rows v left leaves = record {
  chosen = with_last (length rows) true leaves.rest.chosen;
  sum = λ place.
      back (v place) (left place)
      ∙ ap (λ b. exclusive_or b (left place)) (leaves.rest.sum place) ∙ sym (total_last rows left true leaves.rest.chosen place);
}
  where
    back : (v l : Bool) → v ≡ exclusive_or (exclusive_or v l) l
    back true true = refl
    back true false = refl
    back false true = refl
    back false false = refl

-- those of all
pub are_spanned_more : (rows : List Vector) (row : Vector) (vectors : List Vector) → AreSpanned rows vectors
    → AreSpanned (rows ++ row ∷ []) vectors
are_spanned_more rows row [] are = tt
are_spanned_more rows row (v ∷ more) are = (spanned_more rows row v are.0, are_spanned_more rows row more are.1)

pub are_spanned_with : (rows : List Vector) (vectors : List Vector) (v : Vector) → AreSpanned rows vectors → IsSpanned rows v
    → AreSpanned rows (vectors ++ v ∷ [])
are_spanned_with rows [] v are is = (is, tt)
are_spanned_with rows (first ∷ more) v are is = (are.0, are_spanned_with rows more v are.1 is)
