-- Two equations merged in the order of their variables: the variables that one of both has and the other hasn't.
use Rattle.std.proofs.Common.{◌≡◌, ◌⊎◌, ◌∙◌, ◌<◌, ◌≤◌, ◌+◌, ◌++◌, ℕ, Bool, true, false, List, [], ◌∷◌, length, drop, refl, sym, ap, subst}
use Rattle.std.proofs.Common.{arith, inl, inr}
use Rattle.std.specs.Prelude.{slice_index_or}
use Rattle.std.proofs.lemmas.List.{append-nil, drop_more}
use Rattle.cnf_base.specs.Truth.{Assignment}
use Rattle.parity_nodes.specs.Sums.{exclusive_or, odd_over}
use Rattle.parity_terms.specs.Order.{AreDifferent, AreInOrder, place_of}

-- sums of bits
nothing_first : (b : Bool) → exclusive_or false b ≡ b
nothing_first true = refl
nothing_first false = refl

grouped : (a b c : Bool) → exclusive_or (exclusive_or a b) c ≡ exclusive_or a (exclusive_or b c)
grouped true true true = refl
grouped true true false = refl
grouped true false true = refl
grouped true false false = refl
grouped false true true = refl
grouped false true false = refl
grouped false false true = refl
grouped false false false = refl

turned : (a b : Bool) → exclusive_or a b ≡ exclusive_or b a
turned true true = refl
turned true false = refl
turned false true = refl
turned false false = refl

pub odd_append : (front behind : List ℕ) (a : Assignment)
    → odd_over (front ++ behind) a ≡ exclusive_or (odd_over front a) (odd_over behind a)
odd_append [] behind a = sym (nothing_first (odd_over behind a))
odd_append (variable ∷ more) behind a = ap (exclusive_or (a variable)) (odd_append more behind a)
    ∙ sym (grouped (a variable) (odd_over more a) (odd_over behind a))

-- variables in the order from later on are so from before
pub order_from : (places : List ℕ) (low high : ℕ) (variables : List ℕ) → low ≤ high → AreInOrder places high variables
    → AreInOrder places low variables
order_from places low high [] less are = tt
order_from places low high (variable ∷ more) less are =
    (are.0, (are.1.0, ((let above = are.1.1.0 in omega (arith, less, above)), are.1.1.1)))

-- The sum so far, with what is left of both, is the sum of both.
abbrev pub SameOdd : List ℕ → List ℕ → List ℕ → List ℕ → List ℕ → Type 0
SameOdd sum left left_other one other = (a : Assignment)
    → exclusive_or (odd_over sum a) (exclusive_or (odd_over left a) (odd_over left_other a))
    ≡ exclusive_or (odd_over one a) (odd_over other a)

pub odd_none : (one other : List ℕ) → SameOdd [] one other one other
odd_none one other a = nothing_first (exclusive_or (odd_over one a) (odd_over other a))

-- one step on, by bits
drop_both : (s x l m : Bool) → exclusive_or s (exclusive_or l m)
    ≡ exclusive_or s (exclusive_or (exclusive_or x l) (exclusive_or x m))
drop_both true true true true = refl
drop_both true true true false = refl
drop_both true true false true = refl
drop_both true true false false = refl
drop_both true false true true = refl
drop_both true false true false = refl
drop_both true false false true = refl
drop_both true false false false = refl
drop_both false true true true = refl
drop_both false true true false = refl
drop_both false true false true = refl
drop_both false true false false = refl
drop_both false false true true = refl
drop_both false false true false = refl
drop_both false false false true = refl
drop_both false false false false = refl

move_one : (s x l m : Bool) → exclusive_or (exclusive_or s (exclusive_or x false)) (exclusive_or l m)
    ≡ exclusive_or s (exclusive_or (exclusive_or x l) m)
move_one true true true true = refl
move_one true true true false = refl
move_one true true false true = refl
move_one true true false false = refl
move_one true false true true = refl
move_one true false true false = refl
move_one true false false true = refl
move_one true false false false = refl
move_one false true true true = refl
move_one false true true false = refl
move_one false true false true = refl
move_one false true false false = refl
move_one false false true true = refl
move_one false false true false = refl
move_one false false false true = refl
move_one false false false false = refl

move_other : (s x l m : Bool) → exclusive_or (exclusive_or s (exclusive_or x false)) (exclusive_or l m)
    ≡ exclusive_or s (exclusive_or l (exclusive_or x m))
move_other s x l m =
    ap (exclusive_or (exclusive_or s (exclusive_or x false))) (turned l m) ∙ move_one s x m l
    ∙ ap (exclusive_or s) (turned (exclusive_or x m) l)

module _ (sum left left_other one other : List ℕ) (u v : ℕ) (odd : SameOdd sum (u ∷ left) (v ∷ left_other) one other) where
  odd_both : u ≡ v → SameOdd sum left left_other one other
  odd_both same a =
      drop_both (odd_over sum a) (a u) (odd_over left a) (odd_over left_other a)
      ∙ ap (λ b. exclusive_or (odd_over sum a) (exclusive_or (exclusive_or (a u) (odd_over left a))
      (exclusive_or b (odd_over left_other a))))
      (ap a same)
      ∙ odd a

  odd_one : SameOdd (sum ++ u ∷ []) left (v ∷ left_other) one other
  odd_one a =
      ap (λ b. exclusive_or b (exclusive_or (odd_over left a) (odd_over (v ∷ left_other) a))) (odd_append sum (u ∷ []) a)
      ∙ move_one (odd_over sum a) (a u) (odd_over left a) (odd_over (v ∷ left_other) a) ∙ odd a

  odd_other : SameOdd (sum ++ v ∷ []) (u ∷ left) left_other one other
  odd_other a =
      ap (λ b. exclusive_or b (exclusive_or (odd_over (u ∷ left) a) (odd_over left_other a))) (odd_append sum (v ∷ []) a)
      ∙ move_other (odd_over sum a) (a v) (odd_over (u ∷ left) a) (odd_over left_other a) ∙ odd a

-- variables in the order up to a place, behind which others come
abbrev IsUpTo : List ℕ → ℕ → ℕ → List ℕ → Type 0
IsUpTo places first last [] = first ≤ last
IsUpTo places first last (variable ∷ more) = (0 < variable)
    × ((variable ≤ length places) × ((first ≤ place_of places variable) × IsUpTo places (place_of places variable + 1) last more))

up_to_more : (places : List ℕ) (first last variable : ℕ) (sum : List ℕ) → IsUpTo places first last sum → 0 < variable
    → variable ≤ length places → last ≤ place_of places variable → IsUpTo places first (place_of places variable + 1) (sum ++ variable ∷ [])
up_to_more places first last variable [] are some within above = (some, (within, (omega (arith, are, above), omega arith)))
up_to_more places first last variable (x ∷ more) are some within above =
    (are.0, (are.1.0, (are.1.1.0, up_to_more places (place_of places x + 1) last variable more are.1.1.1 some within above)))

up_to_later : (places : List ℕ) (first last later : ℕ) (sum : List ℕ) → last ≤ later → IsUpTo places first last sum
    → IsUpTo places first later sum
up_to_later places first last later [] less are = omega (arith, less, are)
up_to_later places first last later (x ∷ more) less are =
    (are.0, (are.1.0, (are.1.1.0, up_to_later places (place_of places x + 1) last later more less are.1.1.1)))

up_to_all : (places : List ℕ) (first last : ℕ) (sum left : List ℕ) → IsUpTo places first last sum → AreInOrder places last left
    → AreInOrder places first (sum ++ left)
up_to_all places first last [] left are rest = order_from places first last left are rest
up_to_all places first last (x ∷ more) left are rest =
    (are.0, (are.1.0, (are.1.1.0, up_to_all places (place_of places x + 1) last more left are.1.1.1 rest)))

-- How far two lists are merged: what is left of each stands behind the sum so far.
pub record AreMerged (places : List ℕ) (first : ℕ) (sum rest rest_other : List ℕ) : Type 0 where
  pub last : ℕ
  pub so_far : IsUpTo places first last sum
  pub left : AreInOrder places last rest
  pub left_other : AreInOrder places last rest_other

pub merged_none : (places : List ℕ) (first : ℕ) (one other : List ℕ) → AreInOrder places first one → AreInOrder places first other
    → AreMerged places first [] one other
merged_none places first one other are are_other =
    record { last = first; so_far = omega arith; left = are; left_other = are_other }

module _ (places : List ℕ) (first : ℕ) (sum left left_other : List ℕ) (u v : ℕ)
    (merged : AreMerged places first sum (u ∷ left) (v ∷ left_other)) where
  merged_both : u ≡ v → AreMerged places first sum left left_other
  merged_both same = record {
    last = place_of places u + 1;
    so_far = up_to_later places first merged.last (place_of places u + 1) sum
        (let above = merged.left.1.1.0 in omega (arith, above)) merged.so_far;
    left = merged.left.1.1.1;
    left_other = subst (λ n. AreInOrder places (place_of places n + 1) left_other) (sym same) merged.left_other.1.1.1;
  }

  merged_one : place_of places u < place_of places v → AreMerged places first (sum ++ u ∷ []) left (v ∷ left_other)
  merged_one less = record {
    last = place_of places u + 1;
    so_far = up_to_more places first merged.last u sum merged.so_far merged.left.0 merged.left.1.0 merged.left.1.1.0;
    left = merged.left.1.1.1;
    left_other = (merged.left_other.0, (merged.left_other.1.0, (omega (arith, less), merged.left_other.1.1.1)));
  }

  merged_other : place_of places v < place_of places u → AreMerged places first (sum ++ v ∷ []) (u ∷ left) left_other
  merged_other less = record {
    last = place_of places v + 1;
    so_far = up_to_more places first merged.last v sum merged.so_far merged.left_other.0 merged.left_other.1.0 merged.left_other.1.1.0;
    left = (merged.left.0, (merged.left.1.0, (omega (arith, less), merged.left.1.1.1)));
    left_other = merged.left_other.1.1.1;
  }

-- one step on, by what is left of each
module _ (places sum one other : List ℕ) (i j : ℕ) (small : i < length one) (small_other : j < length other)
    (odd : SameOdd sum (drop i one) (drop j other) one other)
    (merged : (first : ℕ) → AreInOrder places first one → AreInOrder places first other
    → AreMerged places first sum (drop i one) (drop j other))
  where
    abbrev u : ℕ
    u = slice_index_or one i 0

    abbrev v : ℕ
    v = slice_index_or other j 0

    here : drop i one ≡ u ∷ drop (i + 1) one
    here = drop_more one i 0 small

    there : drop j other ≡ v ∷ drop (j + 1) other
    there = drop_more other j 0 small_other

    odd_here : SameOdd sum (u ∷ drop (i + 1) one) (v ∷ drop (j + 1) other) one other
    odd_here = subst (λ (l : List ℕ). SameOdd sum l (v ∷ drop (j + 1) other) one other) here
        (subst (λ (l : List ℕ). SameOdd sum (drop i one) l one other) there odd)

    merged_here : (first : ℕ) → AreInOrder places first one → AreInOrder places first other
        → AreMerged places first sum (u ∷ drop (i + 1) one) (v ∷ drop (j + 1) other)
    merged_here first are are_other = subst (λ (l : List ℕ). AreMerged places first sum l (v ∷ drop (j + 1) other)) here
        (subst (λ (l : List ℕ). AreMerged places first sum (drop i one) l) there (merged first are are_other))

    module _ (same : u ≡ v) where
      pub both_odd : SameOdd sum (drop (i + 1) one) (drop (j + 1) other) one other
      both_odd = odd_both sum (drop (i + 1) one) (drop (j + 1) other) one other u v odd_here same

      pub both_merged : (first : ℕ) → AreInOrder places first one → AreInOrder places first other
          → AreMerged places first sum (drop (i + 1) one) (drop (j + 1) other)
      both_merged first are are_other = merged_both places first sum (drop (i + 1) one) (drop (j + 1) other) u v
          (merged_here first are are_other) same

    module _ (after : List ℕ) (is : after ≡ sum ++ u ∷ []) (less : place_of places u < place_of places v) where
      pub one_odd : SameOdd after (drop (i + 1) one) (drop j other) one other
      one_odd = subst (λ (l : List ℕ). SameOdd l (drop (i + 1) one) (drop j other) one other) (sym is)
          (subst (λ (l : List ℕ). SameOdd (sum ++ u ∷ []) (drop (i + 1) one) l one other) (sym there)
          (odd_one sum (drop (i + 1) one) (drop (j + 1) other) one other u v odd_here))

      pub one_merged : (first : ℕ) → AreInOrder places first one → AreInOrder places first other
          → AreMerged places first after (drop (i + 1) one) (drop j other)
      one_merged first are are_other = subst (λ (l : List ℕ). AreMerged places first l (drop (i + 1) one) (drop j other)) (sym is)
          (subst (λ (l : List ℕ). AreMerged places first (sum ++ u ∷ []) (drop (i + 1) one) l) (sym there)
          (merged_one places first sum (drop (i + 1) one) (drop (j + 1) other) u v (merged_here first are are_other) less))

    module _ (after : List ℕ) (is : after ≡ sum ++ v ∷ []) (less : place_of places v < place_of places u) where
      pub other_odd : SameOdd after (drop i one) (drop (j + 1) other) one other
      other_odd = subst (λ (l : List ℕ). SameOdd l (drop i one) (drop (j + 1) other) one other) (sym is)
          (subst (λ (l : List ℕ). SameOdd (sum ++ v ∷ []) l (drop (j + 1) other) one other) (sym here)
          (odd_other sum (drop (i + 1) one) (drop (j + 1) other) one other u v odd_here))

      pub other_merged : (first : ℕ) → AreInOrder places first one → AreInOrder places first other
          → AreMerged places first after (drop i one) (drop (j + 1) other)
      other_merged first are are_other = subst (λ (l : List ℕ). AreMerged places first l (drop i one) (drop (j + 1) other)) (sym is)
          (subst (λ (l : List ℕ). AreMerged places first (sum ++ v ∷ []) l (drop (j + 1) other)) (sym here)
          (merged_other places first sum (drop (i + 1) one) (drop (j + 1) other) u v (merged_here first are are_other) less))

-- the end: one of both is used up
pub different_end : (places sum left left_other one other : List ℕ) → (left ≡ []) ⊎ (left_other ≡ [])
    → SameOdd sum left left_other one other
    → ((first : ℕ) → AreInOrder places first one → AreInOrder places first other → AreMerged places first sum left left_other)
    → AreDifferent places one other ((sum ++ left) ++ left_other)
different_end places sum left left_other one other ended odd merged = record {
  odd = λ a.
      odd_append (sum ++ left) left_other a
      ∙ ap (λ b. exclusive_or b (odd_over left_other a)) (odd_append sum left a)
      ∙ grouped (odd_over sum a) (odd_over left a) (odd_over left_other a) ∙ odd a;
  in_order = λ first are are_other. go first (merged first are are_other) ended;
}
  where
    go : (first : ℕ) → AreMerged places first sum left left_other → (left ≡ []) ⊎ (left_other ≡ [])
        → AreInOrder places first ((sum ++ left) ++ left_other)
    go first merged_yet (inl none) =
        subst (λ (l : List ℕ). AreInOrder places first (l ++ left_other)) (sym (ap (λ (l : List ℕ). sum ++ l) none ∙ append-nil sum))
        (up_to_all places first merged_yet.last sum left_other merged_yet.so_far merged_yet.left_other)
    go first merged_yet (inr none) =
        subst (AreInOrder places first) (sym (ap (λ (l : List ℕ). (sum ++ left) ++ l) none ∙ append-nil (sum ++ left)))
        (up_to_all places first merged_yet.last sum left merged_yet.so_far merged_yet.left)
