-- The numbers of the clauses of denied lists: of those with a positive literal of the first variable, and then of those with a negative
-- one.
use Rattle.std.proofs.Common.{◌≡◌, ◌∙◌, ◌<◌, ◌≤◌, ◌+◌, ◌-◌, ◌++◌, ◌^◌, ℕ, zero, suc, Bool, true, false, not, ℤ, pos, neg_ℤ, List, [], ◌∷◌, length, drop, take, map}
use Rattle.std.proofs.Common.{Option, None, Some, refl, sym, ap, subst, arith, replicate, set}
use Rattle.std.specs.Prelude.{IfOk, IsPermutation, Result, Ok, Err, slice_index_or, if◌then◌else◌}
use Rattle.std.specs.List.Sorted.{IsNonDecreasingBy}
use Rattle.std.specs.Option.{option_and_then, option_map}
use Rattle.std.proofs.lemmas.List.{append_assoc, append-nil, drop_more, length-take-le, length-set, take_more_set, set_at}
use Rattle.parity_equations.specs.declared.index.Index.{Index}
use Rattle.parity_equations.specs.Denied.{AreVariables, CollectsAll, HasSorted, IsBegun, numbers_under}
use Rattle.parity_equations.specs.Equations.{denied}
use Rattle.parity_equations.specs.Index.{number_of, padded}

-- one list of numbers behind another, where there are both
abbrev pub joined : Option (List ℕ) → Option (List ℕ) → Option (List ℕ)
joined one other = option_and_then (λ numbers. option_map (λ more. numbers ++ more) other) one

joined_more : (n : ℕ) (one other : Option (List ℕ)) → joined (option_map (λ numbers. n ∷ numbers) one) other
    ≡ option_map (λ numbers. n ∷ numbers) (joined one other)
joined_more n None other = refl
joined_more n (Some numbers) None = refl
joined_more n (Some numbers) (Some more) = refl

joined_none : (other : Option (List ℕ)) → joined (Some []) other ≡ other
joined_none None = refl
joined_none (Some more) = refl

pub numbers_behind : (index : Index) (front : List ℤ) (lists others : List (List ℤ)) → numbers_under index front (lists ++ others)
    ≡ joined (numbers_under index front lists) (numbers_under index front others)
numbers_behind index front [] others = sym (joined_none (numbers_under index front others))
numbers_behind index front (literals ∷ lists) others =
    go (numbers_behind index front lists others) (number_of index (padded (front ++ literals)))
  where
    go : numbers_under index front (lists ++ others) ≡ joined (numbers_under index front lists) (numbers_under index front others)
        → (found : Option ℕ)
        → option_and_then (λ number. option_map (λ numbers. number ∷ numbers) (numbers_under index front (lists ++ others))) found
        ≡ joined (option_and_then (λ number. option_map (λ numbers. number ∷ numbers) (numbers_under index front lists)) found)
        (numbers_under index front others)
    go rest None = refl
    go rest (Some number) = ap (option_map (λ numbers. number ∷ numbers)) rest
        ∙ sym (joined_more number (numbers_under index front lists) (numbers_under index front others))

pub numbers_with : (index : Index) (front : List ℤ) (literal : ℤ) (lists : List (List ℤ))
    → numbers_under index front (map (λ rest. literal ∷ rest) lists) ≡ numbers_under index (front ++ literal ∷ []) lists
numbers_with index front literal [] = refl
numbers_with index front literal (literals ∷ lists) =
    (λ k. option_and_then (λ number. option_map (λ numbers. number ∷ numbers) (numbers_with index front literal lists k))
    (number_of index (padded (sym (append_assoc front (literal ∷ []) literals) k))))

pub collects_both : (one other : Option (List ℕ)) (before mid after : List ℕ) (both : Bool) → CollectsAll one before mid true
    → CollectsAll other mid after both → CollectsAll (joined one other) before after both
collects_both None other before mid after both first second = absurd first
collects_both (Some numbers) None before mid after false first second = refl
collects_both (Some numbers) None before mid after true first second = absurd second
collects_both (Some numbers) (Some more) before mid after false first second = absurd (let e : Some more ≡ None = second in cc)
collects_both (Some numbers) (Some more) before mid after true first second =
    second ∙ ap (λ (l : List ℕ). l ++ more) first ∙ append_assoc before numbers more

pub collects_none : (one other : Option (List ℕ)) (before mid after : List ℕ) → CollectsAll one before mid false
    → CollectsAll (joined one other) before after false
collects_none None other before mid after first = refl
collects_none (Some numbers) other before mid after first = absurd (let e : Some numbers ≡ None = first in cc)

-- the key of the literals so far
pub begun_key : (place : ℕ) (key : List ℤ) → place ≤ 8 → IsBegun place key → key ≡ padded (take place key ++ [])
begun_key place key small begun =
    let count : length (take place key) ≡ place = length-take-le place key (omega (arith, small, begun.eight)) in
    begun.behind ∙ (λ k. sym (append-nil (take place key)) k ++ replicate (8 - (sym count ∙ ap length (sym (append-nil (take place key))))
    k) (pos 0))

module _ (place : ℕ) (key : List ℤ) (literal : ℤ) (small : place < 8) (begun : IsBegun place key) where
  within : place < length key
  within = omega (arith, small, begun.eight)

  pub next_take : take (place + 1) (set key place literal) ≡ take place key ++ literal ∷ []
  next_take = take_more_set key place literal within

  next_behind : set key place literal ≡ take (place + 1) (set key place literal) ++ replicate (8 - (place + 1)) (pos 0)
  next_behind =
      let count : length (take place key) ≡ place = length-take-le place key (omega (arith, within)) in
      let shape : replicate (8 - place) (pos 0) ≡ pos 0 ∷ replicate (8 - (place + 1)) (pos 0) =
      ap (λ n. replicate n (pos 0)) (let e : 8 - place ≡ suc (8 - (place + 1)) = omega (arith, small) in e) in
      ap (λ (l : List ℤ). set l place literal) (begun.behind ∙ ap (λ (l : List ℤ). take place key ++ l) shape)
      ∙ set_at (take place key) (pos 0) (replicate (8 - (place + 1)) (pos 0)) literal place count
      ∙ sym (append_assoc (take place key) (literal ∷ []) (replicate (8 - (place + 1)) (pos 0)))
      ∙ ap (λ (l : List ℤ). l ++ replicate (8 - (place + 1)) (pos 0)) (sym next_take)

  pub next_begun : IsBegun (place + 1) (set key place literal)
  next_begun = record { behind = next_behind; eight = length-set key place literal ∙ begun.eight }

pub next_begun_by : (place : ℕ) (key : List ℤ) (literal : ℤ) (next : List ℤ) → place < 8 → IsBegun place key → next ≡ set key place literal
    → IsBegun (place + 1) next
next_begun_by place key literal next small begun is = subst (IsBegun (place + 1)) (sym is) (next_begun place key literal small begun)

-- the lists behind a place
module _ (index : Index) (variables : List ℕ) (place : ℕ) (small : place < length variables) (variable : ℕ)
    (is : slice_index_or variables place 0 ≡ variable) (bit : Bool) (front : List ℤ) where
  here : drop place variables ≡ variable ∷ drop (place + 1) variables
  here = drop_more variables place 0 small ∙ ap (λ v. v ∷ drop (place + 1) variables) is

  pub split_denied : numbers_under index front (denied bit (drop place variables))
      ≡ joined (numbers_under index (front ++ pos variable ∷ []) (denied bit (drop (place + 1) variables)))
      (numbers_under index (front ++ neg_ℤ (pos variable) ∷ []) (denied (not bit) (drop (place + 1) variables)))
  split_denied =
      ap (λ (l : List ℕ). numbers_under index front (denied bit l)) here
      ∙ numbers_behind index front (map (λ rest. pos variable ∷ rest) (denied bit (drop (place + 1) variables)))
      (map (λ rest. neg_ℤ (pos variable) ∷ rest) (denied (not bit) (drop (place + 1) variables)))
      ∙ (λ k. joined (numbers_with index front (pos variable) (denied bit (drop (place + 1) variables)) k)
      (numbers_with index front (neg_ℤ (pos variable)) (denied (not bit) (drop (place + 1) variables)) k))

-- with the key's next literal written
pub split_numbers : (index : Index) (variables : List ℕ) (place : ℕ) (key first second : List ℤ) (variable : ℕ) (bit : Bool)
    → place < length variables → place < 8 → IsBegun place key → slice_index_or variables place 0 ≡ variable
    → first ≡ set key place (pos variable) → second ≡ set key place (neg_ℤ (pos variable))
    → numbers_under index (take place key) (denied bit (drop place variables))
    ≡ joined (numbers_under index (take (place + 1) first) (denied bit (drop (place + 1) variables)))
    (numbers_under index (take (place + 1) second) (denied (not bit) (drop (place + 1) variables)))
split_numbers index variables place key first second variable bit within small begun is is_first is_second =
    split_denied index variables place within variable is bit (take place key)
    ∙ sym (λ k. joined (numbers_under index ((ap (λ (l : List ℤ). take (place + 1) l) is_first
    ∙ next_take place key (pos variable) small begun) k)
    (denied bit (drop (place + 1) variables)))
    (numbers_under index ((ap (λ (l : List ℤ). take (place + 1) l) is_second ∙ next_take place key (neg_ℤ (pos variable)) small begun) k)
    (denied (not bit) (drop (place + 1) variables))))

-- behind the last variable
pub end_numbers : (index : Index) (place : ℕ) (key : List ℤ) (bit : Bool) → place ≤ 8 → IsBegun place key
    → numbers_under index (take place key) (denied bit [])
    ≡ (if bit then option_map (λ n. n ∷ []) (number_of index key) else Some [])
end_numbers index place key false small begun = refl
end_numbers index place key true small begun =
    ap (option_and_then (λ number. option_map (λ numbers. number ∷ numbers) (Some [])))
    (ap (number_of index) (sym (begun_key place key small begun)))
    ∙ go (number_of index key)
  where
    go : (found : Option ℕ) → option_and_then (λ number. option_map (λ numbers. number ∷ numbers) (Some [])) found
        ≡ option_map (λ n. n ∷ []) found
    go None = refl
    go (Some n) = refl

pub small_variable : (variables : List ℕ) (i d : ℕ) → AreVariables variables → i < length variables → slice_index_or variables i d < 2 ^ 31
small_variable [] i d are small = absurd (omega (arith, small))
small_variable (variable ∷ more) zero d are small = are.1.0
small_variable (variable ∷ more) (suc i) d are small = small_variable more i d are.1.1 (omega (arith, small))

-- what was collected, by other words
pub collects_same : {E : Type 0} (result : Result Bool E) (one other : Option (List ℕ)) (before after : List ℕ) → one ≡ other
    → IfOk result (CollectsAll other before after) → IfOk result (CollectsAll one before after)
collects_same result one other before after same is =
    subst (λ (found : Option (List ℕ)). IfOk result (CollectsAll found before after)) (sym same) is

pub collects_both_ok : {E : Type 0} (result : Result Bool E) (one other : Option (List ℕ)) (before mid after : List ℕ)
    → CollectsAll one before mid true → IfOk result (CollectsAll other mid after)
    → IfOk result (CollectsAll (joined one other) before after)
collects_both_ok (Ok both) one other before mid after first second = collects_both one other before mid after both first second
collects_both_ok (Err e) one other before mid after first second = tt

pub collected_sorted : (found : Option (List ℕ)) (before after sorted : List ℕ) → before ≡ [] → CollectsAll found before after true
    → IsPermutation after sorted → IsNonDecreasingBy (λ n. n) sorted → HasSorted found sorted
collected_sorted None before after sorted none is permutation rising = absurd is
collected_sorted (Some numbers) before after sorted none is permutation rising =
    (subst (λ (l : List ℕ). IsPermutation l sorted) (is ∙ ap (λ (l : List ℕ). l ++ numbers) none) permutation, rising)
