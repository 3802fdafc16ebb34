-- The numbers that an index has under the keys of denied lists are those of the first clauses that have exactly these literals; there is
-- one for each where the formula has the equation.
use Rattle.std.proofs.Common.{◌≡◌, ◌∙◌, ◌<◌, ◌≤◌, ◌+◌, ◌-◌, ◌++◌, ◌&&◌, ◌||◌, ℕ, zero, suc, Bool, true, false, not, cond, ℤ, pos, neg_ℤ, List, [], ◌∷◌}
use Rattle.std.proofs.Common.{nat_abs, length, map, replicate, Option, None, Some, is_some, refl, sym, ap, arith, inl, inr}
use Rattle.std.specs.Prelude.{nat_lt}
use Rattle.std.specs.Cmp.Lexicographic.{pointwise}
use Rattle.std.specs.Cmp.Rules.{signed_items}
use Rattle.std.specs.List.{list_all, list_any}
use Rattle.std.specs.Option.{option_and_then, option_map, unwrap_or}
use Rattle.std.specs.Ordering.{int_eq}
use Rattle.std.proofs.lemmas.Bool.{and_parts, cases_Bool, leb-true, or_parts}
use Rattle.std.proofs.lemmas.Bool.Decides.{Decides-int_eq}
use Rattle.parity_equations.specs.declared.index.Index.{Index}
use Rattle.parity_equations.specs.Denied.{AreVariables, numbers_under}
use Rattle.parity_equations.specs.Equations.{denied, first_from, has_exactly}
use Rattle.parity_equations.specs.Index.{first_under, number_of, padded}
use Rattle.parity_equations.specs.LiteralSet.{has_both_signs, is_candidate, literal_set}
use Rattle.parity_equations.specs.Walk.{IsIndexOf}
use Rattle.parity_equations.proofs.Sets.{any_of_set}

-- a list of at most eight literals, none of which is 0
pub record IsKey (literals : List ℤ) : Type 0 where
  pub few : length literals ≤ 8
  pub nonzero : list_any (int_eq (pos 0)) literals ≡ false

-- zeros behind literals that aren't 0 leave these apart
apart_zeros : (one other : List ℤ) (m n : ℕ) → list_any (int_eq (pos 0)) one ≡ false → list_any (int_eq (pos 0)) other ≡ false
    → one ++ replicate m (pos 0) ≡ other ++ replicate n (pos 0) → one ≡ other
apart_zeros [] [] m n none none_other same = refl
apart_zeros [] (y ∷ other) zero n none none_other same = absurd (let e : [] ≡ y ∷ (other ++ replicate n (pos 0)) = same in cc)
apart_zeros [] (y ∷ other) (suc m) n none none_other same =
    absurd (let at : pos 0 ≡ y = (let e : pos 0 ∷ replicate m (pos 0) ≡ y ∷ (other ++ replicate n (pos 0)) = same in cc) in
    let e : true ≡ false = sym ((Decides-int_eq (pos 0) y).1 at) ∙ (or_parts (int_eq (pos 0) y) _ none_other).0 in cc)
apart_zeros (x ∷ one) [] m zero none none_other same = absurd (let e : x ∷ (one ++ replicate m (pos 0)) ≡ [] = same in cc)
apart_zeros (x ∷ one) [] m (suc n) none none_other same =
    absurd (let at : pos 0 ≡ x = (let e : x ∷ (one ++ replicate m (pos 0)) ≡ pos 0 ∷ replicate n (pos 0) = same in cc) in
    let e : true ≡ false = sym ((Decides-int_eq (pos 0) x).1 at) ∙ (or_parts (int_eq (pos 0) x) _ none).0 in cc)
apart_zeros (x ∷ one) (y ∷ other) m n none none_other same =
    let head : x ≡ y = (let e : x ∷ (one ++ replicate m (pos 0)) ≡ y ∷ (other ++ replicate n (pos 0)) = same in cc) in
    let tail : one ++ replicate m (pos 0) ≡ other ++ replicate n (pos 0)
    = (let e : x ∷ (one ++ replicate m (pos 0)) ≡ y ∷ (other ++ replicate n (pos 0)) = same in cc) in
    let rest = apart_zeros one other m n (or_parts (int_eq (pos 0) x) _ none).1 (or_parts (int_eq (pos 0) y) _ none_other).1 tail in
    (λ k. head k ∷ rest k)

same_test : (one other : List ℤ) → IsKey one → IsKey other → pointwise int_eq (padded one) (padded other) ≡ pointwise int_eq one other
same_test one other is is_other = elim (cases_Bool (pointwise int_eq one other)) [
  | inl same ↦ (signed_items (padded one) (padded other)).1 (ap padded ((signed_items one other).0 same)) ∙ sym same
  | inr differ ↦ elim (cases_Bool (pointwise int_eq (padded one) (padded other))) [
    | inl same ↦ absurd (let at = apart_zeros one other (8 - length one) (8 - length other) is.nonzero is_other.nonzero
        ((signed_items (padded one) (padded other)).0 same) in
        let e : true ≡ false = sym ((signed_items one other).1 at) ∙ differ in cc)
    | inr apart ↦ apart ∙ sym differ
  ]
]

-- a candidate's set is a key
set_key : (clause : List ℤ) → list_any (int_eq (pos 0)) clause ≡ false → is_candidate clause ≡ true → IsKey (literal_set clause)
set_key clause nonzero is =
    let parts = and_parts (not (has_both_signs clause)) _ is in
    let sizes = and_parts (nat_lt 0 (length (literal_set clause))) _ parts.1 in
    record { few = leb-true (length (literal_set clause)) 8 sizes.1; nonzero = any_of_set (int_eq (pos 0)) clause ∙ nonzero }

-- the first clause under a key is the first one that has exactly its literals
pub first_same : (n : ℕ) (clauses : List (List ℤ)) (wrong : List ℤ) → list_any (list_any (int_eq (pos 0))) clauses ≡ false → IsKey wrong
    → first_under n clauses (padded wrong) ≡ first_from n clauses wrong
first_same n [] wrong nonzero is = refl
first_same n (clause ∷ more) wrong nonzero is =
    let parts = or_parts (list_any (int_eq (pos 0)) clause) _ nonzero in
    let test : (is_candidate clause && pointwise int_eq (padded (literal_set clause)) (padded wrong)) ≡ has_exactly wrong clause =
    elim (cases_Bool (is_candidate clause)) [
      | inl candidate ↦ ap (λ b. is_candidate clause && b) (same_test (literal_set clause) wrong (set_key clause parts.0 candidate) is)
      | inr refused ↦ (λ i. refused i && pointwise int_eq (padded (literal_set clause)) (padded wrong))
          ∙ sym (λ i. refused i && pointwise int_eq (literal_set clause) wrong)
    ] in
    (λ i. cond (test i) (Some n) (first_same (n + 1) more wrong parts.1 is i))

-- there is one where some clause has them
pub first_stands : (n : ℕ) (clauses : List (List ℤ)) (wrong : List ℤ) → is_some (first_from n clauses wrong)
    ≡ list_any (has_exactly wrong) clauses
first_stands n [] wrong = refl
first_stands n (clause ∷ more) wrong = go (first_stands (n + 1) more wrong) (has_exactly wrong clause)
  where
    go : is_some (first_from (n + 1) more wrong) ≡ list_any (has_exactly wrong) more → (b : Bool)
        → is_some (cond b (Some n) (first_from (n + 1) more wrong)) ≡ (b || list_any (has_exactly wrong) more)
    go rest true = refl
    go rest false = rest

-- each of these lists is a key
abbrev pub AreKeys : List (List ℤ) → Type 0
AreKeys [] = Unit {0}
AreKeys (wrong ∷ more) = IsKey wrong × AreKeys more

module _ (clauses : List (List ℤ)) (index : Index) (of_clauses : IsIndexOf clauses index) where
  number_first : (wrong : List ℤ) → IsKey wrong → number_of index (padded wrong) ≡ first_from 1 clauses wrong
  number_first wrong is = of_clauses.each (padded wrong) ∙ first_same 1 clauses wrong of_clauses.nonzero is

  -- all are there
  pub numbers_all : (lists : List (List ℤ)) → AreKeys lists → list_all (λ wrong. list_any (has_exactly wrong) clauses) lists ≡ true
      → numbers_under index [] lists ≡ Some (map (λ wrong. unwrap_or (first_from 1 clauses wrong) 0) lists)
  numbers_all [] are all = refl
  numbers_all (wrong ∷ more) are all =
      let parts = and_parts (list_any (has_exactly wrong) clauses) _ all in
      (λ i. option_and_then (λ number. option_map (λ numbers. number ∷ numbers) (numbers_all more are.1 parts.1 i))
      (number_first wrong are.0 i)) ∙ go (first_from 1 clauses wrong) (first_stands 1 clauses wrong ∙ parts.0)
    where
      go : (found : Option ℕ) → is_some found ≡ true
          → option_and_then (λ number. option_map (λ numbers. number ∷ numbers) (Some
          (map (λ w. unwrap_or (first_from 1 clauses w) 0) more))) found
          ≡ Some (unwrap_or found 0 ∷ map (λ w. unwrap_or (first_from 1 clauses w) 0) more)
      go None is = absurd (let e : false ≡ true = is in cc)
      go (Some n) is = refl

  -- one is missing
  pub numbers_none : (lists : List (List ℤ)) → AreKeys lists → list_all (λ wrong. list_any (has_exactly wrong) clauses) lists ≡ false
      → numbers_under index [] lists ≡ None
  numbers_none [] are none = absurd (let e : true ≡ false = none in cc)
  numbers_none (wrong ∷ more) are none =
      ap (option_and_then (λ number. option_map (λ numbers. number ∷ numbers) (numbers_under index [] more))) (number_first wrong are.0)
      ∙ go (numbers_none more are.1) (first_from 1 clauses wrong) (list_any (has_exactly wrong) clauses) (first_stands 1 clauses wrong) none
    where
      go : (list_all (λ w. list_any (has_exactly w) clauses) more ≡ false → numbers_under index [] more ≡ None)
          → (found : Option ℕ) (b : Bool) → is_some found ≡ b → (b && list_all (λ w. list_any (has_exactly w) clauses) more) ≡ false
          → option_and_then (λ number. option_map (λ numbers. number ∷ numbers) (numbers_under index [] more)) found ≡ None
      go rest None b is all = refl
      go rest (Some n) true is all = ap (option_map (λ numbers. n ∷ numbers)) (rest all)
      go rest (Some n) false is all = absurd (let e : true ≡ false = is in cc)

-- lists of so many literals, none of which is 0
abbrev AreOf : ℕ → List (List ℤ) → Type 0
AreOf n [] = Unit {0}
AreOf n (wrong ∷ more) = (length wrong ≡ n) × ((list_any (int_eq (pos 0)) wrong ≡ false) × AreOf n more)

of_append : (n : ℕ) (lists others : List (List ℤ)) → AreOf n lists → AreOf n others → AreOf n (lists ++ others)
of_append n [] others are more = more
of_append n (wrong ∷ lists) others are more = (are.0, (are.1.0, of_append n lists others are.1.1 more))

of_with : (n : ℕ) (literal : ℤ) (lists : List (List ℤ)) → int_eq (pos 0) literal ≡ false → AreOf n lists
    → AreOf (suc n) (map (λ rest. literal ∷ rest) lists)
of_with n literal [] some are = tt
of_with n literal (wrong ∷ lists) some are =
    (ap suc are.0, ((λ i. some i || are.1.0 i), of_with n literal lists some are.1.1))

pub no_zero : (x : ℤ) → 0 < nat_abs x → int_eq (pos 0) x ≡ false
no_zero x some = elim (cases_Bool (int_eq (pos 0) x)) [
  | inl same ↦ absurd (let at = ap nat_abs ((Decides-int_eq (pos 0) x).0 same) in omega (arith, at, some))
  | inr differ ↦ differ
]

neg_size : (n : ℕ) → nat_abs (neg_ℤ (pos n)) ≡ n
neg_size zero = refl
neg_size (suc n) = refl

of_denied : (bit : Bool) (variables : List ℕ) → AreVariables variables → AreOf (length variables) (denied bit variables)
of_denied true [] are = (refl, (refl, tt))
of_denied false [] are = tt
of_denied bit (variable ∷ more) are =
    of_append (suc (length more)) (map (λ rest. pos variable ∷ rest) (denied bit more)) (map (λ rest. neg_ℤ (pos variable) ∷ rest)
    (denied (not bit) more))
    (of_with (length more) (pos variable) (denied bit more) (no_zero (pos variable) are.0) (of_denied bit more are.1.1))
    (of_with (length more) (neg_ℤ (pos variable)) (denied (not bit) more)
    (no_zero (neg_ℤ (pos variable)) (omega (arith, neg_size variable, are.0))) (of_denied (not bit) more are.1.1))

keys_of : (n : ℕ) (lists : List (List ℤ)) → n ≤ 8 → AreOf n lists → AreKeys lists
keys_of n [] few are = tt
keys_of n (wrong ∷ lists) few are = (record { few = omega (arith, few, are.0); nonzero = are.1.0 }, keys_of n lists few are.1.1)

pub denied_keys : (bit : Bool) (variables : List ℕ) → length variables ≤ 8 → AreVariables variables → AreKeys (denied bit variables)
denied_keys bit variables few are = keys_of (length variables) (denied bit variables) few (of_denied bit variables are)
