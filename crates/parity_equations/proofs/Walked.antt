-- The walk over the clauses, one clause on: it was no candidate, or its variables were seen, or its equations come.
use Rattle.std.proofs.Common.{◌≡◌, ◌∙◌, ◌<◌, ◌≤◌, ◌+◌, ◌++◌, ◌&&◌, ◌||◌, ◌^◌, ℕ, zero, suc, Bool, true, false, not, cond, ℤ, pos, nat_abs, neg_ℤ, List, [], ◌∷◌}
use Rattle.std.proofs.Common.{length, map, Option, None, Some, refl, sym, ap, subst, arith, inl, inr}
use Rattle.std.specs.Prelude.{Err, IsTrue, MatchOption, Ok, OnOk, Result, if◌then◌else◌, nat_eq, nat_lt, slice_index_or, IsPermutation}
use Rattle.std.specs.Cmp.Lexicographic.{pointwise}
use Rattle.std.specs.HashSet as bag
use Rattle.std.specs.List.{All, flat_map, list_all, list_any}
use Rattle.std.specs.Ordering.{int_eq}
use Rattle.std.proofs.lemmas.Bool.{and_parts, cases_Bool, cases_lt, leb-true, ltb-true, or_from, or_parts}
use Rattle.std.proofs.lemmas.List.{append_assoc, length-map, get_or_append_left, get_or_push}
use Rattle.std.proofs.lemmas.List.Sorted.{list_any-IsPermutation}
use Rattle.cnf_base.specs.Truth.{AreClausesOf as AreOver, is_literal_of}
use Rattle.arrayvec.specs.ArrayVec.{ArrayVec}
use Rattle.parity_equations.specs.declared.equations.Equation.{Equation}
use Rattle.parity_equations.specs.declared.index.Index.{Index}
use Rattle.parity_equations.specs.Denied.{AreVariables, HasSorted, numbers_under}
use Rattle.parity_equations.specs.Equations.{AreClausesOf, denied, equations_over, has_equation, sets_but}
use Rattle.parity_equations.specs.LiteralSet.{AreLiterals, has_both_signs, is_candidate, literal_set, variables_of, with_literal}
use Rattle.parity_equations.specs.Walk.{AreRisingUpTo, IsEquationOf, IsIndexOf, TakesClause, listed, sets_of}
use Rattle.parity_equations.specs.Places.{AreRising}
use Rattle.parity_equations.proofs.Places.{rising_with}
use Rattle.parity_equations.proofs.Sets.{any_of_set}
use Rattle.parity_equations.proofs.Numbered.{denied_keys, no_zero, numbers_all, numbers_none}

none_some : (numbers : List ℕ) → ◌≡◌ {A = Option (List ℕ)} None (Some numbers) → ⊥
none_some numbers is = cc

-- what the numbers say of an equation
module _ (clauses : List (List ℤ)) (index : Index) (of_clauses : IsIndexOf clauses index) (variables : List ℕ) (bit : Bool)
    (few : length variables ≤ 8) (are : AreVariables variables) where
  pub not_had : numbers_under index [] (denied bit variables) ≡ None → has_equation clauses variables bit ≡ false
  not_had none = elim (cases_Bool (has_equation clauses variables bit)) [
    | inl has ↦ absurd (let all = numbers_all clauses index of_clauses (denied bit variables) (denied_keys bit variables few are) has in
        none_some _ (sym none ∙ all))
    | inr lacks ↦ lacks
  ]

  pub had : (numbers : List ℕ) → HasSorted (numbers_under index [] (denied bit variables)) numbers
      → (has_equation clauses variables bit ≡ true) × AreClausesOf clauses variables bit numbers
  had numbers sorted = elim (cases_Bool (has_equation clauses variables bit)) [
    | inl has ↦
        let all = numbers_all clauses index of_clauses (denied bit variables) (denied_keys bit variables few are) has in
        let own = subst (λ (found : Option (List ℕ)). HasSorted found numbers) all sorted in
        (has, record { each = own.0; rising = own.1 })
    | inr lacks ↦ absurd (subst (λ (found : Option (List ℕ)). HasSorted found numbers)
        (numbers_none clauses index of_clauses (denied bit variables) (denied_keys bit variables few are) lacks) sorted)
  ]

-- what is said of an option, where it is known
pub of_none : {X P : Type 0} (Q : X → Type 0) (found : Option X) → found ≡ None → MatchOption found P Q → P
of_none {X = X} {P = P} Q found is says = subst (λ (o : Option X). MatchOption o P Q) is says

pub of_some : {X : Type 0} (P : Type 0) (Q : X → Type 0) (found : Option X) (x : X) → found ≡ Some x → MatchOption found P Q → Q x
of_some {X = X} P Q found x is says = subst (λ (o : Option X). MatchOption o P Q) is says

-- what is said of an answer, from two facts
pub on_ok_both : {T E P Q R : Type 0} (r : Result T E) → (P → Q → R) → OnOk r P → OnOk r Q → OnOk r R
on_ok_both (Ok x) both one other = both one other
on_ok_both (Err e) both one other = tt

-- an equation over these variables
pub equation_of : (vars : ℕ) (clauses : List (List ℤ)) (equation : Equation) (variables : List ℕ) → equation.variables.items ≡ variables
    → 0 < length variables → AreRisingUpTo vars 1 variables
    → (has_equation clauses variables equation.bit ≡ true) × AreClausesOf clauses variables equation.bit equation.clauses.items
    → IsEquationOf vars clauses equation
equation_of vars clauses equation variables is some rising has = record {
  some = subst (λ (l : List ℕ). 0 < length l) (sym is) some;
  rising = subst (AreRisingUpTo vars 1) (sym is) rising;
  has = subst (λ (l : List ℕ). has_equation clauses l equation.bit ≡ true) (sym is) has.0;
  own = subst (λ (l : List ℕ). AreClausesOf clauses l equation.bit equation.clauses.items) (sym is) has.1;
}

-- both equations over some variables
pub both_pushed : (clauses : List (List ℤ)) (first second v : List ℕ) (old mid new : List Equation) → first ≡ v → second ≡ v
    → map listed mid ≡ map listed old ++ (if has_equation clauses first false then (first, false) ∷ [] else [])
    → map listed new ≡ map listed mid ++ (if has_equation clauses second true then (second, true) ∷ [] else [])
    → map listed new ≡ map listed old ++ equations_over clauses v
both_pushed clauses first second v old mid new is is_second one other =
    let over : List ℕ → Bool → List (List ℕ × Bool) = λ (w : List ℕ) (b : Bool). if has_equation clauses w b then (w, b) ∷ [] else [] in
    other ∙ (λ i. one i ++ over (is_second i) true) ∙ (λ i. (map listed old ++ over (is i) false) ++ over v true)
    ∙ append_assoc (map listed old) (over v false) (over v true)

-- one more of which something holds
pub all_more : {X : Type 0} (P : X → Type 0) (xs : List X) (x : X) → All P xs → P x → All P (xs ++ x ∷ [])
all_more {X = X} P xs x all own k d small = elim (cases_lt k (length xs)) [
  | inl before ↦ subst P (sym (get_or_append_left xs (x ∷ []) d k before)) (all k d before)
  | inr last ↦ subst P (sym (get_or_push xs x d k (let n = length_more xs x in omega (arith, n, small, last)))) own
]
  where
    length_more : (ys : List X) (y : X) → length (ys ++ y ∷ []) ≡ length ys + 1
    length_more [] y = omega arith
    length_more (z ∷ ys) y = let rest = length_more ys y in omega (arith, rest)

any_map : {X Y : Type 0} (test : Y → Bool) (f : X → Y) (xs : List X) → list_any test (map f xs) ≡ list_any (λ x. test (f x)) xs
any_map test f [] = refl
any_map test f (x ∷ xs) = ap (λ b. test (f x) || b) (any_map test f xs)

module _ {S : Type 0} (before after : bag.HashSet (ArrayVec ℕ) S) (variables : ArrayVec ℕ) where
  -- whether it is there
  pub seen_by : list_any (λ (other : ArrayVec ℕ). pointwise nat_eq variables.items other.items) (bag.keys before)
      ≡ list_any (pointwise nat_eq variables.items) (sets_of before)
  seen_by = sym (any_map (pointwise nat_eq variables.items) (λ other. other.items) (bag.keys before))

  -- one more
  pub seen_more : IsPermutation (variables ∷ bag.keys before) (bag.keys after) → (v : List ℕ)
      → list_any (pointwise nat_eq v) (sets_of after) ≡ (pointwise nat_eq v variables.items || list_any (pointwise nat_eq v)
      (sets_of before))
  seen_more more v =
      any_map (pointwise nat_eq v) (λ other. other.items) (bag.keys after)
      ∙ sym (list_any-IsPermutation (λ (other : ArrayVec ℕ). pointwise nat_eq v other.items) (variables ∷ bag.keys before)
      (bag.keys after) more)
      ∙ ap (λ b. pointwise nat_eq v variables.items || b) (sym (any_map (pointwise nat_eq v) (λ other. other.items) (bag.keys before)))

not_same : (b : Bool) → false ≡ not b → b ≡ true
not_same true is = refl
not_same false is = absurd (let e : false ≡ true = is in cc)

not_other : (b : Bool) → true ≡ not b → b ≡ false
not_other true is = absurd (let e : true ≡ false = is in cc)
not_other false is = refl

module _ {S : Type 0} (before : bag.HashSet (ArrayVec ℕ) S) (variables : ArrayVec ℕ) (v : List ℕ) (is : variables.items ≡ v) where
  -- what an insertion says of whether they were there
  pub seen_at : false ≡ not (list_any (λ (other : ArrayVec ℕ). pointwise nat_eq variables.items other.items) (bag.keys before))
      → list_any (pointwise nat_eq v) (sets_of before) ≡ true
  seen_at refused = ap (λ (w : List ℕ). list_any (pointwise nat_eq w) (sets_of before)) (sym is) ∙ sym (seen_by before before variables)
      ∙ not_same _ refused

  pub unseen_at : true ≡ not (list_any (λ (other : ArrayVec ℕ). pointwise nat_eq variables.items other.items) (bag.keys before))
      → list_any (pointwise nat_eq v) (sets_of before) ≡ false
  unseen_at added = ap (λ (w : List ℕ). list_any (pointwise nat_eq w) (sets_of before)) (sym is) ∙ sym (seen_by before before variables)
      ∙ not_other _ added

pub seen_more_at : {S : Type 0} (before after : bag.HashSet (ArrayVec ℕ) S) (variables : ArrayVec ℕ) (v : List ℕ) → variables.items ≡ v
    → IsPermutation (variables ∷ bag.keys before) (bag.keys after) → (w : List ℕ)
    → list_any (pointwise nat_eq w) (sets_of after) ≡ (pointwise nat_eq w v || list_any (pointwise nat_eq w) (sets_of before))
seen_more_at before after variables v is more w = seen_more before after variables more w
    ∙ ap (λ (u : List ℕ). pointwise nat_eq w u || list_any (pointwise nat_eq w) (sets_of before)) is

-- the sets to come don't depend on the order of those seen
pub same_sets : (clauses : List (List ℤ)) (seen other : List (List ℕ))
    → ((v : List ℕ) → list_any (pointwise nat_eq v) seen ≡ list_any (pointwise nat_eq v) other)
    → sets_but seen clauses ≡ sets_but other clauses
same_sets [] seen other same = refl
same_sets (clause ∷ more) seen other same =
    let v = variables_of clause in
    (λ i. cond (is_candidate clause && not (same v i)) (v ∷ sets_but (v ∷ seen) more) (sets_but seen more))
    ∙ (λ i. cond (is_candidate clause && not (list_any (pointwise nat_eq v) other))
    (v ∷ same_sets more (v ∷ seen) (v ∷ other) (λ w k. pointwise nat_eq w v || same w k) i) (same_sets more seen other same i))

module _ (clauses : List (List ℤ)) (clause : List ℤ) (before after : List (List ℕ)) (old new : List Equation) where
  -- no candidate
  pub takes_none : is_candidate clause ≡ false → after ≡ before → new ≡ old → TakesClause clauses clause before after old new
  takes_none refused same_seen same = record {
    walked = λ more. (λ i. map listed (same i) ++ flat_map (equations_over clauses) (sets_but (same_seen i) more))
        ∙ sym (λ i. map listed old ++ flat_map (equations_over clauses)
        (cond (refused i && not (list_any (pointwise nat_eq (variables_of clause)) before))
        (variables_of clause ∷ sets_but (variables_of clause ∷ before) more) (sets_but before more)));
    kept = λ vars over all. subst (λ (l : List Equation). All (IsEquationOf vars clauses) l) (sym same) all;
  }

  -- its variables were seen
  pub takes_seen : is_candidate clause ≡ true → list_any (pointwise nat_eq (variables_of clause)) before ≡ true → after ≡ before → new ≡ old
      → TakesClause clauses clause before after old new
  takes_seen candidate seen same_seen same = record {
    walked = λ more. (λ i. map listed (same i) ++ flat_map (equations_over clauses) (sets_but (same_seen i) more))
        ∙ sym (λ i. map listed old ++ flat_map (equations_over clauses) (cond (candidate i && not (seen i))
        (variables_of clause ∷ sets_but (variables_of clause ∷ before) more) (sets_but before more)));
    kept = λ vars over all. subst (λ (l : List Equation). All (IsEquationOf vars clauses) l) (sym same) all;
  }

  -- they come
  pub takes_new : is_candidate clause ≡ true → list_any (pointwise nat_eq (variables_of clause)) before ≡ false
      → ((v : List ℕ) → list_any (pointwise nat_eq v) after ≡ (pointwise nat_eq v (variables_of clause) || list_any
      (pointwise nat_eq v) before))
      → map listed new ≡ map listed old ++ equations_over clauses (variables_of clause)
      → ((vars : ℕ) → IsTrue (list_all (is_literal_of vars) clause) → All (IsEquationOf vars clauses) old
      → All (IsEquationOf vars clauses) new)
      → TakesClause clauses clause before after old new
  takes_new candidate unseen now gained kept = record {
    walked = λ more.
        let v = variables_of clause in
        let f = equations_over clauses in
        (λ i. gained i ++ flat_map f (same_sets more after (v ∷ before) now i))
        ∙ append_assoc (map listed old) (f v) (flat_map f (sets_but (v ∷ before) more))
        ∙ sym (λ i. map listed old ++ flat_map f (cond (candidate i && not (unseen i)) (v ∷ sets_but (v ∷ before) more)
        (sets_but before more)));
    kept = kept;
  }

-- variables of literals
literals_with : (literal : ℤ) (set : List ℤ) → (0 < nat_abs literal) × (nat_abs literal < 2 ^ 31) → AreLiterals set
    → AreLiterals (with_literal literal set)
literals_with literal [] own are = (own.0, (own.1, tt))
literals_with literal (first ∷ more) own are =
    go (literals_with literal more own are.1.1) (nat_lt (nat_abs literal) (nat_abs first)) (int_eq literal first)
  where
    go : AreLiterals (with_literal literal more) → (less same : Bool) → AreLiterals
        (cond less (literal ∷ first ∷ more) (cond same (first ∷ more) (first ∷ with_literal literal more)))
    go rest true same = (own.0, (own.1, are))
    go rest false true = are
    go rest false false = (are.0, (are.1.0, rest))

set_literals : (clause : List ℤ) → AreLiterals clause → AreLiterals (literal_set clause)
set_literals [] are = tt
set_literals (literal ∷ more) are = literals_with literal (literal_set more) (are.0, are.1.0) (set_literals more are.1.1)

abs_variables : (set : List ℤ) → AreLiterals set → AreVariables (map nat_abs set)
abs_variables [] are = tt
abs_variables (literal ∷ more) are = (are.0, (are.1.0, abs_variables more are.1.1))

pub are_variables : (clause : List ℤ) → AreLiterals clause → AreVariables (variables_of clause)
are_variables clause are = abs_variables (literal_set clause) (set_literals clause are)

pub few_variables : (clause : List ℤ) → is_candidate clause ≡ true → length (literal_set clause) ≤ 8
few_variables clause is =
    let parts = and_parts (not (has_both_signs clause)) _ is in
    leb-true (length (literal_set clause)) 8 (and_parts (nat_lt 0 (length (literal_set clause))) _ parts.1).1

-- a formula's literals
over_literals : (vars : ℕ) (clause : List ℤ) → vars < 2 ^ 31 → list_all (is_literal_of vars) clause ≡ true → AreLiterals clause
over_literals vars [] small over = tt
over_literals vars (literal ∷ more) small over =
    let parts = and_parts (is_literal_of vars literal) _ over in
    let own = and_parts (nat_lt 0 (nat_abs literal)) _ parts.0 in
    let within = leb-true (nat_abs literal) vars own.1 in
    (ltb-true 0 (nat_abs literal) own.0, (omega (arith, within, small), over_literals vars more small parts.1))

pub clause_literals : (vars : ℕ) (clauses : List (List ℤ)) (i : ℕ) (d : List ℤ) → vars < 2 ^ 31 → AreOver vars clauses → i < length clauses
    → AreLiterals (slice_index_or clauses i d)
clause_literals vars [] i d small over within = absurd (omega (arith, within))
clause_literals vars (clause ∷ more) zero d small over within =
    over_literals vars clause small (and_parts (list_all (is_literal_of vars) clause) _ over).0
clause_literals vars (clause ∷ more) (suc i) d small over within =
    clause_literals vars more i d small (and_parts (list_all (is_literal_of vars) clause) _ over).1 (omega (arith, within))

no_zero_among : (vars : ℕ) (clause : List ℤ) → list_all (is_literal_of vars) clause ≡ true → list_any (int_eq (pos 0)) clause ≡ false
no_zero_among vars [] over = refl
no_zero_among vars (literal ∷ more) over =
    let parts = and_parts (is_literal_of vars literal) _ over in
    or_from (int_eq (pos 0) literal) _ (no_zero literal (ltb-true 0 (nat_abs literal) (and_parts (nat_lt 0 (nat_abs literal)) _ parts.0).0))
    (no_zero_among vars more parts.1)

pub none_zero : (vars : ℕ) (clauses : List (List ℤ)) → AreOver vars clauses → list_any (list_any (int_eq (pos 0))) clauses ≡ false
none_zero vars [] over = refl
none_zero vars (clause ∷ more) over =
    let parts = and_parts (list_all (is_literal_of vars) clause) _ over in
    or_from (list_any (int_eq (pos 0)) clause) _ (no_zero_among vars clause parts.0) (none_zero vars more parts.1)

-- a candidate's variables rise, from 1 to the last one of the formula
set_rises : (clause : List ℤ) → AreLiterals clause → has_both_signs clause ≡ false → AreRising 0 (literal_set clause)
set_rises [] are none = tt
set_rises (literal ∷ more) are none =
    let parts = or_parts (list_any (int_eq (neg_ℤ literal)) more) (has_both_signs more) none in
    rising_with literal 0 (literal_set more) (set_rises more are.1.1 parts.1) (omega arith)
    (any_of_set (int_eq (neg_ℤ literal)) more ∙ parts.0)

-- literals up to a last variable
abbrev AreUpTo : ℕ → List ℤ → Type 0
AreUpTo vars [] = Unit {0}
AreUpTo vars (literal ∷ more) = (0 < nat_abs literal) × ((nat_abs literal ≤ vars) × AreUpTo vars more)

up_to_with : (vars : ℕ) (literal : ℤ) (set : List ℤ) → (0 < nat_abs literal) × (nat_abs literal ≤ vars) → AreUpTo vars set
    → AreUpTo vars (with_literal literal set)
up_to_with vars literal [] own are = (own.0, (own.1, tt))
up_to_with vars literal (first ∷ more) own are =
    go (up_to_with vars literal more own are.1.1) (nat_lt (nat_abs literal) (nat_abs first)) (int_eq literal first)
  where
    go : AreUpTo vars (with_literal literal more) → (less same : Bool)
        → AreUpTo vars (cond less (literal ∷ first ∷ more) (cond same (first ∷ more) (first ∷ with_literal literal more)))
    go rest true same = (own.0, (own.1, are))
    go rest false true = are
    go rest false false = (are.0, (are.1.0, rest))

set_up_to : (vars : ℕ) (clause : List ℤ) → list_all (is_literal_of vars) clause ≡ true → AreUpTo vars (literal_set clause)
set_up_to vars [] over = tt
set_up_to vars (literal ∷ more) over =
    let parts = and_parts (is_literal_of vars literal) _ over in
    let own = and_parts (nat_lt 0 (nat_abs literal)) _ parts.0 in
    up_to_with vars literal (literal_set more) (ltb-true 0 (nat_abs literal) own.0, leb-true (nat_abs literal) vars own.1)
    (set_up_to vars more parts.1)

rising_up_to : (vars first : ℕ) (set : List ℤ) → AreRising first set → AreUpTo vars set → AreRisingUpTo vars first (map nat_abs set)
rising_up_to vars first [] rising are = tt
rising_up_to vars first (literal ∷ more) rising are =
    (rising.0, (are.1.0, rising_up_to vars (nat_abs literal + 1) more rising.1 are.1.1))

some_first : (set : List ℤ) (vars : ℕ) → AreUpTo vars set → AreRising 0 set → AreRising 1 set
some_first [] vars are rising = tt
some_first (literal ∷ more) vars are rising = (omega (arith, are.0), rising.1)

pub rising_variables : (vars : ℕ) (clause : List ℤ) → AreLiterals clause → is_candidate clause ≡ true
    → list_all (is_literal_of vars) clause ≡ true → AreRisingUpTo vars 1 (variables_of clause)
rising_variables vars clause are is over =
    let parts = and_parts (not (has_both_signs clause)) _ is in
    let none : has_both_signs clause ≡ false = not_not (has_both_signs clause) parts.0 in
    let within = set_up_to vars clause over in
    rising_up_to vars 1 (literal_set clause) (some_first (literal_set clause) vars within (set_rises clause are none)) within
  where
    not_not : (b : Bool) → not b ≡ true → b ≡ false
    not_not true is = absurd (let e : false ≡ true = is in cc)
    not_not false is = refl

pub some_variables : (clause : List ℤ) → is_candidate clause ≡ true → 0 < length (variables_of clause)
some_variables clause is =
    let parts = and_parts (not (has_both_signs clause)) _ is in
    let some = ltb-true 0 (length (literal_set clause)) (and_parts (nat_lt 0 (length (literal_set clause))) _ parts.1).0 in
    omega (arith, some, length-map (literal_set clause) nat_abs)

-- what an equation adds, by whether the formula has it
pub found_more : (before : List (List ℕ × Bool)) (equation : List ℕ × Bool) (b has : Bool) → has ≡ b
    → before ++ cond b (equation ∷ []) [] ≡ before ++ cond has (equation ∷ []) []
found_more before equation b has is = ap (λ x. before ++ cond x (equation ∷ []) []) (sym is)

-- a clause's literals are of the formula's variables
pub over_at : (vars : ℕ) (clauses : List (List ℤ)) (i : ℕ) (d : List ℤ) → AreOver vars clauses → i < length clauses
    → list_all (is_literal_of vars) (slice_index_or clauses i d) ≡ true
over_at vars [] i d over within = absurd (omega (arith, within))
over_at vars (clause ∷ more) zero d over within = (and_parts (list_all (is_literal_of vars) clause) _ over).0
over_at vars (clause ∷ more) (suc i) d over within =
    over_at vars more i d (and_parts (list_all (is_literal_of vars) clause) _ over).1 (omega (arith, within))
