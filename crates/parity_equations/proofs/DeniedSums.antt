-- Where all denied lists hold the sum is the bit, and only there; and an equation's clauses are these.
use Rattle.std.proofs.Common.{◌≡◌, ◌∙◌, ◌<◌, ◌≤◌, ◌+◌, ◌-◌, ◌++◌, ◌&&◌, ◌||◌, ℕ, zero, suc, Bool, true, false, not, cond, ℤ, pos, neg_ℤ, List, [], ◌∷◌}
use Rattle.std.proofs.Common.{map, Some, refl, sym, ap, arith}
use Rattle.std.specs.Prelude.{slice_index_or}
use Rattle.std.specs.Bool.{beq}
use Rattle.std.specs.Cmp.Rules.{signed_items}
use Rattle.std.specs.List.{list_all, list_any}
use Rattle.std.specs.Option.{unwrap_or}
use Rattle.std.proofs.lemmas.Bool.{and_parts}
use Rattle.std.proofs.lemmas.List.Sorted.{list_any-IsPermutation}
use Rattle.cnf_base.specs.Truth.{Assignment, clause_holds, literal_holds}
use Rattle.parity_equations.specs.Conflict.{exclusive_or}
use Rattle.parity_equations.specs.Laws.{ArePositive}
use Rattle.parity_equations.specs.Equations.{AreClausesOf, denied, first_from, has_equation, has_exactly}
use Rattle.parity_equations.specs.LiteralSet.{is_candidate, literal_set}
use Rattle.parity_equations.specs.Sums.{all_hold, sum_over}
use Rattle.parity_equations.proofs.Sets.{any_of_set}

all_append : {X : Type 0} (test : X → Bool) (xs ys : List X) → list_all test (xs ++ ys) ≡ (list_all test xs && list_all test ys)
all_append test [] ys = refl
all_append test (x ∷ xs) ys = ap (λ b. test x && b) (all_append test xs ys) ∙ in_turn (test x) (list_all test xs) (list_all test ys)
  where
    in_turn : (a b c : Bool) → (a && (b && c)) ≡ ((a && b) && c)
    in_turn true b c = refl
    in_turn false b c = refl

-- clauses with one literal more
all_with : (a : Assignment) (literal : ℤ) (lists : List (List ℤ)) → list_all (clause_holds a) (map (λ rest. literal ∷ rest) lists)
    ≡ (literal_holds a literal || list_all (clause_holds a) lists)
all_with a literal [] = always (literal_holds a literal)
  where
    always : (b : Bool) → true ≡ (b || true)
    always true = refl
    always false = refl
all_with a literal (wrong ∷ lists) =
    ap (λ b. (literal_holds a literal || clause_holds a wrong) && b) (all_with a literal lists)
    ∙ apart (literal_holds a literal) (clause_holds a wrong) (list_all (clause_holds a) lists)
  where
    apart : (l c r : Bool) → ((l || c) && (l || r)) ≡ (l || (c && r))
    apart true c r = refl
    apart false c r = refl

negative : (a : Assignment) (variable : ℕ) → 0 < variable → literal_holds a (neg_ℤ (pos variable)) ≡ not (a variable)
negative a zero some = absurd (omega (arith, some))
negative a (suc n) some = refl

by_value : (v s bit : Bool) → ((v || beq s bit) && (not v || beq s (not bit))) ≡ beq (exclusive_or v s) bit
by_value true true true = refl
by_value true true false = refl
by_value true false true = refl
by_value true false false = refl
by_value false true true = refl
by_value false true false = refl
by_value false false true = refl
by_value false false false = refl

pub denied_sum : (a : Assignment) (bit : Bool) (variables : List ℕ) → ArePositive variables
    → list_all (clause_holds a) (denied bit variables) ≡ beq (sum_over variables a) bit
denied_sum a true [] are = refl
denied_sum a false [] are = refl
denied_sum a bit (variable ∷ more) are =
    all_append (clause_holds a) (map (λ rest. pos variable ∷ rest) (denied bit more))
    (map (λ rest. neg_ℤ (pos variable) ∷ rest) (denied (not bit) more))
    ∙ (λ i. all_with a (pos variable) (denied bit more) i && all_with a (neg_ℤ (pos variable)) (denied (not bit) more) i)
    ∙ (λ i. (a variable || denied_sum a bit more are.1 i) && (negative a variable are.0 i || denied_sum a (not bit) more are.1 i))
    ∙ by_value (a variable) (sum_over more a) bit

-- a clause that has exactly these literals holds where they do
exactly_holds : (a : Assignment) (wrong clause : List ℤ) → has_exactly wrong clause ≡ true → clause_holds a clause ≡ clause_holds a wrong
exactly_holds a wrong clause is =
    sym (any_of_set (literal_holds a) clause)
    ∙ ap (list_any (literal_holds a)) ((signed_items (literal_set clause) wrong).0 (and_parts (is_candidate clause) _ is).1)

-- the first of them
first_above : (m : ℕ) (clauses : List (List ℤ)) (literals : List ℤ) → list_any (has_exactly literals) clauses ≡ true
    → m ≤ unwrap_or (first_from m clauses literals) 0
first_above m [] literals has = absurd (let e : false ≡ true = has in cc)
first_above m (one ∷ others) literals has = go (first_above (m + 1) others literals) (has_exactly literals one) has
  where
    go : (list_any (has_exactly literals) others ≡ true → m + 1 ≤ unwrap_or (first_from (m + 1) others literals) 0)
        → (b : Bool) → (b || list_any (has_exactly literals) others) ≡ true
        → m ≤ unwrap_or (cond b (Some m) (first_from (m + 1) others literals)) 0
    go further true has_one = omega arith
    go further false has_one = let above = further has_one in omega (arith, above)

first_holds : (a : Assignment) (n : ℕ) (clauses : List (List ℤ)) (wrong : List ℤ) → list_any (has_exactly wrong) clauses ≡ true
    → clause_holds a (slice_index_or clauses (unwrap_or (first_from n clauses wrong) 0 - n) []) ≡ clause_holds a wrong
first_holds a n [] wrong has = absurd (let e : false ≡ true = has in cc)
first_holds a n (clause ∷ more) wrong has =
    go (first_holds a (n + 1) more wrong) (first_above (n + 1) more wrong) (has_exactly wrong clause) refl has
  where
    go : (list_any (has_exactly wrong) more ≡ true
        → clause_holds a (slice_index_or more (unwrap_or (first_from (n + 1) more wrong) 0 - (n + 1)) []) ≡ clause_holds a wrong)
        → (list_any (has_exactly wrong) more ≡ true → n + 1 ≤ unwrap_or (first_from (n + 1) more wrong) 0)
        → (b : Bool) → has_exactly wrong clause ≡ b → (b || list_any (has_exactly wrong) more) ≡ true
        → clause_holds a (slice_index_or (clause ∷ more) (unwrap_or (cond b (Some n) (first_from (n + 1) more wrong)) 0 - n) [])
        ≡ clause_holds a wrong
    go rest above true is has_one =
        ap (λ k. clause_holds a (slice_index_or (clause ∷ more) k [])) (let e : n - n ≡ 0 = omega arith in e)
        ∙ exactly_holds a wrong clause is
    go rest above false is has_one =
        let further = above has_one in
        let back : unwrap_or (first_from (n + 1) more wrong) 0 - n ≡ suc (unwrap_or (first_from (n + 1) more wrong) 0 - (n + 1)) =
        omega (arith, further) in
        ap (λ k. clause_holds a (slice_index_or (clause ∷ more) k [])) back ∙ rest has_one

all_first : (a : Assignment) (clauses lists : List (List ℤ)) → list_all (λ wrong. list_any (has_exactly wrong) clauses) lists ≡ true
    → all_hold clauses (map (λ wrong. unwrap_or (first_from 1 clauses wrong) 0) lists) a ≡ list_all (clause_holds a) lists
all_first a clauses [] has = refl
all_first a clauses (wrong ∷ lists) has =
    let parts = and_parts (list_any (has_exactly wrong) clauses) _ has in
    (λ i. first_holds a 1 clauses wrong parts.0 i && all_first a clauses lists parts.1 i)

by_any : {X : Type 0} (test : X → Bool) (xs : List X) → list_all test xs ≡ not (list_any (λ x. not (test x)) xs)
by_any test [] = refl
by_any test (x ∷ xs) = ap (λ b. test x && b) (by_any test xs) ∙ go (test x) (list_any (λ y. not (test y)) xs)
  where
    go : (b c : Bool) → (b && not c) ≡ not (not b || c)
    go true c = refl
    go false c = refl

-- an equation's clauses hold exactly where its sum is its bit
pub clauses_say : (clauses : List (List ℤ)) (variables : List ℕ) (bit : Bool) (numbers : List ℕ) → ArePositive variables
    → has_equation clauses variables bit ≡ true → AreClausesOf clauses variables bit numbers → (a : Assignment)
    → all_hold clauses numbers a ≡ beq (sum_over variables a) bit
clauses_say clauses variables bit numbers are has own a =
    let test : ℕ → Bool = λ number. clause_holds a (slice_index_or clauses (number - 1) []) in
    let firsts = map (λ wrong. unwrap_or (first_from 1 clauses wrong) 0) (denied bit variables) in
    by_any test numbers ∙ ap not (sym (list_any-IsPermutation (λ n. not (test n)) firsts numbers own.each)) ∙ sym (by_any test firsts)
    ∙ all_first a clauses (denied bit variables) has ∙ denied_sum a bit variables are
