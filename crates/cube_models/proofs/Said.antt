-- What a cube says of the variables, literal by literal.
use Rattle.std.proofs.Common.{◌≡◌, ℕ, zero, suc, ◌+◌, ◌-◌, ◌<◌, ◌≤◌, Bool, true, false, not, ◌&&◌, ℤ, pos, negsuc, List, [], ◌∷◌, length}
use Rattle.std.proofs.Common.{Option, None, Some, int_eq, refl, sym, ap, ◌∙◌, arith, inl, inr}
use Rattle.std.specs.Prelude.{nat_abs, nat_le, nat_lt, slice_index_or, slice_set, IsTrue}
use Rattle.std.specs.Bool.{beq}
use Rattle.std.specs.Int.{is_negative}
use Rattle.std.specs.List.{list_all, list_any}
use Rattle.std.proofs.lemmas.Bool.{and_parts, cases_eq, cases_lt, or_left, or_right, le-ltb, leb-true, ltb-true}
use Rattle.std.proofs.lemmas.Bool.Decides.{Decides-int_eq}
use Rattle.std.proofs.lemmas.List.{get_or-set_same, get_or-set_other, get_or_default, length-set}
use Rattle.cnf_base.specs.Cube.{cube_holds, is_consistent, is_denied}
use Rattle.cnf_base.specs.Truth.{Assignment, is_literal_of, literal_holds}
use Rattle.cube_models.specs.Way.{Assumes, allows, literal_with, sign_of}

pub all_at : {X : Type 0} (p : X → Bool) (xs : List X) (i : ℕ) (d : X) → list_all p xs ≡ true → i < length xs
    → p (slice_index_or xs i d) ≡ true
all_at p [] i d all small = absurd (omega (arith, small))
all_at p (x ∷ xs) zero d all small = (and_parts (p x) (list_all p xs) all).0
all_at p (x ∷ xs) (suc i) d all small = all_at p xs i d (and_parts (p x) (list_all p xs) all).1 (omega (arith, small))

pub from_each : {X : Type 0} (p : X → Bool) (xs : List X) → ((i : ℕ) (d : X) → i < length xs → p (slice_index_or xs i d) ≡ true)
    → list_all p xs ≡ true
from_each p [] each = refl
from_each p (x ∷ xs) each =
    let first : p x ≡ true = each zero x (omega arith) in
    let rest = from_each p xs (λ i d small. each (suc i) d (omega (arith, small))) in
    λ i. first i && rest i

among : (x : ℤ) (xs : List ℤ) (i : ℕ) → i < length xs → x ≡ slice_index_or xs i x → list_any (int_eq x) xs ≡ true
among x [] i small is = absurd (omega (arith, small))
among x (y ∷ ys) zero small is = or_left (int_eq x y) (list_any (int_eq x) ys) ((Decides-int_eq x y).1 is)
among x (y ∷ ys) (suc i) small is = or_right (int_eq x y) (list_any (int_eq x) ys) (among x ys i (omega (arith, small)) is)

-- a literal that holds says the value of its variable
not_negative : (x : ℕ) → is_negative (pos x) ≡ false
not_negative x = le-ltb x 0 (omega arith)

pub said_value : (a : Assignment) (literal : ℤ) → literal_holds a literal ≡ true → not (is_negative literal) ≡ a (nat_abs literal)
said_value a (pos n) holds = ap not (not_negative n) ∙ sym holds
said_value a (negsuc n) holds = by_value (a (suc n)) holds where
  by_value : (t : Bool) → not t ≡ true → false ≡ t
  by_value true e = e
  by_value false e = refl

pub value_said : (a : Assignment) (literal : ℤ) → not (is_negative literal) ≡ a (nat_abs literal) → literal_holds a literal ≡ true
value_said a (pos n) is = sym is ∙ ap not (not_negative n)
value_said a (negsuc n) is = ap not (sym is)

pub same_allowed : (s t : Bool) → s ≡ t → allows (Some s) t ≡ true
same_allowed true t is = ap (beq true) (sym is)
same_allowed false t is = ap (beq false) (sym is)

pub allowed_same : (s t : Bool) → allows (Some s) t ≡ true → s ≡ t
allowed_same true true is = refl
allowed_same true false is = sym is
allowed_same false true is = is
allowed_same false false is = refl

-- an assignment under which a consistent cube holds: those variables are true that stand in it
abbrev witness : List ℤ → Assignment
witness cube n = list_any (int_eq (pos n)) cube

literal_witnessed : (cube : List ℤ) (literal : ℤ) → list_any (int_eq literal) cube ≡ true → not (is_denied literal cube) ≡ true
    → literal_holds (witness cube) literal ≡ true
literal_witnessed cube (pos n) stands free = stands
literal_witnessed cube (negsuc n) stands free = free

witnessed : (cube : List ℤ) → is_consistent cube ≡ true → (i : ℕ) (d : ℤ) → i < length cube
    → literal_holds (witness cube) (slice_index_or cube i d) ≡ true
witnessed cube consistent i d small =
    let literal = slice_index_or cube i d in
    literal_witnessed cube literal (among literal cube i small (get_or_default cube i d literal small))
    (all_at (λ l. not (is_denied l cube)) cube i d consistent small)

-- a literal by its variable and its value
literal_is : (literal : ℤ) → literal_with (nat_abs literal) (not (is_negative literal)) ≡ literal
literal_is (pos n) = ap (λ (t : Bool). literal_with n (not t)) (not_negative n)
literal_is (negsuc n) = refl

same_value : (s t : Bool) → ◌≡◌ {A = Option Bool} (Some s) (Some t) → s ≡ t
same_value s t is = cc

-- One literal more is read.
pub Assumes-more : (vars : ℕ) (cube : List ℤ) (count : ℕ) (signs : List (Option Bool)) (literal : ℤ) (variable : ℕ) (value : Bool)
    → IsTrue (list_all (is_literal_of vars) cube) → IsTrue (is_consistent cube) → Assumes vars cube count signs → count < length cube
    → literal ≡ slice_index_or cube count literal → variable ≡ nat_abs literal → value ≡ not (is_negative literal)
    → Assumes vars cube (count + 1) (slice_set signs (variable - 1) (Some value))
Assumes-more vars cube count signs literal variable value within consistent known small is var_is value_is =
    let own : (a : Assignment) → cube_holds a cube ≡ true → literal_holds a literal ≡ true =
    λ a holds. ap (literal_holds a) is ∙ all_at (literal_holds a) cube count literal holds small in
    let range : is_literal_of vars literal ≡ true = ap (is_literal_of vars) is
    ∙ all_at (is_literal_of vars) cube count literal within small in
    let parts = and_parts (nat_lt 0 (nat_abs literal)) (nat_le (nat_abs literal) vars) range in
    let some : 0 < nat_abs literal = ltb-true 0 (nat_abs literal) parts.0 in
    let most : nat_abs literal ≤ vars = leb-true (nat_abs literal) vars parts.1 in
    let inside : variable - 1 < length signs = omega (arith, known.one_each, some, most, var_is) in
    let at_own : sign_of (slice_set signs (variable - 1) (Some value)) variable ≡ Some value =
    get_or-set_same signs (variable - 1) (Some value) None inside in
    record {
      one_each = length-set signs (variable - 1) (Some value) ∙ known.one_each;
      given = λ a holds other above. elim (cases_eq (other - 1) (variable - 1)) [
        | inl same ↦
            let as_own : other ≡ variable = omega (arith, same, above, some, var_is) in
            let said : value ≡ a other = value_is ∙ said_value a literal (own a holds) ∙ ap a (sym (as_own ∙ var_is)) in
            ap (λ (n : ℕ). allows (slice_index_or (slice_set signs (variable - 1) (Some value)) n None) (a other)) same
            ∙ ap (λ (o : Option Bool). allows o (a other)) at_own ∙ same_allowed value (a other) said
        | inr differ ↦
            ap (λ (o : Option Bool). allows o (a other)) (get_or-set_other signs (variable - 1) (other - 1) (Some value) None differ)
            ∙ known.given a holds other above
      ];
      said = λ i d early.
          let here = slice_index_or cube i d in
          let listed : i < length cube = omega (arith, early, small) in
          elim (cases_eq (nat_abs here - 1) (variable - 1)) [
            | inl same ↦
                let w = witness cube in
                let here_range : is_literal_of vars here ≡ true = all_at (is_literal_of vars) cube i d within listed in
                let here_parts = and_parts (nat_lt 0 (nat_abs here)) (nat_le (nat_abs here) vars) here_range in
                let here_some : 0 < nat_abs here = ltb-true 0 (nat_abs here) here_parts.0 in
                let as_own : nat_abs literal ≡ nat_abs here = omega (arith, same, some, here_some, var_is) in
                let one : not (is_negative literal) ≡ w (nat_abs literal) = said_value w literal
                (ap (literal_holds w) is ∙ witnessed cube consistent count literal small) in
                let two : not (is_negative here) ≡ w (nat_abs here) = said_value w here (witnessed cube consistent i d listed) in
                ap (λ (n : ℕ). slice_index_or (slice_set signs (variable - 1) (Some value)) n None) same ∙ at_own
                ∙ ap (λ (t : Bool). Some t) (value_is ∙ one ∙ ap w as_own ∙ sym two)
            | inr differ ↦
                get_or-set_other signs (variable - 1) (nat_abs here - 1) (Some value) None differ
                ∙ known.said i d (elim (cases_lt i count) [
                  | inl before ↦ before
                  | inr late ↦
                      let at_count : i ≡ count = omega (arith, early, late) in
                      let same_literal : here ≡ literal = ap (λ (n : ℕ). slice_index_or cube n d) at_count
                      ∙ get_or_default cube count d literal small ∙ sym is in
                      absurd (differ (ap (λ (n : ℕ). n - 1) (ap nat_abs same_literal ∙ sym var_is)))
                ])
          ];
      only = λ other other_value above is_said. elim (cases_eq (other - 1) (variable - 1)) [
        | inl same ↦
            let as_own : other ≡ nat_abs literal = omega (arith, same, above, some, var_is) in
            let own_value : value ≡ other_value = same_value value other_value
            (sym at_own ∙ ap (λ (n : ℕ). slice_index_or (slice_set signs (variable - 1) (Some value)) n None) (sym same) ∙ is_said) in
            let own_literal : literal_with other other_value ≡ literal =
            ap (λ (n : ℕ). literal_with n other_value) as_own ∙ ap (literal_with (nat_abs literal)) (sym own_value ∙ value_is)
            ∙ literal_is literal in
            ap (λ (l : ℤ). list_any (int_eq l) cube) own_literal ∙ among literal cube count small is
        | inr differ ↦ known.only other other_value above
            (sym (get_or-set_other signs (variable - 1) (other - 1) (Some value) None differ) ∙ is_said)
      ];
    }
