-- The value of digits, cut, from any digit on.
use Rattle.std.proofs.Common.{◌≡◌, ℕ, ◌+◌, ◌-◌, ◌*◌, ◌<◌, ◌≤◌, min, true, List, [], ◌∷◌, length, get_or, drop, refl, sym, ◌∙◌, ap}
use Rattle.std.proofs.Common.{arith, add-one, drop-cons}
use Rattle.std.specs.List.{list_all}
use Rattle.cnf_base.specs.Number.{is_digit, value_after}
use Rattle.text_scan.specs.Capped.{capped, cap}

-- cutting at each digit is cutting in the end
capped-value_after : (digits : List ℕ) (value : ℕ) → capped (value_after (capped value) digits) ≡ capped (value_after value digits)
capped-value_after [] value = omega arith
capped-value_after (digit ∷ digits) value =
    let e : capped (10 * capped value + (digit - 48)) ≡ capped (10 * value + (digit - 48)) = omega arith in
    sym (capped-value_after digits (10 * capped value + (digit - 48)))
    ∙ ap (λ n. capped (value_after n digits)) e
    ∙ capped-value_after digits (10 * value + (digit - 48))

-- all digits are one where those from here on are, and the value is that of those from here on
pub record IsNumeralFrom (digits : List ℕ) (at value : ℕ) : Type 0 where
  pub all : list_all is_digit (drop at digits) ≡ list_all is_digit digits
  pub value_is : capped (value_after value (drop at digits)) ≡ capped (value_after 0 digits)
  pub small : value ≤ cap

module _ (digits : List ℕ) (at value : ℕ) (from : IsNumeralFrom digits at value) (below : at < length digits) where
  front : drop at digits ≡ get_or digits at 0 ∷ drop (at + 1) digits
  front = rw (add-one at) (drop-cons digits at 0 below)

  -- one more digit
  pub one_more_digit : is_digit (get_or digits at 0) ≡ true → IsNumeralFrom digits (at
      + 1) (min (10 * value + (get_or digits at 0 - 48)) cap)
  one_more_digit one =
      let rest : List ℕ = drop (at + 1) digits in
      let digit : ℕ = get_or digits at 0 in
      let split : list_all is_digit (drop at digits) ≡ list_all is_digit rest = ap (list_all is_digit) front ∙ rw one refl in
      record {
        all = sym split ∙ from.all;
        value_is = capped-value_after rest (10 * value + (digit - 48)) ∙ ap (λ l. capped (value_after value l)) (sym front) ∙ from.value_is;
        small = omega arith;
      }
