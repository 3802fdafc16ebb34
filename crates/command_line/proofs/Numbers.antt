-- What `parse` reads of a text of at most 18 bytes without a plus sign is the number that its digits spell.
use Rattle.std.proofs.Common.{true≢false, ap₂, ◌≡◌, ◌≢◌, ℕ, ◌≤◌, ◌<◌, ◌^◌, Bool, true, false, List, [], ◌∷◌, length, Some, None, Ok, Err}
use Rattle.std.proofs.Common.{refl, sym, ap, ◌∙◌, arith, rules, slice_index}
use Rattle.std.specs.Prelude.{Option, if◌then◌else◌, ◌==◌, ◌&&◌, nat_le, ⊤}
use Rattle.std.specs.Option.{option_and_then}
use borrow.Author.Tests.{eq-eqb, le-leb, lt-leb}
use Rattle.std.specs.List.{list_all}
use Rattle.std.specs.Str.Parse.{ParsesUnsigned}
use Rattle.std.proofs.lemmas.Str.Parse.{IsNumeralModel, digits_value_short, numerals_by_fold, parse_plain}
use Rattle.cnf_base.specs.Number.{is_digit, numeral_value, value_after}
use Rattle.command_line.specs.Command.{in_range, number_within}

digits : IsNumeralModel (λ ds. list_all is_digit ds ≡ true) (value_after 0)
digits = numerals_by_fold _ (search rules) value_after (search rules)

abbrev if_so : Bool → ℕ → Option ℕ
if_so are n = if are then Some n else None

pub read_number : (text : List ℕ) (n : ℕ) → ParsesUnsigned {E = ⊤} 64 10 text (Ok n) → slice_index text 0 ≢ 43 → numeral_value text ≡ Some n
read_number text n parses unsigned = spelled text (parse_plain digits {E = ⊤} 64 text (Ok n) parses unsigned) where
  spelled : (text : List ℕ) → ((list_all is_digit text ≡ true) × (0 < length text) × (value_after 0 text < 2 ^ 64))
      × (n ≡ value_after 0 text) → numeral_value text ≡ Some n
  spelled [] is = absurd (omega (arith, is.0.1))
  spelled (byte ∷ bytes) is = ap (λ (b : Bool). if_so b (value_after 0 (byte ∷ bytes))) is.0.0 ∙ ap (λ (m : ℕ). Some m) (sym is.1)

pub read_none : (E : Type 0) (text : List ℕ) (error : E) → ParsesUnsigned 64 10 text (Err error) → slice_index text 0 ≢ 43 → length text
    ≤ 18 → numeral_value text ≡ None
read_none E text error parses unsigned short = spelled text short (parse_plain digits {E = E} 64 text (Err error) parses unsigned) where
  spelled : (text : List ℕ) → length text ≤ 18 → ((list_all is_digit text ≡ true) × (0 < length text) × (value_after 0 text < 2 ^ 64) → ⊥)
      → numeral_value text ≡ None
  spelled [] short fails = refl
  spelled (byte ∷ bytes) short fails = elim (list_all is_digit (byte ∷ bytes)) as (λ are. list_all is_digit (byte ∷ bytes) ≡ are
      → if_so are (value_after 0 (byte ∷ bytes)) ≡ None) [
        | true ↦ λ are. absurd (fails (are, omega arith, omega (arith, digits_value_short digits (byte ∷ bytes) 18 are short)))
        | false ↦ λ are. refl
      ] refl

abbrev at_most_18 : Bool → Option ℕ → Option ℕ
at_most_18 short n = if short then n else None

abbrev within_by : ℕ → ℕ → Option ℕ → Option ℕ
within_by least greatest n = option_and_then (in_range least greatest) n

-- the value is in the range, below the least, above the greatest, or there is none
pub number_inside : (least greatest : ℕ) (text : List ℕ) (n : ℕ) → length text ≤ 18 → numeral_value text ≡ Some n → least ≤ n → n ≤ greatest
    → number_within least greatest text ≡ Some n
number_inside least greatest text n short is from upto =
    ap₂ at_most_18 (le-leb _ _ short) (ap (within_by least greatest) is
    ∙ ap₂ (λ (b c : Bool). if_so (b && c) n) (le-leb _ _ from) (le-leb _ _ upto))

pub number_below : (least greatest : ℕ) (text : List ℕ) (n : ℕ) → length text ≤ 18 → numeral_value text ≡ Some n → n < least
    → number_within least greatest text ≡ None
number_below least greatest text n short is below =
    ap₂ at_most_18 (le-leb _ _ short) (ap (within_by least greatest) is
    ∙ ap (λ (b : Bool). if_so (b && nat_le n greatest) n) (lt-leb _ _ below))

pub number_above : (least greatest : ℕ) (text : List ℕ) (n : ℕ) → length text ≤ 18 → numeral_value text ≡ Some n → least ≤ n → greatest < n
    → number_within least greatest text ≡ None
number_above least greatest text n short is from above =
    ap₂ at_most_18 (le-leb _ _ short) (ap (within_by least greatest) is
    ∙ ap₂ (λ (b c : Bool). if_so (b && c) n) (le-leb _ _ from) (lt-leb _ _ above))

pub no_number : (least greatest : ℕ) (text : List ℕ) → length text ≤ 18 → numeral_value text ≡ None → number_within least greatest text
    ≡ None
no_number least greatest text short is = ap₂ at_most_18 (le-leb _ _ short) (ap (within_by least greatest) is)

-- what the test of the first byte says
pub no_plus : (text : List ℕ) (starts : Bool) → starts ≡ (slice_index text 0 == 43) → starts ≡ false → slice_index text 0 ≢ 43
no_plus text starts is not e = true≢false (sym (is ∙ eq-eqb _ 43 e) ∙ not)
