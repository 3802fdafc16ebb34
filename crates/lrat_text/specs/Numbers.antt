-- The numbers of a line as they are kept, cut at a bound above every identifier.
use Rattle.std.specs.Prelude.{◌≡◌, ℕ, ◌<◌, ◌≤◌, ℤ, pos, negsuc, nat_abs, Bool, true, false, ◌&&◌, List, length, map, take, slice_index_or, Option, nat_le}
use Rattle.std.specs.List.{list_all}
use Rattle.std.specs.Option.{option_map, option_and_then}
use Rattle.cnf_base.specs.declared.step.Step.{Step}
use Rattle.cnf_base.specs.declared.step.Step.TheVariants.{Delete}
use Rattle.cnf_base.specs.Number.{plain_number, signed_number}
use Rattle.cnf_base.specs.ProofText.{max_id, is_id, is_hint, is_zero, is_empty, given_if, split_at, addition_from}
use Rattle.text_scan.specs.Capped.{capped, capped_ℤ}

-- a plain number as a number with a sign
abbrev pub positive : ℕ → ℤ
positive n = pos (capped n)

abbrev pub signed_word : List ℕ → Option ℤ
signed_word bytes = option_map capped_ℤ (signed_number bytes)

abbrev pub plain_word : List ℕ → Option ℤ
plain_word bytes = option_map positive (plain_number bytes)

-- both of two lists, item by item
abbrev pub both : {X Y : Type 0} → (X → Y) → List X × List X → List Y × List Y
both f (before, after) = (map f before, map f after)

-- the deletion of these identifiers
abbrev pub deletion_with : ℕ → List ℤ × List ℤ → Option Step
deletion_with id (ids, rest) = given_if (nat_le id max_id && list_all is_hint ids && is_empty rest) (Delete id (map nat_abs ids))

abbrev pub deletion_from : ℕ → List ℤ → Option Step
deletion_from id numbers = option_and_then (deletion_with id) (split_at is_zero numbers)

abbrev pub addition_by : ℕ → List ℤ → Option Step
addition_by id numbers = option_and_then (addition_from id) (split_at is_zero numbers)

-- the numbers before the first zero, where all of them pass the test, and those behind it
abbrev pub ended_list : (ℤ → Bool) → List ℤ → Option (List ℤ × List ℤ)
ended_list test numbers = option_and_then (λ parts. given_if (list_all test parts.0) parts) (split_at is_zero numbers)

-- a positive number that is an identifier
abbrev pub is_positive_hint : ℤ → Bool
is_positive_hint (pos n) = is_id n
is_positive_hint (negsuc n) = false

-- So many numbers at the front are these identifiers, and the next one, if there is one, is none.
pub record IsIdFront (count : ℕ) (given : List ℕ) (numbers : List ℤ) : Type 0 where
  pub within : count ≤ length numbers
  pub all : list_all is_positive_hint (take count numbers) ≡ true
  pub given_are : given ≡ map nat_abs (take count numbers)
  pub stops : count < length numbers → is_positive_hint (slice_index_or numbers count (pos 0)) ≡ false
