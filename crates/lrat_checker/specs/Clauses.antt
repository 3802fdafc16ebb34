-- How the live clauses are stored: short ones of usual numbers in chunks of 128 places, the others in a map.
use Rattle.std.specs.Prelude.{◌≡◌, ℕ, zero, suc, ◌<◌, ◌/◌, ◌%◌, ℤ, List, [], Option, None, Some, true, is_some, slice_index_or, take, min, ◌==◌, if◌then◌else◌}
use Rattle.std.specs.Coded.{Coded, coded_ℤ, coded_list, coded_option}
use Rattle.std.specs.FinMap as map
use Rattle.lrat_rules.specs.State.{Live, with_clause}
use Rattle.lrat_checker.specs.declared.slot.Slot.{Slot}

-- nothing, or a live clause
abbrev pub Place : Type 0
Place = Option (List ℤ)

-- a chunk's places, or none where it gave its memory back
abbrev pub Places : Type 0
Places = List Place

abbrev pub places_code : Coded Places
places_code = coded_list (coded_option (coded_list coded_ℤ))

-- what a slot holds
abbrev pub clause_in : Slot → Place
clause_in slot = if slot.len == 0 then None else Some (take (min slot.len 4) slot.literals)

-- what stands at a number's place in the chunks
abbrev pub near_at : List Places → ℕ → Place
near_at chunks number = slice_index_or (slice_index_or chunks (number / 128) []) (number % 128) None

-- the first of two, where it is a clause
abbrev pub or_else : Place → Place → Place
or_else None later = later
or_else (Some clause) later = Some clause

-- what stands under a number, in the chunks or else in the map
abbrev pub stands_at : (ℕ → Place) → (ℕ → Place) → ℕ → Place
stands_at near far number = or_else (near number) (far number)

-- a number's clause, where it has one
abbrev pub with_place : Live → ℕ → Place → Live
with_place live number None = live
with_place live number (Some clause) = with_clause live number clause

-- the clauses of the numbers below a bound
abbrev pub live_below : (ℕ → Place) → ℕ → Live
live_below at zero = map.empty
live_below at (suc n) = with_place (live_below at n) n (at n)

-- Nothing stands beyond the greatest number, and under no number twice.
pub record AreStored (near far : ℕ → Place) (top : ℕ) : Type 0 where
  pub beyond : (number : ℕ) → top < number → stands_at near far number ≡ None
  pub apart : (number : ℕ) → is_some (near number) ≡ true → far number ≡ None
