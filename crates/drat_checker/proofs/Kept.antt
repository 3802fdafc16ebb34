-- What lists of numbers keep.
use Rattle.std.proofs.Common.{◌≡◌, ℕ, true, List, filter, nat_eq, ◌∙◌, subst}
use Rattle.std.proofs.lemmas.Map.Views.{any-filter_same, exact_unsigned_eq}
use Rattle.drat_checker.specs.declared.number_lists.NumberLists.{NumberLists}
use Rattle.drat_checker.specs.Places.{Places}
use Rattle.drat_checker.specs.Numbers.{KeepsLists, KeepsNumbers, KeepsRising, KeepsStanding, stands}

-- a filter keeps the numbers that pass it
pub standing_filter : (places : Places) (numbers : List ℕ) → KeepsStanding places numbers (filter (stands places) numbers)
standing_filter places numbers = record {
  kept = λ number alive h.
      any-filter_same (nat_eq number) (stands places) true (λ other e. subst (λ n. stands places n
      ≡ true) (exact_unsigned_eq number other e) alive) numbers ∙ h;
}

pub same-lists : (lists : NumberLists) → KeepsLists lists lists
same-lists lists = record { kept = λ key. record { kept = λ number h. h } }

pub same-numbers : (numbers : List ℕ) → KeepsNumbers numbers numbers
same-numbers numbers = record { kept = λ number h. h }

pub same-rising : (most : ℕ) (lists : NumberLists) → KeepsRising most lists lists
same-rising most lists = record { kept = λ key r. r }

pub rising-then : {most : ℕ} {a b c : NumberLists} → KeepsRising most a b → KeepsRising most b c → KeepsRising most a c
rising-then f g = record { kept = λ key r. g.kept key (f.kept key r) }
