-- In which clauses a literal stands, by lists of numbers. A list may have more numbers than those of live clauses.
use Rattle.std.specs.Prelude.{◌≡◌, ℕ, Bool, true, ℤ, List, [], is_some, nat_eq, IsTrue}
use Rattle.std.specs.List.{list_any, list_all}
use Rattle.std.specs.Option.{unwrap_or}
use Rattle.std.specs.Ordering.{int_eq}
use Rattle.std.specs.HashMap as hash
use Rattle.lrat_rules.specs.State.{Live, clause_at}
use Rattle.lrat_checker.specs.declared.counts.Counts.{Counts}
use Rattle.lrat_checker.specs.declared.holders.Holders.{Holders}
use Rattle.lrat_checker.specs.Counts.{AreCounted}
use Rattle.lrat_checker.specs.Walk.{passes_at}

abbrev pub has_number : ℕ → List ℕ → Bool
has_number number numbers = list_any (nat_eq number) numbers

-- a clause is live under this number
abbrev pub is_live : Live → ℕ → Bool
is_live live number = is_some (clause_at live number)

-- no number is lost
pub record KeepsNumbers (old new : List ℕ) : Type 0 where
  pub kept : (number : ℕ) → IsTrue (has_number number old) → IsTrue (has_number number new)

-- no number is lost under which a clause is live
pub record KeepsLive (live : Live) (old new : List ℕ) : Type 0 where
  pub kept : (number : ℕ) → IsTrue (is_live live number) → IsTrue (has_number number old) → IsTrue (has_number number new)

-- the numbers in the list of this literal
abbrev pub numbers_of : Holders → ℤ → List ℕ
numbers_of holders literal = unwrap_or (hash.get int_eq holders.lists literal) []

-- the number stands in the list of this literal
abbrev pub holds : Holders → ℕ → ℤ → Bool
holds holders number literal = has_number number (numbers_of holders literal)

-- no list loses a number
pub record KeepsAll (old new : Holders) : Type 0 where
  pub kept : (literal : ℤ) → KeepsNumbers (numbers_of old literal) (numbers_of new literal)

-- no list loses a number under which a clause is live
pub record KeepsAllLive (live : Live) (old new : Holders) : Type 0 where
  pub kept : (literal : ℤ) → KeepsLive live (numbers_of old literal) (numbers_of new literal)

-- the number stands in the list of each of these literals
abbrev pub is_entered : Holders → ℕ → List ℤ → Bool
is_entered holders number literals = list_all (holds holders number) literals

-- each live clause stands in the list of each of its literals
pub record IsIndexOf (holders : Holders) (live : Live) : Type 0 where
  pub found : (number : ℕ) → passes_at (is_entered holders) number (clause_at live number) ≡ true

-- The counts are of the live clauses, and the lists are an index of them where they are said to be one.
pub record AreFound (counts : Counts) (holders : Holders) (indexed : Bool) (live : Live) : Type 0 where
  pub counted : AreCounted counts live
  pub index : IsTrue indexed → IsIndexOf holders live
