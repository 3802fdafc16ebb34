-- In which lists the number of a clause that stands is found.
use Rattle.std.specs.Prelude.{◌≡◌, ℕ, ◌+◌, ◌*◌, ◌%◌, max, Bool, true, false, not, ℤ, List, [], ◌∷◌, Some, length}
use Rattle.lrat_rules.specs.Chain.{literals_of}
use Rattle.lrat_rules.specs.ByLiteral.{place_of}
use Rattle.drat_rules.specs.Quiet.{closed_under}
use Rattle.drat_checker.specs.declared.number_lists.NumberLists.{NumberLists}
use Rattle.drat_checker.specs.Places.{Places, place_at}
use Rattle.drat_checker.specs.Numbers.{AreRising, has_number, numbers_of}

-- propagation on the clause finds something where no literal is false: it is empty, or has one literal, however often
abbrev pub is_short : List ℤ → Bool
is_short clause = not (closed_under (λ _. false) clause)

-- a literal's place, mixed
abbrev pub mixed : ℕ → ℤ → ℕ
mixed shift x = (place_of x * 2654435761 + shift) % 4294967291

-- the greatest of the mixed places of a clause: neither their order nor a repetition matters
abbrev pub greatest : ℕ → List ℤ → ℕ
greatest shift [] = 0
greatest shift (x ∷ xs) = max (mixed shift x) (greatest shift xs)

abbrev pub joined : ℕ → ℕ → ℕ
joined hash more = (hash * 1000003 + more) % 4294967291

-- a number for a clause, by which clauses are told apart but for few; one and the same for the same set of literals
abbrev pub hash_of : List ℤ → ℕ
hash_of clause =
    joined (joined (joined (greatest 0 clause) (greatest 1073741823 clause)) (greatest 2147483647 clause)) (greatest 3221225471 clause)

-- the number is in the list of each of these literals
pub record IsHeld (by_literal : NumberLists) (number : ℕ) (clause : List ℤ) : Type 0 where
  pub held : (x : ℤ) → literals_of clause x ≡ true → has_number number (numbers_of by_literal (place_of x)) ≡ true

-- Each clause that stands is in the list of each of its literals, in that of its hash, and among the short ones where it is short. The lists
-- by literals rise, up to the next number, which they may have where a clause was refused.
pub record IsIndexed (by_literal by_hash : NumberLists) (shorts : List ℕ) (places : Places) : Type 0 where
  pub held : (number : ℕ) (clause : List ℤ) → place_at places number ≡ Some clause → IsHeld by_literal number clause
  pub hashed : (number : ℕ) (clause : List ℤ) → place_at places number ≡ Some clause
      → has_number number (numbers_of by_hash (hash_of clause)) ≡ true
  pub short : (number : ℕ) (clause : List ℤ) → place_at places number ≡ Some clause → is_short clause ≡ true
      → has_number number shorts ≡ true
  pub rising : (key : ℕ) → AreRising (length places) (numbers_of by_literal key)
