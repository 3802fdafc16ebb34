-- The clauses that stand, by their numbers: the number of a clause is its place, and a place is empty once its clause is deleted.
use Rattle.std.specs.Prelude.{◌≡◌, ℕ, ◌≤◌, min, Bool, true, false, ℤ, List, [], ◌∷◌, Option, None, Some, slice_index_or}
use Rattle.drat_rules.specs.Clauses.{Equality}
use Rattle.std.specs.Coded.{Coded, coded_ℤ, coded_list, coded_option}

-- nothing, or a clause
abbrev pub Place : Type 0
Place = Option (List ℤ)

abbrev pub Places : Type 0
Places = List Place

abbrev pub places_code : Coded Places
places_code = coded_list (coded_option (coded_list coded_ℤ))

-- the clause of a number
abbrev pub place_at : Places → ℕ → Place
place_at places number = slice_index_or places number None

-- with the clause of a place in front, where it has one
abbrev pub with_place : Place → List (List ℤ) → List (List ℤ)
with_place None clauses = clauses
with_place (Some clause) clauses = clause ∷ clauses

-- the clauses in the order of their numbers
abbrev pub standing : Places → List (List ℤ)
standing [] = []
standing (place ∷ places) = with_place place (standing places)

-- no number at all, or one that isn't greater
abbrev pub IsAtMost : Option ℕ → ℕ → Type 0
IsAtMost None number = ⊥
IsAtMost (Some least) number = least ≤ number

-- the place has a clause that is told to be this one
abbrev pub is_twin : Equality → List ℤ → Place → Bool
is_twin same clause None = false
is_twin same clause (Some own) = same clause own

-- The clause of this number is told to be that one, and no clause of a lesser number is.
pub record IsFirst (same : Equality) (clause : List ℤ) (places : Places) (number : ℕ) : Type 0 where
  pub own : List ℤ
  pub stands : place_at places number ≡ Some own
  pub twin : same clause own ≡ true
  pub least : (n : ℕ) (other : List ℤ) → place_at places n ≡ Some other → same clause other ≡ true → number ≤ n

-- no clause is
pub record IsNone (same : Equality) (clause : List ℤ) (places : Places) : Type 0 where
  pub absent : (number : ℕ) (other : List ℤ) → place_at places number ≡ Some other → same clause other ≡ false

-- the lesser of two numbers, or the only one
abbrev pub lesser : Option ℕ → ℕ → Option ℕ
lesser None number = Some number
lesser (Some least) number = Some (min least number)

abbrev pub lesser_of : Option ℕ → Option ℕ → Option ℕ
lesser_of least None = least
lesser_of least (Some number) = lesser least number
