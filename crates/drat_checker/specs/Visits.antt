-- What becomes of a number in the list of a literal that is false.
use Rattle.std.specs.Prelude.{◌≡◌, ◌⊎◌, ℕ, true, false, ℤ, List, Option, None, Some}
use Rattle.std.specs.Ordering.{int_eq}
use Rattle.lrat_rules.specs.Chain.{literals_of}
use Rattle.drat_checker.specs.declared.pair.Pair.{Pair}
use Rattle.drat_checker.specs.declared.watches.Visit.{Visit}
use Rattle.drat_checker.specs.declared.watches.Visit.TheVariants.{Stays, Gone, Moved, Last}
use Rattle.drat_checker.specs.Places.{Places, place_at}
use Rattle.drat_checker.specs.Watches.{Pairs, is_in, is_last, is_true, watches}

-- the clause that stands there watches another literal beside the one that it keeps
pub record IsMoved (places : Places) (pairs : Pairs) (literals : List ℤ) (literal : ℤ) (number : ℕ) (pair : Pair) : Type 0 where
  pub clause : List ℤ
  pub stands : place_at places number ≡ Some clause
  pub first : literals_of clause pair.first ≡ true
  pub second : literals_of clause pair.second ≡ true
  pub apart : int_eq pair.first pair.second ≡ false
  pub unfalse : literals_of literals pair.first ≡ false
  pub kept : watches pairs number pair.second ≡ true
  pub other : int_eq pair.second literal ≡ false

-- the clause that stands there has only this literal that isn't false, or none
pub record IsLast (places : Places) (literals : List ℤ) (number : ℕ) (other : ℤ) : Type 0 where
  pub clause : List ℤ
  pub stands : place_at places number ≡ Some clause
  pub held : literals_of clause other ≡ true
  pub last : is_last literals other clause ≡ true

abbrev pub VisitIs : Visit → Places → Pairs → List ℤ → ℤ → ℕ → Type 0
VisitIs Stays places pairs literals literal number =
    (clause : List ℤ) → place_at places number ≡ Some clause → is_true literals clause ≡ true
VisitIs Gone places pairs literals literal number =
    (clause : List ℤ) → place_at places number ≡ Some clause → watches pairs number literal ≡ false
VisitIs (Moved pair) places pairs literals literal number = IsMoved places pairs literals literal number pair
VisitIs (Last other) places pairs literals literal number = IsLast places literals number other

-- a pair has both literals
pub record IsBeside (pair : Option Pair) (literal other : ℤ) : Type 0 where
  pub own : Pair
  pub is : pair ≡ Some own
  pub sides : ((own.first ≡ literal) × (own.second ≡ other)) ⊎ ((own.second ≡ literal) × (own.first ≡ other))

-- the other literal that is watched, where this one is; nothing where it isn't
abbrev pub OtherOf : Option Pair → ℤ → Option ℤ → Type 0
OtherOf pair literal None = is_in pair literal ≡ false
OtherOf pair literal (Some other) = IsBeside pair literal other
