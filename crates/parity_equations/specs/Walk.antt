-- The walk over a formula's clauses that finds its equations.
use Rattle.std.specs.Prelude.{◌≡◌, ◌≤◌, ◌<◌, ◌+◌, ◌++◌, ℕ, ℤ, Bool, true, false, List, [], ◌∷◌, IsTrue, length, map, pos, ⊤}
use Rattle.std.specs.HashSet as bag
use Rattle.std.specs.List.{All, flat_map, list_all, list_any}
use Rattle.std.specs.Ordering.{int_eq}
use Rattle.cnf_base.specs.Truth.{is_literal_of}
use Rattle.arrayvec.specs.ArrayVec.{ArrayVec}
use Rattle.parity_equations.specs.declared.equations.Equation.{Equation}
use Rattle.parity_equations.specs.declared.index.Index.{Index}
use Rattle.parity_equations.specs.Equations.{AreClausesOf, equations_over, has_equation, sets_but}
use Rattle.parity_equations.specs.Index.{first_under, number_of}

-- an equation's variables and bit
abbrev pub listed : Equation → List ℕ × Bool
listed equation = (equation.variables.items, equation.bit)

-- rising variables from this one on, up to a last one
abbrev pub AreRisingUpTo : ℕ → ℕ → List ℕ → Type 0
AreRisingUpTo last first [] = ⊤
AreRisingUpTo last first (variable ∷ more) = (first ≤ variable) × ((variable ≤ last) × AreRisingUpTo last (variable + 1) more)

-- It is an equation of these clauses, over some variables from 1 up to the last one, with its own clauses.
pub record IsEquationOf (vars : ℕ) (clauses : List (List ℤ)) (equation : Equation) : Type 0 where
  pub some : 0 < length equation.variables.items
  pub rising : AreRisingUpTo vars 1 equation.variables.items
  pub has : has_equation clauses equation.variables.items equation.bit ≡ true
  pub own : AreClausesOf clauses equation.variables.items equation.bit equation.clauses.items

-- The index is of these clauses, and none of these has the literal 0.
pub record IsIndexOf (clauses : List (List ℤ)) (index : Index) : Type 0 where
  pub each : (key : List ℤ) → number_of index key ≡ first_under 1 clauses key
  pub nonzero : list_any (list_any (int_eq (pos 0))) clauses ≡ false

-- the sets of variables seen
abbrev pub sets_of : {S : Type 0} → bag.HashSet (ArrayVec ℕ) S → List (List ℕ)
sets_of seen = map (λ variables. variables.items) (bag.keys seen)

-- Taken, a clause leaves the rest of the walk: what was found, and what comes of the clauses behind it, is as it was with it.
pub record TakesClause (clauses : List (List ℤ)) (clause : List ℤ) (before after : List (List ℕ)) (old new : List Equation) : Type 0 where
  pub walked : (more : List (List ℤ)) → map listed new ++ flat_map (equations_over clauses) (sets_but after more)
      ≡ map listed old ++ flat_map (equations_over clauses) (sets_but before (clause ∷ more))
  pub kept : (vars : ℕ) → IsTrue (list_all (is_literal_of vars) clause) → All (IsEquationOf vars clauses) old
      → All (IsEquationOf vars clauses) new
