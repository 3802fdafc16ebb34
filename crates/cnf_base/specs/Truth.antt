-- Truth of literals, clauses and formulas. A literal is a nonzero whole number, as in DIMACS: n is the variable
-- n, and -n its negation.
use Rattle.std.specs.Prelude.{ℕ, suc, ◌-◌, Bool, false, not, ◌&&◌, ℤ, pos, negsuc, nat_abs, List, IsTrue, nat_lt, nat_le, slice_index_or}
use Rattle.std.specs.Prelude.{◌==◌, if◌then◌else◌}
use Rattle.std.specs.List.{list_any, list_all}

-- which variables are true
abbrev pub Assignment : Type 0
Assignment = ℕ → Bool

-- n holds where variable n is true, -n where it is false
abbrev pub literal_holds : Assignment → ℤ → Bool
literal_holds a (pos n) = a n
literal_holds a (negsuc n) = not (a (suc n))

-- a clause holds where one of its literals does
abbrev pub clause_holds : Assignment → List ℤ → Bool
clause_holds a clause = list_any (literal_holds a) clause

-- an assignment satisfies clauses where each of them holds
abbrev pub Satisfies : Assignment → List (List ℤ) → Type 0
Satisfies a clauses = IsTrue (list_all (clause_holds a) clauses)

-- one variable's value set
abbrev pub with_value : Assignment → ℕ → Bool → Assignment
with_value a variable value v = if v == variable then value else a v

-- a list of values for the variables 1, 2, .., those beyond it false
abbrev pub assignment_of : List Bool → Assignment
assignment_of values x = slice_index_or values (x - 1) false

-- a literal of the variables 1 to vars
abbrev pub is_literal_of : ℕ → ℤ → Bool
is_literal_of vars literal = nat_lt 0 (nat_abs literal) && nat_le (nat_abs literal) vars

-- each literal of each clause is one of the variables 1 to vars
abbrev pub AreClausesOf : ℕ → List (List ℤ) → Type 0
AreClausesOf vars clauses = IsTrue (list_all (list_all (is_literal_of vars)) clauses)
