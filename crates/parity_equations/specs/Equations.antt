-- Parity equations of a formula: the sum of some variables, modulo 2, is a bit. A formula has one where it has each clause that denies a
-- wrong sum. (Warners, van Maaren: A two phase algorithm for solving a class of hard satisfiability problems, 1998, section 2.)
use Rattle.std.specs.Prelude.{◌&&◌, ◌++◌, ◌+◌, ℕ, Bool, true, false, not, ℤ, pos, neg_ℤ, List, [], ◌∷◌, map, Option, None, Some, IsPermutation}
use Rattle.std.specs.Prelude.{if◌then◌else◌, nat_eq}
use Rattle.std.specs.Cmp.Lexicographic.{pointwise}
use Rattle.std.specs.List.{flat_map, list_all, list_any}
use Rattle.std.specs.List.Sorted.{IsNonDecreasingBy}
use Rattle.std.specs.Option.{unwrap_or}
use Rattle.std.specs.Ordering.{int_eq}
use Rattle.parity_equations.specs.LiteralSet.{is_candidate, literal_set, variables_of}

-- The clauses over these variables that deny a wrong sum: one literal for each, and the number of negative ones has the parity other than
-- the bit. Where the variables have the other sum, one of these clauses is false.
abbrev pub denied : Bool → List ℕ → List (List ℤ)
denied bit [] = if bit then [] ∷ [] else []
denied bit (variable ∷ more) =
    map (λ rest. pos variable ∷ rest) (denied bit more) ++ map (λ rest. neg_ℤ (pos variable) ∷ rest) (denied (not bit) more)

-- a clause has exactly these literals, which are by rising variables
abbrev pub has_exactly : List ℤ → List ℤ → Bool
has_exactly literals clause = is_candidate clause && pointwise int_eq (literal_set clause) literals

-- the formula has each of them
abbrev pub has_equation : List (List ℤ) → List ℕ → Bool → Bool
has_equation clauses variables bit = list_all (λ wrong. list_any (has_exactly wrong) clauses) (denied bit variables)

-- The sets of variables of the clauses that may be those of equations, each once, by their first clauses; but for some sets.
abbrev pub sets_but : List (List ℕ) → List (List ℤ) → List (List ℕ)
sets_but seen [] = []
sets_but seen (clause ∷ more) =
    if is_candidate clause && not (list_any (pointwise nat_eq (variables_of clause)) seen)
    then variables_of clause ∷ sets_but (variables_of clause ∷ seen) more else sets_but seen more

-- the equations over a set, that of an even sum first
abbrev pub equations_over : List (List ℤ) → List ℕ → List (List ℕ × Bool)
equations_over clauses variables =
    (if has_equation clauses variables false then (variables, false) ∷ [] else [])
    ++ (if has_equation clauses variables true then (variables, true) ∷ [] else [])

-- A formula's equations, each once: their variables, and the sum of these.
abbrev pub equations : List (List ℤ) → List (List ℕ × Bool)
equations clauses = flat_map (equations_over clauses) (sets_but [] clauses)

-- the number of the first clause that has exactly these literals, where the first clause has this number
abbrev pub first_from : ℕ → List (List ℤ) → List ℤ → Option ℕ
first_from number [] literals = None
first_from number (clause ∷ more) literals = if has_exactly literals clause then Some number else first_from (number + 1) more literals

-- An equation's clauses: the numbers of the first ones that have exactly the literals of the denied ones, rising.
pub record AreClausesOf (clauses : List (List ℤ)) (variables : List ℕ) (bit : Bool) (numbers : List ℕ) : Type 0 where
  pub each : IsPermutation (map (λ wrong. unwrap_or (first_from 1 clauses wrong) 0) (denied bit variables)) numbers
  pub rising : IsNonDecreasingBy (λ n. n) numbers
