-- What a formula with an empty clause, or without one, says.
use Rattle.std.proofs.Common.{◌≡◌, ℕ, zero, suc, ◌<◌, true, false, List, [], ◌∷◌, ℤ, length, slice_index_or, sym, ap, ◌∙◌, arith}
use Rattle.std.proofs.lemmas.Bool.{or_parts, and_parts}
use Rattle.cnf_base.specs.Truth.{Assignment, Satisfies, clause_holds}
use Rattle.cnf_base.specs.ProofText.{is_empty}
use Rattle.term_runner.specs.Clauses.{has_empty_clause}

-- without an empty clause none is found
pub full_at : (clauses : List (List ℤ)) (i : ℕ) → has_empty_clause clauses ≡ false → i < length clauses → slice_index_or clauses i [] ≡ []
    → ⊥
full_at [] i none small is = omega (arith, small)
full_at (clause ∷ more) zero none small is = let f : true ≡ false = sym (ap is_empty is) ∙ (or_parts (is_empty clause) _ none).0 in cc
full_at (clause ∷ more) (suc i) none small is = full_at more i (or_parts (is_empty clause) _ none).1 (omega (arith, small)) is

-- an empty clause holds under no assignment
pub none_satisfies : (clauses : List (List ℤ)) → has_empty_clause clauses ≡ true → (a : Assignment) → Satisfies a clauses → ⊥
none_satisfies [] has a holds = let e : false ≡ true = has in cc
none_satisfies ([] ∷ more) has a holds = let e : false ≡ true = holds in cc
none_satisfies ((x ∷ rest) ∷ more) has a holds = none_satisfies more has a (and_parts (clause_holds a (x ∷ rest)) _ holds).1
