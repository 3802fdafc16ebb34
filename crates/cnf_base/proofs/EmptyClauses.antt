-- Where the first empty clause stands.
use Rattle.std.proofs.Common.{◌≡◌, ℕ, zero, suc, ◌<◌, Bool, true, false, List, [], ◌∷◌, ℤ, length, take, slice_index_or, refl, sym, ap, ◌∙◌}
use Rattle.std.proofs.Common.{arith}
use Rattle.std.specs.Prelude.{if◌then◌else◌}
use Rattle.std.proofs.lemmas.Bool.{or_parts, or_left, or_right}
use Rattle.cnf_base.specs.EmptyClause.{has_empty_clause, first_empty}
use Rattle.cnf_base.specs.ProofText.{is_empty}

at_front : (b : Bool) (n : ℕ) → b ≡ true → (if b then 1 else n) ≡ 1
at_front true n e = refl
at_front false n e = cc

further : (b : Bool) (n : ℕ) → b ≡ false → (if b then 1 else n) ≡ n
further true n e = cc
further false n e = refl

pub first_at : (clauses : List (List ℤ)) (i : ℕ) → has_empty_clause (take i clauses) ≡ false → i < length clauses
    → slice_index_or clauses i [] ≡ []
    → (suc i ≡ first_empty clauses) × (has_empty_clause clauses ≡ true)
first_at [] i before inside empty = absurd (omega (arith, inside))
first_at (clause ∷ more) zero before inside empty =
    let here : is_empty clause ≡ true = ap is_empty empty in
    (sym (at_front (is_empty clause) (suc (first_empty more)) here), or_left (is_empty clause) _ here)
first_at (clause ∷ more) (suc i) before inside empty =
    let parts = or_parts (is_empty clause) _ before in
    let later = first_at more i parts.1 (omega (arith, inside)) empty in
    (ap suc later.0 ∙ sym (further (is_empty clause) (suc (first_empty more)) parts.0), or_right (is_empty clause) _ later.1)

-- without an empty clause none is found
pub none_at : (clauses : List (List ℤ)) (place : ℕ) → has_empty_clause clauses ≡ false → place < length clauses
    → slice_index_or clauses place [] ≡ [] → ⊥
none_at [] place none small is = omega (arith, small)
none_at (clause ∷ more) zero none small is = let f : true ≡ false = sym (ap is_empty is) ∙ (or_parts (is_empty clause) _ none).0 in cc
none_at (clause ∷ more) (suc place) none small is = none_at more place (or_parts (is_empty clause) _ none).1 (omega (arith, small)) is
