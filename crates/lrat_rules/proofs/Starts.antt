-- The formula's clauses at the start.
use Rattle.std.proofs.Common.{◌≡◌, ℕ, zero, suc, ◌<◌, ◌≤◌, ◌+◌, ℤ, List, [], ◌∷◌, ◌++◌, length, get_or, Option, None, Some, nat_cmp, cond}
use Rattle.std.proofs.Common.{refl, sym, ap, ◌∙◌, arith, eq-eqb, ne_eqb, length-append}
use Rattle.std.specs.Prelude.{if◌then◌else◌, ◌==◌}
use Rattle.std.specs.Cmp.{unsigned_tied}
use Rattle.std.specs.FinMap as finmap
use Rattle.std.proofs.lemmas.Cmp.{nat_cmp_total}
use Rattle.lrat_rules.specs.State.{Live, clause_at, start, numbered_from, with_clause}

-- the clause that stands under a number in a numbered list
abbrev pub numbered_at : ℕ → List (List ℤ) → ℕ → Option (List ℤ)
numbered_at first clauses id = finmap.find nat_cmp id (numbered_from first clauses)

pub clause_at-start : (clauses : List (List ℤ)) (id : ℕ) → clause_at (start clauses).live id ≡ numbered_at 1 clauses id
clause_at-start clauses id = finmap.get-from_entries nat_cmp_total (numbered_from 1 clauses) id

numbered_at_first : (first : ℕ) (clause : List ℤ) (clauses : List (List ℤ)) (id : ℕ) → id ≡ first → numbered_at first (clause ∷ clauses) id
    ≡ Some clause
numbered_at_first first clause clauses id e = rw (unsigned_tied id first, eq-eqb id first e)

numbered_at_later : (first : ℕ) (clause : List ℤ) (clauses : List (List ℤ)) (id : ℕ) → (id ≡ first → ⊥)
    → numbered_at first (clause ∷ clauses) id ≡ numbered_at (first + 1) clauses id
numbered_at_later first clause clauses id e = rw (unsigned_tied id first, ne_eqb id first e)

pub numbered_at-within : (first : ℕ) (clauses : List (List ℤ)) (i id : ℕ) → id ≡ first + i → i < length clauses
    → numbered_at first clauses id ≡ Some (get_or clauses i [])
numbered_at-within first [] i id e h = absurd (omega arith)
numbered_at-within first (clause ∷ clauses) zero id e h = numbered_at_first first clause clauses id (omega arith)
numbered_at-within first (clause ∷ clauses) (suc i) id e h =
    numbered_at_later first clause clauses id (λ same. omega arith)
    ∙ numbered_at-within (first + 1) clauses i id (omega arith) (omega arith)

pub numbered_at-below : (first : ℕ) (clauses : List (List ℤ)) (id : ℕ) → id < first → numbered_at first clauses id ≡ None
numbered_at-below first [] id h = refl
numbered_at-below first (clause ∷ clauses) id h = numbered_at_later first clause clauses id (λ same. omega arith)
    ∙ numbered_at-below (first + 1) clauses id (omega arith)

pub numbered_at-above : (first : ℕ) (clauses : List (List ℤ)) (id : ℕ) → first + length clauses ≤ id → numbered_at first clauses id ≡ None
numbered_at-above first [] id h = refl
numbered_at-above first (clause ∷ clauses) id h = numbered_at_later first clause clauses id (λ same. omega arith)
    ∙ numbered_at-above (first + 1) clauses id (omega arith)

pub clause_at-start-within : (clauses : List (List ℤ)) (i : ℕ) → i < length clauses → clause_at (start clauses).live (i + 1)
    ≡ Some (get_or clauses i [])
clause_at-start-within clauses i h = clause_at-start clauses (i + 1) ∙ numbered_at-within 1 clauses i (i + 1) (omega arith) h

pub clause_at-start-zero : (clauses : List (List ℤ)) → clause_at (start clauses).live 0 ≡ None
clause_at-start-zero clauses = clause_at-start clauses 0 ∙ numbered_at-below 1 clauses 0 (omega arith)

pub clause_at-start-above : (clauses : List (List ℤ)) (id : ℕ) → length clauses < id → clause_at (start clauses).live id ≡ None
clause_at-start-above clauses id h = clause_at-start clauses id ∙ numbered_at-above 1 clauses id (omega arith)

numbered_from-append : (first : ℕ) (clauses : List (List ℤ)) (clause : List ℤ) → numbered_from first (clauses ++ clause ∷ [])
    ≡ numbered_from first clauses ++ (first + length clauses, clause) ∷ []
numbered_from-append first [] clause = let same : first ≡ first + 0 = omega arith in ap (λ (n : ℕ). (n, clause) ∷ []) same
numbered_from-append first (head ∷ clauses) clause =
    let same : first + 1 + length clauses ≡ first + suc (length clauses) = omega arith in
    ap (λ es. (first, head) ∷ es) (numbered_from-append (first + 1) clauses clause
    ∙ ap (λ (n : ℕ). numbered_from (first + 1) clauses ++ (n, clause) ∷ []) same)

-- one clause more at the start stands under the next number
pub start-append : (clauses : List (List ℤ)) (clause : List ℤ) → start (clauses ++ clause ∷ [])
    ≡ record { live = with_clause (start clauses).live (length clauses + 1) clause; top = length clauses + 1 }
start-append clauses clause =
    let next : length clauses + 1 ≡ 1 + length clauses = omega arith in
    let new : finmap.find nat_cmp (1 + length clauses) (numbered_from 1 clauses)
    ≡ None = numbered_at-above 1 clauses (1 + length clauses) (omega arith) in
    let live : finmap.from_entries (numbered_from 1 (clauses ++ clause ∷ []))
    ≡ finmap.insert (finmap.from_entries (numbered_from 1 clauses)) (length clauses + 1) clause =
    ap finmap.from_entries (numbered_from-append 1 clauses clause)
    ∙ finmap.from_entries_push nat_cmp_total finmap.nat_cmp-IsAntisymmetric (numbered_from 1 clauses) (1 + length clauses) clause new
    ∙ ap (λ (n : ℕ). finmap.insert (finmap.from_entries (numbered_from 1 clauses)) n clause) (sym next) in
    let top : length (clauses ++ clause ∷ []) ≡ length clauses + 1 = omega (arith, length-append clauses (clause ∷ [])) in
    λ i. record { live = live i; top = top i }

-- what stands under a number once a clause was put under one
pub clause_at-with_clause : (live : Live) (id other : ℕ) (clause : List ℤ) → clause_at (with_clause live id clause) other
    ≡ (if other == id then Some clause else clause_at live other)
clause_at-with_clause live id other clause = finmap.get-insert nat_cmp_total live id clause other
    ∙ ap (λ b. cond b (Some clause) (clause_at live other)) (unsigned_tied other id)
