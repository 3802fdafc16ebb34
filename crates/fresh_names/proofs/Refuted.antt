-- Steps that refute a formula refute it by the new names, too.
use Rattle.std.proofs.Common.{◌≡◌, ℕ, suc, ◌+◌, ◌<◌, ◌≤◌, Bool, true, false, ◌||◌, ℤ, pos, negsuc, neg_ℤ, List, [], ◌∷◌}
use Rattle.std.proofs.Common.{length, map}
use Rattle.std.proofs.Common.{None, Some, Option, nat_eq, nat_lt, refl, sym, ap, ◌∙◌, arith}
use Rattle.std.specs.Prelude.{nat_abs}
use Rattle.std.specs.List.{list_all, list_any}
use Rattle.std.proofs.lemmas.Bool.{and_parts, false_from_ne_true, leb-true}
use Rattle.std.proofs.lemmas.Bool.Decides.{Decides-eqb}
use Rattle.cnf_base.specs.Truth.{AreClausesOf, is_literal_of}
use Rattle.cnf_base.specs.ProofText.{is_empty}
use Rattle.lrat_rules.specs.declared.outcome.Reason.{Reason}
use Rattle.drat_text.specs.declared.step.DratStep.{DratStep}
use Rattle.drat_text.specs.declared.step.DratStep.TheVariants.{Add as adds, Delete as deletes}
use Rattle.drat_rules.specs.Run.{first_fault, adds_empty, DratRefutes, drat_verdict_at}
use Rattle.fresh_names.specs.Fresh.{Names, names_after, named, named_step, fresh_from, first_names, fresh}
use Rattle.drat_rules.specs.Hits.{DeletesStanding}
use Rattle.fresh_names.proofs.Given.{given-first}
use Rattle.fresh_names.proofs.Counted.{AreNames, held_in, held, one_if}
use Rattle.fresh_names.proofs.Renamed.{QuietLaws}
use Rattle.fresh_names.proofs.Followed.{good-by-names}

-- at first each literal has its own name
named-own : (x : ℤ) → named (λ v. v) x ≡ x
named-own (pos n) = refl
named-own (negsuc n) = let more : n + 1 ≡ suc n = omega arith in ap (λ k. neg_ℤ (pos k)) more

all-own : (xs : List ℤ) → map (named (λ v. v)) xs ≡ xs
all-own [] = refl
all-own (x ∷ xs) = λ i. named-own x i ∷ all-own xs i

pub every-own : (cs : List (List ℤ)) → map (map (named (λ v. v))) cs ≡ cs
every-own [] = refl
every-own (c ∷ cs) = λ i. all-own c i ∷ every-own cs i

-- and no clause of the formula holds another variable
none-held : (vars v : ℕ) → vars < v → (xs : List ℤ) → list_all (is_literal_of vars) xs ≡ true → held_in v xs ≡ 0
none-held vars v past [] all = refl
none-held vars v past (x ∷ xs) all =
    let parts = and_parts (is_literal_of vars x) _ all in
    let small : nat_abs x ≤ vars = leb-true (nat_abs x) vars (and_parts (nat_lt 0 (nat_abs x)) _ parts.0).1 in
    let other : nat_eq v (nat_abs x) ≡ false =
    false_from_ne_true _ (λ e. let same : v ≡ nat_abs x = (Decides-eqb v (nat_abs x)).0 e in omega arith) in
    let here : one_if (nat_eq v (nat_abs x)) ≡ 0 = ap one_if other in
    let rest : held_in v xs ≡ 0 = none-held vars v past xs parts.1 in
    let both : one_if (nat_eq v (nat_abs x)) + held_in v xs ≡ 0 = omega arith in
    both

none-held-any : (vars v : ℕ) → vars < v → (cs : List (List ℤ)) → list_all (list_all (is_literal_of vars)) cs ≡ true → held v cs ≡ 0
none-held-any vars v past [] all = refl
none-held-any vars v past (c ∷ cs) all =
    let parts = and_parts (list_all (is_literal_of vars) c) _ all in
    let here : held_in v c ≡ 0 = none-held vars v past c parts.0 in
    let rest : held v cs ≡ 0 = none-held-any vars v past cs parts.1 in
    let both : held_in v c + held v cs ≡ 0 = omega arith in
    both

pub names-first : (vars : ℕ) (clauses : List (List ℤ)) → AreClausesOf vars clauses → AreNames vars clauses (first_names vars)
names-first vars clauses are = record {
  given = given-first vars;
  counted = λ v past. sym (none-held-any vars v past clauses are);
}

-- the empty clause has no names
empty-named : (f : ℤ → ℤ) (clause : List ℤ) → is_empty (map f clause) ≡ is_empty clause
empty-named f [] = refl
empty-named f (x ∷ xs) = refl

empty-step : (name : ℕ → ℕ) (step : DratStep) → adds_empty (named_step name step) ≡ adds_empty step
empty-step name (adds clause) = empty-named (named name) clause
empty-step name (deletes clause) = refl

empty-steps : (vars : ℕ) (names : Names) (steps : List DratStep)
    → list_any adds_empty (fresh_from vars names steps) ≡ list_any adds_empty steps
empty-steps vars names [] = refl
empty-steps vars names (step ∷ steps) = λ i.
    empty-step (names_after vars names step).name step i || empty-steps vars (names_after vars names step) steps i

verified-parts : (end : ℕ) (b : Bool) (o : Option (ℕ × Reason)) → drat_verdict_at end b o ≡ None → (o ≡ None) × (b ≡ true)
verified-parts end b (Some refusal) h = cc
verified-parts end true None h = (refl, refl)
verified-parts end false None h = cc

pub refutes-by-names : QuietLaws → (vars : ℕ) (clauses : List (List ℤ)) (steps : List DratStep) → AreClausesOf vars clauses
    → DeletesStanding clauses steps → DratRefutes clauses steps → DratRefutes clauses (fresh vars steps)
refutes-by-names laws vars clauses steps are stand refutes =
    let parts = verified-parts (length steps + 1) (list_any adds_empty steps) (first_fault 1 clauses steps) refutes.verified in
    let good : first_fault 1 clauses (fresh vars steps) ≡ None =
    ap (λ (cs : List (List ℤ)). first_fault 1 cs (fresh vars steps)) (sym (every-own clauses))
    ∙ good-by-names laws vars (first_names vars) clauses steps (names-first vars clauses are) stand 1 parts.0 in
    let empty : list_any adds_empty (fresh vars steps) ≡ true = empty-steps vars (first_names vars) steps ∙ parts.1 in
    record { verified = rw (good, empty) refl }
