-- Clauses with both signs of a variable hold under every assignment.
use Rattle.std.proofs.Common.{◌≡◌, ℕ, zero, suc, Bool, true, false, not, ℤ, pos, negsuc, neg_ℤ, List, [], ◌∷◌, int_eq, refl, ◌∙◌, ap, inl}
use Rattle.std.proofs.Common.{inr}
use Rattle.std.specs.Prelude.{◌⊎◌, IsTrue}
use Rattle.std.specs.List.{list_any, list_all}
use Rattle.std.proofs.lemmas.Bool.{and_parts, and_from, or_cases, or_left, or_right, cases_Bool}
use Rattle.std.proofs.lemmas.Bool.Decides.{Decides-int_eq}
use Rattle.cnf_base.specs.Truth.{Assignment, literal_holds, clause_holds, Satisfies, is_literal_of, AreClausesOf}
use Rattle.term_runner.specs.Clauses.{is_tautology}

opposite : (a : Assignment) (vars : ℕ) (x : ℤ) → is_literal_of vars x ≡ true → literal_holds a x ≡ false → literal_holds a (neg_ℤ x) ≡ true
opposite a vars (pos zero) h false_here = cc
opposite a vars (pos (suc n)) h false_here = ap not false_here
opposite a vars (negsuc n) h false_here = of_not (a (suc n)) false_here where
  of_not : (b : Bool) → not b ≡ false → b ≡ true
  of_not true e = refl
  of_not false e = cc

holds_by : (a : Assignment) (y : ℤ) (clause : List ℤ) → list_any (λ other. int_eq other y) clause ≡ true → literal_holds a y ≡ true
    → clause_holds a clause ≡ true
holds_by a y [] member holds = cc
holds_by a y (x ∷ xs) member holds = elim (or_cases (int_eq x y) _ member) [
  | inl here ↦ or_left (literal_holds a x) _ (ap (literal_holds a) ((Decides-int_eq x y).0 here) ∙ holds)
  | inr later ↦ or_right (literal_holds a x) _ (holds_by a y xs later holds)
]

-- a literal of the part and its opposite in the whole
one_holds : (a : Assignment) (vars : ℕ) (whole part : List ℤ) → list_all (is_literal_of vars) part ≡ true
    → list_any (λ literal. list_any (λ other. int_eq other (neg_ℤ literal)) whole) part ≡ true → (clause_holds a part ≡ true)
    ⊎ (clause_holds a whole ≡ true)
one_holds a vars whole [] literals some = cc
one_holds a vars whole (x ∷ xs) literals some =
    elim (or_cases (list_any (λ other. int_eq other (neg_ℤ x)) whole) _ some) [
      | inl here ↦ elim (cases_Bool (literal_holds a x)) [
        | inl here_true ↦ inl (or_left (literal_holds a x) _ here_true)
        | inr here_false ↦ inr (holds_by a (neg_ℤ x) whole here (opposite a vars x
            (and_parts (is_literal_of vars x) _ literals).0 here_false))
      ]
      | inr later ↦ elim (one_holds a vars whole xs (and_parts (is_literal_of vars x) _ literals).1 later) [
        | inl part ↦ inl (or_right (literal_holds a x) _ part)
        | inr all ↦ inr all
      ]
    ]

pub tautology_holds : (a : Assignment) (vars : ℕ) (clause : List ℤ) → list_all (is_literal_of vars) clause ≡ true → is_tautology clause
    ≡ true → clause_holds a clause ≡ true
tautology_holds a vars clause literals both = elim (one_holds a vars clause clause literals both) [ inl holds ↦ holds | inr holds ↦ holds ]

pub tautologies_hold : (a : Assignment) (vars : ℕ) (clauses : List (List ℤ)) → list_all (list_all (is_literal_of vars)) clauses ≡ true
    → list_all is_tautology clauses ≡ true → list_all (clause_holds a) clauses ≡ true
tautologies_hold a vars [] literals all = refl
tautologies_hold a vars (clause ∷ more) literals all =
    let these = and_parts (list_all (is_literal_of vars) clause) _ literals in
    let both = and_parts (is_tautology clause) _ all in
    and_from (clause_holds a clause) _ (tautology_holds a vars clause these.0 both.0) (tautologies_hold a vars more these.1 both.1)

pub tautologies_satisfied : (a : Assignment) (vars : ℕ) (clauses : List (List ℤ)) → AreClausesOf vars clauses
    → IsTrue (list_all is_tautology clauses) → Satisfies a clauses
tautologies_satisfied a vars clauses literals all = tautologies_hold a vars clauses literals all
