-- The clause that forbids a cube: its variables, and the step that adds it.
use Rattle.std.proofs.Common.{◌≡◌, ◌≢◌, ◌∙◌, ◌≤◌, ◌++◌, ℕ, zero, suc, false, true, ℤ, pos, negsuc, neg_ℤ, nat_abs, List, [], ◌∷◌, Some}
use Rattle.std.proofs.Common.{int_eq, refl, sym, ap, subst, arith, inl, inr}
use Rattle.std.specs.Prelude.{IsTrue, nat_lt}
use Rattle.std.specs.List.{list_all, list_any}
use Rattle.std.proofs.lemmas.Bool.{and_parts, leb-true, or_cases}
use Rattle.std.proofs.lemmas.Bool.Decides.{Decides-int_eq}
use Rattle.clause_ledger.specs.Book.{AreTold, Book, addition}
use Rattle.clause_ledger.specs.Told.{told_steps}
use Rattle.cnf_base.specs.Cube.{forbidding}
use Rattle.cnf_base.specs.Truth.{is_literal_of}
use Rattle.cnf_base.specs.declared.step.Step.{Step}
use Rattle.lrat_rules.specs.Conservative.{IsAddedBy, added_clause}
use Rattle.node_table.specs.Diagram.{Graph, levels}
use Rattle.node_table.specs.Tied.{IsOverNodes, IsUpTo}

size_of_negation : (x : ℤ) → nat_abs (neg_ℤ x) ≡ nat_abs x
size_of_negation (pos zero) = refl
size_of_negation (pos (suc n)) = refl
size_of_negation (negsuc n) = refl

-- it is over the cube's variables
pub forbidding_up_to : (vars : ℕ) (cube : List ℤ) → IsTrue (list_all (is_literal_of vars) cube) → IsUpTo vars (forbidding cube)
forbidding_up_to vars [] all literal among = absurd (let e : false ≡ true = among in cc)
forbidding_up_to vars (x ∷ cube) all literal among =
    let parts = and_parts (is_literal_of vars x) _ all in
    elim (or_cases (int_eq literal (neg_ℤ x)) (list_any (int_eq literal) (forbidding cube)) among) [
      | inl own ↦
          let is : literal ≡ neg_ℤ x = (Decides-int_eq literal (neg_ℤ x)).0 own in
          let within : nat_abs x ≤ vars = leb-true (nat_abs x) vars (and_parts (nat_lt 0 (nat_abs x)) _ parts.0).1 in
          omega (arith, within, ap nat_abs is ∙ size_of_negation x)
      | inr later ↦ forbidding_up_to vars cube parts.1 literal later
    ]

-- so it is over no extension variable
pub over_no_node : (graph : Graph) (clause : List ℤ) → IsUpTo (levels graph) clause → IsOverNodes graph clause
over_no_node graph clause up literal among above = absurd (let within = up literal among in omega (arith, within, above))

-- where the cube has a literal, so does it
pub forbids_some : (cube clause : List ℤ) → clause ≡ forbidding cube → cube ≢ [] → clause ≢ []
forbids_some [] clause is some empty = some refl
forbids_some (x ∷ cube) clause is some empty = let e : [] ≡ neg_ℤ x ∷ forbidding cube = sym empty ∙ is in cc

-- the last step adds the clause
added_last : (front : List Step) (step : Step) (clause : List ℤ) → added_clause step ≡ Some clause → IsAddedBy (front ++ step ∷ []) clause
added_last [] step clause is = inl is
added_last (first ∷ front) step clause is = inr (added_last front step clause is)

pub told_last : {S : Type 0} (old new : Book S) (clause forbids : List ℤ) (hints : List ℕ) → clause ≡ forbids
    → AreTold true old new (addition old.state clause hints ∷ []) → IsAddedBy new.steps forbids
told_last old new clause forbids hints is told = subst (λ (steps : List Step). IsAddedBy steps forbids) (sym (told_steps told))
    (added_last old.steps (addition old.state clause hints) forbids (ap Some is))
