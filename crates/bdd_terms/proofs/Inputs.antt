-- The clause of a number, as it is pushed.
use Rattle.std.proofs.Common.{◌≡◌, ℕ, zero, suc, ◌-◌, ◌<◌, ◌≤◌, Bool, true, ℤ, List, [], ◌∷◌, length, Some, sym, ap, ◌∙◌, arith, ◌+◌}
use Rattle.std.specs.Prelude.{slice_index_or, IsTrue}
use Rattle.std.specs.List.{list_all}
use Rattle.std.proofs.lemmas.Bool.{and_parts}
use Rattle.cnf_base.specs.Truth.{AreClausesOf, is_literal_of}
use Rattle.cnf_base.specs.Formula.{Formula}
use Rattle.lrat_rules.specs.State.{clause_at}
use Rattle.node_table.specs.Diagram.{levels}
use Rattle.node_table.specs.Table.{TableState}
use Rattle.operations.specs.Entries.{Entry}
use Rattle.bdd_terms.specs.OverFormula.{IsOver}

pub at_each : (test : List ℤ → Bool) (clauses : List (List ℤ)) → list_all test clauses ≡ true → (i : ℕ) → i < length clauses
    → test (slice_index_or clauses i []) ≡ true
at_each test [] all i small = absurd (omega (arith, small))
at_each test (clause ∷ more) all zero small = (and_parts (test clause) _ all).0
at_each test (clause ∷ more) all (suc i) small = at_each test more (and_parts (test clause) _ all).1 i (omega (arith, small))

module _ {S : Type 0} (formula : Formula) (table : TableState S) (kept : List Entry) (over : IsOver formula table kept) (number : ℕ)
    (from_one : 1 ≤ number) (to_len : number ≤ length formula.clauses)
    (clause : List ℤ) (is : clause ≡ slice_index_or formula.clauses (number - 1) []) where
  place : number - 1 < length formula.clauses
  place = omega (arith, from_one, to_len)

  back : number - 1 + 1 ≡ number
  back = omega (arith, from_one)

  pub input_live : clause_at table.book.state.live number ≡ Some clause
  input_live = (λ k. clause_at table.book.state.live (sym back k)) ∙ over.inputs (number - 1) place ∙ ap Some (sym is)

  pub input_literals : AreClausesOf formula.vars formula.clauses → IsTrue (list_all (is_literal_of (levels table.graph)) clause)
  input_literals all = (λ k. list_all (is_literal_of (over.vars k)) (is k))
      ∙ at_each (list_all (is_literal_of formula.vars)) formula.clauses all (number - 1) place
