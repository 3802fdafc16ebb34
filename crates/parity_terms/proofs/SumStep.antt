-- The sum of an equation and a row, by their terms: how it ends.
use Rattle.std.proofs.Common.{◌≡◌, ◌≢◌, ◌∙◌, ◌≤◌, ◌+◌, ◌&&◌, ℕ, Bool, true, false, List, ◌∷◌, None, Some, Option, Ok, Err}
use Rattle.std.proofs.Common.{Result, length}
use Rattle.std.proofs.Common.{refl, sym, ap, subst, arith, inl, inr}
use Rattle.std.specs.Prelude.{IsErrAnd}
use Rattle.std.proofs.lemmas.Bool.{cases_Bool}
use Rattle.cnf_base.specs.Truth.{Assignment}
use Rattle.node_table.specs.declared.error.TableError.{TableError}
use Rattle.node_table.specs.declared.error.TableError.TheVariants.{OutOfMemory, WriteFault}
use Rattle.node_table.specs.declared.node.Node.TheVariants.{False}
use Rattle.node_table.specs.Diagram.{Graph}
use Rattle.node_table.specs.HandedOn.{no_error, same_error}
use Rattle.node_table.specs.Laws.{Canonical, Cofactors, StepByStep}
use Rattle.node_table.specs.Table.{IsSound}
use Rattle.node_table.specs.Value.{Levels, by_level, value_of}
use Rattle.clause_terms.specs.Term.{by_variable}
use Rattle.parity_nodes.specs.Sums.{exclusive_or, sum_is}
use Rattle.bdd_terms.specs.declared.held.HeldTerm.{HeldTerm}
use Rattle.bdd_terms.specs.declared.runner.Runner.{Runner}
use Rattle.bdd_terms.specs.declared.term.Term.{Term}
use Rattle.bdd_terms.specs.Parity.{AreVariables}
use Rattle.bdd_terms.specs.Runner.{IsRunner, Releases, holds_in}
use Rattle.parity_terms.specs.declared.row.Row.{Row}
use Rattle.parity_terms.specs.Order.{AreInOrder, ArePlaces}
use Rattle.parity_terms.specs.Rows.{IsRow, Sums, held_of, vector_of}
use Rattle.parity_terms.specs.Steps.{Goes, Keeps, Takes}
use Rattle.parity_terms.proofs.ByAssignment.{by_assignment}
use Rattle.parity_terms.proofs.Owned.{owned_good}
use Rattle.parity_terms.proofs.SumValues.{in_order_variables}
use Rattle.parity_terms.proofs.Taken.{goes_released, keeps_further}

-- no failed write, by another answer's type
other_answer : (error : TableError) → ◌≢◌ {A = Result (Option Row) TableError} (Err error) (Err WriteFault)
    → ◌≢◌ {A = Result Term TableError} (Err error) (Err WriteFault)
other_answer error whole is = whole (ap Err (same_error is))

-- an error that is handed on
pub sums_handed : {S : Type 0} (terms : List HeldTerm) (places : List ℕ) (row current : Row) (old new : Runner S) (came : TableError)
    (result : Result (Option Row) TableError) → IsErrAnd result (λ e. e ≡ came) → Sums terms places row current old new (Err came)
    → Sums terms places row current old new result
sums_handed terms places row current old new came (Ok found) is sums = absurd is
sums_handed terms places row current old new came (Err e) is sums =
    subst (λ (error : TableError). Sums terms places row current old new (Err error)) (sym is) sums

-- the sum's variables are the formula's
pub sum_variables : {S : Type 0} (old mid : Runner S) (places variables : List ℕ) (terms : List HeldTerm) → IsRunner old
    → ArePlaces old.terms.table.graph.order places → Keeps terms old mid → AreInOrder places 0 variables
    → AreVariables mid.formula.now.vars variables
sum_variables old mid places variables terms runner inverse keeps in_order =
    let few : length places ≤ mid.formula.now.vars =
    let same = ap (λ f. f.now.vars) keeps.formula in
    let vars = runner.over.vars in
    let each = inverse.one_each in
    omega (arith, same, vars, each) in
    in_order_variables mid.formula.now.vars places 0 variables few in_order

module _ {S : Type 0} (steps : StepByStep S) (old mid : Runner S) (places : List ℕ) (row current : Row) (terms : List HeldTerm) where
  abbrev both_hold : Assignment → Bool
  both_hold a = holds_in old (held_of row) a && holds_in old (held_of current) a

  -- the conjunction wasn't found
  pub sums_error : (error : TableError) → Takes terms both_hold old mid (Err error) → Sums terms places row current old mid (Err error)
  sums_error error takes = record {
    goes_on = λ whole. takes.goes_on (other_answer error whole);
    owns = λ whole. takes.owns (other_answer error whole);
    keeps = λ whole. takes.keeps (other_answer error whole);
    found = tt;
    sum = tt;
    later = tt;
    leaves = takes.leaves;
  }

  module _ (both : Term) (takes : Takes terms both_hold old mid (Ok both)) where
    both_released : (new : Runner S) → Releases both.held mid new → Goes terms mid new
    both_released new releases =
        goes_released mid new (takes.goes_on no_error) both.held terms (takes.owns no_error) releases

    -- the empty clause came
    pub sums_refuted : (new : Runner S) → Releases both.held mid new → mid.refuted ≡ true → Sums terms places row current old new (Ok None)
    sums_refuted new releases is =
        let goes = both_released new releases in
        record {
          goes_on = λ whole. goes.runner;
          owns = λ whole. goes.owns;
          keeps = λ whole. keeps_further steps terms old mid new (takes.keeps no_error) goes.keeps;
          found = goes.refuted ∙ is;
          sum = tt;
          later = tt;
          leaves = steps.go_on old.terms.table mid.terms.table new.terms.table takes.leaves goes.continues;
        }

    -- there was no memory for the sum
    pub sums_memory : (new : Runner S) → Releases both.held mid new → Sums terms places row current old new (Err OutOfMemory)
    sums_memory new releases =
        let goes = both_released new releases in
        record {
          goes_on = λ whole. goes.runner;
          owns = λ whole. goes.owns;
          keeps = λ whole. keeps_further steps terms old mid new (takes.keeps no_error) goes.keeps;
          found = tt;
          sum = tt;
          later = tt;
          leaves = steps.go_on old.terms.table mid.terms.table new.terms.table takes.leaves goes.continues;
        }

    module _ (new : Runner S) (variables : List ℕ) (bit : Bool)
        (implied : (a : Assignment) → both_hold a ≡ true → sum_is bit variables a ≡ true) where
      pub sum_implied : (a : Assignment) → holds_in mid both.held a ≡ true → sum_is bit variables a ≡ true
      sum_implied a is = implied a (sym (takes.value a) ∙ is)

      -- the sum's term wasn't found
      pub sums_torn : (error : TableError) → Takes terms (sum_is bit variables) mid new (Err error)
          → Sums terms places row current old new (Err error)
      sums_torn error more = record {
        goes_on = λ whole. more.goes_on (other_answer error whole);
        owns = λ whole. more.owns (other_answer error whole);
        keeps = λ whole. keeps_further steps terms old mid new (takes.keeps no_error) (more.keeps (other_answer error whole));
        found = tt;
        sum = tt;
        later = tt;
        leaves = steps.leave old.terms.table mid.terms.table new.terms.table (Some error) takes.leaves more.leaves;
      }

      -- where the sum is never true the conjunction was False, and then the empty clause came
      some_sum : Canonical → Cofactors → mid.refuted ≡ false → ((a : Assignment) → sum_is bit variables a ≡ false) → ⊥
      some_sum canonical cofactors unrefuted never =
          let none : both.held.node ≡ False =
          canonical graph sound.tied.reduced both.held.node False takes.stands refl (λ a. same a) in
          let e : true ≡ false = sym (takes.refutes none) ∙ unrefuted in
          cc
        where
          graph : Graph
          graph = mid.terms.table.graph

          sound : IsSound mid.terms.table
          sound = (takes.goes_on no_error).over.sound

          fails : (a : Assignment) → holds_in mid both.held a ≡ false
          fails a = elim (cases_Bool (holds_in mid both.held a)) [
            | inl holds ↦ absurd (let e : true ≡ false = sym (sum_implied a holds) ∙ never a in cc)
            | inr is ↦ is
          ]

          same : (a : Levels) → value_of graph a both.held.node ≡ false
          same a =
              sym (by_assignment cofactors graph sound.tied.reduced sound.tied.ordered a both.held.node takes.stands)
              ∙ fails (by_variable graph.order a)

      pub sums_found : Canonical → Cofactors → mid.refuted ≡ false → (next : Row) → next.variables.items ≡ variables → next.bit ≡ bit
          → Takes terms (sum_is bit variables) mid new (Ok next.term)
          → ((place : ℕ) → vector_of next place ≡ exclusive_or (vector_of row place) (vector_of current place))
          → AreInOrder places 0 variables
          → ((first : ℕ) → AreInOrder places first row.variables.items → AreInOrder places first current.variables.items
          → AreInOrder places (first + 1) variables)
          → Sums terms places row current old new (Ok (Some next))
      sums_found canonical cofactors unrefuted next is_variables is_bit more vectors in_order later = record {
        goes_on = λ whole. more.goes_on no_error;
        owns = λ whole. more.owns no_error;
        keeps = λ whole. keeps_further steps terms old mid new (takes.keeps no_error) (more.keeps no_error);
        found = (own, more.unrefuted no_error own.not_false ∙ unrefuted);
        sum = vectors;
        later = λ first one other.
            subst (λ (l : List ℕ). AreInOrder places (first + 1) l) (sym is_variables) (later first one other);
        leaves = steps.go_on old.terms.table mid.terms.table new.terms.table takes.leaves more.leaves;
      }
        where
          own : IsRow new places next
          own = record {
            in_order = subst (λ (l : List ℕ). AreInOrder places 0 l) (sym is_variables) in_order;
            good = owned_good (held_of next) (held_of next ∷ terms) new.terms.out.items (more.owns no_error) (0, omega arith, refl);
            not_false = λ none. some_sum canonical cofactors unrefuted
                (λ a. sym (more.value a) ∙ ap (λ n. value_of new.terms.table.graph (by_level new.terms.table.graph.order a) n) none);
            value = λ a. more.value a ∙ sym (λ i. sum_is (is_bit i) (is_variables i) a);
          }
