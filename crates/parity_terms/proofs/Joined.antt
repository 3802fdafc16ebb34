-- The term of an equation's clauses: one clause more, and the end.
use Rattle.std.proofs.Common.{◌≡◌, ◌≢◌, ◌∙◌, ◌<◌, ◌≤◌, ◌+◌, ◌-◌, ◌&&◌, ℕ, zero, suc, Bool, true, false, List, [], ◌∷◌, None, Some}
use Rattle.std.proofs.Common.{Option, Ok, Err, Result}
use Rattle.std.proofs.Common.{length, take, sym, ap, subst, arith}
use Rattle.std.specs.Prelude.{IsErrAnd, IsTrue, slice_index_or}
use Rattle.std.proofs.lemmas.List.Folds.{list_all_more}
use Rattle.std.proofs.lemmas.List.{take_all}
use Rattle.cnf_base.specs.Truth.{Assignment, clause_holds}
use Rattle.node_table.specs.declared.error.TableError.{TableError}
use Rattle.node_table.specs.declared.error.TableError.TheVariants.{WriteFault}
use Rattle.node_table.specs.declared.node.Node.TheVariants.{False}
use Rattle.node_table.specs.HandedOn.{no_error, same_error}
use Rattle.node_table.specs.Laws.{StepByStep}
use Rattle.node_table.specs.Progress.{Continues, Leaves}
use Rattle.node_table.specs.Table.{TableState, live_nodes}
use Rattle.parity_equations.specs.Sums.{all_hold}
use Rattle.bdd_terms.specs.declared.held.HeldTerm.{HeldTerm}
use Rattle.bdd_terms.specs.declared.runner.Runner.{Runner}
use Rattle.bdd_terms.specs.declared.term.Term.{Term}
use Rattle.bdd_terms.specs.Runner.{IsRunner, Releases, holds_in}
use Rattle.parity_terms.specs.Clauses.{AreNumbers, Joins, TakesClauses}
use Rattle.bdd_terms.specs.Full.{IsFull, LacksBehind}
use Rattle.parity_terms.specs.Owned.{Owns}
use Rattle.parity_terms.specs.Steps.{Goes, Keeps, Takes}
use Rattle.parity_terms.proofs.Taken.{goes_released, keeps_further}

-- numbers of clauses
pub number_at : (most : ℕ) (numbers : List ℕ) (k d : ℕ) → AreNumbers most numbers → k < length numbers
    → (1 ≤ slice_index_or numbers k d) × (slice_index_or numbers k d ≤ most)
number_at most [] k d are small = absurd (omega (arith, small))
number_at most (number ∷ more) zero d are small = (are.0, are.1.0)
number_at most (number ∷ more) (suc k) d are small = number_at most more k d are.1.1 (omega (arith, small))

-- a release keeps what the limit of nodes was met with
pub full_released : {S : Type 0} (held : HeldTerm) (mid new : Runner S) → Releases held mid new → IsFull mid → IsFull new
full_released {S = S} held mid new releases is = record {
  full = subst (λ (t : TableState S). t.max_nodes ≤ live_nodes t.graph) (sym releases.table) is.full;
  wanted = subst (λ (t : TableState S). LacksBehind t.graph) (sym releases.table) is.wanted;
}

module _ {S : Type 0} (steps : StepByStep S) (terms : List HeldTerm) (old mid new : Runner S) (one both holds : Assignment → Bool) where
  -- the clause's term wasn't found
  pub joins_error : (error : TableError) → Takes terms one old new (Err error) → Joins terms holds old new (Err error)
  joins_error error takes = record {
    goes_on = takes.goes_on;
    value = tt;
    owns = takes.owns;
    refutes = tt;
    keeps = takes.keeps;
    leaves = takes.leaves;
  }

  -- it was
  pub joins_both : (clause : Term) → Keeps terms old mid → Continues old.terms.table mid.terms.table
      → ((a : Assignment) → both a ≡ holds a) → (result : Result Term TableError) → Takes terms both mid new result
      → Joins terms holds old new result
  joins_both clause keeps continues same (Ok term) takes = record {
    goes_on = takes.goes_on;
    value = λ a. takes.value a ∙ same a;
    owns = takes.owns;
    refutes = takes.refutes;
    keeps = λ whole. keeps_further steps terms old mid new keeps (takes.keeps whole);
    leaves = steps.leave old.terms.table mid.terms.table new.terms.table None continues takes.leaves;
  }
  joins_both clause keeps continues same (Err error) takes = record {
    goes_on = takes.goes_on;
    value = tt;
    owns = takes.owns;
    refutes = tt;
    keeps = λ whole. keeps_further steps terms old mid new keeps (takes.keeps whole);
    leaves = steps.leave old.terms.table mid.terms.table new.terms.table (Some error) continues takes.leaves;
  }

-- The first clauses so far have this term.
pub record HaveTerm {S : Type 0} (terms : List HeldTerm) (numbers : List ℕ) (old new : Runner S) (term : Term) : Type 0 where
  pub runner : IsRunner new
  pub owns : Owns (term.held ∷ terms) new.terms.out.items
  pub keeps : Keeps terms old new
  pub value : (a : Assignment) → holds_in new term.held a ≡ all_hold old.formula.now.clauses numbers a
  pub refutes : term.held.node ≡ False → IsTrue new.refuted
  pub continues : Continues old.terms.table new.terms.table

module _ {S : Type 0} (steps : StepByStep S) (terms : List HeldTerm) (numbers : List ℕ) (old : Runner S) where
  abbrev clause_is : Assignment → ℕ → Bool
  clause_is a number = clause_holds a (slice_index_or old.formula.now.clauses (number - 1) [])

  -- the first clause's
  pub have_first : (new : Runner S) (term : Term) → 0 < length numbers
      → Takes terms (λ a. clause_is a (slice_index_or numbers 0 0)) old new (Ok term) → HaveTerm terms (take 1 numbers) old new term
  have_first new term some takes = record {
    runner = takes.goes_on no_error;
    owns = takes.owns no_error;
    keeps = takes.keeps no_error;
    value = λ a. takes.value a ∙ sym (list_all_more (clause_is a) numbers 0 0 some);
    refutes = takes.refutes;
    continues = takes.leaves;
  }

  -- one more
  module _ (place : ℕ) (mid new : Runner S) (term : Term) (so_far : HaveTerm terms (take place numbers) old mid term) where
    pub have_more : (next : Term) → place < length numbers
        → Joins terms (λ a. holds_in mid term.held a
        && clause_holds a (slice_index_or mid.formula.now.clauses (slice_index_or numbers place 0 - 1) [])) mid new (Ok next)
        → HaveTerm terms (take (place + 1) numbers) old new next
    have_more next small joins = record {
      runner = joins.goes_on no_error;
      owns = joins.owns no_error;
      keeps = keeps_further steps terms old mid new so_far.keeps (joins.keeps no_error);
      value = λ a.
          joins.value a
          ∙ (λ i. so_far.value a i
          && clause_holds a (slice_index_or (so_far.keeps.formula i).now.clauses (slice_index_or numbers place 0 - 1) []))
          ∙ sym (list_all_more (clause_is a) numbers place 0 small);
      refutes = joins.refutes;
      continues = steps.go_on old.terms.table mid.terms.table new.terms.table so_far.continues joins.leaves;
    }

    pub have_error : (holds : Assignment → Bool) (came : TableError) (result : Result (Option Term) TableError)
        → IsErrAnd result (λ e. e ≡ came) → Joins terms holds mid new (Err came) → TakesClauses terms numbers old new result
    have_error holds came (Ok found) is joins = absurd is
    have_error holds came (Err error) is joins = record {
      goes_on = λ whole. joins.goes_on (other whole);
      owns = λ whole. joins.owns (other whole);
      keeps = λ whole. keeps_further steps terms old mid new so_far.keeps (joins.keeps (other whole));
      refuted = tt;
      value = tt;
      leaves = subst (λ (e : TableError). Leaves old.terms.table new.terms.table (Some e)) (sym is)
          (steps.leave old.terms.table mid.terms.table new.terms.table (Some came) so_far.continues joins.leaves);
    }
      where
        other : ◌≢◌ {A = Result (Option Term) TableError} (Err error) (Err WriteFault)
            → ◌≢◌ {A = Result Term TableError} (Err came) (Err WriteFault)
        other whole same = whole (ap Err (is ∙ same_error same))

    -- the empty clause came
    pub have_refuted : mid.refuted ≡ true → Releases term.held mid new → TakesClauses terms numbers old new (Ok None)
    have_refuted is releases =
        let goes : Goes terms mid new = goes_released mid new so_far.runner term.held terms so_far.owns releases in
        record {
          goes_on = λ whole. goes.runner;
          owns = λ whole. goes.owns;
          keeps = λ whole. keeps_further steps terms old mid new so_far.keeps goes.keeps;
          refuted = goes.refuted ∙ is;
          value = tt;
          leaves = steps.go_on old.terms.table mid.terms.table new.terms.table so_far.continues goes.continues;
        }

  -- the term of all
  pub have_all : (place : ℕ) (new : Runner S) (term : Term) → HaveTerm terms (take place numbers) old new term → length numbers ≤ place
      → new.refuted ≡ false → TakesClauses terms numbers old new (Ok (Some term))
  have_all place new term so_far past unrefuted = record {
    goes_on = λ whole. so_far.runner;
    owns = λ whole. so_far.owns;
    keeps = λ whole. so_far.keeps;
    refuted = (unrefuted, (λ none. let e : true ≡ false = sym (so_far.refutes none) ∙ unrefuted in cc));
    value = λ a. so_far.value a ∙ (λ i. all_hold old.formula.now.clauses (take_all place numbers past i) a);
    leaves = so_far.continues;
  }

  -- the first clause's term wasn't found
  pub have_none : (holds : Assignment → Bool) (new : Runner S) (came : TableError) (result : Result (Option Term) TableError)
      → IsErrAnd result (λ e. e ≡ came) → Takes terms holds old new (Err came) → TakesClauses terms numbers old new result
  have_none holds new came (Ok found) is takes = absurd is
  have_none holds new came (Err error) is takes = record {
    goes_on = λ whole. takes.goes_on (other whole);
    owns = λ whole. takes.owns (other whole);
    keeps = λ whole. takes.keeps (other whole);
    refuted = tt;
    value = tt;
    leaves = subst (λ (e : TableError). Leaves old.terms.table new.terms.table (Some e)) (sym is) takes.leaves;
  }
    where
      other : ◌≢◌ {A = Result (Option Term) TableError} (Err error) (Err WriteFault)
          → ◌≢◌ {A = Result Term TableError} (Err came) (Err WriteFault)
      other whole same = whole (ap Err (is ∙ same_error same))
