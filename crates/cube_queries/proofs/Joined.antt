-- The conjunction of the one term that is out and a clause's, step by step.
use Rattle.std.proofs.Common.{◌≡◌, ◌⊎◌, ◌∙◌, ◌++◌, suc, ◌≢◌, Bool, true, false, List, [], ◌∷◌, Contains, None, Some, Ok, Err, Result}
use Rattle.std.proofs.Common.{refl, sym, ap, subst, arith, inl, inr}
use Rattle.std.specs.Prelude.{IsErrAnd, IsTrue}
use Rattle.cnf_base.specs.Truth.{Assignment}
use Rattle.node_table.specs.declared.error.TableError.{TableError}
use Rattle.node_table.specs.declared.error.TableError.TheVariants.{NodeLimit, IdLimit, OutOfMemory, WriteFault}
use Rattle.node_table.specs.declared.node.Node.TheVariants.{False}
use Rattle.node_table.specs.HandedOn.{no_error}
use Rattle.node_table.specs.Laws.{StepByStep}
use Rattle.node_table.specs.Table.{TableState}
use Rattle.node_table.specs.Value.{by_level, value_of}
use Rattle.bdd_terms.specs.declared.held.HeldTerm.{HeldTerm}
use Rattle.bdd_terms.specs.declared.runner.Runner.{Runner}
use Rattle.bdd_terms.specs.declared.term.Term.{Term}
use Rattle.bdd_terms.specs.Runner.{IsGood, IsListed, IsRunner, Releases, holds_in, true_term}
use Rattle.cube_queries.specs.Steps.{Takes, TakesOver}
use Rattle.cube_queries.proofs.Alone.{alone_good, released_alone, released_first, released_middle, released_second}
use Rattle.cube_queries.proofs.Stays.{goes_further, goes_released, ids_whole, memory_whole, nodes_whole}

-- a term's value doesn't change as another one is released
same_value : {S : Type 0} (mid new : Runner S) (held : HeldTerm) → Releases held mid new → (other : HeldTerm) (a : Assignment)
    → holds_in new other a ≡ holds_in mid other a
same_value {S} mid new held one other a =
    let same : new.terms.table.graph ≡ mid.terms.table.graph = ap (λ (t : TableState S). t.graph) one.table in
    λ i. value_of (same i) (by_level (same i).order a) other.node

module _ {S : Type 0} (steps : StepByStep S) (old mid new : Runner S) (u : HeldTerm) (own : List HeldTerm) (alone : IsListed [] own u)
    (holds : Assignment → Bool) where
  -- the second operand is released
  module _ (v : HeldTerm) (released : IsTrue mid.terms.table.book.in_step → Releases v mid new)
      (torn : mid.terms.table.book.in_step ≡ false → new ≡ mid) (listed : IsListed own old.terms.out.items v) where
    pub second_released : (r : Result Term TableError) → Takes holds old mid r → TakesOver own holds old new r
    second_released (Ok w) takes =
        let one = released (takes.goes_on no_error).over.sound.in_step in
        record {
          goes_on = λ whole. one.goes_on;
          value = λ a. same_value mid new v one w.held a ∙ takes.value a;
          listed = released_middle u v w.held own old.terms.out.items mid.terms.out.items new.terms.out.items alone listed
              takes.listed one.out;
          refused = λ whole is. absurd (let e : false ≡ true = is in cc);
          unrefuted = λ whole was some. one.refuted ∙ takes.unrefuted no_error was some;
          goes = goes_released steps old mid new v released torn None takes.goes;
        }
    second_released (Err error) takes = record {
      goes_on = λ whole. (released (takes.goes_on whole).over.sound.in_step).goes_on;
      value = tt;
      listed = tt;
      refused = λ whole is.
          released_second u v own mid.terms.out.items new.terms.out.items alone
          (subst (λ (l : List HeldTerm). IsListed own l v) (sym (takes.refused whole is)) listed)
          (released (takes.goes_on whole).over.sound.in_step).out;
      unrefuted = λ whole was none. (released (takes.goes_on whole).over.sound.in_step).refuted ∙ takes.unrefuted whole was tt;
      goes = goes_released steps old mid new v released torn (Some error) takes.goes;
    }

  -- the first operand is released
  module _ (released : IsTrue mid.terms.table.book.in_step → Releases u mid new)
      (torn : mid.terms.table.book.in_step ≡ false → new ≡ mid) where
    pub first_released : (r : Result Term TableError) → TakesOver own holds old mid r → TakesOver [] holds old new r
    first_released (Ok w) takes =
        let one = released (takes.goes_on no_error).over.sound.in_step in
        record {
          goes_on = λ whole. one.goes_on;
          value = λ a. same_value mid new u one w.held a ∙ takes.value a;
          listed = released_first u w.held own mid.terms.out.items new.terms.out.items alone takes.listed one.out;
          refused = λ whole is. absurd (let e : false ≡ true = is in cc);
          unrefuted = λ whole was some. one.refuted ∙ takes.unrefuted no_error was some;
          goes = goes_released steps old mid new u released torn None takes.goes;
        }
    first_released (Err error) takes = record {
      goes_on = λ whole. (released (takes.goes_on whole).over.sound.in_step).goes_on;
      value = tt;
      listed = tt;
      refused = λ whole is.
          released_alone u mid.terms.out.items new.terms.out.items
          (subst (λ (l : List HeldTerm). IsListed [] l u) (sym (takes.refused whole is)) alone)
          (released (takes.goes_on whole).over.sound.in_step).out;
      unrefuted = λ whole was none. (released (takes.goes_on whole).over.sound.in_step).refuted ∙ takes.unrefuted whole was tt;
      goes = goes_released steps old mid new u released torn (Some error) takes.goes;
    }

-- the clause's term, and then the conjunction
module _ {S : Type 0} (steps : StepByStep S) (old mid new : Runner S) (own : List HeldTerm) (clause : Assignment → Bool) (term : Term)
    (first : Takes clause old mid (Ok term)) (some : term.held.node ≢ False) (before after : Assignment → Bool)
    (same : (a : Assignment) → after a ≡ before a) where
  pub over_behind : (r : Result Term TableError) → TakesOver own after mid new r → TakesOver own before old new r
  over_behind (Ok w) over = record {
    goes_on = over.goes_on;
    value = λ a. over.value a ∙ same a;
    listed = over.listed;
    refused = over.refused;
    unrefuted = λ whole was ends. over.unrefuted whole (first.unrefuted no_error was some) ends;
    goes = goes_further steps old mid new None first.goes over.goes;
  }
  over_behind (Err error) over = record {
    goes_on = over.goes_on;
    value = tt;
    listed = tt;
    refused = over.refused;
    unrefuted = λ whole was ends. over.unrefuted whole (first.unrefuted no_error was some) ends;
    goes = goes_further steps old mid new (Some error) first.goes over.goes;
  }

-- where there is no clause's term
pub over_none : {S : Type 0} (old new : Runner S) (clause holds : Assignment → Bool) (error : TableError) → Takes clause old new (Err error)
    → TakesOver old.terms.out.items holds old new (Err error)
over_none old new clause holds error takes = record {
  goes_on = takes.goes_on;
  value = tt;
  listed = tt;
  refused = takes.refused;
  unrefuted = takes.unrefuted;
  goes = takes.goes;
}

-- one step alone
pub over_of : {S : Type 0} (old new : Runner S) (own : List HeldTerm) → old.terms.out.items ≡ own → (holds : Assignment → Bool)
    (r : Result Term TableError) → Takes holds old new r → TakesOver own holds old new r
over_of old new own is holds (Ok term) takes = record {
  goes_on = takes.goes_on;
  value = takes.value;
  listed = subst (λ (l : List HeldTerm). IsListed l new.terms.out.items term.held) is takes.listed;
  refused = λ whole e. takes.refused whole e ∙ is;
  unrefuted = takes.unrefuted;
  goes = takes.goes;
}
over_of old new own is holds (Err error) takes = record {
  goes_on = takes.goes_on;
  value = tt;
  listed = tt;
  refused = λ whole e. takes.refused whole e ∙ is;
  unrefuted = takes.unrefuted;
  goes = takes.goes;
}

-- what a release asks for behind a step
module _ {S : Type 0} (old mid : Runner S) (holds : Assignment → Bool) where
  pub runner_behind : (r : Result Term TableError) → Takes holds old mid r → IsTrue mid.terms.table.book.in_step → IsRunner mid
  runner_behind (Ok term) takes on = takes.goes_on no_error
  runner_behind (Err NodeLimit) takes on = takes.goes_on nodes_whole
  runner_behind (Err IdLimit) takes on = takes.goes_on ids_whole
  runner_behind (Err OutOfMemory) takes on = takes.goes_on memory_whole
  runner_behind (Err WriteFault) takes on = absurd (let e : true ≡ false = sym on ∙ takes.goes.leaves.out_of_step in cc)

  pub good_behind : (r : Result Term TableError) → Takes holds old mid r → IsTrue mid.terms.table.book.in_step → (held : HeldTerm)
      → IsGood old held → IsGood mid held
  good_behind (Ok term) takes on held is = (takes.keeps no_error).good held is
  good_behind (Err NodeLimit) takes on held is = (takes.keeps nodes_whole).good held is
  good_behind (Err IdLimit) takes on held is = (takes.keeps ids_whole).good held is
  good_behind (Err OutOfMemory) takes on held is = (takes.keeps memory_whole).good held is
  good_behind (Err WriteFault) takes on held is = absurd (let e : true ≡ false = sym on ∙ takes.goes.leaves.out_of_step in cc)

-- the same behind a step over a list
pub listed_good : (held other : HeldTerm) (own list : List HeldTerm) → IsListed [] own held → IsListed own list other
    → (held ≡ true_term) ⊎ Contains list held
listed_good held other own list (inl none) listed = inl none.0
listed_good held other own list (inr one) (inl same) =
    inr (subst (λ (l : List HeldTerm). Contains l held) (sym (same.1 ∙ one.1)) (0, omega arith, refl))
listed_good held other own list (inr one) (inr more) =
    inr (subst (λ (l : List HeldTerm). Contains l held) (sym (more.1 ∙ ap (λ (l : List HeldTerm). l ++ other ∷ []) one.1))
    (0, omega arith, refl))

module _ {S : Type 0} (old mid : Runner S) (own : List HeldTerm) (holds : Assignment → Bool) where
  pub over_runner : (r : Result Term TableError) → TakesOver own holds old mid r → IsTrue mid.terms.table.book.in_step → IsRunner mid
  over_runner (Ok term) over on = over.goes_on no_error
  over_runner (Err NodeLimit) over on = over.goes_on nodes_whole
  over_runner (Err IdLimit) over on = over.goes_on ids_whole
  over_runner (Err OutOfMemory) over on = over.goes_on memory_whole
  over_runner (Err WriteFault) over on = absurd (let e : true ≡ false = sym on ∙ over.goes.leaves.out_of_step in cc)

  still_own : (held : HeldTerm) → IsListed [] own held → mid.terms.out.items ≡ own → IsGood mid held
  still_own held alone same =
      alone_good mid held (subst (λ (l : List HeldTerm). IsListed [] l held) (sym same) alone)

  pub over_good : (r : Result Term TableError) → TakesOver own holds old mid r → IsTrue mid.terms.table.book.in_step → (held : HeldTerm)
      → IsListed [] own held → IsGood mid held
  over_good (Ok term) over on held alone = listed_good held term.held own mid.terms.out.items alone over.listed
  over_good (Err NodeLimit) over on held alone = still_own held alone (over.refused nodes_whole refl)
  over_good (Err IdLimit) over on held alone = still_own held alone (over.refused ids_whole refl)
  over_good (Err OutOfMemory) over on held alone = still_own held alone (over.refused memory_whole refl)
  over_good (Err WriteFault) over on held alone = absurd (let e : true ≡ false = sym on ∙ over.goes.leaves.out_of_step in cc)

-- the term that a step gave may be taken
pub given_good : {S : Type 0} (old new : Runner S) (held : HeldTerm) → IsListed old.terms.out.items new.terms.out.items held
    → IsGood new held
given_good old new held (inl same) = inl same.0
given_good old new held (inr more) =
    inr (subst (λ (l : List HeldTerm). Contains l held) (sym more.1) (last_there old.terms.out.items)) where
      last_there : (list : List HeldTerm) → Contains (list ++ held ∷ []) held
      last_there [] = (0, omega arith, refl)
      last_there (first ∷ list) = let rest = last_there list in (suc rest.0, omega (arith, rest.1), rest.2)

-- an error that is handed on
pub over_handed : {S : Type 0} (own : List HeldTerm) (holds : Assignment → Bool) (old new : Runner S) (error : TableError)
    (r : Result Term TableError) → IsErrAnd r (λ e. e ≡ error) → TakesOver own holds old new (Err error) → TakesOver own holds old new r
over_handed own holds old new error (Ok term) is over = absurd is
over_handed own holds old new error (Err other) is over = subst (λ (e : TableError). TakesOver own holds old new (Err e)) (sym is) over
