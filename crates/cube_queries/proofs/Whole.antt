-- The term of a formula, clause by clause.
use Rattle.std.proofs.Common.{◌≡◌, ◌∙◌, ◌<◌, ◌≤◌, ◌+◌, ◌-◌, ◌&&◌, ◌≢◌, ℕ, Bool, true, false, true≢false, ℤ, pos, negsuc, List, [], ◌∷◌, length, take, None, Some}
use Rattle.std.proofs.Common.{Ok, Err, Result, refl, sym, ap, arith, inl}
use Rattle.std.specs.Prelude.{slice_index_or}
use Rattle.std.specs.List.{list_all}
use Rattle.cnf_base.specs.Formula.{Formula}
use Rattle.cnf_base.specs.Truth.{Assignment, clause_holds}
use Rattle.node_table.specs.declared.error.TableError.{TableError}
use Rattle.node_table.specs.declared.node.Node.TheVariants.{False}
use Rattle.node_table.specs.Laws.{StepByStep}
use Rattle.node_table.specs.Value.{by_level, value_of}
use Rattle.schedule_plan.specs.Plan.{input as input_term, term_holds}
use Rattle.bdd_terms.specs.declared.held.HeldTerm.{HeldTerm}
use Rattle.bdd_terms.specs.declared.runner.Runner.{Runner}
use Rattle.bdd_terms.specs.declared.term.Term.{Term}
use Rattle.bdd_terms.specs.Runner.{IsListed, IsRunner, holds_in, true_term}
use Rattle.cube_queries.specs.Steps.{Goes, Takes, TakesOver, formula_holds}
use Rattle.cube_queries.proofs.Formulas.{all_taken, empty_holds, none_holds, one_more}
use Rattle.cube_queries.proofs.Joined.{over_of}
use Rattle.cube_queries.proofs.Stays.{goes_further}

-- nothing was done
pub goes_none : {S : Type 0} → StepByStep S → (runner : Runner S) → IsRunner runner → Goes runner runner None
goes_none steps runner is = record {
  formula = refl;
  limits = refl;
  order = refl;
  origin = refl;
  leaves = (steps.none runner.terms.table is.over.sound).leaves;
}

-- a formula without clauses
pub truth_alone : {S : Type 0} → StepByStep S → (runner : Runner S) → IsRunner runner → runner.terms.out.items ≡ [] → (formula : Formula)
    → formula.clauses ≡ [] → (term : Term) → term.held ≡ true_term → TakesOver [] (formula_holds formula) runner runner (Ok term)
truth_alone steps runner is none_out formula empty term true_held = record {
  goes_on = λ whole. is;
  value = λ a.
      (λ i. value_of runner.terms.table.graph (by_level runner.terms.table.graph.order a) (true_held i).node)
      ∙ ap (list_all (clause_holds a)) (sym empty);
  listed = inl (true_held, none_out);
  refused = λ whole e. absurd (let no : false ≡ true = e in cc);
  unrefuted = λ whole was some. was;
  goes = goes_none steps runner is;
}

-- the same by a function that holds where this one does
pub takes_as : {S : Type 0} (one other : Assignment → Bool) → ((a : Assignment) → one a ≡ other a) → (old new : Runner S)
    (r : Result Term TableError) → Takes one old new r → Takes other old new r
takes_as one other same old new (Ok term) takes = record {
  goes_on = takes.goes_on;
  value = λ a. takes.value a ∙ same a;
  listed = takes.listed;
  refused = takes.refused;
  unrefuted = takes.unrefuted;
  keeps = takes.keeps;
  goes = takes.goes;
}
takes_as one other same old new (Err error) takes = record {
  goes_on = takes.goes_on;
  value = tt;
  listed = tt;
  refused = takes.refused;
  unrefuted = takes.unrefuted;
  keeps = takes.keeps;
  goes = takes.goes;
}

module _ {S : Type 0} (old : Runner S) (formula : Formula) (of_formula : old.formula.now ≡ formula) where
  clause_is : (number : ℕ) (a : Assignment) → term_holds old.formula.now a (input_term number)
      ≡ clause_holds a (slice_index_or formula.clauses (number - 1) [])
  clause_is number a = ap (λ (f : Formula). term_holds f a (input_term number)) of_formula

  -- a formula with an empty clause
  pub empty_alone : old.terms.out.items ≡ [] → (number : ℕ) → 0 < number → number ≤ length formula.clauses → slice_index_or formula.clauses (number - 1) [] ≡ []
      → (new : Runner S) (r : Result Term TableError) → Takes (λ a. term_holds old.formula.now a (input_term number)) old new r
      → TakesOver [] (formula_holds formula) old new r
  empty_alone none_out number some within empty new r takes =
      over_of old new [] none_out (formula_holds formula) r
      (takes_as (λ a. term_holds old.formula.now a (input_term number)) (formula_holds formula)
      (λ a. clause_is number a ∙ ap (clause_holds a) empty ∙ sym (empty_holds formula.clauses a number some within empty)) old new r takes)

  -- the first clause
  pub first_value : 0 < length formula.clauses → (a : Assignment) → term_holds old.formula.now a (input_term 1)
      ≡ list_all (clause_holds a) (take 1 formula.clauses)
  first_value some a = clause_is 1 a ∙ sym (one_more formula.clauses a 1 (omega arith) some)

  pub first_alone : old.terms.out.items ≡ [] → (new : Runner S) (r : Result Term TableError) → Takes (λ a. term_holds old.formula.now a (input_term 1)) old new r
      → TakesOver [] (λ a. term_holds old.formula.now a (input_term 1)) old new r
  first_alone none_out new r takes = over_of old new [] none_out (λ a. term_holds old.formula.now a (input_term 1)) r takes

  -- one clause more, under the number behind this place
  pub more_value : (place : ℕ) → place < length formula.clauses → (before : Assignment → Bool)
      → ((a : Assignment) → before a ≡ list_all (clause_holds a) (take place formula.clauses)) → (a : Assignment)
      → (before a && term_holds old.formula.now a (input_term (place + 1))) ≡ list_all (clause_holds a) (take (place + 1) formula.clauses)
  more_value place within before is a =
      (λ i. is a i && clause_is (place + 1) a i)
      ∙ (let back : place + 1 - 1 ≡ place = omega arith in
      ap (λ (n : ℕ). list_all (clause_holds a) (take n formula.clauses) && clause_holds a (slice_index_or formula.clauses
      (place + 1 - 1) []))
      (sym back))
      ∙ sym (one_more formula.clauses a (place + 1) (omega arith) (omega (arith, within)))

-- a term that is False holds nowhere, so the formula doesn't
pub false_value : {S : Type 0} (runner : Runner S) (held : HeldTerm) (clauses : List (List ℤ)) (place : ℕ) → held.node ≡ False
    → ((a : Assignment) → holds_in runner held a ≡ list_all (clause_holds a) (take place clauses)) → (a : Assignment)
    → holds_in runner held a ≡ list_all (clause_holds a) clauses
false_value runner held clauses place is value a =
    let none : holds_in runner held a ≡ false =
    (λ i. value_of runner.terms.table.graph (by_level runner.terms.table.graph.order a) (is i)) in
    none ∙ sym (none_holds clauses a place (sym (value a) ∙ none))

-- all clauses are taken
pub whole_value : {S : Type 0} (runner : Runner S) (held : HeldTerm) (clauses : List (List ℤ)) (place : ℕ) → place ≡ length clauses
    → ((a : Assignment) → holds_in runner held a ≡ list_all (clause_holds a) (take place clauses)) → (a : Assignment)
    → holds_in runner held a ≡ list_all (clause_holds a) clauses
whole_value runner held clauses place all value a =
    value a ∙ ap (λ (n : ℕ). list_all (clause_holds a) (take n clauses)) all ∙ ap (list_all (clause_holds a)) (all_taken clauses)

-- a term that is out alone, behind these steps
pub alone_behind : {S : Type 0} (old new : Runner S) (holds : Assignment → Bool) (term : Term) → IsRunner new
    → IsListed [] new.terms.out.items term.held → ((a : Assignment) → holds_in new term.held a ≡ holds a)
    → (old.refuted ≡ false → term.held.node ≢ False → new.refuted ≡ false) → Goes old new None → TakesOver [] holds old new (Ok term)
alone_behind old new holds term runner alone value unrefuted goes = record {
  goes_on = λ whole. runner;
  value = value;
  listed = alone;
  refused = λ whole e. absurd (let no : false ≡ true = e in cc);
  unrefuted = λ whole was some. unrefuted was some;
  goes = goes;
}

-- a step that failed, behind others
pub error_behind : {S : Type 0} → StepByStep S → (old mid new : Runner S) (one other : Assignment → Bool) (error : TableError)
    → Goes old mid None → (old.refuted ≡ false → mid.refuted ≡ false) → TakesOver [] one mid new (Err error)
    → TakesOver [] other old new (Err error)
error_behind steps old mid new one other error before yet over = record {
  goes_on = over.goes_on;
  value = tt;
  listed = tt;
  refused = over.refused;
  unrefuted = λ whole was ends. over.unrefuted whole (yet was) ends;
  goes = goes_further steps old mid new (Some error) before over.goes;
}

-- A clause that isn't empty holds somewhere, so its term isn't False.
some_holds : (clause : List ℤ) → clause ≢ [] → (a : Assignment) × (clause_holds a clause ≡ true)
some_holds [] some = absurd (some refl)
some_holds (pos n ∷ more) some = (λ v. true, refl)
some_holds (negsuc n ∷ more) some = (λ v. false, refl)

pub clause_open : {S : Type 0} (old new : Runner S) (held : HeldTerm) (number : ℕ) → slice_index_or old.formula.now.clauses (number - 1) [] ≢ []
    → ((a : Assignment) → holds_in new held a ≡ term_holds old.formula.now a (input_term number)) → held.node ≢ False
clause_open old new held number some value is =
    let at = some_holds (slice_index_or old.formula.now.clauses (number - 1) []) some in
    let none : holds_in new held at.0 ≡ false = (λ i. value_of new.terms.table.graph (by_level new.terms.table.graph.order at.0) (is i)) in
    true≢false (sym at.1 ∙ sym (value at.0) ∙ none)
