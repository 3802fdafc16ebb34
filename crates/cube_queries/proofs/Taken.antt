-- The runner's calls as steps of a session.
use Rattle.std.proofs.Common.{◌≡◌, ◌⊎◌, ◌∙◌, ◌&&◌, ℕ, Bool, List, ◌∷◌, Option, None, Some, Ok, Err, Result, refl, sym, ap, subst, arith}
use Rattle.std.proofs.Common.{inl, inr}
use Rattle.cnf_base.specs.Truth.{Assignment}
use Rattle.node_table.specs.declared.error.TableError.{TableError}
use Rattle.node_table.specs.declared.error.TableError.TheVariants.{IdLimit, NodeLimit, OutOfMemory, WriteFault}
use Rattle.node_table.specs.Diagram.{Graph}
use Rattle.node_table.specs.HandedOn.{no_error, same_error}
use Rattle.node_table.specs.Progress.{error_of}
use Rattle.node_table.specs.Value.{Levels}
use Rattle.bdd_terms.specs.declared.held.HeldTerm.{HeldTerm}
use Rattle.bdd_terms.specs.declared.runner.Runner.{Runner}
use Rattle.bdd_terms.specs.declared.term.Term.{Term}
use Rattle.bdd_terms.specs.Counting.{Counting}
use Rattle.bdd_terms.specs.Runner.{IsGood, IsRunner, holds_in}
use Rattle.bdd_terms.specs.Takes.{asked_in}
use Rattle.bdd_terms.specs.Takes as call
use Rattle.cube_queries.specs.Steps.{Costs, GivesBack, Takes, function_in, functions_out}
use Rattle.cube_queries.proofs.Costed.{function_is}
use Rattle.cube_queries.proofs.Parts.{more_of_one}
use Rattle.cube_queries.proofs.Stays.{good_same, keeps_reached, keeps_same}

-- a call that ended with this error
pub error_is : {T : Type 0} (result : Result T TableError) (e : TableError) → error_of result ≡ Some e → result ≡ Err e
error_is (Ok x) e is = absurd (let no : ◌≡◌ {A = Option TableError} None (Some e) = is in cc)
error_is (Err error) e is = let same : error ≡ e = (let whole : ◌≡◌ {A = Option TableError} (Some error) (Some e) = is in cc) in ap Err same

-- a call that gives a term
pub taken : {S : Type 0} (holds : Assignment → Bool) (old new : Runner S) (result : Result Term TableError) → call.Takes holds old new result
    → Takes holds old new result
taken holds old new result takes = record {
  goes_on = takes.goes_on;
  value = takes.value;
  listed = takes.listed;
  refused = takes.refused;
  unrefuted = λ whole was some. takes.unrefuted whole some ∙ was;
  keeps = takes.keeps;
  goes = record {
    formula = takes.same.formula;
    limits = takes.same.limits;
    order = takes.order;
    origin = takes.same.origin;
    leaves = takes.leaves;
  };
}

-- what it costs is a move
pub costs_of : {S : Type 0} (functions : List (Levels → Bool)) (old new : Runner S) (error : Option TableError)
    → call.Costs functions old new error → Costs 1 functions old new error
costs_of functions old new error costs = record {
  short = costs.short;
  paid = λ width price most is.
      let one = costs.paid width price (λ f there more. most (more_of_one functions f there width more)) is in
      omega (arith, one);
}

-- the conjunction of two terms
pub costs_both : {S : Type 0} (counting : Counting S) (old new : Runner S) → IsRunner old → (u v : HeldTerm) → IsGood old u → IsGood old v
    → (error : Option TableError)
    → call.Costs (asked_in old (λ a. holds_in old u a && holds_in old v a) ∷ functions_out old) old new error
    → Costs 1 ((λ a. function_in old u a && function_in old v a) ∷ functions_out old) old new error
costs_both counting old new is u v is_u is_v error costs =
    let one = function_is counting old is u is_u (holds_in old u) (λ a. refl) in
    let other = function_is counting old is v is_v (holds_in old v) (λ a. refl) in
    let same : asked_in old (λ a. holds_in old u a && holds_in old v a) ≡ (λ (a : Levels). function_in old u a && function_in old v a) =
    λ i a. sym one i a && sym other i a in
    subst (λ (f : Levels → Bool). Costs 1 (f ∷ functions_out old) old new error) same
    (costs_of (asked_in old (λ a. holds_in old u a && holds_in old v a) ∷ functions_out old) old new error costs)

-- a reclamation
pub gives_back : {S : Type 0} (old new : Runner S) (result : Result ℕ TableError) → call.GivesBack old new result → GivesBack old new result
gives_back old new (Ok count) back =
    let items = ap (λ v. v.items) back.out in
    record {
      goes_on = back.goes_on;
      out = items;
      keeps = λ whole. keeps_reached old new back.reached items;
      no_limit = no_error;
      no_numbers = no_error;
      top = back.top;
      goes = record {
        formula = back.same.formula;
        limits = back.same.limits;
        order = back.reached.order;
        origin = back.same.origin;
        leaves = back.leaves;
      };
    }
gives_back old new (Err e) back =
    let items = ap (λ v. v.items) back.out in
    record {
      goes_on = back.goes_on;
      out = items;
      keeps = λ whole. keeps_same old new back.kept.0 (good_same old new items);
      no_limit = λ is. by_error (same_error is) back.error;
      no_numbers = λ is. by_numbers (same_error is) back.error;
      top = back.top;
      goes = record {
        formula = back.same.formula;
        limits = back.same.limits;
        order = ap (λ (graph : Graph). graph.order) back.kept.0;
        origin = back.same.origin;
        leaves = back.leaves;
      };
    }
  where
    by_error : e ≡ NodeLimit → (e ≡ OutOfMemory) ⊎ (e ≡ WriteFault) → ⊥
    by_error is (inl other) = let no : NodeLimit ≡ OutOfMemory = sym is ∙ other in cc
    by_error is (inr other) = let no : NodeLimit ≡ WriteFault = sym is ∙ other in cc

    by_numbers : e ≡ IdLimit → (e ≡ OutOfMemory) ⊎ (e ≡ WriteFault) → ⊥
    by_numbers is (inl other) = let no : IdLimit ≡ OutOfMemory = sym is ∙ other in cc
    by_numbers is (inr other) = let no : IdLimit ≡ WriteFault = sym is ∙ other in cc
