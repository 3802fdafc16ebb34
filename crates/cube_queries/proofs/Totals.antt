-- What it costs to conjoin all clauses, and to answer all cubes.
use Rattle.std.proofs.Common.{◌≡◌, ◌∙◌, ◌<◌, ◌≤◌, ◌+◌, ◌*◌, ◌-◌, ◌&&◌, ℕ, suc, Bool, false, ℤ, List, [], ◌∷◌}
use Rattle.std.proofs.Common.{length, map, take, Contains, Option, None, Some, Ok, Err, Result, refl, sym, ap, subst, arith, inl, inr}
use Rattle.std.specs.Prelude.{IsErrAnd, IsTrue, slice_index_or}
use Rattle.std.specs.List.{list_all}
use Rattle.std.proofs.Math.Nat.{add-mul, mul-le-mul_right}
use Rattle.std.proofs.lemmas.List.Elements.{Contains-get_or}
use Rattle.cnf_base.specs.Formula.{Formula}
use Rattle.cnf_base.specs.Truth.{Assignment, clause_holds}
use Rattle.node_table.specs.declared.error.TableError.{TableError}
use Rattle.node_table.specs.declared.error.TableError.TheVariants.{NodeLimit}
use Rattle.node_table.specs.Diagram.{levels}
use Rattle.node_table.specs.Progress.{error_of}
use Rattle.node_table.specs.Laws.{StepByStep}
use Rattle.node_table.specs.Table.{live_nodes}
use Rattle.node_table.specs.Value.{Levels, fixed_to}
use Rattle.clause_terms.specs.Term.{by_variable}
use Rattle.schedule_plan.specs.declared.limits.Limits.{Limits}
use Rattle.schedule_plan.specs.Plan.{Term, both, clause_of_number, conjoin, input as input_term, term_holds}
use Rattle.bdd_terms.specs.declared.held.HeldTerm.{HeldTerm}
use Rattle.bdd_terms.specs.declared.runner.Runner.{Runner}
use Rattle.bdd_terms.specs.Counting.{Counting}
use Rattle.bdd_terms.specs.Price.{IsMovePrice}
use Rattle.bdd_terms.specs.Runner.{IsGood, IsListed, IsRunner, Releases, holds_in}
use Rattle.term_runner.specs.Width.{HasWidth, IsInHand, IsWider}
use Rattle.bdd_terms.specs.Parts.{term_function}
use Rattle.cube_queries.specs.Steps.{Costs, CostsAll, CostsCubes, CostsPlan, Goes, clause_in, formula_holds, function_in, functions_out}
use Rattle.cube_queries.specs.Steps.{functions_with}
use Rattle.cube_queries.specs.Width.{HaveMore, numbers_of_cubes, plan_of}
use Rattle.cube_queries.specs.Sums.{AreAllReached}
use Rattle.cube_queries.proofs.Added.{few_nodes}
use Rattle.cube_queries.proofs.Costed.{function_is, more_of_whole, top_released}
use Rattle.cube_queries.proofs.Moves.{all_up_to, both_there, clause_there, formula_function, front_holds, front_there, moves_more, moves_rise, pushed_at}
use Rattle.cube_queries.proofs.Moves.{stage_of, wider_first, wider_next, wider_whole}
use Rattle.cube_queries.proofs.Parts.{among_cases, first_among}

-- the formula is the runner's
pub within_old : {S : Type 0} (old : Runner S) (formula : Formula) → old.formula.now ≡ formula → (place : ℕ) → place < length formula.clauses
    → place < length old.formula.now.clauses
within_old old formula same place within =
    let lengths : length old.formula.now.clauses ≡ length formula.clauses = ap (λ (f : Formula). length f.clauses) same in
    omega (arith, within, lengths)

pub value_old : {S : Type 0} (old : Runner S) (formula : Formula) → old.formula.now ≡ formula → (mid : Runner S) (held : HeldTerm) (place : ℕ)
    → ((a : Assignment) → holds_in mid held a ≡ list_all (clause_holds a) (take place formula.clauses)) → (a : Assignment)
    → holds_in mid held a ≡ list_all (clause_holds a) (take place old.formula.now.clauses)
value_old old formula same mid held place value a =
    value a ∙ ap (λ (f : Formula). list_all (clause_holds a) (take place f.clauses)) (sym same)

-- no numbers but those of the first clauses' moves
pub record PaidTo {S : Type 0} (place : ℕ) (old new : Runner S) : Type 0 where
  pub paid : (width price : ℕ)
      → HasWidth old.formula.now old.terms.table.graph.order (conjoin (length old.formula.now.clauses)) width
      → IsMovePrice (levels old.terms.table.graph) old.limits.cache width price
      → new.terms.table.book.state.top ≤ old.terms.table.book.state.top + length (conjoin place) * price

-- a formula without clauses, or one with an empty clause
pub plan_none : {S : Type 0} (runner : Runner S) → CostsPlan runner runner None
plan_none runner = record {
  short = λ is. absurd (let no : ◌≡◌ {A = Option TableError} None (Some NodeLimit) = is in cc);
  paid = λ width price most is. omega arith;
}

module _ {S : Type 0} (old new : Runner S) (none_out : old.terms.out.items ≡ []) where
  -- the only function in hand is the clause's
  alone_in : (number : ℕ) (f : Levels → Bool) → Contains (clause_in old number ∷ functions_out old) f → f ≡ clause_in old number
  alone_in number f there = elim (among_cases (clause_in old number) f (functions_out old) there) [
    | inl same ↦ sym same
    | inr out ↦
        let in_none : Contains [] f = subst (λ (l : List HeldTerm). Contains (map (function_in old) l) f) none_out out in
        absurd (omega (arith, in_none.1))
  ]

  -- an empty clause holds nowhere: no part of it matters
  pub empty_costs : (number : ℕ) → 0 < length old.formula.now.clauses → clause_of_number old.formula.now number ≡ []
      → (error : Option TableError) → Costs 1 (clause_in old number ∷ functions_out old) old new error → CostsPlan old new error
  empty_costs number some empty error costs = record {
    short = λ is. absurd (none old.limits.max_nodes (costs.short is));
    paid = λ width price most is.
        let one = costs.paid width price (none width) is in
        let more : length (conjoin 1) * price ≤ length (conjoin (length old.formula.now.clauses)) * price =
        mul-le-mul_right price (moves_rise 1 (length old.formula.now.clauses) some) in
        omega (arith, one, more);
  }
    where
      none : (number_of : ℕ) → HaveMore (clause_in old number ∷ functions_out old) number_of → ⊥
      none number_of have =
          let first : 0 < length have.parts = omega (arith, have.more) in
          let part = have.are 0 first in
          have.essential 0 first false (λ a.
          part.is_part.same a ∙ (λ i. alone_in number part.function part.among i (fixed_to part.is_part.level part.is_part.fixed a))
          ∙ ap (clause_holds (by_variable old.terms.table.graph.order (fixed_to part.is_part.level part.is_part.fixed a))) empty)

  -- the first clause's term
  pub first_costs : 0 < length old.formula.now.clauses → (error : Option TableError)
      → Costs 1 (clause_in old 1 ∷ functions_out old) old new error → PaidTo 1 old new
  first_costs some error costs = record {
    paid = λ width price most is. costs.paid width price (λ have. most (wider_first old.formula.now old.terms.table.graph.order some
        (clause_in old 1 ∷ functions_out old) (alone_in 1) width have)) is;
  }

  pub first_short : 0 < length old.formula.now.clauses → (error : Option TableError)
      → Costs 1 (clause_in old 1 ∷ functions_out old) old new error → CostsPlan old new error
  first_short some error costs = record {
    short = λ is. wider_first old.formula.now old.terms.table.graph.order some (clause_in old 1 ∷ functions_out old) (alone_in 1)
        old.limits.max_nodes (costs.short is);
    paid = λ width price most is.
        let one = (first_costs some error costs).paid width price most is in
        let more : length (conjoin 1) * price ≤ length (conjoin (length old.formula.now.clauses)) * price =
        mul-le-mul_right price (moves_rise 1 (length old.formula.now.clauses) some) in
        omega (arith, one, more);
  }

-- all clauses that were taken are some of them
pub plan_done : {S : Type 0} (old new : Runner S) (place : ℕ) → place ≤ length old.formula.now.clauses → PaidTo place old new
    → CostsPlan old new None
plan_done old new place within before = record {
  short = λ is. absurd (let no : ◌≡◌ {A = Option TableError} None (Some NodeLimit) = is in cc);
  paid = λ width price most is.
      let one = before.paid width price most is in
      let more : length (conjoin place) * price ≤ length (conjoin (length old.formula.now.clauses)) * price =
      mul-le-mul_right price (moves_rise place (length old.formula.now.clauses) within) in
      omega (arith, one, more);
}

-- One clause more, behind the first ones.
module _ {S : Type 0} (counting : Counting S) (old mid new : Runner S) (held : HeldTerm) (place : ℕ) (is_mid : IsRunner mid)
    (good : IsGood mid held) (some : 0 < place) (within : place < length old.formula.now.clauses) (goes : Goes old mid None)
    (value : (a : Assignment) → holds_in mid held a ≡ list_all (clause_holds a) (take place old.formula.now.clauses))
    (before : PaidTo place old mid) (error : Option TableError)
    (costs : Costs 2 (functions_with mid held (place + 1)) mid new error) where
  abbrev formula : Formula
  formula = old.formula.now

  abbrev order : List ℕ
  order = old.terms.table.graph.order

  wider_by : (n : ℕ) → suc n ≡ place → (number : ℕ) → HaveMore (functions_with mid held (place + 1)) number
      → IsWider formula order (conjoin (length formula.clauses)) number
  wider_by n is number have =
      wider_next formula order n (omega (arith, is, within)) (functions_with mid held (place + 1)) terms number have
    where
      front_is : function_in mid held ≡ term_function formula order (all_up_to n)
      front_is =
          function_is counting mid is_mid held good (λ a. list_all (clause_holds a) (take place formula.clauses)) value
          ∙ (λ i a. list_all (clause_holds (by_variable (goes.order i) a)) (take (sym is i) formula.clauses))
          ∙ (λ i a. front_holds formula n (omega (arith, is, within)) (by_variable order a) i)

      clause_is : clause_in mid (place + 1) ≡ term_function formula order (input_term (suc (suc n)))
      clause_is =
          let same : place + 1 ≡ suc (suc n) = omega (arith, is) in
          λ i a. term_holds (goes.formula i).now (by_variable (goes.order i) a) (input_term (same i))

      terms : (f : Levels → Bool) → Contains (functions_with mid held (place + 1)) f
          → (term : Term) × IsInHand false (pushed_at n) (stage_of (suc (suc n))) term × (f ≡ term_function formula order term)
      terms f there = elim (among_cases _ f (clause_in mid (place + 1) ∷ function_in mid held ∷ []) there) [
        | inl same ↦
            (both (all_up_to n) (input_term (suc (suc n))), both_there n, sym same ∙ (λ i a. front_is i a && clause_is i a))
        | inr more ↦ elim (among_cases (clause_in mid (place + 1)) f (function_in mid held ∷ []) more) [
          | inl same ↦ (input_term (suc (suc n)), clause_there n, sym same ∙ clause_is)
          | inr last ↦ elim (among_cases (function_in mid held) f [] last) [
            | inl same ↦ (all_up_to n, front_there n, sym same ∙ front_is)
            | inr none ↦ absurd (omega (arith, none.1))
          ]
        ]
      ]

  wider : (number : ℕ) → HaveMore (functions_with mid held (place + 1)) number → IsWider formula order (conjoin (length formula.clauses)) number
  wider number have = let back : suc (place - 1) ≡ place = omega (arith, some) in wider_by (place - 1) back number have

  moves_are : length (conjoin (place + 1)) ≡ length (conjoin place) + 2
  moves_are =
      let back : suc (place - 1) ≡ place = omega (arith, some) in
      let next : suc (suc (place - 1)) ≡ place + 1 = omega (arith, some) in
      sym (ap (λ (n : ℕ). length (conjoin n)) next) ∙ moves_more (place - 1) ∙ ap (λ (n : ℕ). length (conjoin n) + 2) back

  pub next_costs : PaidTo (place + 1) old new
  next_costs = record {
    paid = λ width price most is.
        let one = before.paid width price most is in
        let other = costs.paid width price (λ have. most (wider width have))
        (subst (λ (n : ℕ). IsMovePrice n mid.limits.cache width price) (sym (ap length goes.order))
        (subst (λ (l : Limits). IsMovePrice (levels old.terms.table.graph) l.cache width price) (sym goes.limits) is)) in
        let all : length (conjoin (place + 1)) * price ≡ length (conjoin place) * price + 2 * price =
        ap (λ (n : ℕ). n * price) moves_are ∙ add-mul (length (conjoin place)) 2 price in
        omega (arith, one, other, all);
  }

  pub next_short : CostsPlan old new error
  next_short = record {
    short = λ is. wider old.limits.max_nodes (subst (λ (l : Limits). HaveMore (functions_with mid held (place + 1)) l.max_nodes) goes.limits
        (costs.short is));
    paid = λ width price most is.
        let one = next_costs.paid width price most is in
        let more : length (conjoin (place + 1)) * price ≤ length (conjoin (length formula.clauses)) * price =
        mul-le-mul_right price (moves_rise (place + 1) (length formula.clauses) (omega (arith, within))) in
        omega (arith, one, more);
  }

-- an error that is handed on
pub plan_handed : {S T : Type 0} (old new : Runner S) (error : TableError) (r : Result T TableError) → IsErrAnd r (λ e. e ≡ error)
    → CostsPlan old new (Some error) → CostsPlan old new (error_of r)
plan_handed old new error (Ok x) is costs = absurd is
plan_handed old new error (Err e) is costs = subst (λ (e : TableError). CostsPlan old new (Some e)) (sym is) costs

-- What the cubes cost: their own numbers, and those of the nodes' sums, of which there are no more than parts of the formula's function.
module _ {S : Type 0} (steps : StepByStep S) (counting : Counting S) (cubes : List (List ℤ)) (old mid new : Runner S) (held : HeldTerm)
    (goes : Goes old mid None) (is : IsRunner mid) (reached : AreAllReached mid) (alone : IsListed [] mid.terms.out.items held)
    (good : IsGood mid held) (value : (a : Assignment) → holds_in mid held a ≡ formula_holds mid.formula.now a)
    (few : new.terms.table.book.state.top ≤ old.terms.table.book.state.top + (live_nodes mid.terms.table.graph + length cubes))
    (none : cubes ≡ [] → new.terms.table.book.state.top ≤ old.terms.table.book.state.top) where
  nodes_within : (width : ℕ) → HasWidth old.formula.now old.terms.table.graph.order (plan_of old.formula.now) width
      → live_nodes mid.terms.table.graph ≤ width
  nodes_within width most = few_nodes steps counting mid is reached width (λ have. most
      (wider_whole old.formula.now old.terms.table.graph.order width
      (subst (λ (f : Formula). HaveMore (formula_function f old.terms.table.graph.order ∷ []) width) (ap (λ f. f.now) goes.formula)
      (subst (λ (o : List ℕ). HaveMore (formula_function mid.formula.now o ∷ []) width) goes.order
      (more_of_whole counting mid held is alone good value width have)))))

  paid : (list : List (List ℤ)) → cubes ≡ list → (width : ℕ)
      → HasWidth old.formula.now old.terms.table.graph.order (plan_of old.formula.now) width
      → new.terms.table.book.state.top ≤ old.terms.table.book.state.top + numbers_of_cubes width list
  paid [] same width most = let own = none same in omega (arith, own)
  paid (cube ∷ more) same width most = omega (arith, few, nodes_within width most, ap length same)

  pub cubes_cost : CostsCubes cubes old new
  cubes_cost = record { paid = paid cubes refl }

-- none was answered
pub no_cubes_cost : {S : Type 0} (cubes : List (List ℤ)) (old new : Runner S)
    → new.terms.table.book.state.top ≡ old.terms.table.book.state.top → CostsCubes cubes old new
no_cubes_cost cubes old new top = record { paid = λ width most. omega (arith, top) }

-- the clauses, and then the cubes
pub costs_all : {S : Type 0} (cubes : List (List ℤ)) (old mid new : Runner S) (error : Option TableError) → Goes old mid None
    → (error ≡ Some NodeLimit → ⊥) → CostsPlan old mid None → CostsCubes cubes mid new → CostsAll cubes old new error
costs_all cubes old mid new error goes no_limit plan all = record {
  short = λ is. absurd (no_limit is);
  paid = λ width price most is.
      let one = plan.paid width price most is in
      let other = all.paid width (λ wider. most (still width wider)) in
      omega (arith, one, other);
}
  where
    still : (number : ℕ) → IsWider mid.formula.now mid.terms.table.graph.order (plan_of mid.formula.now) number
        → IsWider old.formula.now old.terms.table.graph.order (plan_of old.formula.now) number
    still number wider = subst (λ (f : Formula). IsWider f old.terms.table.graph.order (plan_of f) number) (ap (λ f. f.now) goes.formula)
        (subst (λ (o : List ℕ). IsWider mid.formula.now o (plan_of mid.formula.now) number) goes.order wider)

-- where the formula's term failed
pub costs_plan : {S T : Type 0} (cubes : List (List ℤ)) (old new : Runner S) (error : TableError) (r : Result T TableError)
    → IsErrAnd r (λ e. e ≡ error) → CostsPlan old new (Some error) → CostsAll cubes old new (error_of r)
costs_plan cubes old new error (Ok x) is plan = absurd is
costs_plan cubes old new error (Err e) is plan = record {
  short = λ met. plan.short (ap Some (sym is) ∙ met);
  paid = λ width price most cost.
      let one = plan.paid width price most cost in omega (arith, one);
}

-- and behind the release
pub costs_all_released : {S : Type 0} (cubes : List (List ℤ)) (old mid new : Runner S) (held : HeldTerm)
    → (IsTrue mid.terms.table.book.in_step → Releases held mid new) → (mid.terms.table.book.in_step ≡ false → new ≡ mid)
    → (error : Option TableError) → CostsAll cubes old mid error → CostsAll cubes old new error
costs_all_released cubes old mid new held released torn error costs = record {
  short = costs.short;
  paid = λ width price most is. let one = costs.paid width price most is in omega (arith, one, top_released mid new held released torn);
}
