-- What is left to show of `term_of_formula`.
use Rattle.std.proofs.Common.{◌≡◌, ◌≢◌, ◌∙◌, ◌<◌, ◌+◌, ◌-◌, ℕ, Bool, true, false, true≢false, ℤ, [], ◌∷◌, List, None, Some, length, refl, sym, ap, subst, arith}
use Rattle.std.specs.Prelude.{◌↔◌, IsTrue, slice_index_or}
use Rattle.node_table.specs.declared.node.Node.{Node}
use Rattle.node_table.specs.declared.node.Node.TheVariants.{False}
use Rattle.cnf_base.specs.Formula.{Formula}
use Rattle.node_table.specs.HandedOn.{no_error}
use Rattle.schedule_plan.specs.Plan.{clause_of_number}
use Rattle.bdd_terms.specs.declared.held.HeldTerm.{HeldTerm}
use Rattle.bdd_terms.specs.declared.term.Term.{Term}
use Rattle.bdd_terms.specs.Runner.{IsListed, holds_in}
use Rattle.cube_queries.specs.Steps.{formula_holds}
use Rattle.cube_queries.proofs.Alone.{alone_good}
use Rattle.cube_queries.proofs.Joined.{over_handed}
use Rattle.cube_queries.proofs.Stays.{goes_further}
use Rattle.cube_queries.proofs.Taken.{costs_of, taken}
use Rattle.cube_queries.proofs.Totals.{empty_costs, first_costs, first_short, next_costs, next_short, plan_done, plan_handed, plan_none}
use Rattle.cube_queries.proofs.Totals.{value_old, within_old}
use Rattle.cube_queries.proofs.Whole.{alone_behind, empty_alone, error_behind, false_value, first_alone, first_value, goes_none, more_value}
use Rattle.cube_queries.proofs.Whole.{truth_alone, whole_value}
use Rattle.cube_queries.proofs.formula_term.term_of_formula.Goals as goal

-- there is some clause
some_of : (clauses : List (List ℤ)) (b : Bool) → (IsTrue b ↔ (clauses ≡ [])) → b ≡ false → 0 < length clauses
some_of [] b tells full = let e : true ≡ false = sym (tells.1 refl) ∙ full in cc
some_of (clause ∷ clauses) b tells full = omega arith

pub returns-then-is_empty-clause-takes : goal.returns-then-is_empty-clause-takes
returns-then-is_empty-clause-takes g c =
    truth_alone c.steps_law.ensures c.args.runner.now c.requires.runner c.requires.none_out c.args.formula.now
    (c.is_empty.ensures.0 c.if-is_empty.true) c.truth.result (ap (λ (t : Term). t.held) c.truth.ensures)

pub returns-in-Some-clause-takes : goal.returns-in-Some-clause-takes
returns-in-Some-clause-takes g c =
    let at = c.in-Some.ensures in
    empty_alone c.args.runner.now c.args.formula.now c.requires.formula c.requires.none_out c.in-Some.number at.from_one at.to_len at.empty
    c.term.new.self c.term.result (taken _ c.args.runner.now c.term.new.self c.term.result c.term.ensures.takes)

pub returns-in_err-term-clause-takes : goal.returns-in_err-term-clause-takes
returns-in_err-term-clause-takes g c =
    over_handed [] (formula_holds c.args.formula.now) c.args.runner.now c.term-2.new.self c.in_err-term.field-0.0 _
    c.from_residual.ensures.1
    (error_behind c.steps_law.ensures c.args.runner.now c.args.runner.now c.term-2.new.self _ (formula_holds c.args.formula.now)
    c.in_err-term.field-0.0 (goes_none c.steps_law.ensures c.args.runner.now c.requires.runner) (λ was. was)
    (first_alone c.args.runner.now c.args.formula.now c.requires.formula c.requires.none_out c.term-2.new.self _
    (taken _ c.args.runner.now c.term-2.new.self _ c.in_err-term.ensures.takes)))

pub clauses-init : goal.clauses-init
clauses-init g c =
    let takes = taken _ c.args.runner.now c.term-2.new.self _ c.in_ok-term.ensures.takes in
    let full : c.is_empty.result ≡ false = cc in
    let some = some_of c.args.formula.now.clauses c.is_empty.result c.is_empty.ensures full in
    record {
      runner = takes.goes_on no_error;
      alone = subst (λ (l : List HeldTerm). IsListed l c.term-2.new.self.terms.out.items c.in_ok-term.term.held) c.requires.none_out
          takes.listed;
      value = λ a. takes.value a ∙ first_value c.args.runner.now c.args.formula.now c.requires.formula
          some a;
      unrefuted = takes.unrefuted no_error;
      goes = takes.goes;
      some = omega arith;
      paid = first_costs c.args.runner.now c.term-2.new.self c.requires.none_out (within_old c.args.runner.now c.args.formula.now c.requires.formula 0 some) None
          (costs_of _ c.args.runner.now c.term-2.new.self _ c.in_ok-term.ensures.costs);
    }

pub returns-then-is_false-clause-takes : goal.returns-then-is_false-clause-takes
returns-then-is_false-clause-takes g c =
    let inside = c.clauses.invariant in
    alone_behind c.args.runner.now c.clauses.runner (formula_holds c.args.formula.now) c.clauses.term inside.runner inside.alone
    (false_value c.clauses.runner c.clauses.term.held c.args.formula.now.clauses c.clauses.place
    (sym c.node.ensures ∙ c.is_false.ensures.0 c.if-is_false.true) inside.value) inside.unrefuted inside.goes

-- a term that isn't told to be False is not
open_term : (held : HeldTerm) (node : Node) → node ≡ held.node → (b : Bool) → (IsTrue b ↔ (node ≡ False)) → b ≡ false → held.node ≢ False
open_term held node same b tells not is = true≢false (sym (tells.1 (same ∙ is)) ∙ not)

pub with_clause-requires-clause-some : goal.with_clause-requires-clause-some
with_clause-requires-clause-some g c =
    let of_formula = ap (λ f. f.now) c.clauses.invariant.goes.formula ∙ c.requires.formula in
    let back : c.clauses.place + 1 - 1 ≡ c.clauses.place = omega arith in
    λ empty. c.in_default.ensures.each c.clauses.place (omega (arith, c.clauses-test.true, c.len-place-end.ensures))
    (ap (λ (n : ℕ). slice_index_or c.args.formula.now.clauses n []) (sym back)
    ∙ ap (λ (f : Formula). slice_index_or f.clauses (c.clauses.place + 1 - 1) []) (sym of_formula) ∙ empty)

pub with_clause-requires-clause-to_len : goal.with_clause-requires-clause-to_len
with_clause-requires-clause-to_len g c =
    let of_formula = ap (λ f. f.now) c.clauses.invariant.goes.formula ∙ c.requires.formula in
    let same = ap (λ (f : Formula). length f.clauses) of_formula in
    omega (arith, same, c.clauses-test.true, c.len-place-end.ensures)

pub returns-in_err-term-2-clause-takes : goal.returns-in_err-term-2-clause-takes
returns-in_err-term-2-clause-takes g c =
    over_handed [] (formula_holds c.args.formula.now) c.args.runner.now c.with_clause.new.runner c.in_err-term-2.field-0.0 _
    c.from_residual-in_err-term-2.ensures.1
    (error_behind c.steps_law.ensures c.args.runner.now c.clauses.runner c.with_clause.new.runner _ (formula_holds c.args.formula.now)
    c.in_err-term-2.field-0.0 c.clauses.invariant.goes
    (λ was. c.clauses.invariant.unrefuted was
    (open_term c.clauses.term.held c.node.result c.node.ensures c.is_false.result c.is_false.ensures c.if-is_false.false))
    c.in_err-term-2.ensures.takes)

pub clauses-preserved : goal.clauses-preserved
clauses-preserved g c =
    let inside = c.clauses.invariant in
    let over = c.in_ok-term-2.ensures.takes in
    let of_formula = ap (λ f. f.now) inside.goes.formula ∙ c.requires.formula in
    record {
      runner = over.goes_on no_error;
      alone = over.listed;
      value = λ a. over.value a
          ∙ more_value c.clauses.runner c.args.formula.now of_formula c.clauses.place (omega (arith, c.clauses-test.true, c.len-place-end.ensures))
          (λ a. holds_in c.clauses.runner c.clauses.term.held a) inside.value a;
      unrefuted = λ was some. over.unrefuted no_error (inside.unrefuted was
          (open_term c.clauses.term.held c.node.result c.node.ensures c.is_false.result c.is_false.ensures c.if-is_false.false)) some;
      goes = goes_further c.steps_law.ensures c.args.runner.now c.clauses.runner c.with_clause.new.runner _ inside.goes over.goes;
      some = omega (arith, inside.some);
      paid = next_costs c.counting_law.ensures c.args.runner.now c.clauses.runner c.with_clause.new.runner c.clauses.term.held
          c.clauses.place inside.runner (alone_good c.clauses.runner c.clauses.term.held inside.alone)
          inside.some (within_old c.args.runner.now c.args.formula.now c.requires.formula c.clauses.place
          (omega (arith, c.clauses-test.true, c.len-place-end.ensures))) inside.goes (value_old c.args.runner.now c.args.formula.now c.requires.formula c.clauses.runner
          c.clauses.term.held c.clauses.place inside.value) inside.paid None c.in_ok-term-2.ensures.costs;
    }

pub returns-clause-takes : goal.returns-clause-takes
returns-clause-takes g c =
    let inside = c.clauses.invariant in
    let full : c.is_empty.result ≡ false = cc in
    let some = some_of c.args.formula.now.clauses c.is_empty.result c.is_empty.ensures full in
    let all : c.clauses.place ≡ length c.args.formula.now.clauses = omega (arith, some, c.clauses.auto.place-end, c.len-place-end.ensures, c.clauses-test.false) in
    alone_behind c.args.runner.now c.clauses.runner (formula_holds c.args.formula.now) c.clauses.term inside.runner inside.alone
    (whole_value c.clauses.runner c.clauses.term.held c.args.formula.now.clauses c.clauses.place all inside.value) inside.unrefuted inside.goes

pub returns-then-is_empty-clause-costs : goal.returns-then-is_empty-clause-costs
returns-then-is_empty-clause-costs g c = plan_none c.args.runner.now

pub returns-in-Some-clause-costs : goal.returns-in-Some-clause-costs
returns-in-Some-clause-costs g c =
    let at = c.in-Some.ensures in
    empty_costs c.args.runner.now c.term.new.self c.requires.none_out c.in-Some.number
    (within_old c.args.runner.now c.args.formula.now c.requires.formula 0 (omega (arith, at.from_one, at.to_len)))
    (ap (λ (f : Formula). clause_of_number f c.in-Some.number) c.requires.formula ∙ at.empty) _ (costs_of _ c.args.runner.now c.term.new.self _ c.term.ensures.costs)

pub returns-in_err-term-clause-costs : goal.returns-in_err-term-clause-costs
returns-in_err-term-clause-costs g c =
    let full : c.is_empty.result ≡ false = cc in
    let some = some_of c.args.formula.now.clauses c.is_empty.result c.is_empty.ensures full in
    plan_handed c.args.runner.now c.term-2.new.self c.in_err-term.field-0.0 _ c.from_residual.ensures.1
    (first_short c.args.runner.now c.term-2.new.self c.requires.none_out
    (within_old c.args.runner.now c.args.formula.now c.requires.formula 0 some) (Some c.in_err-term.field-0.0) (costs_of _ c.args.runner.now c.term-2.new.self _ c.in_err-term.ensures.costs))

pub returns-then-is_false-clause-costs : goal.returns-then-is_false-clause-costs
returns-then-is_false-clause-costs g c =
    let within = within_old c.args.runner.now c.args.formula.now c.requires.formula c.clauses.place (omega (arith, c.clauses-test.true, c.len-place-end.ensures)) in
    plan_done c.args.runner.now c.clauses.runner c.clauses.place (omega (arith, within)) c.clauses.invariant.paid

pub returns-in_err-term-2-clause-costs : goal.returns-in_err-term-2-clause-costs
returns-in_err-term-2-clause-costs g c =
    let inside = c.clauses.invariant in
    plan_handed c.args.runner.now c.with_clause.new.runner c.in_err-term-2.field-0.0 _ c.from_residual-in_err-term-2.ensures.1
    (next_short c.counting_law.ensures c.args.runner.now c.clauses.runner c.with_clause.new.runner c.clauses.term.held c.clauses.place
    inside.runner (alone_good c.clauses.runner c.clauses.term.held inside.alone) inside.some
    (within_old c.args.runner.now c.args.formula.now c.requires.formula c.clauses.place (omega (arith, c.clauses-test.true, c.len-place-end.ensures))) inside.goes
    (value_old c.args.runner.now c.args.formula.now c.requires.formula c.clauses.runner c.clauses.term.held c.clauses.place inside.value)
    inside.paid (Some c.in_err-term-2.field-0.0) c.in_err-term-2.ensures.costs)

pub returns-clause-costs : goal.returns-clause-costs
returns-clause-costs g c =
    let full : c.is_empty.result ≡ false = cc in
    let some = some_of c.args.formula.now.clauses c.is_empty.result c.is_empty.ensures full in
    let all : c.clauses.place ≡ length c.args.formula.now.clauses = omega (arith, some, c.clauses.auto.place-end, c.len-place-end.ensures, c.clauses-test.false) in
    let same : length c.args.runner.now.formula.now.clauses ≡ length c.args.formula.now.clauses =
    ap (λ (f : Formula). length f.clauses) c.requires.formula in
    plan_done c.args.runner.now c.clauses.runner c.clauses.place (omega (arith, all, same)) c.clauses.invariant.paid
