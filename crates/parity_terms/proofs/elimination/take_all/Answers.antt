-- What is left to show of `take_all`.
use Rattle.std.proofs.Common.{◌≡◌, ◌∙◌, ◌∷◌, ◌++◌, ◌+◌, ℕ, Bool, All, List, [], length, map, take, true, false, Ok, Err, refl, sym, ap}
use Rattle.std.proofs.Common.{subst, arith}
use Rattle.std.specs.Prelude.{slice_index_or}
use Rattle.std.proofs.lemmas.List.{take_all, take_more}
use Rattle.cnf_base.specs.Formula.{Formula}
use Rattle.cnf_base.specs.Order.{IsOrder}
use Rattle.node_table.specs.declared.error.TableError.TheVariants.{NodeLimit, OutOfMemory}
use Rattle.node_table.specs.HandedOn.{came_from, handed_on}
use Rattle.parity_equations.specs.declared.equations.Equation.{Equation}
use Rattle.parity_equations.specs.Walk.{IsEquationOf, listed}
use Rattle.parity_terms.specs.Order.{ArePlaces}
use Rattle.parity_terms.specs.Rows.{IsRow, TakesEquation}
use Rattle.parity_terms.proofs.AllTaken.{AreTaken, taken_all, taken_error, taken_memory, taken_more, taken_none, taken_refuted}
use Rattle.parity_terms.proofs.Reduced.{map_with}
use Rattle.parity_terms.proofs.elimination.take_all.Goals as goal
use Rattle.std.proofs.Common.{◌<◌, ◌+◌, ◌*◌, arith}
use Rattle.node_table.specs.HandedOn.{same_error}
use Rattle.parity_terms.specs.Limit.{AreBounded, AreOf, all_variables, step_width}
use Rattle.parity_terms.specs.Rows.{held_of}
use Rattle.parity_terms.proofs.AllBounds.{costs_all, costs_taken, counted_with, listed_of, none_counted, too_few}

pub places_of-requires : goal.places_of-requires
places_of-requires g c = record { order = subst IsOrder (sym c.order.ensures) c.requires.runner.over.sound.tied.ordered }

pub equations-init : goal.equations-init
equations-init g c = record {
  taken =
      taken_none c.steps_law.ensures c.in_ok-places.places.items c.args.runner.now c.args.rows.now.items c.requires.runner
      c.requires.none_out
      c.requires.unrefuted c.requires.none;
  counted = none_counted c.args.equations.now.list.items c.args.rows.now.items c.args.runner.now c.requires.none;
}

pub take_equation-requires-clause-runner : goal.take_equation-requires-clause-runner
take_equation-requires-clause-runner g c = c.equations.invariant.taken.runner

pub take_equation-requires-clause-unrefuted : goal.take_equation-requires-clause-unrefuted
take_equation-requires-clause-unrefuted g c = c.equations.invariant.taken.unrefuted

pub take_equation-requires-clause-rows : goal.take_equation-requires-clause-rows
take_equation-requires-clause-rows g c =
    subst (λ (places : List ℕ). All (IsRow c.equations.runner places) c.equations.rows.items) (sym c.as_slice.ensures.value)
    c.equations.invariant.taken.reduced.each

pub take_equation-requires-clause-owns : goal.take_equation-requires-clause-owns
take_equation-requires-clause-owns g c = c.equations.invariant.taken.owns

pub take_equation-requires-clause-places : goal.take_equation-requires-clause-places
take_equation-requires-clause-places g c =
    subst (ArePlaces c.equations.runner.terms.table.graph.order) (sym c.as_slice.ensures.value)
    (subst (λ (order : List ℕ). ArePlaces order c.in_ok-places.places.items) (sym c.equations.invariant.taken.keeps.order)
    (subst (λ (order : List ℕ). ArePlaces order c.in_ok-places.places.items) c.order.ensures c.in_ok-places.ensures.places))

pub take_equation-requires-clause-clauses : goal.take_equation-requires-clause-clauses
take_equation-requires-clause-clauses g c =
    let own = c.requires.clauses c.equations.place c.get.result.now (omega arith) in
    subst (λ (f : Formula). IsEquationOf f.vars f.clauses c.get.result.now)
    (sym (ap (λ f. f.now) c.equations.invariant.taken.keeps.formula))
    (subst (IsEquationOf c.args.runner.now.formula.now.vars c.args.runner.now.formula.now.clauses) (sym c.get.ensures) own)

pub returns-in_err-places-clause-eliminates : goal.returns-in_err-places-clause-eliminates
returns-in_err-places-clause-eliminates g c =
    taken_memory c.steps_law.ensures [] c.args.runner.now (map listed c.args.equations.now.list.items) c.args.rows.now.items
    c.args.runner.now
    (taken_none c.steps_law.ensures [] c.args.runner.now c.args.rows.now.items c.requires.runner c.requires.none_out
    c.requires.unrefuted c.requires.none)
    c.from_residual.result (handed_on c.from_residual.result OutOfMemory OutOfMemory c.from_residual.ensures.1 refl)

pub returns-in_err-is_refuted-clause-eliminates : goal.returns-in_err-is_refuted-clause-eliminates
returns-in_err-is_refuted-clause-eliminates g c =
    taken_error c.steps_law.ensures c.in_ok-places.places.items c.args.runner.now
    (map listed (take c.equations.place c.args.equations.now.list.items)) c.equations.rows.items c.equations.runner
    c.equations.invariant.taken
    (listed c.get.result.now) c.take_equation.new.rows.items c.take_equation.new.runner (map listed c.args.equations.now.list.items)
    c.in_err-is_refuted.field-0.0 _ c.from_residual-in_err-is_refuted.ensures.1
    (subst (λ (places : List ℕ). TakesEquation places (listed c.get.result.now) c.equations.rows.items c.take_equation.new.rows.items
    c.equations.runner c.take_equation.new.runner (Err c.in_err-is_refuted.field-0.0)) c.as_slice.ensures.value
    c.in_err-is_refuted.ensures.takes)

pub returns-in_err-is_refuted-clause-full : goal.returns-in_err-is_refuted-clause-full
returns-in_err-is_refuted-clause-full g c is =
    c.in_err-is_refuted.ensures.full
    (ap Err (came_from _ c.in_err-is_refuted.field-0.0 NodeLimit c.from_residual-in_err-is_refuted.ensures.1 is))

pub returns-then-is_refuted-clause-eliminates : goal.returns-then-is_refuted-clause-eliminates
returns-then-is_refuted-clause-eliminates g c =
    taken_refuted c.steps_law.ensures c.in_ok-places.places.items c.args.runner.now
    (map listed (take c.equations.place c.args.equations.now.list.items)) c.equations.rows.items c.equations.runner
    c.equations.invariant.taken
    (listed c.get.result.now) c.take_equation.new.rows.items c.take_equation.new.runner (map listed c.args.equations.now.list.items)
    (subst (λ (places : List ℕ). TakesEquation places (listed c.get.result.now) c.equations.rows.items c.take_equation.new.rows.items
    c.equations.runner c.take_equation.new.runner (Ok true)) c.as_slice.ensures.value
    (rw c.if-is_refuted.true at c.in_ok-is_refuted.ensures.takes))

pub equations-preserved : goal.equations-preserved
equations-preserved g c = record {
  taken =
      let list = c.args.equations.now.list.items in
      let at : map listed (take (c.equations.place + 1) list) ≡ map listed (take c.equations.place list) ++ listed c.get.result.now ∷ [] =
      ap (map listed) (take_more list c.equations.place c.get.result.now (omega arith))
      ∙ map_with listed (take c.equations.place list) (slice_index_or list c.equations.place c.get.result.now)
      ∙ ap (λ (e : Equation). map listed (take c.equations.place list) ++ listed e ∷ []) (sym c.get.ensures) in
      subst (λ (equations : List (List ℕ × Bool)). AreTaken c.in_ok-places.places.items equations c.take_equation.new.rows.items
      c.args.runner.now c.take_equation.new.runner) (sym at)
      (taken_more c.steps_law.ensures c.in_ok-places.places.items c.args.runner.now
      (map listed (take c.equations.place list)) c.equations.rows.items c.equations.runner c.equations.invariant.taken
      (listed c.get.result.now) c.take_equation.new.rows.items c.take_equation.new.runner
      (subst (λ (places : List ℕ). TakesEquation places (listed c.get.result.now) c.equations.rows.items c.take_equation.new.rows.items
      c.equations.runner c.take_equation.new.runner (Ok false)) c.as_slice.ensures.value
      (rw c.if-is_refuted.false at c.in_ok-is_refuted.ensures.takes)));
  counted =
      let small : c.equations.place < length c.args.equations.now.list.items = omega arith in
      counted_with c.counting_law.ensures c.growth_law.ensures c.in_ok-places.places.items c.args.equations.now.list.items c.equations.place
      c.get.result.now small
      c.equations.rows.items c.args.runner.now c.equations.runner c.equations.invariant.taken.keeps c.equations.invariant.taken.runner
      c.equations.invariant.taken.owns c.equations.invariant.taken.reduced.each c.equations.invariant.counted c.take_equation.new.runner
      (Ok false)
      (subst (λ (e : Equation). AreBounded {T = Bool} (6 * length (all_variables (map listed c.args.equations.now.list.items)) + 518)
      (2 * length e.clauses.items + 2 * length (all_variables (map listed c.args.equations.now.list.items)))
      (step_width (length (all_variables (map listed c.args.equations.now.list.items))))
      (map held_of c.equations.rows.items) c.equations.runner c.take_equation.new.runner (Ok false)) c.get.ensures
      ((rw c.if-is_refuted.false at c.in_ok-is_refuted.ensures.bounds) (all_variables (map listed c.args.equations.now.list.items))
      c.equations.invariant.counted.of
      (subst (λ (e : Equation). AreOf (all_variables (map listed c.args.equations.now.list.items)) e.variables.items) (sym c.get.ensures)
      (listed_of c.args.equations.now.list.items c.equations.place c.get.result.now small))))
      c.take_equation.new.rows.items c.in_ok-is_refuted.ensures.few
      (c.in_ok-is_refuted.ensures.rows_of (all_variables (map listed c.args.equations.now.list.items)) c.equations.invariant.counted.of
      (subst (λ (e : Equation). AreOf (all_variables (map listed c.args.equations.now.list.items)) e.variables.items) (sym c.get.ensures)
      (listed_of c.args.equations.now.list.items c.equations.place c.get.result.now small)));
}

pub returns-clause-eliminates : goal.returns-clause-eliminates
returns-clause-eliminates g c =
    let list = c.args.equations.now.list.items in
    let all : take c.equations.place list ≡ list = take_all c.equations.place list (omega arith) in
    taken_all c.steps_law.ensures c.in_ok-places.places.items c.args.runner.now c.independence_law.ensures (map listed list)
    c.equations.rows.items c.equations.runner
    (subst (λ (equations : List Equation). AreTaken c.in_ok-places.places.items (map listed equations) c.equations.rows.items
    c.args.runner.now c.equations.runner) all c.equations.invariant.taken)
    (subst (λ (order : List ℕ). ArePlaces order c.in_ok-places.places.items) c.order.ensures c.in_ok-places.ensures.places)

pub returns-in_err-places-clause-limit : goal.returns-in_err-places-clause-limit
returns-in_err-places-clause-limit g c is =
    let memory = handed_on c.from_residual.result OutOfMemory OutOfMemory c.from_residual.ensures.1 refl in
    absurd (let e : OutOfMemory ≡ NodeLimit = same_error (sym memory ∙ is) in cc)

pub returns-in_err-places-clause-costs : goal.returns-in_err-places-clause-costs
returns-in_err-places-clause-costs g c size width price have is enough = omega arith

pub returns-in_err-is_refuted-clause-limit : goal.returns-in_err-is_refuted-clause-limit
returns-in_err-is_refuted-clause-limit g c is =
    let small : c.equations.place < length c.args.equations.now.list.items = omega arith in
    too_few c.counting_law.ensures c.growth_law.ensures c.in_ok-places.places.items c.args.equations.now.list.items c.equations.place
    c.get.result.now small
    c.equations.rows.items c.args.runner.now c.equations.runner c.equations.invariant.taken.keeps c.equations.invariant.taken.runner
    c.equations.invariant.taken.owns c.equations.invariant.taken.reduced.each c.equations.invariant.counted c.take_equation.new.runner
    (Err c.in_err-is_refuted.field-0.0)
    (subst (λ (e : Equation). AreBounded {T = Bool} (6 * length (all_variables (map listed c.args.equations.now.list.items)) + 518)
    (2 * length e.clauses.items + 2 * length (all_variables (map listed c.args.equations.now.list.items)))
    (step_width (length (all_variables (map listed c.args.equations.now.list.items))))
    (map held_of c.equations.rows.items) c.equations.runner c.take_equation.new.runner (Err c.in_err-is_refuted.field-0.0)) c.get.ensures
    (c.in_err-is_refuted.ensures.bounds (all_variables (map listed c.args.equations.now.list.items)) c.equations.invariant.counted.of
    (subst (λ (e : Equation). AreOf (all_variables (map listed c.args.equations.now.list.items)) e.variables.items) (sym c.get.ensures)
    (listed_of c.args.equations.now.list.items c.equations.place c.get.result.now small))))
    (ap Err (came_from _ c.in_err-is_refuted.field-0.0 NodeLimit c.from_residual-in_err-is_refuted.ensures.1 is))

pub returns-in_err-is_refuted-clause-costs : goal.returns-in_err-is_refuted-clause-costs
returns-in_err-is_refuted-clause-costs g c =
    let small : c.equations.place < length c.args.equations.now.list.items = omega arith in
    costs_all c.counting_law.ensures c.growth_law.ensures c.in_ok-places.places.items c.args.equations.now.list.items c.equations.place
    c.get.result.now small
    c.equations.rows.items c.args.runner.now c.equations.runner c.equations.invariant.taken.keeps c.equations.invariant.taken.runner
    c.equations.invariant.taken.owns c.equations.invariant.taken.reduced.each c.equations.invariant.counted c.take_equation.new.runner
    (Err c.in_err-is_refuted.field-0.0)
    (subst (λ (e : Equation). AreBounded {T = Bool} (6 * length (all_variables (map listed c.args.equations.now.list.items)) + 518)
    (2 * length e.clauses.items + 2 * length (all_variables (map listed c.args.equations.now.list.items)))
    (step_width (length (all_variables (map listed c.args.equations.now.list.items))))
    (map held_of c.equations.rows.items) c.equations.runner c.take_equation.new.runner (Err c.in_err-is_refuted.field-0.0)) c.get.ensures
    (c.in_err-is_refuted.ensures.bounds (all_variables (map listed c.args.equations.now.list.items)) c.equations.invariant.counted.of
    (subst (λ (e : Equation). AreOf (all_variables (map listed c.args.equations.now.list.items)) e.variables.items) (sym c.get.ensures)
    (listed_of c.args.equations.now.list.items c.equations.place c.get.result.now small))))

pub returns-then-is_refuted-clause-costs : goal.returns-then-is_refuted-clause-costs
returns-then-is_refuted-clause-costs g c =
    let small : c.equations.place < length c.args.equations.now.list.items = omega arith in
    costs_all c.counting_law.ensures c.growth_law.ensures c.in_ok-places.places.items c.args.equations.now.list.items c.equations.place
    c.get.result.now small
    c.equations.rows.items c.args.runner.now c.equations.runner c.equations.invariant.taken.keeps c.equations.invariant.taken.runner
    c.equations.invariant.taken.owns c.equations.invariant.taken.reduced.each c.equations.invariant.counted c.take_equation.new.runner
    (Ok c.in_ok-is_refuted.is_refuted)
    (subst (λ (e : Equation). AreBounded {T = Bool} (6 * length (all_variables (map listed c.args.equations.now.list.items)) + 518)
    (2 * length e.clauses.items + 2 * length (all_variables (map listed c.args.equations.now.list.items)))
    (step_width (length (all_variables (map listed c.args.equations.now.list.items))))
    (map held_of c.equations.rows.items) c.equations.runner c.take_equation.new.runner (Ok c.in_ok-is_refuted.is_refuted)) c.get.ensures
    (c.in_ok-is_refuted.ensures.bounds (all_variables (map listed c.args.equations.now.list.items)) c.equations.invariant.counted.of
    (subst (λ (e : Equation). AreOf (all_variables (map listed c.args.equations.now.list.items)) e.variables.items) (sym c.get.ensures)
    (listed_of c.args.equations.now.list.items c.equations.place c.get.result.now small))))

pub returns-clause-costs : goal.returns-clause-costs
returns-clause-costs g c =
    costs_taken c.args.equations.now.list.items c.equations.place c.equations.rows.items c.args.runner.now c.equations.runner (omega arith)
    c.equations.invariant.counted
