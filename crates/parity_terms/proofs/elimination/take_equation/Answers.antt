-- What is left to show of `take_equation`.
use Rattle.std.proofs.Common.{◌≡◌, ◌∙◌, ◌∷◌, ◌<◌, ℕ, List, [], length, map, true, false, None, Some, Ok, Err, refl, rules, sym, ap}
use Rattle.std.proofs.Common.{subst}
use Rattle.std.proofs.lemmas.List.{nil_from_length}
use Rattle.node_table.specs.declared.error.TableError.TheVariants.{NodeLimit, OutOfMemory}
use Rattle.node_table.specs.HandedOn.{came_from, handed_on}
use Rattle.parity_equations.specs.Walk.{AreRisingUpTo, listed}
use Rattle.parity_terms.specs.declared.row.Row.{Row}
use Rattle.parity_terms.specs.Clauses.{AreNumbers, TakesClauses}
use Rattle.parity_terms.specs.Order.{AreOrdered, ArePlaces}
use Rattle.parity_terms.specs.Rows.{IsRow, NoneHasFirst, Sums, TakesEquation, held_of}
use Rattle.parity_terms.proofs.EquationClauses.{equation_numbers, equation_some}
use Rattle.parity_terms.proofs.EquationTaken.{IsCurrent, as_before, current_first, current_next, first_error, first_none, found_first}
use Rattle.parity_terms.proofs.EquationTaken.{later_falls, sum_error, sum_none, taken_memory, taken_nothing, taken_row}
use Rattle.parity_terms.proofs.Placing.{places_apart}
use Rattle.parity_terms.proofs.elimination.take_equation.Goals as goal
use Rattle.std.proofs.Common.{arith, length-append}
use Rattle.node_table.specs.HandedOn.{no_error, same_error}
use Rattle.parity_terms.specs.Limit.{AreOf, AreRowsOf}
use Rattle.parity_terms.proofs.AllBounds.{rows_with}
use Rattle.parity_terms.proofs.Bounded.{released_top}
use Rattle.parity_terms.proofs.EquationLoop.{begun_within, next_within, taken_all_within, taken_clauses_within, taken_nothing_within}
use Rattle.parity_terms.proofs.EquationLoop.{taken_sum_within}

pub in_order-requires-clause-apart : goal.in_order-requires-clause-apart
in_order-requires-clause-apart g c =
    places_apart c.args.runner.now.terms.table.graph.order c.args.places.now c.requires.runner.over.sound.tied.ordered c.requires.places

pub in_order-requires-clause-variables : goal.in_order-requires-clause-variables
in_order-requires-clause-variables g c =
    let few : c.args.runner.now.formula.now.vars ≡ length c.args.places.now =
    sym c.requires.runner.over.vars ∙ sym c.requires.places.one_each in
    subst (λ (l : List ℕ). AreRisingUpTo (length c.args.places.now) 1 l) (sym c.variables.ensures)
    (subst (λ (n : ℕ). AreRisingUpTo n 1 c.args.equation.now.variables.items) few c.requires.clauses.rising)

pub returns-then-is_err-clause-takes : goal.returns-then-is_err-clause-takes
returns-then-is_err-clause-takes g c =
    subst (λ (after : List Row). TakesEquation c.args.places.now (listed c.args.equation.now) c.args.rows.now.items after c.args.runner.now
    c.args.runner.now (Err OutOfMemory)) (sym c.reserve.ensures.items)
    (taken_memory c.steps_law.ensures c.args.places.now c.args.rows.now.items c.args.runner.now (listed c.args.equation.now)
    c.requires.runner c.requires.owns (Err OutOfMemory) refl)

pub returns-in_err-variables-clause-takes : goal.returns-in_err-variables-clause-takes
returns-in_err-variables-clause-takes g c =
    subst (λ (after : List Row). TakesEquation c.args.places.now (listed c.args.equation.now) c.args.rows.now.items after c.args.runner.now
    c.args.runner.now c.from_residual.result) (sym c.reserve.ensures.items)
    (taken_memory c.steps_law.ensures c.args.places.now c.args.rows.now.items c.args.runner.now (listed c.args.equation.now)
    c.requires.runner c.requires.owns c.from_residual.result
    (handed_on c.from_residual.result OutOfMemory OutOfMemory c.from_residual.ensures.1 refl))

pub term_of_clauses-requires-clause-owned : goal.term_of_clauses-requires-clause-owned
term_of_clauses-requires-clause-owned g c = record { terms = map held_of c.args.rows.now.items; owns = c.requires.owns }

pub term_of_clauses-requires-clause-some : goal.term_of_clauses-requires-clause-some
term_of_clauses-requires-clause-some g c =
    subst (λ (l : List ℕ). 0 < length l) (sym c.clauses.ensures)
    (equation_some c.args.runner.now.formula.now.vars c.args.runner.now.formula.now.clauses c.args.equation.now c.requires.clauses)

pub term_of_clauses-requires-clause-numbers : goal.term_of_clauses-requires-clause-numbers
term_of_clauses-requires-clause-numbers g c =
    subst (AreNumbers (length c.args.runner.now.formula.now.clauses)) (sym c.clauses.ensures)
    (equation_numbers c.args.runner.now.formula.now.vars c.args.runner.now.formula.now.clauses c.args.equation.now c.requires.clauses)

pub returns-in_err-found-clause-takes : goal.returns-in_err-found-clause-takes
returns-in_err-found-clause-takes g c =
    subst (λ (after : List Row). TakesEquation c.args.places.now (listed c.args.equation.now) c.args.rows.now.items after c.args.runner.now
    c.term_of_clauses.new.runner c.from_residual-in_err-found.result) (sym c.reserve.ensures.items)
    (first_error c.steps_law.ensures c.args.places.now c.args.rows.now.items c.args.runner.now _ (listed c.args.equation.now)
    c.term_of_clauses.new.runner c.in_err-found.field-0.0 _ c.from_residual-in_err-found.ensures.1
    (c.in_err-found.ensures.takes (map held_of c.args.rows.now.items) c.requires.owns))

pub returns-in_err-found-clause-full : goal.returns-in_err-found-clause-full
returns-in_err-found-clause-full g c is =
    c.in_err-found.ensures.full (ap Err (came_from _ c.in_err-found.field-0.0 NodeLimit c.from_residual-in_err-found.ensures.1 is))

pub returns-in_default-clause-takes : goal.returns-in_default-clause-takes
returns-in_default-clause-takes g c =
    subst (λ (after : List Row). TakesEquation c.args.places.now (listed c.args.equation.now) c.args.rows.now.items after c.args.runner.now
    c.term_of_clauses.new.runner (Ok true)) (sym c.reserve.ensures.items)
    (first_none c.steps_law.ensures c.args.places.now c.args.rows.now.items c.args.runner.now _ (listed c.args.equation.now)
    c.term_of_clauses.new.runner
    (rw c.in_default.is at (c.in_ok-found.ensures.takes (map held_of c.args.rows.now.items) c.requires.owns)))

pub rows-init : goal.rows-init
rows-init g c = record {
  current =
      subst (λ (rows : List Row). IsCurrent c.args.places.now rows (listed c.args.equation.now) c.args.runner.now
      c.term_of_clauses.new.runner
      (record { term = c.in-Some.term; variables = c.in_ok-variables.variables; bit = c.bit.result })) (sym c.reserve.ensures.items)
      (current_first c.steps_law.ensures c.args.places.now c.args.rows.now.items c.args.runner.now c.clauses_law.ensures c.args.equation.now
      c.requires.clauses c.term_of_clauses.new.runner c.in-Some.term
      (record { term = c.in-Some.term; variables = c.in_ok-variables.variables; bit = c.bit.result }) c.requires.rows
      (subst (λ (numbers : List ℕ). TakesClauses (map held_of c.args.rows.now.items) numbers c.args.runner.now c.term_of_clauses.new.runner
      (Ok (Some c.in-Some.term))) c.clauses.ensures
      (rw c.in-Some.is at (c.in_ok-found.ensures.takes (map held_of c.args.rows.now.items) c.requires.owns)))
      (subst (λ (l : List ℕ). AreOrdered c.args.places.now l c.in_ok-variables.variables.items) c.variables.ensures
      c.in_ok-variables.ensures)
      refl c.bit.ensures);
  counted = λ all of own. begun_within c.counting_law.ensures c.growth_law.ensures c.own_clauses_law.ensures c.args.places.now
      c.args.equation.now c.args.rows.now.items
      c.reserve.new.self.items c.reserve.ensures.items c.args.runner.now c.requires.runner c.requires.owns c.requires.clauses all
      _ c.clauses.ensures c.term_of_clauses.new.runner (Ok (Some c.in-Some.term)) (rw c.in-Some.is at c.in_ok-found.ensures.bounds)
      (record { term = c.in-Some.term; variables = c.in_ok-variables.variables; bit = c.bit.result })
      (subst (λ (l : List ℕ). AreOrdered c.args.places.now l c.in_ok-variables.variables.items) c.variables.ensures
      c.in_ok-variables.ensures) own;
}

pub add-requires-clause-runner : goal.add-requires-clause-runner
add-requires-clause-runner g c = c.rows.invariant.current.runner

pub add-requires-clause-row : goal.add-requires-clause-row
add-requires-clause-row g c =
    subst (IsRow c.rows.runner c.args.places.now) (sym c.index.ensures)
    (c.rows.invariant.current.each c.in-Some-row_for.place c.index.result.now
    (subst (λ (l : List Row). c.in-Some-row_for.place < length l) c.as_slice.ensures.value c.in-Some-row_for.ensures.0))

pub add-requires-clause-current : goal.add-requires-clause-current
add-requires-clause-current g c = c.rows.invariant.current.row

pub add-requires-clause-places : goal.add-requires-clause-places
add-requires-clause-places g c =
    subst (λ (order : List ℕ). ArePlaces order c.args.places.now) (sym c.rows.invariant.current.keeps.order) c.requires.places

pub add-requires-clause-owned : goal.add-requires-clause-owned
add-requires-clause-owned g c = record { rest = map held_of c.reserve.new.self.items; owns = c.rows.invariant.current.owns }

pub rows-preserved : goal.rows-preserved
rows-preserved g c = record {
  current =
      current_next c.steps_law.ensures c.args.places.now c.reserve.new.self.items c.args.runner.now (listed c.args.equation.now)
      c.rows.runner
      c.rows.current c.rows.invariant.current
      c.add.new.runner c.in-Some-row_for.place c.index.result.now
      (subst (λ (l : List Row). c.in-Some-row_for.place < length l) c.as_slice.ensures.value c.in-Some-row_for.ensures.0)
      c.in-Some-sum.next
      (subst (λ (row : Row). Sums (map held_of c.reserve.new.self.items) c.args.places.now row c.rows.current c.rows.runner c.add.new.runner
      (Ok (Some c.in-Some-sum.next))) c.index.ensures
      (rw c.in-Some-sum.is at (c.in_ok-sum.ensures.sums (map held_of c.reserve.new.self.items) c.rows.invariant.current.owns)));
  counted = λ all of own. next_within c.counting_law.ensures c.growth_law.ensures c.own_clauses_law.ensures c.args.places.now
      c.args.equation.now c.args.rows.now.items
      c.reserve.new.self.items c.reserve.ensures.items c.args.runner.now c.requires.runner c.requires.owns c.requires.clauses all
      c.rows.runner c.rows.current c.rows.invariant.current (c.rows.invariant.counted all of own) c.add.new.runner
      c.index.result.now
      (subst (IsRow c.rows.runner c.args.places.now) (sym c.index.ensures)
      (c.rows.invariant.current.each c.in-Some-row_for.place c.index.result.now
      (subst (λ (l : List Row). c.in-Some-row_for.place < length l) c.as_slice.ensures.value c.in-Some-row_for.ensures.0)))
      (subst (λ (row : Row). AreOf all row.variables.items) (sym c.index.ensures)
      (of c.in-Some-row_for.place c.index.result.now
      (subst (λ (l : List Row). c.in-Some-row_for.place < length l) c.as_slice.ensures.value c.in-Some-row_for.ensures.0)))
      (found_first c.reserve.new.self.items c.as_slice.result.now c.in-Some-row_for.place c.index.result.now c.rows.current
      c.as_slice.ensures.value c.in-Some-row_for.ensures.0 c.in-Some-row_for.ensures.1 c.index.ensures)
      (Ok (Some c.in-Some-sum.next)) (rw c.in-Some-sum.is at c.in_ok-sum.ensures.bounds) c.in-Some-sum.next refl
      (rw c.in-Some-sum.is at (c.in_ok-sum.ensures.sums (map held_of c.reserve.new.self.items) c.rows.invariant.current.owns));
}

pub rows-smaller : goal.rows-smaller
rows-smaller g c =
    let order = c.rows.runner.terms.table.graph.order in
    let inverse = subst (λ (o : List ℕ). ArePlaces o c.args.places.now) (sym c.rows.invariant.current.keeps.order) c.requires.places in
    let row : IsRow c.rows.runner c.args.places.now c.index.result.now =
    subst (IsRow c.rows.runner c.args.places.now) (sym c.index.ensures)
    (c.rows.invariant.current.each c.in-Some-row_for.place c.index.result.now
    (subst (λ (l : List Row). c.in-Some-row_for.place < length l) c.as_slice.ensures.value c.in-Some-row_for.ensures.0)) in
    later_falls order c.args.places.now c.rows.invariant.current.runner.over.sound.tied.ordered inverse c.index.result.now.variables.items
    c.rows.current.variables.items c.in-Some-sum.next.variables.items row.in_order c.rows.invariant.current.row.in_order
    (found_first c.reserve.new.self.items c.as_slice.result.now c.in-Some-row_for.place c.index.result.now c.rows.current
    c.as_slice.ensures.value c.in-Some-row_for.ensures.0 c.in-Some-row_for.ensures.1 c.index.ensures)
    ((rw c.in-Some-sum.is at (c.in_ok-sum.ensures.sums (map held_of c.reserve.new.self.items) c.rows.invariant.current.owns)).later)

pub returns-in_err-sum-clause-takes : goal.returns-in_err-sum-clause-takes
returns-in_err-sum-clause-takes g c =
    as_before c.args.places.now (listed c.args.equation.now) c.args.rows.now.items c.reserve.new.self.items c.reserve.new.self.items
    c.args.runner.now c.add.new.runner c.from_residual-in_err-sum.result c.reserve.ensures.items
    (sum_error c.steps_law.ensures c.args.places.now c.reserve.new.self.items c.args.runner.now (listed c.args.equation.now) c.rows.runner
    c.rows.current c.rows.invariant.current
    c.add.new.runner c.in-Some-row_for.place c.index.result.now
    (subst (λ (l : List Row). c.in-Some-row_for.place < length l) c.as_slice.ensures.value c.in-Some-row_for.ensures.0)
    c.in_err-sum.field-0.0 c.from_residual-in_err-sum.result c.from_residual-in_err-sum.ensures.1
    (subst (λ (row : Row). Sums (map held_of c.reserve.new.self.items) c.args.places.now row c.rows.current c.rows.runner c.add.new.runner
    (Err c.in_err-sum.field-0.0)) c.index.ensures
    (c.in_err-sum.ensures.sums (map held_of c.reserve.new.self.items) c.rows.invariant.current.owns)))

pub returns-in_err-sum-clause-full : goal.returns-in_err-sum-clause-full
returns-in_err-sum-clause-full g c is =
    c.in_err-sum.ensures.full (ap Err (came_from _ c.in_err-sum.field-0.0 NodeLimit c.from_residual-in_err-sum.ensures.1 is))

pub returns-in_default-sum-clause-takes : goal.returns-in_default-sum-clause-takes
returns-in_default-sum-clause-takes g c =
    as_before c.args.places.now (listed c.args.equation.now) c.args.rows.now.items c.reserve.new.self.items c.reserve.new.self.items
    c.args.runner.now c.add.new.runner (Ok true) c.reserve.ensures.items
    (sum_none c.steps_law.ensures c.args.places.now c.reserve.new.self.items c.args.runner.now (listed c.args.equation.now) c.rows.runner
    c.rows.current c.rows.invariant.current
    c.add.new.runner c.in-Some-row_for.place c.index.result.now
    (subst (λ (l : List Row). c.in-Some-row_for.place < length l) c.as_slice.ensures.value c.in-Some-row_for.ensures.0)
    (subst (λ (row : Row). Sums (map held_of c.reserve.new.self.items) c.args.places.now row c.rows.current c.rows.runner c.add.new.runner
    (Ok None)) c.index.ensures
    (rw c.in_default-sum.is at (c.in_ok-sum.ensures.sums (map held_of c.reserve.new.self.items) c.rows.invariant.current.owns))))

pub returns-then-is_empty-clause-takes : goal.returns-then-is_empty-clause-takes
returns-then-is_empty-clause-takes g c =
    let none : length c.rows.current.variables.items ≡ 0 = search rules in
    as_before c.args.places.now (listed c.args.equation.now) c.args.rows.now.items c.reserve.new.self.items c.reserve.new.self.items
    c.args.runner.now c.release.new.self (Ok false) c.reserve.ensures.items
    (taken_nothing c.steps_law.ensures c.args.places.now c.reserve.new.self.items c.args.runner.now (listed c.args.equation.now)
    c.rows.runner
    c.rows.current c.rows.invariant.current
    c.canonical_law.ensures c.cofactor_law.ensures c.release.new.self (nil_from_length c.rows.current.variables.items none)
    (c.release.ensures.releases c.rows.invariant.current.runner.over.sound.in_step))

pub returns-else-is_empty-clause-takes : goal.returns-else-is_empty-clause-takes
returns-else-is_empty-clause-takes g c =
    let some : 0 < length c.rows.current.variables.items = search rules in
    let none : NoneHasFirst c.reserve.new.self.items c.rows.current =
    subst (λ (l : List Row). NoneHasFirst l c.rows.current) c.as_slice.ensures.value c.in_default-row_for.ensures in
    as_before c.args.places.now (listed c.args.equation.now) c.args.rows.now.items c.reserve.new.self.items c.push_reserved.new.self.items
    c.args.runner.now c.rows.runner (Ok false) c.reserve.ensures.items
    (subst (λ (after : List Row). TakesEquation c.args.places.now (listed c.args.equation.now) c.reserve.new.self.items after
    c.args.runner.now c.rows.runner (Ok false)) (sym c.push_reserved.ensures.items)
    (taken_row c.steps_law.ensures c.args.places.now c.reserve.new.self.items c.args.runner.now (listed c.args.equation.now) c.rows.runner
    c.rows.current c.rows.invariant.current
    c.requires.places none some))

pub returns-then-is_err-clause-bounds : goal.returns-then-is_err-clause-bounds
returns-then-is_err-clause-bounds g c all of own =
    taken_nothing_within c.counting_law.ensures c.growth_law.ensures c.own_clauses_law.ensures c.args.places.now c.args.equation.now
    c.args.rows.now.items
    c.reserve.new.self.items c.reserve.ensures.items c.args.runner.now c.requires.runner c.requires.owns c.requires.clauses all
    (Err OutOfMemory) (λ is. let e : OutOfMemory ≡ NodeLimit = same_error is in cc)

pub returns-in_err-variables-clause-bounds : goal.returns-in_err-variables-clause-bounds
returns-in_err-variables-clause-bounds g c all of own =
    let memory = handed_on c.from_residual.result OutOfMemory OutOfMemory c.from_residual.ensures.1 refl in
    taken_nothing_within c.counting_law.ensures c.growth_law.ensures c.own_clauses_law.ensures c.args.places.now c.args.equation.now
    c.args.rows.now.items
    c.reserve.new.self.items c.reserve.ensures.items c.args.runner.now c.requires.runner c.requires.owns c.requires.clauses all
    c.from_residual.result (λ is. let e : OutOfMemory ≡ NodeLimit = same_error (sym memory ∙ is) in cc)

pub returns-in_err-found-clause-bounds : goal.returns-in_err-found-clause-bounds
returns-in_err-found-clause-bounds g c all of own =
    taken_clauses_within c.counting_law.ensures c.growth_law.ensures c.own_clauses_law.ensures c.args.places.now c.args.equation.now
    c.args.rows.now.items
    c.reserve.new.self.items c.reserve.ensures.items c.args.runner.now c.requires.runner c.requires.owns c.requires.clauses all
    _ c.clauses.ensures c.term_of_clauses.new.runner (Err c.in_err-found.field-0.0) c.in_err-found.ensures.bounds
    c.from_residual-in_err-found.result (λ is. ap Err (came_from _ c.in_err-found.field-0.0 NodeLimit c.from_residual-in_err-found.ensures.1
    is))

pub returns-in_default-clause-bounds : goal.returns-in_default-clause-bounds
returns-in_default-clause-bounds g c all of own =
    taken_clauses_within c.counting_law.ensures c.growth_law.ensures c.own_clauses_law.ensures c.args.places.now c.args.equation.now
    c.args.rows.now.items
    c.reserve.new.self.items c.reserve.ensures.items c.args.runner.now c.requires.runner c.requires.owns c.requires.clauses all
    _ c.clauses.ensures c.term_of_clauses.new.runner (Ok None) (rw c.in_default.is at c.in_ok-found.ensures.bounds) (Ok true)
    (λ is. absurd (no_error is))

pub returns-in_err-sum-clause-bounds : goal.returns-in_err-sum-clause-bounds
returns-in_err-sum-clause-bounds g c all of own =
    taken_sum_within c.counting_law.ensures c.growth_law.ensures c.own_clauses_law.ensures c.args.places.now c.args.equation.now
    c.args.rows.now.items
    c.reserve.new.self.items c.reserve.ensures.items c.args.runner.now c.requires.runner c.requires.owns c.requires.clauses all
    c.rows.runner c.rows.current c.rows.invariant.current (c.rows.invariant.counted all
    (subst (AreRowsOf all) (sym c.reserve.ensures.items) of) own) c.add.new.runner
    c.index.result.now
    (subst (IsRow c.rows.runner c.args.places.now) (sym c.index.ensures)
    (c.rows.invariant.current.each c.in-Some-row_for.place c.index.result.now
    (subst (λ (l : List Row). c.in-Some-row_for.place < length l) c.as_slice.ensures.value c.in-Some-row_for.ensures.0)))
    (subst (λ (row : Row). AreOf all row.variables.items) (sym c.index.ensures)
    ((subst (AreRowsOf all) (sym c.reserve.ensures.items) of) c.in-Some-row_for.place c.index.result.now
    (subst (λ (l : List Row). c.in-Some-row_for.place < length l) c.as_slice.ensures.value c.in-Some-row_for.ensures.0)))
    (found_first c.reserve.new.self.items c.as_slice.result.now c.in-Some-row_for.place c.index.result.now c.rows.current
    c.as_slice.ensures.value c.in-Some-row_for.ensures.0 c.in-Some-row_for.ensures.1 c.index.ensures)
    (Err c.in_err-sum.field-0.0) c.in_err-sum.ensures.bounds c.from_residual-in_err-sum.result
    (λ is. ap Err (came_from _ c.in_err-sum.field-0.0 NodeLimit c.from_residual-in_err-sum.ensures.1 is))

pub returns-in_default-sum-clause-bounds : goal.returns-in_default-sum-clause-bounds
returns-in_default-sum-clause-bounds g c all of own =
    taken_sum_within c.counting_law.ensures c.growth_law.ensures c.own_clauses_law.ensures c.args.places.now c.args.equation.now
    c.args.rows.now.items
    c.reserve.new.self.items c.reserve.ensures.items c.args.runner.now c.requires.runner c.requires.owns c.requires.clauses all
    c.rows.runner c.rows.current c.rows.invariant.current (c.rows.invariant.counted all
    (subst (AreRowsOf all) (sym c.reserve.ensures.items) of) own) c.add.new.runner
    c.index.result.now
    (subst (IsRow c.rows.runner c.args.places.now) (sym c.index.ensures)
    (c.rows.invariant.current.each c.in-Some-row_for.place c.index.result.now
    (subst (λ (l : List Row). c.in-Some-row_for.place < length l) c.as_slice.ensures.value c.in-Some-row_for.ensures.0)))
    (subst (λ (row : Row). AreOf all row.variables.items) (sym c.index.ensures)
    ((subst (AreRowsOf all) (sym c.reserve.ensures.items) of) c.in-Some-row_for.place c.index.result.now
    (subst (λ (l : List Row). c.in-Some-row_for.place < length l) c.as_slice.ensures.value c.in-Some-row_for.ensures.0)))
    (found_first c.reserve.new.self.items c.as_slice.result.now c.in-Some-row_for.place c.index.result.now c.rows.current
    c.as_slice.ensures.value c.in-Some-row_for.ensures.0 c.in-Some-row_for.ensures.1 c.index.ensures)
    (Ok None) (rw c.in_default-sum.is at c.in_ok-sum.ensures.bounds) (Ok true) (λ is. absurd (no_error is))

pub returns-then-is_empty-clause-bounds : goal.returns-then-is_empty-clause-bounds
returns-then-is_empty-clause-bounds g c all of own =
    taken_all_within c.counting_law.ensures c.growth_law.ensures c.own_clauses_law.ensures c.args.places.now c.args.equation.now
    c.args.rows.now.items
    c.reserve.new.self.items c.reserve.ensures.items c.args.runner.now c.requires.runner c.requires.owns c.requires.clauses all
    c.rows.runner c.rows.current c.rows.invariant.current (c.rows.invariant.counted all
    (subst (AreRowsOf all) (sym c.reserve.ensures.items) of) own) c.release.new.self
    (released_top (held_of c.rows.current) c.rows.runner c.release.new.self c.release.ensures.releases c.release.ensures.torn) (Ok false)
    (λ is. absurd (no_error is))

pub returns-else-is_empty-clause-bounds : goal.returns-else-is_empty-clause-bounds
returns-else-is_empty-clause-bounds g c all of own =
    taken_all_within c.counting_law.ensures c.growth_law.ensures c.own_clauses_law.ensures c.args.places.now c.args.equation.now
    c.args.rows.now.items
    c.reserve.new.self.items c.reserve.ensures.items c.args.runner.now c.requires.runner c.requires.owns c.requires.clauses all
    c.rows.runner c.rows.current c.rows.invariant.current (c.rows.invariant.counted all
    (subst (AreRowsOf all) (sym c.reserve.ensures.items) of) own) c.rows.runner refl (Ok false) (λ is. absurd (no_error is))

pub returns-then-is_err-clause-rows_of : goal.returns-then-is_err-clause-rows_of
returns-then-is_err-clause-rows_of g c all of own = (subst (AreRowsOf all) (sym c.reserve.ensures.items) of)

pub returns-then-is_err-clause-few : goal.returns-then-is_err-clause-few
returns-then-is_err-clause-few g c = let same = ap length c.reserve.ensures.items in omega (arith, same)

pub returns-in_err-variables-clause-rows_of : goal.returns-in_err-variables-clause-rows_of
returns-in_err-variables-clause-rows_of g c all of own = (subst (AreRowsOf all) (sym c.reserve.ensures.items) of)

pub returns-in_err-variables-clause-few : goal.returns-in_err-variables-clause-few
returns-in_err-variables-clause-few g c = let same = ap length c.reserve.ensures.items in omega (arith, same)

pub returns-in_err-found-clause-rows_of : goal.returns-in_err-found-clause-rows_of
returns-in_err-found-clause-rows_of g c all of own = (subst (AreRowsOf all) (sym c.reserve.ensures.items) of)

pub returns-in_err-found-clause-few : goal.returns-in_err-found-clause-few
returns-in_err-found-clause-few g c = let same = ap length c.reserve.ensures.items in omega (arith, same)

pub returns-in_default-clause-rows_of : goal.returns-in_default-clause-rows_of
returns-in_default-clause-rows_of g c all of own = (subst (AreRowsOf all) (sym c.reserve.ensures.items) of)

pub returns-in_default-clause-few : goal.returns-in_default-clause-few
returns-in_default-clause-few g c = let same = ap length c.reserve.ensures.items in omega (arith, same)

pub returns-in_err-sum-clause-rows_of : goal.returns-in_err-sum-clause-rows_of
returns-in_err-sum-clause-rows_of g c all of own = (subst (AreRowsOf all) (sym c.reserve.ensures.items) of)

pub returns-in_err-sum-clause-few : goal.returns-in_err-sum-clause-few
returns-in_err-sum-clause-few g c = let same = ap length c.reserve.ensures.items in omega (arith, same)

pub returns-in_default-sum-clause-rows_of : goal.returns-in_default-sum-clause-rows_of
returns-in_default-sum-clause-rows_of g c all of own = (subst (AreRowsOf all) (sym c.reserve.ensures.items) of)

pub returns-in_default-sum-clause-few : goal.returns-in_default-sum-clause-few
returns-in_default-sum-clause-few g c = let same = ap length c.reserve.ensures.items in omega (arith, same)

pub returns-then-is_empty-clause-rows_of : goal.returns-then-is_empty-clause-rows_of
returns-then-is_empty-clause-rows_of g c all of own = (subst (AreRowsOf all) (sym c.reserve.ensures.items) of)

pub returns-then-is_empty-clause-few : goal.returns-then-is_empty-clause-few
returns-then-is_empty-clause-few g c = let same = ap length c.reserve.ensures.items in omega (arith, same)

pub returns-else-is_empty-clause-rows_of : goal.returns-else-is_empty-clause-rows_of
returns-else-is_empty-clause-rows_of g c all of own =
    subst (AreRowsOf all) (sym c.push_reserved.ensures.items)
    (rows_with all c.reserve.new.self.items c.rows.current (subst (AreRowsOf all) (sym c.reserve.ensures.items) of)
    (c.rows.invariant.counted all (subst (AreRowsOf all) (sym c.reserve.ensures.items) of) own).of)

pub returns-else-is_empty-clause-few : goal.returns-else-is_empty-clause-few
returns-else-is_empty-clause-few g c =
    let same = ap length c.reserve.ensures.items in
    let more = ap length c.push_reserved.ensures.items in
    omega (arith, same, more, length-append c.reserve.new.self.items (c.rows.current ∷ []))
