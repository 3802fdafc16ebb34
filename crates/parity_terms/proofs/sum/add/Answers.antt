-- What is left to show of `add`.
use Rattle.std.proofs.Common.{◌≡◌, ◌∙◌, ◌∷◌, ℕ, List, true, false, Ok, Err, refl, sym, ap, subst, arith}
use Rattle.node_table.specs.declared.error.TableError.TheVariants.{NodeLimit}
use Rattle.node_table.specs.HandedOn.{came_from, no_error}
use Rattle.parity_equations.specs.Conflict.{vector}
use Rattle.parity_nodes.specs.Sums.{exclusive_or}
use Rattle.parity_terms.specs.Order.{AreInOrder}
use Rattle.parity_terms.proofs.Owned.{owned_good}
use Rattle.parity_terms.proofs.Placing.{places_apart}
use Rattle.parity_terms.proofs.SumParts.{current_rest, different_of, rest_of, row_rest, sum_implied_by, sum_in_order, sum_later}
use Rattle.parity_terms.proofs.SumParts.{sum_vector}
use Rattle.parity_terms.proofs.SumStep.{sum_implied, sum_variables, sums_error, sums_found, sums_handed, sums_memory, sums_refuted}
use Rattle.parity_terms.proofs.SumStep.{sums_torn}
use Rattle.parity_terms.proofs.sum.add.Goals as goal
use Rattle.node_table.specs.declared.error.TableError.TheVariants.{OutOfMemory}
use Rattle.node_table.specs.HandedOn.{same_error}
use Rattle.parity_terms.proofs.AddBounds.{add_ended, added}
use Rattle.parity_terms.proofs.Bounded.{released_top}
use Rattle.parity_terms.proofs.RowVariables.{sum_of_both}

pub difference-found-requires-clause-apart : goal.difference-found-requires-clause-apart
difference-found-requires-clause-apart g c =
    places_apart c.args.runner.now.terms.table.graph.order c.args.places.now c.requires.runner.over.sound.tied.ordered c.requires.places

pub difference-found-requires-clause-one : goal.difference-found-requires-clause-one
difference-found-requires-clause-one g c =
    subst (λ (l : List ℕ). AreInOrder c.args.places.now 0 (rest_of l)) (sym c.deref.ensures.value)
    (row_rest c.args.runner.now c.args.places.now c.args.row.now c.args.current c.requires.row c.requires.current c.requires.same_first)

pub difference-found-requires-clause-other : goal.difference-found-requires-clause-other
difference-found-requires-clause-other g c =
    subst (λ (l : List ℕ). AreInOrder c.args.places.now 0 (rest_of l)) (sym c.deref-2.ensures.value)
    (current_rest c.args.runner.now c.args.places.now c.args.row.now c.args.current c.requires.row c.requires.current c.requires.same_first)

pub both_into-requires-clause-first : goal.both_into-requires-clause-first
both_into-requires-clause-first g c = c.requires.row.good

pub returns-in_err-both-clause-sums : goal.returns-in_err-both-clause-sums
returns-in_err-both-clause-sums g c terms owns =
    sums_handed terms c.args.places.now c.args.row.now c.args.current c.args.runner.now c.both_into.new.runner
    c.in_err-both.field-0.0 _ c.from_residual.ensures.1
    (sums_error c.steps_law.ensures c.args.runner.now c.both_into.new.runner c.args.places.now c.args.row.now c.args.current terms
    c.in_err-both.field-0.0 (c.in_err-both.ensures.takes terms owns))

pub returns-in_err-both-clause-full : goal.returns-in_err-both-clause-full
returns-in_err-both-clause-full g c is =
    c.in_err-both.ensures.full (ap Err (came_from _ c.in_err-both.field-0.0 NodeLimit c.from_residual.ensures.1 is))

pub release-requires-clause-runner : goal.release-requires-clause-runner
release-requires-clause-runner g c on =
    (c.in_ok-both.ensures.takes c.requires.owned.rest c.requires.owned.owns).goes_on no_error

pub release-requires-clause-good : goal.release-requires-clause-good
release-requires-clause-good g c on =
    owned_good c.in_ok-both.both.held (c.in_ok-both.both.held ∷ c.requires.owned.rest) c.both_into.new.runner.terms.out.items
    ((c.in_ok-both.ensures.takes c.requires.owned.rest c.requires.owned.owns).owns no_error) (0, omega arith, refl)

pub returns-then-is_refuted-clause-sums : goal.returns-then-is_refuted-clause-sums
returns-then-is_refuted-clause-sums g c terms owns =
    let takes = c.in_ok-both.ensures.takes terms owns in
    let is : c.both_into.new.runner.refuted ≡ true = sym c.is_refuted.ensures ∙ c.if-is_refuted.true in
    sums_refuted c.steps_law.ensures c.args.runner.now c.both_into.new.runner c.args.places.now c.args.row.now c.args.current terms
    c.in_ok-both.both takes c.release.new.self
    (c.release.ensures.releases (takes.goes_on no_error).over.sound.in_step) is

pub release-requires-in_default-clause-runner : goal.release-requires-in_default-clause-runner
release-requires-in_default-clause-runner g c on =
    (c.in_ok-both.ensures.takes c.requires.owned.rest c.requires.owned.owns).goes_on no_error

pub release-requires-in_default-clause-good : goal.release-requires-in_default-clause-good
release-requires-in_default-clause-good g c on =
    owned_good c.in_ok-both.both.held (c.in_ok-both.both.held ∷ c.requires.owned.rest) c.both_into.new.runner.terms.out.items
    ((c.in_ok-both.ensures.takes c.requires.owned.rest c.requires.owned.owns).owns no_error) (0, omega arith, refl)

pub returns-in_default-clause-sums : goal.returns-in_default-clause-sums
returns-in_default-clause-sums g c terms owns =
    let takes = c.in_ok-both.ensures.takes terms owns in
    sums_memory c.steps_law.ensures c.args.runner.now c.both_into.new.runner c.args.places.now c.args.row.now c.args.current terms
    c.in_ok-both.both takes c.release-in_default.new.self
    (c.release-in_default.ensures.releases (takes.goes_on no_error).over.sound.in_step)

pub sum_into-requires-clause-runner : goal.sum_into-requires-clause-runner
sum_into-requires-clause-runner g c =
    (c.in_ok-both.ensures.takes c.requires.owned.rest c.requires.owned.owns).goes_on no_error

pub sum_into-requires-clause-owned : goal.sum_into-requires-clause-owned
sum_into-requires-clause-owned g c = record {
  rest = c.requires.owned.rest;
  owns = (c.in_ok-both.ensures.takes c.requires.owned.rest c.requires.owned.owns).owns no_error;
}

pub sum_into-requires-clause-variables : goal.sum_into-requires-clause-variables
sum_into-requires-clause-variables g c =
    let takes = c.in_ok-both.ensures.takes c.requires.owned.rest c.requires.owned.owns in
    let different =
    different_of c.args.places.now c.args.row.now.variables.items c.args.current.variables.items c.in-Ok.variables.items c.deref.result.now
    c.deref-2.result.now c.as_slice.result.now c.deref.ensures.value c.deref-2.ensures.value c.as_slice.ensures.value
    (rw c.in-Ok.is at c.difference-found.ensures) in
    sum_variables c.args.runner.now c.both_into.new.runner c.args.places.now c.as_slice.result.now c.requires.owned.rest c.requires.runner
    c.requires.places (takes.keeps no_error)
    (sum_in_order c.args.runner.now c.args.places.now c.args.row.now c.args.current c.requires.row c.requires.current
    c.requires.same_first c.as_slice.result.now different)

pub sum_into-requires-clause-implies : goal.sum_into-requires-clause-implies
sum_into-requires-clause-implies g c a is =
    let takes = c.in_ok-both.ensures.takes c.requires.owned.rest c.requires.owned.owns in
    let different =
    different_of c.args.places.now c.args.row.now.variables.items c.args.current.variables.items c.in-Ok.variables.items c.deref.result.now
    c.deref-2.result.now c.as_slice.result.now c.deref.ensures.value c.deref-2.ensures.value c.as_slice.ensures.value
    (rw c.in-Ok.is at c.difference-found.ensures) in
    sum_implied c.steps_law.ensures c.args.runner.now c.both_into.new.runner c.args.places.now c.args.row.now c.args.current
    c.requires.owned.rest c.in_ok-both.both takes c.both_into.new.runner _ _
    (sum_implied_by c.args.runner.now c.args.places.now c.args.row.now c.args.current c.requires.row c.requires.current
    c.requires.same_first c.as_slice.result.now different) a is

pub returns-in_err-term-clause-sums : goal.returns-in_err-term-clause-sums
returns-in_err-term-clause-sums g c terms owns =
    let takes = c.in_ok-both.ensures.takes terms owns in
    let different =
    different_of c.args.places.now c.args.row.now.variables.items c.args.current.variables.items c.in-Ok.variables.items c.deref.result.now
    c.deref-2.result.now c.as_slice.result.now c.deref.ensures.value c.deref-2.ensures.value c.as_slice.ensures.value
    (rw c.in-Ok.is at c.difference-found.ensures) in
    sums_handed terms c.args.places.now c.args.row.now c.args.current c.args.runner.now c.sum_into.new.runner
    c.in_err-term.field-0.0 _ c.from_residual-in_err-term.ensures.1
    (sums_torn c.steps_law.ensures c.args.runner.now c.both_into.new.runner c.args.places.now c.args.row.now c.args.current terms
    c.in_ok-both.both takes c.sum_into.new.runner _ _
    (sum_implied_by c.args.runner.now c.args.places.now c.args.row.now c.args.current c.requires.row c.requires.current
    c.requires.same_first c.as_slice.result.now different) c.in_err-term.field-0.0
    (c.in_err-term.ensures.takes terms (takes.owns no_error)))

pub returns-in_err-term-clause-full : goal.returns-in_err-term-clause-full
returns-in_err-term-clause-full g c is =
    c.in_err-term.ensures.full (ap Err (came_from _ c.in_err-term.field-0.0 NodeLimit c.from_residual-in_err-term.ensures.1 is))

pub returns-clause-sums : goal.returns-clause-sums
returns-clause-sums g c terms owns =
    let takes = c.in_ok-both.ensures.takes terms owns in
    let different =
    different_of c.args.places.now c.args.row.now.variables.items c.args.current.variables.items c.in-Ok.variables.items c.deref.result.now
    c.deref-2.result.now c.as_slice.result.now c.deref.ensures.value c.deref-2.ensures.value c.as_slice.ensures.value
    (rw c.in-Ok.is at c.difference-found.ensures) in
    let unrefuted : c.both_into.new.runner.refuted ≡ false = sym c.is_refuted.ensures ∙ c.if-is_refuted.false in
    let implied =
    sum_implied_by c.args.runner.now c.args.places.now c.args.row.now c.args.current c.requires.row c.requires.current
    c.requires.same_first c.as_slice.result.now different in
    sums_found c.steps_law.ensures c.args.runner.now c.both_into.new.runner c.args.places.now c.args.row.now c.args.current terms
    c.in_ok-both.both takes c.sum_into.new.runner c.as_slice.result.now (exclusive_or c.args.row.now.bit c.args.current.bit) implied
    c.canonical_law.ensures c.cofactor_law.ensures unrefuted _ (sym c.as_slice.ensures.value) refl
    (c.in_ok-term.ensures.takes terms (takes.owns no_error))
    (λ place.
    ap (λ (l : List ℕ). vector (l, exclusive_or c.args.row.now.bit c.args.current.bit) place) (sym c.as_slice.ensures.value)
    ∙ sum_vector c.args.runner.now c.args.places.now c.args.row.now c.args.current c.requires.row c.requires.current
    c.requires.same_first c.as_slice.result.now different place)
    (sum_in_order c.args.runner.now c.args.places.now c.args.row.now c.args.current c.requires.row c.requires.current
    c.requires.same_first c.as_slice.result.now different)
    (sum_later c.args.runner.now c.args.places.now c.args.row.now c.args.current c.requires.row c.requires.current
    c.requires.same_first c.as_slice.result.now different)

pub returns-in_err-both-clause-bounds : goal.returns-in_err-both-clause-bounds
returns-in_err-both-clause-bounds g c terms all owns of of_current =
    add_ended c.counting_law.ensures c.growth_law.ensures c.args.runner.now c.both_into.new.runner c.requires.runner c.args.places.now
    c.args.row.now c.args.current c.requires.row c.requires.current terms owns all of of_current
    (Err c.in_err-both.field-0.0) (c.in_err-both.ensures.bounds terms owns) c.both_into.new.runner refl _
    (λ is. ap Err (came_from _ c.in_err-both.field-0.0 NodeLimit c.from_residual.ensures.1 is))

pub returns-then-is_refuted-clause-bounds : goal.returns-then-is_refuted-clause-bounds
returns-then-is_refuted-clause-bounds g c terms all owns of of_current =
    add_ended c.counting_law.ensures c.growth_law.ensures c.args.runner.now c.both_into.new.runner c.requires.runner c.args.places.now
    c.args.row.now c.args.current c.requires.row c.requires.current terms owns all of of_current
    (Ok c.in_ok-both.both) (c.in_ok-both.ensures.bounds terms owns) c.release.new.self
    (released_top c.in_ok-both.both.held c.both_into.new.runner c.release.new.self c.release.ensures.releases c.release.ensures.torn) _
    (λ is. absurd (no_error is))

pub returns-in_default-clause-bounds : goal.returns-in_default-clause-bounds
returns-in_default-clause-bounds g c terms all owns of of_current =
    add_ended c.counting_law.ensures c.growth_law.ensures c.args.runner.now c.both_into.new.runner c.requires.runner c.args.places.now
    c.args.row.now c.args.current c.requires.row c.requires.current terms owns all of of_current
    (Ok c.in_ok-both.both) (c.in_ok-both.ensures.bounds terms owns) c.release-in_default.new.self
    (released_top c.in_ok-both.both.held c.both_into.new.runner c.release-in_default.new.self c.release-in_default.ensures.releases
    c.release-in_default.ensures.torn) _
    (λ is. absurd (let e : OutOfMemory ≡ NodeLimit = same_error is in cc))

pub returns-in_err-term-clause-bounds : goal.returns-in_err-term-clause-bounds
returns-in_err-term-clause-bounds g c terms all owns of of_current =
    let takes = c.in_ok-both.ensures.takes terms owns in
    let different =
    different_of c.args.places.now c.args.row.now.variables.items c.args.current.variables.items c.in-Ok.variables.items c.deref.result.now
    c.deref-2.result.now c.as_slice.result.now c.deref.ensures.value c.deref-2.ensures.value c.as_slice.ensures.value
    (rw c.in-Ok.is at c.difference-found.ensures) in
    added c.counting_law.ensures c.growth_law.ensures c.args.runner.now c.both_into.new.runner c.requires.runner c.args.places.now
    c.args.row.now c.args.current c.requires.row c.requires.current terms owns all of of_current
    (Ok c.in_ok-both.both) (c.in_ok-both.ensures.bounds terms owns) (takes.goes_on no_error) (takes.keeps no_error)
    c.in_ok-both.both.held takes.stands takes.value (exclusive_or c.args.row.now.bit c.args.current.bit) c.as_slice.result.now
    (sum_of_both c.args.places.now all c.args.row.now.variables.items c.args.current.variables.items c.as_slice.result.now
    c.args.row.now.bit c.args.current.bit (exclusive_or c.args.row.now.bit c.args.current.bit)
    (sum_vector c.args.runner.now c.args.places.now c.args.row.now c.args.current c.requires.row c.requires.current
    c.requires.same_first c.as_slice.result.now different)
    (sum_in_order c.args.runner.now c.args.places.now c.args.row.now c.args.current c.requires.row c.requires.current
    c.requires.same_first c.as_slice.result.now different) of of_current)
    c.sum_into.new.runner (Err c.in_err-term.field-0.0) (c.in_err-term.ensures.bounds terms (takes.owns no_error)) _
    (λ is. ap Err (came_from _ c.in_err-term.field-0.0 NodeLimit c.from_residual-in_err-term.ensures.1 is))

pub returns-clause-bounds : goal.returns-clause-bounds
returns-clause-bounds g c terms all owns of of_current =
    let takes = c.in_ok-both.ensures.takes terms owns in
    let different =
    different_of c.args.places.now c.args.row.now.variables.items c.args.current.variables.items c.in-Ok.variables.items c.deref.result.now
    c.deref-2.result.now c.as_slice.result.now c.deref.ensures.value c.deref-2.ensures.value c.as_slice.ensures.value
    (rw c.in-Ok.is at c.difference-found.ensures) in
    added c.counting_law.ensures c.growth_law.ensures c.args.runner.now c.both_into.new.runner c.requires.runner c.args.places.now
    c.args.row.now c.args.current c.requires.row c.requires.current terms owns all of of_current
    (Ok c.in_ok-both.both) (c.in_ok-both.ensures.bounds terms owns) (takes.goes_on no_error) (takes.keeps no_error)
    c.in_ok-both.both.held takes.stands takes.value (exclusive_or c.args.row.now.bit c.args.current.bit) c.as_slice.result.now
    (sum_of_both c.args.places.now all c.args.row.now.variables.items c.args.current.variables.items c.as_slice.result.now
    c.args.row.now.bit c.args.current.bit (exclusive_or c.args.row.now.bit c.args.current.bit)
    (sum_vector c.args.runner.now c.args.places.now c.args.row.now c.args.current c.requires.row c.requires.current
    c.requires.same_first c.as_slice.result.now different)
    (sum_in_order c.args.runner.now c.args.places.now c.args.row.now c.args.current c.requires.row c.requires.current
    c.requires.same_first c.as_slice.result.now different) of of_current)
    c.sum_into.new.runner (Ok c.in_ok-term.term) (c.in_ok-term.ensures.bounds terms (takes.owns no_error)) _ (λ is. absurd (no_error is))
