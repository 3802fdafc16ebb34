-- What is left to show of `value`.
use Rattle.std.proofs.Common.{◌-◌, ◌<◌, ◌∙◌, refl, sym, ap, arith, subst}
use Rattle.std.specs.Prelude.{slice_index_or, if◌then◌else◌}
use Rattle.cnf_base.specs.Truth.{assignment_of}
use Rattle.reconstruction.specs.declared.cells.Cell.{Cell}
use Rattle.reconstruction.specs.Cells.{cell_value}
use Rattle.reconstruction.proofs.CellValues.{IsStepDown, small_key, step_down}
use Rattle.reconstruction.proofs.cells.value.Goals as goal

abbrev no_cell : Cell
no_cell = record { variable = 0; high = 0; low = 0 }

-- the step from the key that is looked at
abbrev IsStep : goal.After-chosen-key → Type 0
IsStep c =
    let cell = slice_index_or c.args.cells.now (c.down.key - 2) no_cell in
    IsStepDown (assignment_of c.args.values.now) c.args.cells.now c.down.key cell
    (if assignment_of c.args.values.now cell.variable then cell.high else cell.low)

step : (c : goal.After-chosen-key) → IsStep c
step c = step_down (assignment_of c.args.values.now) c.args.cells.now c.requires.ordered c.down.key
    (slice_index_or c.args.cells.now (c.down.key - 2) no_cell) no_cell c.down-test.true c.down.invariant.within refl

pub chosen-key-requires : goal.chosen-key-requires
chosen-key-requires c = (step_down (assignment_of c.args.values.now) c.args.cells.now c.requires.ordered c.down.key
    (slice_index_or c.args.cells.now (c.down.key - 2) no_cell) no_cell c.down-test.true c.down.invariant.within refl).some

pub down-smaller : goal.down-smaller
down-smaller c = subst (λ n. n < c.down.key) (sym c.chosen-key.ensures) (step c).less

pub down-preserved : goal.down-preserved
down-preserved c =
    let less = (step c).less in
    record {
      within = omega (arith, less, c.chosen-key.ensures, c.down.invariant.within);
      same = ap (cell_value c.args.cells.now (assignment_of c.args.values.now)) c.chosen-key.ensures ∙ (step c).same
          ∙ c.down.invariant.same;
    }

pub returns : goal.returns
returns c = sym (small_key (assignment_of c.args.values.now) c.args.cells.now c.down.key c.down-test.false) ∙ c.down.invariant.same
