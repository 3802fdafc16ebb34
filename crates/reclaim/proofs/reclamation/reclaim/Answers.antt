-- What is left to show of `reclaim`.
use Rattle.std.proofs.Common.{Option, Some, refl, ap, sym, subst}
use Rattle.node_table.specs.declared.error.TableError.{TableError}
use Rattle.node_table.specs.HandedOn.{handed_on}
use Rattle.node_table.specs.Progress.{Leaves, error_of}
use Rattle.node_table.specs.Table.{TableState}
use Rattle.reclaim.proofs.Reclaiming.{IsSettled, SweepsAway, clear_two, reclaims}
use Rattle.reclaim.proofs.reclamation.reclaim.Goals as goal

pub sweep-requires-clause-clear : goal.sweep-requires-clause-clear
sweep-requires-clause-clear g c =
    let one = c.purge.new.table in
    let two = c.settle.new.self in
    let is = c.in_ok-settle.ensures.settled in
    let settled : IsSettled one two = record {
      sound = c.in_ok-settle.ensures.leaves.sound;
      graph = c.settle.ensures.nodes;
      retired = ap (λ (t : TableState g.row.S.Denot). t.retired) is;
      inputs = ap (λ (t : TableState g.row.S.Denot). t.inputs) is;
      top = c.settle.ensures.top;
      gone = c.settle.ensures.gone;
      stay = c.settle.ensures.stay;
    } in
    clear_two c.entry_law.ensures c.purge_law.ensures c.args.table.now one two c.args.roots.now c.in_ok-marks.marks
    (g.P.Purge.entries c.args.caches.now) (g.P.Purge.entries c.purge.new.self)
    c.requires.sound c.requires.fits c.in_ok-marks.ensures.reached c.in_ok-marks.ensures.marks c.purge.ensures.purged settled c.requires.may

pub returns-in_err-settle-clause-leaves : goal.returns-in_err-settle-clause-leaves
returns-in_err-settle-clause-leaves g c =
    let old = c.args.table.now in
    let one = c.purge.new.table in
    let two = c.settle.new.self in
    let came = c.in_err-settle.field-0.0 in
    subst (λ (error : Option TableError). Leaves old two error)
    (sym (ap error_of (handed_on _ came came c.from_residual-in_err-settle.ensures.1 refl)))
    (c.steps_law.ensures.leave old one two (Some came) c.purge.ensures.steps.leaves c.in_err-settle.ensures.leaves)

pub returns-in_err-count-clause-leaves : goal.returns-in_err-count-clause-leaves
returns-in_err-count-clause-leaves g c =
    let old = c.args.table.now in
    let one = c.purge.new.table in
    let two = c.settle.new.self in
    let new = c.sweep.new.self in
    let came = c.in_err-count.field-0.0 in
    let so_far = c.steps_law.ensures.go_on old one two c.purge.ensures.steps.leaves c.in_ok-settle.ensures.leaves in
    subst (λ (error : Option TableError). Leaves old new error)
    (sym (ap error_of (handed_on _ came came c.from_residual-in_err-count.ensures.1 refl)))
    (c.steps_law.ensures.leave old two new
    (Some came) so_far c.in_err-count.ensures.leaves)

pub returns-clause-reclaims : goal.returns-clause-reclaims
returns-clause-reclaims g c =
    let one = c.purge.new.table in
    let two = c.settle.new.self in
    let new = c.sweep.new.self in
    let is = c.in_ok-settle.ensures.settled in
    let settled : IsSettled one two = record {
      sound = c.in_ok-settle.ensures.leaves.sound;
      graph = c.settle.ensures.nodes;
      retired = ap (λ (t : TableState g.row.S.Denot). t.retired) is;
      inputs = ap (λ (t : TableState g.row.S.Denot). t.inputs) is;
      top = c.settle.ensures.top;
      gone = c.settle.ensures.gone;
      stay = c.settle.ensures.stay;
    } in
    let swept : SweepsAway two new c.in_ok-marks.marks = record {
      swept = c.in_ok-count.ensures.swept;
      gone = c.in_ok-count.ensures.gone;
      stay = c.sweep.ensures.stay;
      formula = c.sweep.ensures.formula;
      none_added = c.in_ok-count.ensures.none_added;
      retired = c.sweep.ensures.retired;
      inputs = c.in_ok-count.ensures.leaves.inputs;
      top = c.sweep.ensures.top;
    } in
    reclaims c.entry_law.ensures c.purge_law.ensures c.args.table.now one two c.args.roots.now c.in_ok-marks.marks
    (g.P.Purge.entries c.args.caches.now) (g.P.Purge.entries c.purge.new.self)
    c.requires.sound c.requires.fits c.in_ok-marks.ensures.reached c.in_ok-marks.ensures.marks c.purge.ensures.purged settled new swept

pub returns-clause-leaves : goal.returns-clause-leaves
returns-clause-leaves g c =
    let old = c.args.table.now in
    let one = c.purge.new.table in
    let two = c.settle.new.self in
    let new = c.sweep.new.self in
    let so_far = c.steps_law.ensures.go_on old one two c.purge.ensures.steps.leaves c.in_ok-settle.ensures.leaves in
    c.steps_law.ensures.go_on old two new so_far c.in_ok-count.ensures.leaves
