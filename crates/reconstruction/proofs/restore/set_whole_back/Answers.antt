-- What is left to show of `set_whole_back`.
use Rattle.std.proofs.Common.{refl}
use Rattle.cnf_base.specs.Truth.{assignment_of}
use Rattle.reconstruction.proofs.SetEntries.{set_done, set_same}
use Rattle.reconstruction.proofs.restore.set_whole_back.Goals as goal

pub returns-clause-done : goal.returns-clause-done
returns-clause-done c = set_done c.args.cells.now c.requires.ordered c.args.key c.args.set.now (c.if-not-is_set.ensures.set refl)
    (assignment_of c.args.values.now) (assignment_of c.set_back.new.values) c.set_back.result c.set_back.ensures.set

pub returns-clause-same : goal.returns-clause-same
returns-clause-same c = set_same c.args.cells.now c.requires.ordered c.args.key c.args.set.now (c.if-not-is_set.ensures.set refl)
    (assignment_of c.args.values.now) (assignment_of c.set_back.new.values) c.set_back.result c.set_back.ensures.rest
