-- What is left to show of `first_free`.
use Rattle.node_table.proofs.IndexPlaces.{not_all_taken}
use Rattle.node_table.proofs.index.first_free.Goals as goal

pub unreachable-requires : goal.unreachable-requires
unreachable-requires c = not_all_taken c.args.places.now c.args.home c.loop-step.step c.requires.home c.requires.room c.loop-step-test.false
    c.loop-step.invariant
