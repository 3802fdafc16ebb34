-- What the loops of `nodes_of` keep.
use Rattle.std.proofs.Common.{◌≡◌, map, take}
use Rattle.reconstruction.proofs.stack.nodes_of.Given as goal

abbrev pub invariant-recent : goal.invariant-recent
invariant-recent l = l.nodes.items ≡ map (λ kept. kept.node) (take l.kept-index l.recent)
