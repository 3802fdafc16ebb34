-- What the loops of `unit_hints` keep.
use Rattle.std.proofs.Common.{◌≡◌, ◌++◌, drop}
use Rattle.hint_chain.specs.Units.{unit_list}
use Rattle.hint_chain.proofs.unit.unit_hints.Given as goal

-- the hints so far, and then those of the rest of the path, are those of the whole
abbrev pub invariant-loop-part : goal.invariant-loop-part
invariant-loop-part l = l.hints ++ unit_list (drop l.part-index l.path) l.input ≡ unit_list l.path l.input
