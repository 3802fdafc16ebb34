-- What the loops of `clause_from_atoms` keep.
use Rattle.std.proofs.Common.{◌≡◌, ◌≤◌, ◌++◌, length, drop}
use Rattle.std.specs.Option.{option_map}
use Rattle.hint_chain.specs.Atoms.{clause_from_atoms}
use Rattle.hint_chain.proofs.atom.clause_from_atoms.Given as goal

-- the literals so far, and then those of the other atoms, are those of the whole
abbrev pub invariant-loop-atom : goal.invariant-loop-atom
invariant-loop-atom l = record {
  short : length l.clause ≤ l.atom-index;
  so_far : option_map (λ more. l.clause ++ more) (clause_from_atoms (drop l.atom-index l.atoms)) ≡ clause_from_atoms l.atoms;
}
