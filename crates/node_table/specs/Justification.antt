-- A clause over nodes is justified: it is true by itself, or it is live.
use Rattle.std.specs.Prelude.{◌≡◌, List, IsTrue, IsFalse}
use Rattle.lrat_rules.specs.State.{Live, clause_at}
use Rattle.hint_chain.specs.declared.atom.Atom.{Atom}
use Rattle.hint_chain.specs.Atoms.{clause_from_atoms, is_trivial}
use Rattle.node_table.specs.declared.node.Justification.{Justification}
use Rattle.node_table.specs.declared.node.Justification.TheVariants.{Trivial, Clause}

-- The clause of these atoms is true by itself exactly where no live clause is named.
abbrev pub IsJustified : Live → List Atom → Justification → Type 0
IsJustified live atoms Trivial = IsTrue (is_trivial atoms)
IsJustified live atoms (Clause id) = IsFalse (is_trivial atoms) × (clause_at live id ≡ clause_from_atoms atoms)
