-- The clause of a node alone follows from the empty clause.
use Rattle.std.proofs.Common.{refl, subst}
use Rattle.node_table.specs.declared.node.Node.TheVariants.{False}
use Rattle.node_table.specs.declared.node.Justification.{Justification}
use Rattle.node_table.specs.Defined.{atom_of}
use Rattle.node_table.specs.Justification.{IsJustified}
use Rattle.std.proofs.Common.{[], ◌∷◌}
use Rattle.bdd_terms.proofs.Repeated.{has_clause}
use Rattle.bdd_terms.proofs.unit.add_behind_empty.Goals as goal

pub unreachable-requires : goal.unreachable-requires
unreachable-requires g c = has_clause c.args.table.now.graph c.args.table.now.book.state.live False refl (λ is. cc) c.args.unit.now
    c.requires.empty c.in_default.ensures

pub add_unit-requires-clause-strict : goal.add_unit-requires-clause-strict
add_unit-requires-clause-strict g c clause is =
    let table = c.args.table.now in
    let proved = subst (λ (unit : Justification). IsJustified table.book.state.live (atom_of table.graph False ∷ []) unit)
    c.in-Some.ensures c.requires.empty in
    c.conflict_law.ensures table.book.state.live clause c.in-Some.id proved.1

pub returns : goal.returns
returns g c = c.add_unit.ensures.anew
