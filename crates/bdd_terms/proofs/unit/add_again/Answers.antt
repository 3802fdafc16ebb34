-- The clause of a node alone follows from itself.
use Rattle.std.proofs.Common.{[], ◌∷◌, subst}
use Rattle.node_table.specs.declared.node.Justification.{Justification}
use Rattle.node_table.specs.Defined.{atom_of}
use Rattle.node_table.specs.Justification.{IsJustified}
use Rattle.bdd_terms.proofs.Repeated.{follows_itself, has_clause}
use Rattle.bdd_terms.proofs.unit.add_again.Goals as goal

pub unreachable-requires : goal.unreachable-requires
unreachable-requires g c = has_clause c.args.table.now.graph c.args.table.now.book.state.live c.args.w c.requires.stands c.requires.not_true
    c.args.unit.now c.requires.proved c.in_default.ensures

pub add_unit-requires-clause-strict : goal.add_unit-requires-clause-strict
add_unit-requires-clause-strict g c clause is =
    let table = c.args.table.now in
    let proved = subst (λ (unit : Justification). IsJustified table.book.state.live (atom_of table.graph c.args.w ∷ []) unit)
    c.in-Some.ensures c.requires.proved in
    follows_itself table.book.state.live (atom_of table.graph c.args.w) c.in-Some.id clause proved.1 is

pub returns : goal.returns
returns g c = c.add_unit.ensures.anew
