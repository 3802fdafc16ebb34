-- The parts lead to the cofactors, and the last one is of their implication.
use Rattle.std.proofs.Common.{ℕ, List, Option, None, refl}
use Rattle.lrat_rules.specs.State.{Live}
use Rattle.hint_chain.specs.declared.atom.Atom.{Atom}
use Rattle.hint_chain.specs.declared.step.ChildPart.{ChildPart}
use Rattle.node_table.specs.declared.node.Justification.{Justification}
use Rattle.node_table.specs.Diagram.{Graph}
use Rattle.node_table.specs.Justification.{IsJustified}
use Rattle.operations.specs.declared.operands.Operands.{Operands}
use Rattle.operations.specs.Results.{implication_atoms}
use Rattle.operations.specs.Sides.{HasDownPart, HasJustPart, HasUpPart, High, Low, Side, cofactor_at}
use Rattle.imply.specs.Additions.{HasSide, IsSide}
use Rattle.imply.proofs.additions.parts_of.Goals as goal

has_side : (side : Side) (graph : Graph) (live : Live) (o : Operands) (just : Justification)
    → IsSide graph live o side just → {first second : Option ChildPart} {children : Option ℕ}
    → HasDownPart side graph live o.level o.u first → HasUpPart side graph live o.level o.v second
    → ((atoms : List Atom) → IsJustified live atoms just → HasJustPart live atoms children)
    → HasSide graph live o side (record { result = None; first = first; second = second; children = children })
has_side side graph live o just finished down_u up_v named =
    let last = named (implication_atoms graph (cofactor_at side graph o.level o.u) (cofactor_at side graph o.level o.v)) finished.justified in
    record {
      sides = record { result = None; first = down_u.part; second = up_v.part; children = last.part };
      are = record {
        are = record { result = refl; first = down_u.down; second = up_v.up; children = last.justifies };
        stand = (tt, (down_u.stands, (up_v.stands, (last.stands, tt))));
      };
      kept = record {
        no_result = refl;
        none_kept = refl;
        first = down_u.down;
        second = up_v.up;
        children = last.justifies;
        first_named = down_u.named;
        second_named = up_v.named;
        children_named = last.numbered;
      };
    }

pub returns-clause-high : goal.returns-clause-high
returns-clause-high g c =
    has_side High c.args.table.now.graph c.args.table.now.book.state.live c.args.operands.now c.args.high.now
    c.requires.sides.on_high c.down_parts-first.ensures.high c.up_parts-second.ensures.high
    (c.just_number.ensures c.args.table.now.book.state.live)

pub returns-clause-low : goal.returns-clause-low
returns-clause-low g c =
    has_side Low c.args.table.now.graph c.args.table.now.book.state.live c.args.operands.now c.args.low.now
    c.requires.sides.on_low c.down_parts-first.ensures.low c.up_parts-second.ensures.low
    (c.just_number-2.ensures c.args.table.now.book.state.live)
