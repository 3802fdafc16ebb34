-- The parts lead to the cofactors, and the last one is of their conjunction.
use Rattle.std.proofs.Common.{ℕ, List, Option, sym, subst}
use Rattle.lrat_rules.specs.State.{Live}
use Rattle.hint_chain.specs.declared.atom.Atom.{Atom}
use Rattle.hint_chain.specs.declared.step.ChildPart.{ChildPart}
use Rattle.hint_chain.specs.Additions.{Justifies}
use Rattle.node_table.specs.declared.node.Node.{Node}
use Rattle.node_table.specs.declared.node.Justification.{Justification}
use Rattle.node_table.specs.Diagram.{Graph}
use Rattle.node_table.specs.Justification.{IsJustified}
use Rattle.operations.specs.declared.operands.Operands.{Operands}
use Rattle.operations.specs.Results.{conjunction_atoms}
use Rattle.operations.specs.Sides.{HasDownPart, HasJustPart, HasUpPart, High, Low, Side, cofactor_at}
use Rattle.apply_and.specs.Additions.{HasSide, IsSide}
use Rattle.apply_and.proofs.additions.parts_of.Goals as goal

has_side : (side : Side) (graph : Graph) (live : Live) (o : Operands) (w : Node) (found : Node × Justification)
    → IsSide graph live o w side found → {result first second : Option ChildPart} {children : Option ℕ}
    → HasUpPart side graph live o.level w result → HasDownPart side graph live o.level o.u first
    → HasDownPart side graph live o.level o.v second
    → ((atoms : List Atom) → IsJustified live atoms found.1 → HasJustPart live atoms children)
    → HasSide graph live o w side (record { result = result; first = first; second = second; children = children })
has_side side graph live o w found finished up down_u down_v just =
    let atoms = conjunction_atoms graph (cofactor_at side graph o.level o.u) (cofactor_at side graph o.level o.v) found.0 in
    let last = just atoms finished.justified in
    let justifies = subst (λ (h : Node). Justifies (conjunction_atoms graph (cofactor_at side graph o.level o.u)
    (cofactor_at side graph o.level o.v) h) last.part) (sym finished.cofactor) last.justifies in record {
      sides = record { result = up.part; first = down_u.part; second = down_v.part; children = last.part };
      are = record {
        are = record { up = up.up; first = down_u.down; second = down_v.down; children = justifies };
        stand = (up.stands, (down_u.stands, (down_v.stands, (last.stands, tt))));
      };
      kept = record {
        up = up.up;
        first = down_u.down;
        second = down_v.down;
        children = justifies;
        up_named = up.named;
        first_named = down_u.named;
        second_named = down_v.named;
        children_named = last.numbered;
      };
    }

pub returns-clause-high : goal.returns-clause-high
returns-clause-high g c =
    has_side High c.args.table.now.graph c.args.table.now.book.state.live c.args.operands.now c.args.w c.args.high.now
    c.requires.sides.on_high c.up_parts-result.ensures.high c.down_parts-first.ensures.high c.down_parts-second.ensures.high
    (c.just_number.ensures c.args.table.now.book.state.live)

pub returns-clause-low : goal.returns-clause-low
returns-clause-low g c =
    has_side Low c.args.table.now.graph c.args.table.now.book.state.live c.args.operands.now c.args.w c.args.low.now
    c.requires.sides.on_low c.up_parts-result.ensures.low c.down_parts-first.ensures.low c.down_parts-second.ensures.low
    (c.just_number-2.ensures c.args.table.now.book.state.live)
