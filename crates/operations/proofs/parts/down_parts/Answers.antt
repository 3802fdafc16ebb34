-- A node of the level has its defining clauses, and another one is its own cofactor.
use Rattle.std.proofs.Common.{◌≡◌, ◌∙◌, Option, ap, sym, subst}
use Rattle.hint_chain.specs.declared.atom.Atom.{Atom}
use Rattle.hint_chain.specs.declared.step.ChildPart.{ChildPart}
use Rattle.node_table.specs.Defined.{atom_of, defs_of}
use Rattle.operations.specs.Sides.{High, Low, HasDownPart, cofactor_at, down_of, kept_part}
use Rattle.operations.proofs.NodeParts.{down_below, down_kept}
use Rattle.operations.proofs.parts.down_parts.Goals as goal

pub returns-in-None-clause-high : goal.returns-in-None-clause-high
returns-in-None-clause-high g c =
    down_below High c.args.table.now.graph c.args.table.now.book.state.live c.args.level c.requires.tied.reduced c.args.node c.requires.stands
    c.in-None.ensures.0

pub returns-in-None-clause-low : goal.returns-in-None-clause-low
returns-in-None-clause-low g c =
    down_below Low c.args.table.now.graph c.args.table.now.book.state.live c.args.level c.requires.tied.reduced c.args.node c.requires.stands
    c.in-None.ensures.1

pub returns-in-Some-clause-high : goal.returns-in-Some-clause-high
returns-in-Some-clause-high g c =
    let graph = c.args.table.now.graph in
    let live = c.args.table.now.book.state.live in
    let tied = c.requires.tied in
    let branch = c.in-Some.ensures in
    let child : Atom = atom_of graph (cofactor_at High graph c.args.level c.args.node) in
    let own : c.atom.result ≡ child = c.atom.ensures ∙ ap (atom_of graph) c.cofactors-high.ensures.high in
    let kept : c.kept_part.result ≡ kept_part (down_of High (defs_of branch.0)) child =
    c.kept_part.ensures ∙ (λ i. kept_part (down_of High (branch.3 i)) (own i)) in
    subst (λ (own : Option ChildPart). HasDownPart High graph live c.args.level c.args.node own) (sym kept)
    (down_kept High graph live c.args.level tied.reduced c.args.node c.requires.stands tied.defined branch.0 branch.1 branch.2)

pub returns-in-Some-clause-low : goal.returns-in-Some-clause-low
returns-in-Some-clause-low g c =
    let graph = c.args.table.now.graph in
    let live = c.args.table.now.book.state.live in
    let tied = c.requires.tied in
    let branch = c.in-Some.ensures in
    let child : Atom = atom_of graph (cofactor_at Low graph c.args.level c.args.node) in
    let own : c.atom-in-Some.result ≡ child = c.atom-in-Some.ensures ∙ ap (atom_of graph) c.cofactors-high.ensures.low in
    let kept : c.kept_part-in-Some.result ≡ kept_part (down_of Low (defs_of branch.0)) child =
    c.kept_part-in-Some.ensures ∙ (λ i. kept_part (down_of Low (branch.3 i)) (own i)) in
    subst (λ (own : Option ChildPart). HasDownPart Low graph live c.args.level c.args.node own) (sym kept)
    (down_kept Low graph live c.args.level tied.reduced c.args.node c.requires.stands tied.defined branch.0 branch.1 branch.2)
