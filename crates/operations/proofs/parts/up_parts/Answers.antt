-- A node of the level has its defining clauses, and another one is its own cofactor.
use Rattle.std.proofs.Common.{◌≡◌, ◌∙◌, Option, ap, sym, subst}
use Rattle.hint_chain.specs.declared.atom.Atom.{Atom}
use Rattle.hint_chain.specs.declared.step.ChildPart.{ChildPart}
use Rattle.hint_chain.specs.Atoms.{neg_atom}
use Rattle.node_table.specs.Defined.{atom_of, defs_of}
use Rattle.operations.specs.Sides.{High, Low, HasUpPart, cofactor_at, up_of, kept_part}
use Rattle.operations.proofs.NodeParts.{up_below, up_kept}
use Rattle.operations.proofs.parts.up_parts.Goals as goal

pub returns-in-None-clause-high : goal.returns-in-None-clause-high
returns-in-None-clause-high g c =
    up_below High c.args.table.now.graph c.args.table.now.book.state.live c.args.level c.requires.tied.reduced c.args.node c.requires.stands
    c.in-None.ensures.0

pub returns-in-None-clause-low : goal.returns-in-None-clause-low
returns-in-None-clause-low g c =
    up_below Low c.args.table.now.graph c.args.table.now.book.state.live c.args.level c.requires.tied.reduced c.args.node c.requires.stands
    c.in-None.ensures.1

pub returns-in-Some-clause-high : goal.returns-in-Some-clause-high
returns-in-Some-clause-high g c =
    let graph = c.args.table.now.graph in
    let live = c.args.table.now.book.state.live in
    let tied = c.requires.tied in
    let branch = c.in-Some.ensures in
    let child : Atom = neg_atom (atom_of graph (cofactor_at High graph c.args.level c.args.node)) in
    let own : c.negated.result ≡ child = c.negated.ensures
    ∙ ap neg_atom (c.atom.ensures ∙ ap (atom_of graph) c.cofactors-high.ensures.high) in
    let kept : c.kept_part.result ≡ kept_part (up_of High (defs_of branch.0)) child =
    c.kept_part.ensures ∙ (λ i. kept_part (up_of High (branch.3 i)) (own i)) in
    subst (λ (own : Option ChildPart). HasUpPart High graph live c.args.level c.args.node own) (sym kept)
    (up_kept High graph live c.args.level tied.reduced c.args.node c.requires.stands tied.defined branch.0 branch.1 branch.2)

pub returns-in-Some-clause-low : goal.returns-in-Some-clause-low
returns-in-Some-clause-low g c =
    let graph = c.args.table.now.graph in
    let live = c.args.table.now.book.state.live in
    let tied = c.requires.tied in
    let branch = c.in-Some.ensures in
    let child : Atom = neg_atom (atom_of graph (cofactor_at Low graph c.args.level c.args.node)) in
    let own : c.negated-in-Some.result ≡ child = c.negated-in-Some.ensures
    ∙ ap neg_atom (c.atom-in-Some.ensures ∙ ap (atom_of graph) c.cofactors-high.ensures.low) in
    let kept : c.kept_part-in-Some.result ≡ kept_part (up_of Low (defs_of branch.0)) child =
    c.kept_part-in-Some.ensures ∙ (λ i. kept_part (up_of Low (branch.3 i)) (own i)) in
    subst (λ (own : Option ChildPart). HasUpPart Low graph live c.args.level c.args.node own) (sym kept)
    (up_kept Low graph live c.args.level tied.reduced c.args.node c.requires.stands tied.defined branch.0 branch.1 branch.2)
