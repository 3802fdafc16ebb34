-- What is left to show of `copy_recent`.
use Rattle.std.proofs.Common.{◌∙◌, Contains, List, map, ap, subst, sym}
use Rattle.std.specs.Prelude.{IsTrue}
use Rattle.node_table.specs.Diagram.{is_node}
use Rattle.reconstruction.specs.Copies.{Copies, KeepsCopies}
use Rattle.reconstruction.specs.declared.entries.Kept.{Kept}
use Rattle.reconstruction.specs.Stack.{SayTheSame, Stack}
use Rattle.reconstruction.proofs.TakenOver.{nodes_have, nodes_stand, say_the_same, stack_more}
use Rattle.reconstruction.proofs.Wanted.{on_ok}
use Rattle.reconstruction.proofs.stack.Reconstruction.copy_recent.Goals as goal

pub copy_nodes-requires-clause-nodes : goal.copy_nodes-requires-clause-nodes
copy_nodes-requires-clause-nodes g c =
    nodes_stand c.args.table.now.graph c.self.inside.recent.items c.as_slice-2.result.now
    (c.as_slice-2.ensures.value ∙ c.in_ok-nodes.ensures
    ∙ ap (λ (list : List Kept). map (λ (kept : Kept). kept.node) list) c.as_slice.ensures.value)
    (subst (λ (s : Stack). (kept : Kept) → Contains s.recent kept → IsTrue (is_node c.args.table.now.graph kept.node)) (sym c.self.view_is)
    c.requires.nodes)

pub invariant_of-self : goal.invariant_of-self
invariant_of-self g c = stack_more c.args.table.now.graph c.self.inside.cells.items c.copy_nodes.new.cells.items c.self.inside.stored.items
    c.self.inside.copies.items c.copy_nodes.new.copies.items c.self.invariant c.copy_nodes.ensures.copies

pub returns-clause-copied : goal.returns-clause-copied
returns-clause-copied g c = record {
  copied = subst (λ (s : Stack). Copies c.args.table.now.graph s.cells s.copies c.copy_nodes.new.cells.items c.copy_nodes.new.copies.items)
      c.self.view_is c.copy_nodes.ensures.copies;
  same = λ i. record (c.self.view_is i) { cells = c.copy_nodes.new.cells.items; copies = c.copy_nodes.new.copies.items };
  says = subst (λ (s : Stack). SayTheSame s.cells c.copy_nodes.new.cells.items s.stored) c.self.view_is
      (say_the_same c.self.inside.cells.items c.copy_nodes.new.cells.items c.self.inside.stored.items c.self.invariant.within
      c.copy_nodes.ensures.copies.more);
  kept = subst (λ (s : Stack). KeepsCopies s.copies c.copy_nodes.new.copies.items) c.self.view_is c.copy_nodes.ensures.kept;
}

pub returns-clause-all : goal.returns-clause-all
returns-clause-all g c = on_ok c.copy_nodes.result
    (nodes_have c.self.inside.recent.items c.as_slice-2.result.now c.copy_nodes.new.copies.items
    (c.as_slice-2.ensures.value ∙ c.in_ok-nodes.ensures
    ∙ ap (λ (list : List Kept). map (λ (kept : Kept). kept.node) list) c.as_slice.ensures.value)) c.copy_nodes.ensures.all
