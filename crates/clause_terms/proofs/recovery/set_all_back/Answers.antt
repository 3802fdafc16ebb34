-- What is left to show of `set_all_back`.
use Rattle.std.proofs.Common.{◌≡◌, ◌+◌, ◌-◌, ◌<◌, ℕ, Contains, List, length, reverse, take, subst, arith}
use Rattle.std.specs.Prelude.{slice_index_or}
use Rattle.std.proofs.lemmas.List.{get_or_default}
use Rattle.cnf_base.specs.Truth.{assignment_of}
use Rattle.node_table.specs.declared.node.Node.{Node}
use Rattle.node_table.specs.declared.node.Node.TheVariants.{False}
use Rattle.clause_terms.specs.Recovery.{set_nodes_back}
use Rattle.clause_terms.specs.Walk.{AreAlike}
use Rattle.clause_terms.proofs.SetBack.{one_back}
use Rattle.clause_terms.proofs.recovery.set_all_back.Goals as goal

contained : (trail : List (ℕ × Node)) (place : ℕ) (d : ℕ × Node) → place < length trail → Contains trail (slice_index_or trail place d)
contained trail place d inside = (place, inside, get_or_default trail place (slice_index_or trail place d) d inside)

pub set_back-requires-clause-some : goal.set_back-requires-clause-some
set_back-requires-clause-some g c = (c.requires.variables _ (contained c.args.trail.now (c.back.place - 1) (0, False) (omega arith))).0

pub set_back-requires-clause-within : goal.set_back-requires-clause-within
set_back-requires-clause-within g c = (c.requires.variables _ (contained c.args.trail.now (c.back.place - 1) (0, False) (omega arith))).1

pub back-preserved : goal.back-preserved
back-preserved g c =
    let graph = c.args.table.now.graph in
    let trail = c.args.trail.now in
    let place = c.back.place - 1 in
    let inside : place < length trail = omega arith in
    let kept : ℕ × Node = slice_index_or trail place (0, False) in
    let before = assignment_of c.back.values.items in
    let end = set_nodes_back graph (assignment_of c.args.values.now.items) (reverse trail) in
    let more : c.back.place ≡ place + 1 = omega arith in
    record {
      one_each = c.set_back.ensures.one_each;
      rest = one_back graph c.table_law.ensures.reduced c.table_law.ensures.ordered trail place kept inside
          (get_or_default trail place kept (0, False) inside)
          before (assignment_of c.set_back.new.values.items) end c.set_back.ensures.set
          (subst (λ (n : ℕ). AreAlike (set_nodes_back graph before (reverse (take n trail))) end) more c.back.invariant.rest);
    }
