-- The node of a sum of variables: all terms stay.
use Rattle.std.proofs.Common.{◌≡◌, ◌∙◌, ℕ, Bool, List, [], Result, Err, refl, sym, ap, subst, arith}
use Rattle.node_table.specs.declared.error.TableError.{TableError}
use Rattle.node_table.specs.declared.error.TableError.TheVariants.{NodeLimit, OutOfMemory}
use Rattle.node_table.specs.declared.node.Node.{Node}
use Rattle.node_table.specs.Diagram.{levels}
use Rattle.node_table.specs.HandedOn.{handed_on, no_answer, same_error}
use Rattle.node_table.specs.Made.{LacksPart, MakesOnly}
use Rattle.node_table.specs.Value.{Levels}
use Rattle.parity_nodes.specs.Sums.{AreRising, IsSum, sum_is}
use Rattle.bdd_terms.specs.Parity.{AreVariables, GivesNone, sum_function}
use Rattle.bdd_terms.proofs.Grown.{grown}
use Rattle.bdd_terms.proofs.StayingTerms.{if_ok}
use Rattle.bdd_terms.proofs.SumOver.{set_rising, sum_node, sum_same}
use Rattle.bdd_terms.proofs.runner.Runner.try_parity.Goals as goal

pub parity_node-requires-clause-sound : goal.parity_node-requires-clause-sound
parity_node-requires-clause-sound g c = c.requires.runner.over.sound

pub parity_node-requires-clause-rising : goal.parity_node-requires-clause-rising
parity_node-requires-clause-rising g c =
    let graph = c.args.self.now.terms.table.graph in
    let are = subst (λ n. AreVariables n c.args.variables.now) (sym c.requires.runner.over.vars) c.requires.variables in
    subst (λ (l : List ℕ). AreRising 0 (levels graph) l) (sym c.as_slice.ensures.value)
    (set_rising graph c.table_law.ensures.reduced c.table_law.ensures.ordered c.args.variables.now c.in_ok-set.set.items are c.in_ok-set.ensures)

pub returns-clause-node : goal.returns-clause-node
returns-clause-node g c =
    let old = c.args.self.now.terms.table in
    let new = c.parity_node.new.table in
    let are = subst (λ n. AreVariables n c.args.variables.now) (sym c.requires.runner.over.vars) c.requires.variables in
    if_ok c.parity_node.result _ _ (λ node is. sum_node old.graph c.table_law.ensures.reduced c.table_law.ensures.ordered c.args.variables.now
    c.in_ok-set.set.items are c.in_ok-set.ensures new.graph c.parity_node.ensures.steps.extends.nodes.order c.args.bit node
    (subst (λ (l : List ℕ). IsSum new.graph l c.args.bit node) c.as_slice.ensures.value is)) c.parity_node.ensures.sum

pub returns-clause-gives_none : goal.returns-clause-gives_none
returns-clause-gives_none g c =
    let old = c.args.self.now in
    let new = c.parity_node.new.table in
    let function = sum_function old.terms.table.graph.order c.args.variables.now c.args.bit in
    let are = subst (λ n. AreVariables n c.args.variables.now) (sym c.requires.runner.over.vars) c.requires.variables in
    let same : (a : Levels) → sum_is c.args.bit c.as_slice.result.now a ≡ function a = λ a.
    ap (λ (l : List ℕ). sum_is c.args.bit l a) c.as_slice.ensures.value
    ∙ sum_same old.terms.table.graph c.table_law.ensures.reduced c.table_law.ensures.ordered c.args.variables.now c.in_ok-set.set.items are
    c.in_ok-set.ensures c.args.bit a in
    grown c.growth_law.ensures c.steps_law.ensures c.entry_law.ensures function old c.requires.runner new c.parity_node.ensures.retired
    (subst (λ (f : Levels → Bool). MakesOnly old.terms.table.graph new.graph f) (λ i a. same a i) c.parity_node.ensures.made)
    c.parity_node.result c.parity_node.ensures.steps c.parity_node.ensures.none_added
    (λ limit. subst (λ (f : Levels → Bool). LacksPart new.graph f) (λ i a. same a i) (c.parity_node.ensures.lacks limit))

pub returns-clause-adds_none : goal.returns-clause-adds_none
returns-clause-adds_none g c = c.parity_node.ensures.steps.adds

pub returns-in_err-set-clause-node : goal.returns-in_err-set-clause-node
returns-in_err-set-clause-node g c = no_answer _ OutOfMemory _ c.from_residual.ensures.1

pub returns-in_err-set-clause-gives_none : goal.returns-in_err-set-clause-gives_none
returns-in_err-set-clause-gives_none g c =
    let old = c.args.self.now in
    let function = sum_function old.terms.table.graph.order c.args.variables.now c.args.bit in
    subst (λ (r : Result Node TableError). GivesNone function [] old old r)
    (sym (handed_on _ OutOfMemory OutOfMemory c.from_residual.ensures.1 refl))
    (grown c.growth_law.ensures c.steps_law.ensures c.entry_law.ensures function old c.requires.runner old.terms.table refl
    (c.subfunction_law.ensures.none_made old.terms.table.graph function) (Err OutOfMemory)
    (c.steps_law.ensures.no_memory old.terms.table c.requires.runner.over.sound) (λ whole id added. added)
    (λ limit. absurd (let e : OutOfMemory ≡ NodeLimit = same_error limit in cc)))

pub returns-in_err-set-clause-adds_none : goal.returns-in_err-set-clause-adds_none
returns-in_err-set-clause-adds_none g c = omega arith
