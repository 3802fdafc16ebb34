-- What is left to show of `set_back`.
use Rattle.std.proofs.Common.{◌≡◌, ◌-◌, ◌≤◌, ℕ, Bool, false, not, List, length, sym, ap, ◌∙◌, subst}
use Rattle.std.specs.Prelude.{slice_set}
use Rattle.cnf_base.specs.Truth.{assignment_of}
use Rattle.node_table.specs.Value.{by_level, value_of}
use Rattle.clause_terms.specs.Recovery.{set_node_back}
use Rattle.clause_terms.specs.Walk.{AreAlike}
use Rattle.clause_terms.proofs.SetBack.{set_in_place}
use Rattle.clause_terms.proofs.recovery.set_back.Goals as goal

pub returns-clause-set : goal.returns-clause-set
returns-clause-set g c =
    let graph = c.args.table.now.graph in
    let values = c.args.values.now.items in
    let x = c.args.variable in
    let node = c.args.node in
    let cleared : List Bool = slice_set values (x - 1) false in
    let within : x ≤ length values = subst (λ (n : ℕ). x ≤ n) (sym c.requires.one_each) c.requires.within in
    let asked : c.value-is_true.result ≡ value_of graph (by_level graph.order (assignment_of cleared)) node =
    c.value-is_true.ensures
    ∙ ap (λ (list : List Bool). value_of graph (by_level graph.order (assignment_of list)) node) c.as_slice.ensures.value in
    subst (λ (t : Bool). AreAlike (assignment_of (slice_set cleared (x - 1) (not t)))
    (set_node_back graph (assignment_of values) (x, node))) (sym asked)
    (set_in_place graph c.table_law.ensures.reduced c.table_law.ensures.ordered values x node c.requires.some within)
