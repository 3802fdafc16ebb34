-- What is left to show of `Diagram::chosen`.
use Rattle.std.proofs.Common.{rules, ◌≡◌, ℕ, true, false, List, sym, ◌∙◌, ap, subst}
use Rattle.std.specs.Prelude.{slice_index_or}
use Rattle.cnf_base.specs.Truth.{assignment_of}
use Rattle.node_table.specs.Diagram.{Graph, IsReduced}
use Rattle.node_table.specs.Value.{by_level}
use Rattle.node_table.proofs.Values.{high_chosen, low_chosen}
use Rattle.node_table.proofs.diagram.Diagram.chosen.Goals as goal

pub returns-then-is_true : goal.returns-then-is_true
returns-then-is_true c =
    let reduced : IsReduced c.args.self.now = subst IsReduced c.self.view_is c.self.invariant.0.reduced in
    let order : c.as_slice.result.now ≡ c.args.self.now.order = c.as_slice.ensures.value ∙ ap (λ (g : Graph). g.order) c.self.view_is in
    let chosen : by_level c.args.self.now.order (assignment_of c.args.values.now) c.in_ok-branch.branch.level ≡ true =
    ap (λ (o : List ℕ). assignment_of c.args.values.now (slice_index_or o c.in_ok-branch.branch.level 0)) (sym order)
    ∙ sym c.is_true.ensures ∙ c.if-is_true.true in
    high_chosen c.args.self.now reduced (by_level c.args.self.now.order (assignment_of c.args.values.now)) c.args.node c.in_ok-branch.branch
    (search rules) chosen

pub returns-else-is_true : goal.returns-else-is_true
returns-else-is_true c =
    let reduced : IsReduced c.args.self.now = subst IsReduced c.self.view_is c.self.invariant.0.reduced in
    let order : c.as_slice.result.now ≡ c.args.self.now.order = c.as_slice.ensures.value ∙ ap (λ (g : Graph). g.order) c.self.view_is in
    let chosen : by_level c.args.self.now.order (assignment_of c.args.values.now) c.in_ok-branch.branch.level ≡ false =
    ap (λ (o : List ℕ). assignment_of c.args.values.now (slice_index_or o c.in_ok-branch.branch.level 0)) (sym order)
    ∙ sym c.is_true.ensures ∙ c.if-is_true.false in
    low_chosen c.args.self.now reduced (by_level c.args.self.now.order (assignment_of c.args.values.now)) c.args.node c.in_ok-branch.branch
    (search rules) chosen
