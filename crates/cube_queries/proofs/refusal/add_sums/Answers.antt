-- What is left to show of `add_sums`.
use Rattle.std.proofs.Common.{◌≡◌, ◌∙◌, ◌+◌, ℕ, Ok, Err, length, ap, sym, subst, arith}
use Rattle.std.specs.Prelude.{slice_index_or}
use Rattle.std.proofs.lemmas.List.{length_push}
use Rattle.node_table.specs.Diagram.{Graph, branch_at}
use Rattle.node_table.specs.Table.{live_nodes}
use Rattle.cube_queries.specs.Sums.{Adds, IsSumAt, one_at}
use Rattle.cube_queries.proofs.Added.{adds_as, adds_failed, adds_further, adds_handed, adds_none, standing}
use Rattle.cube_queries.proofs.Added.{standing_few, standing_next, sum_kept, sums_more}
use Rattle.cube_queries.proofs.refusal.add_sums.Goals as goal

pub keys-init : goal.keys-init
keys-init g c = record {
  adds = adds_none c.steps_law.ensures c.args.runner.now c.requires 0 0;
  long = ap length c.new-sums.ensures.items;
  sums = λ key less. absurd (omega (arith, less));
}

pub keys-preserved : goal.keys-preserved
keys-preserved g c =
    let old = c.args.runner.now in
    let mid = c.keys.runner in
    let new = c.add_sum.new.runner in
    let nodes = old.terms.table.graph.nodes in
    let before = c.keys.invariant.adds in
    let own = c.in_ok-id.ensures in
    record {
      adds = adds_further c.steps_law.ensures old mid new (standing nodes c.keys.key) (one_at nodes c.keys.key)
          (standing nodes (c.keys.key + 1)) (omega (arith, standing_next nodes c.keys.key)) 0 before (Ok 0)
          (adds_as mid new (one_at nodes c.keys.key) (one_at nodes c.keys.key) (omega arith) c.in_ok-id.id 0
          (subst (λ (graph : Graph). Adds (one_at graph.nodes c.keys.key) mid new (Ok c.in_ok-id.id)) before.nodes own.adds));
      long = ap length c.in_ok-keep.ensures ∙ length_push c.keys.sums.items c.in_ok-id.id
          ∙ ap (λ (n : ℕ). n + 1) c.keys.invariant.long;
      sums = λ key less.
          let long = c.keys.invariant.long in
          let graph = new.terms.table.graph in
          let live = new.terms.table.book.state.live in
          sums_more graph live c.keys.sums.items c.keep.new.sums.items c.in_ok-id.id c.in_ok-keep.ensures
          (λ first early. sum_kept mid new own.adds.nodes own.adds.clauses first (slice_index_or c.keys.sums.items first 0)
          (c.keys.invariant.sums first (omega (arith, early, long))))
          (subst (λ (n : ℕ). IsSumAt graph live n c.in_ok-id.id) (sym long) own.sum) key (omega (arith, less, long));
    }

pub returns-in_err-id-clause-adds : goal.returns-in_err-id-clause-adds
returns-in_err-id-clause-adds g c =
    let old = c.args.runner.now in
    let mid = c.keys.runner in
    let new = c.add_sum.new.runner in
    let nodes = old.terms.table.graph.nodes in
    let before = c.keys.invariant.adds in
    let came = c.in_err-id.field-0.0 in
    adds_handed old new (standing nodes (c.keys.key + 1)) (live_nodes old.terms.table.graph) (standing_few (c.keys.key + 1) nodes) came
    (adds_further c.steps_law.ensures old mid new (standing nodes c.keys.key) (one_at nodes c.keys.key) (standing nodes (c.keys.key + 1))
    (omega (arith, standing_next nodes c.keys.key)) 0 before (Err came)
    (subst (λ (graph : Graph). Adds {T = ℕ} (one_at graph.nodes c.keys.key) mid new (Err came)) before.nodes c.in_err-id.ensures.adds))
    _ c.from_residual.ensures.1

pub returns-in_err-keep-clause-adds : goal.returns-in_err-keep-clause-adds
returns-in_err-keep-clause-adds g c =
    let old = c.args.runner.now in
    let mid = c.keys.runner in
    let new = c.add_sum.new.runner in
    let nodes = old.terms.table.graph.nodes in
    let before = c.keys.invariant.adds in
    let none : ℕ = 0 in
    adds_failed old new (standing nodes (c.keys.key + 1)) (live_nodes old.terms.table.graph) (standing_few (c.keys.key + 1) nodes) none
    (adds_further c.steps_law.ensures old mid new (standing nodes c.keys.key) (one_at nodes c.keys.key) (standing nodes (c.keys.key + 1))
    (omega (arith, standing_next nodes c.keys.key)) none before (Ok none)
    (adds_as mid new (one_at nodes c.keys.key) (one_at nodes c.keys.key) (omega arith) c.in_ok-id.id none
    (subst (λ (graph : Graph). Adds (one_at graph.nodes c.keys.key) mid new (Ok c.in_ok-id.id)) before.nodes c.in_ok-id.ensures.adds)))
    _ c.from_residual-in_err-keep.ensures.1

pub returns-clause-adds : goal.returns-clause-adds
returns-clause-adds g c =
    let old = c.args.runner.now in
    let nodes = old.terms.table.graph.nodes in
    adds_as old c.keys.runner (standing nodes c.keys.key) (live_nodes old.terms.table.graph) (standing_few c.keys.key nodes) 0 _
    c.keys.invariant.adds

pub returns-clause-sums : goal.returns-clause-sums
returns-clause-sums g c key branch clause at own =
    let less = c.key_end-key-end.ensures key branch (ap (λ t. branch_at t.graph key) c.table.ensures
    ∙ ap (λ (graph : Graph). branch_at graph key) (sym c.keys.invariant.adds.nodes) ∙ at) in
    c.keys.invariant.sums key (omega (arith, less, c.keys-test.false)) branch clause at own

-- without a key nothing was added
pub returns-clause-none : goal.returns-clause-none
returns-clause-none g c is =
    let nodes = c.args.runner.now.terms.table.graph.nodes in
    let at_first : c.keys.key ≡ 0 = (let long = c.keys.invariant.long in let empty = ap length is in omega (arith, long, empty)) in
    let none : standing nodes c.keys.key ≡ 0 = ap (standing nodes) at_first in
    let top = c.keys.invariant.adds.top in
    omega (arith, top, none)
