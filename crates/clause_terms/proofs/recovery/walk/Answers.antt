-- What is left to show of `walk`.
use Rattle.std.proofs.Common.{◌≡◌, ◌≢◌, ℕ, ◌-◌, ◌<◌, true, false, sym, ◌∙◌, subst, arith}
use Rattle.std.specs.Prelude.{slice_set, slice_index_or}
use Rattle.std.proofs.lemmas.List.{length-set}
use Rattle.node_table.specs.declared.node.Node.{Node}
use Rattle.node_table.specs.declared.node.Node.TheVariants.{False}
use Rattle.node_table.specs.Diagram.{levels, level_of, variable_at}
use Rattle.clause_terms.specs.Walk.{IsDown, levels_of}
use Rattle.clause_terms.proofs.Down.{has_branch, low_step, high_step}
use Rattle.clause_terms.proofs.Set.{set_on, set_others}
use Rattle.clause_terms.proofs.recovery.walk.Goals as goal

pub down-smaller-then-is_false : goal.down-smaller-then-is_false
down-smaller-then-is_false g c =
    let graph = c.args.table.now.graph in
    let found = c.in-Some.ensures in
    let has = has_branch c.cofactor_law.ensures graph c.table_law.ensures.reduced c.down.node c.down.invariant.1.stands found.0 found.1 in
    subst (λ (n : Node). levels graph - level_of graph n < levels graph - level_of graph c.down.node) (sym found.3)
    (omega (arith, has.here, has.high.below, has.small))

pub down-preserved-then-is_false : goal.down-preserved-then-is_false
down-preserved-then-is_false g c =
    let graph = c.args.table.now.graph in
    let found = c.in-Some.ensures in
    let b = found.0 in
    let reduced = c.table_law.ensures.reduced in
    let ordered = c.table_law.ensures.ordered in
    let values = c.down.values.items in
    let has = has_branch c.cofactor_law.ensures graph reduced c.down.node c.down.invariant.1.stands b found.1 in
    let place : slice_index_or c.order.result.now c.in-Some.level 0
    ≡ variable_at graph b.level = (λ i. slice_index_or (c.order.ensures.value i) (found.2 i) 0) in
    let no_low : b.low ≡ False = sym found.4 ∙ c.is_false.ensures.0 c.if-is_false.true in
    let down : IsDown graph (levels_of graph (slice_set values (variable_at graph b.level - 1) true)) c.args.node b.high =
    high_step graph reduced (levels_of graph values) (levels_of graph
    (slice_set values (variable_at graph b.level - 1) true)) c.args.node c.down.node b has c.down.invariant.1 no_low
    (set_on graph ordered values c.down.invariant.0 b.level has.small) (set_others graph ordered values b.level has.small) in (
      length-set values (slice_index_or c.order.result.now c.in-Some.level 0 - 1) true ∙ c.down.invariant.0,
      subst (λ (n : Node). IsDown graph (levels_of graph (slice_set values (slice_index_or c.order.result.now c.in-Some.level 0 - 1) true))
          c.args.node n) (sym found.3)
          (subst (λ (x : ℕ). IsDown graph (levels_of graph (slice_set values (x - 1) true)) c.args.node b.high) (sym place) down),
    )

pub down-smaller : goal.down-smaller
down-smaller g c =
    let graph = c.args.table.now.graph in
    let found = c.in-Some.ensures in
    let has = has_branch c.cofactor_law.ensures graph c.table_law.ensures.reduced c.down.node c.down.invariant.1.stands found.0 found.1 in
    subst (λ (n : Node). levels graph - level_of graph n < levels graph - level_of graph c.down.node) (sym found.4)
    (omega (arith, has.here, has.low.below, has.small))

pub down-preserved : goal.down-preserved
down-preserved g c =
    let graph = c.args.table.now.graph in
    let found = c.in-Some.ensures in
    let b = found.0 in
    let reduced = c.table_law.ensures.reduced in
    let has = has_branch c.cofactor_law.ensures graph reduced c.down.node c.down.invariant.1.stands b found.1 in
    let some : b.low ≢ False = λ is. (let yes_false : c.is_false.result ≡ true = c.is_false.ensures.1 (found.4 ∙ is) in
    let not_false : c.is_false.result ≡ false = c.if-is_false.false in cc) in (
      c.down.invariant.0,
      subst (λ (n : Node). IsDown graph (levels_of graph c.down.values.items) c.args.node n) (sym found.4)
          (low_step graph reduced (levels_of graph c.down.values.items) c.args.node c.down.node b has c.down.invariant.1 some),
    )
