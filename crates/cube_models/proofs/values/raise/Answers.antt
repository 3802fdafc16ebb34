-- What is left to show of `raise`.
use Rattle.std.proofs.Common.{◌≡◌, ◌∙◌, ◌+◌, ◌-◌, ℕ, true, false, Bool, List, ◌∷◌, ap, drop, length, subst, sym}
use Rattle.std.specs.Prelude.{slice_index_or, slice_set}
use Rattle.std.proofs.lemmas.List.{drop_more, length-map, length-set}
use Rattle.node_table.specs.declared.node.Node.TheVariants.{True}
use Rattle.node_table.specs.Diagram.{variable_at}
use Rattle.cube_models.specs.Way.{Leads, is_marked, is_on, is_open, next_in, sign_at, sign_of}
use Rattle.cube_models.proofs.Downs.{IsOn, goes_high, on_map, start_down, stays_low}
use Rattle.cube_models.proofs.values.raise.Goals as goal

pub nodes-init : goal.nodes-init
nodes-init g c =
    let graph = c.args.table.now.graph in
    let signs = c.args.signs.now in
    let values = c.args.values.now.items in
    record {
      one_each = ap length c.requires.as_assumed ∙ length-map signs is_on ∙ c.requires.one_each;
      down = λ first stands way. (
        first,
        (
          way,
          subst (λ (list : List Bool). IsOn graph signs first list first) (sym c.requires.as_assumed)
              (start_down graph c.table_law.ensures.reduced signs _ first stands
              (λ i small. on_map signs (variable_at graph i - 1))),
        ),
      );
    }

pub nodes-preserved-then-is_open : goal.nodes-preserved-then-is_open
nodes-preserved-then-is_open g c =
    let graph = c.args.table.now.graph in
    let signs = c.args.signs.now in
    let marks = c.args.marks.now in
    let round = c.args.round in
    let path = c.args.path.now in
    let index = c.nodes.key-index in
    let found = c.in-Some.ensures in
    let b = found.0 in
    let next = next_in graph signs marks round in
    let place : slice_index_or c.order.result.now c.in-Some.level 0 ≡ variable_at graph b.level =
    (λ i. slice_index_or (c.order.ensures.value i) (found.2 i) 0) in
    let sign : c.sign_of.result ≡ sign_at graph signs b.level = c.sign_of.ensures ∙ ap (sign_of signs) place in
    let opened : is_open (is_marked marks round) (sign_at graph signs b.level) false b.low ≡ true =
    (λ i. is_open (is_marked marks round) (sym sign i) false (sym found.4 i)) ∙ sym c.is_open.ensures ∙ c.if-is_open.true in
    record {
      one_each = c.nodes.invariant.one_each;
      down = λ first stands way.
          let at = c.nodes.invariant.down first stands way in
          let leads : Leads graph next at.0 (slice_index_or path index 0 ∷ drop (index + 1) path) True =
          subst (λ (list : List ℕ). Leads graph next at.0 list True) (drop_more path index 0 c.nodes-test.true) at.1.0 in (
            leads.0,
            (
              leads.1.1,
              stays_low c.cofactor_law.ensures graph c.table_law.ensures.reduced signs round marks c.nodes.values.items
                  first at.0 (slice_index_or path index 0) leads.0 b found.1 at.1.1 leads.1.0 opened,
            ),
          );
    }

pub nodes-preserved : goal.nodes-preserved
nodes-preserved g c =
    let graph = c.args.table.now.graph in
    let signs = c.args.signs.now in
    let marks = c.args.marks.now in
    let round = c.args.round in
    let path = c.args.path.now in
    let values = c.nodes.values.items in
    let index = c.nodes.key-index in
    let found = c.in-Some.ensures in
    let b = found.0 in
    let next = next_in graph signs marks round in
    let place : slice_index_or c.order.result.now c.in-Some.level 0 ≡ variable_at graph b.level =
    (λ i. slice_index_or (c.order.ensures.value i) (found.2 i) 0) in
    let sign : c.sign_of.result ≡ sign_at graph signs b.level = c.sign_of.ensures ∙ ap (sign_of signs) place in
    let closed : is_open (is_marked marks round) (sign_at graph signs b.level) false b.low ≡ false =
    (λ i. is_open (is_marked marks round) (sym sign i) false (sym found.4 i)) ∙ sym c.is_open.ensures ∙ c.if-is_open.false in
    record {
      one_each = length-set values (slice_index_or c.order.result.now c.in-Some.level 0 - 1) true ∙ c.nodes.invariant.one_each;
      down = λ first stands way.
          let at = c.nodes.invariant.down first stands way in
          let leads : Leads graph next at.0 (slice_index_or path index 0 ∷ drop (index + 1) path) True =
          subst (λ (list : List ℕ). Leads graph next at.0 list True) (drop_more path index 0 c.nodes-test.true) at.1.0 in (
            leads.0,
            (
              leads.1.1,
              subst (λ (x : ℕ). IsOn graph signs first (slice_set values (x - 1) true) leads.0) (sym place)
                  (goes_high c.cofactor_law.ensures graph c.table_law.ensures.reduced c.table_law.ensures.ordered signs round marks values
                  first at.0 (slice_index_or path index 0) leads.0 b c.requires.marks c.nodes.invariant.one_each found.1 at.1.1 leads.1.0
                  closed),
            ),
          );
    }
