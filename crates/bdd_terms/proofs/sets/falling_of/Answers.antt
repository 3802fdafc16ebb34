-- What is left to show of `falling_of`.
use Rattle.std.proofs.Common.{◌≡◌, ◌∙◌, ◌-◌, ◌++◌, ◌<◌, ℕ, List, [], ◌∷◌, length, map, reverse, take, ap, sym, subst, arith}
use Rattle.std.specs.Prelude.{slice_index_or}
use Rattle.std.proofs.lemmas.List.{get_or-reverse, length-map, length-reverse, map-append, take_all, take_more}
use Rattle.node_table.specs.Diagram.{levels, variable_at}
use Rattle.bdd_terms.proofs.SetLevels.{at_least, in_list, rising_few}
use Rattle.bdd_terms.proofs.sets.falling_of.Goals as goal

pub bounds-order-set : goal.bounds-order-set
bounds-order-set g c =
    let set = c.args.set.now in
    let place = length set - 1 - c.places.place in
    let small : place < length set = omega (arith, c.places-test.true, c.places.auto.place-end) in
    let below = (at_least 0 (levels c.args.table.now.graph) set c.requires (slice_index_or set place 0) (in_list set place small)).1 in
    subst (λ (order : List ℕ). slice_index_or set place 0 < length order) (sym c.order-order.ensures.value) below

pub places-preserved : goal.places-preserved
places-preserved g c =
    let graph = c.args.table.now.graph in
    let set = c.args.set.now in
    let place = c.places.place in
    let small : place < length set = omega (arith, c.places-test.true, c.places.auto.place-end) in
    c.in_ok-push.ensures.items
    ∙ (λ k. c.places.invariant k ++ slice_index_or (c.order-order.ensures.value k) (slice_index_or set (length set - 1 - place) 0) 0 ∷ [])
    ∙ sym (ap (map (variable_at graph)) (take_more (reverse set) place 0 (omega (arith, small, length-reverse set)))
    ∙ map-append (variable_at graph) (take place (reverse set)) (slice_index_or (reverse set) place 0 ∷ [])
    ∙ ap (λ (n : ℕ). map (variable_at graph) (take place (reverse set)) ++ variable_at graph n ∷ []) (get_or-reverse set place 0 small))

pub returns-clause-few : goal.returns-clause-few
returns-clause-few g c =
    let graph = c.args.table.now.graph in
    let set = c.args.set.now in
    let all : take c.places.place (reverse set) ≡ reverse set = take_all c.places.place (reverse set)
    (omega (arith, c.places-test.false, length-reverse set)) in
    omega (
      arith,
      ap length c.places.invariant,
      length-map (take c.places.place (reverse set)) (variable_at graph),
      ap length all,
      length-reverse set,
      rising_few 0 (levels graph) set c.requires (omega arith),
      c.order-order.ensures.few,
    )
