-- The values by levels once the variable of a level was set.
use Rattle.std.proofs.Common.{◌≡◌, ℕ, ◌-◌, ◌<◌, Bool, true, false, List, length, arith}
use Rattle.std.specs.Prelude.{slice_set}
use Rattle.std.proofs.lemmas.List.{get_or-set_same, get_or-set_other}
use Rattle.node_table.specs.Diagram.{Graph, IsOrder, levels, variable_at}
use Rattle.clause_terms.specs.Walk.{levels_of}

pub set_on : (graph : Graph) → IsOrder graph.order → (values : List Bool) → length values ≡ levels graph → (level : ℕ) → level
    < levels graph
    → levels_of graph (slice_set values (variable_at graph level - 1) true) level ≡ true
set_on graph ordered values one_each level small =
    let range = ordered.within level small in
    get_or-set_same values (variable_at graph level - 1) true false (omega (arith, range.0, range.1, one_each))

pub set_others : (graph : Graph) → IsOrder graph.order → (values : List Bool) → (level : ℕ) → level < levels graph
    → (i : ℕ) → i < levels graph → (i ≡ level → ⊥) → levels_of graph (slice_set values (variable_at graph level - 1) true) i
    ≡ levels_of graph values i
set_others graph ordered values level small i inside differ =
    let here = ordered.within level small in
    let there = ordered.within i inside in
    get_or-set_other values (variable_at graph level - 1) (variable_at graph i - 1) true false
    (λ same. differ (ordered.apart i level inside small (omega (arith, here.0, there.0, same))))
