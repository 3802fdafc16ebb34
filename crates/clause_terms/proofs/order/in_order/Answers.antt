-- What is left to show of `in_order`.
use Rattle.std.proofs.Common.{List, map, subst}
use Rattle.std.specs.Prelude.{IsPermutation, ℤ}
use Rattle.std.proofs.lemmas.List.Sorted.{IsPermutation-map}
use Rattle.clause_terms.specs.Placed.{literal_at}
use Rattle.clause_terms.proofs.Ordered.{of_levels_still}
use Rattle.clause_terms.proofs.order.in_order.Goals as goal

pub returns : goal.returns
returns g c =
    let graph = c.args.table.now.graph in
    let moved = c.sort_by_level.ensures.permutation in
    record {
      levels = of_levels_still graph _ _ moved c.in_ok-placed.ensures.levels;
      sorted = c.sort_by_level.ensures.sorted;
      same = subst (λ (clause : List ℤ). IsPermutation clause (map (literal_at graph) c.sort_by_level.new.placed.items))
          c.in_ok-placed.ensures.literals
          (IsPermutation-map (literal_at graph) _ _ moved);
    }
