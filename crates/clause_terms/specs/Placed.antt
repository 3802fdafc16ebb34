-- The literals of a clause by the levels of their variables.
use Rattle.std.specs.Prelude.{◌≡◌, ◌+◌, ◌<◌, ◌==◌, ◌&&◌, ℕ, Bool, not, ℤ, pos, neg_ℤ, List, length, map, IsPermutation, IsTrue, nat_lt}
use Rattle.std.specs.Prelude.{if◌then◌else◌, slice_index_or}
use Rattle.std.specs.List.{list_all, list_any}
use Rattle.std.specs.List.Sorted.{IsNonDecreasingBy}
use Rattle.std.specs.Bool.{beq}
use Rattle.node_table.specs.Diagram.{Graph, levels, variable_at}
use Rattle.node_table.specs.Value.{Levels}
use Rattle.clause_terms.specs.declared.placed.Placed.{Placed}

-- the literal itself
abbrev pub literal_at : Graph → Placed → ℤ
literal_at graph placed = if placed.negative then neg_ℤ (pos (variable_at graph placed.level)) else pos (variable_at graph placed.level)

abbrev pub placed_holds : Levels → Placed → Bool
placed_holds a placed = if placed.negative then not (a placed.level) else a placed.level

-- the function of literals, by levels: it holds where one of them does
abbrev pub placed_function : List Placed → Levels → Bool
placed_function placed a = list_any (placed_holds a) placed

-- each is of one of the graph's levels
abbrev pub are_of_levels : Graph → List Placed → Bool
are_of_levels graph placed = list_all (λ p. nat_lt p.level (levels graph)) placed

-- both signs of a variable
abbrev pub are_opposites : Placed → Placed → Bool
are_opposites one other = one.level == other.level && not (beq one.negative other.negative)

-- no two neighbours are of both signs of a variable
abbrev pub HasNoOpposites : List Placed → Type 0
HasNoOpposites placed = (i : ℕ) (d : Placed) → i + 1 < length placed → (slice_index_or placed i d).level
    ≡ (slice_index_or placed (i + 1) d).level
    → (slice_index_or placed i d).negative ≡ (slice_index_or placed (i + 1) d).negative

-- The clause's literals, each by its level, sorted by levels.
pub record AreInOrder (graph : Graph) (clause : List ℤ) (placed : List Placed) : Type 0 where
  pub levels : IsTrue (are_of_levels graph placed)
  pub sorted : IsNonDecreasingBy (λ p. p.level) placed
  pub same : IsPermutation clause (map (literal_at graph) placed)
