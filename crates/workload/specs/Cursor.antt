-- The board walked column by column: for each row, how many clauses stand before its next square.
use Rattle.std.specs.Prelude.{◌≡◌, ℕ, ◌+◌, ◌*◌, ◌<◌, ◌≤◌, List, length, slice_index}
use Rattle.workload.specs.Board.{square}
use Rattle.workload.specs.Schedule.{squares_before, clause_count}

-- the rows above a row have gone on to the next column, this row and those below have not
pub record StandsWithin (n row column : ℕ) (cursor : List ℕ) : Type 0 where
  pub rows : length cursor ≡ 101
  pub few : (r : ℕ) → 0 < r → r ≤ n → slice_index cursor r ≤ 70000 + 7 * (column + 1)
  pub few_below : (r : ℕ) → 0 < r → row ≤ r → r ≤ n → slice_index cursor r ≤ 70000 + 7 * column
  pub above : (r : ℕ) → 0 < r → r < row → slice_index cursor r ≡ clause_count n (squares_before n (square r (column + 1)))
  pub below : (r : ℕ) → 0 < r → row ≤ r → r ≤ n → slice_index cursor r ≡ clause_count n (squares_before n (square r column))

-- each row's next square is that of this column
pub record StandsAt (n column : ℕ) (cursor : List ℕ) : Type 0 where
  pub rows : length cursor ≡ 101
  pub few : (r : ℕ) → 0 < r → r ≤ n → slice_index cursor r ≤ 70000 + 7 * column
  pub right : (r : ℕ) → 0 < r → r ≤ n → slice_index cursor r ≡ clause_count n (squares_before n (square r column))
