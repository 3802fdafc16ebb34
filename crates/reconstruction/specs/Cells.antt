-- A diagram as a list of cells, children before parents. Key 0 is False, 1 is True, and i + 2 the cell at place i. (Bryant:
-- Graph-Based Algorithms for Boolean Function Manipulation, 1986.)
use Rattle.std.specs.Prelude.{◌≡◌, ◌<◌, ◌+◌, ◌==◌, ℕ, Bool, List, [], ◌∷◌, ◌++◌, length, reverse, if◌then◌else◌}
use Rattle.cnf_base.specs.Truth.{Assignment}
use Rattle.reconstruction.specs.declared.cells.Cell.{Cell}

-- keys fit a word of 32 bits
abbrev pub most_cells : ℕ
most_cells = 4294967294

-- what a key says, the last cell being the first of the list: where a cell's variable is true what its high child says, else what
-- its low child says
abbrev pub value_in : Assignment → List Cell → ℕ → Bool
value_in a [] key = key == 1
value_in a (cell ∷ older) key =
    if key == length older + 2 then (if a cell.variable then value_in a older cell.high else value_in a older cell.low)
    else value_in a older key

abbrev pub cell_value : List Cell → Assignment → ℕ → Bool
cell_value cells a key = value_in a (reverse cells) key

-- each cell is of a variable, and its children are constants or earlier cells; the last cell is the first of the list
abbrev pub AreOlder : List Cell → Type 0
AreOlder [] = Unit {0}
AreOlder (cell ∷ older) = (0 < cell.variable) × (cell.high < length older + 2) × (cell.low < length older + 2) × AreOlder older

pub record AreOrdered (cells : List Cell) : Type 0 where
  pub older : AreOlder (reverse cells)

-- these cells, and maybe more behind them
pub record HasMore (before cells : List Cell) : Type 0 where
  pub more : List Cell
  pub is : cells ≡ before ++ more
