-- The column schedule of the board: column by column the clauses of its squares are conjoined with what came before, and
-- then each domino is quantified that no later square has. (Bryant, Heule: Generating Extended Resolution Proofs with a
-- BDD-Based SAT Solver, 2021, section 7: column scanning.)
use Rattle.std.specs.Prelude.{ℕ, zero, suc, ◌+◌, ◌-◌, nat_le, List, [], ◌∷◌, ◌++◌, length, map, replicate, if◌then◌else◌}
use Rattle.std.specs.List.{flat_map}
use Rattle.cnf_base.specs.Order.{natural}
use Rattle.schedule_plan.specs.declared.plan.Move.{Move}
use Rattle.schedule_plan.specs.declared.plan.Move.TheVariants.{Push, And, Exists}
use Rattle.workload.specs.declared.square.Square.{Square}
use Rattle.workload.specs.declared.square.Domino.{Domino}
use Rattle.workload.specs.declared.square.Domino.TheVariants.{Across, Down}
use Rattle.workload.specs.Board.{square, front_of_row, row_squares, column_squares, dominoes_of, number, square_clauses}

-- the squares before a square: the rows above, and those of its row on its left
abbrev pub squares_before : ℕ → Square → List Square
squares_before n s = flat_map (row_squares n) (natural (s.row - 1)) ++ front_of_row n s.row (s.column - 1)

-- so many numbers that follow a number
abbrev pub following : ℕ → ℕ → List ℕ
following start zero = []
following start (suc count) = suc start ∷ following (suc start) count

-- how many clauses some squares have
abbrev pub clause_count : ℕ → List Square → ℕ
clause_count n some = length (flat_map (square_clauses n) some)

-- the numbers of a square's clauses: they follow those of the squares before it
unfoldable pub clause_numbers : ℕ → Square → List ℕ
clause_numbers n s = following (clause_count n (squares_before n s)) (length (square_clauses n s))

-- the numbers of the clauses of a column, by rising rows
abbrev pub column_clauses : ℕ → ℕ → List ℕ
column_clauses n column = flat_map (clause_numbers n) (column_squares n column)

-- the dominoes that lie in this column or end in it, in the column order
abbrev pub ending_dominoes : ℕ → ℕ → List Domino
ending_dominoes n column =
    dominoes_of n (map (λ row. Across (square row (column - 1))) (natural n))
    ++ dominoes_of n (map (λ row. Down (square row column)) (natural n))

abbrev pub ending : ℕ → ℕ → List ℕ
ending n column = map (number n) (ending_dominoes n column)

-- The lines of a schedule: push clauses, conjoin so many terms, quantify variables.
pub data Command : Type 0 where
  Clauses : List ℕ → Command
  Conjoin : ℕ → Command
  Quantify : List ℕ → Command

-- terms are conjoined where there are two or more, and variables quantified where there is one
abbrev pub conjoining : ℕ → List Command
conjoining terms = (if nat_le 2 terms then Conjoin terms ∷ [] else [])

abbrev pub quantifying : List ℕ → List Command
quantifying [] = []
quantifying (variable ∷ variables) = Quantify (variable ∷ variables) ∷ []

-- the terms of a column: its clauses, and what came before
abbrev pub terms_in_column : ℕ → ℕ → ℕ
terms_in_column n column = length (column_clauses n column) + (if nat_le 2 column then 1 else 0)

abbrev pub column_commands : ℕ → ℕ → List Command
column_commands n column = Clauses (column_clauses n column) ∷ conjoining (terms_in_column n column) ++ quantifying (ending n column)

abbrev pub column_schedule : ℕ → List Command
column_schedule n = flat_map (column_commands n) (natural n)

-- the moves of a schedule
abbrev pub moves_of : Command → List Move
moves_of (Clauses clauses) = map Push clauses
moves_of (Conjoin terms) = replicate (terms - 1) And
moves_of (Quantify variables) = map Exists variables

abbrev pub board_moves : ℕ → List Move
board_moves n = flat_map moves_of (column_schedule n)
