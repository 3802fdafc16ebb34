-- The mutilated chessboard: a board of n by n squares, two opposite corners of which are left out, is to be covered by
-- dominoes. (McCarthy: A Tough Nut for Proof Procedures, 1964. As clauses: Alekhnovich: Mutilated Chessboard Problem Is
-- Exponentially Hard for Resolution, 2004.)
use Rattle.std.specs.Prelude.{ℕ, ◌+◌, ◌-◌, Bool, false, not, ◌&&◌, ◌||◌, ◌==◌, nat_le, ℤ, pos, neg_ℤ, List, [], ◌∷◌, ◌++◌, length, map}
use Rattle.std.specs.List.{filter, flat_map, position_or_len}
use Rattle.cnf_base.specs.Formula.{Formula}
use Rattle.cnf_base.specs.Order.{natural}
use Rattle.workload.specs.declared.square.Square.{Square}
use Rattle.workload.specs.declared.square.Domino.{Domino}
use Rattle.workload.specs.declared.square.Domino.TheVariants.{Across, Down}

-- the most columns of a board
abbrev pub most_columns : ℕ
most_columns = 100

-- a square by its row and its column, from 1
abbrev pub square : ℕ → ℕ → Square
square row column = record { row = row; column = column }

abbrev pub is_on_board : ℕ → Square → Bool
is_on_board n s = nat_le 1 s.row && nat_le s.row n && nat_le 1 s.column && nat_le s.column n

-- the first square and the last one
abbrev pub is_left_out : ℕ → Square → Bool
is_left_out n s = (s.row == 1 && s.column == 1) || (s.row == n && s.column == n)

unfoldable pub stays : ℕ → Square → Bool
stays n s = is_on_board n s && not (is_left_out n s)

-- the squares of a row that stay, those of its first columns, and all row by row
abbrev pub front_of_row : ℕ → ℕ → ℕ → List Square
front_of_row n row columns = filter (stays n) (map (λ column. square row column) (natural columns))

abbrev pub row_squares : ℕ → ℕ → List Square
row_squares n row = front_of_row n row n

abbrev pub squares : ℕ → List Square
squares n = flat_map (row_squares n) (natural n)

-- the squares of a column that stay
abbrev pub column_squares : ℕ → ℕ → List Square
column_squares n column = filter (stays n) (map (λ row. square row column) (natural n))

-- the squares that a domino covers: `Across` a square lies on it and the one on its right, `Down` a square on it and the
-- one below
abbrev pub first_square : Domino → Square
first_square (Across s) = s
first_square (Down s) = s

abbrev pub second_square : Domino → Square
second_square (Across s) = square s.row (s.column + 1)
second_square (Down s) = square (s.row + 1) s.column

-- a domino covers two squares that stay
abbrev pub is_domino : ℕ → Domino → Bool
is_domino n d = stays n (first_square d) && stays n (second_square d)

abbrev pub dominoes_of : ℕ → List Domino → List Domino
dominoes_of n candidates = filter (is_domino n) candidates

-- All dominoes, row by row: at each square first the one to the right, then the one down. They are the variables.
abbrev pub dominoes_at : ℕ → Square → List Domino
dominoes_at n s = dominoes_of n (Across s ∷ Down s ∷ [])

abbrev pub dominoes : ℕ → List Domino
dominoes n = flat_map (dominoes_at n) (squares n)

-- a domino's number is its place in that list, from 1
abbrev pub is_same_square : Square → Square → Bool
is_same_square s t = s.row == t.row && s.column == t.column

abbrev pub is_same : Domino → Domino → Bool
is_same (Across s) (Across t) = is_same_square s t
is_same (Across s) (Down t) = false
is_same (Down s) (Across t) = false
is_same (Down s) (Down t) = is_same_square s t

unfoldable pub number : ℕ → Domino → ℕ
number n d = position_or_len (is_same d) (dominoes n) + 1

-- the dominoes that cover a square, by rising number: down from above, from the left, to the right, down
abbrev pub covering : ℕ → Square → List Domino
covering n s = dominoes_of n (Down (square (s.row - 1) s.column) ∷ Across (square s.row (s.column - 1)) ∷ Across s ∷ Down s ∷ [])

abbrev pub numbers : ℕ → Square → List ℕ
numbers n s = map (number n) (covering n s)

-- one of some variables is true; no two of them are
abbrev pub one_of : List ℕ → List ℤ
one_of variables = map pos variables

abbrev pub not_both : ℕ → ℕ → List ℤ
not_both one other = neg_ℤ (pos one) ∷ neg_ℤ (pos other) ∷ []

abbrev pub no_two_of : List ℕ → List (List ℤ)
no_two_of [] = []
no_two_of (variable ∷ variables) = map (not_both variable) variables ++ no_two_of variables

-- exactly one domino covers a square
unfoldable pub square_clauses : ℕ → Square → List (List ℤ)
square_clauses n s = one_of (numbers n s) ∷ no_two_of (numbers n s)

-- exactly one domino covers each square that stays
abbrev pub board_clauses : ℕ → List (List ℤ)
board_clauses n = flat_map (square_clauses n) (squares n)

abbrev pub board_formula : ℕ → Formula
board_formula n = record { vars = length (dominoes n); clauses = board_clauses n }

-- The order of the variables: column by column, at each square of a column first the domino down, then the one to the
-- right.
abbrev pub down_first : ℕ → Square → List Domino
down_first n s = dominoes_of n (Down s ∷ Across s ∷ [])

abbrev pub column_dominoes : ℕ → ℕ → List Domino
column_dominoes n column = flat_map (down_first n) (column_squares n column)

abbrev pub column_order : ℕ → List ℕ
column_order n = map (number n) (flat_map (column_dominoes n) (natural n))
