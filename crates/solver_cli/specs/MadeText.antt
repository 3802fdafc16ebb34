-- The texts that `make` and `order` write.
use Rattle.std.specs.Prelude.{ℕ, List}
use Rattle.command_line.specs.declared.part.BoardText.{BoardText}
use Rattle.command_line.specs.declared.part.BoardText.TheVariants.{Cnf, Order, Schedule, Sets}
use Rattle.workload.specs.Board.{board_formula, column_order}
use Rattle.workload.specs.Texts.{cnf_text, order_text, schedule_text, sets_text}

-- the formula of the board of so many squares a side, its column order, or its column schedule, by variables or by sets of them
abbrev pub made_text : BoardText → ℕ → List ℕ
made_text Cnf size = cnf_text (board_formula size)
made_text Order size = order_text (column_order size)
made_text Schedule size = schedule_text size
made_text Sets size = sets_text size

-- an order: its variables on one line, the top one first
abbrev pub order_line : List ℕ → List ℕ
order_line order = order_text order
