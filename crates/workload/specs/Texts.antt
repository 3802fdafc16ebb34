-- The texts of a formula, an order and the column schedule. (DIMACS, 'Satisfiability: Suggested Format', 1993. The texts
-- of orders and schedules are this project's own.)
use Rattle.std.specs.Prelude.{ℕ, ℤ, List, ◌∷◌, ◌++◌, length, map, decimal, codes}
use Rattle.std.specs.Fmt.{signed_decimal}
use Rattle.std.specs.List.{flat_map, join_with_byte}
use Rattle.cnf_base.specs.Formula.{Formula}
use Rattle.workload.specs.declared.schedule.Way.{Way}
use Rattle.workload.specs.declared.schedule.Way.TheVariants.{InTurn, AtOnce}
use Rattle.workload.specs.Schedule.{Command, Clauses, Conjoin, Quantify, column_schedule}

-- a clause: its literals, each with a space behind it, and a zero
abbrev pub literal_text : ℤ → List ℕ
literal_text literal = signed_decimal literal ++ codes " "

abbrev pub clause_line : List ℤ → List ℕ
clause_line clause = flat_map literal_text clause ++ codes "0\n"

abbrev pub cnf_text : Formula → List ℕ
cnf_text formula =
    codes "p cnf " ++ decimal formula.vars ++ codes " " ++ decimal (length formula.clauses) ++ codes "\n"
    ++ flat_map clause_line formula.clauses

-- the variables on one line, a space between two
abbrev pub order_text : List ℕ → List ℕ
order_text order = join_with_byte 32 (map decimal order) ++ codes "\n"

-- variables are quantified in turn by the one command, and as a set at once by the other
abbrev pub letter_of : Way → List ℕ
letter_of InTurn = codes "q"
letter_of AtOnce = codes "e"

-- a command: its letter, and each number behind a space
abbrev pub spaced : ℕ → List ℕ
spaced number = 32 ∷ decimal number

abbrev pub command_line : Way → Command → List ℕ
command_line way (Clauses clauses) = codes "c" ++ flat_map spaced clauses ++ codes "\n"
command_line way (Conjoin terms) = codes "a " ++ decimal terms ++ codes "\n"
command_line way (Quantify variables) = (letter_of way ++ flat_map spaced variables) ++ codes "\n"

abbrev pub text_by : Way → ℕ → List ℕ
text_by way n = flat_map (command_line way) (column_schedule n)

abbrev pub schedule_text : ℕ → List ℕ
schedule_text n = text_by InTurn n

-- the schedule that quantifies the variables of a column as one set
abbrev pub sets_text : ℕ → List ℕ
sets_text n = text_by AtOnce n
