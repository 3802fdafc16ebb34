-- The parts of a line on standard error.
use Rattle.std.specs.Prelude.{ℕ, List, Option, None, Some, ◌++◌, decimal}

-- what stands before a number, and where there is one, this number and what stands behind it
abbrev pub line_text : List ℕ → Option ℕ → List ℕ → List ℕ
line_text head None kind = head
line_text head (Some number) kind = head ++ (decimal number ++ kind)
