-- The limits of this profile: what is beyond them is refused by name, so that every count of the program stays far below
-- the ranges of its machine numbers. (The limits are this project's own.)
use Rattle.std.specs.Prelude.{ℕ}

-- the greatest variable of a formula
abbrev pub max_vars : ℕ
max_vars = 1000000

-- the most clauses of a formula
abbrev pub max_clauses : ℕ
max_clauses = 10000000

-- how many bytes of a text are looked at
abbrev pub max_bytes : ℕ
max_bytes = 4000000000

-- the most nodes that may be allowed at once
abbrev pub most_nodes_allowed : ℕ
most_nodes_allowed = 100000000

-- the most entries that a cache may be allowed
abbrev pub most_entries_allowed : ℕ
most_entries_allowed = 100000000
