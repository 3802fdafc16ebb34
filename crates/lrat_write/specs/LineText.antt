-- The text of a line by its parts.
use Rattle.std.specs.Prelude.{ℕ, ℤ, Bool, if◌then◌else◌, List, [], ◌∷◌, ◌++◌, map, decimal, nat_lt}
use Rattle.std.specs.Fmt.{signed_decimal}
use Rattle.std.specs.List.{flat_map}
use Rattle.cnf_base.specs.declared.list.Group.{Group}

-- what is before a number behind the clause: a space, and a minus sign where it is negative
abbrev pub lead : Bool → List ℕ
lead minus = if minus then 32 ∷ 45 ∷ [] else 32 ∷ []

abbrev pub led_number : Bool → ℕ → List ℕ
led_number minus number = lead minus ++ decimal number

-- literals, each behind a space
abbrev pub spaced_literal : ℤ → List ℕ
spaced_literal literal = 32 ∷ signed_decimal literal

abbrev pub literals_text : List ℤ → List ℕ
literals_text literals = flat_map spaced_literal literals

-- clause numbers, each behind the same lead
abbrev pub led_id : List ℕ → ℕ → List ℕ
led_id lead id = lead ++ decimal id

abbrev pub ids_text : List ℕ → List ℕ → List ℕ
ids_text lead ids = flat_map (led_id lead) ids

-- the parts of a line: its number, its clause, a zero, its hints or candidates, a zero and the line end
abbrev pub line_text : ℕ → List ℤ → List ℕ → List ℕ → List ℕ
line_text id clause lead ids = decimal id ++ literals_text clause ++ 32 ∷ 48 ∷ [] ++ ids_text lead ids ++ 32 ∷ 48 ∷ 10 ∷ []

-- the parts of the line of a deletion: its number, the word `d`, the numbers, a zero and the line end
abbrev pub deletion_text : ℕ → List ℕ → List ℕ
deletion_text id ids = decimal id ++ 32 ∷ 100 ∷ [] ++ ids_text (32 ∷ []) ids ++ 32 ∷ 48 ∷ 10 ∷ []

-- the groups of candidates that want no hints
abbrev pub bare_groups : List ℕ → List Group
bare_groups candidates = map (λ candidate. record { id = candidate; hints = [] }) candidates

-- a group: the number of its candidate behind a minus sign, and its hints. (0, which names no clause, has no sign.)
abbrev pub group_text : Group → List ℕ
group_text group = led_number (nat_lt 0 group.id) group.id ++ ids_text (32 ∷ []) group.hints

-- positive hints, and groups behind them
abbrev pub hints_text : List ℕ → List Group → List ℕ
hints_text hints groups = ids_text (32 ∷ []) hints ++ flat_map group_text groups

-- the parts of the line of an addition with hints and groups
abbrev pub addition_text : ℕ → List ℤ → List ℕ → List Group → List ℕ
addition_text id clause hints groups =
    decimal id ++ literals_text clause ++ 32 ∷ 48 ∷ [] ++ hints_text hints groups ++ 32 ∷ 48 ∷ 10 ∷ []
