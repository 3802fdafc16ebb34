-- Quantified variables, each with the term that it was quantified from, or that of the set with which it was quantified at once. A
-- set's variables stand one behind another, the last in the order first; `later` says how many of them stand before.
use Rattle.std.specs.Prelude.{◌≡◌, ◌+◌, ℕ, List, [], ◌∷◌, length, map, reverse, take}
use Rattle.node_table.specs.declared.node.Node.{Node}
use Rattle.reconstruction.specs.declared.entries.Entry.{Entry}
use Rattle.reconstruction.specs.declared.entries.Kept.{Kept}

-- the variables of its set that come behind it in the order, the first of them first, where these entries stand before, the last first
abbrev pub later_kept : List Kept → Kept → List ℕ
later_kept older kept = take kept.later (map (λ other. other.variable) older)

abbrev pub later_stored : List Entry → Entry → List ℕ
later_stored older entry = take entry.later (map (λ other. other.variable) older)

abbrev pub no_entry : Entry
no_entry = record { variable = 0; later = 0; key = 0 }

-- the variables of entries, the last one first
abbrev pub variables_of : List Entry → List ℕ
variables_of entries = map (λ entry. entry.variable) (reverse entries)

-- stored entries, the last one first, are those of one set with a term of this key
abbrev pub IsSet : ℕ → List Entry → Type 0
IsSet key [] = Unit {0}
IsSet key (entry ∷ older) = (entry.key ≡ key) × (entry.later ≡ length older) × IsSet key older

-- the entries of a set, the last in the order first, behind so many others of it
abbrev pub kept_set : ℕ → List ℕ → Node → List Kept
kept_set later [] node = []
kept_set later (x ∷ xs) node = record { variable = x; later = later; node = node } ∷ kept_set (later + 1) xs node
