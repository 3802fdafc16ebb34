-- The text of a line by its parts: the word of a deletion, each literal with a space behind it, a zero and the line end.
use Rattle.std.specs.Prelude.{ℕ, ℤ, Bool, if◌then◌else◌, List, [], ◌++◌, codes}
use Rattle.std.specs.Fmt.{signed_decimal}
use Rattle.std.specs.List.{flat_map}

abbrev pub word_of : Bool → List ℕ
word_of deleted = if deleted then codes "d " else []

abbrev pub literal_text : ℤ → List ℕ
literal_text literal = signed_decimal literal ++ codes " "

abbrev pub clause_text : List ℤ → List ℕ
clause_text clause = flat_map literal_text clause ++ codes "0\n"

abbrev pub step_text : Bool → List ℤ → List ℕ
step_text deleted clause = word_of deleted ++ clause_text clause
