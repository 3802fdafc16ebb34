-- A trail: false literals in the order in which they became false, each once.
use Rattle.std.specs.Prelude.{◌∷◌, [], ◌++◌, ℤ, List, if◌then◌else◌}
use Rattle.lrat_rules.specs.Chain.{literals_of}

-- a literal at the end, unless it stands there already
abbrev pub with_last : ℤ → List ℤ → List ℤ
with_last literal literals = if literals_of literals literal then literals else literals ++ literal ∷ []
