-- A stamp for each literal.
use Rattle.std.specs.Prelude.{ℕ, Bool, ℤ, ◌==◌, if◌then◌else◌, is_some}
use Rattle.std.specs.Option.{unwrap_or}
use Rattle.lrat_rules.specs.ByLiteral.{entry}
use Rattle.lrat_rules.specs.declared.stamps.Stamps.{Stamps}

-- the stamp of this literal, 0 where it has none
unfoldable pub stamp_of : Stamps → ℤ → ℕ
stamp_of stamps literal = unwrap_or (entry stamps.0 literal) 0

-- the literal's stamp has a place
unfoldable pub has_place : Stamps → ℤ → Bool
has_place stamps literal = is_some (entry stamps.0 literal)

-- what becomes of a stamp where a literal is stamped, unless it has the one that is kept
abbrev pub stamp_with : ℕ → ℕ → ℕ → ℕ
stamp_with kept stamp own = if own == kept then own else stamp
