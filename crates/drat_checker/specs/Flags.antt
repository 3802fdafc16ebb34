-- A flag for each literal.
use Rattle.std.specs.Prelude.{Bool, false, ℤ, is_some}
use Rattle.std.specs.Option.{unwrap_or}
use Rattle.drat_checker.specs.declared.flags.Flags.{Flags}
use Rattle.lrat_rules.specs.ByLiteral.{entry}

-- the flag of this literal, where it has one
unfoldable pub is_set : Flags → ℤ → Bool
is_set flags literal = unwrap_or (entry flags.0 literal) false

-- the literal has a flag
unfoldable pub has_flag : Flags → ℤ → Bool
has_flag flags literal = is_some (entry flags.0 literal)
