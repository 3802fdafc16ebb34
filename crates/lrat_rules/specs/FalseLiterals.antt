-- The false literals of one addition as its chain keeps them: those that have the addition's own stamp, and those that have the open
-- group's. Clauses read them only by `set_of` and `before_of`, so that another way to keep them meets the same clauses.
use Rattle.std.specs.Prelude.{◌≡◌, Bool, ◌||◌, ◌==◌, Option, None, Some, is_some, if◌then◌else◌, neg_ℤ}
use Rattle.lrat_rules.specs.declared.chain.Chain.{Chain}
use Rattle.lrat_rules.specs.declared.outcome.Effect.{Effect}
use Rattle.lrat_rules.specs.declared.outcome.Effect.TheVariants.{Conflict, Unit as Forced, NotUnit}
use Rattle.lrat_rules.specs.Chain.{FalseSet, with_literal}
use Rattle.lrat_rules.specs.Stamps.{stamp_of}

-- which literals are false
unfoldable pub set_of : Chain → FalseSet
set_of chain literal = stamp_of chain.stamps literal == chain.own || stamp_of chain.stamps literal == chain.group

-- which ones were before the open group; nothing where no group is open
unfoldable pub before_of : Chain → Option FalseSet
before_of chain = if chain.own == chain.group then None else Some (λ literal. stamp_of chain.stamps literal == chain.own)

-- a group is open
abbrev pub is_open : Chain → Bool
is_open chain = is_some (before_of chain)

-- the set after a hint of this effect
abbrev pub set_after : FalseSet → Effect → FalseSet
set_after n Conflict = n
set_after n (Forced literal) = with_literal (neg_ℤ literal) n
set_after n NotUnit = n

-- the same sets, and the same group is open
pub record SameSets (old new : Chain) : Type 0 where
  pub set : set_of new ≡ set_of old
  pub before : before_of new ≡ before_of old
