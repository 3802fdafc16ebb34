-- One pass over a hint's clause: which literal is forced so far.
use Rattle.std.specs.Prelude.{Bool, true, not, ◌&&◌, ◌||◌, ℤ, List, Option, None, Some}
use Rattle.std.specs.Ordering.{int_eq}
use Rattle.lrat_rules.specs.Chain.{FalseSet, literals_of}
use Rattle.lrat_rules.specs.declared.outcome.Effect.{Effect}
use Rattle.lrat_rules.specs.declared.outcome.Effect.TheVariants.{Conflict, Unit as Forced}

-- the first literal stays forced
abbrev pub forced_with : Option ℤ → ℤ → Option ℤ
forced_with None literal = Some literal
forced_with (Some first) literal = Some first

-- no other literal is forced
abbrev pub agrees : Option ℤ → ℤ → Bool
agrees None literal = true
agrees (Some first) literal = int_eq first literal

-- at the clause's end
abbrev pub effect_of_forced : Option ℤ → Effect
effect_of_forced None = Conflict
effect_of_forced (Some literal) = Forced literal

-- the false literals with those of a clause other than one
abbrev pub with_others : FalseSet → ℤ → List ℤ → FalseSet
with_others n other_than clause x = (not (int_eq x other_than) && literals_of clause x) || n x
