-- The greedy choice of hints: the parts are taken in turn, one that adds nothing is left out, and the first conflict
-- ends the list. So each hint but the last forces a literal that wasn't forced before.
use Rattle.std.specs.Prelude.{◌≡◌, ℕ, neg_ℤ, List, [], ◌∷◌, Option, None, Some, if◌then◌else◌}
use Rattle.std.specs.Option.{option_map}
use Rattle.lrat_rules.specs.declared.outcome.Effect.{Effect}
use Rattle.lrat_rules.specs.declared.outcome.Effect.TheVariants.{Conflict, Unit as Forced, NotUnit}
use Rattle.lrat_rules.specs.State.{Live, clause_at}
use Rattle.lrat_rules.specs.Chain.{FalseSet, with_literal, effect}
use Rattle.hint_chain.specs.declared.part.Part.{Part}

-- A part of this number and effect, and what follows it: a conflict is the last hint; a literal that is forced and
-- isn't yet joins; a part that forces nothing new is left out; one with two open literals spoils the list.
abbrev pub after_part : FalseSet → ℕ → (FalseSet → Option (List ℕ)) → Effect → Option (List ℕ)
after_part n id more Conflict = Some (id ∷ [])
after_part n id more (Forced literal) =
    if n (neg_ℤ literal) then more n else option_map (λ ids. id ∷ ids) (more (with_literal (neg_ℤ literal) n))
after_part n id more NotUnit = None

-- the hints among these parts, where these literals are false; nothing where no part is a conflict
abbrev pub greedy : FalseSet → List (Option Part) → Option (List ℕ)
greedy n [] = None
greedy n (None ∷ parts) = greedy n parts
greedy n (Some part ∷ parts) = after_part n part.id (λ m. greedy m parts) (effect n part.clause)

-- some part is a conflict: the greedy choice answers
pub record PartsClose (n : FalseSet) (parts : List (Option Part)) : Type 0 where
  pub hints : List ℕ
  pub found : greedy n parts ≡ Some hints

-- the part, if it is there, is the live clause of its number
abbrev pub IsLivePart : Live → Option Part → Type 0
IsLivePart live None = Unit {0}
IsLivePart live (Some part) = clause_at live part.id ≡ Some part.clause

abbrev pub AreLiveParts : Live → List (Option Part) → Type 0
AreLiveParts live [] = Unit {0}
AreLiveParts live (part ∷ parts) = IsLivePart live part × AreLiveParts live parts
