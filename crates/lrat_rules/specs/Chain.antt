-- Hints: each names a live clause, which under the literals that are false so far is a conflict, forces a literal,
-- or is a bad hint: reverse unit propagation with hints. (Cruz-Filipe, Heule, Hunt, Kaufmann, Schneider-Kamp:
-- Efficient Certified RAT Verification, CADE 2017.)
use Rattle.std.specs.Prelude.{◌≡◌, ℕ, Bool, true, false, not, ◌||◌, ℤ, neg_ℤ, List, [], ◌∷◌, Option, None, Some, if◌then◌else◌}
use Rattle.std.specs.List.{filter, list_any, list_all}
use Rattle.std.specs.Ordering.{int_eq}
use Rattle.lrat_rules.specs.declared.outcome.Effect.{Effect}
use Rattle.lrat_rules.specs.declared.outcome.Effect.TheVariants.{Conflict, Unit as Forced, NotUnit}
use Rattle.lrat_rules.specs.declared.outcome.Reason.{Reason}
use Rattle.lrat_rules.specs.declared.outcome.Reason.TheVariants.{HintNotLive, HintNotUnit}
use Rattle.lrat_rules.specs.State.{Live, clause_at}

-- which literals are false
abbrev pub FalseSet : Type 0
FalseSet = ℤ → Bool

-- the literals of a clause
abbrev pub literals_of : List ℤ → FalseSet
literals_of clause x = list_any (int_eq x) clause

-- one literal more
abbrev pub with_literal : ℤ → FalseSet → FalseSet
with_literal literal n x = int_eq x literal || n x

-- the literals of a clause that aren't false
abbrev pub outside : FalseSet → List ℤ → List ℤ
outside n clause = filter (λ x. not (n x)) clause

-- none: a conflict; one, however often: it is forced
abbrev pub effect_of_outside : List ℤ → Effect
effect_of_outside [] = Conflict
effect_of_outside (x ∷ xs) = if list_all (int_eq x) xs then Forced x else NotUnit

abbrev pub effect : FalseSet → List ℤ → Effect
effect n clause = effect_of_outside (outside n clause)

-- a literal is forced
abbrev pub is_unit : Effect → Bool
is_unit Conflict = false
is_unit (Forced literal) = true
is_unit NotUnit = false

-- where hints lead: to a set of false literals without a conflict, to a conflict, or to a bad hint
pub data Outcome : Type 0 where
  Open : FalseSet → Outcome
  Closed : Outcome
  Bad : Reason → Outcome

-- after an effect: the forced literal's negation is false too
abbrev pub after_effect : FalseSet → (FalseSet → Outcome) → Effect → Outcome
after_effect n more Conflict = Closed
after_effect n more (Forced literal) = more (with_literal (neg_ℤ literal) n)
after_effect n more NotUnit = Bad HintNotUnit

abbrev pub after_hint : FalseSet → (FalseSet → Outcome) → Option (List ℤ) → Outcome
after_hint n more None = Bad HintNotLive
after_hint n more (Some clause) = after_effect n more (effect n clause)

-- the hints in turn, up to the first conflict or bad hint
abbrev pub chain : Live → FalseSet → List ℕ → Outcome
chain live n [] = Open n
chain live n (hint ∷ hints) = after_hint n (λ n'. chain live n' hints) (clause_at live hint)

-- the hints reach a conflict
pub record Closes (live : Live) (n : FalseSet) (hints : List ℕ) : Type 0 where
  pub closed : chain live n hints ≡ Closed
