-- One pass over a hint's clause.
use Rattle.std.proofs.Common.{◌≡◌, ℕ, ◌+◌, ◌<◌, ◌≤◌, true, false, ℤ, List, ◌∷◌, length, get_or, drop, Option}
use Rattle.std.proofs.Common.{None, Some, if◌then◌else◌, int_eq, refl, sym, ap, ◌∙◌}
use Rattle.std.specs.List.{list_all}
use Rattle.std.proofs.lemmas.List.{drop_more, drop_all}
use Rattle.lrat_rules.specs.declared.outcome.Effect.{Effect}
use Rattle.lrat_rules.specs.declared.outcome.Effect.TheVariants.{Unit as Forced, NotUnit}
use Rattle.lrat_rules.specs.Chain.{FalseSet, outside, effect_of_outside}
use Rattle.lrat_rules.specs.Pass.{forced_with, agrees, effect_of_forced}

-- the effect of the literals that are left, behind the forced one if there is one so far
abbrev pub effect_from : Option ℤ → List ℤ → Effect
effect_from None left = effect_of_outside left
effect_from (Some literal) left = if list_all (int_eq literal) left then Forced literal else NotUnit

-- the pass over the clause's end from this place
abbrev pub effect_at : FalseSet → List ℤ → ℕ → Option ℤ → Effect
effect_at n clause place forced = effect_from forced (outside n (drop place clause))

-- each step of the pass, by what is known of the literal at this place
module _ (n : FalseSet) (clause : List ℤ) (place : ℕ) (x : ℤ) (answer : Effect) (within : place < length clause) (at : x
    ≡ get_or clause place x) where
  -- the literal at this place comes first
  opened : (forced : Option ℤ) → effect_at n clause place forced ≡ effect_from forced (outside n (x ∷ drop (place + 1) clause))
  opened forced = ap (λ left. effect_from forced (outside n left)) (drop_more clause place x within) ∙ rw (← at) refl

  -- it is false: passed over
  pub step_false : (forced : Option ℤ) → n x ≡ true → effect_at n clause place forced ≡ answer → effect_at n clause (place + 1) forced
      ≡ answer
  step_false forced e so_far = sym (opened forced ∙ rw e refl) ∙ so_far

  -- it isn't false, and no other literal is forced: forced
  pub step_forced : (forced next : Option ℤ) → next ≡ forced_with forced x → agrees forced x ≡ true → n x ≡ false
      → effect_at n clause place forced ≡ answer
      → effect_at n clause (place + 1) next ≡ answer
  step_forced None next becomes alone e so_far = ap (effect_at n clause (place + 1)) becomes ∙ sym (opened None ∙ rw e refl) ∙ so_far
  step_forced (Some k) next becomes alone e so_far = ap (effect_at n clause (place + 1)) becomes
      ∙ sym (opened (Some k) ∙ rw (e, alone) refl) ∙ so_far

  -- it isn't false, and another one is forced: the hint isn't unit
  pub step_other : (forced : Option ℤ) → agrees forced x ≡ false → n x ≡ false → effect_at n clause place forced ≡ answer → NotUnit ≡ answer
  step_other None alone e so_far = absurd (cc)
  step_other (Some k) alone e so_far = sym (opened (Some k) ∙ rw (e, alone) refl) ∙ so_far

-- at the clause's end
pub pass_end : (n : FalseSet) (clause : List ℤ) (place : ℕ) (forced : Option ℤ) → length clause ≤ place → effect_at n clause place forced
    ≡ effect_of_forced forced
pass_end n clause place None past = ap (λ left. effect_from None (outside n left)) (drop_all place clause past)
pass_end n clause place (Some k) past = ap (λ left. effect_from (Some k) (outside n left)) (drop_all place clause past)
