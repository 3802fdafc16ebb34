-- A strict refutation closes, so that its addition is good.
use Rattle.std.proofs.Common.{◌≡◌, ℕ, ◌<◌, Bool, true, not, ℤ, neg_ℤ, List, [], ◌∷◌, Option, None, Some, refl}
use Rattle.std.specs.Prelude.{is_some, ◌&&◌}
use Rattle.std.specs.List.{list_all}
use Rattle.std.proofs.lemmas.Bool.{lt-leb, and_parts}
use Rattle.cnf_base.specs.ProofText.{is_empty}
use Rattle.lrat_rules.specs.declared.outcome.Effect.{Effect}
use Rattle.lrat_rules.specs.declared.outcome.Effect.TheVariants.{Conflict, Unit as Forced, NotUnit}
use Rattle.lrat_rules.specs.State.{State, Live, clause_at}
use Rattle.lrat_rules.specs.Chain.{FalseSet, Outcome, Closed, Closes, literals_of, with_literal, effect, chain, after_effect, after_hint}
use Rattle.lrat_rules.specs.Addition.{fault}
use Rattle.lrat_rules.specs.Strict.{is_strict, is_strict_effect, is_strict_hint, RefutesStrictly}

after_strict_effect : (n : FalseSet) (last : Bool) (strict : FalseSet → Bool) (more : FalseSet → Outcome)
    → ((m : FalseSet) → strict m ≡ true → more m ≡ Closed)
    → (e : Effect) → is_strict_effect n last strict e ≡ true → after_effect n more e ≡ Closed
after_strict_effect n last strict more closes Conflict h = refl
after_strict_effect n last strict more closes (Forced literal) h = closes (with_literal (neg_ℤ literal) n)
    (and_parts (not (n (neg_ℤ literal))) _ h).1
after_strict_effect n last strict more closes NotUnit h = cc

after_strict_hint : (n : FalseSet) (last : Bool) (strict : FalseSet → Bool) (more : FalseSet → Outcome)
    → ((m : FalseSet) → strict m ≡ true → more m ≡ Closed)
    → (o : Option (List ℤ)) → is_strict_hint n last strict o ≡ true → after_hint n more o ≡ Closed
after_strict_hint n last strict more closes None h = cc
after_strict_hint n last strict more closes (Some clause) h = after_strict_effect n last strict more closes (effect n clause) h

pub chain-strict : (live : Live) (n : FalseSet) (hints : List ℕ) → is_strict live n hints ≡ true → chain live n hints ≡ Closed
chain-strict live n [] h = cc
chain-strict live n (hint ∷ hints) h =
    after_strict_hint n (is_empty hints) (λ m. is_strict live m hints) (λ m. chain live m hints) (λ m s. chain-strict live m hints s)
    (clause_at live hint) h

pub Closes-strict : {live : Live} {clause : List ℤ} {hints : List ℕ} → RefutesStrictly live clause hints
    → Closes live (literals_of clause) hints
Closes-strict {live = live} {clause = clause} {hints = hints} r = record { closed = chain-strict live (literals_of clause) hints r.strict }

-- an addition whose hints close is good
pub fault-closes : (state : State) (id : ℕ) (clause : List ℤ) (hints : List ℕ) → state.top < id
    → Closes state.live (literals_of clause) hints → fault state id clause hints [] ≡ None
fault-closes state id clause hints above c =
    rw (lt-leb id state.top above, c.closed)

pub conflict_refutes : (live : Live) (clause : List ℤ) (hint : ℕ) → clause_at live hint ≡ Some [] → RefutesStrictly live clause (hint ∷ [])
conflict_refutes live clause hint at = record { strict = rw at }

-- each hint of a strict refutation is live
live_strict_effect : (n : FalseSet) (rest : List ℕ) (strict : FalseSet → Bool) (live : Bool)
    → ((m : FalseSet) → strict m ≡ true → live ≡ true) → (is_empty rest ≡ true → live ≡ true)
    → (e : Effect) → is_strict_effect n (is_empty rest) strict e ≡ true → live ≡ true
live_strict_effect n rest strict live more none Conflict h = none h
live_strict_effect n rest strict live more none (Forced literal) h = more (with_literal (neg_ℤ literal) n)
    (and_parts (not (n (neg_ℤ literal))) _ h).1
live_strict_effect n rest strict live more none NotUnit h = cc

all_of_none : (live : Live) (hints : List ℕ) → is_empty hints ≡ true → list_all (λ hint. is_some (clause_at live hint)) hints ≡ true
all_of_none live [] h = refl
all_of_none live (hint ∷ hints) h = cc

pub live-strict : (live : Live) (n : FalseSet) (hints : List ℕ) → is_strict live n hints ≡ true
    → list_all (λ hint. is_some (clause_at live hint)) hints ≡ true
live-strict live n [] h = refl
live-strict live n (hint ∷ hints) h =
    elim (clause_at live hint) as (λ o. is_strict_hint n (is_empty hints) (λ m. is_strict live m hints) o ≡ true
    → (is_some o && list_all (λ x. is_some (clause_at live x)) hints) ≡ true) [
      | None ↦ λ none. cc
      | Some clause ↦ λ s. live_strict_effect n hints (λ m. is_strict live m hints) (list_all (λ x. is_some (clause_at live x)) hints)
          (λ m is. live-strict live m hints is) (all_of_none live hints) (effect n clause) s
    ] h
