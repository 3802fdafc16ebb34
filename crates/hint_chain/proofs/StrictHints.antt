-- Strict refutations, a hint at a time.
use Rattle.std.proofs.Common.{◌≡◌, ℕ, true, false, ℤ, neg_ℤ, List, [], ◌∷◌, Option, None, Some, if◌then◌else◌, refl, subst}
use Rattle.std.specs.Option.{option_map}
use Rattle.lrat_rules.specs.declared.outcome.Effect.TheVariants.{Conflict, Unit as Forced, NotUnit}
use Rattle.lrat_rules.specs.State.{Live, clause_at}
use Rattle.lrat_rules.specs.Chain.{FalseSet, with_literal, effect}
use Rattle.lrat_rules.specs.Strict.{is_strict}
use Rattle.hint_chain.specs.declared.part.Part.{Part}
use Rattle.hint_chain.specs.Greedy.{after_part, greedy, AreLiveParts}

-- the last hint is a conflict
pub conflict_hint : (live : Live) (n : FalseSet) (id : ℕ) (clause : List ℤ) → clause_at live id ≡ Some clause → effect n clause ≡ Conflict
    → is_strict live n (id ∷ []) ≡ true
conflict_hint live n id clause at effects = rw (at, effects) refl

-- a hint forces a literal whose negation isn't false yet
pub forced_hint : (live : Live) (n : FalseSet) (id : ℕ) (clause : List ℤ) (literal : ℤ) (hints : List ℕ) → clause_at live id ≡ Some clause
    → effect n clause ≡ Forced literal
    → n (neg_ℤ literal) ≡ false → is_strict live (with_literal (neg_ℤ literal) n) hints ≡ true → is_strict live n (id ∷ hints) ≡ true
forced_hint live n id clause literal hints at effects new rest = rw (at, effects, new) rest

-- the tail of a list that was put together
record HasTail (id : ℕ) (o : Option (List ℕ)) (hints : List ℕ) : Type 0 where
  tail : List ℕ
  found : o ≡ Some tail
  whole : id ∷ tail ≡ hints

HasTail-from : (id : ℕ) (o : Option (List ℕ)) (hints : List ℕ) → option_map (λ ids. id ∷ ids) o ≡ Some hints → HasTail id o hints
HasTail-from id None hints e = cc
HasTail-from id (Some tail) hints e = let whole : id ∷ tail ≡ hints = cc in record { tail = tail; found = refl; whole = whole }

pub greedy-strict : (live : Live) (n : FalseSet) (parts : List (Option Part)) (hints : List ℕ) → greedy n parts ≡ Some hints
    → AreLiveParts live parts → is_strict live n hints ≡ true
greedy-strict live n [] hints found are = cc
greedy-strict live n (None ∷ parts) hints found are = greedy-strict live n parts hints found are.1
greedy-strict live n (Some part ∷ parts) hints found are =
    elim (effect n part.clause) as (λ e. effect n part.clause ≡ e → after_part n part.id (λ m. greedy m parts) e ≡ Some hints
    → is_strict live n hints ≡ true) [
      | Conflict ↦ λ effects ends.
          let same : part.id ∷ [] ≡ hints = cc in
          subst (λ hs. is_strict live n hs ≡ true) same (conflict_hint live n part.id part.clause are.0 effects)
      | Forced literal ↦ λ effects goes.
          elim (n (neg_ℤ literal)) as (λ b. n (neg_ℤ literal) ≡ b
          → (if b then greedy n parts else option_map (λ ids. part.id ∷ ids) (greedy (with_literal (neg_ℤ literal) n) parts)) ≡ Some hints
          → is_strict live n hints ≡ true) [
            | true ↦ λ known later. greedy-strict live n parts hints later are.1
            | false ↦ λ new later.
                let split : HasTail part.id (greedy (with_literal (neg_ℤ literal) n) parts) hints = HasTail-from part.id
                (greedy (with_literal (neg_ℤ literal) n) parts) hints later in
                subst (λ hs. is_strict live n hs ≡ true) split.whole
                (forced_hint live n part.id part.clause literal split.tail are.0 effects new
                (greedy-strict live (with_literal (neg_ℤ literal) n) parts split.tail split.found are.1))
          ] refl goes
      | NotUnit ↦ λ effects none. cc
    ] refl found
