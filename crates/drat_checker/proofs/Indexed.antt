-- The lists of numbers stay complete through each change of the clauses.
use Rattle.std.proofs.Common.{◌≡◌, ℕ, true, ℤ, List, [], ◌∷◌, ◌++◌, length, set, length-append, length-set, ◌≤◌, None, Some, is_some, inl, inr, sym, ap, ◌∙◌}
use Rattle.std.proofs.Common.{subst, arith}
use Rattle.lrat_rules.specs.ByLiteral.{place_of}
use Rattle.drat_checker.specs.declared.number_lists.NumberLists.{NumberLists}
use Rattle.drat_checker.specs.Places.{Places, place_at}
use Rattle.drat_checker.specs.Numbers.{AreRising, KeepsLists, KeepsNumbers, KeepsRising, KeepsStanding, KeepsStandingLists, has_number, numbers_of}
use Rattle.drat_checker.specs.Database.{IsHeld, IsIndexed, hash_of, is_short}
use Rattle.drat_checker.proofs.Rising.{are-more}
use Rattle.drat_checker.proofs.Standing.{place-push, place-set}

pub held-kept : {old new : NumberLists} → KeepsLists old new → (number : ℕ) (clause : List ℤ) → IsHeld old number clause
    → IsHeld new number clause
held-kept kept number clause held = record { held = λ x at. (kept.kept (place_of x)).kept number (held.held x at) }

module _ {by_literal by_hash : NumberLists} {shorts : List ℕ} {by_literal' by_hash' : NumberLists} {shorts' : List ℕ} {places : Places}
    (index : IsIndexed by_literal by_hash shorts places) where
  -- more numbers for the same clauses
  pub indexed-more : KeepsLists by_literal by_literal' → KeepsRising (length places) by_literal by_literal' → KeepsLists by_hash by_hash'
      → KeepsNumbers shorts shorts' → IsIndexed by_literal' by_hash' shorts' places
  indexed-more literals rises hashes short = record {
    rising = λ key. rises.kept key (index.rising key);
    held = λ number clause at. held-kept literals number clause (index.held number clause at);
    hashed = λ number clause at. (hashes.kept (hash_of clause)).kept number (index.hashed number clause at);
    short = λ number clause at is. short.kept number (index.short number clause at is);
  }

  -- a clause behind the others
  pub indexed-push : (clause : List ℤ) → KeepsLists by_literal by_literal' → KeepsRising (length places) by_literal by_literal'
      → KeepsLists by_hash by_hash' → KeepsNumbers shorts shorts'
      → IsHeld by_literal' (length places) clause → has_number (length places) (numbers_of by_hash' (hash_of clause)) ≡ true
      → (is_short clause ≡ true → has_number (length places) shorts' ≡ true)
      → IsIndexed by_literal' by_hash' shorts' (places ++ Some clause ∷ [])
  indexed-push clause literals rises hashes short held hashed is_in = record {
    rising = λ key.
        let more : length places ≤ length (places ++ Some clause ∷ []) = omega (arith, length-append places (Some clause ∷ [])) in
        are-more (length places) (length (places ++ Some clause ∷ [])) (numbers_of by_literal' key) more
        (rises.kept key (index.rising key));
    held = λ number other at. elim (place-push places clause number other at) [
      | inl old ↦ held-kept literals number other (index.held number other old)
      | inr new ↦ subst (λ (n : ℕ). IsHeld by_literal' n other) (sym new.0) (subst (λ (c : List ℤ). IsHeld by_literal' (length places) c)
          new.1 held)
    ];
    hashed = λ number other at. elim (place-push places clause number other at) [
      | inl old ↦ (hashes.kept (hash_of other)).kept number (index.hashed number other old)
      | inr new ↦ subst (λ (n : ℕ). has_number n (numbers_of by_hash' (hash_of other)) ≡ true) (sym new.0)
          (subst (λ (c : List ℤ). has_number (length places) (numbers_of by_hash' (hash_of c)) ≡ true) new.1 hashed)
    ];
    short = λ number other at is. elim (place-push places clause number other at) [
      | inl old ↦ short.kept number (index.short number other old is)
      | inr new ↦ subst (λ (n : ℕ). has_number n shorts' ≡ true) (sym new.0)
          (is_in (ap is_short new.1 ∙ is))
    ];
  }

  -- the lists without numbers of clauses that are gone
  pub indexed-left : KeepsStandingLists places by_literal by_literal' → KeepsRising (length places) by_literal by_literal'
      → KeepsStandingLists places by_hash by_hash' → KeepsStanding places shorts shorts' → IsIndexed by_literal' by_hash' shorts' places
  indexed-left literals rises hashes short = record {
    rising = λ key. rises.kept key (index.rising key);
    held = λ number clause at. record {
      held = λ x m. (literals.kept (place_of x)).kept number (ap is_some at) ((index.held number clause at).held x m);
    };
    hashed = λ number clause at. (hashes.kept (hash_of clause)).kept number (ap is_some at) (index.hashed number clause at);
    short = λ number clause at few. short.kept number (ap is_some at) (index.short number clause at few);
  }

-- a clause that goes: the lists are complete still
module _ {by_literal by_hash : NumberLists} {shorts : List ℕ} {places : Places} (index : IsIndexed by_literal by_hash shorts places) where
  pub indexed-clear : (gone : ℕ) (after : Places) → after ≡ set places gone None → IsIndexed by_literal by_hash shorts after
  indexed-clear gone after is =
      let before : (number : ℕ) (clause : List ℤ) → place_at after number ≡ Some clause → place_at places number ≡ Some clause =
      λ number clause at. place-set places gone number clause (ap (λ (ps : Places). place_at ps number) (sym is) ∙ at) in
      record {
        held = λ number clause at. index.held number clause (before number clause at);
        hashed = λ number clause at. index.hashed number clause (before number clause at);
        short = λ number clause at few. index.short number clause (before number clause at) few;
        rising = λ key. subst (λ (n : ℕ). AreRising n (numbers_of by_literal key)) (sym (ap length is ∙ length-set places gone None))
            (index.rising key);
      }
