-- What the lists of holders keep.
use Rattle.std.proofs.Common.{◌≡◌, ℕ, ◌+◌, ◌<◌, Bool, true, false, ◌&&◌, ℤ, List, [], ◌∷◌, None, Some, length, get_or, take, filter, nat_eq}
use Rattle.std.proofs.Common.{◌≢◌, is_some, refl, ◌∙◌, ap, subst, eq-eqb, ne_eqb}
use Rattle.std.specs.Prelude.{if◌then◌else◌}
use Rattle.std.specs.FinMap as finmap
use Rattle.std.specs.List.{list_all}
use Rattle.std.proofs.lemmas.Bool.{and_parts, and_from}
use Rattle.std.proofs.lemmas.List.{take_more}
use Rattle.std.proofs.lemmas.List.Folds.{list_all-append}
use Rattle.std.proofs.lemmas.Map.Views.{any-filter_same, exact_unsigned_eq}
use Rattle.lrat_rules.specs.State.{Live, clause_at}
use Rattle.lrat_checker.specs.declared.holders.Holders.{Holders}
use Rattle.lrat_checker.specs.Clauses.{Place}
use Rattle.lrat_checker.specs.Holders.{KeepsLive, KeepsAll, is_live, holds, is_entered}
use Rattle.lrat_checker.specs.Walk.{passes_at}
use Rattle.lrat_checker.proofs.Stored.{without_at}

-- a filter keeps the numbers that pass it
pub live_filter : (live : Live) (numbers : List ℕ) → KeepsLive live numbers (filter (is_live live) numbers)
live_filter live numbers = record {
  kept = λ number alive h.
      any-filter_same (nat_eq number) (is_live live) true (λ other e. subst (λ n. is_live live n
      ≡ true) (exact_unsigned_eq number other e) alive) numbers ∙ h;
}

pub along : {a b c : Holders} → KeepsAll a b → KeepsAll b c → KeepsAll a c
along k l = record { kept = λ literal. record { kept = λ number h. (l.kept literal).kept number ((k.kept literal).kept number h) } }

-- what all pass by one test, they pass by a weaker one
pub all_weaker : {X : Type 0} (p q : X → Bool) → ((x : X) → p x ≡ true → q x ≡ true) → (xs : List X) → list_all p xs ≡ true → list_all q xs
    ≡ true
all_weaker p q weaker [] all = refl
all_weaker p q weaker (x ∷ xs) all =
    let parts = and_parts (p x) (list_all p xs) all in
    and_from (q x) (list_all q xs) (weaker x parts.0) (all_weaker p q weaker xs parts.1)

module _ (old new : Holders) (kept : KeepsAll old new) where
  pub entered_kept : (number : ℕ) (literals : List ℤ) → is_entered old number literals ≡ true → is_entered new number literals ≡ true
  entered_kept number literals entered = all_weaker (holds old number) (holds new number)
      (λ literal h. (kept.kept literal).kept number h) literals entered

  -- one literal more
  pub entered_more : (number : ℕ) (literals : List ℤ) (i : ℕ) (literal : ℤ) → i < length literals → literal ≡ get_or literals i literal
      → is_entered old number (take i literals) ≡ true → holds new number literal ≡ true → is_entered new number (take (i + 1) literals)
      ≡ true
  entered_more number literals i literal within is entered here =
      ap (is_entered new number) (take_more literals i literal within)
      ∙ list_all-append (holds new number) (take i literals) (get_or literals i literal ∷ [])
      ∙ and_from (is_entered new number (take i literals)) (holds new number (get_or literals i literal)
      && true) (entered_kept number (take i literals) entered)
      (and_from (holds new number (get_or literals i literal)) true (subst (λ l. holds new number l ≡ true) is here) refl)

  pub place_kept : (number : ℕ) (place : Place) → passes_at (is_entered old) number place ≡ true → passes_at (is_entered new) number place
      ≡ true
  place_kept number place entered = elim place as (λ p. passes_at (is_entered old) number p ≡ true → passes_at (is_entered new) number p
      ≡ true) [ None ↦ λ e. refl | Some clause ↦ λ e. entered_kept number clause e ] entered

-- once a number is gone, the others are live as before
module _ (live : Live) (gone : ℕ) where
  pub gone_dead : is_live (finmap.remove live gone) gone ≡ false
  gone_dead = ap is_some (without_at live gone gone ∙ ap (λ b. if b then None else clause_at live gone) (eq-eqb gone gone refl))

  pub others_live : (number : ℕ) → number ≢ gone → is_live (finmap.remove live gone) number ≡ is_live live number
  others_live number other = ap is_some (without_at live gone number
      ∙ ap (λ b. if b then None else clause_at live number) (ne_eqb number gone other))
