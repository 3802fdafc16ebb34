-- The candidates of a pivot among the numbers of a list that has all clauses that hold its negation.
use Rattle.std.proofs.Common.{◌≡◌, ℕ, ◌+◌, ◌<◌, true, false, ℤ, List, length, take, get_or, None, Some, nat_eq}
use Rattle.std.proofs.Common.{inl, inr, refl, sym, ap, ◌∙◌}
use Rattle.std.specs.Prelude.{IsTrue}
use Rattle.std.specs.List.{list_all}
use Rattle.std.proofs.lemmas.Bool.{or_cases}
use Rattle.std.proofs.lemmas.List.Folds.{list_any_more}
use Rattle.std.proofs.lemmas.Map.Views.{exact_unsigned_eq}
use Rattle.lrat_rules.specs.Addition.{holds_negated}
use Rattle.drat_rules.specs.Addition.{passes_candidate}
use Rattle.drat_checker.specs.Places.{Places, place_at, standing}
use Rattle.drat_checker.specs.Numbers.{has_number}
use Rattle.drat_checker.specs.Propagation.{place_passes}
use Rattle.drat_checker.proofs.Propagated.{passes-free}
use Rattle.drat_checker.proofs.Standing.{all-standing, among-place, fails_clause}

-- the clauses of these numbers pass
abbrev pub PassOf : Places → ℤ → List ℤ → List ℕ → Type 0
PassOf places pivot literals numbers =
    (number : ℕ) (other : List ℤ) → IsTrue (has_number number numbers) → place_at places number ≡ Some other
    → IsTrue (passes_candidate (standing places) pivot literals other)

pub pass-step : (places : Places) (pivot : ℤ) (literals : List ℤ) (numbers : List ℕ) (i k : ℕ) → i < length numbers → k ≡ get_or numbers i 0
    → PassOf places pivot literals (take i numbers) → place_passes (standing places) pivot literals (place_at places k) ≡ true
    → PassOf places pivot literals (take (i + 1) numbers)
pass-step places pivot literals numbers i k within at so_far here number other m stands =
    elim (or_cases (has_number number (take i numbers)) _ (sym (list_any_more (nat_eq number) numbers i 0 within) ∙ m)) [
      | inl earlier ↦ so_far number other earlier stands
      | inr now ↦
          let is : number ≡ k = exact_unsigned_eq number (get_or numbers i 0) now ∙ sym at in
          ap (place_passes (standing places) pivot literals) (sym (ap (place_at places) (sym is) ∙ stands)) ∙ here
    ]

-- all pass, and one that doesn't
pub all-pass : (places : Places) (pivot : ℤ) (literals : List ℤ) (numbers : List ℕ)
    → ((number : ℕ) (clause : List ℤ) → place_at places number ≡ Some clause → IsTrue (holds_negated pivot clause)
    → IsTrue (has_number number numbers)) → PassOf places pivot literals numbers
    → list_all (passes_candidate (standing places) pivot literals) (standing places) ≡ true
all-pass places pivot literals numbers listed pass =
    all-standing (passes_candidate (standing places) pivot literals) places (λ number other stands.
    elim (holds_negated pivot other)
    as (λ b. holds_negated pivot other ≡ b → passes_candidate (standing places) pivot literals other ≡ true) [
      | true ↦ λ held. pass number other (listed number other stands held) stands
      | false ↦ λ free. sym (passes-free (standing places) pivot literals other free)
    ] refl)

pub one-fails : (places : Places) (pivot : ℤ) (literals : List ℤ) (k : ℕ)
    → place_passes (standing places) pivot literals (place_at places k) ≡ false
    → list_all (passes_candidate (standing places) pivot literals) (standing places) ≡ false
one-fails places pivot literals k fails =
    elim (place_at places k)
    as (λ p. place_at places k ≡ p → place_passes (standing places) pivot literals p ≡ false
    → list_all (passes_candidate (standing places) pivot literals) (standing places) ≡ false) [
      | None ↦ λ e h. cc
      | Some other ↦ λ e h.
          fails_clause (passes_candidate (standing places) pivot literals) (standing places) other h (among-place places k other e)
    ] refl fails
