-- An addition whose resolvents with its candidates are tautologies is good.
use Rattle.std.proofs.Common.{◌≡◌, ◌<◌, ◌+◌, ◌++◌, [], ◌∷◌, ℕ, zero, suc, Bool, true, false, not, ◌||◌, ◌&&◌, ℤ, neg_ℤ, int_eq, List}
use Rattle.std.proofs.Common.{length}
use Rattle.std.proofs.Common.{get_or, take, sym, ◌∙◌, ap, arith}
use Rattle.std.specs.List.{filter, list_all, list_any}
use Rattle.std.proofs.lemmas.Bool.{and_from, and_parts, both_ways, or_left, or_right}
use Rattle.std.proofs.lemmas.List.Folds.{list_all-append, list_any_more}
use Rattle.lrat_rules.specs.Chain.{FalseSet, literals_of}
use Rattle.lrat_rules.specs.Addition.{is_blocked_by}
use Rattle.drat_checker.specs.Propagation.{Clashes}
use Rattle.drat_checker.proofs.FalseSets.{all-at, all-filter, at_member}

-- a literal of a clause that a test leaves, whose negation is among others
pub clash-beside : (p : FalseSet) (start clause : List ℤ) (i : ℕ) (x : ℤ) → i < length clause → x ≡ get_or clause i x → p x ≡ true
    → literals_of start (neg_ℤ x) ≡ true → Clashes (start ++ filter p clause)
clash-beside p start clause i x within at passes there = record {
  clash = λ q apart has.
      let parts = and_parts (list_all q start) (list_all q (filter p clause)) (sym (list_all-append q start (filter p clause)) ∙ has) in
      let each : list_all (λ y. not (p y) || q y) clause ≡ true = sym (all-filter q p clause) ∙ parts.1 in
      let own : q x ≡ true =
      ap (λ b. not b || q x) (sym passes) ∙ ap (λ y. not (p y) || q y) at ∙ all-at (λ y. not (p y) || q y) clause i x within each in
      both_ways (q (neg_ℤ x)) (apart x own) (at_member q start (neg_ℤ x) parts.0 there);
}

any-at : (p : ℤ → Bool) (xs : List ℤ) (i : ℕ) (d : ℤ) → i < length xs → p (get_or xs i d) ≡ true → list_any p xs ≡ true
any-at p [] i d within h = absurd (omega (arith, within))
any-at p (x ∷ xs) zero d within h = or_left _ _ h
any-at p (x ∷ xs) (suc i) d within h = or_right (p x) _ (any-at p xs i d (omega (arith, within)) h)

neither : (a b : Bool) → a ≡ false → b ≡ false → (a || b) ≡ false
neither true b e f = cc
neither false b e f = f

-- a literal that blocks a candidate, and one that doesn't
module _ (n : FalseSet) (pivot : ℤ) (other : List ℤ) (i : ℕ) (x : ℤ) (within : i < length other) (at : x ≡ get_or other i x) where
  abbrev blocks : ℤ → Bool
  blocks y = not (int_eq y (neg_ℤ pivot)) && n (neg_ℤ y)

  pub blocked-at : not (int_eq x (neg_ℤ pivot)) ≡ true → n (neg_ℤ x) ≡ true → is_blocked_by n pivot other ≡ true
  blocked-at apart negation = any-at blocks other i x within (ap blocks (sym at) ∙ and_from _ _ apart negation)

  pub blocked-next : is_blocked_by n pivot (take i other) ≡ false → (not (int_eq x (neg_ℤ pivot)) && n (neg_ℤ x)) ≡ false
      → is_blocked_by n pivot (take (i + 1) other) ≡ false
  blocked-next before fails =
      list_any_more blocks other i x within ∙ neither (list_any blocks (take i other)) (blocks (get_or other i x)) before
      (ap blocks (sym at) ∙ fails)
