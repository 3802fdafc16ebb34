-- A list of false literals with its flags and places, as flags are reserved, a literal is put at its end, and the last ones are taken back.
use Rattle.std.proofs.Common.{◌≡◌, ℕ, ◌+◌, Option, None, Some, is_some, length-append, ◌<◌, ◌||◌, true, false, ℤ, pos, neg_ℤ, int_eq}
use Rattle.std.proofs.Common.{List, [], ◌∷◌, ◌++◌, length, take, get_or, min, inl, inr, sym, ap, ◌∙◌, subst, arith}
use Rattle.std.specs.Prelude.{nat_abs}
use Rattle.std.specs.Option.{unwrap_or}
use Rattle.std.proofs.Math.ListN.{get_or-append}
use Rattle.std.proofs.Math.Seq.{get_or-append_seam}
use Rattle.std.proofs.lemmas.Bool.{both_ways, cases_lt, false_from_ne_true}
use Rattle.std.proofs.lemmas.List.{get_or-take, length-take}
use Rattle.lrat_rules.specs.declared.by_literal.ByLiteral.{ByLiteral}
use Rattle.lrat_rules.specs.ByLiteral.{entry}
use Rattle.lrat_rules.specs.Chain.{literals_of}
use Rattle.drat_checker.specs.declared.flags.Flags.{Flags}
use Rattle.drat_checker.specs.Flags.{is_set}
use Rattle.drat_checker.specs.Trail.{ArePlaced, IsAt, IsFalseList}
use Rattle.drat_checker.proofs.FalseSets.{apart-push, int_eq-true}
use Rattle.drat_checker.proofs.Trails.{at-any, found-at, literals_of-last, once-last}

false-not-true : false ≡ true → ⊥
false-not-true e = cc

-- an entry that is kept as entries are reserved
pub entry-stays : (old new : Option ℕ) (k : ℕ) → old ≡ Some k → (is_some old ≡ true → is_some new ≡ true)
    → unwrap_or new 0 ≡ unwrap_or old 0 → new ≡ Some k
entry-stays old None k is there same = absurd (false-not-true (there (ap is_some is)))
entry-stays old (Some m) k is there same = let value : m ≡ k = same ∙ ap (λ o. unwrap_or o 0) is in ap Some value

-- the entries of all other literals stay
abbrev pub KeepsOthers : ByLiteral ℕ → ByLiteral ℕ → ℤ → Type 0
KeepsOthers old new literal = (x : ℤ) (k : ℕ) → int_eq x literal ≡ false → entry old x ≡ Some k → entry new x ≡ Some k

module _ (old new : ByLiteral ℕ) (literals : List ℤ) (literal : ℤ) (fresh : literals_of literals literal ≡ false)
    (others : KeepsOthers old new literal) (p : ArePlaced old literals) where
  still : (k : ℕ) → k < length literals → entry new (get_or literals k (pos 0)) ≡ Some k
  still k within = others (get_or literals k (pos 0)) k
      (false_from_ne_true _ (λ same. both_ways (literals_of literals literal) fresh
      (subst (λ (z : ℤ). literals_of literals z ≡ true) (int_eq-true (get_or literals k (pos 0)) literal same)
      (at-any literals k within))))
      (p.placed k within)

  pub placed-kept : ArePlaced new literals
  placed-kept = record { placed = still }

  pub placed-push : (place : ℕ) → place ≡ length literals → entry new literal ≡ Some place → ArePlaced new (literals ++ literal ∷ [])
  placed-push place is own = record {
    placed = λ k within. elim (cases_lt k (length literals)) [
      | inl before ↦ ap (entry new) (get_or-append literals (literal ∷ []) (pos 0) k before) ∙ still k before
      | inr last ↦
          let here : k ≡ length literals = omega (arith, within, last, length-append literals (literal ∷ [])) in
          ap (λ n. entry new (get_or (literals ++ literal ∷ []) n (pos 0))) here
          ∙ ap (entry new) (get_or-append_seam literals literal [] (pos 0)) ∙ own ∙ ap Some (is ∙ sym here)
    ];
  }

pub placed-front : (at : ByLiteral ℕ) (literals : List ℤ) (count : ℕ) → ArePlaced at literals → ArePlaced at (take count literals)
placed-front at literals count p = record {
  placed = λ k within.
      let many : length (take count literals) ≡ min count (length literals) = length-take count literals in
      let before : k < count = omega (arith, within, many) in
      let inside : k < length literals = omega (arith, within, many) in
      ap (entry at) (get_or-take count literals k (pos 0) before) ∙ p.placed k inside;
}

-- the place of a literal that is there is its own, and is at hand
same-number : (a b : ℕ) → Some a ≡ Some b → a ≡ b
same-number a b e = cc

none-some : (a : ℕ) → None ≡ Some a → ⊥
none-some a e = cc

module _ (at : ByLiteral ℕ) (literals : List ℤ) (p : ArePlaced at literals) (x : ℤ) (there : literals_of literals x ≡ true) where
  own-entry : (k : ℕ) → IsAt literals x k → entry at x ≡ Some k
  own-entry k is = ap (entry at) (sym is.own) ∙ p.placed k is.within

  pub placed-at : (place : ℕ) → entry at x ≡ Some place → IsAt literals x place
  placed-at place e =
      let own : (k : ℕ) × IsAt literals x k = found-at literals x there in
      subst (λ (n : ℕ). IsAt literals x n) (same-number own.0 place (sym (own-entry own.0 own.1) ∙ e)) own.1

  pub placed-there : entry at x ≡ None → ⊥
  placed-there e =
      let own : (k : ℕ) × IsAt literals x k = found-at literals x there in
      none-some own.0 (sym e ∙ own-entry own.0 own.1)

pub false-push : {old new : Flags} {at at' : ByLiteral ℕ} {literals : List ℤ} {reasons : List (Option ℕ)}
    → IsFalseList old at literals reasons → (literal : ℤ) → (reason : Option ℕ) → 0 < nat_abs literal
    → literals_of literals (neg_ℤ literal) ≡ false → literals_of literals literal ≡ false
    → ((x : ℤ) → is_set new x ≡ (int_eq x literal || is_set old x)) → KeepsOthers at at' literal → (place : ℕ)
    → place ≡ length literals → entry at' literal ≡ Some place
    → IsFalseList new at' (literals ++ literal ∷ []) (reasons ++ reason ∷ [])
false-push {at = at} {at' = at'} {literals = literals} {reasons = reasons} f literal reason nonzero absent fresh sets others place is own =
    record {
      apart = apart-push literals literal f.apart nonzero absent;
      flagged = λ x. sets x ∙ ap (λ b. int_eq x literal || b) (f.flagged x) ∙ sym (literals_of-last literals literal x);
      once = once-last literals literal f.once fresh;
      many = length-append reasons (reason ∷ []) ∙ ap (λ n. n + 1) f.many ∙ sym (length-append literals (literal ∷ []));
      placed = placed-push at at' literals literal fresh others f.placed place is own;
    }

-- a refusal behind the entry of the literal
pub false-kept : {old new : Flags} {at at' : ByLiteral ℕ} {literals : List ℤ} {reasons : List (Option ℕ)}
    → IsFalseList old at literals reasons → (literal : ℤ) → literals_of literals literal ≡ false
    → ((x : ℤ) → is_set new x ≡ is_set old x) → KeepsOthers at at' literal → IsFalseList new at' literals reasons
false-kept {at = at} {at' = at'} {literals = literals} f literal fresh sets others = record {
  apart = f.apart;
  flagged = λ x. sets x ∙ f.flagged x;
  once = f.once;
  many = f.many;
  placed = placed-kept at at' literals literal fresh others f.placed;
}
