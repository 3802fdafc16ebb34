-- What propagation finds under false literals, a set that has these, and is closed under propagation, has too; and it finds no
-- false clause.
use Rattle.std.proofs.Common.{◌≡◌, true, false, cond, not, ℤ, neg_ℤ, List, [], ◌∷◌, if◌then◌else◌, int_eq, refl, sym, ap, ◌∙◌, subst}
use Rattle.std.specs.List.{list_all}
use Rattle.std.proofs.lemmas.Bool.{and_parts}
use Rattle.lrat_rules.specs.declared.outcome.Effect.TheVariants.{Conflict, Unit as Forced, NotUnit}
use Rattle.lrat_rules.specs.Chain.{FalseSet, outside, effect_of_outside, effect}
use Rattle.drat_rules.specs.Clauses.{is_among}
use Rattle.drat_rules.specs.Quiet.{adds_nothing, closed_under, IsQuiet, Includes}
use Rattle.drat_rules.proofs.Members.{int_eq-true}
use Rattle.drat_rules.proofs.Counts.{at_clause, all_clauses}

-- what is outside the greater set
pub outside_twice : (n q : FalseSet) → Includes q n → (clause : List ℤ) → outside q (outside n clause) ≡ outside q clause
outside_twice n q w [] = refl
outside_twice n q w (x ∷ xs) =
    elim (n x)
    as (λ b. n x ≡ b → outside q (cond (not b) (x ∷ outside n xs) (outside n xs)) ≡ cond (not (q x)) (x ∷ outside q xs) (outside q xs)) [
      | true ↦ λ e. outside_twice n q w xs ∙ sym (ap (λ b. cond (not b) (x ∷ outside q xs) (outside q xs)) (w.includes x e))
      | false ↦ λ e. ap (λ l. cond (not (q x)) (x ∷ l) l) (outside_twice n q w xs)
    ] refl

-- copies of one literal are all in the set, or all outside
copies_in : (q : FalseSet) (x : ℤ) (xs : List ℤ) → list_all (int_eq x) xs ≡ true → q x ≡ true → outside q xs ≡ []
copies_in q x [] same h = refl
copies_in q x (y ∷ ys) same h =
    let in_q : q y ≡ true = ap q (sym (int_eq-true x y (and_parts (int_eq x y) _ same).0)) ∙ h in
    ap (λ b. cond (not b) (y ∷ outside q ys) (outside q ys)) in_q ∙ copies_in q x ys (and_parts (int_eq x y) _ same).1 h

copies_out : (q : FalseSet) (x : ℤ) (xs : List ℤ) → list_all (int_eq x) xs ≡ true → q x ≡ false → outside q xs ≡ xs
copies_out q x [] same h = refl
copies_out q x (y ∷ ys) same h =
    let not_in : q y ≡ false = ap q (sym (int_eq-true x y (and_parts (int_eq x y) _ same).0)) ∙ h in
    ap (λ b. cond (not b) (y ∷ outside q ys) (outside q ys)) not_in
    ∙ ap (λ l. y ∷ l) (copies_out q x ys (and_parts (int_eq x y) _ same).1 h)

-- a literal that is forced under the smaller set has its negation in the greater one
pub forced_within : (q : FalseSet) (x : ℤ) (xs : List ℤ) → list_all (int_eq x) xs ≡ true
    → adds_nothing q (effect_of_outside (outside q (x ∷ xs))) ≡ true → q (neg_ℤ x) ≡ true
forced_within q x xs same h =
    elim (q x)
    as (λ b. q x ≡ b → adds_nothing q (effect_of_outside (cond (not b) (x ∷ outside q xs) (outside q xs))) ≡ true → q (neg_ℤ x) ≡ true) [
      | true ↦ λ e closed.
          let conflict : adds_nothing q (effect_of_outside []) ≡ true =
          subst (λ l. adds_nothing q (effect_of_outside l) ≡ true) (copies_in q x xs same e) closed in
          cc
      | false ↦ λ e closed.
          let alone : adds_nothing q (effect_of_outside (x ∷ xs)) ≡ true =
          subst (λ l. adds_nothing q (effect_of_outside (x ∷ l)) ≡ true) (copies_out q x xs same e) closed in
          rw same at alone
    ] refl h

same_forced : (x y : ℤ) → Forced x ≡ Forced y → x ≡ y
same_forced x y e = cc

-- by the literals outside the smaller set
forced_outside : (q : FalseSet) (literal : ℤ) (xs : List ℤ) → adds_nothing q (effect_of_outside (outside q xs)) ≡ true
    → effect_of_outside xs ≡ Forced literal → q (neg_ℤ literal) ≡ true
forced_outside q literal [] closed e = cc
forced_outside q literal (x ∷ xs) closed e =
    elim (list_all (int_eq x) xs)
    as (λ b. list_all (int_eq x) xs ≡ b → (if b then Forced x else NotUnit) ≡ Forced literal → q (neg_ℤ literal) ≡ true) [
      | true ↦ λ same is. ap (λ k. q (neg_ℤ k)) (sym (same_forced x literal is)) ∙ forced_within q x xs same closed
      | false ↦ λ other is. cc
    ] refl e

no_conflict_outside : (q : FalseSet) (xs : List ℤ) → adds_nothing q (effect_of_outside (outside q xs)) ≡ true
    → effect_of_outside xs ≡ Conflict → ⊥
no_conflict_outside q [] closed e = cc
no_conflict_outside q (x ∷ xs) closed e =
    elim (list_all (int_eq x) xs) as (λ b. (if b then Forced x else NotUnit) ≡ Conflict → ⊥) [
      | true ↦ λ is. cc
      | false ↦ λ is. cc
    ] e

module _ (clauses : List (List ℤ)) (q n : FalseSet) (clause : List ℤ) (quiet : IsQuiet clauses q) (i : Includes q n)
    (among : is_among clauses clause ≡ true) where
  closed_outside : adds_nothing q (effect_of_outside (outside q (outside n clause))) ≡ true
  closed_outside =
      ap (λ l. adds_nothing q (effect_of_outside l)) (outside_twice n q i clause)
      ∙ at_clause (closed_under q) clauses clause quiet.closed among

  pub forced_there : (literal : ℤ) → effect n clause ≡ Forced literal → q (neg_ℤ literal) ≡ true
  forced_there literal e = forced_outside q literal (outside n clause) closed_outside e

  pub no_conflict_there : effect n clause ≡ Conflict → ⊥
  no_conflict_there e = no_conflict_outside q (outside n clause) closed_outside e

-- where propagation finds nothing more
pub IsQuiet-ends : (clauses : List (List ℤ)) (n : FalseSet) → ((x : ℤ) → n x ≡ true → n (neg_ℤ x) ≡ false)
    → ((clause : List ℤ) → is_among clauses clause ≡ true → closed_under n clause ≡ true) → IsQuiet clauses n
IsQuiet-ends clauses n apart each = record { apart = apart; closed = all_clauses (closed_under n) clauses each }
