-- Clauses that stand under numbers, in the chunks or in the map, as the finite map of the live ones.
use Rattle.std.proofs.Common.{◌≡◌, ℕ, zero, suc, ◌+◌, ◌<◌, ◌≤◌, ◌≢◌, Bool, true, false, cond, ℤ, List, None, Some, is_some, nat_cmp, inl}
use Rattle.std.proofs.Common.{inr, refl, sym, ◌∙◌, ap, arith, eq-eqb, ne_eqb, nat_eq}
use Rattle.std.specs.Prelude.{if◌then◌else◌, ◌==◌}
use Rattle.std.specs.Cmp.{unsigned_tied}
use Rattle.std.specs.FinMap as finmap
use Rattle.std.proofs.lemmas.Bool.{cases_eq, cases_lt}
use Rattle.std.proofs.lemmas.Cmp.{nat_cmp_total, nat_eq_equiv}
use Rattle.lrat_rules.specs.State.{Live, clause_at, with_clause}
use Rattle.lrat_checker.specs.Clauses.{Place, or_else, with_place, live_below, AreStored}

-- finite maps with the same clauses
pub same_live : (few more : Live) → ((id : ℕ) → clause_at few id ≡ clause_at more id) → few ≡ more
same_live few more same = finmap.same_map nat_cmp_total finmap.nat_cmp-IsAntisymmetric few more same

pub with_at : (live : Live) (number : ℕ) (clause : List ℤ) (id : ℕ) → clause_at (with_clause live number clause) id
    ≡ (if id == number then Some clause else clause_at live id)
with_at live number clause id = finmap.get-insert nat_cmp_total live number clause id
    ∙ ap (λ b. cond b (Some clause) (clause_at live id)) (unsigned_tied id number)

pub without_at : (live : Live) (number id : ℕ) → clause_at (finmap.remove live number) id
    ≡ (if id == number then None else clause_at live id)
without_at live number id = finmap.get-remove nat_cmp_total live number id
    ∙ ap (λ b. cond b None (clause_at live id)) (unsigned_tied id number)

module _ (at : ℕ → Place) where
  other_place : (n : ℕ) (place : Place) (id : ℕ) → id ≢ n → clause_at (with_place (live_below at n) n place) id
      ≡ clause_at (live_below at n) id
  other_place n None id other = refl
  other_place n (Some clause) id other = with_at (live_below at n) n clause id
      ∙ ap (λ b. if b then Some clause else clause_at (live_below at n) id) (ne_eqb id n other)

  last_place : (n : ℕ) (place : Place) → clause_at (live_below at n) n ≡ None → clause_at (with_place (live_below at n) n place) n ≡ place
  last_place n None none = none
  last_place n (Some clause) none = with_at (live_below at n) n clause n
      ∙ ap (λ b. if b then Some clause else clause_at (live_below at n) n) (eq-eqb n n refl)

  below_none : (n id : ℕ) → n ≤ id → clause_at (live_below at n) id ≡ None
  below_none zero id le = finmap.get-empty nat_cmp id
  below_none (suc n) id le = other_place n (at n) id (λ same. omega arith) ∙ below_none n id (omega arith)

  below_some : (n id : ℕ) → id < n → clause_at (live_below at n) id ≡ at id
  below_some zero id lt = absurd (omega arith)
  below_some (suc n) id lt =
      elim (cases_eq id n) [
        | inl same ↦ ap (clause_at (with_place (live_below at n) n (at n))) same ∙ last_place n (at n) (below_none n n (omega arith))
            ∙ ap at (sym same)
        | inr other ↦ other_place n (at n) id other ∙ below_some n id (omega arith)
      ]

  pub stands_live : (top : ℕ) → ((id : ℕ) → top < id → at id ≡ None) → (id : ℕ) → clause_at (live_below at (top + 1)) id ≡ at id
  stands_live top beyond id =
      elim (cases_lt id (top + 1)) [
        | inl lt ↦ below_some (top + 1) id lt
        | inr le ↦ below_none (top + 1) id le ∙ sym (beyond id (omega arith))
      ]

either_none : (a b : Place) → or_else a b ≡ None → (a ≡ None) × (b ≡ None)
either_none None b e = (refl, e)
either_none (Some clause) b e = cc

chosen : (b : Bool) (x y x' y' : Place) → or_else (cond b x y) (cond b x' y') ≡ cond b (or_else x x') (or_else y y')
chosen true x y x' y' = refl
chosen false x y x' y' = refl

-- one number's place is changed in the chunks and in the map
module _ (near far near' far' : ℕ → Place) (number : ℕ) (a b : Place) (top top' : ℕ) (stored : AreStored near far top)
    (near_is : (n : ℕ) → near' n ≡ (if n == number then a else near n)) (far_is : (n : ℕ) → far' n
    ≡ (if n == number then b else far n)) where
  parts : (n : ℕ) → or_else (near' n) (far' n) ≡ (if n == number then or_else a b else or_else (near n) (far n))
  parts n = (λ i. or_else (near_is n i) (far_is n i)) ∙ chosen (n == number) a (near n) b (far n)

  pub stored_changed : (is_some a ≡ true → b ≡ None) → top ≤ top' → (top' < number → or_else a b ≡ None) → AreStored near' far' top'
  stored_changed once le early = record {
    beyond = λ n lt. parts n ∙ elim (cases_eq n number) [
      | inl same ↦ ap (λ t. cond t (or_else a b) (or_else (near n) (far n))) (eq-eqb n number same) ∙ early (omega arith)
      | inr other ↦ ap (λ t. cond t (or_else a b) (or_else (near n) (far n))) (ne_eqb n number other) ∙ stored.beyond n (omega arith)
    ];
    apart = λ n some. elim (cases_eq n number) [
      | inl same ↦ far_is n ∙ ap (λ t. cond t b (far n)) (eq-eqb n number same)
          ∙ once (ap is_some (sym (near_is n ∙ ap (λ t. cond t a (near n)) (eq-eqb n number same))) ∙ some)
      | inr other ↦ far_is n ∙ ap (λ t. cond t b (far n)) (ne_eqb n number other)
          ∙ stored.apart n (ap is_some (sym (near_is n ∙ ap (λ t. cond t a (near n)) (ne_eqb n number other))) ∙ some)
    ];
  }

  module _ (after : AreStored near' far' top') where
    stands : (id : ℕ) → clause_at (live_below (λ n. or_else (near' n) (far' n)) (top' + 1)) id
        ≡ (if id == number then or_else a b else clause_at (live_below (λ n. or_else (near n) (far n)) (top + 1)) id)
    stands id =
        stands_live (λ n. or_else (near' n) (far' n)) top' after.beyond id ∙ parts id
        ∙ ap (λ o. if id == number then or_else a b else o) (sym (stands_live (λ n. or_else (near n) (far n)) top stored.beyond id))

    pub live_inserted : (clause : List ℤ) → or_else a b ≡ Some clause
        → live_below (λ n. or_else (near' n) (far' n)) (top' + 1)
        ≡ with_clause (live_below (λ n. or_else (near n) (far n)) (top + 1)) number clause
    live_inserted clause is =
        let before = live_below (λ n. or_else (near n) (far n)) (top + 1) in
        same_live _ _ (λ id. stands id ∙ ap (λ o. if id == number then o else clause_at before id) is
        ∙ sym (with_at before number clause id))

    pub live_removed : or_else a b ≡ None
        → live_below (λ n. or_else (near' n) (far' n)) (top' + 1)
        ≡ finmap.remove (live_below (λ n. or_else (near n) (far n)) (top + 1)) number
    live_removed is =
        let before = live_below (λ n. or_else (near n) (far n)) (top + 1) in
        same_live _ _ (λ id. stands id ∙ ap (λ o. if id == number then o else clause_at before id) is ∙ sym (without_at before number id))

-- the order of the test doesn't matter
pub turned : (number n : ℕ) (x y : Place) → cond (nat_eq number n) x y ≡ (if n == number then x else y)
turned number n x y = ap (λ b. cond b x y) (nat_eq_equiv.symm number n)

-- where nothing stands under a number, it may be taken away
pub absent : (at : ℕ → Place) (number : ℕ) → at number ≡ None → (n : ℕ) → at n ≡ (if n == number then None else at n)
absent at number none n =
    elim (cases_eq n number) [
      | inl same ↦ ap at same ∙ none ∙ ap (λ b. if b then None else at n) (sym (eq-eqb n number same))
      | inr other ↦ ap (λ b. if b then None else at n) (sym (ne_eqb n number other))
    ]

-- a clause in the chunks is the one that stands there
pub near_first : (near far : Place) → is_some near ≡ true → or_else near far ≡ near
near_first None far some = cc
near_first (Some clause) far some = refl

-- nothing stands in the map beyond the greatest number
pub far_beyond : (near far : ℕ → Place) (top number : ℕ) → AreStored near far top → top < number → far number ≡ None
far_beyond near far top number stored lt = (either_none (near number) (far number) (stored.beyond number lt)).1

pub near_none : (near far : ℕ → Place) (top number : ℕ) → AreStored near far top → top < number → near number ≡ None
near_none near far top number stored lt = (either_none (near number) (far number) (stored.beyond number lt)).0
