-- The index stays one through each change of the live clauses, and a walk over one list of it decides of all of them.
use Rattle.std.proofs.Common.{◌≡◌, ℕ, ◌+◌, ◌-◌, ◌≤◌, Bool, true, false, not, ◌||◌, ◌&&◌, ℤ, neg_ℤ, List, [], ◌∷◌, None, Some, is_some}
use Rattle.std.proofs.Common.{nat_eq, int_eq, inl, inr, refl, sym, ap, subst, ◌∙◌, eq-eqb, ne_eqb}
use Rattle.std.specs.Prelude.{if◌then◌else◌, IsTrue}
use Rattle.std.specs.List.{list_all, list_any}
use Rattle.std.specs.Cmp.{signed_Decides}
use Rattle.std.specs.FinMap as finmap
use Rattle.std.proofs.lemmas.Bool.{and_parts, cases_eq}
use Rattle.std.proofs.lemmas.Map.Views.{exact_unsigned_eq}
use Rattle.cnf_base.specs.declared.list.Group.{Group}
use Rattle.lrat_rules.specs.State.{Live, clause_at, with_clause}
use Rattle.lrat_rules.specs.Chain.{FalseSet}
use Rattle.lrat_rules.specs.Addition.{holds_negated, is_blocked_by, is_settled}
use Rattle.lrat_checker.specs.declared.counts.Counts.{Counts}
use Rattle.lrat_checker.specs.declared.holders.Holders.{Holders}
use Rattle.lrat_checker.specs.Clauses.{Place}
use Rattle.lrat_checker.specs.Counts.{count_of, times_in, times_at}
use Rattle.lrat_checker.specs.Holders.{KeepsAll, KeepsAllLive, IsIndexOf, AreFound, holds, is_entered, numbers_of}
use Rattle.lrat_checker.specs.Walk.{passes_at, settles_at, has_group}
use Rattle.lrat_checker.proofs.Counted.{counted_more, counted_insert, counted_remove}
use Rattle.lrat_checker.proofs.Kept.{all_weaker, place_kept}
use Rattle.lrat_checker.proofs.Stored.{with_at, without_at}
use Rattle.lrat_checker.proofs.Walks.{walk_passes, walk_fails, decided}

-- more numbers for the same clauses
index_more : (old new : Holders) (live : Live) → KeepsAll old new → IsIndexOf old live → IsIndexOf new live
index_more old new live kept index = record {
  found = λ number. place_kept old new kept number (clause_at live number)
      (index.found number);
}

index_insert : (old new : Holders) (live : Live) (id : ℕ) (literals : List ℤ) → KeepsAll old new → is_entered new id literals ≡ true
    → IsIndexOf old live → IsIndexOf new (with_clause live id literals)
index_insert old new live id literals kept entered index = record {
  found = λ number.
      ap (passes_at (is_entered new) number) (with_at live id literals number) ∙ elim (cases_eq number id) [
        | inl same ↦ ap (λ b. passes_at (is_entered new) number (if b then Some literals else clause_at live number))
            (eq-eqb number id same) ∙ ap (λ n. is_entered new n literals) same ∙ entered
        | inr other ↦ ap (λ b. passes_at (is_entered new) number (if b then Some literals else clause_at live number))
            (ne_eqb number id other)
            ∙ place_kept old new kept number (clause_at live number) (index.found number)
      ];
}

-- a clause that is live stays in the lists of its literals
live_kept : (old new : Holders) (live : Live) → KeepsAllLive live old new → (number : ℕ) (place : Place) → clause_at live number ≡ place
    → passes_at (is_entered old) number place ≡ true
    → passes_at (is_entered new) number place ≡ true
live_kept old new live kept number None is entered = refl
live_kept old new live kept number (Some clause) is entered =
    all_weaker (holds old number) (holds new number) (λ literal h. (kept.kept literal).kept number (ap is_some is) h) clause entered

index_remove : (old new : Holders) (live : Live) (id : ℕ) → KeepsAllLive (finmap.remove live id) old new → IsIndexOf old live
    → IsIndexOf new (finmap.remove live id)
index_remove old new live id kept index = record {
  found = λ number.
      live_kept old new (finmap.remove live id) kept number (clause_at (finmap.remove live id) number) refl
      (ap (passes_at (is_entered old) number) (without_at live id number) ∙ elim (cases_eq number id) [
        | inl same ↦ ap (λ b. passes_at (is_entered old) number (if b then None else clause_at live number)) (eq-eqb number id same)
        | inr other ↦ ap (λ b. passes_at (is_entered old) number (if b then None else clause_at live number)) (ne_eqb number id other)
            ∙ index.found number
      ]);
}

module _ (counts counts' : Counts) (holders holders' : Holders) (indexed : Bool) (live : Live)
    (found : AreFound counts holders indexed live) where
  pub found_more : ((x : ℤ) → count_of counts x ≤ count_of counts' x) → KeepsAll holders holders' → AreFound counts' holders' indexed live
  found_more more kept = record {
    counted = counted_more counts counts' live found.counted more;
    index = λ is. index_more holders holders' live kept (found.index is);
  }

  pub found_insert : (id : ℕ) (literals : List ℤ) → ((x : ℤ) → count_of counts' x ≡ count_of counts x + times_in x literals)
      → KeepsAll holders holders'
      → (IsTrue indexed → is_entered holders' id literals ≡ true) → AreFound counts' holders' indexed (with_clause live id literals)
  found_insert id literals raised kept entered = record {
    counted = counted_insert counts counts' live id literals found.counted raised;
    index = λ is. index_insert holders holders' live id literals kept (entered is) (found.index is);
  }

  pub found_remove : (id : ℕ) → ((x : ℤ) → count_of counts' x ≡ count_of counts x - times_at x (clause_at live id))
      → KeepsAllLive (finmap.remove live id) holders holders'
      → AreFound counts' holders' indexed (finmap.remove live id)
  found_remove id lowered kept = record {
    counted = counted_remove counts counts' live id found.counted lowered;
    index = λ is. index_remove holders holders' live id kept (found.index is);
  }

-- where all pass one test, and some one a query, that one passes the test
all_at : {X P : Type 0} (test query : X → Bool) → ((x : X) → query x ≡ true → test x ≡ true → P) → (xs : List X) → list_all test xs ≡ true
    → list_any query xs ≡ true → P
all_at {P = P} test query use_it [] all some = absurd (cc)
all_at {P = P} test query use_it (x ∷ xs) all some =
    let parts = and_parts (test x) (list_all test xs) all in
    elim (query x) as (λ b. query x ≡ b → (b || list_any query xs) ≡ true → P) [
      | true ↦ λ here _. use_it x here parts.0
      | false ↦ λ _ later. all_at test query use_it xs parts.1 later
    ] refl some

fails_at : (test : ℕ → Bool) (numbers : List ℕ) → list_all test numbers ≡ false → (number : ℕ) × (test number ≡ false)
fails_at test [] e = absurd (cc)
fails_at test (number ∷ numbers) e =
    elim (test number) as (λ b. test number ≡ b → (b && list_all test numbers) ≡ false → (number : ℕ) × (test number ≡ false)) [
      | true ↦ λ _ later. fails_at test numbers later
      | false ↦ λ here _. (number, here)
    ] refl e

module _ (holders : Holders) (live : Live) (n : FalseSet) (pivot : ℤ) (groups : List Group) where
  abbrev test : ℕ → Bool
  test number = settles_at n pivot groups number (clause_at live number)

  -- a candidate stands in the list of the pivot's negation
  place_settles : list_all test (numbers_of holders (neg_ℤ pivot)) ≡ true → (number : ℕ) (place : Place) → clause_at live number ≡ place
      → passes_at (is_entered holders) number place ≡ true → settles_at n pivot groups number place ≡ true
  place_settles all number None is entered = refl
  place_settles all number (Some clause) is entered =
      elim (holds_negated pivot clause) as (λ b. holds_negated pivot clause ≡ b
      → (not b || is_blocked_by n pivot clause || has_group groups number) ≡ true) [
        | false ↦ λ _. refl
        | true ↦ λ held.
            let listed : holds holders number (neg_ℤ pivot) ≡ true =
            all_at (holds holders number) (int_eq (neg_ℤ pivot))
            (λ literal same h. subst (λ l. holds holders number l
            ≡ true) (sym ((signed_Decides (neg_ℤ pivot) literal).0 same)) h) clause entered held in
            let here : test number ≡ true = all_at test (nat_eq number)
            (λ other same t. subst (λ k. test k ≡ true) (sym (exact_unsigned_eq number other same)) t)
            (numbers_of holders (neg_ℤ pivot)) all listed in
            ap (λ b. not b || is_blocked_by n pivot clause || has_group groups number) (sym held)
            ∙ ap (settles_at n pivot groups number) (sym is) ∙ here
      ] refl

  pub index_settles : IsIndexOf holders live → list_all test (numbers_of holders (neg_ℤ pivot))
      ≡ list_all (is_settled live n pivot groups) (finmap.keys live)
  index_settles index =
      decided (list_all test (numbers_of holders (neg_ℤ pivot))) (list_all (is_settled live n pivot groups) (finmap.keys live))
      (λ all. walk_passes live n pivot groups (λ number. place_settles all number (clause_at live number) refl (index.found number)))
      (λ one. let at = fails_at test (numbers_of holders (neg_ℤ pivot)) one in walk_fails live n pivot groups at.0 at.1)
