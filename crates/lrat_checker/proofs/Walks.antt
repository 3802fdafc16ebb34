-- The walk over all live clauses decides whether each of them settles.
use Rattle.std.proofs.Common.{◌≡◌, ℕ, ◌++◌, Bool, Bor, map, cond, nat_eq, true, false, not, ◌||◌, ◌&&◌, ℤ, List, [], ◌∷◌, Some, None}
use Rattle.std.proofs.Common.{is_some, nat_cmp, refl, sym, ap, subst, ◌∙◌}
use Rattle.std.specs.List.{list_all, list_any}
use Rattle.std.specs.Ordering.{eq_by_cmp}
use Rattle.std.specs.FinMap as finmap
use Rattle.std.proofs.lemmas.Bool.{and_parts, and_from}
use Rattle.std.proofs.lemmas.List.{map-append}
use Rattle.std.proofs.lemmas.List.Folds.{list_all-append}
use Rattle.std.specs.Map.{lookup}
use Rattle.std.specs.Map.Iter.{deref_pair}
use Rattle.std.proofs.lemmas.Map.Lookups.{exact_unsigned}
use Rattle.std.proofs.lemmas.Map.Views.{tells_apart, exact_unsigned_eq}
use Rattle.cnf_base.specs.declared.list.Group.{Group}
use Rattle.lrat_rules.specs.State.{Live, clause_at}
use Rattle.lrat_rules.specs.Chain.{FalseSet}
use Rattle.lrat_rules.specs.Addition.{if_live, holds_negated, is_blocked_by, is_settled}
use Rattle.lrat_checker.specs.Clauses.{Place, or_else}
use Rattle.lrat_checker.specs.Walk.{passes_at, settles_at, has_group}

-- what is asked of a number is asked of the clause that is live under it
settled_at : (n : FalseSet) (pivot : ℤ) (groups : List Group) (live : Live) (id : ℕ) → is_settled live n pivot groups id
    ≡ settles_at n pivot groups id (clause_at live id)
settled_at n pivot groups live id =
    elim (clause_at live id) as (λ o. (not (if_live (holds_negated pivot) o) || if_live (is_blocked_by n pivot) o || has_group groups id)
    ≡ settles_at n pivot groups id o)
    [ None ↦ refl | Some clause ↦ refl ]

-- what doesn't settle is live
live_open : (n : FalseSet) (pivot : ℤ) (groups : List Group) (id : ℕ) (o : Place) → settles_at n pivot groups id o ≡ false → is_some o
    ≡ true
live_open n pivot groups id None e = cc
live_open n pivot groups id (Some clause) e = refl

left_fails : (a b : Bool) → a ≡ false → (a && b) ≡ false
left_fails a b e = rw e refl

right_fails : (a b : Bool) → b ≡ false → (a && b) ≡ false
right_fails true b e = e
right_fails false b e = refl

either_way : {P : Type 0} (a b : Bool) → (a || b) ≡ true → (a ≡ true → P) → (b ≡ true → P) → P
either_way true b e f g = f refl
either_way false b e f g = g e

all_pass : (p : ℕ → Bool) (ids : List ℕ) → ((id : ℕ) → p id ≡ true) → list_all p ids ≡ true
all_pass p [] each = refl
all_pass p (id ∷ ids) each = rw (each id) (all_pass p ids each)

one_fails : (p : ℕ → Bool) (id : ℕ) → p id ≡ false → (ids : List ℕ) → list_any (eq_by_cmp nat_cmp id) ids ≡ true → list_all p ids ≡ false
one_fails p id e [] h = cc
one_fails p id e (x ∷ ids) h =
    either_way (eq_by_cmp nat_cmp id x) (list_any (eq_by_cmp nat_cmp id) ids) h
    (λ t. left_fails (p x) (list_all p ids) (subst (λ k. p k ≡ false) (tells_apart exact_unsigned id x t) e))
    (λ t. right_fails (p x) (list_all p ids) (one_fails p id e ids t))

module _ (live : Live) (n : FalseSet) (pivot : ℤ) (groups : List Group) where
  pub walk_passes : ((id : ℕ) → settles_at n pivot groups id (clause_at live id) ≡ true) → true
      ≡ list_all (is_settled live n pivot groups) (finmap.keys live)
  walk_passes each = sym (all_pass (is_settled live n pivot groups) (finmap.keys live) (λ id. settled_at n pivot groups live id ∙ each id))

  pub walk_fails : (id : ℕ) → settles_at n pivot groups id (clause_at live id) ≡ false → false
      ≡ list_all (is_settled live n pivot groups) (finmap.keys live)
  walk_fails id open_clause = sym (one_fails (is_settled live n pivot groups) id (settled_at n pivot groups live id
      ∙ open_clause) (finmap.keys live)
      (sym (finmap.contains_key-keys live id) ∙ live_open n pivot groups id (clause_at live id) open_clause))

  pub near_open : (id : ℕ) (near far : Place) → settles_at n pivot groups id near ≡ false → settles_at n pivot groups id (or_else near far)
      ≡ false
  near_open id None far e = cc
  near_open id (Some clause) far e = e

  pub far_open : (id : ℕ) (near far : Place) → (is_some near ≡ true → far ≡ None) → settles_at n pivot groups id far ≡ false
      → settles_at n pivot groups id (or_else near far) ≡ false
  far_open id None far apart e = e
  far_open id (Some clause) far apart e = let no : true ≡ false = ap (settles_at n pivot groups id) (sym (apart refl)) ∙ e in cc

-- the entries of a map
module _ (test : ℕ → List ℤ → Bool) where
  abbrev entry_passes : ℕ × List ℤ → Bool
  entry_passes entry = test entry.0 entry.1

  pub one_entry_more : (yielded : List (Bor ℕ × Bor (List ℤ))) (entry : Bor ℕ × Bor (List ℤ))
      → list_all entry_passes (map deref_pair yielded) ≡ true → test entry.0.now entry.1.now ≡ true
      → list_all entry_passes (map deref_pair (yielded ++ entry ∷ [])) ≡ true
  one_entry_more yielded entry so_far passes =
      ap (list_all entry_passes) (map-append deref_pair yielded (entry ∷ []))
      ∙ list_all-append entry_passes (map deref_pair yielded) (deref_pair entry ∷ [])
      ∙ and_from (list_all entry_passes (map deref_pair yielded)) (test entry.0.now entry.1.now
      && true) so_far (and_from _ true passes refl)

  pub entries_pass : (entries : List (ℕ × List ℤ)) → list_all entry_passes entries ≡ true → (id : ℕ)
      → passes_at test id (lookup (nat_eq id) entries) ≡ true
  entries_pass [] all id = refl
  entries_pass (entry ∷ entries) all id =
      let parts = and_parts (entry_passes entry) (list_all entry_passes entries) all in
      elim (nat_eq id entry.0) as (λ b. nat_eq id entry.0 ≡ b → passes_at test id (cond b (Some entry.1) (lookup (nat_eq id) entries))
      ≡ true) [
        | true ↦ λ same. ap (λ k. test k entry.1) (exact_unsigned_eq id entry.0 same) ∙ parts.0
        | false ↦ λ other. entries_pass entries parts.1 id
      ] refl

  -- a clause in the chunks stands there, one in the map only where none stands in the chunks
  pub both_pass : (id : ℕ) (near far : Place) → passes_at test id near ≡ true → passes_at test id far ≡ true
      → passes_at test id (or_else near far) ≡ true
  both_pass id None far e f = f
  both_pass id (Some clause) far e f = e

-- a test and what it decides
pub decided : (result whole : Bool) → (result ≡ true → true ≡ whole) → (result ≡ false → false ≡ whole) → result ≡ whole
decided true whole passes fails = passes refl
decided false whole passes fails = fails refl
