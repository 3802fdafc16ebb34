-- The values of the live map by its look-ups: how often a clause is among them once one is put in or taken out, and that one
-- is among them exactly where it has a number.
use Rattle.std.proofs.Common.{◌≡◌, ℕ, ◌+◌, Bool, true, false, cond, ◌&&◌, ℤ, List, [], ◌∷◌, map, None, Some, refl, sym, ap, ◌∙◌}
use Rattle.std.proofs.Common.{arith, nat_cmp, inl, inr, eqb-true, eq-eqb}
use Rattle.std.specs.Prelude.{T}
use Rattle.std.specs.List.{list_any, count_by}
use Rattle.std.specs.Ordering.{eq_by_cmp, is_eq, is_lt}
use Rattle.std.specs.declared.cmp.Ordering.TheVariants.{Less, Equal, Greater}
use Rattle.std.specs.Cmp.{unsigned_tied}
use Rattle.std.specs.FinMap as finmap
use Rattle.std.specs.FinMap.Entries.{put, find, is_sorted, below_all, by_order}
use Rattle.std.proofs.lemmas.Bool.{or_cases, or_left, or_right}
use Rattle.std.proofs.lemmas.Cmp.{nat_cmp_total}
use Rattle.lrat_rules.specs.State.{Live, clause_at}
use Rattle.drat_rules.specs.Clauses.{same_list}
use Rattle.drat_rules.proofs.Counts.{one_if, count-cons, eq-same_list}

-- the clauses of entries
abbrev clauses_of : List (ℕ × List ℤ) → List (List ℤ)
clauses_of es = map (λ e. e.1) es

same_inside : (x y : List ℤ) → Some x ≡ Some y → x ≡ y
same_inside x y e = cc

tied : (k q : ℕ) → eq_by_cmp nat_cmp k q ≡ true → k ≡ q
tied k q t = eqb-true k q (sym (unsigned_tied k q) ∙ t)

tied_itself : (k : ℕ) → eq_by_cmp nat_cmp k k ≡ true
tied_itself k = unsigned_tied k k ∙ eq-eqb k k refl

-- an entry that is put in under a new number
count-put : (p : List ℤ → Bool) (k : ℕ) (v : List ℤ) (es : List (ℕ × List ℤ)) → find nat_cmp k es ≡ None
    → count_by p (clauses_of (put nat_cmp k v es)) ≡ one_if (p v) + count_by p (clauses_of es)
count-put p k v [] none = count-cons p v []
count-put p k v (e ∷ es) none =
    elim (nat_cmp k e.0)
    as (λ r. cond (is_eq r) (Some e.1) (find nat_cmp k es) ≡ None
    → count_by p (clauses_of (by_order r ((k, v) ∷ e ∷ es) ((e.0, v) ∷ es) (e ∷ put nat_cmp k v es)))
    ≡ one_if (p v) + count_by p (clauses_of (e ∷ es))) [
      | Less ↦ λ n. count-cons p v (clauses_of (e ∷ es))
      | Equal ↦ λ n. cc
      | Greater ↦ λ n.
          let rest : count_by p (clauses_of (put nat_cmp k v es)) ≡ one_if (p v) + count_by p (clauses_of es) = count-put p k v es n in
          let new : count_by p (e.1 ∷ clauses_of (put nat_cmp k v es)) ≡ one_if (p e.1) + count_by p (clauses_of (put nat_cmp k v es)) =
          count-cons p e.1 (clauses_of (put nat_cmp k v es)) in
          let old : count_by p (e.1 ∷ clauses_of es) ≡ one_if (p e.1) + count_by p (clauses_of es) = count-cons p e.1 (clauses_of es) in
          omega arith
    ] none

pub count-insert : (p : List ℤ → Bool) (live : Live) (id : ℕ) (clause : List ℤ) → clause_at live id ≡ None
    → count_by p (finmap.values (finmap.insert live id clause)) ≡ one_if (p clause) + count_by p (finmap.values live)
count-insert p live id clause none =
    ap (λ es. count_by p (clauses_of es)) (finmap.entries-insert nat_cmp_total live id clause)
    ∙ count-put p id clause (finmap.entries live) (sym (finmap.get-entries live id) ∙ none)

-- a clause that is taken out and put back
put_back : (live : Live) (id : ℕ) (clause : List ℤ) → clause_at live id ≡ Some clause → live
    ≡ finmap.insert (finmap.remove live id) id clause
put_back live id clause at =
    finmap.same_map nat_cmp_total finmap.nat_cmp-IsAntisymmetric live (finmap.insert (finmap.remove live id) id clause)
    (λ q. sym (finmap.get-insert nat_cmp_total (finmap.remove live id) id clause q
    ∙ ap (λ o. cond (eq_by_cmp nat_cmp q id) (Some clause) o) (finmap.get-remove nat_cmp_total live id q)
    ∙ elim (eq_by_cmp nat_cmp q id)
    as (λ b. eq_by_cmp nat_cmp q id ≡ b → cond b (Some clause) (cond b None (clause_at live q)) ≡ clause_at live q) [
      | true ↦ λ t. sym (ap (clause_at live) (tied q id t) ∙ at)
      | false ↦ λ t. refl
    ] refl))

pub gone : (live : Live) (id : ℕ) → clause_at (finmap.remove live id) id ≡ None
gone live id = finmap.get-remove nat_cmp_total live id id ∙ ap (λ b. cond b None (clause_at live id)) (tied_itself id)

pub count-remove : (p : List ℤ → Bool) (live : Live) (id : ℕ) (clause : List ℤ) → clause_at live id ≡ Some clause
    → count_by p (finmap.values live) ≡ one_if (p clause) + count_by p (finmap.values (finmap.remove live id))
count-remove p live id clause at =
    ap (λ m. count_by p (finmap.values m)) (put_back live id clause at)
    ∙ count-insert p (finmap.remove live id) id clause (gone live id)

-- a number that isn't live
pub remove_none : (live : Live) (id : ℕ) → clause_at live id ≡ None → finmap.remove live id ≡ live
remove_none live id none =
    finmap.same_map nat_cmp_total finmap.nat_cmp-IsAntisymmetric (finmap.remove live id) live
    (λ q. finmap.get-remove nat_cmp_total live id q
    ∙ elim (eq_by_cmp nat_cmp q id) as (λ b. eq_by_cmp nat_cmp q id ≡ b → cond b None (clause_at live q) ≡ clause_at live q) [
      | true ↦ λ t. sym (ap (clause_at live) (tied q id t) ∙ none)
      | false ↦ λ t. refl
    ] refl)

-- a clause with a number is among the values
find_among : (k : ℕ) (clause : List ℤ) (es : List (ℕ × List ℤ)) → find nat_cmp k es ≡ Some clause
    → list_any (same_list clause) (clauses_of es) ≡ true
find_among k clause [] at = cc
find_among k clause (e ∷ es) at =
    elim (eq_by_cmp nat_cmp k e.0)
    as (λ b. cond b (Some e.1) (find nat_cmp k es) ≡ Some clause → list_any (same_list clause) (clauses_of (e ∷ es)) ≡ true) [
      | true ↦ λ here. or_left _ _ (eq-same_list clause e.1 (sym (same_inside e.1 clause here)))
      | false ↦ λ later. or_right (same_list clause e.1) _ (find_among k clause es later)
    ] at

pub among_values : (live : Live) (id : ℕ) (clause : List ℤ) → clause_at live id ≡ Some clause
    → list_any (same_list clause) (finmap.values live) ≡ true
among_values live id clause at = find_among id clause (finmap.entries live) (sym (finmap.get-entries live id) ∙ at)

-- and a value has a number

T_parts : (b c : Bool) → T (b && c) → T b × T c
T_parts true c h = (tt, h)
T_parts false c h = absurd h

missed : (k : ℕ) (es : List (ℕ × List ℤ)) → T (below_all nat_cmp k es) → find nat_cmp k es ≡ None
missed k [] h = refl
missed k (e ∷ es) h =
    elim (nat_cmp k e.0)
    as (λ r. T (is_lt r && below_all nat_cmp k es) → cond (is_eq r) (Some e.1) (find nat_cmp k es) ≡ None) [
      | Less ↦ λ b. missed k es b
      | Equal ↦ λ b. absurd b
      | Greater ↦ λ b. absurd b
    ] h

find_value : (p : List ℤ → Bool) (es : List (ℕ × List ℤ)) → T (is_sorted nat_cmp es) → list_any p (clauses_of es) ≡ true
    → (k : ℕ) × (c : List ℤ) × (find nat_cmp k es ≡ Some c) × (p c ≡ true)
find_value p [] s h = cc
find_value p (e ∷ es) s h =
    let parts : T (below_all nat_cmp e.0 es) × T (is_sorted nat_cmp es) = T_parts _ _ s in
    elim (or_cases (p e.1) _ h) [
      | inl here ↦ (e.0, e.1, ap (λ b. cond b (Some e.1) (find nat_cmp e.0 es)) (tied_itself e.0), here)
      | inr later ↦
          let rest : (k : ℕ) × (c : List ℤ) × (find nat_cmp k es ≡ Some c) × (p c ≡ true) = find_value p es parts.1 later in (
            rest.0,
            rest.1,
            elim (eq_by_cmp nat_cmp rest.0 e.0)
                as (λ b. eq_by_cmp nat_cmp rest.0 e.0 ≡ b → cond b (Some e.1) (find nat_cmp rest.0 es) ≡ Some rest.1) [
                  | true ↦ λ t.
                      let none : find nat_cmp rest.0 es ≡ None = ap (λ k. find nat_cmp k es) (tied rest.0 e.0 t) ∙ missed e.0 es parts.0 in
                      let some : find nat_cmp rest.0 es ≡ Some rest.1 = rest.2 in
                      cc
                  | false ↦ λ t. rest.2
                ] refl,
            rest.3,
          )
    ]

pub value_at : (p : List ℤ → Bool) (live : Live) → list_any p (finmap.values live) ≡ true
    → (k : ℕ) × (c : List ℤ) × (clause_at live k ≡ Some c) × (p c ≡ true)
value_at p live h =
    let found : (k : ℕ) × (c : List ℤ) × (find nat_cmp k (finmap.entries live) ≡ Some c) × (p c ≡ true) =
    find_value p (finmap.entries live) (finmap.entries_sorted live) h in
    (found.0, found.1, finmap.get-entries live found.0 ∙ found.2, found.3)
