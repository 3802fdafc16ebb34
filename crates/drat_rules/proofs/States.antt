-- The list that has the live clauses, at the start and behind each addition and each number that is deleted.
use Rattle.std.proofs.Common.{◌≡◌, ℕ, ◌+◌, ◌<◌, Bool, true, false, cond, ℤ, List, [], ◌∷◌, ◌++◌, length, Option, None, Some, nat_cmp}
use Rattle.std.proofs.Common.{refl, sym, ap, ◌∙◌, subst, arith, ne_eqb}
use Rattle.std.specs.List.{count_by}
use Rattle.std.specs.Ordering.{eq_by_cmp}
use Rattle.std.specs.Cmp.{unsigned_tied}
use Rattle.std.specs.FinMap as finmap
use Rattle.std.proofs.lemmas.Bool.{leb-false, false_from_ne_true}
use Rattle.std.proofs.lemmas.Cmp.{nat_cmp_total}
use Rattle.std.proofs.lemmas.List.{nil_from_length}
use Rattle.cnf_base.specs.declared.list.Group.{Group}
use Rattle.lrat_rules.specs.State.{State, Live, clause_at, start, numbered_from, with_clause}
use Rattle.lrat_rules.specs.Addition.{fault}
use Rattle.drat_rules.specs.Clauses.{same_list, count_of, without_first}
use Rattle.drat_rules.specs.FromLrat.{HaveSame, IsListOf}
use Rattle.drat_rules.proofs.Counts.{without_none, one_if, count-cons, count-push, count-without_first}
use Rattle.drat_rules.proofs.LiveClauses.{count-insert, count-remove, remove_none}
use Rattle.drat_rules.proofs.LratAdditions.{live_in_list, list_is_live, above_top}

untied : (k q : ℕ) → (k ≡ q → ⊥) → eq_by_cmp nat_cmp k q ≡ false
untied k q other = unsigned_tied k q ∙ ne_eqb k q other

-- at the start
count-empty : (p : List ℤ → Bool) → count_by p (finmap.values (finmap.empty {X = List ℤ} {R = nat_cmp})) ≡ 0
count-empty p =
    let none : finmap.entries (finmap.empty {X = List ℤ} {R = nat_cmp}) ≡ [] =
    nil_from_length _ (sym (finmap.len-entries (finmap.empty {X = List ℤ} {R = nat_cmp})) ∙ finmap.len-empty nat_cmp (List ℤ)) in
    rw none refl

none_below : (first : ℕ) (clauses : List (List ℤ)) (id : ℕ) → id < first
    → clause_at (finmap.from_entries (numbered_from first clauses)) id ≡ None
none_below first clauses id h = finmap.get-from_entries nat_cmp_total (numbered_from first clauses) id ∙ not_found first clauses h where
  not_found : (first : ℕ) (clauses : List (List ℤ)) → id < first → finmap.find nat_cmp id (numbered_from first clauses) ≡ None
  not_found first [] h = refl
  not_found first (clause ∷ clauses) h =
      ap (λ b. cond b (Some clause) (finmap.find nat_cmp id (numbered_from (first + 1) clauses))) (untied id first (λ same. omega arith))
      ∙ not_found (first + 1) clauses (omega arith)

count-numbered : (p : List ℤ → Bool) (first : ℕ) (clauses : List (List ℤ))
    → count_by p (finmap.values (finmap.from_entries {R = nat_cmp} (numbered_from first clauses))) ≡ count_by p clauses
count-numbered p first [] = count-empty p
count-numbered p first (clause ∷ clauses) =
    count-insert p (finmap.from_entries (numbered_from (first + 1) clauses)) first clause
    (none_below (first + 1) clauses first (omega arith))
    ∙ ap (λ (k : ℕ). one_if (p clause) + k) (count-numbered p (first + 1) clauses)
    ∙ sym (count-cons p clause clauses)

pub HaveSame-start : (clauses : List (List ℤ)) → HaveSame (start clauses).live clauses
HaveSame-start clauses = record { counts = λ clause. count-numbered (same_list clause) 1 clauses }

pub IsListOf-start : ((clauses : List (List ℤ)) (id : ℕ) → length clauses < id → clause_at (start clauses).live id ≡ None)
    → (clauses : List (List ℤ)) → IsListOf (start clauses) clauses
IsListOf-start none_above clauses = record {
  same = HaveSame-start clauses;
  none_above = none_above clauses;
}

-- behind an addition
pub HaveSame-added : (live : Live) (clauses : List (List ℤ)) (id : ℕ) (clause : List ℤ) → HaveSame live clauses → clause_at live id ≡ None
    → HaveSame (with_clause live id clause) (clauses ++ clause ∷ [])
HaveSame-added live clauses id clause same none = record {
  counts = λ other.
      let new : count_of other (finmap.values (with_clause live id clause)) ≡ one_if (same_list other clause)
      + count_of other (finmap.values live) = count-insert (same_list other) live id clause none in
      let pushed : count_of other (clauses ++ clause ∷ []) ≡ count_of other clauses + one_if (same_list other clause) =
      count-push (same_list other) clauses clause in
      let before : count_of other (finmap.values live) ≡ count_of other clauses = same.counts other in
      omega arith;
}

pub IsListOf-added : (state : State) (clauses : List (List ℤ)) (id : ℕ) (clause : List ℤ) (hints : List ℕ) (groups : List Group)
    → IsListOf state clauses → fault state id clause hints groups ≡ None
    → IsListOf record { live = with_clause state.live id clause; top = id } (clauses ++ clause ∷ [])
IsListOf-added state clauses id clause hints groups l good =
    let above : state.top < id = leb-false id state.top (above_top state id clause hints groups good) in
    record {
      same = HaveSame-added state.live clauses id clause l.same (l.none_above id above);
      none_above = λ q h.
          finmap.get-insert nat_cmp_total state.live id clause q
          ∙ ap (λ b. cond b (Some clause) (clause_at state.live q)) (untied q id (λ same. omega arith))
          ∙ l.none_above q (omega arith);
    }

-- behind the deletion of a clause that has no number
pub without_dead : (live : Live) (clauses : List (List ℤ)) (clause : List ℤ) → HaveSame live clauses
    → ((id : ℕ) → clause_at live id ≡ Some clause → ⊥) → without_first clause clauses ≡ clauses
without_dead live clauses clause same dead =
    without_none clause clauses (false_from_ne_true _ (λ among. let at = list_is_live live clauses same clause among in dead at.0 at.1))

-- behind the deletion of a number
pub HaveSame-deleted : (live : Live) (clauses : List (List ℤ)) (id : ℕ) (clause : List ℤ) → HaveSame live clauses
    → clause_at live id ≡ Some clause → HaveSame (finmap.remove live id) (without_first clause clauses)
HaveSame-deleted live clauses id clause same at = record {
  counts = λ other.
      let old : count_of other (finmap.values live) ≡ one_if (same_list other clause)
      + count_of other (finmap.values (finmap.remove live id)) =
      count-remove (same_list other) live id clause at in
      let taken : count_of other clauses ≡ one_if (same_list other clause) + count_of other (without_first clause clauses) =
      count-without_first other clause clauses (live_in_list live clauses same id clause at) in
      let before : count_of other (finmap.values live) ≡ count_of other clauses = same.counts other in
      omega arith;
}

none_of : (b : Bool) (o : Option (List ℤ)) → o ≡ None → cond b None o ≡ None
none_of true o e = refl
none_of false o e = e

none_above-removed : (live : Live) (top id : ℕ) → ((q : ℕ) → top < q → clause_at live q ≡ None) → (q : ℕ) → top < q
    → clause_at (finmap.remove live id) q ≡ None
none_above-removed live top id none q h =
    finmap.get-remove nat_cmp_total live id q ∙ none_of (eq_by_cmp nat_cmp q id) (clause_at live q) (none q h)

pub IsListOf-deleted : (state : State) (clauses : List (List ℤ)) (id : ℕ) (clause : List ℤ) → IsListOf state clauses
    → clause_at state.live id ≡ Some clause
    → IsListOf record { live = finmap.remove state.live id; top = state.top } (without_first clause clauses)
IsListOf-deleted state clauses id clause l at = record {
  same = HaveSame-deleted state.live clauses id clause l.same at;
  none_above = none_above-removed state.live state.top id l.none_above;
}

pub IsListOf-passed_over : (state : State) (clauses : List (List ℤ)) (id : ℕ) → IsListOf state clauses → clause_at state.live id ≡ None
    → IsListOf record { live = finmap.remove state.live id; top = state.top } clauses
IsListOf-passed_over state clauses id l none = record {
  same = subst (λ m. HaveSame m clauses) (sym (remove_none state.live id none)) l.same;
  none_above = none_above-removed state.live state.top id l.none_above;
}
