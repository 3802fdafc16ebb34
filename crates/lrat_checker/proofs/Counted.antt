-- The counts bound how often literals stand in the live clauses, and how many candidates there are.
use Rattle.std.proofs.Common.{◌≡◌, ℕ, zero, suc, ◌+◌, ◌-◌, ◌<◌, ◌≤◌, ◌≢◌, Bool, true, false, not, ◌||◌, cond, max, ℤ, neg_ℤ, List, []}
use Rattle.std.proofs.Common.{◌∷◌, Option, None, Some, count_by, length, get_or, add-one, refl, sym, ◌∙◌, ap, arith, int_eq}
use Rattle.std.proofs.Common.{nat_cmp, eq-eqb, ne_eqb}
use Rattle.std.specs.Prelude.{if◌then◌else◌, ◌==◌}
use Rattle.std.specs.FinMap as finmap
use Rattle.std.specs.List.{list_any, list_all}
use Rattle.std.proofs.lemmas.List.Sums.{sum_by-cons}
use Rattle.std.proofs.lemmas.Bool.{and_parts, or_left, or_right}
use Rattle.std.proofs.lemmas.Map.Views.{exact_unsigned_eq}
use Rattle.cnf_base.specs.declared.list.Group.{Group}
use Rattle.lrat_rules.specs.State.{Live, clause_at, with_clause}
use Rattle.lrat_rules.specs.Chain.{FalseSet}
use Rattle.lrat_rules.specs.Addition.{if_live, holds_negated, is_blocked, is_candidate, is_settled}
use Rattle.lrat_checker.specs.declared.counts.Counts.{Counts}
use Rattle.lrat_checker.specs.Counts.{total, times_in, times_at, count_of, AreCounted}
use Rattle.lrat_checker.specs.Walk.{has_group, one_where, name_candidates, IsCountOfNumbers}
use Rattle.lrat_checker.proofs.Stored.{with_at, without_at}
use Rattle.lrat_checker.proofs.Totals.{total_le, total_less, total_grows, total_raised, total_lowered}

abbrev times_under : Live → ℤ → ℕ → ℕ
times_under live literal id = times_at literal (clause_at live id)

none_under : (literal : ℤ) (n : ℕ) → total (times_under finmap.empty literal) n ≤ 0
none_under literal n = omega (
  arith,
  total_le (times_under finmap.empty literal) (λ _. 0)
      (λ i. omega (arith, ap (times_at literal) (finmap.get-empty nat_cmp i))) n,
  zeros n,
) where
  zeros : (n : ℕ) → total (λ _. 0) n ≡ 0
  zeros zero = refl
  zeros (suc n) = omega (arith, zeros n)

pub counted_none : (counts : Counts) (live : Live) → live ≡ finmap.empty → AreCounted counts live
counted_none counts live none = record {
  counted = λ literal n. omega
      (arith, ap (λ (l : Live). total (times_under l literal) n) none, none_under literal n);
}

-- greater counts
pub counted_more : (old new : Counts) (live : Live) → AreCounted old live → ((x : ℤ) → count_of old x ≤ count_of new x)
    → AreCounted new live
counted_more old new live counted more = record { counted = λ literal n. omega (arith, counted.counted literal n, more literal) }

other_clause : (live : Live) (number : ℕ) (clause : List ℤ) (literal : ℤ) (i : ℕ) → i ≢ number
    → times_under (with_clause live number clause) literal i ≡ times_under live literal i
other_clause live number clause literal i other = ap (times_at literal) (with_at live number clause i
    ∙ ap (λ b. if b then Some clause else clause_at live i) (ne_eqb i number other))

pub counted_insert : (old new : Counts) (live : Live) (number : ℕ) (clause : List ℤ) → AreCounted old live
    → ((x : ℤ) → count_of new x ≡ count_of old x + times_in x clause)
    → AreCounted new (with_clause live number clause)
counted_insert old new live number clause counted entered = record {
  counted = λ literal n.
      let here : times_under (with_clause live number clause) literal number ≡ times_in literal clause =
      ap (times_at literal) (with_at live number clause number ∙ ap (λ b. if b then Some clause else clause_at live number)
      (eq-eqb number number refl)) in
      omega (
        arith,
        total_raised (times_under live literal) (times_under (with_clause live number clause) literal) number
            (other_clause live number clause literal) n,
        here,
        counted.counted literal n,
        entered literal,
      );
}

pub counted_remove : (old new : Counts) (live : Live) (number : ℕ) → AreCounted old live
    → ((x : ℤ) → count_of new x ≡ count_of old x - times_at x (clause_at live number))
    → AreCounted new (finmap.remove live number)
counted_remove old new live number counted left = record {
  counted = λ literal n.
      let other : (i : ℕ) → i ≢ number → times_under (finmap.remove live number) literal i ≡ times_under live literal i =
      λ i differ. ap (times_at literal) (without_at live number i
      ∙ ap (λ b. if b then None else clause_at live i) (ne_eqb i number differ)) in
      let none : times_under (finmap.remove live number) literal number ≡ 0 =
      ap (times_at literal) (without_at live number number ∙ ap (λ b. if b then None else clause_at live number)
      (eq-eqb number number refl)) in
      omega (
        arith,
        total_lowered (times_under live literal) (times_under (finmap.remove live number) literal) number other none
            (count_of old literal) (counted.counted literal) n,
        left literal,
      );
}

-- a literal stands at least once in a clause that holds it
held_once : (p : ℤ → Bool) (clause : List ℤ) → cond (list_any p clause) 1 0 ≤ count_by p clause
held_once p [] = omega arith
held_once p (x ∷ clause) =
    let first : count_by p (x ∷ clause) ≡ cond (p x) 1 0 + count_by p clause = sum_by-cons (λ y. cond (p y) 1 0) x clause in
    let both : (a b : Bool) (n : ℕ) → cond b 1 0 ≤ n → cond (a || b) 1 0 ≤ cond a 1 0 + n =
    λ a b n le. elim a as (λ a. cond (a || b) 1 0 ≤ cond a 1 0 + n) [ true ↦ omega arith | false ↦ omega (arith, le) ] in
    omega (arith, first, both (p x) (list_any p clause) (count_by p clause) (held_once p clause))

candidate_once : (pivot : ℤ) (o : Option (List ℤ)) → cond (if_live (holds_negated pivot) o) 1 0 ≤ times_at (neg_ℤ pivot) o
candidate_once pivot None = omega arith
candidate_once pivot (Some clause) = held_once (int_eq (neg_ℤ pivot)) clause

-- a number that groups name, each a candidate, is a candidate
named_candidate : (live : Live) (pivot : ℤ) (groups : List Group) (id : ℕ) → name_candidates live pivot groups ≡ true
    → has_group groups id ≡ true → is_candidate live pivot id ≡ true
named_candidate live pivot [] id all named = cc
named_candidate live pivot (group ∷ groups) id all named =
    let parts = and_parts (is_candidate live pivot group.id) (name_candidates live pivot groups) all in
    elim (group.id == id) as (λ b. (group.id == id) ≡ b → (b || has_group groups id) ≡ true → is_candidate live pivot id ≡ true) [
      | true ↦ λ same _. ap (is_candidate live pivot) (sym (exact_unsigned_eq group.id id same)) ∙ parts.0
      | false ↦ λ _ later. named_candidate live pivot groups id parts.1 later
    ] refl named

named_less : (a b : Bool) → (b ≡ true → a ≡ true) → cond b 1 0 ≤ cond a 1 0
named_less a false each = omega arith
named_less true true each = omega arith
named_less false true each = let no : false ≡ true = each refl in absurd (cc)

unnamed_less : (a b : Bool) → a ≡ true → b ≡ false → cond b 1 0 + 1 ≤ cond a 1 0
unnamed_less true true e f = absurd (cc)
unnamed_less true false e f = omega arith
unnamed_less false b e f = absurd (cc)

-- where groups name as many candidates as there can be, they name each
module _ (counts : Counts) (live : Live) (pivot : ℤ) (groups : List Group) (count : ℕ) (counted : AreCounted counts live)
    (candidates_named : name_candidates live pivot groups ≡ true) (named : IsCountOfNumbers groups count)
    (enough : count_of counts (neg_ℤ pivot) ≤ count) where
  all_named : (id : ℕ) → is_candidate live pivot id ≡ true → has_group groups id ≡ true
  all_named id candidate =
      elim (has_group groups id) as (λ b. has_group groups id ≡ b → b ≡ true) [
        | true ↦ λ is. refl
        | false ↦ λ is.
            let bound = max named.bound (id + 1) in
            let candidates = one_where (is_candidate live pivot) in
            let with_groups = one_where (has_group groups) in
            let less : total with_groups bound + 1 ≤ total candidates bound =
            total_less with_groups candidates (λ i. named_less (is_candidate live pivot i) (has_group groups i)
            (named_candidate live pivot groups i candidates_named)) id
            (unnamed_less (is_candidate live pivot id) (has_group groups id) candidate is) bound (omega arith) in
            absurd (omega (
              arith,
              less,
              total_le candidates (times_under live (neg_ℤ pivot)) (λ i. candidate_once pivot (clause_at live i)) bound,
              counted.counted (neg_ℤ pivot) bound,
              enough,
              named.named,
              total_grows with_groups named.bound bound (omega arith),
            ))
      ] refl

  settled : (n : FalseSet) (id : ℕ) → is_settled live n pivot groups id ≡ true
  settled n id =
      elim (is_candidate live pivot id) as (λ b. is_candidate live pivot id ≡ b
      → (not b || is_blocked live n pivot id || has_group groups id) ≡ true) [
        | true ↦ λ is. rw (all_named id is) (or_true (is_blocked live n pivot id))
        | false ↦ λ is. refl
      ] refl where
        or_true : (b : Bool) → (b || true) ≡ true
        or_true true = refl
        or_true false = refl

  pub all_settled_by_count : (n : FalseSet) → true ≡ list_all (is_settled live n pivot groups) (finmap.keys live)
  all_settled_by_count n = sym (each (finmap.keys live)) where
    each : (ids : List ℕ) → list_all (is_settled live n pivot groups) ids ≡ true
    each [] = refl
    each (id ∷ ids) = rw (settled n id) (each ids)

-- one number more that a group names
group_here : (groups : List Group) (place : ℕ) (group : Group) → place < length groups → group ≡ get_or groups place group
    → has_group groups group.id ≡ true
group_here [] place group lt is = absurd (omega arith)
group_here (first ∷ groups) zero group lt is = or_left (first.id == group.id) (has_group groups group.id)
    (eq-eqb first.id group.id (ap (λ (g : Group). g.id) (sym is)))
group_here (first ∷ groups) (suc place) group lt is = or_right (first.id == group.id) (has_group groups group.id)
    (group_here groups place group (omega arith) is)

pub named_next : (groups : List Group) (last named place : ℕ) (group : Group) → place < length groups → group ≡ get_or groups place group
    → last < group.id → named ≤ total (one_where (has_group groups)) (last + 1)
    → named + 1 ≤ total (one_where (has_group groups)) (group.id + 1)
named_next groups last named place group lt is next so_far =
    let named_where = one_where (has_group groups) in
    let one : named_where group.id ≡ 1 = ap (λ b. cond b 1 0) (group_here groups place group lt is) in
    let more : total named_where (group.id + 1) ≡ total named_where group.id + named_where group.id = rw add-one refl in
    omega (arith, total_grows named_where (last + 1) group.id (omega (arith, next)), one, more, so_far)
