-- The variables of a clause are changed once each, however often they stand in it.
use Rattle.std.proofs.Common.{◌≡◌, ℕ, ◌+◌, ◌<◌, ◌≤◌, ◌==◌, Bool, true, false, ◌||◌, ℤ, nat_abs, List, [], ◌∷◌, length, take, set, inl, inr}
use Rattle.std.proofs.Common.{refl, sym, ap, ◌∙◌, arith, eq-eqb, ne_eqb}
use Rattle.std.specs.Prelude.{slice_index_or, if◌then◌else◌, min, ◌-◌}
use Rattle.std.specs.List.{list_any}
use Rattle.std.proofs.lemmas.Bool.{cases_eq, cases_Bool}
use Rattle.std.proofs.lemmas.List.{take_more, get_or-set_same, get_or-set_other}
use Rattle.std.proofs.lemmas.List.Folds.{list_any-append}
use Rattle.schedule_plan.specs.declared.schedule.uses.Use.{Use}
use Rattle.schedule_plan.specs.Plan.{clause_has}
use Rattle.schedule_plan.specs.ScheduleState.{no_use, use_at, counted, with_push, changed, is_among, use_behind, when_quantified}

-- what marks a use that isn't marked yet does nothing the second time
marked_twice : (mark : ℕ) (next : Use → Use) (u : Use) → (next u).seen ≡ mark
    → ((v : Use) → v.seen ≡ mark → (if v.seen == mark then v else next v) ≡ v)
    → (if (if u.seen == mark then u else next u).seen == mark then (if u.seen == mark then u else next u) else next
    (if u.seen == mark then u else next u)) ≡ (if u.seen == mark then u else next u)
marked_twice mark next u marks stays =
    elim (cases_Bool (u.seen == mark)) [
      | inl same ↦
          let e : (if u.seen == mark then u else next u) ≡ u = ap (λ b. if b then u else next u) same in
          ap (λ (v : Use). if v.seen == mark then v else next v) e
      | inr differ ↦
          let e : (if u.seen == mark then u else next u) ≡ next u = ap (λ b. if b then u else next u) differ in
          ap (λ (v : Use). if v.seen == mark then v else next v) e ∙ stays (next u) marks ∙ sym e
    ]

stays_marked : (mark : ℕ) (next : Use → Use) (v : Use) → v.seen ≡ mark → (if v.seen == mark then v else next v) ≡ v
stays_marked mark next v marks = ap (λ b. if b then v else next v) (eq-eqb v.seen mark marks)

pub counted_twice : (mark : ℕ) (u : Use) → counted mark (counted mark u) ≡ counted mark u
counted_twice mark u =
    let next : Use → Use = λ v. record { to_come = v.to_come + 1; earliest = v.earliest; seen = mark } in
    marked_twice mark next u refl (stays_marked mark next)

pub pushed_twice : (mark place : ℕ) (u : Use) → with_push mark place (with_push mark place u) ≡ with_push mark place u
pushed_twice mark place u =
    let next : Use → Use = λ v. record { to_come = v.to_come - 1; earliest = min v.earliest place; seen = mark } in
    marked_twice mark next u refl (stays_marked mark next)

or_true : (b : Bool) → (b || true) ≡ true
or_true true = refl
or_true false = refl

or_false : (b : Bool) → (b || false) ≡ b
or_false true = refl
or_false false = refl

again : (change : Use → Use) → ((u : Use) → change (change u) ≡ change u) → (had : Bool) (u : Use) → change (if had then change u else u)
    ≡ change u
again change twice true u = twice u
again change twice false u = refl

-- one more literal
pub changed_more : (change : Use → Use) → ((u : Use) → change (change u) ≡ change u)
    → (clause : List ℤ) (k : ℕ) (literal : ℤ) (v : ℕ) (value : Use) (old now : List Use) → k < length clause
    → literal ≡ slice_index_or clause k literal → v ≡ nat_abs literal → v < length now → value ≡ change (use_at now v)
    → ((x : ℕ) → use_at now x ≡ changed change (take k clause) old x)
    → (x : ℕ) → use_at (set now v value) x ≡ changed change (take (k + 1) clause) old x
changed_more change twice clause k literal v value old now small is v_is within value_is before x =
    let number : nat_abs (slice_index_or clause k literal) ≡ v = ap nat_abs (sym is) ∙ sym v_is in
    let had = clause_has x (take k clause) in
    let has : clause_has x (take (k + 1) clause) ≡ (had || list_any (λ l. nat_abs l == x) (slice_index_or clause k literal ∷ [])) =
    ap (clause_has x) (take_more clause k literal small)
    ∙ list_any-append (λ l. nat_abs l == x) (take k clause) (slice_index_or clause k literal ∷ []) in
    elim (cases_eq v x) [
      | inl same ↦
          let one : list_any (λ l. nat_abs l == x) (slice_index_or clause k literal ∷ []) ≡ true =
          ap (λ (n : ℕ). (n == x) || false) number ∙ ap (λ b. b || false) (eq-eqb v x same) in
          let all : (had || list_any (λ l. nat_abs l == x) (slice_index_or clause k literal ∷ [])) ≡ true =
          ap (λ b. had || b) one ∙ or_true had in
          let here : use_at (set now v value) x ≡ change (use_at now x) =
          ap (λ y. use_at (set now v value) y) (sym same) ∙ get_or-set_same now v value no_use within ∙ value_is
          ∙ ap (λ y. change (use_at now y)) same in
          here ∙ ap change (before x) ∙ again change twice had (use_at old x)
          ∙ sym (ap (λ b. if b then change (use_at old x) else use_at old x) (has ∙ all))
      | inr differ ↦
          let one : list_any (λ l. nat_abs l == x) (slice_index_or clause k literal ∷ []) ≡ false =
          ap (λ (n : ℕ). (n == x) || false) number ∙ ap (λ b. b || false) (ne_eqb v x differ) in
          let all : (had || list_any (λ l. nat_abs l == x) (slice_index_or clause k literal ∷ [])) ≡ had =
          ap (λ b. had || b) one ∙ or_false had in
          get_or-set_other now v x value no_use (λ same. differ (sym same)) ∙ before x
          ∙ sym (ap (λ b. if b then change (use_at old x) else use_at old x) (has ∙ all))
    ]

pub counted_small : (mark : ℕ) (has : Bool) (u : Use) → u.to_come ≤ 10000000 → (if has then counted mark u else u).to_come ≤ 10000001
counted_small mark true u few =
    elim (u.seen == mark) as (λ b. (if b then u else record { to_come = u.to_come + 1; earliest = u.earliest; seen = mark }).to_come
    ≤ 10000001) [
      | true ↦ omega (arith, few)
      | false ↦ omega (arith, few)
    ]
counted_small mark false u few = omega (arith, few)

-- one more variable of a set
pub quantified_more : (xs : List ℕ) (k d v : ℕ) (value : Use) (old now : List Use) → k < length xs → v ≡ slice_index_or xs k d
    → v < length now → value ≡ when_quantified (use_at now v) → ((x : ℕ) → use_at now x ≡ use_behind (take k xs) old x)
    → (x : ℕ) → use_at (set now v value) x ≡ use_behind (take (k + 1) xs) old x
quantified_more xs k d v value old now small is within value_is before x =
    let had = is_among (take k xs) x in
    let has : is_among (take (k + 1) xs) x ≡ (had || list_any (λ y. x == y) (slice_index_or xs k d ∷ [])) =
    ap (λ (l : List ℕ). is_among l x) (take_more xs k d small)
    ∙ list_any-append (λ y. x == y) (take k xs) (slice_index_or xs k d ∷ []) in
    elim (cases_eq x v) [
      | inl same ↦
          let one : list_any (λ y. x == y) (slice_index_or xs k d ∷ []) ≡ true =
          ap (λ (n : ℕ). (x == n) || false) (sym is) ∙ ap (λ b. b || false) (eq-eqb x v same) in
          let all : (had || list_any (λ y. x == y) (slice_index_or xs k d ∷ [])) ≡ true = ap (λ b. had || b) one ∙ or_true had in
          let here : use_at (set now v value) x ≡ when_quantified (use_at now x) =
          ap (λ y. use_at (set now v value) y) same ∙ get_or-set_same now v value no_use within ∙ value_is
          ∙ ap (λ y. when_quantified (use_at now y)) (sym same) in
          here ∙ ap when_quantified (before x) ∙ again when_quantified (λ u. refl) had (use_at old x)
          ∙ sym (ap (λ b. if b then when_quantified (use_at old x) else use_at old x) (has ∙ all))
      | inr differ ↦
          let one : list_any (λ y. x == y) (slice_index_or xs k d ∷ []) ≡ false =
          ap (λ (n : ℕ). (x == n) || false) (sym is) ∙ ap (λ b. b || false) (ne_eqb x v differ) in
          let all : (had || list_any (λ y. x == y) (slice_index_or xs k d ∷ [])) ≡ had = ap (λ b. had || b) one ∙ or_false had in
          get_or-set_other now v x value no_use differ ∙ before x
          ∙ sym (ap (λ b. if b then when_quantified (use_at old x) else use_at old x) (has ∙ all))
    ]
