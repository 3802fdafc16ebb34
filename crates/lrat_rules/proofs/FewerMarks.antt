-- Fewer live clauses have no more extension variables.
use Rattle.std.proofs.Common.{◌≡◌, ℕ, ◌+◌, ◌-◌, ◌<◌, ◌≤◌, Bool, true, false, not, ◌||◌, ◌&&◌, cond, ℤ, List, [], ◌∷◌, None, Some, nat_cmp}
use Rattle.std.proofs.Common.{refl, sym, ap, ◌∙◌, subst, inl, inr, arith, eq-eqb, eqb-true}
use Rattle.std.specs.Prelude.{nat_lt, is_some}
use Rattle.std.specs.List.{filter, flat_map, list_any}
use Rattle.std.specs.Ordering.{eq_by_cmp}
use Rattle.std.specs.Cmp.{unsigned_tied}
use Rattle.std.specs.FinMap as finmap
use Rattle.std.specs.FinSet as finset
use Rattle.std.proofs.lemmas.Bool.{and_from, or_left, or_right, or_cases, cases_Bool, cases_lt, both_ways}
use Rattle.std.proofs.lemmas.Cmp.{nat_cmp_total}
use Rattle.std.proofs.lemmas.List.Folds.{list_any-append}
use Rattle.lrat_rules.specs.State.{State, Live, clause_at}
use Rattle.lrat_rules.specs.Marks.{variables_of, live_variables, extension_variables, in_use}

-- A set of numbers within another one has no more of them.
abbrev Numbers : Type 0
Numbers = finset.FinSet nat_cmp

not_empty : (t : Numbers) (k : ℕ) → finset.contains t k ≡ true → 0 < finset.len t
not_empty t k holds = elim (cases_lt 0 (finset.len t)) [
  | inl positive ↦ positive
  | inr small ↦ absurd (both_ways (finset.contains t k) (ap (λ (s : Numbers). finset.contains s k) (finset.empty_of_len t (omega arith))
      ∙ finset.contains-empty nat_cmp k) holds)
]

-- a number that is in a list is none that isn't
other : (ks : List ℕ) (k q : ℕ) → finset.contains (finset.from_list {R = nat_cmp} ks) k ≡ false → list_any (eq_by_cmp nat_cmp q) ks ≡ true
    → eq_by_cmp nat_cmp q k ≡ false
other ks k q new h =
    elim (cases_Bool (eq_by_cmp nat_cmp q k)) [
      | inl same ↦ absurd (both_ways (finset.contains (finset.from_list {R = nat_cmp} ks) k) new
          (finset.contains-from_list nat_cmp_total ks k ∙ subst (λ n. list_any (eq_by_cmp nat_cmp n) ks
          ≡ true) (eqb-true q k (sym (unsigned_tied q k) ∙ same)) h))
      | inr differ ↦ differ
    ]

len-within : (xs : List ℕ) (t : Numbers) → ((q : ℕ) → list_any (eq_by_cmp nat_cmp q) xs ≡ true → finset.contains t q ≡ true)
    → finset.len (finset.from_list {R = nat_cmp} xs) ≤ finset.len t
len-within [] t within = let none = finset.len-empty nat_cmp in omega arith
len-within (k ∷ ks) t within =
    let s : Numbers = finset.from_list ks in
    let more = finset.len-insert nat_cmp_total s k in
    elim (cases_Bool (finset.contains s k)) [
      | inl again ↦
          let rest = len-within ks t (λ q h. within q (or_right _ _ h)) in
          let same : finset.len (finset.insert s k) ≡ finset.len s = more ∙ ap (λ b. cond b (finset.len s) (finset.len s + 1)) again in
          omega arith
      | inr new ↦
          let there : finset.contains t k ≡ true = within k (or_left _ _ (unsigned_tied k k ∙ eq-eqb k k refl)) in
          let some = not_empty t k there in
          let rest = len-within ks (finset.remove t k) (λ q h. finset.contains-remove nat_cmp_total t k q
          ∙ and_from _ _ (ap not (other ks k q new h)) (within q (or_right _ _ h))) in
          let longer : finset.len (finset.insert s k) ≡ finset.len s + 1 = more ∙ ap (λ b. cond b (finset.len s) (finset.len s + 1)) new in
          let fewer : finset.len (finset.remove t k) ≡ finset.len t - 1 = finset.len-remove nat_cmp_total t k
          ∙ ap (λ b. cond b (finset.len t - 1) (finset.len t)) there in
          omega arith
    ]

-- What a filtered list and a joined one hold.
any-filter : (test p : ℕ → Bool) (xs : List ℕ) → list_any test (filter p xs) ≡ list_any (λ x. p x && test x) xs
any-filter test p [] = refl
any-filter test p (x ∷ xs) =
    elim (p x) as (λ b. list_any test (cond b (x ∷ filter p xs) (filter p xs)) ≡ ((b && test x) || list_any (λ y. p y && test y) xs)) [
      | true ↦ ap (λ b. test x || b) (any-filter test p xs)
      | false ↦ any-filter test p xs
    ]

any-flat_map : (test : ℕ → Bool) (f : ℕ → List ℕ) (ids : List ℕ) → list_any test (flat_map f ids)
    ≡ list_any (λ id. list_any test (f id)) ids
any-flat_map test f [] = refl
any-flat_map test f (id ∷ ids) = list_any-append test (f id) (flat_map f ids)
    ∙ ap (λ b. list_any test (f id) || b) (any-flat_map test f ids)

-- one of the list that passes a test
some_of : (test : ℕ → Bool) (ids : List ℕ) → list_any test ids ≡ true → (id : ℕ) × (test id ≡ true)
some_of test [] h = cc
some_of test (id ∷ ids) h = elim (or_cases (test id) (list_any test ids) h) [ inl here ↦ (id, here) | inr later ↦ some_of test ids later ]

any_key : (test : ℕ → Bool) (ids : List ℕ) (id : ℕ) → list_any (eq_by_cmp nat_cmp id) ids ≡ true → test id ≡ true → list_any test ids ≡ true
any_key test [] id any passes = cc
any_key test (x ∷ xs) id any passes =
    elim (or_cases (eq_by_cmp nat_cmp id x) _ any) [
      | inl here ↦ or_left _ _ (subst (λ k. test k ≡ true) (eqb-true id x (sym (unsigned_tied id x) ∙ here)) passes)
      | inr later ↦ or_right _ _ (any_key test xs id later passes)
    ]

-- the clause under a number holds a variable that passes a test
abbrev has_variable : (ℕ → Bool) → Live → ℕ → Bool
has_variable test live id = list_any test (variables_of (clause_at live id))

has_variable-fewer : (test : ℕ → Bool) (few more : Live) → ((id : ℕ) (clause : List ℤ) → clause_at few id ≡ Some clause → clause_at more id
    ≡ Some clause)
    → (id : ℕ) → has_variable test few id ≡ true → (has_variable test more id ≡ true)
    × (list_any (eq_by_cmp nat_cmp id) (finmap.keys more) ≡ true)
has_variable-fewer test few more keeps id h =
    elim (clause_at few id) as (λ o. clause_at few id ≡ o → list_any test (variables_of o) ≡ true → (has_variable test more id ≡ true)
    × (list_any (eq_by_cmp nat_cmp id) (finmap.keys more) ≡ true)) [
      | None ↦ λ _ none. cc
      | Some clause ↦ λ is has. let at = keeps id clause is in
          (ap (λ o. list_any test (variables_of o)) at ∙ has, sym (finmap.contains_key-keys more id) ∙ ap is_some at)
    ] refl h

-- a number is an extension variable of the live clauses where some clause has it
holds-extension : (vars : ℕ) (live : Live) (q : ℕ)
    → list_any (eq_by_cmp nat_cmp q) (filter (nat_lt vars) (live_variables live))
    ≡ list_any (has_variable (λ x. nat_lt vars x && eq_by_cmp nat_cmp q x) live) (finmap.keys live)
holds-extension vars live q =
    any-filter (eq_by_cmp nat_cmp q) (nat_lt vars) (live_variables live)
    ∙ any-flat_map (λ x. nat_lt vars x && eq_by_cmp nat_cmp q x) (λ id. variables_of (clause_at live id)) (finmap.keys live)

pub in_use-fewer : (vars : ℕ) (few more : State) → ((id : ℕ) (clause : List ℤ) → clause_at few.live id ≡ Some clause
    → clause_at more.live id ≡ Some clause)
    → in_use vars few ≤ in_use vars more
in_use-fewer vars few more keeps =
    len-within (filter (nat_lt vars) (live_variables few.live)) (extension_variables vars more.live) (λ q h.
    let test : ℕ → Bool = λ x. nat_lt vars x && eq_by_cmp nat_cmp q x in
    let found = some_of (has_variable test few.live) (finmap.keys few.live) (sym (holds-extension vars few.live q) ∙ h) in
    let kept = has_variable-fewer test few.live more.live keeps found.0 found.1 in
    finset.contains-from_list nat_cmp_total (filter (nat_lt vars) (live_variables more.live)) q
    ∙ holds-extension vars more.live q
    ∙ any_key (has_variable test more.live) (finmap.keys more.live) found.0 kept.1 kept.0)
