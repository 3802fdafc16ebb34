-- The extension variables in use on the proof are as many as the nodes: they are exactly those of the nodes.
use Rattle.std.proofs.Common.{◌≡◌, ℕ, ◌+◌, ◌<◌, Bool, true, false, ◌&&◌, ◌||◌, List, [], ◌∷◌, map, length, None, Some, nat_cmp, cond, T}
use Rattle.std.proofs.Common.{Less, Equal, Greater, refl, sym, ap, ◌∙◌, arith, inl, inr, eq-eqb, ne_eqb}
use Rattle.std.specs.Prelude.{◌==◌}
use Rattle.std.specs.List.{list_any}
use Rattle.std.specs.Ordering.{is_lt}
use Rattle.std.specs.Cmp.{unsigned_tied, ranked}
use Rattle.std.specs.FinMap.Entries.{below_all, is_sorted, find}
use Rattle.std.specs.FinSet as finset
use Rattle.std.proofs.lemmas.Cmp.{nat_cmp_total}
use Rattle.std.proofs.lemmas.Bool.{cases_eq, or_left, or_right}
use Rattle.node_table.specs.declared.node.Branch.{Branch}

pub both_parts : (a b : Bool) → T (a && b) → T a × T b
both_parts true b h = (tt, h)
both_parts false b h = absurd h

pub is_less : (x y : ℕ) → T (is_lt (nat_cmp x y)) → x < y
is_less x y h =
    elim (nat_cmp x y) as (λ r. r ≡ nat_cmp x y → T (is_lt r) → x < y) [
      | Less ↦ λ is _. ranked x y Less is
      | Equal ↦ λ is no. absurd no
      | Greater ↦ λ is no. absurd no
    ] refl h

abbrev pub variables_in : List (ℕ × Branch) → List ℕ
variables_in es = map (λ e. e.1.variable) es

-- what is found behind a key has a greater one
pub above : (k : ℕ) (es : List (ℕ × Branch)) → T (below_all nat_cmp k es) → (q : ℕ) (b : Branch) → find nat_cmp q es ≡ Some b → k < q
above k [] below q b is = absurd (let e : None ≡ Some b = is in cc)
above k (e ∷ es) below q b is =
    let parts = both_parts (is_lt (nat_cmp k e.0)) (below_all nat_cmp k es) below in
    elim (cases_eq q e.0) [
      | inl same ↦ (let less = is_less k e.0 parts.0 in omega (arith, less, same))
      | inr differ ↦ above k es parts.1 q b (sym (ap (λ t. cond t (Some e.1) (find nat_cmp q es)) (unsigned_tied q e.0
          ∙ ne_eqb q e.0 differ)) ∙ is)
    ]

pub found_here : (k : ℕ) (b : Branch) (es : List (ℕ × Branch)) → find nat_cmp k ((k, b) ∷ es) ≡ Some b
found_here k b es = ap (λ t. cond t (Some b) (find nat_cmp k es)) (unsigned_tied k k ∙ eq-eqb k k refl)

pub found_there : (k : ℕ) (c : Branch) (es : List (ℕ × Branch)) → T (below_all nat_cmp k es) → (q : ℕ) (b : Branch) → find nat_cmp q es
    ≡ Some b → find nat_cmp q ((k, c) ∷ es) ≡ Some b
found_there k c es below q b is =
    let late = above k es below q b is in
    ap (λ t. cond t (Some c) (find nat_cmp q es)) (unsigned_tied q k ∙ ne_eqb q k (λ same. omega (arith, same, late))) ∙ is

-- a listed variable is that of an entry, and each entry's is listed
pub entry_of : (es : List (ℕ × Branch)) → T (is_sorted nat_cmp es) → (v : ℕ) → list_any (λ x. v == x) (variables_in es) ≡ true → (k : ℕ)
    × (b : Branch) × (find nat_cmp k es ≡ Some b) × (v ≡ b.variable)
entry_of [] sorted v among = absurd (let e : false ≡ true = among in cc)
entry_of ((k, c) ∷ es) sorted v among =
    let parts = both_parts (below_all nat_cmp k es) (is_sorted nat_cmp es) sorted in
    elim (cases_eq v c.variable) [
      | inl same ↦ (k, c, found_here k c es, same)
      | inr differ ↦
          let rest : list_any (λ x. v == x) (variables_in es) ≡ true = sym
          (ap (λ t. t || list_any (λ x. v == x) (variables_in es)) (ne_eqb v c.variable differ)) ∙ among in
          let found = entry_of es parts.1 v rest in
          (found.0, found.1, found_there k c es parts.0 found.0 found.1 found.2, found.3)
    ]

pub listed : (es : List (ℕ × Branch)) (k : ℕ) (b : Branch) → find nat_cmp k es ≡ Some b → list_any (λ x. b.variable == x) (variables_in es)
    ≡ true
listed [] k b is = absurd (let e : None ≡ Some b = is in cc)
listed ((q, c) ∷ es) k b is =
    elim (cases_eq k q) [
      | inl same ↦
          let here : Some c ≡ Some b = sym (ap (λ t. cond t (Some c) (find nat_cmp k es)) (unsigned_tied k q ∙ eq-eqb k q same)) ∙ is in
          let own : b.variable ≡ c.variable = (let e : c ≡ b = cc in ap (λ (x : Branch). x.variable) (sym e)) in
          or_left (b.variable == c.variable) (list_any (λ x. b.variable == x) (variables_in es)) (eq-eqb b.variable c.variable own)
      | inr differ ↦
          or_right (b.variable == c.variable) (list_any (λ x. b.variable == x) (variables_in es))
          (listed es k b (sym (ap (λ t. cond t (Some c) (find nat_cmp k es)) (unsigned_tied k q ∙ ne_eqb k q differ)) ∙ is))
    ]

-- entries of different variables, each listed once
pub count_entries : (es : List (ℕ × Branch)) → T (is_sorted nat_cmp es)
    → ((k q : ℕ) (b c : Branch) → find nat_cmp k es ≡ Some b → find nat_cmp q es ≡ Some c → b.variable ≡ c.variable → k ≡ q)
    → finset.len (finset.from_list {R = nat_cmp} (variables_in es)) ≡ length es
count_entries [] sorted apart = finset.len-empty nat_cmp
count_entries ((k, c) ∷ es) sorted apart =
    let parts = both_parts (below_all nat_cmp k es) (is_sorted nat_cmp es) sorted in
    let rest = finset.from_list {R = nat_cmp} (variables_in es) in
    let fewer : finset.len rest ≡ length es =
    count_entries es parts.1 (λ one other a b is also same. apart one other a b (found_there k c es parts.0 one a is)
    (found_there k c es parts.0 other b also) same) in
    let new : finset.contains rest c.variable ≡ false =
    elim (finset.contains rest c.variable) as (λ t. finset.contains rest c.variable ≡ t → t ≡ false) [
      | false ↦ λ _. refl
      | true ↦ λ is.
          let among : list_any (λ x. c.variable == x) (variables_in es) ≡ true =
          sym (finset.contains-from_list nat_cmp_total (variables_in es) c.variable
          ∙ (λ i. list_any (λ x. unsigned_tied c.variable x i) (variables_in es))) ∙ is in
          let found = entry_of es parts.1 c.variable among in
          let same : k ≡ found.0 = apart k found.0 c found.1 (found_here k c es)
          (found_there k c es parts.0 found.0 found.1 found.2) found.3 in
          absurd (let late = above k es parts.0 found.0 found.1 found.2 in omega (arith, late, same))
    ] refl in
    let more : finset.len (finset.insert rest c.variable) ≡ finset.len rest + 1 = finset.len-insert nat_cmp_total rest c.variable
    ∙ ap (λ t. cond t (finset.len rest) (finset.len rest + 1)) new in
    omega (arith, more, fewer)
