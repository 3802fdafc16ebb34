-- The live clauses above the formula's are in one list: those that were added, those that define the nodes whose extension
-- variables are in use, and those that came since. So they are no more than these.
use Rattle.std.proofs.Common.{◌≡◌, ◌⊎◌, ℕ, zero, suc, ◌+◌, ◌-◌, ◌*◌, ◌<◌, ◌≤◌, Bool, true, false, ◌||◌, ℤ, List, [], ◌∷◌, ◌++◌, map, length}
use Rattle.std.proofs.Common.{Option, None, Some, is_some, nat_cmp, cond, T, refl, sym, ap, ◌∙◌, subst, arith, inl, inr, eq-eqb, ne_eqb}
use Rattle.std.specs.Prelude.{◌==◌, nat_abs, nat_eq, nat_lt}
use Rattle.std.specs.Cmp.{unsigned_tied, nat_eq_equiv}
use Rattle.std.specs.List.{list_any, filter, range_with_len, AllByRecursion, IsDistinct}
use Rattle.std.specs.Ordering.{is_lt, eq_by_cmp}
use Rattle.std.specs.Set.{is_member}
use Rattle.std.specs.FinMap as finmap
use Rattle.std.specs.FinMap.Entries.{below_all, is_sorted, find}
use Rattle.std.specs.FinSet as finset
use Rattle.std.proofs.lemmas.Bool.{cases_eq, or_cases, or_left, or_right, and_parts, and_from, lt-ltb, ltb-true, eqb-true}
use Rattle.std.proofs.lemmas.Cmp.{nat_cmp_total}
use Rattle.std.proofs.lemmas.List.{length-append}
use Rattle.std.proofs.lemmas.List.Folds.{list_any-append}
use Rattle.std.proofs.lemmas.List.FromFn.{length-range_with_len}
use Rattle.std.proofs.lemmas.Map.Made.{length-le_from_is_member}
use Rattle.std.proofs.lemmas.Map.Views.{any-filter_same, list_any-from_Contains}
use Rattle.lrat_rules.specs.State.{State, Live, clause_at}
use Rattle.lrat_rules.specs.Marks.{variables_of, live_variables, in_use}
use Rattle.node_table.specs.declared.node.Branch.{Branch}
use Rattle.node_table.specs.declared.node.Defs.{Defs}
use Rattle.node_table.specs.Diagram.{branch_at, levels}
use Rattle.node_table.specs.Defined.{defs_of, is_defined_by}
use Rattle.node_table.specs.Deleted.{with_defs, with_given}
use Rattle.node_table.specs.Lean.{HasAdded, IsLean, live_above}
use Rattle.node_table.specs.Progress.{ComesSince}
use Rattle.node_table.specs.Table.{TableState, IsSound}
use Rattle.node_table.proofs.Deletable.{head_variable, own_clause, member_defs}
use Rattle.node_table.proofs.InUse.{both_parts, is_less, found_here, found_there}
use Rattle.node_table.proofs.InUseSame.{any-flat_map, any_at}

-- Keys that pass a test are distinct.
module _ {X : Type 0} (p : ℕ → Bool) where
  later_differ : (k : ℕ) (es : List (ℕ × X)) → T (below_all nat_cmp k es)
      → AllByRecursion (λ y. nat_eq k y ≡ false) (filter p (map (λ e. e.0) es))
  later_differ k [] below = tt
  later_differ k (e ∷ es) below =
      let parts = both_parts (is_lt (nat_cmp k e.0)) (below_all nat_cmp k es) below in
      let less = is_less k e.0 parts.0 in
      let rest = later_differ k es parts.1 in
      let keys = filter p (map (λ (e : ℕ × X). e.0) es) in
      elim (p e.0) as (λ b. AllByRecursion (λ y. nat_eq k y ≡ false) (cond b (e.0 ∷ keys) keys)) [
        | true ↦ (ne_eqb k e.0 (λ same. omega (arith, less, same)), rest)
        | false ↦ rest
      ]

  distinct_keys : (es : List (ℕ × X)) → T (is_sorted nat_cmp es) → IsDistinct nat_eq (filter p (map (λ e. e.0) es))
  unfolding IsDistinct
  distinct_keys [] sorted = tt
  distinct_keys (e ∷ es) sorted =
      let parts = both_parts (below_all nat_cmp e.0 es) (is_sorted nat_cmp es) sorted in
      let rest = distinct_keys es parts.1 in
      let keys = filter p (map (λ (e : ℕ × X). e.0) es) in
      elim (p e.0) as (λ b. IsDistinct nat_eq (cond b (e.0 ∷ keys) keys)) [
        | true ↦ (later_differ e.0 es parts.0, rest)
        | false ↦ rest
      ]

-- the numbers of a node's clauses are at most four
few_given : (ids : List ℕ) (given : Option ℕ) → length (with_given ids given) ≤ length ids + 1
few_given ids None = omega (arith, length-append ids [])
few_given ids (Some id) = omega (arith, length-append ids (id ∷ []))

few_defs : (defs : Defs) → length (with_defs [] defs) ≤ 4
few_defs defs =
    let one = with_given [] defs.hu in
    let two = with_given one defs.lu in
    let three = with_given two defs.hd in
    omega (arith, few_given [] defs.hu, few_given one defs.lu, few_given two defs.hd, few_given three defs.ld)

-- those of the node of a variable, if there is one
abbrev numbers_of : List (ℕ × Branch) → ℕ → List ℕ
numbers_of [] v = []
numbers_of (e ∷ es) v = cond (v == e.1.variable) (with_defs [] (defs_of e.1)) (numbers_of es v)

few_numbers : (es : List (ℕ × Branch)) (v : ℕ) → length (numbers_of es v) ≤ 4
few_numbers [] v = omega arith
few_numbers (e ∷ es) v =
    let rest = few_numbers es v in
    elim (v == e.1.variable) as (λ b. length (cond b (with_defs [] (defs_of e.1)) (numbers_of es v)) ≤ 4) [
      | true ↦ few_defs (defs_of e.1)
      | false ↦ rest
    ]

found_as : (k q : ℕ) (b c : Branch) (es : List (ℕ × Branch)) → find nat_cmp k ((q, c) ∷ es) ≡ Some b → ((k ≡ q) × (b ≡ c))
    ⊎ ((k ≡ q → ⊥) × (find nat_cmp k es ≡ Some b))
found_as k q b c es is = elim (cases_eq k q) [
  | inl same ↦
      let e : Some c ≡ Some b = sym (ap (λ t. cond t (Some c) (find nat_cmp k es)) (unsigned_tied k q ∙ eq-eqb k q same)) ∙ is in
      inl (same, cc)
  | inr differ ↦ inr (differ, sym (ap (λ t. cond t (Some c) (find nat_cmp k es)) (unsigned_tied k q ∙ ne_eqb k q differ)) ∙ is)
]

-- entries have variables of their own
abbrev AreApart : List (ℕ × Branch) → Type 0
AreApart es = (one other : ℕ) (a c : Branch) → find nat_cmp one es ≡ Some a → find nat_cmp other es ≡ Some c → a.variable ≡ c.variable → one
    ≡ other

numbers_has : (es : List (ℕ × Branch)) → T (is_sorted nat_cmp es) → AreApart es → (k : ℕ) (b : Branch) → find nat_cmp k es ≡ Some b
    → (id : ℕ) → is_defined_by (defs_of b) id ≡ true
    → is_member nat_eq (numbers_of es b.variable) id ≡ true
numbers_has [] sorted apart k b is id own = absurd (let e : None ≡ Some b = is in cc)
numbers_has ((q, c) ∷ es) sorted apart k b is id own =
    let parts = both_parts (below_all nat_cmp q es) (is_sorted nat_cmp es) sorted in
    elim (found_as k q b c es is) [
      | inl here ↦
          ap (λ t. is_member nat_eq (cond t (with_defs [] (defs_of c)) (numbers_of es b.variable)) id)
          (eq-eqb b.variable c.variable (ap (λ (x : Branch). x.variable) here.1))
          ∙ member_defs [] (defs_of c) id ∙ ap (λ (x : Branch). is_defined_by (defs_of x) id) (sym here.1) ∙ own
      | inr there ↦
          ap (λ t. is_member nat_eq (cond t (with_defs [] (defs_of c)) (numbers_of es b.variable)) id)
          (ne_eqb b.variable c.variable (λ same. there.0 (apart k q b c is (found_here q c es) same)))
          ∙ numbers_has es parts.1 (λ one other a d at also. apart one other a d (found_there q c es parts.0 one a at)
          (found_there q c es parts.0 other d also)) k b there.1 id own
    ]

-- a clause defines a node, or none
abbrev DefinesOne : List (ℕ × Branch) → ℕ → Type 0
DefinesOne es id = (k : ℕ) × (b : Branch) × (find nat_cmp k es ≡ Some b) × (is_defined_by (defs_of b) id ≡ true)

defines_or_not : (es : List (ℕ × Branch)) → T (is_sorted nat_cmp es) → (id : ℕ) → DefinesOne es id
    ⊎ ((k : ℕ) (b : Branch) → find nat_cmp k es ≡ Some b → is_defined_by (defs_of b) id ≡ false)
defines_or_not [] sorted id = inr (λ k b is. absurd (let e : None ≡ Some b = is in cc))
defines_or_not ((q, c) ∷ es) sorted id =
    let parts = both_parts (below_all nat_cmp q es) (is_sorted nat_cmp es) sorted in
    let rest = defines_or_not es parts.1 id in
    elim (is_defined_by (defs_of c) id) as (λ t. is_defined_by (defs_of c) id ≡ t
    → DefinesOne ((q, c) ∷ es) id ⊎ ((k : ℕ) (b : Branch) → find nat_cmp k ((q, c) ∷ es) ≡ Some b → is_defined_by (defs_of b) id ≡ false)) [
      | true ↦ λ own. inl (q, c, found_here q c es, own)
      | false ↦ λ other. elim rest [
        | inl d ↦ inl (d.0, d.1, found_there q c es parts.0 d.0 d.1 d.2, d.3)
        | inr none ↦ inr (λ k b is. elim (found_as k q b c es is) [
          | inl here ↦ ap (λ (x : Branch). is_defined_by (defs_of x) id) here.1 ∙ other
          | inr there ↦ none k b there.1
        ])
      ]
    ] refl

-- Lists of at most four numbers each, those of different variables behind one another.
record AreListed (f : ℕ → List ℕ) (vs : List ℕ) : Type 0 where
  ids : List ℕ
  few : length ids ≤ 4 * finset.len (finset.from_list {R = nat_cmp} vs)
  has : (v id : ℕ) → list_any (λ x. v == x) vs ≡ true → is_member nat_eq (f v) id ≡ true → is_member nat_eq ids id ≡ true

all_listed : (f : ℕ → List ℕ) → ((v : ℕ) → length (f v) ≤ 4) → (vs : List ℕ) → AreListed f vs
all_listed f four [] = record { ids = []; few = omega arith; has = λ v id among is. absurd (let e : false ≡ true = among in cc) }
all_listed f four (k ∷ vs) =
    let rest = all_listed f four vs in
    let set = finset.from_list {R = nat_cmp} vs in
    let more = finset.len-insert nat_cmp_total set k in
    elim (finset.contains set k) as (λ t. finset.contains set k ≡ t → AreListed f (k ∷ vs)) [
      | true ↦ λ again.
          let same : finset.len (finset.insert set k) ≡ finset.len set = more
          ∙ ap (λ t. cond t (finset.len set) (finset.len set + 1)) again in
          let known : list_any (λ x. k == x) vs ≡ true = sym (finset.contains-from_list nat_cmp_total vs k
          ∙ (λ i. list_any (λ x. unsigned_tied k x i) vs)) ∙ again in
          record {
            ids = rest.ids;
            few = omega (arith, same, rest.few);
            has = λ v id among is. elim (or_cases (v == k) (list_any (λ x. v == x) vs) among) [
              | inl here ↦ rest.has v id (subst (λ (n : ℕ). list_any (λ x. n == x) vs ≡ true) (sym (eqb-true v k here)) known) is
              | inr there ↦ rest.has v id there is
            ];
          }
      | false ↦ λ new.
          let longer : finset.len (finset.insert set k) ≡ finset.len set + 1 = more
          ∙ ap (λ t. cond t (finset.len set) (finset.len set + 1)) new in
          record {
            ids = f k ++ rest.ids;
            few = omega (arith, longer, rest.few, four k, length-append (f k) rest.ids);
            has = λ v id among is. list_any-append (nat_eq id) (f k) rest.ids ∙ elim (or_cases (v == k) (list_any (λ x. v == x) vs) among) [
              | inl here ↦ or_left (is_member nat_eq (f k) id) (is_member nat_eq rest.ids id)
                  (subst (λ (n : ℕ). is_member nat_eq (f n) id ≡ true) (eqb-true v k here) is)
              | inr there ↦ or_right (is_member nat_eq (f k) id) (is_member nat_eq rest.ids id) (rest.has v id there is)
            ];
          }
    ] refl

-- the numbers in a row
in_row : (a n id : ℕ) → a ≤ id → id < a + n → is_member nat_eq (range_with_len a n) id ≡ true
in_row a zero id low high = absurd (omega (arith, low, high))
in_row a (suc n) id low high = elim (cases_eq id a) [
  | inl same ↦ or_left (nat_eq id a) (is_member nat_eq (range_with_len (a + 1) n) id) (eq-eqb id a same)
  | inr differ ↦ or_right (nat_eq id a) (is_member nat_eq (range_with_len (a + 1) n) id)
      (in_row (a + 1) n id (omega (arith, low, differ)) (omega (arith, high)))
]

-- the variable of a clause's first literal is in use
first_among : (v : ℕ) (clause : List ℤ) → 0 < v → head_variable (Some clause) ≡ v → list_any (λ x. v == x) (map nat_abs clause) ≡ true
first_among v [] positive is = absurd (omega (arith, positive, is))
first_among v (literal ∷ clause) positive is = or_left (v == nat_abs literal) (list_any (λ x. v == x) (map nat_abs clause))
    (eq-eqb v (nat_abs literal) (sym is))

used : (vars : ℕ) (live : Live) (v id : ℕ) (clause : List ℤ) → clause_at live id ≡ Some clause → vars < v
    → list_any (λ x. v == x) (map nat_abs clause) ≡ true
    → list_any (λ x. v == x) (filter (nat_lt vars) (live_variables live)) ≡ true
used vars live v id clause at above among =
    let lists : ℕ → List ℕ = λ k. variables_of (clause_at live k) in
    let stands : list_any (eq_by_cmp nat_cmp id) (finmap.keys live) ≡ true = sym (finmap.contains_key-keys live id) ∙ ap is_some at in
    let has : list_any (λ x. v == x) (lists id) ≡ true = ap (λ o. list_any (λ x. v == x) (variables_of o)) at ∙ among in
    any-filter_same (λ x. v == x) (nat_lt vars) (nat_lt vars v) (λ k same. ap (nat_lt vars) (sym (eqb-true v k same))) (live_variables live)
    ∙ and_from (nat_lt vars v) (list_any (λ x. v == x) (live_variables live)) (lt-ltb vars v above)
    (any-flat_map (λ x. v == x) lists (finmap.keys live) ∙ any_at (λ k. list_any (λ x. v == x) (lists k)) id (finmap.keys live) stands has)

some_clause : (o : Option (List ℤ)) → is_some o ≡ true → (clause : List ℤ) × (o ≡ Some clause)
some_clause None is = absurd (let e : false ≡ true = is in cc)
some_clause (Some clause) is = (clause, refl)

-- where a list has all live numbers above one, there are no more of them
module _ (inputs : ℕ) (live : Live) (ids : List ℕ) (listed : (id : ℕ) → inputs < id → is_some (clause_at live id) ≡ true
    → is_member nat_eq ids id ≡ true) where
  key_listed : (id : ℕ) → is_member nat_eq (filter (nat_lt inputs) (finmap.keys live)) id ≡ true → is_member nat_eq ids id ≡ true
  key_listed id is =
      let parts = and_parts (nat_lt inputs id) (is_member nat_eq (finmap.keys live) id)
      (sym (any-filter_same (nat_eq id) (nat_lt inputs) (nat_lt inputs id) (λ k same. ap (nat_lt inputs) (sym (eqb-true id k same)))
      (finmap.keys live)) ∙ is) in
      listed id (ltb-true inputs id parts.0)
      (finmap.contains_key-keys live id ∙ (λ i. list_any (λ x. unsigned_tied id x i) (finmap.keys live)) ∙ parts.1)

  pub few_above : live_above inputs live ≤ length ids
  few_above =
      length-le_from_is_member nat_eq_equiv (filter (nat_lt inputs) (finmap.keys live)) ids
      (distinct_keys (nat_lt inputs) (finmap.entries live) (finmap.entries_sorted live)) key_listed

module _ {S : Type 0} (old : TableState S) (number : ℕ) (state : State) (sound : IsSound old) (added : HasAdded old number)
    (since : ComesSince old.book.state state) where
  abbrev entries : List (ℕ × Branch)
  entries = finmap.entries old.graph.nodes

  sorted : T (is_sorted nat_cmp entries)
  sorted = finmap.entries_sorted old.graph.nodes

  branch_is : (k : ℕ) (b : Branch) → find nat_cmp k entries ≡ Some b → branch_at old.graph k ≡ Some b
  branch_is k b is = finmap.get-entries old.graph.nodes k ∙ is

  abbrev in_use_variables : List ℕ
  in_use_variables = filter (nat_lt (levels old.graph)) (live_variables state.live)

  definitions : AreListed (numbers_of entries) in_use_variables
  definitions = all_listed (numbers_of entries) (few_numbers entries) in_use_variables

  abbrev later : List ℕ
  later = range_with_len (old.book.state.top + 1) (state.top - old.book.state.top)

  abbrev listed : List ℕ
  listed = added.ids ++ (definitions.ids ++ later)

  among_definitions : (id : ℕ) (clause : List ℤ) → clause_at state.live id ≡ Some clause → clause_at old.book.state.live id ≡ Some clause
      → DefinesOne entries id → is_member nat_eq definitions.ids id ≡ true
  among_definitions id clause at was d =
      let tied = sound.tied in
      let stands = branch_is d.0 d.1 d.2 in
      let own = own_clause old.graph old.book.state.live tied.reduced d.0 d.1 stands (tied.defined d.0 d.1 stands) id d.3 in
      let above = tied.reduced.above d.0 d.1 stands in
      let first = first_among d.1.variable clause (omega (arith, above)) (ap head_variable (sym was) ∙ own.variable) in
      definitions.has d.1.variable id (used (levels old.graph) state.live d.1.variable id clause at above first)
      (numbers_has entries sorted (λ one other a c is also. tied.reduced.apart one other a c (branch_is one a is)
      (branch_is other c also)) d.0 d.1 d.2 id d.3)

  is_listed : (id : ℕ) → old.inputs < id → is_some (clause_at state.live id) ≡ true → is_member nat_eq listed id ≡ true
  is_listed id above is =
      let clause = some_clause (clause_at state.live id) is in
      let behind : is_member nat_eq (definitions.ids ++ later) id
      ≡ (is_member nat_eq definitions.ids id || is_member nat_eq later id) = list_any-append (nat_eq id) definitions.ids later in
      list_any-append (nat_eq id) added.ids (definitions.ids ++ later) ∙ elim (since id clause.0 clause.1) [
        | inl was ↦ elim (defines_or_not entries sorted id) [
          | inl d ↦ or_right (is_member nat_eq added.ids id) (is_member nat_eq (definitions.ids ++ later) id)
              (behind ∙ or_left (is_member nat_eq definitions.ids id) (is_member nat_eq later id)
              (among_definitions id clause.0 clause.1 was d))
          | inr none ↦
              let own = added.all id (record {
                stands = ap is_some was;
                above = above;
                defines_none = λ key branch at. none key branch (sym (finmap.get-entries old.graph.nodes key) ∙ at);
              }) in
              or_left (is_member nat_eq added.ids id) (is_member nat_eq (definitions.ids ++ later) id)
              (list_any-from_Contains nat_eq_equiv id added.ids own)
        ]
        | inr came ↦ or_right (is_member nat_eq added.ids id) (is_member nat_eq (definitions.ids ++ later) id)
            (behind ∙ or_right (is_member nat_eq definitions.ids id) (is_member nat_eq later id)
            (in_row (old.book.state.top + 1) (state.top - old.book.state.top) id (omega (arith, came.0)) (omega (arith, came.0, came.1))))
      ]

  pub lean : IsLean (levels old.graph) old.inputs (number + (state.top - old.book.state.top)) state
  lean =
      let less = few_above old.inputs state.live listed is_listed in
      let definitions_few : length definitions.ids ≤ 4 * in_use (levels old.graph) state = definitions.few in
      omega (
        arith,
        less,
        definitions_few,
        added.few,
        length-append added.ids (definitions.ids ++ later),
        length-append definitions.ids later,
        length-range_with_len (old.book.state.top + 1) (state.top - old.book.state.top),
      )
