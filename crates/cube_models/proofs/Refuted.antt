-- The clause that forbids a cube follows by the hints of the dead nodes, each of which makes its node false, and the unit behind them.
use Rattle.std.proofs.Common.{◌≡◌, ◌∙◌, ◌++◌, ◌<◌, ◌≤◌, ◌&&◌, ℕ, zero, suc, Bool, true, false, not, ℤ, pos, negsuc, neg_ℤ, nat_abs, List}
use Rattle.std.proofs.Common.{[], ◌∷◌}
use Rattle.std.proofs.Common.{Contains, Option, None, Some, int_eq, length, map, refl, sym, ap, subst, arith, inl, inr}
use Rattle.std.specs.Prelude.{IsTrue, nat_lt, slice_index_or, if◌then◌else◌}
use Rattle.std.specs.List.{filter, list_all, list_any}
use Rattle.std.specs.Option.{option_map}
use Rattle.std.proofs.lemmas.Bool.{and_parts, cases_Bool, leb-true, or_cases, or_from, or_left, or_right}
use Rattle.std.proofs.lemmas.Bool.Decides.{Decides-int_eq}
use Rattle.std.proofs.lemmas.List.{append-nil, append_assoc}
use Rattle.std.proofs.lemmas.List.Elements.{Contains-append_left, Contains-append_right, Contains-append_cases}
use Rattle.cnf_base.specs.Cube.{forbidding}
use Rattle.cnf_base.specs.Order.{IsOrder}
use Rattle.cnf_base.specs.Truth.{is_literal_of}
use Rattle.lrat_rules.specs.Chain.{FalseSet, literals_of, with_literal}
use Rattle.lrat_rules.specs.State.{Live, clause_at}
use Rattle.lrat_rules.specs.Strict.{RefutesStrictly, is_strict}
use Rattle.hint_chain.specs.declared.atom.Atom.{Atom}
use Rattle.hint_chain.specs.declared.atom.Atom.TheVariants.{Always, Never, Of}
use Rattle.hint_chain.specs.Atoms.{clause_from_atoms, is_false}
use Rattle.node_table.specs.declared.node.Node.{Node}
use Rattle.node_table.specs.declared.node.Node.TheVariants.{False, True, Inner}
use Rattle.node_table.specs.declared.node.Branch.{Branch}
use Rattle.node_table.specs.Defined.{IsDefined, atom_in, atom_of, clause_named, defs_of}
use Rattle.node_table.specs.Diagram.{Graph, IsReduced, branch_at, is_node, levels, variable_at}
use Rattle.node_table.specs.Tied.{IsUpTo}
use Rattle.cube_models.specs.Denied.{AreDenied, AreSums, IsDenied, IsShutBy, hint_at, hint_by, hint_in, number_of}
use Rattle.cube_models.specs.Way.{Assumes, allows, literal_with, sign_at}
use Rattle.cube_models.proofs.Searches.{found_branch}

size_of_negation : (x : ℤ) → nat_abs (neg_ℤ x) ≡ nat_abs x
size_of_negation (pos zero) = refl
size_of_negation (pos (suc n)) = refl
size_of_negation (negsuc n) = refl

pub neg_twice : (x : ℤ) → neg_ℤ (neg_ℤ x) ≡ x
neg_twice (pos zero) = refl
neg_twice (pos (suc n)) = refl
neg_twice (negsuc n) = refl

-- the variables of the clause that forbids a cube
forbidding_up_to : (vars : ℕ) (cube : List ℤ) → IsTrue (list_all (is_literal_of vars) cube) → IsUpTo vars (forbidding cube)
forbidding_up_to vars [] all literal among = absurd (let e : false ≡ true = among in cc)
forbidding_up_to vars (x ∷ cube) all literal among =
    let parts = and_parts (is_literal_of vars x) _ all in
    elim (or_cases (int_eq literal (neg_ℤ x)) (list_any (int_eq literal) (forbidding cube)) among) [
      | inl own ↦
          let is : literal ≡ neg_ℤ x = (Decides-int_eq literal (neg_ℤ x)).0 own in
          let within : nat_abs x ≤ vars = leb-true (nat_abs x) vars (and_parts (nat_lt 0 (nat_abs x)) _ parts.0).1 in
          omega (arith, within, ap nat_abs is ∙ size_of_negation x)
      | inr later ↦ forbidding_up_to vars cube parts.1 literal later
    ]

-- a literal's negation is in it
forbidden : (cube : List ℤ) (x : ℤ) → list_any (int_eq x) cube ≡ true → list_any (int_eq (neg_ℤ x)) (forbidding cube) ≡ true
forbidden [] x there = there
forbidden (y ∷ cube) x there = elim (or_cases (int_eq x y) (list_any (int_eq x) cube) there) [
  | inl own ↦
      or_left (int_eq (neg_ℤ x) (neg_ℤ y)) (list_any (int_eq (neg_ℤ x)) (forbidding cube))
      ((Decides-int_eq (neg_ℤ x) (neg_ℤ y)).1 (ap neg_ℤ ((Decides-int_eq x y).0 own)))
  | inr later ↦
      or_right (int_eq (neg_ℤ x) (neg_ℤ y)) (list_any (int_eq (neg_ℤ x)) (forbidding cube)) (forbidden cube x later)
]

-- The clause of atoms that are false: there is one, and its literals are false.
pub record IsFalseClause (n : FalseSet) (atoms : List Atom) : Type 0 where
  pub literals : List ℤ
  pub is : clause_from_atoms atoms ≡ Some literals
  pub false_all : list_all n literals ≡ true

pub false_clause : (n : FalseSet) (atoms : List Atom) → list_all (is_false n) atoms ≡ true → IsFalseClause n atoms
false_clause n [] all = record { literals = []; is = refl; false_all = refl }
false_clause n (Always ∷ atoms) all = absurd (let e : false ≡ true = all in cc)
false_clause n (Never ∷ atoms) all =
    let rest = false_clause n atoms all in record { literals = rest.literals; is = rest.is; false_all = rest.false_all }
false_clause n (Of x ∷ atoms) all =
    let parts = and_parts (n x) (list_all (is_false n) atoms) all in
    let rest = false_clause n atoms parts.1 in
    record {
      literals = x ∷ rest.literals;
      is = ap (option_map (λ (literals : List ℤ). x ∷ literals)) rest.is;
      false_all = λ i. parts.0 i && rest.false_all i;
    }

-- none of them is open
pub none_open : (n : FalseSet) (literals : List ℤ) → list_all n literals ≡ true → filter (λ x. not (n x)) literals ≡ []
none_open n [] all = refl
none_open n (x ∷ literals) all =
    let parts = and_parts (n x) (list_all n literals) all in
    ap (λ t. if not t then x ∷ filter (λ y. not (n y)) literals else filter (λ y. not (n y)) literals) parts.0
    ∙ none_open n literals parts.1

-- a hint that forces its first literal, or its second one, and one that conflicts
pub forces : (live : Live) (n : FalseSet) (id : ℕ) (u w : ℤ) (others : List ℤ) (rest : List ℕ) → clause_at live id ≡ Some (u ∷ others)
    → list_all n others ≡ true → n u ≡ false → neg_ℤ u ≡ w → n w ≡ false
    → is_strict live n (id ∷ rest) ≡ is_strict live (with_literal w n) rest
forces live n id u w others rest at all open_ negated new = rw (at, open_, none_open n others all, negated, new) refl

pub forces_second : (live : Live) (n : FalseSet) (id : ℕ) (u x w : ℤ) (others : List ℤ) (rest : List ℕ)
    → clause_at live id ≡ Some (u ∷ x ∷ others) → list_all n others ≡ true → n u ≡ true → n x ≡ false → neg_ℤ x ≡ w → n w ≡ false
    → is_strict live n (id ∷ rest) ≡ is_strict live (with_literal w n) rest
forces_second live n id u x w others rest at all closed open_ negated new =
    rw (at, closed, open_, none_open n others all, negated, new) refl

pub conflicts : (live : Live) (n : FalseSet) (id : ℕ) (literals : List ℤ) → clause_at live id ≡ Some literals
    → list_all n literals ≡ true → is_strict live n (id ∷ []) ≡ true
conflicts live n id literals at all = rw (at, none_open n literals all) refl

same_branch : (b c : Branch) → ◌≡◌ {A = Option Branch} (Some b) (Some c) → b ≡ c
same_branch b c is = cc

module _ (graph : Graph) (reduced : IsReduced graph) where
  -- the literal of an extension variable is no number's negation
  positive_apart : (b c : Branch) (key : ℕ) → branch_at graph key ≡ Some b → int_eq (neg_ℤ (pos b.variable)) (pos c.variable) ≡ false
  positive_apart b c key at = elim (cases_Bool (int_eq (neg_ℤ (pos b.variable)) (pos c.variable))) [
    | inl same ↦
        let above = reduced.above key b at in
        absurd (none b.variable c.variable (omega (arith, above)) ((Decides-int_eq (neg_ℤ (pos b.variable)) (pos c.variable)).0 same))
    | inr differ ↦ differ
  ]
    where
      none : (m k : ℕ) → 0 < m → neg_ℤ (pos m) ≡ pos k → ⊥
      none zero k some is = omega (arith, some)
      none (suc m) k some is = let e : negsuc m ≡ pos k = is in cc

  -- Behind the hints of nodes of these keys: those nodes and the clause's literals are false, and no other node.
  pub record IsBehind (clause : List ℤ) (keys : List ℕ) (n : FalseSet) : Type 0 where
    pub denied : (key : ℕ) (b : Branch) → Contains keys key → branch_at graph key ≡ Some b → n (pos b.variable) ≡ true
    pub given : (x : ℤ) → literals_of clause x ≡ true → n x ≡ true
    pub fresh : (key : ℕ) (b : Branch) → branch_at graph key ≡ Some b → (Contains keys key → ⊥) → n (pos b.variable) ≡ false
    pub unnegated : (key : ℕ) (b : Branch) → branch_at graph key ≡ Some b → n (neg_ℤ (pos b.variable)) ≡ false

  -- at first only the clause's literals are
  pub behind_none : (clause : List ℤ) → IsUpTo (levels graph) clause → IsBehind clause [] (literals_of clause)
  behind_none clause up = record {
    denied = λ key b there at. absurd (omega (arith, there.1));
    given = λ x is. is;
    fresh = λ key b at new. apart key b at (pos b.variable) refl;
    unnegated = λ key b at. apart key b at (neg_ℤ (pos b.variable)) (size_of_negation (pos b.variable));
  }
    where
      apart : (key : ℕ) (b : Branch) → branch_at graph key ≡ Some b → (x : ℤ) → nat_abs x ≡ b.variable → literals_of clause x ≡ false
      apart key b at x size = elim (cases_Bool (literals_of clause x)) [
        | inl among ↦ let within = up x among in let above = reduced.above key b at in absurd (omega (arith, within, above, size))
        | inr none ↦ none
      ]

  -- one node more
  pub behind_more : (clause : List ℤ) (keys : List ℕ) (n : FalseSet) (key : ℕ) (b : Branch) → branch_at graph key ≡ Some b
      → IsBehind clause keys n → IsBehind clause (keys ++ key ∷ []) (with_literal (pos b.variable) n)
  behind_more clause keys n key b at is = record {
    denied = λ other c there own. elim (Contains-append_cases keys (key ∷ []) other there) [
      | inl was ↦ or_right (int_eq (pos c.variable) (pos b.variable)) (n (pos c.variable)) (is.denied other c was own)
      | inr last ↦
          let same : b ≡ c = same_branch b c (sym at ∙ ap (branch_at graph) (only last) ∙ own) in
          or_left (int_eq (pos c.variable) (pos b.variable)) (n (pos c.variable))
          ((Decides-int_eq (pos c.variable) (pos b.variable)).1 (ap (λ (d : Branch). pos d.variable) (sym same)))
    ];
    given = λ x there. or_right (int_eq x (pos b.variable)) (n x) (is.given x there);
    fresh = λ other c own new. or_from (int_eq (pos c.variable) (pos b.variable)) (n (pos c.variable))
        (apart other c own (λ same. new (Contains-append_right keys (key ∷ []) other (zero, omega arith, same))))
        (is.fresh other c own (λ there. new (Contains-append_left keys (key ∷ []) other there)));
    unnegated = λ other c own. or_from (int_eq (neg_ℤ (pos c.variable)) (pos b.variable)) (n (neg_ℤ (pos c.variable)))
        (positive_apart c b other own) (is.unnegated other c own);
  }
    where
      only : {other : ℕ} → Contains (key ∷ []) other → key ≡ other
      only (zero, small, here) = here
      only (suc k, small, here) = absurd (omega (arith, small))

      apart : (other : ℕ) (c : Branch) → branch_at graph other ≡ Some c → (key ≡ other → ⊥)
          → int_eq (pos c.variable) (pos b.variable) ≡ false
      apart other c own differ = elim (cases_Bool (int_eq (pos c.variable) (pos b.variable))) [
        | inl same ↦
            let one : pos c.variable ≡ pos b.variable = (Decides-int_eq (pos c.variable) (pos b.variable)).0 same in
            absurd (differ (reduced.apart key other b c at own (sym (ap nat_abs one))))
        | inr other_one ↦ other_one
      ]

  -- a node that is shut is false
  pub shut_false : (clause : List ℤ) (keys : List ℕ) (n : FalseSet) → IsBehind clause keys n → (node : Node)
      → is_node graph node ≡ true → IsShutBy keys node → is_false n (atom_of graph node) ≡ true
  shut_false clause keys n is False stands shut = refl
  shut_false clause keys n is True stands shut = absurd shut
  shut_false clause keys n is (Inner key) stands shut =
      let found = found_branch graph key.index stands in
      ap (λ (o : Option Branch). is_false n (atom_in o)) found.1 ∙ is.denied key.index found.0 shut found.1

  module _ (live : Live) (defined : (key : ℕ) (b : Branch) → branch_at graph key ≡ Some b → IsDefined live graph b)
      (ordered : IsOrder graph.order) (cube : List ℤ) (signs : List (Option Bool))
      (assumes : Assumes (levels graph) cube (length cube) signs) (sums : List ℕ) (are_sums : AreSums graph live sums) where
    -- what is assumed is denied
    assumed_false : (keys : List ℕ) (n : FalseSet) → IsBehind (forbidding cube) keys n → (level : ℕ) (value : Bool) → level < levels graph
        → sign_at graph signs level ≡ Some value → n (neg_ℤ (literal_with (variable_at graph level) value)) ≡ true
    assumed_false keys n is level value small said =
        is.given (neg_ℤ (literal_with (variable_at graph level) value))
        (forbidden cube (literal_with (variable_at graph level) value)
        (assumes.only (variable_at graph level) value (ordered.within level small).0 said))

    named : (o : Option ℕ) (clause : List ℤ) → clause_named live o ≡ Some clause → clause_at live (number_of o) ≡ Some clause
    named None clause is = absurd (let e : ◌≡◌ {A = Option (List ℤ)} None (Some clause) = is in cc)
    named (Some id) clause is = is

    -- The clause of a denied node's hint: its negation, and literals that are false.
    pub record IsHint (n : FalseSet) (b : Branch) (id : ℕ) : Type 0 where
      pub others : List ℤ
      pub stands : clause_at live id ≡ Some (neg_ℤ (pos b.variable) ∷ others)
      pub false_all : list_all n others ≡ true

    hint_of_atoms : (n : FalseSet) (b : Branch) (id : ℕ) (atoms : List Atom) → list_all (is_false n) atoms ≡ true
        → ((clause : List ℤ) → clause_from_atoms (Of (neg_ℤ (pos b.variable)) ∷ atoms) ≡ Some clause → clause_at live id ≡ Some clause)
        → IsHint n b id
    hint_of_atoms n b id atoms all stands =
        let own = false_clause n atoms all in
        record {
          others = own.literals;
          stands = stands (neg_ℤ (pos b.variable) ∷ own.literals) (whole own.literals own.is);
          false_all = own.false_all;
        }
      where
        whole : (literals : List ℤ) → clause_from_atoms atoms ≡ Some literals
            → clause_from_atoms (Of (neg_ℤ (pos b.variable)) ∷ atoms) ≡ Some (neg_ℤ (pos b.variable) ∷ literals)
        whole literals is = rw is refl

    all_two : (p q : Bool) → p ≡ true → q ≡ true → (p && (q && true)) ≡ true
    all_two p q one two = λ i. one i && (two i && true)

    hint_by_sign : (keys : List ℕ) (n : FalseSet) → IsBehind (forbidding cube) keys n → (key : ℕ) (is : IsDenied graph signs keys key)
        → (sign : Option Bool) → sign_at graph signs is.branch.level ≡ sign
        → IsHint n is.branch (hint_by sign (slice_index_or sums key 0) is.branch)
    hint_by_sign keys n behind key is None said =
        let b = is.branch in
        let high = is.high (ap (λ (o : Option Bool). allows o true) said) in
        let low = is.low (ap (λ (o : Option Bool). allows o false) said) in
        hint_of_atoms n b (slice_index_or sums key 0) (atom_of graph b.high ∷ atom_of graph b.low ∷ [])
        (all_two (is_false n (atom_of graph b.high)) (is_false n (atom_of graph b.low))
        (shut_false (forbidding cube) keys n behind b.high (reduced.high key b is.stands).stands high)
        (shut_false (forbidding cube) keys n behind b.low (reduced.low key b is.stands).stands low))
        (λ clause own. are_sums key b clause is.stands own)
    hint_by_sign keys n behind key is (Some true) said =
        let b = is.branch in
        let x = variable_at graph b.level in
        let high = is.high (ap (λ (o : Option Bool). allows o true) said) in
        hint_of_atoms n b (number_of (defs_of b).hd) (Of (neg_ℤ (pos x)) ∷ atom_of graph b.high ∷ [])
        (all_two (n (neg_ℤ (pos x))) (is_false n (atom_of graph b.high))
        (assumed_false keys n behind b.level true (reduced.level key b is.stands) said)
        (shut_false (forbidding cube) keys n behind b.high (reduced.high key b is.stands).stands high))
        (λ clause own. named (defs_of b).hd clause ((defined key b is.stands).hd ∙ own))
    hint_by_sign keys n behind key is (Some false) said =
        let b = is.branch in
        let x = variable_at graph b.level in
        let low = is.low (ap (λ (o : Option Bool). allows o false) said) in
        hint_of_atoms n b (number_of (defs_of b).ld) (Of (pos x) ∷ atom_of graph b.low ∷ [])
        (all_two (n (pos x)) (is_false n (atom_of graph b.low))
        (ap n (sym (neg_twice (pos x))) ∙ assumed_false keys n behind b.level false (reduced.level key b is.stands) said)
        (shut_false (forbidding cube) keys n behind b.low (reduced.low key b is.stands).stands low))
        (λ clause own. named (defs_of b).ld clause ((defined key b is.stands).ld ∙ own))

    -- Behind the hints of denied nodes they are false.
    pub record AreBehind (n : FalseSet) (keys more : List ℕ) : Type 0 where
      pub after : FalseSet
      pub behind : IsBehind (forbidding cube) (keys ++ more) after
      pub leads : (rest : List ℕ) → is_strict live n (map (hint_at graph signs sums) more ++ rest) ≡ is_strict live after rest

    all_behind : (n : FalseSet) (keys more : List ℕ) → IsBehind (forbidding cube) keys n → AreDenied graph signs keys more
        → AreBehind n keys more
    all_behind n keys [] behind all = record {
      after = n;
      behind = subst (λ (list : List ℕ). IsBehind (forbidding cube) list n) (sym (append-nil keys)) behind;
      leads = λ rest. refl;
    }
    all_behind n keys (key ∷ more) behind all =
        let b = all.0.branch in
        let u = neg_ℤ (pos b.variable) in
        let hint = hint_by_sign keys n behind key all.0 (sign_at graph signs b.level) refl in
        let at : hint_at graph signs sums key ≡ hint_by (sign_at graph signs b.level) (slice_index_or sums key 0) b =
        ap (hint_in graph signs (slice_index_or sums key 0)) all.0.stands in
        let next = behind_more (forbidding cube) keys n key b all.0.stands behind in
        let further = all_behind (with_literal (pos b.variable) n) (keys ++ key ∷ []) more next all.1 in
        record {
          after = further.after;
          behind = subst (λ (list : List ℕ). IsBehind (forbidding cube) list further.after)
              (append_assoc keys (key ∷ []) more) further.behind;
          leads = λ rest.
              forces live n (hint_at graph signs sums key) u (pos b.variable) hint.others (map (hint_at graph signs sums) more ++ rest)
              (ap (clause_at live) at ∙ hint.stands) hint.false_all (behind.unnegated key b all.0.stands) (neg_twice (pos b.variable))
              (behind.fresh key b all.0.stands all.0.new)
              ∙ further.leads rest;
        }

    -- where the node is shut its unit conflicts
    pub refuted : (node : Node) (dead : List ℕ) (unit : ℕ) → is_node graph node ≡ true
        → IsTrue (list_all (is_literal_of (levels graph)) cube)
        → AreDenied graph signs [] dead → IsShutBy dead node → clause_at live unit ≡ clause_from_atoms (atom_of graph node ∷ [])
        → RefutesStrictly live (forbidding cube) (map (hint_at graph signs sums) dead ++ unit ∷ [])
    refuted node dead unit stands within denied shut at =
        let start = behind_none (forbidding cube) (forbidding_up_to (levels graph) cube within) in
        let all = all_behind (literals_of (forbidding cube)) [] dead start denied in
        let own = false_clause all.after (atom_of graph node ∷ [])
        (one (shut_false (forbidding cube) dead all.after all.behind node stands shut)) in
        record { strict = all.leads (unit ∷ []) ∙ conflicts live all.after unit own.literals (at ∙ own.is) own.false_all }
      where
        one : {p : Bool} → p ≡ true → (p && true) ≡ true
        one is = λ i. is i && true
