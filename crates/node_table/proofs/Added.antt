-- Clauses that were added beside the definitions of nodes stay so as the table grows, and no others come with a node.
use Rattle.std.proofs.Common.{◌≡◌, ℕ, zero, suc, ◌+◌, ◌<◌, ◌≤◌, Bool, true, false, ◌||◌, ℤ, pos, List, [], ◌∷◌, length, Option, None, Some}
use Rattle.std.proofs.Common.{is_some, refl, sym, ap, ◌∙◌, subst, arith, inl, inr, eq-eqb}
use Rattle.std.specs.Prelude.{◌==◌, nat_abs, neg_ℤ, not}
use Rattle.std.specs.Option.{option_map}
use Rattle.std.specs.List.{list_any}
use Rattle.std.specs.Ordering.{int_eq}
use Rattle.std.proofs.lemmas.Bool.{cases_eq, eqb-true, or_cases, or_left, or_right}
use Rattle.std.proofs.lemmas.Bool.Decides.{Decides-int_eq}
use Rattle.cnf_base.specs.ProofText.{given_if}
use Rattle.lrat_rules.specs.State.{State, Live, clause_at}
use Rattle.clause_ledger.specs.Book.{with_next}
use Rattle.hint_chain.specs.declared.atom.Atom.{Atom}
use Rattle.hint_chain.specs.declared.atom.Atom.TheVariants.{Of}
use Rattle.hint_chain.specs.Atoms.{neg_atom, clause_from_atoms}
use Rattle.node_table.specs.declared.node.Node.{Node}
use Rattle.node_table.specs.declared.node.Branch.{Branch}
use Rattle.node_table.specs.Diagram.{Graph, IsNew, KeepsNodes, branch_at, is_node, levels, variable_at}
use Rattle.node_table.specs.Defined.{IsDefined, atom_of, clause_named, defs_of, definition_count, hd_first, is_defined_by, is_false_node}
use Rattle.node_table.specs.Defined.{is_given, is_true_node, ld_first, lu_first, one_if}
use Rattle.node_table.specs.Tied.{IsTied, IsAdded, GivesNumbers, KeepsClauses}
use Rattle.node_table.specs.Table.{new_branch}
use Rattle.node_table.proofs.Fresh.{KeepsNodes-new}
use Rattle.node_table.proofs.Grown.{joined_at}
use Rattle.node_table.proofs.Made.{some_down, some_up}
use Rattle.node_table.proofs.Stands.{at_next}

-- the live clause of a number, which holds this literal
abbrev HoldsAt : Live → ℤ → ℕ → Type 0
HoldsAt live u id = (clause : List ℤ) × (clause_at live id ≡ Some clause) × (list_any (int_eq u) clause ≡ true)

holds_first : (u x : ℤ) (o : Option (List ℤ)) → is_some (option_map (λ c. u ∷ c) (option_map (λ c. x ∷ c) o)) ≡ true
    → (clause : List ℤ) × (option_map (λ c. u ∷ c) (option_map (λ c. x ∷ c) o) ≡ Some clause) × (list_any (int_eq u) clause ≡ true)
holds_first u x None is = absurd (let e : false ≡ true = is in cc)
holds_first u x (Some rest) is = (u ∷ x ∷ rest, refl, or_left (int_eq u u) (list_any (int_eq u) (x ∷ rest)) ((Decides-int_eq u u).1 refl))

holds_given : (live : Live) (u x : ℤ) (atom : Atom) (b : Bool) (own id : ℕ) → is_some (clause_from_atoms (Of u ∷ Of x ∷ atom ∷ [])) ≡ b
    → clause_named live (given_if b own) ≡ clause_from_atoms (Of u ∷ Of x ∷ atom ∷ []) → is_given (given_if b own) id ≡ true → HoldsAt live u id
holds_given live u x atom true own id some is given =
    let has = holds_first u x (clause_from_atoms (atom ∷ [])) some in
    let same : own ≡ id = eqb-true own id given in
    (has.0, ap (clause_at live) (sym same) ∙ is ∙ has.1, has.2)
holds_given live u x atom false own id some is given = absurd (let e : false ≡ true = given in cc)

-- A clause that defines a node holds a literal of its variable.
abbrev HoldsNode : Live → ℕ → ℕ → Type 0
HoldsNode live variable id = (literal : ℤ) × (nat_abs literal ≡ variable) × HoldsAt live literal id

abs_neg : (n : ℕ) → nat_abs (neg_ℤ (pos n)) ≡ n
abs_neg zero = refl
abs_neg (suc n) = refl

defined_holds : (graph : Graph) (live : Live) (b : Branch) → is_node graph b.high ≡ true → is_node graph b.low ≡ true
    → IsDefined live graph b → (id : ℕ)
    → is_defined_by (defs_of b) id ≡ true → HoldsNode live b.variable id
defined_holds graph live b high low defined id by =
    let u = pos b.variable in
    let y = pos (variable_at graph b.level) in
    let hu = not (is_false_node b.high) in
    let lu = not (is_false_node b.low) in
    let hd = not (is_true_node b.high) in
    let ld = not (is_true_node b.low) in
    let one = is_given (given_if hu b.first) id in
    let two = is_given (given_if lu (lu_first b.high b.first)) id in
    let three = is_given (given_if hd (hd_first b.high b.low b.first)) id in
    let four = is_given (given_if ld (ld_first b.high b.low b.first)) id in
    elim (or_cases ((one || two) || three) four by) [
      | inl first ↦ elim (or_cases (one || two) three first) [
        | inl up ↦ elim (or_cases one two up) [
          | inl here ↦ (
            u,
            refl,
            holds_given live u (neg_ℤ y) (neg_atom (atom_of graph b.high)) hu _ id
                (some_up graph u (neg_ℤ y) b.high high) defined.hu here,
          )
          | inr here ↦ (
            u,
            refl,
            holds_given live u y (neg_atom (atom_of graph b.low)) lu _ id
                (some_up graph u y b.low low) defined.lu here,
          )
        ]
        | inr here ↦ (
          neg_ℤ u,
          abs_neg b.variable,
          holds_given live (neg_ℤ u) (neg_ℤ y) (atom_of graph b.high) hd _ id
              (some_down graph (neg_ℤ u) (neg_ℤ y) b.high high) defined.hd here,
        )
      ]
      | inr here ↦ (
        neg_ℤ u,
        abs_neg b.variable,
        holds_given live (neg_ℤ u) y (atom_of graph b.low) ld _ id
            (some_down graph (neg_ℤ u) y b.low low) defined.ld here,
      )
    ]

some_clause : (o : Option (List ℤ)) → is_some o ≡ true → (clause : List ℤ) × (o ≡ Some clause)
some_clause None is = absurd (let e : false ≡ true = is in cc)
some_clause (Some clause) is = (clause, refl)

-- what was added defines none of the nodes that came since
module _ (graph later : Graph) (old new : State) (tied : IsTied graph old) (still : IsTied later new) (nodes : KeepsNodes graph later)
    (clauses : KeepsClauses old.live new.live) where
  not_new : (id : ℕ) → is_some (clause_at old.live id) ≡ true → (key : ℕ) (b : Branch) → branch_at later key ≡ Some b → branch_at graph key
      ≡ None → is_defined_by (defs_of b) id ≡ true → ⊥
  not_new id live key b at none by =
      let holds = defined_holds later new.live b (still.reduced.high key b at).stands (still.reduced.low key b at).stands
      (still.defined key b at) id by in
      let clause = some_clause (clause_at old.live id) live in
      let same : clause.0 ≡ holds.2.0 = (let e : Some clause.0 ≡ Some holds.2.0 = sym (clauses id clause.0 clause.1) ∙ holds.2.1 in cc) in
      let among : list_any (int_eq holds.0) clause.0 ≡ true = ap (list_any (int_eq holds.0)) same ∙ holds.2.2 in
      let order : levels later ≡ levels graph = ap length nodes.order in
      let owned = tied.over_nodes id clause.0 clause.1 holds.0 among (omega (arith, order, holds.1, still.reduced.above key b at)) in
      let here : key ≡ owned.key = still.reduced.apart key owned.key b owned.branch at (nodes.nodes owned.key owned.branch owned.stands)
      (sym (owned.own ∙ holds.1)) in
      let gone : None ≡ Some owned.branch = sym none ∙ ap (branch_at graph) here ∙ owned.stands in
      cc

  pub added_kept : (inputs id : ℕ) → IsAdded graph old.live inputs id → IsAdded later new.live inputs id
  added_kept inputs id added =
      let clause = some_clause (clause_at old.live id) added.stands in
      record {
        stands = ap is_some (clauses id clause.0 clause.1);
        above = added.above;
        defines_none = λ key b at.
            elim (branch_at graph key) as (λ o. branch_at graph key ≡ o → is_defined_by (defs_of b) id ≡ false) [
              | Some c ↦ λ is.
                  let same : c ≡ b = (let e : Some c ≡ Some b = sym (nodes.nodes key c is) ∙ at in cc) in
                  subst (λ (x : Branch). is_defined_by (defs_of x) id ≡ false) same (added.defines_none key c is)
              | None ↦ λ is.
                  elim (is_defined_by (defs_of b) id) as (λ t. is_defined_by (defs_of b) id ≡ t → t ≡ false) [
                    | false ↦ λ _. refl
                    | true ↦ λ by. absurd (not_new id added.stands key b at is by)
                  ] refl
            ] refl;
      }

-- each number of a node's clauses is given: they are consecutive
next_given : (d : Bool) (own id : ℕ) (rest : Bool) → own ≤ id → (own + one_if d ≤ id → rest ≡ true) → (is_given (given_if d own) id || rest)
    ≡ true
next_given false own id rest within later = later (omega (arith, within))
next_given true own id rest within later =
    elim (cases_eq own id) [
      | inl same ↦ or_left (own == id) rest (eq-eqb own id same)
      | inr differ ↦ or_right (own == id) rest (later (omega (arith, within, differ)))
    ]

last_given : (d : Bool) (own id : ℕ) → own ≤ id → id < own + one_if d → is_given (given_if d own) id ≡ true
last_given false own id within below = absurd (omega (arith, within, below))
last_given true own id within below = eq-eqb own id (omega (arith, within, below))

to_the_left : (a b c d : Bool) → (a || (b || (c || d))) ≡ true → (((a || b) || c) || d) ≡ true
to_the_left true b c d is = refl
to_the_left false true c d is = refl
to_the_left false false c d is = is

numbers_define : (b : Branch) (id : ℕ) → b.first ≤ id → id < b.first + definition_count b.high b.low → is_defined_by (defs_of b) id ≡ true
numbers_define b id within below =
    to_the_left (is_given (given_if (not (is_false_node b.high)) b.first) id)
    (is_given (given_if (not (is_false_node b.low)) (lu_first b.high b.first)) id)
    (is_given (given_if (not (is_true_node b.high)) (hd_first b.high b.low b.first)) id)
    (is_given (given_if (not (is_true_node b.low)) (ld_first b.high b.low b.first)) id)
    (next_given (not (is_false_node b.high)) b.first id _ within (λ one.
    next_given (not (is_false_node b.low)) (lu_first b.high b.first) id _ one (λ two.
    next_given (not (is_true_node b.high)) (hd_first b.high b.low b.first) id _ two (λ three.
    last_given (not (is_true_node b.low)) (ld_first b.high b.low b.first) id three (omega (arith, below))))))

-- what is added once a node came was added before
pub added_before : (graph later : Graph) (key level variable : ℕ) (high low : Node) (old new : State)
    → IsNew graph later key (new_branch old level high low variable)
    → GivesNumbers old new → ((id : ℕ) (clause : List ℤ) → clause_at new.live id ≡ Some clause → (0 < id) × (id ≤ new.top)) → new.top
    ≡ old.top + definition_count high low
    → (inputs id : ℕ) → IsAdded later new.live inputs id → IsAdded graph old.live inputs id
added_before graph later key level variable high low old new joined gives numbers top inputs id added =
    let b = new_branch old level high low variable in
    let keeps = KeepsNodes-new graph later key joined in
    let at : branch_at later key ≡ Some b = ap (λ (g : Graph). branch_at g key) joined.joined ∙ joined_at graph key b in
    let clause = some_clause (clause_at new.live id) added.stands in
    record {
      stands = elim (gives.next id added.stands) [
        | inl there ↦ there
        | inr above ↦
            let by : is_defined_by (defs_of b) id ≡ true = numbers_define b id (omega (arith, above))
            (omega (arith, (numbers id clause.0 clause.1).1, top)) in
            let none : is_defined_by (defs_of b) id ≡ false = added.defines_none key b at in
            absurd (let e : false ≡ true = sym none ∙ by in cc)
      ];
      above = added.above;
      defines_none = λ other c is. added.defines_none other c (keeps.nodes other c is);
    }

-- the number of a new clause is that of none that was live
module _ (graph : Graph) (state : State) (tied : IsTied graph state) where
  pub not_next : is_some (clause_at state.live (state.top + 1)) ≡ true → ⊥
  not_next live = let clause = some_clause (clause_at state.live (state.top + 1)) live in
      omega (arith, (tied.numbers (state.top + 1) clause.0 clause.1).1)

  -- so a new clause is one that was added
  pub added_next : (inputs : ℕ) → inputs ≤ state.top → (clause : List ℤ)
      → IsAdded graph (with_next state clause).live inputs (state.top + 1)
  added_next inputs few clause = record {
    stands = ap is_some (at_next state clause);
    above = omega (arith, few);
    defines_none = λ key b at.
        elim (is_defined_by (defs_of b) (state.top + 1)) as (λ t. is_defined_by (defs_of b) (state.top + 1) ≡ t → t ≡ false) [
          | false ↦ λ _. refl
          | true ↦ λ by.
              let holds = defined_holds graph state.live b (tied.reduced.high key b at).stands (tied.reduced.low key b at).stands
              (tied.defined key b at) (state.top + 1) by in
              absurd (not_next (ap is_some holds.2.1))
        ] refl;
  }
