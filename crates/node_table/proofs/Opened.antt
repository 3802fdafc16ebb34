-- A table without nodes is tied to the formula's clauses, and sound.
use Rattle.std.proofs.Common.{◌≡◌, ℕ, zero, suc, ◌+◌, ◌-◌, ◌<◌, ◌≤◌, true, false, ℤ, List, [], ◌∷◌, length, None, Some, nat_cmp, sym, ap}
use Rattle.std.proofs.Common.{◌∙◌, subst, arith, inl, inr}
use Rattle.std.specs.Prelude.{slice_index_or, nat_abs, nat_lt, nat_le}
use Rattle.std.specs.List.{list_any, list_all}
use Rattle.std.specs.Ordering.{int_eq}
use Rattle.std.specs.FinMap as map
use Rattle.std.proofs.lemmas.Bool.{cases_eq, cases_lt, and_parts, or_cases, leb-true}
use Rattle.std.proofs.lemmas.Bool.Decides.{Decides-int_eq}
use Rattle.cnf_base.specs.Truth.{AreClausesOf, is_literal_of}
use Rattle.lrat_rules.specs.State.{State, start, clause_at}
use Rattle.clause_ledger.specs.Book.{Book}
use Rattle.node_table.specs.declared.node.Branch.{Branch}
use Rattle.node_table.specs.Diagram.{IsOrder, branch_at}
use Rattle.node_table.specs.Tied.{IsTied, IsUpTo}
use Rattle.node_table.specs.Table.{IsSound, opened}
use Rattle.node_table.proofs.Retired.{AreRetired-none}

module _ (within : (clauses : List (List ℤ)) (i : ℕ) → i < length clauses → clause_at (start clauses).live (i + 1)
    ≡ Some (slice_index_or clauses i []))
    (at_zero : (clauses : List (List ℤ)) → clause_at (start clauses).live 0 ≡ None)
    (above : (clauses : List (List ℤ)) (id : ℕ) → length clauses < id → clause_at (start clauses).live id ≡ None) where
  numbers : (clauses : List (List ℤ)) (id : ℕ) (clause : List ℤ) → clause_at (start clauses).live id ≡ Some clause → (0 < id)
      × (id ≤ length clauses)
  numbers clauses id clause is =
      let positive : 0 < id = elim (cases_eq id 0) [
        | inl same ↦ absurd (let none : clause_at (start clauses).live id ≡ None = ap (clause_at (start clauses).live) same
            ∙ at_zero clauses in cc)
        | inr differ ↦ omega arith
      ] in
      let small : id ≤ length clauses = elim (cases_lt (length clauses) id) [
        | inl late ↦ absurd (let none : clause_at (start clauses).live id ≡ None = above clauses id late in cc)
        | inr early ↦ early
      ] in
      (positive, small)

  -- the clause is one of the formula's
  is_one : (clauses : List (List ℤ)) (id : ℕ) (clause : List ℤ) → clause_at (start clauses).live id ≡ Some clause → (i : ℕ)
      × (i < length clauses) × (slice_index_or clauses i [] ≡ clause)
  is_one clauses id clause is =
      let range = numbers clauses id clause is in
      let small : id - 1 < length clauses = omega (arith, range.0, range.1) in
      let back : id - 1 + 1 ≡ id = omega (arith, range.0) in
      let found : Some (slice_index_or clauses (id - 1) []) ≡ Some clause = sym (within clauses (id - 1) small)
      ∙ ap (clause_at (start clauses).live) back ∙ is in
      (id - 1, small, cc)

  each_at : (vars : ℕ) (clauses : List (List ℤ)) → list_all (list_all (is_literal_of vars)) clauses ≡ true → (i : ℕ) → i < length clauses
      → list_all (is_literal_of vars) (slice_index_or clauses i []) ≡ true
  each_at vars [] all i small = absurd (omega (arith, small))
  each_at vars (clause ∷ clauses) all zero small = (and_parts (list_all (is_literal_of vars) clause)
      (list_all (list_all (is_literal_of vars)) clauses) all).0
  each_at vars (clause ∷ clauses) all (suc i) small = each_at vars clauses
      (and_parts (list_all (is_literal_of vars) clause) (list_all (list_all (is_literal_of vars)) clauses) all).1 i (omega (arith, small))

  small_literal : (vars : ℕ) (clause : List ℤ) → list_all (is_literal_of vars) clause ≡ true → (literal : ℤ)
      → list_any (int_eq literal) clause ≡ true → nat_abs literal ≤ vars
  small_literal vars [] all literal among = absurd (let e : false ≡ true = among in cc)
  small_literal vars (own ∷ clause) all literal among =
      let parts = and_parts (is_literal_of vars own) (list_all (is_literal_of vars) clause) all in
      elim (or_cases (int_eq literal own) (list_any (int_eq literal) clause) among) [
        | inl here ↦
            let same : literal ≡ own = (Decides-int_eq literal own).0 here in
            omega (
              arith,
              leb-true (nat_abs own) vars (and_parts (nat_lt 0 (nat_abs own)) (nat_le (nat_abs own) vars) parts.0).1,
              ap nat_abs same,
            )
        | inr there ↦ small_literal vars clause parts.1 literal there
      ]

  nothing_at : (order : List ℕ) (key : ℕ) (b : Branch) → branch_at (record { order = order; nodes = map.empty }) key ≡ Some b → ⊥
  nothing_at order key b is = let none : branch_at (record { order = order; nodes = map.empty }) key ≡ None = map.get-empty nat_cmp key in
      cc

  -- a live clause is over the formula's variables
  in_range : (order : List ℕ) (clauses : List (List ℤ)) → AreClausesOf (length order) clauses → (id : ℕ) (clause : List ℤ)
      → clause_at (start clauses).live id ≡ Some clause → IsUpTo (length order) clause
  in_range order clauses all id clause is literal among =
      let one = is_one clauses id clause is in
      small_literal (length order) clause (subst (λ (c : List ℤ). list_all (is_literal_of (length order)) c ≡ true) one.2
      (each_at (length order) clauses all one.0 one.1)) literal among

  opened_tied : (order : List ℕ) (clauses : List (List ℤ)) → IsOrder order → AreClausesOf (length order) clauses
      → IsTied (record { order = order; nodes = map.empty }) (start clauses)
  opened_tied order clauses is_order all = record {
    reduced = record {
      level = λ key b is. absurd (nothing_at order key b is);
      high = λ key b is. absurd (nothing_at order key b is);
      low = λ key b is. absurd (nothing_at order key b is);
      differ = λ key b is. absurd (nothing_at order key b is);
      unique = λ key other one two is also alike. absurd (nothing_at order key one is);
      above = λ key b is. absurd (nothing_at order key b is);
      apart = λ key other one two is also same. absurd (nothing_at order key one is);
    };
    ordered = is_order;
    defined = λ key b is. absurd (nothing_at order key b is);
    over_nodes = λ id clause is literal among late.
        let small = in_range order clauses all id clause is literal among in
        absurd (omega (arith, small, late));
    numbers = λ id clause is. numbers clauses id clause is;
  }

  pub opened_sound : {S : Type 0} (order : List ℕ) (clauses : List (List ℤ)) (book : Book S) (max_nodes : ℕ) → IsOrder order
      → AreClausesOf (length order) clauses → book.state ≡ start clauses → book.in_step ≡ true → IsSound (opened order book max_nodes)
  opened_sound order clauses book max_nodes is_order all state in_step = record {
    in_step = in_step;
    tied = subst (λ (s : State). IsTied (record { order = order; nodes = map.empty }) s) (sym state) (opened_tied order clauses is_order all);
    variables = λ key b is. absurd (nothing_at order key b is);
    inputs = omega arith;
    formula = λ id clause is low. in_range order clauses all id clause (sym (ap (λ (s : State). clause_at s.live id) state) ∙ is);
    retired = AreRetired-none (record { order = order; nodes = map.empty }) book.state.live book.state.top;
  }
