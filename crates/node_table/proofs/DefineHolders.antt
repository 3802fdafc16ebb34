-- The live clauses that hold a literal, while clauses are added under the next numbers.
use Rattle.std.proofs.Common.{◌≡◌, ℕ, ◌+◌, ◌<◌, ◌≤◌, Bool, true, false, ◌||◌, ◌&&◌, ℤ, nat_abs, List, [], ◌++◌, Option, None, Some, is_some}
use Rattle.std.proofs.Common.{refl, sym, ap, ◌∙◌, subst, arith, inl, inr, eq-eqb, ne_eqb}
use Rattle.std.specs.Prelude.{◌==◌, if◌then◌else◌}
use Rattle.std.specs.List.{list_any}
use Rattle.std.specs.Option.{option_to_list}
use Rattle.std.specs.Ordering.{int_eq}
use Rattle.std.proofs.lemmas.List.{append-nil}
use Rattle.std.proofs.lemmas.List.Folds.{list_any-append}
use Rattle.std.proofs.lemmas.Bool.{cases_eq, false_from_ne_true}
use Rattle.cnf_base.specs.ProofText.{given_if}
use Rattle.lrat_rules.specs.State.{State, Live, clause_at, with_clause}
use Rattle.lrat_rules.specs.Addition.{if_live}
use Rattle.node_table.specs.Defined.{IsUnused, one_if, with_some}

-- what stands under a number once a clause was put under one
abbrev pub LiveLaw : Type 0
LiveLaw = (live : Live) (id other : ℕ) (clause : List ℤ) → clause_at (with_clause live id clause) other
    ≡ (if other == id then Some clause else clause_at live other)

-- the numbers of live clauses
abbrev pub AreNumbers : Live → ℕ → Type 0
AreNumbers live top = (id : ℕ) (clause : List ℤ) → clause_at live id ≡ Some clause → (0 < id) × (id ≤ top)

-- the live clauses that hold this literal are exactly these
pub record AreHolders (live : Live) (literal : ℤ) (ids : List ℕ) : Type 0 where
  pub named : (id : ℕ) → if_live (list_any (int_eq literal)) (clause_at live id) ≡ list_any (λ holder. holder == id) ids

-- each of them passes a test
pub record EachHolder (live : Live) (literal : ℤ) (test : List ℤ → Bool) : Type 0 where
  pub each : (id : ℕ) (clause : List ℤ) → clause_at live id ≡ Some clause → list_any (int_eq literal) clause ≡ true → test clause ≡ true

-- the clause under the new number, and under each other one
pub at_new : LiveLaw → (live : Live) (id other : ℕ) (clause : List ℤ) → other ≡ id → clause_at (with_clause live id clause) other
    ≡ Some clause
at_new law live id other clause same = law live id other clause ∙ ap (λ b. if b then Some clause else clause_at live other)
    (eq-eqb other id same)

pub at_other : LiveLaw → (live : Live) (id other : ℕ) (clause : List ℤ) → (other ≡ id → ⊥) → clause_at (with_clause live id clause) other
    ≡ clause_at live other
at_other law live id other clause differ = law live id other clause
    ∙ ap (λ b. if b then Some clause else clause_at live other) (ne_eqb other id differ)

pub top-with_some : (state : State) (o : Option (List ℤ)) → (with_some state o).top ≡ state.top + one_if (is_some o)
top-with_some state None = omega arith
top-with_some state (Some clause) = refl

pub AreNumbers-some : LiveLaw → (state : State) (o : Option (List ℤ)) → AreNumbers state.live state.top
    → AreNumbers (with_some state o).live (with_some state o).top
AreNumbers-some law state None numbers id other is = numbers id other is
AreNumbers-some law state (Some clause) numbers id other is =
    elim (cases_eq id (state.top + 1)) [
      | inl same ↦ (omega (arith, same), omega (arith, same))
      | inr differ ↦ let range = numbers id other (sym (at_other law state.live (state.top + 1) id clause differ) ∙ is) in
          (range.0, omega (arith, range.1))
    ]

none_next : (live : Live) (top : ℕ) → AreNumbers live top → clause_at live (top + 1) ≡ None
none_next live top numbers =
    elim (clause_at live (top + 1)) as (λ o. clause_at live (top + 1) ≡ o → o ≡ None) [
      | None ↦ λ is. refl
      | Some clause ↦ λ is. absurd (let range = numbers (top + 1) clause is in omega (arith, range.1))
    ] refl

-- lists of numbers
or_false : (b : Bool) → (b || false) ≡ b
or_false true = refl
or_false false = refl

any-given : (b : Bool) (given id : ℕ) → list_any (λ holder. holder == id) (option_to_list (given_if b given)) ≡ (b && (given == id))
any-given true given id = or_false (given == id)
any-given false given id = refl

pub and_true : (b : Bool) → (b && true) ≡ b
and_true true = refl
and_true false = refl

pub and_false : (b : Bool) → (b && false) ≡ false
and_false true = refl
and_false false = refl

-- the holders of a literal once a clause is added
AreHolders-next : LiveLaw → (state : State) → AreNumbers state.live state.top → (clause : List ℤ) (literal : ℤ) (ids : List ℕ)
    → AreHolders state.live literal ids → (id : ℕ)
    → if_live (list_any (int_eq literal)) (clause_at (with_clause state.live (state.top + 1) clause) id)
    ≡ (list_any (λ holder. holder == id) ids || (list_any (int_eq literal) clause && (state.top + 1 == id)))
AreHolders-next law state numbers clause literal ids holders id =
    let holds = list_any (int_eq literal) clause in
    let old = list_any (λ holder. holder == id) ids in
    elim (cases_eq id (state.top + 1)) [
      | inl same ↦
          let none : old ≡ false = sym (holders.named id) ∙ ap (if_live (list_any (int_eq literal))) (ap (clause_at state.live) same
          ∙ none_next state.live state.top numbers) in
          let here : (state.top + 1 == id) ≡ true = eq-eqb (state.top + 1) id (sym same) in
          ap (if_live (list_any (int_eq literal))) (at_new law state.live (state.top + 1) id clause same)
          ∙ sym (ap (λ b. old || (holds && b)) here ∙ ap (λ b. b || (holds && true)) none ∙ and_true holds)
      | inr differ ↦
          let elsewhere : (state.top + 1 == id) ≡ false = ne_eqb (state.top + 1) id (λ same. differ (sym same)) in
          ap (if_live (list_any (int_eq literal))) (at_other law state.live (state.top + 1) id clause differ) ∙ holders.named id
          ∙ sym (ap (λ b. old || (holds && b)) elsewhere ∙ ap (λ b. old || b) (and_false holds) ∙ or_false old)
    ]

pub AreHolders-some : LiveLaw → (state : State) → AreNumbers state.live state.top
    → (o : Option (List ℤ)) (literal : ℤ) (ids : List ℕ) (holds : Bool) → if_live (list_any (int_eq literal)) o ≡ holds
    → AreHolders state.live literal ids → AreHolders (with_some state o).live literal (ids
    ++ option_to_list (given_if holds (state.top + 1)))
AreHolders-some law state numbers None literal ids holds is holders = record {
  named = λ id. holders.named id ∙ sym (list_any-append (λ holder. holder == id) ids (option_to_list (given_if holds (state.top + 1)))
      ∙ ap (λ b. list_any (λ holder. holder == id) ids || b) (any-given holds (state.top + 1) id
      ∙ ap (λ b. b && (state.top + 1 == id)) (sym is))
      ∙ or_false (list_any (λ holder. holder == id) ids));
}
AreHolders-some law state numbers (Some clause) literal ids holds is holders = record {
  named = λ id. AreHolders-next law state numbers clause literal ids holders id
      ∙ sym (list_any-append (λ holder. holder == id) ids (option_to_list (given_if holds (state.top + 1)))
      ∙ ap (λ b. list_any (λ holder. holder == id) ids || b) (any-given holds (state.top + 1) id
      ∙ ap (λ b. b && (state.top + 1 == id)) (sym is)));
}

-- a clause without the literal leaves its holders
pub AreHolders-without : LiveLaw → (state : State) → AreNumbers state.live state.top → (o : Option (List ℤ)) (literal : ℤ) (ids : List ℕ)
    → if_live (list_any (int_eq literal)) o ≡ false
    → AreHolders state.live literal ids → AreHolders (with_some state o).live literal ids
AreHolders-without law state numbers o literal ids is holders =
    subst (AreHolders (with_some state o).live literal) (append-nil ids) (AreHolders-some law state numbers o literal ids false is holders)

pub EachHolder-some : LiveLaw → (state : State) (o : Option (List ℤ)) (literal : ℤ) (test : List ℤ → Bool)
    → EachHolder state.live literal test
    → ((clause : List ℤ) → o ≡ Some clause → list_any (int_eq literal) clause ≡ true → test clause ≡ true)
    → EachHolder (with_some state o).live literal test
EachHolder-some law state None literal test before new = before
EachHolder-some law state (Some clause) literal test before new = record {
  each = λ id other is holds. elim (cases_eq id (state.top + 1)) [
    | inl same ↦ new other (sym (at_new law state.live (state.top + 1) id clause same) ∙ is) holds
    | inr differ ↦ before.each id other (sym (at_other law state.live (state.top + 1) id clause differ) ∙ is) holds
  ];
}

-- at first no live clause holds a literal of an unused variable
pub AreHolders-unused : (live : Live) (variable : ℕ) → IsUnused live variable → (literal : ℤ) → nat_abs literal ≡ variable
    → AreHolders live literal []
AreHolders-unused live variable unused literal is = record {
  named = λ id. elim (clause_at live id) as (λ o. clause_at live id ≡ o → if_live (list_any (int_eq literal)) o ≡ false) [
    | None ↦ λ at. refl
    | Some clause ↦ λ at. false_from_ne_true (list_any (int_eq literal) clause) (λ holds. unused id clause at literal holds is)
  ] refl;
}

pub EachHolder-unused : (live : Live) (variable : ℕ) → IsUnused live variable → (literal : ℤ) (test : List ℤ → Bool) → nat_abs literal
    ≡ variable → EachHolder live literal test
EachHolder-unused live variable unused literal test is = record {
  each = λ id clause at holds. absurd
      (unused id clause at literal holds is);
}

-- what each clause that may be there holds
pub if_live-each : (o : Option (List ℤ)) (test : List ℤ → Bool) (answer : Bool)
    → ((clause : List ℤ) → o ≡ Some clause → test clause ≡ answer) → if_live test o ≡ (is_some o && answer)
if_live-each None test answer each = refl
if_live-each (Some clause) test answer each = each clause refl
