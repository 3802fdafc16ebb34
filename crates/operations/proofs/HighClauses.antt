-- The high clause is retired, behind the low one or where that was refused: what the additions retire, and what they give.
use Rattle.std.proofs.Common.{◌≡◌, ◌≢◌, ◌+◌, ◌<◌, ◌≤◌, ℕ, ℤ, true, List, [], ◌∷◌, ◌++◌, None, Some, cond, is_some, Contains}
use Rattle.std.proofs.Common.{slice_index_or, zero, suc, refl, sym, ap, ◌∙◌, subst, arith, inl, inr, eq-eqb}
use Rattle.std.proofs.lemmas.Bool.{cases_eq}
use Rattle.std.proofs.lemmas.List.Elements.{Contains-append_cases, Contains-append_right}
use Rattle.std.specs.FinMap as finmap
use Rattle.std.specs.Cmp.{nat_cmp_total, unsigned_tied}
use Rattle.lrat_rules.specs.State.{State, clause_at}
use Rattle.clause_ledger.specs.Book.{with_next}
use Rattle.node_table.specs.declared.error.TableError.{TableError}
use Rattle.node_table.specs.declared.error.TableError.TheVariants.{NodeLimit, IdLimit, OutOfMemory, WriteFault}
use Rattle.node_table.specs.declared.node.Justification.{Justification}
use Rattle.node_table.specs.declared.node.Justification.TheVariants.{Trivial, Clause}
use Rattle.node_table.specs.Table.{TableState, IsSound, IsAddedTo, IsSame, live_nodes}
use Rattle.node_table.specs.Progress.{Leaves, Steps}
use Rattle.node_table.specs.Laws.{StepByStep}
use Rattle.operations.specs.Accounts.{GivesOne, RetiresNew}
use Rattle.operations.specs.Additions.{HighClauses}

trivial : (id : ℕ) → ◌≡◌ {A = Justification} Trivial (Clause id) → ⊥
trivial id is = cc

-- what was added has a number that was given
within : {S : Type 0} (table : TableState S) → IsSound table → (id : ℕ) → IsAddedTo table id → id ≤ table.book.state.top
within table sound id own =
    elim (clause_at table.book.state.live id) as (λ o. clause_at table.book.state.live id ≡ o → is_some o ≡ true → id
    ≤ table.book.state.top) [
      | None ↦ λ is some. cc
      | Some clause ↦ λ is some. (sound.tied.numbers id clause is).1
    ] refl own.stands

-- nothing is given where nothing was added
pub gives_nothing : {S : Type 0} (table : TableState S) → IsSound table → GivesOne table table Trivial
gives_nothing table sound = record {
  since = λ id no. absurd (trivial id no);
  own = λ id no. absurd (trivial id no);
  unretired = λ id no there. trivial id no;
  others = λ id above added. absurd (omega (arith, above, within table sound id added));
}

gives_same : {S : Type 0} (old new : TableState S) → IsSound old → IsSame old new → GivesOne old new Trivial
gives_same {S} old new sound same = record {
  since = λ id no. absurd (trivial id no);
  own = λ id no. absurd (trivial id no);
  unretired = λ id no there. trivial id no;
  others = λ id above added. absurd (omega (arith, above, within old sound id (subst (λ (t : TableState S). IsAddedTo t id) same added)));
}

-- a table with one retired clause more
abbrev with_retired : {S : Type 0} → TableState S → ℕ → TableState S
with_retired table id = record table { retired = table.retired ++ id ∷ [] }

only : (x y : ℕ) → Contains (x ∷ []) y → x ≡ y
only x y is = at_first is.0 is.1 is.2
  where
    at_first : (k : ℕ) → k < 1 → slice_index_or (x ∷ []) k y ≡ y → x ≡ y
    at_first zero small there = there
    at_first (suc k) small there = absurd (omega (arith, small))

-- Of three tables: the first one is that before, the second that with the high clause, and the third that behind the low addition.
module _ {S : Type 0} (old one two : TableState S) (high : ℕ) (number : high ≡ old.book.state.top + 1) (unchanged : one.retired
    ≡ old.retired) (still : two.retired ≡ one.retired) where
  retires_high : (new : TableState S) → new ≡ with_retired two high → new.retired ≡ old.retired ++ high ∷ []
  retires_high new is = ap (λ (t : TableState S). t.retired) is ∙ ap (λ (ids : List ℕ). ids ++ high ∷ []) (still ∙ unchanged)

  retires_new : (new : TableState S) → new ≡ with_retired two high → RetiresNew old new
  retires_new new is id there =
      elim (Contains-append_cases old.retired (high ∷ []) id (subst (λ (ids : List ℕ). Contains ids id) (retires_high new is) there)) [
        | inl before ↦ inl before
        | inr last ↦ inr (omega (arith, number, only high id last))
      ]

  last : Contains (two.retired ++ high ∷ []) high
  last = Contains-append_right two.retired (high ∷ []) high (0, omega arith, refl)

  module _ (top : one.book.state.top ≡ high) where
    -- the low clause is given
    gives_low : (id : ℕ) → id ≡ one.book.state.top + 1 → two.book.state.top ≡ id → IsSound two → IsAddedTo two id
        → (Contains two.retired id → ⊥)
        → (new : TableState S) → new ≡ with_retired two high → GivesOne old new (Clause id)
    gives_low id next last_number sound own free new is =
        subst (λ (t : TableState S). GivesOne old t (Clause id)) (sym is) (record {
          since = λ other same. let e : id ≡ other = cc in omega (arith, e, next, top, number);
          own = λ other same. subst (λ (i : ℕ). IsAddedTo two i) (let e : id ≡ other = cc in e) own;
          unretired = λ other same there. let e : id ≡ other = cc in elim (Contains-append_cases two.retired (high ∷ []) other there) [
            | inl before ↦ free (subst (λ (i : ℕ). Contains two.retired i) (sym e) before)
            | inr here ↦ absurd (omega (arith, e, next, top, only high other here))
          ];
          others = λ other above added. elim (cases_eq other id) [
            | inl same ↦ inr (ap Clause (sym same))
            | inr differ ↦ inl (subst (λ (i : ℕ). Contains (two.retired ++ high ∷ []) i)
                (omega (arith, above, differ, next, top, number, last_number, within two sound other added)) last)
          ];
        })

    -- no clause is given where the low addition was refused
    gives_none : IsSound one → IsSame one two → (new : TableState S) → new ≡ with_retired two high → GivesOne old new Trivial
    gives_none sound same new is =
        subst (λ (t : TableState S). GivesOne old t Trivial) (sym is) (record {
          since = λ other no. absurd (trivial other no);
          own = λ other no. absurd (trivial other no);
          unretired = λ other no there. trivial other no;
          others = λ other above added. inl (
              let had : IsAddedTo one other = subst (λ (t : TableState S). IsAddedTo t other) same added in
              subst (λ (i : ℕ). Contains (two.retired ++ high ∷ []) i)
              (omega (arith, above, top, number, within one sound other had)) last);
        })

-- a refused call whose table retires a clause then
module _ {S : Type 0} (law : StepByStep S) (one two new : TableState S) (high : ℕ)
    (is : new ≡ with_retired two high)
    (retiring : Steps two new 0 None) where
  leaves_retired : (error : TableError) → error ≢ WriteFault → Leaves one two
      (Some error)
      → Leaves one new (Some error)
  leaves_retired NodeLimit other leaves = (
    law.go_on one two new leaves.0 retiring.leaves,
    subst (λ (t : TableState S). t.max_nodes ≤ live_nodes t.graph) (sym is) leaves.1,
  )
  leaves_retired IdLimit other leaves = (
    law.go_on one two new leaves.0 retiring.leaves,
    subst (λ (t : TableState S). t.book.limit < t.book.state.top
        + 4) (sym is) leaves.1,
  )
  leaves_retired OutOfMemory other leaves = law.go_on one two new leaves retiring.leaves
  leaves_retired WriteFault other leaves = absurd (other refl)

  steps_retired : (few : ℕ) (error : TableError) → error ≢ WriteFault
      → Steps one two few (Some error)
      → Steps one new few (Some error)
  steps_retired few error other steps = record {
    leaves = leaves_retired error other steps.leaves;
    extends = law.extend one two new steps.extends retiring.extends;
    adds = omega (arith, steps.adds, retiring.adds);
    no_empty = record { each = λ id empty. steps.no_empty.each id (retiring.no_empty.each id empty) };
  }

-- the clause that an addition made is live
added_at : (old new : State) (id : ℕ) (clause : List ℤ) → (id ≡ old.top + 1) × (new ≡ with_next old clause) → clause_at new.live id
    ≡ Some clause
added_at old new id clause is =
    (λ i. clause_at (is.1 i).live (is.0 i))
    ∙ finmap.get-insert nat_cmp_total old.live (old.top + 1) clause (old.top + 1)
    ∙ ap (λ t. cond t (Some clause) (clause_at old.live (old.top + 1))) (unsigned_tied (old.top + 1) (old.top + 1)
    ∙ eq-eqb (old.top + 1) (old.top + 1) refl)

same_list : {S : Type 0} (one two : TableState S) → IsSame one two → two.retired ≡ one.retired
same_list one two same = ap (λ t. t.retired) same

pub high_clauses : {S : Type 0} → StepByStep S → HighClauses S
high_clauses law = record {
  none = gives_nothing;
  refused = gives_same;
  added = added_at;
  served = λ old one two new high low first second gone. (
    law.further old one new 1 1 None first.steps (law.further one two new 1 0 None second.steps gone.steps),
    retires_new old one two high first.number first.retired second.retired new gone.is,
    gives_low old one two high first.number first.retired second.retired first.top low second.number second.top second.steps.leaves.sound
        second.own second.unretired new gone.is,
  );
  left = λ old one two new high error first second gone. (
    law.further old one new 1 1 (Some error) first.steps
        (steps_retired law one two new high gone.is gone.steps 1 error second.whole second.steps),
    retires_new old one two high first.number first.retired (same_list one two second.same) new gone.is,
    gives_none old one two high first.number first.retired (same_list one two second.same) first.top first.steps.leaves.sound second.same
        new gone.is,
  );
}
