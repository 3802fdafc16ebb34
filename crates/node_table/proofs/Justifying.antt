-- A call that adds a clause, as the ledger's answer leaves it.
use Rattle.std.proofs.Common.{◌≡◌, ◌≢◌, ◌↔◌, ◌+◌, ◌≤◌, ◌<◌, ◌∷◌, ℕ, ℤ, Bool, true, false, List, Result, Ok, Err, Option, None, Some, []}
use Rattle.std.proofs.Common.{refl, sym, ap, ◌∙◌, subst, arith, inl, inr}
use Rattle.std.specs.Prelude.{IfOk, IfErr, IsErrOf}
use Rattle.std.proofs.lemmas.Bool.{cases_lt}
use Rattle.clause_ledger.specs.Book.{AreTold, Book, addition, with_next}
use Rattle.clause_ledger.specs.Told.{told_state}
use Rattle.clause_ledger.specs.declared.error.LedgerError.{LedgerError}
use Rattle.clause_ledger.specs.declared.error.LedgerError.TheVariants.{IdLimit as LedgerIdLimit, OutOfMemory as LedgerOutOfMemory}
use Rattle.clause_ledger.specs.declared.error.LedgerError.TheVariants.{WriteFault as LedgerWriteFault}
use Rattle.node_table.specs.declared.error.TableError.{TableError}
use Rattle.node_table.specs.Errors.{table_error}
use Rattle.node_table.specs.HandedOn.{no_error}
use Rattle.node_table.specs.Diagram.{Graph, levels}
use Rattle.node_table.specs.Tied.{IsOverNodes}
use Rattle.node_table.specs.Table.{AddsNoEmpty, IsSound, live_nodes}
use Rattle.node_table.specs.Progress.{Steps, StepsOrRefutes}
use Rattle.lrat_rules.specs.Conservative.{is_conservative}
use Rattle.lrat_rules.specs.State.{State, clause_at}
use Rattle.node_table.proofs.NoEmpty.{next_empty}
use Rattle.node_table.proofs.Progressed.{Steps-anyhow, Steps-at_most}
use Rattle.node_table.proofs.CallSteps.{FewerInUse, no_room, no_ids_left, justified_on, justified_torn, Aside, table_of}

-- the error that the ledger's answer is told as
abbrev pub told : Result ℕ LedgerError → Option TableError
told (Ok id) = None
told (Err e) = Some (table_error e)

limit_no_fault : ◌≡◌ {A = LedgerError} LedgerIdLimit LedgerWriteFault → ⊥
limit_no_fault is = cc

memory_no_fault : ◌≡◌ {A = LedgerError} LedgerOutOfMemory LedgerWriteFault → ⊥
memory_no_fault is = cc

no_limit : ◌≡◌ {A = Result ℕ LedgerError} (Err LedgerWriteFault) (Err LedgerIdLimit) → ⊥
no_limit is = cc

-- what the ledger's call of a clause ensures
pub record Answers {S : Type 0} (old new : Book S) (clause : List ℤ) (hints : List ℕ) (r : Result ℕ LedgerError) : Type 0 where
  pub added : IfOk r (λ id. (id ≡ old.state.top + 1) × AreTold true old new (addition old.state clause hints ∷ []))
  pub id_limit : IsErrOf r LedgerIdLimit ↔ (old.limit ≤ old.state.top)
  pub unchanged : IfErr r (λ e. e ≢ LedgerWriteFault → new ≡ old)
  pub torn : IsErrOf r LedgerWriteFault → AreTold false old new (addition old.state clause hints ∷ [])

module _ {S : Type 0} (aside : Aside) (graph : Graph) (old new : Book S) (clause : List ℤ) (hints : List ℕ)
    (sound : IsSound (table_of aside graph old)) (over : IsOverNodes graph clause) (few : live_nodes graph
    ≤ aside.max_nodes) (fewer : FewerInUse) where
  abbrev StepsTo : Book S → Option TableError → Type 0
  StepsTo book error = StepsOrRefutes (table_of aside graph old) (table_of aside graph book) 1 error

  -- nothing was changed
  same_book : (error : Option TableError) → new ≡ old → Steps (table_of aside graph old) (table_of aside graph old) 0 error
      → StepsTo new error
  same_book error same steps =
      subst (λ (b : Book S). StepsTo b error) (sym same)
      (Steps-anyhow (table_of aside graph old) (table_of aside graph old) 1 error
      (Steps-at_most (table_of aside graph old) (table_of aside graph old) 0 1 error (omega arith) steps))

  state_is : (in_step : Bool) → AreTold in_step old new (addition old.state clause hints ∷ []) → new.state ≡ with_next old.state clause
  state_is in_step told_of = told_state told_of

  -- the clause that comes isn't empty
  came_some : clause ≢ [] → new.state ≡ with_next old.state clause → AddsNoEmpty (table_of aside graph old) (table_of aside graph new)
  came_some some is = record {
    each = λ id empty. next_empty old.state clause some id (sym (ap (λ (s : State). clause_at s.live id) is) ∙ empty);
  }

  none_came : new ≡ old → AddsNoEmpty (table_of aside graph old) (table_of aside graph new)
  none_came same = record { each = λ id empty. sym (ap (λ (b : Book S). clause_at b.state.live id) same) ∙ empty }

  pub justify_no_empty : (r : Result ℕ LedgerError) → Answers old new clause hints r → clause ≢ []
      → AddsNoEmpty (table_of aside graph old) (table_of aside graph new)
  justify_no_empty (Ok id) answers some = came_some some (state_is true answers.added.1)
  justify_no_empty (Err LedgerIdLimit) answers some = none_came (answers.unchanged limit_no_fault)
  justify_no_empty (Err LedgerOutOfMemory) answers some = none_came (answers.unchanged memory_no_fault)
  justify_no_empty (Err LedgerWriteFault) answers some = came_some some (state_is false (answers.torn refl))

  below_limit : (r : Result ℕ LedgerError) → (IsErrOf r LedgerIdLimit ↔ (old.limit ≤ old.state.top)) → (IsErrOf r LedgerIdLimit → ⊥)
      → old.state.top < old.limit
  below_limit r id_limit other = elim (cases_lt old.state.top old.limit) [
    | inl below ↦ below
    | inr met ↦ absurd (other (id_limit.1 met))
  ]

  pub justify_steps : is_conservative (levels graph) old.state (addition old.state clause hints) ≡ true → (r : Result ℕ LedgerError)
      → Answers old new clause hints r → StepsTo new (told r)
  justify_steps conserves (Ok id) answers =
      justified_on aside graph old new clause sound over
      (below_limit (Ok id) answers.id_limit no_error) (state_is true answers.added.1) hints answers.added.1 conserves
  justify_steps conserves (Err LedgerIdLimit) answers =
      let met = answers.id_limit.0 refl in
      same_book (told (Err LedgerIdLimit)) (answers.unchanged limit_no_fault)
      (no_ids_left (table_of aside graph old) (table_of aside graph old) sound refl (omega (arith, met)))
  justify_steps conserves (Err LedgerOutOfMemory) answers =
      same_book (told (Err LedgerOutOfMemory)) (answers.unchanged memory_no_fault)
      (no_room (table_of aside graph old) (table_of aside graph old) sound refl)
  justify_steps conserves (Err LedgerWriteFault) answers =
      justified_torn aside graph old new clause sound over
      (below_limit (Err LedgerWriteFault) answers.id_limit no_limit) (state_is false (answers.torn refl)) hints
      (answers.torn refl) fewer few
