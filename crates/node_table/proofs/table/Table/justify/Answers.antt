-- What is left to show of `Table::justify`.
use Rattle.std.proofs.Common.{◌≡◌, ◌≢◌, ◌∙◌, ◌+◌, ◌≤◌, ℕ, true, List, length, [], Option, Some, Contains, is_some, sym, ap, subst}
use Rattle.std.specs.Prelude.{vec_capacity}
use Rattle.lrat_rules.specs.Conservative.{is_conservative}
use Rattle.lrat_rules.specs.State.{State, clause_at}
use Rattle.lrat_rules.specs.Strict.{RefutesStrictly}
use Rattle.clause_ledger.specs.Book.{addition}
use Rattle.clause_ledger.specs.Told.{told_state, told_formula}
use Rattle.node_table.specs.declared.error.TableError.{TableError}
use Rattle.node_table.specs.Diagram.{levels}
use Rattle.node_table.specs.Tied.{IsAdded, IsOverNodes}
use Rattle.node_table.specs.Places.{HavePlaces}
use Rattle.node_table.specs.Table.{TableState, AddsNoEmpty, IsSound}
use Rattle.node_table.specs.Progress.{StepsOrRefutes}
use Rattle.node_table.proofs.Added.{added_next, not_next}
use Rattle.node_table.proofs.CallSteps.{Aside, table_of}
use Rattle.node_table.proofs.Justifying.{Answers, told, justify_no_empty, justify_steps}
use Rattle.node_table.proofs.Progressed.{Steps-no_empty}
use Rattle.node_table.proofs.Places.{HavePlaces-next}
use Rattle.node_table.proofs.table.Table.justify.Given.{Over}
use Rattle.node_table.proofs.table.Table.justify.Goals as goal
use Rattle.node_table.proofs.table.Table.justify.Goals.{After-add}

-- what is beside nodes and ledger
abbrev aside : (g : Over) → After-add g → Aside
aside g c = record { max_nodes = c.self.inside.max_nodes; inputs = c.self.inside.inputs; retired = c.self.inside.retired.items }

sound : (g : Over) (c : After-add g) → IsSound (table_of (aside g c) c.self.inside.diagram c.self.inside.ledger)
sound g c = subst {A = TableState g.row.S.Denot} (λ t. IsSound t) (sym c.self.view_is) c.requires.sound

pub invariant_of-self-in-Ok : goal.invariant_of-self-in-Ok
invariant_of-self-in-Ok g c =
    let inside = c.self.inside in
    let is = sound g (goal.at.invariant_of-self-in-Ok g c).After-add in (
      c.self.invariant.0,
      c.self.invariant.1,
      λ _.
          subst (λ (s : State). HavePlaces inside.diagram s.live inside.inputs (inside.places
          + 1) (vec_capacity c.reserve_place.new.retired)) (sym (told_state c.in-Ok.ensures.added.1))
          (HavePlaces-next inside.diagram inside.ledger.state c.args.clause.now inside.inputs inside.places (vec_capacity inside.retired)
          (vec_capacity c.reserve_place.new.retired)
          c.reserve_place.ensures.no_less c.in_ok-reserve_place.ensures.room (c.self.invariant.2 is.in_step)),
      c.self.invariant.3,
      subst (λ (n : ℕ). n ≤ inside.inputs) (sym (ap length (told_formula c.in-Ok.ensures.added.1))) c.self.invariant.4,
    )

pub returns-in-Ok-clause-own : goal.returns-in-Ok-clause-own
returns-in-Ok-clause-own g c =
    let inside = c.self.inside in
    let is = sound g (goal.at.returns-in-Ok-clause-own g c).After-add in
    subst (λ (s : State). IsAdded inside.diagram s.live inside.inputs c.in-Ok.id)
    (sym (told_state c.in-Ok.ensures.added.1))
    (subst (IsAdded inside.diagram _ inside.inputs) (sym c.in-Ok.ensures.added.0)
    (added_next inside.diagram inside.ledger.state is.tied inside.inputs is.inputs c.args.clause.now))

pub returns-in-Ok-clause-unretired : goal.returns-in-Ok-clause-unretired
returns-in-Ok-clause-unretired g c among =
    let inside = c.self.inside in
    let is = sound g (goal.at.returns-in-Ok-clause-unretired g c).After-add in
    let there : Contains inside.retired.items c.in-Ok.id = subst
    (λ (ids : List ℕ). Contains ids c.in-Ok.id) c.reserve_place.ensures.items among in
    not_next inside.diagram inside.ledger.state is.tied (ap (λ (n : ℕ). is_some (clause_at inside.ledger.state.live n))
    (sym c.in-Ok.ensures.added.0) ∙ (is.retired.each c.in-Ok.id there).stands)

-- the clause follows by its hints
conserves : (g : Over) (c : After-add g) → is_conservative (levels c.self.inside.diagram) c.self.inside.ledger.state
    (addition c.self.inside.ledger.state c.args.clause.now c.args.hints.now) ≡ true
conserves g c =
    let state = c.self.inside.ledger.state in
    c.strict_addition_law.ensures.conservative (levels c.self.inside.diagram) state (state.top + 1) c.args.clause.now c.args.hints.now
    (subst {A = TableState g.row.S.Denot} (λ t. RefutesStrictly t.book.state.live c.args.clause.now c.args.hints.now) (sym c.self.view_is)
    c.requires.strict)

-- the steps, as the ledger answered
steps : (g : Over) (c : After-add g)
    → StepsOrRefutes c.args.self.now
    (table_of (record { max_nodes = c.self.inside.max_nodes; inputs = c.self.inside.inputs; retired = c.reserve_place.new.retired.items })
    c.self.inside.diagram c.add.new.self) 1 (told c.add.result)
    × (c.args.clause.now ≢ [] → AddsNoEmpty c.args.self.now
    (table_of (record { max_nodes = c.self.inside.max_nodes; inputs = c.self.inside.inputs; retired = c.reserve_place.new.retired.items })
    c.self.inside.diagram c.add.new.self))
steps g c =
    let inside = c.self.inside in
    let new = c.add.new.self in
    let over : IsOverNodes inside.diagram c.args.clause.now = subst {A = TableState g.row.S.Denot}
    (λ t. IsOverNodes t.graph c.args.clause.now) (sym c.self.view_is) c.requires.over_nodes in
    let own = c.add.ensures in
    let answers : Answers inside.ledger new c.args.clause.now c.args.hints.now c.add.result = record {
      added = own.added;
      id_limit = own.id_limit;
      unchanged = own.unchanged;
      torn = own.torn;
    } in
    let all = justify_steps (aside g c) inside.diagram inside.ledger new c.args.clause.now c.args.hints.now
    (sound g c) over c.self.invariant.1 c.marks_law.ensures.fewer (conserves g c) c.add.result answers in
    let none = justify_no_empty (aside g c) inside.diagram inside.ledger new c.args.clause.now c.args.hints.now
    (sound g c) over c.self.invariant.1 c.marks_law.ensures.fewer c.add.result answers in (
      subst (λ (ids : List ℕ). StepsOrRefutes
          c.args.self.now (table_of (record { max_nodes = inside.max_nodes; inputs = inside.inputs; retired = ids }) inside.diagram new) 1 (told c.add.result))
          (sym c.reserve_place.ensures.items)
          (subst {A = TableState g.row.S.Denot} (λ t. StepsOrRefutes t
          (table_of (aside g c) inside.diagram new) 1 (told c.add.result)) c.self.view_is all),
      λ some. record {
        each = λ id empty. sym (ap (λ (t : TableState g.row.S.Denot). clause_at t.book.state.live id) c.self.view_is)
            ∙ (none some).each id empty;
      },
    )

pub returns-in-Ok-clause-steps : goal.returns-in-Ok-clause-steps
returns-in-Ok-clause-steps g c =
    let inside = c.self.inside in
    let new = c.add.new.self in
    subst (λ (e : Option TableError). StepsOrRefutes c.args.self.now
    (table_of (record { max_nodes = inside.max_nodes; inputs = inside.inputs; retired = c.reserve_place.new.retired.items }) inside.diagram
    new) 1 e) (ap told c.in-Ok.is)
    (steps g (goal.at.returns-in-Ok-clause-steps g c).After-add).0

pub returns-in-Err-clause-steps : goal.returns-in-Err-clause-steps
returns-in-Err-clause-steps g c =
    let inside = c.self.inside in
    let new = c.add.new.self in
    subst (λ (e : Option TableError). StepsOrRefutes c.args.self.now
    (table_of (record { max_nodes = inside.max_nodes; inputs = inside.inputs; retired = c.reserve_place.new.retired.items }) inside.diagram
    new) 1 e) (ap told c.in-Err.is ∙ ap Some (sym c.from.ensures))
    (steps g (goal.at.returns-in-Err-clause-steps g c).After-add).0

pub returns-in-Ok-clause-no_empty : goal.returns-in-Ok-clause-no_empty
returns-in-Ok-clause-no_empty g c some = Steps-no_empty _ _ _ _ (returns-in-Ok-clause-steps g c)
    ((steps g (goal.at.returns-in-Ok-clause-no_empty g c).After-add).1 some)

pub returns-in-Err-clause-no_empty : goal.returns-in-Err-clause-no_empty
returns-in-Err-clause-no_empty g c some = Steps-no_empty _ _ _ _ (returns-in-Err-clause-steps g c)
    ((steps g (goal.at.returns-in-Err-clause-no_empty g c).After-add).1 some)
