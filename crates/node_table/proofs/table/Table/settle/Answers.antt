-- What is left to show of `Table::settle`.
use Rattle.std.proofs.Common.{◌≡◌, ◌≢◌, ◌≤◌, ◌∙◌, ◌-◌, ℕ, List, [], Contains, None, Some, length, true, sym, ap, subst, arith}
use Rattle.std.specs.Prelude.{is_ok, vec_capacity}
use Rattle.lrat_rules.specs.State.{State, clause_at}
use Rattle.lrat_rules.specs.Derivation.{are_added}
use Rattle.clause_ledger.specs.Book.{AreTold, deletion}
use Rattle.clause_ledger.specs.Told.{told_formula}
use Rattle.node_table.specs.declared.error.TableError.{TableError}
use Rattle.node_table.specs.declared.error.TableError.TheVariants.{WriteFault}
use Rattle.node_table.specs.Errors.{table_error}
use Rattle.node_table.specs.Places.{HavePlaces}
use Rattle.node_table.specs.Table.{TableState, IsSound, without_retired}
use Rattle.node_table.specs.Progress.{Continues, BreaksOff, Leaves}
use Rattle.node_table.proofs.CallSteps.{Aside, table_of}
use Rattle.node_table.proofs.Places.{HavePlaces-settled, retired_few}
use Rattle.node_table.proofs.Settled.{retired_added, settled_gone, settled_stays}
use Rattle.node_table.proofs.Settling.{settled_on, settled_torn, state_is}
use Rattle.node_table.proofs.table.Table.settle.Given.{Over}
use Rattle.node_table.proofs.table.Table.settle.Goals as goal
use Rattle.node_table.proofs.table.Table.settle.Goals.{After-delete}

-- what is beside nodes and ledger
abbrev aside : (g : Over) → After-delete g → Aside
aside g c = record { max_nodes = c.self.inside.max_nodes; inputs = c.self.inside.inputs; retired = c.self.inside.retired.items }

sound : (g : Over) (c : After-delete g) → IsSound (table_of (aside g c) c.self.inside.diagram c.self.inside.ledger)
sound g c = subst {A = TableState g.row.S.Denot} (λ t. IsSound t) (sym c.self.view_is) c.requires.sound

pub delete-requires-clause-live : goal.delete-requires-clause-live
delete-requires-clause-live g c =
    let inside = c.self.inside in
    let is : IsSound (table_of (record { max_nodes = inside.max_nodes; inputs = inside.inputs; retired = inside.retired.items })
    inside.diagram inside.ledger) =
    subst {A = TableState g.row.S.Denot} (λ t. IsSound t) (sym c.self.view_is) c.requires.sound in
    subst (λ (ids : List ℕ). are_added (length inside.ledger.formula) inside.ledger.state.live ids ≡ true) (sym c.as_slice.ensures.value)
    (retired_added inside.diagram inside.ledger.state.live inside.inputs inside.retired.items is.retired (length inside.ledger.formula)
    c.self.invariant.4)

pub overflow_sub-self : goal.overflow_sub-self
overflow_sub-self g c =
    let inside = c.self.inside in
    let is = sound g (goal.at.overflow_sub-self g c).After-delete in
    let few = retired_few inside.diagram inside.ledger.state.live inside.inputs inside.places
    (vec_capacity inside.retired) inside.retired.items (c.self.invariant.2 is.in_step) is.retired in
    omega (arith, few, c.len.ensures, inside.retired.ok.0)

-- what the ledger was told
told : (g : Over) (c : After-delete g) → AreTold (is_ok c.delete.result) c.self.inside.ledger c.delete.new.self
    (deletion c.self.inside.ledger.state c.self.inside.retired.items)
told g c = subst (λ (ids : List ℕ). AreTold (is_ok c.delete.result) c.self.inside.ledger c.delete.new.self
    (deletion c.self.inside.ledger.state ids)) c.as_slice.ensures.value c.delete.ensures.told

state_at : (g : Over) (c : After-delete g) → c.delete.new.self.state
    ≡ without_retired (table_of (aside g c) c.self.inside.diagram c.self.inside.ledger)
state_at g c = state_is (aside g c) c.self.inside.diagram c.self.inside.ledger c.delete.new.self (is_ok c.delete.result) (sound g c) (told g c)

gone : (g : Over) (c : After-delete g) (id : ℕ) → Contains c.args.self.now.retired id → clause_at c.delete.new.self.state.live id ≡ None
gone g c id among =
    let inside = c.self.inside in
    let there : Contains inside.retired.items id = subst {A = TableState g.row.S.Denot} (λ t. Contains t.retired id)
    (sym c.self.view_is) among in
    ap (λ (s : State). clause_at s.live id) (state_at g c)
    ∙ settled_gone inside.ledger.state.live inside.retired.items id there

stay : (g : Over) (c : After-delete g) (id : ℕ) → (Contains c.args.self.now.retired id → ⊥) → clause_at c.delete.new.self.state.live id
    ≡ clause_at c.args.self.now.book.state.live id
stay g c id out =
    let inside = c.self.inside in
    let is = sound g c in
    let not_there : Contains inside.retired.items id → ⊥ = λ among. out
    (subst {A = TableState g.row.S.Denot} (λ t. Contains t.retired id) c.self.view_is among) in
    ap (λ (s : State). clause_at s.live id) (state_at g c)
    ∙ settled_stays inside.diagram inside.ledger.state inside.inputs inside.retired.items is.tied is.retired id not_there
    ∙ ap (λ (t : TableState g.row.S.Denot). clause_at t.book.state.live id) c.self.view_is

pub invariant_of-self : goal.invariant_of-self
invariant_of-self g c =
    let inside = c.self.inside in
    let after = (goal.at.invariant_of-self g c).After-delete in
    let is = sound g after in (
      c.self.invariant.0,
      c.self.invariant.1,
      λ _.
          let settled = HavePlaces-settled inside.diagram inside.ledger.state.live c.delete.new.self.state.live inside.inputs inside.places
          (vec_capacity inside.retired) inside.retired.items
          (c.self.invariant.2 is.in_step) is.retired
          (λ id among. gone g after id (subst {A = TableState g.row.S.Denot} (λ t. Contains t.retired id) c.self.view_is among))
          (λ id out. stay g after id (λ among. out (subst {A = TableState g.row.S.Denot} (λ t. Contains t.retired id)
          (sym c.self.view_is) among))
          ∙ sym (ap (λ (t : TableState g.row.S.Denot). clause_at t.book.state.live id) c.self.view_is)) in
          subst (λ (n : ℕ). HavePlaces inside.diagram c.delete.new.self.state.live inside.inputs n (vec_capacity c.clear.new.self))
          (ap (λ (n : ℕ). inside.places - n) (sym (c.len.ensures ∙ inside.retired.ok.0)))
          (subst (λ (n : ℕ). HavePlaces inside.diagram c.delete.new.self.state.live inside.inputs
          (inside.places - length inside.retired.items) n) (sym c.clear.ensures.capacity) settled),
      c.self.invariant.3,
      subst (λ (n : ℕ). n ≤ inside.inputs) (sym (ap length (told_formula (told g after)))) c.self.invariant.4,
    )

pub returns-in-Ok-clause-gone : goal.returns-in-Ok-clause-gone
returns-in-Ok-clause-gone g c = gone g (goal.at.returns-in-Ok-clause-gone g c).After-delete

pub returns-in-Ok-clause-stay : goal.returns-in-Ok-clause-stay
returns-in-Ok-clause-stay g c = stay g (goal.at.returns-in-Ok-clause-stay g c).After-delete

pub returns-in-Err-clause-gone : goal.returns-in-Err-clause-gone
returns-in-Err-clause-gone g c = gone g (goal.at.returns-in-Err-clause-gone g c).After-delete

pub returns-in-Err-clause-stay : goal.returns-in-Err-clause-stay
returns-in-Err-clause-stay g c = stay g (goal.at.returns-in-Err-clause-stay g c).After-delete

pub returns-in-Ok-clause-leaves : goal.returns-in-Ok-clause-leaves
returns-in-Ok-clause-leaves g c =
    let inside = c.self.inside in
    let new = c.delete.new.self in
    let after = (goal.at.returns-in-Ok-clause-leaves g c).After-delete in
    let on = settled_on (aside g after) inside.diagram inside.ledger new (is_ok c.delete.result) (sound g after) (told g after)
    (ap is_ok c.in-Ok.is) in
    subst (λ (ids : List ℕ). Continues c.args.self.now
    (table_of (record { max_nodes = inside.max_nodes; inputs = inside.inputs; retired = ids }) inside.diagram new))
    (sym c.clear.ensures.items)
    (subst {A = TableState g.row.S.Denot} (λ t. Continues t
    (table_of (record { max_nodes = inside.max_nodes; inputs = inside.inputs; retired = [] }) inside.diagram new)) c.self.view_is on)

pub returns-in-Err-clause-leaves : goal.returns-in-Err-clause-leaves
returns-in-Err-clause-leaves g c =
    let inside = c.self.inside in
    let new = c.delete.new.self in
    let after = (goal.at.returns-in-Err-clause-leaves g c).After-delete in
    let own = c.in-Err.ensures in
    let torn = settled_torn (aside g after) inside.diagram inside.ledger new (is_ok c.delete.result) (sound g after) (told g after)
    (ap is_ok c.in-Err.is) (subst (λ (ids : List ℕ). ids ≢ []) c.as_slice.ensures.value own.some)
    c.marks_law.ensures.fewer c.self.invariant.1 in
    let cause : WriteFault ≡ c.from.result = ap table_error (sym own.error) ∙ sym c.from.ensures in
    subst (λ (e : TableError). Leaves c.args.self.now (table_of (aside g after) inside.diagram new) (Some e)) cause
    (subst {A = TableState g.row.S.Denot} (λ t. BreaksOff t (table_of (aside g after) inside.diagram new)) c.self.view_is torn)
