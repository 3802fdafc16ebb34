-- What is left to show of `Table::sweep`.
use Rattle.std.proofs.Common.{◌≡◌, ◌≤◌, ◌∙◌, ℕ, length, Some, sym, ap, subst, arith}
use Rattle.std.specs.Prelude.{vec_capacity}
use Rattle.lrat_rules.specs.State.{clause_at}
use Rattle.clause_ledger.specs.Told.{told_formula}
use Rattle.node_table.specs.declared.error.TableError.{TableError}
use Rattle.node_table.specs.declared.error.TableError.TheVariants.{WriteFault}
use Rattle.node_table.specs.Deleted.{AreClear, DefinesUnmarked}
use Rattle.node_table.specs.Errors.{table_error}
use Rattle.node_table.specs.Marks.{AreMarks}
use Rattle.node_table.specs.Table.{TableState, IsAddedTo, IsSound}
use Rattle.node_table.specs.Progress.{Continues, BreaksOff, Leaves}
use Rattle.node_table.proofs.CallSteps.{Aside, table_of}
use Rattle.node_table.proofs.Deletable.{defines_above}
use Rattle.node_table.proofs.SweptTable.{AreLeft, numbered_less, sweep_on, sweep_torn, swept_numbered, swept_places, was_added}
use Rattle.node_table.proofs.table.Table.sweep.Given.{Over}
use Rattle.node_table.proofs.table.Table.sweep.Goals as goal
use Rattle.node_table.proofs.table.Table.sweep.Goals.{After-delete_definitions}

-- what is beside nodes and ledger
abbrev aside : (g : Over) → After-delete_definitions g → Aside
aside g c = record { max_nodes = c.self.inside.max_nodes; inputs = c.self.inside.inputs; retired = c.self.inside.retired.items }

sound : (g : Over) (c : After-delete_definitions g) → IsSound (table_of (aside g c) c.self.inside.diagram c.self.inside.ledger)
sound g c = subst {A = TableState g.row.S.Denot} (λ t. IsSound t) (sym c.self.view_is) c.requires.sound

marks_are : (g : Over) (c : After-delete_definitions g) → AreMarks c.self.inside.diagram c.args.marks.now
marks_are g c = subst {A = TableState g.row.S.Denot} (λ t. AreMarks t.graph c.args.marks.now) (sym c.self.view_is) c.requires.marks

pub delete_definitions-requires-clause-defined : goal.delete_definitions-requires-clause-defined
delete_definitions-requires-clause-defined g c =
    let inside = c.self.inside in
    let is : IsSound (table_of (record { max_nodes = inside.max_nodes; inputs = inside.inputs; retired = inside.retired.items })
    inside.diagram inside.ledger) =
    subst {A = TableState g.row.S.Denot} (λ t. IsSound t) (sym c.self.view_is) c.requires.sound in
    is.tied.defined

pub delete_definitions-requires-clause-numbered : goal.delete_definitions-requires-clause-numbered
delete_definitions-requires-clause-numbered g c =
    numbered_less c.self.inside.diagram c.self.inside.inputs (length c.self.inside.ledger.formula) c.self.invariant.4 c.self.invariant.3

pub invariant_of-self : goal.invariant_of-self
invariant_of-self g c =
    let inside = c.self.inside in
    let after = (goal.at.invariant_of-self g c).After-delete_definitions in
    let is = sound g after in
    let are = marks_are g after in
    let own = c.in-Ok.ensures in
    let left : AreLeft inside.diagram c.args.marks.now inside.ledger.state c.delete_definitions.new.ledger.state =
    record { gone = own.gone; stay = own.stay; among = own.among; top = own.top } in (
      c.self.invariant.0,
      omega (arith, c.self.invariant.1, c.sweep.ensures.count),
      λ _.
          swept_places inside.diagram c.sweep.new.self c.args.marks.now are c.sweep.ensures.swept inside.ledger.state
          c.delete_definitions.new.ledger.state is.tied left
          inside.inputs inside.places (vec_capacity inside.retired) (c.self.invariant.2 is.in_step),
      swept_numbered inside.diagram c.sweep.new.self c.args.marks.now are c.sweep.ensures.swept inside.ledger.state
          c.delete_definitions.new.ledger.state is.tied left inside.inputs c.self.invariant.3,
      subst (λ (n : ℕ). n ≤ inside.inputs) (sym (ap length (told_formula own.lines.deletes.told)))
          c.self.invariant.4,
    )

pub returns-in-Ok-clause-leaves : goal.returns-in-Ok-clause-leaves
returns-in-Ok-clause-leaves g c =
    let inside = c.self.inside in
    let new = c.delete_definitions.new.ledger in
    let after = (goal.at.returns-in-Ok-clause-leaves g c).After-delete_definitions in
    let own = c.in-Ok.ensures in
    let clear : AreClear inside.diagram c.args.marks.now inside.ledger.state.live inside.inputs =
    subst {A = TableState g.row.S.Denot} (λ t. AreClear t.graph c.args.marks.now t.book.state.live t.inputs) (sym c.self.view_is)
    c.requires.clear in
    let left : AreLeft inside.diagram c.args.marks.now inside.ledger.state new.state = record {
      gone = own.gone;
      stay = own.stay;
      among = own.among;
      top = own.top;
    } in
    let on = sweep_on (aside g after) inside.diagram inside.ledger new (sound g after)
    c.sweep.new.self c.args.marks.now (marks_are g after) c.sweep.ensures.swept clear left own.lines.ids own.lines.deletes in
    subst {A = TableState g.row.S.Denot} (λ t. Continues t
    (table_of (aside g after) c.sweep.new.self new)) c.self.view_is on

pub returns-in-Err-clause-leaves : goal.returns-in-Err-clause-leaves
returns-in-Err-clause-leaves g c =
    let inside = c.self.inside in
    let new = c.delete_definitions.new.ledger in
    let after = (goal.at.returns-in-Err-clause-leaves g c).After-delete_definitions in
    let own = c.in-Err.ensures in
    let torn = sweep_torn (aside g after) inside.diagram inside.ledger new (sound g after) own.among own.front.ids own.front.torn
    c.marks_law.ensures.fewer c.self.invariant.1 in
    let cause : WriteFault ≡ c.from.result = ap table_error (sym own.error) ∙ sym c.from.ensures in
    subst (λ (e : TableError). Leaves c.args.self.now (table_of (aside g after) inside.diagram new) (Some e)) cause
    (subst {A = TableState g.row.S.Denot} (λ t. BreaksOff t
    (table_of (aside g after) inside.diagram new)) c.self.view_is torn)

-- a clause of the formula defines no node
formula_stays : (g : Over) (c : After-delete_definitions g) → (id : ℕ) → id ≤ c.self.inside.inputs
    → DefinesUnmarked c.self.inside.diagram c.args.marks.now id → ⊥
formula_stays g c id few d =
    let tied = (sound g c).tied in
    let above = defines_above c.self.inside.diagram c.args.marks.now c.self.inside.ledger.state.live tied.reduced tied.defined
    c.self.inside.inputs c.self.invariant.3 id d in
    omega (arith, few, above)

pub returns-in-Ok-clause-formula : goal.returns-in-Ok-clause-formula
returns-in-Ok-clause-formula g c =
    let after = (goal.at.returns-in-Ok-clause-formula g c).After-delete_definitions in
    let live = c.delete_definitions.new.ledger.state.live in
    subst {A = TableState g.row.S.Denot} (λ t. (id : ℕ) → id ≤ t.inputs → clause_at live id ≡ clause_at t.book.state.live id) c.self.view_is
    (λ id few. c.in-Ok.ensures.stay id (formula_stays g after id few))

pub returns-in-Err-clause-formula : goal.returns-in-Err-clause-formula
returns-in-Err-clause-formula g c =
    let after = (goal.at.returns-in-Err-clause-formula g c).After-delete_definitions in
    let live = c.delete_definitions.new.ledger.state.live in
    subst {A = TableState g.row.S.Denot} (λ t. (id : ℕ) → id ≤ t.inputs → clause_at live id ≡ clause_at t.book.state.live id) c.self.view_is
    (λ id few. c.in-Err.ensures.stay id (formula_stays g after id few))

pub returns-in-Ok-clause-none_added : goal.returns-in-Ok-clause-none_added
returns-in-Ok-clause-none_added g c =
    let inside = c.self.inside in
    let new = c.delete_definitions.new.ledger in
    let after = (goal.at.returns-in-Ok-clause-none_added g c).After-delete_definitions in
    let own = c.in-Ok.ensures in
    let left : AreLeft inside.diagram c.args.marks.now inside.ledger.state new.state = record {
      gone = own.gone;
      stay = own.stay;
      among = own.among;
      top = own.top;
    } in
    subst {A = TableState g.row.S.Denot} (λ t. (id : ℕ) → IsAddedTo (table_of (aside g after) c.sweep.new.self new) id
    → IsAddedTo t id) c.self.view_is
    (λ id added. was_added inside.diagram c.sweep.new.self c.args.marks.now
    (marks_are g after) c.sweep.ensures.swept inside.ledger.state new.state (sound g after).tied left inside.inputs id added)

pub returns-in-Ok-clause-top : goal.returns-in-Ok-clause-top
returns-in-Ok-clause-top g c = c.in-Ok.ensures.top ∙ ap (λ (t : TableState g.row.S.Denot). t.book.state.top) c.self.view_is

pub returns-in-Err-clause-top : goal.returns-in-Err-clause-top
returns-in-Err-clause-top g c = c.in-Err.ensures.top ∙ ap (λ (t : TableState g.row.S.Denot). t.book.state.top) c.self.view_is
