-- What is left to show of `Table::make`.
use Rattle.std.proofs.Common.{◌≡◌, ◌∙◌, ◌⊎◌, ◌≤◌, ℕ, ℤ, List, length, pos, true, false, Option, None, Some, Result, sym, ap, subst, arith}
use Rattle.std.specs.Prelude.{IsErrAnd, vec_capacity}
use Rattle.lrat_rules.specs.State.{State}
use Rattle.clause_ledger.specs.Book.{Book}
use Rattle.clause_ledger.specs.Told.{told_in_step, told_formula}
use Rattle.node_table.specs.declared.node.Node.{Node}
use Rattle.node_table.specs.declared.node.Node.TheVariants.{Inner}
use Rattle.node_table.specs.declared.node.Branch.{Branch}
use Rattle.node_table.specs.declared.error.TableError.{TableError}
use Rattle.node_table.specs.declared.error.TableError.TheVariants.{OutOfMemory, WriteFault}
use Rattle.node_table.specs.Diagram.{Graph, branch_at, is_node}
use Rattle.node_table.specs.Defined.{IsNewVariable}
use Rattle.node_table.specs.Made.{inner}
use Rattle.node_table.specs.Table.{TableState, IsSound, AddsNone, HasChildren, IsMade, IsMadeInPart}
use Rattle.node_table.specs.Errors.{table_error}
use Rattle.node_table.specs.HandedOn.{handed_on}
use Rattle.node_table.specs.Refused.{steps_handed_on}
use Rattle.node_table.specs.Tied.{IsTied}
use Rattle.node_table.specs.Places.{AreNumberedAbove}
use Rattle.node_table.specs.Progress.{Steps, error_of}
use Rattle.node_table.proofs.CallSteps.{Aside, no_room, table_of}
use Rattle.node_table.proofs.Making.{Making, asked_at, joined_as, enough, told_torn, making_on, making_torn, making_only, making_made}
use Rattle.node_table.proofs.Making.{making_cut, making_before}
use Rattle.node_table.proofs.Places.{HavePlaces-same, AreNumberedAbove-new}
use Rattle.node_table.proofs.Fresh.{new_variable, live_more}
use Rattle.node_table.proofs.table.Table.make.Given.{Over}
use Rattle.node_table.proofs.table.Table.make.Goals as goal
use Rattle.node_table.proofs.table.Table.make.Goals.{After-write_definitions}

pub write_definitions-requires-clause-new_variable : goal.write_definitions-requires-clause-new_variable
write_definitions-requires-clause-new_variable g c =
    let graph = c.self.inside.diagram in
    let state = c.self.inside.ledger.state in
    let tied : IsTied graph state = subst (λ (t : TableState g.row.S.Denot). IsTied t.graph t.book.state)
    (sym c.self.view_is) c.requires.sound.tied in
    let high_stands : is_node graph c.args.high ≡ true = subst (λ (t : TableState g.row.S.Denot). is_node t.graph c.args.high
    ≡ true) (sym c.self.view_is) c.requires.high.stands in
    let low_stands : is_node graph c.args.low ≡ true = subst (λ (t : TableState g.row.S.Denot). is_node t.graph c.args.low
    ≡ true) (sym c.self.view_is) c.requires.low.stands in
    let live : c.reserve.new.self.state ≡ state = ap (λ (b : Book g.row.S.Denot). b.state) c.reserve.ensures.unchanged in
    subst (λ (s : State). IsNewVariable s.live c.positive-u.result c.positive-x.result c.atom-high_atom.result c.atom-low_atom.result)
    (sym live)
    (new_variable graph state tied c.in_ok-key.variable c.variable.result c.in_ok-key.ensures.range.0 c.in_ok-key.ensures.own
    c.variable.ensures.range.1
    c.args.high c.args.low high_stands low_stands c.positive-u.result c.positive-x.result c.atom-high_atom.result c.atom-low_atom.result
    c.positive-u.ensures c.positive-x.ensures c.atom-high_atom.ensures c.atom-low_atom.ensures)

-- what is beside nodes and ledger
abbrev aside_at : ℕ → ℕ → List ℕ → Aside
aside_at max_nodes inputs retired = record { max_nodes = max_nodes; inputs = inputs; retired = retired }

abbrev aside : (g : Over) → After-write_definitions g → Aside
aside g c = aside_at c.self.inside.max_nodes c.self.inside.inputs c.self.inside.retired.items

-- what was done when the definitions were written
making : (g : Over) (c : After-write_definitions g)
    → Making c.self.inside.diagram c.push.new.self c.self.inside.ledger c.reserve.new.self
    (aside g c) c.args.level c.args.high c.args.low c.in_ok-key.key c.in_ok-key.variable
    c.positive-u.result c.positive-x.result c.atom-high_atom.result c.atom-low_atom.result
making g c =
    let state = c.self.inside.ledger.state in
    let live : c.reserve.new.self.state ≡ state = ap (λ (b : Book g.row.S.Denot). b.state) c.reserve.ensures.unchanged in
    let first : c.last_id-first.result ≡ state.top = c.last_id-first.ensures.value ∙ ap (λ (s : State). s.top) live in
    record {
      sound = subst {A = TableState g.row.S.Denot} (λ t. IsSound t) (sym c.self.view_is) c.requires.sound;
      asked = asked_at c.in_ok-key.variable c.self.view_is c.requires.sound.tied c.requires.level c.requires.high c.requires.low
          c.requires.wanted
          c.in_ok-key.ensures.range.0 c.in_ok-key.ensures.own;
      least = λ other above less.
          let is = c.in_ok-key.ensures.least other above less in
          record { key = is.0; branch = is.1; stands = is.2; own = is.3 };
      joined = joined_as state first c.in_ok-key.ensures.ok;
      room = enough c.args.high c.args.low state.top c.self.inside.ledger.limit
          (omega (arith, c.if-ids_left-definition_count.false, c.definition_count.ensures, c.ids_left.ensures));
      few = omega (arith, c.if-len-self.false, c.len.ensures);
      few_variables = c.in_ok-key.ensures.range.1;
      reserved = c.reserve.ensures.unchanged;
      handed = record {
        still = live;
        own = c.positive-u.ensures;
        input = c.positive-x.ensures ∙ ap pos c.variable.ensures.value;
        high_is = c.atom-high_atom.ensures;
        low_is = c.atom-low_atom.ensures;
      };
    }

-- the new node's clauses come under the next numbers
numbered : (g : Over) (c : After-write_definitions g) → AreNumberedAbove c.self.inside.inputs c.push.new.self
numbered g c =
    let inside = c.self.inside in
    let live : c.reserve.new.self.state ≡ inside.ledger.state = ap (λ (b : Book g.row.S.Denot). b.state) c.reserve.ensures.unchanged in
    let few = (making g c).sound.inputs in
    AreNumberedAbove-new inside.inputs inside.diagram c.push.new.self c.in_ok-key.key.index _ c.in_ok-key.ensures.ok
    (omega (arith, few, c.last_id-first.ensures.value, ap (λ (s : State). s.top) live)) c.self.invariant.3

formula_kept : (g : Over) (c : After-write_definitions g) → c.write_definitions.new.ledger.formula ≡ c.reserve.new.self.formula
    → length c.write_definitions.new.ledger.formula ≤ c.self.inside.inputs
formula_kept g c same = subst (λ (clauses : List (List ℤ)). length clauses ≤ c.self.inside.inputs)
    (sym (same ∙ ap (λ (b : Book g.row.S.Denot). b.formula) c.reserve.ensures.unchanged)) c.self.invariant.4

pub invariant_of-self-in_err-write_definitions : goal.invariant_of-self-in_err-write_definitions
invariant_of-self-in_err-write_definitions g c = (
  c.self.invariant.0,
  omega (
    arith,
    live_more c.self.inside.diagram c.push.new.self c.in_ok-key.key.index c.in_ok-key.ensures.ok,
    c.if-len-self.false,
    c.len.ensures,
  ),
  λ in_step. absurd (let out : c.write_definitions.new.ledger.in_step ≡ false =
      told_in_step c.in_err-write_definitions.ensures.torn.1 in cc),
  numbered g (goal.at.invariant_of-self-in_err-write_definitions g c).After-write_definitions,
  formula_kept g (goal.at.invariant_of-self-in_err-write_definitions g c).After-write_definitions
      (told_formula c.in_err-write_definitions.ensures.torn.1),
)

pub invariant_of-self-2 : goal.invariant_of-self-2
invariant_of-self-2 g c =
    let inside = c.self.inside in
    let after = (goal.at.invariant_of-self-2 g c).After-write_definitions in
    let made = making g after in (
      c.self.invariant.0,
      omega (
        arith,
        live_more c.self.inside.diagram c.push.new.self c.in_ok-key.key.index c.in_ok-key.ensures.ok,
        c.if-len-self.false,
        c.len.ensures,
      ),
      λ _.
          HavePlaces-same inside.diagram c.push.new.self inside.ledger.state.live c.write_definitions.new.ledger.state.live inside.inputs
          inside.places (vec_capacity inside.retired)
          (making_before made c.write_definitions.new.ledger c.in_ok-write_definitions.ensures.told inside.inputs)
          (c.self.invariant.2 made.sound.in_step),
      numbered g after,
      formula_kept g after (told_formula c.in_ok-write_definitions.ensures.told),
    )

pub returns-clause-steps : goal.returns-clause-steps
returns-clause-steps g c =
    let new = c.write_definitions.new.ledger in
    subst (λ (t : TableState g.row.S.Denot). Steps t
    (table_of (aside_at c.self.inside.max_nodes c.self.inside.inputs c.self.inside.retired.items) c.push.new.self new) 0 None)
    c.self.view_is
    (making_on (making g (goal.at.returns-clause-steps g c).After-write_definitions) new c.in_ok-write_definitions.ensures.told)

pub returns-clause-only : goal.returns-clause-only
returns-clause-only g c =
    subst (λ (t : TableState g.row.S.Denot). (key : ℕ) (b : Branch) → branch_at c.push.new.self key ≡ Some b
    → (branch_at t.graph key ≡ Some b) ⊎ HasChildren c.push.new.self c.args.level c.args.high c.args.low (inner key))
    c.self.view_is (making_only (making g
    (goal.at.returns-clause-only g c).After-write_definitions) c.write_definitions.new.ledger)

pub returns-clause-made : goal.returns-clause-made
returns-clause-made g c =
    let new = c.write_definitions.new.ledger in
    let made = making_made (making g (goal.at.returns-clause-made g c).After-write_definitions) new c.in_ok-write_definitions.ensures.told in
    subst (λ (t : TableState g.row.S.Denot). (variable : ℕ) × IsMade t
    (table_of (aside_at c.self.inside.max_nodes c.self.inside.inputs c.self.inside.retired.items) c.push.new.self new) c.args.level
    c.args.high c.args.low variable (Inner c.in_ok-key.key)) c.self.view_is (c.in_ok-key.variable, made)

pub returns-in_err-write_definitions-clause-steps : goal.returns-in_err-write_definitions-clause-steps
returns-in_err-write_definitions-clause-steps g c =
    let new = c.write_definitions.new.ledger in
    let own = c.in_err-write_definitions.ensures in
    let steps = making_torn (making g (goal.at.returns-in_err-write_definitions-clause-steps g c).After-write_definitions) new
    own.torn.0 own.torn.1 own.torn.2 c.marks_law.ensures.fewer in
    subst (λ (e : Option TableError). Steps c.args.self.now
    (table_of (aside_at c.self.inside.max_nodes c.self.inside.inputs c.self.inside.retired.items) c.push.new.self new) 0 e)
    (told_torn c.from_residual-in_err-write_definitions.result c.in_err-write_definitions.field-0.0
    c.from_residual-in_err-write_definitions.ensures.1 own.error)
    (subst (λ (t : TableState g.row.S.Denot). Steps t
    (table_of (aside_at c.self.inside.max_nodes c.self.inside.inputs c.self.inside.retired.items) c.push.new.self new) 0
    (Some WriteFault)) c.self.view_is steps)

pub returns-in_err-write_definitions-clause-only : goal.returns-in_err-write_definitions-clause-only
returns-in_err-write_definitions-clause-only g c =
    subst (λ (t : TableState g.row.S.Denot). (key : ℕ) (b : Branch) → branch_at c.push.new.self key ≡ Some b
    → (branch_at t.graph key ≡ Some b) ⊎ HasChildren c.push.new.self c.args.level c.args.high c.args.low (inner key))
    c.self.view_is (making_only (making g
    (goal.at.returns-in_err-write_definitions-clause-only g c).After-write_definitions) c.write_definitions.new.ledger)

pub returns-in_err-write_definitions-clause-torn : goal.returns-in_err-write_definitions-clause-torn
returns-in_err-write_definitions-clause-torn g c failed =
    let new = c.write_definitions.new.ledger in
    let own = c.in_err-write_definitions.ensures in
    let cut = making_cut (making g (goal.at.returns-in_err-write_definitions-clause-torn g c).After-write_definitions) new
    own.torn.0 own.torn.1 own.torn.2 in
    subst (λ (t : TableState g.row.S.Denot). (variable : ℕ) × IsMadeInPart t
    (table_of (aside_at c.self.inside.max_nodes c.self.inside.inputs c.self.inside.retired.items) c.push.new.self new) c.args.level
    c.args.high c.args.low variable) c.self.view_is (c.in_ok-key.variable, cut)

pub returns-clause-none_added : goal.returns-clause-none_added
returns-clause-none_added g c whole =
    let aside = aside_at c.self.inside.max_nodes c.self.inside.inputs c.self.inside.retired.items in
    subst (λ (t : TableState g.row.S.Denot). AddsNone t (table_of aside c.push.new.self c.write_definitions.new.ledger)) c.self.view_is
    (making_before (making g (goal.at.returns-clause-none_added g c).After-write_definitions) c.write_definitions.new.ledger
    c.in_ok-write_definitions.ensures.told c.self.inside.inputs)

pub returns-in_err-write_definitions-clause-none_added : goal.returns-in_err-write_definitions-clause-none_added
returns-in_err-write_definitions-clause-none_added g c whole = absurd
    (whole (handed_on c.from_residual-in_err-write_definitions.result (table_error c.in_err-write_definitions.field-0.0) WriteFault
    c.from_residual-in_err-write_definitions.ensures.1 (ap table_error c.in_err-write_definitions.ensures.error)))

-- want of memory changed nothing but the room
refused_steps : (g : Over) (old : TableState g.row.S.Denot) (diagram : Graph) (ledger later : Book g.row.S.Denot) (aside : Aside)
    → table_of aside diagram ledger ≡ old → IsSound old → later ≡ record ledger { spare = later.spare }
    → (result : Result Node TableError) → IsErrAnd result (λ e. e ≡ OutOfMemory)
    → Steps old (table_of aside diagram later) 0 (error_of result)
refused_steps g old diagram ledger later aside view sound unchanged result is =
    steps_handed_on result OutOfMemory is
    (subst {A = TableState g.row.S.Denot} (λ t. Steps t (table_of aside diagram later) 0 (Some OutOfMemory)) view
    (no_room (table_of aside diagram ledger) (table_of aside diagram later)
    (subst {A = TableState g.row.S.Denot} (λ t. IsSound t) (sym view) sound)
    (λ i. table_of aside diagram (unchanged i))))

pub returns-in_err-reserve-clause-steps : goal.returns-in_err-reserve-clause-steps
returns-in_err-reserve-clause-steps g c =
    refused_steps g c.args.self.now c.self.inside.diagram c.self.inside.ledger c.reserve.new.self
    (aside_at c.self.inside.max_nodes c.self.inside.inputs c.self.inside.retired.items) c.self.view_is c.requires.sound
    c.reserve.ensures.unchanged _ c.from_residual.ensures.1

pub returns-in_err-key-clause-steps : goal.returns-in_err-key-clause-steps
returns-in_err-key-clause-steps g c =
    let aside = aside_at c.self.inside.max_nodes c.self.inside.inputs c.self.inside.retired.items in
    subst {A = Graph} (λ h. Steps c.args.self.now (table_of aside h c.reserve.new.self) 0 (error_of c.from_residual-in_err-key.result))
    (sym c.in_err-key.ensures.err)
    (refused_steps g c.args.self.now c.self.inside.diagram c.self.inside.ledger c.reserve.new.self aside c.self.view_is c.requires.sound
    c.reserve.ensures.unchanged _ c.from_residual-in_err-key.ensures.1)
