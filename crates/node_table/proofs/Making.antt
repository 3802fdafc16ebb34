-- A call that makes a node, as its parts leave it: the node joined, and its definitions were handed to the ledger.
use Rattle.std.proofs.Common.{◌≡◌, ◌∙◌, ◌⊎◌, ◌+◌, ◌-◌, ◌≤◌, ◌<◌, ℕ, ℤ, Bool, true, false, List, Result, Ok, Err, Some, None, refl, sym, ap, subst}
use Rattle.std.proofs.Common.{arith}
use Rattle.std.specs.Prelude.{IsErrAnd}
use Rattle.cnf_base.specs.declared.step.Step.{Step}
use Rattle.lrat_rules.specs.State.{State}
use Rattle.hint_chain.specs.declared.atom.Atom.{Atom}
use Rattle.clause_ledger.specs.Book.{AreTold, Book}
use Rattle.clause_ledger.specs.Told.{told_state}
use Rattle.clause_ledger.specs.declared.error.LedgerError.{LedgerError}
use Rattle.clause_ledger.specs.declared.error.LedgerError.TheVariants.{WriteFault as LedgerWriteFault}
use Rattle.node_table.specs.declared.node.Node.{Node}
use Rattle.node_table.specs.declared.node.Node.TheVariants.{False, True, Inner}
use Rattle.node_table.specs.declared.node.NodeKey.{NodeKey}
use Rattle.node_table.specs.declared.node.Branch.{Branch}
use Rattle.node_table.specs.declared.error.TableError.{TableError}
use Rattle.node_table.specs.declared.error.TableError.TheVariants.{WriteFault}
use Rattle.node_table.specs.Errors.{table_error}
use Rattle.node_table.specs.Diagram.{Graph, IsBelow, IsNew, branch_at, levels}
use Rattle.node_table.specs.Defined.{Definition, IsDefinedInPart, definition_count, definition_steps, definitions, with_definitions}
use Rattle.node_table.specs.Made.{inner}
use Rattle.node_table.specs.Tied.{IsTied, IsAdded, IsOwned}
use Rattle.node_table.specs.Table.{TableState, IsSound, IsWanted, IsFree, IsLeastFree, IsMade, HasChildren, live_nodes, new_branch}
use Rattle.node_table.specs.Table.{IsMadeInPart, node_definitions}
use Rattle.node_table.proofs.DefineSteps.{steps_lead}
use Rattle.node_table.specs.Progress.{Steps, error_of}
use Rattle.node_table.proofs.Added.{added_before}
use Rattle.node_table.proofs.Fresh.{IsNobodys, unused}
use Rattle.node_table.proofs.Fronts.{IsHanded, Grows-definitions, definitions_handed}
use Rattle.node_table.proofs.Made.{definitions_top}
use Rattle.node_table.proofs.Stands.{Grows}
use Rattle.node_table.proofs.Outcome.{new_only}
use Rattle.node_table.proofs.CallSteps.{IsAsked, FewerInUse, made_on, made_torn, Aside, table_of}

-- what was required of the table holds of its parts
pub asked_at : {S : Type 0} {table inside : TableState S} {level : ℕ} {high low : Node} (variable : ℕ) → inside ≡ table
    → IsTied table.graph table.book.state → level < levels table.graph
    → IsBelow table.graph level high → IsBelow table.graph level low → IsWanted table.graph level high low → levels inside.graph < variable
    → IsNobodys inside.graph variable
    → IsAsked inside.graph inside.book.state level high low variable
asked_at {S} {table} {inside} {level} {high} {low} variable same tied small high_below low_below wanted above own = record {
  tied = subst (λ (t : TableState S). IsTied t.graph t.book.state) (sym same) tied;
  small = subst (λ (t : TableState S). level < levels t.graph) (sym same) small;
  high_below = subst (λ (t : TableState S). IsBelow t.graph level high) (sym same) high_below;
  low_below = subst (λ (t : TableState S). IsBelow t.graph level low) (sym same) low_below;
  wanted = subst (λ (t : TableState S). IsWanted t.graph level high low) (sym same) wanted;
  above = above;
  own = own;
}

-- the branch that joined
pub joined_as : {graph later : Graph} {key : ℕ} (state : State) {level variable first : ℕ} {high low : Node} → first ≡ state.top
    → IsNew graph later key (record { level = level; variable = variable; high = high; low = low; first = first + 1 })
    → IsNew graph later key (new_branch state level high low variable)
joined_as {graph} {later} {key} state {level} {variable} {first} {high} {low} same joined =
    subst (λ (n : ℕ). IsNew graph later key (record { level = level; variable = variable; high = high; low = low; first = n + 1 })) same
    joined

-- there is at least one definition, so that the numbers left are those below the limit
pub enough : (high low : Node) (top limit : ℕ) → definition_count high low ≤ limit - top → top + definition_count high low ≤ limit
enough False False top limit left = omega (arith, left)
enough False True top limit left = omega (arith, left)
enough False (Inner key) top limit left = omega (arith, left)
enough True False top limit left = omega (arith, left)
enough True True top limit left = omega (arith, left)
enough True (Inner key) top limit left = omega (arith, left)
enough (Inner key) False top limit left = omega (arith, left)
enough (Inner key) True top limit left = omega (arith, left)
enough (Inner key) (Inner other) top limit left = omega (arith, left)

-- a failed write is told as one
pub told_torn : {T : Type 0} (r : Result T TableError) (e : LedgerError) → IsErrAnd r (λ t. t ≡ table_error e) → e ≡ LedgerWriteFault
    → Some WriteFault ≡ error_of r
told_torn (Ok x) e is because = absurd is
told_torn (Err t) e is because = ap Some (sym (is ∙ ap table_error because))

pub record Making {S : Type 0} (graph later : Graph) (book ready : Book S) (aside : Aside) (level : ℕ) (high low : Node) (key : NodeKey)
    (variable : ℕ) (u x : ℤ) (high_atom low_atom : Atom) : Type 0 where
  pub sound : IsSound (table_of aside graph book)
  pub asked : IsAsked graph book.state level high low variable
  pub least : (other : ℕ) → levels graph < other → other < variable → IsOwned graph other
  pub joined : IsNew graph later key.index (new_branch book.state level high low variable)
  pub room : book.state.top + definition_count high low ≤ book.limit
  pub few : live_nodes graph < aside.max_nodes
  pub few_variables : variable ≤ levels graph + live_nodes graph + 1
  pub reserved : ready ≡ record book { spare = ready.spare }
  pub handed : IsHanded graph book.state ready.state level high low variable u x high_atom low_atom

module _ {S : Type 0} {graph later : Graph} {book ready : Book S} {aside : Aside} {level : ℕ}
    {high low : Node} {key : NodeKey} {variable : ℕ} {u x : ℤ}
    {high_atom low_atom : Atom} (making : Making graph later book ready aside level high low key variable u x high_atom low_atom)
    (new : Book S) where
  abbrev handed_over : List Definition
  handed_over = definitions u x high_atom low_atom (ready.state.top + 1)

  abbrev asked_for : List Definition
  asked_for = node_definitions graph book.state level high low variable

  abbrev old_table : TableState S
  old_table = table_of aside graph book

  abbrev new_table : TableState S
  new_table = table_of aside later new

  -- the room that was reserved changes nothing else
  told_from : (in_step : Bool) (more : List Step) → AreTold in_step ready new more → AreTold in_step book new more
  told_from in_step more told =
      let t = subst (λ (b : Book S). AreTold in_step b new more) making.reserved told in
      record { is = t.is }

  same_steps : definition_steps ready.state handed_over ≡ definition_steps book.state asked_for
  same_steps i = definition_steps (making.handed.still i) (definitions_handed making.handed i)

  free : IsFree graph book.state.live variable
  free = record {
    above = making.asked.above;
    unused = unused graph book.state making.asked.tied variable making.asked.above
        making.asked.own;
  }

  least_free : IsLeastFree graph book.state.live variable
  least_free = record { free = free; least = making.least }

  pub told_asked : AreTold true ready new (definition_steps ready.state handed_over)
      → AreTold true book new (definition_steps book.state asked_for)
  told_asked told = told_from true (definition_steps book.state asked_for) (subst (AreTold true ready new) same_steps told)

  pub written : AreTold true ready new (definition_steps ready.state handed_over) → new.state ≡ with_definitions book.state asked_for
  written told = told_state (told_asked told) ∙ steps_lead book.state asked_for

  within_variables : variable ≤ levels graph + aside.max_nodes
  within_variables = omega (arith, making.few, making.few_variables)

  pub making_on : AreTold true ready new (definition_steps ready.state handed_over) → Steps old_table new_table 0 None
  making_on told =
      made_on aside graph later book new level high low variable making.sound making.asked
      key.index making.joined making.room within_variables (written told) (told_asked told)

  -- what was written of them
  pub part_asked : (more : List Step) → IsDefinedInPart ready.state new.state handed_over more
      → IsDefinedInPart book.state new.state asked_for more
  part_asked more part = subst (λ (all : List Definition). IsDefinedInPart book.state new.state all more)
      (definitions_handed making.handed)
      (subst (λ (s : State). IsDefinedInPart s new.state handed_over more) making.handed.still part)

  pub making_torn : (more : List Step) → AreTold false ready new more → IsDefinedInPart ready.state new.state handed_over more
      → FewerInUse → Steps old_table new_table 0 (Some WriteFault)
  making_torn more told part fewer =
      made_torn aside graph later book new level high low variable making.sound making.asked
      key.index making.joined making.room within_variables more (told_from false more told) (part_asked more part) fewer making.few

  -- no clause beside the definitions was added
  pub making_before : AreTold true ready new (definition_steps ready.state handed_over) → (inputs id : ℕ)
      → IsAdded later new.state.live inputs id → IsAdded graph book.state.live inputs id
  making_before told =
      let now = written told in
      let grows : Grows book.state new.state = subst (Grows book.state) (sym now)
      (Grows-definitions book.state asked_for making.asked.tied.numbers) in
      let top : new.state.top ≡ book.state.top + definition_count high low =
      ap (λ (s : State). s.top) now
      ∙ definitions_top graph book.state level high low variable making.asked.high_below.stands making.asked.low_below.stands in
      added_before graph later key.index level variable high low book.state new.state making.joined grows.gives grows.numbers top

  pub making_only : (other : ℕ) (b : Branch) → branch_at later other ≡ Some b → (branch_at graph other ≡ Some b)
      ⊎ HasChildren later level high low (inner other)
  making_only = new_only graph later key.index (new_branch book.state level high low variable) making.joined

  pub making_made : AreTold true ready new (definition_steps ready.state handed_over)
      → IsMade old_table new_table level high low variable (Inner key)
  making_made told = record {
    free = least_free;
    key = key;
    named = refl;
    joined = making.joined;
    defined = written told;
    told = told_asked told;
  }

  pub making_cut : (more : List Step) → AreTold false ready new more → IsDefinedInPart ready.state new.state handed_over more
      → IsMadeInPart old_table new_table level high low variable
  making_cut more told part = record { free = least_free; more = more; told = told_from false more told; part = part_asked more part }
