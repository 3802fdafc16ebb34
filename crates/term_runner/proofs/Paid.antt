-- What a move leaves, however it ends, keeps within the price of the plan's width.
use Rattle.std.proofs.Common.{◌≡◌, ◌∙◌, ℕ, ◌+◌, ◌-◌, ◌*◌, ◌≤◌, ◌++◌, ◌∷◌, ℤ, List, [], length, true, false, Option, None, Some, Result}
use Rattle.std.proofs.Common.{is_some, refl, sym, ap, subst, arith, inl}
use Rattle.std.specs.Prelude.{IsErrAnd}
use Rattle.std.proofs.lemmas.List.{append_assoc}
use Rattle.cnf_base.specs.declared.step.Step.{Step}
use Rattle.lrat_rules.specs.State.{State, clause_at}
use Rattle.lrat_rules.specs.Marks.{in_use}
use Rattle.clause_ledger.specs.Book.{after_steps}
use Rattle.clause_ledger.specs.Told.{after_steps-append, told_further, told_state}
use Rattle.node_table.specs.declared.error.TableError.{TableError}
use Rattle.node_table.specs.declared.error.TableError.TheVariants.{NodeLimit, IdLimit, OutOfMemory, WriteFault}
use Rattle.node_table.specs.Diagram.{Graph, levels}
use Rattle.node_table.specs.Lean.{HasAdded, IsLean}
use Rattle.node_table.specs.Progress.{BreaksOff, ComesSince, Continues, Leaves, error_of}
use Rattle.node_table.specs.Table.{TableState, IsSound, live_nodes}
use Rattle.node_table.specs.Tied.{IsTied}
use Rattle.term_runner.specs.Opened.{LeavesKind}
use Rattle.term_runner.specs.Price.{IsPaid, most_nodes}
use Rattle.bdd_terms.proofs.Leaving.{error_handed}

-- what node_table's laws say of live clauses and of extension variables in use
abbrev pub Lean : Type 0 → Type 0
Lean S = (old : TableState S) (number : ℕ) (state : State) → IsSound old → HasAdded old number → ComesSince old.book.state state
    → IsLean (levels old.graph) old.inputs (number + (state.top - old.book.state.top)) state

abbrev pub InUse : Type 0
InUse = (graph : Graph) (state : State) → IsTied graph state → in_use (levels graph) state ≡ live_nodes graph

-- so many clauses more may be live
lean_more : (vars inputs few more : ℕ) (state : State) → few ≤ more → IsLean vars inputs few state → IsLean vars inputs more state
lean_more vars inputs few more state less lean = omega (arith, less, lean)

-- A kind of which are all states behind a table in the middle that have no more numbers and extension variables than what is left.
module _ {S : Type 0} (uses : InUse) (first mid new : TableState S) (so_far : Continues first mid) (kind : State → Type 0)
    (each : (state : State) → ComesSince mid.book.state state → state.top ≤ new.book.state.top
    → in_use (levels mid.graph) state ≤ live_nodes new.graph → kind state) where
  on : Continues mid new → kind new.book.state
  on more = each new.book.state more.since (omega arith)
      (subst (λ (vars : ℕ). in_use vars new.book.state ≤ live_nodes new.graph) (ap length more.order)
      (let same = uses new.graph new.book.state more.sound.tied in omega (arith, same)))

  off : BreaksOff mid new → LeavesKind first new kind (Some WriteFault)
  off broken =
      let cut = broken.cut in
      record {
        more = so_far.more ++ broken.more;
        told = told_further false first.book mid.book new.book so_far.more broken.more so_far.told broken.told;
        earlier = so_far.more ++ cut.earlier;
        last = cut.last;
        parts = ap (λ (more : List Step). so_far.more ++ more) cut.parts ∙ sym (append_assoc so_far.more cut.earlier (cut.last ∷ []));
        before = cut.before;
        leads = after_steps-append first.book.state so_far.more cut.earlier
            ∙ ap (λ (s : State). after_steps s cut.earlier) (sym (told_state so_far.told)) ∙ cut.leads;
        within_before = each cut.before cut.since cut.no_less cut.within_before.nodes;
        within_after = each new.book.state broken.since (omega arith) cut.within_after.nodes;
      }

  pub kind_behind : (error : Option TableError) → Leaves mid new error → LeavesKind first new kind error
  kind_behind None leaves = on leaves
  kind_behind (Some NodeLimit) leaves = on leaves.0
  kind_behind (Some IdLimit) leaves = on leaves.0
  kind_behind (Some OutOfMemory) leaves = on leaves
  kind_behind (Some WriteFault) leaves = off leaves

module _ {S : Type 0} (lean : Lean S) (uses : InUse) (first mid new : TableState S)
    (so_far : Continues first mid) where
  -- a state behind the table in the middle, where numbers up to this one were given before the moves
  module _ (from size number moves width price : ℕ) (added : HasAdded mid number) (few : number ≤ 2 * size
      + first.inputs) (ids : new.book.state.top ≤ from + moves * price)
      (near : new.book.state.top ≤ mid.book.state.top + price) (nodes : live_nodes new.graph ≤ most_nodes width) where
    abbrev Kind : State → Type 0
    Kind = IsPaid (levels first.graph) first.inputs from moves size width price

    lean_behind : (state : State) → ComesSince mid.book.state state → state.top ≤ new.book.state.top
        → IsLean (levels first.graph) first.inputs (2 * size + first.inputs + price) state
    lean_behind state since within =
        let own = lean mid number state so_far.sound added since in
        let here = subst (λ (vars : ℕ). IsLean vars mid.inputs (number + (state.top - mid.book.state.top)) state)
        (ap length so_far.order) own in
        let there = subst (λ (inputs : ℕ). IsLean (levels first.graph) inputs (number
        + (state.top - mid.book.state.top)) state) so_far.inputs here in
        lean_more (levels first.graph) first.inputs (number + (state.top - mid.book.state.top)) (2 * size + first.inputs
        + price) state (omega (arith, few, near, within)) there

    pub paid_there : (state : State) → ComesSince mid.book.state state → state.top ≤ new.book.state.top
        → in_use (levels mid.graph) state ≤ live_nodes new.graph → Kind state
    paid_there state since within used = record {
      within = record {
        numbers = omega (arith, within, ids);
        nodes = subst (λ (vars : ℕ). in_use vars state ≤ most_nodes width) (ap length so_far.order) (omega (arith, used, nodes));
      };
      lean = lean_behind state since within;
    }

    pub paid_behind : (error : Option TableError) → Leaves mid new error → LeavesKind first new Kind error
    paid_behind = kind_behind uses first mid new so_far Kind paid_there

-- a table whose clauses are the formula's alone
pub none_added : {S : Type 0} (table : TableState S) → IsSound table → table.inputs ≡ table.book.state.top → HasAdded table 0
none_added table sound fresh = record {
  ids = [];
  few = omega arith;
  all = λ id own. let clause = some_of (clause_at table.book.state.live id) own.stands in
      let within = (sound.tied.numbers id clause.0 clause.1).1 in absurd (omega (arith, own.above, within, fresh));
}
  where
    some_of : (o : Option (List ℤ)) → is_some o ≡ true → (clause : List ℤ) × (o ≡ Some clause)
    some_of None is = absurd (let e : false ≡ true = is in cc)
    some_of (Some clause) is = (clause, refl)

-- what is live in a sound table
pub lean_here : {S : Type 0} → Lean S → (table : TableState S) → IsSound table → (number : ℕ) → HasAdded table number
    → IsLean (levels table.graph) table.inputs number table.book.state
lean_here lean table sound number added =
    let own = lean table number table.book.state sound added (λ id clause is. inl is) in
    lean_more (levels table.graph) table.inputs (number + (table.book.state.top - table.book.state.top)) number table.book.state
    (omega arith) own

-- want of memory leaves all in step
pub kind_of_memory : {S T : Type 0} (old new : TableState S) (kind : State
    → Type 0) (r : Result T TableError) → IsErrAnd r (λ e. e ≡ OutOfMemory) → kind new.book.state
    → LeavesKind old new kind (error_of r)
kind_of_memory old new kind r is such = subst
    (λ (error : Option TableError). LeavesKind old new kind error) (sym (error_handed r OutOfMemory is)) such
