-- What a run tells behind the sums of the equations, whatever these came to.
use Rattle.std.proofs.Common.{◌≡◌, ◌⊎◌, ◌∙◌, ◌<◌, ◌≤◌, ◌+◌, ◌*◌, ◌++◌, ℕ, Bool, true, false, List, [], ◌∷◌, length}
use Rattle.std.proofs.Common.{Result, Ok, Err, refl, sym, ap, subst, arith, inl, inr}
use Rattle.std.specs.Prelude.{IfOk, IsFalse, IsTrue}
use Rattle.std.specs.List.{list_all}
use Rattle.std.proofs.lemmas.Bool.{cases_Bool}
use Rattle.cnf_base.specs.declared.step.Step.{Step}
use Rattle.cnf_base.specs.Formula.{Formula}
use Rattle.host_io.specs.Channel.{Channel}
use Rattle.lrat_rules.specs.Derivation.{IsCutProof, IsWritten}
use Rattle.lrat_rules.specs.Marks.{in_use}
use Rattle.lrat_rules.specs.State.{State, start}
use Rattle.clause_ledger.specs.Book.{IsBook, IsTextOf, after_steps}
use Rattle.node_table.specs.declared.error.TableError.{TableError}
use Rattle.node_table.specs.declared.error.TableError.TheVariants as table
use Rattle.node_table.specs.Diagram.{Graph, levels}
use Rattle.node_table.specs.HandedOn.{no_error, same_error}
use Rattle.node_table.specs.Progress.{Leaves, error_of}
use Rattle.node_table.specs.Table.{live_nodes}
use Rattle.node_table.specs.Tied.{IsTied}
use Rattle.schedule_plan.specs.declared.plan.Move.{Move}
use Rattle.schedule_plan.specs.declared.limits.Limits.{Limits}
use Rattle.parity_equations.specs.Conflict.{AreInConflict}
use Rattle.parity_equations.specs.Equations.{equations}
use Rattle.bdd_terms.specs.declared.error.RunError.{RunError}
use Rattle.bdd_terms.specs.declared.error.RunError.TheVariants.{OutOfMemory, WriteFault}
use Rattle.term_runner.specs.declared.outcome.Outcome.{Outcome}
use Rattle.term_runner.specs.declared.outcome.Outcome.TheVariants.{IdLimit, NodeLimit, Sat, Unsat}
use Rattle.term_runner.specs.declared.outcome.Run.{Run}
use Rattle.bdd_terms.specs.declared.runner.Runner.{Runner}
use Rattle.term_runner.specs.Clauses.{has_empty_clause, is_tautology}
use Rattle.term_runner.specs.Ends.{HasLast, Shows, ShowsFrom}
use Rattle.bdd_terms.specs.Price.{IsMovePrice}
use Rattle.bdd_terms.specs.Runner.{IsRunner}
use Rattle.bdd_terms.specs.Unused.{IsOpenedOver}
use Rattle.parity_terms.specs.Ends.{Ends as SumsEnd}
use Rattle.parity_terms.specs.Limit.{CostsElimination, all_variables, nodes_needed, step_width}
use Rattle.parity_terms.specs.Steps.{Keeps}
use Rattle.parity_runs.specs.Behind.{GoesOn, IsClosed, RunsPlan}
use Rattle.parity_runs.specs.Ends.{EndsBehind, EndsWithParity, IsPaidBehind, phase_moves}
use Rattle.parity_runs.proofs.Stands.{EndsNumbered, IsNumbered, closed_ends, fault_ends, memory_ends, plan_ends, so_far_wider}

-- no failed write
memory_whole : {T : Type 0} → ◌≡◌ {A = Result T TableError} (Err table.OutOfMemory) (Err table.WriteFault) → ⊥
memory_whole same = let e : table.OutOfMemory ≡ table.WriteFault = same_error same in cc

ids_whole : {T : Type 0} → ◌≡◌ {A = Result T TableError} (Err table.IdLimit) (Err table.WriteFault) → ⊥
ids_whole same = let e : table.IdLimit ≡ table.WriteFault = same_error same in cc

nodes_whole : {T : Type 0} → ◌≡◌ {A = Result T TableError} (Err table.NodeLimit) (Err table.WriteFault) → ⊥
nodes_whole same = let e : table.NodeLimit ≡ table.WriteFault = same_error same in cc

-- the proof goes to the same sink, however the sums end
pub origin_kept : {S : Type 0} (all : List (List ℕ × Bool)) (old new : Runner S) (found : Result Bool TableError)
    → SumsEnd all old new found
    → new.terms.table.book.origin ≡ old.terms.table.book.origin
origin_kept all old new (Ok refuted) sums = (sums.keeps no_error).origin
origin_kept all old new (Err table.NodeLimit) sums = (sums.keeps nodes_whole).origin
origin_kept all old new (Err table.IdLimit) sums = (sums.keeps ids_whole).origin
origin_kept all old new (Err table.OutOfMemory) sums = (sums.keeps memory_whole).origin
origin_kept all old new (Err table.WriteFault) sums = ap (λ b. b.origin) sums.leaves.told.is

-- the last number, however the sums end
module _ {S : Type 0} (old new : Runner S) (result : Result Run RunError) (last : IfOk result (HasLast new.formula.now new.limits)) where
  last_kept : Keeps [] old new → IfOk result (HasLast old.formula.now old.limits)
  last_kept keeps =
      subst (λ (limits : Limits). IfOk result (HasLast old.formula.now limits)) keeps.limits
      (subst (λ (formula : Formula). IfOk result (HasLast formula new.limits)) (ap (λ f. f.now) keeps.formula) last)

  pub last_within : (tells : Bool) (all : List (List ℕ × Bool)) (mid after : Channel) (moves : List Move) (found : Result Bool TableError)
      → SumsEnd all old new found → GoesOn tells mid after new moves found result
      → IfOk result (HasLast old.formula.now old.limits)
  last_within tells all mid after moves (Ok refuted) sums goes = last_kept (sums.keeps no_error)
  last_within tells all mid after moves (Err table.NodeLimit) sums goes = absurd goes
  last_within tells all mid after moves (Err table.IdLimit) sums goes = last_kept (sums.keeps ids_whole)
  last_within tells all mid after moves (Err table.OutOfMemory) sums goes = last_kept (sums.keeps memory_whole)
  last_within tells all mid after moves (Err table.WriteFault) sums goes =
      subst (λ (r : Result Run RunError). IfOk r (HasLast old.formula.now old.limits)) (sym goes.0) tt

-- at their limit of numbers fewer than four are left
pub sums_spent : {S : Type 0} (all : List (List ℕ × Bool)) (old new : Runner S) (found : Result Bool TableError) → SumsEnd all old new found
    → found ≡ Err table.IdLimit → new.terms.table.book.limit < new.terms.table.book.state.top + 4
sums_spent all old new found sums is =
    (subst (λ (r : Result Bool TableError). Leaves old.terms.table new.terms.table (error_of r)) is sums.leaves).1

-- another outcome than the limit of nodes
other_outcome : (P : Type 0) (outcome : Outcome) → (outcome ≡ NodeLimit → ⊥) → (result : Result Run RunError)
    → IfOk result (λ run. run.outcome ≡ outcome) → IfOk result (λ run. run.outcome ≡ NodeLimit → P)
other_outcome P outcome other (Ok run) is = λ same. absurd (other (sym is ∙ same))
other_outcome P outcome other (Err error) is = tt

in_any_case : (P : Type 0) → P → (result : Result Run RunError) → IfOk result (λ run. run.outcome ≡ NodeLimit → P)
in_any_case P p (Ok run) = λ same. p
in_any_case P p (Err error) = tt

module _ {S B : Type 0} (tells : Bool) (channel : S → Channel) (beside : S → B) (formula : Formula) (order : List ℕ) (limits : Limits)
    (sink : S)
    (old new : Runner S) (opened : IsOpenedOver formula order limits sink old)
    (used_law : (graph : Graph) (state : State) → IsTied graph state → in_use (levels graph) state ≡ live_nodes graph)
    (few : live_nodes new.terms.table.graph ≤ new.terms.table.max_nodes)
    (fresh : IsTrue tells → (channel sink).written ≡ [])
    (book : IsBook tells channel beside new.terms.table.book)
    (written_law : (bytes : List ℕ) → IsTextOf true new.terms.table.book.steps bytes
    → IsWritten new.terms.table.book.formula bytes new.terms.table.book.state)
    (cut_law : (bytes : List ℕ) (earlier : List Step) (last : Step) → IsTextOf false new.terms.table.book.steps bytes
    → new.terms.table.book.steps ≡ earlier ++ last ∷ []
    → IsCutProof new.terms.table.book.formula bytes (after_steps (start new.terms.table.book.formula) earlier)
    new.terms.table.book.state)
    (full : IsFalse (has_empty_clause formula.clauses)) (open_clause : IsFalse (list_all is_tautology formula.clauses))
    (costs : CostsElimination (length old.formula.now.clauses) (length (equations old.formula.now.clauses))
    (length (all_variables (equations old.formula.now.clauses))) old new) (moves : List Move) (after : Channel)
    (result : Result Run RunError)
  where
    abbrev first : ℕ
    first = new.terms.table.book.state.top

    abbrev mid : Channel
    mid = channel new.terms.table.book.sink

    vars_are : levels old.terms.table.graph ≡ old.formula.now.vars
    vars_are = opened.unused.vars

    spent_there : (width price : ℕ) → IsMovePrice old.formula.now.vars old.limits.cache width price
        → step_width (length (all_variables (equations old.formula.now.clauses))) ≤ width
        → first ≤ length old.formula.now.clauses + phase_moves old.formula.now * price
    spent_there width price is enough =
        let own = costs old.limits.cache width price opened.unused.size
        (subst (λ (n : ℕ). IsMovePrice n old.limits.cache width price) (sym vars_are) is) enough in
        let start : old.terms.table.book.state.top ≡ length old.formula.now.clauses = ap (λ (s : State). s.top) opened.unused.book.state in
        omega (arith, own, start)

    spent : (width price : ℕ) → IsMovePrice formula.vars limits.cache width price
        → step_width (length (all_variables (equations formula.clauses))) ≤ width
        → first ≤ length formula.clauses + phase_moves formula * price
    spent =
        subst (λ (f : Formula). (width price : ℕ) → IsMovePrice f.vars limits.cache width price
        → step_width (length (all_variables (equations f.clauses))) ≤ width → first ≤ length f.clauses + phase_moves f * price)
        opened.of_formula
        (subst (λ (l : Limits). (width price : ℕ) → IsMovePrice old.formula.now.vars l.cache width price
        → step_width (length (all_variables (equations old.formula.now.clauses))) ≤ width
        → first ≤ length old.formula.now.clauses + phase_moves old.formula.now * price) opened.within spent_there)

    -- what is shown from the first number on is shown of the formula
    shown_here : (outcome : Outcome) → ShowsFrom first formula limits after.written outcome → Shows formula limits after.written outcome
    shown_here Unsat shown = record {
      refutes = shown.refutes;
      at_once = λ empty. absurd (let e : true ≡ false = sym empty ∙ full in cc);
    }
    shown_here (Sat values) shown = shown (inr open_clause)
    shown_here NodeLimit shown = shown
    shown_here IdLimit shown = record {
      some_open = shown.some_open;
      state = shown.state;
      written = shown.written;
      used = shown.used;
      at_once = λ empty. absurd (let e : true ≡ false = sym empty ∙ full in cc);
      unrefuted = shown.unrefuted;
    }

    all_shown : (r : Result Run RunError) → IfOk r (λ run. ShowsFrom first formula limits after.written run.outcome)
        → IfOk r (λ run. Shows formula limits after.written run.outcome)
    all_shown (Ok run) shown = shown_here run.outcome shown
    all_shown (Err error) shown = tt

    behind_by : EndsNumbered first tells (channel sink) after formula order moves limits result
        → EndsBehind tells (channel sink) after formula order moves limits result
    behind_by ends = record {
      says = ends.says;
      certain = λ width price has paid ample.
          let few = spent ample.sum_width ample.sum_price ample.is.is ample.is.enough in
          let most = ample.numbers in
          ends.certain width price has paid (ample.nodes, omega (arith, few, most));
      shows = λ t. all_shown result (ends.shows t);
      last = ends.last;
      whole = ends.whole;
      so_far = ends.so_far;
      variables = ends.variables;
      price = λ width price has paid t. so_far_wider formula.clauses (IsNumbered first moves price)
          (IsPaidBehind formula limits moves width price)
          (λ s there sum_width sum_price is. let few = spent sum_width sum_price is.is is.enough in omega (arith, few, there)) after.written
          (ends.price width price has paid t);
      flushed = ends.flushed;
      fault = ends.fault;
      unfailed = ends.unfailed;
      tautologies = ends.tautologies;
      name = ends.name;
      faults = ends.faults;
    }

    -- the runner goes on
    module _ (goes_on : IsRunner new) (keeps : Keeps [] old new) where
      formula_is : new.formula.now ≡ formula
      formula_is = ap (λ f. f.now) keeps.formula ∙ opened.of_formula

      origin_is : new.terms.table.book.origin ≡ sink
      origin_is = keeps.origin ∙ opened.origin

      fresh_origin : IsTrue tells → (channel new.terms.table.book.origin).written ≡ []
      fresh_origin t = ap (λ (s : S). (channel s).written) origin_is ∙ fresh t

      full_here : IsFalse (has_empty_clause new.formula.now.clauses)
      full_here = subst (λ (f : Formula). IsFalse (has_empty_clause f.clauses)) (sym formula_is) full

      open_here : IsFalse (list_all is_tautology new.formula.now.clauses)
      open_here = subst (λ (f : Formula). IsFalse (list_all is_tautology f.clauses)) (sym formula_is) open_clause

      -- by the names that the run was given
      named : (later : Channel) (r : Result Run RunError)
          → EndsNumbered first tells (channel new.terms.table.book.origin) later new.formula.now new.terms.table.graph.order moves
          new.limits r
          → EndsNumbered first tells (channel sink) later formula order moves limits r
      named later r ends =
          subst (λ (s : S). EndsNumbered first tells (channel s) later formula order moves limits r) origin_is
          (subst (λ (l : Limits). EndsNumbered first tells (channel new.terms.table.book.origin) later formula order moves l r)
          (keeps.limits ∙ opened.within)
          (subst (λ (o : List ℕ). EndsNumbered first tells (channel new.terms.table.book.origin) later formula o moves new.limits r)
          (keeps.order ∙ opened.of_order)
          (subst (λ (f : Formula). EndsNumbered first tells (channel new.terms.table.book.origin) later f new.terms.table.graph.order moves
          new.limits r) formula_is ends)))

      plan_named : RunsPlan tells mid after new moves result → EndsNumbered first tells (channel sink) after formula order moves limits
          result
      plan_named runs =
          named after result
          (plan_ends tells channel beside new used_law few fresh_origin book written_law cut_law goes_on open_here moves after result runs)

      closed_named : new.refuted ≡ false → new.terms.table.book.limit < first + 4 → IsClosed tells mid after new result
          → EndsNumbered first tells (channel sink) after formula order moves limits result
      closed_named unrefuted used closed =
          named after result
          (closed_ends tells channel beside new used_law few fresh_origin book written_law cut_law goes_on full_here open_here unrefuted
          used moves
          after result closed)

      memory_named : result ≡ Err OutOfMemory → after ≡ mid → EndsNumbered first tells (channel sink) after formula order moves limits
          result
      memory_named is same =
          subst (λ (c : Channel). EndsNumbered first tells (channel sink) c formula order moves limits result) (sym same)
          (subst (λ (r : Result Run RunError). EndsNumbered first tells (channel sink) mid formula order moves limits r) (sym is)
          (named mid (Err OutOfMemory)
          (memory_ends tells channel beside new used_law few fresh_origin book written_law cut_law goes_on open_here moves)))

    behind_of : (found : Result Bool TableError) → SumsEnd (equations old.formula.now.clauses) old new found
        → GoesOn tells mid after new moves found result → EndsBehind tells (channel sink) after formula order moves limits result
    behind_of (Ok refuted) sums goes =
        behind_by (plan_named (sums.goes_on no_error) (sums.keeps no_error) goes)
    behind_of (Err table.NodeLimit) sums goes = absurd goes
    behind_of (Err table.IdLimit) sums goes =
        behind_by (elim (cases_Bool new.refuted) [
          | inl refuted ↦ plan_named (sums.goes_on ids_whole) (sums.keeps ids_whole) (goes.0 refuted)
          | inr unrefuted ↦ closed_named (sums.goes_on ids_whole) (sums.keeps ids_whole) unrefuted sums.leaves.1 (goes.1 unrefuted)
        ])
    behind_of (Err table.OutOfMemory) sums goes =
        behind_by
        (memory_named (sums.goes_on memory_whole) (sums.keeps memory_whole) goes.0 goes.1)
    behind_of (Err table.WriteFault) sums goes =
        let breaks = sums.leaves in
        let origin : new.terms.table.book.origin ≡ sink = ap (λ b. b.origin) breaks.told.is ∙ opened.origin in
        behind_by
        (subst (λ (c : Channel). EndsNumbered first tells (channel sink) c formula order moves limits result) (sym goes.1)
        (subst (λ (r : Result Run RunError). EndsNumbered first tells (channel sink) mid formula order moves limits r) (sym goes.0)
        (subst (λ (s : S). EndsNumbered first tells (channel s) mid formula order moves limits (Err WriteFault)) origin
        (fault_ends tells channel beside new used_law few (λ t. ap (λ (s : S). (channel s).written) origin ∙ fresh t) book written_law
        cut_law
        formula order limits sink old opened open_clause breaks moves))))

    -- the equations are in conflict
    abbrev needed : Type 0
    needed = limits.max_nodes < nodes_needed (equations formula.clauses)

    none_of_nodes : IsTrue new.refuted → RunsPlan tells mid after new moves result → IfOk result (λ run. run.outcome ≡ NodeLimit → needed)
    none_of_nodes refuted runs = other_outcome needed Unsat (λ same. cc) result (runs.refuted refuted)

    at_limit : IsClosed tells mid after new result → IfOk result (λ run. run.outcome ≡ NodeLimit → needed)
    at_limit closed = elim closed.ends [
      | inl told ↦ subst (λ (r : Result Run RunError). IfOk r (λ run. run.outcome ≡ NodeLimit → needed)) (sym told.0)
          (λ same. absurd (let e : IdLimit ≡ NodeLimit = same in cc))
      | inr fails ↦ subst (λ (r : Result Run RunError). IfOk r (λ run. run.outcome ≡ NodeLimit → needed)) (sym fails.0) tt
    ]

    conflict_of : (found : Result Bool TableError) → SumsEnd (equations old.formula.now.clauses) old new found
        → GoesOn tells mid after new moves found result
        → (found ≡ Ok false → (AreInConflict (equations old.formula.now.clauses) → ⊥)
        ⊎ (old.limits.max_nodes < nodes_needed (equations old.formula.now.clauses)))
        → AreInConflict (equations formula.clauses) → IfOk result (λ run. run.outcome ≡ NodeLimit → needed)
    conflict_of (Ok true) sums goes limit conflict = none_of_nodes sums.refuted goes
    conflict_of (Ok false) sums goes limit conflict = elim (limit refl) [
      | inl none ↦ absurd (none (subst (λ (f : Formula). AreInConflict (equations f.clauses)) (sym opened.of_formula) conflict))
      | inr less ↦ in_any_case needed
          (subst (λ (l : Limits). l.max_nodes < nodes_needed (equations formula.clauses)) opened.within
          (subst (λ (f : Formula). old.limits.max_nodes < nodes_needed (equations f.clauses)) opened.of_formula less)) result
    ]
    conflict_of (Err table.NodeLimit) sums goes limit conflict = absurd goes
    conflict_of (Err table.IdLimit) sums goes limit conflict = elim (cases_Bool new.refuted) [
      | inl refuted ↦ none_of_nodes refuted (goes.0 refuted)
      | inr unrefuted ↦ at_limit (goes.1 unrefuted)
    ]
    conflict_of (Err table.OutOfMemory) sums goes limit conflict =
        subst (λ (r : Result Run RunError). IfOk r (λ run. run.outcome ≡ NodeLimit → needed)) (sym goes.0) tt
    conflict_of (Err table.WriteFault) sums goes limit conflict =
        subst (λ (r : Result Run RunError). IfOk r (λ run. run.outcome ≡ NodeLimit → needed)) (sym goes.0) tt

    -- some equation is there
    pub run_ends : (equations formula.clauses ≡ [] → ⊥) → (found : Result Bool TableError)
        → SumsEnd (equations old.formula.now.clauses) old new found → GoesOn tells mid after new moves found result
        → (found ≡ Ok false → (AreInConflict (equations old.formula.now.clauses) → ⊥)
        ⊎ (old.limits.max_nodes < nodes_needed (equations old.formula.now.clauses)))
        → EndsWithParity tells (channel sink) after formula order moves limits result
    run_ends some found sums goes limit = record {
      without = λ none fine. elim none [
        | inl empty ↦ absurd (let e : true ≡ false = sym empty ∙ full in cc)
        | inr nothing ↦ absurd (some nothing)
      ];
      behind = behind_of found sums goes;
      conflict = λ here conflict. conflict_of found sums goes limit conflict;
    }
