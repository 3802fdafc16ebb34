-- From an opened ledger to the end of the moves.
use Rattle.std.proofs.Common.{◌≡◌, ◌≢◌, ℕ, ◌+◌, ◌++◌, ◌∷◌, ◌<◌, ◌≤◌, ◌⊎◌, Bool, false, ℤ, List, [], length, Option, None, Some, Result, Ok}
use Rattle.std.proofs.Common.{Err, refl, sym, ap, ◌∙◌, subst, arith, inl, inr}
use Rattle.std.specs.Prelude.{IsTrue, IsFalse, IsSome, IfErr, IfOk, MatchOption}
use Rattle.std.specs.List.{list_all, list_any}
use Rattle.std.proofs.lemmas.List.{append-nil, append_assoc}
use Rattle.cnf_base.specs.declared.step.Step.{Step}
use Rattle.cnf_base.specs.Truth.{Assignment, AreClausesOf, Satisfies}
use Rattle.cnf_base.specs.Formula.{Formula}
use Rattle.cnf_base.specs.declared.step.Step.TheVariants.{Add}
use Rattle.cnf_base.specs.ProofText.{line_of_step}
use Rattle.host_io.specs.Channel.{Channel}
use Rattle.lrat_rules.specs.State.{State, clause_at, start}
use Rattle.lrat_rules.specs.Derivation.{IsCutProof, IsDerivation, IsWritten, text_of}
use Rattle.lrat_rules.specs.Run.{Refutes, step_adds_empty}
use Rattle.lrat_rules.specs.Marks.{IsWithin, in_use}
use Rattle.clause_ledger.specs.Book.{AreTold, IsProofOf, addition, after_steps}
use Rattle.clause_ledger.specs.Told.{after_steps-append, told_in_step, told_steps}
use Rattle.node_table.specs.declared.error.TableError.{TableError}
use Rattle.node_table.specs.declared.error.TableError.TheVariants.{NodeLimit, IdLimit, OutOfMemory, WriteFault}
use Rattle.node_table.specs.Diagram.{Graph, levels}
use Rattle.node_table.specs.Tied.{IsTied}
use Rattle.node_table.specs.Table.{TableState, AddsNoEmpty, last_variable, live_nodes}
use Rattle.node_table.specs.Progress.{AreStepsUpTo, Continues, BreaksOff, Leaves, error_of, number_limit}
use Rattle.node_table.specs.Laws.{Canonical}
use Rattle.operations.specs.Entries.{Entry}
use Rattle.schedule_plan.specs.declared.plan.Move.{Move}
use Rattle.schedule_plan.specs.declared.limits.Limits.{Limits}
use Rattle.bdd_terms.specs.declared.caches.Caches.{Caches}
use Rattle.term_runner.specs.declared.outcome.Outcome.TheVariants.{IdLimit as NoNumbers}
use Rattle.term_runner.specs.Clauses.{first_empty, has_empty_clause, is_tautology, one_line}
use Rattle.term_runner.specs.Proofs.{IsBrokenOfKind, IsProofOfKind, KeepsWithin}
use Rattle.term_runner.specs.Recovered.{IsRecovered}
use Rattle.term_runner.specs.Ends.{Says, ShowsFrom, outcome_of}
use Rattle.bdd_terms.specs.OverFormula.{IsOver, HasEmpty, IsWithinLimits}
use Rattle.term_runner.specs.Price.{IsDecision, IsLeanAtEnd, IsPaidFrom, IsPaidSince}
use Rattle.bdd_terms.specs.Price.{IsMovePrice}
use Rattle.term_runner.specs.Nodes.{RunsShort}
use Rattle.term_runner.specs.Width.{HasWidth, keeps_trail}
use Rattle.term_runner.specs.Opened.{Decides, IsBehind, Leads, LeavesKind}
use Rattle.term_runner.proofs.FurtherParts.{is_wider, wider_less, width_beside}
use Rattle.bdd_terms.proofs.Leaving.{went_on}
use Rattle.term_runner.proofs.Ending.{by_outcome, torn_of, whole_of, written_of}
use Rattle.term_runner.proofs.AtStart.{NoneAbove}
use Rattle.term_runner.proofs.EmptyAdded.{adds_empty, no_step}
use Rattle.bdd_terms.proofs.WithinLimits.{further_steps, last_is}

-- nothing was written yet
pub written_at_start : ((clauses : List (List ℤ)) → IsDerivation clauses [] (start clauses)) → (clauses : List (List ℤ)) (bytes : List ℕ)
    → bytes ≡ [] → IsWritten clauses bytes (start clauses)
written_at_start none clauses bytes fresh = record { steps = []; derived = none clauses; text = fresh }

pub whole_at_start : (formula : Formula) (kind : State → Type 0) → kind (start formula.clauses) → (bytes : List ℕ)
    → IsWritten formula.clauses bytes (start formula.clauses) → IsProofOfKind formula.clauses kind bytes
whole_at_start formula kind is bytes written = record { state = start formula.clauses; written = written; within = is }

-- a call in step left a state of the kind
kind_of_whole : {S : Type 0} (old new : TableState S) (kind : State → Type 0) (result : Result (Option (List Bool)) TableError) → result ≢ Err WriteFault
    → LeavesKind old new kind (error_of result) → kind new.book.state
kind_of_whole old new kind (Ok found) whole is = is
kind_of_whole old new kind (Err NodeLimit) whole is = is
kind_of_whole old new kind (Err IdLimit) whole is = is
kind_of_whole old new kind (Err OutOfMemory) whole is = is
kind_of_whole old new kind (Err WriteFault) whole is = absurd (whole refl)

abbrev pub DerivedEmpty : Type 0
DerivedEmpty = (vars : ℕ) (clauses : List (List ℤ)) (steps : List Step) (state : State) (id : ℕ) → AreClausesOf vars clauses
    → IsDerivation clauses steps state
    → clause_at state.live id ≡ Some [] → (a : Assignment) → Satisfies a clauses → ⊥

abbrev pub RefutesByStep : Type 0
RefutesByStep = (clauses : List (List ℤ)) (steps : List Step) (state : State) → IsDerivation clauses steps state
    → IsTrue (list_any step_adds_empty steps) → Refutes clauses (text_of steps)

module _ {S : Type 0} (canonical : Canonical) (unsatisfied : DerivedEmpty) (refutes : RefutesByStep) (none_above : NoneAbove)
    (uses : (graph : Graph) (state : State) → IsTied graph state → in_use (levels graph) state ≡ live_nodes graph)
    (tells : Bool) (before after : Channel) (formula : Formula) (moves : List Move) (limits : Limits)
    (old new : TableState S) (caches : Caches) (entries : List Entry) (result : Result (Option (List Bool)) TableError)
    (literals : AreClausesOf formula.vars formula.clauses) (over : IsOver formula old entries)
    (limited : IsWithinLimits formula limits old caches) (begun : IsProofOf formula.clauses old.book.steps old.book.state)
    (behind : IsBehind tells before after formula.clauses new.book)
    (clean : (error : TableError) → result ≡ Err error → (id : ℕ) → old.inputs < id → clause_at old.book.state.live id ≢ Some [])
    (unwritten : new ≡ old → after.written ≡ before.written) (few_nodes : live_nodes new.graph ≤ new.max_nodes)
    (decides : Decides formula moves limits.cache old new result) where
  abbrev first : ℕ
  first = old.book.state.top

  abbrev order : List ℕ
  order = old.graph.order

  grown : result ≢ Err WriteFault → Continues old new
  grown = went_on old new result decides.leaves

  torn : result ≡ Err WriteFault → BreaksOff old new
  torn is = subst (λ (r : Result (Option (List Bool)) TableError). Leaves old new (error_of r)) is decides.leaves

  at_node_limit : result ≡ Err NodeLimit → new.max_nodes ≤ live_nodes new.graph
  at_node_limit is = (subst (λ (r : Result (Option (List Bool)) TableError). Leaves old new
      (error_of r)) is decides.leaves).1

  at_id_limit : result ≡ Err IdLimit → new.book.limit < new.book.state.top + 4
  at_id_limit is = (subst (λ (r : Result (Option (List Bool)) TableError). Leaves old new
      (error_of r)) is decides.leaves).1

  in_step_now : result ≢ Err WriteFault → IsTrue new.book.in_step
  in_step_now whole = (grown whole).sound.in_step

  written : result ≢ Err WriteFault → IsTrue tells → IsWritten formula.clauses after.written new.book.state
  written whole t = written_of tells before after formula.clauses new.book behind t (in_step_now whole)

  -- the steps of the proof, the last of which was cut short
  cut_at : (more earlier : List Step) (last : Step) (middle : State) → AreTold false old.book new.book more → more ≡ earlier ++ last ∷ []
      → after_steps old.book.state earlier ≡ middle → IsTrue tells → IsCutProof formula.clauses after.written middle new.book.state
  cut_at more earlier last middle told parts leads t =
      subst (λ (s : State). IsCutProof formula.clauses after.written s new.book.state)
      (after_steps-append (start formula.clauses) old.book.steps earlier ∙ ap (λ (s : State). after_steps s earlier) begun.leads ∙ leads)
      (behind.cut t (told_in_step told) (old.book.steps ++ earlier) last
      (told_steps told ∙ ap (λ (steps : List Step). old.book.steps ++ steps) parts ∙ sym (append_assoc old.book.steps earlier (last ∷ []))))

  -- the extension variables in use are as many as the nodes
  used : (whole : result ≢ Err WriteFault) → in_use formula.vars new.book.state ≡ live_nodes new.graph
  used whole =
      let vars : levels new.graph ≡ formula.vars = ap length (grown whole).order ∙ over.vars in
      subst (λ (v : ℕ). in_use v new.book.state ≡ live_nodes new.graph) vars (uses new.graph new.book.state (grown whole).sound.tied)

  within : (whole : result ≢ Err WriteFault) → KeepsWithin formula limits new.book.state
  within whole = record {
    numbers = omega (arith, (grown whole).numbers, limited.numbers, limited.max_ids);
    nodes = omega (arith, used whole, few_nodes, (grown whole).max_nodes, limited.max_nodes);
  }

  within_limits : live_nodes new.graph ≤ old.max_nodes → (state : State)
      → IsWithin (levels old.graph) (number_limit old) (live_nodes new.graph) state → KeepsWithin formula limits state
  within_limits few state is = record {
    numbers = omega (arith, is.numbers, limited.numbers, limited.max_ids);
    nodes = subst (λ (v : ℕ). in_use v state ≤ limits.max_nodes) over.vars (omega (arith, is.nodes, few, limited.max_nodes));
  }

  -- the steps since the call, and their variables
  steps_of : (error : Option TableError) → Leaves old new error → (more : List Step) × (new.book.steps ≡ old.book.steps ++ more)
      × AreStepsUpTo (last_variable old) more
  steps_of None leaves = (leaves.more, told_steps leaves.told, leaves.variables)
  steps_of (Some NodeLimit) leaves = (leaves.0.more, told_steps leaves.0.told, leaves.0.variables)
  steps_of (Some IdLimit) leaves = (leaves.0.more, told_steps leaves.0.told, leaves.0.variables)
  steps_of (Some OutOfMemory) leaves = (leaves.more, told_steps leaves.told, leaves.variables)
  steps_of (Some WriteFault) leaves = (leaves.more, told_steps leaves.told, leaves.variables)

  few_variables : AreStepsUpTo (formula.vars + limits.max_nodes) new.book.steps
  few_variables =
      let own = steps_of (error_of result) decides.leaves in
      subst (AreStepsUpTo (formula.vars + limits.max_nodes)) (sym own.1)
      (further_steps (formula.vars + limits.max_nodes) old.book.steps own.0 limited.variables
      (subst (λ (n : ℕ). AreStepsUpTo n own.0) (last_is formula limits old caches entries over limited) own.2))

  own_price : (width price : ℕ) → HasWidth formula order moves width → IsMovePrice formula.vars limits.cache width price
      → LeavesKind old new (IsPaidSince (levels old.graph) old.inputs first (length moves) limits.cache width price) (error_of result)
  own_price width price has is = decides.paid width price has (subst (λ (vars : ℕ). IsMovePrice vars limits.cache width price)
      (sym over.vars) is)

  as_paid : (width price : ℕ) (state : State) → IsPaidSince (levels old.graph) old.inputs first (length moves) limits.cache width price state
      → IsPaidFrom first formula limits moves width price state
  as_paid width price state paid =
      subst (λ (vars : ℕ). IsPaidSince vars (length formula.clauses) first (length moves) limits.cache width price state) over.vars
      (subst (λ (count : ℕ). IsPaidSince (levels old.graph) count first (length moves) limits.cache width price state) over.counted paid)

  paid : (width price : ℕ) → HasWidth formula order moves width → IsMovePrice formula.vars limits.cache width price → result
      ≢ Err WriteFault → IsPaidFrom first formula limits moves width price new.book.state
  paid width price has is whole =
      as_paid width price new.book.state (kind_of_whole old new
      (IsPaidSince (levels old.graph) old.inputs first (length moves) limits.cache width price) result whole (own_price width price has is))

  broken_paid : (width price : ℕ) → HasWidth formula order moves width → IsMovePrice formula.vars limits.cache width price → result
      ≡ Err WriteFault → IsTrue tells
      → IsBrokenOfKind formula.clauses (IsPaidFrom first formula limits moves width price) after.written
  broken_paid width price has is torn_is t =
      let kind = IsPaidSince (levels old.graph) old.inputs first (length moves) limits.cache width price in
      let own = subst (λ (r : Result (Option (List Bool)) TableError). LeavesKind old new kind (error_of r)) torn_is
      (own_price width price has is) in
      record {
        before = own.before;
        after = new.book.state;
        cut = cut_at own.more own.earlier own.last own.before own.told own.parts own.leads t;
        within_before = as_paid width price own.before own.within_before;
        within_after = as_paid width price new.book.state own.within_after;
      }

  -- with a model few clauses are left
  lean : (values : List Bool) → result ≡ Ok (Some values)
      → (first ≡ length formula.clauses) ⊎ IsFalse (list_all is_tautology formula.clauses)
      → IsLeanAtEnd formula.vars (length formula.clauses) limits.cache new.book.state
  lean values is due =
      let due_here : (first ≡ old.inputs) ⊎ IsFalse (list_all is_tautology formula.clauses) = elim due [
        | inl same ↦ inl (same ∙ sym over.counted)
        | inr open_clause ↦ inr open_clause
      ] in
      let own = subst (λ (r : Result (Option (List Bool)) TableError). IfOk r (λ found. IsSome found
      → (first ≡ old.inputs) ⊎ IsFalse (list_all is_tautology formula.clauses)
      → IsLeanAtEnd (levels old.graph) old.inputs limits.cache new.book.state)) is decides.lean refl due_here in
      subst (λ (vars : ℕ). IsLeanAtEnd vars (length formula.clauses) limits.cache new.book.state) over.vars
      (subst (λ (count : ℕ). IsLeanAtEnd (levels old.graph) count limits.cache new.book.state) over.counted own)

  -- a refusal leaves the formula unrefuted
  unrefuted : (error : TableError) → result ≡ Err error → error ≢ WriteFault → (id : ℕ) → length formula.clauses < id
      → clause_at new.book.state.live id ≢ Some []
  unrefuted error is other id above empty =
      let none = subst (λ (r : Result (Option (List Bool)) TableError). IfErr r (λ e. e ≢ WriteFault → AddsNoEmpty old new)) is
      decides.no_empty other in
      clean error is id (omega (arith, above, over.counted)) (none.each id empty)

  not_torn : (other : Result (Option (List Bool)) TableError) → result ≡ other → other ≢ Err WriteFault → result ≢ Err WriteFault
  not_torn other is differs e = differs (sym is ∙ e)

  abbrev Found : Option (List Bool) → Type 0
  Found found = MatchOption found (HasEmpty new) (λ model. IsRecovered formula order moves model)

  found_in : (found : Option (List Bool)) → result ≡ Ok found → Found found
  found_in found is = subst (λ (r : Result (Option (List Bool)) TableError). IfOk r Found) is decides.found

  -- the limit of the table is that of the run
  short_here : result ≡ Err NodeLimit → RunsShort (keeps_trail limits.max_nodes) formula order moves new.graph
  short_here is = subst (λ (n : ℕ). RunsShort (keeps_trail n) formula order moves new.graph) limited.max_nodes (decides.short is)

  says : IfOk (outcome_of result) (Says formula order moves limits)
  says = by_outcome (Says formula order moves limits) result
      (λ is.
      let empty = found_in None is in
      unsatisfied formula.vars formula.clauses new.book.steps new.book.state empty.id literals behind.proof.derived empty.empty)
      (λ values is. found_in (Some values) is)
      (λ is.
      let more = grown (not_torn (Err NodeLimit) is (λ e. cc)) in
      is_wider canonical (keeps_trail limits.max_nodes) formula order moves new.graph more.sound.tied.reduced (short_here is) limits.max_nodes
      (omega (arith, at_node_limit is, few_nodes, more.max_nodes, limited.max_nodes)))
      (λ _. tt)

  -- the only step is the line of the empty clause
  refuted_at_once : (is : result ≡ Ok None) → IsTrue tells → first ≡ length formula.clauses → IsTrue (has_empty_clause formula.clauses)
      → after.written ≡ one_line formula.clauses
  refuted_at_once is t same has =
      let told = decides.one_line is has (same ∙ sym over.counted) in
      let none : old.book.steps ≡ [] = no_step none_above formula.clauses old.book.steps old.book.state begun.derived same in
      let step : Step = addition old.book.state [] (first_empty formula.clauses ∷ []) in
      let only : new.book.steps ≡ step ∷ [] = told_steps told ∙ ap (λ (steps : List Step). steps ++ step ∷ []) none in
      behind.text t (told_in_step told) ∙ ap text_of only ∙ append-nil (line_of_step step)
      ∙ ap (λ (n : ℕ). line_of_step (Add (n + 1) [] (first_empty formula.clauses ∷ []) [])) same

  shows : IsTrue tells → IfOk (outcome_of result) (ShowsFrom first formula limits after.written)
  shows t = by_outcome (ShowsFrom first formula limits after.written) result
      (λ is.
      let whole = not_torn (Ok None) is (λ e. cc) in
      let empty = found_in None is in
      let adds = adds_empty none_above formula.clauses new.book.steps new.book.state empty.id behind.proof.leads
      (omega (arith, empty.above, (grown whole).inputs, over.counted)) empty.empty in
      record {
        refutes = subst (Refutes formula.clauses) (sym (behind.text t (in_step_now whole)))
            (refutes formula.clauses new.book.steps new.book.state behind.proof.derived adds);
        at_once = λ same has. refuted_at_once is t same has;
      })
      (λ values is due. record {
        state = new.book.state;
        written = written (not_torn (Ok (Some values)) is (λ e. cc)) t;
        within = lean values is due;
      })
      (λ is.
      let whole = not_torn (Err NodeLimit) is (λ e. cc) in
      record {
        none_empty = decides.none_empty is;
        some_open = decides.open_clause (inl is);
        state = new.book.state;
        written = written whole t;
        used = omega (arith, used whole, at_node_limit is, few_nodes, (grown whole).max_nodes, limited.max_nodes);
        unrefuted = unrefuted NodeLimit is (λ e. cc);
      })
      (λ is.
      let whole = not_torn (Err IdLimit) is (λ e. cc) in
      record {
        some_open = decides.open_clause (inr is);
        state = new.book.state;
        written = written whole t;
        used = omega (arith, at_id_limit is, (grown whole).limit, limited.max_ids);
        at_once = λ has. let few = decides.at_limit is has in omega (arith, few, (grown whole).limit, limited.max_ids);
        unrefuted = unrefuted IdLimit is (λ e. cc);
      })

  spent : IfOk (outcome_of result) (λ outcome. outcome ≡ NoNumbers → limits.max_ids < new.book.state.top + 4)
  spent = by_outcome (λ outcome. outcome ≡ NoNumbers → limits.max_ids < new.book.state.top + 4) result (λ is e. cc) (λ values is e. cc) (λ is e. cc)
      (λ is _.
      let whole = not_torn (Err IdLimit) is (λ e. cc) in
      omega (arith, at_id_limit is, (grown whole).limit, limited.max_ids))

  pub decided_leads : Leads first tells before after formula order moves limits new.book (outcome_of result)
  decided_leads = record {
    in_step = λ whole. (grown (whole_of result whole)).sound.in_step;
    written = λ whole t. written (whole_of result whole) t;
    within = λ whole. within (whole_of result whole);
    broken = λ is t.
        let off = torn (torn_of result is) in
        let cut = off.cut in
        let few = off.few in
        record {
          before = cut.before;
          after = new.book.state;
          cut = cut_at off.more cut.earlier cut.last cut.before off.told cut.parts cut.leads t;
          within_before = within_limits few cut.before cut.within_before;
          within_after = within_limits few new.book.state cut.within_after;
        };
    variables = λ t. record { steps = new.book.steps; spelled = behind.spelled t; few = few_variables };
    paid = λ width price has is whole. paid width price has is (whole_of result whole);
    broken_paid = λ width price has is torn_is t. broken_paid width price has is (torn_of result torn_is) t;
    certain = λ width price has is_price ample.
        by_outcome IsDecision result (λ _. tt) (λ values is. tt)
        (λ is.
        let more = grown (not_torn (Err NodeLimit) is (λ e. cc)) in
        let wider = is_wider canonical (keeps_trail limits.max_nodes) formula order moves new.graph more.sound.tied.reduced (short_here is)
        limits.max_nodes
        (omega (arith, at_node_limit is, few_nodes, more.max_nodes, limited.max_nodes)) in
        has (wider_less (keeps_trail limits.max_nodes) formula order moves width limits.max_nodes ample.0 wider))
        (λ is.
        let whole = not_torn (Err IdLimit) is (λ e. cc) in
        let last = (paid width price (width_beside (keeps_trail limits.max_nodes) formula order moves width has) is_price whole).numbers in
        omega (arith, at_id_limit is, (grown whole).limit, limited.max_ids, last, ample.1));
    says = says;
    shows = shows;
    spent = spent;
    fault = λ is. behind.rose (torn (torn_of result is)).out_of_step;
    unfailed = λ whole. behind.unfailed (in_step_now (whole_of result whole));
    tautologies = λ all. unwritten (decides.tautologies all);
    name = behind.name;
    faults = behind.faults;
  }
