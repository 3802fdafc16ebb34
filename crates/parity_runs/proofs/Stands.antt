-- A runner's proof as it stands, in step or cut short in its last line, and what a run shows that ends there or goes on from there.
use Rattle.std.proofs.Common.{◌*◌, ◌≡◌, ◌⊎◌, ◌∙◌, ◌<◌, ◌≤◌, ◌+◌, ◌++◌, ℕ, Bool, true, false, ℤ, List, [], ◌∷◌, length}
use Rattle.std.proofs.Common.{Result, Ok, Err, refl, sym, ap, subst, arith, inl, inr}
use Rattle.std.specs.Prelude.{IsFalse, IsTrue}
use Rattle.std.specs.List.{list_all}
use Rattle.cnf_base.specs.declared.step.Step.{Step}
use Rattle.cnf_base.specs.Formula.{Formula}
use Rattle.host_io.specs.Channel.{Channel, Rose}
use Rattle.lrat_rules.specs.Derivation.{IsCutProof, IsWritten, text_of}
use Rattle.lrat_rules.specs.Marks.{IsWithin, in_use}
use Rattle.lrat_rules.specs.State.{State, start}
use Rattle.clause_ledger.specs.Book.{IsBook, IsCutText, IsTextOf, after_steps}
use Rattle.node_table.specs.Diagram.{Graph, levels}
use Rattle.node_table.specs.HandedOn.{no_error, same_error}
use Rattle.node_table.specs.Progress.{AreStepsUpTo, BreaksOff, number_limit}
use Rattle.node_table.specs.Table.{live_nodes}
use Rattle.node_table.specs.Tied.{IsTied}
use Rattle.schedule_plan.specs.declared.plan.Move.{Move}
use Rattle.schedule_plan.specs.declared.limits.Limits.{Limits}
use Rattle.bdd_terms.specs.declared.error.RunError.{RunError}
use Rattle.bdd_terms.specs.declared.error.RunError.TheVariants.{OutOfMemory, WriteFault}
use Rattle.term_runner.specs.declared.outcome.Outcome.TheVariants.{IdLimit}
use Rattle.term_runner.specs.declared.outcome.Run.{Run}
use Rattle.bdd_terms.specs.declared.runner.Runner.{Runner}
use Rattle.term_runner.specs.Clauses.{has_empty_clause, is_tautology}
use Rattle.term_runner.specs.Ends.{EndsAs, ShowsFrom}
use Rattle.term_runner.specs.Price.{AreAmpleFrom, IsPaidFrom}
use Rattle.term_runner.specs.Proofs.{IsProof, IsProofOfKind, IsProofSoFarOfKind, KeepsWithin, UsesVariables}
use Rattle.bdd_terms.specs.Runner.{IsRunner}
use Rattle.bdd_terms.specs.Unused.{IsOpenedOver}
use Rattle.parity_runs.specs.Behind.{IsClosed, RunsPlan}

-- numbers up to the first one were given before the plan, and each of its moves gave no more than this
abbrev pub IsNumbered : ℕ → List Move → ℕ → State → Type 0
IsNumbered first moves price state = state.top ≤ first + length moves * price

-- how a run ends behind this number
abbrev pub EndsNumbered : ℕ → Bool → Channel → Channel → Formula → List ℕ → List Move → Limits → Result Run RunError → Type 0
EndsNumbered first tells before after formula order moves limits result =
    EndsAs tells before after formula order moves limits (ShowsFrom first formula limits) (λ width price. IsNumbered first moves price)
    (AreAmpleFrom first limits moves) result

-- a proof of one kind is of a wider one
pub so_far_wider : (clauses : List (List ℤ)) (kind wider : State → Type 0) → ((state : State) → kind state → wider state) → (bytes : List ℕ)
    → IsProofSoFarOfKind clauses kind bytes → IsProofSoFarOfKind clauses wider bytes
so_far_wider clauses kind wider more bytes (inl whole) =
    inl (record { state = whole.state; written = whole.written; within = more whole.state whole.within })
so_far_wider clauses kind wider more bytes (inr broken) = inr (record {
  before = broken.before;
  after = broken.after;
  cut = broken.cut;
  within_before = more broken.before broken.within_before;
  within_after = more broken.after broken.within_after;
})

module _ {S B : Type 0} (tells : Bool) (channel : S → Channel) (beside : S → B) (runner : Runner S)
    (used_law : (graph : Graph) (state : State) → IsTied graph state → in_use (levels graph) state ≡ live_nodes graph)
    (few : live_nodes runner.terms.table.graph ≤ runner.terms.table.max_nodes)
    (fresh : IsTrue tells → (channel runner.terms.table.book.origin).written ≡ [])
    (book : IsBook tells channel beside runner.terms.table.book)
    (written_law : (bytes : List ℕ) → IsTextOf true runner.terms.table.book.steps bytes
    → IsWritten runner.terms.table.book.formula bytes runner.terms.table.book.state)
    (cut_law : (bytes : List ℕ) (earlier : List Step) (last : Step) → IsTextOf false runner.terms.table.book.steps bytes
    → runner.terms.table.book.steps ≡ earlier ++ last ∷ []
    → IsCutProof runner.terms.table.book.formula bytes (after_steps (start runner.terms.table.book.formula) earlier)
    runner.terms.table.book.state) where
  abbrev before : Channel
  before = channel runner.terms.table.book.origin

  abbrev mid : Channel
  mid = channel runner.terms.table.book.sink

  abbrev steps : List Step
  steps = runner.terms.table.book.steps

  abbrev state : State
  state = runner.terms.table.book.state

  abbrev first : ℕ
  first = runner.terms.table.book.state.top

  -- the bytes are those of the steps
  bytes_are : IsTrue tells → IsTextOf runner.terms.table.book.in_step steps mid.written
  bytes_are t =
      let text = book.since.text t in
      subst (λ (l : List ℕ). IsTextOf runner.terms.table.book.in_step steps l)
      (sym (text.1 ∙ ap (λ (l : List ℕ). l ++ text.0) (fresh t))) text.2

  -- in step with its proof
  module _ (is : IsRunner runner) where
    abbrev formula : Formula
    formula = runner.formula.now

    abbrev limits : Limits
    limits = runner.limits

    abbrev order : List ℕ
    order = runner.terms.table.graph.order

    text : IsTrue tells → mid.written ≡ text_of steps
    text t = by_text (subst (λ (b : Bool). IsTextOf b steps mid.written) is.over.sound.in_step (bytes_are t)) where
      by_text : IsTextOf true steps mid.written → mid.written ≡ text_of steps
      by_text (inl whole) = whole
      by_text (inr cut) = absurd (let e : true ≡ false = cut.0 in cc)

    written : IsTrue tells → IsWritten formula.clauses mid.written state
    written t =
        subst (λ (cs : List (List ℤ)). IsWritten cs mid.written state) is.within.of_formula (written_law mid.written (inl (text t)))

    within : KeepsWithin formula limits state
    within =
        let used : in_use formula.vars state ≡ live_nodes runner.terms.table.graph =
        subst (λ (v : ℕ). in_use v state ≡ live_nodes runner.terms.table.graph) is.over.vars
        (used_law runner.terms.table.graph state is.over.sound.tied) in
        record { numbers = is.within.numbers; nodes = omega (arith, used, few, is.within.max_nodes) }

    whole : IsTrue tells → IsProof formula limits mid.written
    whole t = record { state = state; written = written t; within = within }

    variables : IsTrue tells → UsesVariables (formula.vars + limits.max_nodes) mid.written
    variables t = record { steps = steps; spelled = inl (text t); few = is.within.variables }

    numbered : (moves : List Move) (price : ℕ) → IsTrue tells → IsProofOfKind formula.clauses (IsNumbered first moves price) mid.written
    numbered moves price t = record { state = state; written = written t; within = omega arith }

    unfailed : mid.faults ≡ before.faults
    unfailed = book.since.unfailed is.over.sound.in_step

    -- memory ran out
    pub memory_ends : IsFalse (list_all is_tautology formula.clauses) → (moves : List Move)
        → EndsNumbered first tells before mid formula order moves limits (Err OutOfMemory)
    memory_ends open_clause moves = record {
      says = tt;
      certain = λ width price has paid ample. tt;
      shows = λ t. tt;
      last = λ t. tt;
      whole = λ fine t. whole t;
      so_far = λ t. inl (whole t);
      variables = variables;
      price = λ width price has paid t. inl (numbered moves price t);
      flushed = λ ok t. absurd (let e : false ≡ true = ok in cc);
      fault = λ same. absurd (let e : OutOfMemory ≡ WriteFault = same_error same in cc);
      unfailed = λ fine. unfailed;
      tautologies = λ all. absurd (let e : true ≡ false = sym all ∙ open_clause in cc);
      name = book.since.name;
      faults = book.since.faults;
    }

    -- the plan was run
    pub plan_ends : IsFalse (list_all is_tautology formula.clauses) → (moves : List Move) (after : Channel) (result : Result Run RunError)
        → RunsPlan tells mid after runner moves result → EndsNumbered first tells before after formula order moves limits result
    plan_ends open_clause moves after result runs =
        let ends = runs.ends in
        record {
          says = ends.says;
          certain = ends.certain;
          shows = ends.shows;
          last = ends.last;
          whole = ends.whole;
          so_far = ends.so_far;
          variables = ends.variables;
          price = λ width price has paid t. so_far_wider formula.clauses (IsPaidFrom first formula limits moves width price)
              (IsNumbered first moves price) (λ s paid_there. paid_there.numbers) after.written (ends.price width price has paid t);
          flushed = ends.flushed;
          fault = λ same. subst (λ (n : ℕ). Rose n after.faults) unfailed (ends.fault same);
          unfailed = λ fine. ends.unfailed fine ∙ unfailed;
          tautologies = λ all. absurd (let e : true ≡ false = sym all ∙ open_clause in cc);
          name = ends.name ∙ book.since.name;
          faults = let one = ends.faults in let two = unfailed in omega (arith, one, two);
        }

    -- the limit of numbers was met, and told
    pub closed_ends : IsFalse (has_empty_clause formula.clauses) → IsFalse (list_all is_tautology formula.clauses) → runner.refuted ≡ false
        → runner.terms.table.book.limit < first + 4 → (moves : List Move) (after : Channel) (result : Result Run RunError)
        → IsClosed tells mid after runner result → EndsNumbered first tells before after formula order moves limits result
    closed_ends full open_clause unrefuted used moves after result closed = by_end closed.ends
      where
        written_after : IsTrue tells → IsWritten formula.clauses after.written state
        written_after t = subst (λ (b : List ℕ). IsWritten formula.clauses b state) (sym closed.written) (written t)

        whole_after : IsTrue tells → IsProof formula limits after.written
        whole_after t = record { state = state; written = written_after t; within = within }

        numbered_after : (price : ℕ) → IsTrue tells → IsProofOfKind formula.clauses (IsNumbered first moves price) after.written
        numbered_after price t = record { state = state; written = written_after t; within = omega arith }

        variables_after : IsTrue tells → UsesVariables (formula.vars + limits.max_nodes) after.written
        variables_after t = subst (UsesVariables (formula.vars + limits.max_nodes)) (sym closed.written) (variables t)

        spent : limits.max_ids < first + 4
        spent = let limit = is.within.max_ids in omega (arith, used, limit)

        names : after.name ≡ before.name
        names = closed.name ∙ book.since.name

        none_open : IsTrue (list_all is_tautology formula.clauses) → after.written ≡ before.written
        none_open all = absurd (let e : true ≡ false = sym all ∙ open_clause in cc)

        told : (IsTrue tells → after.flushed ≡ length after.written) → after.faults ≡ mid.faults
            → EndsNumbered first tells before after formula order moves limits (Ok (record { outcome = IdLimit; last_id = first }))
        told flushed faults = record {
          says = tt;
          certain = λ width price has paid ample. let more = ample.1 in let less = spent in omega (arith, more, less);
          shows = λ t. record {
            some_open = open_clause;
            state = state;
            written = written_after t;
            used = spent;
            at_once = λ empty. absurd (let e : true ≡ false = sym empty ∙ full in cc);
            unrefuted = λ id above. is.unrefuted unrefuted id (let count = is.over.counted in omega (arith, above, count));
          };
          last = λ t. record { proof = whole_after t; top = refl };
          whole = λ fine t. whole_after t;
          so_far = λ t. inl (whole_after t);
          variables = variables_after;
          price = λ width price has paid t. inl (numbered_after price t);
          flushed = λ ok t. flushed t;
          fault = λ same. absurd (no_error same);
          unfailed = λ fine. faults ∙ unfailed;
          tautologies = none_open;
          name = names;
          faults = let one = unfailed in omega (arith, faults, one);
        }

        torn : Rose mid.faults after.faults → EndsNumbered first tells before after formula order moves limits (Err WriteFault)
        torn rose = record {
          says = tt;
          certain = λ width price has paid ample. tt;
          shows = λ t. tt;
          last = λ t. tt;
          whole = λ fine t. absurd (fine refl);
          so_far = λ t. inl (whole_after t);
          variables = variables_after;
          price = λ width price has paid t. inl (numbered_after price t);
          flushed = λ ok t. absurd (let e : false ≡ true = ok in cc);
          fault = λ same. subst (λ (n : ℕ). Rose n after.faults) unfailed rose;
          unfailed = λ fine. absurd (fine refl);
          tautologies = none_open;
          name = names;
          faults = let one = unfailed in let more = closed.faults in omega (arith, one, more);
        }

        by_end : ((result ≡ Ok (record { outcome = IdLimit; last_id = first }))
            × ((IsTrue tells → after.flushed ≡ length after.written) × (after.faults ≡ mid.faults)))
            ⊎ ((result ≡ Err WriteFault) × Rose mid.faults after.faults) → EndsNumbered first tells before after formula order moves limits
            result
        by_end (inl whole_end) = subst (λ (r : Result Run RunError). EndsNumbered first tells before after formula order moves limits r)
            (sym whole_end.0) (told whole_end.1.0 whole_end.1.1)
        by_end (inr fails) = subst (λ (r : Result Run RunError). EndsNumbered first tells before after formula order moves limits r)
            (sym fails.0) (torn fails.1)

  -- a write failed in the sums
  module _ (formula : Formula) (order : List ℕ) (limits : Limits) (sink : S) (old : Runner S)
      (opened : IsOpenedOver formula order limits sink old)
      (open_clause : IsFalse (list_all is_tautology formula.clauses)) (breaks : BreaksOff old.terms.table runner.terms.table)
      (moves : List Move) where
    vars_are : levels old.terms.table.graph ≡ formula.vars
    vars_are = opened.unused.vars ∙ ap (λ (f : Formula). f.vars) opened.of_formula

    steps_are : runner.terms.table.book.steps ≡ breaks.more
    steps_are = ap (λ b. b.steps) breaks.told.is ∙ ap (λ (l : List Step). l ++ breaks.more) opened.unused.book.steps

    clauses_are : runner.terms.table.book.formula ≡ formula.clauses
    clauses_are = ap (λ b. b.formula) breaks.told.is ∙ opened.unused.book.of_formula ∙ ap (λ (f : Formula). f.clauses) opened.of_formula

    start_is : old.terms.table.book.state ≡ start formula.clauses
    start_is = opened.unused.book.state ∙ ap (λ (f : Formula). start f.clauses) opened.of_formula

    max_nodes_are : old.terms.table.max_nodes ≡ limits.max_nodes
    max_nodes_are = ap (λ t. t.max_nodes) opened.unused.table ∙ ap (λ (l : Limits). l.max_nodes) opened.within

    limit_is : old.terms.table.book.limit ≡ limits.max_ids
    limit_is = opened.unused.book.limit ∙ ap (λ (l : Limits). l.max_ids) opened.within

    within_of : (s : State) → IsWithin (levels old.terms.table.graph) (number_limit old.terms.table) (live_nodes runner.terms.table.graph) s
        → KeepsWithin formula limits s
    within_of s one =
        let top : old.terms.table.book.state.top ≡ length formula.clauses = ap (λ (state : State). state.top) start_is in
        let numbers = one.numbers in
        let nodes = subst (λ (v : ℕ). in_use v s ≤ live_nodes runner.terms.table.graph) vars_are one.nodes in
        let less = breaks.few in
        let most = max_nodes_are in
        let limit = limit_is in
        record { numbers = omega (arith, numbers, top, limit); nodes = omega (arith, nodes, less, most) }

    cut_proof : IsTrue tells → IsCutProof formula.clauses mid.written breaks.cut.before state
    cut_proof t =
        subst (λ (s : State). IsCutProof formula.clauses mid.written s state)
        (ap (λ (s : State). after_steps s breaks.cut.earlier) (sym start_is) ∙ breaks.cut.leads)
        (subst (λ (cs : List (List ℤ)). IsCutProof cs mid.written (after_steps (start cs) breaks.cut.earlier) state) clauses_are
        (cut_law mid.written breaks.cut.earlier breaks.cut.last
        (subst (λ (b : Bool). IsTextOf b steps mid.written) breaks.out_of_step (bytes_are t)) (steps_are ∙ breaks.cut.parts)))

    cut_kind : (kind : State → Type 0) → kind breaks.cut.before → kind state → IsTrue tells
        → IsProofSoFarOfKind formula.clauses kind mid.written
    cut_kind kind earlier later t = inr (record {
      before = breaks.cut.before;
      after = state;
      cut = cut_proof t;
      within_before = earlier;
      within_after = later;
    })

    spelled : IsTrue tells → (mid.written ≡ text_of steps) ⊎ IsCutText steps mid.written
    spelled t = by_text (bytes_are t)
      where
        by_text : IsTextOf runner.terms.table.book.in_step steps mid.written → (mid.written ≡ text_of steps) ⊎ IsCutText steps mid.written
        by_text (inl whole) = inl whole
        by_text (inr cut) = inr cut.1

    few_steps : AreStepsUpTo (formula.vars + limits.max_nodes) steps
    few_steps =
        subst (AreStepsUpTo (formula.vars + limits.max_nodes)) (sym steps_are)
        (subst (λ (n : ℕ). AreStepsUpTo n breaks.more) ((λ i. vars_are i + max_nodes_are i)) breaks.variables)

    pub fault_ends : EndsNumbered first tells before mid formula order moves limits (Err WriteFault)
    fault_ends = record {
      says = tt;
      certain = λ width price has paid ample. tt;
      shows = λ t. tt;
      last = λ t. tt;
      whole = λ fine t. absurd (fine refl);
      so_far = λ t. cut_kind (KeepsWithin formula limits) (within_of breaks.cut.before breaks.cut.within_before)
          (within_of state breaks.cut.within_after) t;
      variables = λ t. record { steps = steps; spelled = spelled t; few = few_steps };
      price = λ width price has paid t. cut_kind (IsNumbered first moves price)
          (let less = breaks.cut.no_less in omega (arith, less)) (omega arith) t;
      flushed = λ ok t. absurd (let e : false ≡ true = ok in cc);
      fault = λ same. book.since.rose breaks.out_of_step;
      unfailed = λ fine. absurd (fine refl);
      tautologies = λ all. absurd (let e : true ≡ false = sym all ∙ open_clause in cc);
      name = book.since.name;
      faults = book.since.faults;
    }
