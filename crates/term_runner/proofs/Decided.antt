-- What is decided behind calls that gave terms: at once, or by the moves of a plan once what was left is given back.
use Rattle.std.proofs.Common.{◌≡◌, ◌≢◌, ◌∙◌, ◌⊎◌, ◌<◌, ◌≤◌, ◌==◌, ◌+◌, ◌-◌, ◌*◌, ◌++◌, ℕ, Bool, true, false, ℤ, List, [], ◌∷◌, length}
use Rattle.std.proofs.Common.{Option, None, Some, Result, Ok, Err, refl, sym, ap, subst, arith, inl, inr, eq-eqb}
use Rattle.std.specs.Prelude.{IfErr, IfOk, IsFalse, IsSome, IsTrue, MatchOption, if◌then◌else◌}
use Rattle.std.specs.List.{list_all}
use Rattle.std.proofs.Math.Nat.{one-le-mul}
use Rattle.std.proofs.lemmas.Bool.{cases_lt}
use Rattle.std.proofs.lemmas.List.{append_assoc}
use Rattle.cnf_base.specs.declared.step.Step.{Step}
use Rattle.cnf_base.specs.Truth.{AreClausesOf}
use Rattle.cnf_base.specs.Formula.{Formula}
use Rattle.lrat_rules.specs.State.{State, Live, clause_at, start, with_clause}
use Rattle.lrat_rules.specs.Marks.{in_use}
use Rattle.clause_ledger.specs.Book.{AreTold, addition, after_steps, with_next}
use Rattle.clause_ledger.specs.Told.{after_steps-append, told_further, told_state}
use Rattle.node_table.specs.declared.error.TableError.{TableError}
use Rattle.node_table.specs.declared.error.TableError.TheVariants.{NodeLimit, IdLimit, OutOfMemory, WriteFault}
use Rattle.node_table.specs.Diagram.{Graph, branch_at, levels}
use Rattle.node_table.specs.HandedOn.{no_error, same_error}
use Rattle.node_table.specs.Laws.{StepByStep}
use Rattle.node_table.specs.Progress.{Continues, Leaves, error_of}
use Rattle.node_table.specs.Table.{TableState, AddsAtMost, AddsNoEmpty, IsSame, defining_clauses, live_nodes}
use Rattle.operations.specs.Entries.{Entry}
use Rattle.schedule_plan.specs.declared.plan.Move.{Move}
use Rattle.term_runner.specs.Clauses.{first_empty, has_empty_clause, is_tautology}
use Rattle.bdd_terms.specs.OverFormula.{IsOver, HasEmpty}
use Rattle.term_runner.specs.Nodes.{RunsShort}
use Rattle.term_runner.specs.Opened.{BreaksKind, Decides, LeavesKind}
use Rattle.term_runner.specs.Price.{IsLeanAtEnd, IsPaid, IsPaidSince}
use Rattle.bdd_terms.specs.Price.{IsMovePrice}
use Rattle.term_runner.specs.Recovered.{IsRecovered}
use Rattle.bdd_terms.specs.Tidy.{LeavesReached}
use Rattle.term_runner.specs.Width.{HasWidth, keeps_trail}
use Rattle.term_runner.proofs.FirstEmpty.{full_at}
use Rattle.bdd_terms.proofs.Listed.{key_at, listed, some_of}
use Rattle.term_runner.proofs.NoEmpty.{fewer_empty, fewer_left}
use Rattle.bdd_terms.proofs.NoEmpty.{further_empty, no_change, same_empty}
use Rattle.term_runner.proofs.AtStart.{Unused, empty_is_open, some_price}
use Rattle.bdd_terms.proofs.Opened.{StartClauses}
use Rattle.term_runner.proofs.Paid.{InUse, Lean, kind_behind, lean_here, none_added, paid_there}
use Rattle.std.specs.FinMap as finmap

-- without roots no node is left
pub none_left : (old new : Graph) → LeavesReached old new [] → live_nodes new ≡ 0
none_left old new left = elim (cases_lt 0 (live_nodes new)) [
  | inr few ↦ omega (arith, few)
  | inl some ↦
      let es = finmap.entries new.nodes in
      let count = finmap.len-entries new.nodes in
      let small : 0 < length es = omega (arith, some, count) in
      let found = some_of (branch_at new (key_at es 0)) (finmap.contains_key-keys new.nodes (key_at es 0) ∙ listed es 0 small) in
      let reached = left.reached (key_at es 0) found.0 found.1 in
      absurd (omega (arith, reached.is_root.1))
]

abbrev pub Fewer : Type 0
Fewer = (vars : ℕ) (few more : State) → ((id : ℕ) (clause : List ℤ) → clause_at few.live id ≡ Some clause
    → clause_at more.live id ≡ Some clause) → in_use vars few ≤ in_use vars more

-- where no number was given there is no node
pub no_node_yet : {S : Type 0} → Unused → Fewer → StartClauses → InUse → (formula : Formula) (table : TableState S) (entries : List Entry)
    → AreClausesOf formula.vars formula.clauses → IsOver formula table entries → table.book.state.top ≡ table.inputs
    → live_nodes table.graph ≡ 0
no_node_yet unused fewer there uses formula table entries literals over same =
    let state = table.book.state in
    let count : in_use formula.vars state ≡ live_nodes table.graph =
    subst (λ (v : ℕ). in_use v state ≡ live_nodes table.graph) over.vars (uses table.graph state over.sound.tied) in
    let none = unused formula.vars formula.clauses literals in
    let few = fewer formula.vars state (start formula.clauses) each in
    omega (arith, count, none, few)
  where
    at_number : (id : ℕ) (clause : List ℤ) (i : ℕ) → i + 1 ≡ id → i < length formula.clauses
        → clause_at table.book.state.live id ≡ Some clause → clause_at (start formula.clauses).live id ≡ Some clause
    at_number id clause i is small at = subst (λ (n : ℕ). clause_at (start formula.clauses).live n ≡ Some clause) is
        (there formula.clauses i small ∙ sym (over.inputs i small) ∙ (λ k. clause_at table.book.state.live (is k)) ∙ at)

    each : (id : ℕ) (clause : List ℤ) → clause_at table.book.state.live id ≡ Some clause
        → clause_at (start formula.clauses).live id ≡ Some clause
    each id clause is =
        let within = over.sound.tied.numbers id clause is in
        at_number id clause (id - 1) (omega (arith, within.0)) (omega (arith, within.0, within.1, same, over.counted)) is

-- what is left of a state behind one that goes on, of a weaker kind
module _ {S : Type 0} (old mid new : TableState S) (more : Continues old mid) (kind weaker : State → Type 0)
    (each : (state : State) → kind state → weaker state) where
  broken_further : BreaksKind kind mid.book new.book → BreaksKind weaker old.book new.book
  broken_further broken = record {
    more = more.more ++ broken.more;
    told = told_further false old.book mid.book new.book more.more broken.more more.told broken.told;
    earlier = more.more ++ broken.earlier;
    last = broken.last;
    parts = ap (λ (steps : List Step). more.more ++ steps) broken.parts ∙ sym (append_assoc more.more broken.earlier (broken.last ∷ []));
    before = broken.before;
    leads = after_steps-append old.book.state more.more broken.earlier
        ∙ ap (λ (s : State). after_steps s broken.earlier) (sym (told_state more.told)) ∙ broken.leads;
    within_before = each broken.before broken.within_before;
    within_after = each new.book.state broken.within_after;
  }

  pub kind_further : (error : Option TableError) → LeavesKind mid new kind error → LeavesKind old new weaker error
  kind_further None is = each new.book.state is
  kind_further (Some NodeLimit) is = each new.book.state is
  kind_further (Some IdLimit) is = each new.book.state is
  kind_further (Some OutOfMemory) is = each new.book.state is
  kind_further (Some WriteFault) is = broken_further is

abbrev pub LiveLaw : Type 0
LiveLaw = (live : Live) (id other : ℕ) (clause : List ℤ) → clause_at (with_clause live id clause) other
    ≡ (if other == id then Some clause else clause_at live other)

module _ {S : Type 0} (lean : Lean S) (uses : InUse) (formula : Formula) (moves : List Move) (size : ℕ) (old : TableState S)
    (entries : List Entry) (over : IsOver formula old entries) (continues : Continues old old)
    (none : old.book.state.top ≡ old.inputs → live_nodes old.graph ≡ 0) where
  abbrev Kind : ℕ → ℕ → State → Type 0
  Kind width price = IsPaidSince (levels old.graph) old.inputs old.book.state.top (length moves) size width price

  abbrev Answer : Type 0
  Answer = Result (Option (List Bool)) TableError

  -- few numbers were given, and no node was made
  paid_near : (new : TableState S) (width price : ℕ) → new.book.state.top ≤ old.book.state.top + length moves * price
      → new.book.state.top ≤ old.book.state.top + price → live_nodes new.graph ≡ live_nodes old.graph
      → (error : Option TableError) → Leaves old new error → LeavesKind old new (Kind width price) error
  paid_near new width price all near nodes error leaves =
      kind_behind uses old old new continues (Kind width price)
      (λ state since within used. record {
        numbers = omega (arith, within, all);
        from_start = λ same.
            let few = none same in
            paid_there lean uses old old new continues old.book.state.top size 0 (length moves) width price
            (none_added old over.sound (sym same)) (omega arith) all near (omega (arith, nodes, few)) state since within used;
      }) error leaves

  -- The empty clause was added before.
  pub decides_refuted : HasEmpty old → Decides formula moves size old old (Ok None)
  decides_refuted has = record {
    found = has;
    leaves = continues;
    tautologies = λ all. refl;
    open_clause = λ is. elim is [ inl e ↦ absurd (no_error e) | inr e ↦ absurd (no_error e) ];
    none_empty = λ e. absurd (no_error e);
    at_limit = λ e empty. absurd (no_error e);
    one_line = λ e empty same. absurd (omega (arith, has.above, (over.sound.tied.numbers has.id [] has.empty).1, same));
    paid = λ width price width_is is. paid_near old width price (omega arith) (omega arith) refl None continues;
    lean = λ some due. absurd (let e : false ≡ true = some in cc);
    short = λ e. absurd (no_error e);
    no_empty = tt;
  }

  no_other : (cause : TableError) → OutOfMemory ≢ cause → ◌≡◌ {A = Answer} (Err OutOfMemory) (Err cause) → ⊥
  no_other cause differs e = differs (same_error e)

  -- memory ran out before anything was done
  pub decides_nothing : Decides formula moves size old old (Err OutOfMemory)
  decides_nothing = record {
    found = tt;
    leaves = continues;
    tautologies = λ all. refl;
    open_clause = λ is. elim is [ inl e ↦ absurd (no_other NodeLimit (λ x. cc) e) | inr e ↦ absurd (no_other IdLimit (λ x. cc) e) ];
    none_empty = λ e. absurd (no_other NodeLimit (λ x. cc) e);
    at_limit = λ e empty. absurd (no_other IdLimit (λ x. cc) e);
    one_line = λ e. absurd (no_error (sym e));
    paid = λ width price width_is is. paid_near old width price (omega arith) (omega arith) refl (Some OutOfMemory) continues;
    lean = tt;
    short = λ e. absurd (no_other NodeLimit (λ x. cc) e);
    no_empty = λ whole. no_change old;
  }

  some_is : (model : List Bool) → ◌≡◌ {A = Answer} (Ok (Some model)) (Ok None) → ⊥
  some_is model e = cc

  -- All clauses are tautologies.
  pub decides_model : IsTrue (list_all is_tautology formula.clauses) → (model : List Bool) → IsRecovered formula old.graph.order moves model
      → Decides formula moves size old old (Ok (Some model))
  decides_model all model recovered = record {
    found = recovered;
    leaves = continues;
    tautologies = λ again. refl;
    open_clause = λ is. elim is [ inl e ↦ absurd (no_error e) | inr e ↦ absurd (no_error e) ];
    none_empty = λ e. absurd (no_error e);
    at_limit = λ e empty. absurd (no_error e);
    one_line = λ e. absurd (some_is model e);
    paid = λ width price width_is is. paid_near old width price (omega arith) (omega arith) refl None continues;
    lean = λ some due. elim due [
      | inl same ↦ let own = lean_here lean old over.sound 0 (none_added old over.sound (sym same)) in omega (arith, own)
      | inr open_clause ↦ absurd (let e : true ≡ false = sym all ∙ open_clause in cc)
    ];
    short = λ e. absurd (no_error e);
    no_empty = tt;
  }

  -- What was left couldn't be given back.
  pub decides_kept : (new : TableState S) → new.graph ≡ old.graph → new.book.state.top ≡ old.book.state.top → (came : TableError)
      → (came ≡ OutOfMemory) ⊎ (came ≡ WriteFault) → Leaves old new (Some came) → IsFalse (list_all is_tautology formula.clauses)
      → Decides formula moves size old new (Err came)
  decides_kept new graph top came is leaves open_yet = record {
    found = tt;
    leaves = leaves;
    tautologies = λ all. absurd (let e : true ≡ false = sym all ∙ open_yet in cc);
    open_clause = λ limit. open_yet;
    none_empty = λ e. absurd (no_limit NodeLimit (λ x. cc) (λ x. cc) (same_error e));
    at_limit = λ e empty. absurd (no_limit IdLimit (λ x. cc) (λ x. cc) (same_error e));
    one_line = λ e. absurd (no_error (sym e));
    paid = λ width price width_is price_is. paid_near new width price (omega (arith, top)) (omega (arith, top)) (ap live_nodes graph)
        (Some came) leaves;
    lean = tt;
    short = λ e. absurd (no_limit NodeLimit (λ x. cc) (λ x. cc) (same_error e));
    no_empty = λ whole. fewer_left {T = Bool} old new (Err came) leaves (λ e. whole (same_error e)) top;
  }
    where
      no_limit : (cause : TableError) → OutOfMemory ≢ cause → WriteFault ≢ cause → came ≡ cause → ⊥
      no_limit cause one other same = elim is [
        | inl memory ↦ one (sym memory ∙ same)
        | inr torn ↦ other (sym torn ∙ same)
      ]

  -- A clause is empty: the line that refutes the formula.
  module _ (new : TableState S) (number : ℕ) (graph : new.graph ≡ old.graph) (adds : AddsAtMost 1 old new)
      (has : IsTrue (has_empty_clause formula.clauses)) (some : 0 < length moves) where
    paid_line : (width price : ℕ) → IsMovePrice (levels old.graph) size width price → (error : Option TableError) → Leaves old new error
        → LeavesKind old new (Kind width price) error
    paid_line width price is error leaves =
        let near : new.book.state.top ≤ old.book.state.top + 1 = omega (arith, adds, ap defining_clauses graph) in
        let one = some_price (levels old.graph) size width price is in
        let all = one-le-mul some one in
        paid_near new width price (omega (arith, near, all)) (omega (arith, near, one)) (ap live_nodes graph) error leaves

    closed : list_all is_tautology formula.clauses ≡ false
    closed = empty_is_open formula.clauses has

    pub decides_line : LiveLaw → Continues old new → new.book.state ≡ with_next old.book.state []
        → AreTold true old.book new.book (addition old.book.state [] (number ∷ []) ∷ []) → number ≡ first_empty formula.clauses
        → Decides formula moves size old new (Ok None)
    decides_line law more state told first = record {
      found = record {
        id = old.book.state.top + 1;
        above = omega (arith, more.inputs, over.sound.inputs);
        empty = ap (λ (s : State). clause_at s.live (old.book.state.top + 1)) state
            ∙ law old.book.state.live (old.book.state.top + 1) (old.book.state.top + 1) []
            ∙ ap (λ (b : Bool). if b then Some [] else clause_at old.book.state.live (old.book.state.top + 1))
            (eq-eqb (old.book.state.top + 1) (old.book.state.top + 1) refl);
      };
      leaves = more;
      tautologies = λ all. absurd (let e : true ≡ false = sym all ∙ closed in cc);
      open_clause = λ limit. closed;
      none_empty = λ e. absurd (no_error e);
      at_limit = λ e empty. absurd (no_error e);
      one_line = λ e empty same. subst (λ (n : ℕ). AreTold true old.book new.book (addition old.book.state [] (n ∷ []) ∷ [])) first told;
      paid = λ width price width_is is. paid_line width price is None more;
      lean = λ some_model due. absurd (let e : false ≡ true = some_model in cc);
      short = λ e. absurd (no_error e);
      no_empty = tt;
    }

    pub decides_no_line : (came : TableError) → Leaves old new (Some came) → came ≢ NodeLimit
        → (came ≡ IdLimit → old.book.limit ≤ old.book.state.top) → (came ≢ WriteFault → IsSame old new)
        → Decides formula moves size old new (Err came)
    decides_no_line came leaves no_nodes limit same = record {
      found = tt;
      leaves = leaves;
      tautologies = λ all. absurd (let e : true ≡ false = sym all ∙ closed in cc);
      open_clause = λ which. closed;
      none_empty = λ e. absurd (no_nodes (same_error e));
      at_limit = λ e empty.
          let is = same_error e in
          let few = limit is in
          let kept : new.book.limit ≡ old.book.limit = ap (λ (t : TableState S). t.book.limit) (same (λ torn. differ (sym is ∙ torn))) in
          omega (arith, few, kept);
      one_line = λ e. absurd (no_error (sym e));
      paid = λ width price width_is is. paid_line width price is (Some came) leaves;
      lean = tt;
      short = λ e. absurd (no_nodes (same_error e));
      no_empty = λ whole. same_empty old new (same whole);
    }
      where
        differ : ◌≡◌ {A = TableError} IdLimit WriteFault → ⊥
        differ e = cc

  -- The moves of the plan, once what was left is given back.
  module _ (steps : StepByStep S) (mid new : TableState S) (more : Continues old mid) (top : mid.book.state.top ≡ old.book.state.top)
      (open_yet : IsFalse (list_all is_tautology formula.clauses)) (full : IsFalse (has_empty_clause formula.clauses)) where
    abbrev Due : Type 0
    Due = (old.book.state.top ≡ old.inputs) ⊎ IsFalse (list_all is_tautology formula.clauses)

    -- an empty clause isn't one of the formula's
    above_formula : Continues old new → (id : ℕ) → clause_at new.book.state.live id ≡ Some [] → old.inputs < id
    above_formula all id at = elim (all.since id [] at) [
      | inr came ↦ omega (arith, came.0, over.sound.inputs)
      | inl was ↦ elim (cases_lt old.inputs id) [
        | inl above ↦ above
        | inr below ↦ absurd (here (id - 1) (omega (arith, (over.sound.tied.numbers id [] was).0))
            (omega (arith, (over.sound.tied.numbers id [] was).0, below, over.counted)) was)
      ]
    ]
      where
        inside : (x y : List ℤ) → Some x ≡ Some y → x ≡ y
        inside x y e = cc

        here : (i : ℕ) → i + 1 ≡ id → i < length formula.clauses → clause_at old.book.state.live id ≡ Some [] → ⊥
        here i is small empty = full_at formula.clauses i full small
            (inside _ [] (sym (over.inputs i small) ∙ (λ k. clause_at old.book.state.live (is k)) ∙ empty))

    found_of : (result : Answer) → Leaves mid new (error_of result)
        → IfOk result (λ found. MatchOption found ((id : ℕ) × (clause_at new.book.state.live id ≡ Some []))
        (λ model. IsRecovered formula mid.graph.order moves model))
        → IfOk result (λ found. MatchOption found (HasEmpty new) (λ model. IsRecovered formula old.graph.order moves model))
    found_of (Ok None) leaves is =
        let all = steps.go_on old mid new more leaves in
        let above = above_formula all is.0 is.1 in
        record { id = is.0; above = omega (arith, above, all.inputs); empty = is.1 }
    found_of (Ok (Some model)) leaves is = subst (λ (order : List ℕ). IsRecovered formula order moves model) more.order is
    found_of (Err e) leaves is = tt

    lean_of : (result : Answer) → IfOk result (λ found. IsSome found → IsLeanAtEnd (levels mid.graph) mid.inputs size new.book.state)
        → IfOk result (λ found. IsSome found → Due → IsLeanAtEnd (levels old.graph) old.inputs size new.book.state)
    lean_of (Ok found) is = λ some due. subst (λ (vars : ℕ). IsLeanAtEnd vars old.inputs size new.book.state) (ap length more.order)
        (subst (λ (inputs : ℕ). IsLeanAtEnd (levels mid.graph) inputs size new.book.state) more.inputs (is some))
    lean_of (Err e) is = tt

    none_came : (result : Answer) → IfErr result (λ e. e ≢ WriteFault → AddsNoEmpty mid new)
        → IfErr result (λ e. e ≢ WriteFault → AddsNoEmpty old new)
    none_came (Ok found) is = tt
    none_came (Err e) is = λ whole. further_empty old mid new (fewer_empty old mid more top) (is whole)

    paid_as : (width price : ℕ) (state : State)
        → IsPaid (levels mid.graph) mid.inputs mid.book.state.top (length moves) size width price state → Kind width price state
    paid_as width price state is = record {
      numbers = omega (arith, is.within.numbers, top);
      from_start = λ same. subst (λ (first : ℕ). IsPaid (levels old.graph) old.inputs first (length moves) size width price state) top
          (subst (λ (inputs : ℕ). IsPaid (levels old.graph) inputs mid.book.state.top (length moves) size width price state) more.inputs
          (subst (λ (vars : ℕ). IsPaid vars mid.inputs mid.book.state.top (length moves) size width price state) (ap length more.order) is));
    }

    pub decides_moves : (result : Answer)
        → IfOk result (λ found. MatchOption found ((id : ℕ) × (clause_at new.book.state.live id ≡ Some []))
        (λ model. IsRecovered formula mid.graph.order moves model))
        → Leaves mid new (error_of result)
        → ((width price : ℕ) → HasWidth formula mid.graph.order moves width → IsMovePrice (levels mid.graph) size width price
        → LeavesKind mid new (IsPaid (levels mid.graph) mid.inputs mid.book.state.top (length moves) size width price) (error_of result))
        → IfOk result (λ found. IsSome found → IsLeanAtEnd (levels mid.graph) mid.inputs size new.book.state)
        → (result ≡ Err NodeLimit → RunsShort (keeps_trail mid.max_nodes) formula mid.graph.order moves new.graph)
        → IfErr result (λ e. e ≢ WriteFault → AddsNoEmpty mid new) → Decides formula moves size old new result
    decides_moves result found leaves paid lean_at_end short no_empty = record {
      found = found_of result leaves found;
      leaves = steps.leave old mid new (error_of result) more leaves;
      tautologies = λ all. absurd (let e : true ≡ false = sym all ∙ open_yet in cc);
      open_clause = λ limit. open_yet;
      none_empty = λ e. full;
      at_limit = λ e empty. absurd (let wrong : true ≡ false = sym empty ∙ full in cc);
      one_line = λ e empty. absurd (let wrong : true ≡ false = sym empty ∙ full in cc);
      paid = λ width price has is.
          kind_further old mid new more (IsPaid (levels mid.graph) mid.inputs mid.book.state.top (length moves) size width price)
          (Kind width price) (paid_as width price) (error_of result)
          (paid width price (subst (λ (order : List ℕ). HasWidth formula order moves width) (sym more.order) has)
          (subst (λ (vars : ℕ). IsMovePrice vars size width price) (sym (ap length more.order)) is));
      lean = lean_of result lean_at_end;
      short = λ e. subst (λ (most : ℕ). RunsShort (keeps_trail most) formula old.graph.order moves new.graph) more.max_nodes
          (subst (λ (order : List ℕ). RunsShort (keeps_trail mid.max_nodes) formula order moves new.graph) more.order (short e));
      no_empty = none_came result no_empty;
    }
