-- How a session ends: its steps are a conservative proof, whose lines the sink has, and its answers are true.
use Rattle.std.proofs.Common.{◌≡◌, ◌≢◌, ◌⊎◌, ◌∙◌, ◌<◌, ◌≤◌, ◌+◌, ◌*◌, ◌++◌, ℕ, Bool, true, false, ℤ, List, [], ◌∷◌, length, Option, None}
use Rattle.std.proofs.Common.{Some, Result, Ok, Err, refl, sym, ap, subst, arith, inl, inr}
use Rattle.std.specs.Prelude.{IsTrue, IfOk, IsOk, max}
use Rattle.node_table.specs.Value.{Levels}
use Rattle.cnf_base.specs.declared.step.Step.{Step}
use Rattle.cnf_base.specs.Formula.{Formula}
use Rattle.cnf_base.specs.Truth.{AreClausesOf}
use Rattle.host_io.specs.Channel.{Channel, Rose}
use Rattle.lrat_rules.specs.Conservative.{are_conservative}
use Rattle.lrat_rules.specs.Derivation.{IsCutProof, IsDerivation, IsWritten, text_of}
use Rattle.lrat_rules.specs.Marks.{IsWithin, in_use}
use Rattle.lrat_rules.specs.State.{State, start}
use Rattle.clause_ledger.specs.Book.{Book, IsBook, IsTextOf, after_steps}
use Rattle.node_table.specs.declared.error.TableError.{TableError}
use Rattle.node_table.specs.declared.error.TableError.TheVariants as table
use Rattle.node_table.specs.Diagram.{Graph, levels}
use Rattle.node_table.specs.HandedOn.{no_error, same_error}
use Rattle.node_table.specs.Progress.{BreaksOff, error_of, number_limit}
use Rattle.node_table.specs.Table.{TableState, UnlessTorn, live_nodes}
use Rattle.node_table.specs.Tied.{IsTied}
use Rattle.schedule_plan.specs.declared.limits.Limits.{Limits}
use Rattle.schedule_plan.specs.declared.plan.Move.{Move}
use Rattle.bdd_terms.specs.declared.error.RunError.{RunError}
use Rattle.bdd_terms.specs.declared.error.RunError.TheVariants.{OutOfMemory, WriteFault}
use Rattle.bdd_terms.specs.declared.runner.Runner.{Runner}
use Rattle.bdd_terms.specs.Price.{IsMovePrice}
use Rattle.term_runner.specs.Proofs.{IsProof, IsProofSoFar, IsProofSoFarOfKind, KeepsWithin}
use Rattle.bdd_terms.specs.Runner.{IsRunner}
use Rattle.bdd_terms.specs.Unused.{IsOpenedOver}
use Rattle.bdd_terms.specs.Parts.{AreMore}
use Rattle.term_runner.specs.Width.{HasWidth, IsPartInHand, IsWider}
use Rattle.cube_queries.specs.declared.answer.Answer.{Answer}
use Rattle.cube_queries.specs.declared.answer.Outcome.{Outcome}
use Rattle.cube_queries.specs.Answers.{AreAnswers}
use Rattle.cube_queries.specs.Ends.{Ends, IsAnswered, IsFlushed, Says, Shows, outcome_of}
use Rattle.cube_queries.specs.Steps.{CostsAll, Goes, IsSpent, RepliesAll}
use Rattle.cube_queries.specs.Width.{AreAmple, IsPaid, plan_of}
use Rattle.cube_queries.proofs.Replied.{answers_true}
use Rattle.cube_queries.proofs.Stays.{ids_whole, memory_whole, nodes_whole}

-- More parts than a number are more than a smaller one, and so is the width.
fewer : (kind : (Levels → Bool) → Type 0) (few number : ℕ) → few ≤ number → AreMore kind number → AreMore kind few
fewer kind few number less more = record {
  parts = more.parts;
  more = let many = more.more in omega (arith, many, less);
  are = more.are;
  essential = more.essential;
  differ = more.differ;
}

wider_than : (formula : Formula) (order : List ℕ) (moves : List Move) (few number : ℕ) → few ≤ number → IsWider formula order moves number
    → IsWider formula order moves few
wider_than formula order moves few number less wider = record {
  count = wider.count;
  before = wider.before;
  after = wider.after;
  move = wider.move;
  more = fewer (IsPartInHand false formula order wider.before wider.after) few number less wider.more;
}

-- the plan that conjoins the clauses is wider
abbrev pub IsWide : Formula → List ℕ → ℕ → Type 0
IsWide formula order number = IsWider formula order (plan_of formula) number

-- A write failed in the last step: the state before it has no greater number, and both keep within the limits.
pub record BrokeIn {S : Type 0} (formula : Formula) (limits : Limits) (runner : Runner S) : Type 0 where
  pub earlier : List Step
  pub last : Step
  pub parts : runner.terms.table.book.steps ≡ earlier ++ last ∷ []
  pub no_less : (after_steps (start runner.terms.table.book.formula) earlier).top ≤ runner.terms.table.book.state.top
  pub within_before : KeepsWithin formula limits (after_steps (start runner.terms.table.book.formula) earlier)
  pub within_after : KeepsWithin formula limits runner.terms.table.book.state

-- what is known of a runner behind all cubes
pub record IsSession {S : Type 0} (formula : Formula) (order : List ℕ) (limits : Limits) (cubes : List (List ℤ)) (runner : Runner S)
    (found : Result (List Answer) TableError) : Type 0 where
  pub of_formula : runner.formula.now ≡ formula
  pub of_order : runner.terms.table.graph.order ≡ order
  pub within : runner.limits ≡ limits
  pub goes_on : UnlessTorn found (IsRunner runner)
  pub answers : IfOk found (AreAnswers formula order runner.terms.table.book.steps runner.terms.table.book.state.live cubes)
  pub nodes : found ≡ Err table.NodeLimit → runner.terms.table.max_nodes ≤ live_nodes runner.terms.table.graph
  pub unrefuted : found ≡ Err table.NodeLimit → runner.refuted ≡ false
  pub ids : found ≡ Err table.IdLimit → runner.terms.table.book.limit < runner.terms.table.book.state.top + 4
  pub behind : found ≡ Err table.IdLimit → (runner.refuted ≡ false) ⊎ IsSpent runner
  pub torn : found ≡ Err table.WriteFault → runner.terms.table.book.in_step ≡ false
  pub clauses : runner.terms.table.book.formula ≡ formula.clauses
  pub short : found ≡ Err table.NodeLimit → IsWide formula order limits.max_nodes
  pub paid : (width price : ℕ) → HasWidth formula order (plan_of formula) width → IsMovePrice formula.vars limits.cache width price
      → IsPaid formula cubes width price runner.terms.table.book.state
  pub broken : found ≡ Err table.WriteFault → BrokeIn formula limits runner

module _ {S : Type 0} (formula : Formula) (order : List ℕ) (limits : Limits) (cubes : List (List ℤ)) (sink : S) (old new : Runner S)
    (opened : IsOpenedOver formula order limits sink old) where
  over : {found : Option TableError} → Goes old new found → (new.formula.now ≡ formula) × ((new.terms.table.graph.order ≡ order)
      × (new.limits ≡ limits))
  over goes = (ap (λ f. f.now) goes.formula ∙ opened.of_formula, (goes.order ∙ opened.of_order, goes.limits ∙ opened.within))

  old_clauses : old.terms.table.book.formula ≡ formula.clauses
  old_clauses = opened.unused.book.of_formula ∙ ap (λ (f : Formula). f.clauses) opened.of_formula

  -- the width of the formula's plan
  same_width : (width : ℕ) → HasWidth formula order (plan_of formula) width
      → HasWidth old.formula.now old.terms.table.graph.order (plan_of old.formula.now) width
  same_width width most wider =
      most (subst (λ (f : Formula). IsWide f order width) opened.of_formula
      (subst (λ (o : List ℕ). IsWide old.formula.now o width) opened.of_order wider))

  costs_nothing_more : (error : Option TableError) → CostsAll cubes old new error → (width price : ℕ) → HasWidth formula order (plan_of formula) width
      → IsMovePrice formula.vars limits.cache width price → IsPaid formula cubes width price new.terms.table.book.state
  costs_nothing_more error costs width price most is =
      let vars : levels old.terms.table.graph ≡ formula.vars = opened.unused.vars ∙ ap (λ (f : Formula). f.vars) opened.of_formula in
      let one = costs.paid width price (same_width width most)
      (subst (λ (n : ℕ). IsMovePrice n old.limits.cache width price) (sym vars)
      (subst (λ (l : Limits). IsMovePrice formula.vars l.cache width price) (sym opened.within) is)) in
      let first : old.terms.table.book.state.top ≡ length formula.clauses =
      ap (λ (s : State). s.top) opened.unused.book.state ∙ ap (λ (f : Formula). length f.clauses) opened.of_formula in
      let moves : length (plan_of old.formula.now) * price ≡ length (plan_of formula) * price =
      ap (λ (f : Formula). length (plan_of f) * price) opened.of_formula in
      omega (arith, one, first, moves)

  costs_short : (error : Option TableError) → CostsAll cubes old new error → error ≡ Some table.NodeLimit
      → IsWide formula order limits.max_nodes
  costs_short error costs is =
      subst (λ (l : Limits). IsWide formula order l.max_nodes) opened.within
      (subst (λ (f : Formula). IsWide f order old.limits.max_nodes) opened.of_formula
      (subst (λ (o : List ℕ). IsWide old.formula.now o old.limits.max_nodes) opened.of_order (costs.short is)))

  -- the limits of the table that was opened
  vars_are : levels old.terms.table.graph ≡ formula.vars
  vars_are = opened.unused.vars ∙ ap (λ (f : Formula). f.vars) opened.of_formula

  top_is : old.terms.table.book.state.top ≡ length formula.clauses
  top_is = ap (λ (s : State). s.top) opened.unused.book.state ∙ ap (λ (f : Formula). length f.clauses) opened.of_formula

  ids_are : old.terms.table.book.limit ≡ limits.max_ids
  ids_are = opened.unused.book.limit ∙ ap (λ (l : Limits). l.max_ids) opened.within

  nodes_are : old.terms.table.max_nodes ≡ limits.max_nodes
  nodes_are = ap (λ (t : TableState S). t.max_nodes) opened.unused.table ∙ ap (λ (l : Limits). l.max_nodes) opened.within

  within_limits : (nodes : ℕ) → nodes ≤ old.terms.table.max_nodes → (state : State)
      → IsWithin (levels old.terms.table.graph) (number_limit old.terms.table) nodes state → KeepsWithin formula limits state
  within_limits nodes few state is = record {
    numbers = omega (arith, is.numbers, top_is, ids_are);
    nodes = subst (λ (v : ℕ). in_use v state ≤ limits.max_nodes) vars_are (omega (arith, is.nodes, few, nodes_are));
  }

  broke_in : new.terms.table.book.formula ≡ formula.clauses → BreaksOff old.terms.table new.terms.table → BrokeIn formula limits new
  broke_in clauses breaks =
      let steps_are : new.terms.table.book.steps ≡ breaks.more =
      ap (λ (b : Book S). b.steps) breaks.told.is ∙ ap (λ (l : List Step). l ++ breaks.more) opened.unused.book.steps in
      let begun : start new.terms.table.book.formula ≡ old.terms.table.book.state =
      ap start clauses ∙ sym (opened.unused.book.state ∙ ap (λ (f : Formula). start f.clauses) opened.of_formula) in
      let leads : after_steps (start new.terms.table.book.formula) breaks.cut.earlier ≡ breaks.cut.before =
      ap (λ (s : State). after_steps s breaks.cut.earlier) begun ∙ breaks.cut.leads in
      let same : (after_steps (start new.terms.table.book.formula) breaks.cut.earlier).top ≡ breaks.cut.before.top =
      ap (λ (s : State). s.top) leads in
      record {
        earlier = breaks.cut.earlier;
        last = breaks.cut.last;
        parts = steps_are ∙ breaks.cut.parts;
        no_less = omega (arith, same, breaks.cut.no_less);
        within_before = subst (KeepsWithin formula limits) (sym leads)
            (within_limits (live_nodes new.terms.table.graph) breaks.few breaks.cut.before breaks.cut.within_before);
        within_after = within_limits (live_nodes new.terms.table.graph) breaks.few new.terms.table.book.state breaks.cut.within_after;
      }

  runner_clauses : IsRunner new → new.formula.now ≡ formula → new.terms.table.book.formula ≡ formula.clauses
  runner_clauses runner is = runner.within.of_formula ∙ ap (λ (f : Formula). f.clauses) is

  pub session_of : (found : Result (List Answer) TableError) → RepliesAll cubes old new found → CostsAll cubes old new (error_of found)
      → IsSession formula order limits cubes new found
  session_of (Ok answers) replies costs =
      let is = over replies.goes in
      let runner = replies.goes_on no_error in
      record {
        of_formula = is.0;
        of_order = is.1.0;
        within = is.1.1;
        goes_on = replies.goes_on;
        answers = subst (λ (f : Formula). AreAnswers f order new.terms.table.book.steps new.terms.table.book.state.live cubes answers) is.0
            (subst (λ (o : List ℕ). AreAnswers new.formula.now o new.terms.table.book.steps new.terms.table.book.state.live cubes answers)
            is.1.0 replies.answers);
        nodes = λ same. absurd (no_error same);
        unrefuted = λ same. absurd (no_error same);
        ids = λ same. absurd (no_error same);
        behind = λ same. absurd (no_error same);
        torn = λ same. absurd (no_error same);
        clauses = runner_clauses runner is.0;
        short = λ same. absurd (no_error same);
        paid = costs_nothing_more None costs;
        broken = λ same. absurd (no_error same);
      }
  session_of (Err table.NodeLimit) replies costs =
      let is = over replies.goes in
      record {
        of_formula = is.0;
        of_order = is.1.0;
        within = is.1.1;
        goes_on = replies.goes_on;
        answers = tt;
        nodes = λ same. replies.goes.leaves.1;
        unrefuted = λ same. replies.unrefuted refl opened.unused.unrefuted;
        ids = λ same. absurd (let e : table.NodeLimit ≡ table.IdLimit = same_error same in cc);
        behind = λ same. absurd (let e : table.NodeLimit ≡ table.IdLimit = same_error same in cc);
        torn = λ same. absurd (nodes_whole same);
        clauses = runner_clauses (replies.goes_on nodes_whole) is.0;
        short = λ same. costs_short (Some table.NodeLimit) costs refl;
        paid = costs_nothing_more (Some table.NodeLimit) costs;
        broken = λ same. absurd (nodes_whole same);
      }
  session_of (Err table.IdLimit) replies costs =
      let is = over replies.goes in
      record {
        of_formula = is.0;
        of_order = is.1.0;
        within = is.1.1;
        goes_on = replies.goes_on;
        answers = tt;
        nodes = λ same. absurd (let e : table.IdLimit ≡ table.NodeLimit = same_error same in cc);
        unrefuted = λ same. absurd (let e : table.IdLimit ≡ table.NodeLimit = same_error same in cc);
        ids = λ same. replies.goes.leaves.1;
        behind = λ same. replies.behind refl opened.unused.unrefuted;
        torn = λ same. absurd (ids_whole same);
        clauses = runner_clauses (replies.goes_on ids_whole) is.0;
        short = λ same. absurd (let e : table.IdLimit ≡ table.NodeLimit = same_error same in cc);
        paid = costs_nothing_more (Some table.IdLimit) costs;
        broken = λ same. absurd (ids_whole same);
      }
  session_of (Err table.OutOfMemory) replies costs =
      let is = over replies.goes in
      record {
        of_formula = is.0;
        of_order = is.1.0;
        within = is.1.1;
        goes_on = replies.goes_on;
        answers = tt;
        nodes = λ same. absurd (let e : table.OutOfMemory ≡ table.NodeLimit = same_error same in cc);
        unrefuted = λ same. absurd (let e : table.OutOfMemory ≡ table.NodeLimit = same_error same in cc);
        ids = λ same. absurd (let e : table.OutOfMemory ≡ table.IdLimit = same_error same in cc);
        behind = λ same. absurd (let e : table.OutOfMemory ≡ table.IdLimit = same_error same in cc);
        torn = λ same. absurd (memory_whole same);
        clauses = runner_clauses (replies.goes_on memory_whole) is.0;
        short = λ same. absurd (let e : table.OutOfMemory ≡ table.NodeLimit = same_error same in cc);
        paid = costs_nothing_more (Some table.OutOfMemory) costs;
        broken = λ same. absurd (memory_whole same);
      }
  session_of (Err table.WriteFault) replies costs =
      let is = over replies.goes in
      let same_clauses : new.terms.table.book.formula ≡ formula.clauses = ap (λ (b : Book S). b.formula) replies.goes.leaves.told.is ∙ old_clauses in
      record {
        of_formula = is.0;
        of_order = is.1.0;
        within = is.1.1;
        goes_on = replies.goes_on;
        answers = tt;
        nodes = λ same. absurd (let e : table.WriteFault ≡ table.NodeLimit = same_error same in cc);
        unrefuted = λ same. absurd (let e : table.WriteFault ≡ table.NodeLimit = same_error same in cc);
        ids = λ same. absurd (let e : table.WriteFault ≡ table.IdLimit = same_error same in cc);
        behind = λ same. absurd (let e : table.WriteFault ≡ table.IdLimit = same_error same in cc);
        torn = λ same. replies.goes.leaves.out_of_step;
        clauses = same_clauses;
        short = λ same. absurd (let e : table.WriteFault ≡ table.NodeLimit = same_error same in cc);
        paid = costs_nothing_more (Some table.WriteFault) costs;
        broken = λ same. broke_in same_clauses replies.goes.leaves;
      }

module _ {S B : Type 0} (tells : Bool) (channel : S → Channel) (beside : S → B) (formula : Formula) (order : List ℕ) (limits : Limits)
    (cubes : List (List ℤ)) (runner : Runner S) (after : Channel)
    (used_law : (graph : Graph) (state : State) → IsTied graph state → in_use (levels graph) state ≡ live_nodes graph)
    (few : live_nodes runner.terms.table.graph ≤ runner.terms.table.max_nodes)
    (fresh : IsTrue tells → (channel runner.terms.table.book.origin).written ≡ [])
    (book : IsBook tells channel beside runner.terms.table.book)
    (written_law : (bytes : List ℕ) → IsTextOf true runner.terms.table.book.steps bytes
    → IsWritten runner.terms.table.book.formula bytes runner.terms.table.book.state)
    (cut_law : (bytes : List ℕ) (earlier : List Step) (last : Step) → IsTextOf false runner.terms.table.book.steps bytes
    → runner.terms.table.book.steps ≡ earlier ++ last ∷ []
    → IsCutProof runner.terms.table.book.formula bytes (after_steps (start runner.terms.table.book.formula) earlier)
    runner.terms.table.book.state)
    (found : Result (List Answer) TableError) (session : IsSession formula order limits cubes runner found)
    (result : Result Outcome RunError)
    (flushed : IsFlushed tells (channel runner.terms.table.book.sink) after (outcome_of found) result) where
  abbrev before : Channel
  before = channel runner.terms.table.book.origin

  abbrev mid : Channel
  mid = channel runner.terms.table.book.sink

  abbrev steps : List Step
  steps = runner.terms.table.book.steps

  abbrev state : State
  state = runner.terms.table.book.state

  -- the bytes are those of the steps
  bytes_are : IsTrue tells → IsTextOf runner.terms.table.book.in_step steps after.written
  bytes_are t =
      let text = book.since.text t in
      let same : text.0 ≡ after.written = sym (flushed.written ∙ text.1 ∙ ap (λ (l : List ℕ). l ++ text.0) (fresh t)) in
      subst (λ (l : List ℕ). IsTextOf runner.terms.table.book.in_step steps l) same text.2

  on : UnlessTorn found (IsTrue runner.terms.table.book.in_step)
  on whole = (session.goes_on whole).over.sound.in_step

  whole_text : UnlessTorn found (IsTrue tells → after.written ≡ text_of steps)
  whole_text whole t = by_text (subst (λ (b : Bool). IsTextOf b steps after.written) (on whole) (bytes_are t)) where
    by_text : IsTextOf true steps after.written → after.written ≡ text_of steps
    by_text (inl is) = is
    by_text (inr cut) = absurd (let e : true ≡ false = cut.0 in cc)

  is_written : UnlessTorn found (IsTrue tells → IsWritten formula.clauses after.written state)
  is_written whole t =
      subst (λ (cs : List (List ℤ)). IsWritten cs after.written state) session.clauses
      (written_law after.written (inl (whole_text whole t)))

  -- the extension variables in use are as many as the nodes
  used_are : UnlessTorn found (in_use formula.vars state ≡ live_nodes runner.terms.table.graph)
  used_are whole =
      let goes_on = session.goes_on whole in
      let vars : levels runner.terms.table.graph ≡ formula.vars = goes_on.over.vars ∙ ap (λ (f : Formula). f.vars) session.of_formula in
      ap (λ (n : ℕ). in_use n state) (sym vars) ∙ used_law runner.terms.table.graph state goes_on.over.sound.tied

  max_nodes_are : UnlessTorn found (runner.terms.table.max_nodes ≡ limits.max_nodes)
  max_nodes_are whole = (session.goes_on whole).within.max_nodes ∙ ap (λ (l : Limits). l.max_nodes) session.within

  keeps : UnlessTorn found (KeepsWithin formula limits state)
  keeps whole = record {
    numbers = subst (λ (l : Limits). state.top ≤ max (length formula.clauses) l.max_ids) session.within
        (subst (λ (f : Formula). state.top ≤ max (length f.clauses) runner.limits.max_ids) session.of_formula
        (session.goes_on whole).within.numbers);
    nodes = omega (arith, used_are whole, few, max_nodes_are whole);
  }

  is_whole : UnlessTorn found (IsTrue tells → IsProof formula limits after.written)
  is_whole whole t = record { state = state; written = is_written whole t; within = keeps whole }

  -- a failed write leaves a front of the last line
  is_cut : (kind : State → Type 0) → kind state
      → ((broke : BrokeIn formula limits runner) → kind (after_steps (start runner.terms.table.book.formula) broke.earlier))
      → found ≡ Err table.WriteFault → IsTrue tells → IsProofSoFarOfKind formula.clauses kind after.written
  is_cut kind here before_it is t = by_text (subst (λ (b : Bool). IsTextOf b steps after.written) (session.torn is) (bytes_are t)) where
    by_text : IsTextOf false steps after.written → IsProofSoFarOfKind formula.clauses kind after.written
    by_text (inl same) = inl (record {
      state = state;
      written = subst (λ (cs : List (List ℤ)). IsWritten cs after.written state) session.clauses (written_law after.written (inl same));
      within = here;
    })
    by_text (inr cut) =
        let broke = session.broken is in
        let was = after_steps (start runner.terms.table.book.formula) broke.earlier in
        inr (record {
          before = was;
          after = state;
          cut = subst (λ (cs : List (List ℤ)). IsCutProof cs after.written was state) session.clauses
              (cut_law after.written broke.earlier broke.last (inr cut) broke.parts);
          within_before = before_it broke;
          within_after = here;
        })

  -- what was found holds, and the bytes show it
  says : (f : Result (List Answer) TableError) → found ≡ f → IfOk (outcome_of f) (Says formula order cubes limits)
  says (Ok answers) is =
      answers_true formula order steps state.live cubes answers
      (subst (λ (f : Result (List Answer) TableError). IfOk f (AreAnswers formula order steps state.live cubes)) is session.answers)
  says (Err table.NodeLimit) is = session.short is
  says (Err table.IdLimit) is = tt
  says (Err table.OutOfMemory) is = tt
  says (Err table.WriteFault) is = tt

  shows : (f : Result (List Answer) TableError) → found ≡ f → IsTrue tells → IfOk (outcome_of f) (Shows formula order cubes limits
      after.written)
  shows (Ok answers) is t =
      let whole : found ≢ Err table.WriteFault = λ e. no_error (sym is ∙ e) in
      let goes_on = session.goes_on whole in
      record {
        steps = steps;
        state = state;
        derived = subst (λ (cs : List (List ℤ)). IsDerivation cs steps state) session.clauses book.proof.derived;
        conserves = subst (λ (f : Formula). are_conservative f.vars (start f.clauses) steps ≡ true) session.of_formula
            goes_on.within.conserves;
        text = whole_text whole t;
        shown = subst (λ (f : Result (List Answer) TableError). IfOk f (AreAnswers formula order steps state.live cubes)) is session.answers;
      }
  shows (Err table.NodeLimit) is t =
      let whole : found ≢ Err table.WriteFault = λ e. nodes_whole (sym is ∙ e) in
      let goes_on = session.goes_on whole in
      let many = session.nodes is in
      let live : live_nodes runner.terms.table.graph ≡ limits.max_nodes = omega (arith, many, few, max_nodes_are whole) in
      let inputs : runner.terms.table.inputs ≡ length formula.clauses =
      goes_on.over.counted ∙ ap (λ (f : Formula). length f.clauses) session.of_formula in
      record {
        state = state;
        written = is_written whole t;
        used = used_are whole ∙ live;
        unrefuted = λ id above. goes_on.unrefuted (session.unrefuted is) id (omega (arith, above, inputs));
      }
  shows (Err table.IdLimit) is t =
      let whole : found ≢ Err table.WriteFault = λ e. ids_whole (sym is ∙ e) in
      let goes_on = session.goes_on whole in
      let many = session.ids is in
      let inputs : runner.terms.table.inputs ≡ length formula.clauses =
      goes_on.over.counted ∙ ap (λ (f : Formula). length f.clauses) session.of_formula in
      let max : runner.terms.table.book.limit ≡ limits.max_ids = goes_on.within.max_ids ∙ ap (λ (l : Limits). l.max_ids) session.within in
      record {
        state = state;
        written = is_written whole t;
        used = omega (arith, many, max);
        behind = elim (session.behind is) [
          | inl unrefuted ↦ inl (λ id above. goes_on.unrefuted unrefuted id (omega (arith, above, inputs)))
          | inr spent ↦ inr (omega (arith, spent, max))
        ];
      }
  shows (Err table.OutOfMemory) is t = tt
  shows (Err table.WriteFault) is t = tt

  -- a failure as it was found
  torn_found : (f : Result (List Answer) TableError) → outcome_of f ≡ Err WriteFault → f ≡ Err table.WriteFault
  torn_found (Ok answers) is = absurd (no_error is)
  torn_found (Err table.NodeLimit) is = absurd (no_error is)
  torn_found (Err table.IdLimit) is = absurd (no_error is)
  torn_found (Err table.OutOfMemory) is = absurd (let e : OutOfMemory ≡ WriteFault = same_error is in cc)
  torn_found (Err table.WriteFault) is = refl

  found_torn : (f : Result (List Answer) TableError) → f ≡ Err table.WriteFault → outcome_of f ≡ Err WriteFault
  found_torn f is = ap outcome_of is

  whole_or_torn : (f : Result (List Answer) TableError) → (f ≡ Err table.WriteFault) ⊎ (f ≢ Err table.WriteFault)
  whole_or_torn (Ok answers) = inr no_error
  whole_or_torn (Err table.NodeLimit) = inr nodes_whole
  whole_or_torn (Err table.IdLimit) = inr ids_whole
  whole_or_torn (Err table.OutOfMemory) = inr memory_whole
  whole_or_torn (Err table.WriteFault) = inl refl

  so_far : IsTrue tells → IsProofSoFar formula limits after.written
  so_far t = elim (whole_or_torn found) [
    | inl torn ↦ is_cut (KeepsWithin formula limits) (session.broken torn).within_after (λ broke. broke.within_before) torn t
    | inr whole ↦ inl (is_whole whole t)
  ]

  -- the answers are certain where the limits are ample
  certain : (width price : ℕ) → HasWidth formula order (plan_of formula) width → IsMovePrice formula.vars limits.cache width price
      → AreAmple limits formula cubes width price → (f : Result (List Answer) TableError) → found ≡ f → IfOk (outcome_of f) IsAnswered
  certain width price most is ample (Ok answers) same = tt
  certain width price most is ample (Err table.NodeLimit) same =
      most (wider_than formula order (plan_of formula) width limits.max_nodes ample.0 (session.short same))
  certain width price most is ample (Err table.IdLimit) same =
      let whole : found ≢ Err table.WriteFault = λ e. ids_whole (sym same ∙ e) in
      let limit : runner.terms.table.book.limit ≡ limits.max_ids =
      (session.goes_on whole).within.max_ids ∙ ap (λ (l : Limits). l.max_ids) session.within in
      omega (arith, session.ids same, limit, session.paid width price most is, ample.1)
  certain width price most is ample (Err table.OutOfMemory) same = tt
  certain width price most is ample (Err table.WriteFault) same = tt

  paid : (width price : ℕ) → HasWidth formula order (plan_of formula) width → IsMovePrice formula.vars limits.cache width price → IsTrue tells
      → IsProofSoFarOfKind formula.clauses (IsPaid formula cubes width price) after.written
  paid width price most is t =
      let here = session.paid width price most is in
      elim (whole_or_torn found) [
        | inl torn ↦ is_cut (IsPaid formula cubes width price) here (λ broke. omega (arith, here, broke.no_less)) torn t
        | inr whole ↦ inl (record { state = state; written = is_written whole t; within = here })
      ]

  if_result : (P : Outcome → Type 0) → IfOk (outcome_of found) P → IfOk result P
  if_result P holds = elim flushed.ends [
    | inl same ↦ subst (λ (r : Result Outcome RunError). IfOk r P) (sym same.0) holds
    | inr failed ↦ subst (λ (r : Result Outcome RunError). IfOk r P) (sym failed.0) tt
  ]

  ok_result : IsOk result → IsTrue tells → after.flushed ≡ length after.written
  ok_result is t = elim flushed.ends [
    | inl same ↦ same.1 (subst (λ (r : Result Outcome RunError). IsOk r) same.0 is) t
    | inr failed ↦ absurd (let e : false ≡ true = subst (λ (r : Result Outcome RunError). IsOk r) failed.0 is in cc)
  ]

  -- found whole where the result is no failed write
  whole_found : result ≢ Err WriteFault → found ≢ Err table.WriteFault
  whole_found whole torn = elim flushed.ends [
    | inl same ↦ whole (same.0 ∙ found_torn found torn)
    | inr failed ↦ whole failed.0
  ]

  rose : result ≡ Err WriteFault → Rose before.faults after.faults
  rose is = elim flushed.ends [
    | inl same ↦
        let torn = torn_found found (sym same.0 ∙ is) in
        subst (λ (n : ℕ). Rose before.faults n) (sym same.2) (book.since.rose (session.torn torn))
    | inr failed ↦ by_book (whole_or_torn found) failed.1
  ]
    where
      by_book : (found ≡ Err table.WriteFault) ⊎ (found ≢ Err table.WriteFault) → Rose mid.faults after.faults
          → Rose before.faults after.faults
      by_book (inl torn) more = let least = book.since.faults in omega (arith, least, more)
      by_book (inr whole) more = subst (λ (n : ℕ). Rose n after.faults) (book.since.unfailed (on whole)) more

  unfailed : result ≢ Err WriteFault → after.faults ≡ before.faults
  unfailed whole = elim flushed.ends [
    | inl same ↦ same.2 ∙ book.since.unfailed (on (whole_found whole))
    | inr failed ↦ absurd (whole failed.0)
  ]

  pub ends_of : Ends tells before after formula order cubes limits result
  ends_of = record {
    says = if_result (Says formula order cubes limits) (says found refl);
    certain = λ width price most is ample. if_result IsAnswered (certain width price most is ample found refl);
    shows = λ t. if_result (Shows formula order cubes limits after.written) (shows found refl t);
    whole = λ whole t. is_whole (whole_found whole) t;
    so_far = so_far;
    paid = paid;
    flushed = ok_result;
    fault = rose;
    unfailed = unfailed;
    name = flushed.name ∙ book.since.name;
  }

-- what the end of the proof asks for
pub in_step_yet : {S : Type 0} (cubes : List (List ℤ)) (old new : Runner S) (found : Result (List Answer) TableError)
    → RepliesAll cubes old new found → IsOk (outcome_of found) → IsTrue new.terms.table.book.in_step
in_step_yet cubes old new (Ok answers) replies is = (replies.goes_on no_error).over.sound.in_step
in_step_yet cubes old new (Err table.NodeLimit) replies is = (replies.goes_on nodes_whole).over.sound.in_step
in_step_yet cubes old new (Err table.IdLimit) replies is = (replies.goes_on ids_whole).over.sound.in_step
in_step_yet cubes old new (Err table.OutOfMemory) replies is = absurd (let e : false ≡ true = is in cc)
in_step_yet cubes old new (Err table.WriteFault) replies is = absurd (let e : false ≡ true = is in cc)

-- where nothing was done, for want of memory
pub nothing_ends : (tells : Bool) (channel : Channel) (formula : Formula) (order : List ℕ) (limits : Limits) (cubes : List (List ℤ))
    → ((clauses : List (List ℤ)) → IsDerivation clauses [] (start clauses))
    → ((vars : ℕ) (clauses : List (List ℤ)) → AreClausesOf vars clauses → in_use vars (start clauses) ≡ 0)
    → AreClausesOf formula.vars formula.clauses → (IsTrue tells → channel.written ≡ [])
    → Ends tells channel channel formula order cubes limits (Err OutOfMemory)
nothing_ends tells channel formula order limits cubes none unused literals fresh = record {
  says = tt;
  certain = λ width price most is ample. tt;
  shows = λ t. tt;
  whole = λ whole t. no_steps t;
  so_far = λ t. inl (no_steps t);
  paid = λ width price most is t. inl (record { state = start formula.clauses; written = record { steps = []; derived = none formula.clauses; text = fresh t }; within = omega arith });
  flushed = λ is t. absurd (let e : false ≡ true = is in cc);
  fault = λ is. absurd (let e : OutOfMemory ≡ WriteFault = same_error is in cc);
  unfailed = λ whole. refl;
  name = refl;
}
  where
    no_steps : IsTrue tells → IsProof formula limits channel.written
    no_steps t = record {
      state = start formula.clauses;
      written = record { steps = []; derived = none formula.clauses; text = fresh t };
      within = record { numbers = omega arith; nodes = omega (arith, unused formula.vars formula.clauses literals) };
    }
