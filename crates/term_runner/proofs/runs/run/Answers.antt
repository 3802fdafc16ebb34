-- A run of a plan, in a runner that may have been asked for terms.
use Rattle.std.proofs.Common.{◌≡◌, ◌∙◌, ℕ, ℤ, Bool, true, false, List, [], length, Option, None, Result, Ok, Err, refl, sym, ap, subst}
use Rattle.std.specs.Prelude.{IfOk, IsTrue}
use Rattle.cnf_base.specs.Formula.{Formula}
use Rattle.host_io.specs.Channel.{Channel}
use Rattle.clause_ledger.specs.Book.{Book, IsBook, IsProofOf}
use Rattle.lrat_rules.specs.State.{State}
use Rattle.node_table.specs.declared.error.TableError.{TableError}
use Rattle.node_table.specs.HandedOn.{no_error}
use Rattle.node_table.specs.Progress.{error_of}
use Rattle.node_table.specs.Table.{TableState}
use Rattle.bdd_terms.specs.declared.error.RunError.{RunError}
use Rattle.term_runner.specs.declared.outcome.Outcome.{Outcome}
use Rattle.term_runner.specs.declared.outcome.Outcome.TheVariants.{Unsat}
use Rattle.term_runner.specs.declared.outcome.Run.{Run}
use Rattle.bdd_terms.specs.Caches.{all_entries}
use Rattle.schedule_plan.specs.declared.limits.Limits.{Limits}
use Rattle.term_runner.specs.Ends.{Ends, EndsFrom, outcome_of}
use Rattle.term_runner.specs.Opened.{EndsWithinFrom, IsBehind, Leads}
use Rattle.bdd_terms.specs.Unused.{IsUnused}
use Rattle.term_runner.proofs.Ending.{behind_of, behind_since, ends_at_start}
use Rattle.term_runner.proofs.Leaving.{formula_left}
use Rattle.bdd_terms.proofs.Leaving.{origin_left, went_on}
use Rattle.term_runner.proofs.Opening.{decided_leads}
use Rattle.term_runner.proofs.Handed.{empty_first, none_out_first, over_first, own_first, table_first, unrefuted_first, within_first}
use Rattle.term_runner.proofs.runs.run.Given.{Over}
use Rattle.term_runner.proofs.runs.run.Goals as goal
use Rattle.term_runner.proofs.runs.run.Goals.{After-close}

pub decide-found-requires-clause-capacity : goal.decide-found-requires-clause-capacity
decide-found-requires-clause-capacity g c = c.hand_over-terms.ensures.within.allowed.cache

pub decide-found-requires-clause-size : goal.decide-found-requires-clause-size
decide-found-requires-clause-size g c =
    (within_first c.args.runner c.hand_over-terms.result c.hand_over-terms.ensures c.of-terms.result
    c.of-terms.ensures.table c.of-terms.ensures.caches c.of-terms.ensures.out).size

pub decide-found-requires-clause-over : goal.decide-found-requires-clause-over
decide-found-requires-clause-over g c =
    over_first c.args.runner c.hand_over-terms.result c.hand_over-terms.ensures c.of-terms.result
    c.of-terms.ensures.table c.of-terms.ensures.caches c.of-terms.ensures.out

pub decide-found-requires-clause-refuted : goal.decide-found-requires-clause-refuted
decide-found-requires-clause-refuted g c =
    empty_first c.args.runner c.hand_over-terms.result c.hand_over-terms.ensures c.of-terms.result
    c.of-terms.ensures.table c.of-terms.ensures.caches c.of-terms.ensures.out

pub decide-found-requires-clause-own : goal.decide-found-requires-clause-own
decide-found-requires-clause-own g c =
    own_first c.args.runner c.hand_over-terms.result c.hand_over-terms.ensures c.of-terms.result
    c.of-terms.ensures.table c.of-terms.ensures.caches c.of-terms.ensures.out

pub decide-found-requires-clause-none_out : goal.decide-found-requires-clause-none_out
decide-found-requires-clause-none_out g c =
    none_out_first c.args.runner c.hand_over-terms.result c.hand_over-terms.ensures c.of-terms.result
    c.of-terms.ensures.table c.of-terms.ensures.caches c.of-terms.ensures.out

pub decide-found-requires-clause-no_trail : goal.decide-found-requires-clause-no_trail
decide-found-requires-clause-no_trail g c = c.of-terms.ensures.trail

-- a refusal comes only where the empty clause wasn't added before
clean_before : {Q : Type 0} (refuted : Bool) (found : Result (Option (List Bool)) TableError)
    → (refuted ≡ true → found ≡ Ok None) → (refuted ≡ false → Q) → (error : TableError) → found ≡ Err error → Q
clean_before true found at_once none error is = absurd (no_error (sym (at_once refl) ∙ is))
clean_before false found at_once none error is = none refl

-- how it ends, behind the numbers that were given before
module _ (g : Over) (c : After-close g) where
  abbrev result : Result Run RunError
  result = c.finish-result.result

  ended : EndsWithinFrom c.args.runner.terms.table.book.state.top g.S.Sink.tells (g.S.Sink.channel c.args.runner.terms.table.book.sink)
      (g.S.Sink.channel c.close.result) c.args.runner.formula.now c.args.runner.terms.table.graph.order c.args.plan.now c.args.runner.limits
      result
  ended =
      let handover = c.hand_over-terms.result in
      let stacked = c.of-terms.result in
      let formula = handover.formula.now in
      let limits = handover.limits in
      let moves = c.args.plan.now in
      let table = stacked.table in
      let over = over_first c.args.runner handover c.hand_over-terms.ensures stacked
      c.of-terms.ensures.table c.of-terms.ensures.caches c.of-terms.ensures.out in
      let within = within_first c.args.runner handover c.hand_over-terms.ensures stacked
      c.of-terms.ensures.table c.of-terms.ensures.caches c.of-terms.ensures.out in
      let moved = table_first c.args.runner handover c.hand_over-terms.ensures stacked
      c.of-terms.ensures.table c.of-terms.ensures.caches c.of-terms.ensures.out in
      let order = table.graph.order in
      let first = table.book.state.top in
      let tells = g.S.Sink.tells in
      let channel : g.row.S.Denot → Channel = g.S.Sink.channel in
      let new = c.decide-found.new.self.table in
      let found = c.decide-found.result in
      let told = c.decide-found.ensures in
      let leaves = told.decides.leaves in
      let ledger = c.into_ledger-ledger.result in
      let kept : ledger ≡ new.book = c.into_ledger-ledger.ensures in
      let same : new.book.origin ≡ table.book.origin = origin_left table new (error_of found) leaves in
      let of_formula : new.book.formula ≡ formula.clauses = formula_left table new (error_of found) leaves ∙ within.of_formula in
      let law : IsBook tells channel g.S.Sink.beside table.book = subst (IsBook tells channel g.S.Sink.beside) c.ledger.ensures c.book_law.ensures.book in
      let begun : IsProofOf formula.clauses table.book.steps table.book.state =
      subst (λ (clauses : List (List ℤ)). IsProofOf clauses table.book.steps table.book.state) within.of_formula law.proof in
      let origin : Channel = channel new.book.origin in
      let before : Channel = channel table.book.sink in
      let after : Channel = channel new.book.sink in
      let fresh : IsTrue tells → origin.written ≡ [] = λ t. ap (λ (s : g.row.S.Denot). (channel s).written) same
      ∙ ap (λ (t : TableState g.row.S.Denot). (channel t.book.origin).written) moved ∙ c.requires.fresh t in
      let from_origin : IsBehind tells origin after formula.clauses new.book =
      subst (λ (b : Book g.row.S.Denot). IsBehind tells (channel b.origin) (channel b.sink) formula.clauses b) kept
      (behind_of tells channel _ ledger formula.clauses (ap (λ (b : Book g.row.S.Denot). b.formula) kept ∙ of_formula)
      (λ t. ap (λ (b : Book g.row.S.Denot). (channel b.origin).written) kept ∙ fresh t) c.book_law-2.ensures.book c.book_law-2.ensures.cut) in
      let behind : IsBehind tells before after formula.clauses new.book =
      behind_since tells origin before after formula.clauses new.book
      (law.since.name ∙ ap (λ (s : g.row.S.Denot). (channel s).name) (sym same))
      (law.since.unfailed over.sound.in_step ∙ ap (λ (s : g.row.S.Denot). (channel s).faults) (sym same)) from_origin in
      let leads = decided_leads c.canonical_law.ensures c.soundness_law.ensures.derived c.derivation_law.ensures.refutes_by_step
      c.start_law.ensures.none_above c.in_use_law.ensures tells before after formula moves limits table new stacked.caches
      (all_entries stacked.caches) found c.formula_law.ensures.literals over within begun behind
      (clean_before handover.refuted found (λ is. (told.at_once is).0)
      (unrefuted_first c.args.runner handover c.hand_over-terms.ensures stacked
      c.of-terms.ensures.table c.of-terms.ensures.caches c.of-terms.ensures.out))
      (λ unchanged. ap (λ (t : TableState g.row.S.Denot). (channel t.book.sink).written) unchanged) c.table_law.ensures.few_nodes
      told.decides in
      let outcome = subst (λ (o : Result Outcome RunError). Leads first tells before after formula order moves limits new.book o)
      (sym c.outcome_of.ensures) leads in
      let handed = subst (λ (b : Book g.row.S.Denot). Leads first tells before (channel b.sink) formula order moves limits b
      c.outcome_of.result) (sym kept) outcome in
      let ended = c.finish-result.ensures.ends before formula order moves limits first handed in
      let closed = subst (λ (s : g.row.S.Denot). EndsWithinFrom first tells before (channel s) formula order moves limits c.finish-result.result)
      (sym c.close.ensures) ended in
      let result = c.finish-result.result in
      subst (λ (l : Limits). EndsWithinFrom c.args.runner.terms.table.book.state.top tells (channel c.args.runner.terms.table.book.sink)
      (channel c.close.result) c.args.runner.formula.now c.args.runner.terms.table.graph.order moves l result) c.hand_over-terms.ensures.limits
      (subst (λ (f : Formula). EndsWithinFrom c.args.runner.terms.table.book.state.top tells (channel c.args.runner.terms.table.book.sink)
      (channel c.close.result) f c.args.runner.terms.table.graph.order moves limits result) (λ k. (c.hand_over-terms.ensures.formula k).now)
      (subst (λ (t : TableState g.row.S.Denot). EndsWithinFrom t.book.state.top tells (channel t.book.sink) (channel c.close.result) formula
      t.graph.order moves limits result) moved closed))

  -- no number was given yet
  at_start : IsUnused c.args.runner → Ends g.S.Sink.tells (g.S.Sink.channel c.args.runner.terms.table.book.origin)
      (g.S.Sink.channel c.close.result) c.args.runner.formula.now c.args.runner.terms.table.graph.order c.args.plan.now c.args.runner.limits
      result
  at_start unused =
      let formula = c.args.runner.formula.now in
      let limits = c.args.runner.limits in
      let moves = c.args.plan.now in
      let table = c.args.runner.terms.table in
      let tells = g.S.Sink.tells in
      let channel : g.row.S.Denot → Channel = g.S.Sink.channel in
      let after = channel c.close.result in
      let first : table.book.state.top ≡ length formula.clauses = ap (λ (s : State). s.top) unused.book.state in
      ends_at_start tells (channel table.book.origin) after formula table.graph.order moves limits result
      (subst (λ (n : ℕ). EndsFrom n tells (channel table.book.origin) after formula table.graph.order moves limits result) first
      (subst (λ (s : g.row.S.Denot). EndsFrom table.book.state.top tells (channel s) after formula table.graph.order moves limits result)
      unused.sink ended.ends))

pub returns-clause-ends : goal.returns-clause-ends
returns-clause-ends g c = (ended g (goal.at.returns-clause-ends g c).After-close).ends

pub returns-clause-unused : goal.returns-clause-unused
returns-clause-unused g c = at_start g (goal.at.returns-clause-unused g c).After-close

pub returns-clause-last : goal.returns-clause-last
returns-clause-last g c = (ended g (goal.at.returns-clause-last g c).After-close).last

pub finish-result-requires : goal.finish-result-requires
finish-result-requires g c = record {
  in_step = λ whole. ap (λ (b : Book g.row.S.Denot). b.in_step) c.into_ledger-ledger.ensures
      ∙ (went_on c.of-terms.result.table c.decide-found.new.self.table c.decide-found.result
      c.decide-found.ensures.decides.leaves
      (λ torn. whole (c.outcome_of.ensures ∙ ap outcome_of torn))).sound.in_step;
}

-- an outcome that was found is the run's
outcome_is : (found other : Result Outcome RunError) (result : Result Run RunError) → found ≡ other → other ≡ Ok Unsat
    → IfOk result (λ run. found ≡ Ok run.outcome) → IfOk result (λ run. run.outcome ≡ Unsat)
outcome_is found other (Ok run) one two is = inside run.outcome (sym is ∙ one ∙ two)
  where
    inside : (outcome : Outcome) → ◌≡◌ {A = Result Outcome RunError} (Ok outcome) (Ok Unsat) → outcome ≡ Unsat
    inside outcome e = cc
outcome_is found other (Err e) one two is = tt

pub returns-clause-refuted : goal.returns-clause-refuted
returns-clause-refuted g c is =
    outcome_is c.outcome_of.result (outcome_of c.decide-found.result) c.finish-result.result c.outcome_of.ensures
    (ap outcome_of (c.decide-found.ensures.at_once (c.hand_over-terms.ensures.refuted ∙ is)).0) c.finish-result.ensures.outcome

pub returns-clause-as_written : goal.returns-clause-as_written
returns-clause-as_written g c is =
    let channel : g.row.S.Denot → Channel = g.S.Sink.channel in
    ap (λ (s : g.row.S.Denot). (channel s).written) c.close.ensures ∙ c.finish-result.ensures.written
    ∙ ap (λ (b : Book g.row.S.Denot). (channel b.sink).written) c.into_ledger-ledger.ensures
    ∙ ap (λ (t : TableState g.row.S.Denot). (channel t.book.sink).written) (c.decide-found.ensures.at_once
    (c.hand_over-terms.ensures.refuted ∙ is)).1
    ∙ ap (λ (t : TableState g.row.S.Denot). (channel t.book.sink).written)
    (table_first c.args.runner c.hand_over-terms.result c.hand_over-terms.ensures c.of-terms.result
    c.of-terms.ensures.table c.of-terms.ensures.caches c.of-terms.ensures.out)

pub returns-clause-beside : goal.returns-clause-beside
returns-clause-beside g c =
    ap g.S.Sink.beside c.close.ensures ∙ c.book_law-3.ensures.book.rest
    ∙ ap g.S.Sink.beside (c.finish-result.ensures.origin ∙ ap (λ (b : Book g.row.S.Denot). b.origin) c.into_ledger-ledger.ensures
    ∙ origin_left c.of-terms.result.table c.decide-found.new.self.table (error_of c.decide-found.result)
    c.decide-found.ensures.decides.leaves
    ∙ ap (λ (t : TableState g.row.S.Denot). t.book.origin)
    (table_first c.args.runner c.hand_over-terms.result c.hand_over-terms.ensures c.of-terms.result
    c.of-terms.ensures.table c.of-terms.ensures.caches c.of-terms.ensures.out))
