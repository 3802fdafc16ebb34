-- What is left to show of `run_plan_into`.
use Rattle.std.proofs.Common.{rules, MutBor, ◌≡◌, List, ℕ, length, refl, ap, ◌∙◌, subst}
use Rattle.std.specs.Prelude.{IfOk, IsTrue}
use Rattle.cnf_base.specs.Formula.{Formula}
use Rattle.schedule_plan.specs.declared.limits.Limits.{Limits}
use Rattle.host_io.specs.Channel.{Channel}
use Rattle.bdd_terms.specs.declared.runner.Runner.{Runner}
use Rattle.lrat_rules.specs.State.{start}
use Rattle.lrat_rules.specs.Derivation.{IsWritten}
use Rattle.term_runner.specs.Ends.{Ends, HasLast}
use Rattle.term_runner.specs.Price.{IsPaidFor}
use Rattle.term_runner.specs.Proofs.{KeepsWithin}
use Rattle.term_runner.proofs.Ending.{inner_kept, lender_kept, nothing_ends}
use Rattle.term_runner.proofs.AtStart.{start_paid, start_within}
use Rattle.term_runner.proofs.Opening.{whole_at_start, written_at_start}
use Rattle.term_runner.proofs.runs.run_plan_into.Given.{Over}
use Rattle.term_runner.proofs.runs.run_plan_into.Goals as goal
use Rattle.term_runner.proofs.runs.run_plan_into.Goals.{After-run-sink}

pub returns-in_default-clause-ends : goal.returns-in_default-clause-ends
returns-in_default-clause-ends g c =
    let formula = c.args.formula.now in
    let tells = g.S.Sink.tells in
    let channel : Channel = g.S.Sink.channel c.args.sink.now in
    let written : IsTrue tells → IsWritten formula.clauses channel.written (start formula.clauses) = λ t.
    written_at_start c.derivation_law.ensures.none formula.clauses channel.written (c.requires.fresh t) in
    subst (λ (s : g.row.S.Denot). Ends tells channel (g.S.Sink.channel s) formula c.args.order.now c.args.plan.now c.args.limits _)
    (search rules)
    (nothing_ends tells channel channel formula c.args.order.now c.args.plan.now c.args.limits
    (λ t. whole_at_start formula (KeepsWithin formula c.args.limits)
    (start_within c.marks_law.ensures.start formula c.args.limits c.formula_law.ensures.literals) channel.written (written t))
    c.requires.fresh
    (λ width price t. whole_at_start formula (IsPaidFor formula c.args.limits c.args.plan.now width price)
    (start_paid c.marks_law.ensures.start c.start_law.ensures.none_above c.lean_law.ensures.few formula c.args.limits c.args.plan.now width
    price c.formula_law.ensures.literals) channel.written (written t))
    refl refl refl)

-- the runner's run, over the lent sink
module _ (g : Over) (c : After-run-sink g) where
  abbrev channel : g.row.S.Denot → Channel
  channel = g.S.Sink.channel

  abbrev runner : Runner (MutBor g.row.S.Denot)
  runner = c.new-runner.result

  -- no step was told before
  ended : Ends g.S.Sink.tells (channel c.args.sink.now) (channel c.run-sink.result.0.now) c.args.formula.now c.args.order.now
      c.args.plan.now c.args.limits c.run-sink.result.1
  ended =
      let opened = c.new-runner.ensures.opened in
      let tells = g.S.Sink.tells in
      let after = channel c.run-sink.result.0.now in
      let result = c.run-sink.result.1 in
      let moves = c.args.plan.now in
      let origin = runner.terms.table.book.origin in
      subst (λ (s : MutBor g.row.S.Denot). Ends tells (channel s.now) after c.args.formula.now c.args.order.now moves c.args.limits result)
      opened.origin
      (subst (λ (f : Formula). Ends tells (channel origin.now) after f c.args.order.now moves c.args.limits result) opened.of_formula
      (subst (λ (o : List ℕ). Ends tells (channel origin.now) after runner.formula.now o moves c.args.limits result) opened.of_order
      (subst (λ (l : Limits). Ends tells (channel origin.now) after runner.formula.now runner.terms.table.graph.order moves l result)
      opened.within (c.run-sink.ensures.unused opened.unused))))

  -- its last number
  last_within : IfOk c.run-sink.result.1 (HasLast c.args.formula.now c.args.limits)
  last_within =
      let opened = c.new-runner.ensures.opened in
      let result = c.run-sink.result.1 in
      subst (λ (f : Formula). IfOk result (HasLast f c.args.limits)) opened.of_formula
      (subst (λ (l : Limits). IfOk result (HasLast runner.formula.now l)) opened.within
      c.run-sink.ensures.last)

  -- what is beside it
  still_beside : g.S.Sink.beside c.run-sink.result.0.now ≡ g.S.Sink.beside c.args.sink.now
  still_beside = inner_kept c.run-sink.ensures.beside
      ∙ ap (λ (s : MutBor g.row.S.Denot). g.S.Sink.beside s.now) c.new-runner.ensures.opened.origin

pub returns-clause-ends : goal.returns-clause-ends
returns-clause-ends g c =
    let inside = (goal.at.returns-clause-ends g c).After-run-sink in
    subst (λ (s : g.row.S.Denot). Ends g.S.Sink.tells (g.S.Sink.channel c.args.sink.now) (g.S.Sink.channel s) c.args.formula.now
    c.args.order.now c.args.plan.now c.args.limits c.run-sink.result.1)
    (search (
      rules,
      c.sink-1.given.1,
      lender_kept c.run-sink.ensures.beside ∙ ap (λ (s : MutBor g.row.S.Denot). s.ghost_name) c.new-runner.ensures.opened.origin,
    )) (ended g inside)

pub returns-clause-last : goal.returns-clause-last
returns-clause-last g c = last_within g (goal.at.returns-clause-last g c).After-run-sink

pub returns-clause-beside : goal.returns-clause-beside
returns-clause-beside g c =
    let inside = (goal.at.returns-clause-beside g c).After-run-sink in
    subst (λ (s : g.row.S.Denot). g.S.Sink.beside s ≡ g.S.Sink.beside c.args.sink.now)
    (search (
      rules,
      c.sink-1.given.1,
      lender_kept c.run-sink.ensures.beside ∙ ap (λ (s : MutBor g.row.S.Denot). s.ghost_name) c.new-runner.ensures.opened.origin,
    )) (still_beside g inside)

pub run-sink-requires-clause-none_out : goal.run-sink-requires-clause-none_out
run-sink-requires-clause-none_out g c = ap length c.new-runner.ensures.opened.unused.none_out
