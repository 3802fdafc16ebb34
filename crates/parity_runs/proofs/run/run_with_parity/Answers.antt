-- What is left to show of `run_with_parity`.
use Rattle.std.proofs.Common.{rules, MutBor, ◌≡◌, ◌∙◌, [], length, false, true, All, sym, ap, subst}
use Rattle.std.specs.Prelude.{IfOk}
use Rattle.std.specs.List.{list_all}
use Rattle.cnf_base.specs.Formula.{Formula}
use Rattle.host_io.specs.Channel.{Channel}
use Rattle.schedule_plan.specs.declared.limits.Limits.{Limits}
use Rattle.schedule_plan.specs.Plan.{IsAdmissible}
use Rattle.parity_equations.specs.Equations.{equations}
use Rattle.parity_equations.specs.Walk.{IsEquationOf}
use Rattle.bdd_terms.specs.declared.runner.Runner.{Runner}
use Rattle.term_runner.specs.Clauses.{has_empty_clause, is_tautology}
use Rattle.term_runner.specs.Ends.{HasLast}
use Rattle.parity_runs.specs.Ends.{EndsWithParity}
use Rattle.parity_runs.proofs.Began.{nothing_ends}
use Rattle.parity_runs.proofs.Lent.{inner_kept, lender_kept}
use Rattle.parity_runs.proofs.Told.{last_within, origin_kept, run_ends, sums_spent}
use Rattle.parity_runs.proofs.Without.{ends_alone, ends_empty, none_listed, some_found, some_open, told_empty}
use Rattle.parity_runs.proofs.run.run_with_parity.Given.{Over}
use Rattle.parity_runs.proofs.run.run_with_parity.Goals as goal
use Rattle.parity_runs.proofs.run.run_with_parity.Goals.{After-go_on-sink}

pub returns-then-is_some-clause-ends : goal.returns-then-is_some-clause-ends
returns-then-is_some-clause-ends g c =
    ends_empty g.S.Sink.tells (g.S.Sink.channel c.args.sink.now) (g.S.Sink.channel c.run_plan_into.new.sink) c.args.formula.now
    c.args.order.now c.args.plan.now c.args.limits c.run_plan_into.result c.run_plan_into.ensures.ends
    (sym (told_empty c.args.formula.now.clauses c.first_empty.result c.first_empty.ensures) ∙ sym c.is_some.ensures ∙ c.if-is_some.true)

pub returns-in_default-clause-ends : goal.returns-in_default-clause-ends
returns-in_default-clause-ends g c =
    nothing_ends c.derivation_law.ensures.none c.marks_law.ensures.start g.S.Sink.tells (g.S.Sink.channel c.args.sink.now)
    c.args.formula.now c.args.order.now c.args.plan.now c.args.limits c.formula_law.ensures.literals c.requires.fresh

pub returns-then-len-eq0-clause-ends : goal.returns-then-len-eq0-clause-ends
returns-then-len-eq0-clause-ends g c =
    ends_alone g.S.Sink.tells (g.S.Sink.channel c.args.sink.now) (g.S.Sink.channel c.run_plan_into-then-len-eq0.new.sink)
    c.args.formula.now c.args.order.now c.args.plan.now c.args.limits c.run_plan_into-then-len-eq0.result
    c.run_plan_into-then-len-eq0.ensures.ends
    (none_listed c.in-Ok.equations.list.items (equations c.args.formula.now.clauses) c.in-Ok.ensures.listed
    (let none : length c.in-Ok.equations.list.items ≡ 0 = search rules in none))

pub returns-in_default-new-clause-ends : goal.returns-in_default-new-clause-ends
returns-in_default-new-clause-ends g c =
    nothing_ends c.derivation_law.ensures.none c.marks_law.ensures.start g.S.Sink.tells (g.S.Sink.channel c.args.sink.now)
    c.args.formula.now c.args.order.now c.args.plan.now c.args.limits c.formula_law.ensures.literals c.requires.fresh

pub eliminate-found-requires-clause-clauses : goal.eliminate-found-requires-clause-clauses
eliminate-found-requires-clause-clauses g c =
    subst (λ (f : Formula). All (IsEquationOf f.vars f.clauses) c.in-Ok.equations.list.items) (sym c.new-runner.ensures.opened.of_formula)
    c.in-Ok.ensures.each

pub go_on-sink-requires-clause-plan : goal.go_on-sink-requires-clause-plan
go_on-sink-requires-clause-plan g c whole =
    subst (λ (f : Formula). IsAdmissible f c.args.plan.now)
    (sym (ap (λ f. f.now) (c.eliminate-found.ensures.ends.keeps whole).formula ∙ c.new-runner.ensures.opened.of_formula))
    c.requires.plan

pub go_on-sink-requires-clause-spent : goal.go_on-sink-requires-clause-spent
go_on-sink-requires-clause-spent g c is = sums_spent _ c.new-runner.result _ c.eliminate-found.result c.eliminate-found.ensures.ends is

-- the run's end, over the lent sink
module _ (g : Over) (c : After-go_on-sink g) where
  abbrev channel : g.row.S.Denot → Channel
  channel = g.S.Sink.channel

  abbrev last : Runner (MutBor g.row.S.Denot)
  last = c.eliminate-found.new.runner

  origin_is : last.terms.table.book.origin ≡ c.new-runner.result.terms.table.book.origin
  origin_is = origin_kept _ c.new-runner.result last c.eliminate-found.result c.eliminate-found.ensures.ends

  ended : EndsWithParity g.S.Sink.tells (channel c.args.sink.now) (channel c.go_on-sink.result.0.now) c.args.formula.now c.args.order.now
      c.args.plan.now c.args.limits c.go_on-sink.result.1
  ended =
      let items = c.in-Ok.equations.list.items in
      let clauses = c.args.formula.now.clauses in
      let full : has_empty_clause clauses ≡ false = sym (told_empty clauses c.first_empty.result c.first_empty.ensures)
      ∙ sym c.is_some.ensures ∙ c.if-is_some.false in
      let count : length items ≡ 0 → ⊥ = search rules in
      let some : equations clauses ≡ [] → ⊥ = some_found items (equations clauses) c.in-Ok.ensures.listed count in
      let open_clause : list_all is_tautology clauses ≡ false =
      some_open c.args.formula.now.vars clauses c.formula_law.ensures.literals some in
      run_ends g.S.Sink.tells (λ (s : MutBor g.row.S.Denot). channel s.now) _ c.args.formula.now c.args.order.now c.args.limits _
      c.new-runner.result last c.new-runner.ensures.opened c.in_use_law.ensures c.proof_law.ensures.few c.requires.fresh
      c.proof_law.ensures.book c.proof_law.ensures.written c.proof_law.ensures.cut full open_clause c.eliminate-found.ensures.costs
      c.args.plan.now (channel c.go_on-sink.result.0.now) c.go_on-sink.result.1 some c.eliminate-found.result
      c.eliminate-found.ensures.ends c.go_on-sink.ensures.goes c.eliminate-found.ensures.limit

  -- what is beside it
  still_beside : g.S.Sink.beside c.go_on-sink.result.0.now ≡ g.S.Sink.beside c.args.sink.now
  still_beside = inner_kept c.go_on-sink.ensures.beside
      ∙ ap (λ (s : MutBor g.row.S.Denot). g.S.Sink.beside s.now) (origin_is ∙ c.new-runner.ensures.opened.origin)

pub returns-clause-ends : goal.returns-clause-ends
returns-clause-ends g c =
    let inside = (goal.at.returns-clause-ends g c).After-go_on-sink in
    subst (λ (s : g.row.S.Denot). EndsWithParity g.S.Sink.tells (g.S.Sink.channel c.args.sink.now) (g.S.Sink.channel s) c.args.formula.now
    c.args.order.now c.args.plan.now c.args.limits c.go_on-sink.result.1)
    (search (
      rules,
      c.sink-1.given.1,
      lender_kept c.go_on-sink.ensures.beside
          ∙ ap (λ (s : MutBor g.row.S.Denot). s.ghost_name) (origin_is g inside ∙ c.new-runner.ensures.opened.origin),
    )) (ended g inside)

pub returns-clause-beside : goal.returns-clause-beside
returns-clause-beside g c =
    let inside = (goal.at.returns-clause-beside g c).After-go_on-sink in
    subst (λ (s : g.row.S.Denot). g.S.Sink.beside s ≡ g.S.Sink.beside c.args.sink.now)
    (search (
      rules,
      c.sink-1.given.1,
      lender_kept c.go_on-sink.ensures.beside
          ∙ ap (λ (s : MutBor g.row.S.Denot). s.ghost_name) (origin_is g inside ∙ c.new-runner.ensures.opened.origin),
    )) (still_beside g inside)

pub returns-clause-last : goal.returns-clause-last
returns-clause-last g c =
    let result = c.go_on-sink.result.1 in
    let old = c.new-runner.result in
    let opened = c.new-runner.ensures.opened in
    subst (λ (f : Formula). IfOk result (HasLast f c.args.limits)) opened.of_formula
    (subst (λ (l : Limits). IfOk result (HasLast old.formula.now l)) opened.within
    (last_within old c.eliminate-found.new.runner result c.go_on-sink.ensures.last _ _ _ _ _ _ c.eliminate-found.ensures.ends
    c.go_on-sink.ensures.goes))
