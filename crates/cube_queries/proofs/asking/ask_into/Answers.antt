-- What is left to show of `ask_into`.
use Rattle.std.proofs.Common.{rules, MutBor, ◌≡◌, ◌∙◌, ℕ, List, length, Result, sym, ap, subst}
use Rattle.std.specs.Prelude.{IsOk}
use Rattle.host_io.specs.Channel.{Channel}
use Rattle.bdd_terms.specs.declared.error.RunError.{RunError}
use Rattle.bdd_terms.specs.declared.runner.Runner.{Runner}
use Rattle.cube_text.specs.CubeText.{AreCubes}
use Rattle.cube_queries.specs.declared.answer.Outcome.{Outcome}
use Rattle.cube_queries.specs.Ends.{Ends, IsFlushed}
use Rattle.cube_queries.proofs.Ended.{ends_of, in_step_yet, nothing_ends, session_of}
use Rattle.cube_queries.proofs.Lent.{lender_kept}
use Rattle.cube_queries.proofs.asking.ask_into.Given.{Over}
use Rattle.cube_queries.proofs.asking.ask_into.Goals as goal
use Rattle.cube_queries.proofs.asking.ask_into.Goals.{After-finish-sink}

pub returns-in_default-clause-ends : goal.returns-in_default-clause-ends
returns-in_default-clause-ends g c =
    subst (λ (s : g.row.S.Denot). Ends g.S.Sink.tells (g.S.Sink.channel c.args.sink.now) (g.S.Sink.channel s) c.args.formula.now
    c.args.order.now c.args.cubes.now c.args.limits _)
    (search rules)
    (nothing_ends g.S.Sink.tells (g.S.Sink.channel c.args.sink.now) c.args.formula.now c.args.order.now c.args.limits c.args.cubes.now
    c.derivation_law.ensures.none c.marks_law.ensures.start c.formula_law.ensures.literals c.requires.fresh)

pub reply_all-found-requires-clause-none_out : goal.reply_all-found-requires-clause-none_out
reply_all-found-requires-clause-none_out g c = c.new-runner.ensures.opened.unused.none_out

pub reply_all-found-requires-clause-formula : goal.reply_all-found-requires-clause-formula
reply_all-found-requires-clause-formula g c = c.new-runner.ensures.opened.of_formula

pub reply_all-found-requires-clause-cubes : goal.reply_all-found-requires-clause-cubes
reply_all-found-requires-clause-cubes g c =
    subst (λ (n : ℕ). AreCubes n c.args.cubes.now)
    (sym (ap (λ (o : List ℕ). length o) c.new-runner.ensures.opened.of_order ∙ c.requires.order)) c.requires.cubes

pub finish-sink-requires-clause-in_step : goal.finish-sink-requires-clause-in_step
finish-sink-requires-clause-in_step g c is =
    in_step_yet c.args.cubes.now c.new-runner.result c.reply_all-found.new.runner c.reply_all-found.result
    c.reply_all-found.ensures.replies (subst (λ (r : Result Outcome RunError). IsOk r) c.outcome_of.ensures is)

pub finish-sink-requires-clause-none_out : goal.finish-sink-requires-clause-none_out
finish-sink-requires-clause-none_out g c is =
    c.reply_all-found.ensures.none_out (in_step_yet c.args.cubes.now c.new-runner.result c.reply_all-found.new.runner
    c.reply_all-found.result c.reply_all-found.ensures.replies
    (subst (λ (r : Result Outcome RunError). IsOk r) c.outcome_of.ensures is))

-- the session's end, over the lent sink
module _ (g : Over) (c : After-finish-sink g) where
  abbrev channel : g.row.S.Denot → Channel
  channel = g.S.Sink.channel

  abbrev last : Runner (MutBor g.row.S.Denot)
  last = c.reply_all-found.new.runner

  origin_is : last.terms.table.book.origin ≡ c.new-runner.result.terms.table.book.origin
  origin_is = c.reply_all-found.ensures.replies.goes.origin

  ended : Ends g.S.Sink.tells (channel c.args.sink.now) (channel c.finish-sink.result.0.now) c.args.formula.now c.args.order.now
      c.args.cubes.now c.args.limits c.finish-sink.result.1
  ended =
      let opened = c.new-runner.ensures.opened in
      let tells = g.S.Sink.tells in
      let after = channel c.finish-sink.result.0.now in
      let result = c.finish-sink.result.1 in
      let of_sink = origin_is ∙ opened.origin in
      let session = session_of c.args.formula.now c.args.order.now c.args.limits c.args.cubes.now _ c.new-runner.result last opened
      c.reply_all-found.result c.reply_all-found.ensures.replies c.reply_all-found.ensures.costs in
      let flushed = subst (λ (r : Result Outcome RunError). IsFlushed tells (channel last.terms.table.book.sink.now) after r result)
      c.outcome_of.ensures c.finish-sink.ensures.flushes in
      subst (λ (s : MutBor g.row.S.Denot). Ends tells (channel s.now) after c.args.formula.now c.args.order.now c.args.cubes.now
      c.args.limits result) of_sink
      (ends_of tells (λ (s : MutBor g.row.S.Denot). channel s.now) _ c.args.formula.now c.args.order.now c.args.limits c.args.cubes.now last
      after c.in_use_law.ensures c.proof_law.ensures.few
      (λ t. ap (λ (s : MutBor g.row.S.Denot). (channel s.now).written) of_sink ∙ c.requires.fresh t) c.proof_law.ensures.book
      c.proof_law.ensures.written c.proof_law.ensures.cut c.reply_all-found.result session result flushed)

pub returns-clause-ends : goal.returns-clause-ends
returns-clause-ends g c =
    let inside = (goal.at.returns-clause-ends g c).After-finish-sink in
    subst (λ (s : g.row.S.Denot). Ends g.S.Sink.tells (g.S.Sink.channel c.args.sink.now) (g.S.Sink.channel s) c.args.formula.now
    c.args.order.now c.args.cubes.now c.args.limits c.finish-sink.result.1)
    (search (
      rules,
      c.sink-1.given.1,
      lender_kept (c.finish-sink.ensures.beside ∙ c.proof_law.ensures.book.rest)
          ∙ ap (λ (s : MutBor g.row.S.Denot). s.ghost_name) (origin_is g inside ∙ c.new-runner.ensures.opened.origin),
    )) (ended g inside)
