-- What is left to show of `finish`.
use Rattle.std.proofs.Common.{◌≡◌, ℕ, Bool, Result, Ok, refl, sym, subst, inl, inr}
use Rattle.std.specs.Prelude.{IfOk}
use Rattle.host_io.specs.Channel.{Channel}
use Rattle.node_table.specs.HandedOn.{handed_on}
use Rattle.bdd_terms.specs.declared.error.RunError.{RunError}
use Rattle.term_runner.specs.declared.outcome.Outcome.{Outcome}
use Rattle.term_runner.specs.declared.outcome.Run.{Run}
use Rattle.term_runner.specs.Opened.{EndsWithinFrom, IsFlushed, Leads}
use Rattle.term_runner.proofs.Ending.{flushed_ends, outcome_shown, failure_ends}
use Rattle.term_runner.proofs.finish.finish.Goals as goal

pub returns-clause-ends : goal.returns-clause-ends
returns-clause-ends g c before formula order moves limits first leads =
    let found = subst (λ (o : Result Outcome RunError). Leads first g.S.Sink.tells before
    (g.S.Sink.channel c.args.ledger.now.sink) formula order moves limits c.args.ledger.now o) c.in_ok-outcome.was leads in
    flushed_ends first _ _ _ _ _ _ _ _ _ _ c.flush.ensures.flushes
    (outcome_shown first _ _ _ _ _ _ _ _ c.args.ledger.now c.in_ok-outcome.outcome _ found c.last_id-last_id.ensures.value)

pub returns-in_err-outcome-clause-ends : goal.returns-in_err-outcome-clause-ends
returns-in_err-outcome-clause-ends g c before formula order moves limits first leads =
    let found = subst (λ (o : Result Outcome RunError). Leads first g.S.Sink.tells before
    (g.S.Sink.channel c.args.ledger.now.sink) formula order moves limits c.args.ledger.now o) c.in_err-outcome.was leads in
    subst (λ (r : Result Run RunError). EndsWithinFrom first g.S.Sink.tells before (g.S.Sink.channel c.args.ledger.now.sink) formula order moves limits r)
    (sym (handed_on _ c.in_err-outcome.field-0.0 _ c.from_residual.ensures.1 refl))
    (record {
      ends = failure_ends first _ _ _ (g.S.Sink.channel c.args.ledger.now.sink) _ _ _ _ c.args.ledger.now c.in_err-outcome.field-0.0 found;
      last = tt;
    })

-- the outcome is the one that was found
same_outcome : (tells : Bool) (before after : Channel) (found : Outcome) (last : ℕ) (result : Result Run RunError)
    → IsFlushed tells before after (Ok (record { outcome = found; last_id = last })) result
    → IfOk result (λ run. ◌≡◌ {A = Result Outcome RunError} (Ok found) (Ok run.outcome))
same_outcome tells before after found last result flushes = elim flushes.ends [
  | inl same ↦ subst (λ (r : Result Run RunError). IfOk r (λ run. ◌≡◌ {A = Result Outcome RunError} (Ok found) (Ok run.outcome)))
      (sym same.0) refl
  | inr broke ↦ subst (λ (r : Result Run RunError). IfOk r (λ run. ◌≡◌ {A = Result Outcome RunError} (Ok found) (Ok run.outcome)))
      (sym broke.0) tt
]

pub returns-clause-outcome : goal.returns-clause-outcome
returns-clause-outcome g c =
    subst (λ (o : Result Outcome RunError). IfOk c.flush.result (λ run. o ≡ Ok run.outcome)) (sym c.in_ok-outcome.was)
    (same_outcome _ _ _ c.in_ok-outcome.outcome c.last_id-last_id.result c.flush.result c.flush.ensures.flushes)

pub returns-clause-written : goal.returns-clause-written
returns-clause-written g c = c.flush.ensures.flushes.written
