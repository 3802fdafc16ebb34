-- What comes behind the sums: the plan, or the end.
use Rattle.std.specs.Prelude.{◌≡◌, ◌⊎◌, ◌≤◌, Bool, false, List, length, Result, Ok, Err, IfOk, IsTrue}
use Rattle.host_io.specs.Channel.{Channel, Rose}
use Rattle.node_table.specs.declared.error.TableError.{TableError}
use Rattle.node_table.specs.declared.error.TableError.TheVariants as table
use Rattle.schedule_plan.specs.declared.plan.Move.{Move}
use Rattle.bdd_terms.specs.declared.error.RunError.{RunError}
use Rattle.bdd_terms.specs.declared.error.RunError.TheVariants.{OutOfMemory, WriteFault}
use Rattle.term_runner.specs.declared.outcome.Outcome.TheVariants.{IdLimit, Unsat}
use Rattle.term_runner.specs.declared.outcome.Run.{Run}
use Rattle.bdd_terms.specs.declared.runner.Runner.{Runner}
use Rattle.term_runner.specs.Ends.{EndsFrom}

-- The plan is run. Where the empty clause was there it isn't needed.
pub record RunsPlan {S : Type 0} (tells : Bool) (mid after : Channel) (runner : Runner S) (moves : List Move) (result : Result Run RunError)
    : Type 0 where
  pub ends : EndsFrom runner.terms.table.book.state.top tells mid after runner.formula.now runner.terms.table.graph.order moves
      runner.limits
      result
  pub refuted : IsTrue runner.refuted → IfOk result (λ run. run.outcome ≡ Unsat)

-- The limit of numbers is told behind a flush, or that failed; no byte changed.
pub record IsClosed {S : Type 0} (tells : Bool) (mid after : Channel) (runner : Runner S) (result : Result Run RunError) : Type 0 where
  pub ends : ((result ≡ Ok (record { outcome = IdLimit; last_id = runner.terms.table.book.state.top }))
      × ((IsTrue tells → after.flushed ≡ length after.written) × (after.faults ≡ mid.faults)))
      ⊎ ((result ≡ Err WriteFault) × Rose mid.faults after.faults)
  pub written : after.written ≡ mid.written
  pub name : after.name ≡ mid.name
  pub faults : mid.faults ≤ after.faults

-- by what the sums came to
abbrev pub GoesOn : {S : Type 0} → Bool → Channel → Channel → Runner S → List Move → Result Bool TableError → Result Run RunError → Type 0
GoesOn tells mid after runner moves (Ok refuted) result = RunsPlan tells mid after runner moves result
GoesOn tells mid after runner moves (Err table.NodeLimit) result = ⊥
GoesOn tells mid after runner moves (Err table.IdLimit) result = (IsTrue runner.refuted → RunsPlan tells mid after runner moves result)
    × (runner.refuted ≡ false → IsClosed tells mid after runner result)
GoesOn tells mid after runner moves (Err table.OutOfMemory) result = (result ≡ Err OutOfMemory) × (after ≡ mid)
GoesOn tells mid after runner moves (Err table.WriteFault) result = (result ≡ Err WriteFault) × (after ≡ mid)
