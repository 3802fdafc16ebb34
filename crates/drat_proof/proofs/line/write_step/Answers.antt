-- A step by new names is the one with the literals by these names.
use Rattle.std.proofs.Common.{◌≡◌, ℕ, ℤ, Bool, true, false, List, map, refl, subst}
use Rattle.host_io.specs.Channel.{WritesAll}
use Rattle.drat_text.specs.declared.step.DratStep.{DratStep}
use Rattle.drat_text.specs.DratText.{line_of_drat, step_on}
use Rattle.fresh_names.specs.Fresh.{named, named_step}
use Rattle.fresh_names.specs.Renaming.{name_of}
use Rattle.drat_proof.proofs.line.write_step.Goals as goal

by_names : (name : ℕ → ℕ) (deleted : Bool) (clause : List ℤ)
    → step_on deleted (map (named name) clause) ≡ named_step name (step_on deleted clause)
by_names name true clause = refl
by_names name false clause = refl

pub returns-in-Fresh-clause-writes : goal.returns-in-Fresh-clause-writes
returns-in-Fresh-clause-writes g c =
    rw c.in-Fresh.is (subst (λ (step : DratStep). WritesAll g.S.Sink.tells (g.S.Sink.channel c.args.sink.now)
    (g.S.Sink.channel c.write_renamed.new.sink) (line_of_drat step) c.write_renamed.result)
    (by_names (name_of c.in-Fresh.renaming) c.args.deleted c.args.clause.now) c.write_renamed.ensures.writes)
