-- What is left to show of `run_with`.
use Rattle.std.proofs.Common.{ap, map, string_bytes, ◌∙◌, inl}
use Rattle.solver_cli.proofs.Facts.{at_ok}
use Rattle.solver_cli.proofs.program.run_with.Goals as goal

pub returns-in-Ok-gather-clause-came : goal.returns-in-Ok-gather-clause-came
returns-in-Ok-gather-clause-came g c =
    let came = c.in-Ok-gather.ensures in
    at_ok _ c.in-Ok.is (
      c.run.result,
      c.from-in-Ok-gather.ensures ∙ c.code.ensures,
      inl (
        map string_bytes c.deref.result.now,
        (came.0, came.1, came.2, ap (map string_bytes) (c.deref.ensures.value ∙ came.3)),
        c.run.ensures.promises,
      ),
    )
