-- What is left to show of `write_all`.
use Rattle.std.proofs.Common.{◌∙◌, arith}
use Rattle.std.proofs.lemmas.Grind.{common_steps}
use Rattle.host_io.proofs.Written.{more_written}
use Rattle.host_io.proofs.whole.write_all.Goals as goal

pub pieces-preserved : goal.pieces-preserved
pieces-preserved g c = (
  more_written _ _ _ _ _ _ _ _ (grind (arith, common_steps)) c.pieces.invariant.0 c.in_ok-written.ensures.writes,
  c.in_ok-written.ensures.beside ∙ c.pieces.invariant.1,
)
