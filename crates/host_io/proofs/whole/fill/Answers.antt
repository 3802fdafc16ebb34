-- What is left to show of `fill`.
use Rattle.std.proofs.Common.{◌∙◌, sym}
use Rattle.host_io.proofs.HasRead.{more_read, put_rest}
use Rattle.host_io.proofs.whole.fill.Goals as goal

pub pieces-preserved : goal.pieces-preserved
pieces-preserved g c =
    let so_far = c.pieces.invariant.0 in (
      rw (put_rest c.pieces.done c.pieces.buf c.read.new.buf so_far.within) (
          more_read _ _ _ _ _ _ _ _ _ so_far (sym c.read.auto.buf) c.in_ok-count.ensures.reads
          ),
      c.in_ok-count.ensures.beside ∙ c.pieces.invariant.1,
    )
