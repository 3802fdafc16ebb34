-- What is left to show of `SliceSourceSource::read`.
use Rattle.std.proofs.Common.{◌≡◌, None, [], min, length, drop, arith}
use Rattle.std.proofs.lemmas.Grind.{common_steps}
use Rattle.host_io.specs.Channel.{Channel, Held}
use Rattle.host_io.proofs.Front.{reads_front}
use Rattle.host_io.proofs.slice_source.SliceSourceSource.read.Goals as goal

pub returns-clause-reads : goal.returns-clause-reads
returns-clause-reads c =
    let bytes = c.self.inside.bytes.now in
    let channel : Channel = record { name = None; faults = c.self.inside.faults; taken = []; left = Held []; written = []; flushed = 0 } in
    let count : c.min-count.result ≡ min (min (length (drop c.self.inside.position bytes)) c.self.inside.piece)
    (length c.args.buf.now) = grind (arith, common_steps) in
    rw (← c.self.view_is) (
    reads_front channel bytes c.self.inside.position c.min-count.result (length c.args.buf.now) c.copy_from_slice.new.self
    (drop c.min-count.result c.args.buf.now)
    (omega (arith, count)) (omega (arith, count)) (λ none some. omega (arith, count, none, some, c.self.invariant.1))
    (grind (arith, common_steps))
    )
