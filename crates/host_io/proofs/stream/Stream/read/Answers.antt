-- What is left to show of `Stream::read`.
use Rattle.std.proofs.Common.{◌≡◌, min, length, drop, arith}
use Rattle.std.proofs.lemmas.Grind.{common_steps}
use Rattle.host_io.specs.contracts.stream.Stream.{the_view}
use Rattle.host_io.proofs.Front.{reads_front}
use Rattle.host_io.proofs.stream.Stream.read.Goals as goal

pub returns : goal.returns
returns c =
    let count : c.min-count.result ≡ min (length (drop c.self.inside.position c.self.inside.input.items)) (length c.args.buf.now) = grind
    (arith, common_steps) in
    rw (← c.self.view_is) (
    reads_front (the_view c.self.inside) c.self.inside.input.items c.self.inside.position c.min-count.result
    (length c.args.buf.now) c.copy_from_slice.new.self (drop c.min-count.result c.args.buf.now)
    (omega (arith, count)) (omega (arith, count)) (λ none some. omega (arith, count, none, some)) (grind (arith, common_steps))
    )
