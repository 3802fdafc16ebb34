-- What is left to show of `pop_full`.
use Rattle.std.proofs.Common.{[], sym, ap, ◌∙◌}
use Rattle.proof_trim.specs.Row.{stacked}
use Rattle.proof_trim.proofs.Rows.{byte_popped, chunk_popped}
use Rattle.proof_trim.proofs.bytes.pop_full.Goals as goal

pub returns-in-Some-pop-clause-some : goal.returns-in-Some-pop-clause-some
returns-in-Some-pop-clause-some c =
    sym (chunk_popped c.chunks.full.items c.pop_chunk.new.full.items c.args.full.now.items c.in-Some.chunk c.chunks.invariant.0
    c.in-Some.ensures.some)
    ∙ byte_popped c.pop_chunk.new.full.items c.in-Some.chunk c.pop.new.self c.in-Some-pop.byte c.in-Some-pop.ensures.some

pub returns-in-None-clause-none : goal.returns-in-None-clause-none
returns-in-None-clause-none c = sym c.chunks.invariant.0 ∙ ap (λ f. stacked f []) c.in-None.ensures.none

pub chunks-preserved : goal.chunks-preserved
chunks-preserved c = (
  ap (stacked c.pop_chunk.new.full.items) (sym c.in_default.ensures.none)
      ∙ chunk_popped c.chunks.full.items c.pop_chunk.new.full.items c.args.full.now.items c.in-Some.chunk c.chunks.invariant.0
      c.in-Some.ensures.some,
  c.in_default.ensures.left,
)
