-- What is left to show of `put_long`.
use Rattle.std.proofs.Common.{ℕ, List, ◌++◌, take, sym, ap, ◌∙◌, arith}
use Rattle.proof_trim.proofs.Pairs.{behind, four_longer, four_more}
use Rattle.proof_trim.proofs.decimals.+put_long.Goals as goal

pub put_long-behind-requires : goal.put_long-behind-requires
put_long-behind-requires t c = (
  omega (arith, c.decreases, c.if-number-lt10000.false),
  omega (arith, c.requires, four_longer c.args.number c.if-number-lt10000.false c.ranges.number.fits),
)

pub put_four-requires-clause-room : goal.put_four-requires-clause-room
put_four-requires-clause-room t c =
    omega (arith, c.requires, c.put_long-behind.ensures.next, four_longer c.args.number c.if-number-lt10000.false c.ranges.number.fits)

pub returns-clause-next : goal.returns-clause-next
returns-clause-next t c =
    omega (
      arith,
      c.put_long-behind.ensures.next,
      c.put_four.ensures.next,
      four_longer c.args.number c.if-number-lt10000.false
          c.ranges.number.fits,
    )

pub returns-clause-text : goal.returns-clause-text
returns-clause-text t c =
    behind (take c.args.at c.args.bytes.now) (take c.put_long-behind.result c.put_long-behind.new.bytes) _ _
    (take c.put_four.result c.put_four.new.bytes) c.put_long-behind.ensures.text c.put_four.ensures.text
    ∙ ap (λ (l : List ℕ). take c.args.at c.args.bytes.now ++ l)
    (sym (four_more c.args.number c.if-number-lt10000.false c.ranges.number.fits))
