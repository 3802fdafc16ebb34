-- What is left to show of `put_number`.
use Rattle.std.proofs.Common.{ℕ, List, ◌++◌, take, sym, ap, ◌∙◌, arith}
use Rattle.proof_trim.proofs.Pairs.{behind, four_longer, four_more}
use Rattle.proof_trim.proofs.decimals.put_number.Goals as goal

pub put_short-behind-requires-clause-room : goal.put_short-behind-requires-clause-room
put_short-behind-requires-clause-room c =
    omega (arith, c.requires, four_longer c.args.number c.if-number-lt10000.false c.ranges.number.fits)

pub put_four-requires-clause-room : goal.put_four-requires-clause-room
put_four-requires-clause-room c =
    omega (arith, c.requires, c.put_short-behind.ensures.next, four_longer c.args.number c.if-number-lt10000.false c.ranges.number.fits)

pub returns-then-number-lt100000000-clause-next : goal.returns-then-number-lt100000000-clause-next
returns-then-number-lt100000000-clause-next c =
    omega (
      arith,
      c.put_short-behind.ensures.next,
      c.put_four.ensures.next,
      four_longer c.args.number c.if-number-lt10000.false
          c.ranges.number.fits,
    )

pub returns-then-number-lt100000000-clause-text : goal.returns-then-number-lt100000000-clause-text
returns-then-number-lt100000000-clause-text c =
    behind (take c.args.at c.args.bytes.now) (take c.put_short-behind.result c.put_short-behind.new.bytes) _ _
    (take c.put_four.result c.put_four.new.bytes) c.put_short-behind.ensures.text c.put_four.ensures.text
    ∙ ap (λ (l : List ℕ). take c.args.at c.args.bytes.now ++ l)
    (sym (four_more c.args.number c.if-number-lt10000.false c.ranges.number.fits))
