-- What is left to show of `put_short`.
use Rattle.std.proofs.Common.{ℕ, List, ◌++◌, take, sym, ap, ◌∙◌, arith}
use Rattle.proof_trim.proofs.Pairs.{behind, pair_more, two_more}
use Rattle.proof_trim.proofs.decimals.put_short.Goals as goal

pub put_few-behind-requires-clause-room : goal.put_few-behind-requires-clause-room
put_few-behind-requires-clause-room c =
    omega (arith, c.requires.room, two_more c.args.number c.if-number-lt100.false c.ranges.number.fits)

pub put_pair-requires-clause-room : goal.put_pair-requires-clause-room
put_pair-requires-clause-room c =
    omega (arith, c.requires.room, c.put_few-behind.ensures.next, two_more c.args.number c.if-number-lt100.false c.ranges.number.fits)

pub returns-clause-next : goal.returns-clause-next
returns-clause-next c =
    omega (
      arith,
      c.put_few-behind.ensures.next,
      c.put_pair.ensures.next,
      two_more c.args.number c.if-number-lt100.false
          c.ranges.number.fits,
    )

pub returns-clause-text : goal.returns-clause-text
returns-clause-text c =
    behind (take c.args.at c.args.bytes.now) (take c.put_few-behind.result c.put_few-behind.new.bytes) _ _
    (take c.put_pair.result c.put_pair.new.bytes) c.put_few-behind.ensures.text c.put_pair.ensures.text
    ∙ ap (λ (l : List ℕ). take c.args.at c.args.bytes.now ++ l)
    (sym (pair_more c.args.number c.if-number-lt100.false c.ranges.number.fits))
