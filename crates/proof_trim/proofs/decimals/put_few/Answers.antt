-- What is left to show of `put_few`.
use Rattle.std.proofs.Common.{ℕ, List, ◌++◌, take, sym, ap, ◌∙◌, arith}
use Rattle.std.proofs.lemmas.Fmt.{decimal_digit}
use Rattle.proof_trim.proofs.Pairs.{one_digit, pair_alone, two_digits}
use Rattle.proof_trim.proofs.decimals.put_few.Goals as goal

pub put_byte-requires : goal.put_byte-requires
put_byte-requires c = omega (arith, c.requires.room, one_digit c.args.number c.if-number-lt10.true)

pub returns-then-number-lt10-clause-next : goal.returns-then-number-lt10-clause-next
returns-then-number-lt10-clause-next c = omega (arith, c.put_byte.ensures.next, one_digit c.args.number c.if-number-lt10.true)

pub returns-then-number-lt10-clause-text : goal.returns-then-number-lt10-clause-text
returns-then-number-lt10-clause-text c =
    c.put_byte.ensures.text
    ∙ ap (λ (l : List ℕ). take c.args.at c.args.bytes.now ++ l) (sym (decimal_digit c.args.number c.if-number-lt10.true))

pub put_pair-requires-clause-room : goal.put_pair-requires-clause-room
put_pair-requires-clause-room c = omega (arith, c.requires.room, two_digits c.args.number c.if-number-lt10.false c.requires.small)

pub returns-clause-next : goal.returns-clause-next
returns-clause-next c = omega (arith, c.put_pair.ensures.next, two_digits c.args.number c.if-number-lt10.false c.requires.small)

pub returns-clause-text : goal.returns-clause-text
returns-clause-text c =
    c.put_pair.ensures.text
    ∙ ap (λ (l : List ℕ). take c.args.at c.args.bytes.now ++ l)
    (sym (pair_alone c.args.number c.if-number-lt10.false c.requires.small))
