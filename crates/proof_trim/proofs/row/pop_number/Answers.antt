-- What is left to show of `pop_number`.
use Rattle.proof_trim.specs.Row.{numbers, numbers_behind}
use Rattle.proof_trim.proofs.Rows.{digit_taken, none_taken, number_taken}
use Rattle.proof_trim.proofs.row.pop_number.Goals as goal
use Rattle.std.proofs.Common.{ap}

pub digits-preserved : goal.digits-preserved
digits-preserved c =
    digit_taken c.digits.number c.in-Some.byte c.with_digit-number.result c.digits.bytes c.pop.new.self
    (numbers_behind c.args.begun c.args.bytes.now)
    c.digits.invariant c.in-Some.ensures.some c.if-byte-lt128.false c.with_digit-number.ensures

pub returns-then-byte-lt128-clause-some : goal.returns-then-byte-lt128-clause-some
returns-then-byte-lt128-clause-some c =
    number_taken c.digits.number c.in-Some.byte c.with_digit.result c.digits.bytes c.pop.new.self
    (numbers_behind c.args.begun c.args.bytes.now)
    c.digits.invariant c.in-Some.ensures.some c.if-byte-lt128.true c.with_digit.ensures

pub returns-in-None-clause-none : goal.returns-in-None-clause-none
returns-in-None-clause-none c = none_taken c.digits.number c.digits.bytes (numbers_behind c.args.begun c.args.bytes.now) c.digits.invariant
    c.in-None.ensures.none

pub returns-in-None-clause-left : goal.returns-in-None-clause-left
returns-in-None-clause-left c = ap numbers c.in-None.ensures.left
