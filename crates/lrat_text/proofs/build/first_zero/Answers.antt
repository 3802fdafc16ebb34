-- The first zero parts the numbers.
use Rattle.std.proofs.Common.{◌∙◌, sym, arith, add-one}
use Rattle.lrat_text.proofs.Zero.{zero_here, no_zero, all_before}
use Rattle.lrat_text.proofs.build.first_zero.Goals as goal

pub returns-then-is_zero_at-clause-split : goal.returns-then-is_zero_at-clause-split
returns-then-is_zero_at-clause-split c = rw (add-one c.loop-place.place)
    (zero_here c.args.numbers.now c.loop-place.place c.loop-place.invariant.before c.loop-place-test.true (sym c.is_zero_at.ensures
    ∙ c.if-is_zero_at.true))

pub returns-clause-split : goal.returns-clause-split
returns-clause-split c = no_zero c.args.numbers.now (all_before c.args.numbers.now c.loop-place.place c.loop-place.invariant.before (omega arith))
