-- What is left to show of `push_number`.
use Rattle.proof_trim.specs.Row.{numbers}
use Rattle.proof_trim.proofs.Rows.{digits_begun, digit_put, digits_put}
use Rattle.proof_trim.proofs.row.push_number.Goals as goal
use Rattle.std.proofs.Common.{◌∷◌, refl}

pub digits-init : goal.digits-init
digits-init c = digits_begun c.args.number c.args.bytes.now c.push.new.self c.ranges.number.fits c.in_ok-push.ensures

pub digits-preserved : goal.digits-preserved
digits-preserved c =
    digit_put c.digits.left _ c.digits.bytes c.push-in-digits.new.self (c.args.number ∷ numbers c.args.bytes.now)
    c.digits.auto.left-fits.fits
    c.digits.invariant refl c.in_ok-push-2.ensures

pub returns : goal.returns
returns c = digits_put c.digits.left c.digits.bytes (c.args.number ∷ numbers c.args.bytes.now) c.digits.invariant c.digits-test.false
