-- With a minus sign and without one.
use Rattle.std.proofs.Common.{◌≡◌, ◌==◌, true, false, slice_index_or, w64, to_z, of_z, ◌+◌, arith, refl}
use Rattle.text_scan.specs.Block.{IsNumberAtFront}
use Rattle.text_scan.proofs.NumberAhead.{plain_sign, minus_sign}
use Rattle.text_scan.proofs.number.number_at_front.Goals as goal

pub returns-clause-front : goal.returns-clause-front
returns-clause-front c =
    let bytes = c.args.bytes.now in
    let start = c.from-start.result in
    let is = c.in_ok-value.ensures.front in
    let sign = c.in_ok-with_sign.ensures in
    elim (slice_index_or bytes 0 0 == 45) as (λ b. (slice_index_or bytes 0 0 == 45) ≡ b
    → IsNumberAtFront bytes (to_z w64 (of_z w64 c.in_ok-with_sign.field-0)) (start + c.in_ok-value.len)) [
      | true ↦ λ minus. minus_sign bytes start c.in_ok-value.value c.in_ok-value.len c.in_ok-with_sign.field-0
          (omega (arith, c.if-bytes-lt11.false)) (rw minus at c.from-start.ensures) minus is (sign.zero minus) (sign.other minus)
      | false ↦ λ plain. plain_sign bytes start c.in_ok-value.value c.in_ok-value.len c.in_ok-with_sign.field-0
          (rw plain at c.from-start.ensures) is (sign.plain plain)
    ] refl
