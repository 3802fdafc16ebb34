-- One more digit: the value stays below the power of ten of their number.
use Rattle.std.proofs.Common.{◌≡◌, ◌+◌, ◌*◌, ◌<◌, ◌≤◌, ◌^◌, true, false, ℕ, length, get_or, arith, rules, add-one, ◌∙◌, pow-suc}
use Rattle.std.proofs.Common.{refl, ap}
use Rattle.std.proofs.Math.Nat.{pow-le-pow_right}
use Rattle.cnf_base.specs.Number.{is_digit}
use Rattle.text_scan.specs.Capped.{cap}
use Rattle.text_scan.proofs.NumberAhead.{digits_more, value_more}
use Rattle.text_scan.proofs.number.digits_up_to.Goals as goal

digit_power : (value digit len : ℕ) → value < 10 ^ len → digit ≤ 9 → 10 * value + digit < 10 ^ (len + 1)
digit_power value digit len small most =
    let next : 10 ^ (len + 1) ≡ 10 ^ len * 10 = rw (add-one len) (pow-suc 10 len) in
    omega (arith, most, small, next)

small_digit : (byte digit : ℕ) → (is_digit byte ≡ false → 9 < digit) → digit ≤ 9 → is_digit byte ≡ true
small_digit byte digit other most =
    elim (is_digit byte) as (λ b. (b ≡ false → 9 < digit) → b ≡ true) [
      | true ↦ λ _. refl
      | false ↦ λ above. absurd (omega (arith, most, above refl))
    ] other

below_cap : (value len : ℕ) → value < 10 ^ len → len ≤ 18 → value < cap
below_cap value len small short =
    let power : 10 ^ len ≤ 10 ^ 18 = pow-le-pow_right {n = 10} (omega arith) {i = len} {j = 18} short in omega (arith, small, power)

below_tenth : (value len : ℕ) → value < 10 ^ len → len < 18 → value < 100000000000000000
below_tenth value len small short =
    let power : 10 ^ len ≤ 10 ^ 17 = pow-le-pow_right {n = 10} (omega arith) {i = len} {j = 17} (omega (arith, short)) in
    omega (arith, small, power)

pub overflow_mul-value : goal.overflow_mul-value
overflow_mul-value c =
    let tenth = below_tenth c.loop-len.value c.loop-len.len c.loop-len.invariant.small
    (omega (arith, c.loop-len-test.true, c.requires.short)) in
    search rules

pub overflow_add-value : goal.overflow_add-value
overflow_add-value c =
    let tenth = below_tenth c.loop-len.value c.loop-len.len c.loop-len.invariant.small
    (omega (arith, c.loop-len-test.true, c.requires.short)) in
    search rules

pub loop-len-preserved : goal.loop-len-preserved
loop-len-preserved c =
    let before : c.loop-len.len < c.args.most = c.loop-len-test.true in
    let within : c.loop-len.len < length c.args.bytes.now = omega (arith, before, c.requires.within) in
    let most : c.digit_of-digit.result ≤ 9 = omega (arith, c.if-digit-gt9.false) in
    let digit : is_digit (get_or c.args.bytes.now c.loop-len.len 0) ≡ true =
    small_digit (get_or c.args.bytes.now c.loop-len.len 0) c.digit_of-digit.result c.digit_of-digit.ensures.other most in
    record {
      range = omega (arith, before);
      digits = digits_more c.args.bytes.now c.loop-len.len within c.loop-len.invariant.digits digit;
      value = ap (λ n. 10 * c.loop-len.value + n) (c.digit_of-digit.ensures.digit digit)
          ∙ value_more c.args.bytes.now c.loop-len.len c.loop-len.value within c.loop-len.invariant.value;
      small = digit_power c.loop-len.value c.digit_of-digit.result c.loop-len.len c.loop-len.invariant.small most;
    }

pub returns-then-digit-gt9-clause-small : goal.returns-then-digit-gt9-clause-small
returns-then-digit-gt9-clause-small c =
    below_cap c.loop-len.value c.loop-len.len c.loop-len.invariant.small
    (omega (arith, c.loop-len.invariant.range, c.requires.short))

pub returns-clause-small : goal.returns-clause-small
returns-clause-small c =
    below_cap c.loop-len.value c.loop-len.len c.loop-len.invariant.small
    (omega (arith, c.loop-len.invariant.range, c.requires.short))
