-- What is left to show of `variables_of`.
use Rattle.std.proofs.Common.{◌<◌, nat_abs, length, take, ap, arith}
use Rattle.std.proofs.lemmas.List.{length-map, length-take-le}
use Rattle.parity_equations.proofs.equations.variables_of.Goals as goal

pub push-requires : goal.push-requires
push-requires c =
    let items = c.as_slice-literal-items.result.now in
    let i = c.literals.literal-index in
    let kept = c.literals.invariant in
    let small : i < length items = omega (arith, c.literals-test.true) in (
      omega arith,
      omega (
        arith,
        ap length kept.items,
        length-map (take i items) nat_abs,
        length-take-le i items (omega (arith, small)),
        kept.few,
        small,
      ),
    )
