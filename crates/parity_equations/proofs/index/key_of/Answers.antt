-- What is left to show of `key_of`.
use Rattle.std.proofs.Common.{◌≡◌, ◌∙◌, ℤ, pos, set, ap, arith, rules, to_z, of_z, w32, FitsSigned}
use Rattle.std.specs.Prelude.{slice_index_or}
use Rattle.std.proofs.lemmas.Int.{to_z-of_z}
use Rattle.parity_equations.proofs.Keys.{key_more, key_whole}
use Rattle.parity_equations.proofs.index.key_of.Goals as goal

pub places-preserved : goal.places-preserved
places-preserved c =
    let literals = c.args.set.now in
    let place = c.places.place in
    let literal = slice_index_or literals place (pos 0) in
    let fits : FitsSigned w32 literal = search rules in
    let read : to_z w32 (of_z w32 literal) ≡ literal = to_z-of_z w32 literal fits in
    ap (λ (z : ℤ). set c.places.key place z) read
    ∙ key_more literals c.requires place c.places.key (omega (arith, c.places-test.true, c.places.auto.place-end)) c.places.invariant

pub returns : goal.returns
returns c = key_whole c.args.set.now c.requires c.places.place c.places.key (omega (arith, c.places.auto.place-end))
    (omega (arith, c.places-test.false)) c.places.invariant
