-- What is left to show of `Front::push_literal`.
use Rattle.std.proofs.Common.{◌≡◌, ◌<◌, ◌+◌, ◌++◌, ◌∷◌, [], ℕ, false, length, arith, sym, ap, subst}
use Rattle.std.specs.Prelude.{nat_abs, slice_set}
use Rattle.std.specs.Int.{is_negative}
use Rattle.cnf_base.specs.Cube.{is_denied}
use Rattle.cnf_base.specs.Formula.{Draft}
use Rattle.dimacs_reader.specs.Cnf.{literals_of, max_literals}
use Rattle.cube_text.specs.CubeReader.{IsFront, stamp}
use Rattle.cube_text.proofs.Fronts.{literal_added}
use Rattle.cube_text.proofs.read.Front.push_literal.Goals as goal

pub invariant_of-self-2 : goal.invariant_of-self-2
invariant_of-self-2 c =
    let same : literals_of c.self.inside.builder ≡ literals_of c.args.self.now = ap literals_of c.self.view_is in
    let room : c.self.inside.literals < max_literals = omega (arith, c.requires.room, same, c.self.invariant.literals_are) in
    let free : is_denied c.args.literal c.self.inside.builder.begun ≡ false =
    subst (λ (d : Draft). is_denied c.args.literal d.begun ≡ false) (sym c.self.view_is) c.requires.consistent in
    let variable : c.var-variable.result ≡ nat_abs c.args.literal = c.var-variable.ensures.value in
    let reached : c.var-variable.result < length c.reach.new.stamps.items = c.in_ok-reach.ensures.ok in
    let inside : nat_abs c.args.literal < length c.reach.new.stamps.items = omega (arith, reached, variable) in
    let range = c.var-variable.ensures.range in
    let some : 0 < nat_abs c.args.literal = omega (arith, range, variable) in
    let mark : c.stamp_of-stamp.result ≡ stamp c.self.inside.ended (is_negative c.args.literal) = cc in
    let front = literal_added {vars = c.self.inside.vars} c.reach.new.stamps.items c.args.literal c.reach.ensures.same inside some room free
    c.self.invariant in
    subst (λ (d : Draft). IsFront c.self.inside.vars c.self.inside.ended (c.self.inside.begun + 1) (c.self.inside.literals + 1) d
    (slice_set c.reach.new.stamps.items c.var-variable.result c.stamp_of-stamp.result)) (sym c.in_ok-push_lit.ensures.ok)
    (subst (λ (n : ℕ). IsFront c.self.inside.vars c.self.inside.ended (c.self.inside.begun + 1) (c.self.inside.literals + 1)
    (record c.self.inside.builder { begun = c.self.inside.builder.begun ++ c.args.literal ∷ [] })
    (slice_set c.reach.new.stamps.items n c.stamp_of-stamp.result)) (sym variable)
    (subst (λ (m : ℕ). IsFront c.self.inside.vars c.self.inside.ended (c.self.inside.begun + 1) (c.self.inside.literals + 1)
    (record c.self.inside.builder { begun = c.self.inside.builder.begun ++ c.args.literal ∷ [] })
    (slice_set c.reach.new.stamps.items (nat_abs c.args.literal) m)) (sym mark) front))
