-- One number more, and the end.
use Rattle.std.proofs.Common.{◌<◌, ◌≤◌, length, None, take, [], ◌∷◌, ◌++◌, sym, ap, ◌∙◌, subst, arith, length-take}
use Rattle.std.proofs.lemmas.List.{take_all, take_more}
use Rattle.drat_checker.specs.Places.{Places}
use Rattle.drat_checker.specs.Watches.{AreWatched}
use Rattle.drat_checker.proofs.Entered.{watched-none}
use Rattle.drat_checker.proofs.watches.Watches.rebuild.Goals as goal

pub loop-number-init : goal.loop-number-init
loop-number-init c = watched-none _ c.clear.ensures.items

pub enter-requires : goal.enter-requires
enter-requires c =
    omega (
      arith,
      c.loop-number.invariant.many,
      length-take c.loop-number.number c.args.db.now,
      c.in_ok-count.ensures,
      c.loop-number-test.true,
    )

pub loop-number-preserved : goal.loop-number-preserved
loop-number-preserved c =
    let places = c.args.db.now in
    let n = c.loop-number.number in
    let within : n < length places = omega (arith, c.in_ok-count.ensures, c.loop-number-test.true) in
    subst (λ (ps : Places). AreWatched c.enter.new.self ps)
    (ap (λ p. take n places ++ p ∷ []) c.clause.ensures ∙ sym (take_more places n None within))
    (c.in_ok-enter.ensures.watched (take n places) c.loop-number.invariant)

pub returns : goal.returns
returns c =
    let past : length c.args.db.now ≤ c.loop-number.number = omega (arith, c.in_ok-count.ensures, c.loop-number-test.false) in
    subst (λ (ps : Places). AreWatched c.loop-number.self ps) (take_all c.loop-number.number c.args.db.now past) c.loop-number.invariant
