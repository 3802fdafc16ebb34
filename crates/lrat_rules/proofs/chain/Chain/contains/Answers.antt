-- The stamp is the addition's own, or it isn't.
use Rattle.std.proofs.Common.{◌≡◌, ◌==◌, true, false, arith, refl}
use Rattle.std.proofs.lemmas.Bool.Decides.{nat_tests}
use Rattle.lrat_rules.specs.FalseLiterals.{set_of}
use Rattle.lrat_rules.proofs.chain.Chain.contains.Goals as goal

pub returns-then-stamp-self : goal.returns-then-stamp-self
unfolding set_of
returns-then-stamp-self c =
    let own : (c.of-stamp.result == c.args.self.now.own) ≡ true = grind (arith, nat_tests) in
    rw (← c.of-stamp.ensures, own) refl

pub returns-else-stamp-self : goal.returns-else-stamp-self
unfolding set_of
returns-else-stamp-self c =
    let other : (c.of-stamp.result == c.args.self.now.own) ≡ false = grind (arith, nat_tests) in
    rw (← c.of-stamp.ensures, other) refl
