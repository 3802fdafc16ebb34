-- One literal more, and all.
use Rattle.std.proofs.Common.{◌≡◌, ◌∙◌, refl, ap, arith}
use Rattle.std.proofs.lemmas.List.{take_all}
use Rattle.lrat_rules.specs.Chain.{literals_of}
use Rattle.lrat_rules.specs.FalseLiterals.{before_of, set_of}
use Rattle.lrat_rules.proofs.FalseStamps.{marked_more, one_stamp}
use Rattle.lrat_rules.proofs.chain.Chain.mark_all.Goals as goal

pub loop-literal-init : goal.loop-literal-init
unfolding before_of
loop-literal-init c =
    let self = c.args.self.now in
    let one : self.group ≡ self.own = one_stamp self.own self.group _ c.requires.no_group in
    let given = self.own_given in
    record {
      set = c.requires.none;
      no_group = c.requires.no_group;
      places = λ x. refl;
      given = omega (arith, one, given);
    }

pub loop-literal-preserved : goal.loop-literal-preserved
loop-literal-preserved c = record {
  set = λ x. marked_more c.args.clause.now c.loop-literal.literal-index c.literal-item.result x (set_of c.loop-literal.self x)
      (set_of c.mark.new.self x) c.loop-literal-test.true c.literal-item.is (c.mark.ensures.set x) (c.loop-literal.invariant.set x);
  no_group = c.mark.ensures.same_group ∙ c.loop-literal.invariant.no_group;
  places = λ x. c.mark.ensures.places x ∙ c.loop-literal.invariant.places x;
  given = c.mark.ensures.given;
}

pub returns-clause-set : goal.returns-clause-set
returns-clause-set c = λ i x.
    (c.loop-literal.invariant.set x
    ∙ ap (λ l. literals_of l x) (take_all c.loop-literal.literal-index c.args.clause.now (omega (arith, c.loop-literal-test.false)))) i
