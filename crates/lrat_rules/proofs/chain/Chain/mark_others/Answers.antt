-- One literal more, and all.
use Rattle.std.proofs.Common.{◌∙◌, ap, sym, arith}
use Rattle.std.proofs.lemmas.List.{take_all}
use Rattle.lrat_rules.specs.Pass.{with_others}
use Rattle.lrat_rules.specs.FalseLiterals.{set_of}
use Rattle.lrat_rules.proofs.FalseStamps.{other_marked, other_skipped}
use Rattle.lrat_rules.proofs.chain.Chain.mark_others.Goals as goal

pub loop-literal-preserved-then-eq : goal.loop-literal-preserved-then-eq
loop-literal-preserved-then-eq c = record {
  set = λ x. other_skipped (set_of c.args.self.now) c.args.other_than c.args.clause.now c.loop-literal.literal-index c.literal-item.result x
      (set_of c.loop-literal.self x) (set_of c.loop-literal.self x) c.loop-literal-test.true c.literal-item.is (c.loop-literal.invariant.set x)
      (sym c.eq.ensures ∙ c.if-eq.true);
  same_group = c.loop-literal.invariant.same_group;
  places = c.loop-literal.invariant.places;
  given = c.loop-literal.invariant.given;
}

pub loop-literal-preserved : goal.loop-literal-preserved
loop-literal-preserved c = record {
  set = λ x. other_marked (set_of c.args.self.now) c.args.other_than c.args.clause.now c.loop-literal.literal-index c.literal-item.result x
      (set_of c.loop-literal.self x) (set_of c.mark.new.self x) c.loop-literal-test.true c.literal-item.is (c.loop-literal.invariant.set x)
      (sym c.eq.ensures ∙ c.if-eq.false) (c.mark.ensures.set x);
  same_group = c.mark.ensures.same_group ∙ c.loop-literal.invariant.same_group;
  places = λ x. c.mark.ensures.places x ∙ c.loop-literal.invariant.places x;
  given = c.mark.ensures.given;
}

pub returns-clause-set : goal.returns-clause-set
returns-clause-set c = λ x. c.loop-literal.invariant.set x
    ∙ ap (λ l. with_others (set_of c.args.self.now) c.args.other_than l x)
    (take_all c.loop-literal.literal-index c.args.clause.now (omega (arith, c.loop-literal-test.false)))
