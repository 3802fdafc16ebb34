-- One literal more, and the end.
use Rattle.std.proofs.Common.{◌||◌, ℤ, List, ap, ◌∙◌}
use Rattle.std.proofs.lemmas.Bool.{or_right}
use Rattle.std.proofs.lemmas.List.{take_all}
use Rattle.lrat_rules.specs.Chain.{literals_of}
use Rattle.drat_checker.proofs.Hinted.{marked-kept, marked-more, marked-none}
use Rattle.drat_checker.proofs.marks.Marks.mark_all.Goals as goal

pub loop-literal-init : goal.loop-literal-init
loop-literal-init c = record { kept = λ x m. m; sets = λ x. marked-none (literals_of c.args.self.now x) }

pub loop-literal-preserved : goal.loop-literal-preserved
loop-literal-preserved c =
    let old = c.loop-literal.self in
    let x = c.literal-item.result in
    let is = c.in_ok-mark.ensures.ok in
    record {
      kept = λ y m. marked-kept old c.mark.new.self x is y (c.loop-literal.invariant.kept y m);
      sets = λ y. marked-more c.args.self.now old c.mark.new.self c.args.clause.now c.loop-literal.literal-index x is
          c.loop-literal-test.true c.literal-item.is y (c.loop-literal.invariant.sets y);
    }

pub returns-clause-sets : goal.returns-clause-sets
returns-clause-sets c = λ x.
    c.loop-literal.invariant.sets x
    ∙ ap (λ (l : List ℤ). literals_of c.args.self.now x || literals_of l x)
    (take_all c.loop-literal.literal-index c.args.clause.now c.loop-literal-test.false)

pub returns-clause-marked : goal.returns-clause-marked
returns-clause-marked c = λ x m.
    c.loop-literal.invariant.sets x
    ∙ ap (λ (l : List ℤ). literals_of c.args.self.now x || literals_of l x)
    (take_all c.loop-literal.literal-index c.args.clause.now c.loop-literal-test.false)
    ∙ or_right (literals_of c.args.self.now x) _ m
