-- No literal was marked before.
use Rattle.std.proofs.Common.{◌||◌, ℤ, List, ap, ◌∙◌}
use Rattle.lrat_rules.specs.Chain.{literals_of}
use Rattle.drat_checker.proofs.Lifts.{on-ok}
use Rattle.drat_checker.proofs.marks.mark_clause.Goals as goal

pub returns : goal.returns
returns c =
    on-ok c.mark_all.result (λ h. record {
      same = λ x. h x ∙ ap (λ (l : List ℤ). literals_of l x || literals_of c.args.clause.now x) c.clear.ensures;
    }) c.mark_all.ensures.sets
