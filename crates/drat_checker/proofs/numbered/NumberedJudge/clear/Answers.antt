-- The clause is gone, and the roots stay where it forced none of them.
use Rattle.std.proofs.Common.{◌<◌, length, None, set, sym, ap, ◌∙◌, subst}
use Rattle.drat_checker.specs.Places.{Places}
use Rattle.drat_checker.proofs.numbered.NumberedJudge.clear.Goals as goal

pub clear-requires : goal.clear-requires
clear-requires c = subst (λ (ps : Places). c.args.number < length ps) (sym c.self.view_is) c.requires

pub invariant_of-self : goal.invariant_of-self
invariant_of-self c =
    c.lowered-self-inside.ensures c.clear.new.self c.self.inside.kept c.clear.ensures c.self.invariant

pub returns : goal.returns
returns c = c.clear.ensures ∙ ap (λ (ps : Places). set ps c.args.number None) c.self.view_is
