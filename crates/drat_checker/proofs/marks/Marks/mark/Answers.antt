-- A literal that is marked already, or one more.
use Rattle.std.proofs.Common.{◌||◌, ℤ, int_eq, List, sym, ◌∙◌, ap, subst}
use Rattle.drat_checker.specs.Hints.{AreMarks}
use Rattle.drat_checker.proofs.Hinted.{marks-push}
use Rattle.drat_checker.proofs.marks.Marks.mark.Goals as goal

pub invariant_of-self-2 : goal.invariant_of-self-2
invariant_of-self-2 c =
    subst (λ (l : List ℤ). AreMarks c.set.new.self l) (sym c.in_ok-push.ensures.items)
    (marks-push c.self.invariant c.args.literal
    (λ y. c.set.ensures.set y ∙ ap (λ b. int_eq y c.args.literal || b) (c.reserve.ensures.same y)))
