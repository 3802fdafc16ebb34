-- A number that isn't the last one yet comes behind the others, which are lesser then.
use Rattle.std.proofs.Common.{◌≡◌, false, ℕ, List, sym, ◌∙◌, subst}
use Rattle.drat_checker.specs.Numbers.{AreRising, ends_with}
use Rattle.drat_checker.proofs.Lifts.{by-result}
use Rattle.drat_checker.proofs.Rising.{are-pushed}
use Rattle.drat_checker.proofs.numbers.Numbers.push_once.Goals as goal

pub returns-clause-rising : goal.returns-clause-rising
returns-clause-rising c = λ r.
    let old = c.args.self.now in
    let other : ends_with c.args.number old ≡ false =
    subst (λ (l : List ℕ). ends_with c.args.number l ≡ false) (c.as_slice.ensures.value ∙ c.self.view_is)
    (sym c.ends_with.ensures.last ∙ c.if-ends_with.false) in
    by-result c.push.result
    (λ is. subst (AreRising c.args.number) (sym is) (are-pushed c.args.number old r other))
    (λ is. subst (AreRising c.args.number) (sym is) r) c.push.ensures.ok c.push.ensures.err
