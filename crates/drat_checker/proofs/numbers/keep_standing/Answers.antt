-- What is left are the numbers under which clauses stand.
use Rattle.std.proofs.Common.{◌≡◌, filter, rules, sym, ◌∙◌, subst}
use Rattle.std.proofs.lemmas.Fn.{filter_same}
use Rattle.drat_checker.specs.Numbers.{AreRising, stands}
use Rattle.drat_checker.proofs.Rising.{are-filtered}
use Rattle.drat_checker.proofs.Kept.{standing_filter}
use Rattle.drat_checker.proofs.numbers.keep_standing.Goals as goal

pub returns-clause-rising : goal.returns-clause-rising
returns-clause-rising c = λ most r.
    let places = c.args.store.now in
    let left : c.retain.new.self.items ≡ filter (stands places) c.args.numbers.now.items = filter_same _ _ _
    (λ x b f' k. search rules) _ _ c.retain.ensures.filtered in
    subst (AreRising most) (sym (c.shrink.ensures ∙ left)) (are-filtered most (stands places) c.args.numbers.now.items r)

pub returns-clause-kept : goal.returns-clause-kept
returns-clause-kept c =
    let places = c.args.store.now in
    let left : c.retain.new.self.items ≡ filter (stands places) c.args.numbers.now.items = filter_same _ _ _
    (λ x b f' k. search rules) _ _ c.retain.ensures.filtered in
    rw (c.shrink.ensures, left) (standing_filter places c.args.numbers.now.items)
