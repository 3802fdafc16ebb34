-- What is left to show of `drop_dead`.
use Rattle.std.proofs.Common.{◌≡◌, filter, rules}
use Rattle.std.proofs.lemmas.Fn.{filter_same}
use Rattle.std.specs.FinMap as map
use Rattle.lrat_checker.specs.Holders.{is_live}
use Rattle.lrat_checker.proofs.Kept.{live_filter}
use Rattle.lrat_checker.proofs.numbers.drop_dead.Goals as goal

pub returns : goal.returns
returns c =
    let live = map.remove c.args.clauses.now c.args.gone in
    let left : c.retain.new.self.items ≡ filter (is_live live) c.args.numbers.now.items = filter_same _ _ _
    (λ x b f' k. search rules) _ _ c.retain.ensures.filtered in
    rw (c.shrink.ensures, left) (live_filter live c.args.numbers.now.items)
