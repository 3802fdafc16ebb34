-- What is left to show of `IndexedClauses::all_named`.
use Rattle.std.proofs.Common.{◌≡◌, ◌≤◌, neg_ℤ, ◌∙◌, ap, arith}
use Rattle.std.proofs.lemmas.Bool.{leb-true}
use Rattle.lrat_rules.specs.State.{Live}
use Rattle.lrat_checker.specs.Counts.{count_of}
use Rattle.lrat_checker.specs.Walk.{name_candidates}
use Rattle.lrat_checker.proofs.Counted.{all_settled_by_count}
use Rattle.lrat_checker.proofs.live.IndexedClauses.all_named.Goals as goal

pub returns : goal.returns
returns c = λ named n.
    let counts = c.self.inside.counts in
    let is : c.of.result ≡ count_of counts (neg_ℤ c.args.pivot) = c.of.ensures ∙ ap (count_of counts) c.negated.ensures in
    let enough : count_of counts (neg_ℤ c.args.pivot) ≤ c.named_numbers.result = omega
    (arith, is, leb-true c.of.result c.named_numbers.result named) in
    rw (← c.self.view_is)
    (all_settled_by_count counts c.self.inside.clauses c.args.pivot c.args.groups.now c.named_numbers.result
    c.self.invariant.counted (ap (λ (live : Live). name_candidates live c.args.pivot c.args.groups.now) c.self.view_is ∙ c.requires)
    c.named_numbers.ensures enough n)
