-- What is left to show of `IndexedClauses::walk`.
use Rattle.std.proofs.Common.{◌≡◌, neg_ℤ, ap, ◌∙◌}
use Rattle.lrat_rules.specs.FalseLiterals.{set_of}
use Rattle.lrat_checker.specs.Holders.{numbers_of}
use Rattle.lrat_checker.proofs.Indexed.{index_settles}
use Rattle.lrat_checker.proofs.live.IndexedClauses.walk.Goals as goal

pub returns-then-self : goal.returns-then-self
returns-then-self c =
    let holders = c.self.inside.holders in
    let walked : c.numbers-numbers.result.now ≡ numbers_of holders (neg_ℤ c.args.pivot) = c.numbers-numbers.ensures
    ∙ ap (numbers_of holders) c.negated.ensures in
    rw (
      ← c.self.view_is,
      ← index_settles holders c.self.inside.clauses (set_of c.args.chain.now) c.args.pivot c.args.groups.now
          (c.self.invariant.index c.if-self.true),
      ← walked,
    ) c.each_settled.ensures
