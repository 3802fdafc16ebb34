-- What a reclamation leaves of the term that a call gave.
use Rattle.std.proofs.Common.{◌≡◌, true, false, ℕ, refl, subst}
use Rattle.node_table.specs.Table.{live_nodes}
use Rattle.bdd_terms.specs.Tidy.{IsTidy}
use Rattle.bdd_terms.proofs.Counted.{counting}
use Rattle.bdd_terms.proofs.Rests.{none_at_limit, rests_back}
use Rattle.bdd_terms.proofs.TidiedTerms.{costs_failed, costs_tidied, good_behind, takes_failed, takes_rest, tidied_now, top_released}
use Rattle.bdd_terms.proofs.TidiedTerms.{whole_behind}
use Rattle.bdd_terms.proofs.runner.Runner.tidy.Goals as goal

pub returns-then-is_same-clause-takes : goal.returns-then-is_same-clause-takes
returns-then-is_same-clause-takes g c holds old takes = takes

pub returns-then-is_same-clause-costs : goal.returns-then-is_same-clause-costs
returns-then-is_same-clause-costs g c holds old is_old takes costs = costs

pub returns-then-is_same-clause-given : goal.returns-then-is_same-clause-given
returns-then-is_same-clause-given g c = (refl, λ some. absurd (some (c.is_same.ensures.0 c.if-is_same.true)))

pub returns-then-is_tidy-clause-takes : goal.returns-then-is_tidy-clause-takes
returns-then-is_tidy-clause-takes g c holds old takes = takes

pub returns-then-is_tidy-clause-costs : goal.returns-then-is_tidy-clause-costs
returns-then-is_tidy-clause-costs g c holds old is_old takes costs = costs

pub returns-then-is_tidy-clause-given : goal.returns-then-is_tidy-clause-given
returns-then-is_tidy-clause-given g c = (
  refl,
  λ some. subst (λ (n : ℕ). IsTidy n c.args.self.now.terms.left) c.live.ensures (c.is_tidy.ensures.0 c.if-is_tidy.true),
)

pub returns-in-Ok-clause-takes : goal.returns-in-Ok-clause-takes
returns-in-Ok-clause-takes g c holds old takes =
    takes_rest holds old c.args.self.now c.args.term takes c.steps_law.ensures c.reclaim.new.self
    (rests_back c.args.self.now c.reclaim.new.self _ c.in-Ok.ensures)

pub returns-in-Ok-clause-costs : goal.returns-in-Ok-clause-costs
returns-in-Ok-clause-costs g c holds old is_old takes costs =
    costs_tidied holds old c.args.self.now c.args.term takes
    (counting c.canonical_law.ensures c.growth_law.ensures c.subfunction_law.ensures) is_old c.canonical_law.ensures c.reclaim.new.self _
    c.in-Ok.ensures costs

pub returns-in-Ok-clause-top : goal.returns-in-Ok-clause-top
returns-in-Ok-clause-top g c = c.in-Ok.ensures.top

pub returns-in-Ok-clause-given : goal.returns-in-Ok-clause-given
returns-in-Ok-clause-given g c = (
  refl,
  λ some. tidied_now (live_nodes c.reclaim.new.self.terms.table.graph) c.reclaim.new.self.terms.left c.in-Ok.ensures.left,
)

pub release-requires-clause-runner : goal.release-requires-clause-runner
release-requires-clause-runner g c on = whole_behind c.args.self.now c.reclaim.new.self c.in-Err.e c.in-Err.ensures on

pub release-requires-clause-good : goal.release-requires-clause-good
release-requires-clause-good g c on =
    good_behind c.args.self.now c.reclaim.new.self c.in-Err.e c.in-Err.ensures c.requires.last.0 c.args.term.held c.requires.last.1

pub returns-in-Err-clause-takes : goal.returns-in-Err-clause-takes
returns-in-Err-clause-takes g c holds old takes =
    takes_failed holds old c.args.self.now c.args.term takes c.steps_law.ensures c.reclaim.new.self c.release.new.self c.in-Err.e
    c.in-Err.ensures c.release.ensures.releases c.release.ensures.torn
    (λ is. let same : c.is_same.result ≡ true = c.is_same.ensures.1 is in let none : c.is_same.result ≡ false = c.if-is_same.false in cc)

pub returns-in-Err-clause-costs : goal.returns-in-Err-clause-costs
returns-in-Err-clause-costs g c holds old is_old takes costs =
    costs_failed holds old c.args.self.now c.args.term takes c.steps_law.ensures c.reclaim.new.self c.release.new.self c.in-Err.e
    c.in-Err.ensures c.release.ensures.releases c.release.ensures.torn
    (λ is. let same : c.is_same.result ≡ true = c.is_same.ensures.1 is in let none : c.is_same.result ≡ false = c.if-is_same.false in cc)
    _ costs

pub returns-in-Err-clause-no_node_limit : goal.returns-in-Err-clause-no_node_limit
returns-in-Err-clause-no_node_limit g c is = none_at_limit c.args.self.now c.reclaim.new.self c.in-Err.e c.in-Err.ensures is

pub returns-in-Err-clause-top : goal.returns-in-Err-clause-top
returns-in-Err-clause-top g c =
    top_released c.args.self.now c.reclaim.new.self c.release.new.self c.args.term.held c.in-Err.ensures.top c.release.ensures.releases
    c.release.ensures.torn
