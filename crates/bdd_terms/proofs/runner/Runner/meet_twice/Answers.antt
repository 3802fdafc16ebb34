-- The conjunction of two terms, tried once more behind a reclamation.
use Rattle.std.proofs.Common.{◌≡◌, ◌∙◌, true, false, sym}
use Rattle.bdd_terms.proofs.Rests.{Rests, nodes_whole}
use Rattle.bdd_terms.proofs.Retried.{meet_again, meet_failed, meet_once, meet_rests}
use Rattle.bdd_terms.proofs.runner.Runner.meet_twice.Given.{Over}
use Rattle.bdd_terms.proofs.runner.Runner.meet_twice.Goals as goal
use Rattle.bdd_terms.proofs.runner.Runner.meet_twice.Goals.{In_ok-reclaim}

-- behind the reclamation
rests : (g : Over) (c : In_ok-reclaim g) → Rests c.args.self.now c.reclaim.new.self
rests g c =
    let met : c.met_limit.result ≡ true = cc in
    meet_rests c.growth_law.ensures c.canonical_law.ensures c.subfunction_law.ensures c.args.self.now c.try_meet-found.new.self
    c.requires.runner c.args.u.now.held c.args.v.now.held c.requires.first c.requires.second c.try_meet-found.result
    c.try_meet-found.ensures.gives c.steps_law.ensures (c.met_limit.ensures.0 met) c.reclaim.new.self _ c.in_ok-reclaim.ensures

pub reclaim-requires : goal.reclaim-requires
reclaim-requires g c =
    let met : c.met_limit.result ≡ true = cc in
    c.try_meet-found.ensures.gives.goes_on (λ torn. nodes_whole (sym (c.met_limit.ensures.0 met) ∙ torn))

pub try_meet-requires-clause-runner : goal.try_meet-requires-clause-runner
try_meet-requires-clause-runner g c = (rests g (goal.at.try_meet-requires-clause-runner g c).In_ok-reclaim).runner

pub try_meet-requires-clause-first : goal.try_meet-requires-clause-first
try_meet-requires-clause-first g c =
    (rests g (goal.at.try_meet-requires-clause-first g c).In_ok-reclaim).keeps.good c.args.u.now.held c.requires.first

pub try_meet-requires-clause-second : goal.try_meet-requires-clause-second
try_meet-requires-clause-second g c =
    (rests g (goal.at.try_meet-requires-clause-second g c).In_ok-reclaim).keeps.good c.args.v.now.held c.requires.second

pub returns-then-not-met_limit-clause-takes : goal.returns-then-not-met_limit-clause-takes
returns-then-not-met_limit-clause-takes g c =
    let within : c.met_limit.result ≡ false = cc in
    (meet_once c.growth_law.ensures c.canonical_law.ensures c.subfunction_law.ensures c.args.self.now c.try_meet-found.new.self
    c.requires.runner c.args.u.now.held c.args.v.now.held c.requires.first c.requires.second c.try_meet-found.result
    c.try_meet-found.ensures.gives (λ is. let met : c.met_limit.result ≡ true = c.met_limit.ensures.1 is in cc)).0

pub returns-in_err-reclaim-clause-takes : goal.returns-in_err-reclaim-clause-takes
returns-in_err-reclaim-clause-takes g c =
    let met : c.met_limit.result ≡ true = cc in
    (meet_failed c.growth_law.ensures c.canonical_law.ensures c.subfunction_law.ensures c.args.self.now c.try_meet-found.new.self
    c.requires.runner c.args.u.now.held c.args.v.now.held c.requires.first c.requires.second c.try_meet-found.result
    c.try_meet-found.ensures.gives c.steps_law.ensures (c.met_limit.ensures.0 met) c.reclaim.new.self c.in_err-reclaim.field-0.0
    c.in_err-reclaim.ensures _ c.from_residual.ensures.1).0

pub returns-clause-takes : goal.returns-clause-takes
returns-clause-takes g c =
    let met : c.met_limit.result ≡ true = cc in
    (meet_again c.growth_law.ensures c.canonical_law.ensures c.subfunction_law.ensures c.args.self.now c.try_meet-found.new.self
    c.requires.runner c.args.u.now.held c.args.v.now.held c.requires.first c.requires.second c.try_meet-found.result
    c.try_meet-found.ensures.gives c.steps_law.ensures (c.met_limit.ensures.0 met) c.reclaim.new.self _ c.in_ok-reclaim.ensures
    c.try_meet.new.self c.try_meet.result c.try_meet.ensures.gives).0

pub returns-then-not-met_limit-clause-costs : goal.returns-then-not-met_limit-clause-costs
returns-then-not-met_limit-clause-costs g c =
    let within : c.met_limit.result ≡ false = cc in
    (meet_once c.growth_law.ensures c.canonical_law.ensures c.subfunction_law.ensures c.args.self.now c.try_meet-found.new.self
    c.requires.runner c.args.u.now.held c.args.v.now.held c.requires.first c.requires.second c.try_meet-found.result
    c.try_meet-found.ensures.gives (λ is. let met : c.met_limit.result ≡ true = c.met_limit.ensures.1 is in cc)).1

pub returns-in_err-reclaim-clause-costs : goal.returns-in_err-reclaim-clause-costs
returns-in_err-reclaim-clause-costs g c =
    let met : c.met_limit.result ≡ true = cc in
    (meet_failed c.growth_law.ensures c.canonical_law.ensures c.subfunction_law.ensures c.args.self.now c.try_meet-found.new.self
    c.requires.runner c.args.u.now.held c.args.v.now.held c.requires.first c.requires.second c.try_meet-found.result
    c.try_meet-found.ensures.gives c.steps_law.ensures (c.met_limit.ensures.0 met) c.reclaim.new.self c.in_err-reclaim.field-0.0
    c.in_err-reclaim.ensures _ c.from_residual.ensures.1).1

pub returns-clause-costs : goal.returns-clause-costs
returns-clause-costs g c =
    let met : c.met_limit.result ≡ true = cc in
    (meet_again c.growth_law.ensures c.canonical_law.ensures c.subfunction_law.ensures c.args.self.now c.try_meet-found.new.self
    c.requires.runner c.args.u.now.held c.args.v.now.held c.requires.first c.requires.second c.try_meet-found.result
    c.try_meet-found.ensures.gives c.steps_law.ensures (c.met_limit.ensures.0 met) c.reclaim.new.self _ c.in_ok-reclaim.ensures
    c.try_meet.new.self c.try_meet.result c.try_meet.ensures.gives).1
