-- What is left to show of `sum_into`.
use Rattle.std.proofs.Common.{◌∷◌, List, arith, refl}
use Rattle.bdd_terms.specs.declared.held.HeldTerm.{HeldTerm}
use Rattle.parity_nodes.specs.Sums.{sum_is}
use Rattle.parity_terms.proofs.Stepped.{step_behind}
use Rattle.parity_terms.proofs.Joined.{full_released}
use Rattle.parity_terms.proofs.Owned.{owned_good}
use Rattle.parity_terms.proofs.Stepped.{among_given, owns_behind, runner_behind, takes_released}
use Rattle.parity_terms.specs.Steps.{with_given}
use Rattle.parity_terms.proofs.steps.sum_into.Goals as goal
use Rattle.parity_terms.proofs.Bounded.{bounded_released, released_top}

pub sum_of-sum-requires-clause-owned : goal.sum_of-sum-requires-clause-owned
sum_of-sum-requires-clause-owned g c = record { terms = c.args.u.held ∷ c.requires.owned.rest; owns = c.requires.owned.owns }

pub sum_of-sum-requires-clause-good : goal.sum_of-sum-requires-clause-good
sum_of-sum-requires-clause-good g c =
    owned_good c.args.u.held (c.args.u.held ∷ c.requires.owned.rest) c.args.runner.now.terms.out.items c.requires.owned.owns
    (0, omega arith, refl)

pub release-requires-clause-runner : goal.release-requires-clause-runner
release-requires-clause-runner g c on =
    let terms : List HeldTerm = c.args.u.held ∷ c.requires.owned.rest in
    runner_behind c.args.runner.now c.sum_of-sum.new.runner (sum_is c.args.bit c.args.variables.now) terms c.sum_of-sum.result
    (c.sum_of-sum.ensures.takes terms c.requires.owned.owns) on

pub release-requires-clause-good : goal.release-requires-clause-good
release-requires-clause-good g c on =
    let terms : List HeldTerm = c.args.u.held ∷ c.requires.owned.rest in
    let mid = c.sum_of-sum.new.runner in
    let takes = c.sum_of-sum.ensures.takes terms c.requires.owned.owns in
    owned_good c.args.u.held (with_given terms c.sum_of-sum.result) mid.terms.out.items
    (owns_behind c.args.runner.now mid (sum_is c.args.bit c.args.variables.now)
    terms c.sum_of-sum.result takes on)
    (among_given c.args.runner.now mid (sum_is c.args.bit c.args.variables.now)
    terms c.sum_of-sum.result c.args.u.held (0, omega arith, refl))

pub returns-clause-takes : goal.returns-clause-takes
returns-clause-takes g c terms owns =
    takes_released c.steps_law.ensures c.args.runner.now c.sum_of-sum.new.runner c.release.new.self c.args.u.held terms
    (sum_is c.args.bit c.args.variables.now)
    c.release.ensures.releases c.release.ensures.torn c.sum_of-sum.result (c.sum_of-sum.ensures.takes (c.args.u.held ∷ terms) owns)

pub returns-clause-full : goal.returns-clause-full
returns-clause-full g c is =
    let terms : List HeldTerm = c.args.u.held ∷ c.requires.owned.rest in
    full_released c.args.u.held c.sum_of-sum.new.runner c.release.new.self
    (c.release.ensures.releases (step_behind terms _ c.args.runner.now c.sum_of-sum.new.runner c.sum_of-sum.result
    (c.sum_of-sum.ensures.takes terms c.requires.owned.owns) is))
    (c.sum_of-sum.ensures.full is)

pub returns-clause-bounds : goal.returns-clause-bounds
returns-clause-bounds g c terms owns =
    bounded_released (c.args.u.held ∷ terms) (sum_is c.args.bit c.args.variables.now) c.args.runner.now c.sum_of-sum.new.runner
    c.release.new.self c.sum_of-sum.result
    (released_top c.args.u.held c.sum_of-sum.new.runner c.release.new.self c.release.ensures.releases c.release.ensures.torn)
    (c.sum_of-sum.ensures.bounds (c.args.u.held ∷ terms) owns)
