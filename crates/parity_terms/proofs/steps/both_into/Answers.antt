-- What is left to show of `both_into`.
use Rattle.std.proofs.Common.{◌∷◌, ◌&&◌, List, arith, refl}
use Rattle.bdd_terms.specs.declared.held.HeldTerm.{HeldTerm}
use Rattle.bdd_terms.specs.Runner.{holds_in}
use Rattle.parity_terms.proofs.Stepped.{step_behind}
use Rattle.parity_terms.proofs.Joined.{full_released}
use Rattle.parity_terms.proofs.Owned.{owned_good}
use Rattle.parity_terms.proofs.Stepped.{among_given, owns_behind, runner_behind, takes_released}
use Rattle.parity_terms.specs.Steps.{with_given}
use Rattle.parity_terms.proofs.steps.both_into.Goals as goal
use Rattle.parity_terms.proofs.Bounded.{bounded_of, bounded_released, released_top}
use Rattle.parity_terms.proofs.Taken.{takes_of}

pub meet-both-requires-clause-second : goal.meet-both-requires-clause-second
meet-both-requires-clause-second g c =
    owned_good c.args.v.held (c.args.v.held ∷ c.requires.second.rest) c.args.runner.now.terms.out.items c.requires.second.owns
    (0, omega arith, refl)

pub release-requires-clause-runner : goal.release-requires-clause-runner
release-requires-clause-runner g c on =
    let terms : List HeldTerm = c.args.v.held ∷ c.requires.second.rest in
    runner_behind c.args.runner.now c.meet-both.new.self (λ a. holds_in c.args.runner.now c.args.u.now.held a && holds_in
    c.args.runner.now c.args.v.held a) terms c.meet-both.result (takes_of c.args.runner.now c.meet-both.new.self terms c.requires.second.owns _ _ c.meet-both.ensures.takes) on

pub release-requires-clause-good : goal.release-requires-clause-good
release-requires-clause-good g c on =
    let terms : List HeldTerm = c.args.v.held ∷ c.requires.second.rest in
    let mid = c.meet-both.new.self in
    let takes = takes_of c.args.runner.now c.meet-both.new.self terms c.requires.second.owns _ _ c.meet-both.ensures.takes in
    owned_good c.args.v.held (with_given terms c.meet-both.result) mid.terms.out.items
    (owns_behind c.args.runner.now mid (λ a. holds_in c.args.runner.now c.args.u.now.held a && holds_in c.args.runner.now c.args.v.held a)
    terms c.meet-both.result takes on)
    (among_given c.args.runner.now mid (λ a. holds_in c.args.runner.now c.args.u.now.held a && holds_in c.args.runner.now c.args.v.held a)
    terms c.meet-both.result c.args.v.held (0, omega arith, refl))

pub returns-clause-takes : goal.returns-clause-takes
returns-clause-takes g c terms owns =
    takes_released c.steps_law.ensures c.args.runner.now c.meet-both.new.self c.release.new.self c.args.v.held terms
    (λ a. holds_in c.args.runner.now c.args.u.now.held a && holds_in c.args.runner.now c.args.v.held a)
    c.release.ensures.releases c.release.ensures.torn c.meet-both.result (takes_of c.args.runner.now c.meet-both.new.self (c.args.v.held ∷ terms) owns _ _ c.meet-both.ensures.takes)

pub returns-clause-full : goal.returns-clause-full
returns-clause-full g c is =
    let terms : List HeldTerm = c.args.v.held ∷ c.requires.second.rest in
    full_released c.args.v.held c.meet-both.new.self c.release.new.self
    (c.release.ensures.releases (step_behind terms _ c.args.runner.now c.meet-both.new.self c.meet-both.result
    (takes_of c.args.runner.now c.meet-both.new.self terms c.requires.second.owns _ _ c.meet-both.ensures.takes) is))
    (c.meet-both.ensures.takes.full is)

pub returns-clause-bounds : goal.returns-clause-bounds
returns-clause-bounds g c terms owns =
    bounded_released (c.args.v.held ∷ terms)
    (λ a. holds_in c.args.runner.now c.args.u.now.held a && holds_in c.args.runner.now c.args.v.held a) c.args.runner.now
    c.meet-both.new.self c.release.new.self c.meet-both.result
    (released_top c.args.v.held c.meet-both.new.self c.release.new.self c.release.ensures.releases c.release.ensures.torn)
    (bounded_of (c.args.v.held ∷ terms) (λ a. holds_in c.args.runner.now c.args.u.now.held a && holds_in c.args.runner.now c.args.v.held a) c.args.runner.now c.requires.runner owns c.meet-both.new.self c.meet-both.result c.meet-both.ensures.costs)
