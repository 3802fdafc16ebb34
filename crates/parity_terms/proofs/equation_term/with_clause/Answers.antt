-- What is left to show of `with_clause`.
use Rattle.std.proofs.Common.{◌∷◌, ◌&&◌, List, Ok, Err, refl, arith}
use Rattle.cnf_base.specs.Truth.{Assignment}
use Rattle.node_table.specs.HandedOn.{no_error}
use Rattle.schedule_plan.specs.Plan.{input as input_term, term_holds}
use Rattle.bdd_terms.specs.declared.held.HeldTerm.{HeldTerm}
use Rattle.bdd_terms.specs.Runner.{holds_in}
use Rattle.parity_terms.specs.Steps.{with_given}
use Rattle.parity_terms.proofs.Stepped.{step_behind}
use Rattle.parity_terms.proofs.Joined.{full_released, joins_both, joins_error}
use Rattle.parity_terms.proofs.Owned.{owned_good}
use Rattle.parity_terms.proofs.Stepped.{among_given, owns_behind, runner_behind, takes_released}
use Rattle.parity_terms.proofs.Taken.{keeps_fewer, takes_of}
use Rattle.parity_terms.proofs.equation_term.with_clause.Goals as goal
use Rattle.std.specs.Prelude.{◌-◌, [], slice_index_or}
use Rattle.parity_terms.proofs.Bounded.{bounded_of, released_top}
use Rattle.parity_terms.proofs.JoinBounds.{join_refused, joined}

pub release-requires-clause-runner : goal.release-requires-clause-runner
release-requires-clause-runner g c on =
    let terms : List HeldTerm = c.args.term.held ∷ c.requires.owned.rest in
    runner_behind c.args.runner.now c.term.new.self _ terms (Err c.in-Err.error) (takes_of c.args.runner.now c.term.new.self terms c.requires.owned.owns _ _ c.in-Err.ensures.takes)
    on

pub release-requires-clause-good : goal.release-requires-clause-good
release-requires-clause-good g c on =
    let terms : List HeldTerm = c.args.term.held ∷ c.requires.owned.rest in
    owned_good c.args.term.held terms c.term.new.self.terms.out.items
    (owns_behind c.args.runner.now c.term.new.self _ terms (Err c.in-Err.error) (takes_of c.args.runner.now c.term.new.self terms c.requires.owned.owns _ _ c.in-Err.ensures.takes)
    on)
    (0, omega arith, refl)

pub returns-in-Err-clause-joins : goal.returns-in-Err-clause-joins
returns-in-Err-clause-joins g c terms owns =
    let one = λ (a : Assignment). term_holds c.args.runner.now.formula.now a (input_term c.args.number) in
    joins_error c.steps_law.ensures terms c.args.runner.now c.term.new.self c.release.new.self one one _ c.in-Err.error
    (takes_released c.steps_law.ensures c.args.runner.now c.term.new.self c.release.new.self c.args.term.held terms one
    c.release.ensures.releases c.release.ensures.torn (Err c.in-Err.error) (takes_of c.args.runner.now c.term.new.self (c.args.term.held ∷ terms) owns _ _ c.in-Err.ensures.takes))

pub returns-in-Err-clause-full : goal.returns-in-Err-clause-full
returns-in-Err-clause-full g c is =
    let terms : List HeldTerm = c.args.term.held ∷ c.requires.owned.rest in
    full_released c.args.term.held c.term.new.self c.release.new.self
    (c.release.ensures.releases (step_behind terms _ c.args.runner.now c.term.new.self (Err c.in-Err.error)
    (takes_of c.args.runner.now c.term.new.self terms c.requires.owned.owns _ _ c.in-Err.ensures.takes) is))
    (c.in-Err.ensures.takes.full is)

pub both_into-both-requires-clause-runner : goal.both_into-both-requires-clause-runner
both_into-both-requires-clause-runner g c =
    (takes_of c.args.runner.now c.term.new.self (c.args.term.held ∷ c.requires.owned.rest) c.requires.owned.owns _ _ c.in-Ok.ensures.takes).goes_on no_error

pub both_into-both-requires-clause-first : goal.both_into-both-requires-clause-first
both_into-both-requires-clause-first g c =
    let terms : List HeldTerm = c.args.term.held ∷ c.requires.owned.rest in
    owned_good c.args.term.held (c.in-Ok.clause.held ∷ terms) c.term.new.self.terms.out.items
    ((takes_of c.args.runner.now c.term.new.self terms c.requires.owned.owns _ _ c.in-Ok.ensures.takes).owns no_error) (1, omega arith, refl)

pub both_into-both-requires-clause-second : goal.both_into-both-requires-clause-second
both_into-both-requires-clause-second g c = record {
  rest = c.args.term.held ∷ c.requires.owned.rest;
  owns = (takes_of c.args.runner.now c.term.new.self (c.args.term.held ∷ c.requires.owned.rest) c.requires.owned.owns _ _ c.in-Ok.ensures.takes).owns no_error;
}

pub release-requires-in-Ok-clause-runner : goal.release-requires-in-Ok-clause-runner
release-requires-in-Ok-clause-runner g c on =
    let terms : List HeldTerm = c.args.term.held ∷ c.requires.owned.rest in
    runner_behind c.term.new.self c.both_into-both.new.runner _ terms c.both_into-both.result
    (c.both_into-both.ensures.takes terms ((takes_of c.args.runner.now c.term.new.self terms c.requires.owned.owns _ _ c.in-Ok.ensures.takes).owns no_error)) on

pub release-requires-in-Ok-clause-good : goal.release-requires-in-Ok-clause-good
release-requires-in-Ok-clause-good g c on =
    let terms : List HeldTerm = c.args.term.held ∷ c.requires.owned.rest in
    let takes = c.both_into-both.ensures.takes terms ((takes_of c.args.runner.now c.term.new.self terms c.requires.owned.owns _ _ c.in-Ok.ensures.takes).owns no_error) in
    owned_good c.args.term.held (with_given terms c.both_into-both.result) c.both_into-both.new.runner.terms.out.items
    (owns_behind c.term.new.self c.both_into-both.new.runner _ terms c.both_into-both.result takes on)
    (among_given c.term.new.self c.both_into-both.new.runner
    (λ a. holds_in c.term.new.self c.args.term.held a && holds_in c.term.new.self c.in-Ok.clause.held a) terms
    c.both_into-both.result c.args.term.held (0, omega arith, refl))

pub returns-in-Ok-clause-joins : goal.returns-in-Ok-clause-joins
returns-in-Ok-clause-joins g c terms owns =
    let old = c.args.runner.now in
    let mid = c.term.new.self in
    let first = (takes_of c.args.runner.now c.term.new.self (c.args.term.held ∷ terms) owns _ _ c.in-Ok.ensures.takes) in
    let keeps = first.keeps no_error in
    let both = λ (a : Assignment). holds_in mid c.args.term.held a && holds_in mid c.in-Ok.clause.held a in
    joins_both c.steps_law.ensures terms old mid c.release-in-Ok.new.self both both
    (λ a. holds_in old c.args.term.held a && term_holds old.formula.now a (input_term c.args.number)) c.in-Ok.clause
    (keeps_fewer c.args.term.held terms old mid keeps) first.leaves
    (λ a i. keeps.values c.args.term.held (0, omega arith, refl) a i && first.value a i) c.both_into-both.result
    (takes_released c.steps_law.ensures mid c.both_into-both.new.runner c.release-in-Ok.new.self c.args.term.held terms both
    c.release-in-Ok.ensures.releases c.release-in-Ok.ensures.torn c.both_into-both.result
    (c.both_into-both.ensures.takes (c.args.term.held ∷ terms) (first.owns no_error)))

pub returns-in-Ok-clause-full : goal.returns-in-Ok-clause-full
returns-in-Ok-clause-full g c is =
    let terms : List HeldTerm = c.args.term.held ∷ c.requires.owned.rest in
    full_released c.args.term.held c.both_into-both.new.runner c.release-in-Ok.new.self
    (c.release-in-Ok.ensures.releases (step_behind terms _ c.term.new.self c.both_into-both.new.runner c.both_into-both.result
    (c.both_into-both.ensures.takes terms ((takes_of c.args.runner.now c.term.new.self terms c.requires.owned.owns _ _ c.in-Ok.ensures.takes).owns no_error)) is))
    (c.both_into-both.ensures.full is)

pub returns-in-Err-clause-bounds : goal.returns-in-Err-clause-bounds
returns-in-Err-clause-bounds g c terms few owns eight within depends =
    join_refused c.counting_law.ensures c.growth_law.ensures c.args.runner.now c.term.new.self c.requires.runner terms c.args.term.held
    owns few eight (slice_index_or c.args.runner.now.formula.now.clauses (c.args.number - 1) []) within depends (Err c.in-Err.error)
    (bounded_of (c.args.term.held ∷ terms) (λ a. term_holds c.args.runner.now.formula.now a (input_term c.args.number)) c.args.runner.now c.requires.runner owns c.term.new.self (Err c.in-Err.error) c.in-Err.ensures.costs) c.release.new.self
    (released_top c.args.term.held c.term.new.self c.release.new.self c.release.ensures.releases c.release.ensures.torn)
    (Err c.in-Err.error) (λ is. is)

pub returns-in-Ok-clause-bounds : goal.returns-in-Ok-clause-bounds
returns-in-Ok-clause-bounds g c terms few owns eight within depends =
    let takes = (takes_of c.args.runner.now c.term.new.self (c.args.term.held ∷ terms) owns _ _ c.in-Ok.ensures.takes) in
    joined c.counting_law.ensures c.growth_law.ensures c.args.runner.now c.term.new.self c.requires.runner terms c.args.term.held
    owns few eight (slice_index_or c.args.runner.now.formula.now.clauses (c.args.number - 1) []) within depends (Ok c.in-Ok.clause)
    (bounded_of (c.args.term.held ∷ terms) (λ a. term_holds c.args.runner.now.formula.now a (input_term c.args.number)) c.args.runner.now c.requires.runner owns c.term.new.self (Ok c.in-Ok.clause) c.in-Ok.ensures.costs) (takes.goes_on no_error) (takes.keeps no_error) c.in-Ok.clause.held
    takes.stands takes.value c.both_into-both.new.runner c.both_into-both.result
    (c.both_into-both.ensures.bounds (c.args.term.held ∷ terms) (takes.owns no_error)) c.release-in-Ok.new.self
    (released_top c.args.term.held c.both_into-both.new.runner c.release-in-Ok.new.self c.release-in-Ok.ensures.releases
    c.release-in-Ok.ensures.torn)
    c.both_into-both.result (λ is. is)
