-- The term of a clause, tried once more behind a reclamation.
use Rattle.std.proofs.Common.{◌≡◌, ◌≤◌, ◌∙◌, true, false, [], length, sym, ap, subst}
use Rattle.cnf_base.specs.Formula.{Formula}
use Rattle.schedule_plan.specs.Plan.{input as input_term, term_holds}
use Rattle.clause_terms.specs.Term.{by_variable}
use Rattle.bdd_terms.proofs.FunctionParts.{few_same}
use Rattle.bdd_terms.proofs.NodeTaken.{few_numbers, none_more, one_few, two_few}
use Rattle.bdd_terms.proofs.Rests.{Rests, nodes_whole}
use Rattle.bdd_terms.proofs.Retried.{term_again, term_failed, term_once, term_rests}
use Rattle.bdd_terms.proofs.runner.Runner.term_twice.Given.{Over}
use Rattle.bdd_terms.proofs.runner.Runner.term_twice.Goals as goal
use Rattle.bdd_terms.proofs.runner.Runner.term_twice.Goals.{In_ok-reclaim}

-- behind the reclamation
rests : (g : Over) (c : In_ok-reclaim g) → Rests c.args.self.now c.reclaim.new.self
rests g c =
    let met : c.met_limit.result ≡ true = cc in
    term_rests c.growth_law.ensures c.canonical_law.ensures c.subfunction_law.ensures c.args.self.now c.try_term-found.new.self
    c.requires.runner c.args.number c.try_term-found.result c.try_term-found.ensures.gives c.steps_law.ensures (c.met_limit.ensures.0 met)
    c.reclaim.new.self _ c.in_ok-reclaim.ensures

pub reclaim-requires : goal.reclaim-requires
reclaim-requires g c =
    let met : c.met_limit.result ≡ true = cc in
    c.try_term-found.ensures.gives.goes_on (λ torn. nodes_whole (sym (c.met_limit.ensures.0 met) ∙ torn))

pub try_term-requires-clause-runner : goal.try_term-requires-clause-runner
try_term-requires-clause-runner g c = (rests g (goal.at.try_term-requires-clause-runner g c).In_ok-reclaim).runner

pub try_term-requires-clause-to_len : goal.try_term-requires-clause-to_len
try_term-requires-clause-to_len g c =
    subst (λ (f : Formula). c.args.number ≤ length f.clauses)
    (sym (ap (λ f. f.now) (rests g (goal.at.try_term-requires-clause-to_len g c).In_ok-reclaim).same.formula)) c.requires.to_len

pub returns-then-not-met_limit-clause-takes : goal.returns-then-not-met_limit-clause-takes
returns-then-not-met_limit-clause-takes g c =
    let within : c.met_limit.result ≡ false = cc in
    (term_once c.growth_law.ensures c.canonical_law.ensures c.subfunction_law.ensures c.args.self.now c.try_term-found.new.self
    c.requires.runner c.args.number c.try_term-found.result c.try_term-found.ensures.gives
    (λ is. let met : c.met_limit.result ≡ true = c.met_limit.ensures.1 is in cc)).0

pub returns-in_err-reclaim-clause-takes : goal.returns-in_err-reclaim-clause-takes
returns-in_err-reclaim-clause-takes g c =
    let met : c.met_limit.result ≡ true = cc in
    (term_failed c.growth_law.ensures c.canonical_law.ensures c.subfunction_law.ensures c.args.self.now c.try_term-found.new.self
    c.requires.runner c.args.number c.try_term-found.result c.try_term-found.ensures.gives c.steps_law.ensures (c.met_limit.ensures.0 met)
    c.reclaim.new.self c.in_err-reclaim.field-0.0 c.in_err-reclaim.ensures _ c.from_residual.ensures.1).0

pub returns-clause-takes : goal.returns-clause-takes
returns-clause-takes g c =
    let met : c.met_limit.result ≡ true = cc in
    (term_again c.growth_law.ensures c.canonical_law.ensures c.subfunction_law.ensures c.args.self.now c.try_term-found.new.self
    c.requires.runner c.args.number c.try_term-found.result c.try_term-found.ensures.gives c.steps_law.ensures (c.met_limit.ensures.0 met)
    c.reclaim.new.self _ c.in_ok-reclaim.ensures c.try_term.new.self c.try_term.result c.try_term.ensures.gives).0

pub returns-then-not-met_limit-clause-costs : goal.returns-then-not-met_limit-clause-costs
returns-then-not-met_limit-clause-costs g c =
    let within : c.met_limit.result ≡ false = cc in
    (term_once c.growth_law.ensures c.canonical_law.ensures c.subfunction_law.ensures c.args.self.now c.try_term-found.new.self
    c.requires.runner c.args.number c.try_term-found.result c.try_term-found.ensures.gives
    (λ is. let met : c.met_limit.result ≡ true = c.met_limit.ensures.1 is in cc)).1

pub returns-in_err-reclaim-clause-costs : goal.returns-in_err-reclaim-clause-costs
returns-in_err-reclaim-clause-costs g c =
    let met : c.met_limit.result ≡ true = cc in
    (term_failed c.growth_law.ensures c.canonical_law.ensures c.subfunction_law.ensures c.args.self.now c.try_term-found.new.self
    c.requires.runner c.args.number c.try_term-found.result c.try_term-found.ensures.gives c.steps_law.ensures (c.met_limit.ensures.0 met)
    c.reclaim.new.self c.in_err-reclaim.field-0.0 c.in_err-reclaim.ensures _ c.from_residual.ensures.1).1

pub returns-clause-costs : goal.returns-clause-costs
returns-clause-costs g c =
    let met : c.met_limit.result ≡ true = cc in
    (term_again c.growth_law.ensures c.canonical_law.ensures c.subfunction_law.ensures c.args.self.now c.try_term-found.new.self
    c.requires.runner c.args.number c.try_term-found.result c.try_term-found.ensures.gives c.steps_law.ensures (c.met_limit.ensures.0 met)
    c.reclaim.new.self _ c.in_ok-reclaim.ensures c.try_term.new.self c.try_term.result c.try_term.ensures.gives).1

pub returns-then-not-met_limit-clause-few : goal.returns-then-not-met_limit-clause-few
returns-then-not-met_limit-clause-few g c width few =
    one_few c.args.self.now.terms.table.book.state.top c.try_term-found.new.self.terms.table.book.state.top width 1
    (few_numbers c.growth_law.ensures c.canonical_law.ensures _ _ [] c.args.self.now c.try_term-found.new.self c.try_term-found.result
    c.try_term-found.ensures.gives 1 c.try_term-found.ensures.one width few)

pub returns-in_err-reclaim-clause-few : goal.returns-in_err-reclaim-clause-few
returns-in_err-reclaim-clause-few g c width few =
    none_more c.args.self.now.terms.table.book.state.top c.try_term-found.new.self.terms.table.book.state.top c.reclaim.new.self.terms.table.book.state.top width 1
    (few_numbers c.growth_law.ensures c.canonical_law.ensures _ _ [] c.args.self.now c.try_term-found.new.self c.try_term-found.result
    c.try_term-found.ensures.gives 1 c.try_term-found.ensures.one width few)
    c.in_err-reclaim.ensures.top

pub returns-clause-few : goal.returns-clause-few
returns-clause-few g c width few =
    let behind = rests g (goal.at.returns-clause-few g c).In_ok-reclaim in
    two_few c.args.self.now.terms.table.book.state.top c.try_term-found.new.self.terms.table.book.state.top c.reclaim.new.self.terms.table.book.state.top
    c.try_term.new.self.terms.table.book.state.top width 1
    (few_numbers c.growth_law.ensures c.canonical_law.ensures _ _ [] c.args.self.now c.try_term-found.new.self c.try_term-found.result
    c.try_term-found.ensures.gives 1 c.try_term-found.ensures.one width few)
    c.in_ok-reclaim.ensures.top
    (few_numbers c.growth_law.ensures c.canonical_law.ensures _ _ [] c.reclaim.new.self c.try_term.new.self c.try_term.result
    c.try_term.ensures.gives 1 c.try_term.ensures.one width (few_same _ _
    (λ a. sym (λ i. term_holds (behind.same.formula i).now (by_variable (behind.order i) a) (input_term c.args.number))) width few))
