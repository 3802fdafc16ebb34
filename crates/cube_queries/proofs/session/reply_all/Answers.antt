-- What is left to show of `reply_all`.
use Rattle.std.proofs.Common.{◌∙◌, [], ℕ, List, length, ap, sym, subst}
use Rattle.cnf_base.specs.Formula.{Formula}
use Rattle.node_table.specs.declared.error.TableError.TheVariants.{NodeLimit}
use Rattle.bdd_terms.specs.declared.held.HeldTerm.{HeldTerm}
use Rattle.bdd_terms.specs.Runner.{IsListed}
use Rattle.cube_text.specs.CubeText.{AreCubes}
use Rattle.cube_queries.specs.Steps.{formula_holds}
use Rattle.cube_queries.proofs.Alone.{alone_good}
use Rattle.cube_queries.proofs.Asked.{all_released, none_left, none_taken, runner_yet, taken_none}
use Rattle.cube_queries.proofs.Taken.{error_is}
use Rattle.cube_queries.proofs.Totals.{costs_all, costs_all_released, costs_plan}
use Rattle.cube_queries.proofs.session.reply_all.Goals as goal

pub returns-in_err-term-clause-replies : goal.returns-in_err-term-clause-replies
returns-in_err-term-clause-replies g c =
    taken_none c.args.cubes.now c.args.runner.now c.term_of_formula.new.runner (formula_holds c.args.formula.now)
    c.in_err-term.field-0.0 _ c.from_residual.ensures.1 c.in_err-term.ensures.takes

pub release-requires-clause-runner : goal.release-requires-clause-runner
release-requires-clause-runner g c on =
    runner_yet c.args.cubes.now c.term_of_formula.new.runner c.reply_each-answers.new.runner c.reply_each-answers.result
    c.reply_each-answers.ensures.replies on

pub release-requires-clause-good : goal.release-requires-clause-good
release-requires-clause-good g c on =
    alone_good c.reply_each-answers.new.runner c.in_ok-term.term.held
    (subst (λ (l : List HeldTerm). IsListed [] l c.in_ok-term.term.held) (sym c.reply_each-answers.ensures.out) c.in_ok-term.ensures.takes.listed)

pub returns-clause-replies : goal.returns-clause-replies
returns-clause-replies g c =
    all_released c.steps_law.ensures c.args.cubes.now c.args.runner.now c.term_of_formula.new.runner c.reply_each-answers.new.runner
    c.release.new.self c.in_ok-term.term.held c.in_ok-term.ensures.takes.goes c.release.ensures.releases c.release.ensures.torn
    c.reply_each-answers.result c.reply_each-answers.ensures.no_limit c.reply_each-answers.ensures.spent
    c.reply_each-answers.ensures.replies

pub returns-in_err-term-clause-costs : goal.returns-in_err-term-clause-costs
returns-in_err-term-clause-costs g c =
    costs_plan c.args.cubes.now c.args.runner.now c.term_of_formula.new.runner c.in_err-term.field-0.0 _ c.from_residual.ensures.1
    c.in_err-term.ensures.costs

pub returns-clause-costs : goal.returns-clause-costs
returns-clause-costs g c =
    costs_all_released c.args.cubes.now c.args.runner.now c.reply_each-answers.new.runner c.release.new.self c.in_ok-term.term.held
    c.release.ensures.releases c.release.ensures.torn _
    (costs_all c.args.cubes.now c.args.runner.now c.term_of_formula.new.runner c.reply_each-answers.new.runner _
    c.in_ok-term.ensures.takes.goes (λ is. c.reply_each-answers.ensures.no_limit (error_is c.reply_each-answers.result NodeLimit is))
    c.in_ok-term.ensures.costs c.reply_each-answers.ensures.costs)

pub reply_each-answers-requires-clause-value : goal.reply_each-answers-requires-clause-value
reply_each-answers-requires-clause-value g c a =
    c.in_ok-term.ensures.takes.value a
    ∙ ap (λ (f : Formula). formula_holds f a) (sym (ap (λ f. f.now) c.in_ok-term.ensures.takes.goes.formula ∙ c.requires.formula))

pub reply_each-answers-requires-clause-cubes : goal.reply_each-answers-requires-clause-cubes
reply_each-answers-requires-clause-cubes g c =
    subst (λ (o : List ℕ). AreCubes (length o) c.args.cubes.now) (sym c.in_ok-term.ensures.takes.goes.order) c.requires.cubes

pub returns-clause-none_out : goal.returns-clause-none_out
returns-clause-none_out g c on = none_left c.reply_each-answers.new.runner c.release.new.self c.in_ok-term.term.held
    (subst (λ (l : List HeldTerm). IsListed [] l c.in_ok-term.term.held) (sym c.reply_each-answers.ensures.out)
    c.in_ok-term.ensures.takes.listed) c.release.ensures.releases c.release.ensures.torn on

pub returns-in_err-term-clause-none_out : goal.returns-in_err-term-clause-none_out
returns-in_err-term-clause-none_out g c on =
    none_taken c.args.runner.now c.term_of_formula.new.runner _ c.in_err-term.field-0.0 c.in_err-term.ensures.takes on
