-- What is left to show of `reply_each`.
use Rattle.std.proofs.Common.{◌≡◌, ◌∙◌, ◌<◌, ◌+◌, ◌-◌, [], ℕ, ℤ, List, None, Some, Ok, Err, length, take, true, refl, sym, ap, subst, arith, inl}
use Rattle.std.specs.Prelude.{slice_index_or}
use Rattle.std.specs.List.{list_all}
use Rattle.cnf_base.specs.Cube.{is_consistent}
use Rattle.cnf_base.specs.Truth.{is_literal_of}
use Rattle.node_table.specs.declared.error.TableError.TheVariants.{IdLimit, NodeLimit, OutOfMemory}
use Rattle.bdd_terms.specs.declared.held.HeldTerm.{HeldTerm}
use Rattle.node_table.specs.Made.{inner}
use Rattle.node_table.specs.Marks.{IsReached}
use Rattle.node_table.specs.Table.{live_nodes}
use Rattle.bdd_terms.specs.Runner.{IsListed, nodes_of}
use Rattle.cube_queries.specs.declared.answer.Answer.{Answer}
use Rattle.cube_queries.proofs.Added.{all_reached, few_more, few_most}
use Rattle.cube_queries.proofs.Alone.{alone_good}
use Rattle.cube_queries.proofs.Asked.{AnswersIn, all_at, all_replied, answers_more, no_room_replied, none_reclaimed, none_replied, stays_none}
use Rattle.cube_queries.proofs.Asked.{handed_limit, handed_spent, stays_replied, value_yet, whole_answers}
use Rattle.cube_queries.proofs.Stays.{stays_back, stays_further}
use Rattle.cube_queries.proofs.Totals.{cubes_cost, no_cubes_cost}
use Rattle.cube_queries.proofs.Taken.{gives_back}
use Rattle.cube_queries.proofs.session.reply_each.Goals as goal

-- the cube of the number behind a place
at_place : (cubes : List (List ℤ)) (place : ℕ) (cube : List ℤ) → cube ≡ slice_index_or cubes (place + 1 - 1) []
    → cube ≡ slice_index_or cubes place []
at_place cubes place cube is = let back : place + 1 - 1 ≡ place = omega arith in is ∙ ap (λ (k : ℕ). slice_index_or cubes k []) back

pub returns-in_err-reclaim-clause-replies : goal.returns-in_err-reclaim-clause-replies
returns-in_err-reclaim-clause-replies g c =
    none_reclaimed c.steps_law.ensures c.args.cubes.now c.args.runner.now c.args.runner.now c.reclaim.new.self
    (stays_none c.steps_law.ensures c.args.runner.now c.requires.runner) c.in_err-reclaim.field-0.0 _ c.from_residual.ensures.1
    (gives_back c.args.runner.now c.reclaim.new.self _ c.in_err-reclaim.ensures)

pub returns-in_err-reclaim-clause-out : goal.returns-in_err-reclaim-clause-out
returns-in_err-reclaim-clause-out g c = ap (λ v. v.items) c.in_err-reclaim.ensures.out

pub cubes-init : goal.cubes-init
cubes-init g c =
    let back = gives_back c.args.runner.now c.reclaim.new.self _ c.in_ok-reclaim.ensures in
    record {
      finder = c.new-finder.ensures;
      stays = stays_back c.args.runner.now c.reclaim.new.self _ back;
      reached = λ key branch at. subst (λ (l : List HeldTerm). IsReached c.reclaim.new.self.terms.table.graph (nodes_of l) (inner key))
          (sym back.out) (c.in_ok-reclaim.ensures.reached.reached key branch at);
      sums = inl c.new-sums.ensures.items;
      few = record {
        begun = λ is. omega (arith, back.top);
        most = omega (arith, back.top);
        none = λ is. omega (arith, back.top);
      };
      answers = subst (λ (l : List Answer). AnswersIn c.reclaim.new.self [] l) (sym c.new-answers.ensures) tt;
    }

pub reply-requires-clause-runner : goal.reply-requires-clause-runner
reply-requires-clause-runner g c = c.cubes.invariant.stays.runner

pub reply-requires-clause-finder : goal.reply-requires-clause-finder
reply-requires-clause-finder g c = c.cubes.invariant.finder

pub reply-requires-clause-alone : goal.reply-requires-clause-alone
reply-requires-clause-alone g c =
    subst (λ (l : List HeldTerm). IsListed [] l c.args.term.now.held) (sym c.cubes.invariant.stays.out) c.requires.alone

pub reply-requires-clause-sums : goal.reply-requires-clause-sums
reply-requires-clause-sums g c = c.cubes.invariant.sums

pub reply-requires-clause-value : goal.reply-requires-clause-value
reply-requires-clause-value g c =
    value_yet c.args.runner.now c.cubes.runner c.cubes.invariant.stays c.args.term.now.held
    (alone_good c.args.runner.now c.args.term.now.held c.requires.alone) c.requires.value

pub reply-requires-clause-variables : goal.reply-requires-clause-variables
reply-requires-clause-variables g c =
    let stays = c.cubes.invariant.stays in
    subst (λ (cube : List ℤ). list_all (is_literal_of (length c.cubes.runner.terms.table.graph.order)) cube ≡ true)
    (sym (at_place c.args.cubes.now c.cubes.place c.cube-cube.result.now c.cube-cube.ensures))
    (subst (λ (o : List ℕ). list_all (is_literal_of (length o)) (slice_index_or c.args.cubes.now c.cubes.place []) ≡ true)
    (sym stays.goes.order)
    (all_at (list_all (is_literal_of (length c.args.runner.now.terms.table.graph.order))) c.args.cubes.now c.cubes.place []
    c.requires.cubes.literals (omega (arith, c.cubes-test.true, c.len-place-end.ensures))))

pub reply-requires-clause-consistent : goal.reply-requires-clause-consistent
reply-requires-clause-consistent g c =
    subst (λ (cube : List ℤ). is_consistent cube ≡ true) (sym (at_place c.args.cubes.now c.cubes.place c.cube-cube.result.now c.cube-cube.ensures))
    (all_at is_consistent c.args.cubes.now c.cubes.place [] c.requires.cubes.consistent
    (omega (arith, c.cubes-test.true, c.len-place-end.ensures)))

pub returns-in_err-answer-clause-replies : goal.returns-in_err-answer-clause-replies
returns-in_err-answer-clause-replies g c =
    none_replied c.steps_law.ensures c.args.cubes.now c.args.runner.now c.cubes.runner c.reply.new.runner c.cubes.invariant.stays
    c.in_err-answer.field-0.0 _ c.from_residual-in_err-answer.ensures.1 c.cube-cube.result.now c.in_err-answer.ensures.replies

pub returns-in_err-answer-clause-out : goal.returns-in_err-answer-clause-out
returns-in_err-answer-clause-out g c = c.in_err-answer.ensures.replies.out ∙ c.cubes.invariant.stays.out

pub returns-in_err-push-clause-replies : goal.returns-in_err-push-clause-replies
returns-in_err-push-clause-replies g c =
    no_room_replied c.args.cubes.now c.args.runner.now c.reply.new.runner
    (stays_further c.steps_law.ensures c.args.runner.now c.cubes.runner c.reply.new.runner c.cubes.invariant.stays
    (stays_replied c.cube-cube.result.now c.cubes.runner c.reply.new.runner c.in_ok-answer.answer c.in_ok-answer.ensures.replies))
    _ c.from_residual-in_err-push.ensures.1

pub returns-in_err-push-clause-out : goal.returns-in_err-push-clause-out
returns-in_err-push-clause-out g c = c.in_ok-answer.ensures.replies.out ∙ c.cubes.invariant.stays.out

pub cubes-preserved : goal.cubes-preserved
cubes-preserved g c =
    let own = c.in_ok-answer.ensures in
    let within : c.cubes.place < length c.args.cubes.now = omega (arith, c.cubes-test.true, c.len-place-end.ensures) in
    let replied = stays_replied c.cube-cube.result.now c.cubes.runner c.reply.new.runner c.in_ok-answer.answer own.replies in
    let more = answers_more c.cubes.runner c.reply.new.runner c.args.cubes.now c.cubes.place within c.cubes.answers
    c.in_ok-answer.answer c.cubes.invariant.answers (rw (at_place c.args.cubes.now c.cubes.place c.cube-cube.result.now c.cube-cube.ensures) at own.replies) in
    record {
      finder = own.finder;
      reached = all_reached c.cubes.runner c.reply.new.runner own.nodes own.replies.out c.cubes.invariant.reached;
      sums = own.sums;
      few = few_more c.cubes.place c.args.runner.now c.cubes.runner c.reply.new.runner own.nodes (Ok c.in_ok-answer.answer) c.cubes.sums.items
          c.reply.new.sums.items refl c.cubes.invariant.few own.once;
      stays = stays_further c.steps_law.ensures c.args.runner.now c.cubes.runner c.reply.new.runner c.cubes.invariant.stays replied;
      answers = subst (λ (l : List Answer). AnswersIn c.reply.new.runner (take (c.cubes.place + 1) c.args.cubes.now) l)
          (sym c.in_ok-push.ensures) more;
    }

pub returns-clause-replies : goal.returns-clause-replies
returns-clause-replies g c =
    let all : c.cubes.place ≡ length c.args.cubes.now = omega (arith, c.cubes.auto.place-end, c.len-place-end.ensures, c.cubes-test.false) in
    all_replied c.args.cubes.now c.args.runner.now c.cubes.runner c.cubes.answers c.cubes.invariant.stays
    (whole_answers c.cubes.runner c.args.cubes.now c.cubes.place all c.cubes.answers c.cubes.invariant.answers)

pub returns-clause-out : goal.returns-clause-out
returns-clause-out g c = c.cubes.invariant.stays.out

-- no limit of nodes is met
pub returns-in_err-reclaim-clause-no_limit : goal.returns-in_err-reclaim-clause-no_limit
returns-in_err-reclaim-clause-no_limit g c =
    handed_limit c.in_err-reclaim.field-0.0 _ c.from_residual.ensures.1
    (λ is. (gives_back c.args.runner.now c.reclaim.new.self _ c.in_err-reclaim.ensures).no_limit (ap Err is))

pub returns-in_err-answer-clause-no_limit : goal.returns-in_err-answer-clause-no_limit
returns-in_err-answer-clause-no_limit g c =
    handed_limit c.in_err-answer.field-0.0 _ c.from_residual-in_err-answer.ensures.1
    (λ is. c.in_err-answer.ensures.replies.no_limit (ap Err is))

pub returns-in_err-push-clause-no_limit : goal.returns-in_err-push-clause-no_limit
returns-in_err-push-clause-no_limit g c =
    handed_limit OutOfMemory _ c.from_residual-in_err-push.ensures.1 (λ is. let e : OutOfMemory ≡ NodeLimit = is in cc)

-- and that of numbers only where none is left
pub returns-in_err-reclaim-clause-spent : goal.returns-in_err-reclaim-clause-spent
returns-in_err-reclaim-clause-spent g c =
    handed_spent c.in_err-reclaim.field-0.0 _ c.from_residual.ensures.1
    (λ is. absurd ((gives_back c.args.runner.now c.reclaim.new.self _ c.in_err-reclaim.ensures).no_numbers (ap Err is)))

pub returns-in_err-answer-clause-spent : goal.returns-in_err-answer-clause-spent
returns-in_err-answer-clause-spent g c =
    handed_spent c.in_err-answer.field-0.0 _ c.from_residual-in_err-answer.ensures.1
    (λ is. c.in_err-answer.ensures.replies.spent (ap Err is))

pub returns-in_err-push-clause-spent : goal.returns-in_err-push-clause-spent
returns-in_err-push-clause-spent g c =
    handed_spent OutOfMemory _ c.from_residual-in_err-push.ensures.1 (λ is. absurd (let e : OutOfMemory ≡ IdLimit = is in cc))

-- what the cubes cost
pub returns-in_err-reclaim-clause-costs : goal.returns-in_err-reclaim-clause-costs
returns-in_err-reclaim-clause-costs g c =
    no_cubes_cost c.args.cubes.now c.args.runner.now c.reclaim.new.self
    (gives_back c.args.runner.now c.reclaim.new.self _ c.in_err-reclaim.ensures).top

pub returns-in_err-answer-clause-costs : goal.returns-in_err-answer-clause-costs
returns-in_err-answer-clause-costs g c =
    let own = c.in_err-answer.ensures in
    let most = few_most c.cubes.place c.args.runner.now c.cubes.runner c.reply.new.runner own.nodes (Err c.in_err-answer.field-0.0)
    c.cubes.sums.items c.reply.new.sums.items c.cubes.invariant.few own.once in
    let stays = c.cubes.invariant.stays in
    let held = c.args.term.now.held in
    let good = alone_good c.args.runner.now held c.requires.alone in
    let alone = subst (λ (l : List HeldTerm). IsListed [] l held) (sym stays.out) c.requires.alone in
    cubes_cost c.steps_law.ensures c.counting_law.ensures c.args.cubes.now c.args.runner.now c.cubes.runner c.reply.new.runner held stays.goes
    stays.runner c.cubes.invariant.reached alone (alone_good c.cubes.runner held alone)
    (value_yet c.args.runner.now c.cubes.runner stays held good c.requires.value)
    (omega (arith, most, ap live_nodes own.nodes, c.cubes-test.true, c.len-place-end.ensures))
    (λ is. absurd (let empty = ap length is in omega (arith, empty, c.cubes-test.true, c.len-place-end.ensures)))

pub returns-in_err-push-clause-costs : goal.returns-in_err-push-clause-costs
returns-in_err-push-clause-costs g c =
    let own = c.in_ok-answer.ensures in
    let most = few_most c.cubes.place c.args.runner.now c.cubes.runner c.reply.new.runner own.nodes (Ok c.in_ok-answer.answer)
    c.cubes.sums.items c.reply.new.sums.items c.cubes.invariant.few own.once in
    let stays = c.cubes.invariant.stays in
    let held = c.args.term.now.held in
    let good = alone_good c.args.runner.now held c.requires.alone in
    let alone = subst (λ (l : List HeldTerm). IsListed [] l held) (sym stays.out) c.requires.alone in
    cubes_cost c.steps_law.ensures c.counting_law.ensures c.args.cubes.now c.args.runner.now c.cubes.runner c.reply.new.runner held stays.goes
    stays.runner c.cubes.invariant.reached alone (alone_good c.cubes.runner held alone)
    (value_yet c.args.runner.now c.cubes.runner stays held good c.requires.value)
    (omega (arith, most, ap live_nodes own.nodes, c.cubes-test.true, c.len-place-end.ensures))
    (λ is. absurd (let empty = ap length is in omega (arith, empty, c.cubes-test.true, c.len-place-end.ensures)))

pub returns-clause-costs : goal.returns-clause-costs
returns-clause-costs g c =
    let most = c.cubes.invariant.few.most in
    let stays = c.cubes.invariant.stays in
    let held = c.args.term.now.held in
    let good = alone_good c.args.runner.now held c.requires.alone in
    let alone = subst (λ (l : List HeldTerm). IsListed [] l held) (sym stays.out) c.requires.alone in
    cubes_cost c.steps_law.ensures c.counting_law.ensures c.args.cubes.now c.args.runner.now c.cubes.runner c.cubes.runner held stays.goes
    stays.runner c.cubes.invariant.reached alone (alone_good c.cubes.runner held alone)
    (value_yet c.args.runner.now c.cubes.runner stays held good c.requires.value)
    (omega (arith, most, c.cubes.auto.place-end, c.len-place-end.ensures, c.cubes-test.false))
    (λ is. c.cubes.invariant.few.begun (let empty = ap length is in omega (arith, empty, c.cubes.auto.place-end, c.len-place-end.ensures)))
