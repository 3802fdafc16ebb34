-- What is left to show of `term_of_clauses`.
use Rattle.std.proofs.Common.{◌≡◌, ◌∙◌, ◌≤◌, ◌∷◌, true, false, Ok, Err, length, refl, sym, ap, subst, arith}
use Rattle.std.specs.Prelude.{slice_index_or}
use Rattle.cnf_base.specs.Formula.{Formula}
use Rattle.node_table.specs.declared.error.TableError.TheVariants.{NodeLimit}
use Rattle.node_table.specs.HandedOn.{came_from}
use Rattle.parity_terms.proofs.Owned.{owned_good}
use Rattle.parity_terms.proofs.Joined.{have_all, have_error, have_first, have_more, have_none, have_refuted, number_at}
use Rattle.parity_terms.proofs.equation_term.term_of_clauses.Goals.{else-clauses-test, then-clauses-test+else-not-is_refuted}
use Rattle.parity_terms.proofs.equation_term.term_of_clauses.Goals as goal
use Rattle.parity_terms.proofs.Bounded.{bounded_of, released_top}
use Rattle.parity_terms.proofs.Taken.{takes_of}
use Rattle.parity_terms.proofs.ClauseLoop.{begun, ended, none_begun, none_more, one_more}
use Rattle.node_table.specs.HandedOn.{no_error}

pub term-requires-clause-from_one : goal.term-requires-clause-from_one
term-requires-clause-from_one g c = (number_at _ c.args.numbers.now 0 0 c.requires.numbers c.requires.some).0

pub term-requires-clause-to_len : goal.term-requires-clause-to_len
term-requires-clause-to_len g c = (number_at _ c.args.numbers.now 0 0 c.requires.numbers c.requires.some).1

pub clauses-init : goal.clauses-init
clauses-init g c = record {
  from = omega arith;
  within = omega (arith, c.requires.some);
  so_far = λ terms owns. have_first c.steps_law.ensures terms c.args.numbers.now c.args.runner.now c.term.new.self
      c.in_ok-term.term c.requires.some (takes_of c.args.runner.now c.term.new.self terms owns _ _ c.in_ok-term.ensures.takes);
  costs = λ terms few owns eight within. begun c.counting_law.ensures c.growth_law.ensures terms few c.args.numbers.now c.args.runner.now
      c.requires.runner owns eight within c.requires.some c.term.new.self (Ok c.in_ok-term.term)
      (bounded_of terms _ c.args.runner.now c.requires.runner owns c.term.new.self _ c.in_ok-term.ensures.costs);
}

pub returns-in_err-term-clause-takes : goal.returns-in_err-term-clause-takes
returns-in_err-term-clause-takes g c terms owns =
    have_none c.steps_law.ensures terms c.args.numbers.now c.args.runner.now _ c.term.new.self c.in_err-term.field-0.0 _
    c.from_residual.ensures.1 (takes_of c.args.runner.now c.term.new.self terms owns _ _ c.in_err-term.ensures.takes)

pub returns-in_err-term-clause-full : goal.returns-in_err-term-clause-full
returns-in_err-term-clause-full g c is =
    c.in_err-term.ensures.takes.full (ap Err (came_from _ c.in_err-term.field-0.0 NodeLimit c.from_residual.ensures.1 is))

pub with_clause-requires-clause-runner : goal.with_clause-requires-clause-runner
with_clause-requires-clause-runner g c = (c.clauses.invariant.so_far c.requires.owned.terms c.requires.owned.owns).runner

pub with_clause-requires-clause-owned : goal.with_clause-requires-clause-owned
with_clause-requires-clause-owned g c = record {
  rest = c.requires.owned.terms;
  owns = (c.clauses.invariant.so_far c.requires.owned.terms c.requires.owned.owns).owns;
}

pub with_clause-requires-clause-from_one : goal.with_clause-requires-clause-from_one
with_clause-requires-clause-from_one g c =
    (number_at _ c.args.numbers.now c.clauses.place 0 c.requires.numbers c.clauses-test.true).0

pub with_clause-requires-clause-to_len : goal.with_clause-requires-clause-to_len
with_clause-requires-clause-to_len g c =
    let so_far = c.clauses.invariant.so_far c.requires.owned.terms c.requires.owned.owns in
    subst (λ (f : Formula). slice_index_or c.args.numbers.now c.clauses.place 0 ≤ length f.clauses)
    (sym (ap (λ f. f.now) so_far.keeps.formula))
    (number_at _ c.args.numbers.now c.clauses.place 0 c.requires.numbers c.clauses-test.true).1

pub returns-in_err-term-2-clause-takes : goal.returns-in_err-term-2-clause-takes
returns-in_err-term-2-clause-takes g c terms owns =
    let so_far = c.clauses.invariant.so_far terms owns in
    have_error c.steps_law.ensures terms c.args.numbers.now c.args.runner.now c.clauses.place c.clauses.runner c.with_clause.new.runner
    c.clauses.term so_far _ c.in_err-term-2.field-0.0 _ c.from_residual-in_err-term-2.ensures.1
    (c.in_err-term-2.ensures.joins terms so_far.owns)

pub returns-in_err-term-2-clause-full : goal.returns-in_err-term-2-clause-full
returns-in_err-term-2-clause-full g c is =
    c.in_err-term-2.ensures.full (ap Err (came_from _ c.in_err-term-2.field-0.0 NodeLimit c.from_residual-in_err-term-2.ensures.1 is))

pub clauses-preserved : goal.clauses-preserved
clauses-preserved g c = record {
  from = omega arith;
  within = omega (arith, c.clauses-test.true);
  so_far = λ terms owns.
      let so_far = c.clauses.invariant.so_far terms owns in
      have_more c.steps_law.ensures terms c.args.numbers.now c.args.runner.now c.clauses.place c.clauses.runner
      c.with_clause.new.runner c.clauses.term so_far c.in_ok-term-2.term c.clauses-test.true
      (c.in_ok-term-2.ensures.joins terms so_far.owns);
  costs = λ terms few owns eight within. one_more c.counting_law.ensures c.growth_law.ensures terms few c.args.numbers.now c.args.runner.now
      c.requires.runner owns eight within c.clauses.place c.clauses.runner c.clauses.term (c.clauses.invariant.so_far terms owns)
      (c.clauses.invariant.costs terms few owns eight within) c.clauses-test.true c.with_clause.new.runner (Ok c.in_ok-term-2.term)
      c.in_ok-term-2.ensures.bounds;
}

pub release-requires-clause-runner : goal.release-requires-clause-runner
release-requires-clause-runner g c on = (c.clauses.invariant.so_far c.requires.owned.terms c.requires.owned.owns).runner

pub release-requires-clause-good : goal.release-requires-clause-good
release-requires-clause-good g c on =
    owned_good c.clauses.term.held (c.clauses.term.held ∷ c.requires.owned.terms) c.clauses.runner.terms.out.items
    (c.clauses.invariant.so_far c.requires.owned.terms c.requires.owned.owns).owns (0, omega arith, refl)

pub returns-then-is_refuted-clause-takes : goal.returns-then-is_refuted-clause-takes
returns-then-is_refuted-clause-takes g c terms owns =
    let so_far = c.clauses.invariant.so_far terms owns in
    let is : c.clauses.runner.refuted ≡ true = sym c.is_refuted-2.ensures ∙ c.if-is_refuted.true in
    have_refuted c.steps_law.ensures terms c.args.numbers.now c.args.runner.now c.clauses.place c.clauses.runner c.release.new.self
    c.clauses.term so_far is (c.release.ensures.releases so_far.runner.over.sound.in_step)

pub returns-clause-takes : goal.returns-clause-takes
returns-clause-takes g c terms owns =
    let so_far = c.clauses.invariant.so_far terms owns in
    let unrefuted : c.clauses.runner.refuted ≡ false = sym c.is_refuted-2.ensures ∙ c.if-is_refuted.false in
    let past : length c.args.numbers.now ≤ c.clauses.place = elim c.clauses-test.branch [
      | then-clauses-test+else-not-is_refuted w ↦ absurd (
          let e : true ≡ false = sym w.if-not-is_refuted.false ∙ w.is_refuted.ensures ∙ unrefuted in cc)
      | else-clauses-test w ↦ w.clauses-test.false
    ] in
    have_all c.steps_law.ensures terms c.args.numbers.now c.args.runner.now c.clauses.place c.clauses.runner c.clauses.term so_far past
    unrefuted

pub returns-in_err-term-clause-bounds : goal.returns-in_err-term-clause-bounds
returns-in_err-term-clause-bounds g c terms few owns eight within =
    none_begun c.counting_law.ensures c.growth_law.ensures terms few c.args.numbers.now c.args.runner.now c.requires.runner owns eight
    within
    c.requires.some c.term.new.self (Err c.in_err-term.field-0.0) (bounded_of terms _ c.args.runner.now c.requires.runner owns c.term.new.self _ c.in_err-term.ensures.costs) _
    (λ is. ap Err (came_from _ c.in_err-term.field-0.0 NodeLimit c.from_residual.ensures.1 is))

pub returns-in_err-term-2-clause-bounds : goal.returns-in_err-term-2-clause-bounds
returns-in_err-term-2-clause-bounds g c terms few owns eight within =
    none_more c.counting_law.ensures c.growth_law.ensures terms few c.args.numbers.now c.args.runner.now c.requires.runner owns eight within
    c.clauses.place c.clauses.runner c.clauses.term (c.clauses.invariant.so_far terms owns)
    (c.clauses.invariant.costs terms few owns eight within)
    c.clauses-test.true c.with_clause.new.runner (Err c.in_err-term-2.field-0.0) c.in_err-term-2.ensures.bounds _
    (λ is. ap Err (came_from _ c.in_err-term-2.field-0.0 NodeLimit c.from_residual-in_err-term-2.ensures.1 is))

pub returns-then-is_refuted-clause-bounds : goal.returns-then-is_refuted-clause-bounds
returns-then-is_refuted-clause-bounds g c terms few owns eight within =
    ended c.counting_law.ensures c.growth_law.ensures terms few c.args.numbers.now c.args.runner.now c.requires.runner owns eight within
    c.clauses.place c.clauses.runner c.clauses.term (c.clauses.invariant.so_far terms owns)
    (c.clauses.invariant.costs terms few owns eight within)
    c.release.new.self
    (released_top c.clauses.term.held c.clauses.runner c.release.new.self c.release.ensures.releases c.release.ensures.torn)
    c.clauses.invariant.within _ (λ is. no_error is)

pub returns-clause-bounds : goal.returns-clause-bounds
returns-clause-bounds g c terms few owns eight within =
    ended c.counting_law.ensures c.growth_law.ensures terms few c.args.numbers.now c.args.runner.now c.requires.runner owns eight within
    c.clauses.place c.clauses.runner c.clauses.term (c.clauses.invariant.so_far terms owns)
    (c.clauses.invariant.costs terms few owns eight within)
    c.clauses.runner refl c.clauses.invariant.within _ (λ is. no_error is)
