-- What is left to show of `release_all`.
use Rattle.std.proofs.Common.{◌≡◌, ◌∙◌, ◌∷◌, ◌++◌, ◌+◌, [], length, length-append, refl, ap, arith, rules}
use Rattle.std.proofs.lemmas.List.{nil_from_length}
use Rattle.parity_terms.proofs.AllReleased.{left_all, left_fewer, left_good, left_none, left_yet}
use Rattle.parity_terms.proofs.elimination.release_all.Goals as goal
use Rattle.parity_terms.proofs.Bounded.{released_top}

pub rows-init : goal.rows-init
rows-init g c = record {
  left = λ on. left_all c.steps_law.ensures c.args.runner.now c.args.rows.items (c.requires.runner on) (c.requires.owns on);
  torn = λ off. refl;
  top = refl;
}

pub release-requires-clause-runner : goal.release-requires-clause-runner
release-requires-clause-runner g c on =
    (left_yet c.rows.rows.items c.args.runner.now c.rows.runner c.rows.invariant.left c.rows.invariant.torn on).runner

pub release-requires-clause-good : goal.release-requires-clause-good
release-requires-clause-good g c on =
    left_good c.rows.rows.items c.pop.new.self.items c.in-Some.row c.args.runner.now c.rows.runner c.in-Some.ensures.items
    (left_yet c.rows.rows.items c.args.runner.now c.rows.runner c.rows.invariant.left c.rows.invariant.torn on)

pub rows-preserved : goal.rows-preserved
rows-preserved g c = record {
  left = λ on. left_fewer c.steps_law.ensures c.args.runner.now c.rows.rows.items c.pop.new.self.items c.in-Some.row c.rows.runner
      c.release.new.self c.in-Some.ensures.items (c.rows.invariant.left on)
      (c.release.ensures.releases (c.rows.invariant.left on).runner.over.sound.in_step);
  torn = λ off.
      c.release.ensures.torn (ap (λ r. r.terms.table.book.in_step) (c.rows.invariant.torn off) ∙ off) ∙ c.rows.invariant.torn off;
  top = released_top c.in-Some.row.term.held c.rows.runner c.release.new.self c.release.ensures.releases c.release.ensures.torn
      ∙ c.rows.invariant.top;
}

pub returns-clause-released : goal.returns-clause-released
returns-clause-released g c on =
    let none : length c.rows.rows.items ≡ 0 = search rules in
    left_none c.steps_law.ensures c.args.runner.now c.rows.rows.items c.rows.runner (nil_from_length c.rows.rows.items none)
    (c.rows.invariant.left on)

pub returns-clause-torn : goal.returns-clause-torn
returns-clause-torn g c off = c.rows.invariant.torn off

pub rows-smaller : goal.rows-smaller
rows-smaller g c =
    let whole : length c.rows.rows.items ≡ length (c.pop.new.self.items ++ c.in-Some.row ∷ []) = ap length c.in-Some.ensures.items in
    let parts : length (c.pop.new.self.items ++ c.in-Some.row ∷ []) ≡ length c.pop.new.self.items + 1 =
    length-append c.pop.new.self.items (c.in-Some.row ∷ []) in
    omega (arith, whole, parts)

pub returns-clause-top : goal.returns-clause-top
returns-clause-top g c = c.rows.invariant.top
