-- One number more, that of a tautology or not, and the end.
use Rattle.std.proofs.Common.{◌≡◌, ◌+◌, ◌≤◌, ◌∷◌, ◌++◌, ℕ, List, [], length, refl, sym, ap, ◌∙◌, subst, arith}
use Rattle.std.specs.List.{list_all}
use Rattle.std.proofs.lemmas.Bool.{and_from}
use Rattle.std.proofs.lemmas.List.Folds.{list_all-append}
use Rattle.cnf_base.specs.ProofText.{is_id}
use Rattle.drat_checker.specs.Numbers.{has_number}
use Rattle.lrat_from_drat.proofs.Started.{OwnSoFar, own-end, own-none, own-pass, own-push, zero-push}
use Rattle.lrat_from_drat.proofs.Becoming.{below-end, below-pass, below-push}
use Rattle.lrat_from_drat.proofs.start.tautologies.Goals as goal

pub loop-number-init : goal.loop-number-init
loop-number-init c = record {
  wanted = refl;
  range = ap (list_all is_id) c.new-ids.ensures;
  own = own-none c.args.judge.now c.new-ids.result c.new-ids.ensures;
  zero = ap (has_number 0) c.new-ids.ensures;
  all = c.new-ids.ensures;
}

pub loop-number-preserved-then-not-dropped : goal.loop-number-preserved-then-not-dropped
loop-number-preserved-then-not-dropped c =
    let i = c.loop-number.number in
    let so_far = c.loop-number.invariant in
    record {
      wanted = c.is_tautology.ensures.wanted ∙ so_far.wanted;
      range = so_far.range;
      own = own-pass c.args.judge.now c.loop-number.ids i so_far.own (sym c.in_ok-dropped.ensures.answer ∙ c.if-not-dropped.true);
      zero = so_far.zero;
      all = below-pass c.args.judge.now c.loop-number.ids i so_far.all (sym c.in_ok-dropped.ensures.answer ∙ c.if-not-dropped.true);
    }

pub loop-number-preserved : goal.loop-number-preserved
loop-number-preserved c =
    let i = c.loop-number.number in
    let so_far = c.loop-number.invariant in
    let pushed : c.push.new.self ≡ c.loop-number.ids ++ (i + 1) ∷ [] =
    c.in_ok-push.ensures.ok ∙ ap (λ n. c.loop-number.ids ++ n ∷ []) c.id_of.ensures.value in
    record {
      wanted = c.is_tautology.ensures.wanted ∙ so_far.wanted;
      range = ap (list_all is_id) pushed ∙ list_all-append is_id c.loop-number.ids ((i + 1) ∷ [])
          ∙ and_from _ _ so_far.range (and_from _ _ c.id_of.ensures.range refl);
      own = subst (λ (l : List ℕ). OwnSoFar c.args.judge.now l (i + 1)) (sym pushed)
          (own-push c.args.judge.now c.loop-number.ids i so_far.own (i + 1) refl
          (sym c.in_ok-dropped.ensures.answer ∙ c.if-not-dropped.false));
      zero = ap (has_number 0) pushed ∙ zero-push c.loop-number.ids i so_far.zero;
      all = pushed
          ∙ below-push c.args.judge.now c.loop-number.ids i so_far.all (sym c.in_ok-dropped.ensures.answer ∙ c.if-not-dropped.false);
    }

pub returns-clause-dropped : goal.returns-clause-dropped
returns-clause-dropped c =
    let past : length c.args.judge.now ≤ c.loop-number.number = omega (arith, c.loop-number-test.false, c.requires) in
    record {
      range = c.loop-number.invariant.range;
      own = own-end c.args.judge.now c.loop-number.ids c.loop-number.number past c.loop-number.invariant.own;
      zero = c.loop-number.invariant.zero;
    }

pub returns-clause-all : goal.returns-clause-all
returns-clause-all c =
    let past : length c.args.judge.now ≤ c.loop-number.number = omega (arith, c.loop-number-test.false, c.requires) in
    below-end c.args.judge.now c.loop-number.ids c.loop-number.number past c.loop-number.invariant.all
