-- One number more, one that doesn't pass, and the end.
use Rattle.std.proofs.Common.{◌≡◌, true, false, ℕ, List, [], take, refl, sym, ◌∙◌, ap, subst}
use Rattle.std.specs.Prelude.{IsTrue, slice_index}
use Rattle.std.proofs.lemmas.List.{take_all}
use Rattle.lrat_rules.specs.Chain.{literals_of}
use Rattle.drat_checker.specs.Places.{place_at, standing}
use Rattle.drat_checker.specs.Numbers.{has_number}
use Rattle.drat_checker.specs.Propagation.{place_passes}
use Rattle.drat_checker.specs.Trail.{Trail}
use Rattle.drat_checker.specs.Reasons.{AreAssumed}
use Rattle.drat_checker.specs.Lines.{FitGroups}
use Rattle.drat_checker.proofs.Lined.{fits-next, fits-start, get_or-slice, good-groups}
use Rattle.drat_checker.proofs.Settled.{settled-moved}
use Rattle.drat_checker.proofs.Watched.{moves-none, moves-then}
use Rattle.drat_checker.proofs.Candidates.{all-pass, one-fails, pass-step}
use Rattle.drat_checker.proofs.addition.all_pass.Goals as goal

pub loop-number-init : goal.loop-number-init
loop-number-init c = record {
  same = refl;
  wanted = refl;
  hints = refl;
  fits = λ wanted plain. subst (FitGroups c.args.db.now c.args.clause.now c.args.pivot []) (sym c.requires.groups)
      (fits-start c.args.db.now c.args.clause.now c.args.pivot);
  watched = c.requires.watched;
  moves = moves-none c.args.kept.now.pairs.items c.args.trail.now.literals;
  pass = λ number other none stands. absurd (cc);
}

-- the watches move on, under the same false literals
pub passes_number-requires : goal.passes_number-requires
passes_number-requires c = record {
  watched = c.loop-number.invariant.watched;
  settled = settled-moved c.args.db.now c.args.kept.now c.loop-number.kept c.args.trail.now.literals c.loop-number.trail.literals
      (ap (λ (t : Trail). t.literals) c.loop-number.invariant.same)
      c.loop-number.invariant.moves c.requires.settled;
  assumed = subst (AreAssumed c.args.db.now c.args.clause.now) (sym c.loop-number.invariant.same) c.requires.assumed;
}

pub loop-number-preserved : goal.loop-number-preserved
loop-number-preserved c =
    let places = c.args.db.now in
    let here : place_passes (standing places) c.args.pivot c.args.trail.now.literals (place_at places
    (slice_index c.numbers-numbers.result.now c.loop-number.number-index)) ≡ true =
    ap (λ (t : Trail). place_passes (standing places) c.args.pivot t.literals (place_at places
    (slice_index c.numbers-numbers.result.now c.loop-number.number-index)))
    (sym c.loop-number.invariant.same)
    ∙ sym c.in_ok-good.ensures.passes ∙ c.if-not-good.false in
    record {
      same = c.in_ok-good.ensures.same ∙ c.loop-number.invariant.same;
      wanted = c.passes_number.ensures.wanted ∙ c.loop-number.invariant.wanted;
      hints = c.passes_number.ensures.hints ∙ c.loop-number.invariant.hints;
      fits = λ wanted plain.
          fits-next places c.args.clause.now c.args.pivot c.numbers-numbers.result.now c.loop-number.number-index
          (slice_index c.numbers-numbers.result.now c.loop-number.number-index) c.passes_number.new.line.groups c.loop-number-test.true
          (get_or-slice c.numbers-numbers.result.now c.loop-number.number-index c.loop-number-test.true)
          ((c.in_ok-good.ensures.fits c.if-not-good.false (c.loop-number.invariant.wanted ∙ wanted) plain).fits
          (take c.loop-number.number-index c.numbers-numbers.result.now) (c.loop-number.invariant.fits wanted plain));
      watched = c.in_ok-good.ensures.watched;
      moves = moves-then c.args.trail.now.literals c.loop-number.trail.literals
          (λ x m. ap (λ (t : Trail). literals_of t.literals x) c.loop-number.invariant.same ∙ m) c.loop-number.invariant.moves
          c.in_ok-good.ensures.moves;
      pass = pass-step places c.args.pivot c.args.trail.now.literals c.numbers-numbers.result.now c.loop-number.number-index
          (slice_index c.numbers-numbers.result.now c.loop-number.number-index)
          c.loop-number-test.true refl c.loop-number.invariant.pass here;
    }

pub returns-then-not-good-clause-pass : goal.returns-then-not-good-clause-pass
returns-then-not-good-clause-pass c =
    let places = c.args.db.now in
    let here : place_passes (standing places) c.args.pivot c.args.trail.now.literals (place_at places
    (slice_index c.numbers-numbers.result.now c.loop-number.number-index)) ≡ false =
    ap (λ (t : Trail). place_passes (standing places) c.args.pivot t.literals (place_at places
    (slice_index c.numbers-numbers.result.now c.loop-number.number-index)))
    (sym c.loop-number.invariant.same)
    ∙ sym c.in_ok-good.ensures.passes ∙ c.if-not-good.true in
    sym (one-fails places c.args.pivot c.args.trail.now.literals (slice_index c.numbers-numbers.result.now c.loop-number.number-index) here)

pub returns-clause-pass : goal.returns-clause-pass
returns-clause-pass c =
    let places = c.args.db.now in
    sym (all-pass places c.args.pivot c.args.trail.now.literals c.numbers-numbers.result.now
    (λ number clause stands held. c.numbers-numbers.ensures.all number clause stands
    (ap (literals_of clause) c.negated.ensures ∙ held))
    (λ number other m stands. c.loop-number.invariant.pass number other
    (subst (λ (l : List ℕ). IsTrue (has_number number l))
    (sym (take_all c.loop-number.number-index c.numbers-numbers.result.now c.loop-number-test.false)) m) stands))

pub returns-clause-line : goal.returns-clause-line
returns-clause-line c = λ is wanted plain some others first.
    good-groups c.args.db.now c.args.clause.now others c.args.pivot c.numbers-numbers.result.now c.loop-number.line.groups
    (subst (λ (l : List ℕ). FitGroups c.args.db.now c.args.clause.now c.args.pivot l c.loop-number.line.groups)
    (take_all c.loop-number.number-index c.numbers-numbers.result.now c.loop-number-test.false) (c.loop-number.invariant.fits wanted plain))
    (λ number other stands held. c.numbers-numbers.ensures.all number other stands (ap (literals_of other) c.negated.ensures ∙ held))
    c.numbers-numbers.ensures.rising some first
