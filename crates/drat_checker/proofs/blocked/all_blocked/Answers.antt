-- One number more, and the end.
use Rattle.std.proofs.Common.{ℕ, List, refl, sym, ◌∙◌, ap, subst}
use Rattle.std.specs.Prelude.{IsTrue, slice_index}
use Rattle.std.proofs.lemmas.List.{take_all}
use Rattle.lrat_rules.specs.Chain.{literals_of}
use Rattle.drat_checker.specs.Places.{standing}
use Rattle.drat_checker.specs.Numbers.{has_number}
use Rattle.drat_checker.proofs.Candidates.{all-pass, pass-step}
use Rattle.drat_checker.proofs.blocked.all_blocked.Goals as goal

pub loop-number-init : goal.loop-number-init
loop-number-init c = record { pass = λ number other none stands. absurd (cc) }

pub loop-number-preserved : goal.loop-number-preserved
loop-number-preserved c = record {
  pass = pass-step c.args.db.now c.args.pivot c.args.clause.now c.numbers-numbers.result.now c.loop-number.number-index
      (slice_index c.numbers-numbers.result.now c.loop-number.number-index)
      c.loop-number-test.true refl c.loop-number.invariant.pass
      (c.is_number_blocked-blocked.ensures c.if-not-blocked.false (standing c.args.db.now));
}

pub returns : goal.returns
returns c = λ _.
    all-pass c.args.db.now c.args.pivot c.args.clause.now c.numbers-numbers.result.now
    (λ number clause stands held. c.numbers-numbers.ensures.all number clause stands
    (ap (literals_of clause) c.negated.ensures ∙ held))
    (λ number other m stands. c.loop-number.invariant.pass number other
    (subst (λ (l : List ℕ). IsTrue (has_number number l))
    (sym (take_all c.loop-number.number-index c.numbers-numbers.result.now c.loop-number-test.false)) m) stands)
