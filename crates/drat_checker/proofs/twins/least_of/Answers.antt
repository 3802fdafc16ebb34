-- One number more, and the end.
use Rattle.std.proofs.Common.{ℕ, ◌+◌, List, Option, take, refl, sym, ◌∙◌, subst}
use Rattle.std.specs.Prelude.{IsTrue, IfSome, slice_index}
use Rattle.std.proofs.lemmas.List.{take_all}
use Rattle.drat_rules.specs.Clauses.{equality_of}
use Rattle.drat_checker.specs.Places.{is_twin, place_at}
use Rattle.drat_checker.specs.Numbers.{has_number}
use Rattle.drat_checker.proofs.LeastNumbers.{LeastOf, lesser-found, least-other, least-twin}
use Rattle.drat_checker.proofs.twins.least_of.Goals as goal

pub loop-number-init : goal.loop-number-init
loop-number-init c = record { found = tt; least = λ number none twin. absurd (cc) }

pub loop-number-preserved-then-not-is_twin : goal.loop-number-preserved-then-not-is_twin
loop-number-preserved-then-not-is_twin c = record {
  found = c.loop-number.invariant.found;
  least = least-other c.args.store.now (equality_of c.args.deletions) c.args.clause.now c.args.numbers.now c.loop-number.number-index
      (slice_index c.args.numbers.now c.loop-number.number-index)
      c.loop-number-test.true refl c.loop-number.least c.loop-number.invariant.least (sym c.is_twin.ensures ∙ c.if-not-is_twin.true);
}

pub loop-number-preserved : goal.loop-number-preserved
loop-number-preserved c =
    let k = slice_index c.args.numbers.now c.loop-number.number-index in
    let same = equality_of c.args.deletions in
    let passes = λ (number : ℕ). IsTrue (is_twin same c.args.clause.now (place_at c.args.store.now number)) in
    record {
      found = subst (λ (o : Option ℕ). IfSome o passes) (sym c.lesser-least.ensures)
          (lesser-found passes c.loop-number.least k c.loop-number.invariant.found (sym c.is_twin.ensures ∙ c.if-not-is_twin.false));
      least = subst (λ (o : Option ℕ). LeastOf c.args.store.now same c.args.clause.now
          (take (c.loop-number.number-index + 1) c.args.numbers.now) o) (sym c.lesser-least.ensures)
          (least-twin c.args.store.now same c.args.clause.now c.args.numbers.now c.loop-number.number-index k c.loop-number-test.true refl
          c.loop-number.least c.loop-number.invariant.least);
    }

pub returns-clause-least : goal.returns-clause-least
returns-clause-least c = λ number m twin.
    c.loop-number.invariant.least number
    (subst (λ (l : List ℕ). IsTrue (has_number number l))
    (sym (take_all c.loop-number.number-index c.args.numbers.now c.loop-number-test.false)) m) twin

pub returns-clause-found : goal.returns-clause-found
returns-clause-found c = c.loop-number.invariant.found
