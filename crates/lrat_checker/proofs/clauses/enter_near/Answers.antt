-- What is left to show of `enter_near`.
use Rattle.std.proofs.Common.{◌≡◌, ◌∙◌, ap, sym, arith, true, inl, inr}
use Rattle.std.proofs.lemmas.Bool.{cases_lt}
use Rattle.lrat_checker.specs.Clauses.{near_at}
use Rattle.lrat_checker.specs.Holders.{is_entered}
use Rattle.lrat_checker.specs.Walk.{passes_at}
use Rattle.lrat_checker.proofs.Kept.{along, place_kept}
use Rattle.lrat_checker.proofs.clauses.enter_near.Goals as goal

pub loop-number-preserved : goal.loop-number-preserved
loop-number-preserved c =
    let new = c.enter_place.new.holders in
    let number = c.loop-number.number in
    let last : passes_at (is_entered new) number (near_at c.args.chunks.now number)
    ≡ true = ap (passes_at (is_entered new) number) (sym c.near_clause.ensures) ∙ c.in_ok-enter_place.ensures.entered in
    record {
      kept = along c.loop-number.invariant.kept c.in_ok-enter_place.ensures.kept;
      entered = λ n lt.
          elim (cases_lt n number) as (λ _. passes_at (is_entered new) n (near_at c.args.chunks.now n) ≡ true) [
            | inl before ↦ place_kept c.loop-number.holders new c.in_ok-enter_place.ensures.kept n (near_at c.args.chunks.now n)
                (c.loop-number.invariant.entered n before)
            | inr le ↦ let same : n ≡ number = omega (arith, lt, le) in
                ap (λ k. passes_at (is_entered new) k (near_at c.args.chunks.now k)) same ∙ last
          ];
    }
