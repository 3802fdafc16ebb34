-- The literals of the clause are marked beside those that were, and no others.
use Rattle.std.proofs.Common.{inl, inr, sym, ◌∙◌}
use Rattle.std.proofs.lemmas.Bool.{or_cases}
use Rattle.lrat_rules.specs.Chain.{literals_of}
use Rattle.drat_checker.proofs.Lifts.{on-ok}
use Rattle.drat_checker.proofs.hints.mark_number.Goals as goal

pub returns-in-Some-clause-own : goal.returns-in-Some-clause-own
returns-in-Some-clause-own c =
    on-ok c.mark_all.result (λ sets x m.
    elim (or_cases (literals_of c.args.needed.now x) (literals_of c.in-Some.clause.now x) (sym (sets x) ∙ m)) [
      | inl before ↦ inl before
      | inr now ↦ inr (record { clause = c.in-Some.clause.now; stands = sym c.in-Some.ensures; own = now })
    ]) c.mark_all.ensures.sets

pub returns-in-None-clause-own : goal.returns-in-None-clause-own
returns-in-None-clause-own c = λ x m. inl m
