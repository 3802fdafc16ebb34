-- What is left to show of `gathered`.
use Rattle.std.proofs.Common.{ℤ, nat_abs, List, length, arith, sym, ap, ◌∙◌, ◌+◌, ◌-◌, ◌≡◌, suc, subst, refl, add-one}
use Rattle.std.specs.Prelude.{IsTrue, nat_lt, slice_index_or, []}
use Rattle.std.specs.List.{list_all}
use Rattle.schedule_plan.proofs.Occurrences.{literals_within}
use Rattle.schedule_plan.proofs.occurrence.gathered.Goals as goal

pub add_clause-requires : goal.add_clause-requires
add_clause-requires c =
    let formula = c.args.formula.now in
    let same : suc c.loop-clause.clause - 1 ≡ c.loop-clause.clause + 1 - 1 = omega arith in
    subst (λ (clause : List ℤ). IsTrue (list_all (λ (literal : ℤ). nat_lt (nat_abs literal) (length c.args.places.now)) clause))
    (ap (λ n. slice_index_or formula.clauses n []) same ∙ sym c.clause.ensures)
    (literals_within formula c.loop-clause.clause (length c.args.places.now) c.formula_law.ensures.literals
    (omega (arith, c.loop-clause-test.true, c.len-clause-end.ensures)) c.requires)

pub loop-clause-preserved : goal.loop-clause-preserved
loop-clause-preserved c = rw (c.in_ok-add_clause.ensures, c.clause.ensures, c.loop-clause.invariant, add-one) refl
