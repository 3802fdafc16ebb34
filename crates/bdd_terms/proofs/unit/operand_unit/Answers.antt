-- An operand's unit: itself, or a clause more.
use Rattle.std.proofs.Common.{refl, inl, inr}
use Rattle.bdd_terms.proofs.OwnUnits.{no_clause}
use Rattle.bdd_terms.proofs.Proved.{anew_is_new, proves_same, proves_true}
use Rattle.bdd_terms.proofs.StayingTerms.{if_ok}
use Rattle.bdd_terms.proofs.Units.{not_both}
use Rattle.bdd_terms.proofs.unit.operand_unit.Goals as goal

pub add_again-requires-clause-not_true : goal.add_again-requires-clause-not_true
add_again-requires-clause-not_true g c is = not_both c.is_same.result (c.is_same.ensures.1 is) c.if-is_same.false

pub returns-then-not-fresh-clause-proves : goal.returns-then-not-fresh-clause-proves
returns-then-not-fresh-clause-proves g c = proves_same c.steps_law.ensures c.args.table.now c.requires.sound c.args.w c.args.unit.now
    c.requires.proved

pub returns-then-not-fresh-clause-given : goal.returns-then-not-fresh-clause-given
returns-then-not-fresh-clause-given g c = inl refl

pub returns-then-not-fresh-clause-added : goal.returns-then-not-fresh-clause-added
returns-then-not-fresh-clause-added g c = inl refl

pub returns-then-is_same-clause-proves : goal.returns-then-is_same-clause-proves
returns-then-is_same-clause-proves g c =
    (proves_true c.steps_law.ensures c.args.table.now c.requires.sound c.args.w (c.is_same.ensures.0 c.if-is_same.true)).proves

pub returns-then-is_same-clause-given : goal.returns-then-is_same-clause-given
returns-then-is_same-clause-given g c = inr (λ id is. absurd (no_clause id is))

pub returns-then-is_same-clause-added : goal.returns-then-is_same-clause-added
returns-then-is_same-clause-added g c = inr (λ id is. absurd (no_clause id is))

pub returns-then-is_same-clause-anew : goal.returns-then-is_same-clause-anew
returns-then-is_same-clause-anew g c fresh =
    proves_true c.steps_law.ensures c.args.table.now c.requires.sound c.args.w (c.is_same.ensures.0 c.if-is_same.true)

pub returns-clause-proves : goal.returns-clause-proves
returns-clause-proves g c = c.add_again.ensures.proves

pub returns-clause-given : goal.returns-clause-given
returns-clause-given g c =
    if_ok c.add_again.result _ _ (λ unit is. inr is)
    (anew_is_new c.args.table.now c.add_again.new.table c.args.w c.add_again.result c.add_again.ensures)

pub returns-clause-added : goal.returns-clause-added
returns-clause-added g c = if_ok c.add_again.result _ _ (λ unit stands. inr stands) c.add_again.ensures.added

pub returns-clause-anew : goal.returns-clause-anew
returns-clause-anew g c fresh = c.add_again.ensures
