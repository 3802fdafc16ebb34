-- What is left to show of `unit_of_implied`.
use Rattle.std.proofs.Common.{◌≢◌, ◌∙◌, ◌++◌, ℕ, List, [], ◌∷◌, refl, sym, subst, inl, inr}
use Rattle.std.specs.Prelude.{OnOk}
use Rattle.node_table.specs.declared.node.Node.{Node}
use Rattle.node_table.specs.declared.node.Node.TheVariants.{True}
use Rattle.node_table.specs.declared.node.Justification.{Justification}
use Rattle.node_table.specs.Defined.{atom_of}
use Rattle.node_table.specs.Justification.{IsJustified}
use Rattle.operations.specs.Results.{implication_atoms}
use Rattle.clause_terms.specs.Term.{AddsUnit}
use Rattle.bdd_terms.specs.Units.{hint_of}
use Rattle.bdd_terms.proofs.Units.{not_both, implying_named, implication_named, implied_refuted}
use Rattle.bdd_terms.proofs.NoEmpty.{implied_open}
use Rattle.bdd_terms.proofs.OwnUnits.{no_clause}
use Rattle.bdd_terms.proofs.Proved.{anew_is_new, none_more, proves_true}
use Rattle.bdd_terms.proofs.StayingTerms.{if_ok}
use Rattle.bdd_terms.proofs.unit.unit_of_implied.Goals as goal

pub unreachable-requires : goal.unreachable-requires
unreachable-requires g c =
    let wu : c.args.w ≢ c.args.u.now.node = λ is. not_both c.is_same.result (c.is_same.ensures.1 is) c.if-is_same.false in
    let open_w : c.args.w ≢ True = λ is. not_both c.is_same-2.result (c.is_same-2.ensures.1 is) c.if-is_same-2.false in
    implying_named c.canonical_law.ensures c.args.table.now.graph c.requires.sound.tied.reduced c.args.table.now.book.state.live
    c.args.u.now.node c.args.w c.args.just.now
    c.requires.first.stands c.requires.second c.requires.implied
    (λ is. not_both c.is_same-3.result (c.is_same-3.ensures.1 is) c.if-is_same-3.false) wu open_w c.args.u.now.unit c.requires.first.unit
    c.in_default.ensures

pub unreachable-requires-in_default-clause_id : goal.unreachable-requires-in_default-clause_id
unreachable-requires-in_default-clause_id g c =
    let wu : c.args.w ≢ c.args.u.now.node = λ is. not_both c.is_same.result (c.is_same.ensures.1 is) c.if-is_same.false in
    let open_w : c.args.w ≢ True = λ is. not_both c.is_same-2.result (c.is_same-2.ensures.1 is) c.if-is_same-2.false in
    implication_named c.canonical_law.ensures c.args.table.now.graph c.requires.sound.tied.reduced c.args.table.now.book.state.live
    c.args.u.now.node c.args.w c.args.just.now
    c.requires.first.stands c.requires.second c.requires.implied
    (λ is. not_both c.is_same-3.result (c.is_same-3.ensures.1 is) c.if-is_same-3.false) wu open_w c.in_default-clause_id.ensures

pub add_unit-requires-clause-not_true : goal.add_unit-requires-clause-not_true
add_unit-requires-clause-not_true g c = λ is. not_both c.is_same-2.result (c.is_same-2.ensures.1 is) c.if-is_same-2.false

pub add_unit-requires-clause-strict : goal.add_unit-requires-clause-strict
add_unit-requires-clause-strict g c =
    let wu : c.args.w ≢ c.args.u.now.node = λ is. not_both c.is_same.result (c.is_same.ensures.1 is) c.if-is_same.false in
    let open_w : c.args.w ≢ True = λ is. not_both c.is_same-2.result (c.is_same-2.ensures.1 is) c.if-is_same-2.false in
    let graph = c.args.table.now.graph in
    let live = c.args.table.now.book.state.live in
    implied_refuted c.canonical_law.ensures graph c.requires.sound.tied.reduced live c.args.u.now.node c.args.w c.args.just.now
    c.requires.first.stands c.requires.second c.requires.implied
    (λ is. not_both c.is_same-3.result (c.is_same-3.ensures.1 is) c.if-is_same-3.false) wu open_w
    c.clause_law.ensures.among c.clause_law.ensures.given c.following_unit_law.ensures.implication c.in-Some.first
    c.in-Some-clause_id.implication
    (subst (λ (j : Justification). IsJustified live (atom_of graph c.args.u.now.node ∷ []) j) c.in-Some.ensures c.requires.first.unit)
    (subst (λ (j : Justification). IsJustified live (implication_atoms graph c.args.u.now.node c.args.w) j) c.in-Some-clause_id.ensures
    c.requires.implied.justified)

-- it is the term's, or a clause more
pub operand_unit-requires-clause-stands : goal.operand_unit-requires-clause-stands
operand_unit-requires-clause-stands g c = c.requires.second

pub operand_unit-requires-clause-proved : goal.operand_unit-requires-clause-proved
operand_unit-requires-clause-proved g c =
    let table = c.args.table.now in
    subst (λ (node : Node). IsJustified table.book.state.live (atom_of table.graph node ∷ []) c.args.u.now.unit)
    (sym (c.is_same.ensures.0 c.if-is_same.true)) c.requires.first.unit

pub returns-then-is_same-clause-proves : goal.returns-then-is_same-clause-proves
returns-then-is_same-clause-proves g c = c.operand_unit.ensures.proves

pub returns-then-is_same-clause-given : goal.returns-then-is_same-clause-given
returns-then-is_same-clause-given g c = c.operand_unit.ensures.given

pub returns-then-is_same-clause-added : goal.returns-then-is_same-clause-added
returns-then-is_same-clause-added g c = c.operand_unit.ensures.added

pub returns-then-is_same-clause-own : goal.returns-then-is_same-clause-own
returns-then-is_same-clause-own g c not_fresh is = c.operand_unit.ensures.own not_fresh

pub returns-then-is_same-clause-steps : goal.returns-then-is_same-clause-steps
returns-then-is_same-clause-steps g c open_u =
    c.operand_unit.ensures.proves.some (λ is. open_u (sym (c.is_same.ensures.0 c.if-is_same.true) ∙ is))

pub returns-then-is_same-clause-told : goal.returns-then-is_same-clause-told
returns-then-is_same-clause-told g c open_u differ other = absurd (differ (c.is_same.ensures.0 c.if-is_same.true))

pub returns-then-is_same-clause-anew : goal.returns-then-is_same-clause-anew
returns-then-is_same-clause-anew g c fresh = c.operand_unit.ensures.anew fresh

-- the node is True
pub returns-then-is_same-2-clause-proves : goal.returns-then-is_same-2-clause-proves
returns-then-is_same-2-clause-proves g c =
    (proves_true c.steps_law.ensures c.args.table.now c.requires.sound c.args.w (c.is_same-2.ensures.0 c.if-is_same-2.true)).proves

pub returns-then-is_same-2-clause-given : goal.returns-then-is_same-2-clause-given
returns-then-is_same-2-clause-given g c = inr (λ id is. absurd (no_clause id is))

pub returns-then-is_same-2-clause-added : goal.returns-then-is_same-2-clause-added
returns-then-is_same-2-clause-added g c = inr (λ id is. absurd (no_clause id is))

pub returns-then-is_same-2-clause-own : goal.returns-then-is_same-2-clause-own
returns-then-is_same-2-clause-own g c not_fresh is = refl

pub returns-then-is_same-2-clause-steps : goal.returns-then-is_same-2-clause-steps
returns-then-is_same-2-clause-steps g c open_u = none_more c.steps_law.ensures c.args.table.now c.requires.sound c.args.w

pub returns-then-is_same-2-clause-told : goal.returns-then-is_same-2-clause-told
returns-then-is_same-2-clause-told g c open_u differ other = absurd (other (c.is_same-2.ensures.0 c.if-is_same-2.true))

pub returns-then-is_same-2-clause-anew : goal.returns-then-is_same-2-clause-anew
returns-then-is_same-2-clause-anew g c fresh =
    proves_true c.steps_law.ensures c.args.table.now c.requires.sound c.args.w (c.is_same-2.ensures.0 c.if-is_same-2.true)

-- the term is False
pub add_behind_empty-requires-clause-not_true : goal.add_behind_empty-requires-clause-not_true
add_behind_empty-requires-clause-not_true g c is = not_both c.is_same-2.result (c.is_same-2.ensures.1 is) c.if-is_same-2.false

pub add_behind_empty-requires-clause-stands : goal.add_behind_empty-requires-clause-stands
add_behind_empty-requires-clause-stands g c = c.requires.second

pub add_behind_empty-requires-clause-empty : goal.add_behind_empty-requires-clause-empty
add_behind_empty-requires-clause-empty g c =
    let table = c.args.table.now in
    subst (λ (node : Node). IsJustified table.book.state.live (atom_of table.graph node ∷ []) c.args.u.now.unit)
    (c.is_same-3.ensures.0 c.if-is_same-3.true) c.requires.first.unit

pub returns-then-is_same-3-clause-proves : goal.returns-then-is_same-3-clause-proves
returns-then-is_same-3-clause-proves g c = c.add_behind_empty.ensures.proves

pub returns-then-is_same-3-clause-given : goal.returns-then-is_same-3-clause-given
returns-then-is_same-3-clause-given g c =
    if_ok c.add_behind_empty.result _ _ (λ unit is. inr is)
    (anew_is_new c.args.table.now c.add_behind_empty.new.table c.args.w c.add_behind_empty.result c.add_behind_empty.ensures)

pub returns-then-is_same-3-clause-added : goal.returns-then-is_same-3-clause-added
returns-then-is_same-3-clause-added g c = if_ok c.add_behind_empty.result _ _ (λ unit stands. inr stands) c.add_behind_empty.ensures.added

pub returns-then-is_same-3-clause-own : goal.returns-then-is_same-3-clause-own
returns-then-is_same-3-clause-own g c not_fresh is = elim is [
  | inl first ↦ absurd (not_both c.is_same.result (c.is_same.ensures.1 first) c.if-is_same.false)
  | inr second ↦ absurd (not_both c.is_same-2.result (c.is_same-2.ensures.1 second) c.if-is_same-2.false)
]

pub returns-then-is_same-3-clause-steps : goal.returns-then-is_same-3-clause-steps
returns-then-is_same-3-clause-steps g c open_u = absurd (open_u (c.is_same-3.ensures.0 c.if-is_same-3.true))

pub returns-then-is_same-3-clause-told : goal.returns-then-is_same-3-clause-told
returns-then-is_same-3-clause-told g c open_u differ other = absurd (open_u (c.is_same-3.ensures.0 c.if-is_same-3.true))

pub returns-then-is_same-3-clause-anew : goal.returns-then-is_same-3-clause-anew
returns-then-is_same-3-clause-anew g c fresh = c.add_behind_empty.ensures

-- a clause is added
pub returns-clause-proves : goal.returns-clause-proves
returns-clause-proves g c = c.add_unit.ensures.anew.proves

pub returns-clause-anew : goal.returns-clause-anew
returns-clause-anew g c fresh = c.add_unit.ensures.anew

pub returns-clause-own : goal.returns-clause-own
returns-clause-own g c not_fresh is = elim is [
  | inl first ↦ absurd (not_both c.is_same.result (c.is_same.ensures.1 first) c.if-is_same.false)
  | inr second ↦ absurd (not_both c.is_same-2.result (c.is_same-2.ensures.1 second) c.if-is_same-2.false)
]

pub returns-clause-given : goal.returns-clause-given
returns-clause-given g c =
    if_ok c.add_unit.result _ _ (λ unit is. inr is)
    (anew_is_new c.args.table.now c.add_unit.new.table c.args.w c.add_unit.result c.add_unit.ensures.anew)

pub returns-clause-added : goal.returns-clause-added
returns-clause-added g c = if_ok c.add_unit.result _ _ (λ unit stands. inr stands) c.add_unit.ensures.anew.added

pub returns-clause-steps : goal.returns-clause-steps
returns-clause-steps g c open_u =
    c.add_unit.ensures.anew.proves.some
    (implied_open c.canonical_law.ensures c.args.table.now.graph c.requires.sound.tied.reduced c.args.u.now.node c.args.w c.requires.first.stands
    open_u c.requires.implied.value)

pub returns-clause-told : goal.returns-clause-told
returns-clause-told g c open_u differ other =
    subst (λ (hints : List ℕ). OnOk c.add_unit.result (AddsUnit c.args.table.now c.add_unit.new.table c.args.w hints))
    (λ i. hint_of (sym c.in-Some.ensures i) ++ hint_of (sym c.in-Some-clause_id.ensures i)) c.add_unit.ensures.told
