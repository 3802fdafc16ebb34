-- What is left to show of `unit_of`.
use Rattle.std.proofs.Common.{◌≢◌, ◌++◌, ℕ, List, [], ◌∷◌, subst, sym, inl, inr}
use Rattle.std.specs.Prelude.{OnOk}
use Rattle.node_table.specs.declared.node.Justification.{Justification}
use Rattle.node_table.specs.declared.node.Node.{Node}
use Rattle.node_table.specs.Defined.{atom_of}
use Rattle.node_table.specs.Justification.{IsJustified}
use Rattle.operations.specs.Results.{conjunction_atoms}
use Rattle.clause_terms.specs.Term.{AddsUnit}
use Rattle.bdd_terms.specs.Units.{hint_of}
use Rattle.bdd_terms.proofs.Units.{not_both, first_named, second_named, just_named, unit_refuted, not_true}
use Rattle.bdd_terms.proofs.Proved.{anew_is_new}
use Rattle.bdd_terms.proofs.Repeated.{first_open, second_open}
use Rattle.bdd_terms.proofs.StayingTerms.{if_ok}
use Rattle.bdd_terms.proofs.unit.unit_of.Goals as goal

pub unreachable-requires : goal.unreachable-requires
unreachable-requires g c =
    let wu : c.args.w ≢ c.args.u.now.node = λ is. not_both c.is_same.result (c.is_same.ensures.1 is) c.if-is_same.false in
    let wv : c.args.w ≢ c.args.v.now.node = λ is. not_both c.is_same-2.result (c.is_same-2.ensures.1 is) c.if-is_same-2.false in
    first_named c.canonical_law.ensures c.args.table.now.graph c.requires.sound.tied.reduced c.args.table.now.book.state.live
    c.args.u.now.node c.args.v.now.node c.args.w c.args.just.now
    c.requires.first.stands c.requires.second.stands c.requires.conjoined
    (first_open c.canonical_law.ensures c.args.table.now.graph c.requires.sound.tied.reduced c.args.table.now.book.state.live
    c.args.u.now.node c.args.v.now.node c.args.w c.args.just.now c.requires.first.stands c.requires.second.stands c.requires.conjoined wu)
    (second_open c.canonical_law.ensures c.args.table.now.graph c.requires.sound.tied.reduced c.args.table.now.book.state.live
    c.args.u.now.node c.args.v.now.node c.args.w c.args.just.now c.requires.first.stands c.requires.second.stands c.requires.conjoined wv)
    wu wv c.args.u.now.unit c.requires.first.unit c.in_default.ensures

pub unreachable-requires-in_default-clause_id : goal.unreachable-requires-in_default-clause_id
unreachable-requires-in_default-clause_id g c =
    let wu : c.args.w ≢ c.args.u.now.node = λ is. not_both c.is_same.result (c.is_same.ensures.1 is) c.if-is_same.false in
    let wv : c.args.w ≢ c.args.v.now.node = λ is. not_both c.is_same-2.result (c.is_same-2.ensures.1 is) c.if-is_same-2.false in
    second_named c.canonical_law.ensures c.args.table.now.graph c.requires.sound.tied.reduced c.args.table.now.book.state.live
    c.args.u.now.node c.args.v.now.node c.args.w c.args.just.now
    c.requires.first.stands c.requires.second.stands c.requires.conjoined
    (first_open c.canonical_law.ensures c.args.table.now.graph c.requires.sound.tied.reduced c.args.table.now.book.state.live
    c.args.u.now.node c.args.v.now.node c.args.w c.args.just.now c.requires.first.stands c.requires.second.stands c.requires.conjoined wu)
    (second_open c.canonical_law.ensures c.args.table.now.graph c.requires.sound.tied.reduced c.args.table.now.book.state.live
    c.args.u.now.node c.args.v.now.node c.args.w c.args.just.now c.requires.first.stands c.requires.second.stands c.requires.conjoined wv)
    wu wv c.args.v.now.unit c.requires.second.unit c.in_default-clause_id.ensures

pub unreachable-requires-in_default-clause_id-2 : goal.unreachable-requires-in_default-clause_id-2
unreachable-requires-in_default-clause_id-2 g c =
    let wu : c.args.w ≢ c.args.u.now.node = λ is. not_both c.is_same.result (c.is_same.ensures.1 is) c.if-is_same.false in
    let wv : c.args.w ≢ c.args.v.now.node = λ is. not_both c.is_same-2.result (c.is_same-2.ensures.1 is) c.if-is_same-2.false in
    just_named c.canonical_law.ensures c.args.table.now.graph c.requires.sound.tied.reduced c.args.table.now.book.state.live
    c.args.u.now.node c.args.v.now.node c.args.w c.args.just.now
    c.requires.first.stands c.requires.second.stands c.requires.conjoined
    (first_open c.canonical_law.ensures c.args.table.now.graph c.requires.sound.tied.reduced c.args.table.now.book.state.live
    c.args.u.now.node c.args.v.now.node c.args.w c.args.just.now c.requires.first.stands c.requires.second.stands c.requires.conjoined wu)
    (second_open c.canonical_law.ensures c.args.table.now.graph c.requires.sound.tied.reduced c.args.table.now.book.state.live
    c.args.u.now.node c.args.v.now.node c.args.w c.args.just.now c.requires.first.stands c.requires.second.stands c.requires.conjoined wv)
    wu wv
    c.in_default-clause_id-2.ensures

pub add_unit-requires-clause-not_true : goal.add_unit-requires-clause-not_true
add_unit-requires-clause-not_true g c =
    not_true c.canonical_law.ensures c.args.table.now.graph c.requires.sound.tied.reduced c.args.table.now.book.state.live c.args.u.now.node
    c.args.v.now.node c.args.w c.args.just.now
    c.requires.first.stands c.requires.second.stands c.requires.conjoined (λ is. not_both c.is_same.result (c.is_same.ensures.1 is) c.if-is_same.false)

pub add_unit-requires-clause-strict : goal.add_unit-requires-clause-strict
add_unit-requires-clause-strict g c =
    let wu : c.args.w ≢ c.args.u.now.node = λ is. not_both c.is_same.result (c.is_same.ensures.1 is) c.if-is_same.false in
    let wv : c.args.w ≢ c.args.v.now.node = λ is. not_both c.is_same-2.result (c.is_same-2.ensures.1 is) c.if-is_same-2.false in
    let graph = c.args.table.now.graph in
    let live = c.args.table.now.book.state.live in
    unit_refuted c.canonical_law.ensures graph c.requires.sound.tied.reduced live c.args.u.now.node c.args.v.now.node c.args.w
    c.args.just.now
    c.requires.first.stands c.requires.second.stands c.requires.conjoined
    (first_open c.canonical_law.ensures c.args.table.now.graph c.requires.sound.tied.reduced c.args.table.now.book.state.live
    c.args.u.now.node c.args.v.now.node c.args.w c.args.just.now c.requires.first.stands c.requires.second.stands c.requires.conjoined wu)
    (second_open c.canonical_law.ensures c.args.table.now.graph c.requires.sound.tied.reduced c.args.table.now.book.state.live
    c.args.u.now.node c.args.v.now.node c.args.w c.args.just.now c.requires.first.stands c.requires.second.stands c.requires.conjoined wv)
    wu wv
    c.clause_law.ensures.among c.clause_law.ensures.given c.following_unit_law.ensures.conjunction c.in-Some.first
    c.in-Some-clause_id.second c.in-Some-clause_id-2.both
    (subst (λ (j : Justification). IsJustified live (atom_of graph c.args.u.now.node ∷ []) j) c.in-Some.ensures c.requires.first.unit)
    (subst (λ (j : Justification). IsJustified live (atom_of graph c.args.v.now.node ∷ []) j) c.in-Some-clause_id.ensures c.requires.second.unit)
    (subst (λ (j : Justification). IsJustified live (conjunction_atoms graph c.args.u.now.node c.args.v.now.node c.args.w) j)
    c.in-Some-clause_id-2.ensures c.requires.conjoined.justified)

-- it is an operand's, or a clause more
pub operand_unit-requires-clause-stands : goal.operand_unit-requires-clause-stands
operand_unit-requires-clause-stands g c = c.requires.conjoined.stands

pub operand_unit-requires-clause-proved : goal.operand_unit-requires-clause-proved
operand_unit-requires-clause-proved g c =
    let table = c.args.table.now in
    subst (λ (node : Node). IsJustified table.book.state.live (atom_of table.graph node ∷ []) c.args.u.now.unit)
    (sym (c.is_same.ensures.0 c.if-is_same.true)) c.requires.first.unit

pub returns-then-is_same-clause-proves : goal.returns-then-is_same-clause-proves
returns-then-is_same-clause-proves g c = c.operand_unit.ensures.proves

pub returns-then-is_same-clause-given : goal.returns-then-is_same-clause-given
returns-then-is_same-clause-given g c = if_ok c.operand_unit.result _ _ (λ unit is. elim is [ inl own ↦ inl own | inr new ↦ inr (inr new) ]) c.operand_unit.ensures.given

pub returns-then-is_same-clause-added : goal.returns-then-is_same-clause-added
returns-then-is_same-clause-added g c = if_ok c.operand_unit.result _ _ (λ unit is. elim is [ inl own ↦ inl own | inr new ↦ inr (inr new) ]) c.operand_unit.ensures.added

pub returns-then-is_same-clause-own : goal.returns-then-is_same-clause-own
returns-then-is_same-clause-own g c not_fresh is = c.operand_unit.ensures.own not_fresh

pub returns-then-is_same-clause-told : goal.returns-then-is_same-clause-told
returns-then-is_same-clause-told g c differ other = absurd (differ (c.is_same.ensures.0 c.if-is_same.true))

pub returns-then-is_same-clause-anew : goal.returns-then-is_same-clause-anew
returns-then-is_same-clause-anew g c fresh = c.operand_unit.ensures.anew fresh

pub operand_unit-requires-then-is_same-2-clause-stands : goal.operand_unit-requires-then-is_same-2-clause-stands
operand_unit-requires-then-is_same-2-clause-stands g c = c.requires.conjoined.stands

pub operand_unit-requires-then-is_same-2-clause-proved : goal.operand_unit-requires-then-is_same-2-clause-proved
operand_unit-requires-then-is_same-2-clause-proved g c =
    let table = c.args.table.now in
    subst (λ (node : Node). IsJustified table.book.state.live (atom_of table.graph node ∷ []) c.args.v.now.unit)
    (sym (c.is_same-2.ensures.0 c.if-is_same-2.true)) c.requires.second.unit

pub returns-then-is_same-2-clause-proves : goal.returns-then-is_same-2-clause-proves
returns-then-is_same-2-clause-proves g c = c.operand_unit-then-is_same-2.ensures.proves

pub returns-then-is_same-2-clause-given : goal.returns-then-is_same-2-clause-given
returns-then-is_same-2-clause-given g c = if_ok c.operand_unit-then-is_same-2.result _ _ (λ unit is. inr is) c.operand_unit-then-is_same-2.ensures.given

pub returns-then-is_same-2-clause-added : goal.returns-then-is_same-2-clause-added
returns-then-is_same-2-clause-added g c = if_ok c.operand_unit-then-is_same-2.result _ _ (λ unit is. inr is) c.operand_unit-then-is_same-2.ensures.added

pub returns-then-is_same-2-clause-own : goal.returns-then-is_same-2-clause-own
returns-then-is_same-2-clause-own g c not_fresh is = c.operand_unit-then-is_same-2.ensures.own not_fresh

pub returns-then-is_same-2-clause-told : goal.returns-then-is_same-2-clause-told
returns-then-is_same-2-clause-told g c differ other = absurd (other (c.is_same-2.ensures.0 c.if-is_same-2.true))

pub returns-then-is_same-2-clause-anew : goal.returns-then-is_same-2-clause-anew
returns-then-is_same-2-clause-anew g c fresh = c.operand_unit-then-is_same-2.ensures.anew fresh

-- a clause is added
pub returns-clause-proves : goal.returns-clause-proves
returns-clause-proves g c = c.add_unit.ensures.anew.proves

pub returns-clause-anew : goal.returns-clause-anew
returns-clause-anew g c fresh = c.add_unit.ensures.anew

pub returns-clause-own : goal.returns-clause-own
returns-clause-own g c not_fresh is = elim is [
  | inl first ↦ absurd (not_both c.is_same.result (c.is_same.ensures.1 first) c.if-is_same.false)
  | inr second ↦ absurd (not_both c.is_same-2.result (c.is_same-2.ensures.1 second) c.if-is_same-2.false)
]

pub returns-clause-given : goal.returns-clause-given
returns-clause-given g c =
    if_ok c.add_unit.result _ _ (λ unit is. inr (inr is))
    (anew_is_new c.args.table.now c.add_unit.new.table c.args.w c.add_unit.result c.add_unit.ensures.anew)

pub returns-clause-added : goal.returns-clause-added
returns-clause-added g c = if_ok c.add_unit.result _ _ (λ unit stands. inr (inr stands)) c.add_unit.ensures.anew.added

pub returns-clause-told : goal.returns-clause-told
returns-clause-told g c differ other =
    subst (λ (hints : List ℕ). OnOk c.add_unit.result (AddsUnit c.args.table.now c.add_unit.new.table c.args.w hints))
    (λ i. hint_of (sym c.in-Some.ensures i) ++ hint_of (sym c.in-Some-clause_id.ensures i) ++ hint_of (sym c.in-Some-clause_id-2.ensures i))
    c.add_unit.ensures.told
