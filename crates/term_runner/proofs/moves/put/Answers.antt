-- The last terms go, one after another, and their units are retired.
use Rattle.std.proofs.Common.{◌≡◌, ◌∙◌, ◌<◌, ◌+◌, ◌++◌, ℕ, true, false, zero, suc, List, [], ◌∷◌, Option, None, Some, Contains, length, take, drop, reverse, refl, sym, ap, subst}
use Rattle.std.proofs.Common.{arith, inl, inr}
use Rattle.std.specs.Prelude.{IsSome, get_or}
use Rattle.std.specs.Option.{option_to_list}
use Rattle.std.proofs.lemmas.List.{drop_more, length_push, reverse-append, take-append-drop, take_all, take_more}
use Rattle.node_table.specs.Table.{TableState, IsAddedTo}
use Rattle.node_table.specs.declared.node.Justification.{Justification}
use Rattle.node_table.specs.declared.node.Justification.TheVariants.{Clause}
use Rattle.bdd_terms.specs.declared.held.HeldTerm.{HeldTerm}
use Rattle.bdd_terms.specs.Units.{IsUnitOf, RetiresUnits, UnitsApart}
use Rattle.term_runner.specs.Held.{MayGiveUp}
use Rattle.bdd_terms.proofs.Replaced.{apart_parts, first_unit, none_retired}
use Rattle.term_runner.proofs.Placing.{one_more_retired}
use Rattle.bdd_terms.proofs.Units.{not_both}
use Rattle.term_runner.proofs.moves.put.Goals as goal

-- the last one goes
popped : (old new : List HeldTerm) (last : Option HeldTerm) → old ≡ new ++ option_to_list last → IsSome last
    → (x : HeldTerm) × (reverse old ≡ x ∷ reverse new)
popped old new None is some = absurd (let e : false ≡ true = some in cc)
popped old new (Some x) is some = (x, ap reverse is ∙ reverse-append new (x ∷ []))

length_popped : (old new : List HeldTerm) (last : Option HeldTerm) → old ≡ new ++ option_to_list last → IsSome last
    → length new + 1 ≡ length old
length_popped old new None is some = absurd (let e : false ≡ true = some in cc)
length_popped old new (Some x) is some = sym (ap length is ∙ length_push new x)

behind : (list : List HeldTerm) (i : ℕ) (x : HeldTerm) (rest : List HeldTerm) → drop i list ≡ x ∷ rest → drop (suc i) list ≡ rest
behind [] zero x rest is = absurd (let e : ◌≡◌ {A = List HeldTerm} [] (x ∷ rest) = is in cc)
behind (y ∷ list) zero x rest is = cc
behind [] (suc i) x rest is = absurd (let e : ◌≡◌ {A = List HeldTerm} [] (x ∷ rest) = is in cc)
behind (y ∷ list) (suc i) x rest is = behind list i x rest is

-- the unit of the next operand isn't retired yet
next_free : {S : Type 0} (first table : TableState S) (operands : List HeldTerm) (i : ℕ) (x : HeldTerm) (kept : Justification)
    → MayGiveUp first operands → i < length operands → get_or operands i x ≡ x → RetiresUnits first table (take i operands) kept
    → (id : ℕ) → x.unit ≡ Clause id → IsAddedTo table id × (Contains table.retired id → ⊥)
next_free {S = S} first table operands i x kept may small at retires id is = (
  subst (λ (t : TableState S). IsAddedTo t id) (sym retires.same) (may.added id there),
  λ gone. elim (retires.only id gone) [
    | inl was ↦ may.unretired id there was
    | inr earlier ↦ apart_parts (take i operands) (drop i operands)
        (subst UnitsApart (sym (take-append-drop i operands)) may.apart) id earlier.0 here
  ],
)
  where
    there : IsUnitOf operands id
    there = record { held = x; stacked = (i, small, at); unit = is }

    here : IsUnitOf (drop i operands) id
    here = subst (λ (l : List HeldTerm). IsUnitOf l id) (sym (drop_more operands i x small))
        (first_unit (get_or operands i x) (drop (i + 1) operands) id (ap (λ (h : HeldTerm). h.unit) at ∙ is))

pub operands-init : goal.operands-init
operands-init g c = record {
  len = omega arith;
  capacity = refl;
  out = refl;
  retires = none_retired c.args.table.now c.args.held.unit;
  steps = c.steps_law.ensures.none c.args.table.now c.requires.sound;
}

pub retire_unit-requires : goal.retire_unit-requires
retire_unit-requires g c =
    let held = c.operands.invariant in
    let may = c.requires.units (λ is. not_both c.is_same.result (c.is_same.ensures.1 is) c.if-is_same.false) in
    let free = next_free c.args.table.now c.operands.table c.args.operands.now c.operands.operand-index c.operand-item.result
    c.args.held.unit may c.operands-test.true (sym c.operand-item.is) held.retires in
    record {
      sound = held.steps.leaves.sound;
      added = λ id is. (free id is).0;
      unretired = λ id is. (free id is).1;
    }

pub operands-preserved : goal.operands-preserved
operands-preserved g c =
    let held = c.operands.invariant in
    let list = reverse c.args.out.now.items in
    let i = c.operands.operand-index in
    let some = c.pop.ensures.variant.1 (omega (arith, held.len, c.operands-test.true, c.requires.there, c.args.out.now.ok)) in
    let last = popped c.operands.out.items c.pop.new.self.items c.pop.result c.pop.ensures.items some in
    let shift : suc i ≡ i + 1 = omega arith in
    record {
      len = omega (
        arith,
        held.len,
        length_popped c.operands.out.items c.pop.new.self.items c.pop.result c.pop.ensures.items some,
        c.operands.out.ok,
        c.pop.new.self.ok,
      );
      capacity = c.pop.ensures.capacity ∙ held.capacity;
      out = sym (behind list i last.0 (reverse c.pop.new.self.items) (sym held.out ∙ last.1)) ∙ ap (λ (n : ℕ). drop n list) shift;
      retires = subst (λ (l : List HeldTerm). RetiresUnits c.args.table.now c.retire_unit.new.table l c.args.held.unit)
          (sym (take_more c.args.operands.now i c.operand-item.result c.operands-test.true
          ∙ ap (λ (h : HeldTerm). take i c.args.operands.now ++ h ∷ []) (sym c.operand-item.is)))
          (one_more_retired c.args.table.now c.operands.table c.retire_unit.new.table (take i c.args.operands.now) c.operand-item.result
          c.args.held.unit held.retires c.retire_unit.ensures.retired);
      steps = c.steps_law.ensures.further c.args.table.now c.operands.table c.retire_unit.new.table 0 0 None held.steps
          c.retire_unit.ensures.steps;
    }

pub push_reserved-requires : goal.push_reserved-requires
push_reserved-requires g c =
    let held = c.operands.invariant in
    omega (arith, held.len, held.capacity, c.operands.auto.operand-index-end, c.operands-test.false, c.requires.room)

pub returns-clause-placed : goal.returns-clause-placed
returns-clause-placed g c open_yet =
    let held = c.operands.invariant in
    let all : c.operands.operand-index ≡ length c.args.operands.now = omega
    (arith, c.operands.auto.operand-index-end, c.operands-test.false) in
    let list = reverse c.args.out.now.items in
    record {
      some = λ is. not_both c.is_same.result (c.is_same.ensures.1 is) c.if-is_same.false;
      out = ap reverse c.push_reserved.ensures.items ∙ reverse-append c.operands.out.items (c.args.held ∷ [])
          ∙ ap (λ (l : List HeldTerm). c.args.held ∷ l) (held.out ∙ ap (λ (n : ℕ). drop n list) all);
      retires = subst (λ (l : List HeldTerm). RetiresUnits c.args.table.now c.operands.table l c.args.held.unit)
          (take_all c.operands.operand-index c.args.operands.now c.operands-test.false) held.retires;
      steps = held.steps;
    }
