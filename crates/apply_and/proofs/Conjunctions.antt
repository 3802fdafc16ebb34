-- The conjunction by its cofactors, and what the two additions stand on.
use Rattle.std.proofs.Common.{◌≡◌, ◌+◌, ◌&&◌, ◌||◌, ℕ, pos, neg_ℤ, int_eq, Bool, true, false, List, [], ◌∷◌, refl, sym, ap, ◌∙◌, subst}
use Rattle.std.proofs.Common.{arith, inl, inr, ◌⊎◌}
use Rattle.std.specs.Prelude.{if◌then◌else◌}
use Rattle.std.specs.List.{list_any}
use Rattle.std.proofs.Math.IntN.{neg_ℤ-neg_ℤ}
use Rattle.std.proofs.lemmas.Bool.{or_left, or_right}
use Rattle.std.proofs.lemmas.Bool.Decides.{Decides-int_eq}
use Rattle.lrat_rules.specs.State.{Live}
use Rattle.hint_chain.specs.declared.atom.Atom.{Atom}
use Rattle.hint_chain.specs.declared.atom.Atom.TheVariants.{Of}
use Rattle.hint_chain.specs.Atoms.{neg_atom, is_literal, is_trivial}
use Rattle.hint_chain.specs.Additions.{conjunction}
use Rattle.node_table.specs.declared.node.Node.{Node}
use Rattle.node_table.specs.declared.node.Justification.{Justification}
use Rattle.node_table.specs.declared.node.Justification.TheVariants.{Trivial, Clause}
use Rattle.node_table.specs.Diagram.{Graph, IsReduced, IsBelow}
use Rattle.node_table.specs.Value.{Levels, value_of}
use Rattle.node_table.specs.Defined.{atom_of}
use Rattle.node_table.specs.Justification.{IsJustified}
use Rattle.node_table.specs.Table.{TableState, IsSound, Extends, HasChildren}
use Rattle.node_table.specs.Laws.{Canonical, Cofactors}
use Rattle.operations.specs.Additions.{AreLiterals}
use Rattle.operations.specs.declared.operands.Operands.{Operands}
use Rattle.operations.specs.Operands.{AreSplit, Splitting}
use Rattle.operations.specs.Results.{Conjoined, conjunction_atoms}
use Rattle.operations.specs.Entries.{Conjunction, Fitting}
use Rattle.apply_and.specs.Additions.{AreSides}

-- what was found of two nodes below a level stands below it
pub found_below : (graph : Graph) (live : Live) (level : ℕ) (u v w : Node) (just : Justification) → IsBelow graph level u → IsBelow graph level v
    → Conjoined graph live u v w just → IsBelow graph level w
found_below graph live level u v w just first second found = record {
  stands = found.stands;
  below = omega (arith, found.not_above (level + 1) (omega (arith, first.below)) (omega (arith, second.below)));
}

-- A step whose two sides are found.
pub record IsReady (graph : Graph) (live : Live) (o : Operands) (high low : Node × Justification) : Type 0 where
  pub split : AreSplit graph o
  pub on_high : Conjoined graph live o.u_high o.v_high high.0 high.1
  pub on_low : Conjoined graph live o.u_low o.v_low low.0 low.1

pub high_below : Splitting → (graph : Graph) → IsReduced graph → (live : Live) (o : Operands) (high low : Node × Justification)
    → IsReady graph live o high low → IsBelow graph o.level high.0
high_below splits graph reduced live o high low ready =
    found_below graph live o.level o.u_high o.v_high high.0 high.1 (splits.u_high graph reduced o ready.split)
    (splits.v_high graph reduced o ready.split) ready.on_high

pub low_below : Splitting → (graph : Graph) → IsReduced graph → (live : Live) (o : Operands) (high low : Node × Justification)
    → IsReady graph live o high low → IsBelow graph o.level low.0
low_below splits graph reduced live o high low ready =
    found_below graph live o.level o.u_low o.v_low low.0 low.1 (splits.u_low graph reduced o ready.split)
    (splits.v_low graph reduced o ready.split) ready.on_low

-- what was found stays right as the table grows
module _ {S : Type 0} (splits : Splitting) (fitting : Fitting S) (old new : TableState S) (sound : IsSound old) (extends : Extends old new)
    (o : Operands) (split : AreSplit old.graph o) where
  pub high_kept : (w : Node) (just : Justification) → Conjoined old.graph old.book.state.live o.u_high o.v_high w just
      → Conjoined new.graph new.book.state.live o.u_high o.v_high w just
  high_kept w just found =
      let kept = fitting.one old new (Conjunction o.u_high o.v_high w just) sound extends (
        record {
          first = (splits.u_high old.graph sound.tied.reduced o split).stands;
          second = (splits.v_high old.graph sound.tied.reduced o split).stands;
        },
        found,
      ) in
      kept.1

  pub low_kept : (w : Node) (just : Justification) → Conjoined old.graph old.book.state.live o.u_low o.v_low w just
      → Conjoined new.graph new.book.state.live o.u_low o.v_low w just
  low_kept w just found =
      let kept = fitting.one old new (Conjunction o.u_low o.v_low w just) sound extends (
        record {
          first = (splits.u_low old.graph sound.tied.reduced o split).stands;
          second = (splits.v_low old.graph sound.tied.reduced o split).stands;
        },
        found,
      ) in
      kept.1

  pub ready_kept : (high low : Node × Justification) → Conjoined old.graph old.book.state.live o.u_high o.v_high high.0 high.1
      → Conjoined old.graph old.book.state.live o.u_low o.v_low low.0 low.1
      → IsReady new.graph new.book.state.live o high low
  ready_kept high low on_high on_low = record {
    split = splits.kept old.graph new.graph extends.nodes o split;
    on_high = high_kept high.0 high.1 on_high;
    on_low = low_kept low.0 low.1 on_low;
  }

choose_both : (t w1 w0 u1 u0 v1 v0 : Bool) → w1 ≡ (u1 && v1) → w0 ≡ (u0 && v0) → (if t then w1 else w0)
    ≡ ((if t then u1 else u0) && (if t then v1 else v0))
choose_both true w1 w0 u1 u0 v1 v0 high low = high
choose_both false w1 w0 u1 u0 v1 v0 high low = low

-- The node of both sides' results is the conjunction: by its value, and as the answer.
module _ (laws : Cofactors) (splits : Splitting) (graph : Graph) (reduced : IsReduced graph) (before : Live) (o : Operands) (high low : Node
    × Justification) (ready : IsReady graph before o high low) where
  pub sides_value : (a : Levels) → (if a o.level then value_of graph a high.0 else value_of graph a low.0)
      ≡ (value_of graph a o.u && value_of graph a o.v)
  sides_value a =
      choose_both (a o.level) (value_of graph a high.0) (value_of graph a low.0) (value_of graph a o.u_high) (value_of graph a o.u_low)
      (value_of graph a o.v_high) (value_of graph a o.v_low)
      (ready.on_high.value a) (ready.on_low.value a)
      ∙ (λ i. (if a o.level then value_of graph a (ready.split.first_high i) else value_of graph a (ready.split.first_low i))
      && (if a o.level then value_of graph a (ready.split.second_high i) else value_of graph a (ready.split.second_low i)))
      ∙ (λ i. sym (laws.value graph reduced a o.level o.u (splits.first graph o ready.split)) i
      && sym (laws.value graph reduced a o.level o.v (splits.second graph o ready.split)) i)

  module _ (w : Node) (children : HasChildren graph o.level high.0 low.0 w) where
    pub value_ready : (a : Levels) → value_of graph a w ≡ (value_of graph a o.u && value_of graph a o.v)
    value_ready a =
        laws.value graph reduced a o.level w children.stands
        ∙ (λ i. if a o.level then value_of graph a (children.high_child i) else value_of graph a (children.low_child i))
        ∙ sides_value a

    pub conjoined_ready : (live : Live) (just : Justification) → IsJustified live (conjunction_atoms graph o.u o.v w) just
        → Conjoined graph live o.u o.v w just
    conjoined_ready live just justified = record {
      stands = children.stands;
      not_above = λ level first second. elim ready.split.earlier [
        | inl is ↦ omega (arith, children.not_above, is, first)
        | inr is ↦ omega (arith, children.not_above, is, second)
      ];
      value = value_ready;
      justified = justified;
    }

    -- what the additions stand on
    pub sides_from : ((w ≡ o.u) ⊎ (w ≡ o.v) → ⊥) → AreSides graph before o w high low
    sides_from other = record {
      on_high = record {
        stands = children.stands;
        first_differs = λ is. other (inl is);
        second_differs = λ is. other (inr is);
        cofactor = children.high_child;
        justified = subst (λ (atoms : List Atom). IsJustified before atoms high.1)
            (λ i. conjunction_atoms graph (ready.split.first_high i) (ready.split.second_high i) high.0) ready.on_high.justified;
      };
      on_low = record {
        stands = children.stands;
        first_differs = λ is. other (inl is);
        second_differs = λ is. other (inr is);
        cofactor = children.low_child;
        justified = subst (λ (atoms : List Atom). IsJustified before atoms low.1)
            (λ i. conjunction_atoms graph (ready.split.first_low i) (ready.split.second_low i) low.0) ready.on_low.justified;
      };
    }

-- the clause is true by itself where w is an operand
itself : (x : ℕ) → int_eq (neg_ℤ (neg_ℤ (pos x))) (pos x) ≡ true
itself x = (Decides-int_eq (neg_ℤ (neg_ℤ (pos x))) (pos x)).1 (neg_ℤ-neg_ℤ (pos x))

first_again : (x : ℕ) (v : Atom) → is_trivial (conjunction (Of (pos x)) v (Of (pos x))) ≡ true
first_again x v = or_left (list_any (is_literal (neg_ℤ (neg_ℤ (pos x)))) (neg_atom v ∷ Of (pos x) ∷ []))
    (is_trivial (neg_atom v ∷ Of (pos x) ∷ []))
    (or_right (is_literal (neg_ℤ (neg_ℤ (pos x))) (neg_atom v)) (int_eq (neg_ℤ (neg_ℤ (pos x))) (pos x)
    || false) (or_left (int_eq (neg_ℤ (neg_ℤ (pos x))) (pos x)) false (itself x)))

second_again : (x y : ℕ) → is_trivial (conjunction (Of (pos x)) (Of (pos y)) (Of (pos y))) ≡ true
second_again x y = or_right (list_any (is_literal (neg_ℤ (neg_ℤ (pos x)))) (Of (neg_ℤ (pos y)) ∷ Of (pos y) ∷ []))
    (is_trivial (Of (neg_ℤ (pos y)) ∷ Of (pos y) ∷ []))
    (or_left (int_eq (neg_ℤ (neg_ℤ (pos y))) (pos y) || false) (is_trivial (Of (pos y) ∷ []))
    (or_left (int_eq (neg_ℤ (neg_ℤ (pos y))) (pos y)) false (itself y)))

pub trivial_operand : (graph : Graph) (u v w : Node) → AreLiterals graph u v → (w ≡ u) ⊎ (w ≡ v)
    → is_trivial (conjunction_atoms graph u v w) ≡ true
trivial_operand graph u v w both (inl is) =
    ap (λ (n : Node). is_trivial (conjunction_atoms graph u v n)) is
    ∙ ap (λ (t : Atom). is_trivial (conjunction t (atom_of graph v) t)) both.first_is ∙ first_again both.first (atom_of graph v)
trivial_operand graph u v w both (inr is) =
    ap (λ (n : Node). is_trivial (conjunction_atoms graph u v n)) is
    ∙ (λ i. is_trivial (conjunction (both.first_is i) (both.second_is i) (both.second_is i))) ∙ second_again both.first both.second

-- one answer alone: the node by its function, and no clause where it is true by itself
not_both : (b : Bool) → b ≡ true → b ≡ false → ⊥
not_both b holds fails = cc

pub only_answer : Canonical → (graph : Graph) → IsReduced graph → (live : Live) (u v w other : Node) (just : Justification)
    → Conjoined graph live u v w Trivial → Conjoined graph live u v other just
    → (w ≡ other) × (Trivial ≡ just)
only_answer canonical graph reduced live u v w other just one two =
    let same : w ≡ other = canonical graph reduced w other one.stands two.stands (λ a. one.value a ∙ sym (two.value a)) in
    (same, no_clause just (subst (λ (n : Node). IsJustified live (conjunction_atoms graph u v n) just) (sym same) two.justified))
  where
    no_clause : (just : Justification) → IsJustified live (conjunction_atoms graph u v w) just → Trivial ≡ just
    no_clause Trivial holds = refl
    no_clause (Clause id) holds = absurd (not_both (is_trivial (conjunction_atoms graph u v w)) one.justified holds.0)
