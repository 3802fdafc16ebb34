-- Values for which a node holds, or doesn't: there are some unless it is a constant. What the sides say of the operands.
use Rattle.std.proofs.Common.{◌≡◌, ◌∙◌, ◌<◌, ◌+◌, ◌||◌, ℕ, zero, suc, neg_ℤ, int_eq, Bool, true, false, not, Option, None, Some, is_some}
use Rattle.std.proofs.Common.{refl, sym, ap, subst, arith, inl, inr, ◌⊎◌, eq-eqb, ne_eqb}
use Rattle.std.specs.Prelude.{◌==◌, if◌then◌else◌}
use Rattle.std.proofs.Math.IntN.{neg_ℤ-neg_ℤ}
use Rattle.std.proofs.lemmas.Bool.{or_left, or_right}
use Rattle.std.proofs.lemmas.Bool.Decides.{Decides-int_eq}
use Rattle.lrat_rules.specs.State.{Live}
use Rattle.hint_chain.specs.declared.atom.Atom.{Atom}
use Rattle.hint_chain.specs.declared.atom.Atom.TheVariants.{Always, Never, Of}
use Rattle.hint_chain.specs.Atoms.{is_trivial}
use Rattle.hint_chain.specs.Additions.{implication}
use Rattle.node_table.specs.declared.node.Node.{Node}
use Rattle.node_table.specs.declared.node.Node.TheVariants.{False, True, Inner}
use Rattle.node_table.specs.declared.node.NodeKey.{NodeKey}
use Rattle.node_table.specs.declared.node.Branch.{Branch}
use Rattle.node_table.specs.declared.node.Justification.{Justification}
use Rattle.node_table.specs.declared.node.Justification.TheVariants.{Trivial, Clause}
use Rattle.node_table.specs.Diagram.{Graph, IsBelow, IsReduced, branch_at, child_in, high_at, is_node, level_in, level_of, levels, low_at}
use Rattle.node_table.specs.Defined.{atom_of}
use Rattle.node_table.specs.Justification.{IsJustified}
use Rattle.node_table.specs.Laws.{Cofactors}
use Rattle.node_table.specs.Value.{Levels, value_of}
use Rattle.operations.specs.declared.operands.Operands.{Operands}
use Rattle.operations.specs.Operands.{AreSplit, Splitting}
use Rattle.operations.specs.Results.{Implied, implication_atoms, with_level}
use Rattle.imply.specs.Implication.{FailsPlainly, HoldsPlainly, IsDecided, IsPlain, IsRefuted}

constant : Bool → Node
constant true = True
constant false = False

is_constant : (n : Node) (b : Bool) → (n ≡ constant b) ⊎ (n ≡ constant b → ⊥)
unfolding constant
is_constant False true = inr (λ is. cc)
is_constant False false = inl refl
is_constant True true = inl refl
is_constant True false = inr (λ is. cc)
is_constant (Inner key) true = inr (λ is. cc)
is_constant (Inner key) false = inr (λ is. cc)

other_level : (a : Levels) (level : ℕ) (b : Bool) (i : ℕ) → level < i → with_level a level b i ≡ a i
other_level a level b i less = ap (λ c. if c then b else a i) (ne_eqb i level (λ same. omega (arith, same, less)))

own_level : (a : Levels) (level : ℕ) (b : Bool) → with_level a level b level ≡ b
own_level a level b = ap (λ c. if c then b else a level) (eq-eqb level level refl)

-- values for which a node has the value that is wanted
record HasValue (graph : Graph) (node : Node) (want : Bool) : Type 0 where
  values : Levels
  is : value_of graph values node ≡ want

module _ (laws : Cofactors) (graph : Graph) (reduced : IsReduced graph) where
  below_kept : (level : ℕ) (node : Node) → IsBelow graph level node → (a : Levels) (b : Bool) → value_of graph (with_level a level b) node
      ≡ value_of graph a node
  below_kept level node below a b = laws.below graph reduced (with_level a level b) a node below.stands
      (λ i more. other_level a level b i (omega (arith, more, below.below)))

  -- with the level's variable true a node has the value of its high cofactor, and with it false that of its low one
  on_high : (level : ℕ) (node child : Node) → is_node graph node ≡ true → high_at graph level node ≡ child → IsBelow graph level child
      → (a : Levels) → value_of graph (with_level a level true) node ≡ value_of graph a child
  on_high level node child stands is below a =
      laws.value graph reduced (with_level a level true) level node stands
      ∙ ap (λ c. if c then value_of graph (with_level a level true) (high_at graph level node) else value_of graph (with_level a level true)
      (low_at graph level node)) (own_level a level true)
      ∙ ap (value_of graph (with_level a level true)) is ∙ below_kept level child below a true

  on_low : (level : ℕ) (node child : Node) → is_node graph node ≡ true → low_at graph level node ≡ child → IsBelow graph level child
      → (a : Levels) → value_of graph (with_level a level false) node ≡ value_of graph a child
  on_low level node child stands is below a =
      laws.value graph reduced (with_level a level false) level node stands
      ∙ ap (λ c. if c then value_of graph (with_level a level false) (high_at graph level node) else value_of graph
      (with_level a level false) (low_at graph level node)) (own_level a level false)
      ∙ ap (value_of graph (with_level a level false)) is ∙ below_kept level child below a false

  -- by the child that isn't the other constant
  inner_values : (want : Bool) (steps : ℕ) → ((node : Node) → is_node graph node ≡ true → levels graph < steps + level_of graph node
      → (node ≡ constant (not want) → ⊥) → HasValue graph node want)
      → (key : NodeKey) (branch : Branch) → branch_at graph key.index ≡ Some branch → levels graph < suc steps + level_of graph (Inner key)
      → HasValue graph (Inner key) want
  inner_values want steps further key branch is few =
      let stands : is_node graph (Inner key) ≡ true = ap is_some is in
      let level : level_of graph (Inner key) ≡ branch.level = ap (level_in (levels graph)) is in
      let high = reduced.high key.index branch is in
      let low = reduced.low key.index branch is in
      let own : (branch.level == branch.level) ≡ true = eq-eqb branch.level branch.level refl in
      let high_is : high_at graph branch.level (Inner key) ≡ branch.high = ap (child_in (λ b. b.high) branch.level (Inner key)) is
      ∙ ap (λ c. if c then branch.high else Inner key) own in
      let low_is : low_at graph branch.level (Inner key) ≡ branch.low = ap (child_in (λ b. b.low) branch.level (Inner key)) is
      ∙ ap (λ c. if c then branch.low else Inner key) own in
      elim (is_constant branch.high (not want)) [
        | inr apart ↦
            let found = further branch.high high.stands (omega (arith, few, level, high.below)) apart in
            record {
              values = with_level found.values branch.level true;
              is = on_high branch.level (Inner key) branch.high stands high_is high found.values ∙ found.is;
            }
        | inl same ↦
            let found = further branch.low low.stands (omega (arith, few, level, low.below))
            (λ also. reduced.differ key.index branch is (same ∙ sym also)) in
            record {
              values = with_level found.values branch.level false;
              is = on_low branch.level (Inner key) branch.low stands low_is low found.values ∙ found.is;
            }
      ]

  inner_branch : (want : Bool) (steps : ℕ) → ((node : Node) → is_node graph node ≡ true → levels graph < steps + level_of graph node
      → (node ≡ constant (not want) → ⊥) → HasValue graph node want)
      → (key : NodeKey) (found : Option Branch) → branch_at graph key.index ≡ found → is_some found ≡ true → levels graph < suc steps
      + level_of graph (Inner key) → HasValue graph (Inner key) want
  inner_branch want steps further key None is stands few = cc
  inner_branch want steps further key (Some branch) is stands few = inner_values want steps further key branch is few

  no_level : (key : NodeKey) (found : Option Branch) → branch_at graph key.index ≡ found → is_some found ≡ true → level_of graph (Inner key)
      < levels graph
  no_level key None is stands = cc
  no_level key (Some branch) is stands = let level : level_of graph (Inner key) ≡ branch.level = ap (level_in (levels graph)) is in
      omega (arith, level, reduced.level key.index branch is)

  values_within : (want : Bool) (steps : ℕ) (node : Node) → is_node graph node ≡ true → levels graph < steps + level_of graph node
      → (node ≡ constant (not want) → ⊥) → HasValue graph node want
  unfolding constant
  values_within true steps False stands few apart = absurd (apart refl)
  values_within false steps False stands few apart = record { values = λ i. false; is = refl }
  values_within true steps True stands few apart = record { values = λ i. false; is = refl }
  values_within false steps True stands few apart = absurd (apart refl)
  values_within want zero (Inner key) stands few apart = absurd (let less = no_level key (branch_at graph key.index) refl stands in
      omega (arith, less, few))
  values_within want (suc steps) (Inner key) stands few apart = inner_branch want steps (values_within want steps) key
      (branch_at graph key.index) refl stands few

  makes_true : (node : Node) → is_node graph node ≡ true → (node ≡ False → ⊥) → HasValue graph node true
  unfolding constant
  makes_true node stands apart = values_within true (levels graph + 1) node stands (omega arith) apart

  makes_false : (node : Node) → is_node graph node ≡ true → (node ≡ True → ⊥) → HasValue graph node false
  unfolding constant
  makes_false node stands apart = values_within false (levels graph + 1) node stands (omega arith) apart

  refuted_plainly : (u v : Node) → is_node graph u ≡ true → is_node graph v ≡ true → FailsPlainly u v → IsRefuted graph u v
  refuted_plainly u v first second (differ, inl is) =
      let found = makes_false v second is.1 in record {
        values = found.values;
        holds = ap (value_of graph found.values) is.0;
        fails = found.is;
      }
  refuted_plainly u v first second (differ, inr is) =
      let found = makes_true u first is.1 in record {
        values = found.values;
        holds = found.is;
        fails = ap (value_of graph found.values) is.0;
      }

  -- a side that doesn't hold refutes the whole
  module _ (splits : Splitting) (o : Operands) (split : AreSplit graph o) where
    pub refuted_high : IsRefuted graph o.u_high o.v_high → IsRefuted graph o.u o.v
    refuted_high side = record {
      values = with_level side.values o.level true;
      holds = on_high o.level o.u o.u_high (splits.first graph o split) (sym split.first_high)
          (splits.u_high graph reduced o split) side.values ∙ side.holds;
      fails = on_high o.level o.v o.v_high (splits.second graph o split) (sym split.second_high)
          (splits.v_high graph reduced o split) side.values ∙ side.fails;
    }

    pub refuted_low : IsRefuted graph o.u_low o.v_low → IsRefuted graph o.u o.v
    refuted_low side = record {
      values = with_level side.values o.level false;
      holds = on_low o.level o.u o.u_low (splits.first graph o split) (sym split.first_low) (splits.u_low graph reduced o split) side.values
          ∙ side.holds;
      fails = on_low o.level o.v o.v_low (splits.second graph o split) (sym split.second_low)
          (splits.v_low graph reduced o split) side.values ∙ side.fails;
    }

    -- and both sides that hold imply it
    pub holds_both : ((a : Levels) → value_of graph a o.u_high ≡ true → value_of graph a o.v_high ≡ true)
        → ((a : Levels) → value_of graph a o.u_low ≡ true → value_of graph a o.v_low ≡ true)
        → (a : Levels) → value_of graph a o.u ≡ true → value_of graph a o.v ≡ true
    holds_both high low a holds =
        laws.value graph reduced a o.level o.v (splits.second graph o split)
        ∙ (λ i. if a o.level then value_of graph a (sym split.second_high i) else value_of graph a (sym split.second_low i))
        ∙ choose (a o.level) (value_of graph a o.u_high) (value_of graph a o.u_low) (value_of graph a o.v_high) (value_of graph a o.v_low)
        (high a) (low a)
        ((λ i. if a o.level then value_of graph a (split.first_high i) else value_of graph a (split.first_low i))
        ∙ sym (laws.value graph reduced a o.level o.u (splits.first graph o split)) ∙ holds)
      where
        choose : (c uh ul vh vl : Bool) → (uh ≡ true → vh ≡ true) → (ul ≡ true → vl ≡ true) → (if c then uh else ul) ≡ true
            → (if c then vh else vl) ≡ true
        choose true uh ul vh vl high low is = high is
        choose false uh ul vh vl high low is = low is

-- clauses that are true by themselves
trivial_first : (t : Atom) → is_trivial (implication Never t) ≡ true
trivial_first t = refl

trivial_second : (t : Atom) → is_trivial (implication t Always) ≡ true
trivial_second Always = refl
trivial_second Never = refl
trivial_second (Of l) = or_right false true refl

trivial_same : (t : Atom) → is_trivial (implication t t) ≡ true
trivial_same Always = refl
trivial_same Never = refl
trivial_same (Of l) = or_left (int_eq (neg_ℤ (neg_ℤ l)) l || false) false
    (or_left (int_eq (neg_ℤ (neg_ℤ l)) l) false ((Decides-int_eq (neg_ℤ (neg_ℤ l)) l).1 (neg_ℤ-neg_ℤ l)))

no_truth : (b : Bool) → b ≡ false → b ≡ true → ⊥
no_truth b fails holds = cc

implied_plainly : (graph : Graph) (live : Live) (u v : Node) → HoldsPlainly u v → Implied graph live u v Trivial
implied_plainly graph live u v (inl is) = record {
  value = λ a holds. absurd (no_truth (value_of graph a u) (ap (value_of graph a) is) holds);
  justified = ap (λ (n : Node). is_trivial (implication_atoms graph n v)) is ∙ trivial_first (atom_of graph v);
}
implied_plainly graph live u v (inr (inl is)) = record {
  value = λ a holds. ap (value_of graph a) is;
  justified = ap (λ (n : Node). is_trivial (implication_atoms graph u n)) is ∙ trivial_second (atom_of graph u);
}
implied_plainly graph live u v (inr (inr is)) = record {
  value = λ a holds. ap (value_of graph a) (sym is) ∙ holds;
  justified = ap (λ (n : Node). is_trivial (implication_atoms graph n v)) is ∙ trivial_same (atom_of graph v);
}

pub decided_plainly : Cofactors → (graph : Graph) → IsReduced graph → (live : Live) (u v : Node) → is_node graph u ≡ true → is_node graph v
    ≡ true → (answer : Option Justification) → IsPlain u v answer
    → IsDecided graph live u v answer
decided_plainly laws graph reduced live u v first second answer (inl is) = subst (λ (r : Option Justification). IsDecided graph live u v r)
    (sym is.1) (implied_plainly graph live u v is.0)
decided_plainly laws graph reduced live u v first second answer (inr is) = subst (λ (r : Option Justification). IsDecided graph live u v r)
    (sym is.1) (refuted_plainly laws graph reduced u v first second is.0)

-- one answer alone
no_clause_needed : (graph : Graph) (live : Live) (u v : Node) (just : Justification) → is_trivial (implication_atoms graph u v) ≡ true
    → IsJustified live (implication_atoms graph u v) just → Trivial ≡ just
no_clause_needed graph live u v Trivial holds justified = refl
no_clause_needed graph live u v (Clause id) holds justified = absurd (no_truth (is_trivial (implication_atoms graph u v)) justified.0 holds)

pub only_answer : Cofactors → (graph : Graph) → IsReduced graph → (live : Live) (u v : Node) → is_node graph u ≡ true → is_node graph v
    ≡ true → (answer : Option Justification) (just : Justification) → IsPlain u v answer
    → Implied graph live u v just → answer ≡ Some just
only_answer laws graph reduced live u v first second answer just (inl is) implied =
    is.1 ∙ ap Some (no_clause_needed graph live u v just (implied_plainly graph live u v is.0).justified implied.justified)
only_answer laws graph reduced live u v first second answer just (inr is) implied =
    let refuted = refuted_plainly laws graph reduced u v first second is.0 in
    absurd (no_truth (value_of graph refuted.values v) refuted.fails (implied.value refuted.values refuted.holds))

pub not_plain : (u v : Node) (answer : Option Justification) → (u ≡ v → ⊥) → (u ≡ False → ⊥) × (u ≡ True → ⊥) → (v ≡ False → ⊥) × (v ≡ True → ⊥)
    → IsPlain u v answer → ⊥
not_plain u v answer differ first second (inl (inl is, same)) = first.0 is
not_plain u v answer differ first second (inl (inr (inl is), same)) = second.1 is
not_plain u v answer differ first second (inl (inr (inr is), same)) = differ is
not_plain u v answer differ first second (inr ((apart, inl is), same)) = first.1 is.0
not_plain u v answer differ first second (inr ((apart, inr is), same)) = second.0 is.0

-- no clause is given
pub plain_no_clause : (u v : Node) (answer : Option Justification) → IsPlain u v answer → (id : ℕ) → answer ≡ Some (Clause id) → ⊥
plain_no_clause u v answer (inl is) id given = let both : Some Trivial ≡ Some (Clause id) = sym is.1 ∙ given in cc
plain_no_clause u v answer (inr is) id given = let both : None ≡ Some (Clause id) = sym is.1 ∙ given in cc

pub implied_both : Cofactors → Splitting → (graph : Graph) → IsReduced graph → (o : Operands) → AreSplit graph o
    → (before live : Live) (high low just : Justification) → Implied graph before o.u_high o.v_high high → Implied graph before o.u_low o.v_low low
    → IsJustified live (implication_atoms graph o.u o.v) just → Implied graph live o.u o.v just
implied_both laws splits graph reduced o split before live high low just by_high by_low justified = record {
  value = holds_both laws graph reduced splits o split by_high.value by_low.value;
  justified = justified;
}
