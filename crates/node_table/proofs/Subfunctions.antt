-- Subfunctions: that they are transitive, that cofactors are ones, and which nodes calls make one after another.
use Rattle.std.proofs.Common.{◌≡◌, ◌<◌, ◌≤◌, ◌+◌, ℕ, Bool, true, false, is_some, refl, sym, ap, ◌∙◌, arith, inl, inr, ◌⊎◌}
use Rattle.std.specs.Prelude.{if◌then◌else◌, nat_lt}
use Rattle.std.proofs.lemmas.Bool.{cases_lt}
use Rattle.std.proofs.lemmas.Bool.Decides.{nat_tests}
use Rattle.node_table.specs.declared.node.Node.{Node}
use Rattle.node_table.specs.Diagram.{Graph, IsReduced, IsBelow, KeepsNodes, is_node, levels, level_of, high_at, low_at}
use Rattle.node_table.specs.Value.{Levels, value_of, fixed_to, IsSubfunction}
use Rattle.node_table.specs.Made.{MakesOnly, inner}
use Rattle.node_table.proofs.Canonical.{value-agree}
use Rattle.node_table.proofs.Kept.{value-split, value-kept, cofactors-below}

-- with no level fixed
none_fixed : (fixed a : Levels) (i : ℕ) → a i ≡ fixed_to 0 fixed a i
none_fixed fixed a i = grind (arith, nat_tests)

pub Subfunction-same : (f : Levels → Bool) → IsSubfunction f f
Subfunction-same f = record { level = 0; fixed = λ i. false; same = λ a. ap f (λ k i. none_fixed (λ _. false) a i k) }

at_level : (l1 l2 : ℕ) (x1 x2 a : Levels) (level : ℕ) (i : ℕ) → l1 ≤ level → l2 ≤ level → (level ≡ l1) ⊎ (level ≡ l2)
    → fixed_to l1 x1 (fixed_to l2 x2 a) i ≡ fixed_to level (λ j. if nat_lt j l1 then x1 j else x2 j) a i
at_level l1 l2 x1 x2 a level i one two (inl is) = grind (arith, nat_tests, one, two, is)
at_level l1 l2 x1 x2 a level i one two (inr is) = grind (arith, nat_tests, one, two, is)

-- a part of a part, with the levels of both fixed
pub Subfunction-further : (f g h : Levels → Bool) → IsSubfunction f g → IsSubfunction g h → IsSubfunction f h
Subfunction-further f g h first second = elim (cases_lt first.level second.level) [
  | inl less ↦ at second.level (omega (arith, less)) (omega arith) (inr refl)
  | inr more ↦ at first.level (omega arith) more (inl refl)
]
  where
    at : (level : ℕ) → first.level ≤ level → second.level ≤ level → (level ≡ first.level) ⊎ (level ≡ second.level) → IsSubfunction f h
    at level one two is = record {
      level = level;
      fixed = λ j. if nat_lt j first.level then first.fixed j else second.fixed j;
      same = λ a.
          second.same a ∙ first.same (fixed_to second.level second.fixed a)
          ∙ ap f (λ k i. at_level first.level second.level first.fixed second.fixed a level i one two is k);
    }

-- A cofactor is the function with the levels down to this one fixed, since it depends on none of them.
abbrev down_to : ℕ → Bool → Levels → Levels
down_to level choice a = fixed_to (level + 1) (λ i. choice) a

here : (level : ℕ) (choice : Bool) (a : Levels) → down_to level choice a level ≡ choice
here level choice a = grind (arith, nat_tests)

deeper : (level : ℕ) (choice : Bool) (a : Levels) (i : ℕ) → level + 1 ≤ i → a i ≡ down_to level choice a i
deeper level choice a i below = grind (arith, nat_tests, below)

module _ (graph : Graph) (reduced : IsReduced graph) (level : ℕ) where
  unseen : (choice : Bool) (a : Levels) (node : Node) → IsBelow graph level node → value_of graph a node
      ≡ value_of graph (down_to level choice a) node
  unseen choice a node below = value-agree graph reduced a (down_to level choice a) node below.stands
      (λ i further. deeper level choice a i (omega (arith, below.below, further)))

  module _ (node : Node) (is : is_node graph node ≡ true) (not_above : level ≤ level_of graph node) (small : level < levels graph) where
    pub value-high_at : (a : Levels) → value_of graph a (high_at graph level node)
        ≡ value_of graph (fixed_to (level + 1) (λ i. true) a) node
    value-high_at a =
        let fixed = down_to level true a in
        unseen true a (high_at graph level node) (cofactors-below graph reduced level node is not_above small).0
        ∙ sym (value-split graph reduced fixed level node is ∙ ap
        (λ t. if t then value_of graph fixed (high_at graph level node) else value_of graph fixed (low_at graph level node))
        (here level true a))

    pub value-low_at : (a : Levels) → value_of graph a (low_at graph level node) ≡ value_of graph (fixed_to (level + 1) (λ i. false) a) node
    value-low_at a =
        let fixed = down_to level false a in
        unseen false a (low_at graph level node) (cofactors-below graph reduced level node is not_above small).1
        ∙ sym (value-split graph reduced fixed level node is ∙ ap
        (λ t. if t then value_of graph fixed (high_at graph level node) else value_of graph fixed (low_at graph level node))
        (here level false a))

    pub Subfunction-high_at : IsSubfunction (λ a. value_of graph a node) (λ a. value_of graph a (high_at graph level node))
    Subfunction-high_at = record { level = level + 1; fixed = λ i. true; same = value-high_at }

    pub Subfunction-low_at : IsSubfunction (λ a. value_of graph a node) (λ a. value_of graph a (low_at graph level node))
    Subfunction-low_at = record { level = level + 1; fixed = λ i. false; same = value-low_at }

-- a call that makes no node
pub MakesOnly-same : (graph : Graph) (f : Levels → Bool) → MakesOnly graph graph f
MakesOnly-same graph f = record { each = λ key b at. inl at }

-- one call after another
pub MakesOnly-further : (old mid new : Graph) → IsReduced mid → KeepsNodes mid new → (f : Levels → Bool) → MakesOnly old mid f
    → MakesOnly mid new f → MakesOnly old new f
MakesOnly-further old mid new reduced keeps f first second = record {
  each = λ key b at. elim (second.each key b at) [
    | inr own ↦ inr own
    | inl there ↦ elim (first.each key b there) [
      | inl before ↦ inl before
      | inr own ↦ inr (record {
        level = own.level;
        fixed = own.fixed;
        same = λ a. value-kept mid new reduced keeps a (inner key) (ap is_some there) ∙ own.same a;
      })
    ]
  ];
}

-- what a part of a function makes is made for the whole
pub MakesOnly-part : (old new : Graph) (f g : Levels → Bool) → IsSubfunction f g → MakesOnly old new g → MakesOnly old new f
MakesOnly-part old new f g part only = record {
  each = λ key b at. elim (only.each key b at) [
    | inl before ↦ inl before
    | inr own ↦ inr (Subfunction-further f g (λ a. value_of new a (inner key)) part own)
  ];
}
