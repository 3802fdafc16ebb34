-- What a graph that keeps the nodes of another says of them, and the value of a node by its cofactors at a level.
use Rattle.std.proofs.Common.{◌≡◌, ℕ, zero, suc, ◌<◌, ◌≤◌, ℤ, Bool, true, false, List, length, Option, None, Some, is_some, refl, sym, ap}
use Rattle.std.proofs.Common.{◌∙◌, subst, arith, inl, inr, eq-eqb, ne_eqb}
use Rattle.std.specs.Prelude.{if◌then◌else◌, ◌==◌}
use Rattle.std.proofs.lemmas.Bool.{cases_eq}
use Rattle.node_table.specs.declared.node.Node.{Node}
use Rattle.node_table.specs.declared.node.Node.TheVariants.{False, True, Inner}
use Rattle.node_table.specs.Diagram.{Graph, IsReduced, IsBelow, KeepsNodes, branch_of, is_node, levels, level_of, high_at, low_at, child_in}
use Rattle.node_table.specs.Value.{Levels, branch_value, value_within, value_of}
use Rattle.node_table.specs.Defined.{atom_of, atom_in}
use Rattle.node_table.specs.Tied.{KeepsClauses}
use Rattle.node_table.specs.Justification.{IsJustified}
use Rattle.node_table.specs.declared.node.Justification.{Justification}
use Rattle.node_table.specs.declared.node.Justification.TheVariants.{Trivial, Clause}
use Rattle.lrat_rules.specs.State.{Live, clause_at}
use Rattle.hint_chain.specs.declared.atom.Atom.{Atom}
use Rattle.hint_chain.specs.Atoms.{clause_from_atoms, is_trivial}
use Rattle.node_table.proofs.Values.{branch_of_node, level_of-inner, value_of-inner}

same_within : (old new : Graph) → IsReduced old → KeepsNodes old new → (steps : ℕ) (a : Levels) (node : Node) → is_node old node ≡ true
    → value_within steps new a node ≡ value_within steps old a node
same_within old new reduced keeps steps a False is = refl
same_within old new reduced keeps steps a True is = refl
same_within old new reduced keeps zero a (Inner key) is = refl
same_within old new reduced keeps (suc steps) a (Inner key) is =
    let branch = branch_of_node old key is in
    let high : value_within steps new a branch.0.high ≡ value_within steps old a branch.0.high =
    same_within old new reduced keeps steps a branch.0.high (reduced.high key.index branch.0 branch.1).stands in
    let low : value_within steps new a branch.0.low ≡ value_within steps old a branch.0.low =
    same_within old new reduced keeps steps a branch.0.low (reduced.low key.index branch.0 branch.1).stands in
    ap (branch_value a (value_within steps new a)) (keeps.nodes key.index branch.0 branch.1)
    ∙ (λ i. if a branch.0.level then high i else low i)
    ∙ sym (ap (branch_value a (value_within steps old a)) branch.1)

pub value-kept : (old new : Graph) → IsReduced old → KeepsNodes old new → (a : Levels) (node : Node) → is_node old node ≡ true
    → value_of new a node ≡ value_of old a node
value-kept old new reduced keeps a node is =
    ap (λ (o : List ℕ). value_within (length o) new a node) keeps.order ∙ same_within old new reduced keeps (levels old) a node is

pub branch_of-kept : (old new : Graph) → KeepsNodes old new → (node : Node) → is_node old node ≡ true → branch_of new node
    ≡ branch_of old node
branch_of-kept old new keeps False is = refl
branch_of-kept old new keeps True is = refl
branch_of-kept old new keeps (Inner key) is =
    let branch = branch_of_node old key is in
    keeps.nodes key.index branch.0 branch.1 ∙ sym branch.1

-- the cofactors stay
pub high_at-kept : (old new : Graph) → KeepsNodes old new → (level : ℕ) (node : Node) → is_node old node ≡ true → high_at new level node
    ≡ high_at old level node
high_at-kept old new keeps level node is = ap (child_in (λ branch. branch.high) level node) (branch_of-kept old new keeps node is)

pub low_at-kept : (old new : Graph) → KeepsNodes old new → (level : ℕ) (node : Node) → is_node old node ≡ true → low_at new level node
    ≡ low_at old level node
low_at-kept old new keeps level node is = ap (child_in (λ branch. branch.low) level node) (branch_of-kept old new keeps node is)

-- a choice between equals
either_way : (t value : Bool) → value ≡ (if t then value else value)
either_way true value = refl
either_way false value = refl

-- the value by the cofactors at a level, also where the node isn't of it
pub value-split : (graph : Graph) → IsReduced graph → (a : Levels) (level : ℕ) (node : Node) → is_node graph node ≡ true
    → value_of graph a node ≡ (if a level then value_of graph a (high_at graph level node) else value_of graph a (low_at graph level node))
value-split graph reduced a level False is = either_way (a level) false
value-split graph reduced a level True is = either_way (a level) true
value-split graph reduced a level (Inner key) is =
    let branch = branch_of_node graph key is in
    let b = branch.0 in
    let high : high_at graph level (Inner key) ≡ (if b.level == level then b.high else Inner key) = ap
    (child_in (λ x. x.high) level (Inner key)) branch.1 in
    let low : low_at graph level (Inner key) ≡ (if b.level == level then b.low else Inner key) = ap
    (child_in (λ x. x.low) level (Inner key)) branch.1 in
    elim (cases_eq b.level level) [
      | inl same ↦
          let high_is : high_at graph level (Inner key) ≡ b.high = high
          ∙ ap (λ t. if t then b.high else Inner key) (eq-eqb b.level level same) in
          let low_is : low_at graph level (Inner key) ≡ b.low = low
          ∙ ap (λ t. if t then b.low else Inner key) (eq-eqb b.level level same) in
          value_of-inner graph reduced a key b branch.1
          ∙ (λ i. if a (same i) then value_of graph a (sym high_is i) else value_of graph a (sym low_is i))
      | inr differ ↦
          let high_is : high_at graph level (Inner key) ≡ Inner key = high
          ∙ ap (λ t. if t then b.high else Inner key) (ne_eqb b.level level differ) in
          let low_is : low_at graph level (Inner key) ≡ Inner key = low
          ∙ ap (λ t. if t then b.low else Inner key) (ne_eqb b.level level differ) in
          either_way (a level) (value_of graph a (Inner key))
          ∙ (λ i. if a level then value_of graph a (sym high_is i) else value_of graph a (sym low_is i))
    ]

-- the cofactors of a node at a level that isn't below it stand below the level
pub cofactors-below : (graph : Graph) → IsReduced graph → (level : ℕ) (node : Node) → is_node graph node ≡ true → level
    ≤ level_of graph node → level < levels graph
    → IsBelow graph level (high_at graph level node) × IsBelow graph level (low_at graph level node)
cofactors-below graph reduced level False is not_above small = (
  record { stands = refl; below = small },
  record { stands = refl; below = small },
)
cofactors-below graph reduced level True is not_above small = (
  record { stands = refl; below = small },
  record { stands = refl; below = small },
)
cofactors-below graph reduced level (Inner key) is not_above small =
    let branch = branch_of_node graph key is in
    let b = branch.0 in
    let here = level_of-inner graph key b branch.1 in
    let high : high_at graph level (Inner key) ≡ (if b.level == level then b.high else Inner key) = ap
    (child_in (λ x. x.high) level (Inner key)) branch.1 in
    let low : low_at graph level (Inner key) ≡ (if b.level == level then b.low else Inner key) = ap
    (child_in (λ x. x.low) level (Inner key)) branch.1 in
    elim (cases_eq b.level level) [
      | inl same ↦
          let high_is : high_at graph level (Inner key) ≡ b.high = high
          ∙ ap (λ t. if t then b.high else Inner key) (eq-eqb b.level level same) in
          let low_is : low_at graph level (Inner key) ≡ b.low = low
          ∙ ap (λ t. if t then b.low else Inner key) (eq-eqb b.level level same) in (
            subst (IsBelow graph level) (sym high_is) (subst (λ l. IsBelow graph l b.high) same (reduced.high key.index b branch.1)),
            subst (IsBelow graph level) (sym low_is) (subst (λ l. IsBelow graph l b.low) same (reduced.low key.index b branch.1)),
          )
      | inr differ ↦
          let high_is : high_at graph level (Inner key) ≡ Inner key = high
          ∙ ap (λ t. if t then b.high else Inner key) (ne_eqb b.level level differ) in
          let low_is : low_at graph level (Inner key) ≡ Inner key = low
          ∙ ap (λ t. if t then b.low else Inner key) (ne_eqb b.level level differ) in
          let under : IsBelow graph level (Inner key) = record { stands = is; below = omega (arith, not_above, here, differ) } in
          (subst (IsBelow graph level) (sym high_is) under, subst (IsBelow graph level) (sym low_is) under)
    ]

-- what it puts into a clause stays
pub atom_of-kept : (old new : Graph) → KeepsNodes old new → (node : Node) → is_node old node ≡ true → atom_of new node ≡ atom_of old node
atom_of-kept old new keeps False is = refl
atom_of-kept old new keeps True is = refl
atom_of-kept old new keeps (Inner key) is = ap atom_in (branch_of-kept old new keeps (Inner key) is)

same_clause : (old new : Live) → KeepsClauses old new → (id : ℕ) (o : Option (List ℤ)) → is_some o ≡ true → clause_at old id ≡ o
    → clause_at new id ≡ o
same_clause old new keeps id None some is = cc
same_clause old new keeps id (Some clause) some is = keeps id clause is

-- a clause over nodes stays justified
pub IsJustified-kept : ((atoms : List Atom) → is_trivial atoms ≡ false → is_some (clause_from_atoms atoms) ≡ true) → (old new : Live)
    → KeepsClauses old new
    → (atoms : List Atom) (just : Justification) → IsJustified old atoms just → IsJustified new atoms just
IsJustified-kept given old new keeps atoms Trivial is = is
IsJustified-kept given old new keeps atoms (Clause id) is = (is.0, same_clause old new keeps id (clause_from_atoms atoms) (given atoms is.0) is.1)
