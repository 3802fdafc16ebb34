-- The defining clauses of a node as parts of a hint list.
use Rattle.std.proofs.Common.{◌≡◌, ◌<◌, ℕ, ℤ, List, pos, neg_ℤ, Bool, true, false, Option, None, Some, is_some, refl, sym, ap, ◌∙◌, subst}
use Rattle.std.proofs.Common.{[], ◌∷◌, arith, eq-eqb, inl, inr}
use Rattle.std.specs.Prelude.{if◌then◌else◌, ◌==◌, nat_lt}
use Rattle.lrat_rules.specs.State.{Live}
use Rattle.hint_chain.specs.declared.atom.Atom.{Atom}
use Rattle.hint_chain.specs.declared.atom.Atom.TheVariants.{Always, Never, Of}
use Rattle.hint_chain.specs.Step.{IsNamed}
use Rattle.hint_chain.specs.Additions.{part_clause}
use Rattle.hint_chain.specs.Greedy.{IsLivePart}
use Rattle.hint_chain.specs.Atoms.{clause_from_atoms, is_nonzero_atom, neg_atom, up_clause, down_clause}
use Rattle.node_table.specs.declared.node.Node.{Node}
use Rattle.node_table.specs.declared.node.Node.TheVariants.{False, True, Inner}
use Rattle.node_table.specs.declared.node.NodeKey.{NodeKey}
use Rattle.node_table.specs.declared.node.Branch.{Branch}
use Rattle.node_table.specs.Diagram.{Graph, IsReduced, branch_at, branch_of, is_node, levels, child_in, variable_at}
use Rattle.node_table.specs.Defined.{IsDefined, atom_of, atom_in, clause_named, defs_of}
use Rattle.operations.specs.Sides.{Side}
use Rattle.operations.specs.Sides.{High, Low}
use Rattle.operations.specs.Sides.{HasDownPart, HasUpPart, false_literal, cofactor_at, up_of, down_of, named_part, kept_part}

-- an inner node of the graph, by its key
pub record IsAt (graph : Graph) (node : Node) : Type 0 where
  pub key : NodeKey
  pub branch : Branch
  pub named : node ≡ Inner key
  pub at : branch_at graph key.index ≡ Some branch

pub IsAt-from : (graph : Graph) (node : Node) (branch : Branch) → branch_of graph node ≡ Some branch → IsAt graph node
IsAt-from graph False branch is = cc
IsAt-from graph True branch is = cc
IsAt-from graph (Inner key) branch is = record { key = key; branch = branch; named = refl; at = is }

some_branch : (o : Option Branch) → is_some o ≡ true → (branch : Branch) × (o ≡ Some branch)
some_branch None is = cc
some_branch (Some branch) is = (branch, refl)

-- the literal of a node names a variable
pub nonzero_node : (graph : Graph) → IsReduced graph → (node : Node) → is_node graph node ≡ true → is_nonzero_atom (atom_of graph node)
    ≡ true
nonzero_node graph reduced False is = refl
nonzero_node graph reduced True is = refl
nonzero_node graph reduced (Inner key) is =
    let branch = some_branch (branch_at graph key.index) is in
    let positive : nat_lt 0 branch.0.variable ≡ true = let above : levels graph
    < branch.0.variable = reduced.above key.index branch.0 branch.1 in grind (arith, above) in
    ap (λ (o : Option Branch). is_nonzero_atom (atom_in o)) branch.1 ∙ positive

module _ (graph : Graph) (live : Live) (level : ℕ) where
  own_atom : (key : NodeKey) (branch : Branch) → branch_at graph key.index ≡ Some branch → Of (pos branch.variable)
      ≡ atom_of graph (Inner key)
  own_atom key branch at = sym (ap atom_in at)

  own_child : (child : Branch → Node) (key : NodeKey) (branch : Branch) → branch_at graph key.index ≡ Some branch → branch.level ≡ level
      → child branch ≡ child_in child level (Inner key) (branch_at graph key.index)
  own_child child key branch at here = sym (ap (child_in child level (Inner key)) at
      ∙ ap (λ t. if t then child branch else Inner key) (eq-eqb branch.level level here))

  -- where the node is of the level, its clauses are those that define it
  pub up_given : (defined : (key : ℕ) (branch : Branch) → branch_at graph key ≡ Some branch
      → IsDefined live graph branch) (side : Side) (node : Node) (branch : Branch)
      → branch_of graph node ≡ Some branch → branch.level ≡ level
      → clause_named live (up_of side (defs_of branch)) ≡ clause_from_atoms
      (up_clause (atom_of graph node) (false_literal side graph level) (atom_of graph (cofactor_at side graph level node)))
  up_given defined side False branch at here = cc
  up_given defined side True branch at here = cc
  up_given defined High (Inner key) branch at here =
      (defined key.index branch at).hu
      ∙ (λ i. clause_from_atoms (up_clause (own_atom key branch at i) (neg_ℤ (pos (variable_at graph (here i))))
      (atom_of graph (own_child (λ b. b.high) key branch at here i))))
  up_given defined Low (Inner key) branch at here =
      (defined key.index branch at).lu
      ∙ (λ i. clause_from_atoms (up_clause (own_atom key branch at i) (pos (variable_at graph (here i)))
      (atom_of graph (own_child (λ b. b.low) key branch at here i))))

  pub down_given : (defined : (key : ℕ) (branch : Branch) → branch_at graph key ≡ Some branch
      → IsDefined live graph branch) (side : Side) (node : Node) (branch : Branch)
      → branch_of graph node ≡ Some branch → branch.level ≡ level
      → clause_named live (down_of side (defs_of branch)) ≡ clause_from_atoms
      (down_clause (atom_of graph node) (false_literal side graph level) (atom_of graph (cofactor_at side graph level node)))
  down_given defined side False branch at here = cc
  down_given defined side True branch at here = cc
  down_given defined High (Inner key) branch at here =
      (defined key.index branch at).hd
      ∙ (λ i. clause_from_atoms (down_clause (own_atom key branch at i) (neg_ℤ (pos (variable_at graph (here i))))
      (atom_of graph (own_child (λ b. b.high) key branch at here i))))
  down_given defined Low (Inner key) branch at here =
      (defined key.index branch at).ld
      ∙ (λ i. clause_from_atoms (down_clause (own_atom key branch at i) (pos (variable_at graph (here i)))
      (atom_of graph (own_child (λ b. b.low) key branch at here i))))

  child_stands : (child : Branch → Node) → ((key : ℕ) (branch : Branch) → branch_at graph key ≡ Some branch → is_node graph (child branch)
      ≡ true)
      → (key : NodeKey) → is_node graph (Inner key) ≡ true → is_node graph (child_in child level (Inner key) (branch_at graph key.index))
      ≡ true
  child_stands child stands key is =
      let branch = some_branch (branch_at graph key.index) is in
      subst (λ (o : Option Branch). is_node graph (child_in child level (Inner key) o)
      ≡ true) (sym branch.1) (one_of (branch.0.level == level) (child branch.0) (stands key.index branch.0 branch.1))
    where
      one_of : (t : Bool) (node : Node) → is_node graph node ≡ true → is_node graph (if t then node else Inner key) ≡ true
      one_of true node h = h
      one_of false node h = is

  -- the cofactors of a node are nodes
  pub cofactor_stands : IsReduced graph → (side : Side) (node : Node) → is_node graph node ≡ true
      → is_node graph (cofactor_at side graph level node) ≡ true
  cofactor_stands reduced High False is = refl
  cofactor_stands reduced Low False is = refl
  cofactor_stands reduced High True is = refl
  cofactor_stands reduced Low True is = refl
  cofactor_stands reduced High (Inner key) is = child_stands (λ b. b.high) (λ k b at. (reduced.high k b at).stands) key is
  cofactor_stands reduced Low (Inner key) is = child_stands (λ b. b.low) (λ k b at. (reduced.low k b at).stands) key is

-- a part that is made of atoms has their clause, and is live where that stands under its number
pub named_clause : (live : Live) (id : Option ℕ) (clause : Option (List ℤ)) → clause_named live id ≡ clause
    → part_clause (named_part id clause) ≡ clause
named_clause live None clause is = is
named_clause live (Some id) None is = refl
named_clause live (Some id) (Some clause) is = refl

pub named_live : (live : Live) (id : Option ℕ) (clause : Option (List ℤ)) → clause_named live id ≡ clause
    → IsLivePart live (named_part id clause)
named_live live None clause is = tt
named_live live (Some id) None is = tt
named_live live (Some id) (Some clause) is = is

-- what is kept of a clause of two literals and a child's atom
kept_named : (id : Option ℕ) (a b : ℤ) (child : Atom)
    → IsNamed (kept_part id child) (named_part id (clause_from_atoms (Of a ∷ Of b ∷ child ∷ []))) child
kept_named None a b child = tt
kept_named (Some id) a b Always = tt
kept_named (Some id) a b Never = (refl, refl)
kept_named (Some id) a b (Of literal) = (refl, refl)

node_atom : (graph : Graph) (node : Node) (branch : Branch) → branch_of graph node ≡ Some branch → atom_of graph node
    ≡ Of (pos branch.variable)
node_atom graph False branch at = cc
node_atom graph True branch at = cc
node_atom graph (Inner key) branch at = ap atom_in at

module _ (side : Side) (graph : Graph) (live : Live) (level : ℕ) (reduced : IsReduced graph) (node : Node)
    (stands : is_node graph node ≡ true) where
  child_nonzero : is_nonzero_atom (atom_of graph (cofactor_at side graph level node)) ≡ true
  child_nonzero = nonzero_node graph reduced (cofactor_at side graph level node) (cofactor_stands graph live level reduced side node stands)

  -- a node below the level is its own cofactor
  pub up_below : cofactor_at side graph level node ≡ node → HasUpPart side graph live level node None
  up_below own = record {
    part = None;
    up = record { nonzero = child_nonzero; up = inr (refl, ap (atom_of graph) own) };
    stands = tt;
    named = tt;
  }

  pub down_below : cofactor_at side graph level node ≡ node → HasDownPart side graph live level node None
  down_below own = record {
    part = None;
    down = record { nonzero = child_nonzero; down = inr (refl, ap (atom_of graph) own) };
    stands = tt;
    named = tt;
  }

  module _ (defined : (key : ℕ) (branch : Branch) → branch_at graph key ≡ Some branch → IsDefined live graph branch) (branch : Branch)
      (at : branch_of graph node ≡ Some branch) (here : branch.level ≡ level) where
    abbrev child : Atom
    child = atom_of graph (cofactor_at side graph level node)

    pub up_kept : HasUpPart side graph live level node (kept_part (up_of side (defs_of branch)) (neg_atom child))
    up_kept =
        let id = up_of side (defs_of branch) in
        let given = up_given graph live level defined side node branch at here in record {
          part = named_part id (clause_from_atoms (up_clause (atom_of graph node) (false_literal side graph level) child));
          up = record { nonzero = child_nonzero; up = inl (named_clause live id _ given) };
          stands = named_live live id _ given;
          named = subst (λ (own : Atom). IsNamed (kept_part id (neg_atom child))
              (named_part id (clause_from_atoms (own ∷ Of (false_literal side graph level) ∷ neg_atom child ∷ []))) (neg_atom child))
              (sym (node_atom graph node branch at))
              (kept_named id (pos branch.variable) (false_literal side graph level) (neg_atom child));
        }

    pub down_kept : HasDownPart side graph live level node (kept_part (down_of side (defs_of branch)) child)
    down_kept =
        let id = down_of side (defs_of branch) in
        let given = down_given graph live level defined side node branch at here in record {
          part = named_part id (clause_from_atoms (down_clause (atom_of graph node) (false_literal side graph level) child));
          down = record { nonzero = child_nonzero; down = inl (named_clause live id _ given) };
          stands = named_live live id _ given;
          named = subst (λ (own : Atom). IsNamed (kept_part id child)
              (named_part id (clause_from_atoms (neg_atom own ∷ Of (false_literal side graph level) ∷ child ∷ []))) child)
              (sym (node_atom graph node branch at))
              (kept_named id (neg_ℤ (pos branch.variable)) (false_literal side graph level) child);
        }
