-- The clauses of a literal's node make its literal and the next node false.
use Rattle.std.proofs.Common.{◌≡◌, ℕ, zero, suc, ◌<◌, true, false, not, pos, neg_ℤ, [], ◌∷◌, None, Some, refl, sym, ap, ◌∙◌, arith}
use Rattle.std.specs.Prelude.{if◌then◌else◌}
use Rattle.std.specs.Int.{is_negative}
use Rattle.std.proofs.lemmas.Bool.{le-ltb}
use Rattle.std.proofs.Math.IntN.{neg_ℤ-neg_ℤ}
use Rattle.cnf_base.specs.ProofText.{given_if}
use Rattle.lrat_rules.specs.State.{Live, clause_at}
use Rattle.hint_chain.specs.declared.unit.UnitPart.{UnitPart}
use Rattle.hint_chain.specs.Atoms.{clause_from_atoms, high_up, low_up}
use Rattle.hint_chain.specs.Units.{literal_id, next_id, FalsifiesLiteral, FalsifiesNext}
use Rattle.node_table.specs.declared.node.Node.{Node}
use Rattle.node_table.specs.declared.node.Node.TheVariants.{False, True, Inner}
use Rattle.node_table.specs.declared.node.NodeKey.{NodeKey}
use Rattle.node_table.specs.declared.node.Branch.{Branch}
use Rattle.node_table.specs.Diagram.{Graph, branch_at, variable_at}
use Rattle.node_table.specs.Defined.{IsDefined, atom_of, atom_in, defs_of, lu_first, is_false_node, clause_named}

-- the part of a node on its path, for the literal of either sign
abbrev pub positive_part : Graph → Branch → UnitPart
positive_part graph b = record { lit = pos (variable_at graph b.level); hu = (defs_of b).hu; lu = (defs_of b).lu }

abbrev pub negative_part : Graph → Branch → UnitPart
negative_part graph b = record { lit = neg_ℤ (pos (variable_at graph b.level)); hu = (defs_of b).hu; lu = (defs_of b).lu }

is_negative-neg : (x : ℕ) → 0 < x → is_negative (neg_ℤ (pos x)) ≡ true
is_negative-neg zero positive = absurd (omega (arith, positive))
is_negative-neg (suc x) positive = refl

is_negative-pos : (x : ℕ) → is_negative (pos x) ≡ false
is_negative-pos x = le-ltb x 0 (omega arith)

module _ (live : Live) (graph : Graph) (b : Branch) (defined : IsDefined live graph b) where
  -- the clause from the high child up, by what the child is
  pub hu_at : (h : Node) → b.high ≡ h → is_false_node h ≡ false → (defs_of b).hu ≡ Some b.first
  hu_at h is open_ = ap (λ n. given_if (not (is_false_node n)) b.first) is ∙ ap (λ t. given_if (not t) b.first) open_

  pub lu_at : (l : Node) → b.low ≡ l → is_false_node l ≡ false → (defs_of b).lu ≡ Some (lu_first b.high b.first)
  lu_at l is open_ = ap (λ n. given_if (not (is_false_node n)) (lu_first b.high b.first)) is
      ∙ ap (λ t. given_if (not t) (lu_first b.high b.first)) open_

  pub hu_clause : (h : Node) → b.high ≡ h → is_false_node h ≡ false
      → clause_at live b.first ≡ clause_from_atoms (high_up (pos b.variable) (pos (variable_at graph b.level)) (atom_of graph h))
  hu_clause h is open_ =
      ap (clause_named live) (sym (hu_at h is open_)) ∙ defined.hu
      ∙ ap (λ n. clause_from_atoms (high_up (pos b.variable) (pos (variable_at graph b.level)) (atom_of graph n))) is

  pub lu_clause : (l : Node) → b.low ≡ l → is_false_node l ≡ false
      → clause_at live (lu_first b.high b.first) ≡ clause_from_atoms (low_up (pos b.variable) (pos (variable_at graph b.level)) (atom_of graph l))
  lu_clause l is open_ =
      ap (clause_named live) (sym (lu_at l is open_)) ∙ defined.lu
      ∙ ap (λ n. clause_from_atoms (low_up (pos b.variable) (pos (variable_at graph b.level)) (atom_of graph n))) is

  not_negative : is_negative (pos (variable_at graph b.level)) ≡ false
  not_negative = is_negative-pos (variable_at graph b.level)

  own_literal : literal_id (positive_part graph b) ≡ (defs_of b).hu
  own_literal = ap (λ t. if t then (defs_of b).lu else (defs_of b).hu) not_negative

  own_next : next_id (positive_part graph b) ≡ (defs_of b).lu
  own_next = ap (λ t. if t then (defs_of b).hu else (defs_of b).lu) not_negative

  pub positive_literal : b.high ≡ True → FalsifiesLiteral live (positive_part graph b) (pos b.variable)
  positive_literal is = record { id = b.first; named = own_literal ∙ hu_at True is refl; stands = hu_clause True is refl }

  pub positive_next : (key : NodeKey) (below : Branch) → b.low ≡ Inner key → branch_at graph key.index ≡ Some below
      → FalsifiesNext live (positive_part graph b) (pos b.variable) (pos below.variable)
  positive_next key below is at = record {
    id = lu_first b.high b.first;
    named = own_next ∙ lu_at (Inner key) is refl;
    stands = lu_clause (Inner key) is refl
        ∙ ap (λ o. clause_from_atoms (low_up (pos b.variable) (pos (variable_at graph b.level)) (atom_in o))) at;
  }

  pub positive_last : b.low ≡ False → next_id (positive_part graph b) ≡ None
  positive_last is = own_next ∙ ap (λ n. given_if (not (is_false_node n)) (lu_first b.high b.first)) is

  module _ (positive : 0 < variable_at graph b.level) where
    negative : is_negative (neg_ℤ (pos (variable_at graph b.level))) ≡ true
    negative = is_negative-neg (variable_at graph b.level) positive

    literal_is : literal_id (negative_part graph b) ≡ (defs_of b).lu
    literal_is = ap (λ t. if t then (defs_of b).lu else (defs_of b).hu) negative

    next_is : next_id (negative_part graph b) ≡ (defs_of b).hu
    next_is = ap (λ t. if t then (defs_of b).hu else (defs_of b).lu) negative

    pub negative_literal : b.low ≡ True → FalsifiesLiteral live (negative_part graph b) (pos b.variable)
    negative_literal is = record {
      id = lu_first b.high b.first;
      named = literal_is ∙ lu_at True is refl;
      stands = lu_clause True is refl ∙ ap (λ x. Some (pos b.variable ∷ x ∷ [])) (sym (neg_ℤ-neg_ℤ (pos (variable_at graph b.level))));
    }

    pub negative_next : (key : NodeKey) (below : Branch) → b.high ≡ Inner key → branch_at graph key.index ≡ Some below
        → FalsifiesNext live (negative_part graph b) (pos b.variable) (pos below.variable)
    negative_next key below is at = record {
      id = b.first;
      named = next_is ∙ hu_at (Inner key) is refl;
      stands = hu_clause (Inner key) is refl
          ∙ ap (λ o. clause_from_atoms (high_up (pos b.variable) (pos (variable_at graph b.level)) (atom_in o))) at;
    }

    pub negative_last : b.high ≡ False → next_id (negative_part graph b) ≡ None
    negative_last is = next_is ∙ ap (λ n. given_if (not (is_false_node n)) b.first) is
