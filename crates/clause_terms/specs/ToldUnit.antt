-- The clause of a node's literal alone, and of False, and the step that adds it.
use Rattle.std.proofs.Common.{◌≡◌, ◌≢◌, is_some, refl, ℕ, ℤ, true, List, [], ◌∷◌, Option, None, Some, Result, Ok, Err, ap, subst}
use Rattle.std.specs.Prelude.{OnOk}
use Rattle.std.specs.Option.{option_map}
use Rattle.clause_ledger.specs.Book.{AreTold, addition}
use Rattle.hint_chain.specs.Atoms.{clause_from_atoms}
use Rattle.node_table.specs.declared.error.TableError.{TableError}
use Rattle.node_table.specs.declared.node.Branch.{Branch}
use Rattle.node_table.specs.declared.node.Node.{Node}
use Rattle.node_table.specs.declared.node.Node.TheVariants.{False, True, Inner}
use Rattle.node_table.specs.Defined.{atom_in, atom_of, literal_of_branch}
use Rattle.node_table.specs.Diagram.{Graph, branch_at, branch_of, is_node}
use Rattle.node_table.specs.Table.{TableState}
use Rattle.clause_terms.specs.Term.{AddsUnit}

pub unit_clause : (graph : Graph) (node : Node) (unit : ℤ) → option_map literal_of_branch (branch_of graph node) ≡ Some unit
    → clause_from_atoms (atom_of graph node ∷ []) ≡ Some (unit ∷ [])
unit_clause graph False unit is = cc
unit_clause graph True unit is = cc
unit_clause graph (Inner key) unit is = by_branch (branch_at graph key.index) is
  where
    by_branch : (found : Option Branch) → option_map literal_of_branch found ≡ Some unit
        → clause_from_atoms (atom_in found ∷ []) ≡ Some (unit ∷ [])
    by_branch None is = cc
    by_branch (Some branch) is = ap (λ (u : Option ℤ). option_map (λ x. x ∷ []) u) is

pub empty_clause : (graph : Graph) (node : Node) → is_node graph node ≡ true → node ≢ True
    → option_map literal_of_branch (branch_of graph node) ≡ None → clause_from_atoms (atom_of graph node ∷ []) ≡ Some []
empty_clause graph False stands other none = refl
empty_clause graph True stands other none = absurd (other (λ i. True))
empty_clause graph (Inner key) stands other none = by_branch (branch_at graph key.index) stands none
  where
    by_branch : (found : Option Branch) → is_some found ≡ true → option_map literal_of_branch found ≡ None
        → clause_from_atoms (atom_in found ∷ []) ≡ Some []
    by_branch None stands none = refl
    by_branch (Some branch) stands none = cc

pub told_unit : {S : Type 0} (old new : TableState S) (node : Node) (clause : List ℤ) (hints own : List ℕ) (r : Result ℕ TableError)
    → clause_from_atoms (atom_of old.graph node ∷ []) ≡ Some clause → hints ≡ own
    → OnOk r (AreTold true old.book new.book (addition old.book.state clause hints ∷ [])) → OnOk r (AddsUnit old new node own)
told_unit old new node clause hints own (Ok id) is same told = record {
  clause = clause;
  is = is;
  told = subst (λ (h : List ℕ). AreTold true old.book new.book (addition old.book.state clause h ∷ [])) same told;
}
told_unit old new node clause hints own (Err error) is same told = tt
