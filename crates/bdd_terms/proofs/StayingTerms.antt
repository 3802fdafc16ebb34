-- A term and the formula's clauses stay through a call that keeps nodes and clauses.
use Rattle.std.proofs.Common.{◌≡◌, ◌+◌, Bool, true, List, [], ◌∷◌, length, Result, Ok, Err, sym, ap, ◌∙◌, subst, arith}
use Rattle.std.specs.Prelude.{IfOk, slice_index_or}
use Rattle.cnf_base.specs.Truth.{Assignment}
use Rattle.cnf_base.specs.Formula.{Formula}
use Rattle.lrat_rules.specs.State.{Live}
use Rattle.hint_chain.specs.declared.atom.Atom.{Atom}
use Rattle.node_table.specs.declared.node.Node.{Node}
use Rattle.node_table.specs.declared.node.Justification.{Justification}
use Rattle.node_table.specs.Diagram.{Graph, IsReduced, KeepsNodes, is_node}
use Rattle.node_table.specs.Value.{by_level, value_of}
use Rattle.node_table.specs.Defined.{atom_of}
use Rattle.node_table.specs.Tied.{KeepsClauses}
use Rattle.node_table.specs.Justification.{IsJustified}
use Rattle.node_table.specs.Table.{TableState, IsSound, Extends}
use Rattle.node_table.specs.Laws.{Growth}
use Rattle.operations.specs.Entries.{Entry, Fits}
use Rattle.clause_terms.specs.Term.{IsTerm}
use Rattle.bdd_terms.specs.OverFormula.{IsOver}

-- what stays as nodes and clauses are added
module _ (growth : Growth) (old new : Graph) (reduced : IsReduced old) (keeps : KeepsNodes old new) (live more : Live)
    (clauses : KeepsClauses live more) where
  pub justified_kept : (node : Node) → is_node old node ≡ true → (unit : Justification) → IsJustified live (atom_of old node ∷ []) unit
      → IsJustified more (atom_of new node ∷ []) unit
  justified_kept node is unit proved =
      subst (λ (x : Atom). IsJustified more (x ∷ []) unit) (sym (growth.atom old new keeps node is))
      (growth.justified live more clauses (atom_of old node ∷ []) unit proved)

  pub term_kept : (holds : Assignment → Bool) (node : Node) (unit : Justification) → IsTerm old live holds node unit
      → IsTerm new more holds node unit
  term_kept holds node unit term = record {
    stands = growth.stands old new keeps node term.stands;
    value = λ a. (λ k. value_of new (by_level (keeps.order k) a) node)
        ∙ growth.value old new reduced keeps (by_level old.order a) node term.stands ∙ term.value a;
    proved = justified_kept node term.stands unit term.proved;
  }

-- the table is over the formula again after a call that went on
pub over_after : {S : Type 0} (formula : Formula) (old new : TableState S) (kept more : List Entry) → IsOver formula old kept
    → IsSound new → Extends old new → Fits new more → IsOver formula new more
over_after formula old new kept more over sound extends fits = record {
  sound = sound;
  fits = fits;
  inputs = λ i small. extends.clauses (i + 1) (slice_index_or formula.clauses i []) (over.inputs i small);
  counted = omega (arith, over.counted, extends.inputs);
  vars = ap length extends.nodes.order ∙ over.vars;
}

-- what holds of a call's answer, from what is known of it
pub if_ok : {T F : Type 0} (r : Result T F) (P Q : T → Type 0) → ((x : T) → P x → Q x) → IfOk r P → IfOk r Q
if_ok (Ok x) P Q f p = f x p
if_ok (Err e) P Q f p = tt

pub both_ok : {T F : Type 0} (r : Result T F) (P Q R : T → Type 0) → ((x : T) → P x → Q x → R x) → IfOk r P → IfOk r Q → IfOk r R
both_ok (Ok x) P Q R f p q = f x p q
both_ok (Err e) P Q R f p q = tt
