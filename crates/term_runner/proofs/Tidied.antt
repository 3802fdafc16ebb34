-- Nodes that a reclamation left, and those that a move makes before it and behind it.
use Rattle.std.proofs.Common.{◌≡◌, ◌∙◌, ℕ, Bool, false, List, [], Ok, Err, Result, is_some, refl, sym, ap, subst, inl, inr}
use Rattle.std.specs.Prelude.{◌≢◌, OnOk}
use Rattle.cnf_base.specs.Formula.{Formula}
use Rattle.lrat_rules.specs.State.{Live}
use Rattle.node_table.specs.declared.error.TableError.{TableError}
use Rattle.node_table.specs.declared.error.TableError.TheVariants.{WriteFault}
use Rattle.node_table.specs.declared.node.Node.{Node}
use Rattle.node_table.specs.Diagram.{Graph}
use Rattle.node_table.specs.HandedOn.{no_error}
use Rattle.node_table.specs.Made.{inner}
use Rattle.node_table.specs.Table.{live_nodes}
use Rattle.node_table.specs.Value.{Levels, value_of}
use Rattle.quantify.specs.RunsFor.{Kind}
use Rattle.reconstruction.specs.Stack.{Stack}
use Rattle.schedule_plan.specs.Plan.{Stage}
use Rattle.bdd_terms.specs.declared.held.HeldTerm.{HeldTerm}
use Rattle.term_runner.specs.Held.{IsAt}
use Rattle.term_runner.specs.Nodes.{KeepsOrMakes}
use Rattle.bdd_terms.specs.Tidy.{LeavesReached}
use Rattle.term_runner.specs.Tidy.{WereLeft, held_nodes}

pub none_made : (graph : Graph) (kind : Kind) → KeepsOrMakes graph graph kind
none_made graph kind = record { each = λ key branch at. inl (at, λ a. refl) }

-- what was there or was made before a reclamation, and behind it
pub made_behind : (old one two new : Graph) (roots : List Node) (kind : Kind) → KeepsOrMakes old one kind
    → LeavesReached one two roots → KeepsOrMakes two new kind
    → KeepsOrMakes old new kind
made_behind old one two new roots kind before left behind = record {
  each = λ key branch at. elim (behind.each key branch at) [
    | inl there ↦
        let same : (a : Levels) → value_of new a (inner key) ≡ value_of one a (inner key) = λ a. there.1 a
        ∙ left.value a (inner key) (ap is_some there.0) in
        elim (before.each key branch (left.nodes key branch there.0)) [
          | inl was ↦ inl (was.0, λ a. same a ∙ was.1 a)
          | inr part ↦ inr (subst kind (λ k a. sym (same a) k) part)
        ]
    | inr part ↦ inr part
  ];
}

abbrev pub were_left : (keeps : Bool) (formula : Formula) (old new : Graph) (live : Live) (stack : List HeldTerm) (trail : Stack) (stage : Stage)
    (order : List ℕ) (left : ℕ) → IsAt formula new live stack trail stage
    → LeavesReached old new (held_nodes stack trail.recent) → new.order ≡ order → left ≡ live_nodes new → (keeps ≡ false → trail.recent ≡ [])
    → WereLeft keeps formula order stage left
were_left keeps formula old new live stack trail stage order left at reached same count gone = record {
  graph = new;
  live = live;
  stack = stack;
  trail = trail;
  at = at;
  order_is = same;
  reduced = reached.reduced;
  count = sym count;
  gone = gone;
  reached = reached.reached;
}

-- what holds unless a write failed holds with an answer
pub ok_whole : {T : Type 0} (result : Result T TableError) (P : Type 0) → (result ≢ Err WriteFault → P) → OnOk result P
ok_whole (Ok answer) P unless = unless no_error
ok_whole (Err error) P unless = tt
