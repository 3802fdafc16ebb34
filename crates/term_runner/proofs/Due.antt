-- When a reclamation is due: at the limit of nodes, or where a move left many.
use Rattle.std.proofs.Common.{◌≡◌, ◌≤◌, ℕ, Some, inl, inr, sym, subst}
use Rattle.node_table.specs.declared.error.TableError.{TableError}
use Rattle.node_table.specs.declared.error.TableError.TheVariants.{NodeLimit}
use Rattle.node_table.specs.Diagram.{Graph, IsReduced}
use Rattle.node_table.specs.Progress.{Leaves}
use Rattle.node_table.specs.Table.{TableState, live_nodes}
use Rattle.quantify.specs.RunsFor.{Kind}
use Rattle.term_runner.specs.Nodes.{KeepsOrMakes}
use Rattle.term_runner.specs.Tidy.{IsByRule, WasDue}
use Rattle.bdd_terms.specs.Tidy.{IsTidy}

pub due_at_limit : {S : Type 0} (old one : TableState S) (kind : Kind) (left : ℕ)
    (came : TableError) → came ≡ NodeLimit → Leaves old one (Some came) → KeepsOrMakes old.graph one.graph kind
    → WasDue old.graph kind old.max_nodes left
due_at_limit old one kind left came is leaves made =
    let met = subst (λ (e : TableError). Leaves old one (Some e)) is leaves in
    record {
      graph = one.graph;
      reduced = met.0.sound.tied.reduced;
      made = made;
      many = inl (subst (λ (n : ℕ). n ≤ live_nodes one.graph) met.0.max_nodes met.1);
    }

-- behind a move that left many
pub due_behind : (old one new : Graph) (kind : Kind) (max_nodes before between after : ℕ) → IsReduced one
    → KeepsOrMakes old one kind → (IsTidy (live_nodes one) between → ⊥) → IsByRule old one kind max_nodes before between
    → IsByRule old new kind max_nodes before after
due_behind old one new kind max_nodes before between after reduced made many (inl kept) = inr (record {
  graph = one;
  reduced = reduced;
  made = made;
  many = inr (λ tidy. many (subst (IsTidy (live_nodes one)) (sym kept.1) tidy));
})
due_behind old one new kind max_nodes before between after reduced made many (inr due) = inr due
