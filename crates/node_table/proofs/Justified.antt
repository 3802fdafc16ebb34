-- A clause over the variables of live nodes leaves the table tied.
use Rattle.std.proofs.Common.{ℤ, List, sym, subst, inl, inr}
use Rattle.lrat_rules.specs.State.{State}
use Rattle.clause_ledger.specs.Book.{with_next}
use Rattle.node_table.specs.Diagram.{Graph}
use Rattle.node_table.specs.Tied.{IsTied, IsOverNodes}
use Rattle.node_table.proofs.Grown.{KeepsNodes-none}
use Rattle.node_table.proofs.Stands.{Grows-next, next_cases}
use Rattle.node_table.proofs.Made.{IsDefined-kept}

pub justified_tied : (graph : Graph) (state : State) (clause : List ℤ) → IsTied graph state → IsOverNodes graph clause
    → IsTied graph (with_next state clause)
justified_tied graph state clause tied over =
    let grows = Grows-next state clause tied.numbers in
    record {
      reduced = tied.reduced;
      ordered = tied.ordered;
      defined = λ key b is. IsDefined-kept graph graph (KeepsNodes-none graph) state.live (with_next state clause).live grows.clauses b
          (tied.reduced.high key b is).stands (tied.reduced.low key b is).stands (tied.defined key b is);
      over_nodes = λ id found is. elim (next_cases state clause id found is) [
        | inl here ↦ subst (IsOverNodes graph) (sym here.1) over
        | inr there ↦ tied.over_nodes id found there
      ];
      numbers = grows.numbers;
    }
