-- One addition: its clause is there.
use Rattle.std.proofs.Common.{◌≡◌, ◌+◌, ◌∙◌, ℕ, ℤ, List, Contains, Some, Result, Ok, Err, ap, sym}
use Rattle.std.specs.Prelude.{IfOk}
use Rattle.lrat_rules.specs.State.{State, clause_at}
use Rattle.clause_ledger.specs.Book.{with_next}
use Rattle.node_table.specs.declared.error.TableError.{TableError}
use Rattle.node_table.specs.Progress.{Steps, error_of}
use Rattle.node_table.specs.Refused.{used_up}
use Rattle.node_table.specs.Table.{TableState, IsAddedTo}
use Rattle.operations.specs.Additions.{IsAdded}
use Rattle.operations.proofs.additions.add.Goals as goal

pub returns-clause-clause : goal.returns-clause-clause
returns-clause-clause g c =
    let old = c.args.table.now.book.state in
    let new = c.justify.new.self.book.state in
    let clause = c.args.clause.now in
    elim (c.justify.result) as (λ (r : Result ℕ TableError). IfOk r (λ id. (id ≡ old.top + 1) × (new ≡ with_next old clause))
    → IfOk r (λ id. clause_at new.live id ≡ Some clause)) [
      | Ok id ↦ λ is. c.high_clause_law.ensures.added old new id clause is
      | Err error ↦ λ is. tt
    ] c.justify.ensures.added

pub returns-clause-steps : goal.returns-clause-steps
returns-clause-steps g c = c.justify.ensures.no_empty c.requires.some

added_by : {S : Type 0} (old new : TableState S) (clause : List ℤ) (r : Result ℕ TableError)
    → Steps old new 1 (error_of r)
    → IfOk r (λ id. (id ≡ old.book.state.top + 1) × (new.book.state ≡ with_next old.book.state clause)) → IfOk r (λ id. IsAddedTo new id)
    → new.retired ≡ old.retired → IfOk r (λ id. Contains new.retired id → ⊥) → IfOk r (λ id. IsAdded old new id)
added_by old new clause (Ok id) steps added own retired unretired = record {
  steps = steps;
  number = added.0;
  top = ap (λ (s : State). s.top) added.1 ∙ sym added.0;
  own = own;
  retired = retired;
  unretired = unretired;
}
added_by old new clause (Err error) steps added own retired unretired = tt

pub returns-clause-added : goal.returns-clause-added
returns-clause-added g c =
    added_by c.args.table.now c.justify.new.self c.args.clause.now c.justify.result
    (c.justify.ensures.no_empty c.requires.some) c.justify.ensures.added c.justify.ensures.own c.justify.ensures.retired
    c.justify.ensures.unretired

pub returns-clause-id_limit : goal.returns-clause-id_limit
returns-clause-id_limit g c = used_up c.args.table.now c.justify.new.self c.justify.result c.justify.ensures.refused
    c.justify.ensures.id_limit.0
