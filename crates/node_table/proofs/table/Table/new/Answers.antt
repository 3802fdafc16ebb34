-- What is left to show of `Table::new`.
use Rattle.std.proofs.Common.{◌≡◌, ℤ, List, Option, Some, None, is_some, true, false, nat_cmp, refl, ap, arith}
use Rattle.std.specs.Prelude.{vec_capacity}
use Rattle.std.specs.FinMap as map
use Rattle.lrat_rules.specs.State.{clause_at}
use Rattle.node_table.specs.declared.node.Branch.{Branch}
use Rattle.node_table.proofs.Places.{HavePlaces-none, AreNumberedAbove-none}
use Rattle.node_table.proofs.table.Table.new.Goals as goal

some_clause : (o : Option (List ℤ)) → is_some o ≡ true → (clause : List ℤ) × (o ≡ Some clause)
some_clause None is = absurd (let e : false ≡ true = is in cc)
some_clause (Some clause) is = (clause, refl)

pub invariant_of-result : goal.invariant_of-result
invariant_of-result g c = (
  c.requires.few,
  omega (arith, ap (λ (m : map.FinMap nat_cmp Branch). map.len m) c.requires.empty, map.len-empty nat_cmp Branch),
  λ _.
      HavePlaces-none c.args.diagram c.args.ledger.state.live c.last_id-inputs.result (vec_capacity c.new.result) (λ id own.
      let clause = some_clause (clause_at c.args.ledger.state.live id) own.stands in
      let range = c.last_id-inputs.ensures.numbers id clause.0 clause.1 in
      omega (arith, range.1, own.above, c.last_id-inputs.ensures.value)),
  AreNumberedAbove-none c.last_id-inputs.result c.args.diagram c.requires.empty,
  omega (arith, c.book_law.ensures.book.proof.from_formula, c.last_id-inputs.ensures.value),
)
