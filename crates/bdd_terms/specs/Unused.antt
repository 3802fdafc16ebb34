-- A runner before its first call, and what opening one says of it.
use Rattle.std.specs.Prelude.{◌≡◌, ℕ, List, [], false, length, None}
use Rattle.cnf_base.specs.Formula.{Formula}
use Rattle.cnf_base.specs.Order.{IsOrder}
use Rattle.node_table.specs.Table.{opened}
use Rattle.schedule_plan.specs.declared.limits.Limits.{Limits}
use Rattle.schedule_plan.specs.Limits.{AreLimits}
use Rattle.bdd_terms.specs.declared.runner.Runner.{Runner}
use Rattle.bdd_terms.specs.Caches.{HaveSize, all_entries}
use Rattle.bdd_terms.specs.OverFormula.{IsOpened}

-- No step was told to the sink that it was opened over: there is no node, no term is out, and the caches are empty.
pub record IsUnused {S : Type 0} (runner : Runner S) : Type 0 where
  pub limits : AreLimits runner.limits
  pub book : IsOpened runner.formula.now runner.limits.max_ids runner.terms.table.book
  pub sink : runner.terms.table.book.sink ≡ runner.terms.table.book.origin
  pub table : runner.terms.table ≡ opened runner.terms.table.graph.order runner.terms.table.book runner.limits.max_nodes
  pub order : IsOrder runner.terms.table.graph.order
  pub vars : length runner.terms.table.graph.order ≡ runner.formula.now.vars
  pub no_entries : all_entries runner.terms.caches ≡ []
  pub size : HaveSize runner.terms.caches runner.limits.cache
  pub none_out : runner.terms.out.items ≡ []
  pub none_left : runner.terms.left ≡ 0
  pub unrefuted : runner.refuted ≡ false
  pub none_kept : runner.kept ≡ None
  pub none_refused : runner.refusals.items ≡ []

-- A runner was opened over this formula, order and sink, within these limits.
pub record IsOpenedOver {S : Type 0} (formula : Formula) (order : List ℕ) (limits : Limits) (sink : S) (runner : Runner S) : Type 0 where
  pub of_formula : runner.formula.now ≡ formula
  pub of_order : runner.terms.table.graph.order ≡ order
  pub within : runner.limits ≡ limits
  pub origin : runner.terms.table.book.origin ≡ sink
  pub unused : IsUnused runner
