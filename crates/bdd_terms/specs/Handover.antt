-- What a runner hands on once all its terms are released.
use Rattle.std.specs.Prelude.{◌≡◌, ◌≢◌, ◌<◌, ℕ, false, [], Some, IsTrue}
use Rattle.lrat_rules.specs.State.{clause_at}
use Rattle.bdd_terms.specs.declared.handover.Handover.{Handover}
use Rattle.bdd_terms.specs.declared.runner.Runner.{Runner}
use Rattle.bdd_terms.specs.Caches.{all_entries}
use Rattle.bdd_terms.specs.OverFormula.{HasEmpty, IsOver, IsWithinLimits}
use Rattle.bdd_terms.specs.Units.{HasUnits}

-- All is as the runner had it, but that more clauses are retired. The table is over the formula, and within the limits. The empty clause was
-- added exactly where that is said; where it wasn't, each clause that was added is retired, or named by an entry.
pub record IsHandedOver {S : Type 0} (runner : Runner S) (handover : Handover S) : Type 0 where
  pub formula : handover.formula ≡ runner.formula
  pub limits : handover.limits ≡ runner.limits
  pub refuted : handover.refuted ≡ runner.refuted
  pub terms : handover.terms ≡ record runner.terms { table = record runner.terms.table { retired = handover.terms.table.retired } }
  pub none_out : handover.terms.out.items ≡ []
  pub over : IsOver handover.formula.now handover.terms.table (all_entries handover.terms.caches)
  pub within : IsWithinLimits handover.formula.now handover.limits handover.terms.table handover.terms.caches
  pub empty : IsTrue handover.refuted → HasEmpty handover.terms.table
  pub unrefuted : handover.refuted ≡ false → (id : ℕ) → handover.terms.table.inputs < id
      → clause_at handover.terms.table.book.state.live id ≢ Some []
  pub units : handover.refuted ≡ false → HasUnits handover.terms.table (all_entries handover.terms.caches) []
