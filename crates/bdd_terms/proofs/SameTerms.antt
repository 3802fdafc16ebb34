-- A runner goes on where its terms stay: only its table changed, and the clauses of refused cubes.
use Rattle.std.proofs.Common.{◌≡◌, ◌++◌, ℕ, false, Contains, refl, sym, subst, arith}
use Rattle.node_table.specs.Progress.{Continues}
use Rattle.node_table.specs.Table.{AddsNoEmpty, Extends, TableState}
use Rattle.operations.specs.Entries.{Fits}
use Rattle.bdd_terms.specs.declared.held.HeldTerm.{HeldTerm}
use Rattle.bdd_terms.specs.declared.runner.Runner.{Runner}
use Rattle.bdd_terms.specs.Caches.{all_entries}
use Rattle.bdd_terms.specs.Finds.{IsProved}
use Rattle.bdd_terms.specs.Units.{HasUnits}
use Rattle.bdd_terms.specs.Runner.{IsRefusal, IsRunner, owners, refusals_of}
use Rattle.bdd_terms.proofs.StayingTerms.{over_after}
use Rattle.bdd_terms.proofs.WithinLimits.{within_after}

module _ {S : Type 0} (old : Runner S) (runner : IsRunner old) (table : TableState S) (continues : Continues old.terms.table table)
    (extends : Extends old.terms.table table) (no_empty : old.refuted ≡ false → AddsNoEmpty old.terms.table table)
    (fits : Fits table (all_entries old.terms.caches))
    (proved : (held : HeldTerm) → Contains (owners old) held → IsProved table.graph table.book.state.live held) (new : Runner S)
    (same : new ≡ record old { terms = record old.terms { table = table }; refusals = new.refusals })
    (units : HasUnits table (all_entries old.terms.caches) (owners old ++ refusals_of new))
    (stand : (id : ℕ) → Contains new.refusals.items id → IsRefusal table.graph table.book.state.live id) where
  pub terms_stay : IsRunner new
  terms_stay = subst (λ (r : Runner S). IsRunner r) (sym same) (record {
    over = over_after old.formula.now old.terms.table table (all_entries old.terms.caches) (all_entries old.terms.caches) runner.over
        continues.sound extends fits;
    within = within_after old.formula.now old.limits old.terms.table old.terms.caches (all_entries old.terms.caches) runner.over
        runner.within table old.terms.caches continues refl;
    proved = proved;
    units = units;
    refusals = stand;
    kept = runner.kept;
    refuted = runner.refuted;
    unrefuted = λ no id above empty. runner.unrefuted no id (omega (arith, above, extends.inputs)) ((no_empty no).each id empty);
  })
