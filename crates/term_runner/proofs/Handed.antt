-- What a plan begins with: what a runner handed on, and no variable that is quantified.
use Rattle.std.proofs.Common.{◌≡◌, ◌∙◌, ◌<◌, ℕ, false, List, [], reverse, Some, sym, ap, subst}
use Rattle.std.specs.Prelude.{◌≢◌, IsTrue}
use Rattle.lrat_rules.specs.State.{clause_at}
use Rattle.node_table.specs.Table.{TableState}
use Rattle.bdd_terms.specs.declared.caches.Caches.{Caches}
use Rattle.bdd_terms.specs.declared.handover.Handover.{Handover}
use Rattle.bdd_terms.specs.declared.held.HeldTerm.{HeldTerm}
use Rattle.bdd_terms.specs.declared.runner.Runner.{Runner}
use Rattle.bdd_terms.specs.declared.terms.Terms.{Terms}
use Rattle.bdd_terms.specs.Caches.{all_entries}
use Rattle.bdd_terms.specs.Handover.{IsHandedOver}
use Rattle.bdd_terms.specs.OverFormula.{HasEmpty, IsOver, IsWithinLimits}
use Rattle.bdd_terms.specs.Units.{HasUnits}
use Rattle.term_runner.specs.declared.stacked.StackedTerms.{StackedTerms}
use Rattle.term_runner.specs.Stacked.{HasOwnUnits}

module _ {S : Type 0} (runner : Runner S) (handover : Handover S) (told : IsHandedOver runner handover) (stacked : StackedTerms S)
    (table_is : stacked.table ≡ handover.terms.table) (caches_are : stacked.caches ≡ handover.terms.caches)
    (out_is : stacked.out ≡ handover.terms.out) where
  -- what holds of the table and the caches that were handed on
  of_both : (P : TableState S → Caches → Type 0) → P handover.terms.table handover.terms.caches → P stacked.table stacked.caches
  of_both P own = subst (λ (t : TableState S). P t stacked.caches) (sym table_is)
      (subst (λ (c : Caches). P handover.terms.table c) (sym caches_are) own)

  pub over_first : IsOver handover.formula.now stacked.table (all_entries stacked.caches)
  over_first = of_both (λ t c. IsOver handover.formula.now t (all_entries c)) told.over

  pub within_first : IsWithinLimits handover.formula.now handover.limits stacked.table stacked.caches
  within_first = of_both (λ t c. IsWithinLimits handover.formula.now handover.limits t c) told.within

  pub empty_first : IsTrue handover.refuted → HasEmpty stacked.table
  empty_first refuted = subst (λ (t : TableState S). HasEmpty t) (sym table_is) (told.empty refuted)

  pub unrefuted_first : handover.refuted ≡ false → (id : ℕ) → stacked.table.inputs < id → clause_at stacked.table.book.state.live id ≢ Some []
  unrefuted_first clean = subst (λ (t : TableState S). (id : ℕ) → t.inputs < id → clause_at t.book.state.live id ≢ Some [])
      (sym table_is) (told.unrefuted clean)

  pub none_out_first : stacked.out.items ≡ []
  none_out_first = (λ k. (out_is k).items) ∙ told.none_out

  pub own_first : handover.refuted ≡ false → HasOwnUnits stacked
  own_first clean =
      subst (λ (list : List HeldTerm). HasUnits stacked.table (all_entries stacked.caches) list) (ap reverse (sym none_out_first))
      (of_both (λ t c. HasUnits t (all_entries c) []) (told.units clean))

  -- the table is the runner's, but that more clauses are retired
  pub table_first : stacked.table ≡ record runner.terms.table { retired = handover.terms.table.retired }
  table_first = table_is ∙ ap (λ (t : Terms S). t.table) told.terms
