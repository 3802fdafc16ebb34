-- The clause of a refused cube is retired: the runner owns it no more.
use Rattle.std.proofs.Common.{◌≡◌, ◌∙◌, ◌++◌, ℕ, List, [], ◌∷◌, length, map, Contains, None, refl, sym, ap, subst, inl, inr}
use Rattle.std.proofs.lemmas.List.{append-nil, append_assoc, map-append}
use Rattle.std.proofs.lemmas.List.Elements.{Contains-append_left}
use Rattle.node_table.specs.declared.node.Justification.TheVariants.{Clause, Trivial}
use Rattle.node_table.specs.Progress.{Steps}
use Rattle.node_table.specs.Table.{TableState, IsAddedTo}
use Rattle.operations.specs.Entries.{Fits, Fitting}
use Rattle.bdd_terms.specs.declared.held.HeldTerm.{HeldTerm}
use Rattle.bdd_terms.specs.declared.runner.Runner.{Runner}
use Rattle.bdd_terms.specs.Caches.{all_entries}
use Rattle.bdd_terms.specs.Finds.{IsProved}
use Rattle.bdd_terms.specs.Units.{HasUnits, RetiresBut}
use Rattle.bdd_terms.specs.Runner.{IsRefusal, IsRunner, owners, refusal_of, refusals_of}
use Rattle.bdd_terms.proofs.Owners.{among_here, units_front, units_less}
use Rattle.bdd_terms.proofs.Resting.{nothing}
use Rattle.bdd_terms.proofs.SameTerms.{terms_stay}

module _ {S : Type 0} (old : Runner S) (runner : IsRunner old) (ids : List ℕ) (id : ℕ) (was : old.refusals.items ≡ ids ++ id ∷ []) where
  -- all that own a clause, with this one last
  all_are : owners old ++ refusals_of old ≡ (owners old ++ map refusal_of ids) ++ refusal_of id ∷ []
  all_are = ap (λ (list : List ℕ). owners old ++ map refusal_of list) was
      ∙ ap (λ (list : List HeldTerm). owners old ++ list) (map-append refusal_of ids (id ∷ []))
      ∙ sym (append_assoc (owners old) (map refusal_of ids) (refusal_of id ∷ []))

  units_are : HasUnits old.terms.table (all_entries old.terms.caches) ((owners old ++ map refusal_of ids) ++ refusal_of id ∷ [])
  units_are = subst (HasUnits old.terms.table (all_entries old.terms.caches)) all_are runner.units

  here : Contains ((owners old ++ map refusal_of ids) ++ refusal_of id ∷ []) (refusal_of id)
  here = among_here (owners old ++ map refusal_of ids) [] (refusal_of id)

  pub last_added : IsAddedTo old.terms.table id
  last_added = units_are.added id (record { held = refusal_of id; stacked = here; unit = refl })

  pub last_unretired : Contains old.terms.table.retired id → ⊥
  last_unretired there = units_are.own (refusal_of id) here id refl (inl there)

  module _ (fitting : Fitting S) (new : Runner S) (table : TableState S)
      (same : new ≡ record old { terms = record old.terms { table = table }; refusals = new.refusals })
      (items : new.refusals.items ≡ ids) (retires : RetiresBut old.terms.table table (Clause id) Trivial)
      (more : Steps old.terms.table table 0 None) where
    units_left : HasUnits table (all_entries old.terms.caches) (owners old ++ map refusal_of ids)
    units_left = subst (HasUnits table (all_entries old.terms.caches)) (append-nil (owners old ++ map refusal_of ids))
        (units_less old.terms.table table (all_entries old.terms.caches) (refusal_of id) ((owners old ++ map refusal_of ids) ++ []) retires
        (units_front old.terms.table (all_entries old.terms.caches) (owners old ++ map refusal_of ids) [] (refusal_of id) units_are))

    -- an entry's clause isn't the one that is retired
    fits_left : Fits table (all_entries old.terms.caches)
    fits_left =
        let fits = runner.over.fits in
        fitting.kept old.terms.table table (all_entries old.terms.caches) runner.over.sound more.leaves.sound more.extends fits
        (λ other named gone. elim (retires.only other gone) [
          | inl before ↦ fits.unretired other named before
          | inr this ↦ units_are.own (refusal_of id) here other this.0 (inr named)
        ])

    stays_among : (other : ℕ) → Contains ids other → Contains old.refusals.items other
    stays_among other there = subst (λ (list : List ℕ). Contains list other) (sym was) (Contains-append_left ids (id ∷ []) other there)

    pub given_up : IsRunner new
    given_up = terms_stay old runner table more.leaves more.extends (λ no. more.no_empty) fits_left
        (λ held among. subst (λ (t : TableState S). IsProved t.graph t.book.state.live held) (sym retires.same) (runner.proved held among))
        new same
        (subst (λ (list : List ℕ). HasUnits table (all_entries old.terms.caches) (owners old ++ map refusal_of list)) (sym items) units_left)
        (λ other there. subst (λ (t : TableState S). IsRefusal t.graph t.book.state.live other) (sym retires.same)
        (runner.refusals other (stays_among other (subst (λ (list : List ℕ). Contains list other) items there))))

-- none was left, and none is
pub none_left : {S : Type 0} (old : Runner S) → IsRunner old → (new : Runner S) → new ≡ record old { refusals = new.refusals }
    → length old.refusals.items ≡ 0 → length new.refusals.items ≡ 0 → IsRunner new
none_left {S = S} old is new same was now = subst (λ (r : Runner S). IsRunner r) (sym same) (record {
  over = is.over;
  within = is.within;
  proved = is.proved;
  units = subst (λ (ids : List ℕ). HasUnits old.terms.table (all_entries old.terms.caches) (owners old ++ map refusal_of ids)) (sym items)
      is.units;
  refusals = λ id there. is.refusals id (subst (λ (ids : List ℕ). Contains ids id) items there);
  kept = is.kept;
  refuted = is.refuted;
  unrefuted = is.unrefuted;
})
  where
    items : new.refusals.items ≡ old.refusals.items
    items = nothing new.refusals.items now ∙ sym (nothing old.refusals.items was)
