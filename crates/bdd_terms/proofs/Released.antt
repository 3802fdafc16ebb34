-- A term is released: it is out no more, and its clause is retired, or kept where it is the first empty one.
use Rattle.std.proofs.Common.{◌≡◌, ◌≢◌, ◌∙◌, ◌<◌, ◌+◌, ◌++◌, ℕ, suc, List, [], ◌∷◌, Contains, Option, None, Some, length, take, drop, refl}
use Rattle.std.proofs.Common.{sym, ap, subst, arith, inl, inr}
use Rattle.std.specs.Prelude.{get_or}
use Rattle.std.specs.Option.{option_to_list}
use Rattle.std.proofs.lemmas.List.{append-nil, append_assoc, drop_more, take-append-drop}
use Rattle.std.proofs.lemmas.List.Elements.{Contains-append_left, Contains-append_right}
use Rattle.lrat_rules.specs.State.{clause_at}
use Rattle.clause_ledger.specs.Told.{told_origin}
use Rattle.node_table.specs.declared.node.Node.TheVariants.{False, True}
use Rattle.node_table.specs.declared.node.Justification.TheVariants.{Trivial}
use Rattle.node_table.specs.Laws.{StepByStep}
use Rattle.node_table.specs.Progress.{Continues, Steps}
use Rattle.node_table.specs.Table.{TableState}
use Rattle.operations.specs.Entries.{Fits, Fitting}
use Rattle.bdd_terms.specs.declared.held.HeldTerm.{HeldTerm}
use Rattle.bdd_terms.specs.declared.runner.Runner.{Runner}
use Rattle.bdd_terms.specs.Caches.{all_entries}
use Rattle.bdd_terms.specs.Finds.{IsProved}
use Rattle.bdd_terms.specs.Units.{HasUnits, RetiresBut}
use Rattle.bdd_terms.specs.Runner.{HasFalse, IsRefusal, IsRunner, OwnsTerms, Releases, owners, refusals_of, true_term}
use Rattle.bdd_terms.proofs.Refusals.{back_of, front_of}
use Rattle.bdd_terms.proofs.Owners.{among_here, among_others, units_less, which_among}
use Rattle.bdd_terms.proofs.StayingTerms.{over_after}
use Rattle.bdd_terms.proofs.WithinLimits.{within_after}

-- the list around a place
pub around : (list : List HeldTerm) (place : ℕ) (held : HeldTerm) → place < length list → get_or list place held ≡ held
    → list ≡ take place list ++ held ∷ drop (suc place) list
around list place held small at = sym (take-append-drop place list)
    ∙ ap (λ (rest : List HeldTerm). take place list ++ rest) (drop_more list place held small
    ∙ (λ k. at k ∷ drop (shift k) list))
  where
    shift : place + 1 ≡ suc place
    shift = omega arith

module _ {S : Type 0} (old : Runner S) (runner : IsRunner old) (held : HeldTerm) (front behind : List HeldTerm)
    (was : old.terms.out.items ≡ front ++ held ∷ behind) where
  abbrev kept : List HeldTerm
  kept = option_to_list old.kept

  -- those that own a clause, with this one in the middle
  owners_are : owners old ≡ front ++ held ∷ (behind ++ kept)
  owners_are = ap (λ (list : List HeldTerm). list ++ kept) was ∙ append_assoc front (held ∷ behind) kept

  own : OwnsTerms old (front ++ held ∷ (behind ++ kept))
  own = subst (OwnsTerms old) owners_are runner

  -- the first empty clause stays
  module _ (new : Runner S) (same : new ≡ record old { terms = record old.terms { out = new.terms.out }; kept = Some held })
      (items : new.terms.out.items ≡ front ++ behind) (none : old.kept ≡ None) (is_false : held.node ≡ False)
      (continues : Continues old.terms.table old.terms.table) where
    own_still : OwnsTerms old (front ++ held ∷ behind)
    own_still = subst (λ (list : List HeldTerm). OwnsTerms old (front ++ held ∷ list))
        (ap (λ (o : Option HeldTerm). behind ++ option_to_list o) none ∙ append-nil behind) own

    from : (one : HeldTerm) → Contains ((front ++ behind) ++ held ∷ []) one → Contains (front ++ held ∷ behind) one
    from one there = elim (which_among (front ++ behind) [] held one there) [
      | inl is ↦ subst (λ (h : HeldTerm). Contains (front ++ held ∷ behind) h) is (among_here front behind held)
      | inr other ↦ among_others front behind held one (subst (λ (list : List HeldTerm). Contains list one) (append-nil (front ++ behind)) other)
    ]

    units_last : HasUnits old.terms.table (all_entries old.terms.caches) (((front ++ behind) ++ held ∷ []) ++ refusals_of old)
    units_last = back_of old.terms.table (all_entries old.terms.caches) (front ++ behind) [] (refusals_of old) held
        (subst (λ (list : List HeldTerm). HasUnits old.terms.table (all_entries old.terms.caches) (held ∷ (list ++ refusals_of old)))
        (sym (append-nil (front ++ behind)))
        (front_of old.terms.table (all_entries old.terms.caches) front behind (refusals_of old) held own_still.units))

    some_inside : (one : HeldTerm) → ◌≡◌ {A = Option HeldTerm} (Some held) (Some one) → held ≡ one
    some_inside one is = cc

    goes_on_kept : IsRunner new
    goes_on_kept = subst (λ (r : Runner S). IsRunner r) (sym same)
        (subst (λ (list : List HeldTerm). OwnsTerms (record old { terms = record old.terms { out = new.terms.out }; kept = Some held })
        (list ++ held ∷ [])) (sym items) (record {
          over = own_still.over;
          within = own_still.within;
          proved = λ one there. own_still.proved one (from one there);
          units = units_last;
          refusals = own_still.refusals;
          kept = λ one is. subst (λ (h : HeldTerm). h.node ≡ False) (some_inside one is) is_false;
          refuted = λ is. record { held = held; among = among_here (front ++ behind) [] held; is_false = is_false };
          unrefuted = own_still.unrefuted;
        }))

    here : new.terms.table ≡ old.terms.table
    here = ap (λ (r : Runner S). r.terms.table) same

    pub releases_kept : Releases held old new
    releases_kept = record {
      goes_on = goes_on_kept;
      out = inr ((λ is. let e : False ≡ True = sym is_false ∙ is in cc), record { front = front; behind = behind; was = was; is = items });
      table = here ∙ ap (λ (t : TableState S). record old.terms.table { retired = t.retired }) (sym here);
      caches = ap (λ (r : Runner S). r.terms.caches) same;
      formula = ap (λ (r : Runner S). r.formula) same;
      limits = ap (λ (r : Runner S). r.limits) same;
      left = ap (λ (r : Runner S). r.terms.left) same;
      refuted = ap (λ (r : Runner S). r.refuted) same;
      kept = λ some. absurd (some is_false);
      refusals = ap (λ (r : Runner S). r.refusals) same;
      origin = ap (λ (t : TableState S). t.book.origin) here;
      continues = subst (λ (t : TableState S). Continues old.terms.table t) (sym here) continues;
    }

  -- its clause is retired
  module _ (steps : StepByStep S) (fitting : Fitting S) (table : TableState S) (new : Runner S)
      (same : new ≡ record old { terms = record old.terms { table = table; out = new.terms.out } })
      (items : new.terms.out.items ≡ front ++ behind) (retires : RetiresBut old.terms.table table held.unit Trivial)
      (more : Steps old.terms.table table 0 None) (other : held.node ≡ False → (one : HeldTerm) × (old.kept ≡ Some one))
      (not_true : held.node ≢ True) where
    abbrev rest : List HeldTerm
    rest = front ++ (behind ++ kept)

    units_rest : HasUnits table (all_entries old.terms.caches) (rest ++ refusals_of old)
    units_rest = units_less old.terms.table table (all_entries old.terms.caches) held (rest ++ refusals_of old) retires
        (front_of old.terms.table (all_entries old.terms.caches) front (behind ++ kept) (refusals_of old) held own.units)

    -- an entry's clause isn't the one that is retired
    fits_rest : Fits table (all_entries old.terms.caches)
    fits_rest =
        let fits = own.over.fits in
        fitting.kept old.terms.table table (all_entries old.terms.caches) own.over.sound more.leaves.sound more.extends fits
        (λ id named gone. elim (retires.only id gone) [
          | inl before ↦ fits.unretired id named before
          | inr this ↦ own.units.own held (Contains-append_left (front ++ held ∷ (behind ++ kept)) (refusals_of old) held
              (among_here front (behind ++ kept) held)) id this.0 (inr named)
        ])

    proved_rest : (one : HeldTerm) → Contains rest one → IsProved table.graph table.book.state.live one
    proved_rest one there = subst (λ (t : TableState S). IsProved t.graph t.book.state.live one) (sym retires.same)
        (own.proved one (among_others front (behind ++ kept) held one there))

    in_option : (o : Option HeldTerm) (one : HeldTerm) → o ≡ Some one → Contains (option_to_list o) one
    in_option None one is = absurd (let e : None ≡ Some one = is in cc)
    in_option (Some x) one is = (0, omega arith, inside x one is)
      where
        inside : (x one : HeldTerm) → Some x ≡ Some one → x ≡ one
        inside x one is = cc

    -- another one is False yet, where this one is
    false_yet : HasFalse (front ++ held ∷ (behind ++ kept)) → HasFalse rest
    false_yet has = elim (which_among front (behind ++ kept) held has.held has.among) [
      | inl this ↦
          let last = other (ap (λ (h : HeldTerm). h.node) this ∙ has.is_false) in
          record {
            held = last.0;
            among = Contains-append_right front (behind ++ kept) last.0
                (Contains-append_right behind kept last.0 (in_option old.kept last.0 last.1));
            is_false = own.kept last.0 last.1;
          }
      | inr there ↦ record { held = has.held; among = there; is_false = has.is_false }
    ]

    owns_rest : OwnsTerms (record old { terms = record old.terms { table = table; out = new.terms.out } }) rest
    owns_rest = record {
      over = over_after old.formula.now old.terms.table table (all_entries old.terms.caches) (all_entries old.terms.caches) own.over
          more.leaves.sound more.extends fits_rest;
      within = within_after old.formula.now old.limits old.terms.table old.terms.caches (all_entries old.terms.caches) own.over own.within
          table old.terms.caches more.leaves refl;
      proved = proved_rest;
      units = units_rest;
      refusals = λ id there. subst (λ (t : TableState S). IsRefusal t.graph t.book.state.live id) (sym retires.same) (own.refusals id
          there);
      kept = own.kept;
      refuted = λ is. false_yet (own.refuted is);
      unrefuted = λ no id above empty. own.unrefuted no id (omega (arith, above, more.extends.inputs))
          (sym (ap (λ (t : TableState S). clause_at t.book.state.live id) retires.same) ∙ empty);
    }

    goes_on_rest : IsRunner new
    goes_on_rest = subst (λ (r : Runner S). IsRunner r) (sym same)
        (subst (OwnsTerms (record old { terms = record old.terms { table = table; out = new.terms.out } }))
        (sym (append_assoc front behind kept) ∙ ap (λ (list : List HeldTerm). list ++ kept) (sym items)) owns_rest)

    pub releases_retired : Releases held old new
    releases_retired =
        let here : new.terms.table ≡ table = ap (λ (r : Runner S). r.terms.table) same in
        record {
          goes_on = goes_on_rest;
          out = inr (not_true, record { front = front; behind = behind; was = was; is = items });
          table = subst (λ (t : TableState S). t ≡ record old.terms.table { retired = t.retired }) (sym here) retires.same;
          caches = ap (λ (r : Runner S). r.terms.caches) same;
          formula = ap (λ (r : Runner S). r.formula) same;
          limits = ap (λ (r : Runner S). r.limits) same;
          left = ap (λ (r : Runner S). r.terms.left) same;
          refuted = ap (λ (r : Runner S). r.refuted) same;
          kept = λ some. ap (λ (r : Runner S). r.kept) same;
          refusals = ap (λ (r : Runner S). r.refusals) same;
          origin = ap (λ (t : TableState S). t.book.origin) here ∙ told_origin more.leaves.told;
          continues = subst (λ (t : TableState S). Continues old.terms.table t) (sym here) more.leaves;
        }

-- a term that is True leaves all as it is
pub releases_true : {S : Type 0} (old : Runner S) (held : HeldTerm) → IsRunner old → held ≡ true_term
    → Continues old.terms.table old.terms.table → Releases held old old
releases_true old held runner is continues = record {
  goes_on = runner;
  out = inl (is, refl);
  table = refl;
  caches = refl;
  formula = refl;
  limits = refl;
  left = refl;
  refuted = refl;
  kept = λ some. refl;
  refusals = refl;
  origin = refl;
  continues = continues;
}
