-- A term that was found is put on the list, or none was found; and the clauses that were retired are deleted behind it.
use Rattle.std.proofs.Common.{◌≡◌, ◌⊎◌, ◌∙◌, ◌+◌, ◌++◌, ℕ, Bool, true, false, List, [], ◌∷◌, length, Contains, Option, None, Some, Result}
use Rattle.std.proofs.Common.{Ok, Err, ◌*◌, refl, sym, ap, subst, arith, inl, inr}
use Rattle.std.specs.Prelude.{◌≢◌, IfOk, IsTrue}
use Rattle.std.specs.Option.{option_to_list}
use Rattle.std.proofs.lemmas.List.{append_assoc}
use Rattle.std.proofs.lemmas.List.Elements.{Contains-append_left, Contains-append_right}
use Rattle.cnf_base.specs.Truth.{Assignment}
use Rattle.lrat_rules.specs.State.{clause_at}
use Rattle.clause_ledger.specs.Told.{told_origin}
use Rattle.node_table.specs.declared.error.TableError.{TableError}
use Rattle.node_table.specs.declared.error.TableError.TheVariants.{NodeLimit, OutOfMemory, WriteFault}
use Rattle.node_table.specs.declared.node.Node.{Node}
use Rattle.node_table.specs.declared.node.Node.TheVariants.{False, True, Inner}
use Rattle.node_table.specs.declared.node.Justification.{Justification}
use Rattle.node_table.specs.declared.node.Justification.TheVariants.{Clause, Trivial}
use Rattle.node_table.specs.Defined.{atom_of}
use Rattle.node_table.specs.Diagram.{Graph, KeepsNodes}
use Rattle.node_table.specs.HandedOn.{no_error, same_error}
use Rattle.node_table.specs.Justification.{IsJustified}
use Rattle.node_table.specs.Laws.{Growth, StepByStep, Subfunctions}
use Rattle.node_table.specs.Made.{LacksPart, MakesOnly}
use Rattle.node_table.specs.Progress.{Continues, Leaves, error_of}
use Rattle.node_table.specs.Refused.{no_nodes_left}
use Rattle.node_table.specs.Table.{TableState, AddsAtMost, Extends, IsSound, defining_clauses, live_nodes}
use Rattle.node_table.specs.Value.{IsSubfunction, Levels}
use Rattle.operations.specs.Budget.{most_additions}
use Rattle.operations.specs.Entries.{Fits, Fitting}
use Rattle.clause_terms.specs.Term.{IsTerm}
use Rattle.bdd_terms.specs.declared.caches.Caches.{Caches}
use Rattle.bdd_terms.specs.declared.held.HeldTerm.{HeldTerm}
use Rattle.bdd_terms.specs.declared.runner.Runner.{Runner}
use Rattle.bdd_terms.specs.declared.term.Term.{Term}
use Rattle.bdd_terms.specs.Caches.{all_entries, sizes}
use Rattle.bdd_terms.specs.Finds.{Finds, IsProved}
use Rattle.bdd_terms.specs.Units.{GivesUnit, HasUnits}
use Rattle.bdd_terms.specs.Runner.{Gives, HasFalse, IsListed, IsRunner, OwnsTerms, owners, refusal_of, refusals_of, true_term}
use Rattle.bdd_terms.proofs.MadeParts.{lacks_part, of_only, only_of}
use Rattle.bdd_terms.proofs.Giving.{units_settled}
use Rattle.bdd_terms.proofs.Leaving.{origin_left, went_on}
use Rattle.bdd_terms.proofs.NoEmpty.{no_change}
use Rattle.bdd_terms.proofs.OwnUnits.{over_settled, unit_settled}
use Rattle.bdd_terms.proofs.Owners.{among_here, among_others, units_of_rest, which_among}
use Rattle.bdd_terms.proofs.Refusals.{back_of, owner_of, refusal_kept, refusal_stays}
use Rattle.bdd_terms.proofs.Replaced.{none_retired, units_replaced}
use Rattle.bdd_terms.proofs.StayingTerms.{justified_kept, over_after}
use Rattle.bdd_terms.proofs.WithinLimits.{within_after}

-- a node is False, or it isn't
pub false_or : (node : Node) → (node ≡ False) ⊎ (node ≢ False)
false_or False = inl refl
false_or True = inr (λ is. cc)
false_or (Inner key) = inr (λ is. cc)

-- a unit of True is no clause
pub true_unit : {S : Type 0} (table : TableState S) (node : Node) (unit : Justification) → node ≡ True
    → IsJustified table.book.state.live (atom_of table.graph node ∷ []) unit → unit ≡ Trivial
true_unit table node unit is proved = go unit
    (subst (λ (n : Node). IsJustified table.book.state.live (atom_of table.graph n ∷ []) unit) is proved)
  where
    go : (unit : Justification) → IsJustified table.book.state.live (atom_of table.graph True ∷ []) unit → unit ≡ Trivial
    go Trivial own = refl
    go (Clause id) own = absurd (let e : true ≡ false = own.0 in cc)

-- a term stays proved as nodes and clauses are added
pub proved_kept : Growth → {S : Type 0} (old new : TableState S) → IsSound old → Extends old new → (held : HeldTerm)
    → IsProved old.graph old.book.state.live held → IsProved new.graph new.book.state.live held
proved_kept growth old new sound extends held is = record {
  stands = growth.stands old.graph new.graph extends.nodes held.node is.stands;
  unit = justified_kept growth old.graph new.graph sound.tied.reduced extends.nodes old.book.state.live new.book.state.live extends.clauses
      held.node is.stands held.unit is.unit;
}

more_false : (few more : List HeldTerm) → ((one : HeldTerm) → Contains few one → Contains more one) → HasFalse few → HasFalse more
more_false few more all has = record { held = has.held; among = all has.held has.among; is_false = has.is_false }

module _ {S : Type 0} (growth : Growth) (steps : StepByStep S) (function : Levels → Bool) (holds : Assignment → Bool)
    (operands : List HeldTerm) (old : Runner S) (runner : IsRunner old) (mid : TableState S) (caches : Caches) where
  -- none was found
  module _ (came : TableError)
      (found : Finds (IsSubfunction function) function holds operands old.terms.table mid old.terms.caches caches (Err came))
      (no_fault : came ≢ WriteFault → (terms : List HeldTerm) → HasUnits old.terms.table (all_entries old.terms.caches) terms
      → HasUnits mid (all_entries caches) terms) (new : Runner S)
      (same : new ≡ record old { terms = record old.terms { table = mid; caches = caches; out = new.terms.out } })
      (items : new.terms.out.items ≡ old.terms.out.items) where
    untorn : came ≢ WriteFault → ◌≢◌ {A = Result HeldTerm TableError} (Err came) (Err WriteFault)
    untorn whole is = whole (same_error is)

    refused_owns : came ≢ WriteFault → OwnsTerms (record old { terms = record old.terms { table = mid; caches = caches } }) (owners old)
    refused_owns whole =
        let over = runner.over in
        let more = (went_on {T = HeldTerm} old.terms.table mid (Err came) found.steps.leaves (untorn whole)).sound in
        record {
          over = over_after old.formula.now old.terms.table mid (all_entries old.terms.caches) (all_entries caches) over more
              found.steps.extends (found.fits (untorn whole));
          within = within_after old.formula.now old.limits old.terms.table old.terms.caches (all_entries old.terms.caches) over runner.within
              mid caches (went_on {T = HeldTerm} old.terms.table mid (Err came) found.steps.leaves (untorn whole)) found.sizes;
          proved = λ held among. proved_kept growth old.terms.table mid over.sound found.steps.extends held (runner.proved held among);
          units = no_fault whole (owners old ++ refusals_of old) runner.units;
          refusals = λ id there. refusal_kept old.terms.table.graph mid.graph old.terms.table.book.state.live mid.book.state.live
              found.steps.extends.nodes.order found.steps.extends.clauses id (runner.refusals id there);
          kept = runner.kept;
          refuted = runner.refuted;
          unrefuted = λ none id above empty. runner.unrefuted none id (omega (arith, above, found.steps.extends.inputs))
              ((found.no_empty (untorn whole) tt).each id empty);
        }

    goes_on_refused : came ≢ WriteFault → IsRunner new
    goes_on_refused whole =
        let out = new.terms.out in
        subst (λ (r : Runner S). IsRunner r) (sym same)
        (subst (λ (list : List HeldTerm). OwnsTerms (record old { terms = record old.terms { table = mid; caches = caches; out = out } })
        (list ++ option_to_list old.kept)) (sym items)
        (let own = refused_owns whole in record {
          over = own.over;
          within = own.within;
          proved = own.proved;
          units = own.units;
          refusals = own.refusals;
          kept = own.kept;
          refuted = own.refuted;
          unrefuted = own.unrefuted;
        }))

    same_table : new.terms.table ≡ mid
    same_table = ap (λ (r : Runner S). r.terms.table) same

    pub gives_none : (end : Result Term TableError) → end ≡ Err came → Gives function holds operands old new end
    gives_none end is = subst (λ (r : Result Term TableError). Gives function holds operands old new r) (sym is) (record {
      goes_on = λ whole. goes_on_refused (λ torn. whole (ap Err torn));
      term = tt;
      listed = tt;
      refused = λ whole failed. items;
      refutes = tt;
      unrefuted = λ whole some. ap (λ (r : Runner S). r.refuted) same;
      same = record {
        formula = ap (λ (r : Runner S). r.formula) same;
        limits = ap (λ (r : Runner S). r.limits) same;
        kept = ap (λ (r : Runner S). r.kept) same;
        refusals = ap (λ (r : Runner S). r.refusals) same;
        sizes = ap (λ (r : Runner S). sizes r.terms.caches) same ∙ found.sizes;
        origin = ap (λ (t : TableState S). t.book.origin) same_table ∙ origin_left old.terms.table mid (Some came) found.steps.leaves;
      };
      left = ap (λ (r : Runner S). r.terms.left) same;
      leaves = subst (λ (t : TableState S). Leaves old.terms.table t (Some came)) (sym same_table) found.steps.leaves;
      nodes = subst (λ (t : TableState S). KeepsNodes old.terms.table.graph t.graph) (sym same_table) found.steps.extends.nodes;
      adds = subst (λ (t : TableState S). AddsAtMost (most_additions (length old.terms.table.graph.order) + 1) old.terms.table t)
          (sym same_table) found.steps.adds;
      pairs = λ width room few all. subst (λ (t : TableState S). AddsAtMost (2 * (width * width) + 1) old.terms.table t) (sym same_table)
          (found.pairs width room few all);
      made = subst (λ (t : TableState S). MakesOnly old.terms.table.graph t.graph function) (sym same_table) (of_only _ _ _ found.made);
      lacks = λ limit. subst (λ (t : TableState S). LacksPart t.graph function) (sym same_table)
          (lacks_part _ _ (found.lacks (ap Err (same_error limit))));
    })

  -- it was, with a unit of its own
  module _ (term : Term)
      (found : Finds (IsSubfunction function) function holds operands old.terms.table mid old.terms.caches caches (Ok term.held))
      (own : GivesUnit old.terms.table mid (all_entries old.terms.caches) (all_entries caches) [] term.held.unit) (new : Runner S)
      (same : new ≡ record old { terms = record old.terms { table = mid; caches = caches; out = new.terms.out }; refuted = new.refuted })
      (listed : IsListed old.terms.out.items new.terms.out.items term.held)
      (refutes : term.held.node ≡ False → IsTrue new.refuted) (unrefuted : term.held.node ≢ False → new.refuted ≡ old.refuted) where
    more : IsSound mid
    more = found.steps.leaves.sound

    units_with : HasUnits mid (all_entries caches) (term.held ∷ (owners old ++ refusals_of old))
    units_with = units_replaced steps old.terms.table mid mid (all_entries old.terms.caches) (all_entries caches) []
        (owners old ++ refusals_of old) term.held
        runner.over.sound more found.steps.extends runner.units own (none_retired mid term.held.unit)

    -- those that own a clause are as before, and this one where it isn't True
    record IsNewList (list : List HeldTerm) : Type 0 where
      pub units : HasUnits mid (all_entries caches) (list ++ refusals_of old)
      pub from : (one : HeldTerm) → Contains list one → (term.held ≡ one) ⊎ Contains (owners old) one
      pub still : (one : HeldTerm) → Contains (owners old) one → Contains list one
      pub this : term.held.node ≡ False → Contains list term.held

    new_list : (items : List HeldTerm) → IsListed old.terms.out.items items term.held → IsNewList (items ++ option_to_list old.kept)
    new_list items listed = elim listed [
      | inl is ↦ subst (λ (list : List HeldTerm). IsNewList (list ++ option_to_list old.kept)) (sym is.1) (record {
        units = units_of_rest mid (all_entries caches) term.held (owners old ++ refusals_of old) (ap (λ (h : HeldTerm). h.unit) is.0)
            units_with;
        from = λ one among. inr among;
        still = λ one among. among;
        this = λ none. absurd (let e : True ≡ False = sym (ap (λ (h : HeldTerm). h.node) is.0) ∙ none in cc);
      })
      | inr is ↦
          let behind = option_to_list old.kept in
          subst IsNewList (sym (ap (λ (list : List HeldTerm). list ++ behind) is.1 ∙ append_assoc old.terms.out.items (term.held ∷ []) behind))
          (record {
            units = back_of mid (all_entries caches) old.terms.out.items behind (refusals_of old) term.held units_with;
            from = which_among old.terms.out.items behind term.held;
            still = among_others old.terms.out.items behind term.held;
            this = λ none. among_here old.terms.out.items behind term.held;
          })
    ]

    abbrev owned : List HeldTerm
    owned = new.terms.out.items ++ option_to_list old.kept

    now : IsNewList owned
    now = new_list new.terms.out.items listed

    owns : OwnsTerms (record old { terms = record old.terms { table = mid; caches = caches; out = new.terms.out }; refuted = new.refuted })
        owned
    owns = record {
      over = over_after old.formula.now old.terms.table mid (all_entries old.terms.caches) (all_entries caches) runner.over more
          found.steps.extends (found.fits no_error);
      within = within_after old.formula.now old.limits old.terms.table old.terms.caches (all_entries old.terms.caches) runner.over runner.within
          mid caches found.steps.leaves found.sizes;
      proved = λ one among. elim (now.from one among) [
        | inl is ↦ subst (λ (h : HeldTerm). IsProved mid.graph mid.book.state.live h) is
            (record { stands = found.term.stands; unit = found.term.proved })
        | inr was ↦ proved_kept growth old.terms.table mid runner.over.sound found.steps.extends one (runner.proved one was)
      ];
      units = now.units;
      refusals = λ id there. refusal_kept old.terms.table.graph mid.graph old.terms.table.book.state.live mid.book.state.live
          found.steps.extends.nodes.order found.steps.extends.clauses id (runner.refusals id there);
      kept = runner.kept;
      refuted = λ is. elim (false_or term.held.node) [
        | inl none ↦ record { held = term.held; among = now.this none; is_false = none }
        | inr some ↦ more_false (owners old) owned now.still (runner.refuted (sym (unrefuted some) ∙ is))
      ];
      unrefuted = λ no id above empty. elim (false_or term.held.node) [
        | inl none ↦ absurd (let e : true ≡ false = sym (refutes none) ∙ no in cc)
        | inr some ↦ runner.unrefuted (sym (unrefuted some) ∙ no) id (omega (arith, above, found.steps.extends.inputs))
            ((found.no_empty no_error some).each id empty)
      ];
    }

    here : new.terms.table ≡ mid
    here = ap (λ (r : Runner S). r.terms.table) same

    pub gives_one : Gives function holds operands old new (Ok term)
    gives_one = record {
      goes_on = λ whole. subst (λ (r : Runner S). IsRunner r) (sym same) owns;
      term = subst (λ (t : TableState S). IsTerm t.graph t.book.state.live holds term.held.node term.held.unit) (sym here) found.term;
      listed = listed;
      refused = λ whole failed. absurd (let e : false ≡ true = failed in cc);
      refutes = refutes;
      unrefuted = λ whole some. unrefuted some;
      same = record {
        formula = ap (λ (r : Runner S). r.formula) same;
        limits = ap (λ (r : Runner S). r.limits) same;
        kept = ap (λ (r : Runner S). r.kept) same;
        refusals = ap (λ (r : Runner S). r.refusals) same;
        sizes = ap (λ (r : Runner S). sizes r.terms.caches) same ∙ found.sizes;
        origin = ap (λ (t : TableState S). t.book.origin) here ∙ told_origin found.steps.leaves.told;
      };
      left = ap (λ (r : Runner S). r.terms.left) same;
      leaves = subst (λ (t : TableState S). Continues old.terms.table t) (sym here) found.steps.leaves;
      nodes = subst (λ (t : TableState S). KeepsNodes old.terms.table.graph t.graph) (sym here) found.steps.extends.nodes;
      adds = subst (λ (t : TableState S). AddsAtMost (most_additions (length old.terms.table.graph.order) + 1) old.terms.table t)
          (sym here) found.steps.adds;
      pairs = λ width room few all. subst (λ (t : TableState S). AddsAtMost (2 * (width * width) + 1) old.terms.table t) (sym here)
          (found.pairs width room few all);
      made = subst (λ (t : TableState S). MakesOnly old.terms.table.graph t.graph function) (sym here) (of_only _ _ _ found.made);
      lacks = λ limit. absurd (no_error limit);
    }

-- there is no room for it
pub nothing_found : {S : Type 0} (steps : StepByStep S) (law : Subfunctions) (function : Levels → Bool) (holds : Assignment → Bool)
    (operands : List HeldTerm) (table : TableState S) (caches : Caches) → IsSound table → Fits table (all_entries caches)
    → Finds (IsSubfunction function) function holds operands table table caches caches (Err OutOfMemory)
nothing_found steps law function holds operands table caches sound fits = record {
  term = tt;
  gives = tt;
  steps = steps.anyhow table table (most_additions (length table.graph.order) + 1) (Some OutOfMemory)
      (steps.at_most table table 0 (most_additions (length table.graph.order) + 1) (Some OutOfMemory) (omega arith)
      (steps.no_memory table sound));
  no_empty = λ whole some. no_change table;
  fits = λ whole. fits;
  again = λ limit stack has. has;
  made = only_of _ _ _ (law.none_made table.graph function);
  lacks = λ limit. absurd (let e : OutOfMemory ≡ NodeLimit = same_error limit in cc);
  pairs = λ width room few all. omega arith;
  sizes = refl;
}

-- The clauses that a call retired are deleted: those that own one own it yet.
module _ {S : Type 0} (mid : Runner S) (new : TableState S) (nodes : new.graph ≡ mid.terms.table.graph) where
  module _ (fitting : Fitting S) (done : new ≡ record mid.terms.table { book = new.book; retired = [] })
      (gone : (id : ℕ) → Contains mid.terms.table.retired id → clause_at new.book.state.live id ≡ None)
      (stay : (id : ℕ) → (Contains mid.terms.table.retired id → ⊥) → clause_at new.book.state.live id
      ≡ clause_at mid.terms.table.book.state.live id)
      (continues : Continues mid.terms.table new) where
    none : new.retired ≡ []
    none = ap (λ (t : TableState S). t.retired) done

    inputs : new.inputs ≡ mid.terms.table.inputs
    inputs = ap (λ (t : TableState S). t.inputs) done

    -- a clause that is live isn't retired
    live_yet : (id : ℕ) → clause_at new.book.state.live id ≡ Some [] → Contains mid.terms.table.retired id → ⊥
    live_yet id empty there = let e : None ≡ Some [] = sym (gone id there) ∙ empty in cc

    among_owners : (list : List HeldTerm) (held : HeldTerm) → Contains list held → Contains (list ++ refusals_of mid) held
    among_owners list held among = Contains-append_left list (refusals_of mid) held among

    -- the unit of one that owns it is not retired
    pub proved_still : (list : List HeldTerm) → OwnsTerms mid list → (held : HeldTerm) → Contains list held
        → IsProved new.graph new.book.state.live held
    proved_still list runner held among =
        let is = runner.proved held among in
        subst (λ (graph : Graph). IsProved graph new.book.state.live held) (sym nodes) (record {
          stands = is.stands;
          unit = unit_settled mid.formula.now mid.terms.table new (all_entries mid.terms.caches) nodes none stay
              (atom_of mid.terms.table.graph held.node) held.unit is.unit (λ id named there. runner.units.own held (among_owners list held
              among) id named (inl there));
        })

    pub owns_still : (list : List HeldTerm) → OwnsTerms mid list → OwnsTerms (record mid { terms = record mid.terms { table = new } }) list
    owns_still list runner = record {
      over = over_settled mid.formula.now mid.terms.table new (all_entries mid.terms.caches) nodes none stay fitting inputs
          continues.sound runner.over;
      within = within_after mid.formula.now mid.limits mid.terms.table mid.terms.caches (all_entries mid.terms.caches) runner.over
          runner.within new mid.terms.caches continues refl;
      proved = proved_still list runner;
      units = units_settled mid.terms.table new (all_entries mid.terms.caches) (list ++ refusals_of mid) nodes inputs none gone stay
          runner.units;
      refusals = λ id there. refusal_stays mid.terms.table.graph new.graph mid.terms.table.book.state.live new.book.state.live
          (ap (λ (graph : Graph). graph.order) nodes) id
          (stay id (λ retired. runner.units.own (refusal_of id) (Contains-append_right list (refusals_of mid) (refusal_of id)
          (owner_of mid.refusals.items id there)) id refl (inl retired))) (runner.refusals id there);
      kept = runner.kept;
      refuted = runner.refuted;
      unrefuted = λ no id above empty. runner.unrefuted no id (omega (arith, above, inputs)) (sym (stay id (live_yet id empty)) ∙ empty);
    }

-- The clauses that a call retired are deleted. However that ends, nodes and numbers are as they were.
module _ {S : Type 0} (function : Levels → Bool) (holds : Assignment → Bool) (operands : List HeldTerm) (old mid : Runner S)
    (new : TableState S) (r : Result Term TableError) (own : Gives function holds operands old mid r) (nodes : new.graph
    ≡ mid.terms.table.graph) (top : new.book.state.top ≡ mid.terms.table.book.state.top) where
  adds_still : AddsAtMost (most_additions (length old.terms.table.graph.order) + 1) old.terms.table new
  adds_still = let few = own.adds in omega (arith, few, top, ap defining_clauses nodes)

  -- a write failed
  pub torn_behind : (end : Result Term TableError) → end ≡ Err WriteFault → Leaves old.terms.table new (Some WriteFault)
      → Gives function holds operands old (record mid { terms = record mid.terms { table = new } }) end
  torn_behind end is leaves = subst (λ (e : Result Term TableError). Gives function holds operands old
      (record mid { terms = record mid.terms { table = new } }) e) (sym is) (record {
        goes_on = λ whole. absurd (whole refl);
        term = tt;
        listed = tt;
        refused = λ whole failed. absurd (whole refl);
        refutes = tt;
        unrefuted = λ whole some. absurd (whole refl);
        same = record {
          formula = own.same.formula;
          limits = own.same.limits;
          kept = own.same.kept;
          refusals = own.same.refusals;
          sizes = own.same.sizes;
          origin = origin_left old.terms.table new (Some WriteFault) leaves;
        };
        left = own.left;
        leaves = leaves;
        nodes = subst (KeepsNodes old.terms.table.graph) (sym nodes) own.nodes;
        adds = adds_still;
        pairs = λ width room few all. let one = own.pairs width room few all in omega (arith, one, top, ap defining_clauses nodes);
        made = subst (λ (graph : Graph). MakesOnly old.terms.table.graph graph function) (sym nodes) own.made;
        lacks = λ limit. absurd (no_nodes_left (sym (same_error limit)));
      })

  module _ (fitting : Fitting S) (done : new ≡ record mid.terms.table { book = new.book; retired = [] })
      (gone : (id : ℕ) → Contains mid.terms.table.retired id → clause_at new.book.state.live id ≡ None)
      (stay : (id : ℕ) → (Contains mid.terms.table.retired id → ⊥) → clause_at new.book.state.live id
      ≡ clause_at mid.terms.table.book.state.live id)
      (continues : Continues mid.terms.table new) where
    owns_now : (list : List HeldTerm) → OwnsTerms mid list → OwnsTerms (record mid { terms = record mid.terms { table = new } }) list
    owns_now = owns_still mid new nodes fitting done gone stay continues

    none_left : new.retired ≡ []
    none_left = ap (λ (t : TableState S). t.retired) done

    -- the new term is among those that own a clause, or has none
    term_still : (list : List HeldTerm) → OwnsTerms mid list → (held : HeldTerm) → (held ≡ true_term) ⊎ Contains list held
        → IsTerm mid.terms.table.graph mid.terms.table.book.state.live holds held.node held.unit
        → IsTerm new.graph new.book.state.live holds held.node held.unit
    term_still list runner held listed is =
        subst (λ (graph : Graph). IsTerm graph new.book.state.live holds held.node held.unit) (sym nodes) (record {
          stands = is.stands;
          value = is.value;
          proved = unit_settled mid.formula.now mid.terms.table new (all_entries mid.terms.caches) nodes none_left stay
              (atom_of mid.terms.table.graph held.node) held.unit is.proved
              (λ id named there. elim listed [
                | inl none_own ↦ absurd (let e : Trivial ≡ Clause id = sym (ap (λ (h : HeldTerm). h.unit) none_own) ∙ named in cc)
                | inr among ↦ runner.units.own held (Contains-append_left list (refusals_of mid) held among) id named (inl there)
              ]);
        })

    -- what was listed owns its clause, or has none
    good_of : (held : HeldTerm) → IsListed old.terms.out.items mid.terms.out.items held → (held ≡ true_term) ⊎ Contains (owners mid) held
    good_of held listed = elim listed [
      | inl is ↦ inl is.0
      | inr is ↦ inr (subst (λ (items : List HeldTerm). Contains (items ++ option_to_list mid.kept) held) (sym is.1)
          (subst (λ (list : List HeldTerm). Contains list held)
          (sym (append_assoc old.terms.out.items (held ∷ []) (option_to_list mid.kept)))
          (among_here old.terms.out.items (option_to_list mid.kept) held)))
    ]

    term_of : (end : Result Term TableError) → (end ≢ Err WriteFault → IsRunner mid)
        → IfOk end (λ term. IsTerm mid.terms.table.graph mid.terms.table.book.state.live holds term.held.node term.held.unit)
        → IfOk end (λ term. IsListed old.terms.out.items mid.terms.out.items term.held)
        → IfOk end (λ term. IsTerm new.graph new.book.state.live holds term.held.node term.held.unit)
    term_of (Err e) runner is listed = tt
    term_of (Ok term) runner is listed = term_still (owners mid) (runner no_error) term.held (good_of term.held listed) is

    pub gives_still : Leaves old.terms.table new (error_of r)
        → Gives function holds operands old (record mid { terms = record mid.terms { table = new } }) r
    gives_still leaves = record {
      goes_on = λ whole. owns_now (owners mid) (own.goes_on whole);
      term = term_of r own.goes_on own.term own.listed;
      listed = own.listed;
      refused = own.refused;
      refutes = own.refutes;
      unrefuted = own.unrefuted;
      same = record {
        formula = own.same.formula;
        limits = own.same.limits;
        kept = own.same.kept;
        refusals = own.same.refusals;
        sizes = own.same.sizes;
        origin = origin_left old.terms.table new (error_of r) leaves;
      };
      left = own.left;
      leaves = leaves;
      nodes = subst (KeepsNodes old.terms.table.graph) (sym nodes) own.nodes;
      adds = adds_still;
      pairs = λ width room few all. let one = own.pairs width room few all in omega (arith, one, top, ap defining_clauses nodes);
      made = subst (λ (graph : Graph). MakesOnly old.terms.table.graph graph function) (sym nodes) own.made;
      lacks = λ limit. subst (λ (graph : Graph). LacksPart graph function) (sym nodes) (own.lacks limit);
    }

-- A call that came to its end, or to the limit of nodes, and one behind it that keeps the nodes.
no_fault_here : {T : Type 0} (r : Result T TableError) → (error_of r ≡ None) ⊎ (error_of r ≡ Some NodeLimit) → r ≡ Err WriteFault → ⊥
no_fault_here r ended torn = elim ended [
  | inl none ↦ absurd (let e : None ≡ Some WriteFault = sym none ∙ ap error_of torn in cc)
  | inr limit ↦ absurd (let e : Some NodeLimit ≡ Some WriteFault = sym limit ∙ ap error_of torn in cc)
]

pub ended_whole : {T : Type 0} (r : Result T TableError) → (error_of r ≡ None) ⊎ (error_of r ≡ Some NodeLimit) → r ≢ Err WriteFault
ended_whole r ended = no_fault_here r ended

pub went_so_far : {S T : Type 0} (old mid : TableState S) (r : Result T TableError) → (error_of r ≡ None) ⊎ (error_of r ≡ Some NodeLimit)
    → Leaves old mid (error_of r) → Continues old mid
went_so_far old mid r ended leaves = went_on old mid r leaves (no_fault_here r ended)

pub leaves_ended : {S T : Type 0} → StepByStep S → (old mid new : TableState S) (r : Result T TableError)
    → (error_of r ≡ None) ⊎ (error_of r ≡ Some NodeLimit) → Leaves old mid (error_of r) → Continues mid new → new.graph ≡ mid.graph
    → Leaves old new (error_of r)
leaves_ended steps old mid new r ended leaves more nodes = elim ended [
  | inl none ↦ subst (λ (e : Option TableError). Leaves old new e) (sym none)
      (steps.go_on old mid new (subst (λ (e : Option TableError). Leaves old mid e) none leaves) more)
  | inr limit ↦
      let was = subst (λ (e : Option TableError). Leaves old mid e) limit leaves in
      subst (λ (e : Option TableError). Leaves old new e) (sym limit) (
        steps.go_on old mid new was.0 more,
        omega (arith, was.1, more.max_nodes, ap live_nodes nodes),
      )
]
