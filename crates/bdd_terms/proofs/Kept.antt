-- A reclamation keeps the terms that are out: their nodes are its roots.
use Rattle.std.proofs.Common.{◌≡◌, ◌⊎◌, ◌++◌, ℕ, zero, suc, true, [], Contains, Option, None, Some, refl, sym, ap, subst, Ok, Err, Result}
use Rattle.std.proofs.Common.{arith, inl, inr}
use Rattle.std.specs.Prelude.{◌≢◌, IfErr, OnOk}
use Rattle.std.specs.Option.{option_to_list}
use Rattle.std.proofs.lemmas.List.Elements.{Contains-append_cases, Contains-append_left, Contains-append_right}
use Rattle.node_table.specs.declared.error.TableError.{TableError}
use Rattle.node_table.specs.declared.error.TableError.TheVariants.{OutOfMemory, WriteFault}
use Rattle.node_table.specs.declared.node.Node.{Node}
use Rattle.node_table.specs.declared.node.Node.TheVariants.{False, True}
use Rattle.node_table.specs.Diagram.{is_node}
use Rattle.node_table.specs.Laws.{Growth, Reachability}
use Rattle.node_table.specs.Progress.{Continues, Leaves, error_of}
use Rattle.node_table.specs.Table.{TableState}
use Rattle.clause_terms.specs.Term.{IsTerm}
use Rattle.reclaim.specs.Reclaimed.{MayReclaim, Reclaims}
use Rattle.bdd_terms.specs.declared.caches.Caches.{Caches}
use Rattle.bdd_terms.specs.declared.held.HeldTerm.{HeldTerm}
use Rattle.bdd_terms.specs.declared.runner.Runner.{Runner}
use Rattle.bdd_terms.specs.Caches.{all_entries, sizes}
use Rattle.bdd_terms.specs.Finds.{IsProved}
use Rattle.bdd_terms.specs.Runner.{IsGood, IsRunner, holds_in, nodes_of, owners, refusal_of, refusals_of, true_term}
use Rattle.bdd_terms.specs.Tidy.{LeavesReached}
use Rattle.bdd_terms.proofs.Given.{true_unit}
use Rattle.bdd_terms.proofs.Refusals.{owner_of, refusal_stays}
use Rattle.bdd_terms.proofs.Reclaimed.{in_map, leaves_reached, may_reclaim_owned, of_map, over_reclaimed, proved_stays, units_reclaimed}
use Rattle.bdd_terms.proofs.WithinLimits.{within_after}

of_option : (kept : Option HeldTerm) (held : HeldTerm) → Contains (option_to_list kept) held → kept ≡ Some held
of_option None held there = absurd (omega (arith, there.1))
of_option (Some one) held (zero, small, at) = ap Some at
of_option (Some one) held (suc k, small, at) = absurd (omega (arith, small))

module _ {S : Type 0} (runner : Runner S) (is : IsRunner runner) where
  -- one that owns a clause is out, or it is False
  pub root_of : (held : HeldTerm) → Contains (owners runner) held → (held.node ≡ False) ⊎ Contains (nodes_of runner.terms.out.items) held.node
  root_of held among = elim (Contains-append_cases runner.terms.out.items (option_to_list runner.kept) held among) [
    | inl out ↦ inr (in_map (λ (h : HeldTerm). h.node) runner.terms.out.items held out)
    | inr last ↦ inl (is.kept held (of_option runner.kept held last))
  ]

  pub roots_stood : (root : Node) → Contains (nodes_of runner.terms.out.items) root → is_node runner.terms.table.graph root ≡ true
  roots_stood root there =
      let was = of_map (λ (h : HeldTerm). h.node) runner.terms.out.items root there in
      subst (λ (node : Node). is_node runner.terms.table.graph node ≡ true) was.2
      (is.proved was.0 (Contains-append_left runner.terms.out.items (option_to_list runner.kept) was.0 was.1)).stands

  pub terms_may_reclaim : MayReclaim runner.terms.table (all_entries runner.terms.caches) (nodes_of runner.terms.out.items)
  terms_may_reclaim = may_reclaim_owned runner.terms.table (all_entries runner.terms.caches) (owners runner) runner.refusals.items
      (nodes_of runner.terms.out.items) is.over.sound.tied.reduced is.units is.refusals is.proved root_of

  among_owners : (held : HeldTerm) → Contains (owners runner) held → Contains (owners runner ++ refusals_of runner) held
  among_owners held among = Contains-append_left (owners runner) (refusals_of runner) held among

  among_refusals : (id : ℕ) → Contains runner.refusals.items id → Contains (owners runner ++ refusals_of runner) (refusal_of id)
  among_refusals id there = Contains-append_right (owners runner) (refusals_of runner) (refusal_of id) (owner_of runner.refusals.items id
      there)

  module _ (growth : Growth) (new : TableState S) (caches : Caches) (more : Continues runner.terms.table new)
      (same : sizes caches ≡ sizes runner.terms.caches)
      (reclaims : Reclaims runner.terms.table new (nodes_of runner.terms.out.items) (all_entries runner.terms.caches) (all_entries caches)) where
    pub runner_reclaimed : IsRunner (record runner { terms = record runner.terms { table = new; caches = caches } })
    runner_reclaimed = record {
      over = over_reclaimed runner.formula.now runner.terms.table new (nodes_of runner.terms.out.items) (all_entries runner.terms.caches)
          (all_entries caches) more.sound reclaims is.over;
      within = within_after runner.formula.now runner.limits runner.terms.table runner.terms.caches (all_entries runner.terms.caches) is.over
          is.within new caches more same;
      proved = λ held among. proved_stays growth runner.terms.table new (nodes_of runner.terms.out.items)
          (all_entries runner.terms.caches) (all_entries caches) more.sound reclaims held (root_of held among)
          (λ id named. reclaims.kept id (is.units.added id (record { held = held; stacked = among_owners held among; unit = named }))
          (is.units.own held (among_owners held among) id named)) (is.proved held among);
      units = units_reclaimed runner.terms.table new (nodes_of runner.terms.out.items) (all_entries runner.terms.caches) (all_entries caches)
          reclaims (owners runner ++ refusals_of runner) is.units;
      refusals = λ id there. refusal_stays runner.terms.table.graph new.graph runner.terms.table.book.state.live new.book.state.live
          reclaims.order id (reclaims.kept id (is.units.added id (record {
            held = refusal_of id;
            stacked = among_refusals id there;
            unit =
                refl;
          }))
          (is.units.own (refusal_of id) (among_refusals id there) id refl)) (is.refusals id there);
      kept = is.kept;
      refuted = is.refuted;
      unrefuted = λ no id above empty. is.unrefuted no id (omega (arith, above, reclaims.inputs)) (reclaims.clauses id [] empty);
    }

    pub reached_terms : Reachability → LeavesReached runner.terms.table.graph new.graph (nodes_of runner.terms.out.items)
    reached_terms reach = leaves_reached growth runner.terms.table new (nodes_of runner.terms.out.items) (all_entries runner.terms.caches)
        (all_entries caches) more.sound reclaims reach roots_stood

-- However a reclamation ends, unless a write failed: want of memory changes nothing.
module _ {S : Type 0} (growth : Growth) (runner : Runner S) (is : IsRunner runner) (new : TableState S) (caches : Caches)
    (same : sizes caches ≡ sizes runner.terms.caches) where
  abbrev pub BothChanged : Runner S
  BothChanged = record runner { terms = record runner.terms { table = new; caches = caches } }

  unchanged : (new ≡ runner.terms.table) × (caches ≡ runner.terms.caches) → IsRunner BothChanged
  unchanged both = subst (λ (t : TableState S). IsRunner (record runner { terms = record runner.terms { table = t; caches = caches } }))
      (sym both.0)
      (subst (λ (c : Caches). IsRunner (record runner { terms = record runner.terms { table = runner.terms.table; caches = c } }))
      (sym both.1) is)

  pub reclaimed_or_not : (r : Result ℕ TableError)
      → OnOk r (Reclaims runner.terms.table new (nodes_of runner.terms.out.items) (all_entries runner.terms.caches) (all_entries caches))
      → Leaves runner.terms.table new (error_of r)
      → (r ≡ Err OutOfMemory → (new ≡ runner.terms.table) × (caches ≡ runner.terms.caches))
      → IfErr r (λ e. (e ≡ OutOfMemory) ⊎ (e ≡ WriteFault)) → r ≢ Err WriteFault → IsRunner BothChanged
  reclaimed_or_not (Ok count) reclaims leaves memory error whole = runner_reclaimed runner is growth new caches leaves same reclaims
  reclaimed_or_not (Err e) reclaims leaves memory error whole = elim error [
    | inl none_left ↦ unchanged (memory (ap Err none_left))
    | inr torn ↦ absurd (whole (ap Err torn))
  ]

  pub reached_or_not : Reachability → (r : Result ℕ TableError)
      → OnOk r (Reclaims runner.terms.table new (nodes_of runner.terms.out.items) (all_entries runner.terms.caches) (all_entries caches))
      → Leaves runner.terms.table new (error_of r)
      → OnOk r (LeavesReached runner.terms.table.graph new.graph (nodes_of runner.terms.out.items))
  reached_or_not reach (Ok count) reclaims leaves = reached_terms runner is growth new caches leaves same reclaims reach
  reached_or_not reach (Err e) reclaims leaves = tt

-- a term that a call may take is proved
pub good_proved : {S : Type 0} (runner : Runner S) → IsRunner runner → (held : HeldTerm) → IsGood runner held
    → IsProved runner.terms.table.graph runner.terms.table.book.state.live held
good_proved {S} runner is held good = elim good [
  | inl true_one ↦ subst (λ (h : HeldTerm). IsProved runner.terms.table.graph runner.terms.table.book.state.live h) (sym true_one)
      (record { stands = refl; unit = refl })
  | inr out ↦ is.proved held (Contains-append_left runner.terms.out.items (option_to_list runner.kept) held out)
]

pub good_term : {S : Type 0} (runner : Runner S) → IsRunner runner → (held : HeldTerm) → IsGood runner held
    → IsTerm runner.terms.table.graph runner.terms.table.book.state.live (holds_in runner held) held.node held.unit
good_term runner is held good =
    let proved = good_proved runner is held good in
    record { stands = proved.stands; value = λ a. refl; proved = proved.unit }

-- it is True, or it is out
pub good_true : {S : Type 0} (runner : Runner S) → IsRunner runner → (held : HeldTerm) → IsGood runner held → held.node ≡ True
    → held ≡ true_term
good_true runner is held good same =
    let proved = good_proved runner is held good in
    λ k. record { node = same k; unit = true_unit runner.terms.table held.node held.unit same proved.unit k }
