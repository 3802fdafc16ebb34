-- A runner behind a call that adds one clause, and retires or keeps it, or that is refused.
use Rattle.std.proofs.Common.{◌≡◌, ◌≢◌, ◌∙◌, ◌<◌, ◌≤◌, ◌+◌, ◌++◌, ℕ, zero, suc, true, false, ℤ, List, [], ◌∷◌, map, Contains}
use Rattle.std.proofs.Common.{None, Some, Result, Ok, Err, refl, sym, ap, subst, arith, inl, inr}
use Rattle.std.specs.Option.{option_to_list}
use Rattle.std.proofs.lemmas.List.{append-nil, append_assoc, map-append}
use Rattle.std.proofs.lemmas.List.Elements.{Contains-append_left, Contains-append_right, Contains-append_cases}
use Rattle.clause_ledger.specs.Book.{with_next}
use Rattle.cnf_base.specs.Cube.{cube_holds, forbidding}
use Rattle.cnf_base.specs.Truth.{Assignment}
use Rattle.lrat_rules.specs.Conservative.{IsAddedBy}
use Rattle.lrat_rules.specs.State.{State, clause_at}
use Rattle.node_table.specs.declared.error.TableError.{TableError}
use Rattle.node_table.specs.declared.error.TableError.TheVariants.{IdLimit, NodeLimit, OutOfMemory, WriteFault}
use Rattle.node_table.specs.declared.node.Justification.TheVariants.{Clause, Trivial}
use Rattle.node_table.specs.declared.node.Node.TheVariants.{False, True}
use Rattle.node_table.specs.Diagram.{Graph, levels}
use Rattle.node_table.specs.HandedOn.{no_error, same_error}
use Rattle.node_table.specs.Laws.{Growth, StepByStep}
use Rattle.node_table.specs.Progress.{Continues, Steps, StepsOrRefutes}
use Rattle.node_table.specs.Table.{AddsNoEmpty, AddsNone, Extends, IsAddedTo, IsSame, TableState, defining_clauses}
use Rattle.node_table.specs.Tied.{IsUpTo}
use Rattle.operations.specs.Entries.{Entry, Fits, Fitting}
use Rattle.bdd_terms.specs.declared.held.HeldTerm.{HeldTerm}
use Rattle.bdd_terms.specs.declared.runner.Runner.{Runner}
use Rattle.bdd_terms.specs.Caches.{all_entries}
use Rattle.bdd_terms.specs.Derived.{Derives, Refuses}
use Rattle.bdd_terms.specs.Finds.{IsProved}
use Rattle.bdd_terms.specs.Units.{HasUnits, RetiresBut}
use Rattle.bdd_terms.specs.Runner.{IsGood, IsRefusal, IsRunner, holds_in, owners, refusal_of, refusals_of}
use Rattle.bdd_terms.proofs.Given.{proved_kept}
use Rattle.bdd_terms.proofs.Giving.{new_gives, none_added, units_behind}
use Rattle.bdd_terms.proofs.Leaving.{origin_left, went_on}
use Rattle.bdd_terms.proofs.NoEmpty.{further_empty, same_empty}
use Rattle.bdd_terms.proofs.Owners.{units_back, units_less}
use Rattle.bdd_terms.proofs.OwnUnits.{no_clause, same_clause}
use Rattle.bdd_terms.proofs.Proved.{added_alone, added_stands}
use Rattle.bdd_terms.proofs.Refusals.{refusal_kept}
use Rattle.bdd_terms.proofs.Replaced.{none_retired, units_replaced}
use Rattle.bdd_terms.proofs.Resting.{empty_of}
use Rattle.bdd_terms.proofs.SameTerms.{terms_stay}

abbrev with_table : {S : Type 0} → Runner S → TableState S → Runner S
with_table old table = record old { terms = record old.terms { table = table } }

-- a term of a runner that refuted nothing isn't False
pub not_false : {S : Type 0} (runner : Runner S) → IsRunner runner → (held : HeldTerm) → IsGood runner held → runner.refuted ≡ false
    → held.node ≢ False
not_false runner is held good clean same = elim good [
  | inl true_one ↦ absurd (let e : True ≡ False = sym (ap (λ (h : HeldTerm). h.node) true_one) ∙ same in cc)
  | inr out ↦
      let empty = empty_of runner (owners runner) is held
      (Contains-append_left runner.terms.out.items (option_to_list runner.kept) held out) same in
      is.unrefuted clean empty.id empty.above empty.empty
]

-- the only one of a list
only_one : (x y : ℕ) → Contains (x ∷ []) y → x ≡ y
only_one x y (zero, small, at) = at
only_one x y (suc k, small, at) = absurd (omega (arith, small))

module _ {S : Type 0} (growth : Growth) (laws : StepByStep S) (fitting : Fitting S) (old : Runner S) (runner : IsRunner old) where
  abbrev table : TableState S
  table = old.terms.table

  abbrev entries : List Entry
  entries = all_entries old.terms.caches

  -- The call was refused, which changes nothing unless a write failed.
  module _ (came : TableError) (mid : TableState S) (steps : StepsOrRefutes table mid 1 (Some came)) (nodes : mid.graph ≡ table.graph)
      (unmet : came ≢ NodeLimit) (spent : came ≡ IdLimit → table.book.limit ≤ table.book.state.top)
      (alike : came ≢ WriteFault → IsSame table mid) where
    spent_here : {T : Type 0} → ◌≡◌ {A = Result T TableError} (Err came) (Err IdLimit) → mid.book.limit ≤ mid.book.state.top
    spent_here is =
        let met : came ≡ IdLimit = same_error is in
        subst (λ (t : TableState S). t.book.limit ≤ t.book.state.top)
        (sym (alike (λ torn. let e : IdLimit ≡ WriteFault = sym met ∙ torn in cc))) (spent met)

    still : came ≢ WriteFault → (new : Runner S)
        → new ≡ record old { terms = record old.terms { table = mid }; refusals = new.refusals }
        → new.refusals.items ≡ old.refusals.items → IsRunner new
    still whole new same list =
        let more = went_on {T = ℕ} table mid (Err came) steps.leaves (λ torn. whole (same_error torn)) in
        let retired : mid.retired ≡ table.retired = ap (λ (t : TableState S). t.retired) (alike whole) in
        terms_stay old runner mid more steps.extends (λ no. same_empty table mid (alike whole))
        (fitting.kept table mid entries runner.over.sound more.sound steps.extends runner.over.fits
        (λ id named gone. runner.over.fits.unretired id named (subst (λ (ids : List ℕ). Contains ids id) retired gone)))
        (λ held among. proved_kept growth table mid runner.over.sound steps.extends held (runner.proved held among)) new same
        (subst (λ (ids : List ℕ). HasUnits mid entries (owners old ++ map refusal_of ids)) (sym list)
        (units_behind laws table mid entries entries (owners old ++ refusals_of old) runner.over.sound more.sound steps.extends
        runner.units (record { each = λ id gone. inl (subst (λ (ids : List ℕ). Contains ids id) retired gone) })
        (record { each = λ entry there. inl there })
        (none_added table mid entries runner.over.sound retired
        (subst (λ (t : TableState S). AddsNone table t) (sym (alike whole)) (λ id own. own)))))
        (λ id there. refusal_kept table.graph mid.graph table.book.state.live mid.book.state.live steps.extends.nodes.order
        steps.extends.clauses id (runner.refusals id (subst (λ (ids : List ℕ). Contains ids id) list there)))

    pub derived_none : (clause : List ℤ) (r : Result ℕ TableError) → r ≡ Err came → Derives clause old (with_table old mid) r
    derived_none clause r is = subst (λ (r : Result ℕ TableError). Derives clause old (with_table old mid) r) (sym is) (record {
      stands = tt;
      runner = λ whole. still (λ torn. whole (ap Err torn)) (with_table old mid) refl refl;
      same = refl;
      goes_on = record {
        nodes = nodes;
        keeps = steps.extends.clauses;
        top = let few = steps.adds in omega (arith, few, ap defining_clauses nodes);
        no_limit = λ limit. unmet (same_error limit);
        spent = spent_here;
      };
      origin = origin_left table mid (Some came) steps.leaves;
      leaves = steps.leaves;
    })

    pub refused_none : {T : Type 0} (held : HeldTerm) (cube : List ℤ) (new : Runner S)
        → new ≡ record old { terms = record old.terms { table = mid }; refusals = new.refusals }
        → new.refusals.items ≡ old.refusals.items → (r : Result T TableError) → r ≡ Err came → Refuses held cube old new r
    refused_none {T} held cube new same list r is =
        subst (λ (r : Result T TableError). Refuses held cube old new r) (sym is)
        (subst (λ (x : Runner S). Refuses {T = T} held cube old x (Err came)) (sym same) (record {
          forbids = tt;
          refused = list;
          runner = λ whole. still (λ torn. whole (ap Err torn)) (record old {
            terms = record old.terms { table = mid };
            refusals = new.refusals;
          }) refl list;
          same = refl;
          goes_on = record {
            nodes = nodes;
            keeps = steps.extends.clauses;
            top = let few = steps.adds in omega (arith, few, ap defining_clauses nodes);
            no_limit = λ limit. unmet (same_error limit);
            spent = spent_here;
          };
          origin = origin_left table mid (Some came) steps.leaves;
          leaves = steps.leaves;
        }))

  -- memory ran out before anything was written
  pub refused_before : {T : Type 0} (held : HeldTerm) (cube : List ℤ) (new : Runner S)
      → new ≡ record old { terms = record old.terms { table = table }; refusals = new.refusals }
      → new.refusals.items ≡ old.refusals.items → (r : Result T TableError) → r ≡ Err OutOfMemory → Refuses held cube old new r
  refused_before = refused_none OutOfMemory table
      (laws.anyhow table table 1 (Some OutOfMemory)
      (laws.at_most table table 0 1 (Some OutOfMemory) (omega arith) (laws.no_memory table runner.over.sound))) refl (λ is. cc) (λ is. absurd (let e : OutOfMemory ≡ IdLimit = is in cc)) (λ whole. refl)

  -- The clause was added.
  module _ (id : ℕ) (clause : List ℤ) (mid : TableState S) (steps : StepsOrRefutes table mid 1 None)
      (no_empty : old.refuted ≡ false → AddsNoEmpty table mid)
      (added : (id ≡ table.book.state.top + 1) × (mid.book.state ≡ with_next table.book.state clause)) (own : IsAddedTo mid id)
      (nodes : mid.graph ≡ table.graph) (retired : mid.retired ≡ table.retired) where
    top_is : mid.book.state.top ≡ table.book.state.top + 1
    top_is = ap (λ (s : State). s.top) added.1

    stands : clause_at mid.book.state.live id ≡ Some clause
    stands = added_stands table.book.state mid.book.state clause id added.0 added.1

    fits : Fits mid entries
    fits = fitting.kept table mid entries runner.over.sound steps.leaves.sound steps.extends runner.over.fits
        (λ other named gone. runner.over.fits.unretired other named (subst (λ (ids : List ℕ). Contains ids other) retired gone))

    proved : (held : HeldTerm) → Contains (owners old) held → IsProved mid.graph mid.book.state.live held
    proved held among = proved_kept growth table mid runner.over.sound steps.extends held (runner.proved held among)

    refusals_stand : (other : ℕ) → Contains old.refusals.items other → IsRefusal mid.graph mid.book.state.live other
    refusals_stand other there = refusal_kept table.graph mid.graph table.book.state.live mid.book.state.live steps.extends.nodes.order
        steps.extends.clauses other (runner.refusals other there)

    -- it owns itself, in front of all others
    units : HasUnits mid entries (refusal_of id ∷ (owners old ++ refusals_of old))
    units = units_replaced laws table mid mid entries entries [] (owners old ++ refusals_of old) (refusal_of id) runner.over.sound
        steps.leaves.sound steps.extends runner.units
        (new_gives table mid entries (Clause id) runner.over.sound runner.over.fits steps.leaves.no_less retired
        (added_alone table mid clause nodes steps.extends.inputs added.1 id added.0)
        (λ other is. subst (λ (n : ℕ). (n ≡ mid.book.state.top) × (table.book.state.top < n)) (same_clause id other is) (
          omega (arith, added.0, top_is),
          omega (arith, added.0),
        ))
        (λ other is. subst (λ (n : ℕ). IsAddedTo mid n) (same_clause id other is) own))
        (none_retired mid (Clause id))

    -- it is retired at once
    module _ (new : TableState S) (gone : new ≡ record mid { retired = mid.retired ++ id ∷ [] }) (more : Steps mid new 0 None) where
      retired_is : new.retired ≡ mid.retired ++ id ∷ []
      retired_is = ap (λ (t : TableState S). t.retired) gone

      retires : RetiresBut mid new (Clause id) Trivial
      retires = record {
        same = gone ∙ ap (λ (ids : List ℕ). record mid { retired = ids }) (sym retired_is);
        still = λ other there. subst (λ (ids : List ℕ). Contains ids other) (sym retired_is)
            (Contains-append_left mid.retired (id ∷ []) other there);
        only = λ other there. elim (Contains-append_cases mid.retired (id ∷ []) other
            (subst (λ (ids : List ℕ). Contains ids other) retired_is there)) [
              | inl was ↦ inl was
              | inr last ↦ inr (ap Clause (only_one id other last), no_clause other)
            ];
        gone = λ other is. inl (subst (λ (ids : List ℕ). Contains ids other) (sym retired_is)
            (Contains-append_right mid.retired (id ∷ []) other (zero, omega arith, same_clause id other is)));
      }

      continues : Continues table new
      continues = laws.go_on table mid new steps.leaves more.leaves

      extends : Extends table new
      extends = laws.extend table mid new steps.extends more.extends

      fits_new : Fits new entries
      fits_new = fitting.kept mid new entries steps.leaves.sound more.leaves.sound more.extends fits
          (λ other named there. elim (retires.only other there) [
            | inl was ↦ fits.unretired other named was
            | inr this ↦ units.own (refusal_of id) (zero, omega arith, refl) other this.0 (inr named)
          ])

      runner_new : IsRunner (with_table old new)
      runner_new = terms_stay old runner new continues extends
          (λ no. further_empty table mid new (no_empty no) more.no_empty) fits_new
          (λ held among. proved_kept growth mid new steps.leaves.sound more.extends held (proved held among)) (with_table old new) refl
          (units_less mid new entries (refusal_of id) (owners old ++ refusals_of old) retires units)
          (λ other there. refusal_kept mid.graph new.graph mid.book.state.live new.book.state.live more.extends.nodes.order
          more.extends.clauses other (refusals_stand other there))

      pub derived_one : Derives clause old (with_table old new) (Ok id)
      derived_one = record {
        stands = more.extends.clauses id clause stands;
        runner = λ whole. runner_new;
        same = refl;
        goes_on = record {
          nodes = ap (λ (t : TableState S). t.graph) gone ∙ nodes;
          keeps = extends.clauses;
          top = omega (arith, ap (λ (t : TableState S). t.book.state.top) gone, top_is);
          no_limit = no_error;
          spent = λ is. absurd (no_error is);
        };
        origin = origin_left table new None continues;
        leaves = continues;
      }

    -- it is kept
    module _ (held : HeldTerm) (cube : List ℤ) (is : clause ≡ forbidding cube) (up : IsUpTo (levels table.graph) (forbidding cube))
        (none : (a : Assignment) → holds_in old held a ≡ true → cube_holds a cube ≡ true → ⊥)
        (told : IsAddedBy mid.book.steps (forbidding cube)) (new : Runner S)
        (same : new ≡ record old { terms = record old.terms { table = mid }; refusals = new.refusals })
        (list : new.refusals.items ≡ old.refusals.items ++ id ∷ []) where
      -- behind all others
      units_new : HasUnits mid entries (owners old ++ refusals_of new)
      units_new =
          let all = owners old ++ refusals_of old in
          let last : HasUnits mid entries (all ++ refusal_of id ∷ []) = units_back mid entries all [] (refusal_of id)
          (subst (λ (rest : List HeldTerm). HasUnits mid entries (refusal_of id ∷ rest)) (sym (append-nil all)) units) in
          subst (HasUnits mid entries)
          (append_assoc (owners old) (refusals_of old) (refusal_of id ∷ [])
          ∙ ap (λ (rest : List HeldTerm). owners old ++ rest) (sym (map-append refusal_of old.refusals.items (id ∷ [])))
          ∙ ap (λ (ids : List ℕ). owners old ++ map refusal_of ids) (sym list)) last

      own_refusal : IsRefusal mid.graph mid.book.state.live id
      own_refusal = record {
        clause = forbidding cube;
        stands = stands ∙ ap Some is;
        over = subst (λ (graph : Graph). IsUpTo (levels graph) (forbidding cube)) (sym nodes) up;
      }

      all_stand : (other : ℕ) → Contains new.refusals.items other → IsRefusal mid.graph mid.book.state.live other
      all_stand other there = elim (Contains-append_cases old.refusals.items (id ∷ []) other
          (subst (λ (ids : List ℕ). Contains ids other) list there)) [
            | inl was ↦ refusals_stand other was
            | inr last ↦ subst (IsRefusal mid.graph mid.book.state.live) (only_one id other last) own_refusal
          ]

      runner_kept : IsRunner new
      runner_kept = terms_stay old runner mid steps.leaves steps.extends no_empty fits proved new same units_new all_stand

      pub refused_one : {T : Type 0} (x : T) → Refuses held cube old new (Ok x)
      refused_one {T} x =
          subst (λ (r : Runner S). Refuses {T = T} held cube old r (Ok x)) (sym same) (record {
            forbids = record { none = none; id = id; stands = stands ∙ ap Some is; added = told; kept = list };
            refused = tt;
            runner = λ whole. subst (λ (r : Runner S). IsRunner r) same runner_kept;
            same = refl;
            goes_on = record {
              nodes = nodes;
              keeps = steps.extends.clauses;
              top = omega (arith, top_is);
              no_limit = no_error;
              spent = λ is. absurd (no_error is);
            };
            origin = origin_left table mid None steps.leaves;
            leaves = steps.leaves;
          })
