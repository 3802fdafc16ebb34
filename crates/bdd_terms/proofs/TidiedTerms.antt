-- A reclamation behind a call that gave a term. Where it fails the term is taken back.
use Rattle.std.proofs.Common.{◌≡◌, ◌≢◌, ◌⊎◌, ◌∙◌, ◌++◌, ℕ, Bool, true, false, List, [], ◌∷◌, Contains, Option, None, Some, Ok, Err, refl}
use Rattle.std.proofs.Common.{sym, ap, subst, arith, inl, inr}
use Rattle.std.specs.Prelude.{IsTrue}
use Rattle.std.specs.Option.{option_to_list}
use Rattle.std.proofs.lemmas.Bool.{cases_lt}
use Rattle.std.proofs.lemmas.List.{append_assoc}
use Rattle.std.proofs.lemmas.List.Elements.{Contains-append_cases, Contains-append_left, Contains-append_right}
use Rattle.cnf_base.specs.Truth.{Assignment}
use Rattle.node_table.specs.declared.error.TableError.{TableError}
use Rattle.node_table.specs.declared.error.TableError.TheVariants.{NodeLimit, OutOfMemory, WriteFault}
use Rattle.node_table.specs.declared.node.Justification.{Justification}
use Rattle.node_table.specs.declared.node.Justification.TheVariants.{Clause, Trivial}
use Rattle.node_table.specs.declared.node.Node.TheVariants.{False, True}
use Rattle.node_table.specs.Diagram.{Graph}
use Rattle.node_table.specs.HandedOn.{no_error, same_error}
use Rattle.node_table.specs.Laws.{Canonical, StepByStep}
use Rattle.node_table.specs.Progress.{Continues, Leaves}
use Rattle.node_table.specs.Table.{TableState}
use Rattle.node_table.specs.Value.{Levels, by_level, value_of}
use Rattle.clause_terms.specs.Term.{by_variable}
use Rattle.bdd_terms.specs.declared.held.HeldTerm.{HeldTerm}
use Rattle.bdd_terms.specs.declared.runner.Runner.{Runner}
use Rattle.bdd_terms.specs.declared.term.Term.{Term}
use Rattle.bdd_terms.specs.Caches.{all_entries, sizes}
use Rattle.bdd_terms.specs.Counting.{Counting, IsPartOfOne}
use Rattle.bdd_terms.specs.Units.{HasUnits}
use Rattle.bdd_terms.specs.Runner.{IsGood, IsListed, IsRunner, IsSameRun, IsWithout, Releases, owners, refusals_of, true_term}
use Rattle.bdd_terms.specs.Takes.{Costs, GivesBack, KeepsTerms, Takes, asked_in, function_in, functions_out}
use Rattle.bdd_terms.specs.Tidy.{IsTidy}
use Rattle.bdd_terms.proofs.CallCosts.{few_reached, function_is, function_kept}
use Rattle.bdd_terms.proofs.FunctionParts.{among_cases, first_among, later_among, more_of, part_within}
use Rattle.bdd_terms.proofs.Kept.{good_proved}
use Rattle.bdd_terms.proofs.OwnUnits.{later}
use Rattle.bdd_terms.proofs.Reclaimed.{in_map, of_map}
use Rattle.bdd_terms.proofs.Refusals.{front_of}
use Rattle.bdd_terms.proofs.Repeated.{has_clause}
use Rattle.bdd_terms.proofs.Rests.{Rests, good_same, keeps_further, same_further}

-- the last of a list, taken out of it, where it stands there once
last_out : (before front behind : List HeldTerm) (held : HeldTerm) → before ++ held ∷ [] ≡ front ++ held ∷ behind
    → (Contains (front ++ behind) held → ⊥) → front ++ behind ≡ before
last_out [] [] behind held is once = rest is
  where
    rest : ◌≡◌ {A = List HeldTerm} (held ∷ []) (held ∷ behind) → behind ≡ []
    rest same = cc
last_out (first ∷ before) [] behind held is once =
    absurd (once (subst (λ (l : List HeldTerm). Contains l held) (rest is) (Contains-append_right before (held ∷ []) held
    (first_among held []))))
  where
    rest : ◌≡◌ {A = List HeldTerm} (first ∷ (before ++ held ∷ [])) (held ∷ behind) → before ++ held ∷ [] ≡ behind
    rest same = cc
last_out [] (first ∷ front) behind held is once = absurd (none front is)
  where
    none : (front : List HeldTerm) → ◌≡◌ {A = List HeldTerm} (held ∷ []) (first ∷ (front ++ held ∷ behind)) → ⊥
    none [] same = cc
    none (next ∷ front) same = cc
last_out (one ∷ before) (first ∷ front) behind held is once =
    let same = same_first is in
    let rest = last_out before front behind held (same_rest is) (λ there. once (later first (front ++ behind) held there)) in
    λ i. same i ∷ rest i
  where
    same_first : ◌≡◌ {A = List HeldTerm} (one ∷ (before ++ held ∷ [])) (first ∷ (front ++ held ∷ behind)) → first ≡ one
    same_first equal = cc

    same_rest : ◌≡◌ {A = List HeldTerm} (one ∷ (before ++ held ∷ [])) (first ∷ (front ++ held ∷ behind))
        → before ++ held ∷ [] ≡ front ++ held ∷ behind
    same_rest equal = cc

-- the clause of a unit that isn't none
clause_of : (unit : Justification) → unit ≢ Trivial → (id : ℕ) × (unit ≡ Clause id)
clause_of Trivial some = absurd (some refl)
clause_of (Clause id) some = (id, refl)

-- A term stands on the list once.
module _ {S : Type 0} (runner : Runner S) (is : IsRunner runner) (held : HeldTerm) (front behind : List HeldTerm)
    (was : runner.terms.out.items ≡ front ++ held ∷ behind) (some : held.node ≢ True) where
  abbrev kept : List HeldTerm
  kept = option_to_list runner.kept

  all_are : owners runner ++ refusals_of runner ≡ (front ++ held ∷ (behind ++ kept)) ++ refusals_of runner
  all_are = ap (λ (list : List HeldTerm). (list ++ kept) ++ refusals_of runner) was
      ∙ ap (λ (list : List HeldTerm). list ++ refusals_of runner) (append_assoc front (held ∷ behind) kept)

  units : HasUnits runner.terms.table (all_entries runner.terms.caches) (held ∷ ((front ++ (behind ++ kept)) ++ refusals_of runner))
  units = front_of runner.terms.table (all_entries runner.terms.caches) front (behind ++ kept) (refusals_of runner) held
      (subst (HasUnits runner.terms.table (all_entries runner.terms.caches)) all_are is.units)

  there_again : Contains (front ++ behind) held → Contains ((front ++ (behind ++ kept)) ++ refusals_of runner) held
  there_again there = Contains-append_left (front ++ (behind ++ kept)) (refusals_of runner) held
      (elim (Contains-append_cases front behind held there) [
        | inl before ↦ Contains-append_left front (behind ++ kept) held before
        | inr after ↦ Contains-append_right front (behind ++ kept) held (Contains-append_left behind kept held after)
      ])

  stands_once : Contains (front ++ behind) held → ⊥
  stands_once there =
      let out = subst (λ (l : List HeldTerm). Contains l held) (sym was) (Contains-append_right front (held ∷ behind) held
      (first_among held behind)) in
      let proved = good_proved runner is held (inr out) in
      let own = clause_of held.unit (has_clause runner.terms.table.graph runner.terms.table.book.state.live held.node proved.stands some
      held.unit proved.unit) in
      units.apart.0 own.0 own.1 (record { held = held; stacked = there_again there; unit = own.1 })

-- what is left where the term that came last is released
released_last : {S : Type 0} (runner : Runner S) → IsRunner runner → (held : HeldTerm) (before after : List HeldTerm)
    → IsListed before runner.terms.out.items held
    → ((held ≡ true_term) × (after ≡ runner.terms.out.items)) ⊎ ((held.node ≢ True) × IsWithout held runner.terms.out.items after)
    → after ≡ before
released_last runner is held before after (inl none) (inl same) = same.1 ∙ none.1
released_last runner is held before after (inl none) (inr out) = absurd (out.0 (ap (λ (h : HeldTerm). h.node) none.0))
released_last runner is held before after (inr one) (inl same) = absurd (one.0 (ap (λ (h : HeldTerm). h.node) same.0))
released_last runner is held before after (inr one) (inr out) =
    out.1.is ∙ last_out before out.1.front out.1.behind held (sym one.1 ∙ out.1.was)
    (stands_once runner is held out.1.front out.1.behind out.1.was out.0)

-- The term that a call gave may be taken.
pub given_good : {S : Type 0} (before : List HeldTerm) (runner : Runner S) (held : HeldTerm) → IsListed before runner.terms.out.items held
    → IsGood runner held
given_good before runner held (inl none) = inl none.0
given_good before runner held (inr one) = inr (subst (λ (l : List HeldTerm). Contains l held) (sym one.1)
    (Contains-append_right before (held ∷ []) held (first_among held [])))

module _ {S : Type 0} (holds : Assignment → Bool) (old mid : Runner S) (term : Term) (takes : Takes holds old mid (Ok term)) where
  goes_on : IsRunner mid
  goes_on = takes.goes_on no_error

  good : IsGood mid term.held
  good = given_good old.terms.out.items mid term.held takes.listed

  -- the runner rests, with the term
  pub takes_rest : StepByStep S → (new : Runner S) → Rests mid new → Takes holds old new (Ok term)
  takes_rest steps new rests = record {
    goes_on = λ whole. rests.runner;
    value = λ a. rests.keeps.values term.held good a ∙ takes.value a;
    listed = subst (λ (l : List HeldTerm). IsListed old.terms.out.items l term.held) (sym rests.out) takes.listed;
    refused = λ whole is. absurd (let e : false ≡ true = is in cc);
    refutes = λ is. subst IsTrue (sym rests.refuted) (takes.refutes is);
    unrefuted = λ whole some. rests.refuted ∙ takes.unrefuted no_error some;
    keeps = λ whole. keeps_further old mid new (takes.keeps no_error) rests.keeps;
    same = same_further old mid new takes.same rests.same;
    order = rests.order ∙ takes.order;
    leaves = steps.go_on old.terms.table mid.terms.table new.terms.table takes.leaves rests.continues;
    full = λ is. absurd (no_error is);
  }

  -- The reclamation failed, and the term was taken back unless a write failed.
  module _ (steps : StepByStep S) (back new : Runner S) (came : TableError) (gives : GivesBack mid back (Err came))
      (released : IsTrue back.terms.table.book.in_step → Releases term.held back new)
      (torn : back.terms.table.book.in_step ≡ false → new ≡ back) (not_false : term.held.node ≢ False) where
    -- want of memory
    module _ (memory : came ≡ OutOfMemory) where
      whole_back : IsRunner back
      whole_back = gives.goes_on (λ is. let e : OutOfMemory ≡ WriteFault = sym memory ∙ same_error is in cc)

      releases : Releases term.held back new
      releases = released whole_back.over.sound.in_step

      out_back : back.terms.out.items ≡ mid.terms.out.items
      out_back = ap (λ v. v.items) gives.out

      out_new : new.terms.out.items ≡ old.terms.out.items
      out_new = released_last back whole_back term.held old.terms.out.items new.terms.out.items
          (subst (λ (l : List HeldTerm). IsListed old.terms.out.items l term.held) (sym out_back) takes.listed) releases.out

      graph_new : new.terms.table.graph ≡ mid.terms.table.graph
      graph_new = ap (λ (t : TableState S). t.graph) releases.table ∙ gives.kept.0

      keeps_new : KeepsTerms old new
      keeps_new = record {
        good = good_same old new out_new;
        values = λ held is a.
            (λ i. value_of (graph_new i) (by_level (graph_new i).order a) held.node) ∙ (takes.keeps no_error).values held is a;
      }

      leaves_new : Continues old.terms.table new.terms.table
      leaves_new =
          let first = subst (λ (e : TableError). Leaves mid.terms.table back.terms.table (Some e)) memory gives.leaves in
          steps.go_on old.terms.table mid.terms.table new.terms.table takes.leaves
          (steps.go_on mid.terms.table back.terms.table new.terms.table first releases.continues)

      same_new : IsSameRun back new
      same_new = record {
        formula = releases.formula;
        limits = releases.limits;
        kept = releases.kept not_false;
        refusals = releases.refusals;
        sizes = ap sizes releases.caches;
        origin = releases.origin;
      }

      takes_back : Takes holds old new (Err OutOfMemory)
      takes_back = record {
        goes_on = λ whole. releases.goes_on;
        value = tt;
        listed = tt;
        refused = λ whole is. out_new;
        refutes = tt;
        unrefuted = λ whole some. releases.refuted ∙ gives.refuted ∙ takes.unrefuted no_error not_false;
        keeps = λ whole. keeps_new;
        same = same_further old mid new takes.same (same_further mid back new gives.same same_new);
        order = ap (λ (graph : Graph). graph.order) graph_new ∙ takes.order;
        leaves = leaves_new;
        full = λ is. absurd (let e : OutOfMemory ≡ NodeLimit = same_error is in cc);
      }

    -- a failed write
    module _ (fault : came ≡ WriteFault) where
      leaves_torn : Leaves mid.terms.table back.terms.table (Some WriteFault)
      leaves_torn = subst (λ (e : TableError). Leaves mid.terms.table back.terms.table (Some e)) fault gives.leaves

      still : new ≡ back
      still = torn leaves_torn.out_of_step

      takes_torn : Takes holds old new (Err WriteFault)
      takes_torn = subst (λ (r : Runner S). Takes holds old r (Err WriteFault)) (sym still) (record {
        goes_on = λ whole. absurd (whole refl);
        value = tt;
        listed = tt;
        refused = λ whole is. absurd (whole refl);
        refutes = tt;
        unrefuted = λ whole some. absurd (whole refl);
        keeps = λ whole. absurd (whole refl);
        same = same_further old mid back takes.same gives.same;
        order = ap (λ (graph : Graph). graph.order) gives.kept.0 ∙ takes.order;
        leaves = steps.leave old.terms.table mid.terms.table back.terms.table (Some WriteFault) takes.leaves leaves_torn;
        full = λ is. absurd (let e : WriteFault ≡ NodeLimit = same_error is in cc);
      })

    pub takes_failed : Takes holds old new (Err came)
    takes_failed = elim gives.error [
      | inl memory ↦ subst (λ (e : TableError). Takes holds old new (Err e)) (sym memory) (takes_back memory)
      | inr fault ↦ subst (λ (e : TableError). Takes holds old new (Err e)) (sym fault) (takes_torn fault)
    ]

    -- no number was given, and the last reclamation is the one before
    pub top_failed : new.terms.table.book.state.top ≡ mid.terms.table.book.state.top
    top_failed = elim gives.error [
      | inl memory ↦ ap (λ (t : TableState S). t.book.state.top) (releases memory).table ∙ gives.top
      | inr fault ↦ ap (λ (r : Runner S). r.terms.table.book.state.top) (still fault) ∙ gives.top
    ]

    pub left_failed : new.terms.left ≡ mid.terms.left
    left_failed = elim gives.error [
      | inl memory ↦ (releases memory).left ∙ gives.kept.1
      | inr fault ↦ ap (λ (r : Runner S). r.terms.left) (still fault) ∙ gives.kept.1
    ]

    pub failed_within : came ≢ NodeLimit
    failed_within is = elim gives.error [
      | inl memory ↦ absurd (let e : NodeLimit ≡ OutOfMemory = sym is ∙ memory in cc)
      | inr fault ↦ absurd (let e : NodeLimit ≡ WriteFault = sym is ∙ fault in cc)
    ]

    pub costs_failed : (functions : List (Levels → Bool)) → Costs functions old mid None → Costs functions old new (Some came)
    costs_failed functions costs = record {
      short = λ is. absurd (failed_within (let whole : ◌≡◌ {A = Option TableError} (Some came) (Some NodeLimit) = is in cc));
      paid = λ width price few is. let own = costs.paid width price few is in omega (arith, own, top_failed);
      left = λ width most. elim (costs.left width most) [
        | inl same ↦ inl (left_failed ∙ same)
        | inr few ↦ inr (omega (arith, few, left_failed))
      ];
    }

  -- What is out is the function that was asked for, and those that were out.
  module _ (counting : Counting S) (is_old : IsRunner old) where
    abbrev all : List (Levels → Bool)
    all = asked_in old holds ∷ functions_out old

    given_is : function_in mid term.held ≡ asked_in old holds
    given_is = function_is counting mid goes_on term.held good holds takes.value ∙ (λ i a. holds (by_variable (takes.order i) a))

    pub out_within : (f : Levels → Bool) → Contains (functions_out mid) f → Contains all f
    out_within f there =
        let found = of_map (function_in mid) mid.terms.out.items f there in
        elim (cases found.0 found.1) [
          | inl was ↦ later_among (asked_in old holds) f (functions_out old) (subst (λ (g : Levels → Bool). Contains (functions_out old) g)
              (sym (function_kept counting old mid is_old goes_on takes.order (takes.keeps no_error) found.0 (inr was)) ∙ found.2)
              (in_map (function_in old) old.terms.out.items found.0 was))
          | inr same ↦ subst (λ (g : Levels → Bool). Contains all g)
              (sym given_is ∙ ap (function_in mid) same ∙ found.2) (first_among (asked_in old holds) (functions_out old))
        ]
      where
        cases : (other : HeldTerm) → Contains mid.terms.out.items other → Contains old.terms.out.items other ⊎ (term.held ≡ other)
        cases other among = elim takes.listed [
          | inl none ↦ inl (subst (λ (l : List HeldTerm). Contains l other) none.1 among)
          | inr one ↦ elim (Contains-append_cases old.terms.out.items (term.held ∷ []) other
              (subst (λ (l : List HeldTerm). Contains l other) one.1 among)) [
                | inl was ↦ inl was
                | inr last ↦ elim (among_cases term.held other [] last) [
                  | inl same ↦ inr same
                  | inr more ↦ absurd (let small = more.1 in omega (arith, small))
                ]
              ]
        ]

    pub costs_tidied : Canonical → (new : Runner S) (count : ℕ) (back : GivesBack mid new (Ok count)) → Costs all old mid None
        → Costs all old new None
    costs_tidied canonical new count back costs = record {
      short = λ is. absurd (let no : ◌≡◌ {A = Option TableError} None (Some NodeLimit) = is in cc);
      paid = λ width price few is. let own = costs.paid width price few is in let same = back.top in omega (arith, own, same);
      left = λ width most.
          let few = few_reached counting mid new back.reached canonical width (λ many. most (more_of (IsPartOfOne (functions_out mid))
          (IsPartOfOne all) (part_within (functions_out mid) all out_within) width width (omega arith) many)) in
          let here = back.left in
          inr (omega (arith, few, here));
    }

-- what is left by a reclamation is tidy
pub tidied_now : (live left : ℕ) → left ≡ live → IsTidy live left
tidied_now live left is = elim (cases_lt live 1000) [
  | inl small ↦ inl small
  | inr large ↦ inr (omega (arith, large, is))
]

-- where it failed, and no write did, the runner goes on
pub whole_behind : {S : Type 0} (mid back : Runner S) (came : TableError) → GivesBack mid back (Err came)
    → IsTrue back.terms.table.book.in_step → IsRunner back
whole_behind {S} mid back came gives on = elim gives.error [
  | inl memory ↦ gives.goes_on (λ is. let e : OutOfMemory ≡ WriteFault = sym memory ∙ same_error is in cc)
  | inr fault ↦
      let leaves = subst (λ (e : TableError). Leaves mid.terms.table back.terms.table (Some e)) fault gives.leaves in
      absurd (let e : true ≡ false = sym on ∙ leaves.out_of_step in cc)
]

pub good_behind : {S : Type 0} (mid back : Runner S) (came : TableError) → GivesBack mid back (Err came) → (before : List HeldTerm)
    (held : HeldTerm) → IsListed before mid.terms.out.items held → IsGood back held
good_behind mid back came gives before held listed =
    good_same mid back (ap (λ v. v.items) gives.out) held (given_good before mid held listed)

-- a release gives no number
pub top_released : {S : Type 0} (mid back new : Runner S) (held : HeldTerm) → back.terms.table.book.state.top ≡ mid.terms.table.book.state.top
    → (IsTrue back.terms.table.book.in_step → Releases held back new) → (back.terms.table.book.in_step ≡ false → new ≡ back)
    → new.terms.table.book.state.top ≡ mid.terms.table.book.state.top
top_released {S} mid back new held top released torn = by_step back.terms.table.book.in_step refl ∙ top
  where
    by_step : (b : Bool) → back.terms.table.book.in_step ≡ b → new.terms.table.book.state.top ≡ back.terms.table.book.state.top
    by_step true on = ap (λ (t : TableState S). t.book.state.top) (released on).table
    by_step false off = ap (λ (r : Runner S). r.terms.table.book.state.top) (torn off)
