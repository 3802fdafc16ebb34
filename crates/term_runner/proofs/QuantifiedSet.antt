-- A set of variables that is quantified from the last term at once: what was found takes the term's place.
use Rattle.std.proofs.Common.{◌≡◌, ◌∙◌, ◌++◌, ◌<◌, ℕ, zero, suc, Bool, true, false, List, [], ◌∷◌, Contains, length, map, reverse, Some}
use Rattle.std.proofs.Common.{Result, Ok, Err, refl, sym, ap, subst, arith, inl}
use Rattle.std.specs.Prelude.{◌≢◌, ◌==◌, IsTrue}
use Rattle.std.proofs.lemmas.List.{length-map, length-reverse}
use Rattle.cnf_base.specs.Formula.{Formula}
use Rattle.cnf_base.specs.Truth.{Assignment}
use Rattle.node_table.specs.declared.error.TableError.{TableError}
use Rattle.node_table.specs.declared.error.TableError.TheVariants.{OutOfMemory}
use Rattle.node_table.specs.declared.node.Node.TheVariants.{False}
use Rattle.node_table.specs.Diagram.{Graph, variable_at}
use Rattle.node_table.specs.HandedOn.{no_error, same_error}
use Rattle.node_table.specs.Laws.{Growth, StepByStep}
use Rattle.node_table.specs.Progress.{Leaves, error_of}
use Rattle.node_table.specs.Table.{TableState}
use Rattle.node_table.specs.Value.{Levels, by_level, value_of}
use Rattle.operations.specs.Entries.{Fitting}
use Rattle.quantify.specs.SomeValues.{IsFromPlace, function_of, some_values}
use Rattle.reconstruction.specs.Entries.{kept_set}
use Rattle.reconstruction.specs.Stack.{Stack}
use Rattle.schedule_plan.specs.Plan.{Stage, Term, after_all, term_holds}
use Rattle.schedule_plan.specs.SetMove.{falling}
use Rattle.bdd_terms.specs.declared.caches.Caches.{Caches}
use Rattle.bdd_terms.specs.declared.held.HeldTerm.{HeldTerm}
use Rattle.term_runner.specs.declared.stacked.StackedTerms.{StackedTerms}
use Rattle.bdd_terms.specs.Caches.{all_entries}
use Rattle.bdd_terms.specs.Finds.{AreFew, Finds, IsOperand}
use Rattle.term_runner.specs.Held.{AreHeld, IsPlaced, MayGiveUp}
use Rattle.bdd_terms.specs.Units.{HasUnits}
use Rattle.term_runner.specs.Moves.{Tried}
use Rattle.term_runner.specs.Nodes.{IsGivenPart}
use Rattle.bdd_terms.specs.Sets.{AreSetLevels}
use Rattle.term_runner.specs.Stacked.{HasOwnUnits, IsAtStage, IsOpen}
use Rattle.term_runner.specs.Trail.{IsTrail}
use Rattle.term_runner.specs.Width.{HoldsAtMost}
use Rattle.bdd_terms.specs.Parts.{term_function}
use Rattle.bdd_terms.proofs.NoEmpty.{no_change}
use Rattle.bdd_terms.proofs.Pairs.{at_most_same}
use Rattle.term_runner.proofs.Pairs.{few_of_term}
use Rattle.term_runner.proofs.Placed.{gives_up, not_found, not_kept, operand_of, put_done}
use Rattle.term_runner.proofs.Planned.{node_function}
use Rattle.bdd_terms.proofs.SetLevels.{map_reverse}
use Rattle.term_runner.proofs.SetStages.{IsAfterSet, IsStacked, after_set, some_stacked}
use Rattle.term_runner.proofs.SetTerms.{between, between_is, function_without, part_given, value_without, without, without_is}
use Rattle.term_runner.proofs.SetTrail.{trail_pushed_set}
use Rattle.bdd_terms.proofs.StayingTerms.{term_kept}
use Rattle.term_runner.proofs.Tidied.{none_made}
use Rattle.term_runner.proofs.Trails.{trail_grown}
use Rattle.term_runner.proofs.Tried.{failed_with, no_memory_limit}

pub some_of_test : (n : ℕ) → (n == 0) ≡ false → 0 < n
some_of_test zero test = cc
some_of_test (suc n) test = omega arith

pub same_set : (graph : Graph) (ys xs set : List ℕ) → ys ≡ xs → AreSetLevels graph ys set → AreSetLevels graph xs set
same_set graph ys xs set same are = subst (λ (l : List ℕ). AreSetLevels graph l set) same are

-- the set's move, in the order of its levels
pub in_levels : (formula : Formula) (graph : Graph) (stage next : Stage) (xs set : List ℕ) → AreSetLevels graph xs set
    → after_all formula stage (falling graph.order xs) ≡ Some next
    → after_all formula stage (reverse (map (variable_at graph) set)) ≡ Some next
in_levels formula graph stage next xs set are leads =
    subst (λ (l : List ℕ). after_all formula stage l ≡ Some next) (sym are.falls ∙ map_reverse (variable_at graph) set) leads

pub stacked_at : (formula : Formula) (graph : Graph) (stage next : Stage) (xs set : List ℕ) → AreSetLevels graph xs set → 0 < length set
    → after_all formula stage (falling graph.order xs) ≡ Some next → IsStacked stage
stacked_at formula graph stage next xs set are some leads =
    let rev = map (variable_at graph) set in
    some_stacked formula stage next (reverse rev) (omega (arith, some, length-reverse rev, length-map set (variable_at graph)))
    (in_levels formula graph stage next xs set are leads)

-- an empty set changes nothing
pub nothing_tried : {S : Type 0} (steps : StepByStep S) (formula : Formula) (stage next : Stage) (old : StackedTerms S) → IsOpen formula old
    → HasOwnUnits old → IsAtStage formula old stage → (xs set : List ℕ) → AreSetLevels old.table.graph xs set → length set ≡ 0
    → after_all formula stage (falling old.table.graph.order xs) ≡ Some next → Tried formula stage next old old (Ok false)
nothing_tried steps formula stage next old ready own at xs set are none leads =
    let nothing = steps.none old.table ready.over.sound in
    let same : stage ≡ next = by_none set none (in_levels formula old.table.graph stage next xs set are leads) in
    record {
      held = λ open_yet. subst (IsAtStage formula old) same at;
      refuted = λ is. absurd (let e : false ≡ true = is in cc);
      ready = λ whole. ready;
      own = λ open_yet. own;
      unchanged = λ whole failed. (refl, refl);
      again = λ limit. absurd (no_error limit);
      at_again = λ limit. absurd (no_error limit);
      leaves = nothing.leaves;
      no_empty = λ whole unrefuted. no_change old.table;
      nodes = nothing.extends.nodes;
      adds = omega arith;
      pairs = λ width room most. omega arith;
      made = none_made old.table.graph (IsGivenPart formula old.table.graph.order stage next);
      lacks = λ limit. absurd (no_error limit);
      sizes = refl;
      left = refl;
    }
  where
    by_none : (levels : List ℕ) → length levels ≡ 0 → after_all formula stage (reverse (map (variable_at old.table.graph) levels)) ≡ Some next
        → stage ≡ next
    by_none [] none is = cc
    by_none (level ∷ more) none is = absurd (omega (arith, none))

-- there was no memory to look at it
pub none_tried : {S : Type 0} (steps : StepByStep S) (formula : Formula) (stage next : Stage) (old : StackedTerms S) → IsOpen formula old
    → HasOwnUnits old → (end : Result Bool TableError) → end ≡ Err OutOfMemory → Tried formula stage next old old end
none_tried steps formula stage next old ready own end is =
    let nothing = steps.none old.table ready.over.sound in
    record {
      held = failed_with end OutOfMemory is _;
      refuted = failed_with end OutOfMemory is _;
      ready = λ whole. ready;
      own = failed_with end OutOfMemory is _;
      unchanged = λ whole failed. (refl, refl);
      again = λ limit. absurd (no_memory_limit (same_error (sym is ∙ limit)));
      at_again = λ limit. absurd (no_memory_limit (same_error (sym is ∙ limit)));
      leaves = subst (λ (r : Result Bool TableError). Leaves old.table old.table (error_of r)) (sym is)
          (steps.no_memory old.table ready.over.sound).leaves;
      no_empty = λ whole unrefuted. no_change old.table;
      nodes = nothing.extends.nodes;
      adds = omega arith;
      pairs = λ width room most. omega arith;
      made = none_made old.table.graph (IsGivenPart formula old.table.graph.order stage next);
      lacks = λ limit. absurd (no_memory_limit (same_error (sym is ∙ limit)));
      sizes = refl;
      left = refl;
    }

module _ {S : Type 0} (growth : Growth) (steps : StepByStep S) (fitting : Fitting S) (formula : Formula) (stage next : Stage)
    (old : StackedTerms S) (ready : IsOpen formula old) (own : HasOwnUnits old) (at : IsAtStage formula old stage) (xs set : List ℕ)
    (are : AreSetLevels old.table.graph xs set) (some : 0 < length set)
    (leads : after_all formula stage (falling old.table.graph.order xs) ≡ Some next) (u : HeldTerm) (below : List HeldTerm)
    (items : reverse old.out.items ≡ u ∷ below) where
  abbrev graph : Graph
  graph = old.table.graph

  abbrev variables : List ℕ
  variables = map (variable_at graph) set

  abbrev here : IsStacked stage
  here = stacked_at formula graph stage next xs set are some leads

  after : IsAfterSet stage next (reverse variables) here.top here.rest
  after = after_set formula stage next (reverse variables) here.top here.rest here.stacked (in_levels formula graph stage next xs set are leads)

  held : AreHeld formula graph old.table.book.state.live (u ∷ below) (here.top ∷ here.rest)
  held = subst (λ (l : List HeldTerm). AreHeld formula graph old.table.book.state.live l (here.top ∷ here.rest)) items
      (subst (λ (s : List Term). AreHeld formula graph old.table.book.state.live (reverse old.out.items) s) here.stacked at.held)

  pub set_operand : IsOperand old.table (all_entries old.caches) u
  set_operand = operand_of formula old.table (all_entries old.caches) u here.top (u ∷ below)
      (subst (λ (l : List HeldTerm). HasUnits old.table (all_entries old.caches) l) items own) (zero, omega arith, refl) held.0

  abbrev result : Term
  result = without variables here.top

  stack : next.stack ≡ result ∷ here.rest
  stack = after.stack ∙ ap (λ (t : Term). t ∷ here.rest) (without_is variables here.top)

  trail : next.trail ≡ between variables here.top ++ stage.trail
  trail = after.trail ∙ ap (λ (l : List (ℕ × Term)). l ++ stage.trail) (after.is_fresh ∙ between_is variables here.top)

  gives : (part : Levels → Bool) → IsFromPlace (function_of graph u.node) set part → IsGivenPart formula graph.order stage next part
  gives = part_given graph ready.over.sound.tied.reduced ready.over.sound.tied.ordered formula here.top u.node held.0.is.stands
      held.0.is.value set are.rising stage next here.rest stack trail

  few : (width : ℕ) → HoldsAtMost formula graph.order stage next width → AreFew graph (u ∷ []) width
  few width most = (
    at_most_same (term_function formula graph.order here.top) (λ a. value_of graph a u.node)
        (λ a. sym (node_function graph ready.over.sound.tied.reduced ready.over.sound.tied.ordered formula u.node here.top held.0.is.stands
        held.0.is.value a)) width
        (few_of_term formula graph.order stage next here.top
        (inl (subst (λ (terms : List Term). Contains terms here.top) (sym here.stacked) (zero, omega arith, refl))) width most),
    tt,
  )

  module _ (mid : TableState S) (caches : Caches) (r : Result HeldTerm TableError)
      (finds : (holds : Assignment → Bool)
      → ((a : Assignment) → some_values set (function_of graph u.node) (by_level graph.order a) ≡ holds a)
      → Finds (IsFromPlace (function_of graph u.node) set) (some_values set (function_of graph u.node)) holds (u ∷ []) old.table mid
      old.caches caches r) where
    pub found_set : Finds (IsFromPlace (function_of graph u.node) set) (term_function formula graph.order result)
        (λ a. term_holds formula a result) (u ∷ []) old.table mid old.caches caches r
    found_set =
        subst (λ (function : Levels → Bool). Finds (IsFromPlace (function_of graph u.node) set) function (λ a. term_holds formula a result)
        (u ∷ []) old.table mid old.caches caches r)
        (function_without graph ready.over.sound.tied.reduced ready.over.sound.tied.ordered formula here.top u.node held.0.is.stands
        held.0.is.value set 0 are.rising)
        (finds (λ a. term_holds formula a result) (λ a. value_without graph ready.over.sound.tied.reduced ready.over.sound.tied.ordered formula
        here.top u.node held.0.is.stands held.0.is.value set 0 are.rising a (by_level graph.order a) (λ i small. refl)))

    -- it was refused
    pub set_refused : (came : TableError) → r ≡ Err came → (end : Result Bool TableError) → end ≡ Err came
        → Tried formula stage next old (record old { table = mid; caches = caches }) end
    set_refused came is = not_found growth steps fitting formula stage next old ready own at result here.rest stack (u ∷ []) below items held.1
        few (IsFromPlace (function_of graph u.node) set) gives mid caches came
        (subst (λ (r : Result HeldTerm TableError). Finds (IsFromPlace (function_of graph u.node) set) (term_function formula graph.order result)
        (λ a. term_holds formula a result) (u ∷ []) old.table mid old.caches caches r) is found_set)

    module _ (one : HeldTerm) (is : r ≡ Ok one) where
      found_one : Finds (IsFromPlace (function_of graph u.node) set) (term_function formula graph.order result)
          (λ a. term_holds formula a result) (u ∷ []) old.table mid old.caches caches (Ok one)
      found_one = subst (λ (r : Result HeldTerm TableError). Finds (IsFromPlace (function_of graph u.node) set)
          (term_function formula graph.order result) (λ a. term_holds formula a result) (u ∷ []) old.table mid old.caches caches r) is found_set

      -- memory is wanted behind it
      pub set_not_kept : (end : Result Bool TableError) → end ≡ Err OutOfMemory → one.node ≢ False → (trail : Stack) → trail ≡ old.trail
          → Tried formula stage next old (record old { table = mid; caches = caches; trail = trail }) end
      set_not_kept = not_kept growth steps fitting formula stage next old ready own at result here.rest stack (u ∷ []) below items held.1 few
          (IsFromPlace (function_of graph u.node) set) gives mid caches one found_one

      pub set_gives_up : MayGiveUp mid (u ∷ [])
      set_gives_up = gives_up growth steps fitting formula stage next old ready own at result here.rest stack (u ∷ []) below items held.1 few
          (IsFromPlace (function_of graph u.node) set) gives mid caches one found_one

      -- it stands, and the set on the trail
      pub set_done : (falls : List ℕ) → falls ≡ map (variable_at graph) (reverse set) → (new : TableState S) (other : StackedTerms S) (kept : Stack)
          → kept ≡ record old.trail { recent = old.trail.recent ++ kept_set 0 falls u.node } → (refuted : Bool)
          → (IsTrue refuted → (one.node ≡ False) × ((new ≡ mid) × (other.out ≡ old.out)))
          → (refuted ≡ false → IsPlaced (u ∷ []) one mid new old.out.items other.out.items)
          → Tried formula stage next old (record old { table = new; caches = caches; out = other.out; trail = kept }) (Ok refuted)
      set_done falls is_falls new other kept same refuted =
          let extends = found_one.steps.extends in
          let reduced = ready.over.sound.tied.reduced in
          let up = term_kept growth graph mid.graph reduced extends.nodes old.table.book.state.live mid.book.state.live extends.clauses
          (λ a. term_holds formula a here.top) u.node u.unit held.0.is in
          let pushed = trail_pushed_set formula mid.graph u.node here.top up.stands up.value old.trail kept variables falls stage.trail
          (is_falls ∙ map_reverse (variable_at graph) set) same
          (trail_grown growth formula graph mid.graph reduced extends.nodes old.trail stage.trail at.kept) in
          put_done growth steps fitting formula stage next old ready own at result here.rest stack (u ∷ []) below items held.1 few
          (IsFromPlace (function_of graph u.node) set) gives mid caches one found_one (u ∷ []) refl (λ last retires. retires) new other kept
          (subst (λ (quantified : List (ℕ × Term)). IsTrail formula mid.graph kept quantified) (sym trail) pushed) refuted
