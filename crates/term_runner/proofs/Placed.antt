-- A term that a call found stands in the place of its operands, and a move is done; or it wasn't found.
use Rattle.std.proofs.Common.{◌≡◌, ◌∙◌, ◌++◌, ◌+◌, ◌*◌, ℕ, Bool, true, false, List, [], ◌∷◌, Contains, length, drop, reverse, None, Result}
use Rattle.std.proofs.Common.{Ok, Err, refl, sym, ap, subst, arith, inl, inr}
use Rattle.std.specs.Prelude.{◌≢◌, IsTrue}
use Rattle.cnf_base.specs.Formula.{Formula}
use Rattle.node_table.specs.declared.error.TableError.{TableError}
use Rattle.node_table.specs.declared.error.TableError.TheVariants.{NodeLimit, OutOfMemory, WriteFault}
use Rattle.node_table.specs.declared.node.Node.TheVariants.{False}
use Rattle.node_table.specs.declared.node.Justification.{Justification}
use Rattle.node_table.specs.Diagram.{Graph}
use Rattle.node_table.specs.HandedOn.{no_error, same_error}
use Rattle.node_table.specs.Laws.{Growth, StepByStep}
use Rattle.node_table.specs.Value.{Levels}
use Rattle.quantify.specs.RunsFor.{Kind, LacksOneOf}
use Rattle.node_table.specs.Progress.{Continues, Leaves, Steps, error_of}
use Rattle.node_table.specs.Table.{TableState, AddsAtMost}
use Rattle.operations.specs.Entries.{Entry, Fits, Fitting}
use Rattle.reconstruction.specs.Stack.{Stack}
use Rattle.schedule_plan.specs.Plan.{Stage, Term, term_holds}
use Rattle.bdd_terms.specs.declared.caches.Caches.{Caches}
use Rattle.bdd_terms.specs.declared.held.HeldTerm.{HeldTerm}
use Rattle.term_runner.specs.declared.stacked.StackedTerms.{StackedTerms}
use Rattle.bdd_terms.specs.Caches.{HaveRoom, all_entries}
use Rattle.bdd_terms.specs.Finds.{AreFew, Finds, IsOperand}
use Rattle.term_runner.specs.Held.{AreHeld, IsHeld, IsPlaced, MayGiveUp}
use Rattle.bdd_terms.specs.Units.{HasUnits, IsUnitOf, RetiresUnits, UnitsApart}
use Rattle.term_runner.specs.Trail.{IsTrail}
use Rattle.term_runner.specs.Moves.{Tried}
use Rattle.term_runner.specs.Nodes.{IsGivenPart, KeepsOrMakes}
use Rattle.term_runner.specs.Stacked.{HasOwnUnits, IsAtStage, IsOpen}
use Rattle.term_runner.specs.Width.{HoldsAtMost}
use Rattle.bdd_terms.specs.Parts.{term_function}
use Rattle.term_runner.proofs.Again.{at_still}
use Rattle.term_runner.proofs.FewLeft.{result_given}
use Rattle.bdd_terms.proofs.Leaving.{went_on}
use Rattle.bdd_terms.proofs.NoEmpty.{further_empty}
use Rattle.term_runner.proofs.Pairs.{few_of_term}
use Rattle.term_runner.proofs.Planned.{keeps_or_makes}
use Rattle.bdd_terms.proofs.Replaced.{first_unit, free_after, later_unit, no_unit, unit_left, units_replaced, which_unit}
use Rattle.term_runner.proofs.Stacks.{false_refutes, held_kept, ready_after}
use Rattle.term_runner.proofs.Tried.{failed_with, no_memory_limit}

apart_first : (one rest : List HeldTerm) → UnitsApart (one ++ rest) → UnitsApart one
apart_first [] rest apart = tt
apart_first (held ∷ one) rest apart = (λ id is other. apart.0 id is (unit_left one rest id other), apart_first one rest apart.1)

-- a term of the stack is an operand
pub operand_of : {S : Type 0} (formula : Formula) (table : TableState S) (entries : List Entry) (held : HeldTerm) (term : Term)
    (list : List HeldTerm) → HasUnits table entries list → Contains list held → IsHeld formula table.graph table.book.state.live held term
    → IsOperand table entries held
operand_of formula table entries held term list has there is = record {
  stands = is.is.stands;
  not_false = is.not_false;
  unit = is.is.proved;
  own = λ id named. has.own held there id named;
}

module _ {S : Type 0} (growth : Growth) (steps : StepByStep S) (fitting : Fitting S) (formula : Formula) (stage next : Stage)
    (old : StackedTerms S) (ready : IsOpen formula old) (own : HasOwnUnits old) (at : IsAtStage formula old stage) (term : Term)
    (terms : List Term) (stack : next.stack ≡ term ∷ terms) (taken rest : List HeldTerm) (items : reverse old.out.items ≡ taken ++ rest)
    (rest_held : AreHeld formula old.table.graph old.table.book.state.live rest terms)
    (few : (width : ℕ) → HoldsAtMost formula old.table.graph.order stage next width → AreFew old.table.graph taken width)
    (kind : Kind) (gives : (part : Levels → Bool) → kind part → IsGivenPart formula old.table.graph.order stage next part)
    (mid : TableState S) (caches : Caches) where
  -- what the call made is kept, or a part of the term
  made_of : (r : Result HeldTerm TableError)
      → Finds kind (term_function formula old.table.graph.order term) (λ a. term_holds formula a term)
      taken old.table mid old.caches caches r
      → KeepsOrMakes old.table.graph mid.graph (IsGivenPart formula old.table.graph.order stage next)
  made_of r found = keeps_or_makes growth old.table.graph mid.graph kind (IsGivenPart formula old.table.graph.order stage next) gives
      ready.over.sound.tied.reduced found.steps.extends.nodes found.made

  lacks_of : (r : Result HeldTerm TableError) → Finds kind (term_function formula old.table.graph.order term)
      (λ a. term_holds formula a term) taken old.table mid old.caches caches r → r ≡ Err NodeLimit
      → LacksOneOf mid.graph (IsGivenPart formula old.table.graph.order stage next)
  lacks_of r found limit =
      let lacks = found.lacks limit in
      record { part = lacks.part; is_one = gives lacks.part lacks.is_one; nowhere = lacks.nowhere }

  pairs_of : (r : Result HeldTerm TableError)
      → Finds kind (term_function formula old.table.graph.order term) (λ a. term_holds formula a term)
      taken old.table mid old.caches caches r → (width : ℕ) → HaveRoom old.caches width
      → HoldsAtMost formula old.table.graph.order stage next width → AddsAtMost (2 * (width * width) + 1) old.table mid
  pairs_of r found width room most = found.pairs width room (few width most)
      (few_of_term formula old.table.graph.order stage next term (inr (result_given next term terms stack)) width most)

  -- it was refused
  pub not_found : (came : TableError) → Finds kind (term_function formula old.table.graph.order term) (λ a. term_holds formula a term) taken
      old.table mid old.caches caches (Err came) → (end : Result Bool TableError) → end ≡ Err came
      → Tried formula stage next old (record old { table = mid; caches = caches }) end
  not_found came found end is = record {
    held = failed_with end came is _;
    refuted = failed_with end came is _;
    ready = λ whole. ready_after formula old.table mid (all_entries old.caches) (all_entries caches) ready
        (went_on {T = HeldTerm} old.table mid (Err came) found.steps.leaves (untorn whole)).sound found.steps.extends (found.fits (untorn whole));
    own = failed_with end came is _;
    unchanged = λ whole failed. (refl, refl);
    again = λ limit. found.again (at_limit limit) (reverse old.out.items) own;
    at_again = λ limit. at_still growth formula old.table.graph mid.graph ready.over.sound.tied.reduced found.steps.extends.nodes
        old.table.book.state.live mid.book.state.live found.steps.extends.clauses stage old.out.items old.out.items old.trail old.trail refl
        refl at;
    leaves = subst (λ (r : Result Bool TableError). Leaves old.table mid (error_of r)) (sym is) found.steps.leaves;
    no_empty = λ whole unrefuted. found.no_empty (untorn whole) tt;
    nodes = found.steps.extends.nodes;
    adds = found.steps.adds;
    pairs = pairs_of (Err came) found;
    made = made_of (Err came) found;
    lacks = λ limit. lacks_of (Err came) found (at_limit limit);
    sizes = found.sizes;
    left = refl;
  }
    where
      untorn : end ≢ Err WriteFault → ◌≢◌ {A = Result HeldTerm TableError} (Err came) (Err WriteFault)
      untorn whole torn = whole (is ∙ ap Err (same_error torn))

      at_limit : end ≡ Err NodeLimit → ◌≡◌ {A = Result HeldTerm TableError} (Err came) (Err NodeLimit)
      at_limit limit = ap Err (same_error (sym is ∙ limit))

  module _ (held : HeldTerm) (found : Finds kind (term_function formula old.table.graph.order term) (λ a. term_holds formula a term) taken
      old.table mid old.caches caches (Ok held)) where
    has : HasUnits old.table (all_entries old.caches) (taken ++ rest)
    has = subst (λ (s : List HeldTerm). HasUnits old.table (all_entries old.caches) s) items own

    -- the operands' units may be retired
    pub gives_up : MayGiveUp mid taken
    gives_up = record {
      added = λ id is. steps.added old.table mid ready.over.sound found.steps.leaves.sound found.steps.extends id
          (has.added id (unit_left taken rest id is));
      unretired = λ id is gone. free_after old.table mid (all_entries old.caches) (all_entries caches) (taken ++ rest) ready.over.sound has
          found.gives.retires found.gives.named id (unit_left taken rest id is) (inl gone);
      apart = apart_first taken rest has.apart;
    }

    ready_mid : IsOpen formula (record old { table = mid; caches = caches })
    ready_mid = ready_after formula old.table mid (all_entries old.caches) (all_entries caches) ready found.steps.leaves.sound
        found.steps.extends (found.fits no_error)

    -- it is False
    pub refuted_by : (new : TableState S) → new ≡ mid → (other : StackedTerms S) (trail : Stack) → held.node ≡ False
        → Tried formula stage next old (record old { table = new; caches = caches; out = other.out; trail = trail }) (Ok true)
    refuted_by new same other trail is = subst (λ (t : TableState S). Tried formula stage next old
        (record old { table = t; caches = caches; out = other.out; trail = trail }) (Ok true)) (sym same) (record {
          held = λ open_yet. absurd (let e : true ≡ false = open_yet in cc);
          refuted = λ true. false_refutes mid.graph mid.book.state.live held.node held.unit is found.term.proved;
          ready = λ whole. ready_mid;
          own = λ open_yet. absurd (let e : true ≡ false = open_yet in cc);
          unchanged = λ whole failed. absurd (let e : false ≡ true = failed in cc);
          again = λ limit. absurd (no_error limit);
          at_again = λ limit. absurd (no_error limit);
          leaves = found.steps.leaves;
          no_empty = λ whole unrefuted. absurd (unrefuted refl);
          nodes = found.steps.extends.nodes;
          adds = found.steps.adds;
          pairs = pairs_of (Ok held) found;
          made = made_of (Ok held) found;
          lacks = λ limit. absurd (no_error limit);
          sizes = found.sizes;
          left = refl;
        })

    -- memory is wanted behind it
    pub not_kept : (end : Result Bool TableError) → end ≡ Err OutOfMemory → held.node ≢ False → (trail : Stack)
        → trail ≡ old.trail → Tried formula stage next old (record old { table = mid; caches = caches; trail = trail }) end
    not_kept end is some trail same = record {
      held = failed_with end OutOfMemory is _;
      refuted = failed_with end OutOfMemory is _;
      ready = λ whole. ready_mid;
      own = failed_with end OutOfMemory is _;
      unchanged = λ whole failed. (refl, same);
      again = λ limit. absurd (no_memory_limit (same_error (sym is ∙ limit)));
      at_again = λ limit. absurd (no_memory_limit (same_error (sym is ∙ limit)));
      leaves = subst (λ (r : Result Bool TableError). Leaves old.table mid (error_of r)) (sym is) found.steps.leaves;
      no_empty = λ whole unrefuted. found.no_empty no_error some;
      nodes = found.steps.extends.nodes;
      adds = found.steps.adds;
      pairs = pairs_of (Ok held) found;
      made = made_of (Ok held) found;
      lacks = λ limit. absurd (no_memory_limit (same_error (sym is ∙ limit)));
      sizes = found.sizes;
      left = refl;
    }

    -- it takes the operands' place
    module _ (new : TableState S) (other : StackedTerms S) (trail : Stack) (some : held.node ≢ False)
        (listed : reverse other.out.items ≡ held ∷ rest) (retires : RetiresUnits mid new taken held.unit) (more : Steps mid new 0 None)
        (kept : IsTrail formula mid.graph trail next.trail) where
      same_graph : new.graph ≡ mid.graph
      same_graph = ap (λ (t : TableState S). t.graph) retires.same

      all : Continues old.table new
      all = steps.go_on old.table mid new found.steps.leaves more.leaves

      held_here : AreHeld formula mid.graph mid.book.state.live (held ∷ rest) (term ∷ terms)
      held_here = (
        record { is = found.term; not_false = some },
        held_kept growth old.table.graph mid.graph ready.over.sound.tied.reduced found.steps.extends.nodes old.table.book.state.live
            mid.book.state.live found.steps.extends.clauses formula rest terms rest_held,
      )

      fits_here : Fits new (all_entries caches)
      fits_here =
          let fits = found.fits no_error in
          fitting.kept mid new (all_entries caches) found.steps.leaves.sound more.leaves.sound more.extends fits
          (λ id named gone. elim (retires.only id gone) [
            | inl was ↦ fits.unretired id named was
            | inr operand ↦ free_after old.table mid (all_entries old.caches) (all_entries caches) (taken ++ rest) ready.over.sound has
                found.gives.retires found.gives.named id (unit_left taken rest id operand.0) (inr named)
          ])

      placed : Tried formula stage next old (record old { table = new; caches = caches; out = other.out; trail = trail }) (Ok false)
      placed = record {
        held = λ open_yet. record {
          held = subst (λ (s : List HeldTerm). AreHeld formula new.graph new.book.state.live s next.stack) (sym listed)
              (subst (λ (s : List Term). AreHeld formula new.graph new.book.state.live (held ∷ rest) s) (sym stack)
              (subst (λ (t : TableState S). AreHeld formula t.graph t.book.state.live (held ∷ rest) (term ∷ terms)) (sym retires.same)
              held_here));
          kept = subst (λ (graph : Graph). IsTrail formula graph trail next.trail) (sym same_graph) kept;
        };
        refuted = λ is. absurd (let e : false ≡ true = is in cc);
        ready = λ whole. ready_after formula mid new (all_entries caches) (all_entries caches) ready_mid more.leaves.sound more.extends
            fits_here;
        own = λ open_yet. subst (λ (s : List HeldTerm). HasUnits new (all_entries caches) s) (sym listed)
            (units_replaced steps old.table mid new (all_entries old.caches) (all_entries caches) taken rest held ready.over.sound
            found.steps.leaves.sound found.steps.extends has found.gives retires);
        unchanged = λ whole failed. absurd (let e : false ≡ true = failed in cc);
        again = λ limit. absurd (no_error limit);
        at_again = λ limit. absurd (no_error limit);
        leaves = all;
        no_empty = λ whole unrefuted. further_empty old.table mid new (found.no_empty no_error some) more.no_empty;
        nodes = (steps.extend old.table mid new found.steps.extends more.extends).nodes;
        adds = let first = found.steps.adds in let second = more.adds in omega (arith, first, second);
        pairs = λ width room most.
            let first = pairs_of (Ok held) found width room most in let second = more.adds in omega (arith, first, second);
        made = subst (λ (graph : Graph). KeepsOrMakes old.table.graph graph (IsGivenPart formula old.table.graph.order stage next))
            (sym same_graph) (made_of (Ok held) found);
        lacks = λ limit. absurd (no_error limit);
        sizes = found.sizes;
        left = refl;
      }

either : (r : Bool) (P : Bool → Type 0) → (r ≡ true → P true) → (r ≡ false → P false) → P r
either true P when_true when_false = when_true refl
either false P when_true when_false = when_false refl

-- However it is put, a move is done, or the formula refuted.
module _ {S : Type 0} (growth : Growth) (steps : StepByStep S) (fitting : Fitting S) (formula : Formula) (stage next : Stage)
    (old : StackedTerms S) (ready : IsOpen formula old) (own : HasOwnUnits old) (at : IsAtStage formula old stage) (term : Term)
    (terms : List Term) (stack : next.stack ≡ term ∷ terms) (taken rest : List HeldTerm) (items : reverse old.out.items ≡ taken ++ rest)
    (rest_held : AreHeld formula old.table.graph old.table.book.state.live rest terms)
    (few : (width : ℕ) → HoldsAtMost formula old.table.graph.order stage next width → AreFew old.table.graph taken width)
    (kind : Kind) (gives : (part : Levels → Bool) → kind part → IsGivenPart formula old.table.graph.order stage next part)
    (mid : TableState S) (caches : Caches) (held : HeldTerm)
    (found : Finds kind (term_function formula old.table.graph.order term) (λ a. term_holds formula a term) taken old.table mid old.caches
    caches (Ok held)) where
  pub put_done : (operands : List HeldTerm) → drop (length operands) (taken ++ rest) ≡ rest
      → ((last : TableState S) → RetiresUnits mid last operands held.unit → RetiresUnits mid last taken held.unit) → (new : TableState S)
      (other : StackedTerms S) (trail : Stack) → IsTrail formula mid.graph trail next.trail → (refuted : Bool)
      → (IsTrue refuted → (held.node ≡ False) × ((new ≡ mid) × (other.out ≡ old.out)))
      → (refuted ≡ false → IsPlaced operands held mid new old.out.items other.out.items)
      → Tried formula stage next old (record old { table = new; caches = caches; out = other.out; trail = trail }) (Ok refuted)
  put_done operands behind same_units new other trail kept refuted when_true when_false =
      either refuted (λ r. Tried formula stage next old (record old { table = new; caches = caches; out = other.out; trail = trail }) (Ok r))
      (λ is. let same = when_true is in
      refuted_by growth steps fitting formula stage next old ready own at term terms stack taken rest items rest_held few kind gives
      mid caches held found new same.1.0 other trail same.0)
      (λ is. let one = when_false is in
      placed growth steps fitting formula stage next old ready own at term terms stack taken rest items rest_held few kind gives mid caches
      held found new other trail one.some (one.out ∙ ap (λ (l : List HeldTerm). held ∷ drop (length operands) l) items
      ∙ ap (λ (l : List HeldTerm). held ∷ l) behind) (same_units new one.retires) one.steps kept)

-- room for one term more changes nothing else
pub with_room : {S : Type 0} (formula : Formula) (stage next : Stage) (old other new : StackedTerms S) (end : Result Bool TableError)
    → other.out.items ≡ old.out.items → Tried formula stage next (record old { out = other.out }) new end → Tried formula stage next old new end
with_room formula stage next old other new end same own = record {
  held = own.held;
  refuted = own.refuted;
  ready = own.ready;
  own = own.own;
  unchanged = λ whole failed. ((own.unchanged whole failed).0 ∙ same, (own.unchanged whole failed).1);
  again = own.again;
  at_again = own.at_again;
  leaves = own.leaves;
  no_empty = own.no_empty;
  nodes = own.nodes;
  adds = own.adds;
  pairs = own.pairs;
  made = own.made;
  lacks = own.lacks;
  sizes = own.sizes;
  left = own.left;
}

-- two operands, the one or the other first
swapped : (u v : HeldTerm) (id : ℕ) → IsUnitOf (u ∷ v ∷ []) id → IsUnitOf (v ∷ u ∷ []) id
swapped u v id is = elim (which_unit u (v ∷ []) id is) [
  | inl first ↦ later_unit v (u ∷ []) id (first_unit u [] id first)
  | inr other ↦ elim (which_unit v [] id other) [
    | inl second ↦ first_unit v (u ∷ []) id second
    | inr none ↦ absurd (no_unit id none)
  ]
]

pub retires_swapped : {S : Type 0} (old new : TableState S) (u v : HeldTerm) (kept : Justification)
    → RetiresUnits old new (u ∷ v ∷ []) kept → RetiresUnits old new (v ∷ u ∷ []) kept
retires_swapped old new u v kept retires = record {
  same = retires.same;
  still = retires.still;
  only = λ id there. elim (retires.only id there) [
    | inl was ↦ inl was
    | inr one ↦ inr (swapped u v id one.0, one.1)
  ];
  gone = λ id is. retires.gone id (swapped v u id is);
}

pub gives_up_swapped : {S : Type 0} (table : TableState S) (u v : HeldTerm) → MayGiveUp table (v ∷ u ∷ []) → MayGiveUp table (u ∷ v ∷ [])
gives_up_swapped table u v may = record {
  added = λ id is. may.added id (swapped u v id is);
  unretired = λ id is. may.unretired id (swapped u v id is);
  apart = (
    λ id first other. elim (which_unit v [] id other) [
      | inl second ↦ may.apart.0 id second (first_unit u [] id first)
      | inr none ↦ no_unit id none
    ],
    ((λ id first other. no_unit id other), tt),
  );
}
