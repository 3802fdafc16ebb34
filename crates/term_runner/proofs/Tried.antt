-- A move that was tried: its retired clauses are deleted, and it is taken at once, or once more behind a reclamation.
use Rattle.std.proofs.Common.{◌≡◌, ◌∙◌, ◌⊎◌, ℕ, ◌+◌, ◌*◌, ◌≤◌, Bool, true, false, List, [], Contains, length, reverse, None, Some, Result}
use Rattle.std.proofs.Common.{Ok, Err, refl, sym, ap, subst, arith, inl, inr}
use Rattle.std.specs.Prelude.{IfOk, OnOk, IsTrue}
use Rattle.cnf_base.specs.Formula.{Formula}
use Rattle.lrat_rules.specs.State.{clause_at}
use Rattle.node_table.specs.declared.error.TableError.{TableError}
use Rattle.node_table.specs.declared.error.TableError.TheVariants.{NodeLimit, OutOfMemory, WriteFault}
use Rattle.node_table.specs.Diagram.{Graph, IsOrder, KeepsNodes, levels}
use Rattle.node_table.specs.HandedOn.{no_error, same_error}
use Rattle.node_table.specs.Laws.{Canonical, Growth, StepByStep, Subfunctions}
use Rattle.quantify.specs.RunsFor.{LacksOneOf}
use Rattle.node_table.specs.Progress.{Continues, Leaves, error_of}
use Rattle.node_table.specs.Refused.{no_nodes_left}
use Rattle.node_table.specs.Table.{TableState, AddsAtMost, AddsNoEmpty, defining_clauses, live_nodes}
use Rattle.operations.specs.Budget.{most_additions}
use Rattle.operations.specs.Entries.{Fitting}
use Rattle.schedule_plan.specs.declared.plan.Move.{Move}
use Rattle.schedule_plan.specs.Plan.{Stage, after_move}
use Rattle.term_runner.specs.declared.stacked.StackedTerms.{StackedTerms}
use Rattle.bdd_terms.specs.Caches.{HaveRoom, HaveSize, all_entries, sizes}
use Rattle.term_runner.specs.Trail.{IsTrail}
use Rattle.term_runner.specs.Moves.{Moved, Tried}
use Rattle.term_runner.specs.Nodes.{IsGivenPart, KeepsOrMakes}
use Rattle.term_runner.specs.Price.{AddsFew}
use Rattle.bdd_terms.specs.Price.{IsMovePrice}
use Rattle.term_runner.specs.Stacked.{HasOwnUnits, IsAtStage, IsOpen}
use Rattle.bdd_terms.specs.Tidy.{LeavesReached}
use Rattle.term_runner.specs.Tidy.{WasDue, WereLeft, held_nodes}
use Rattle.term_runner.specs.Width.{HoldsAtMost, keeps_trail}
use Rattle.term_runner.proofs.Due.{due_at_limit}
use Rattle.term_runner.proofs.FewLeft.{few_left}
use Rattle.bdd_terms.proofs.Giving.{units_settled}
use Rattle.term_runner.proofs.NoEmpty.{fewer_empty, fewer_left}
use Rattle.bdd_terms.proofs.NoEmpty.{further_empty}
use Rattle.term_runner.proofs.Settled.{held_settled, ready_settled}
use Rattle.term_runner.proofs.Priced.{tried, tried_few}
use Rattle.bdd_terms.proofs.StayingTerms.{both_ok}
use Rattle.term_runner.proofs.Tidied.{made_behind, ok_whole, were_left}

not_refuted : (refuted : Bool) → refuted ≡ false → IsTrue refuted → ⊥
not_refuted refuted open_yet is = let e : false ≡ true = sym open_yet ∙ is in cc

torn_ok : (end : Result Bool TableError) → end ≡ Err WriteFault → (P : Bool → Type 0) → IfOk end P
torn_ok end is P = subst (λ (r : Result Bool TableError). IfOk r P) (sym is) tt

pub no_memory_limit : ◌≡◌ {A = TableError} OutOfMemory NodeLimit → ⊥
no_memory_limit is = cc

torn_limit : (end : Result Bool TableError) → end ≡ Err WriteFault → end ≡ Err NodeLimit → ⊥
torn_limit end is limit = no_nodes_left (same_error (sym limit ∙ is))

-- The clauses that a try retired are deleted. However that ends, nodes and numbers are as they were.
module _ {S : Type 0} (formula : Formula) (stage next : Stage) (old mid : StackedTerms S) (new : TableState S) (r : Result Bool TableError)
    (own : Tried formula stage next old mid r) (nodes : new.graph ≡ mid.table.graph)
    (top : new.book.state.top ≡ mid.table.book.state.top) where
  nodes_still : KeepsNodes old.table.graph new.graph
  nodes_still = subst (KeepsNodes old.table.graph) (sym nodes) own.nodes

  adds_still : AddsAtMost (most_additions (levels old.table.graph) + 1) old.table new
  adds_still = let few = own.adds in omega (arith, few, top, ap defining_clauses nodes)

  pairs_still : (width : ℕ) → HaveRoom old.caches width → HoldsAtMost formula old.table.graph.order stage next width
      → AddsAtMost (2 * (width * width) + 1) old.table new
  pairs_still width room most = let few = own.pairs width room most in omega (arith, few, top, ap defining_clauses nodes)

  made_still : KeepsOrMakes old.table.graph new.graph (IsGivenPart formula old.table.graph.order stage next)
  made_still = subst (λ (graph : Graph). KeepsOrMakes old.table.graph graph (IsGivenPart formula old.table.graph.order stage next))
      (sym nodes) own.made

  -- a write failed
  pub torn : (end : Result Bool TableError) → end ≡ Err WriteFault → Leaves old.table new (error_of end)
      → Tried formula stage next old (record mid { table = new }) end
  torn end is leaves = record {
    held = torn_ok end is _;
    refuted = torn_ok end is _;
    ready = λ whole. absurd (whole is);
    own = torn_ok end is _;
    unchanged = λ whole. absurd (whole is);
    again = λ limit. absurd (torn_limit end is limit);
    at_again = λ limit. absurd (torn_limit end is limit);
    leaves = leaves;
    no_empty = λ whole unrefuted. absurd (whole is);
    nodes = nodes_still;
    adds = adds_still;
    pairs = pairs_still;
    made = made_still;
    lacks = λ limit. absurd (torn_limit end is limit);
    sizes = own.sizes;
    left = own.left;
  }

  -- all are deleted
  module _ (fitting : Fitting S) (open_yet : IfOk r (λ refuted. refuted ≡ false))
      (done : new ≡ record mid.table { book = new.book; retired = [] })
      (gone : (id : ℕ) → Contains mid.table.retired id → clause_at new.book.state.live id ≡ None)
      (stay : (id : ℕ) → (Contains mid.table.retired id → ⊥) → clause_at new.book.state.live id
      ≡ clause_at mid.table.book.state.live id)
      (continues : Continues mid.table new) where
    none : new.retired ≡ []
    none = ap (λ (t : TableState S). t.retired) done

    inputs : new.inputs ≡ mid.table.inputs
    inputs = ap (λ (t : TableState S). t.inputs) done

    at_settled : (s : Stage) → HasOwnUnits mid → IsAtStage formula mid s → IsAtStage formula (record mid { table = new }) s
    at_settled s units at = record {
      held = held_settled formula mid.table new (all_entries mid.caches) nodes none stay (reverse mid.out.items) s.stack units.own at.held;
      kept = subst (λ (graph : Graph). IsTrail formula graph mid.trail s.trail) (sym nodes) at.kept;
    }

    own_settled : HasOwnUnits mid → HasOwnUnits (record mid { table = new })
    own_settled units = units_settled mid.table new (all_entries mid.caches) (reverse mid.out.items) nodes inputs none gone stay units

    pub settled : Leaves old.table new (error_of r) → Tried formula stage next old (record mid { table = new }) r
    settled leaves = record {
      held = both_ok r (λ refuted. refuted ≡ false → IsAtStage formula mid next) (λ refuted. refuted ≡ false → HasOwnUnits mid)
          (λ refuted. refuted ≡ false → IsAtStage formula (record mid { table = new }) next)
          (λ refuted at units is. at_settled next (units is) (at is)) own.held own.own;
      refuted = both_ok r (λ refuted. refuted ≡ false)
          (λ refuted. IsTrue refuted → (id : ℕ) × (clause_at mid.table.book.state.live id ≡ Some []))
          (λ refuted. IsTrue refuted → (id : ℕ) × (clause_at new.book.state.live id ≡ Some []))
          (λ refuted no was is. absurd (not_refuted refuted no is)) open_yet own.refuted;
      ready = λ whole. ready_settled formula mid.table new (all_entries mid.caches) nodes none stay fitting inputs continues.sound
          (own.ready whole);
      own = both_ok r (λ refuted. refuted ≡ false) (λ refuted. refuted ≡ false → HasOwnUnits mid)
          (λ refuted. refuted ≡ false → HasOwnUnits (record mid { table = new }))
          (λ refuted no units is. own_settled (units is)) open_yet own.own;
      unchanged = own.unchanged;
      again = λ limit. own_settled (own.again limit);
      at_again = λ limit. at_settled stage (own.again limit) (own.at_again limit);
      leaves = leaves;
      no_empty = λ whole unrefuted. further_empty old.table mid.table new (own.no_empty whole unrefuted)
          (fewer_empty mid.table new continues top);
      nodes = nodes_still;
      adds = adds_still;
      pairs = pairs_still;
      made = made_still;
      lacks = λ limit. subst (λ (graph : Graph). LacksOneOf graph (IsGivenPart formula old.table.graph.order stage next)) (sym nodes)
          (own.lacks limit);
      sizes = own.sizes;
      left = own.left;
    }

settled_ok : (r : Result Bool TableError) (P : Type 0) → ((r ≡ Ok false) ⊎ (r ≡ Err NodeLimit) → P) → IfOk r (λ refuted. refuted ≡ false → P)
settled_ok (Ok refuted) P from = λ is. from (inl (ap Ok is))
settled_ok (Err error) P from = tt

-- A try from this stage to the next costs no more than half of a move's price, and few nodes.
module _ {S : Type 0} (growth : Growth) (canonical : Canonical) (formula : Formula) (order : List ℕ) (stage next : Stage) (step : Move)
    (leads : after_move formula stage step ≡ Some next) (old new : StackedTerms S) (r : Result Bool TableError)
    (own : Tried formula stage next old new r) (same : old.table.graph.order ≡ order) where
  made_at : KeepsOrMakes old.table.graph new.table.graph (IsGivenPart formula order stage next)
  made_at = subst (λ (o : List ℕ). KeepsOrMakes old.table.graph new.table.graph (IsGivenPart formula o stage next)) same own.made

  half : (size width price : ℕ) → HaveSize old.caches size → IsMovePrice (length order) size width price
      → HoldsAtMost formula order stage next width → 2 * new.table.book.state.top ≤ 2 * old.table.book.state.top + price
  half size width price have is most =
      tried growth canonical formula order stage next step leads old.table new.table (error_of r) own.leaves own.nodes made_at width most
      (length order) size price (ap length same) is own.adds
      (λ room. own.pairs width (record { size = size; have = have; room = room })
      (subst (λ (o : List ℕ). HoldsAtMost formula o stage next width) (sym same) most))

  few : (width : ℕ) → HoldsAtMost formula order stage next width → live_nodes new.table.graph ≤ live_nodes old.table.graph + width
  few width most =
      tried_few growth canonical formula order stage next step leads old.table new.table (error_of r) own.leaves own.nodes made_at width most

-- the move is taken at once
pub moved_at_once : {S : Type 0} → Growth → Canonical → (formula : Formula) (stage next : Stage) (step : Move)
    → after_move formula stage step ≡ Some next → (old new : StackedTerms S) (r : Result Bool TableError)
    → ((r ≡ Ok false) ⊎ (r ≡ Err NodeLimit) → new.table.retired ≡ []) → (r ≡ Err NodeLimit → ⊥)
    → Tried formula stage next old new r → Moved formula stage next old new r
moved_at_once growth canonical formula stage next step leads old new r none open_yet own = record {
  held = own.held;
  refuted = own.refuted;
  ready = ok_whole r _ own.ready;
  settled = settled_ok r _ none;
  own = own.own;
  leaves = own.leaves;
  no_empty = own.no_empty;
  made = own.made;
  lacks = own.lacks;
  full = λ limit. absurd (open_yet limit);
  left = inl own.left;
  rule = inl (own.nodes, own.left);
  price = λ size width price have is most.
      let once = half growth canonical formula old.table.graph.order stage next step leads old new r own refl size width price have is most
      in
      omega (arith, once);
  few = λ none width most. inl (few growth canonical formula old.table.graph.order stage next step leads old new r own refl width most);
  sizes = own.sizes;
}

pub failed_with : (r : Result Bool TableError) (came : TableError) → r ≡ Err came → (P : Bool → Type 0) → IfOk r P
failed_with r came is P = subst (λ (r : Result Bool TableError). IfOk r P) (sym is) tt

-- At the limit of nodes those that no term reaches are given back.
module _ {S : Type 0} (growth : Growth) (canonical : Canonical) (steps : StepByStep S) (formula : Formula) (stage next : Stage) (step : Move)
    (leads : after_move formula stage step ≡ Some next) (old one mid : StackedTerms S)
    (first : Tried formula stage next old one (Err NodeLimit)) (top : mid.table.book.state.top ≡ one.table.book.state.top)
    (same : sizes mid.caches ≡ sizes one.caches) where
  begun : (size width price : ℕ) → HaveSize old.caches size → IsMovePrice (levels old.table.graph) size width price
      → HoldsAtMost formula old.table.graph.order stage next width → 2 * one.table.book.state.top ≤ 2 * old.table.book.state.top + price
  begun = half growth canonical formula old.table.graph.order stage next step leads old one (Err NodeLimit) first refl

  unrefuted_yet : AddsNoEmpty old.table one.table
  unrefuted_yet = first.no_empty (λ torn. no_nodes_left (same_error torn)) (λ is. no_error (sym is))

  due : WasDue old.table.graph (IsGivenPart formula old.table.graph.order stage next) old.table.max_nodes old.left
  due = due_at_limit old.table one.table (IsGivenPart formula old.table.graph.order stage next) old.left NodeLimit refl first.leaves
      first.made

  -- that is refused
  pub moved_refused : (r : Result Bool TableError) (came : TableError) → r ≡ Err came → (came ≡ OutOfMemory) ⊎ (came ≡ WriteFault)
      → Leaves one.table mid.table (Some came) → mid.table.graph ≡ one.table.graph → mid.left ≡ one.left
      → Moved formula stage next old mid r
  moved_refused r came is because leaves graph left = record {
    held = failed_with r came is _;
    refuted = failed_with r came is _;
    ready = subst (λ (r : Result Bool TableError). OnOk r (IsOpen formula mid)) (sym is) tt;
    settled = failed_with r came is _;
    own = failed_with r came is _;
    leaves = subst (λ (r : Result Bool TableError). Leaves old.table mid.table (error_of r)) (sym is)
        (steps.leave old.table one.table mid.table (Some came) first.leaves.0 leaves);
    no_empty = λ whole unrefuted. further_empty old.table one.table mid.table unrefuted_yet
        (fewer_left {T = ℕ} one.table mid.table (Err came) leaves (λ torn. whole (is ∙ ap Err (same_error torn))) top);
    made = subst (λ (graph : Graph). KeepsOrMakes old.table.graph graph (IsGivenPart formula old.table.graph.order stage next))
        (sym graph) first.made;
    lacks = λ limit. absurd (no_limit_here limit);
    full = λ limit. absurd (no_limit_here limit);
    left = inl (left ∙ first.left);
    rule = inr due;
    price = λ size width price have paid most. let once = begun size width price have paid most in omega (arith, once, top);
    few = λ none width most. subst (λ (graph : Graph). AddsFew (live_nodes old.table.graph) (live_nodes graph) width) (sym graph)
        (inl (few growth canonical formula old.table.graph.order stage next step leads old one (Err NodeLimit) first refl width most));
    sizes = same ∙ first.sizes;
  }
    where
      no_limit_here : r ≡ Err NodeLimit → ⊥
      no_limit_here limit = elim because [
        | inl memory ↦ no_memory_limit (sym memory ∙ same_error (sym is ∙ limit))
        | inr torn ↦ no_nodes_left (sym (same_error (sym is ∙ limit)) ∙ torn)
      ]

  -- and the move is tried once more
  module _ (law : Subfunctions) (ordered : IsOrder old.table.graph.order) (so_far : Continues one.table mid.table)
      (at : IsAtStage formula mid stage) (reached : LeavesReached one.table.graph mid.table.graph (held_nodes mid.out.items mid.trail.recent))
      (count : mid.left ≡ live_nodes mid.table.graph)
      (gone : keeps_trail old.table.max_nodes ≡ false → mid.trail.recent ≡ []) (new : StackedTerms S) (r : Result Bool TableError)
      (second : Tried formula stage next mid new r) where
    continues : Continues old.table mid.table
    continues = steps.go_on old.table one.table mid.table first.leaves.0 so_far

    made_last : KeepsOrMakes mid.table.graph new.table.graph (IsGivenPart formula old.table.graph.order stage next)
    made_last = made_at growth canonical formula old.table.graph.order stage next step leads mid new r second continues.order

    abbrev were : WereLeft (keeps_trail old.table.max_nodes) formula old.table.graph.order stage new.left
    were = were_left (keeps_trail old.table.max_nodes) formula one.table.graph mid.table.graph mid.table.book.state.live mid.out.items mid.trail stage
        old.table.graph.order _ at reached continues.order (second.left ∙ count) gone

    pub moved_again : ((r ≡ Ok false) ⊎ (r ≡ Err NodeLimit) → new.table.retired ≡ []) → Moved formula stage next old new r
    moved_again none = record {
      held = second.held;
      refuted = second.refuted;
      ready = ok_whole r _ second.ready;
      settled = settled_ok r _ none;
      own = second.own;
      leaves = steps.leave old.table mid.table new.table (error_of r) continues second.leaves;
      no_empty = λ whole unrefuted. further_empty old.table mid.table new.table
          (further_empty old.table one.table mid.table unrefuted_yet (fewer_empty one.table mid.table so_far top))
          (second.no_empty whole unrefuted);
      made = made_behind old.table.graph one.table.graph mid.table.graph new.table.graph (held_nodes mid.out.items mid.trail.recent)
          (IsGivenPart formula old.table.graph.order stage next) first.made reached made_last;
      lacks = λ limit. subst (λ (order : List ℕ). LacksOneOf new.table.graph (IsGivenPart formula order stage next)) continues.order
          (second.lacks limit);
      full = λ limit. (were, made_last);
      left = inr (inl were);
      rule = inr due;
      price = λ size width price have paid most.
          let once = begun size width price have paid most in
          let twice = half growth canonical formula old.table.graph.order stage next step leads mid new r second continues.order size width
          price (same ∙ first.sizes ∙ have) paid most in
          omega (arith, once, twice, top);
      few = λ none width most.
          let made = few growth canonical formula old.table.graph.order stage next step leads mid new r second continues.order width most in
          let left = few_left law canonical formula old.table.graph.order ordered stage next stage (λ term stacked. inl stacked) _
          (subst (λ (keeps : Bool). WereLeft keeps formula old.table.graph.order stage new.left) none were) width most in
          inr (omega (arith, made, left, second.left, count));
      sizes = second.sizes ∙ same ∙ first.sizes;
    }
