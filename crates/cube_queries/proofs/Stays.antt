-- What the calls of a runner leave of the terms that may be taken, and one call behind another.
use Rattle.std.proofs.Common.{◌≡◌, ◌∙◌, ◌<◌, ◌≤◌, ◌+◌, ℕ, zero, suc, Bool, true, false, List, [], ◌∷◌, length, get_or}
use Rattle.std.proofs.Common.{Contains, Option, None, Some, Ok, Err, Result}
use Rattle.std.proofs.Common.{refl, sym, ap, subst, arith, inl, inr}
use Rattle.std.specs.Prelude.{IsTrue}
use Rattle.std.specs.Option.{option_to_list}
use Rattle.std.proofs.lemmas.List.Elements.{Contains-append_left}
use Rattle.node_table.specs.declared.error.TableError.{TableError}
use Rattle.node_table.specs.declared.error.TableError.TheVariants.{NodeLimit, IdLimit, OutOfMemory, WriteFault}
use Rattle.node_table.specs.Diagram.{is_node}
use Rattle.node_table.specs.HandedOn.{no_error, same_error}
use Rattle.node_table.specs.Laws.{StepByStep}
use Rattle.node_table.specs.Progress.{Leaves}
use Rattle.node_table.specs.Table.{TableState, live_nodes}
use Rattle.node_table.specs.Value.{by_level, value_of}
use Rattle.bdd_terms.specs.declared.held.HeldTerm.{HeldTerm}
use Rattle.bdd_terms.specs.declared.runner.Runner.{Runner}
use Rattle.bdd_terms.specs.Runner.{IsGood, IsRunner, Releases, nodes_of}
use Rattle.bdd_terms.specs.Tidy.{LeavesReached}
use Rattle.cube_queries.specs.Steps.{GivesBack, Goes, KeepsTerms}

-- other errors than a failed write
pub memory_whole : {T : Type 0} → ◌≡◌ {A = Result T TableError} (Err OutOfMemory) (Err WriteFault) → ⊥
memory_whole is = let e : OutOfMemory ≡ WriteFault = same_error is in cc

pub nodes_whole : {T : Type 0} → ◌≡◌ {A = Result T TableError} (Err NodeLimit) (Err WriteFault) → ⊥
nodes_whole is = let e : NodeLimit ≡ WriteFault = same_error is in cc

pub ids_whole : {T : Type 0} → ◌≡◌ {A = Result T TableError} (Err IdLimit) (Err WriteFault) → ⊥
ids_whole is = let e : IdLimit ≡ WriteFault = same_error is in cc

-- where the list is as it was
pub good_same : {S : Type 0} (old new : Runner S) → new.terms.out.items ≡ old.terms.out.items → (other : HeldTerm) → IsGood old other
    → IsGood new other
good_same old new same other (inl is) = inl is
good_same old new same other (inr among) = inr (subst (λ (l : List HeldTerm). Contains l other) (sym same) among)

pub good_stands : {S : Type 0} (runner : Runner S) → IsRunner runner → (held : HeldTerm) → IsGood runner held
    → IsTrue (is_node runner.terms.table.graph held.node)
good_stands runner is held (inl same) = subst (λ (h : HeldTerm). IsTrue (is_node runner.terms.table.graph h.node)) (sym same) refl
good_stands runner is held (inr among) =
    (is.proved held (Contains-append_left runner.terms.out.items (option_to_list runner.kept) held among)).stands

-- the node of a term on a list
node_at : (list : List HeldTerm) (held : HeldTerm) (k : ℕ) → k < length list → get_or list k held ≡ held
    → (k < length (nodes_of list)) × (get_or (nodes_of list) k held.node ≡ held.node)
node_at [] held k small at = absurd (omega (arith, small))
node_at (first ∷ list) held zero small at = (omega arith, ap (λ (h : HeldTerm). h.node) at)
node_at (first ∷ list) held (suc k) small at =
    let rest = node_at list held k (omega (arith, small)) at in (omega (arith, rest.0), rest.1)

node_among : (list : List HeldTerm) (held : HeldTerm) → Contains list held → Contains (nodes_of list) held.node
node_among list held among = let at = node_at list held among.0 among.1 among.2 in (among.0, at.0, at.1)

-- what a reclamation leaves
module _ {S : Type 0} (old new : Runner S) (reached : LeavesReached old.terms.table.graph new.terms.table.graph
    (nodes_of old.terms.out.items))
    (same : new.terms.out.items ≡ old.terms.out.items) where
  reached_stands : (held : HeldTerm) → IsGood old held → IsTrue (is_node new.terms.table.graph held.node)
  reached_stands held (inl is) = subst (λ (h : HeldTerm). IsTrue (is_node new.terms.table.graph h.node)) (sym is) refl
  reached_stands held (inr among) = reached.stand held.node (node_among old.terms.out.items held among)

  pub keeps_reached : KeepsTerms old new
  keeps_reached = record {
    good = good_same old new same;
    values = λ held is a.
        reached.value (by_level new.terms.table.graph.order a) held.node (reached_stands held is)
        ∙ (λ i. value_of old.terms.table.graph (by_level (reached.order i) a) held.node);
  }

-- where the graph and the terms are as they were
pub keeps_same : {S : Type 0} (old new : Runner S) → new.terms.table.graph ≡ old.terms.table.graph
    → ((held : HeldTerm) → IsGood old held → IsGood new held) → KeepsTerms old new
keeps_same old new same good = record {
  good = good;
  values = λ held is a. (λ i. value_of (same i) (by_level (same i).order a) held.node);
}

pub keeps_further : {S : Type 0} (old mid new : Runner S) → KeepsTerms old mid → KeepsTerms mid new → KeepsTerms old new
keeps_further old mid new one other = record {
  good = λ held is. other.good held (one.good held is);
  values = λ held is a. other.values held (one.good held is) a ∙ one.values held is a;
}

-- between two calls: the terms that were out are, with their values
pub record Stays {S : Type 0} (old new : Runner S) : Type 0 where
  pub runner : IsRunner new
  pub out : new.terms.out.items ≡ old.terms.out.items
  pub keeps : KeepsTerms old new
  pub goes : Goes old new None

module _ {S : Type 0} (steps : StepByStep S) (old mid new : Runner S) where
  pub goes_further : (error : Option TableError) → Goes old mid None → Goes mid new error → Goes old new error
  goes_further error one other = record {
    formula = other.formula ∙ one.formula;
    limits = other.limits ∙ one.limits;
    order = other.order ∙ one.order;
    origin = other.origin ∙ one.origin;
    leaves = steps.leave old.terms.table mid.terms.table new.terms.table error one.leaves other.leaves;
  }

  pub stays_further : Stays old mid → Stays mid new → Stays old new
  stays_further one other = record {
    runner = other.runner;
    out = other.out ∙ one.out;
    keeps = keeps_further old mid new one.keeps other.keeps;
    goes = goes_further None one.goes other.goes;
  }

-- a reclamation
pub stays_back : {S T : Type 0} (old new : Runner S) (answer : T) → GivesBack old new (Ok answer) → Stays old new
stays_back old new answer back = record {
  runner = back.goes_on no_error;
  out = back.out;
  keeps = back.keeps no_error;
  goes = back.goes;
}

-- a term was released, or a write failed before
module _ {S : Type 0} (steps : StepByStep S) (old mid new : Runner S) (held : HeldTerm)
    (released : IsTrue mid.terms.table.book.in_step → Releases held mid new)
    (torn : mid.terms.table.book.in_step ≡ false → new ≡ mid) where
  pub leaves_released : (error : Option TableError) → Leaves old.terms.table mid.terms.table error
      → Leaves old.terms.table new.terms.table error
  leaves_released None leaves =
      steps.go_on old.terms.table mid.terms.table new.terms.table leaves (released leaves.sound.in_step).continues
  leaves_released (Some NodeLimit) leaves =
      let one = released leaves.0.sound.in_step in (
        steps.go_on old.terms.table mid.terms.table new.terms.table leaves.0 one.continues,
        subst (λ (t : TableState S). t.max_nodes ≤ live_nodes t.graph) (sym one.table) leaves.1,
      )
  leaves_released (Some IdLimit) leaves =
      let one = released leaves.0.sound.in_step in (
        steps.go_on old.terms.table mid.terms.table new.terms.table leaves.0 one.continues,
        subst (λ (t : TableState S). t.book.limit < t.book.state.top + 4) (sym one.table) leaves.1,
      )
  leaves_released (Some OutOfMemory) leaves =
      steps.go_on old.terms.table mid.terms.table new.terms.table leaves (released leaves.sound.in_step).continues
  leaves_released (Some WriteFault) leaves =
      subst (λ (r : Runner S). Leaves old.terms.table r.terms.table (Some WriteFault)) (sym (torn leaves.out_of_step)) leaves

  -- the formula, the limits, the order and the sink stay either way
  stay_over : (b : Bool) → mid.terms.table.book.in_step ≡ b → (error : Option TableError) → Goes old mid error → Goes old new error
  stay_over true on error goes =
      let one = released on in
      record {
        formula = one.formula ∙ goes.formula;
        limits = one.limits ∙ goes.limits;
        order = ap (λ (t : TableState S). t.graph.order) one.table ∙ goes.order;
        origin = one.origin ∙ goes.origin;
        leaves = leaves_released error goes.leaves;
      }
  stay_over false off error goes = subst (λ (r : Runner S). Goes old r error) (sym (torn off)) goes

  pub goes_released : (error : Option TableError) → Goes old mid error → Goes old new error
  goes_released error goes = stay_over mid.terms.table.book.in_step refl error goes
