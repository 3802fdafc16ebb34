-- All equations taken, one after another, and the end.
use Rattle.std.proofs.Common.{◌≡◌, ◌≢◌, ◌∙◌, ◌<◌, ◌≤◌, ◌+◌, ◌++◌, ℕ, Bool, true, false, List, [], ◌∷◌, Some, Ok, Err}
use Rattle.std.proofs.Common.{Result}
use Rattle.std.proofs.Common.{length, map, refl, sym, subst, arith, inl, inr}
use Rattle.std.specs.Prelude.{IsErrAnd, IsTrue}
use Rattle.std.proofs.lemmas.List.Elements.{All-nil}
use Rattle.node_table.specs.declared.error.TableError.{TableError}
use Rattle.node_table.specs.declared.error.TableError.TheVariants.{NodeLimit, IdLimit, OutOfMemory, WriteFault}
use Rattle.node_table.specs.Diagram.{Graph}
use Rattle.node_table.specs.HandedOn.{no_error, same_answer, same_error}
use Rattle.node_table.specs.Laws.{StepByStep}
use Rattle.node_table.specs.Progress.{Continues, Leaves}
use Rattle.node_table.specs.Table.{live_nodes}
use Rattle.parity_equations.specs.Laws.{Independent}
use Rattle.bdd_terms.specs.declared.runner.Runner.{Runner}
use Rattle.bdd_terms.specs.Runner.{IsRunner}
use Rattle.parity_terms.specs.declared.row.Row.{Row}
use Rattle.parity_terms.specs.Ends.{Ends, ReleasesAll}
use Rattle.bdd_terms.specs.Full.{IsFull, LacksBehind}
use Rattle.parity_terms.specs.Order.{ArePlaces}
use Rattle.parity_terms.specs.Owned.{Owns}
use Rattle.parity_terms.specs.Rows.{AreReduced, Eliminates, IsRow, TakesEquation, held_of, place_in, vector_of}
use Rattle.parity_terms.specs.Steps.{Keeps}
use Rattle.parity_terms.proofs.EquationTaken.{other_whole}
use Rattle.parity_terms.proofs.InOrder.{place_some}
use Rattle.parity_terms.proofs.Owned.{none_owned}
use Rattle.parity_terms.proofs.Stepped.{ids_whole, memory_whole, nodes_whole}
use Rattle.parity_terms.proofs.Taken.{keeps_further, keeps_itself, keeps_none}

-- These equations are taken.
pub record AreTaken {S : Type 0} (places : List ℕ) (equations : List (List ℕ × Bool)) (rows : List Row) (old now : Runner S) : Type 0 where
  pub runner : IsRunner now
  pub owns : Owns (map held_of rows) now.terms.out.items
  pub keeps : Keeps [] old now
  pub unrefuted : now.refuted ≡ false
  pub reduced : AreReduced now places rows equations
  pub continues : Continues old.terms.table now.terms.table

module _ {S : Type 0} (steps : StepByStep S) (places : List ℕ) (old : Runner S) where
  pub taken_none : (rows : List Row) → IsRunner old → length old.terms.out.items ≡ 0 → old.refuted ≡ false → rows ≡ []
      → AreTaken places [] rows old old
  taken_none rows runner none_out unrefuted none = subst (λ (list : List Row). AreTaken places [] list old old) (sym none) (record {
    runner = runner;
    owns = none_owned old.terms.out.items none_out;
    keeps = keeps_itself old;
    unrefuted = unrefuted;
    reduced = record { each = All-nil (IsRow old places); firsts = []; echelon = tt; spanned = tt };
    continues = (steps.none old.terms.table runner.over.sound).leaves;
  })

  module _ (equations : List (List ℕ × Bool)) (rows : List Row) (mid : Runner S) (taken : AreTaken places equations rows old mid)
      (equation : List ℕ × Bool) (after : List Row) (new : Runner S) where
    same_keeps : Keeps (map held_of rows) mid new → Keeps [] old new
    same_keeps keeps = keeps_further steps [] old mid new taken.keeps (keeps_none (map held_of rows) mid new keeps)

    -- one more
    pub taken_more : TakesEquation places equation rows after mid new (Ok false)
        → AreTaken places (equations ++ equation ∷ []) after old new
    taken_more takes = record {
      runner = takes.goes_on no_error;
      owns = takes.owns no_error;
      keeps = same_keeps (takes.keeps no_error);
      unrefuted = takes.refuted;
      reduced = takes.reduced equations taken.reduced refl;
      continues = steps.go_on old.terms.table mid.terms.table new.terms.table taken.continues takes.leaves;
    }

    -- the empty clause came
    pub taken_refuted : (all : List (List ℕ × Bool)) → TakesEquation places equation rows after mid new (Ok true)
        → Eliminates all after old new (Ok true)
    taken_refuted all takes = record {
      goes_on = λ whole. takes.goes_on no_error;
      owns = λ whole. takes.owns no_error;
      same = λ whole. same_keeps (takes.keeps no_error);
      refuted = takes.refuted;
      independent = λ none. absurd (let e : true ≡ false = none in cc);
      leaves = steps.go_on old.terms.table mid.terms.table new.terms.table taken.continues takes.leaves;
    }

    -- it broke off
    pub taken_error : (all : List (List ℕ × Bool)) (came : TableError) (result : Result Bool TableError) → IsErrAnd result (λ e. e ≡ came)
        → TakesEquation places equation rows after mid new (Err came) → Eliminates all after old new result
    taken_error all came (Ok refuted) is takes = absurd is
    taken_error all came (Err error) is takes = record {
      goes_on = λ whole. takes.goes_on (other_whole came error is whole);
      owns = λ whole. takes.owns (other_whole came error is whole);
      same = λ whole. same_keeps (takes.keeps (other_whole came error is whole));
      refuted = tt;
      independent = tt;
      leaves = subst (λ (e : TableError). Leaves old.terms.table new.terms.table (Some e)) (sym is)
          (steps.leave old.terms.table mid.terms.table new.terms.table (Some came) taken.continues takes.leaves);
    }

  -- all are taken: they aren't in conflict
  pub taken_all : Independent → (equations : List (List ℕ × Bool)) (rows : List Row) (new : Runner S)
      → AreTaken places equations rows old new → ArePlaces old.terms.table.graph.order places → Eliminates equations rows old new (Ok false)
  taken_all independent equations rows new taken inverse = record {
    goes_on = λ whole. taken.runner;
    owns = λ whole. taken.owns;
    same = λ whole. taken.keeps;
    refuted = taken.unrefuted;
    independent = λ none.
        independent (place_in new.terms.table.graph.order) (map vector_of rows) taken.reduced.firsts equations
        (place_some new.terms.table.graph.order places taken.runner.over.sound.tied.ordered
        (subst (λ (order : List ℕ). ArePlaces order places) (sym taken.keeps.order) inverse))
        taken.reduced.echelon taken.reduced.spanned;
    leaves = taken.continues;
  }

  -- nothing was done for want of memory
  pub taken_memory : (equations : List (List ℕ × Bool)) (rows : List Row) (new : Runner S) → AreTaken places [] rows old old
      → (result : Result Bool TableError) → result ≡ Err OutOfMemory → Eliminates equations rows old old result
  taken_memory equations rows new taken (Ok refuted) is = absurd (no_error is)
  taken_memory equations rows new taken (Err error) is = record {
    goes_on = λ whole. taken.runner;
    owns = λ whole. taken.owns;
    same = λ whole. taken.keeps;
    refuted = tt;
    independent = tt;
    leaves = subst (λ (e : TableError). Leaves old.terms.table old.terms.table (Some e)) (sym (same_error is)) taken.continues;
  }

-- the end: the rows' terms are released
module _ {S : Type 0} (steps : StepByStep S) (equations : List (List ℕ × Bool)) (rows : List Row) (old mid : Runner S) where
  pub runner_left : (found : Result Bool TableError) → Eliminates equations rows old mid found → IsTrue mid.terms.table.book.in_step
      → IsRunner mid
  runner_left (Ok refuted) all on = all.goes_on no_error
  runner_left (Err NodeLimit) all on = all.goes_on nodes_whole
  runner_left (Err IdLimit) all on = all.goes_on ids_whole
  runner_left (Err OutOfMemory) all on = all.goes_on memory_whole
  runner_left (Err WriteFault) all on = absurd (let e : true ≡ false = sym on ∙ all.leaves.out_of_step in cc)

  pub owns_left : (found : Result Bool TableError) → Eliminates equations rows old mid found → IsTrue mid.terms.table.book.in_step
      → Owns (map held_of rows) mid.terms.out.items
  owns_left (Ok refuted) all on = all.owns no_error
  owns_left (Err NodeLimit) all on = all.owns nodes_whole
  owns_left (Err IdLimit) all on = all.owns ids_whole
  owns_left (Err OutOfMemory) all on = all.owns memory_whole
  owns_left (Err WriteFault) all on = absurd (let e : true ≡ false = sym on ∙ all.leaves.out_of_step in cc)

  module _ (new : Runner S) (released : IsTrue mid.terms.table.book.in_step → ReleasesAll mid new)
      (torn : mid.terms.table.book.in_step ≡ false → new ≡ mid) where
    all_released : IsRunner mid → ReleasesAll mid new
    all_released runner = released runner.over.sound.in_step

    full_yet : ReleasesAll mid new → mid.terms.table.max_nodes ≤ live_nodes mid.terms.table.graph
        → new.terms.table.max_nodes ≤ live_nodes new.terms.table.graph
    full_yet one full = subst (λ (n : ℕ). n ≤ live_nodes new.terms.table.graph) (sym one.continues.max_nodes)
        (subst (λ (graph : Graph). mid.terms.table.max_nodes ≤ live_nodes graph) (sym one.graph) full)

    used_yet : ReleasesAll mid new → mid.terms.table.book.limit < mid.terms.table.book.state.top + 4
        → new.terms.table.book.limit < new.terms.table.book.state.top + 4
    used_yet one used = let less = one.continues.no_less in let same = one.continues.limit in omega (arith, used, less, same)

    pub is_full : ReleasesAll mid new → IsFull mid → IsFull new
    is_full one full = record {
      full = full_yet one full.full;
      wanted = subst (λ (graph : Graph). LacksBehind graph) (sym one.graph) full.wanted;
    }

    -- but for the limit of nodes the answer is as it was found
    module _ (found : Result Bool TableError) (other : found ≢ Err NodeLimit) (all : Eliminates equations rows old mid found) where
      whole_error : (error : TableError) → found ≡ Err error → ◌≢◌ {A = Result Bool TableError} (Err error) (Err WriteFault)
          → Leaves old.terms.table new.terms.table (Some error) → Ends equations old new found
      whole_error error is whole leaves =
          let here : Eliminates equations rows old mid (Err error) =
          subst (λ (r : Result Bool TableError). Eliminates equations rows old mid r) is all in
          let one = all_released (here.goes_on whole) in
          subst (λ (r : Result Bool TableError). Ends equations old new r) (sym is) (record {
            goes_on = λ w. one.runner;
            none_out = λ w. one.none_out;
            refuted = tt;
            decided = λ same. absurd (no_error (sym same));
            keeps = λ w. keeps_further steps [] old mid new (here.same w) one.keeps;
            no_node_limit = λ same. other (is ∙ same);
            leaves = leaves;
          })

      pub ends_found : Ends equations old new found
      ends_found = by_cases found refl
        where
          by_cases : (r : Result Bool TableError) → found ≡ r → Ends equations old new found
          by_cases (Ok refuted) is =
              let here : Eliminates equations rows old mid (Ok refuted) =
              subst (λ (r : Result Bool TableError). Eliminates equations rows old mid r) is all in
              let one = all_released (here.goes_on no_error) in
              subst (λ (r : Result Bool TableError). Ends equations old new r) (sym is) (record {
                goes_on = λ w. one.runner;
                none_out = λ w. one.none_out;
                refuted = one.refuted ∙ here.refuted;
                decided = λ same. inl (here.independent (same_answer same));
                keeps = λ w. keeps_further steps [] old mid new (here.same w) one.keeps;
                no_node_limit = no_error;
                leaves = steps.go_on old.terms.table mid.terms.table new.terms.table here.leaves one.continues;
              })
          by_cases (Err NodeLimit) is = absurd (other is)
          by_cases (Err IdLimit) is =
              let here : Eliminates equations rows old mid (Err IdLimit) =
              subst (λ (r : Result Bool TableError). Eliminates equations rows old mid r) is all in
              let one = all_released (here.goes_on ids_whole) in
              whole_error IdLimit is ids_whole
              (steps.go_on old.terms.table mid.terms.table new.terms.table here.leaves.0 one.continues, used_yet one here.leaves.1)
          by_cases (Err OutOfMemory) is =
              let here : Eliminates equations rows old mid (Err OutOfMemory) =
              subst (λ (r : Result Bool TableError). Eliminates equations rows old mid r) is all in
              let one = all_released (here.goes_on memory_whole) in
              whole_error OutOfMemory is memory_whole
              (steps.go_on old.terms.table mid.terms.table new.terms.table here.leaves one.continues)
          by_cases (Err WriteFault) is =
              let here : Eliminates equations rows old mid (Err WriteFault) =
              subst (λ (r : Result Bool TableError). Eliminates equations rows old mid r) is all in
              subst (λ (r : Result Bool TableError). Ends equations old new r) (sym is) (record {
                goes_on = λ w. absurd (w refl);
                none_out = λ w. absurd (w refl);
                refuted = tt;
                decided = λ same. absurd (no_error (sym same));
                keeps = λ w. absurd (w refl);
                no_node_limit = λ same. other (is ∙ same);
                leaves = subst (λ (r : Runner S). Leaves old.terms.table r.terms.table (Some WriteFault))
                    (sym (torn here.leaves.out_of_step)) here.leaves;
              })

    -- the limit of nodes ended it
    pub ends_limit : (found : Result Bool TableError) → found ≡ Err NodeLimit → Eliminates equations rows old mid found → IsFull mid
        → Ends equations old new (Ok new.refuted)
    ends_limit found is all full =
        let here : Eliminates equations rows old mid (Err NodeLimit) =
        subst (λ (r : Result Bool TableError). Eliminates equations rows old mid r) is all in
        let one = all_released (here.goes_on nodes_whole) in
        record {
          goes_on = λ w. one.runner;
          none_out = λ w. one.none_out;
          refuted = refl;
          decided = λ same. inr (is_full one full);
          keeps = λ w. keeps_further steps [] old mid new (here.same nodes_whole) one.keeps;
          no_node_limit = no_error;
          leaves = steps.go_on old.terms.table mid.terms.table new.terms.table here.leaves.0 one.continues;
        }
