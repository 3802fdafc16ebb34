-- A step behind which a term is released, however it ends.
use Rattle.std.proofs.Common.{◌≡◌, ◌≢◌, ◌∙◌, ◌<◌, ◌≤◌, ◌+◌, ◌++◌, Bool, true, false, List, [], ◌∷◌, Contains, Some, Ok}
use Rattle.std.proofs.Common.{Err, Result}
use Rattle.std.proofs.Common.{refl, sym, subst, arith}
use Rattle.std.specs.Prelude.{IsTrue}
use Rattle.std.proofs.lemmas.List.Elements.{Contains-append_left, Contains-append_right}
use Rattle.cnf_base.specs.Truth.{Assignment}
use Rattle.node_table.specs.declared.error.TableError.{TableError}
use Rattle.node_table.specs.declared.error.TableError.TheVariants.{NodeLimit, IdLimit, OutOfMemory, WriteFault}
use Rattle.node_table.specs.HandedOn.{no_error, same_error}
use Rattle.node_table.specs.Laws.{StepByStep}
use Rattle.node_table.specs.Progress.{Leaves}
use Rattle.node_table.specs.Table.{TableState, live_nodes}
use Rattle.bdd_terms.specs.declared.held.HeldTerm.{HeldTerm}
use Rattle.bdd_terms.specs.declared.runner.Runner.{Runner}
use Rattle.bdd_terms.specs.declared.term.Term.{Term}
use Rattle.bdd_terms.specs.Runner.{IsRunner, Releases}
use Rattle.parity_terms.specs.Owned.{Owns}
use Rattle.parity_terms.specs.Steps.{Goes, Keeps, Takes, with_given}
use Rattle.parity_terms.proofs.Owned.{owns_last, owns_with}
use Rattle.parity_terms.proofs.Taken.{among_more, goes_released, keeps_fewer, keeps_further}

-- errors that are no failed write
pub nodes_whole : {T : Type 0} → ◌≢◌ {A = Result T TableError} (Err NodeLimit) (Err WriteFault)
nodes_whole is = let e : NodeLimit ≡ WriteFault = same_error is in cc

pub ids_whole : {T : Type 0} → ◌≢◌ {A = Result T TableError} (Err IdLimit) (Err WriteFault)
ids_whole is = let e : IdLimit ≡ WriteFault = same_error is in cc

pub memory_whole : {T : Type 0} → ◌≢◌ {A = Result T TableError} (Err OutOfMemory) (Err WriteFault)
memory_whole is = let e : OutOfMemory ≡ WriteFault = same_error is in cc

-- what a step leaves where the runner is in step with its proof
module _ {S : Type 0} (old new : Runner S) (holds : Assignment → Bool) (terms : List HeldTerm) where
  whole_in_step : (result : Result Term TableError) → Takes terms holds old new result → IsTrue new.terms.table.book.in_step
      → result ≢ Err WriteFault
  whole_in_step (Ok term) takes on is = no_error is
  whole_in_step (Err NodeLimit) takes on is = nodes_whole is
  whole_in_step (Err IdLimit) takes on is = ids_whole is
  whole_in_step (Err OutOfMemory) takes on is = memory_whole is
  whole_in_step (Err WriteFault) takes on is = let e : true ≡ false = sym on ∙ takes.leaves.out_of_step in cc

  pub runner_behind : (result : Result Term TableError) → Takes terms holds old new result → IsTrue new.terms.table.book.in_step
      → IsRunner new
  runner_behind result takes on = takes.goes_on (whole_in_step result takes on)

  pub owns_behind : (result : Result Term TableError) → Takes terms holds old new result → IsTrue new.terms.table.book.in_step
      → Owns (with_given terms result) new.terms.out.items
  owns_behind result takes on = takes.owns (whole_in_step result takes on)

  pub among_given : (result : Result Term TableError) (held : HeldTerm) → Contains terms held → Contains (with_given terms result) held
  among_given (Ok term) held there = among_more held term.held terms there
  among_given (Err error) held there = there

-- the limit of nodes was met in step
pub step_behind : {S : Type 0} (terms : List HeldTerm) (holds : Assignment → Bool) (old new : Runner S) (found : Result Term TableError)
    → Takes terms holds old new found → found ≡ Err NodeLimit → IsTrue new.terms.table.book.in_step
step_behind terms holds old new found takes limit =
    ((subst (λ (r : Result Term TableError). Takes terms holds old new r) limit takes).goes_on nodes_whole).over.sound.in_step

-- the terms before the last one
keeps_before : {S : Type 0} (held : HeldTerm) (terms : List HeldTerm) (old new : Runner S) → Keeps (terms ++ held ∷ []) old new
    → Keeps terms old new
keeps_before held terms old new keeps = record {
  formula = keeps.formula;
  limits = keeps.limits;
  sizes = keeps.sizes;
  order = keeps.order;
  origin = keeps.origin;
  refuted = keeps.refuted;
  stand = λ one there. keeps.stand one (Contains-append_left terms (held ∷ []) one there);
  values = λ one there. keeps.values one (Contains-append_left terms (held ∷ []) one there);
}

module _ {S : Type 0} (steps : StepByStep S) (old mid new : Runner S) (held : HeldTerm) (terms : List HeldTerm) (holds : Assignment → Bool)
    (releases : IsTrue mid.terms.table.book.in_step → Releases held mid new) (torn : mid.terms.table.book.in_step ≡ false → new ≡ mid)
  where
    -- a term was given
    released_found : (term : Term) → Takes (held ∷ terms) holds old mid (Ok term) → Takes terms holds old new (Ok term)
    released_found term takes =
        let runner = takes.goes_on no_error in
        let others = terms ++ term.held ∷ [] in
        let goes : Goes others mid new =
        goes_released mid new runner held others
        (owns_with term.held (held ∷ terms) mid.terms.out.items (takes.owns no_error)) (releases runner.over.sound.in_step) in
        let here : Contains others term.held =
        Contains-append_right terms (term.held ∷ []) term.held (0, omega arith, refl) in
        record {
          goes_on = λ whole. goes.runner;
          stands = goes.keeps.stand term.held here;
          value = λ a. goes.keeps.values term.held here a ∙ takes.value a;
          owns = λ whole. owns_last term.held terms new.terms.out.items goes.owns;
          refutes = λ none. goes.keeps.refuted (takes.refutes none);
          unrefuted = λ whole some. goes.refuted ∙ takes.unrefuted whole some;
          keeps = λ whole. keeps_further steps terms old mid new (keeps_fewer held terms old mid (takes.keeps whole))
              (keeps_before term.held terms mid new goes.keeps);
          leaves = steps.go_on old.terms.table mid.terms.table new.terms.table takes.leaves goes.continues;
        }

    -- or none was
    released_refused : (error : TableError) → ◌≢◌ {A = Result Term TableError} (Err error) (Err WriteFault)
        → Takes (held ∷ terms) holds old mid (Err error)
        → (Goes terms mid new → Leaves old.terms.table new.terms.table (Some error)) → Takes terms holds old new (Err error)
    released_refused error whole takes leaves =
        let runner = takes.goes_on whole in
        let goes : Goes terms mid new = goes_released mid new runner held terms (takes.owns whole) (releases runner.over.sound.in_step) in
        record {
          goes_on = λ w. goes.runner;
          stands = tt;
          value = tt;
          owns = λ w. goes.owns;
          refutes = tt;
          unrefuted = λ w some. goes.refuted ∙ takes.unrefuted w tt;
          keeps = λ w. keeps_further steps terms old mid new (keeps_fewer held terms old mid (takes.keeps w)) goes.keeps;
          leaves = leaves goes;
        }

    pub takes_released : (result : Result Term TableError) → Takes (held ∷ terms) holds old mid result → Takes terms holds old new result
    takes_released (Ok term) takes = released_found term takes
    takes_released (Err NodeLimit) takes = released_refused NodeLimit nodes_whole takes
        (λ goes. (
          steps.go_on old.terms.table mid.terms.table new.terms.table takes.leaves.0 goes.continues,
          subst (λ (t : TableState S). t.max_nodes ≤ live_nodes t.graph)
              (sym (releases (takes.goes_on nodes_whole).over.sound.in_step).table) takes.leaves.1,
        ))
    takes_released (Err IdLimit) takes = released_refused IdLimit ids_whole takes
        (λ goes. (
          steps.go_on old.terms.table mid.terms.table new.terms.table takes.leaves.0 goes.continues,
          subst (λ (t : TableState S). t.book.limit < t.book.state.top + 4)
              (sym (releases (takes.goes_on ids_whole).over.sound.in_step).table) takes.leaves.1,
        ))
    takes_released (Err OutOfMemory) takes = released_refused OutOfMemory memory_whole takes
        (λ goes. steps.go_on old.terms.table mid.terms.table new.terms.table takes.leaves goes.continues)
    takes_released (Err WriteFault) takes = record {
      goes_on = λ whole. absurd (whole refl);
      stands = tt;
      value = tt;
      owns = λ whole. absurd (whole refl);
      refutes = tt;
      unrefuted = λ whole. absurd (whole refl);
      keeps = λ whole. absurd (whole refl);
      leaves = subst (λ (r : Runner S). Leaves old.terms.table r.terms.table (Some WriteFault)) (sym (torn takes.leaves.out_of_step))
          takes.leaves;
    }
