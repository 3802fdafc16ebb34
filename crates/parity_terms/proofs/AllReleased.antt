-- The terms of rows, released one by one, the last one first.
use Rattle.std.proofs.Common.{◌≡◌, ◌∙◌, ◌++◌, true, false, List, [], ◌∷◌, map, refl, sym, ap, subst, arith, inl, inr}
use Rattle.std.specs.Prelude.{IsTrue}
use Rattle.std.proofs.lemmas.Bool.{cases_Bool}
use Rattle.node_table.specs.Laws.{StepByStep}
use Rattle.node_table.specs.Progress.{Continues}
use Rattle.bdd_terms.specs.declared.held.HeldTerm.{HeldTerm}
use Rattle.bdd_terms.specs.declared.runner.Runner.{Runner}
use Rattle.bdd_terms.specs.Runner.{IsGood, IsRunner, Releases}
use Rattle.parity_terms.specs.declared.row.Row.{Row}
use Rattle.parity_terms.specs.Ends.{ReleasesAll}
use Rattle.parity_terms.specs.Owned.{Owns}
use Rattle.parity_terms.specs.Rows.{held_of}
use Rattle.parity_terms.specs.Steps.{Goes, Keeps}
use Rattle.parity_terms.proofs.Owned.{owned_good, owns_last, owns_none}
use Rattle.parity_terms.proofs.Reduced.{map_with}
use Rattle.parity_terms.proofs.Taken.{goes_released, keeps_further, keeps_itself, keeps_none}

-- Those of these rows are left.
pub record AreLeft {S : Type 0} (rows : List Row) (old now : Runner S) : Type 0 where
  pub runner : IsRunner now
  pub owns : Owns (map held_of rows) now.terms.out.items
  pub refuted : now.refuted ≡ old.refuted
  pub keeps : Keeps [] old now
  pub graph : now.terms.table.graph ≡ old.terms.table.graph
  pub continues : Continues old.terms.table now.terms.table

module _ {S : Type 0} (steps : StepByStep S) (old : Runner S) where
  pub left_all : (rows : List Row) → IsRunner old → Owns (map held_of rows) old.terms.out.items → AreLeft rows old old
  left_all rows runner owns = record {
    runner = runner;
    owns = owns;
    refuted = refl;
    keeps = keeps_itself old;
    graph = refl;
    continues = (steps.none old.terms.table runner.over.sound).leaves;
  }

  pub left_fewer : (rows front : List Row) (row : Row) (mid new : Runner S) → rows ≡ front ++ row ∷ [] → AreLeft rows old mid
      → Releases (held_of row) mid new → AreLeft front old new
  left_fewer rows front row mid new is left releases =
      let held : map held_of rows ≡ map held_of front ++ held_of row ∷ [] = ap (map held_of) is ∙ map_with held_of front row in
      let owns : Owns (held_of row ∷ map held_of front) mid.terms.out.items =
      owns_last (held_of row) (map held_of front) mid.terms.out.items
      (subst (λ (terms : List HeldTerm). Owns terms mid.terms.out.items) held left.owns) in
      let goes : Goes (map held_of front) mid new = goes_released mid new left.runner (held_of row) (map held_of front) owns releases in
      record {
        runner = goes.runner;
        owns = goes.owns;
        refuted = goes.refuted ∙ left.refuted;
        keeps = keeps_further steps [] old mid new left.keeps (keeps_none (map held_of front) mid new goes.keeps);
        graph = ap (λ t. t.graph) releases.table ∙ left.graph;
        continues = steps.go_on old.terms.table mid.terms.table new.terms.table left.continues goes.continues;
      }

  pub left_none : (rows : List Row) (new : Runner S) → rows ≡ [] → AreLeft rows old new → ReleasesAll old new
  left_none rows new is left = record {
    runner = left.runner;
    none_out = owns_none new.terms.out.items
        (subst (λ (list : List Row). Owns (map held_of list) new.terms.out.items) is left.owns);
    refuted = left.refuted;
    keeps = left.keeps;
    graph = left.graph;
    continues = left.continues;
  }

-- the runner is in step with its proof exactly where it was
pub left_yet : {S : Type 0} (rows : List Row) (old mid : Runner S) → (IsTrue old.terms.table.book.in_step → AreLeft rows old mid)
    → (old.terms.table.book.in_step ≡ false → mid ≡ old) → IsTrue mid.terms.table.book.in_step → AreLeft rows old mid
left_yet {S = S} rows old mid left torn on = elim (cases_Bool old.terms.table.book.in_step) [
  | inl was ↦ left was
  | inr off ↦ absurd (
      let e : true ≡ false = sym on ∙ ap (λ (r : Runner S). r.terms.table.book.in_step) (torn off) ∙ off in cc)
]

-- the last row's term is owned
pub left_good : {S : Type 0} (rows front : List Row) (row : Row) (old mid : Runner S) → rows ≡ front ++ row ∷ [] → AreLeft rows old mid
    → IsGood mid (held_of row)
left_good rows front row old mid is left =
    let held : map held_of rows ≡ map held_of front ++ held_of row ∷ [] = ap (map held_of) is ∙ map_with held_of front row in
    owned_good (held_of row) (held_of row ∷ map held_of front) mid.terms.out.items
    (owns_last (held_of row) (map held_of front) mid.terms.out.items
    (subst (λ (terms : List HeldTerm). Owns terms mid.terms.out.items) held left.owns))
    (0, omega arith, refl)
