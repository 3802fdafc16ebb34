-- What is left to show of `found_levels`.
use Rattle.std.proofs.Common.{◌∙◌, ◌++◌, ◌<◌, ℕ, List, [], ◌∷◌, length, take, sym, subst, arith}
use Rattle.std.specs.Prelude.{slice_index_or}
use Rattle.std.proofs.lemmas.List.{take_more}
use Rattle.bdd_terms.specs.Sets.{AreLevelsOf}
use Rattle.bdd_terms.proofs.SetLevels.{found_more, found_none}
use Rattle.bdd_terms.proofs.sets.found_levels.Goals as goal
use Rattle.bdd_terms.proofs.sets.found_levels.Goals.{in-Some+in_ok-push, in_default}

pub variables-preserved : goal.variables-preserved
variables-preserved g c =
    let graph = c.args.table.now.graph in
    let set = c.args.set.now in
    let i = c.variables.variable-index in
    let x = slice_index_or set i 0 in
    let small : i < length set = omega (arith, c.variables-test.true, c.variables.auto.variable-index-end) in
    subst (λ (l : List ℕ). AreLevelsOf graph l c.match-level.found.items) (sym (take_more set i 0 small))
    (elim c.match-level.branch [
      | in-Some+in_ok-push w ↦ subst (λ (l : List ℕ). AreLevelsOf graph (take i set ++ x ∷ []) l)
          (sym ((λ k. (w.found-is k).items) ∙ w.in_ok-push.ensures.items))
          (found_more graph c.table_law.ensures.ordered (take i set) c.variables.found.items x c.variables.invariant w.in-Some.level
          w.in-Some.ensures.0 w.in-Some.ensures.1)
      | in_default w ↦ subst (λ (l : List ℕ). AreLevelsOf graph (take i set ++ x ∷ []) l) (sym (λ k. (w.found-is k).items))
          (found_none graph c.table_law.ensures.ordered (take i set) c.variables.found.items x c.variables.invariant w.in_default.ensures)
    ])
