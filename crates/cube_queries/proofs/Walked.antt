-- An answer that is found along the term's diagram: the runner stays as it is.
use Rattle.std.proofs.Common.{◌≡◌, ◌∙◌, ◌&&◌, Bool, true, ℤ, List}
use Rattle.std.proofs.Common.{refl, sym}
use Rattle.std.proofs.lemmas.Bool.{and_parts}
use Rattle.cnf_base.specs.Cube.{cube_holds}
use Rattle.cnf_base.specs.Truth.{Assignment, assignment_of}
use Rattle.cube_models.specs.Least as walk
use Rattle.bdd_terms.specs.declared.held.HeldTerm.{HeldTerm}
use Rattle.bdd_terms.specs.declared.runner.Runner.{Runner}
use Rattle.bdd_terms.specs.Runner.{IsRunner, holds_in}
use Rattle.cube_queries.specs.Answers.{IsLeastModel}
use Rattle.cube_queries.specs.Steps.{formula_holds}

module _ {S : Type 0} (runner : Runner S) (is : IsRunner runner) (held : HeldTerm) (cube : List ℤ)
    (value : (a : Assignment) → holds_in runner held a ≡ formula_holds runner.formula.now a) where
  -- the least assignment of the term's node and the cube is that of the formula and the cube
  pub model_found : (values : List Bool) → walk.IsLeastModel runner.terms.table.graph held.node cube values
      → IsLeastModel runner.formula.now runner.terms.table.graph.order cube values
  model_found values model =
      let a = assignment_of values in
      let satisfied : formula_holds runner.formula.now a ≡ true = sym (value a) ∙ model.holds.node_holds in
      record {
        one_each = model.one_each ∙ is.over.vars;
        first = a;
        least = record {
          satisfies = λ i. model.holds.cube_holds i && satisfied i;
          least = λ other holds place small agree on.
              let parts = and_parts (cube_holds other cube) (formula_holds runner.formula.now other) holds in
              model.least other (record { node_holds = value other ∙ parts.1; cube_holds = parts.0 }) place small agree on;
        };
        recovered = λ variable above. refl;
        satisfies = satisfied;
        holds = model.holds.cube_holds;
      }
