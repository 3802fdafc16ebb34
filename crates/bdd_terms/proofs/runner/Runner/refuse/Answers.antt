-- The clause of a cube is made, added and kept.
use Rattle.std.proofs.Common.{◌∙◌, ℤ, List, refl, sym, subst}
use Rattle.lrat_rules.specs.Strict.{RefutesStrictly}
use Rattle.node_table.specs.declared.error.TableError.TheVariants.{OutOfMemory}
use Rattle.node_table.specs.Diagram.{levels}
use Rattle.node_table.specs.HandedOn.{handed_on}
use Rattle.node_table.specs.Tied.{IsUpTo}
use Rattle.bdd_terms.proofs.Derived.{not_false, refused_before}
use Rattle.bdd_terms.proofs.Forbidding.{forbidding_up_to, forbids_some}
use Rattle.bdd_terms.proofs.runner.Runner.refuse.Goals as goal

pub returns-in_err-clause : goal.returns-in_err-clause
returns-in_err-clause g c = record {
  refuses = refused_before c.growth_law.ensures c.steps_law.ensures c.entry_law.ensures c.args.self.now c.requires.runner
      c.args.term.now.held c.args.cube.now c.args.self.now refl refl _
      (handed_on _ OutOfMemory OutOfMemory c.from_residual.ensures.1 refl);
}

pub keep-requires : goal.keep-requires
keep-requires g c =
    let old = c.args.self.now in
    let cube = c.args.cube.now in
    let is = c.as_slice.ensures.value ∙ c.in_ok-clause.ensures in
    record {
      runner = c.requires.runner;
      variables = subst (IsUpTo (levels old.terms.table.graph)) (sym is)
          (forbidding_up_to (levels old.terms.table.graph) cube c.requires.variables);
      strict = subst (λ (clause : List ℤ). RefutesStrictly old.terms.table.book.state.live clause c.args.hints.now) (sym is)
          c.requires.strict;
      some = λ clean. forbids_some cube c.as_slice.result.now is
          (c.requires.some (not_false old c.requires.runner c.args.term.now.held c.requires.good clean));
    }

pub returns : goal.returns
returns g c = record {
  refuses = c.keep.ensures c.args.term.now.held c.args.cube.now (c.as_slice.ensures.value ∙ c.in_ok-clause.ensures) c.requires.none;
}
