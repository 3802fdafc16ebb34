-- The levels of a set and its variables by them; where there are none nothing is done.
use Rattle.std.proofs.Common.{◌≡◌, ◌∙◌, ◌<◌, ℕ, List, length, map, reverse, refl, ap, sym, subst, arith, eqb-true}
use Rattle.node_table.specs.declared.error.TableError.TheVariants.{OutOfMemory}
use Rattle.node_table.specs.Diagram.{variable_at}
use Rattle.node_table.specs.HandedOn.{handed_on}
use Rattle.quantify.specs.SomeValues.{AreLevels}
use Rattle.bdd_terms.specs.Sets.{AreSetLevels}
use Rattle.term_runner.proofs.QuantifiedSet.{none_tried, nothing_tried, same_set, some_of_test}
use Rattle.term_runner.proofs.stacked.StackedTerms.quantify_all.Goals as goal

pub returns-in_err-levels : goal.returns-in_err-levels
returns-in_err-levels g c formula stage next ready at leads =
    none_tried c.steps_law.ensures formula stage next c.args.self.now ready c.requires.1.own _
    (handed_on _ OutOfMemory OutOfMemory c.from_residual.ensures.1 refl)

pub falling_of-requires : goal.falling_of-requires
falling_of-requires g c = subst (AreLevels c.args.self.now.table.graph) (sym c.as_slice-2.ensures.value) c.in_ok-levels.ensures.rising

pub returns-in_err-variables : goal.returns-in_err-variables
returns-in_err-variables g c formula stage next ready at leads =
    none_tried c.steps_law.ensures formula stage next c.args.self.now ready c.requires.1.own _
    (handed_on _ OutOfMemory OutOfMemory c.from_residual-in_err-variables.ensures.1 refl)

pub returns-then-is_empty : goal.returns-then-is_empty
returns-then-is_empty g c formula stage next ready at leads =
    let set = c.in_ok-levels.levels.items in
    let none : length set ≡ 0 = omega (arith, eqb-true _ _ (sym c.is_empty.ensures ∙ c.if-is_empty.true), c.in_ok-levels.levels.ok) in
    nothing_tried c.steps_law.ensures formula stage next c.args.self.now ready c.requires.1.own at c.args.set.now set
    (same_set c.args.self.now.table.graph _ c.args.set.now set c.as_slice.ensures c.in_ok-levels.ensures) none leads

pub quantify_levels-requires : goal.quantify_levels-requires
quantify_levels-requires g c =
    let graph = c.args.self.now.table.graph in
    let levels = c.in_ok-levels.levels.items in
    let same = c.as_slice-3.ensures.value in
    record {
      may = (
        c.requires.0,
        c.args.set.now,
        c.requires.1,
        subst (AreSetLevels graph c.args.set.now) (sym same)
            (same_set graph _ c.args.set.now levels c.as_slice.ensures c.in_ok-levels.ensures),
      );
      some = subst (λ (l : List ℕ). 0 < length l) (sym same)
          (omega (arith, some_of_test _ (sym c.is_empty.ensures ∙ c.if-is_empty.false), c.in_ok-levels.levels.ok));
      falls = c.as_slice-4.ensures.value ∙ c.in_ok-variables.ensures.falls
          ∙ ap (λ (l : List ℕ). map (variable_at graph) (reverse l)) (c.as_slice-2.ensures.value ∙ sym same);
      few = subst (λ (l : List ℕ). length l < 4294967296) (sym c.as_slice-4.ensures.value) c.in_ok-variables.ensures.few;
    }

pub returns : goal.returns
returns g c formula stage next ready at leads =
    let graph = c.args.self.now.table.graph in
    c.quantify_levels.ensures formula stage next c.args.set.now
    (subst (AreSetLevels graph c.args.set.now) (sym c.as_slice-3.ensures.value)
    (same_set graph _ c.args.set.now c.in_ok-levels.levels.items c.as_slice.ensures c.in_ok-levels.ensures)) ready at leads
