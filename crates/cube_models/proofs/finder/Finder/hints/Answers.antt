-- What is left to show of `Finder::hints`.
use Rattle.std.proofs.Common.{◌∙◌, ◌++◌, ◌∷◌, [], map, sym, subst}
use Rattle.cnf_base.specs.Cube.{forbidding}
use Rattle.lrat_rules.specs.Strict.{RefutesStrictly}
use Rattle.cube_models.specs.Denied.{hint_at}
use Rattle.cube_models.proofs.Refuted.{refuted}
use Rattle.cube_models.proofs.Stated.{if_ok}
use Rattle.cube_models.proofs.finder.Finder.hints.Goals as goal

pub returns : goal.returns
returns g c = record {
  strict =
      let graph = c.args.table.now.graph in
      let live = c.args.table.now.book.state.live in
      let tied = c.requires.sound.tied in
      let self = c.args.self.now in
      let none = c.requires.none in
      let all : RefutesStrictly live (forbidding c.args.cube.now) (map (hint_at graph self.signs.items c.args.sums.now) self.dead.items ++
      c.args.unit ∷ []) =
      refuted graph tied.reduced live tied.defined tied.ordered c.args.cube.now self.signs.items none.assumes c.args.sums.now
      c.requires.sums
      c.args.node self.dead.items c.args.unit c.requires.node c.requires.variables none.denied none.shut c.requires.unit in
      if_ok c.hints_of.result _ _ (λ hints is. subst (RefutesStrictly live (forbidding c.args.cube.now)) (sym (is
      ∙ (λ i. map (hint_at graph (c.deref.ensures.value i) c.args.sums.now) (c.deref-2.ensures.value i) ++ c.args.unit ∷ []))) all)
      c.hints_of.ensures;
}
