-- The node is made by its definitions, or the table refuses it.
use Rattle.std.proofs.Common.{◌≡◌, sym, subst}
use Rattle.node_table.specs.Diagram.{Graph}
use Rattle.node_table.specs.Made.{LacksPart}
use Rattle.node_table.specs.Refused.{same_nodes}
use Rattle.node_table.specs.Table.{HasChildren}
use Rattle.node_table.specs.Value.{Levels, value_of}
use Rattle.quantify.proofs.Joined.{joined_lacks, joined_made, joined_reached, joined_value, ok_from}
use Rattle.quantify.proofs.Lists.{fits_still}
use Rattle.quantify.proofs.Running.{sound_after}
use Rattle.quantify.proofs.join.join.Goals as goal

pub returns : goal.returns
returns g c =
    let old = c.args.table.now in
    let new = c.node-made.new.self in
    let made = c.node-made.ensures in
    let level = c.args.level in
    let high = c.args.high in
    let low = c.args.low in
    let reduced = c.requires.sound.tied.reduced in
    let keeps = made.steps.extends.nodes in record {
      runs = λ listed function fits sides. record {
        steps = made.steps;
        retired = made.retired;
        none_added = made.none_added;
        fits = λ whole. fits_still c.entry_law.ensures old new c.requires.sound
            (sound_after old new c.node-made.result made.steps.leaves whole) made.steps.extends made.retired listed fits;
        made = joined_made c.cofactor_law.ensures c.growth_law.ensures old.graph new.graph reduced c.table_law.ensures.reduced keeps level
            high low c.requires.high c.requires.low function sides c.subfunction_law.ensures made.only;
        lacks = λ is.
            subst (λ (graph : Graph). LacksPart graph function) (sym (same_nodes old new c.node-made.result made.refused is))
            (joined_lacks c.subfunction_law.ensures c.missing_law.ensures old.graph reduced level high low c.requires.level c.requires.high
            c.requires.low function sides (made.node_limit.0 is).0);
      };
      children = made.children;
      value = λ function sides.
          ok_from c.node-made.result (λ w. HasChildren new.graph level high low w) (λ w. (a : Levels) → value_of new.graph a w ≡ function a)
          (λ w children. joined_value c.cofactor_law.ensures c.growth_law.ensures old.graph new.graph reduced c.table_law.ensures.reduced
          keeps level high low c.requires.high c.requires.low function sides w children)
          made.children;
      reachable = joined_reached c.reach_law.ensures old.graph new.graph c.node-made.result made.given;
    }
