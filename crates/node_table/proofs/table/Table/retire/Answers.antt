-- What is left to show of `Table::retire`.
use Rattle.std.proofs.Common.{◌<◌, ◌++◌, ℕ, List, [], ◌∷◌, None, Contains, sym, subst}
use Rattle.std.specs.Prelude.{vec_capacity}
use Rattle.node_table.specs.Table.{TableState, IsSound, IsAddedTo}
use Rattle.node_table.specs.Progress.{Steps}
use Rattle.node_table.proofs.Progressed.{Steps-retired}
use Rattle.node_table.proofs.CallSteps.{table_of}
use Rattle.node_table.proofs.Places.{place_left}
use Rattle.node_table.proofs.Retired.{AreRetired-push}
use Rattle.node_table.proofs.table.Table.retire.Goals as goal

pub push_reserved-requires : goal.push_reserved-requires
push_reserved-requires g c =
    let inside = c.self.inside in
    let sound : IsSound (table_of (record { max_nodes = inside.max_nodes; inputs = inside.inputs; retired = inside.retired.items })
    inside.diagram inside.ledger) =
    subst (λ (t : TableState g.row.S.Denot). IsSound t) (sym c.self.view_is) c.requires.sound in
    subst (λ (n : ℕ). n < vec_capacity inside.retired) (sym inside.retired.ok.0)
    (place_left inside.diagram inside.ledger.state.live inside.inputs inside.places
    (vec_capacity inside.retired) inside.retired.items c.args.id (c.self.invariant.2 sound.in_step) sound.retired
    (subst (λ (t : TableState g.row.S.Denot). IsAddedTo t c.args.id) (sym c.self.view_is) c.requires.own)
    (λ among. c.requires.unretired (subst (λ (t : TableState g.row.S.Denot). Contains t.retired c.args.id) c.self.view_is among)))

pub returns-clause-steps : goal.returns-clause-steps
returns-clause-steps g c =
    let inside = c.self.inside in
    let old = table_of (record { max_nodes = inside.max_nodes; inputs = inside.inputs; retired = inside.retired.items }) inside.diagram
    inside.ledger in
    let sound : IsSound old = subst (λ (t : TableState g.row.S.Denot). IsSound t) (sym c.self.view_is) c.requires.sound in
    let still : IsSound (record old { retired = old.retired ++ c.args.id ∷ [] }) = record {
      in_step = sound.in_step;
      tied = sound.tied;
      variables = sound.variables;
      inputs = sound.inputs;
      formula = sound.formula;
      retired = AreRetired-push inside.diagram inside.ledger.state.live inside.inputs inside.retired.items c.args.id sound.retired
          (subst (λ (t : TableState g.row.S.Denot). IsAddedTo t c.args.id) (sym c.self.view_is) c.requires.own)
          (λ among. c.requires.unretired (subst (λ (t : TableState g.row.S.Denot). Contains t.retired c.args.id) c.self.view_is among));
    } in
    let steps : Steps old (record old { retired = old.retired ++ c.args.id ∷ [] }) 0 None = Steps-retired old c.args.id sound still in
    subst (λ (t : TableState g.row.S.Denot). Steps t (record old { retired = c.push_reserved.new.self.items }) 0 None) c.self.view_is
    (subst (λ (list : List ℕ). Steps old (record old { retired = list }) 0 None) (sym c.push_reserved.ensures.items) steps)
