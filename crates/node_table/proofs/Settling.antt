-- The call that deletes the retired clauses, as the ledger's answer leaves it.
use Rattle.std.proofs.Common.{◌≡◌, ◌≢◌, ◌≤◌, ◌+◌, Bool, true, false, [], refl, sym, ap, ◌∙◌, subst, arith}
use Rattle.cnf_base.specs.declared.step.Step.TheVariants.{Delete}
use Rattle.lrat_rules.specs.State.{State, clause_at}
use Rattle.clause_ledger.specs.Book.{AreTold, Book, deletion}
use Rattle.clause_ledger.specs.Told.{told_in_step, told_limit, told_state}
use Rattle.node_table.specs.Diagram.{Graph, levels}
use Rattle.node_table.specs.Tied.{IsTied, KeepsClauses}
use Rattle.node_table.specs.Table.{IsSound, live_nodes, without_retired}
use Rattle.node_table.specs.Progress.{Continues, BreaksOff}
use Rattle.node_table.proofs.Conserved.{deletion_conserves}
use Rattle.node_table.proofs.CallSteps.{Aside, FewerInUse, table_of}
use Rattle.node_table.proofs.Deleting.{one_leads, some_step}
use Rattle.node_table.proofs.InUseSame.{in_use_nodes}
use Rattle.node_table.proofs.Retired.{AreRetired-none}
use Rattle.node_table.proofs.Since.{ComesSince-fewer}
use Rattle.node_table.proofs.Settled.{settled_tied, settled_was}
use Rattle.node_table.proofs.Uptos.{up_to_deletion}

module _ {S : Type 0} (aside : Aside) (graph : Graph) (old new : Book S) (in_step : Bool)
    (sound : IsSound (table_of aside graph old))
    (told : AreTold in_step old new (deletion old.state aside.retired)) where
  -- the table once the retired clauses are deleted
  abbrev rest : Aside
  rest = record { max_nodes = aside.max_nodes; inputs = aside.inputs; retired = [] }

  pub state_is : new.state ≡ without_retired (table_of aside graph old)
  state_is = told_state told ∙ one_leads old.state aside.retired

  top : new.state.top ≡ old.state.top
  top = ap (λ (s : State). s.top) state_is

  -- what is still live was live
  was : KeepsClauses new.state.live old.state.live
  was id clause is = settled_was graph old.state aside.inputs aside.retired sound.tied sound.retired id clause
      (sym (ap (λ (s : State). clause_at s.live id) state_is) ∙ is)

  limit : new.limit ≡ old.limit
  limit = told_limit told

  pub settled_on : in_step ≡ true → Continues (table_of aside graph old) (table_of rest graph new)
  settled_on whole = record {
    sound = record {
      in_step = told_in_step told ∙ whole;
      tied = subst (IsTied graph) (sym state_is) (settled_tied graph old.state aside.inputs aside.retired sound.tied sound.retired);
      variables = sound.variables;
      inputs = omega (arith, sound.inputs, top);
      formula = λ id clause is. sound.formula id clause (was id clause is);
      retired = AreRetired-none graph new.state.live aside.inputs;
    };
    order = refl;
    inputs = refl;
    max_nodes = refl;
    limit = limit;
    more = deletion old.state aside.retired;
    told = subst (λ (b : Bool). AreTold b old new (deletion old.state aside.retired)) whole told;
    variables = up_to_deletion (levels graph + aside.max_nodes) old.state aside.retired;
    conserves = deletion_conserves (levels graph) old.state aside.retired;
    no_less = omega (arith, top);
    numbers = omega (arith, top);
    since = ComesSince-fewer old.state new.state was;
  }

  pub settled_torn : in_step ≡ false → aside.retired ≢ [] → FewerInUse → live_nodes graph ≤ aside.max_nodes
      → BreaksOff (table_of aside graph old) (table_of aside graph new)
  settled_torn torn some fewer few =
      let used = in_use_nodes graph old.state sound.tied in
      let less = fewer (levels graph) new.state old.state was in
      record {
        more = deletion old.state aside.retired;
        told = subst (λ (b : Bool). AreTold b old new (deletion old.state aside.retired)) torn told;
        variables = up_to_deletion (levels graph + aside.max_nodes) old.state aside.retired;
        cut = record {
          earlier = [];
          last = Delete old.state.top aside.retired;
          parts = some_step old.state aside.retired some;
          before = old.state;
          leads = refl;
          no_less = omega (arith, top);
          from = omega arith;
          since = ComesSince-fewer old.state old.state (λ id clause is. is);
          within_before = record { numbers = omega arith; nodes = omega (arith, used) };
          within_after = record { numbers = omega (arith, top); nodes = omega (arith, less, used) };
        };
        few = few;
        out_of_step = told_in_step told ∙ torn;
        reduced = sound.tied.reduced;
        order = refl;
        max_nodes = refl;
        limit = limit;
        no_less = omega (arith, top);
        numbers = omega (arith, top);
        since = ComesSince-fewer old.state new.state was;
      }
