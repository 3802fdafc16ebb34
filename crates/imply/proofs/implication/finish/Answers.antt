-- The implication of both sides is kept, or its step or the cache is refused.
use Rattle.std.proofs.Common.{◌≡◌, ◌∙◌, ℕ, Err, None, Some, List, Contains, arith, inl, refl, sym, ap, subst}
use Rattle.node_table.specs.declared.error.TableError.TheVariants.{NodeLimit, IdLimit, OutOfMemory}
use Rattle.node_table.specs.declared.node.Justification.{Justification}
use Rattle.node_table.specs.declared.node.Justification.TheVariants.{Clause}
use Rattle.node_table.specs.Diagram.{Graph}
use Rattle.node_table.specs.HandedOn.{handed_on, no_error}
use Rattle.node_table.specs.Justification.{IsJustified}
use Rattle.node_table.specs.Progress.{Steps}
use Rattle.node_table.specs.Table.{TableState, IsSound}
use Rattle.operations.specs.Accounts.{GivesOne, HasFound, RetiresNew, RetiresOne, whole_error}
use Rattle.operations.specs.Caches.{KeepsEntry}
use Rattle.operations.specs.Entries.{Entry, AreNodes, Implication, Fits}
use Rattle.operations.specs.Pairs.{same_pair}
use Rattle.operations.specs.Results.{Implied, implication_atoms}
use Rattle.imply.specs.Cache.{ImplyCache, entries, entry_of}
use Rattle.imply.specs.Calls.{IsClosed}
use Rattle.imply.proofs.Calls.{Answer, failed_no_answer, given_same, limit_came, memory_no_limit, memory_no_numbers}
use Rattle.imply.proofs.Calls.{no_limit, none_failed, some_same}
use Rattle.imply.proofs.Refuted.{implied_both}
use Rattle.imply.proofs.implication.finish.Goals as goal

-- the step has found a justification
found_by : {S : Type 0} (old mid : TableState S) (before : List Entry) (count : ℕ) (just : Justification)
    → IsSound old → Fits old before → Steps old mid count None
    → RetiresNew old mid → GivesOne old mid just → HasFound old mid before just
found_by old mid before count just sound fits steps retires gives = record {
  sound = sound;
  fits = fits;
  still = steps.leaves.sound;
  extends = steps.extends;
  retires = retires;
  gives = gives;
}

pub returns-in_err-just : goal.returns-in_err-just
returns-in_err-just g c =
    let o = c.args.operands.now in
    let old = c.args.table.now in
    let cache = c.args.cache.now in
    let before = entries cache in
    let new = c.justify.new.table in
    let came = c.in_err-just.field-0.0 in
    let done = c.in_err-just.ensures in
    subst (λ (r : Answer). IsClosed old cache o new cache r)
    (sym (handed_on _ came came c.from_residual.ensures.1 refl)) (record {
      decided = tt;
      steps = done.steps;
      nodes = done.nodes;
      no_node_limit = λ is. done.no_node_limit (limit_came came NodeLimit is);
      id_limit = λ is. done.id_limit (limit_came came IdLimit is);
      accounts = c.accounts_law.ensures.failed old new before _ _ c.requires.sound c.requires.fits done.steps done.retires
          (λ whole. done.gives (whole_error _ whole));
      unretired = λ id is. absurd (failed_no_answer came (Some (Clause id)) is);
      kept = λ just is. absurd (failed_no_answer came (Some just) is);
      room = record { others = λ entry there. inl there; no_fewer = omega arith; capacity = refl };
      used = λ used front apart room none. absurd (none_failed came none);
    })

pub retire-requires-clause-own : goal.retire-requires-clause-own
retire-requires-clause-own g c id is =
    let done = c.in_ok-just.ensures in
    let has = found_by c.args.table.now c.justify.new.table
    (entries c.args.cache.now) _ c.in_ok-just.just c.requires.sound c.requires.fits done.steps done.retires (done.gives no_error) in
    (c.accounts_law.ensures.found _ _ _ _ has).own id (c.in-Ok.ensures.kept.one.named id is)

pub retire-requires-clause-unretired : goal.retire-requires-clause-unretired
retire-requires-clause-unretired g c id is gone =
    let done = c.in_ok-just.ensures in
    let has = found_by c.args.table.now c.justify.new.table
    (entries c.args.cache.now) _ c.in_ok-just.just c.requires.sound c.requires.fits done.steps done.retires (done.gives no_error) in
    (c.accounts_law.ensures.found _ _ _ _ has).unretired id (c.in-Ok.ensures.kept.one.named id is) gone

pub returns-in-Ok : goal.returns-in-Ok
returns-in-Ok g c =
    let o = c.args.operands.now in
    let old = c.args.table.now in
    let before = entries c.args.cache.now in
    let mid = c.justify.new.table in
    let new = c.retire.new.table in
    let after = c.keep.new.self in
    let just = c.in_ok-just.just in
    let given = c.in-Ok.given in
    let done = c.in_ok-just.ensures in
    let kept = subst (λ (j : Justification). KeepsEntry entry_of same_pair c.args.cache.now.results after.results (o.u, o.v) (Implication o.u o.v j)
    given) c.from_just-stored.ensures c.in-Ok.ensures.kept in
    let one : RetiresOne mid new given = c.retire.ensures in
    let same : new.graph ≡ mid.graph = ap (λ (t : TableState g.row.S.Denot). t.graph) one.same in
    let nodes : AreNodes mid.graph o.u o.v = record {
      first = c.growth_law.ensures.stands old.graph mid.graph done.steps.extends.nodes o.u
          (c.operand_law.ensures.first old.graph o c.requires.split);
      second = c.growth_law.ensures.stands old.graph mid.graph done.steps.extends.nodes o.v
          (c.operand_law.ensures.second old.graph o c.requires.split);
    } in
    let law = c.steps_law.ensures in
    let justified : IsJustified mid.book.state.live (implication_atoms old.graph o.u o.v) just = subst
    (λ (graph : Graph). IsJustified mid.book.state.live (implication_atoms graph o.u o.v) just) done.nodes done.justified in
    let implied : Implied mid.graph mid.book.state.live o.u o.v just = subst
    (λ (graph : Graph). Implied graph mid.book.state.live o.u o.v just) (sym done.nodes)
    (implied_both c.cofactor_law.ensures c.operand_law.ensures old.graph c.requires.sound.tied.reduced o c.requires.split
    old.book.state.live mid.book.state.live c.args.high.now c.args.low.now just c.requires.high c.requires.low justified) in
    let has = found_by old mid before _ just c.requires.sound c.requires.fits done.steps done.retires (done.gives no_error) in
    let ended = c.accounts_law.ensures.kept old mid new before (entries after) (Implication o.u o.v just) given has
    (nodes, implied) kept.one one in record {
      decided = ended.right.1;
      steps = law.further _ _ _ 2 0 _ done.steps one.steps;
      nodes = same ∙ done.nodes;
      no_node_limit = no_limit (Some just);
      id_limit = λ is. absurd (no_error is);
      accounts = ended.accounts;
      unretired = λ id is. ended.unretired id (some_same just (Clause id) (given_same (Some just) (Some (Clause id)) is));
      kept = λ other is. subst (λ (j : Justification). Contains (entries after) (Implication o.u o.v j))
          (some_same just other (given_same (Some just) (Some other) is)) kept.one.kept;
      room = kept.room;
      used = λ used front apart room none. kept.used used front apart room;
    }

pub returns-in-Err : goal.returns-in-Err
returns-in-Err g c =
    let o = c.args.operands.now in
    let old = c.args.table.now in
    let cache = c.args.cache.now in
    let before = entries cache in
    let mid = c.justify.new.table in
    let new = c.retire-in-Err.new.table in
    let just = c.in_ok-just.just in
    let given = c.clause_number.result in
    let done = c.in_ok-just.ensures in
    let one : RetiresOne mid new given = c.retire-in-Err.ensures in
    let same : new.graph ≡ mid.graph = ap (λ (t : TableState g.row.S.Denot). t.graph) one.same in
    let law = c.steps_law.ensures in
    let has = found_by old mid before _ just c.requires.sound c.requires.fits done.steps done.retires (done.gives no_error) in
    subst (λ (list : ImplyCache). IsClosed old cache o new list (Err OutOfMemory))
    (sym c.in-Err.ensures.refused) (record {
      decided = tt;
      steps = law.further _ _ _ 2 0 _ done.steps (law.further _ _ _ 0 0 _ one.steps (law.no_memory new one.steps.leaves.sound));
      nodes = same ∙ done.nodes;
      no_node_limit = memory_no_limit;
      id_limit = λ is. absurd (memory_no_numbers is);
      accounts = c.accounts_law.ensures.refused old mid new before just given _ has c.clause_number.ensures one;
      unretired = λ id is. absurd (failed_no_answer OutOfMemory (Some (Clause id)) is);
      kept = λ other is. absurd (failed_no_answer OutOfMemory (Some other) is);
      room = record { others = λ entry there. inl there; no_fewer = omega arith; capacity = refl };
      used = λ used front apart room none. absurd (none_failed OutOfMemory none);
    })
