-- The node of both results is kept as the conjunction of the operands, or its step or the cache is refused.
use Rattle.std.proofs.Common.{◌≡◌, ℕ, Err, None, List, arith, inl, refl, sym, ap, subst}
use Rattle.node_table.specs.declared.error.TableError.TheVariants.{OutOfMemory}
use Rattle.node_table.specs.declared.node.Justification.{Justification}
use Rattle.node_table.specs.Diagram.{Graph}
use Rattle.node_table.specs.HandedOn.{handed_on, no_error}
use Rattle.node_table.specs.Made.{MakesOnly, ReachesNew}
use Rattle.node_table.specs.Progress.{Steps}
use Rattle.node_table.specs.Table.{TableState, HasChildren, IsSound}
use Rattle.operations.specs.Accounts.{GivesOne, HasFound, RetiresNew, RetiresOne, whole_error}
use Rattle.operations.specs.Caches.{KeepsEntry}
use Rattle.operations.specs.Entries.{Entry, AreNodes, Conjunction, Fits}
use Rattle.apply_and.specs.Cache.{AndCache, Pair, entries, entry_of, same_pair}
use Rattle.apply_and.specs.Calls.{Closes}
use Rattle.apply_and.specs.Conjunction.{conjunction_of}
use Rattle.apply_and.proofs.Calls.{Answer, memory_no_limit}
use Rattle.apply_and.proofs.conjoin.AndOperationOperation.close.Goals as goal

-- the step of the node has found a result
found_by : {S : Type 0} (old mid : TableState S) (before : List Entry) (count : ℕ) (just : Justification)
    → IsSound old → Fits old before → Steps old mid count None
    → RetiresNew old mid → GivesOne old mid just → HasFound old mid before just
found_by old mid before count just sound fits steps retires gives = record {
  sound = sound;
  fits = fits;
  still = steps.leaves.sound;
  extends = steps.extends;
  retires = retires;
  gives = gives;
}

pub returns-in_err-found-clause-closes : goal.returns-in_err-found-clause-closes
returns-in_err-found-clause-closes g c =
    let o = c.args.operands.now in
    let old = c.args.table.now in
    let cache = c.args.cache.now in
    let before = entries cache in
    let new = c.finish.new.table in
    let came = c.in_err-found.field-0.0 in
    let done = c.in_err-found.ensures in
    subst (λ (r : Answer). Closes old cache o c.args.high.now c.args.low.now new cache r)
    (sym (handed_on _ came came c.from_residual.ensures.1 refl)) (record {
      conjoined = tt;
      steps = done.steps;
      accounts = c.accounts_law.ensures.failed old new before _ _ c.requires.sound c.requires.fits done.steps done.retires
          (λ whole. done.gives (whole_error _ whole));
      unretired = tt;
      kept = tt;
      room = record { others = λ entry there. inl there; no_fewer = omega arith; capacity = refl };
      used = λ used front apart room. tt;
      children = tt;
      made = done.made;
      reachable = tt;
      lacks = done.lacks;
    })

pub retire-requires-clause-own : goal.retire-requires-clause-own
retire-requires-clause-own g c id is =
    let done = c.in_ok-found.ensures in
    let has = found_by c.args.table.now c.finish.new.table
    (entries c.args.cache.now) _ c.in_ok-found.found.1 c.requires.sound c.requires.fits done.steps done.retires (done.gives no_error) in
    (c.accounts_law.ensures.found _ _ _ _ has).own id (c.in-Ok.ensures.kept.one.named id is)

pub retire-requires-clause-unretired : goal.retire-requires-clause-unretired
retire-requires-clause-unretired g c id is gone =
    let done = c.in_ok-found.ensures in
    let has = found_by c.args.table.now c.finish.new.table
    (entries c.args.cache.now) _ c.in_ok-found.found.1 c.requires.sound c.requires.fits done.steps done.retires (done.gives no_error) in
    (c.accounts_law.ensures.found _ _ _ _ has).unretired id (c.in-Ok.ensures.kept.one.named id is) gone

pub returns-in-Ok-clause-closes : goal.returns-in-Ok-clause-closes
returns-in-Ok-clause-closes g c =
    let o = c.args.operands.now in
    let old = c.args.table.now in
    let cache = c.args.cache.now in
    let before = entries cache in
    let mid = c.finish.new.table in
    let new = c.retire.new.table in
    let after = c.keep.new.self in
    let found = c.in_ok-found.found in
    let given = c.in-Ok.given in
    let done = c.in_ok-found.ensures in
    let kept_pair = subst (λ (pair : Pair). KeepsEntry entry_of same_pair cache.results after.results pair
    (entry_of (pair, (found.0, c.from_just-stored.result))) given) c.of.ensures c.in-Ok.ensures.kept in
    let kept = subst (λ (just : Justification). KeepsEntry entry_of same_pair cache.results after.results (o.u, o.v)
    (Conjunction o.u o.v found.0 just) given) c.from_just-stored.ensures kept_pair in
    let one : RetiresOne mid new given = c.retire.ensures in
    let same : new.graph ≡ mid.graph = ap (λ (t : TableState g.row.S.Denot). t.graph) one.same in
    let nodes : AreNodes mid.graph o.u o.v = record {
      first = c.growth_law.ensures.stands old.graph mid.graph done.steps.extends.nodes o.u
          (c.operand_law.ensures.first old.graph o c.requires.split);
      second = c.growth_law.ensures.stands old.graph mid.graph done.steps.extends.nodes o.v
          (c.operand_law.ensures.second old.graph o c.requires.split);
    } in
    let law = c.steps_law.ensures in
    let has = found_by old mid before _ found.1 c.requires.sound c.requires.fits done.steps done.retires (done.gives no_error) in
    let ended = c.accounts_law.ensures.kept old mid new before (entries after) (Conjunction o.u o.v found.0 found.1) given has
    (nodes, done.conjoined) kept.one one in record {
      conjoined = ended.right.1;
      steps = law.further _ _ _ 2 0 _ done.steps one.steps;
      accounts = ended.accounts;
      unretired = ended.unretired;
      kept = kept.one.kept;
      room = kept.room;
      used = λ used front apart room. kept.used used front apart room;
      children = subst (λ (graph : Graph). HasChildren graph o.level c.args.high.now.0 c.args.low.now.0 found.0) (sym same) done.children;
      made = subst (λ (graph : Graph). MakesOnly old.graph graph (conjunction_of old.graph o.u o.v)) (sym same) done.made;
      reachable = subst (λ (graph : Graph). ReachesNew old.graph graph found.0) (sym same) done.reachable;
      lacks = λ is. absurd (no_error is);
    }

pub returns-in-Err-clause-closes : goal.returns-in-Err-clause-closes
returns-in-Err-clause-closes g c =
    let o = c.args.operands.now in
    let old = c.args.table.now in
    let cache = c.args.cache.now in
    let before = entries cache in
    let mid = c.finish.new.table in
    let new = c.retire-in-Err.new.table in
    let found = c.in_ok-found.found in
    let given = c.clause_number.result in
    let done = c.in_ok-found.ensures in
    let one : RetiresOne mid new given = c.retire-in-Err.ensures in
    let same : new.graph ≡ mid.graph = ap (λ (t : TableState g.row.S.Denot). t.graph) one.same in
    let law = c.steps_law.ensures in
    let has = found_by old mid before _ found.1 c.requires.sound c.requires.fits done.steps done.retires (done.gives no_error) in
    subst (λ (list : AndCache). Closes old cache o c.args.high.now c.args.low.now new list
    (Err OutOfMemory)) (sym c.in-Err.ensures.refused) (record {
      conjoined = tt;
      steps = law.further _ _ _ 2 0 _ done.steps (law.further _ _ _ 0 0 _ one.steps (law.no_memory new one.steps.leaves.sound));
      accounts = c.accounts_law.ensures.refused old mid new before found.1 given _ has c.clause_number.ensures one;
      unretired = tt;
      kept = tt;
      room = record { others = λ entry there. inl there; no_fewer = omega arith; capacity = refl };
      used = λ used front apart room. tt;
      children = tt;
      made = subst (λ (graph : Graph). MakesOnly old.graph graph (conjunction_of old.graph o.u o.v)) (sym same) done.made;
      reachable = tt;
      lacks = λ is. absurd (memory_no_limit is);
    })
