-- The call as it is worked off from the first place of the set, with an empty cache of its own, or there is no memory for that.
use Rattle.std.proofs.Common.{◌++◌, ◌≡◌, List, Err, arith, refl, rules, sym, subst}
use Rattle.node_table.specs.declared.error.TableError.TheVariants.{NodeLimit, OutOfMemory}
use Rattle.node_table.specs.HandedOn.{handed_on}
use Rattle.node_table.specs.Progress.{Steps, error_of}
use Rattle.operations.specs.Entries.{Entry, Fits}
use Rattle.quantify.specs.OrCache.{disjunction, disjunctions}
use Rattle.quantify.specs.RunsFor.{LacksOneOf}
use Rattle.quantify.specs.SomeValues.{IsFromPlace, function_of}
use Rattle.quantify.proofs.BothCaches.{carried, disjunctions_unnamed}
use Rattle.quantify.proofs.ClosedSet.{none_right}
use Rattle.quantify.proofs.Lists.{others_still, remembers_all}
use Rattle.quantify.proofs.Running.{Answer, memory_no_limit, sound_after}
use Rattle.quantify.proofs.SomeValues.{rising_few}
use Rattle.quantify.proofs.quantify_set.exists_all.Goals as goal

pub work_off-requires : goal.work_off-requires
work_off-requires g c =
    let graph = c.args.table.now.graph in
    let set = c.args.set.now in record {
      sound = c.requires.sound;
      stands = c.requires.stands;
      set = c.requires.levels;
      short = omega (arith, rising_few 0 _ set (omega arith) c.requires.levels, c.order-order.ensures.few);
      fits = c.requires.fits;
      right = none_right graph set c.in_ok-found.found c.in_ok-found.ensures.0;
    }

pub returns-clause-others : goal.returns-clause-others
returns-clause-others g c list fits whole =
    let call = c.work_off.ensures in
    let old = c.args.table.now in
    let new = c.work_off.new.table in
    let ors = c.work_off.new.cache.ors.now in
    carried (λ (all : List Entry). Fits new (all ++ list)) (disjunctions ors) _ (search rules)
    (others_still c.entry_law.ensures old new c.requires.sound (sound_after old new c.work_off.result call.runs.steps.leaves whole)
    call.runs.steps.extends call.runs.retired (disjunctions c.args.ors.now) (disjunctions ors) list (disjunctions_unnamed ors)
    (call.runs.fits whole) fits)

-- no memory for the cache
pub returns-in_err-found-clause-steps : goal.returns-in_err-found-clause-steps
returns-in_err-found-clause-steps g c =
    let table = c.args.table.now in
    subst (λ (r : Answer). Steps table table 0 (error_of r)) (sym (handed_on _ OutOfMemory OutOfMemory c.from_residual.ensures.1 refl))
    (c.steps_law.ensures.no_memory table c.requires.sound)

pub returns-in_err-found-clause-remembered : goal.returns-in_err-found-clause-remembered
returns-in_err-found-clause-remembered g c = remembers_all disjunction c.args.ors.now.results

pub returns-in_err-found-clause-lacks : goal.returns-in_err-found-clause-lacks
returns-in_err-found-clause-lacks g c =
    let table = c.args.table.now in
    subst (λ (r : Answer). r ≡ Err NodeLimit → LacksOneOf table.graph (IsFromPlace (function_of table.graph c.args.u) c.args.set.now))
    (sym (handed_on _ OutOfMemory OutOfMemory c.from_residual.ensures.1 refl)) (λ is. absurd (memory_no_limit is))
