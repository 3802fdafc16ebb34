-- The call as it is worked off: the caches are what the machine left, since they were lent by the same references.
use Rattle.std.proofs.Common.{◌++◌, ◌⊎◌, ◌≤◌, List, Contains, Ok, ap, inl, length, refl, rules}
use Rattle.std.proofs.lemmas.List.Elements.{Contains-append_left}
use Rattle.node_table.specs.HandedOn.{no_error}
use Rattle.operations.specs.Entries.{Entry, Fits, HaveSame, Quantification}
use Rattle.operations.specs.Computed.{most_entries}
use Rattle.quantify.specs.ExistsCache.{both_caches, quantifications}
use Rattle.quantify.specs.OrCache.{disjunction, disjunctions}
use Rattle.quantify.specs.Quantification.{quantification_of}
use Rattle.quantify.proofs.BothCaches.{caches_unnamed, carried}
use Rattle.quantify.proofs.Lists.{have_same, others_still, remembers_all}
use Rattle.quantify.proofs.Quantifications.{only_quantification, quantified_beyond}
use Rattle.quantify.proofs.Running.{sound_after}
use Rattle.quantify.proofs.quantify.exists.Goals as goal

pub returns-clause-others : goal.returns-clause-others
returns-clause-others g c list fits whole =
    let call = c.work_off.ensures.0 in
    let old = c.args.table.now in
    let new = c.work_off.new.table in
    let after = c.work_off.new.cache.exists.now in
    let ors = c.work_off.new.cache.ors.now in
    carried (λ (all : List Entry). Fits new (all ++ list)) (both_caches after ors) _ (search rules)
    (others_still c.entry_law.ensures old new c.requires.sound (sound_after old new c.work_off.result call.runs.steps.leaves whole)
    call.runs.steps.extends call.runs.retired
    (both_caches c.args.cache.now c.args.ors.now) (both_caches after ors) list (caches_unnamed after ors) (call.runs.fits whole) fits)

pub returns-clause-known : goal.returns-clause-known
returns-clause-known g c w there =
    let found = c.work_off.ensures.0.known w there in (
      found.0,
      found.1,
      carried (λ (all : List Entry). HaveSame (quantifications c.args.cache.now) all)
          (quantifications c.work_off.new.cache.exists.now) _ (search rules) found.2,
      search rules,
    )

pub returns-clause-remembered : goal.returns-clause-remembered
returns-clause-remembered g c entry there =
    carried (λ (all : List Entry). Contains all entry ⊎ (most_entries c.args.cache.now ≤ length all))
    (quantifications c.work_off.new.cache.exists.now) _ (search rules)
    (c.work_off.ensures.0.remembers.entries entry there)

-- a level that is no variable's
pub returns-then-is_no_level-clause-quantified : goal.returns-then-is_no_level-clause-quantified
returns-then-is_no_level-clause-quantified g c =
    quantified_beyond c.cofactor_law.ensures c.args.table.now.graph c.requires.sound.tied.reduced c.args.level c.args.u c.requires.stands
    (c.is_no_level.ensures.beyond c.if-is_no_level.true)

pub returns-then-is_no_level-clause-known : goal.returns-then-is_no_level-clause-known
returns-then-is_no_level-clause-known g c w there =
    let graph = c.args.table.now.graph in
    let found = quantified_beyond c.cofactor_law.ensures graph c.requires.sound.tied.reduced c.args.level c.args.u c.requires.stands
    (c.is_no_level.ensures.beyond c.if-is_no_level.true) in (
      ap Ok (only_quantification c.canonical_law.ensures graph c.requires.sound.tied.reduced c.args.u c.args.level c.args.u w found
          (c.requires.fits.each (Quantification c.args.u c.args.level w)
          (Contains-append_left (quantifications c.args.cache.now) (disjunctions c.args.ors.now) _ there)).1),
      refl,
      have_same (quantifications c.args.cache.now),
      refl,
    )

pub returns-then-is_no_level-clause-steps : goal.returns-then-is_no_level-clause-steps
returns-then-is_no_level-clause-steps g c = c.steps_law.ensures.none c.args.table.now c.requires.sound

pub returns-then-is_no_level-clause-remembered : goal.returns-then-is_no_level-clause-remembered
returns-then-is_no_level-clause-remembered g c entry there = inl there

pub returns-then-is_no_level-clause-ors : goal.returns-then-is_no_level-clause-ors
returns-then-is_no_level-clause-ors g c = remembers_all disjunction c.args.ors.now.results

pub returns-then-is_no_level-clause-made : goal.returns-then-is_no_level-clause-made
returns-then-is_no_level-clause-made g c = c.subfunction_law.ensures.none_made c.args.table.now.graph
    (quantification_of c.args.table.now.graph c.args.u c.args.level)

pub returns-then-is_no_level-clause-reachable : goal.returns-then-is_no_level-clause-reachable
returns-then-is_no_level-clause-reachable g c = c.reach_law.ensures.none_made c.args.table.now.graph c.args.u

pub returns-then-is_no_level-clause-lacks : goal.returns-then-is_no_level-clause-lacks
returns-then-is_no_level-clause-lacks g c is = absurd (no_error is)
