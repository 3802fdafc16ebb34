-- The call as it is worked off.
use Rattle.std.proofs.Common.{refl}
use Rattle.quantify.specs.OrCache.{disjunction, disjunctions}
use Rattle.quantify.proofs.Lists.{others_still, unnamed}
use Rattle.quantify.proofs.Running.{sound_after}
use Rattle.quantify.proofs.disjoin.or.Goals as goal

pub returns-clause-others : goal.returns-clause-others
returns-clause-others g c list fits whole =
    let runs = c.work_off.ensures.runs in
    let old = c.args.table.now in
    let new = c.work_off.new.table in
    let after = c.work_off.new.cache in
    others_still c.entry_law.ensures old new c.requires.sound (sound_after old new c.work_off.result runs.steps.leaves whole)
    runs.steps.extends runs.retired (disjunctions c.args.cache.now) (disjunctions after) list
    (unnamed disjunction (λ x. refl) after.results.entries) (runs.fits whole) fits
