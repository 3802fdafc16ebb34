-- What is left to show of `search_telling`.
use Rattle.std.proofs.Common.{rules, None, refl}
use Rattle.host_io.specs.declared.role.Role.TheVariants.{Schedule as ScheduleRole}
use Rattle.solver_cli.specs.Progress.{serves_none}
use Rattle.solver_cli.proofs.Reported.{left, tied}
use Rattle.solver_cli.proofs.plan.search_telling.Goals as goal

pub returns-clause-finds : goal.returns-clause-finds
returns-clause-finds g c =
    let made = c.new-search.ensures in
    let found = c.plan_found-result.ensures in
    record {
      found = found.found;
      refused = found.refused;
      same = (left g.H.Host.channel g.H.Host.files serves_none (λ _. None) refl made.same_reference made.same_value made.origin found.beside
          c.plan_found-result.new.observer.told
          (tied c.close-host.ensures.same_reference c.close-host.ensures.same_value (search rules))).others ScheduleRole refl refl;
    }

pub returns-clause-told : goal.returns-clause-told
returns-clause-told g c =
    let made = c.new-search.ensures in
    (left g.H.Host.channel g.H.Host.files serves_none (λ _. None) refl made.same_reference made.same_value made.origin
    c.plan_found-result.ensures.beside c.plan_found-result.new.observer.told
    (tied c.close-host.ensures.same_reference c.close-host.ensures.same_value (search rules))).told

pub returns-clause-kept : goal.returns-clause-kept
returns-clause-kept g c =
    let made = c.new-search.ensures in
    let is = left g.H.Host.channel g.H.Host.files serves_none (λ _. None) refl made.same_reference made.same_value made.origin
    c.plan_found-result.ensures.beside c.plan_found-result.new.observer.told
    (tied c.close-host.ensures.same_reference c.close-host.ensures.same_value (search rules)) in
    record { others = λ other _ apart. is.others other refl apart; files = is.untouched }
