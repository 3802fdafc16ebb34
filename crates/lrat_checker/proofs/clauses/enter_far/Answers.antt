-- What is left to show of `enter_far`.
use Rattle.std.proofs.Common.{◌≡◌, true, map, sym, ◌∙◌, ap, rules}
use Rattle.std.specs.List.{list_all}
use Rattle.std.specs.Map.Iter.{deref_pair}
use Rattle.std.proofs.lemmas.Map.Iter.{iter_end}
use Rattle.lrat_checker.specs.Holders.{is_entered}
use Rattle.lrat_checker.proofs.Kept.{along, all_weaker, entered_kept}
use Rattle.lrat_checker.proofs.Walks.{entries_pass, one_entry_more}
use Rattle.lrat_checker.proofs.clauses.enter_far.Goals as goal

pub loop-number-preserved : goal.loop-number-preserved
loop-number-preserved c =
    let old = c.loop-number.holders in
    let new = c.enter.new.self in
    let here : is_entered new c.in-Some.number.now c.in-Some.clause.now
    ≡ true = ap (is_entered new c.in-Some.number.now) (sym c.literals.ensures) ∙ c.in_ok-enter.ensures.entered in
    record {
      kept = along c.loop-number.invariant.kept c.in_ok-enter.ensures.kept;
      entered =
          one_entry_more (is_entered new) c.loop-number.yielded (c.in-Some.number, c.in-Some.clause)
          (all_weaker (λ entry. is_entered old entry.0 entry.1) (λ entry. is_entered new entry.0 entry.1)
          (λ entry h. entered_kept old new c.in_ok-enter.ensures.kept entry.0 entry.1 h)
          (map deref_pair c.loop-number.yielded) c.loop-number.invariant.entered)
          here;
    }

pub returns-clause-entered : goal.returns-clause-entered
returns-clause-entered c = λ number.
    let all : map deref_pair c.loop-number.yielded ≡ c.args.far.now.entries = search (rules, iter_end) in
    entries_pass (is_entered c.loop-number.holders) c.args.far.now.entries
    (ap (list_all (λ entry. is_entered c.loop-number.holders entry.0 entry.1)) (sym all) ∙ c.loop-number.invariant.entered) number
