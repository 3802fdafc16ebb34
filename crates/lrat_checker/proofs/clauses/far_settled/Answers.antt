-- What is left to show of `far_settled`.
use Rattle.std.proofs.Common.{◌≡◌, true, false, map, sym, ◌∙◌, ap, rules}
use Rattle.std.specs.Cmp.{nat_eq_equiv}
use Rattle.std.specs.List.{list_all}
use Rattle.std.specs.Map.Iter.{deref_pair}
use Rattle.std.proofs.lemmas.Map.Iter.{hash_map_turn, iter_end}
use Rattle.lrat_rules.specs.FalseLiterals.{set_of}
use Rattle.lrat_checker.specs.Walk.{settles, settles_at}
use Rattle.lrat_checker.proofs.Walks.{entries_pass, one_entry_more}
use Rattle.lrat_checker.proofs.clauses.far_settled.Goals as goal

pub returns-then-not-settles_clause-clause-open : goal.returns-then-not-settles_clause-clause-open
returns-then-not-settles_clause-clause-open c = λ _.
    let n = set_of c.args.chain.now in
    let here = hash_map_turn deref_pair c.loop-number.yielded c.into_iter-number-iterator.result c.loop-number.number-iterator
    c.next.new.self c.next.result (c.in-Some.number, c.in-Some.clause)
    c.loop-number.yielded_by c.in-Some.is c.next.ensures.steps nat_eq_equiv c.args.far.now (search rules) (search rules) in
    let open_clause : settles n c.args.pivot c.args.groups.now c.in-Some.number.now c.in-Some.clause.now ≡ false =
    ap (settles n c.args.pivot c.args.groups.now c.in-Some.number.now) (sym c.literals.ensures) ∙ sym c.settles_clause.ensures
    ∙ c.if-not-settles_clause.true in
    (c.in-Some.number.now, ap (settles_at n c.args.pivot c.args.groups.now c.in-Some.number.now) here.1 ∙ open_clause)

pub loop-number-preserved : goal.loop-number-preserved
loop-number-preserved c =
    let n = set_of c.args.chain.now in
    let settled : settles n c.args.pivot c.args.groups.now c.in-Some.number.now c.in-Some.clause.now ≡ true =
    ap (settles n c.args.pivot c.args.groups.now c.in-Some.number.now) (sym c.literals.ensures) ∙ sym c.settles_clause.ensures
    ∙ c.if-not-settles_clause.false in
    one_entry_more (settles n c.args.pivot c.args.groups.now) c.loop-number.yielded
    (c.in-Some.number, c.in-Some.clause) c.loop-number.invariant settled

pub returns-clause-settled : goal.returns-clause-settled
returns-clause-settled c = λ _ number.
    let all : map deref_pair c.loop-number.yielded ≡ c.args.far.now.entries = search (rules, iter_end) in
    entries_pass (settles (set_of c.args.chain.now) c.args.pivot c.args.groups.now) c.args.far.now.entries
    (ap (list_all (λ entry. settles (set_of c.args.chain.now) c.args.pivot c.args.groups.now entry.0 entry.1)) (sym all)
    ∙ c.loop-number.invariant) number
