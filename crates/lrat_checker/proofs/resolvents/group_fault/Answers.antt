-- What is left to show of `group_fault`.
use Rattle.std.proofs.Common.{◌≡◌, true, false, sym, ◌∙◌, rules}
use Rattle.lrat_rules.specs.Addition.{holds_negated, is_blocked_by}
use Rattle.lrat_rules.specs.FalseLiterals.{set_of}
use Rattle.lrat_checker.proofs.GroupFaults.{group_fault-stray, group_fault-blocked, group_fault-candidate}
use Rattle.lrat_checker.proofs.Cutting.{group_use-blocked, group_use-candidate}
use Rattle.lrat_checker.proofs.resolvents.group_fault.Goals as goal

pub returns-then-not-holds_negated-clause-fault : goal.returns-then-not-holds_negated-clause-fault
returns-then-not-holds_negated-clause-fault c =
    let absent : holds_negated c.args.pivot c.in-Some.clause.now ≡ false = sym c.holds_negated.ensures ∙ c.if-not-holds_negated.true in
    sym (group_fault-stray _ (set_of c.args.chain.now) _ c.args.group.now _ c.in-Some.ensures absent)

pub returns-then-is_blocked-clause-fault : goal.returns-then-is_blocked-clause-fault
returns-then-is_blocked-clause-fault c =
    let held : holds_negated c.args.pivot c.in-Some.clause.now ≡ true = sym c.holds_negated.ensures ∙ c.if-not-holds_negated.false in
    let blocked : is_blocked_by (set_of c.args.chain.now) c.args.pivot c.in-Some.clause.now ≡ true = sym c.is_blocked.ensures ∙ c.if-is_blocked.true in
    sym (group_fault-blocked _ (set_of c.args.chain.now) _ c.args.group.now _ c.in-Some.ensures held blocked)

pub returns-then-is_blocked-clause-used : goal.returns-then-is_blocked-clause-used
returns-then-is_blocked-clause-used c =
    let blocked : is_blocked_by (set_of c.args.chain.now) c.args.pivot c.in-Some.clause.now ≡ true = sym c.is_blocked.ensures ∙ c.if-is_blocked.true in
    sym (group_use-blocked _ (set_of c.args.chain.now) _ c.args.group.now _ c.in-Some.ensures blocked)

pub returns-clause-fault : goal.returns-clause-fault
returns-clause-fault c =
    let held : holds_negated c.args.pivot c.in-Some.clause.now ≡ true = sym c.holds_negated.ensures ∙ c.if-not-holds_negated.false in
    let unblocked : is_blocked_by (set_of c.args.chain.now) c.args.pivot c.in-Some.clause.now ≡ false = sym c.is_blocked.ensures ∙ c.if-is_blocked.false in
    rw (
      group_fault-candidate c.args.live.now (set_of c.args.chain.now) c.args.pivot c.args.group.now _ c.in-Some.ensures held unblocked,
      ← c.as_slice.ensures,
    )
    c.candidate_fault.ensures.fault

pub returns-clause-used : goal.returns-clause-used
returns-clause-used c =
    let unblocked : is_blocked_by (set_of c.args.chain.now) c.args.pivot c.in-Some.clause.now ≡ false = sym c.is_blocked.ensures ∙ c.if-is_blocked.false in
    rw (
      group_use-candidate c.args.live.now (set_of c.args.chain.now) c.args.pivot c.args.group.now _ c.in-Some.ensures unblocked,
      ← c.as_slice.ensures,
    )
    (search rules)
