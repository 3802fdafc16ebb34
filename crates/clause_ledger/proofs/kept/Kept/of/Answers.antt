-- What is left to show of `Kept::of`.
use Rattle.std.proofs.Common.{◌≡◌, ◌+◌, ◌-◌, ◌<◌, [], length, take, get_or, map, sym, ◌∙◌, ap, subst, arith}
use Rattle.std.proofs.lemmas.List.{take_more}
use Rattle.lrat_rules.specs.State.{State, start}
use Rattle.clause_ledger.specs.Book.{with_next}
use Rattle.clause_ledger.specs.Kept.{AreKept}
use Rattle.clause_ledger.specs.Spans.{clause_of}
use Rattle.clause_ledger.proofs.Places.{are_kept-none}
use Rattle.clause_ledger.proofs.kept.Kept.of.Goals as goal

pub loop-i-init : goal.loop-i-init
loop-i-init c = are_kept-none (ap (map (clause_of c.new.result.items)) c.new-2.ensures.items) (c.start_law.ensures.none_at_zero [])
    (c.start_law.ensures.none_above [])

pub loop-i-preserved : goal.loop-i-preserved
loop-i-preserved c =
    let clauses = c.args.formula.now.clauses in
    let i = c.loop-i.i in
    let lt : i < length clauses = omega (arith, c.loop-i-test.true, c.len-i-end.ensures) in
    let place : i + 1 - 1 ≡ i = omega arith in
    let own : c.clause.result.now ≡ get_or clauses i [] = c.clause.ensures ∙ ap (λ n. get_or clauses n []) place in
    let next : with_next (start (take i clauses)) c.clause.result.now ≡ start (take (i + 1) clauses) =
    (λ k. with_next (start (take i clauses)) (own k)) ∙ sym (c.start_law.ensures.appended (take i clauses) (get_or clauses i []))
    ∙ ap start (sym (take_more clauses i [] lt)) in
    subst (λ (s : State). AreKept s c.push.new.self) next (c.in_ok-push.ensures.kept (start (take i clauses)) c.loop-i.invariant)
