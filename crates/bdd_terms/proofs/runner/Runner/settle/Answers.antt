-- The clauses that a call retired are deleted behind it.
use Rattle.std.proofs.Common.{◌≡◌, ◌⊎◌, ◌∙◌, ℕ, true, None, Some, Ok, Err, Result, ap, subst, sym, arith, inl, inr, refl}
use Rattle.std.specs.Prelude.{IsErrAnd, OnOk}
use Rattle.node_table.specs.declared.error.TableError.{TableError}
use Rattle.node_table.specs.declared.error.TableError.TheVariants.{NodeLimit, WriteFault}
use Rattle.node_table.specs.HandedOn.{handed_on, same_error}
use Rattle.node_table.specs.Progress.{Leaves, error_of}
use Rattle.node_table.specs.Table.{TableState, AddsAtMost, defining_clauses}
use Rattle.bdd_terms.specs.declared.term.Term.{Term}
use Rattle.bdd_terms.proofs.Given.{ended_whole, gives_still, leaves_ended, torn_behind, went_so_far}
use Rattle.bdd_terms.proofs.runner.Runner.settle.Goals as goal

pub settle-requires : goal.settle-requires
settle-requires g c = record {
  sound = (c.requires.runner (ended_whole c.args.found (c.has_ended.ensures.0 c.if-not-has_ended.false))).over.sound;
}

pub returns-then-not-has_ended-clause-gives : goal.returns-then-not-has_ended-clause-gives
returns-then-not-has_ended-clause-gives g c function holds operands old own = own

pub returns-in_err-settle-clause-gives : goal.returns-in_err-settle-clause-gives
returns-in_err-settle-clause-gives g c function holds operands old own =
    let mid = c.args.self.now in
    let new = c.settle.new.self in
    let came = c.in_err-settle.field-0.0 in
    let is = c.in_err-settle.ensures.error in
    torn_behind function holds operands old mid new c.args.found own c.settle.ensures.nodes c.settle.ensures.top _
    (handed_on _ came WriteFault c.from_residual.ensures.1 is)
    (subst (λ (e : TableError). Leaves old.terms.table new (Some e)) is
    (c.steps_law.ensures.leave old.terms.table mid.terms.table new (Some came)
    (went_so_far old.terms.table mid.terms.table c.args.found (c.has_ended.ensures.0 c.if-not-has_ended.false) own.leaves)
    c.in_err-settle.ensures.leaves))

pub returns-clause-gives : goal.returns-clause-gives
returns-clause-gives g c function holds operands old own =
    let mid = c.args.self.now in
    let new = c.settle.new.self in
    let done = c.in_ok-settle.ensures in
    gives_still function holds operands old mid new c.args.found own c.settle.ensures.nodes c.settle.ensures.top c.entry_law.ensures
    done.settled c.settle.ensures.gone c.settle.ensures.stay done.leaves
    (leaves_ended c.steps_law.ensures old.terms.table mid.terms.table new c.args.found
    (c.has_ended.ensures.0 c.if-not-has_ended.false) own.leaves done.leaves c.settle.ensures.nodes)

-- the numbers are as they were
adds_same : {S : Type 0} (old mid new : TableState S) (most : ℕ) → new.graph ≡ mid.graph → new.book.state.top ≡ mid.book.state.top
    → AddsAtMost most old mid → AddsAtMost most old new
adds_same old mid new most nodes top few = omega (arith, few, top, ap defining_clauses nodes)

pub returns-in_err-settle-clause-adds : goal.returns-in_err-settle-clause-adds
returns-in_err-settle-clause-adds g c most old few =
    adds_same old.terms.table c.args.self.now.terms.table c.settle.new.self most c.settle.ensures.nodes c.settle.ensures.top few

pub returns-clause-adds : goal.returns-clause-adds
returns-clause-adds g c most old few =
    adds_same old.terms.table c.args.self.now.terms.table c.settle.new.self most c.settle.ensures.nodes c.settle.ensures.top few

pub returns-in_err-settle-clause-given : goal.returns-in_err-settle-clause-given
returns-in_err-settle-clause-given g c =
    inr (handed_on _ c.in_err-settle.field-0.0 WriteFault c.from_residual.ensures.1 c.in_err-settle.ensures.error)

pub returns-in_err-settle-clause-nodes : goal.returns-in_err-settle-clause-nodes
returns-in_err-settle-clause-nodes g c = c.settle.ensures.nodes

pub returns-clause-nodes : goal.returns-clause-nodes
returns-clause-nodes g c = c.settle.ensures.nodes

pub returns-then-not-has_ended-clause-given : goal.returns-then-not-has_ended-clause-given
returns-then-not-has_ended-clause-given g c = inl refl

pub returns-clause-given : goal.returns-clause-given
returns-clause-given g c = inl refl

-- what hasn't ended is neither an answer nor the limit of nodes
unended_ok : (P : Type 0) (found : Result Term TableError) → ((error_of found ≡ None) ⊎ (error_of found ≡ Some NodeLimit) → ⊥) → OnOk found P
unended_ok P (Ok term) open_yet = absurd (open_yet (inl refl))
unended_ok P (Err e) open_yet = tt

unended_limit : (found : Result Term TableError) → ((error_of found ≡ None) ⊎ (error_of found ≡ Some NodeLimit) → ⊥) → found ≡ Err NodeLimit → ⊥
unended_limit found open_yet is = open_yet (inr (ap error_of is))

pub returns-then-not-has_ended-clause-settled : goal.returns-then-not-has_ended-clause-settled
returns-then-not-has_ended-clause-settled g c =
    unended_ok _ c.args.found (λ ended. let yes : c.has_ended.result ≡ true = c.has_ended.ensures.1 ended in cc)

pub returns-then-not-has_ended-clause-at_limit : goal.returns-then-not-has_ended-clause-at_limit
returns-then-not-has_ended-clause-at_limit g c is =
    absurd (unended_limit c.args.found (λ ended. let yes : c.has_ended.result ≡ true = c.has_ended.ensures.1 ended in cc) is)

on_ok : {P : Type 0} (found : Result Term TableError) → P → OnOk found P
on_ok (Ok term) p = p
on_ok (Err e) p = tt

pub returns-clause-settled : goal.returns-clause-settled
returns-clause-settled g c = on_ok c.args.found (ap (λ (t : TableState g.row.S.Denot). t.retired) c.in_ok-settle.ensures.settled)

pub returns-clause-at_limit : goal.returns-clause-at_limit
returns-clause-at_limit g c is = ap (λ (t : TableState g.row.S.Denot). t.retired) c.in_ok-settle.ensures.settled

pub returns-in_err-settle-clause-settled : goal.returns-in_err-settle-clause-settled
returns-in_err-settle-clause-settled g c = no_answer_on _ _ c.in_err-settle.field-0.0 c.from_residual.ensures.1
  where
    no_answer_on : (P : Type 0) (r : Result Term TableError) (e : TableError) → IsErrAnd r (λ other. other ≡ e) → OnOk r P
    no_answer_on P (Ok term) e is = absurd is
    no_answer_on P (Err other) e is = tt

pub returns-in_err-settle-clause-at_limit : goal.returns-in_err-settle-clause-at_limit
returns-in_err-settle-clause-at_limit g c is =
    absurd (let torn : WriteFault ≡ NodeLimit =
    same_error (sym (handed_on _ c.in_err-settle.field-0.0 WriteFault c.from_residual.ensures.1 c.in_err-settle.ensures.error) ∙ is) in cc)
