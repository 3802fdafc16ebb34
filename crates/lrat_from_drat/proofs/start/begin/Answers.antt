-- Want of memory, no tautology, and their line.
use Rattle.std.proofs.Common.{◌≡◌, ℕ, List, length, map, Some, Ok, Err, nat_eq, refl, rules, sym, ap, ◌∙◌, subst, eqb-true}
use Rattle.std.specs.Prelude.{nat_le}
use Rattle.cnf_base.specs.declared.step.Step.TheVariants.{Delete}
use Rattle.cnf_base.specs.ProofText.{line_of_step, max_id}
use Rattle.host_io.specs.Channel.{WritesAll}
use Rattle.drat_proof.specs.declared.error.ConvertError.TheVariants.{OutOfMemory}
use Rattle.drat_checker.specs.Places.{Places}
use Rattle.lrat_from_drat.specs.Starting.{AreDropped, Begins}
use Rattle.lrat_from_drat.specs.Lrat.{tautologies_of}
use Rattle.lrat_from_drat.proofs.Started.{begun-line, begun-none, empty-list, length-map}
use Rattle.lrat_from_drat.proofs.start.begin.Goals as goal

pub returns-in_err-count-clause-begins : goal.returns-in_err-count-clause-begins
returns-in_err-count-clause-begins g c = λ clauses from.
    let is : c.from_residual.result ≡ Err OutOfMemory = first_of (search rules, cc) in
    subst (Begins g.S.Sink.tells (g.S.Sink.channel c.args.sink.now) (g.S.Sink.channel c.args.sink.now) clauses) (sym is) refl

pub returns-in_err-ids-clause-begins : goal.returns-in_err-ids-clause-begins
returns-in_err-ids-clause-begins g c = λ clauses from.
    let is : c.from_residual-in_err-ids.result ≡ Err OutOfMemory = first_of (search rules, cc) in
    subst (Begins g.S.Sink.tells (g.S.Sink.channel c.args.sink.now) (g.S.Sink.channel c.args.sink.now) clauses) (sym is) refl

pub returns-then-is_empty-clause-begins : goal.returns-then-is_empty-clause-begins
returns-then-is_empty-clause-begins g c = λ clauses from.
    let dropped : AreDropped (map Some clauses) c.in_ok-ids.ids =
    subst (λ (ps : Places). AreDropped ps c.in_ok-ids.ids) from c.in_ok-ids.ensures.dropped in
    let all : c.in_ok-ids.ids ≡ tautologies_of (map Some clauses) = c.in_ok-ids.ensures.all ∙ ap tautologies_of from in
    begun-none c.start_law.ensures.clauses c.start_law.ensures.none_above c.start_law.ensures.none_at_zero clauses c.in_ok-ids.ids dropped
    all g.S.Sink.tells (g.S.Sink.channel c.args.sink.now)
    (sym c.as_slice.ensures ∙ empty-list c.as_slice.result.now (eqb-true _ _ (sym c.is_empty.ensures ∙ c.if-is_empty.true)))

pub returns-in-Ok-clause-begins : goal.returns-in-Ok-clause-begins
returns-in-Ok-clause-begins g c = λ clauses from.
    let dropped : AreDropped (map Some clauses) c.in_ok-ids.ids =
    subst (λ (ps : Places). AreDropped ps c.in_ok-ids.ids) from c.in_ok-ids.ensures.dropped in
    let all : c.in_ok-ids.ids ≡ tautologies_of (map Some clauses) = c.in_ok-ids.ensures.all ∙ ap tautologies_of from in
    begun-line c.start_law.ensures.clauses c.start_law.ensures.none_above c.start_law.ensures.none_at_zero clauses c.in_ok-ids.ids dropped
    all g.S.Sink.tells (g.S.Sink.channel c.args.sink.now) (g.S.Sink.channel c.write_delete.new.sink) c.last_of-last.result (Ok tt)
    (ap (λ n. nat_le n max_id) c.last_of-last.ensures.value ∙ c.last_of-last.ensures.range)
    (c.last_of-last.ensures.value ∙ c.in_ok-count.ensures ∙ ap (λ (ps : Places). length ps) from ∙ length-map clauses)
    (ap (λ (l : List ℕ). nat_eq (length l) 0) (sym c.as_slice.ensures) ∙ sym c.is_empty.ensures ∙ c.if-is_empty.false)
    (subst (λ (l : List ℕ). WritesAll g.S.Sink.tells (g.S.Sink.channel c.args.sink.now) (g.S.Sink.channel c.write_delete.new.sink)
    (line_of_step (Delete c.last_of-last.result l)) (Ok tt)) c.as_slice-2.ensures
    c.in-Ok.ensures.writes)

pub returns-clause-begins : goal.returns-clause-begins
returns-clause-begins g c = λ clauses from.
    let dropped : AreDropped (map Some clauses) c.in_ok-ids.ids =
    subst (λ (ps : Places). AreDropped ps c.in_ok-ids.ids) from c.in_ok-ids.ensures.dropped in
    let all : c.in_ok-ids.ids ≡ tautologies_of (map Some clauses) = c.in_ok-ids.ensures.all ∙ ap tautologies_of from in (
      c.in-Err.field-0,
      begun-line c.start_law.ensures.clauses c.start_law.ensures.none_above c.start_law.ensures.none_at_zero clauses c.in_ok-ids.ids dropped
          all g.S.Sink.tells (g.S.Sink.channel c.args.sink.now) (g.S.Sink.channel c.write_delete.new.sink) c.last_of-last.result
          (Err c.in-Err.field-0)
          (ap (λ n. nat_le n max_id) c.last_of-last.ensures.value ∙ c.last_of-last.ensures.range)
          (c.last_of-last.ensures.value ∙ c.in_ok-count.ensures ∙ ap (λ (ps : Places). length ps) from ∙ length-map clauses)
          (ap (λ (l : List ℕ). nat_eq (length l) 0) (sym c.as_slice.ensures) ∙ sym c.is_empty.ensures ∙ c.if-is_empty.false)
          (subst (λ (l : List ℕ). WritesAll {T = Unit {0}} g.S.Sink.tells (g.S.Sink.channel c.args.sink.now)
          (g.S.Sink.channel c.write_delete.new.sink)
          (line_of_step (Delete c.last_of-last.result l)) (Err c.in-Err.field-0)) c.as_slice-2.ensures
          c.in-Err.ensures.writes),
    )
