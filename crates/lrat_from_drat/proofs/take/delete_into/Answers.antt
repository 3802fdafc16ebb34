-- No clause goes, a tautology, or one with its line.
use Rattle.std.proofs.Common.{◌≡◌, Err, refl, rules, sym, ap, ◌∙◌, subst}
use Rattle.std.proofs.lemmas.Bool.{and_from}
use Rattle.cnf_base.specs.ProofText.{is_id, max_id}
use Rattle.std.specs.Prelude.{nat_le}
use Rattle.drat_text.specs.declared.step.DratStep.TheVariants.{Delete as deletes}
use Rattle.drat_rules.specs.Clauses.{equality_of}
use Rattle.drat_proof.specs.declared.error.ConvertError.TheVariants.{OutOfMemory}
use Rattle.drat_checker.specs.Places.{standing}
use Rattle.drat_checker.proofs.Standing.{place-within, remove-first, without-none}
use Rattle.lrat_from_drat.specs.Writing.{Takes}
use Rattle.lrat_from_drat.proofs.Becoming.{first-twin, no-twin}
use Rattle.lrat_from_drat.proofs.Taken.{takes-deletion, takes-gone, takes-nothing}
use Rattle.lrat_from_drat.proofs.take.delete_into.Goals as goal

pub returns-in-None-clause-takes : goal.returns-in-None-clause-takes
returns-in-None-clause-takes g c =
    takes-nothing g.S.Sink.tells (g.S.Sink.channel c.args.sink.now) (g.S.Sink.channel c.args.sink.now) (equality_of c.args.deletions)
    c.args.judge.now c.postpone.new.self c.args.clause.now
    (ap standing c.postpone.ensures
    ∙ sym (without-none (equality_of c.args.deletions) c.args.judge.now c.args.clause.now (c.in-None.ensures.none refl).absent))
    (no-twin (equality_of c.args.deletions) c.args.clause.now c.args.judge.now (c.in-None.ensures.none refl)) c.postpone.ensures refl

pub clear-requires : goal.clear-requires
clear-requires g c = place-within c.args.judge.now c.in-Some.number c.in-Some.ensures.found.own c.in-Some.ensures.found.stands

pub returns-in_err-gone-in-Some-clause-takes : goal.returns-in_err-gone-in-Some-clause-takes
returns-in_err-gone-in-Some-clause-takes g c =
    let is : c.from_residual.result ≡ Err OutOfMemory = first_of (search rules, cc) in
    subst (Takes g.S.Sink.tells (g.S.Sink.channel c.args.sink.now) (g.S.Sink.channel c.args.sink.now) (equality_of c.args.deletions)
    c.args.judge.now c.args.judge.now (deletes c.args.clause.now)) (sym is) refl

pub returns-in_err-count-in-Some-clause-takes : goal.returns-in_err-count-in-Some-clause-takes
returns-in_err-count-in-Some-clause-takes g c =
    let is : c.from_residual-in_err-count-in-Some.result ≡ Err OutOfMemory = first_of (search rules, cc) in
    subst (Takes g.S.Sink.tells (g.S.Sink.channel c.args.sink.now) (g.S.Sink.channel c.args.sink.now) (equality_of c.args.deletions)
    c.args.judge.now c.args.judge.now (deletes c.args.clause.now)) (sym is) refl

pub returns-then-gone-clause-takes : goal.returns-then-gone-clause-takes
returns-then-gone-clause-takes g c =
    let first = c.in-Some.ensures.found in
    let same = equality_of c.args.deletions in
    takes-gone g.S.Sink.tells (g.S.Sink.channel c.args.sink.now) (g.S.Sink.channel c.args.sink.now) same c.args.judge.now c.clear.new.self
    c.args.clause.now
    (ap standing c.clear.ensures
    ∙ remove-first same c.args.judge.now c.in-Some.number c.args.clause.now first.own first.stands first.twin first.least)
    c.in-Some.number first.own first.stands (first-twin same c.args.clause.now c.args.judge.now c.in-Some.number first) c.clear.ensures
    (sym c.in_ok-gone-in-Some.ensures.gone ∙ c.if-gone.true) refl

pub returns-else-gone-clause-takes : goal.returns-else-gone-clause-takes
returns-else-gone-clause-takes g c =
    let first = c.in-Some.ensures.found in
    let same = equality_of c.args.deletions in
    takes-deletion g.S.Sink.tells (g.S.Sink.channel c.args.sink.now) (g.S.Sink.channel c.write_deletion.new.sink) same c.args.judge.now
    c.clear.new.self c.args.clause.now
    (ap standing c.clear.ensures
    ∙ remove-first same c.args.judge.now c.in-Some.number c.args.clause.now first.own first.stands first.twin first.least)
    c.in-Some.number first.own first.stands (first-twin same c.args.clause.now c.args.judge.now c.in-Some.number first) c.clear.ensures
    (sym c.in_ok-gone-in-Some.ensures.gone ∙ c.if-gone.false) c.last_of-last.result c.id_of-id.result
    (c.last_of-last.ensures.value ∙ c.in_ok-count-in-Some.ensures) c.id_of-id.ensures.value
    (and_from _ _ (ap (λ n. nat_le n max_id) c.last_of-last.ensures.value ∙ c.last_of-last.ensures.range)
    (and_from _ _ (ap is_id c.id_of-id.ensures.value ∙ c.id_of-id.ensures.range) refl))
    c.write_deletion.result c.write_deletion.ensures.writes
