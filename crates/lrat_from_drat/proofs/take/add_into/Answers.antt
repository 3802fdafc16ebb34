-- Want of memory, an addition that isn't good, a tautology, and an addition with its line.
use Rattle.std.proofs.Common.{◌≡◌, ◌+◌, ◌∷◌, [], ◌++◌, Some, Err, refl, rules, sym, ap, ◌∙◌, subst}
use Rattle.cnf_base.specs.ProofText.{is_id}
use Rattle.drat_text.specs.declared.step.DratStep.TheVariants.{Add as adds}
use Rattle.drat_rules.specs.Clauses.{equality_of}
use Rattle.drat_proof.specs.declared.error.ConvertError.TheVariants.{OutOfMemory}
use Rattle.drat_checker.specs.Places.{standing}
use Rattle.drat_checker.proofs.Standing.{standing-push}
use Rattle.lrat_from_drat.specs.Writing.{Takes}
use Rattle.lrat_from_drat.proofs.Taken.{if-none-at, takes-line, takes-tautology}
use Rattle.lrat_from_drat.proofs.take.add_into.Goals as goal

pub returns-in_err-number-clause-takes : goal.returns-in_err-number-clause-takes
returns-in_err-number-clause-takes g c =
    let is : c.from_residual.result ≡ Err OutOfMemory = first_of (search rules, cc) in
    subst (Takes g.S.Sink.tells (g.S.Sink.channel c.args.sink.now) (g.S.Sink.channel c.args.sink.now) (equality_of c.args.deletions)
    c.args.judge.now c.args.judge.now (adds c.args.clause.now)) (sym is) refl

pub returns-in_err-tautology-clause-takes : goal.returns-in_err-tautology-clause-takes
returns-in_err-tautology-clause-takes g c =
    let is : c.from_residual-in_err-tautology.result ≡ Err OutOfMemory = first_of (search rules, cc) in
    subst (Takes g.S.Sink.tells (g.S.Sink.channel c.args.sink.now) (g.S.Sink.channel c.args.sink.now) (equality_of c.args.deletions)
    c.args.judge.now c.args.judge.now (adds c.args.clause.now)) (sym is) refl

pub returns-in_err-fault-clause-takes : goal.returns-in_err-fault-clause-takes
returns-in_err-fault-clause-takes g c =
    let is : c.from_residual-in_err-fault.result ≡ Err OutOfMemory = first_of (search rules, cc) in
    subst (Takes g.S.Sink.tells (g.S.Sink.channel c.args.sink.now) (g.S.Sink.channel c.args.sink.now) (equality_of c.args.deletions)
    c.args.judge.now c.add.new.self (adds c.args.clause.now)) (sym is) refl

pub returns-in-Some-clause-takes : goal.returns-in-Some-clause-takes
returns-in-Some-clause-takes g c = (sym c.in_ok-fault.ensures.fault ∙ c.in-Some.is, refl)

pub returns-then-tautology-clause-takes : goal.returns-then-tautology-clause-takes
returns-then-tautology-clause-takes g c =
    let before = c.args.judge.now in
    let clause = c.args.clause.now in
    let is : c.add.new.self ≡ before ++ Some clause ∷ [] = if-none-at c.in_ok-fault.fault c.in_default.is c.in_ok-fault.ensures.good in
    takes-tautology c.live_law.ensures g.S.Sink.tells (g.S.Sink.channel c.args.sink.now) (g.S.Sink.channel c.args.sink.now)
    (equality_of c.args.deletions) before c.add.new.self clause (sym c.in_ok-fault.ensures.fault ∙ c.in_default.is)
    (ap standing is ∙ standing-push before clause) is
    (sym c.in_ok-tautology.ensures.answer ∙ c.if-tautology.true) refl

pub returns-clause-takes : goal.returns-clause-takes
returns-clause-takes g c =
    let before = c.args.judge.now in
    let clause = c.args.clause.now in
    let is : c.add.new.self ≡ before ++ Some clause ∷ [] = if-none-at c.in_ok-fault.fault c.in_default.is c.in_ok-fault.ensures.good in
    let fails = sym c.in_ok-tautology.ensures.answer ∙ c.if-tautology.false in
    takes-line c.live_law.ensures g.S.Sink.tells (g.S.Sink.channel c.args.sink.now) (g.S.Sink.channel c.write_addition.new.sink)
    (equality_of c.args.deletions) before c.add.new.self clause (sym c.in_ok-fault.ensures.fault ∙ c.in_default.is)
    (ap standing is ∙ standing-push before clause) is c.add.new.line.hints c.add.new.line.groups c.id_of-id.result fails
    (c.in_ok-fault.ensures.line c.in_default.is (c.tautology.ensures.wanted ∙ c.requires.wanted) fails)
    (c.id_of-id.ensures.value ∙ ap (λ n. n + 1) c.in_ok-number.ensures)
    (ap is_id c.id_of-id.ensures.value ∙ c.id_of-id.ensures.range)
    c.write_addition.result c.write_addition.ensures.writes
