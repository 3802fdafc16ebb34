-- A clause that is false where none of its literals clashes with what is assumed, and the first literal that does.
use Rattle.std.proofs.Common.{subst, arith}
use Rattle.drat_checker.specs.Reasons.{Refutes}
use Rattle.drat_checker.proofs.Hinted.{clash-assumed, first-clash, first-falsified}
use Rattle.drat_checker.proofs.Lifts.{some-each}
use Rattle.drat_checker.proofs.hints.conflict_of.Goals as goal

pub returns-in-Conflict-clause-first : goal.returns-in-Conflict-clause-first
returns-in-Conflict-clause-first c = λ places assumed same are refutes.
    let both = subst (Refutes places c.args.trail.now assumed) c.in-Conflict.is refutes in
    first-falsified places c.args.trail.now.literals assumed c.in-Conflict.number c.len-count.result c.len-count.ensures.literals
    c.apart_law.ensures both.0 both.1

pub returns-in-Clash-clause-first : goal.returns-in-Clash-clause-first
returns-in-Clash-clause-first c = λ places assumed same are refutes.
    some-each c.first_clash.result (first-clash places c.args.trail.now c.args.given.now assumed same are c.apart_law.ensures
    c.once_law.ensures) c.first_clash.ensures.clash

pub returns-in-Clash-clause-none : goal.returns-in-Clash-clause-none
returns-in-Clash-clause-none c = λ places assumed same are refutes none.
    clash-assumed places c.args.trail.now c.args.given.now assumed same are c.in-Clash._literal
    (subst (Refutes places c.args.trail.now assumed) c.in-Clash.is refutes) (c.first_clash.ensures.none none)

pub returns-in-Clash-clause-within : goal.returns-in-Clash-clause-within
returns-in-Clash-clause-within c = some-each c.first_clash.result (λ first clash. omega (arith, clash.within)) c.first_clash.ensures.clash
