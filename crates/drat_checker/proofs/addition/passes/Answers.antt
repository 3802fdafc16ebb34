-- A clause that is no candidate passes, and one that is refuted; the literals behind those at the start are taken back.
use Rattle.std.proofs.Common.{◌++◌, sym, ◌∙◌}
use Rattle.drat_checker.specs.Places.{standing}
use Rattle.drat_checker.proofs.Propagated.{passes-free, passes-refuted}
use Rattle.drat_checker.proofs.Reasoned.{cut-back, reasons-assumed, refutes-more}
use Rattle.drat_checker.proofs.FalseSets.{free-both, free-held, has-left, has-right}
use Rattle.drat_checker.proofs.Visited.{held-more}
use Rattle.drat_checker.proofs.Lifts.{some-each}
use Rattle.drat_checker.proofs.Lined.{fits-other}
use Rattle.drat_rules.specs.Addition.{others_of}
use Rattle.drat_checker.proofs.Watched.{moves-none}
use Rattle.drat_checker.proofs.Units.{units-extended}
use Rattle.drat_checker.proofs.addition.passes.Goals as goal

pub returns-then-not-holds-clause-passes : goal.returns-then-not-holds-clause-passes
returns-then-not-holds-clause-passes c =
    passes-free (standing c.args.db.now) c.args.pivot c.args.trail.now.literals c.args.other.now
    (sym c.holds_negated-holds.ensures ∙ c.if-not-holds.true)

pub returns-then-not-holds-clause-moves : goal.returns-then-not-holds-clause-moves
returns-then-not-holds-clause-moves c = moves-none c.args.kept.now.pairs.items c.args.trail.now.literals

pub returns-clause-passes : goal.returns-clause-passes
returns-clause-passes c =
    c.is_some.ensures ∙ c.in_ok-refutation.ensures.refuted
    ∙ passes-refuted (standing c.args.db.now) c.args.pivot c.args.trail.now.literals c.args.other.now
    (sym c.holds_negated-holds.ensures ∙ c.if-not-holds.false)

pub returns-clause-same : goal.returns-clause-same
returns-clause-same c =
    c.truncate.ensures
    ∙ cut-back c.len-count.result c.len-count.ensures.literals (sym c.len-count.ensures.reasons ∙ c.len-count.ensures.literals)
    c.in_ok-refutation.ensures.extends c.in_ok-refutation.ensures.reasons

pub returns-then-not-holds-clause-fits : goal.returns-then-not-holds-clause-fits
returns-then-not-holds-clause-fits c = λ is wanted plain.
    fits-other c.args.db.now c.args.clause.now c.args.pivot c.args.number c.args.line.now.groups c.args.other.now c.requires.stands
    (sym c.holds_negated-holds.ensures ∙ c.if-not-holds.true)

pub note_candidate-requires : goal.note_candidate-requires
note_candidate-requires c = record {
  stands = c.requires.stands;
  holds = sym c.holds_negated-holds.ensures ∙ c.if-not-holds.false;
}

pub returns-clause-fits : goal.returns-clause-fits
returns-clause-fits c = λ is wanted plain.
    let places = c.args.db.now in
    let clause = c.args.clause.now in
    let others = others_of c.args.pivot c.args.other.now in
    c.in_ok-note_candidate.ensures.fits (sym c.is_some.ensures ∙ is) wanted plain
    (c.in_ok-refutation.ensures.reasons.kept (clause ++ others) (has-right clause others)
    (reasons-assumed places clause (clause ++ others) c.args.trail.now (has-left clause others) c.requires.assumed.reasons))
    (units-extended places places c.args.trail.now c.refute_candidate.new.trail c.once_law.ensures c.requires.assumed.reasons.many
    c.in_ok-refutation.ensures.extends c.in_ok-refutation.ensures.reasons.rest c.in_ok-refutation.ensures.reasons.parts
    c.requires.settled.holds c.requires.assumed.units)
    (some-each c.in_ok-refutation.refutation (λ r h. refutes-more places c.refute_candidate.new.trail others (clause ++ others) r
    (has-right clause others)
    (free-both c.refute_candidate.new.trail.literals clause others
    (free-held c.refute_candidate.new.trail.literals clause c.apart_law.ensures
    (held-more clause c.in_ok-refutation.ensures.extends c.requires.assumed.held))) h) c.in_ok-refutation.ensures.refutes)
