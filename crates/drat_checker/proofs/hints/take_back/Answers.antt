-- A literal that isn't needed, one that is assumed, and one that a clause forced.
use Rattle.std.proofs.Common.{◌≡◌, ◌+◌, pos, get_or, take, sym, ap, ◌∙◌, arith}
use Rattle.std.proofs.lemmas.Bool.{both_ways}
use Rattle.std.proofs.lemmas.List.{get_or_read}
use Rattle.lrat_rules.specs.Chain.{literals_of}
use Rattle.drat_checker.specs.Hints.{IsForcedAt}
use Rattle.drat_checker.proofs.Hinted.{front-front, front-split, step-forced, step-idle}
use Rattle.drat_checker.proofs.Trails.{at-front, new-at}
use Rattle.drat_checker.proofs.Settled.{front-false}
use Rattle.drat_checker.proofs.Lifts.{if-some-at}
use Rattle.drat_checker.proofs.hints.take_back.Goals as goal

pub returns-then-not-is_needed : goal.returns-then-not-is_needed
returns-then-not-is_needed c = λ first before so_far.
    let trail = c.args.trail.now in
    let place = c.args.place in
    let needed = literals_of c.args.needed.now in
    let at : c.literal.result ≡ get_or trail.literals place (pos 0) =
    get_or_read trail.literals place c.literal.result c.requires.within c.literal.ensures (pos 0) in
    step-idle c.args.db.now trail c.args.given.now first place before c.requires.within (literals_of (take (place + 1) trail.literals))
    (literals_of (take place trail.literals)) (front-split trail.literals place c.requires.within)
    (front-front trail.literals place (place + 1) (omega arith)) needed needed (λ z m. m) c.args.found.now (λ z m. m)
    (λ assumed start need. absurd (both_ways (needed c.literal.result) (sym c.contains-is_needed.ensures ∙ c.if-not-is_needed.true)
    (ap needed at ∙ need))) so_far

pub returns-in-None : goal.returns-in-None
returns-in-None c = λ first before so_far.
    let trail = c.args.trail.now in
    let place = c.args.place in
    let needed = literals_of c.args.needed.now in
    step-idle c.args.db.now trail c.args.given.now first place before c.requires.within (literals_of (take (place + 1) trail.literals))
    (literals_of (take place trail.literals)) (front-split trail.literals place c.requires.within)
    (front-front trail.literals place (place + 1) (omega arith)) needed needed (λ z m. m) c.args.found.now (λ z m. m)
    (λ assumed start need. c.forced_by.ensures.none c.in-None.is c.args.db.now assumed start.same start.reasons) so_far

pub returns-in_ok-note-in-Some : goal.returns-in_ok-note-in-Some
returns-in_ok-note-in-Some c = λ first before so_far.
    let trail = c.args.trail.now in
    let place = c.args.place in
    let number = c.in-Some.number in
    let at : c.literal.result ≡ get_or trail.literals place (pos 0) =
    get_or_read trail.literals place c.literal.result c.requires.within c.literal.ensures (pos 0) in
    step-forced c.args.db.now trail c.args.given.now first place before c.requires.within (literals_of (take (place + 1) trail.literals))
    (literals_of (take place trail.literals)) (front-split trail.literals place c.requires.within)
    (front-front trail.literals place (place + 1) (omega arith)) (literals_of c.args.needed.now) (literals_of c.note.new.needed)
    c.note.ensures.kept c.apart_law.ensures c.once_law.ensures (at-front trail.literals place (place + 1) (omega arith) c.requires.within)
    (new-at trail.literals c.once_law.ensures place c.requires.within) (λ z m. front-false trail.literals place z m) c.args.found.now
    c.note.new.found number
    (if-some-at (IsForcedAt trail c.args.given.now place) c.forced_by.result number c.in-Some.is c.forced_by.ensures.forced)
    (ap (literals_of c.args.needed.now) (sym at) ∙ sym c.contains-is_needed.ensures ∙ c.if-not-is_needed.false)
    c.in_ok-note-in-Some.ensures.found c.note.ensures.id c.in_ok-note-in-Some.ensures.own c.in_ok-note-in-Some.ensures.marked (λ clause stands z m earlier. earlier) so_far
