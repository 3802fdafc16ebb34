-- A literal that was taken before, one that is assumed, and one that a clause forced.
use Rattle.std.proofs.Common.{◌≡◌, pos, get_or, sym, ap, ◌∙◌}
use Rattle.std.proofs.lemmas.Bool.{both_ways}
use Rattle.std.proofs.lemmas.List.{get_or_read}
use Rattle.lrat_rules.specs.Chain.{literals_of}
use Rattle.drat_checker.specs.Hints.{IsForcedAt, untaken}
use Rattle.drat_checker.proofs.Hinted.{step-forced, step-idle, untaken-false, untaken-gone, untaken-here, untaken-more, untaken-split}
use Rattle.drat_checker.proofs.Hinted.{untaken-still}
use Rattle.drat_checker.proofs.Lifts.{if-some-at}
use Rattle.drat_checker.proofs.hints.take_at.Goals as goal

pub returns-then-again : goal.returns-then-again
returns-then-again c = λ is first before so_far. so_far

pub returns-then-not-is_needed : goal.returns-then-not-is_needed
returns-then-not-is_needed c = λ is first before so_far.
    let trail = c.args.trail.now in
    let place = c.args.place in
    let x = c.literal-literal.result in
    let at : x ≡ get_or trail.literals place (pos 0) = get_or_read trail.literals place x c.requires.within c.literal-literal.ensures (pos 0) in
    let needed = literals_of c.args.needed.now in
    let old = c.args.taken.now in
    let new = c.mark.new.self in
    let marks = c.in_ok-mark.ensures.ok in
    step-idle c.args.db.now trail c.args.given.now first place before c.requires.within (untaken first trail old) (untaken first trail new)
    (untaken-split first trail place before c.requires.within x at old new marks)
    (untaken-more first trail place before c.requires.within x at old new marks) needed needed (λ z m. m) c.args.found.now (λ z m. m)
    (λ assumed start need. absurd (both_ways (needed x) (sym c.contains-is_needed.ensures ∙ c.if-not-is_needed.true) (ap needed at ∙ need)))
    so_far

pub returns-in-None : goal.returns-in-None
returns-in-None c = λ is first before so_far.
    let trail = c.args.trail.now in
    let place = c.args.place in
    let x = c.literal-literal.result in
    let at : x ≡ get_or trail.literals place (pos 0) = get_or_read trail.literals place x c.requires.within c.literal-literal.ensures (pos 0) in
    let old = c.args.taken.now in
    let new = c.mark.new.self in
    let marks = c.in_ok-mark.ensures.ok in
    step-idle c.args.db.now trail c.args.given.now first place before c.requires.within (untaken first trail old) (untaken first trail new)
    (untaken-split first trail place before c.requires.within x at old new marks)
    (untaken-more first trail place before c.requires.within x at old new marks) (literals_of c.args.needed.now)
    (literals_of c.args.needed.now) (λ z m. m) c.args.found.now (λ z m. m)
    (λ assumed start need. c.forced_by.ensures.none c.in-None.is c.args.db.now assumed start.same start.reasons) so_far

pub returns-in_ok-note-in-Some : goal.returns-in_ok-note-in-Some
returns-in_ok-note-in-Some c = λ is first before so_far.
    let trail = c.args.trail.now in
    let place = c.args.place in
    let x = c.literal-literal.result in
    let at : x ≡ get_or trail.literals place (pos 0) = get_or_read trail.literals place x c.requires.within c.literal-literal.ensures (pos 0) in
    let old = c.args.taken.now in
    let new = c.mark.new.self in
    let marks = c.in_ok-mark.ensures.ok in
    let number = c.in-Some.number in
    step-forced c.args.db.now trail c.args.given.now first place before c.requires.within (untaken first trail old) (untaken first trail new)
    (untaken-split first trail place before c.requires.within x at old new marks)
    (untaken-more first trail place before c.requires.within x at old new marks) (literals_of c.args.needed.now)
    (literals_of c.note.new.needed) c.note.ensures.kept c.apart_law.ensures c.once_law.ensures
    (untaken-here first trail place before c.requires.within x at old new marks (sym c.contains-again.ensures ∙ c.if-again.false))
    (untaken-gone first trail place before c.requires.within x at old new marks) (untaken-false first trail new) c.args.found.now c.note.new.found
    number (if-some-at (IsForcedAt trail c.args.given.now place) c.forced_by.result number c.in-Some.is c.forced_by.ensures.forced)
    (ap (literals_of c.args.needed.now) (sym at) ∙ sym c.contains-is_needed.ensures ∙ c.if-not-is_needed.false)
    c.in_ok-note-in-Some.ensures.found c.note.ensures.id c.in_ok-note-in-Some.ensures.own c.in_ok-note-in-Some.ensures.marked
    (λ clause stands z m earlier. untaken-still first trail place before c.requires.within x at old new marks z
    (c.needs_taken-needs.ensures c.if-needs.false clause stands z m) earlier)
    so_far
