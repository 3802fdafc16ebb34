-- From the conflict's clause over the places to the end.
use Rattle.std.proofs.Common.{◌+◌, ℕ, ℤ, List, [], ◌∷◌, ◌++◌, ap, ◌∙◌, arith}
use Rattle.lrat_rules.specs.Chain.{literals_of}
use Rattle.drat_checker.specs.Hints.{untaken}
use Rattle.drat_checker.proofs.Hinted.{none-untaken, own-marked, refute-end, refute-start, untaken-all, untaken-false}
use Rattle.drat_checker.proofs.hints.explain_by.Goals as goal

pub loop-place-init : goal.loop-place-init
loop-place-init c =
    let trail = c.args.trail.now in
    refute-start c.args.db.now trail c.args.given.now c.args.first (untaken c.args.first trail c.clear-2.new.self)
    (literals_of c.note.new.needed) c.note.new.found (untaken-all c.args.first trail c.clear-2.new.self c.clear-2.ensures)
    c.in_ok-note.ensures.marked
    (own-marked c.args.db.now c.args.first.number c.clear.new.self c.note.new.needed c.clear.ensures c.in_ok-note.ensures.own)
    c.note.ensures.id
    (c.in_ok-note.ensures.found ∙ ap (λ (l : List ℕ). l ++ (c.args.first.number + 1) ∷ []) c.clear-3.ensures)

pub take_at-requires : goal.take_at-requires
take_at-requires c = record { within = omega (arith, c.if-first-place.false, c.requires.within) }

pub loop-place-preserved : goal.loop-place-preserved
loop-place-preserved c =
    c.in_ok-fits.ensures c.if-not-fits.false c.args.first (omega (arith, c.if-first-place.false)) c.loop-place.invariant

pub returns : goal.returns
returns c = λ is.
    let trail = c.args.trail.now in
    refute-end c.args.db.now trail c.args.given.now c.args.first (untaken c.args.first trail c.loop-place.taken)
    (literals_of c.loop-place.needed) c.loop-place.found
    (λ x left need. none-untaken c.args.first trail c.args.given.now c.loop-place.taken x
    (c.none_left-whole.ensures is x (ap (λ (l : List ℤ). literals_of l x) c.as_slice.ensures ∙ need)
    (untaken-false c.args.first trail c.loop-place.taken x left)) left)
    c.loop-place.invariant
