-- A literal that is given, and its reason.
use Rattle.std.proofs.Common.{◌≡◌, pos, get_or, sym, ap, ◌∙◌}
use Rattle.std.proofs.lemmas.List.{get_or_read}
use Rattle.lrat_rules.specs.Chain.{literals_of}
use Rattle.drat_checker.proofs.Hinted.{reason-assumed, reason-some}
use Rattle.drat_checker.proofs.hints.forced_by.Goals as goal

pub returns-then-is_given-clause-none : goal.returns-then-is_given-clause-none
returns-then-is_given-clause-none c = λ is places assumed same are.
    let trail = c.args.trail.now in
    let own : c.literal.result ≡ get_or trail.literals c.args.place (pos 0) =
    get_or_read trail.literals c.args.place c.literal.result c.requires.within c.literal.ensures (pos 0) in
    ap (literals_of assumed) (sym own) ∙ sym (same.same c.literal.result) ∙ sym c.contains-is_given.ensures ∙ c.if-is_given.true

pub returns-clause-forced : goal.returns-clause-forced
returns-clause-forced c =
    let trail = c.args.trail.now in
    let own : c.literal.result ≡ get_or trail.literals c.args.place (pos 0) =
    get_or_read trail.literals c.args.place c.literal.result c.requires.within c.literal.ensures (pos 0) in
    reason-some trail c.args.given.now c.args.place c.reason.result c.reason.ensures
    (ap (literals_of c.args.given.now) (sym own) ∙ sym c.contains-is_given.ensures ∙ c.if-is_given.false)

pub returns-clause-none : goal.returns-clause-none
returns-clause-none c = λ is places assumed same are.
    reason-assumed places assumed c.args.trail.now c.args.place c.requires.within are (sym c.reason.ensures ∙ is)
