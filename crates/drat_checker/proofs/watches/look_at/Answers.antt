-- The clause watches another literal, or has only the other one left.
use Rattle.std.proofs.Common.{refl, sym}
use Rattle.drat_checker.proofs.Looks.{is-last-there, is-moved}
use Rattle.drat_checker.proofs.watches.look_at.Goals as goal

-- `stands`: what the number's place is, by db.clause
pub returns-in-None-find : goal.returns-in-None-find
returns-in-None-find c =
    is-last-there c.args.pairs.now c.args.db.now c.requires.pairs c.args.literal c.args.number c.args.other c.requires.beside
    c.in-Some.clause.now (sym c.in-Some.ensures) c.args.trail.now.literals (c.in-None-find.ensures.none refl)

pub returns-in-Some-find : goal.returns-in-Some-find
returns-in-Some-find c =
    is-moved c.args.pairs.now c.args.db.now c.requires.pairs c.args.literal c.args.number c.args.other c.requires.beside
    c.in-Some.clause.now
    (sym c.in-Some.ensures) c.args.trail.now.literals c.in-Some-find.first (record { first = c.in-Some-find.first; second = c.args.other })
    refl refl
    c.in-Some-find.ensures.found c.in-Some-find.ensures.unfalse c.in-Some-find.ensures.differs
