-- The clause that is retired is the one that the entry names.
use Rattle.std.proofs.Common.{ℕ, Option, subst, sym}
use Rattle.operations.specs.Entries.{IsClauseOf, just_of}
use Rattle.operations.proofs.computed.Results.turn.Goals as goal

pub retire-requires-clause-own : goal.retire-requires-clause-own
retire-requires-clause-own g c id is =
    (c.requires.may c.in-Some.last (sym c.in-Some.ensures)).own id
    (subst (λ (o : Option ℕ). IsClauseOf (just_of (g.C.Computed.entry_of c.in-Some.last)) o) is c.clause.ensures)

pub retire-requires-clause-unretired : goal.retire-requires-clause-unretired
retire-requires-clause-unretired g c id is =
    (c.requires.may c.in-Some.last (sym c.in-Some.ensures)).unretired id
    (subst (λ (o : Option ℕ). IsClauseOf (just_of (g.C.Computed.entry_of c.in-Some.last)) o) is c.clause.ensures)
