-- What is left to show of `strict_addition_law`.
use Rattle.lrat_rules.proofs.Conserving.{closes_conservative}
use Rattle.lrat_rules.proofs.Strictness.{Closes-strict, fault-closes, live-strict}
use Rattle.std.specs.Prelude.{[]}
use Rattle.lrat_rules.specs.Chain.{literals_of}
use Rattle.lrat_rules.proofs.laws.strict_addition_law.Goals as goal

pub returns-clause-good : goal.returns-clause-good
returns-clause-good c state id clause hints above r = fault-closes state id clause hints above (Closes-strict r)

pub returns-clause-closes : goal.returns-clause-closes
returns-clause-closes c live clause hints r = Closes-strict r

pub returns-clause-live : goal.returns-clause-live
returns-clause-live c live clause hints r = live-strict live (literals_of clause) hints r.strict

pub returns-clause-conservative : goal.returns-clause-conservative
returns-clause-conservative c vars state id clause hints r =
    closes_conservative vars id state clause hints [] (Closes-strict r).closed
