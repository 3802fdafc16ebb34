-- What is left to show of `sweep`.
use Rattle.std.proofs.Common.{refl}
use Rattle.proof_trim.specs.Numbers.{has}
use Rattle.proof_trim.proofs.Swept.{begun, ended, smaller, went_on}
use Rattle.proof_trim.proofs.sweep.sweep.Goals as goal

pub from_end-init : goal.from_end-init
from_end-init c = λ steps piled. begun steps c.args.cut.now _ (has c.args.numbers.now) piled c.new.ensures refl c.requires.none

pub from_end-preserved : goal.from_end-preserved
from_end-preserved c = λ steps piled.
    went_on (c.from_end.invariant steps piled) c.in-Some.kind c.next.result c.pop.new.self c.next.new.row c.sweep_step.new.cut
    c.sweep_step.new.back
    (has c.sweep_step.new.numbers) c.in-Some.ensures.some c.next.ensures.number c.next.ensures.left c.in_ok-sweep_step-in-Some.ensures.looks

pub from_end-smaller : goal.from_end-smaller
from_end-smaller c = smaller c.from_end.cut c.pop.new.self c.next.new.row c.sweep_step.new.cut c.in-Some.kind c.in-Some.ensures.some
    c.next.ensures.left c.in_ok-sweep_step-in-Some.ensures.shorter

pub returns-in-None : goal.returns-in-None
returns-in-None c = λ steps piled. ended (c.from_end.invariant steps piled) c.in-None.ensures.none
