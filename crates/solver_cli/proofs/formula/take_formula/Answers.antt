-- What is left to show of `take_formula`.
use Rattle.std.proofs.Common.{rules, refl}
use Rattle.solver_cli.proofs.Reading.{unopened, taken}
use Rattle.solver_cli.proofs.formula.take_formula.Goals as goal

pub returns-then-is_err-clause-takes : goal.returns-then-is_err-clause-takes
returns-then-is_err-clause-takes g c = unopened refl (λ e. cc) c.open_read.ensures.opens (search rules)

-- src/formula.rt:14:1
pub returns-clause-takes : goal.returns-clause-takes
returns-clause-takes g c = taken c.open_read.ensures.opens (search rules) c.open_read.ensures.content c.read_formula.ensures.reads
