-- What is left to show of `variable_count`.
use Rattle.std.proofs.Common.{sym}
use Rattle.workload.proofs.Counts.{all_dominoes}
use Rattle.workload.proofs.square.variable_count.Goals as goal

pub returns-clause-value : goal.returns-clause-value
returns-clause-value c = sym (all_dominoes c.args.n c.requires.least)
