-- The last number decides.
use Rattle.std.proofs.Common.{sym}
use Rattle.drat_checker.proofs.Rising.{ends-at}
use Rattle.drat_checker.proofs.numbers.ends_with.Goals as goal

pub returns-in-len1-up-clause-last : goal.returns-in-len1-up-clause-last
returns-in-len1-up-clause-last c = sym (ends-at c.args.numbers.now c.args.number 0 c.in-len1-up.len_at_least)
