-- What is left to show of `accounts_law`.
use Rattle.operations.proofs.Accounts.{accounting}
use Rattle.operations.proofs.laws.accounts_law.Goals as goal

pub returns : goal.returns
returns g c = accounting c.steps_law.ensures c.entry_law.ensures
