-- What is left to show of `order_line_law`.
use Rattle.solver_cli.proofs.OrderLine.{read_back}
use Rattle.solver_cli.proofs.laws.order_line_law.Goals as goal

pub returns : goal.returns
returns c = read_back c.number_laws.ensures.plain c.short_text_law.ensures
