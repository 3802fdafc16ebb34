-- What is left to show of `order_text_law`.
use Rattle.std.specs.Prelude.{[]}
use Rattle.text_scan.specs.Items.{items}
use Rattle.schedule_plan.specs.OrderText.{max_bytes}
use Rattle.schedule_plan.proofs.OrderVariables.{no_variables, text_is_order}
use Rattle.schedule_plan.proofs.order_text.order_text_law.Goals as goal

pub returns : goal.returns
returns c = λ vars bytes variables h. text_is_order (items 35 max_bytes bytes) vars [] variables (no_variables vars) h
