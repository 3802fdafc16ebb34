-- What is left to show of `steps_law`.
use Rattle.node_table.proofs.Progressed.{Steps-none, Steps-no_memory, Steps-further, Steps-at_most, Continues-further, Extends-further}
use Rattle.node_table.proofs.Progressed.{Steps-anyhow, Steps-no_empty, Steps-refute, leaves_further}
use Rattle.node_table.proofs.CallSteps.{IsAddedTo-kept, IsAddedTo-before}
use Rattle.node_table.proofs.laws.steps_law.Goals as goal

pub returns : goal.returns
returns g c = record {
  none = λ table sound. Steps-none table sound;
  no_memory = λ table sound. Steps-no_memory table sound;
  further = Steps-further;
  at_most = Steps-at_most;
  refute = Steps-refute;
  anyhow = Steps-anyhow;
  no_empty = Steps-no_empty;
  go_on = Continues-further;
  leave = leaves_further;
  extend = Extends-further;
  added = IsAddedTo-kept;
  was_added = IsAddedTo-before;
}
