-- The run over a host in memory is a run over all that it holds.
use Rattle.host_io.specs.Memory.{channel_of, files_of}
use Rattle.solver_cli.specs.Run.{all_told}
use Rattle.solver_cli.proofs.program.run_in_memory.Goals as goal

pub returns : goal.returns
returns c = record {
  promises = c.run.ensures.promises (files_of c.args.host.now)
      (all_told (files_of c.args.host.now) (channel_of c.args.host.now) (channel_of c.run.new.host));
}
