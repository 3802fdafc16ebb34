-- A stream of which nothing is ever told, and that lends no object.
use Rattle.std.specs.Prelude.{[], None}
use Rattle.host_io.specs.Channel.{Channel, Held}
use Rattle.host_io.specs.Beside.{Beside}

abbrev pub idle_channel : Channel
idle_channel = record {
  name = None;
  faults = 0;
  taken = [];
  left = Held [];
  written = [];
  flushed = 0;
}

abbrev pub nothing_beside : Beside
nothing_beside = record { lenders = []; rest = None }
