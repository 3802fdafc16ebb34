-- What the connection of a role of the real host reaches, and what passed there.
use Rattle.std.specs.Prelude.{Some}
use Rattle.host_io.specs.declared.real_role.Connection.{Connection}
use Rattle.host_io.specs.declared.real_role.Connection.TheVariants.{Closed, Input, Output, Stdout, Stderr}
use Rattle.host_io.specs.Real.{Connected, closed, Opened, Created, StandardOutput, StandardError}
use Rattle.host_io.specs.Port.{traffic_in, traffic_out, name_in, name_out}

abbrev pub connected_of : Connection → Connected
connected_of Closed = closed
connected_of (Input input) = record { target = Some (Opened (name_in input)); traffic = traffic_in input }
connected_of (Output output) = record { target = Some (Created (name_out output)); traffic = traffic_out output }
connected_of (Stdout output) = record { target = Some StandardOutput; traffic = traffic_out output }
connected_of (Stderr output) = record { target = Some StandardError; traffic = traffic_out output }
