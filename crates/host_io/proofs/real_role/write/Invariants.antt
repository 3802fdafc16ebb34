-- A write that was broken off has changed nothing but the count of such calls, which ends at the end of its type.
use Rattle.std.proofs.Common.{◌≡◌, ◌-◌, ◌^◌}
use Rattle.host_io.specs.Port.{traffic_out, name_out, faults_of, breaks_of}
use Rattle.host_io.proofs.real_role.write.Given as goal

abbrev pub invariant-calls : goal.invariant-calls
invariant-calls g l =
    (traffic_out l.output ≡ traffic_out l.fn.output)
    × (name_out l.output ≡ name_out l.fn.output) × (faults_of l.tally ≡ faults_of l.fn.tally)

abbrev pub decreases-calls : goal.decreases-calls
decreases-calls g l = 2 ^ 64 - 1 - breaks_of l.tally
