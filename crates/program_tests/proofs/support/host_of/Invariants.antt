-- What the loop of `host_of` keeps.
use Rattle.std.proofs.Common.{◌≡◌}
use Rattle.host_io.specs.declared.role.Role.{Role}
use Rattle.host_io.specs.Memory.{channel_of, fresh}
use Rattle.program_tests.proofs.support.host_of.Given as goal

abbrev pub invariant-loop-row : goal.invariant-loop-row
invariant-loop-row l = (role : Role) → channel_of l.host role ≡ fresh
