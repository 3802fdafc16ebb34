-- The target that the system is asked for.
use Rattle.host_io.specs.declared.reach.Reach.{Reach}
use Rattle.host_io.specs.declared.reach.Reach.TheVariants.{Opened, Created, Output, Error}
use Rattle.host_io.specs.Real.{Target, Opened as OpenedFile, Created as CreatedFile, StandardOutput, StandardError}

abbrev pub target_of : Reach → Target
target_of (Opened name) = OpenedFile name.now
target_of (Created name) = CreatedFile name.now
target_of Output = StandardOutput
target_of Error = StandardError
