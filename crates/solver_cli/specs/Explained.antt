-- Which runs are explained on standard error.
use Rattle.std.specs.Prelude.{ℕ, Bool, true, false, List, ◌&&◌}
use Rattle.command_line.specs.Explain.{explanation_asked}
use Rattle.solver_cli.specs.declared.status.Status.{Status}
use Rattle.solver_cli.specs.declared.status.Status.TheVariants.{Sat, Unsat, Unknown, Answered, Verified, NotVerified, Done, Help, Usage}
use Rattle.solver_cli.specs.declared.status.Status.TheVariants.{CnfRefused}
use Rattle.solver_cli.specs.declared.status.Status.TheVariants.{OrderRefused, BucketsRefused, PlanRefused, CubeRefused, TooLong}
use Rattle.solver_cli.specs.declared.status.Status.TheVariants.{ReadFault, WriteFault, OutOfMemory}

-- a status with which a run ends that didn't come to what it was asked for
abbrev pub has_reasons : Status → Bool
has_reasons Sat = false
has_reasons Unsat = false
has_reasons (Unknown why) = true
has_reasons Answered = false
has_reasons Verified = false
has_reasons (NotVerified line reason) = true
has_reasons Done = false
has_reasons Help = false
has_reasons Usage = true
has_reasons (CnfRefused kind line) = true
has_reasons (OrderRefused kind line) = true
has_reasons (BucketsRefused kind line) = true
has_reasons (PlanRefused kind line) = true
has_reasons (CubeRefused kind line) = true
has_reasons (TooLong role) = true
has_reasons ReadFault = true
has_reasons WriteFault = true
has_reasons OutOfMemory = true

-- a run over these words that ends so is explained
abbrev pub is_explained : List (List ℕ) → Status → Bool
is_explained words status = has_reasons status && explanation_asked words
