-- What `check` answers to the proof that `solve` left.
use Rattle.std.specs.Prelude.{◌≡◌, ◌<◌, ℕ, List, Some, length, IsTrue, ⊤}
use Rattle.host_io.specs.declared.role.Role.TheVariants.{ProofIn, ProofOut}
use Rattle.lrat_checker.specs.TextVerdict.{max_bytes}
use Rattle.solver_cli.specs.declared.status.Status.{Status}
use Rattle.solver_cli.specs.declared.status.Status.TheVariants.{Sat, Unsat, Unknown, Answered, Verified, NotVerified, Done, Help, Usage}
use Rattle.solver_cli.specs.declared.status.Status.TheVariants.{CnfRefused}
use Rattle.solver_cli.specs.declared.status.Status.TheVariants.{OrderRefused, BucketsRefused, PlanRefused, CubeRefused, TooLong}
use Rattle.solver_cli.specs.declared.status.Status.TheVariants.{ReadFault, WriteFault, OutOfMemory}
use Rattle.command_line.specs.declared.format.ProofFormat.TheVariants.{Lrat}
use Rattle.command_line.specs.Command.{ToSolve, ToCheck, Solve, Check, command}
use Rattle.solver_cli.specs.Run.{Run, written_in, InputFailed, OutputFailed}

-- One run found a formula unsatisfiable. Another judges an LRAT proof over the same text of a formula, read in the same mode, and
-- the proof's file holds the bytes that the first run wrote as its proof.
pub record ChecksSolved (solved checked : Run) : Type 0 where
  pub solved_tells : IsTrue solved.tells
  pub checked_tells : IsTrue checked.tells
  pub unsatisfiable : solved.status ≡ Unsat
  pub solve : ToSolve
  pub solve_asked : command solved.words ≡ Some (Solve solve)
  pub task : ToCheck
  pub check_asked : command checked.words ≡ Some (Check task)
  pub format : task.format ≡ Lrat
  pub same_mode : task.mode ≡ solve.mode
  pub same_formula : checked.texts task.file ≡ solved.texts solve.file
  pub same_proof : checked.texts task.proof ≡ Some (written_in solved ProofOut)

-- How the run that judges these bytes may end: they are verified, unless memory ran out, they are more than are looked
-- at, or a call of the host failed.
abbrev pub MayEnd : Run → List ℕ → Status → Type 0
MayEnd run bytes Sat = ⊥
MayEnd run bytes Unsat = ⊥
MayEnd run bytes (Unknown why) = ⊥
MayEnd run bytes Answered = ⊥
MayEnd run bytes Verified = ⊤
MayEnd run bytes (NotVerified line reason) = ⊥
MayEnd run bytes Done = ⊥
MayEnd run bytes Help = ⊥
MayEnd run bytes Usage = ⊥
MayEnd run bytes (CnfRefused kind line) = ⊥
MayEnd run bytes (OrderRefused kind line) = ⊥
MayEnd run bytes (BucketsRefused kind line) = ⊥
MayEnd run bytes (PlanRefused kind line) = ⊥
MayEnd run bytes (CubeRefused kind line) = ⊥
MayEnd run bytes (TooLong role) = (role ≡ ProofIn) × (max_bytes < length bytes)
MayEnd run bytes ReadFault = InputFailed run
MayEnd run bytes WriteFault = OutputFailed run
MayEnd run bytes OutOfMemory = ⊤
