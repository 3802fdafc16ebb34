-- What the program promises of calls of the host that fail: when a run ends with a fault, and what is written then.
use Rattle.std.specs.Prelude.{◌≡◌, ◌≢◌, ◌⊎◌, ℕ, ℤ, Bool, true, false, List, [], None, Some, IsTrue}
use Rattle.cnf_base.specs.Formula.{Formula}
use Rattle.host_io.specs.declared.role.Role.{Role}
use Rattle.host_io.specs.declared.role.Role.TheVariants.{Cnf, Order, Buckets, Schedule, ProofIn, Cubes, ProofOut, Made, Out, Err}
use Rattle.host_io.specs.Files.{IsInput, IsCreated}
use Rattle.dimacs_reader.specs.Cnf.{formula, overlong, cnf_so_far}
use Rattle.proof_judging.specs.declared.verdict.Verdict.{Verdict}
use Rattle.schedule_plan.specs.OrderText.{overlong as overlong_order, order_so_far}
use Rattle.schedule_plan.specs.ScheduleText.{overlong as overlong_schedule, schedule_so_far}
use Rattle.cube_text.specs.CubeText.{cubes as given_cubes, overlong as overlong_cubes, cubes_so_far}
use Rattle.command_line.specs.Command.{Command, ToSolve, ToAsk, ToOrder, Solve, Ask, Arrange, ByFile, ByBuckets}
use Rattle.command_line.specs.Command.{AsksHelp, MayMean, command, format_of, mode_of}
use Rattle.solver_cli.specs.declared.status.Status.{Status}
use Rattle.solver_cli.specs.declared.status.Status.TheVariants.{Sat, Unsat, Unknown, Answered, Verified, NotVerified, Done, Help, Usage}
use Rattle.solver_cli.specs.declared.status.Status.TheVariants.{CnfRefused}
use Rattle.solver_cli.specs.declared.status.Status.TheVariants.{OrderRefused, BucketsRefused, PlanRefused, CubeRefused, TooLong}
use Rattle.solver_cli.specs.declared.status.Status.TheVariants.{ReadFault, WriteFault}
use Rattle.solver_cli.specs.declared.status.Status.TheVariants.{OutOfMemory}
use Rattle.solver_cli.specs.Answer.{IsOrdered}
use Rattle.solver_cli.specs.Format.{so_far_in}
use Rattle.solver_cli.specs.Run.{Run, written_in, taken_in, HasFault, InputFailed, OutputFailed, GivesCommand, GivesMake, GivesConversion}
use Rattle.solver_cli.specs.Run.{name_given, AsksOver, AsksFor, AsksByCubes, HasVerdict, AsksToConvert}

-- the formula that is to be decided was accepted, or the proof was judged, or none is read, or the formula was accepted of which an order
-- is to be made, or over which a proof is to be converted, or cubes over it were
abbrev pub TextsAreRead : Run → Type 0
TextsAreRead run = ((problem : Formula) × AsksFor run problem)
    ⊎ (((problem : Formula) × (bytes : List ℕ) × (judged : Verdict) × HasVerdict run problem bytes judged)
    ⊎ (GivesMake run
    ⊎ (((task : ToOrder) × (problem : Formula) × AsksOver run (Arrange task) (formula problem))
    ⊎ (AsksToConvert run
    ⊎ ((problem : Formula) × (order : List ℕ) × (cubes : List (List ℤ)) × AsksByCubes run problem order (given_cubes cubes))))))

-- A call on the formula's file failed where the bytes taken of it decide nothing yet, and none of another file was taken.
pub record IsOpenFormula (run : Run) : Type 0 where
  pub asked : Command
  pub given : command run.words ≡ Some asked
  pub failed : HasFault run Cnf
  pub undecided : cnf_so_far (mode_of asked) (taken_in run Cnf) ≡ overlong
  pub before_others : (role : Role) → IsInput role → role ≢ Cnf → taken_in run role ≡ []

-- The words give `solve` or `ask` with an order's file, the formula was accepted, and a call on that file failed where the bytes taken
-- of it decide nothing yet. The file may be missing: then none was taken. None of a later text was.
pub record IsOpenOrder (run : Run) : Type 0 where
  pub asked : Command
  pub problem : Formula
  pub asks : AsksOver run asked (formula problem)
  pub file : List ℕ
  pub named : name_given Order asked ≡ Some file
  pub failed : HasFault run Order
  pub undecided : order_so_far problem.vars (taken_in run Order) ≡ overlong_order
  pub before_schedule : taken_in run Schedule ≡ []
  pub before_buckets : taken_in run Buckets ≡ []
  pub before_cubes : taken_in run Cubes ≡ []

-- The same of the buckets' order, where the order is given too.
pub record AreOpenBuckets (run : Run) : Type 0 where
  pub task : ToSolve
  pub problem : Formula
  pub asks : AsksOver run (Solve task) (formula problem)
  pub order : List ℕ
  pub ordered : IsOrdered run.texts task.order problem order
  pub file : List ℕ
  pub named : task.plan ≡ ByBuckets file
  pub failed : HasFault run Buckets
  pub undecided : order_so_far problem.vars (taken_in run Buckets) ≡ overlong_order
  pub before_schedule : taken_in run Schedule ≡ []

-- The same of a schedule's file, where the order is given too.
pub record IsOpenSchedule (run : Run) : Type 0 where
  pub task : ToSolve
  pub problem : Formula
  pub asks : AsksOver run (Solve task) (formula problem)
  pub order : List ℕ
  pub ordered : IsOrdered run.texts task.order problem order
  pub file : List ℕ
  pub named : task.plan ≡ ByFile file
  pub failed : HasFault run Schedule
  pub undecided : schedule_so_far problem (taken_in run Schedule) ≡ overlong_schedule

-- The words name a proof, the formula was accepted, and a call on the proof's file failed where the bytes taken of it
-- decide nothing yet over the formula. That file may be missing: then none was taken.
pub record IsOpenProof (run : Run) : Type 0 where
  pub asked : Command
  pub problem : Formula
  pub asks : AsksOver run asked (formula problem)
  pub file : List ℕ
  pub named : name_given ProofIn asked ≡ Some file
  pub failed : HasFault run ProofIn
  pub undecided : so_far_in (format_of asked) problem.clauses (taken_in run ProofIn) ≡ None

-- The words give `ask`, formula and order are given, and a call on the cubes' file failed where the bytes taken of it decide nothing yet.
pub record AreOpenCubes (run : Run) : Type 0 where
  pub task : ToAsk
  pub problem : Formula
  pub asks : AsksOver run (Ask task) (formula problem)
  pub order : List ℕ
  pub ordered : IsOrdered run.texts task.order problem order
  pub failed : HasFault run Cubes
  pub undecided : cubes_so_far problem.vars (taken_in run Cubes) ≡ overlong_cubes

-- What was taken decides nothing yet: of the formula's text, or, where the texts before it were accepted, of the order's,
-- the buckets' order's, the schedule's, the proof's or the cubes'.
abbrev pub IsStillOpen : Run → Type 0
IsStillOpen run = IsOpenFormula run ⊎ (IsOpenOrder run ⊎ (AreOpenBuckets run ⊎ (IsOpenSchedule run ⊎ (IsOpenProof run
    ⊎ AreOpenCubes run))))

-- a call on a file that is read and that the words name failed
abbrev pub NamedInputFailed : Run → Type 0
NamedInputFailed run = (role : Role) × IsInput role × HasFault run role × (asked : Command) × (file : List ℕ)
    × (command run.words ≡ Some asked) × (name_given role asked ≡ Some file)

-- one on standard output failed, or one on a created file that the words name
abbrev pub NamedOutputFailed : Run → Type 0
NamedOutputFailed run = HasFault run Out ⊎ ((role : Role) × IsCreated role × HasFault run role × (asked : Command) × (file : List ℕ)
    × (command run.words ≡ Some asked) × (name_given role asked ≡ Some file))

-- a status with which `drat` and `lrat` end when they have read the proof: a verdict, or that the proof is too long
abbrev pub ends_in_proof : Status → Bool
ends_in_proof Sat = false
ends_in_proof Unsat = false
ends_in_proof (Unknown why) = false
ends_in_proof Answered = false
ends_in_proof Verified = true
ends_in_proof (NotVerified line reason) = true
ends_in_proof Done = false
ends_in_proof Help = false
ends_in_proof Usage = false
ends_in_proof (CnfRefused kind line) = false
ends_in_proof (OrderRefused kind line) = false
ends_in_proof (BucketsRefused kind line) = false
ends_in_proof (PlanRefused kind line) = false
ends_in_proof (CubeRefused kind line) = false
ends_in_proof (TooLong Cnf) = false
ends_in_proof (TooLong Order) = false
ends_in_proof (TooLong Buckets) = false
ends_in_proof (TooLong Schedule) = false
ends_in_proof (TooLong ProofIn) = true
ends_in_proof (TooLong Cubes) = false
ends_in_proof (TooLong ProofOut) = false
ends_in_proof (TooLong Made) = false
ends_in_proof (TooLong Out) = false
ends_in_proof (TooLong Err) = false
ends_in_proof ReadFault = false
ends_in_proof WriteFault = false
ends_in_proof OutOfMemory = false

-- The words give `drat` or `lrat`, and it came to the reading of the proof: a call on that failed, or it was read.
abbrev pub ConvertsAsItReads : Run → Type 0
ConvertsAsItReads run = GivesConversion run × (HasFault run ProofIn ⊎ IsTrue (ends_in_proof run.status))

-- Faults: a read fault comes only where a call on a file that is read and that the words name failed, and what was taken decides nothing
-- yet, and then nothing was written but on standard error, and, where the file of a proof that is converted failed, of the other proof; a
-- write fault only where all texts were read and accepted (of `drat` and `lrat` the formula), or the words may ask for help, and a call on
-- standard output, or on a created file that they name, failed.
pub record FaultsAreCounted (run : Run) : Type 0 where
  pub read : run.status ≡ ReadFault → GivesCommand run × InputFailed run
  pub named : run.status ≡ ReadFault → NamedInputFailed run
  pub undecided : run.status ≡ ReadFault → IsTrue run.tells → IsStillOpen run
  pub quiet : run.status ≡ ReadFault → IsTrue run.tells → (role : Role) → role ≢ Err → (written_in run role ≡ [])
      ⊎ ((role ≡ ProofOut) × ConvertsAsItReads run)
  pub write : run.status ≡ WriteFault → OutputFailed run
  pub created : run.status ≡ WriteFault → NamedOutputFailed run
  pub accepted : run.status ≡ WriteFault → MayMean run.words AsksHelp ⊎ (GivesCommand run × (IsTrue run.tells → TextsAreRead run))

-- the role's count of faults stayed: none of its calls failed, unless the count stood at the end of its type
abbrev pub IsUnfailed : Run → Role → Type 0
IsUnfailed run role = (run.after role).faults ≡ (run.before role).faults

-- Failed calls are told: unless a run ends with a read fault, no call on a file that is read failed, and unless it ends
-- with a write fault, none on a file that is created or on standard output. This holds of every host.
pub record FailuresAreTold (run : Run) : Type 0 where
  pub read : run.status ≢ ReadFault → (role : Role) → IsInput role → IsUnfailed run role
  pub write : run.status ≢ WriteFault → (role : Role) → IsCreated role ⊎ (role ≡ Out) → IsUnfailed run role
