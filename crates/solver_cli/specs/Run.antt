-- One run of the program, and what its words ask for.
use Rattle.std.specs.Prelude.{◌≡◌, ◌⊎◌, ◌≤◌, ℕ, Bool, true, false, List, Option, None, Some, length, drop, IsTrue, refl}
use Rattle.cnf_base.specs.Formula.{Formula}
use Rattle.cnf_base.specs.Truth.{Assignment, Satisfies}
use Rattle.host_io.specs.declared.role.Role.{Role}
use Rattle.host_io.specs.declared.role.Role.TheVariants.{Cnf, Order, Buckets, Schedule, ProofIn, Cubes, ProofOut, Made, Out, Err}
use Rattle.host_io.specs.Channel.{Channel, Rose}
use Rattle.host_io.specs.Files.{Files, Texts, Agrees, stored_as, IsInput, IsCreated}
use Rattle.text_scan.specs.Decides.{Fits, gained}
use Rattle.dimacs_reader.specs.Cnf.{CnfText, formula, cnf}
use Rattle.lrat_rules.specs.Run.{Refutes}
use Rattle.lrat_checker.specs.TextVerdict.{max_bytes, text_verdict}
use Rattle.proof_judging.specs.declared.verdict.Verdict.{Verdict}
use Rattle.proof_judging.specs.declared.verdict.Verdict.TheVariants as judgement
use Rattle.proof_trim.specs.Core.{RefutesFrom, clauses_at, core, core_start, core_text}
use Rattle.proof_trim.specs.Trimmed.{each_named, trim, trimmed}
use Rattle.schedule_plan.specs.OrderText.{OrderText, order_text}
use Rattle.schedule_plan.specs.ScheduleText.{ScheduleText, schedule}
use Rattle.schedule_plan.specs.declared.plan.Move.{Move}
use Rattle.cube_text.specs.CubeText.{CubeText, cube_text}
use Rattle.schedule_plan.specs.declared.limits.Limits.{Limits}
use Rattle.term_runner.specs.declared.outcome.Outcome.{Outcome}
use Rattle.command_line.specs.Command.{Command, ToSolve, ToAsk, ToBench, ToMake, ToConvert, ToTrim, Solve, Check, Bench, Make, Ask}
use Rattle.command_line.specs.Command.{Arrange, Convert, Trim, Planned, ByName, ByFile, ByBuckets, Found}
use Rattle.command_line.specs.Command.{command, format_of, formula_file, limits_asked, mode_of}
use Rattle.command_line.specs.declared.conversion.Conversion.{Conversion}
use Rattle.solver_cli.specs.declared.status.Status.{Status}
use Rattle.workload.specs.Board.{board_formula}
use Rattle.solver_cli.specs.Answer.{AreGiven, AreOfBoard, IsRead, IsOrdered, answer_text}
use Rattle.solver_cli.specs.Format.{verdict_in}
use Rattle.solver_cli.specs.Verdict.{printed_verdict}
use Rattle.solver_cli.specs.Phases.{buckets_file}
use Rattle.solver_cli.specs.ConvertedProof.{IsConversion}

-- These contents of the files fit: they agree with what the host tells of the files, and what a file holds that was read begins with the
-- bytes that were taken of it, and has no more where its end was met.
abbrev pub AllFit : Files → (Role → Channel) → (Role → Channel) → Texts → Type 0
AllFit files before after texts = (role : Role) → IsInput role → (file : List ℕ) → Fits files (before role) (after role) file texts

stored_agrees : (text : Option (List ℕ)) (channel : Channel) (taken : List ℕ) → Agrees (stored_as text) channel taken text
stored_agrees None channel taken = refl
stored_agrees (Some bytes) channel taken = refl

-- what a host holds that tells all of its files fits
pub all_told : (texts : Texts) (before after : Role → Channel) → AllFit (λ name. stored_as (texts name)) before after texts
all_told texts before after role input file named =
    stored_agrees (texts file) (after role) (gained (before role) (after role))

-- One run of the program: whether the host tells its bytes, the words, the roles before and after, what the host tells of the files
-- before and after, any contents of the files that fit, and how it ended.
pub record Run : Type 0 where
  pub tells : Bool
  pub words : List (List ℕ)
  pub before : Role → Channel
  pub after : Role → Channel
  pub files : Files
  pub files_after : Files
  pub texts : Texts
  pub fits : AllFit files before after texts
  pub status : Status

-- the bytes that a role wrote in the run, and those that it took
abbrev pub written_in : Run → Role → List ℕ
written_in run role = drop (length (run.before role).written) (run.after role).written

abbrev pub taken_in : Run → Role → List ℕ
taken_in run role = drop (length (run.before role).taken) (run.after role).taken

-- the limits that the words give
abbrev pub limits_given : Run → Limits
limits_given run = limits_asked (command run.words)

-- the role's count of faults rose
abbrev pub HasFault : Run → Role → Type 0
HasFault run role = Rose (run.before role).faults (run.after role).faults

-- a call on a file that is read failed, or one on a file that is created or on standard output
abbrev pub InputFailed : Run → Type 0
InputFailed run = (role : Role) × IsInput role × HasFault run role

abbrev pub OutputFailed : Run → Type 0
OutputFailed run = (role : Role) × (IsCreated role ⊎ (role ≡ Out)) × HasFault run role

-- no call failed, standard error aside
abbrev pub IsUnharmed : Run → Type 0
IsUnharmed run = (InputFailed run → ⊥) × (OutputFailed run → ⊥)

-- the words give a command; they give `make`; they give `drat` or `lrat`; they give `trim`; they give `ask`
abbrev pub GivesCommand : Run → Type 0
GivesCommand run = (asked : Command) × (command run.words ≡ Some asked)

abbrev pub GivesMake : Run → Type 0
GivesMake run = (task : ToMake) × (command run.words ≡ Some (Make task))

abbrev pub GivesConversion : Run → Type 0
GivesConversion run = (task : ToConvert) × (command run.words ≡ Some (Convert task))

abbrev pub GivesTrimming : Run → Type 0
GivesTrimming run = (task : ToTrim) × (command run.words ≡ Some (Trim task))

abbrev pub GivesAsk : Run → Type 0
GivesAsk run = (task : ToAsk) × (command run.words ≡ Some (Ask task))

-- they give `solve` or `bench`, which decide a formula
abbrev pub decides : Command → Bool
decides (Solve task) = true
decides (Check task) = false
decides (Bench task) = true
decides (Make task) = false
decides (Arrange task) = false
decides (Ask task) = false
decides (Convert task) = false
decides (Trim task) = false

-- they go by an order of the formula's variables, which may stand in a file: those and `ask`
abbrev pub goes_by_order : Command → Bool
goes_by_order (Solve task) = true
goes_by_order (Check task) = false
goes_by_order (Bench task) = false
goes_by_order (Make task) = false
goes_by_order (Arrange task) = false
goes_by_order (Ask task) = true
goes_by_order (Convert task) = false
goes_by_order (Trim task) = false

abbrev pub GivesDecision : Run → Type 0
GivesDecision run = (asked : Command) × (command run.words ≡ Some asked) × IsTrue (decides asked)

-- the schedule's file, where one is named
abbrev pub schedule_file : Planned → Option (List ℕ)
schedule_file (ByName name) = None
schedule_file (ByFile file) = Some file
schedule_file (ByBuckets file) = None
schedule_file Found = None

-- the roles that have a name only where the words give it
abbrev pub name_given : Role → Command → Option (List ℕ)
name_given Cnf asked = formula_file asked
name_given Order (Solve task) = task.order
name_given Order (Ask task) = task.order
name_given Order _ = None
name_given Buckets (Solve task) = buckets_file task.plan
name_given Buckets _ = None
name_given Schedule (Solve task) = schedule_file task.plan
name_given Schedule _ = None
name_given ProofIn (Check task) = Some task.proof
name_given ProofIn (Convert task) = Some task.proof
name_given ProofIn (Trim task) = Some task.proof
name_given ProofIn _ = None
name_given Cubes (Ask task) = Some task.cubes
name_given Cubes _ = None
name_given ProofOut (Solve task) = Some task.proof
name_given ProofOut (Bench task) = Some task.proof
name_given ProofOut (Ask task) = Some task.proof
name_given ProofOut (Convert task) = Some task.out
name_given ProofOut (Trim task) = Some task.out
name_given ProofOut _ = None
name_given Made (Make task) = Some task.file
name_given Made (Arrange task) = Some task.out
name_given Made (Trim task) = task.core
name_given Made _ = None
name_given Out asked = None
name_given Err asked = None

-- They name a formula's file. With `solve` and `ask` they name the file of an order; with `solve` that of an order of the buckets, or a
-- schedule's; with `ask` that of cubes.
abbrev pub GivesFormula : Run → Type 0
GivesFormula run = (asked : Command) × (command run.words ≡ Some asked) × (file : List ℕ) × (formula_file asked ≡ Some file)

-- With `check`, `drat`, `lrat` and `trim` they name a proof's file, which is to be judged.
abbrev pub GivesProof : Run → Type 0
GivesProof run = (asked : Command) × (command run.words ≡ Some asked) × (file : List ℕ) × (name_given ProofIn asked ≡ Some file)

abbrev pub GivesOrder : Run → Type 0
GivesOrder run = (asked : Command) × (command run.words ≡ Some asked) × (file : List ℕ) × (name_given Order asked ≡ Some file)

abbrev pub GivesBuckets : Run → Type 0
GivesBuckets run = (task : ToSolve) × (command run.words ≡ Some (Solve task)) × (file : List ℕ) × (task.plan ≡ ByBuckets file)

abbrev pub GivesSchedule : Run → Type 0
GivesSchedule run = (task : ToSolve) × (command run.words ≡ Some (Solve task)) × (file : List ℕ) × (task.plan ≡ ByFile file)

-- the words ask for this command, and the text of its formula's file, read in its mode, says this
pub record AsksOver (run : Run) (asked : Command) (text : CnfText) : Type 0 where
  pub command : command run.words ≡ Some asked
  pub file : List ℕ
  pub named : formula_file asked ≡ Some file
  pub read : IsRead run.texts file (cnf (mode_of asked)) text

-- They ask to decide this formula, or cubes over it, by an order that stands in a file, whose text says this.
pub record AsksByOrder (run : Run) (problem : Formula) (text : OrderText) : Type 0 where
  pub asked : Command
  pub asks : AsksOver run asked (formula problem)
  pub file : List ℕ
  pub named : name_given Order asked ≡ Some file
  pub read : IsRead run.texts file (order_text problem.vars) text

-- They ask to decide this formula by buckets of an order that stands in a file, and the order is given; the text of that file says this.
pub record AsksByBuckets (run : Run) (problem : Formula) (text : OrderText) : Type 0 where
  pub task : ToSolve
  pub asks : AsksOver run (Solve task) (formula problem)
  pub order : List ℕ
  pub ordered : IsOrdered run.texts task.order problem order
  pub file : List ℕ
  pub named : task.plan ≡ ByBuckets file
  pub read : IsRead run.texts file (order_text problem.vars) text

-- They ask to decide this formula by a schedule, and the order is given; the text of the schedule's file says this.
pub record AsksBySchedule (run : Run) (problem : Formula) (text : ScheduleText) : Type 0 where
  pub task : ToSolve
  pub asks : AsksOver run (Solve task) (formula problem)
  pub order : List ℕ
  pub ordered : IsOrdered run.texts task.order problem order
  pub file : List ℕ
  pub named : task.plan ≡ ByFile file
  pub read : IsRead run.texts file (schedule problem) text

-- They ask about cubes over this formula, by this order of its variables; the text of the cubes' file says this.
pub record AsksByCubes (run : Run) (problem : Formula) (order : List ℕ) (text : CubeText) : Type 0 where
  pub task : ToAsk
  pub asks : AsksOver run (Ask task) (formula problem)
  pub ordered : IsOrdered run.texts task.order problem order
  pub read : IsRead run.texts task.cubes (cube_text problem.vars) text

-- They ask to decide this formula by this order of its variables and these moves: those of the files that are named, those of a board,
-- or, where they are to be found, any order and the moves of the bucket plan by any order.
pub record AsksBy (run : Run) (problem : Formula) (order : List ℕ) (moves : List Move) : Type 0 where
  pub asked : Command
  pub command : command run.words ≡ Some asked
  pub given : AreGiven run.texts asked problem order moves

-- With `bench` this is the formula of the board that they ask for; and so are the order and the moves, those of its columns.
abbrev pub IsBoardAsked : Run → Formula → Type 0
IsBoardAsked run problem = (task : ToBench) → command run.words ≡ Some (Bench task) → problem ≡ board_formula task.size

abbrev pub IsPlanAsked : Run → Formula → List ℕ → List Move → Type 0
IsPlanAsked run problem order moves = (task : ToBench) → command run.words ≡ Some (Bench task) → AreOfBoard task.size problem order moves

-- they ask to decide this formula
pub record AsksFor (run : Run) (problem : Formula) : Type 0 where
  pub order : List ℕ
  pub moves : List Move
  pub by : AsksBy run problem order moves

-- they ask to judge this proof over this formula
pub record AsksToJudge (run : Run) (problem : Formula) (bytes : List ℕ) : Type 0 where
  pub asked : Command
  pub asks : AsksOver run asked (formula problem)
  pub file : List ℕ
  pub named : name_given ProofIn asked ≡ Some file
  pub stands : run.texts file ≡ Some bytes

-- and this is the verdict on it, by the rules of its format
pub record HasVerdict (run : Run) (problem : Formula) (bytes : List ℕ) (verdict : Verdict) : Type 0 where
  pub asked : AsksToJudge run problem bytes
  pub judged : verdict_in (format_of asked.asked) problem.clauses bytes ≡ Some verdict

-- They ask to judge a proof over this formula, and to write it in the other format.
abbrev pub AsksToConvert : Run → Type 0
AsksToConvert run = (task : ToConvert) × (problem : Formula) × AsksOver run (Convert task) (formula problem)

-- The file that the converted proof goes to gained what this proof over the formula becomes with this verdict on it: as DRAT exactly that,
-- as LRAT good steps, which refute the formula's clauses where the proof is verified. It is flushed.
pub record IsConverted (run : Run) (into : Conversion) (problem : Formula) (bytes : List ℕ) (judged : Verdict) : Type 0 where
  pub written : IsConversion into problem bytes judged (written_in run ProofOut)
  pub flushed : (run.after ProofOut).flushed ≡ length (run.after ProofOut).written

-- The file that the core goes to gained exactly the numbers of those of the formula's clauses that the trimmed proof names, a line each,
-- and that is flushed. No assignment satisfies these clauses, and the trimmed proof's steps refute them alone, under those numbers.
pub record IsCored (run : Run) (problem : Formula) (bytes : List ℕ) : Type 0 where
  pub written : written_in run Made ≡ core_text (core problem.clauses bytes)
  pub flushed : (run.after Made).flushed ≡ length (run.after Made).written
  pub refuted : RefutesFrom (core_start problem.clauses (core problem.clauses bytes)) (trimmed problem.clauses bytes)
  pub unsatisfiable : (a : Assignment) → Satisfies a (clauses_at problem.clauses (core problem.clauses bytes)) → ⊥

-- The file that the trimmed proof goes to gained exactly the trimmed form of this proof over the formula, and that is flushed. It refutes
-- the formula; each of its additions but that of the empty clause is named by a later step; and unless it is longer than is looked at, it
-- is verified, and trimming it again gives the same bytes. Where the words name a file for its core, that was written.
pub record IsTrimmed (run : Run) (problem : Formula) (bytes : List ℕ) : Type 0 where
  pub written : written_in run ProofOut ≡ trim problem.clauses bytes
  pub flushed : (run.after ProofOut).flushed ≡ length (run.after ProofOut).written
  pub refutes : Refutes problem.clauses (written_in run ProofOut)
  pub named : IsTrue (each_named (trimmed problem.clauses bytes))
  pub verified : length (written_in run ProofOut) ≤ max_bytes
      → text_verdict problem.clauses (written_in run ProofOut) ≡ Some judgement.Verified
  pub again : length (written_in run ProofOut) ≤ max_bytes → trim problem.clauses (written_in run ProofOut) ≡ written_in run ProofOut
  pub cored : (asked : Command) → command run.words ≡ Some asked → (file : List ℕ) → name_given Made asked ≡ Some file
      → IsCored run problem bytes

-- what is printed for the verdict on this proof over the formula
abbrev pub verdict_text_for : Run → Formula → List ℕ → Verdict → List ℕ
verdict_text_for run problem bytes judged = printed_verdict (command run.words) problem.clauses bytes judged

-- what is printed for an outcome of the formula that is asked for, by the proof's bytes
abbrev pub text_for : Run → Formula → Outcome → List ℕ
text_for run problem found = answer_text (command run.words) problem (written_in run ProofOut) found
