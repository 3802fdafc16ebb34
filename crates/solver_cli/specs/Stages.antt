-- How far a run came, over the streams that it serves.
use Rattle.std.specs.Prelude.{◌≡◌, ◌≢◌, ◌⊎◌, ℕ, ℤ, Bool, false, List, Option, None, Some, Result, Ok, Err, IsOk, IsErr, IsFalse, ⊤}
use Rattle.cnf_base.specs.Formula.{Formula}
use Rattle.host_io.specs.declared.role.Role.{Role}
use Rattle.host_io.specs.declared.role.Role.TheVariants.{Cnf, Order, Buckets, Schedule, ProofIn, Cubes, ProofOut, Made, Out}
use Rattle.host_io.specs.declared.source.Failed.{Failed}
use Rattle.host_io.specs.Channel.{Channel}
use Rattle.host_io.specs.Files.{Files, Opens, same_role}
use Rattle.proof_judging.specs.declared.verdict.Verdict.{Verdict}
use Rattle.proof_judging.specs.declared.verdict.CheckError.{CheckError}
use Rattle.proof_judging.specs.declared.verdict.Verdict.TheVariants as judgement
use Rattle.lrat_rules.specs.declared.outcome.Reason.{Reason}
use Rattle.drat_proof.specs.declared.error.ConvertError.{ConvertError}
use Rattle.proof_trim.specs.declared.text.Trimmed.TheVariants.{Steps, Refused as IsRefused}
use Rattle.answer_text.specs.Status.{trimmed_text}
use Rattle.solver_cli.specs.declared.answer.Shape.{Shape}
use Rattle.solver_cli.specs.declared.job.Job.{Job as HeldJob}
use Rattle.solver_cli.specs.declared.status.Status.{Status}
use Rattle.solver_cli.specs.declared.status.Status.TheVariants.{Help, Usage, Done, WriteFault, OutOfMemory}
use Rattle.cube_text.specs.declared.error.CubeError.{CubeError}
use Rattle.cube_queries.specs.declared.answer.Outcome.{Outcome as Replies}
use Rattle.cube_queries.specs.Ends.{Ends as WritesReplies}
use Rattle.term_runner.specs.declared.outcome.Run.{Run as Ending}
use Rattle.bdd_terms.specs.declared.error.RunError.{RunError}
use Rattle.dimacs_reader.specs.declared.mode.Mode.{Mode}
use Rattle.dimacs_reader.specs.declared.error.CnfError.{CnfError}
use Rattle.schedule_plan.specs.declared.limits.Limits.{Limits}
use Rattle.schedule_plan.specs.declared.plan.Move.{Move}
use Rattle.schedule_plan.specs.declared.order_error.OrderError.{OrderError}
use Rattle.schedule_plan.specs.declared.schedule.error.PlanError.{PlanError}
use Rattle.solver_cli.specs.Answer.{AreOfBoard, IsOrderOf, ending_text, shape_of, status_of}
use Rattle.solver_cli.specs.MadeText.{made_text, order_line}
use Rattle.solver_cli.specs.Replies.{replies_text, status_of_replies}
use Rattle.solver_cli.specs.Verdict.{verdict_text, status_of_verdict}
use Rattle.solver_cli.specs.ExitCode.{status_of_buckets, status_of_check, status_of_cubes, status_of_error, status_of_order, status_of_plan}
use Rattle.solver_cli.specs.ExitCode.{status_of_convert, status_of_run}
use Rattle.command_line.specs.Reading.{text_of, planned_of}
use Rattle.command_line.specs.declared.ask.AskTask.{AskTask}
use Rattle.command_line.specs.declared.words.SolveTask.{SolveTask}
use Rattle.command_line.specs.declared.words.CheckTask.{CheckTask}
use Rattle.command_line.specs.declared.order.OrderTask.{OrderTask}
use Rattle.command_line.specs.declared.board.BenchTask.{BenchTask}
use Rattle.command_line.specs.declared.board.MakeTask.{MakeTask}
use Rattle.command_line.specs.Command.{ToSolve, ToAsk, ToCheck, ToBench, ToMake, ToOrder, ToConvert, ToTrim, Solve, Ask, Check, Bench}
use Rattle.command_line.specs.Command.{Make, Arrange}
use Rattle.command_line.specs.Command.{Convert, Trim, AsksHelp, Misuse}
use Rattle.command_line.specs.Command.{MayMean, command}
use Rattle.solver_cli.specs.Phases.{TakesCubes, TakesFormula, HasOrder, HasBuckets, HasPlan, JudgesProof, WritesProof, PutsText}
use Rattle.solver_cli.specs.Phases.{basis_of, buckets_file}
use Rattle.solver_cli.specs.ConvertedProof.{RewritesProof}
use Rattle.solver_cli.specs.TrimmedProof.{PutsFile, PutsNamed, TrimsProof}

-- the files of the formula, of its order, of the buckets' order and of a schedule, the proof that is judged, the cubes, the proof that is
-- written, the text that is made, and standard output
pub record Streams : Type 0 where
  pub cnf : Channel
  pub order : Channel
  pub buckets : Channel
  pub schedule : Channel
  pub judged : Channel
  pub cubes : Channel
  pub proof : Channel
  pub made : Channel
  pub out : Channel

abbrev pub streams_of : (Role → Channel) → Streams
streams_of channel =
    record {
      cnf = channel Cnf;
      order = channel Order;
      buckets = channel Buckets;
      schedule = channel Schedule;
      judged = channel ProofIn;
      cubes = channel Cubes;
      proof = channel ProofOut;
      made = channel Made;
      out = channel Out;
    }

-- nothing was done for the words: they may be faulty, or memory ran out
pub record Misused (words : List (List ℕ)) (old new : Streams) (status : Status) : Type 0 where
  pub ends : ((status ≡ Usage) × MayMean words Misuse) ⊎ (status ≡ OutOfMemory)
  pub same : new ≡ old

-- how showing help ends the run
abbrev pub status_of_help : Result ⊤ Failed → Status
status_of_help (Ok x) = Help
status_of_help (Err e) = WriteFault

-- a text of help was printed on standard output, or a front of it
pub record ShowsHelp (tells : Bool) (old new : Channel) (status : Status) : Type 0 where
  pub text : List ℕ
  pub printed : Result ⊤ Failed
  pub puts : PutsText tells old new text printed
  pub ends : status ≡ status_of_help printed

-- the words may ask for help, which was shown or not
pub record Helped (tells : Bool) (words : List (List ℕ)) (old new : Streams) (status : Status) : Type 0 where
  pub due : MayMean words AsksHelp
  pub shows : ShowsHelp tells old.out new.out status
  pub cnf : new.cnf ≡ old.cnf
  pub order : new.order ≡ old.order
  pub buckets : new.buckets ≡ old.buckets
  pub schedule : new.schedule ≡ old.schedule
  pub judged : new.judged ≡ old.judged
  pub cubes : new.cubes ≡ old.cubes
  pub proof : new.proof ≡ old.proof
  pub made : new.made ≡ old.made

-- the formula was not taken, in a mode
pub record Untaken (mode : Mode) (tells : Bool) (old new : Streams) (files : Files) (file : List ℕ) (status : Status) : Type 0 where
  pub error : CnfError
  pub takes : TakesFormula mode tells old.cnf new.cnf files file (Err error)
  pub order : new.order ≡ old.order
  pub buckets : new.buckets ≡ old.buckets
  pub schedule : new.schedule ≡ old.schedule
  pub judged : new.judged ≡ old.judged
  pub cubes : new.cubes ≡ old.cubes
  pub proof : new.proof ≡ old.proof
  pub made : new.made ≡ old.made
  pub out : new.out ≡ old.out
  pub ends : status ≡ status_of_error error

-- the formula was taken, in a mode, and the order was not had, which stands in a file, if one is named
pub record Unordered (mode : Mode) (tells : Bool) (old new : Streams) (files : Files) (file : List ℕ) (named : Option (List ℕ))
    (status : Status) : Type 0 where
  pub problem : Formula
  pub takes : TakesFormula mode tells old.cnf new.cnf files file (Ok problem)
  pub error : OrderError
  pub orders : HasOrder problem.vars named tells old.order new.order files (Err error)
  pub buckets : new.buckets ≡ old.buckets
  pub schedule : new.schedule ≡ old.schedule
  pub judged : new.judged ≡ old.judged
  pub cubes : new.cubes ≡ old.cubes
  pub proof : new.proof ≡ old.proof
  pub made : new.made ≡ old.made
  pub out : new.out ≡ old.out
  pub ends : status ≡ status_of_order error

-- the order was had, and that of the buckets was not
pub record Unbucketed (tells : Bool) (old new : Streams) (files : Files) (task : ToSolve) (status : Status) : Type 0 where
  pub problem : Formula
  pub takes : TakesFormula task.mode tells old.cnf new.cnf files task.file (Ok problem)
  pub given : List ℕ
  pub orders : HasOrder problem.vars task.order tells old.order new.order files (Ok given)
  pub error : OrderError
  pub bucketed : HasBuckets problem.vars (buckets_file task.plan) tells old.buckets new.buckets files (Err error)
  pub schedule : new.schedule ≡ old.schedule
  pub judged : new.judged ≡ old.judged
  pub cubes : new.cubes ≡ old.cubes
  pub proof : new.proof ≡ old.proof
  pub made : new.made ≡ old.made
  pub out : new.out ≡ old.out
  pub ends : status ≡ status_of_buckets error

-- both orders were had, and the plan was not
pub record Unplanned (tells : Bool) (old new : Streams) (files : Files) (task : ToSolve) (status : Status) : Type 0 where
  pub problem : Formula
  pub takes : TakesFormula task.mode tells old.cnf new.cnf files task.file (Ok problem)
  pub given : List ℕ
  pub orders : HasOrder problem.vars task.order tells old.order new.order files (Ok given)
  pub named : Option (List ℕ)
  pub bucketed : HasBuckets problem.vars (buckets_file task.plan) tells old.buckets new.buckets files (Ok named)
  pub error : PlanError
  pub plans : HasPlan problem given named task.plan tells old.schedule new.schedule files (Err error)
  pub judged : new.judged ≡ old.judged
  pub cubes : new.cubes ≡ old.cubes
  pub proof : new.proof ≡ old.proof
  pub made : new.made ≡ old.made
  pub out : new.out ≡ old.out
  pub ends : status ≡ status_of_plan error

-- all was had that is to be decided by; no proof is judged, and no text made
pub record Prepared (tells : Bool) (old new : Streams) (files : Files) (task : ToSolve) (problem : Formula) (order : List ℕ)
    (moves : List Move) : Type 0 where
  pub takes : TakesFormula task.mode tells old.cnf new.cnf files task.file (Ok problem)
  pub given : List ℕ
  pub orders : HasOrder problem.vars task.order tells old.order new.order files (Ok given)
  pub named : Option (List ℕ)
  pub bucketed : HasBuckets problem.vars (buckets_file task.plan) tells old.buckets new.buckets files (Ok named)
  pub plans : HasPlan problem given named task.plan tells old.schedule new.schedule files (Ok (basis_of order moves))
  pub judged : new.judged ≡ old.judged
  pub cubes : new.cubes ≡ old.cubes
  pub made : new.made ≡ old.made

-- no file is read
pub record NoneRead (old new : Streams) : Type 0 where
  pub cnf : new.cnf ≡ old.cnf
  pub order : new.order ≡ old.order
  pub buckets : new.buckets ≡ old.buckets
  pub schedule : new.schedule ≡ old.schedule
  pub judged : new.judged ≡ old.judged
  pub cubes : new.cubes ≡ old.cubes

-- What is done with a formula, an order and moves: the proof's file, the limits, the board that they are of, if any, and whether its parity
-- equations are added up first.
pub record Job : Type 0 where
  pub proof : List ℕ
  pub limits : Limits
  pub shape : Option Shape
  pub parity : Bool

-- What comes of it is told of the proof's stream and of standard output, before and after.

-- the proof's file was not created
pub record Uncreated (old new old_out out : Channel) (job : Job) (status : Status) : Type 0 where
  pub answer : Result ⊤ Failed
  pub failed : IsErr answer
  pub opens : Opens old new job.proof answer
  pub same : out ≡ old_out
  pub ends : status ≡ WriteFault

-- the formula was not decided
pub record Undecided (tells : Bool) (old new old_out out : Channel) (problem : Formula) (order : List ℕ) (moves : List Move) (job : Job)
    (status : Status) : Type 0 where
  pub created : Channel
  pub created_answer : Result ⊤ Failed
  pub done : IsOk created_answer
  pub opens : Opens old created job.proof created_answer
  pub error : RunError
  pub writes : WritesProof job.parity tells created new problem order moves job.limits (Err error)
  pub same : out ≡ old_out
  pub ends : status ≡ status_of_run error

-- how printing an answer ends the run
abbrev pub status_after : Ending → Result ⊤ Failed → Status
status_after ending (Ok x) = status_of ending.outcome
status_after ending (Err e) = WriteFault

-- it was decided, and the answer was printed or not
pub record Answered (tells : Bool) (old new old_out out : Channel) (problem : Formula) (order : List ℕ) (moves : List Move) (job : Job)
    (status : Status) : Type 0 where
  pub created : Channel
  pub created_answer : Result ⊤ Failed
  pub done : IsOk created_answer
  pub opens : Opens old created job.proof created_answer
  pub ending : Ending
  pub writes : WritesProof job.parity tells created new problem order moves job.limits (Ok ending)
  pub printed : Result ⊤ Failed
  pub puts : PutsText tells old_out out (ending_text job.shape job.limits ending) printed
  pub ends : status ≡ status_after ending printed

-- how far deciding and answering came
abbrev pub CameToAnswer : Bool → Channel → Channel → Channel → Channel → Formula → List ℕ → List Move → Job → Status → Type 0
CameToAnswer tells old new old_out out problem order moves job status = Uncreated old new old_out out job status
    ⊎ (Undecided tells old new old_out out problem order moves job status
    ⊎ Answered tells old new old_out out problem order moves job status)

-- what `solve` and `bench` do with what they are given
abbrev pub solve_job : ToSolve → Job
solve_job task = record { proof = task.proof; limits = task.limits; shape = None; parity = task.parity }

abbrev pub bench_job : ToBench → Formula → Job
bench_job task problem = record { proof = task.proof; limits = task.limits; shape = Some (shape_of task.size problem); parity = false }

-- `solve` had all that it decides by
pub record Solved (tells : Bool) (old new : Streams) (files : Files) (task : ToSolve) (status : Status) : Type 0 where
  pub problem : Formula
  pub order : List ℕ
  pub moves : List Move
  pub prepared : Prepared tells old new files task problem order moves
  pub came : CameToAnswer tells old.proof new.proof old.out new.out problem order moves (solve_job task) status

-- the job as the program holds it
abbrev pub job_of : HeldJob → Job
job_of job = record { proof = job.proof.now; limits = job.limits; shape = job.shape; parity = job.parity }

-- what a call left alone that answers: files that are read, and the text that is made
pub record LeavesInputs (old new : Role → Channel) : Type 0 where
  pub cnf : new Cnf ≡ old Cnf
  pub order : new Order ≡ old Order
  pub buckets : new Buckets ≡ old Buckets
  pub schedule : new Schedule ≡ old Schedule
  pub judged : new ProofIn ≡ old ProofIn
  pub cubes : new Cubes ≡ old Cubes
  pub made : new Made ≡ old Made

-- no file but those of these two names changed
abbrev pub FilesBeside : Option (List ℕ) → Option (List ℕ) → Files → Files → Type 0
FilesBeside one other old new = (file : List ℕ) → one ≢ Some file → other ≢ Some file → new file ≡ old file

-- what `trim` leaves alone: the other roles, and the files but those of these two names
pub record KeptButThree (one other : Option (List ℕ)) (old new : Role → Channel) (old_files new_files : Files) : Type 0 where
  pub others : (role : Role) → IsFalse (same_role role ProofOut) → IsFalse (same_role role Made) → IsFalse (same_role role Out)
      → new role ≡ old role
  pub files : FilesBeside one other old_files new_files

-- what `solve` is asked to do, what `ask` is, what `check` is, and what `order` is
abbrev pub task_of : SolveTask → ToSolve
task_of task = record {
  file = task.files.formula.now;
  proof = task.files.proof.now;
  mode = task.mode;
  order = text_of task.order;
  plan = planned_of task.plan;
  parity = task.parity;
  limits = task.limits;
  progress = task.progress;
}

abbrev pub ask_of : AskTask → ToAsk
ask_of task = record {
  file = task.files.formula.now;
  cubes = task.cubes.now;
  proof = task.files.proof.now;
  mode = task.mode;
  order = text_of task.order;
  limits = task.limits;
  progress = task.progress;
}

abbrev pub check_of : CheckTask → ToCheck
check_of task = record {
  file = task.files.formula.now;
  proof = task.files.proof.now;
  format = task.format;
  mode = task.mode;
  progress = task.progress;
}

abbrev pub arrange_of : OrderTask → ToOrder
arrange_of task = record {
  file = task.formula.now;
  method = task.method;
  mode = task.mode;
  out = task.out.now;
  progress = task.progress;
}

-- how far `solve` came
abbrev pub Came : Bool → Streams → Streams → Files → ToSolve → Status → Type 0
Came tells old new files task status = Untaken task.mode tells old new files task.file status
    ⊎ (Unordered task.mode tells old new files task.file task.order status
    ⊎ (Unbucketed tells old new files task status
    ⊎ (Unplanned tells old new files task status
    ⊎ Solved tells old new files task status)))

-- the order was had, and the cubes were not taken
pub record Uncubed (tells : Bool) (old new : Streams) (files : Files) (task : ToAsk) (status : Status) : Type 0 where
  pub problem : Formula
  pub takes : TakesFormula task.mode tells old.cnf new.cnf files task.file (Ok problem)
  pub given : List ℕ
  pub orders : HasOrder problem.vars task.order tells old.order new.order files (Ok given)
  pub error : CubeError
  pub cubed : TakesCubes problem.vars tells old.cubes new.cubes files task.cubes (Err error)
  pub buckets : new.buckets ≡ old.buckets
  pub schedule : new.schedule ≡ old.schedule
  pub judged : new.judged ≡ old.judged
  pub proof : new.proof ≡ old.proof
  pub made : new.made ≡ old.made
  pub out : new.out ≡ old.out
  pub ends : status ≡ status_of_cubes error

-- the cubes were not answered
pub record Unreplied (tells : Bool) (old new old_out out : Channel) (problem : Formula) (order : List ℕ) (cubes : List (List ℤ)) (job : Job)
    (status : Status) : Type 0 where
  pub created : Channel
  pub created_answer : Result ⊤ Failed
  pub done : IsOk created_answer
  pub opens : Opens old created job.proof created_answer
  pub error : RunError
  pub writes : WritesReplies tells created new problem order cubes job.limits (Err error)
  pub same : out ≡ old_out
  pub ends : status ≡ status_of_run error

-- how printing the answers ends the run
abbrev pub status_after_replies : Replies → Result ⊤ Failed → Status
status_after_replies found (Ok x) = status_of_replies found
status_after_replies found (Err e) = WriteFault

-- they were answered, or a limit was reached, and that was printed or not
pub record Replied (tells : Bool) (old new old_out out : Channel) (problem : Formula) (order : List ℕ) (cubes : List (List ℤ)) (job : Job)
    (status : Status) : Type 0 where
  pub created : Channel
  pub created_answer : Result ⊤ Failed
  pub done : IsOk created_answer
  pub opens : Opens old created job.proof created_answer
  pub found : Replies
  pub writes : WritesReplies tells created new problem order cubes job.limits (Ok found)
  pub printed : Result ⊤ Failed
  pub puts : PutsText tells old_out out (replies_text job.limits found) printed
  pub ends : status ≡ status_after_replies found printed

-- how far answering cubes came
abbrev pub CameToReply : Bool → Channel → Channel → Channel → Channel → Formula → List ℕ → List (List ℤ) → Job → Status → Type 0
CameToReply tells old new old_out out problem order cubes job status = Uncreated old new old_out out job status
    ⊎ (Unreplied tells old new old_out out problem order cubes job status
    ⊎ Replied tells old new old_out out problem order cubes job status)

-- what `ask` does with what it is given
abbrev pub ask_job : ToAsk → Job
ask_job task = record { proof = task.proof; limits = task.limits; shape = None; parity = false }

-- `ask` had all that it answers by
pub record Questioned (tells : Bool) (old new : Streams) (files : Files) (task : ToAsk) (status : Status) : Type 0 where
  pub problem : Formula
  pub takes : TakesFormula task.mode tells old.cnf new.cnf files task.file (Ok problem)
  pub given : List ℕ
  pub orders : HasOrder problem.vars task.order tells old.order new.order files (Ok given)
  pub cubes : List (List ℤ)
  pub cubed : TakesCubes problem.vars tells old.cubes new.cubes files task.cubes (Ok cubes)
  pub buckets : new.buckets ≡ old.buckets
  pub schedule : new.schedule ≡ old.schedule
  pub judged : new.judged ≡ old.judged
  pub made : new.made ≡ old.made
  pub came : CameToReply tells old.proof new.proof old.out new.out problem given cubes (ask_job task) status

-- how far `ask` came
abbrev pub CameToAsk : Bool → Streams → Streams → Files → ToAsk → Status → Type 0
CameToAsk tells old new files task status = Untaken task.mode tells old new files task.file status
    ⊎ (Unordered task.mode tells old new files task.file task.order status
    ⊎ (Uncubed tells old new files task status
    ⊎ Questioned tells old new files task status))

-- the proof was not judged
pub record Unjudged (tells : Bool) (old new : Streams) (files : Files) (task : ToCheck) (status : Status) : Type 0 where
  pub problem : Formula
  pub takes : TakesFormula task.mode tells old.cnf new.cnf files task.file (Ok problem)
  pub order : new.order ≡ old.order
  pub buckets : new.buckets ≡ old.buckets
  pub schedule : new.schedule ≡ old.schedule
  pub error : CheckError
  pub judges : JudgesProof task.format tells old.judged new.judged files task.proof problem.clauses (Err error)
  pub cubes : new.cubes ≡ old.cubes
  pub proof : new.proof ≡ old.proof
  pub made : new.made ≡ old.made
  pub out : new.out ≡ old.out
  pub ends : status ≡ status_of_check error

-- how printing a verdict ends the run
abbrev pub status_of_printed : Verdict → Result ⊤ Failed → Status
status_of_printed verdict (Ok x) = status_of_verdict verdict
status_of_printed verdict (Err e) = WriteFault

-- it was judged, and the verdict was printed or not
pub record Judged (tells : Bool) (old new : Streams) (files : Files) (task : ToCheck) (status : Status) : Type 0 where
  pub problem : Formula
  pub takes : TakesFormula task.mode tells old.cnf new.cnf files task.file (Ok problem)
  pub order : new.order ≡ old.order
  pub buckets : new.buckets ≡ old.buckets
  pub schedule : new.schedule ≡ old.schedule
  pub verdict : Verdict
  pub judges : JudgesProof task.format tells old.judged new.judged files task.proof problem.clauses (Ok verdict)
  pub cubes : new.cubes ≡ old.cubes
  pub proof : new.proof ≡ old.proof
  pub made : new.made ≡ old.made
  pub printed : Result ⊤ Failed
  pub puts : PutsText tells old.out new.out (verdict_text verdict) printed
  pub ends : status ≡ status_of_printed verdict printed

-- how far `check` came
abbrev pub CameToCheck : Bool → Streams → Streams → Files → ToCheck → Status → Type 0
CameToCheck tells old new files task status = Untaken task.mode tells old new files task.file status
    ⊎ (Unjudged tells old new files task status ⊎ Judged tells old new files task status)

-- the proof was not converted
pub record Unconverted (tells : Bool) (old new : Streams) (files : Files) (task : ToConvert) (status : Status) : Type 0 where
  pub problem : Formula
  pub takes : TakesFormula task.mode tells old.cnf new.cnf files task.file (Ok problem)
  pub order : new.order ≡ old.order
  pub buckets : new.buckets ≡ old.buckets
  pub schedule : new.schedule ≡ old.schedule
  pub error : ConvertError
  pub rewrites : RewritesProof tells old.judged new.judged old.proof new.proof files task.proof task.out task.into problem
      (Err error)
  pub cubes : new.cubes ≡ old.cubes
  pub made : new.made ≡ old.made
  pub out : new.out ≡ old.out
  pub ends : status ≡ status_of_convert error

-- it was converted, and the verdict was printed or not
pub record Converted (tells : Bool) (old new : Streams) (files : Files) (task : ToConvert) (status : Status) : Type 0 where
  pub problem : Formula
  pub takes : TakesFormula task.mode tells old.cnf new.cnf files task.file (Ok problem)
  pub order : new.order ≡ old.order
  pub buckets : new.buckets ≡ old.buckets
  pub schedule : new.schedule ≡ old.schedule
  pub verdict : Verdict
  pub rewrites : RewritesProof tells old.judged new.judged old.proof new.proof files task.proof task.out task.into problem
      (Ok verdict)
  pub cubes : new.cubes ≡ old.cubes
  pub made : new.made ≡ old.made
  pub printed : Result ⊤ Failed
  pub puts : PutsText tells old.out new.out (verdict_text verdict) printed
  pub ends : status ≡ status_of_printed verdict printed

-- how far `drat` or `lrat` came
abbrev pub CameToConvert : Bool → Streams → Streams → Files → ToConvert → Status → Type 0
CameToConvert tells old new files task status = Untaken task.mode tells old new files task.file status
    ⊎ (Unconverted tells old new files task status ⊎ Converted tells old new files task status)

-- the proof was not judged to be trimmed
pub record Untrimmed (tells : Bool) (old new : Streams) (files : Files) (task : ToTrim) (status : Status) : Type 0 where
  pub problem : Formula
  pub takes : TakesFormula task.mode tells old.cnf new.cnf files task.file (Ok problem)
  pub order : new.order ≡ old.order
  pub buckets : new.buckets ≡ old.buckets
  pub schedule : new.schedule ≡ old.schedule
  pub error : CheckError
  pub trims : TrimsProof tells old.judged new.judged files task.proof problem.clauses (Err error)
  pub cubes : new.cubes ≡ old.cubes
  pub proof : new.proof ≡ old.proof
  pub made : new.made ≡ old.made
  pub out : new.out ≡ old.out
  pub ends : status ≡ status_of_check error

-- a verdict was printed, in this text, or not
pub record ShowsVerdict (tells : Bool) (old new : Channel) (text : List ℕ) (verdict : Verdict) (status : Status) : Type 0 where
  pub printed : Result ⊤ Failed
  pub puts : PutsText tells old new text printed
  pub ends : status ≡ status_of_printed verdict printed

-- it was judged, and is not verified
pub record Rejected (tells : Bool) (old new : Streams) (files : Files) (task : ToTrim) (status : Status) : Type 0 where
  pub problem : Formula
  pub takes : TakesFormula task.mode tells old.cnf new.cnf files task.file (Ok problem)
  pub order : new.order ≡ old.order
  pub buckets : new.buckets ≡ old.buckets
  pub schedule : new.schedule ≡ old.schedule
  pub line : ℕ
  pub reason : Reason
  pub trims : TrimsProof tells old.judged new.judged files task.proof problem.clauses (Ok (IsRefused line reason))
  pub cubes : new.cubes ≡ old.cubes
  pub proof : new.proof ≡ old.proof
  pub made : new.made ≡ old.made
  pub shows : ShowsVerdict tells old.out new.out (verdict_text (judgement.Refused line reason)) (judgement.Refused line reason) status

-- What comes of the steps of a trimmed proof, and of its core, is told of the streams that they are written to and of standard output,
-- before and after.

-- the steps' file was not created, or they were not written
pub record Unkept (tells : Bool) (old new old_made made old_out out : Channel) (file text : List ℕ) (status : Status) : Type 0 where
  pub error : Failed
  pub puts : PutsFile tells old new file text (Err error)
  pub unmade : made ≡ old_made
  pub same : out ≡ old_out
  pub ends : status ≡ WriteFault

-- they were written, and the core that is asked for was not
pub record Uncored (tells : Bool) (old new old_made made old_out out : Channel) (file text : List ℕ) (named : Option (List ℕ))
    (core : List ℕ) (status : Status) : Type 0 where
  pub answer : Result ⊤ Failed
  pub done : IsOk answer
  pub puts : PutsFile tells old new file text answer
  pub error : Failed
  pub cored : PutsNamed tells old_made made named core (Err error)
  pub same : out ≡ old_out
  pub ends : status ≡ WriteFault

-- all that is asked for was written, and the verdict was printed or not
pub record Keeps (tells : Bool) (old new old_made made old_out out : Channel) (file text : List ℕ) (named : Option (List ℕ))
    (core : List ℕ) (kept total : ℕ) (status : Status) : Type 0 where
  pub answer : Result ⊤ Failed
  pub done : IsOk answer
  pub puts : PutsFile tells old new file text answer
  pub core_answer : Result ⊤ Failed
  pub core_done : IsOk core_answer
  pub cored : PutsNamed tells old_made made named core core_answer
  pub shows : ShowsVerdict tells old_out out (trimmed_text kept total) judgement.Verified status

-- how far that came
abbrev pub CameToKeep : Bool → Channel → Channel → Channel → Channel → Channel → Channel → List ℕ → List ℕ → Option (List ℕ) → List ℕ
    → ℕ → ℕ → Status → Type 0
CameToKeep tells old new old_made made old_out out file text named core kept total status =
    Unkept tells old new old_made made old_out out file text status
    ⊎ (Uncored tells old new old_made made old_out out file text named core status
    ⊎ Keeps tells old new old_made made old_out out file text named core kept total status)

-- the proof was verified, and its trimmed form written or not
pub record Trimmed (tells : Bool) (old new : Streams) (files : Files) (task : ToTrim) (status : Status) : Type 0 where
  pub problem : Formula
  pub takes : TakesFormula task.mode tells old.cnf new.cnf files task.file (Ok problem)
  pub order : new.order ≡ old.order
  pub buckets : new.buckets ≡ old.buckets
  pub schedule : new.schedule ≡ old.schedule
  pub lines : List ℕ
  pub core : List ℕ
  pub kept : ℕ
  pub total : ℕ
  pub trims : TrimsProof tells old.judged new.judged files task.proof problem.clauses (Ok (Steps lines core kept total))
  pub cubes : new.cubes ≡ old.cubes
  pub came : CameToKeep tells old.proof new.proof old.made new.made old.out new.out task.out lines task.core core kept total status

-- how far `trim` came
abbrev pub CameToTrim : Bool → Streams → Streams → Files → ToTrim → Status → Type 0
CameToTrim tells old new files task status = Untaken task.mode tells old new files task.file status
    ⊎ (Untrimmed tells old new files task status
    ⊎ (Rejected tells old new files task status
    ⊎ Trimmed tells old new files task status))

-- the board was not made: memory ran out
pub record Unmade (old new : Streams) (status : Status) : Type 0 where
  pub same : new ≡ old
  pub ends : status ≡ OutOfMemory

-- what `bench` is asked to do, and what `make` is
abbrev pub bench_of : BenchTask → ToBench
bench_of task = record { size = task.size; proof = task.proof.now; limits = task.limits; progress = task.progress }

abbrev pub make_of : MakeTask → ToMake
make_of task = record { size = task.size; part = task.part; file = task.file.now }

-- `bench` had its board
pub record Benched (tells : Bool) (old new : Streams) (task : ToBench) (status : Status) : Type 0 where
  pub problem : Formula
  pub order : List ℕ
  pub moves : List Move
  pub board : AreOfBoard task.size problem order moves
  pub none_read : NoneRead old new
  pub made : new.made ≡ old.made
  pub came : CameToAnswer tells old.proof new.proof old.out new.out problem order moves (bench_job task problem) status

abbrev pub CameToBench : Bool → Streams → Streams → ToBench → Status → Type 0
CameToBench tells old new task status = Unmade old new status ⊎ Benched tells old new task status

-- how writing a text ends the run
abbrev pub status_of_written : Result ⊤ Failed → Status
status_of_written (Ok x) = Done
status_of_written (Err e) = WriteFault

-- What comes of a text that is made is told of its file's stream, before and after.

-- the text's file was not created
pub record FileUncreated (old new : Channel) (file : List ℕ) (status : Status) : Type 0 where
  pub answer : Result ⊤ Failed
  pub failed : IsErr answer
  pub opens : Opens old new file answer
  pub ends : status ≡ WriteFault

-- it was created, and the text was written or not
pub record Written (tells : Bool) (old new : Channel) (file text : List ℕ) (status : Status) : Type 0 where
  pub created : Channel
  pub created_answer : Result ⊤ Failed
  pub done : IsOk created_answer
  pub opens : Opens old created file created_answer
  pub written : Result ⊤ Failed
  pub puts : PutsText tells created new text written
  pub ends : status ≡ status_of_written written

-- how far writing a text to a file came
abbrev pub CameToWrite : Bool → Channel → Channel → List ℕ → List ℕ → Status → Type 0
CameToWrite tells old new file text status = FileUncreated old new file status ⊎ Written tells old new file text status

-- `make` had its board
pub record BoardMade (tells : Bool) (old new : Streams) (task : ToMake) (status : Status) : Type 0 where
  pub none_read : NoneRead old new
  pub proof : new.proof ≡ old.proof
  pub out : new.out ≡ old.out
  pub came : CameToWrite tells old.made new.made task.file (made_text task.part task.size) status

abbrev pub CameToMake : Bool → Streams → Streams → ToMake → Status → Type 0
CameToMake tells old new task status = Unmade old new status ⊎ BoardMade tells old new task status

-- nothing but the formula's file was read, and neither a proof nor an answer written
pub record FormulaAlone (old new : Streams) : Type 0 where
  pub order : new.order ≡ old.order
  pub buckets : new.buckets ≡ old.buckets
  pub schedule : new.schedule ≡ old.schedule
  pub judged : new.judged ≡ old.judged
  pub cubes : new.cubes ≡ old.cubes
  pub proof : new.proof ≡ old.proof
  pub out : new.out ≡ old.out

-- the formula was taken, and memory for an order of its variables ran out
pub record Unarranged (tells : Bool) (old new : Streams) (files : Files) (task : ToOrder) (status : Status) : Type 0 where
  pub problem : Formula
  pub takes : TakesFormula task.mode tells old.cnf new.cnf files task.file (Ok problem)
  pub alone : FormulaAlone old new
  pub made : new.made ≡ old.made
  pub ends : status ≡ OutOfMemory

-- the order was made
pub record Arranged (tells : Bool) (old new : Streams) (files : Files) (task : ToOrder) (status : Status) : Type 0 where
  pub problem : Formula
  pub takes : TakesFormula task.mode tells old.cnf new.cnf files task.file (Ok problem)
  pub alone : FormulaAlone old new
  pub order : List ℕ
  pub ordered : IsOrderOf problem.vars order
  pub came : CameToWrite tells old.made new.made task.out (order_line order) status

-- how far `order` came
abbrev pub CameToArrange : Bool → Streams → Streams → Files → ToOrder → Status → Type 0
CameToArrange tells old new files task status = Untaken task.mode tells old new files task.file status
    ⊎ (Unarranged tells old new files task status ⊎ Arranged tells old new files task status)

-- `solve` was tried
pub record Tried (tells : Bool) (words : List (List ℕ)) (old new : Streams) (files : Files) (status : Status) : Type 0 where
  pub task : ToSolve
  pub asked : command words ≡ Some (Solve task)
  pub came : Came tells old new files task status

-- `check` was tried
pub record Checked (tells : Bool) (words : List (List ℕ)) (old new : Streams) (files : Files) (status : Status) : Type 0 where
  pub task : ToCheck
  pub asked : command words ≡ Some (Check task)
  pub came : CameToCheck tells old new files task status

-- `bench` was tried
pub record Tested (tells : Bool) (words : List (List ℕ)) (old new : Streams) (status : Status) : Type 0 where
  pub task : ToBench
  pub asked : command words ≡ Some (Bench task)
  pub came : CameToBench tells old new task status

-- `make` was tried
pub record Making (tells : Bool) (words : List (List ℕ)) (old new : Streams) (status : Status) : Type 0 where
  pub task : ToMake
  pub asked : command words ≡ Some (Make task)
  pub came : CameToMake tells old new task status

-- `order` was tried
pub record Arranging (tells : Bool) (words : List (List ℕ)) (old new : Streams) (files : Files) (status : Status) : Type 0 where
  pub task : ToOrder
  pub asked : command words ≡ Some (Arrange task)
  pub came : CameToArrange tells old new files task status

-- `drat` or `lrat` was tried
pub record Converting (tells : Bool) (words : List (List ℕ)) (old new : Streams) (files : Files) (status : Status) : Type 0 where
  pub task : ToConvert
  pub asked : command words ≡ Some (Convert task)
  pub came : CameToConvert tells old new files task status

-- `trim` was tried
pub record Trimming (tells : Bool) (words : List (List ℕ)) (old new : Streams) (files : Files) (status : Status) : Type 0 where
  pub task : ToTrim
  pub asked : command words ≡ Some (Trim task)
  pub came : CameToTrim tells old new files task status

-- `ask` was tried
pub record Asking (tells : Bool) (words : List (List ℕ)) (old new : Streams) (files : Files) (status : Status) : Type 0 where
  pub task : ToAsk
  pub asked : command words ≡ Some (Ask task)
  pub came : CameToAsk tells old new files task status

abbrev pub Stages : Bool → List (List ℕ) → Streams → Streams → Files → Status → Type 0
Stages tells words old new files status = Misused words old new status
    ⊎ (Helped tells words old new status
    ⊎ (Tried tells words old new files status
    ⊎ (Checked tells words old new files status
    ⊎ (Tested tells words old new status
    ⊎ (Making tells words old new status
    ⊎ (Arranging tells words old new files status
    ⊎ (Converting tells words old new files status
    ⊎ (Trimming tells words old new files status
    ⊎ Asking tells words old new files status))))))))
