-- What the program promises, over one run of it: its words, the host before and after, any contents of the files that fit the bytes taken
-- of them, and how it ended. What it says of bytes is said of hosts that tell them, as the real one and those in memory do. What `solve`
-- and `bench` are given is one sentence (`AreGiven`). Sentences that say more of other commands than of `drat` and `lrat` have a second
-- case (`ConvertsAsItReads`), and `trim` creates its file after the verdict.
use Rattle.std.specs.Prelude.{◌≡◌, ◌≢◌, ◌⊎◌, ◌++◌, ◌<◌, ℕ, ℤ, Bool, true, false, List, [], None, Some, length, IsTrue, IsFalse}
use Rattle.std.specs.Prelude.{⊤}
use Rattle.cnf_base.specs.Truth.{Satisfies, assignment_of}
use Rattle.cnf_base.specs.Formula.{Formula}
use Rattle.host_io.specs.declared.role.Role.{Role}
use Rattle.host_io.specs.declared.role.Role.TheVariants.{Cnf, Order, Buckets, Schedule, ProofIn, Cubes, ProofOut, Made, Out, Err}
use Rattle.dimacs_reader.specs.Cnf.{CnfText, formula, refusal, overlong, cnf}
use Rattle.lrat_rules.specs.Run.{Refutes}
use Rattle.lrat_rules.specs.declared.outcome.Reason.{Reason}
use Rattle.lrat_checker.specs.TextVerdict.{max_bytes}
use Rattle.proof_judging.specs.declared.verdict.Verdict.{Verdict}
use Rattle.proof_judging.specs.declared.verdict.Verdict.TheVariants as judgement
use Rattle.proof_trim.specs.Core.{core, core_text}
use Rattle.proof_trim.specs.Trimmed.{trim}
use Rattle.cube_text.specs.CubeText.{CubeText, cube_text, cubes as given_cubes, refusal as cube_refusal, overlong as overlong_cubes}
use Rattle.cube_queries.specs.declared.answer.Answer.{Answer}
use Rattle.cube_queries.specs.declared.answer.Outcome.{Outcome as Replies}
use Rattle.cube_queries.specs.Answers.{AreShown, AreTrue}
use Rattle.cube_queries.specs.Width.{AreAmple, IsPaid, plan_of}
use Rattle.cube_queries.specs.Ends.{Says as SaysOfCubes, Shows as ShowsOfCubes}
use Rattle.schedule_plan.specs.OrderText.{OrderText, order as given_order, refusal as order_refusal, overlong as overlong_order}
use Rattle.schedule_plan.specs.OrderText.{order_text}
use Rattle.schedule_plan.specs.ScheduleText.{ScheduleText, refusal as schedule_refusal, overlong as overlong_schedule, schedule}
use Rattle.schedule_plan.specs.declared.plan.Move.{Move}
use Rattle.term_runner.specs.declared.outcome.Outcome.{Outcome}
use Rattle.term_runner.specs.declared.outcome.Outcome.TheVariants as outcome
use Rattle.term_runner.specs.Clauses.{has_empty_clause, one_line}
use Rattle.term_runner.specs.Price.{IsLeanAtEnd}
use Rattle.bdd_terms.specs.Price.{IsMovePrice}
use Rattle.term_runner.specs.Proofs.{AreUnsatisfiable, IsProof, IsProofOfKind, IsProofSoFar, IsProofSoFarOfKind}
use Rattle.term_runner.specs.Width.{HasWidth, HasWidthWith, keeps_trail}
use Rattle.term_runner.specs.Ends.{Says, Shows}
use Rattle.term_runner.specs.Recovered.{IsRecovered}
use Rattle.answer_text.specs.Status.{refused_text}
use Rattle.command_line.specs.Command.{Command, ToSolve, ToAsk, ToConvert, ToMake, ToOrder, Solve, Ask, Convert, Make}
use Rattle.command_line.specs.Command.{Arrange, ByFile, ByBuckets, format_of, formula_file, mode_of, AsksHelp, Misuse, MayMean}
use Rattle.command_line.specs.Command.{CanOnlyMean, command}
use Rattle.command_line.specs.Command.{parity_asked, progress_asked}
use Rattle.solver_cli.specs.declared.status.Why.{Why}
use Rattle.solver_cli.specs.declared.status.Why.TheVariants.{NodeLimit}
use Rattle.solver_cli.specs.declared.status.Status.{Status}
use Rattle.solver_cli.specs.declared.status.Status.TheVariants.{Sat, Unsat, Unknown, Answered, Verified, NotVerified, Done, Help, Usage}
use Rattle.solver_cli.specs.declared.status.Status.TheVariants.{CnfRefused}
use Rattle.solver_cli.specs.declared.status.Status.TheVariants.{OrderRefused, BucketsRefused, PlanRefused, CubeRefused, TooLong}
use Rattle.solver_cli.specs.declared.status.Status.TheVariants.{ReadFault, WriteFault}
use Rattle.solver_cli.specs.declared.status.Status.TheVariants.{OutOfMemory}
use Rattle.solver_cli.specs.Comments.{are_comments, are_comments_so_far}
use Rattle.solver_cli.specs.ErrorText.{error_text, is_answer}
use Rattle.solver_cli.specs.Explained.{is_explained}
use Rattle.solver_cli.specs.Answer.{IsRead, IsOrdered, IsOrderOf, Holds, outcome_at, status_of}
use Rattle.solver_cli.specs.Format.{verdict_in, RefutesIn, IsRefusedIn}
use Rattle.solver_cli.specs.Sums.{AreAmpleAs, IsPaidAs, NeedsSums}
use Rattle.solver_cli.specs.ConvertedProof.{AreLinesOfConversion, IsFrontOfConversion}
use Rattle.solver_cli.specs.MadeText.{made_text, order_line}
use Rattle.solver_cli.specs.Phases.{WantsProof, WantsRead, cnf_wants, cubes_wants, order_wants, schedule_wants}
use Rattle.solver_cli.specs.Verdict.{status_of_verdict}
use Rattle.solver_cli.specs.Replies.{answers_from, replies_at, replies_text, status_of_replies}
use Rattle.solver_cli.specs.Run.{Run, written_in, taken_in, limits_given, HasFault, InputFailed, OutputFailed, IsUnharmed, GivesMake}
use Rattle.solver_cli.specs.Run.{AsksByCubes, GivesAsk, goes_by_order}
use Rattle.solver_cli.specs.Run.{GivesConversion, GivesDecision, GivesTrimming, name_given, GivesFormula, GivesProof, GivesOrder}
use Rattle.solver_cli.specs.Run.{GivesBuckets}
use Rattle.solver_cli.specs.Run.{GivesSchedule, AsksOver, AsksByOrder, AsksByBuckets, AsksBySchedule, AsksBy, IsBoardAsked, IsPlanAsked}
use Rattle.solver_cli.specs.Run.{AsksFor, AsksToJudge, HasVerdict, AsksToConvert, IsConverted, IsTrimmed, text_for, verdict_text_for}
use Rattle.solver_cli.specs.Faults.{ConvertsAsItReads, FaultsAreCounted, FailuresAreTold}

-- Unsatisfiable: the words give `solve` or `bench`, and no assignment satisfies the formula's clauses. It is the formula
-- that is asked for (of `bench` whatever the host tells), and the very bytes of the proof refute its clauses, by one line where
-- one of them is empty.
pub record IsShownRefuted (run : Run) (problem : Formula) : Type 0 where
  pub asked : AsksFor run problem
  pub refuted : Refutes problem.clauses (written_in run ProofOut)
  pub at_once : IsTrue (has_empty_clause problem.clauses) → written_in run ProofOut ≡ one_line problem.clauses
  pub printed : written_in run Out ≡ text_for run problem outcome.Unsat

pub record IsRefuted (run : Run) : Type 0 where
  pub given : GivesDecision run
  pub problem : Formula
  pub board : IsBoardAsked run problem
  pub unsatisfiable : AreUnsatisfiable problem.clauses
  pub shown : IsTrue run.tells → IsShownRefuted run problem

abbrev pub UnsatisfiableIsProved : Run → Type 0
UnsatisfiableIsProved run = run.status ≡ Unsat → IsRefuted run

-- Satisfiable: the words give `solve` or `bench`, and these values, one for each variable, satisfy the formula's clauses.
-- They are recovered: the least that make the plan's last term true, the variables compared in their order, with the
-- quantified ones set back. It is the formula that is asked for, by its order and plan, and the values were printed. The proof
-- leaves few clauses live beside those of nodes: as many as two caches have entries, and one.
pub record IsShownSatisfied (run : Run) (problem : Formula) (order : List ℕ) (moves : List Move) (values : List Bool) : Type 0 where
  pub asked : AsksBy run problem order moves
  pub few : IsProofOfKind problem.clauses (IsLeanAtEnd problem.vars (length problem.clauses) (limits_given run).cache)
      (written_in run ProofOut)
  pub printed : written_in run Out ≡ text_for run problem (outcome.Sat values)

pub record IsSatisfied (run : Run) : Type 0 where
  pub given : GivesDecision run
  pub problem : Formula
  pub order : List ℕ
  pub moves : List Move
  pub values : List Bool
  pub board : IsPlanAsked run problem order moves
  pub one_each : length values ≡ problem.vars
  pub satisfied : Satisfies (assignment_of values) problem.clauses
  pub recovered : IsRecovered problem order moves values
  pub shown : IsTrue run.tells → IsShownSatisfied run problem order moves values

abbrev pub SatisfiableIsTrue : Run → Type 0
SatisfiableIsTrue run = run.status ≡ Sat → IsSatisfied run

-- Undecided: the words give `solve` or `bench`, and the plan is wider than the nodes that are allowed, where that is the limit; no width
-- fits into the limits, with the sums of the parity equations, where these are added up first. Where they are in conflict then, fewer nodes
-- are allowed than they may need. It is the formula that is asked for, by its order and plan; the proof's bytes show that the limit is
-- reached, and it was printed.
pub record IsShownUndecided (run : Run) (why : Why) (problem : Formula) (order : List ℕ) (moves : List Move) : Type 0 where
  pub asked : AsksBy run problem order moves
  pub reached : Shows problem (limits_given run) (written_in run ProofOut) (outcome_at why)
  pub printed : written_in run Out ≡ text_for run problem (outcome_at why)

pub record IsUndecided (run : Run) (why : Why) : Type 0 where
  pub given : GivesDecision run
  pub problem : Formula
  pub order : List ℕ
  pub moves : List Move
  pub board : IsPlanAsked run problem order moves
  pub needs : Says problem order moves (limits_given run) (outcome_at why)
  pub short : (width price : ℕ) → HasWidthWith (keeps_trail (limits_given run).max_nodes) problem order moves width
      → IsMovePrice problem.vars (limits_given run).cache width price
      → AreAmpleAs (parity_asked (command run.words)) (limits_given run) problem moves width price → ⊥
  pub sums : IsTrue (parity_asked (command run.words)) → why ≡ NodeLimit → NeedsSums (limits_given run) problem
  pub shown : IsTrue run.tells → IsShownUndecided run why problem order moves

-- Or the words give `ask`: the plan that conjoins the clauses is wider than the nodes that are allowed, where that is the limit, and the
-- limits aren't above what the width needs. It is the formula that is asked for, by its order and cubes; the proof's bytes show that the limit is reached, and it was printed.
pub record IsShownUnanswered (run : Run) (why : Why) (problem : Formula) (order : List ℕ) (cubes : List (List ℤ)) : Type 0 where
  pub asked : AsksByCubes run problem order (given_cubes cubes)
  pub reached : ShowsOfCubes problem order cubes (limits_given run) (written_in run ProofOut) (replies_at why)
  pub printed : written_in run Out ≡ replies_text (limits_given run) (replies_at why)

pub record IsUnanswered (run : Run) (why : Why) : Type 0 where
  pub given : GivesAsk run
  pub problem : Formula
  pub order : List ℕ
  pub cubes : List (List ℤ)
  pub needs : SaysOfCubes problem order cubes (limits_given run) (replies_at why)
  pub short : (width price : ℕ) → HasWidth problem order (plan_of problem) width → IsMovePrice problem.vars (limits_given run).cache width price
      → AreAmple (limits_given run) problem cubes width price → ⊥
  pub shown : IsTrue run.tells → IsShownUnanswered run why problem order cubes

abbrev pub LimitsAreReached : Run → Type 0
LimitsAreReached run = (why : Why) → run.status ≡ Unknown why → IsUndecided run why ⊎ IsUnanswered run why

-- Answered: the words give `ask`, and what is answered of each cube is true of the formula and the cube: no assignment satisfies both, or
-- these values are those of the least one that does, in the order that is asked for. They are the formula and the cubes that are asked for.
-- The proof's bytes are the lines of good steps from the formula, each of them conservative, one of which adds the clause that forbids each
-- cube that no assignment satisfies. The answers were printed, in turn.
pub record IsShownAnswered (run : Run) (problem : Formula) (order : List ℕ) (cubes : List (List ℤ)) (answers : List Answer) : Type 0 where
  pub asked : AsksByCubes run problem order (given_cubes cubes)
  pub shown : AreShown problem order cubes answers (written_in run ProofOut)
  pub printed : written_in run Out ≡ answers_from 1 answers

pub record IsAnswered (run : Run) : Type 0 where
  pub given : GivesAsk run
  pub problem : Formula
  pub order : List ℕ
  pub cubes : List (List ℤ)
  pub answers : List Answer
  pub is_true : AreTrue problem order cubes answers
  pub shown : IsTrue run.tells → IsShownAnswered run problem order cubes answers

abbrev pub CubesAreAnswered : Run → Type 0
CubesAreAnswered run = run.status ≡ Answered → IsAnswered run

-- Verified: the very bytes of the proof's file refute the formula's clauses, by the rules of LRAT, or with `check --format drat` and `lrat`
-- by those of DRAT, so that no assignment satisfies them. With `drat` and `lrat` the proof was converted, whole: what `lrat` wrote refutes
-- the formula's clauses by the rules of LRAT. With `trim` it was trimmed.
pub record IsVerified (run : Run) : Type 0 where
  pub problem : Formula
  pub bytes : List ℕ
  pub has : HasVerdict run problem bytes judgement.Verified
  pub converted : (given : GivesConversion run) → IsConverted run given.0.into problem bytes judgement.Verified
  pub trimmed : GivesTrimming run → IsTrimmed run problem bytes
  pub refuted : RefutesIn (format_of has.asked.asked) problem.clauses bytes
  pub unsatisfiable : AreUnsatisfiable problem.clauses
  pub printed : written_in run Out ≡ verdict_text_for run problem bytes judgement.Verified

-- Not verified: this is the first bad line of the proof by the same rules, or that of its end, and why it is refused. With `drat` and
-- `lrat` what comes before it was converted, whole.
pub record IsNotVerified (run : Run) (line : ℕ) (reason : Reason) : Type 0 where
  pub problem : Formula
  pub bytes : List ℕ
  pub has : HasVerdict run problem bytes (judgement.Refused line reason)
  pub converted : (given : GivesConversion run) → IsConverted run given.0.into problem bytes (judgement.Refused line reason)
  pub refused : IsRefusedIn (format_of has.asked.asked) problem.clauses bytes line reason
  pub printed : written_in run Out ≡ refused_text line reason

pub record VerdictIsTrue (run : Run) : Type 0 where
  pub verified : run.status ≡ Verified → GivesProof run × (IsTrue run.tells → IsVerified run)
  pub not_verified : (line : ℕ) (reason : Reason) → run.status ≡ NotVerified line reason → GivesProof run
      × (IsTrue run.tells → IsNotVerified run line reason)

-- Done: the words give `make`, and the text of the board was written to the file that they name, and flushed.
pub record IsMade (run : Run) (task : ToMake) : Type 0 where
  pub given : command run.words ≡ Some (Make task)
  pub written : IsTrue run.tells → written_in run Made ≡ made_text task.part task.size
  pub flushed : IsTrue run.tells → (run.after Made).flushed ≡ length (run.after Made).written

-- Or they give `order`, and the text of an order of the variables of the formula that is asked for was written to the file that they name.
pub record IsShownArranged (run : Run) (task : ToOrder) : Type 0 where
  pub problem : Formula
  pub asks : AsksOver run (Arrange task) (formula problem)
  pub order : List ℕ
  pub ordered : IsOrderOf problem.vars order
  pub written : written_in run Made ≡ order_line order

pub record IsArranged (run : Run) (task : ToOrder) : Type 0 where
  pub given : command run.words ≡ Some (Arrange task)
  pub shown : IsTrue run.tells → IsShownArranged run task
  pub flushed : IsTrue run.tells → (run.after Made).flushed ≡ length (run.after Made).written

abbrev pub TextIsMade : Run → Type 0
TextIsMade run = run.status ≡ Done → ((task : ToMake) × IsMade run task) ⊎ ((task : ToOrder) × IsArranged run task)

-- whatever was written to a made file is a front of the text that is asked for
pub record IsFrontOfMade (run : Run) : Type 0 where
  pub task : ToMake
  pub given : command run.words ≡ Some (Make task)
  pub rest : List ℕ
  pub front : made_text task.part task.size ≡ written_in run Made ++ rest

-- or of the text of an order of the formula that is asked for
pub record IsFrontOfOrder (run : Run) : Type 0 where
  pub task : ToOrder
  pub problem : Formula
  pub asks : AsksOver run (Arrange task) (formula problem)
  pub order : List ℕ
  pub ordered : IsOrderOf problem.vars order
  pub rest : List ℕ
  pub front : order_line order ≡ written_in run Made ++ rest

-- or of the core of a verified proof that `trim` trimmed
pub record IsFrontOfCore (run : Run) : Type 0 where
  pub given : GivesTrimming run
  pub problem : Formula
  pub bytes : List ℕ
  pub has : HasVerdict run problem bytes judgement.Verified
  pub rest : List ℕ
  pub front : core_text (core problem.clauses bytes) ≡ written_in run Made ++ rest

abbrev pub MadeStands : Run → Type 0
MadeStands run = IsTrue run.tells → (written_in run Made ≡ []) ⊎ (IsFrontOfMade run ⊎ (IsFrontOfOrder run ⊎ IsFrontOfCore run))

-- a refusal of the formula is that of the named file's whole text, and already that of the bytes taken
pub record IsRefusedBy (run : Run) (text : CnfText) : Type 0 where
  pub asked : Command
  pub asks : AsksOver run asked text
  pub decided : cnf (mode_of asked) (taken_in run Cnf) ≡ text

-- and so is one of the order, one of the buckets' order, one of the cubes, and one of the schedule, of a formula that was accepted
pub record OrderIsRefusedBy (run : Run) (text : OrderText) : Type 0 where
  pub problem : Formula
  pub asks : AsksByOrder run problem text
  pub decided : order_text problem.vars (taken_in run Order) ≡ text

pub record BucketsAreRefusedBy (run : Run) (text : OrderText) : Type 0 where
  pub problem : Formula
  pub asks : AsksByBuckets run problem text
  pub decided : order_text problem.vars (taken_in run Buckets) ≡ text

pub record CubesAreRefusedBy (run : Run) (text : CubeText) : Type 0 where
  pub problem : Formula
  pub order : List ℕ
  pub asks : AsksByCubes run problem order text
  pub decided : cube_text problem.vars (taken_in run Cubes) ≡ text

pub record ScheduleIsRefusedBy (run : Run) (text : ScheduleText) : Type 0 where
  pub problem : Formula
  pub asks : AsksBySchedule run problem text
  pub decided : schedule problem (taken_in run Schedule) ≡ text

-- More bytes of the proof were taken than are looked at, and no line that ends among these is bad.
pub record IsLongProof (run : Run) : Type 0 where
  pub problem : Formula
  pub bytes : List ℕ
  pub asked : AsksToJudge run problem bytes
  pub judged : verdict_in (format_of asked.asked) problem.clauses bytes ≡ None
  pub decided : verdict_in (format_of asked.asked) problem.clauses (taken_in run ProofIn) ≡ None
  pub long : max_bytes < length (taken_in run ProofIn)

-- What memory was wanted for. For the words, or for a board: no role but standard error changed.
abbrev pub IsIdle : Run → Type 0
IsIdle run = (role : Role) → role ≢ Err → run.after role ≡ run.before role

-- For the formula's text, which may want it; no other role changed.
pub record FormulaWantsMemory (run : Run) : Type 0 where
  pub asked : Command
  pub given : command run.words ≡ Some asked
  pub file : List ℕ
  pub named : formula_file asked ≡ Some file
  pub wants : IsTrue run.tells → WantsRead (cnf_wants (mode_of asked)) run.texts file (taken_in run Cnf)
  pub alone : (role : Role) → role ≢ Cnf → role ≢ Err → run.after role ≡ run.before role

-- For an order of the variables, where the formula was accepted: the text of the file that is named may want it, or none is named. No
-- later text was opened, and no proof's file created.
pub record OrderWantsMemory (run : Run) : Type 0 where
  pub asked : Command
  pub given : command run.words ≡ Some asked
  pub by_order : IsTrue (goes_by_order asked)
  pub problem : Formula
  pub asks : IsTrue run.tells → AsksOver run asked (formula problem)
  pub wants : IsTrue run.tells → (file : List ℕ) → name_given Order asked ≡ Some file
      → WantsRead (order_wants problem.vars) run.texts file (taken_in run Order)
  pub before_buckets : run.after Buckets ≡ run.before Buckets
  pub before_schedule : run.after Schedule ≡ run.before Schedule
  pub before_cubes : run.after Cubes ≡ run.before Cubes
  pub before_proof : run.after ProofOut ≡ run.before ProofOut

-- For the buckets' order, whose text may want it, where the order is given too.
pub record BucketsWantMemory (run : Run) : Type 0 where
  pub task : ToSolve
  pub given : command run.words ≡ Some (Solve task)
  pub problem : Formula
  pub asks : IsTrue run.tells → AsksOver run (Solve task) (formula problem)
  pub order : List ℕ
  pub ordered : IsTrue run.tells → IsOrdered run.texts task.order problem order
  pub file : List ℕ
  pub named : task.plan ≡ ByBuckets file
  pub wants : IsTrue run.tells → WantsRead (order_wants problem.vars) run.texts file (taken_in run Buckets)
  pub before_schedule : run.after Schedule ≡ run.before Schedule
  pub before_proof : run.after ProofOut ≡ run.before ProofOut

-- For the plan, where the orders are given too: the schedule's text may want it, or none of it was taken yet, or no schedule is named.
pub record PlanWantsMemory (run : Run) : Type 0 where
  pub task : ToSolve
  pub given : command run.words ≡ Some (Solve task)
  pub problem : Formula
  pub asks : IsTrue run.tells → AsksOver run (Solve task) (formula problem)
  pub order : List ℕ
  pub ordered : IsTrue run.tells → IsOrdered run.texts task.order problem order
  pub bucketed : IsTrue run.tells → (file : List ℕ) → task.plan ≡ ByBuckets file
      → (buckets : List ℕ) × IsRead run.texts file (order_text problem.vars) (given_order buckets)
  pub wants : IsTrue run.tells → (file : List ℕ) → task.plan ≡ ByFile file
      → (taken_in run Schedule ≡ []) ⊎ WantsRead (schedule_wants problem) run.texts file (taken_in run Schedule)
  pub before_proof : run.after ProofOut ≡ run.before ProofOut

-- For deciding the formula that is asked for, once all of its texts were accepted and the proof's file was created.
pub record DecisionWantsMemory (run : Run) : Type 0 where
  pub given : GivesDecision run
  pub problem : Formula
  pub board : IsBoardAsked run problem
  pub asks : IsTrue run.tells → AsksFor run problem
  pub created : (run.after ProofOut).name ≢ None
  pub before_answer : run.after Out ≡ run.before Out

-- For judging a proof, once the formula was accepted: its text may want it, or none of it was taken yet; or it is verified, and `trim`
-- keeps what its refutation needs. Or for making an order.
pub record VerdictWantsMemory (run : Run) : Type 0 where
  pub asked : Command
  pub given : command run.words ≡ Some asked
  pub file : List ℕ
  pub named : name_given ProofIn asked ≡ Some file
  pub problem : Formula
  pub asks : IsTrue run.tells → AsksOver run asked (formula problem)
  pub wants : IsTrue run.tells → (bytes : List ℕ) × (run.texts file ≡ Some bytes)
      × (WantsProof (format_of asked) problem.clauses bytes (taken_in run ProofIn)
      ⊎ (GivesTrimming run × (verdict_in (format_of asked) problem.clauses bytes ≡ Some judgement.Verified)))
  pub before_answer : run.after Out ≡ run.before Out

pub record ArrangingWantsMemory (run : Run) : Type 0 where
  pub task : ToOrder
  pub given : command run.words ≡ Some (Arrange task)
  pub problem : Formula
  pub asks : IsTrue run.tells → AsksOver run (Arrange task) (formula problem)
  pub before_text : run.after Made ≡ run.before Made

-- For the cubes, whose text may want it, where the order is given too. Or for answering them, once all texts were accepted and the proof's
-- file was created.
pub record CubesWantMemory (run : Run) : Type 0 where
  pub task : ToAsk
  pub given : command run.words ≡ Some (Ask task)
  pub problem : Formula
  pub asks : IsTrue run.tells → AsksOver run (Ask task) (formula problem)
  pub order : List ℕ
  pub ordered : IsTrue run.tells → IsOrdered run.texts task.order problem order
  pub wants : IsTrue run.tells → WantsRead (cubes_wants problem.vars) run.texts task.cubes (taken_in run Cubes)
  pub before_proof : run.after ProofOut ≡ run.before ProofOut

pub record AnswersWantMemory (run : Run) : Type 0 where
  pub given : GivesAsk run
  pub problem : Formula
  pub order : List ℕ
  pub cubes : List (List ℤ)
  pub asks : IsTrue run.tells → AsksByCubes run problem order (given_cubes cubes)
  pub created : (run.after ProofOut).name ≢ None
  pub before_answer : run.after Out ≡ run.before Out

abbrev pub MemoryIsWanted : Run → Type 0
MemoryIsWanted run = IsIdle run ⊎ (FormulaWantsMemory run ⊎ (OrderWantsMemory run ⊎ (BucketsWantMemory run ⊎ (PlanWantsMemory run
    ⊎ (DecisionWantsMemory run ⊎ (VerdictWantsMemory run ⊎ (ArrangingWantsMemory run ⊎ (CubesWantMemory run ⊎ AnswersWantMemory run))))))))

-- Refusals, of words, or by help, only where they may mean that; of a text only where the words name it, its format refuses it, and
-- the texts before it were accepted. Want of memory only where it was wanted for what isn't decided.
abbrev pub IsDue : Run → Status → Type 0
IsDue run Sat = ⊤
IsDue run Unsat = ⊤
IsDue run (Unknown why) = ⊤
IsDue run Answered = ⊤
IsDue run Verified = ⊤
IsDue run (NotVerified line reason) = ⊤
IsDue run Done = ⊤
IsDue run Help = MayMean run.words AsksHelp
IsDue run Usage = MayMean run.words Misuse
IsDue run (CnfRefused kind line) = GivesFormula run × (IsTrue run.tells → IsRefusedBy run (refusal kind line))
IsDue run (OrderRefused kind line) = GivesOrder run × (IsTrue run.tells → OrderIsRefusedBy run (order_refusal kind line))
IsDue run (BucketsRefused kind line) = GivesBuckets run × (IsTrue run.tells → BucketsAreRefusedBy run (order_refusal kind line))
IsDue run (PlanRefused kind line) = GivesSchedule run × (IsTrue run.tells → ScheduleIsRefusedBy run (schedule_refusal kind line))
IsDue run (CubeRefused kind line) = GivesAsk run × (IsTrue run.tells → CubesAreRefusedBy run (cube_refusal kind line))
IsDue run (TooLong Cnf) = GivesFormula run × (IsTrue run.tells → IsRefusedBy run overlong)
IsDue run (TooLong Order) = GivesOrder run × (IsTrue run.tells → OrderIsRefusedBy run overlong_order)
IsDue run (TooLong Buckets) = GivesBuckets run × (IsTrue run.tells → BucketsAreRefusedBy run overlong_order)
IsDue run (TooLong Schedule) = GivesSchedule run × (IsTrue run.tells → ScheduleIsRefusedBy run overlong_schedule)
IsDue run (TooLong ProofIn) = GivesProof run × (IsTrue run.tells → IsLongProof run)
IsDue run (TooLong Cubes) = GivesAsk run × (IsTrue run.tells → CubesAreRefusedBy run overlong_cubes)
IsDue run (TooLong ProofOut) = ⊥
IsDue run (TooLong Made) = ⊥
IsDue run (TooLong Out) = ⊥
IsDue run (TooLong Err) = ⊥
IsDue run ReadFault = ⊤
IsDue run WriteFault = ⊤
IsDue run OutOfMemory = MemoryIsWanted run

abbrev pub RefusalsAreDue : Run → Type 0
RefusalsAreDue run = IsDue run run.status

-- what was found: the outcome of a formula, the verdict on a proof over one, or what a session of cubes over one comes to, by an order
pub data Finding : Type 0 where
  AnswerTo : Formula → Outcome → Finding
  VerdictOn : Formula → List ℕ → Verdict → Finding
  RepliesTo : Formula → List ℕ → List (List ℤ) → Replies → Finding

-- a true answer to the formula that the words ask for, after a flushed proof of whole lines
pub record IsAnswerTo (run : Run) (problem : Formula) (outcome : Outcome) : Type 0 where
  pub asked : AsksFor run problem
  pub holds : Holds (limits_given run) problem asked.order asked.moves (written_in run ProofOut) outcome
  pub proof : IsProof problem (limits_given run) (written_in run ProofOut)
  pub flushed : (run.after ProofOut).flushed ≡ length (run.after ProofOut).written

-- the verdict on the proof that the words name, by `drat` and `lrat` after the flushed converted proof, which is whole, and by `trim` after
-- the trimmed form of a verified one
pub record IsJudged (run : Run) (problem : Formula) (bytes : List ℕ) (judged : Verdict) : Type 0 where
  pub has : HasVerdict run problem bytes judged
  pub converted : (given : GivesConversion run) → IsConverted run given.0.into problem bytes judged
  pub trimmed : judged ≡ judgement.Verified → GivesTrimming run → IsTrimmed run problem bytes

-- true answers to the cubes that the words name, or a limit that was reached, after a flushed proof of whole lines
pub record AreRepliesTo (run : Run) (problem : Formula) (order : List ℕ) (cubes : List (List ℤ)) (found : Replies) : Type 0 where
  pub asked : AsksByCubes run problem order (given_cubes cubes)
  pub says : SaysOfCubes problem order cubes (limits_given run) found
  pub shows : ShowsOfCubes problem order cubes (limits_given run) (written_in run ProofOut) found
  pub proof : IsProof problem (limits_given run) (written_in run ProofOut)
  pub flushed : (run.after ProofOut).flushed ≡ length (run.after ProofOut).written

-- it is true, and is what the words ask for
abbrev pub IsFound : Run → Finding → Type 0
IsFound run (AnswerTo problem outcome) = IsAnswerTo run problem outcome
IsFound run (VerdictOn problem bytes judged) = IsJudged run problem bytes judged
IsFound run (RepliesTo problem order cubes found) = AreRepliesTo run problem order cubes found

abbrev pub text_found : Run → Finding → List ℕ
text_found run (AnswerTo problem outcome) = text_for run problem outcome
text_found run (VerdictOn problem bytes judged) = verdict_text_for run problem bytes judged
text_found run (RepliesTo problem order cubes found) = replies_text (limits_given run) found

abbrev pub status_found : Finding → Status
status_found (AnswerTo problem outcome) = status_of outcome
status_found (VerdictOn problem bytes judged) = status_of_verdict judged
status_found (RepliesTo problem order cubes found) = status_of_replies found

-- a true answer to the question that the words ask, as far as it was written
pub record IsTrueAnswer (run : Run) (finding : Finding) : Type 0 where
  pub found : IsFound run finding
  pub rest : List ℕ
  pub front : text_found run finding ≡ written_in run Out ++ rest

-- a text of help, or of the version, as far as it was written, for words that may ask for it
pub record IsHelp (run : Run) : Type 0 where
  pub due : MayMean run.words AsksHelp
  pub text : List ℕ
  pub rest : List ℕ
  pub front : text ≡ written_in run Out ++ rest

-- Standard output: nothing, or a front of a true answer's text, or, where help is asked for, of its text; the whole of
-- it and flushed, where the run ends with that answer or with help, and nothing, where it ends otherwise but for a
-- failed write.
pub record OutputStands (run : Run) : Type 0 where
  pub grows : IsTrue run.tells → (run.after Out).written ≡ (run.before Out).written ++ written_in run Out
  pub front : IsTrue run.tells → (written_in run Out ≡ []) ⊎ (((finding : Finding) × IsTrueAnswer run finding) ⊎ IsHelp run)
  pub answered : IsTrue (is_answer run.status) → IsTrue run.tells → (finding : Finding) × (true_answer : IsTrueAnswer run finding)
      × (run.status ≡ status_found finding) × (true_answer.rest ≡ [])
  pub helped : run.status ≡ Help → IsTrue run.tells → (help : IsHelp run) × (help.rest ≡ [])
  pub flushed : IsTrue (is_answer run.status) ⊎ (run.status ≡ Help) → IsTrue run.tells → (run.after Out).flushed
      ≡ length (run.after Out).written
  pub silent : IsFalse (is_answer run.status) → run.status ≢ Help → run.status ≢ WriteFault → IsTrue run.tells → written_in run Out ≡ []

-- What was said on standard error: notes of the progress, and reasons why the run ended so, all of them lines of comment, none where the
-- words ask for none, and no reasons where the run came to what it was asked for; and behind them a front of the status's text. Only where
-- a call of it failed the last note and the last reason may be cut short, and a rest of the text missing.
pub record IsSaid (run : Run) (notes reasons said : List ℕ) : Type 0 where
  pub written : written_in run Err ≡ notes ++ (reasons ++ said)
  pub unasked : IsFalse (progress_asked (command run.words)) → notes ≡ []
  pub unexplained : IsFalse (is_explained run.words run.status) → reasons ≡ []
  pub comments : IsTrue (are_comments_so_far notes)
  pub explanation : IsTrue (are_comments_so_far reasons)
  pub rest : List ℕ
  pub front : error_text run.status ≡ said ++ rest
  pub whole : (HasFault run Err → ⊥) → IsTrue (are_comments notes) × IsTrue (are_comments reasons) × (rest ≡ [])

-- Standard error: notes, reasons, and a front of the status's text, the whole of it and flushed where no call of it failed; no text for an
-- answer and for help.
pub record ErrorStands (run : Run) : Type 0 where
  pub grows : IsTrue run.tells → (run.after Err).written ≡ (run.before Err).written ++ written_in run Err
  pub said : IsTrue run.tells → (notes : List ℕ) × (reasons : List ℕ) × (said : List ℕ) × IsSaid run notes reasons said
  pub flushed : IsTrue run.tells → (HasFault run Err → ⊥) → (run.after Err).flushed ≡ length (run.after Err).written

-- The proof: nothing, or exactly the lines of good steps from the clauses of the formula that is asked for, whose deletions
-- name only live clauses that were added; no number in it is above the formula's and the greatest allowed, and no more
-- extension variables are in use than nodes are allowed. A front of one more such line may stand behind them only after
-- a failed write. However the run ends, it keeps within the price of the plan that is asked for, by its width: numbers, nodes
-- and live clauses.
pub record ProofStands (run : Run) : Type 0 where
  pub so_far : IsTrue run.tells → (written_in run ProofOut ≡ [])
      ⊎ ((problem : Formula) × AsksFor run problem × IsProofSoFar problem (limits_given run) (written_in run ProofOut))
  pub whole : run.status ≢ WriteFault → IsTrue run.tells → (written_in run ProofOut ≡ [])
      ⊎ ((problem : Formula) × AsksFor run problem × IsProof problem (limits_given run) (written_in run ProofOut))
  pub price : IsTrue run.tells → (written_in run ProofOut ≡ []) ⊎ ((problem : Formula) × (asked : AsksFor run problem)
      × ((width price : ℕ) → HasWidth problem asked.order asked.moves width → IsMovePrice problem.vars (limits_given run).cache width price
      → IsProofSoFarOfKind problem.clauses (IsPaidAs (parity_asked (command run.words)) problem (limits_given run) asked.moves width price)
      (written_in run ProofOut)))

-- The proof that `drat` or `lrat` writes: nothing, or, of `drat`, what the first lines of the proof become, in turn, by new names where the
-- words ask for them, and, of `lrat`, the lines of good steps from the formula's clauses. A front of one more line may stand behind it only
-- after a failed write.
pub record IsFrontOfConverted (run : Run) : Type 0 where
  pub task : ToConvert
  pub given : command run.words ≡ Some (Convert task)
  pub problem : Formula
  pub bytes : List ℕ
  pub asked : AsksToJudge run problem bytes
  pub front : IsFrontOfConversion task.into problem bytes (written_in run ProofOut)

pub record AreLinesOfConverted (run : Run) : Type 0 where
  pub task : ToConvert
  pub given : command run.words ≡ Some (Convert task)
  pub problem : Formula
  pub bytes : List ℕ
  pub asked : AsksToJudge run problem bytes
  pub lines : AreLinesOfConversion task.into problem bytes (written_in run ProofOut)

pub record ConversionStands (run : Run) : Type 0 where
  pub so_far : IsTrue run.tells → (written_in run ProofOut ≡ []) ⊎ IsFrontOfConverted run
  pub whole : run.status ≢ WriteFault → IsTrue run.tells → (written_in run ProofOut ≡ []) ⊎ AreLinesOfConverted run

-- The proof that `trim` writes: nothing, or the trimmed form of the proof that the words name, which is verified. Only after a failed write
-- is it a front of that.
pub record IsFrontOfTrimmed (run : Run) : Type 0 where
  pub problem : Formula
  pub bytes : List ℕ
  pub has : HasVerdict run problem bytes judgement.Verified
  pub rest : List ℕ
  pub front : trim problem.clauses bytes ≡ written_in run ProofOut ++ rest

pub record TrimStands (run : Run) : Type 0 where
  pub so_far : IsTrue run.tells → (written_in run ProofOut ≡ []) ⊎ IsFrontOfTrimmed run
  pub whole : run.status ≢ WriteFault → IsTrue run.tells → (written_in run ProofOut ≡ [])
      ⊎ ((trimmed : IsFrontOfTrimmed run) × (trimmed.rest ≡ []))

-- The proof that `ask` writes: nothing, or exactly the lines of good steps from the clauses of the formula that is asked for, within the
-- limits. A front of one more such line may stand behind them only after a failed write. However the run ends, its numbers keep within the
-- price of conjoining the clauses, one for each cube, and as many as the width once.
pub record AskStands (run : Run) : Type 0 where
  pub so_far : IsTrue run.tells → (written_in run ProofOut ≡ []) ⊎ ((problem : Formula) × (order : List ℕ) × (cubes : List (List ℤ))
      × AsksByCubes run problem order (given_cubes cubes) × IsProofSoFar problem (limits_given run) (written_in run ProofOut))
  pub whole : run.status ≢ WriteFault → IsTrue run.tells → (written_in run ProofOut ≡ [])
      ⊎ ((problem : Formula) × (order : List ℕ) × (cubes : List (List ℤ)) × AsksByCubes run problem order (given_cubes cubes)
      × IsProof problem (limits_given run) (written_in run ProofOut))
  pub price : IsTrue run.tells → (written_in run ProofOut ≡ []) ⊎ ((problem : Formula) × (order : List ℕ) × (cubes : List (List ℤ))
      × AsksByCubes run problem order (given_cubes cubes) × ((width price : ℕ) → HasWidth problem order (plan_of problem) width
      → IsMovePrice problem.vars (limits_given run).cache width price
      → IsProofSoFarOfKind problem.clauses (IsPaid problem cubes width price) (written_in run ProofOut)))

-- what stands in a written proof: of `drat` and `lrat`, of `trim`, of `ask`, and of every other command
pub record WrittenStands (run : Run) : Type 0 where
  pub converted : GivesConversion run → ConversionStands run
  pub trimmed : GivesTrimming run → TrimStands run
  pub asked : GivesAsk run → AskStands run
  pub proved : (GivesConversion run → ⊥) → (GivesTrimming run → ⊥) → (GivesAsk run → ⊥) → ProofStands run

-- a status with which a run ends that creates no file, or before it does; but `drat` and `lrat` create their own before they read the
-- proof, and `trim` once that is verified
abbrev pub ends_before_proof : Status → Bool
ends_before_proof Sat = false
ends_before_proof Unsat = false
ends_before_proof (Unknown why) = false
ends_before_proof Answered = false
ends_before_proof Verified = true
ends_before_proof (NotVerified line reason) = true
ends_before_proof Done = true
ends_before_proof Help = true
ends_before_proof Usage = true
ends_before_proof (CnfRefused kind line) = true
ends_before_proof (OrderRefused kind line) = true
ends_before_proof (BucketsRefused kind line) = true
ends_before_proof (PlanRefused kind line) = true
ends_before_proof (CubeRefused kind line) = true
ends_before_proof (TooLong role) = true
ends_before_proof ReadFault = true
ends_before_proof WriteFault = false
ends_before_proof OutOfMemory = false

-- Names: a role has none, or the one that the words give it. Files: none changed but the proof's, which is created only
-- once all reading is over and all texts were accepted, however the run ends, and the made one, which is created only
-- where its text was written or a call of it failed. `drat` and `lrat` create their proof once the formula was accepted and the proof
-- opened, `trim` once the proof is verified; from then on only a failed write ends it otherwise than with that verdict, and the core's file
-- is made behind the trimmed proof, so that it has its name where `trim` ends with 'verified', too.
pub record NamesAreGiven (run : Run) : Type 0 where
  pub names : (role : Role) → ((run.after role).name ≡ None) ⊎ ((asked : Command) × (command run.words ≡ Some asked)
      × ((run.after role).name ≡ name_given role asked))
  pub files : (file : List ℕ) → (run.after ProofOut).name ≢ Some file → (run.after Made).name ≢ Some file → run.files_after file
      ≡ run.files file
  pub read_first : IsTrue (ends_before_proof run.status) → ((run.after ProofOut).name ≡ None) ⊎ (ConvertsAsItReads run
      ⊎ (GivesTrimming run × (run.status ≡ Verified)))
  pub accepted : (run.after ProofOut).name ≢ None → (GivesDecision run × (IsTrue run.tells → (problem : Formula) × AsksFor run problem))
      ⊎ ((GivesConversion run × (IsTrue run.tells → AsksToConvert run))
      ⊎ ((GivesTrimming run × (IsTrue run.tells → (problem : Formula) × (bytes : List ℕ) × HasVerdict run problem bytes judgement.Verified))
      ⊎ (GivesAsk run × (IsTrue run.tells → (problem : Formula) × (order : List ℕ) × (cubes : List (List ℤ))
      × AsksByCubes run problem order (given_cubes cubes)))))
  pub opened : (run.after ProofOut).name ≢ None → GivesConversion run → (run.after ProofIn).name ≢ None
  pub trimmed : (run.after ProofOut).name ≢ None → GivesTrimming run → (run.status ≡ Verified) ⊎ (run.status ≡ WriteFault)
  pub made : (run.after Made).name ≢ None → (run.status ≡ Done)
      ⊎ ((run.status ≡ WriteFault) ⊎ (GivesTrimming run × (run.status ≡ Verified)))

-- The words and the texts call for this refusal: it is that of the first text in turn that isn't accepted.
abbrev pub CallsFor : Run → Status → Type 0
CallsFor run Sat = ⊥
CallsFor run Unsat = ⊥
CallsFor run (Unknown why) = ⊥
CallsFor run Answered = ⊥
CallsFor run Verified = ⊥
CallsFor run (NotVerified line reason) = ⊥
CallsFor run Done = ⊥
CallsFor run Help = ⊥
CallsFor run Usage = ⊥
CallsFor run (CnfRefused kind line) = (asked : Command) × AsksOver run asked (refusal kind line)
CallsFor run (OrderRefused kind line) = (problem : Formula) × AsksByOrder run problem (order_refusal kind line)
CallsFor run (BucketsRefused kind line) = (problem : Formula) × AsksByBuckets run problem (order_refusal kind line)
CallsFor run (PlanRefused kind line) = (problem : Formula) × AsksBySchedule run problem (schedule_refusal kind line)
CallsFor run (CubeRefused kind line) = (problem : Formula) × (order : List ℕ) × AsksByCubes run problem order (cube_refusal kind line)
CallsFor run (TooLong Cnf) = (asked : Command) × AsksOver run asked overlong
CallsFor run (TooLong Order) = (problem : Formula) × AsksByOrder run problem overlong_order
CallsFor run (TooLong Buckets) = (problem : Formula) × AsksByBuckets run problem overlong_order
CallsFor run (TooLong Schedule) = (problem : Formula) × AsksBySchedule run problem overlong_schedule
CallsFor run (TooLong ProofIn) = (problem : Formula) × (bytes : List ℕ) × (asks : AsksToJudge run problem bytes)
    × (verdict_in (format_of asks.asked) problem.clauses bytes ≡ None)
CallsFor run (TooLong Cubes) = (problem : Formula) × (order : List ℕ) × AsksByCubes run problem order overlong_cubes
CallsFor run (TooLong ProofOut) = ⊥
CallsFor run (TooLong Made) = ⊥
CallsFor run (TooLong Out) = ⊥
CallsFor run (TooLong Err) = ⊥
CallsFor run ReadFault = ⊥
CallsFor run WriteFault = ⊥
CallsFor run OutOfMemory = ⊥

-- Complete: what is asked for is answered, unless a call of the host failed or memory ran out; a text that isn't accepted
-- is refused, unless a read failed or memory ran out, or, where it is a proof that is converted, a write failed; words that can mean
-- nothing else are refused, or answered by help, and words that give no command by one of both.
pub record IsComplete (run : Run) : Type 0 where
  pub misused : CanOnlyMean run.words Misuse → (run.status ≡ Usage) ⊎ (run.status ≡ OutOfMemory)
  pub helped : CanOnlyMean run.words AsksHelp → (HasFault run Out → ⊥) → (run.status ≡ Help) ⊎ (run.status ≡ OutOfMemory)
  pub unasked : command run.words ≡ None → (HasFault run Out → ⊥) → (run.status ≡ Usage)
      ⊎ ((run.status ≡ Help) ⊎ (run.status ≡ OutOfMemory))
  pub answers : (problem : Formula) → AsksFor run problem → IsTrue run.tells → IsUnharmed run → IsTrue (is_answer run.status)
      ⊎ (run.status ≡ OutOfMemory)
  pub replies : (problem : Formula) (order : List ℕ) (cubes : List (List ℤ)) → AsksByCubes run problem order (given_cubes cubes)
      → IsTrue run.tells → IsUnharmed run → IsTrue (is_answer run.status) ⊎ (run.status ≡ OutOfMemory)
  pub judges : (problem : Formula) (bytes : List ℕ) (judged : Verdict) → HasVerdict run problem bytes judged → IsTrue run.tells
      → IsUnharmed run
      → (run.status ≡ status_of_verdict judged) ⊎ (run.status ≡ OutOfMemory)
  pub makes : GivesMake run → IsUnharmed run → (run.status ≡ Done) ⊎ (run.status ≡ OutOfMemory)
  pub arranges : (task : ToOrder) (problem : Formula) → AsksOver run (Arrange task) (formula problem) → IsTrue run.tells → IsUnharmed run
      → (run.status ≡ Done) ⊎ (run.status ≡ OutOfMemory)
  pub refuses : (status : Status) → CallsFor run status → IsTrue run.tells → (InputFailed run → ⊥)
      → (status ≡ TooLong ProofIn → GivesConversion run → OutputFailed run → ⊥) → (run.status ≡ status) ⊎ (run.status ≡ OutOfMemory)

-- All that the program promises of a run.
pub record Promises (run : Run) : Type 0 where
  pub unsatisfiable : UnsatisfiableIsProved run
  pub satisfiable : SatisfiableIsTrue run
  pub undecided : LimitsAreReached run
  pub answered : CubesAreAnswered run
  pub verdict : VerdictIsTrue run
  pub made : TextIsMade run
  pub made_file : MadeStands run
  pub refusals : RefusalsAreDue run
  pub faults : FaultsAreCounted run
  pub failures : FailuresAreTold run
  pub output : OutputStands run
  pub error : ErrorStands run
  pub proof : WrittenStands run
  pub names : NamesAreGiven run
  pub complete : IsComplete run
