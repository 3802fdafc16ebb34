-- The parts of a run, each over the one role that it serves.
use Rattle.std.specs.Prelude.{◌≡◌, ◌≢◌, ◌⊎◌, ◌≤◌, ◌++◌, ℕ, Bool, true, false, List, [], Option, None, Some, Result, Ok, Err, length, IsTrue}
use Rattle.std.specs.Prelude.{IsOk, IsErr, ◌-◌}
use Rattle.std.specs.Prelude.{IfOk, IfErr, ℤ, ⊤}
use Rattle.cnf_base.specs.Formula.{Formula, IsFormula}
use Rattle.host_io.specs.declared.source.Failed.{Failed}
use Rattle.host_io.specs.Channel.{Channel, Leaves, MayFollow, Rose}
use Rattle.host_io.specs.Files.{Files, Texts}
use Rattle.cnf_base.specs.Limits.{max_bytes}
use Rattle.text_scan.specs.Decides.{gained, Fits}
use Rattle.text_scan.specs.Items.{items}
use Rattle.dimacs_reader.specs.Cnf.{overlong as unread_cnf, cnf, cnf_so_far}
use Rattle.dimacs_reader.specs.Answers.{Answers as CnfAnswers, WantsMemory as CnfWantsMemory}
use Rattle.dimacs_reader.specs.declared.mode.Mode.{Mode}
use Rattle.dimacs_reader.specs.declared.error.CnfError.{CnfError}
use Rattle.dimacs_reader.specs.declared.error.CnfError.TheVariants.{ReadFault as CnfReadFault, OutOfMemory as CnfOutOfMemory}
use Rattle.proof_judging.specs.Verdict.{Answers}
use Rattle.proof_judging.specs.declared.verdict.Verdict.{Verdict}
use Rattle.proof_judging.specs.declared.verdict.CheckError.{CheckError}
use Rattle.proof_judging.specs.declared.verdict.CheckError.TheVariants.{ReadFault as CheckReadFault, OutOfMemory as CheckOutOfMemory}
use Rattle.cnf_base.specs.Order.{natural as natural_order}
use Rattle.schedule_plan.specs.OrderText.{overlong as unread_order, order_text, order_so_far}
use Rattle.schedule_plan.specs.OrderReader.{Answers as OrderAnswers, WantsMemory as OrderWantsMemory}
use Rattle.schedule_plan.specs.ScheduleText.{overlong as unread_schedule, schedule, schedule_so_far}
use Rattle.schedule_plan.specs.ScheduleState.{Answers as ScheduleAnswers}
use Rattle.schedule_plan.specs.ScheduleMemory.{may_want_memory}
use Rattle.schedule_plan.specs.declared.order_error.OrderError.{OrderError}
use Rattle.schedule_plan.specs.declared.order_error.OrderError.TheVariants.{ReadFault as OrderReadFault, OutOfMemory as OrderOutOfMemory}
use Rattle.schedule_plan.specs.declared.schedule.error.PlanError.{PlanError}
use Rattle.schedule_plan.specs.declared.schedule.error.PlanError.TheVariants.{ReadFault as PlanReadFault, OutOfMemory as PlanOutOfMemory}
use Rattle.cube_text.specs.CubeText.{AreCubes, overlong as unread_cubes, cube_text, cubes_so_far}
use Rattle.cube_text.specs.CubeReader.{Answers as CubeAnswers, WantsMemory as CubesWantMemory}
use Rattle.cube_text.specs.declared.error.CubeError.{CubeError}
use Rattle.cube_text.specs.declared.error.CubeError.TheVariants.{ReadFault as CubesReadFault, OutOfMemory as CubesOutOfMemory}
use Rattle.schedule_plan.specs.Plan.{IsAdmissible}
use Rattle.schedule_plan.specs.declared.plan.Move.{Move}
use Rattle.command_line.specs.declared.format.ProofFormat.{ProofFormat}
use Rattle.command_line.specs.declared.plan.PlanName.{PlanName}
use Rattle.command_line.specs.Command.{Planned, ByName, ByFile, ByBuckets, Found}
use Rattle.schedule_plan.specs.Bucket.{bucket}
use Rattle.solver_cli.specs.Answer.{AreFound, IsOrderOf, last_identifier, moves_of_plan}
use Rattle.solver_cli.specs.declared.basis.Basis.{Basis}
use Rattle.solver_cli.specs.Format.{may_want_memory_in, so_far_in, verdict_in}
use Rattle.solver_cli.specs.Sums.{AreAmpleAs, IsPaidAs, NeedsSums}
use Rattle.schedule_plan.specs.declared.limits.Limits.{Limits}
use Rattle.term_runner.specs.Ends.{Says, Shows}
use Rattle.term_runner.specs.Price.{IsDecision}
use Rattle.bdd_terms.specs.Price.{IsMovePrice}
use Rattle.term_runner.specs.Proofs.{IsProof, IsProofSoFar, IsProofSoFarOfKind}
use Rattle.term_runner.specs.Width.{HasWidth, HasWidthWith, keeps_trail}
use Rattle.term_runner.specs.declared.outcome.Run.{Run as Ending}
use Rattle.term_runner.specs.declared.outcome.Outcome.TheVariants.{NodeLimit}
use Rattle.bdd_terms.specs.declared.error.RunError.{RunError}
use Rattle.bdd_terms.specs.declared.error.RunError.TheVariants.{WriteFault as Torn}
use Rattle.solver_cli.specs.ErrorText.{error_text}
use Rattle.solver_cli.specs.declared.status.Status.{Status}

-- A text was read: the answer is that of the whole text that stands in the file of this name, and already that of the
-- bytes taken.
pub record ReadsText {Text R : Type 0} (whole : List ℕ → Text) (answers : R → Text
    → Type 0) (texts : Texts) (file taken : List ℕ) (result : R) : Type 0 where
  pub bytes : List ℕ
  pub stands : texts file ≡ Some bytes
  pub told : answers result (whole bytes)
  pub decided : answers result (whole taken)

-- Memory was wanted for a text: at a place of the whole that stands in the file of this name, and already of the bytes taken. The place is
-- near their end: so many bytes of the text follow them.
pub record WantsRead (wants : ℕ → List ℕ → Type 0) (texts : Texts) (file taken : List ℕ) : Type 0 where
  pub bytes : List ℕ
  pub stands : texts file ≡ Some bytes
  pub whole : wants (length bytes - length taken) bytes
  pub front : wants 0 taken

-- Where reading a text may want memory: whether it may before the first byte, the answer that says so, and the texts that may, where so
-- many of their bytes follow those taken.
pub record Wanting (E : Type 0) : Type 1 where
  pub early : Bool
  pub answer : E
  pub texts : ℕ → List ℕ → Type 0

-- The text of an opened file was read: the answer is that of the bytes taken with whatever may follow them. `whole` is what a text is,
-- `so_far` what its front decides, `unread` where that is nothing yet; `answers` says which answers a text allows, `fit` what is promised
-- of a value that was read, and `fault` is the answer where a call on the file failed. Then the bytes taken decide nothing yet. Memory was
-- wanted only where the text may want it.
pub record ReadsOpened {Text T E : Type 0} (whole so_far : List ℕ → Text) (unread : Text) (answers : Result T E → Text → Type 0) (fit : T
    → Type 0) (fault : E) (wanting : Wanting E)
    (tells : Bool) (old new : Channel) (result : Result T E) : Type 0 where
  pub left : IsTrue tells → Leaves old.left (gained old new) new.left
  pub told : IsTrue tells → (more : List ℕ) → MayFollow new more → answers result (whole (gained old new ++ more))
  pub fits : IfOk result fit
  pub failed : result ≡ Err fault → Rose old.faults new.faults
  pub unfailed : result ≢ Err fault → new.faults ≡ old.faults
  pub undecided : IsTrue tells → result ≡ Err fault → so_far (gained old new) ≡ unread
  pub memory : IsTrue tells → result ≡ Err wanting.answer → (IsTrue wanting.early × (gained old new ≡ []))
      ⊎ ((more : List ℕ) → MayFollow new more → wanting.texts (length more) (gained old new ++ more))
  pub written : new.written ≡ old.written
  pub name : new.name ≡ old.name
  pub faults : old.faults ≤ new.faults

-- The same of a file that was opened for it: the answer is that of each content of the file that agrees with what the host tells of it,
-- and with the bytes taken.
pub record TakesText {Text T E : Type 0} (whole so_far : List ℕ → Text) (unread : Text) (answers : Result T E → Text → Type 0) (fit : T
    → Type 0) (fault : E) (wanting : Wanting E)
    (tells : Bool) (old new : Channel) (files : Files) (file : List ℕ) (result : Result T E) : Type 0 where
  pub read : IsTrue tells → (result ≡ Err fault)
      ⊎ ((texts : Texts) → Fits files old new file texts → ReadsText whole answers texts file (gained old new) result)
  pub fits : IfOk result fit
  pub failed : result ≡ Err fault → Rose old.faults new.faults
  pub unfailed : result ≢ Err fault → new.faults ≡ old.faults
  pub undecided : IsTrue tells → result ≡ Err fault → so_far (gained old new) ≡ unread
  pub memory : IsTrue tells → result ≡ Err wanting.answer → (IsTrue wanting.early × (gained old new ≡ []))
      ⊎ ((texts : Texts) → Fits files old new file texts → WantsRead wanting.texts texts file (gained old new))
  pub written : new.written ≡ old.written
  pub name : (new.name ≡ Some file) ⊎ (new.name ≡ None)
  pub faults : old.faults ≤ new.faults

-- which texts of a formula in a mode may want memory, of an order of so many variables, of cubes over them, and of a schedule, where so
-- many of their bytes follow those taken (99 is `c`, 35 `#`)
abbrev pub cnf_wants : Mode → ℕ → List ℕ → Type 0
cnf_wants mode more bytes = CnfWantsMemory mode more (items 99 max_bytes bytes)

abbrev pub order_wants : ℕ → ℕ → List ℕ → Type 0
order_wants vars more bytes = OrderWantsMemory vars more (items 35 max_bytes bytes)

abbrev pub cubes_wants : ℕ → ℕ → List ℕ → Type 0
cubes_wants vars more bytes = CubesWantMemory vars more (items 35 max_bytes bytes)

abbrev pub schedule_wants : Formula → ℕ → List ℕ → Type 0
schedule_wants problem more bytes = IsTrue (may_want_memory problem more bytes)

-- reading a schedule may want memory for what is kept of its formula, before the first byte
abbrev pub cnf_wanting : Mode → Wanting CnfError
cnf_wanting mode = record { early = false; answer = CnfOutOfMemory; texts = cnf_wants mode }

abbrev pub order_wanting : ℕ → Wanting OrderError
order_wanting vars = record { early = false; answer = OrderOutOfMemory; texts = order_wants vars }

abbrev pub cubes_wanting : ℕ → Wanting CubeError
cubes_wanting vars = record { early = false; answer = CubesOutOfMemory; texts = cubes_wants vars }

abbrev pub schedule_wanting : Formula → Wanting PlanError
schedule_wanting problem = record { early = true; answer = PlanOutOfMemory; texts = schedule_wants problem }

-- the three texts that a formula is decided by: its own in a mode, and those of an order of its variables and of a schedule
abbrev pub ReadsFormula : Mode → Bool → Channel → Channel → Result Formula CnfError → Type 0
ReadsFormula mode = ReadsOpened (cnf mode) (cnf_so_far mode) unread_cnf CnfAnswers IsFormula CnfReadFault (cnf_wanting mode)

abbrev pub TakesFormula : Mode → Bool → Channel → Channel → Files → List ℕ → Result Formula CnfError → Type 0
TakesFormula mode = TakesText (cnf mode) (cnf_so_far mode) unread_cnf CnfAnswers IsFormula CnfReadFault (cnf_wanting mode)

abbrev pub ReadsOrder : ℕ → Bool → Channel → Channel → Result (List ℕ) OrderError → Type 0
ReadsOrder vars = ReadsOpened (order_text vars) (order_so_far vars) unread_order OrderAnswers (IsOrderOf vars) OrderReadFault
    (order_wanting vars)

abbrev pub TakesOrder : ℕ → Bool → Channel → Channel → Files → List ℕ → Result (List ℕ) OrderError → Type 0
TakesOrder vars = TakesText (order_text vars) (order_so_far vars) unread_order OrderAnswers (IsOrderOf vars) OrderReadFault
    (order_wanting vars)

abbrev pub ReadsSchedule : Formula → Bool → Channel → Channel → Result (List Move) PlanError → Type 0
ReadsSchedule problem = ReadsOpened (schedule problem) (schedule_so_far problem) unread_schedule ScheduleAnswers
    (IsAdmissible problem) PlanReadFault (schedule_wanting problem)

abbrev pub TakesSchedule : Formula → Bool → Channel → Channel → Files → List ℕ → Result (List Move) PlanError → Type 0
TakesSchedule problem = TakesText (schedule problem) (schedule_so_far problem) unread_schedule ScheduleAnswers
    (IsAdmissible problem) PlanReadFault (schedule_wanting problem)

-- and the text of cubes over the formula's variables
abbrev pub ReadsCubes : ℕ → Bool → Channel → Channel → Result (List (List ℤ)) CubeError → Type 0
ReadsCubes vars = ReadsOpened (cube_text vars) (cubes_so_far vars) unread_cubes CubeAnswers (AreCubes vars) CubesReadFault
    (cubes_wanting vars)

abbrev pub TakesCubes : ℕ → Bool → Channel → Channel → Files → List ℕ → Result (List (List ℤ)) CubeError → Type 0
TakesCubes vars = TakesText (cube_text vars) (cubes_so_far vars) unread_cubes CubeAnswers (AreCubes vars) CubesReadFault
    (cubes_wanting vars)

-- A value was made without a file, unless memory ran out.
pub record Makes {T E : Type 0} (value : T) (memory : E) (old new : Channel) (result : Result T E) : Type 0 where
  pub made : IfOk result (λ made. made ≡ value)
  pub refused : IfErr result (λ error. error ≡ memory)
  pub same : new ≡ old

-- The order was had: that of the named file, or without one the natural order.
pub record HasOrder (vars : ℕ) (asked : Option (List ℕ)) (tells : Bool) (old new : Channel) (files : Files)
    (result : Result (List ℕ) OrderError) : Type 0 where
  pub natural : asked ≡ None → Makes (natural_order vars) OrderOutOfMemory old new result
  pub named : (file : List ℕ) → asked ≡ Some file → TakesOrder vars tells old new files file result

-- the order in a file by which the buckets are formed, where the words name one
abbrev pub buckets_file : Planned → Option (List ℕ)
buckets_file (ByName name) = None
buckets_file (ByFile file) = None
buckets_file (ByBuckets file) = Some file
buckets_file Found = None

-- an order that was read, as one that may be missing
abbrev pub as_some : Result (List ℕ) OrderError → Result (Option (List ℕ)) OrderError
as_some (Ok order) = Ok (Some order)
as_some (Err error) = Err error

-- The order of the buckets was had: none, or that of the named file.
pub record HasBuckets (vars : ℕ) (asked : Option (List ℕ)) (tells : Bool) (old new : Channel) (files : Files)
    (result : Result (Option (List ℕ)) OrderError) : Type 0 where
  pub none : asked ≡ None → (result ≡ Ok None) × (new ≡ old)
  pub named : (file : List ℕ) → asked ≡ Some file → (read : Result (List ℕ) OrderError) × TakesOrder vars tells old new files file read
      × (result ≡ as_some read)

-- the moves of an order and moves
abbrev pub moves_in : Result Basis PlanError → Result (List Move) PlanError
moves_in (Ok basis) = Ok basis.plan
moves_in (Err error) = Err error

-- an order and moves
abbrev pub basis_of : List ℕ → List Move → Basis
basis_of order moves = record { order = order; plan = moves }

-- Orders were found by trials, unless memory ran out.
pub record Finds (problem : Formula) (old new : Channel) (result : Result Basis PlanError) : Type 0 where
  pub found : IfOk result (λ basis. AreFound problem basis.order basis.plan)
  pub refused : IfErr result (λ error. error ≡ PlanOutOfMemory)
  pub same : new ≡ old

-- the plan of the schedule in the file of this name was had, beside the given order
pub record Schedules (problem : Formula) (given : List ℕ) (tells : Bool) (old new : Channel) (files : Files) (file : List ℕ)
    (result : Result Basis PlanError) : Type 0 where
  pub order : IfOk result (λ basis. basis.order ≡ given)
  pub takes : TakesSchedule problem tells old new files file (moves_in result)

-- The bucket plan by the order of the buckets was made, beside the given order of the diagrams, unless memory ran out.
pub record MakesByBuckets (problem : Formula) (given : List ℕ) (buckets : Option (List ℕ)) (old new : Channel)
    (result : Result Basis PlanError) : Type 0 where
  pub made : (order : List ℕ) → buckets ≡ Some order → IfOk result (λ basis. basis ≡ basis_of given (bucket problem order))
  pub refused : IfErr result (λ error. error ≡ PlanOutOfMemory)
  pub same : new ≡ old

-- The order of the diagrams and the plan were had: the given order, and the plan of the given name over it, that of the schedule in the
-- named file, or the bucket plan by the order of the buckets; or both were found.
pub record HasPlan (problem : Formula) (given : List ℕ) (buckets : Option (List ℕ)) (asked : Planned) (tells : Bool) (old new : Channel)
    (files : Files) (result : Result Basis PlanError) : Type 0 where
  pub named : (name : PlanName) → asked ≡ ByName name
      → Makes (basis_of given (moves_of_plan name problem given)) PlanOutOfMemory old new result
  pub scheduled : (file : List ℕ) → asked ≡ ByFile file → Schedules problem given tells old new files file result
  pub bucketed : (file : List ℕ) → asked ≡ ByBuckets file → MakesByBuckets problem given buckets old new result
  pub found : asked ≡ Found → Finds problem old new result

-- Memory was wanted for a proof: before its first byte was taken, or at a place of the whole text, and already of the bytes taken.
abbrev pub WantsProof : ProofFormat → List (List ℤ) → List ℕ → List ℕ → Type 0
WantsProof format clauses bytes taken = (taken ≡ [])
    ⊎ (IsTrue (may_want_memory_in format clauses (length bytes - length taken) bytes) × IsTrue (may_want_memory_in format clauses 0 taken))

-- The answer of the check is the verdict, in its format, of the bytes taken of an opened proof's file with whatever may follow them; where
-- a call on it failed, these decide nothing yet.
pub record ChecksProof (format : ProofFormat) (tells : Bool) (old new : Channel) (clauses : List (List ℤ))
    (result : Result Verdict CheckError) : Type 0 where
  pub left : IsTrue tells → Leaves old.left (gained old new) new.left
  pub judged : IsTrue tells → (more : List ℕ) → MayFollow new more → Answers result (verdict_in format clauses (gained old new ++ more))
  pub fault : result ≡ Err CheckReadFault → Rose old.faults new.faults
  pub unfailed : result ≢ Err CheckReadFault → new.faults ≡ old.faults
  pub undecided : IsTrue tells → result ≡ Err CheckReadFault → so_far_in format clauses (gained old new) ≡ None
  pub memory : IsTrue tells → result ≡ Err CheckOutOfMemory → (more : List ℕ) → MayFollow new more
      → WantsProof format clauses (gained old new ++ more) (gained old new)
  pub written : new.written ≡ old.written
  pub name : new.name ≡ old.name
  pub faults : old.faults ≤ new.faults

-- what the file of this name holds was judged
pub record JudgesText (format : ProofFormat) (texts : Texts) (file : List ℕ) (clauses : List (List ℤ)) (taken : List ℕ)
    (result : Result Verdict CheckError) : Type 0 where
  pub bytes : List ℕ
  pub stands : texts file ≡ Some bytes
  pub judged : Answers result (verdict_in format clauses bytes)
  pub decided : Answers result (verdict_in format clauses taken)
  pub memory : result ≡ Err CheckOutOfMemory → WantsProof format clauses bytes taken

-- the proof's file was opened, and its text judged
pub record JudgesProof (format : ProofFormat) (tells : Bool) (old new : Channel) (files : Files) (file : List ℕ)
    (clauses : List (List ℤ)) (result : Result Verdict CheckError) : Type 0 where
  pub read : IsTrue tells → (result ≡ Err CheckReadFault)
      ⊎ ((texts : Texts) → Fits files old new file texts → JudgesText format texts file clauses (gained old new) result)
  pub fault : result ≡ Err CheckReadFault → Rose old.faults new.faults
  pub unfailed : result ≢ Err CheckReadFault → new.faults ≡ old.faults
  pub undecided : IsTrue tells → result ≡ Err CheckReadFault → so_far_in format clauses (gained old new) ≡ None
  pub written : new.written ≡ old.written
  pub name : (new.name ≡ Some file) ⊎ (new.name ≡ None)
  pub faults : old.faults ≤ new.faults

-- a call that writes keeps the name, and counts
pub record OnlyWritten (old new : Channel) : Type 0 where
  pub name : new.name ≡ old.name
  pub faults : old.faults ≤ new.faults

-- A formula was decided, and its proof written: exactly the lines of good steps, within the limits, flushed where the
-- formula was decided; a line that is cut short only after a failed write. It keeps within what the plan's width needs, and the sums of its
-- parity equations, where these are added up first.
-- The greatest identifier, which `bench` prints, is the ledger's, and that to which the bytes lead (`Ends.last`): so no proof is read back.
pub record WritesProof (parity tells : Bool) (old new : Channel) (problem : Formula) (order : List ℕ) (moves : List Move) (limits : Limits)
    (result : Result Ending RunError) : Type 0 where
  pub says : IfOk result (λ ending. Says problem order moves limits ending.outcome)
  pub certain : (width price : ℕ) → HasWidthWith (keeps_trail limits.max_nodes) problem order moves width
      → IsMovePrice problem.vars limits.cache width price
      → AreAmpleAs parity limits problem moves width price → IfOk result (λ ending. IsDecision ending.outcome)
  pub shows : IsTrue tells → IfOk result (λ ending. Shows problem limits new.written ending.outcome)
  pub last : IsTrue tells → IfOk result (λ ending. ending.last_id ≡ last_identifier problem.clauses new.written)
  pub whole : result ≢ Err Torn → IsTrue tells → IsProof problem limits new.written
  pub so_far : IsTrue tells → IsProofSoFar problem limits new.written
  pub price : (width price : ℕ) → HasWidth problem order moves width → IsMovePrice problem.vars limits.cache width price → IsTrue tells
      → IsProofSoFarOfKind problem.clauses (IsPaidAs parity problem limits moves width price) new.written
  pub conflict : IsTrue parity → IfOk result (λ ending. ending.outcome ≡ NodeLimit → NeedsSums limits problem)
  pub flushed : IsOk result → IsTrue tells → new.flushed ≡ length new.written
  pub fault : result ≡ Err Torn → Rose old.faults new.faults
  pub unfailed : result ≢ Err Torn → new.faults ≡ old.faults
  pub only : OnlyWritten old new

-- The status's text was written on standard error and flushed, or, where a call failed, a front of it was written.
pub record Complains (tells : Bool) (old new : Channel) (status : Status) : Type 0 where
  pub written : IsTrue tells → (part : List ℕ) × (rest : List ℕ) × (new.written ≡ old.written ++ part) × (error_text status ≡ part ++ rest)
      × ((Rose old.faults new.faults → ⊥) → rest ≡ [])
  pub flushed : IsTrue tells → (Rose old.faults new.faults → ⊥) → new.flushed ≡ length new.written
  pub only : OnlyWritten old new

-- The text was written and flushed, or a front of it where a write or the flush failed.
pub record PutsText (tells : Bool) (old new : Channel) (text : List ℕ) (result : Result ⊤ Failed) : Type 0 where
  pub done : IsTrue tells → IsOk result → new.written ≡ old.written ++ text
  pub flushed : IsTrue tells → IsOk result → new.flushed ≡ length new.written
  pub front : IsTrue tells → (part : List ℕ) × (rest : List ℕ) × (new.written ≡ old.written ++ part) × (text ≡ part ++ rest)
  pub fault : IsErr result → Rose old.faults new.faults
  pub unfailed : IsOk result → new.faults ≡ old.faults
  pub only : OnlyWritten old new
