-- What the words and the texts call for: the refusal of the first text in turn that isn't accepted, or none.
use Rattle.std.proofs.Common.{◌≡◌, ℕ, ℤ, List, refl, sym, ap, ap₂, ◌∙◌, Some, None}
use Rattle.std.specs.Prelude.{Option}
use Rattle.cnf_base.specs.Formula.{Formula}
use Rattle.host_io.specs.Files.{Texts}
use Rattle.host_io.specs.declared.role.Role.TheVariants.{Cnf, Order, Buckets, Schedule, ProofIn, Cubes, ProofOut, Made, Out, Err}
use Rattle.dimacs_reader.specs.Cnf.{CnfText, formula, refusal, overlong, cnf}
use Rattle.proof_judging.specs.declared.verdict.Verdict.{Verdict}
use Rattle.cnf_base.specs.Order.{natural}
use Rattle.cube_text.specs.CubeText.{CubeText, cube_text, cubes as given_cubes, refusal as cube_refusal, overlong as overlong_cubes}
use Rattle.schedule_plan.specs.OrderText.{OrderText, order as given_order, refusal as order_refusal, overlong as overlong_order, order_text}
use Rattle.schedule_plan.specs.ScheduleText.{ScheduleText, plan as given_plan, refusal as schedule_refusal, overlong as overlong_schedule}
use Rattle.schedule_plan.specs.ScheduleText.{schedule}
use Rattle.schedule_plan.specs.declared.plan.Move.{Move}
use Rattle.command_line.specs.declared.format.ProofFormat.{ProofFormat}
use Rattle.command_line.specs.declared.format.ProofFormat.TheVariants.{Lrat}
use Rattle.command_line.specs.Command.{Command, ToOrder, ToConvert, Solve, Check, Bench, Make, Arrange, Ask, Convert, Planned, ByName}
use Rattle.command_line.specs.Command.{ByFile}
use Rattle.command_line.specs.Command.{ByBuckets, Found, Trim}
use Rattle.command_line.specs.Command.{command, format_before, format_of, formula_file, mode_of}
use Rattle.solver_cli.specs.declared.status.Status.{Status}
use Rattle.solver_cli.specs.declared.status.Status.TheVariants.{Sat, Unsat, Unknown, Answered, Verified, NotVerified, Done, Help, Usage}
use Rattle.solver_cli.specs.declared.status.Status.TheVariants.{CnfRefused}
use Rattle.solver_cli.specs.declared.status.Status.TheVariants.{OrderRefused, BucketsRefused, PlanRefused, CubeRefused, TooLong}
use Rattle.solver_cli.specs.declared.status.Status.TheVariants.{ReadFault, WriteFault, OutOfMemory}
use Rattle.solver_cli.specs.Answer.{AreGiven, IsRead, IsOrdered, IsPlanned}
use Rattle.solver_cli.specs.Format.{verdict_in}
use Rattle.solver_cli.specs.Headline.{CallsFor}
use Rattle.solver_cli.specs.Run.{Run, GivesCommand, GivesMake, AsksOver, AsksFor, AsksByOrder, AsksByBuckets, AsksBySchedule, AsksToJudge}
use Rattle.solver_cli.specs.Run.{AsksByCubes, HasVerdict, name_given}
use Rattle.solver_cli.proofs.Facts.{one_text, same_command}

-- The refusals, text by text: what a text is refused by, and what comes next where it is accepted.

abbrev pub by_formula : CnfText → (Formula → Option Status) → Option Status
by_formula (formula problem) next = next problem
by_formula (refusal kind line) next = Some (CnfRefused kind line)
by_formula overlong next = Some (TooLong Cnf)

abbrev pub by_order : OrderText → (List ℕ → Option Status) → Option Status
by_order (given_order order) next = next order
by_order (order_refusal kind line) next = Some (OrderRefused kind line)
by_order overlong_order next = Some (TooLong Order)

abbrev pub by_buckets : OrderText → Option Status
by_buckets (given_order order) = None
by_buckets (order_refusal kind line) = Some (BucketsRefused kind line)
by_buckets overlong_order = Some (TooLong Buckets)

abbrev pub by_schedule : ScheduleText → Option Status
by_schedule (given_plan moves) = None
by_schedule (schedule_refusal kind line) = Some (PlanRefused kind line)
by_schedule overlong_schedule = Some (TooLong Schedule)

abbrev pub by_cubes : CubeText → Option Status
by_cubes (given_cubes all) = None
by_cubes (cube_refusal kind line) = Some (CubeRefused kind line)
by_cubes overlong_cubes = Some (TooLong Cubes)

abbrev pub by_proof : Option Verdict → Option Status
by_proof None = Some (TooLong ProofIn)
by_proof (Some judged) = None

-- by what stands in a file
abbrev pub in_file : Option (List ℕ) → (List ℕ → Option Status) → Option Status
in_file None says = None
in_file (Some bytes) says = says bytes

-- what stands in the file of a name, where one is given
abbrev pub text_named : Run → Option (List ℕ) → Option (List ℕ)
text_named run None = None
text_named run (Some file) = run.texts file

abbrev pub after_order : Run → Planned → Formula → Option Status
after_order run (ByName name) problem = None
after_order run (ByFile file) problem = in_file (run.texts file) (λ bytes. by_schedule (schedule problem bytes))
after_order run (ByBuckets file) problem = in_file (run.texts file) (λ bytes. by_buckets (order_text problem.vars bytes))
after_order run Found problem = None

-- by what comes after the order, with a command that goes by one
abbrev pub after_given : Run → Command → Formula → Option Status
after_given run (Solve task) problem = after_order run task.plan problem
after_given run (Ask task) problem = in_file (run.texts task.cubes) (λ bytes. by_cubes (cube_text problem.vars bytes))
after_given run asked problem = None

abbrev pub with_order : Run → Option (List ℕ) → Formula → (List ℕ → Option Status) → Option Status
with_order run None problem next = next (natural problem.vars)
with_order run (Some file) problem next = in_file (run.texts file) (λ bytes. by_order (order_text problem.vars bytes) next)

abbrev pub after_formula : Run → Command → Formula → Option Status
after_formula run (Solve task) problem = with_order run task.order problem (λ order. after_order run task.plan problem)
after_formula run (Bench task) problem = None
after_formula run (Make task) problem = None
after_formula run (Arrange task) problem = None
after_formula run (Ask task) problem = with_order run task.order problem (λ order. after_given run (Ask task) problem)
after_formula run (Check task) problem = in_file (run.texts task.proof) (λ bytes. by_proof (verdict_in task.format problem.clauses bytes))
after_formula run (Convert task) problem =
    in_file (run.texts task.proof) (λ bytes. by_proof (verdict_in (format_before task.into) problem.clauses bytes))
after_formula run (Trim task) problem = in_file (run.texts task.proof) (λ bytes. by_proof (verdict_in Lrat problem.clauses bytes))

abbrev pub by_words : Run → Option Command → Option Status
by_words run None = None
by_words run (Some asked) = in_file (text_named run (formula_file asked))
    (λ bytes. by_formula (cnf (mode_of asked) bytes) (after_formula run asked))

abbrev pub refusal_due : Run → Option Status
refusal_due run = by_words run (command run.words)

-- a file that is read as that
reads : {Text : Type 0} (files : Texts) {file : List ℕ} {whole : List ℕ → Text} {text : Text} (says : Text → Option Status)
    → IsRead files file whole text → in_file (files file) (λ bytes. says (whole bytes)) ≡ says text
reads files {whole = whole} says read = ap (λ (bytes : Option (List ℕ)). in_file bytes (λ b. says (whole b))) read.stands
    ∙ ap says read.says

-- the words name one formula's file and one mode, and it has one text
pub same_text : (run : Run) {asked other : Command} {text said : CnfText} → AsksOver run asked text → AsksOver run other said → text ≡ said
same_text run here there =
    sym here.read.says
    ∙ ap₂ cnf (ap mode_of (same_command here.command there.command))
    (one_text run.texts here.command there.command here.named there.named here.read.stands there.read.stands)
    ∙ there.read.says

asks : (run : Run) (asked : Command) (text : CnfText) → AsksOver run asked text → refusal_due run
    ≡ by_formula text (after_formula run asked)
asks run asked text a =
    ap (by_words run) a.command
    ∙ ap (λ (file : Option (List ℕ)). in_file (text_named run file)
    (λ bytes. by_formula (cnf (mode_of asked) bytes) (after_formula run asked))) a.named
    ∙ reads run.texts (λ t. by_formula t (after_formula run asked)) a.read

ordered : (run : Run) (file : Option (List ℕ)) (problem : Formula) (order : List ℕ) (next : Option Status)
    → IsOrdered run.texts file problem order → with_order run file problem (λ order. next) ≡ next
ordered run None problem order next is = refl
ordered run (Some file) problem order next is = reads run.texts (λ t. by_order t (λ order. next)) is

-- a command that names an order's file goes by that
ordered_by : (run : Run) (asked : Command) (problem : Formula) {file : List ℕ} → name_given Order asked ≡ Some file
    → after_formula run asked problem ≡ with_order run (Some file) problem (λ order. after_given run asked problem)
ordered_by run (Solve task) problem named =
    ap (λ (file : Option (List ℕ)). with_order run file problem (λ order. after_given run (Solve task) problem)) named
ordered_by run (Ask task) problem named =
    ap (λ (file : Option (List ℕ)). with_order run file problem (λ order. after_given run (Ask task) problem)) named
ordered_by run (Check task) problem named = cc
ordered_by run (Bench task) problem named = cc
ordered_by run (Make task) problem named = cc
ordered_by run (Arrange task) problem named = cc
ordered_by run (Convert task) problem named = cc
ordered_by run (Trim task) problem named = cc

by_its_order : (run : Run) (problem : Formula) (text : OrderText) (a : AsksByOrder run problem text) → refusal_due run
    ≡ by_order text (λ order. after_given run a.asked problem)
by_its_order run problem text a =
    asks run a.asked (formula problem) a.asks ∙ ordered_by run a.asked problem a.named
    ∙ reads run.texts (λ t. by_order t (λ order. after_given run a.asked problem)) a.read

by_its_buckets : (run : Run) (problem : Formula) (text : OrderText) → AsksByBuckets run problem text → refusal_due run ≡ by_buckets text
by_its_buckets run problem text a =
    asks run (Solve a.task) (formula problem) a.asks
    ∙ ordered run a.task.order problem a.order (after_order run a.task.plan problem) a.ordered
    ∙ ap (λ (plan : Planned). after_order run plan problem) a.named
    ∙ reads run.texts by_buckets a.read

by_its_schedule : (run : Run) (problem : Formula) (text : ScheduleText) → AsksBySchedule run problem text → refusal_due run
    ≡ by_schedule text
by_its_schedule run problem text a =
    asks run (Solve a.task) (formula problem) a.asks
    ∙ ordered run a.task.order problem a.order (after_order run a.task.plan problem) a.ordered
    ∙ ap (λ (plan : Planned). after_order run plan problem) a.named
    ∙ reads run.texts by_schedule a.read

by_its_cubes : (run : Run) (problem : Formula) (order : List ℕ) (text : CubeText) → AsksByCubes run problem order text
    → refusal_due run ≡ by_cubes text
by_its_cubes run problem order text a =
    asks run (Ask a.task) (formula problem) a.asks
    ∙ ordered run a.task.order problem order (after_given run (Ask a.task) problem) a.ordered
    ∙ reads run.texts by_cubes a.read

-- what stands in the named file decides
in_named : (run : Run) (format : ProofFormat) (own : List ℕ) (problem : Formula) {file bytes : List ℕ}
    → ◌≡◌ {A = Option (List ℕ)} (Some own) (Some file) → run.texts file ≡ Some bytes
    → in_file (run.texts own) (λ bytes. by_proof (verdict_in format problem.clauses bytes)) ≡ by_proof (verdict_in format problem.clauses bytes)
in_named run format own problem {file = file} named stands =
    ap (λ (b : Option (List ℕ)). in_file b (λ bytes. by_proof (verdict_in format problem.clauses bytes))) (ap run.texts (inner named) ∙ stands) where
      inner : ◌≡◌ {A = Option (List ℕ)} (Some own) (Some file) → own ≡ file
      inner e = cc

-- a command that names a proof's file goes by that
after_judged : (run : Run) (asked : Command) (problem : Formula) {file bytes : List ℕ} → name_given ProofIn asked ≡ Some file
    → run.texts file ≡ Some bytes → after_formula run asked problem ≡ by_proof (verdict_in (format_of asked) problem.clauses bytes)
after_judged run (Solve task) problem named stands = cc
after_judged run (Bench task) problem named stands = cc
after_judged run (Make task) problem named stands = cc
after_judged run (Arrange task) problem named stands = cc
after_judged run (Ask task) problem named stands = cc
after_judged run (Check task) problem named stands = in_named run task.format task.proof problem named stands
after_judged run (Convert task) problem named stands = in_named run (format_before task.into) task.proof problem named stands
after_judged run (Trim task) problem named stands = in_named run Lrat task.proof problem named stands

to_judge : (run : Run) (problem : Formula) (bytes : List ℕ) (a : AsksToJudge run problem bytes) → refusal_due run
    ≡ by_proof (verdict_in (format_of a.asked) problem.clauses bytes)
to_judge run problem bytes a =
    asks run a.asked (formula problem) a.asks ∙ after_judged run a.asked problem a.named a.stands

-- the refusal that is called for is this one
pub called : (run : Run) (status : Status) → CallsFor run status → refusal_due run ≡ Some status
called run Sat is = absurd is
called run Unsat is = absurd is
called run (Unknown why) is = absurd is
called run Answered is = absurd is
called run Verified is = absurd is
called run (NotVerified line reason) is = absurd is
called run Done is = absurd is
called run Help is = absurd is
called run Usage is = absurd is
called run (CnfRefused kind line) is = asks run is.0 (refusal kind line) is.1
called run (OrderRefused kind line) is = by_its_order run is.0 (order_refusal kind line) is.1
called run (BucketsRefused kind line) is = by_its_buckets run is.0 (order_refusal kind line) is.1
called run (PlanRefused kind line) is = by_its_schedule run is.0 (schedule_refusal kind line) is.1
called run (CubeRefused kind line) is = by_its_cubes run is.0 is.1 (cube_refusal kind line) is.2
called run (TooLong Cnf) is = asks run is.0 overlong is.1
called run (TooLong Order) is = by_its_order run is.0 overlong_order is.1
called run (TooLong Buckets) is = by_its_buckets run is.0 overlong_order is.1
called run (TooLong Schedule) is = by_its_schedule run is.0 overlong_schedule is.1
called run (TooLong ProofIn) is = to_judge run is.0 is.1 is.2 ∙ ap by_proof is.3
called run (TooLong Cubes) is = by_its_cubes run is.0 is.1 overlong_cubes is.2
called run (TooLong ProofOut) is = absurd is
called run (TooLong Made) is = absurd is
called run (TooLong Out) is = absurd is
called run (TooLong Err) is = absurd is
called run ReadFault is = absurd is
called run WriteFault is = absurd is
called run OutOfMemory is = absurd is

some_none : {status : Status} {due : Option Status} → due ≡ Some status → due ≡ None → ⊥
some_none e d = cc

same_some : {status other : Status} {due : Option Status} → due ≡ Some status → due ≡ Some other → status ≡ other
same_some e d = inner (sym e ∙ d) where
  inner : {status other : Status} → ◌≡◌ {A = Option Status} (Some status) (Some other) → status ≡ other
  inner e = cc

-- only one is
pub one_call : (run : Run) (status other : Status) → CallsFor run status → CallsFor run other → status ≡ other
one_call run status other here there = same_some (called run status here) (called run other there)

-- none is where all texts are accepted
planned : (run : Run) (plan : Planned) (problem : Formula) (given order : List ℕ) (moves : List Move)
    → IsPlanned run.texts plan problem given order moves → after_order run plan problem ≡ None
planned run (ByName name) problem given order moves is = refl
planned run (ByFile file) problem given order moves is = reads run.texts by_schedule is.1
planned run (ByBuckets file) problem given order moves is = reads run.texts by_buckets is.1.read
planned run Found problem given order moves is = refl

pub no_call : (run : Run) (problem : Formula) → AsksFor run problem → (status : Status) → CallsFor run status → ⊥
no_call run problem a status is = some_none (called run status is) (due a.by.asked a.by.command a.by.given) where
  due : (asked : Command) → command run.words ≡ Some asked → AreGiven run.texts asked problem a.order a.moves → refusal_due run ≡ None
  due (Solve task) gives given =
      asks run (Solve task) (formula problem) (record { command = gives; file = task.file; named = refl; read = given.read })
      ∙ ordered run task.order problem given.given (after_order run task.plan problem) given.ordered
      ∙ planned run task.plan problem given.given a.order a.moves given.planned
  due (Check task) gives given = absurd given
  due (Bench task) gives given = ap (by_words run) gives
  due (Make task) gives given = absurd given
  due (Arrange task) gives given = absurd given
  due (Ask task) gives given = absurd given
  due (Convert task) gives given = absurd given
  due (Trim task) gives given = absurd given

-- or where an order is made of a formula that is accepted
pub no_call_arranged : (run : Run) (task : ToOrder) (problem : Formula) → AsksOver run (Arrange task) (formula problem) → (status : Status)
    → CallsFor run status → ⊥
no_call_arranged run task problem a status is = some_none (called run status is) (asks run (Arrange task) (formula problem) a)

-- or where cubes over it are accepted
pub no_call_asked : (run : Run) (problem : Formula) (order : List ℕ) (cubes : List (List ℤ))
    → AsksByCubes run problem order (given_cubes cubes) → (status : Status) → CallsFor run status → ⊥
no_call_asked run problem order cubes a status is =
    some_none (called run status is) (by_its_cubes run problem order (given_cubes cubes) a)

-- or where a board's text is made
pub no_call_made : (run : Run) → GivesMake run → (status : Status) → CallsFor run status → ⊥
no_call_made run given status is = some_none (called run status is) (ap (by_words run) given.1)

-- or where the proof has a verdict
pub no_call_judged : (run : Run) (problem : Formula) (bytes : List ℕ) (judged : Verdict) → HasVerdict run problem bytes judged
    → (status : Status) → CallsFor run status → ⊥
no_call_judged run problem bytes judged has status is = some_none (called run status is) (to_judge run problem bytes has.asked
    ∙ ap by_proof has.judged)

-- or only that of a proof that is too long, where one is converted over a formula that is accepted
long_only : (file : Option (List ℕ)) (verdict : List ℕ → Option Verdict) {status : Status}
    → in_file file (λ bytes. by_proof (verdict bytes)) ≡ Some status → status ≡ TooLong ProofIn
long_only None verdict e = cc
long_only (Some bytes) verdict e = inner (verdict bytes) e where
  inner : (judged : Option Verdict) {status : Status} → by_proof judged ≡ Some status → status ≡ TooLong ProofIn
  inner None e = cc
  inner (Some judged) e = cc

pub calls_long : (run : Run) (task : ToConvert) (problem : Formula) → AsksOver run (Convert task) (formula problem) → (status : Status)
    → CallsFor run status → status ≡ TooLong ProofIn
calls_long run task problem a status is = long_only (run.texts task.proof)
    (λ bytes. verdict_in (format_before task.into) problem.clauses bytes)
    (sym (asks run (Convert task) (formula problem) a) ∙ called run status is)

-- a refusal is called for only where the words give a command
pub calls_give : (run : Run) (status : Status) → CallsFor run status → GivesCommand run
calls_give run Sat is = absurd is
calls_give run Unsat is = absurd is
calls_give run (Unknown why) is = absurd is
calls_give run Answered is = absurd is
calls_give run Verified is = absurd is
calls_give run (NotVerified line reason) is = absurd is
calls_give run Done is = absurd is
calls_give run Help is = absurd is
calls_give run Usage is = absurd is
calls_give run (CnfRefused kind line) is = (is.0, is.1.command)
calls_give run (OrderRefused kind line) is = (is.1.asked, is.1.asks.command)
calls_give run (BucketsRefused kind line) is = (Solve is.1.task, is.1.asks.command)
calls_give run (PlanRefused kind line) is = (Solve is.1.task, is.1.asks.command)
calls_give run (CubeRefused kind line) is = (Ask is.2.task, is.2.asks.command)
calls_give run (TooLong Cnf) is = (is.0, is.1.command)
calls_give run (TooLong Order) is = (is.1.asked, is.1.asks.command)
calls_give run (TooLong Buckets) is = (Solve is.1.task, is.1.asks.command)
calls_give run (TooLong Schedule) is = (Solve is.1.task, is.1.asks.command)
calls_give run (TooLong ProofIn) is = (is.2.asked, is.2.asks.command)
calls_give run (TooLong Cubes) is = (Ask is.2.task, is.2.asks.command)
calls_give run (TooLong ProofOut) is = absurd is
calls_give run (TooLong Made) is = absurd is
calls_give run (TooLong Out) is = absurd is
calls_give run (TooLong Err) is = absurd is
calls_give run ReadFault is = absurd is
calls_give run WriteFault is = absurd is
calls_give run OutOfMemory is = absurd is
