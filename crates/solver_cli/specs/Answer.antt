-- The answers of `solve` and `bench`: how a formula is decided, when an outcome holds, and its text on standard output.
use Rattle.std.specs.Prelude.{◌≡◌, ◌++◌, ℕ, ℤ, List, [], Option, None, Some, length}
use Rattle.cnf_base.specs.Formula.{Formula}
use Rattle.cnf_base.specs.ProofText.{proof_lines}
use Rattle.host_io.specs.Files.{Texts}
use Rattle.dimacs_reader.specs.Cnf.{cnf, formula as given_formula}
use Rattle.lrat_rules.specs.State.{start}
use Rattle.lrat_rules.specs.Run.{Judged, Reached, Stopped, run as run_lines}
use Rattle.cnf_base.specs.Order.{natural, IsOrder}
use Rattle.schedule_plan.specs.OrderText.{order_text, order as given_order}
use Rattle.schedule_plan.specs.ScheduleText.{schedule, plan as given_plan}
use Rattle.schedule_plan.specs.Plan.{conjoin}
use Rattle.schedule_plan.specs.Bucket.{bucket}
use Rattle.schedule_plan.specs.declared.plan.Move.{Move}
use Rattle.schedule_plan.specs.declared.limits.Limits.{Limits}
use Rattle.term_runner.specs.declared.outcome.Outcome.{Outcome}
use Rattle.term_runner.specs.declared.outcome.Outcome.TheVariants as outcome
use Rattle.term_runner.specs.Ends.{Says, Shows}
use Rattle.term_runner.specs.declared.outcome.Run.{Run as Ending}
use Rattle.workload.specs.Board.{board_formula, column_order}
use Rattle.workload.specs.Schedule.{board_moves}
use Rattle.answer_text.specs.Status.{sat_text, unsat_line, node_limit_text, id_limit_text, board_line, last_line}
use Rattle.command_line.specs.Command.{Command, ToSolve, Solve, Check, Bench, Make, Arrange, Ask, Convert, Trim, Planned, ByName}
use Rattle.command_line.specs.Command.{ByFile, ByBuckets}
use Rattle.command_line.specs.Command.{Found}
use Rattle.command_line.specs.Command.{limits_asked}
use Rattle.command_line.specs.declared.plan.PlanName.{PlanName}
use Rattle.command_line.specs.declared.plan.PlanName.TheVariants.{Bucket, Conjoin}
use Rattle.solver_cli.specs.declared.answer.Shape.{Shape}
use Rattle.solver_cli.specs.declared.status.Why.{Why}
use Rattle.solver_cli.specs.declared.status.Why.TheVariants.{NodeLimit, IdLimit}
use Rattle.solver_cli.specs.declared.status.Status.{Status}
use Rattle.solver_cli.specs.declared.status.Status.TheVariants.{Sat, Unsat, Unknown}

-- the moves of the plan of this name
abbrev pub moves_of_plan : PlanName → Formula → List ℕ → List Move
moves_of_plan Bucket formula order = bucket formula order
moves_of_plan Conjoin formula order = conjoin (length formula.clauses)

-- the text that stands in the file of this name is read as that
pub record IsRead {Text : Type 0} (texts : Texts) (file : List ℕ) (whole : List ℕ → Text) (text : Text) : Type 0 where
  pub bytes : List ℕ
  pub stands : texts file ≡ Some bytes
  pub says : whole bytes ≡ text

-- an order of so many variables
abbrev pub IsOrderOf : ℕ → List ℕ → Type 0
IsOrderOf vars order = IsOrder order × (length order ≡ vars)

-- the order of the formula's variables that the words give: the one in the named file, or without one the variables by rising number
abbrev pub IsOrdered : Texts → Option (List ℕ) → Formula → List ℕ → Type 0
IsOrdered texts None problem order = order ≡ natural problem.vars
IsOrdered texts (Some file) problem order = IsRead texts file (order_text problem.vars) (given_order order)

-- the moves of the bucket plan by the order of the variables in the named file
pub record AreByBuckets (texts : Texts) (file : List ℕ) (problem : Formula) (moves : List Move) : Type 0 where
  pub buckets : List ℕ
  pub read : IsRead texts file (order_text problem.vars) (given_order buckets)
  pub planned : moves ≡ bucket problem buckets

-- found by trials: some order of the variables, and the moves of the bucket plan by some order of them
pub record AreFound (problem : Formula) (order : List ℕ) (moves : List Move) : Type 0 where
  pub ordered : IsOrderOf problem.vars order
  pub buckets : List ℕ
  pub of_buckets : IsOrderOf problem.vars buckets
  pub planned : moves ≡ bucket problem buckets

-- The order of the diagrams and the moves. The order is the one that the words give; the moves are those of the plan of the given name
-- over it, those of the schedule in the named file, or those of the bucket plan by the order in the named file. Or both are found.
abbrev pub IsPlanned : Texts → Planned → Formula → List ℕ → List ℕ → List Move → Type 0
IsPlanned texts (ByName name) problem given order moves = (order ≡ given) × (moves ≡ moves_of_plan name problem given)
IsPlanned texts (ByFile file) problem given order moves = (order ≡ given) × IsRead texts file (schedule problem) (given_plan moves)
IsPlanned texts (ByBuckets file) problem given order moves = (order ≡ given) × AreByBuckets texts file problem moves
IsPlanned texts Found problem given order moves = AreFound problem order moves

-- The files that are named give this formula, this order of its variables and these moves.
pub record AreOfFiles (texts : Texts) (task : ToSolve) (problem : Formula) (order : List ℕ) (moves : List Move) : Type 0 where
  pub read : IsRead texts task.file (cnf task.mode) (given_formula problem)
  pub given : List ℕ
  pub ordered : IsOrdered texts task.order problem given
  pub planned : IsPlanned texts task.plan problem given order moves

-- They are those of the board of so many squares a side: its formula, its column order and its column schedule.
pub record AreOfBoard (size : ℕ) (problem : Formula) (order : List ℕ) (moves : List Move) : Type 0 where
  pub its_formula : problem ≡ board_formula size
  pub its_order : order ≡ column_order size
  pub its_moves : moves ≡ board_moves size

-- a command gives a formula to decide, the order of its variables and the moves
abbrev pub AreGiven : Texts → Command → Formula → List ℕ → List Move → Type 0
AreGiven texts (Solve task) problem order moves = AreOfFiles texts task problem order moves
AreGiven texts (Check task) problem order moves = ⊥
AreGiven texts (Bench task) problem order moves = AreOfBoard task.size problem order moves
AreGiven texts (Make task) problem order moves = ⊥
AreGiven texts (Arrange task) problem order moves = ⊥
AreGiven texts (Ask task) problem order moves = ⊥
AreGiven texts (Convert task) problem order moves = ⊥
AreGiven texts (Trim task) problem order moves = ⊥

-- the outcome is true of the formula, and the proof that was written shows it
pub record Holds (limits : Limits) (problem : Formula) (order : List ℕ) (moves : List Move) (bytes : List ℕ)
    (found : Outcome) : Type 0 where
  pub says : Says problem order moves limits found
  pub shows : Shows problem limits bytes found

-- the text of an outcome within limits
abbrev pub outcome_text : Limits → Outcome → List ℕ
outcome_text limits (outcome.Sat values) = sat_text values
outcome_text limits outcome.Unsat = unsat_line
outcome_text limits outcome.NodeLimit = node_limit_text limits.max_nodes
outcome_text limits outcome.IdLimit = id_limit_text limits.max_ids

-- The greatest identifier of a proof over the clauses, which its bytes lead to: that of the last clause where they add none.
abbrev pub greatest_in : Judged → ℕ
greatest_in (Reached state) = state.top
greatest_in (Stopped line reason) = 0

abbrev pub last_identifier : List (List ℤ) → List ℕ → ℕ
last_identifier clauses bytes = greatest_in (run_lines (start clauses) (proof_lines bytes))

-- how large the board is that was decided, if it was one
abbrev pub shape_of : ℕ → Formula → Shape
shape_of size problem = record { size = size; vars = problem.vars; clauses = length problem.clauses }

abbrev pub shape_asked : Option Command → Formula → Option Shape
shape_asked (Some (Bench task)) problem = Some (shape_of task.size problem)
shape_asked _ problem = None

-- the lines before a board's answer: how large it is, and the last identifier of a refutation
abbrev pub last_text : Ending → List ℕ
last_text ending = if_refuted ending.outcome where
  if_refuted : Outcome → List ℕ
  if_refuted outcome.Unsat = last_line ending.last_id
  if_refuted _ = []

abbrev pub heading : Option Shape → Ending → List ℕ
heading None ending = []
heading (Some shape) ending = board_line shape.size shape.vars shape.clauses ++ last_text ending

-- the text of an ending: the outcome's, behind the heading of a board
abbrev pub ending_text : Option Shape → Limits → Ending → List ℕ
ending_text shape limits ending = heading shape ending ++ outcome_text limits ending.outcome

-- an outcome with the last identifier of the proof's bytes
abbrev pub with_last : List (List ℤ) → List ℕ → Outcome → Ending
with_last clauses bytes found = record { outcome = found; last_id = last_identifier clauses bytes }

-- what is printed for it on standard output, for what the words ask, the formula and the proof's bytes
abbrev pub answer_text : Option Command → Formula → List ℕ → Outcome → List ℕ
answer_text asked problem bytes found =
    ending_text (shape_asked asked problem) (limits_asked asked) (with_last problem.clauses bytes found)

-- the status of a run that printed it
abbrev pub status_of : Outcome → Status
status_of (outcome.Sat values) = Sat
status_of outcome.Unsat = Unsat
status_of outcome.NodeLimit = Unknown NodeLimit
status_of outcome.IdLimit = Unknown IdLimit

-- the outcome at a limit
abbrev pub outcome_at : Why → Outcome
outcome_at NodeLimit = outcome.NodeLimit
outcome_at IdLimit = outcome.IdLimit
