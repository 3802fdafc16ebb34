-- What is written on standard error.
use Rattle.std.specs.Prelude.{ℕ, Bool, true, false, List, [], ◌++◌, codes, decimal}
use Rattle.host_io.specs.declared.role.Role.{Role}
use Rattle.host_io.specs.declared.role.Role.TheVariants.{Cnf, Order, Buckets, Schedule, ProofIn, Cubes, ProofOut, Made, Out, Err}
use Rattle.dimacs_reader.specs.declared.error.CnfKind.{CnfKind}
use Rattle.dimacs_reader.specs.declared.error.CnfKind.TheVariants.{NoHeader, BadHeader, BadToken, LiteralRange, TooManyClauses}
use Rattle.dimacs_reader.specs.declared.error.CnfKind.TheVariants.{ClauseMissing, NoEndingZero, Limit}
use Rattle.schedule_plan.specs.declared.order_error.OrderKind.{OrderKind}
use Rattle.schedule_plan.specs.declared.order_error.OrderKind.TheVariants.{BadNumber, Range, Repeated, Missing}
use Rattle.schedule_plan.specs.declared.schedule.error.PlanKind.{PlanKind}
use Rattle.schedule_plan.specs.declared.schedule.error.PlanKind.TheVariants.{Syntax, ClauseRange, ClauseTwice, StackShort, VariableRange}
use Rattle.schedule_plan.specs.declared.schedule.error.PlanKind.TheVariants.{VariableInUse, ClauseUnused, TermsLeft}
use Rattle.cube_text.specs.declared.error.CubeKind.{CubeKind}
use Rattle.cube_text.specs.declared.error.CubeKind.TheVariants as cube
use Rattle.solver_cli.specs.declared.status.Status.{Status}
use Rattle.solver_cli.specs.declared.status.Status.TheVariants.{Sat, Unsat, Unknown, Answered, Verified, NotVerified, Done, Help, Usage}
use Rattle.solver_cli.specs.declared.status.Status.TheVariants.{CnfRefused}
use Rattle.solver_cli.specs.declared.status.Status.TheVariants.{OrderRefused, BucketsRefused, PlanRefused, CubeRefused, TooLong}
use Rattle.solver_cli.specs.declared.status.Status.TheVariants.{ReadFault, WriteFault, OutOfMemory}

abbrev pub kind_name : CnfKind → List ℕ
kind_name NoHeader = codes "NoHeader"
kind_name BadHeader = codes "BadHeader"
kind_name BadToken = codes "BadToken"
kind_name LiteralRange = codes "LiteralRange"
kind_name TooManyClauses = codes "TooManyClauses"
kind_name ClauseMissing = codes "ClauseMissing"
kind_name NoEndingZero = codes "NoEndingZero"
kind_name Limit = codes "Limit"

abbrev pub order_kind_name : OrderKind → List ℕ
order_kind_name BadNumber = codes "BadNumber"
order_kind_name Range = codes "Range"
order_kind_name Repeated = codes "Repeated"
order_kind_name Missing = codes "Missing"

abbrev pub plan_kind_name : PlanKind → List ℕ
plan_kind_name Syntax = codes "Syntax"
plan_kind_name ClauseRange = codes "ClauseRange"
plan_kind_name ClauseTwice = codes "ClauseTwice"
plan_kind_name StackShort = codes "StackShort"
plan_kind_name VariableRange = codes "VariableRange"
plan_kind_name VariableInUse = codes "VariableInUse"
plan_kind_name ClauseUnused = codes "ClauseUnused"
plan_kind_name TermsLeft = codes "TermsLeft"

abbrev pub cube_kind_name : CubeKind → List ℕ
cube_kind_name cube.BadToken = codes "BadToken"
cube_kind_name cube.LiteralRange = codes "LiteralRange"
cube_kind_name cube.BothSigns = codes "BothSigns"
cube_kind_name cube.NoEndingZero = codes "NoEndingZero"
cube_kind_name cube.Limit = codes "Limit"

-- the word for a text that is read
abbrev pub role_word : Role → List ℕ
role_word Cnf = codes "cnf"
role_word Order = codes "order"
role_word Buckets = codes "buckets"
role_word Schedule = codes "schedule"
role_word ProofIn = codes "proof"
role_word Cubes = codes "cubes"
role_word ProofOut = codes "proof"
role_word Made = codes "made"
role_word Out = codes "out"
role_word Err = codes "err"

-- the line about a text that is refused: which one, the line in it, and the kind
abbrev pub refused_line : Role → ℕ → List ℕ → List ℕ
refused_line role line kind = codes "error: " ++ role_word role ++ codes " line " ++ decimal line ++ codes ": " ++ kind ++ codes "\n"

-- the text that a status puts there: nothing for an answer, for a text that was made and for help
abbrev pub error_text : Status → List ℕ
error_text Sat = []
error_text Unsat = []
error_text (Unknown why) = []
error_text Answered = []
error_text Verified = []
error_text (NotVerified line reason) = []
error_text Done = []
error_text Help = []
error_text Usage = codes "error: bad usage\n"
error_text (CnfRefused kind line) = refused_line Cnf line (kind_name kind)
error_text (OrderRefused kind line) = refused_line Order line (order_kind_name kind)
error_text (BucketsRefused kind line) = refused_line Buckets line (order_kind_name kind)
error_text (PlanRefused kind line) = refused_line Schedule line (plan_kind_name kind)
error_text (CubeRefused kind line) = refused_line Cubes line (cube_kind_name kind)
error_text (TooLong role) = codes "error: " ++ role_word role ++ codes " too long\n"
error_text ReadFault = codes "error: read failed\n"
error_text WriteFault = codes "error: write failed\n"
error_text OutOfMemory = codes "error: out of memory\n"

-- a status that answers the question about a formula, about cubes, or about a proof
abbrev pub is_answer : Status → Bool
is_answer Sat = true
is_answer Unsat = true
is_answer (Unknown why) = true
is_answer Answered = true
is_answer Verified = true
is_answer (NotVerified line reason) = true
is_answer Done = false
is_answer Help = false
is_answer Usage = false
is_answer (CnfRefused kind line) = false
is_answer (OrderRefused kind line) = false
is_answer (BucketsRefused kind line) = false
is_answer (PlanRefused kind line) = false
is_answer (CubeRefused kind line) = false
is_answer (TooLong role) = false
is_answer ReadFault = false
is_answer WriteFault = false
is_answer OutOfMemory = false
