-- The exit codes, and the status for what a reader or the checker answers. (SAT Competitions, output format: 10, 20
-- and 0 of an answer. The other codes are this project's own.)
use Rattle.std.specs.Prelude.{ℕ}
use Rattle.dimacs_reader.specs.declared.error.CnfError.{CnfError}
use Rattle.dimacs_reader.specs.declared.error.CnfError.TheVariants.{Refused, ReadFault as CnfReadFault, TooLong as CnfTooLong}
use Rattle.dimacs_reader.specs.declared.error.CnfError.TheVariants.{OutOfMemory as CnfOutOfMemory}
use Rattle.cube_text.specs.declared.error.CubeError.{CubeError}
use Rattle.cube_text.specs.declared.error.CubeError.TheVariants as cubes
use Rattle.host_io.specs.declared.role.Role.TheVariants.{Cnf, Order, Buckets, Schedule, ProofIn, Cubes}
use Rattle.proof_judging.specs.declared.verdict.CheckError.{CheckError}
use Rattle.proof_judging.specs.declared.verdict.CheckError.TheVariants.{ReadFault as CheckReadFault, TooLong as CheckTooLong}
use Rattle.proof_judging.specs.declared.verdict.CheckError.TheVariants.{OutOfMemory as CheckOutOfMemory}
use Rattle.drat_proof.specs.declared.error.ConvertError.{ConvertError}
use Rattle.drat_proof.specs.declared.error.ConvertError.TheVariants.{ReadFault as ConvertReadFault, TooLong as ConvertTooLong}
use Rattle.drat_proof.specs.declared.error.ConvertError.TheVariants.{OutOfMemory as ConvertOutOfMemory, WriteFault as ConvertWriteFault}
use Rattle.schedule_plan.specs.declared.order_error.OrderError.{OrderError}
use Rattle.schedule_plan.specs.declared.order_error.OrderError.TheVariants.{Refused as OrderIsRefused, ReadFault as OrderReadFault}
use Rattle.schedule_plan.specs.declared.order_error.OrderError.TheVariants.{TooLong as OrderTooLong, OutOfMemory as OrderOutOfMemory}
use Rattle.schedule_plan.specs.declared.schedule.error.PlanError.{PlanError}
use Rattle.schedule_plan.specs.declared.schedule.error.PlanError.TheVariants.{Refused as PlanIsRefused, ReadFault as PlanReadFault}
use Rattle.schedule_plan.specs.declared.schedule.error.PlanError.TheVariants.{TooLong as PlanTooLong, OutOfMemory as PlanOutOfMemory}
use Rattle.bdd_terms.specs.declared.error.RunError.{RunError}
use Rattle.bdd_terms.specs.declared.error.RunError.TheVariants.{OutOfMemory as RunOutOfMemory, WriteFault as RunWriteFault}
use Rattle.solver_cli.specs.declared.status.Status.{Status}
use Rattle.solver_cli.specs.declared.status.Status.TheVariants.{Sat, Unsat, Unknown, Answered, Verified, NotVerified, Done, Help, Usage}
use Rattle.solver_cli.specs.declared.status.Status.TheVariants.{CnfRefused}
use Rattle.solver_cli.specs.declared.status.Status.TheVariants.{OrderRefused, BucketsRefused, PlanRefused, CubeRefused, TooLong}
use Rattle.solver_cli.specs.declared.status.Status.TheVariants.{ReadFault, WriteFault, OutOfMemory}

abbrev pub exit_code : Status → ℕ
exit_code Sat = 10
exit_code Unsat = 20
exit_code (Unknown why) = 0
exit_code Answered = 0
exit_code Verified = 0
exit_code (NotVerified line reason) = 1
exit_code Done = 0
exit_code Help = 0
exit_code Usage = 6
exit_code (CnfRefused kind line) = 2
exit_code (OrderRefused kind line) = 2
exit_code (BucketsRefused kind line) = 2
exit_code (PlanRefused kind line) = 2
exit_code (CubeRefused kind line) = 2
exit_code (TooLong role) = 2
exit_code ReadFault = 3
exit_code WriteFault = 4
exit_code OutOfMemory = 5

abbrev pub status_of_error : CnfError → Status
status_of_error (Refused kind line) = CnfRefused kind line
status_of_error CnfReadFault = ReadFault
status_of_error CnfTooLong = TooLong Cnf
status_of_error CnfOutOfMemory = OutOfMemory

abbrev pub status_of_order : OrderError → Status
status_of_order (OrderIsRefused kind line) = OrderRefused kind line
status_of_order OrderReadFault = ReadFault
status_of_order OrderTooLong = TooLong Order
status_of_order OrderOutOfMemory = OutOfMemory

-- of the order of the buckets
abbrev pub status_of_buckets : OrderError → Status
status_of_buckets (OrderIsRefused kind line) = BucketsRefused kind line
status_of_buckets OrderReadFault = ReadFault
status_of_buckets OrderTooLong = TooLong Buckets
status_of_buckets OrderOutOfMemory = OutOfMemory

abbrev pub status_of_plan : PlanError → Status
status_of_plan (PlanIsRefused kind line) = PlanRefused kind line
status_of_plan PlanReadFault = ReadFault
status_of_plan PlanTooLong = TooLong Schedule
status_of_plan PlanOutOfMemory = OutOfMemory

abbrev pub status_of_cubes : CubeError → Status
status_of_cubes (cubes.Refused kind line) = CubeRefused kind line
status_of_cubes cubes.ReadFault = ReadFault
status_of_cubes cubes.TooLong = TooLong Cubes
status_of_cubes cubes.OutOfMemory = OutOfMemory

abbrev pub status_of_check : CheckError → Status
status_of_check CheckReadFault = ReadFault
status_of_check CheckTooLong = TooLong ProofIn
status_of_check CheckOutOfMemory = OutOfMemory

abbrev pub status_of_convert : ConvertError → Status
status_of_convert ConvertReadFault = ReadFault
status_of_convert ConvertTooLong = TooLong ProofIn
status_of_convert ConvertOutOfMemory = OutOfMemory
status_of_convert ConvertWriteFault = WriteFault

abbrev pub status_of_run : RunError → Status
status_of_run RunOutOfMemory = OutOfMemory
status_of_run RunWriteFault = WriteFault
