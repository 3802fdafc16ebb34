-- How the calls that answer, and those that make a text, make their stages.
use Rattle.std.proofs.Common.{◌≡◌, ℕ, Bool, List, refl, sym, ap, ◌∙◌, subst, Some, None, Ok, Err, IsOk, inl, inr}
use Rattle.std.specs.Prelude.{Result, Option, ⊤, IsErr}
use Rattle.cnf_base.specs.Formula.{Formula}
use Rattle.host_io.specs.declared.role.Role.{Role}
use Rattle.host_io.specs.declared.role.Role.TheVariants.{Cnf, Order, Buckets, Schedule, ProofIn, Cubes, ProofOut, Made, Out}
use Rattle.host_io.specs.declared.source.Failed.{Failed}
use Rattle.host_io.specs.Channel.{Channel}
use Rattle.host_io.specs.Files.{Files, FilesBut, Opens, Others, Kept}
use Rattle.schedule_plan.specs.declared.plan.Move.{Move}
use Rattle.term_runner.specs.declared.outcome.Run.{Run as Ending}
use Rattle.bdd_terms.specs.declared.error.RunError.{RunError}
use Rattle.command_line.specs.Command.{ToBench, ToMake, ToOrder}
use Rattle.solver_cli.specs.declared.status.Status.{Status}
use Rattle.solver_cli.specs.declared.status.Status.TheVariants.{WriteFault, OutOfMemory}
use Rattle.solver_cli.specs.Answer.{AreOfBoard, IsOrderOf, ending_text}
use Rattle.solver_cli.specs.ExitCode.{status_of_run}
use Rattle.solver_cli.specs.MadeText.{made_text, order_line}
use Rattle.solver_cli.specs.Phases.{TakesFormula, WritesProof, PutsText}
use Rattle.solver_cli.specs.Stages.{Job, LeavesInputs, NoneRead, FormulaAlone, streams_of, bench_job, CameToAnswer, CameToArrange}
use Rattle.solver_cli.specs.Stages.{CameToBench}
use Rattle.solver_cli.specs.Stages.{CameToMake, CameToWrite, status_after, status_of_written}
use Rattle.solver_cli.proofs.Staged.{still_taken, still_written, printed_from}

by_proof : {old new : Role → Channel} → Others ProofOut old new → LeavesInputs old new
by_proof beside = record {
  cnf = beside Cnf refl;
  order = beside Order refl;
  buckets = beside Buckets refl;
  schedule = beside Schedule refl;
  judged = beside ProofIn refl;
  cubes = beside Cubes refl;
  made = beside Made refl;
}

by_out : {old new : Role → Channel} → Others Out old new → LeavesInputs old new
by_out beside = record {
  cnf = beside Cnf refl;
  order = beside Order refl;
  buckets = beside Buckets refl;
  schedule = beside Schedule refl;
  judged = beside ProofIn refl;
  cubes = beside Cubes refl;
  made = beside Made refl;
}

then : {a b c : Role → Channel} → LeavesInputs a b → LeavesInputs b c → LeavesInputs a c
then p q = record {
  cnf = q.cnf ∙ p.cnf;
  order = q.order ∙ p.order;
  buckets = q.buckets ∙ p.buckets;
  schedule = q.schedule ∙ p.schedule;
  judged = q.judged ∙ p.judged;
  cubes = q.cubes ∙ p.cubes;
  made = q.made ∙ p.made;
}

pub leaves_created : {old created : Role → Channel} → Others ProofOut old created → LeavesInputs old created
leaves_created = by_proof

pub leaves_proved : {old created proved : Role → Channel} → Others ProofOut old created → Others ProofOut created proved
    → LeavesInputs old proved
leaves_proved creates proves = then (by_proof creates) (by_proof proves)

pub leaves_printed : {old created proved new : Role → Channel} → Others ProofOut old created → Others ProofOut created proved
    → Others Out proved new → LeavesInputs old new
leaves_printed creates proves puts = then (leaves_proved creates proves) (by_out puts)

pub uncreated : {tells : Bool} {old new : Role → Channel} {problem : Formula} {order : List ℕ} {moves : List Move} {job : Job}
    {answer : Result ⊤ Failed}
    → Opens (old ProofOut) (new ProofOut) job.proof answer → IsErr answer → Others ProofOut old new
    → CameToAnswer tells (old ProofOut) (new ProofOut) (old Out) (new Out) problem order moves job WriteFault
uncreated {answer = answer} opens failed beside = inl (record {
  answer = answer;
  failed = failed;
  opens = opens;
  same = beside Out refl;
  ends = refl;
})

pub undecided : {tells : Bool} {old created new : Role → Channel} {problem : Formula} {order : List ℕ} {moves : List Move} {job : Job}
    {answer : Result ⊤ Failed} {error : RunError} {status : Status}
    → Opens (old ProofOut) (created ProofOut) job.proof answer → IsOk answer → Others ProofOut old created
    → WritesProof job.parity tells (created ProofOut) (new ProofOut) problem order moves job.limits (Err error) → Others ProofOut created new → status
    ≡ status_of_run error
    → CameToAnswer tells (old ProofOut) (new ProofOut) (old Out) (new Out) problem order moves job status
undecided {created = created} {answer = answer} {error = error} opens done beside_created writes beside_new ends = inr (inl (record {
  created = created ProofOut;
  created_answer = answer;
  done = done;
  opens = opens;
  error = error;
  writes = writes;
  same = beside_new Out refl ∙ beside_created Out refl;
  ends = ends;
}))

pub answered : {tells : Bool} {old created proved new : Role → Channel} {problem : Formula} {order : List ℕ} {moves : List Move} {job : Job}
    {answer : Result ⊤ Failed} {ending : Ending} {printed : Result ⊤ Failed} {status : Status}
    → Opens (old ProofOut) (created ProofOut) job.proof answer → IsOk answer → Others ProofOut old created
    → WritesProof job.parity tells (created ProofOut) (proved ProofOut) problem order moves job.limits (Ok ending) → Others ProofOut created proved
    → PutsText tells (proved Out) (new Out) (ending_text job.shape job.limits ending) printed → Others Out proved new → status
    ≡ status_after ending printed
    → CameToAnswer tells (old ProofOut) (new ProofOut) (old Out) (new Out) problem order moves job status
answered {created = created} {answer = answer} {ending = ending} {printed = printed} opens done beside_created writes beside_proved puts
    beside_new ends = inr (inr (record {
      created = created ProofOut;
      created_answer = answer;
      done = done;
      opens = opens;
      ending = ending;
      writes = still_written (beside_new ProofOut refl) writes;
      printed = printed;
      puts = printed_from (beside_proved Out refl ∙ beside_created Out refl) puts;
      ends = ends;
    }))

none_some : {name : List ℕ} → ◌≡◌ {A = Option (List ℕ)} None (Some name) → ⊥
none_some e = cc

-- no file but the proof's was changed
pub files_answered : {old created proved new : Role → Channel} {before created_files proved_files new_files : Files} → (old Out).name ≡ None
    → Kept ProofOut (created ProofOut).name old created before created_files
    → Kept ProofOut (created ProofOut).name created proved created_files proved_files → (proved ProofOut).name ≡ (created ProofOut).name
    → Kept Out (proved Out).name proved new proved_files new_files → FilesBut (new ProofOut).name before new_files
files_answered {created = created} {proved = proved} {new = new} unnamed creates proves same puts file own =
    puts.files file (λ e. none_some (sym out_none ∙ e)) ∙ proves.files file not_created ∙ creates.files file not_created where
      out_none : (proved Out).name ≡ None
      out_none = ap (λ (c : Channel). c.name) (proves.others Out refl ∙ creates.others Out refl) ∙ unnamed

      not_created : (created ProofOut).name ≡ Some file → ⊥
      not_created e = own (ap (λ (c : Channel). c.name) (puts.others ProofOut refl) ∙ same ∙ e)

-- memory for a board ran out
pub unmade : {tells : Bool} {task : ToBench} {status : Status} (old new : Role → Channel) → streams_of new ≡ streams_of old → status
    ≡ OutOfMemory → CameToBench tells (streams_of old) (streams_of new) task status
unmade old new same ends = inl (record { same = same; ends = ends })

pub benched : {tells : Bool} {task : ToBench} {problem : Formula} {order : List ℕ} {moves : List Move} {status : Status} (old new : Role
    → Channel)
    → AreOfBoard task.size problem order moves → LeavesInputs old new
    → CameToAnswer tells (old ProofOut) (new ProofOut) (old Out) (new Out) problem order moves (bench_job task problem) status
    → CameToBench tells (streams_of old) (streams_of new) task status
benched {problem = problem} {order = order} {moves = moves} old new board leaves came = inr (record {
  problem = problem;
  order = order;
  moves = moves;
  board = board;
  none_read = record {
    cnf = leaves.cnf;
    order = leaves.order;
    buckets = leaves.buckets;
    schedule = leaves.schedule;
    judged = leaves.judged;
    cubes = leaves.cubes;
  };
  made = leaves.made;
  came = came;
})

none_read : {old new : Role → Channel} → Others Made old new → NoneRead (streams_of old) (streams_of new)
none_read beside = record {
  cnf = beside Cnf refl;
  order = beside Order refl;
  buckets = beside Buckets refl;
  schedule = beside Schedule refl;
  judged = beside ProofIn refl;
  cubes = beside Cubes refl;
}

both_calls : {a b c : Role → Channel} → Others Made a b → Others Made b c → Others Made a c
both_calls first second role other = second role other ∙ first role other

-- the text's file was not created
pub file_uncreated : {tells : Bool} {file text : List ℕ} {answer : Result ⊤ Failed} {old new : Channel}
    → Opens old new file answer → IsErr answer → CameToWrite tells old new file text WriteFault
file_uncreated {answer = answer} opens failed = inl (record { answer = answer; failed = failed; opens = opens; ends = refl })

-- it was created, and the text was written or not
pub written : {tells : Bool} {file text : List ℕ} {answer put : Result ⊤ Failed} {status : Status} {old created new : Channel}
    → Opens old created file answer → IsOk answer → PutsText tells created new text put → status ≡ status_of_written put
    → CameToWrite tells old new file text status
written {answer = answer} {put = put} {created = created} opens done puts ends = inr (record {
  created = created;
  created_answer = answer;
  done = done;
  opens = opens;
  written = put;
  puts = puts;
  ends = ends;
})

-- the board was made, and its text written or not
pub board_made : {tells : Bool} {task : ToMake} {status : Status} (old new : Role → Channel) → Others Made old new
    → CameToWrite tells (old Made) (new Made) task.file (made_text task.part task.size) status
    → CameToMake tells (streams_of old) (streams_of new) task status
board_made old new beside came = inr (record {
  none_read = none_read beside;
  proof = beside ProofOut refl;
  out = beside Out refl;
  came = came;
})

pub board_text : {tells : Bool} {task : ToMake} {answer put : Result ⊤ Failed} {status : Status} (old created new : Role → Channel)
    → Opens (old Made) (created Made) task.file answer → IsOk answer → Others Made old created
    → PutsText tells (created Made) (new Made) (made_text task.part task.size) put → Others Made created new → status
    ≡ status_of_written put → CameToMake tells (streams_of old) (streams_of new) task status
board_text old created new opens done creates puts beside ends =
    board_made old new (both_calls creates beside) (written opens done puts ends)

-- the formula was taken, and no other file is read
formula_alone : {old taken new : Role → Channel} → Others Cnf old taken → Others Made taken new
    → FormulaAlone (streams_of old) (streams_of new)
formula_alone takes beside = record {
  order = beside Order refl ∙ takes Order refl;
  buckets = beside Buckets refl ∙ takes Buckets refl;
  schedule = beside Schedule refl ∙ takes Schedule refl;
  judged = beside ProofIn refl ∙ takes ProofIn refl;
  cubes = beside Cubes refl ∙ takes Cubes refl;
  proof = beside ProofOut refl ∙ takes ProofOut refl;
  out = beside Out refl ∙ takes Out refl;
}

-- memory for the order ran out
pub unarranged : {tells : Bool} {task : ToOrder} {problem : Formula} {files : Files} {status : Status} (old taken : Role → Channel)
    → TakesFormula task.mode tells (old Cnf) (taken Cnf) files task.file (Ok problem) → Others Cnf old taken → status ≡ OutOfMemory
    → CameToArrange tells (streams_of old) (streams_of taken) files task status
unarranged {problem = problem} old taken takes beside ends = inr (inl (record {
  problem = problem;
  takes = takes;
  alone = formula_alone beside (λ role other. refl);
  made = beside Made refl;
  ends = ends;
}))

-- the order was made, and its text written or not
pub arranged : {tells : Bool} {task : ToOrder} {problem : Formula} {order : List ℕ} {files : Files} {status : Status} (old taken new : Role
    → Channel) → TakesFormula task.mode tells (old Cnf) (taken Cnf) files task.file (Ok problem) → Others Cnf old taken
    → IsOrderOf problem.vars order → Others Made taken new
    → CameToWrite tells (taken Made) (new Made) task.out (order_line order) status
    → CameToArrange tells (streams_of old) (streams_of new) files task status
arranged {tells = tells} {task = task} {problem = problem} {order = order} {status = status} old taken new takes beside_taken ordered beside_new
    came = inr (inr (record {
      problem = problem;
      takes = still_taken task.mode (beside_new Cnf refl) takes;
      alone = formula_alone beside_taken beside_new;
      order = order;
      ordered = ordered;
      came = subst (λ (c : Channel). CameToWrite tells c (new Made) task.out (order_line order) status) (beside_taken Made refl) came;
    }))

pub order_text : {tells : Bool} {task : ToOrder} {problem : Formula} {order : List ℕ} {files : Files} {answer put : Result ⊤ Failed}
    {status : Status} (old taken created new : Role → Channel)
    → TakesFormula task.mode tells (old Cnf) (taken Cnf) files task.file (Ok problem) → Others Cnf old taken → IsOrderOf problem.vars order
    → Opens (taken Made) (created Made) task.out answer → IsOk answer → Others Made taken created
    → PutsText tells (created Made) (new Made) (order_line order) put → Others Made created new → status ≡ status_of_written put
    → CameToArrange tells (streams_of old) (streams_of new) files task status
order_text old taken created new takes beside_taken ordered opens done creates puts beside ends =
    arranged old taken new takes beside_taken ordered (both_calls creates beside) (written opens done puts ends)
