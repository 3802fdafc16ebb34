-- Failed calls are told, and a read fault leaves no byte, from how far a run came.
use Rattle.std.proofs.Common.{◌≡◌, [], refl, ap, ◌∙◌, Some, None, Ok, Err, IsTrue, inl, inr}
use Rattle.std.specs.Prelude.{◌≢◌, ◌⊎◌, Bool, ℕ, ℤ, List, Option, Result, IsOk, ⊤}
use Rattle.host_io.specs.Channel.{Channel, Rose}
use Rattle.host_io.specs.Files.{Files, IsInput, IsCreated}
use Rattle.host_io.specs.declared.source.Failed.{Failed}
use Rattle.host_io.specs.declared.role.Role.{Role}
use Rattle.host_io.specs.declared.role.Role.TheVariants.{Cnf, Order, Buckets, Schedule, ProofIn, Cubes, ProofOut, Made, Out, Err as ErrRole}
use Rattle.proof_judging.specs.declared.verdict.Verdict.{Verdict}
use Rattle.proof_judging.specs.declared.verdict.CheckError.TheVariants as check_error
use Rattle.drat_proof.specs.declared.error.ConvertError.{ConvertError}
use Rattle.drat_proof.specs.declared.error.ConvertError.TheVariants as convert_error
use Rattle.cnf_base.specs.Formula.{Formula}
use Rattle.schedule_plan.specs.declared.plan.Move.{Move}
use Rattle.term_runner.specs.declared.outcome.Run.{Run as Ending}
use Rattle.bdd_terms.specs.declared.error.RunError.{RunError}
use Rattle.bdd_terms.specs.declared.error.RunError.TheVariants as run_error
use Rattle.dimacs_reader.specs.declared.mode.Mode.{Mode}
use Rattle.command_line.specs.Command.{ToSolve, ToAsk, ToCheck, ToBench, ToMake, ToOrder, ToConvert, ToTrim, Convert, command}
use Rattle.solver_cli.specs.declared.status.Status.{Status}
use Rattle.solver_cli.specs.declared.status.Status.TheVariants.{Usage, ReadFault, WriteFault, OutOfMemory}
use Rattle.solver_cli.specs.ExitCode.{status_of_buckets, status_of_error, status_of_order, status_of_plan, status_of_run, status_of_check}
use Rattle.solver_cli.specs.ExitCode.{status_of_convert, status_of_cubes}
use Rattle.cube_queries.specs.declared.answer.Outcome.{Outcome as Replies}
use Rattle.solver_cli.specs.ConvertedProof.{RewritesProof}
use Rattle.solver_cli.specs.TrimmedProof.{PutsNamed}
use Rattle.solver_cli.specs.Stages.{Streams, streams_of, Misused, Helped, Untaken, Unordered, Unbucketed, Unplanned, NoneRead, Job, Solved}
use Rattle.solver_cli.specs.Stages.{Benched, Unjudged, Judged, FormulaAlone, Came, CameToAnswer, CameToArrange, CameToBench, CameToCheck}
use Rattle.solver_cli.specs.Stages.{CameToConvert, CameToKeep, CameToTrim, Converted, Rejected, ShowsVerdict, Trimmed, Unconverted}
use Rattle.solver_cli.specs.Stages.{Untrimmed}
use Rattle.solver_cli.specs.Stages.{CameToAsk, CameToReply, Questioned, Uncubed, status_after_replies}
use Rattle.solver_cli.specs.Stages.{CameToMake, CameToWrite, Stages, status_of_help, status_after, status_of_printed, status_of_written}
use Rattle.solver_cli.specs.Run.{Run, written_in}
use Rattle.solver_cli.specs.Faults.{ConvertsAsItReads, FailuresAreTold, ends_in_proof}
use Rattle.solver_cli.proofs.Facts.{behind, nothing_more}
use Rattle.solver_cli.proofs.Reading.{ok_err, same_error}
use Rattle.solver_cli.specs.Phases.{TakesFormula, buckets_file}
use Rattle.solver_cli.proofs.Served.{order_served, buckets_served, plan_served}
use Rattle.solver_cli.proofs.Promised.{QuietAtFaults}
use Rattle.solver_cli.proofs.Accepted.{accepts_answer}
use Rattle.solver_cli.proofs.Verdicts.{accepts_verdict}
use Rattle.solver_cli.proofs.Questions.{accepts_replies}

-- no stream that a run serves gained a byte, but maybe the proof that is written
pub record IsQuiet (old new : Streams) : Type 0 where
  pub cnf : new.cnf.written ≡ old.cnf.written
  pub order : new.order.written ≡ old.order.written
  pub buckets : new.buckets.written ≡ old.buckets.written
  pub schedule : new.schedule.written ≡ old.schedule.written
  pub judged : new.judged.written ≡ old.judged.written
  pub cubes : new.cubes.written ≡ old.cubes.written
  pub made : new.made.written ≡ old.made.written
  pub out : new.out.written ≡ old.out.written

-- The counts of these streams and their bytes, by how the run ended; after a read fault the proof that is written gained a byte only
-- where it was being converted.
pub record Told (converting : Type 0) (old new : Streams) (status : Status) : Type 0 where
  pub quiet : status ≡ ReadFault → IsQuiet old new
  pub quiet_proof : status ≡ ReadFault → (new.proof.written ≡ old.proof.written) ⊎ converting
  pub cnf : status ≢ ReadFault → new.cnf.faults ≡ old.cnf.faults
  pub order : status ≢ ReadFault → new.order.faults ≡ old.order.faults
  pub buckets : status ≢ ReadFault → new.buckets.faults ≡ old.buckets.faults
  pub schedule : status ≢ ReadFault → new.schedule.faults ≡ old.schedule.faults
  pub judged : status ≢ ReadFault → new.judged.faults ≡ old.judged.faults
  pub cubes : status ≢ ReadFault → new.cubes.faults ≡ old.cubes.faults
  pub proof : status ≢ WriteFault → new.proof.faults ≡ old.proof.faults
  pub made : status ≢ WriteFault → new.made.faults ≡ old.made.faults
  pub out : status ≢ WriteFault → new.out.faults ≡ old.out.faults

faults_of : {old new : Channel} → new ≡ old → new.faults ≡ old.faults
faults_of same = ap (λ (c : Channel). c.faults) same

written_of : {old new : Channel} → new ≡ old → new.written ≡ old.written
written_of same = ap (λ (c : Channel). c.written) same

help_read : {status : Status} (printed : Result ⊤ Failed) → status ≡ status_of_help printed → status ≡ ReadFault → ⊥
help_read (Ok x) ends e = cc
help_read (Err f) ends e = cc

run_read : {status : Status} (error : RunError) → status ≡ status_of_run error → status ≡ ReadFault → ⊥
run_read run_error.OutOfMemory ends e = cc
run_read run_error.WriteFault ends e = cc

answer_read : {status : Status} (ending : Ending) (printed : Result ⊤ Failed) → status ≡ status_after ending printed → status ≡ ReadFault
    → ⊥
answer_read {status = status} ending (Ok x) ends e = (accepts_answer status ending.outcome ends).read e
answer_read ending (Err f) ends e = cc

verdict_read : {status : Status} (verdict : Verdict) (printed : Result ⊤ Failed) → status ≡ status_of_printed verdict printed → status
    ≡ ReadFault → ⊥
verdict_read {status = status} verdict (Ok x) ends e = (accepts_verdict status verdict ends).read e
verdict_read verdict (Err f) ends e = cc

no_memory : {status : Status} → status ≡ OutOfMemory → status ≡ ReadFault → ⊥
no_memory d e = cc

misused_read : {words : List (List ℕ)} {old new : Streams} {status : Status} → Misused words old new status → status ≡ ReadFault → ⊥
misused_read m e = elim m.ends [ inl faulty ↦ usage faulty.0 e | inr memory ↦ no_memory memory e ] where
  usage : {status : Status} → status ≡ Usage → status ≡ ReadFault → ⊥
  usage d e = cc

no_writing : {status : Status} → status ≡ WriteFault → status ≡ ReadFault → ⊥
no_writing d e = cc

help_ok : (printed : Result ⊤ Failed) → status_of_help printed ≢ WriteFault → IsOk printed
help_ok (Ok x) differs = refl
help_ok (Err e) differs = absurd (differs refl)

answer_ok : (ending : Ending) (printed : Result ⊤ Failed) → status_after ending printed ≢ WriteFault → IsOk printed
answer_ok ending (Ok x) differs = refl
answer_ok ending (Err e) differs = absurd (differs refl)

verdict_ok : (verdict : Verdict) (printed : Result ⊤ Failed) → status_of_printed verdict printed ≢ WriteFault → IsOk printed
verdict_ok verdict (Ok x) differs = refl
verdict_ok verdict (Err e) differs = absurd (differs refl)

-- nothing was done at all
idle : {converting : Type 0} {old new : Streams} {status : Status} → (status ≡ ReadFault → ⊥) → new ≡ old → Told converting old new status
idle unread same = record {
  quiet = λ e. absurd (unread e);
  quiet_proof = λ e. absurd (unread e);
  cnf = λ _. ap (λ (s : Streams). s.cnf.faults) same;
  order = λ _. ap (λ (s : Streams). s.order.faults) same;
  buckets = λ _. ap (λ (s : Streams). s.buckets.faults) same;
  schedule = λ _. ap (λ (s : Streams). s.schedule.faults) same;
  judged = λ _. ap (λ (s : Streams). s.judged.faults) same;
  cubes = λ _. ap (λ (s : Streams). s.cubes.faults) same;
  proof = λ _. ap (λ (s : Streams). s.proof.faults) same;
  made = λ _. ap (λ (s : Streams). s.made.faults) same;
  out = λ _. ap (λ (s : Streams). s.out.faults) same;
}

helped : {converting : Type 0} {tells : Bool} {words : List (List ℕ)} {old new : Streams} {status : Status} → Helped tells words old new status
    → Told converting old new status
helped h = record {
  quiet = λ e. absurd (help_read h.shows.printed h.shows.ends e);
  quiet_proof = λ e. absurd (help_read h.shows.printed h.shows.ends e);
  cnf = λ _. faults_of h.cnf;
  order = λ _. faults_of h.order;
  buckets = λ _. faults_of h.buckets;
  schedule = λ _. faults_of h.schedule;
  judged = λ _. faults_of h.judged;
  cubes = λ _. faults_of h.cubes;
  proof = λ _. faults_of h.proof;
  made = λ _. faults_of h.made;
  out = λ differs. h.shows.puts.unfailed (help_ok h.shows.printed (λ e. differs (h.shows.ends ∙ e)));
}

untaken : {converting : Type 0} {mode : Mode} {tells : Bool} {old new : Streams} {files : Files} {file : List ℕ} {status : Status}
    → Untaken mode tells old new files file status → Told converting old new status
untaken u = record {
  quiet = λ _. record {
    cnf = u.takes.written;
    order = written_of u.order;
    buckets = written_of u.buckets;
    schedule = written_of u.schedule;
    judged = written_of u.judged;
    cubes = written_of u.cubes;
    made = written_of u.made;
    out = written_of u.out;
  };
  quiet_proof = λ _. inl (written_of u.proof);
  cnf = λ differs. u.takes.unfailed (λ e. differs (u.ends ∙ ap status_of_error (same_error e)));
  order = λ _. faults_of u.order;
  buckets = λ _. faults_of u.buckets;
  schedule = λ _. faults_of u.schedule;
  judged = λ _. faults_of u.judged;
  cubes = λ _. faults_of u.cubes;
  proof = λ _. faults_of u.proof;
  made = λ _. faults_of u.made;
  out = λ _. faults_of u.out;
}

unordered : {converting : Type 0} {mode : Mode} {tells : Bool} {old new : Streams} {files : Files} {file : List ℕ}
    {named : Option (List ℕ)} {status : Status} → Unordered mode tells old new files file named status → Told converting old new status
unordered {named = named} u =
    let served = order_served named u.orders in
    record {
      quiet = λ _. record {
        cnf = u.takes.written;
        order = served.written;
        buckets = written_of u.buckets;
        schedule = written_of u.schedule;
        judged = written_of u.judged;
        cubes = written_of u.cubes;
        made = written_of u.made;
        out = written_of u.out;
      };
      quiet_proof = λ _. inl (written_of u.proof);
      cnf = λ _. u.takes.unfailed (λ e. ok_err e);
      order = λ differs. served.unfailed (λ e. differs (u.ends ∙ ap status_of_order (same_error e)));
      buckets = λ _. faults_of u.buckets;
      schedule = λ _. faults_of u.schedule;
      judged = λ _. faults_of u.judged;
      cubes = λ _. faults_of u.cubes;
      proof = λ _. faults_of u.proof;
      made = λ _. faults_of u.made;
      out = λ _. faults_of u.out;
    }

unbucketed : {converting : Type 0} {tells : Bool} {old new : Streams} {files : Files} {task : ToSolve} {status : Status}
    → Unbucketed tells old new files task status → Told converting old new status
unbucketed {task = task} u =
    let orders = order_served task.order u.orders in
    let served = buckets_served (buckets_file task.plan) u.bucketed in
    record {
      quiet = λ _. record {
        cnf = u.takes.written;
        order = orders.written;
        buckets = served.written;
        schedule = written_of u.schedule;
        judged = written_of u.judged;
        cubes = written_of u.cubes;
        made = written_of u.made;
        out = written_of u.out;
      };
      quiet_proof = λ _. inl (written_of u.proof);
      cnf = λ _. u.takes.unfailed (λ e. ok_err e);
      order = λ _. orders.unfailed (λ e. ok_err e);
      buckets = λ differs. served.unfailed (λ e. differs (u.ends ∙ ap status_of_buckets (same_error e)));
      schedule = λ _. faults_of u.schedule;
      judged = λ _. faults_of u.judged;
      cubes = λ _. faults_of u.cubes;
      proof = λ _. faults_of u.proof;
      made = λ _. faults_of u.made;
      out = λ _. faults_of u.out;
    }

unplanned : {converting : Type 0} {tells : Bool} {old new : Streams} {files : Files} {task : ToSolve} {status : Status}
    → Unplanned tells old new files task status → Told converting old new status
unplanned {task = task} u =
    let orders = order_served task.order u.orders in
    let split = buckets_served (buckets_file task.plan) u.bucketed in
    let plans = plan_served task.plan u.plans in
    record {
      quiet = λ _. record {
        cnf = u.takes.written;
        order = orders.written;
        buckets = split.written;
        schedule = plans.written;
        judged = written_of u.judged;
        cubes = written_of u.cubes;
        made = written_of u.made;
        out = written_of u.out;
      };
      quiet_proof = λ _. inl (written_of u.proof);
      cnf = λ _. u.takes.unfailed (λ e. ok_err e);
      order = λ _. orders.unfailed (λ e. ok_err e);
      buckets = λ _. split.unfailed (λ e. ok_err e);
      schedule = λ differs. plans.unfailed (λ e. differs (u.ends ∙ ap status_of_plan (same_error e)));
      judged = λ _. faults_of u.judged;
      cubes = λ _. faults_of u.cubes;
      proof = λ _. faults_of u.proof;
      made = λ _. faults_of u.made;
      out = λ _. faults_of u.out;
    }

-- the calls of the two streams that an answer is written to
record AnswerTold (old new old_out new_out : Channel) (status : Status) : Type 0 where
  pub unread : status ≡ ReadFault → ⊥
  pub proof : status ≢ WriteFault → new.faults ≡ old.faults
  pub out : status ≢ WriteFault → new_out.faults ≡ old_out.faults

answer_told : {tells : Bool} {old new old_out out : Channel} {problem : Formula} {order : List ℕ} {moves : List Move} {job : Job}
    {status : Status}
    → CameToAnswer tells old new old_out out problem order moves job status → AnswerTold old new old_out out status
answer_told (inl u) = record { unread = no_writing u.ends; proof = λ differs. absurd (differs u.ends); out = λ _. faults_of u.same }
answer_told (inr (inl u)) = record {
  unread = run_read u.error u.ends;
  proof = λ differs. u.writes.unfailed (λ e. differs (u.ends ∙ ap status_of_run (same_error e))) ∙ u.opens.faults.unfailed u.done;
  out = λ _. faults_of u.same;
}
answer_told (inr (inr a)) = record {
  unread = answer_read a.ending a.printed a.ends;
  proof = λ _. a.writes.unfailed (λ e. ok_err e) ∙ a.opens.faults.unfailed a.done;
  out = λ differs. a.puts.unfailed (answer_ok a.ending a.printed (λ e. differs (a.ends ∙ e)));
}

-- what was had before the proof's file failed no call
solved : {converting : Type 0} {tells : Bool} {old new : Streams} {files : Files} {task : ToSolve} {status : Status} → Solved tells old new files task status
    → Told converting old new status
solved {task = task} s =
    let p = s.prepared in
    let answer = answer_told s.came in
    record {
      quiet = λ e. absurd (answer.unread e);
      quiet_proof = λ e. absurd (answer.unread e);
      cnf = λ _. p.takes.unfailed (λ e. ok_err e);
      order = λ _. (order_served task.order p.orders).unfailed (λ e. ok_err e);
      buckets = λ _. (buckets_served (buckets_file task.plan) p.bucketed).unfailed (λ e. ok_err e);
      schedule = λ _. (plan_served task.plan p.plans).unfailed (λ e. ok_err e);
      judged = λ _. faults_of p.judged;
      cubes = λ _. faults_of p.cubes;
      proof = answer.proof;
      made = λ _. faults_of p.made;
      out = answer.out;
    }

benched : {converting : Type 0} {tells : Bool} {old new : Streams} {task : ToBench} {status : Status} → Benched tells old new task status → Told converting old new status
benched b =
    let answer = answer_told b.came in
    record {
      quiet = λ e. absurd (answer.unread e);
      quiet_proof = λ e. absurd (answer.unread e);
      cnf = λ _. faults_of b.none_read.cnf;
      order = λ _. faults_of b.none_read.order;
      buckets = λ _. faults_of b.none_read.buckets;
      schedule = λ _. faults_of b.none_read.schedule;
      judged = λ _. faults_of b.none_read.judged;
      cubes = λ _. faults_of b.none_read.cubes;
      proof = answer.proof;
      made = λ _. faults_of b.made;
      out = answer.out;
    }

-- only the text's file was called
only_made : {converting : Type 0} {old new : Streams} {status : Status} → (status ≡ ReadFault → ⊥) → NoneRead old new → new.proof ≡ old.proof → new.out ≡ old.out
    → (status ≢ WriteFault → new.made.faults ≡ old.made.faults) → Told converting old new status
only_made unread none proof out made = record {
  quiet = λ e. absurd (unread e);
  quiet_proof = λ e. absurd (unread e);
  cnf = λ _. faults_of none.cnf;
  order = λ _. faults_of none.order;
  buckets = λ _. faults_of none.buckets;
  schedule = λ _. faults_of none.schedule;
  judged = λ _. faults_of none.judged;
  cubes = λ _. faults_of none.cubes;
  proof = λ _. faults_of proof;
  made = made;
  out = λ _. faults_of out;
}

written_read : {status : Status} (written : Result ⊤ Failed) → status ≡ status_of_written written → status ≡ ReadFault → ⊥
written_read (Ok x) ends e = cc
written_read (Err f) ends e = cc

written_ok : (written : Result ⊤ Failed) → status_of_written written ≢ WriteFault → IsOk written
written_ok (Ok x) differs = refl
written_ok (Err e) differs = absurd (differs refl)

-- the text's file, whatever the text
write_unread : {tells : Bool} {old new : Channel} {file text : List ℕ} {status : Status} → CameToWrite tells old new file text status
    → status ≡ ReadFault → ⊥
write_unread (inl u) = no_writing u.ends
write_unread (inr w) = written_read w.written w.ends

write_told : {tells : Bool} {old new : Channel} {file text : List ℕ} {status : Status} → CameToWrite tells old new file text status
    → status ≢ WriteFault → new.faults ≡ old.faults
write_told (inl u) differs = absurd (differs u.ends)
write_told (inr w) differs = w.puts.unfailed (written_ok w.written (λ e. differs (w.ends ∙ e))) ∙ w.opens.faults.unfailed w.done

-- only the formula's file and the text's were called
formula_and_text : {converting : Type 0} (mode : Mode) {tells : Bool} {old new : Streams} {files : Files} {file : List ℕ} {problem : Formula} {status : Status}
    → TakesFormula mode tells old.cnf new.cnf files file (Ok problem) → FormulaAlone old new → (status ≡ ReadFault → ⊥)
    → (status ≢ WriteFault → new.made.faults ≡ old.made.faults) → Told converting old new status
formula_and_text mode takes alone unread made = record {
  quiet = λ e. absurd (unread e);
  quiet_proof = λ e. absurd (unread e);
  cnf = λ _. takes.unfailed (λ e. ok_err e);
  order = λ _. faults_of alone.order;
  buckets = λ _. faults_of alone.buckets;
  schedule = λ _. faults_of alone.schedule;
  judged = λ _. faults_of alone.judged;
  cubes = λ _. faults_of alone.cubes;
  proof = λ _. faults_of alone.proof;
  made = made;
  out = λ _. faults_of alone.out;
}

unjudged : {converting : Type 0} {tells : Bool} {old new : Streams} {files : Files} {task : ToCheck} {status : Status} → Unjudged tells old new files task status
    → Told converting old new status
unjudged u = record {
  quiet = λ _. record {
    cnf = u.takes.written;
    order = written_of u.order;
    buckets = written_of u.buckets;
    schedule = written_of u.schedule;
    judged = u.judges.written;
    cubes = written_of u.cubes;
    made = written_of u.made;
    out = written_of u.out;
  };
  quiet_proof = λ _. inl (written_of u.proof);
  cnf = λ _. u.takes.unfailed (λ e. ok_err e);
  order = λ _. faults_of u.order;
  buckets = λ _. faults_of u.buckets;
  schedule = λ _. faults_of u.schedule;
  judged = λ differs. u.judges.unfailed (λ e. differs (u.ends ∙ ap status_of_check (same_error e)));
  cubes = λ _. faults_of u.cubes;
  proof = λ _. faults_of u.proof;
  made = λ _. faults_of u.made;
  out = λ _. faults_of u.out;
}

judged : {converting : Type 0} {tells : Bool} {old new : Streams} {files : Files} {task : ToCheck} {status : Status} → Judged tells old new files task status
    → Told converting old new status
judged j = record {
  quiet = λ e. absurd (verdict_read j.verdict j.printed j.ends e);
  quiet_proof = λ e. absurd (verdict_read j.verdict j.printed j.ends e);
  cnf = λ _. j.takes.unfailed (λ e. ok_err e);
  order = λ _. faults_of j.order;
  buckets = λ _. faults_of j.buckets;
  schedule = λ _. faults_of j.schedule;
  judged = λ _. j.judges.unfailed (λ e. cc);
  cubes = λ _. faults_of j.cubes;
  proof = λ _. faults_of j.proof;
  made = λ _. faults_of j.made;
  out = λ differs. j.puts.unfailed (verdict_ok j.verdict j.printed (λ e. differs (j.ends ∙ e)));
}

-- a proof that was being converted, told of the streams
abbrev pub IsConverting : List (List ℕ) → Streams → Streams → Status → Type 0
IsConverting words old new status = ((task : ToConvert) × (command words ≡ Some (Convert task)))
    × (Rose old.judged.faults new.judged.faults ⊎ IsTrue (ends_in_proof status))

unconverted : {tells : Bool} (words : List (List ℕ)) {old new : Streams} {files : Files} {task : ToConvert} {status : Status}
    → command words ≡ Some (Convert task) → Unconverted tells old new files task status → Told (IsConverting words old new status) old new status
unconverted {tells = tells} words {old = old} {new = new} {files = files} {task = task} {status = status} asked u = record {
  quiet = λ _. record {
    cnf = u.takes.written;
    order = written_of u.order;
    buckets = written_of u.buckets;
    schedule = written_of u.schedule;
    judged = u.rewrites.read_written;
    cubes = written_of u.cubes;
    made = written_of u.made;
    out = written_of u.out;
  };
  quiet_proof = λ e. inr ((task, asked), inl (failed u.error u.rewrites u.ends e));
  cnf = λ _. u.takes.unfailed (λ e. ok_err e);
  order = λ _. faults_of u.order;
  buckets = λ _. faults_of u.buckets;
  schedule = λ _. faults_of u.schedule;
  judged = λ differs. u.rewrites.unfailed_reads (λ e. differs (u.ends ∙ ap status_of_convert (same_error e)));
  cubes = λ _. faults_of u.cubes;
  proof = λ differs. u.rewrites.unfailed_writes (λ e. differs (u.ends ∙ ap status_of_convert (same_error e)));
  made = λ _. faults_of u.made;
  out = λ _. faults_of u.out;
} where
  failed : (error : ConvertError)
      → RewritesProof tells old.judged new.judged old.proof new.proof files task.proof task.out task.into
      u.problem (Err error)
      → status ≡ status_of_convert error → status ≡ ReadFault → Rose old.judged.faults new.judged.faults
  failed convert_error.ReadFault rewrites ends e = (rewrites.judges (Err check_error.ReadFault) refl).fault refl
  failed convert_error.TooLong rewrites ends e = cc
  failed convert_error.OutOfMemory rewrites ends e = cc
  failed convert_error.WriteFault rewrites ends e = cc

converted : {converting : Type 0} {tells : Bool} {old new : Streams} {files : Files} {task : ToConvert} {status : Status}
    → Converted tells old new files task status → Told converting old new status
converted c = record {
  quiet = λ e. absurd (verdict_read c.verdict c.printed c.ends e);
  quiet_proof = λ e. absurd (verdict_read c.verdict c.printed c.ends e);
  cnf = λ _. c.takes.unfailed (λ e. ok_err e);
  order = λ _. faults_of c.order;
  buckets = λ _. faults_of c.buckets;
  schedule = λ _. faults_of c.schedule;
  judged = λ _. c.rewrites.unfailed_reads (λ e. ok_err e);
  cubes = λ _. faults_of c.cubes;
  proof = λ _. c.rewrites.unfailed_writes (λ e. ok_err e);
  made = λ _. faults_of c.made;
  out = λ differs. c.puts.unfailed (verdict_ok c.verdict c.printed (λ e. differs (c.ends ∙ e)));
}

untrimmed : {converting : Type 0} {tells : Bool} {old new : Streams} {files : Files} {task : ToTrim} {status : Status}
    → Untrimmed tells old new files task status → Told converting old new status
untrimmed u = record {
  quiet = λ _. record {
    cnf = u.takes.written;
    order = written_of u.order;
    buckets = written_of u.buckets;
    schedule = written_of u.schedule;
    judged = u.trims.written;
    cubes = written_of u.cubes;
    made = written_of u.made;
    out = written_of u.out;
  };
  quiet_proof = λ _. inl (written_of u.proof);
  cnf = λ _. u.takes.unfailed (λ e. ok_err e);
  order = λ _. faults_of u.order;
  buckets = λ _. faults_of u.buckets;
  schedule = λ _. faults_of u.schedule;
  judged = λ differs. u.trims.unfailed (λ e. differs (u.ends ∙ ap status_of_check (same_error e)));
  cubes = λ _. faults_of u.cubes;
  proof = λ _. faults_of u.proof;
  made = λ _. faults_of u.made;
  out = λ _. faults_of u.out;
}

-- the verdict was printed, or the run ends with a write fault
show_read : {tells : Bool} {old new : Channel} {text : List ℕ} {verdict : Verdict} {status : Status}
    → ShowsVerdict tells old new text verdict status → status ≡ ReadFault → ⊥
show_read {verdict = verdict} s e = verdict_read verdict s.printed s.ends e

show_told : {tells : Bool} {old new : Channel} {text : List ℕ} {verdict : Verdict} {status : Status}
    → ShowsVerdict tells old new text verdict status → status ≢ WriteFault → new.faults ≡ old.faults
show_told {verdict = verdict} s differs = s.puts.unfailed (verdict_ok verdict s.printed (λ e. differs (s.ends ∙ e)))

rejected : {converting : Type 0} {tells : Bool} {old new : Streams} {files : Files} {task : ToTrim} {status : Status}
    → Rejected tells old new files task status → Told converting old new status
rejected r = record {
  quiet = λ e. absurd (show_read r.shows e);
  quiet_proof = λ e. absurd (show_read r.shows e);
  cnf = λ _. r.takes.unfailed (λ e. ok_err e);
  order = λ _. faults_of r.order;
  buckets = λ _. faults_of r.buckets;
  schedule = λ _. faults_of r.schedule;
  judged = λ _. r.trims.unfailed (λ e. ok_err e);
  cubes = λ _. faults_of r.cubes;
  proof = λ _. faults_of r.proof;
  made = λ _. faults_of r.made;
  out = λ differs. show_told r.shows differs;
}

-- the calls of the three streams that a trimmed proof, its core and the verdict are written to
record KeepTold (old new old_made new_made old_out new_out : Channel) (status : Status) : Type 0 where
  pub unread : status ≡ ReadFault → ⊥
  pub proof : status ≢ WriteFault → new.faults ≡ old.faults
  pub made : status ≢ WriteFault → new_made.faults ≡ old_made.faults
  pub out : status ≢ WriteFault → new_out.faults ≡ old_out.faults

named_told : {tells : Bool} {old new : Channel} {core : List ℕ} {answer : Result ⊤ Failed} (named : Option (List ℕ))
    → PutsNamed tells old new named core answer → IsOk answer → new.faults ≡ old.faults
named_told None puts ok = faults_of (puts.unasked refl).0
named_told (Some file) puts ok = (puts.asked file refl).unfailed ok

keep_told : {tells : Bool} {old new old_made made old_out out : Channel} {file text : List ℕ} (named : Option (List ℕ)) {core : List ℕ}
    {kept total : ℕ} {status : Status}
    → CameToKeep tells old new old_made made old_out out file text named core kept total status
    → KeepTold old new old_made made old_out out status
keep_told named (inl u) = record {
  unread = no_writing u.ends;
  proof = λ differs. absurd (differs u.ends);
  made = λ _. faults_of u.unmade;
  out = λ _. faults_of u.same;
}
keep_told named (inr (inl u)) = record {
  unread = no_writing u.ends;
  proof = λ differs. absurd (differs u.ends);
  made = λ differs. absurd (differs u.ends);
  out = λ _. faults_of u.same;
}
keep_told named (inr (inr k)) = record {
  unread = show_read k.shows;
  proof = λ _. k.puts.unfailed k.done;
  made = λ _. named_told named k.cored k.core_done;
  out = λ differs. show_told k.shows differs;
}

trimmed : {converting : Type 0} {tells : Bool} {old new : Streams} {files : Files} {task : ToTrim} {status : Status}
    → Trimmed tells old new files task status → Told converting old new status
trimmed {task = task} c =
    let answer = keep_told task.core c.came in
    record {
      quiet = λ e. absurd (answer.unread e);
      quiet_proof = λ e. absurd (answer.unread e);
      cnf = λ _. c.takes.unfailed (λ e. ok_err e);
      order = λ _. faults_of c.order;
      buckets = λ _. faults_of c.buckets;
      schedule = λ _. faults_of c.schedule;
      judged = λ _. c.trims.unfailed (λ e. ok_err e);
      cubes = λ _. faults_of c.cubes;
      proof = answer.proof;
      made = answer.made;
      out = answer.out;
    }

uncubed : {converting : Type 0} {tells : Bool} {old new : Streams} {files : Files} {task : ToAsk} {status : Status}
    → Uncubed tells old new files task status → Told converting old new status
uncubed {task = task} u =
    let orders = order_served task.order u.orders in
    record {
      quiet = λ _. record {
        cnf = u.takes.written;
        order = orders.written;
        buckets = written_of u.buckets;
        schedule = written_of u.schedule;
        judged = written_of u.judged;
        cubes = u.cubed.written;
        made = written_of u.made;
        out = written_of u.out;
      };
      quiet_proof = λ _. inl (written_of u.proof);
      cnf = λ _. u.takes.unfailed (λ e. ok_err e);
      order = λ _. orders.unfailed (λ e. ok_err e);
      buckets = λ _. faults_of u.buckets;
      schedule = λ _. faults_of u.schedule;
      judged = λ _. faults_of u.judged;
      cubes = λ differs. u.cubed.unfailed (λ e. differs (u.ends ∙ ap status_of_cubes (same_error e)));
      proof = λ _. faults_of u.proof;
      made = λ _. faults_of u.made;
      out = λ _. faults_of u.out;
    }

replies_read : {status : Status} (found : Replies) (printed : Result ⊤ Failed) → status ≡ status_after_replies found printed
    → status ≡ ReadFault → ⊥
replies_read {status = status} found (Ok x) ends e = (accepts_replies status found ends).read e
replies_read found (Err f) ends e = cc

replies_ok : (found : Replies) (printed : Result ⊤ Failed) → status_after_replies found printed ≢ WriteFault → IsOk printed
replies_ok found (Ok x) differs = refl
replies_ok found (Err e) differs = absurd (differs refl)

-- the calls of the two streams that the answers to cubes are written to
reply_told : {tells : Bool} {old new old_out out : Channel} {problem : Formula} {order : List ℕ} {cubes : List (List ℤ)} {job : Job}
    {status : Status}
    → CameToReply tells old new old_out out problem order cubes job status → AnswerTold old new old_out out status
reply_told (inl u) = record { unread = no_writing u.ends; proof = λ differs. absurd (differs u.ends); out = λ _. faults_of u.same }
reply_told (inr (inl u)) = record {
  unread = run_read u.error u.ends;
  proof = λ differs. u.writes.unfailed (λ e. differs (u.ends ∙ ap status_of_run (same_error e))) ∙ u.opens.faults.unfailed u.done;
  out = λ _. faults_of u.same;
}
reply_told (inr (inr a)) = record {
  unread = replies_read a.found a.printed a.ends;
  proof = λ _. a.writes.unfailed (λ e. ok_err e) ∙ a.opens.faults.unfailed a.done;
  out = λ differs. a.puts.unfailed (replies_ok a.found a.printed (λ e. differs (a.ends ∙ e)));
}

questioned : {converting : Type 0} {tells : Bool} {old new : Streams} {files : Files} {task : ToAsk} {status : Status}
    → Questioned tells old new files task status → Told converting old new status
questioned {task = task} q =
    let answer = reply_told q.came in
    record {
      quiet = λ e. absurd (answer.unread e);
      quiet_proof = λ e. absurd (answer.unread e);
      cnf = λ _. q.takes.unfailed (λ e. ok_err e);
      order = λ _. (order_served task.order q.orders).unfailed (λ e. ok_err e);
      buckets = λ _. faults_of q.buckets;
      schedule = λ _. faults_of q.schedule;
      judged = λ _. faults_of q.judged;
      cubes = λ _. q.cubed.unfailed (λ e. ok_err e);
      proof = answer.proof;
      made = λ _. faults_of q.made;
      out = answer.out;
    }

came_to_ask : {converting : Type 0} {tells : Bool} {old new : Streams} {files : Files} {task : ToAsk} {status : Status}
    → CameToAsk tells old new files task status → Told converting old new status
came_to_ask (inl u) = untaken u
came_to_ask (inr (inl u)) = unordered u
came_to_ask (inr (inr (inl u))) = uncubed u
came_to_ask (inr (inr (inr q))) = questioned q

came : {converting : Type 0} {tells : Bool} {old new : Streams} {files : Files} {task : ToSolve} {status : Status} → Came tells old new files task status
    → Told converting old new status
came (inl u) = untaken u
came (inr (inl u)) = unordered u
came (inr (inr (inl u))) = unbucketed u
came (inr (inr (inr (inl u)))) = unplanned u
came (inr (inr (inr (inr s)))) = solved s

came_to_check : {converting : Type 0} {tells : Bool} {old new : Streams} {files : Files} {task : ToCheck} {status : Status}
    → CameToCheck tells old new files task status → Told converting old new status
came_to_check (inl u) = untaken u
came_to_check (inr (inl u)) = unjudged u
came_to_check (inr (inr j)) = judged j

came_to_bench : {converting : Type 0} {tells : Bool} {old new : Streams} {task : ToBench} {status : Status} → CameToBench tells old new task status
    → Told converting old new status
came_to_bench (inl u) = idle (no_memory u.ends) u.same
came_to_bench (inr b) = benched b

came_to_make : {converting : Type 0} {tells : Bool} {old new : Streams} {task : ToMake} {status : Status} → CameToMake tells old new task status
    → Told converting old new status
came_to_make (inl u) = idle (no_memory u.ends) u.same
came_to_make (inr b) = only_made (write_unread b.came) b.none_read b.proof b.out (write_told b.came)

came_to_arrange : {converting : Type 0} {tells : Bool} {old new : Streams} {files : Files} {task : ToOrder} {status : Status}
    → CameToArrange tells old new files task status → Told converting old new status
came_to_arrange (inl u) = untaken u
came_to_arrange {task = task} (inr (inl u)) = formula_and_text task.mode u.takes u.alone (no_memory u.ends) (λ _. faults_of u.made)
came_to_arrange {task = task} (inr (inr a)) = formula_and_text task.mode a.takes a.alone (write_unread a.came) (write_told a.came)

came_to_convert : {tells : Bool} (words : List (List ℕ)) {old new : Streams} {files : Files} {task : ToConvert} {status : Status}
    → command words ≡ Some (Convert task) → CameToConvert tells old new files task status
    → Told (IsConverting words old new status) old new status
came_to_convert words asked (inl u) = untaken u
came_to_convert words asked (inr (inl u)) = unconverted words asked u
came_to_convert words asked (inr (inr c)) = converted c

came_to_trim : {converting : Type 0} {tells : Bool} {old new : Streams} {files : Files} {task : ToTrim} {status : Status}
    → CameToTrim tells old new files task status → Told converting old new status
came_to_trim (inl u) = untaken u
came_to_trim (inr (inl u)) = untrimmed u
came_to_trim (inr (inr (inl r))) = rejected r
came_to_trim (inr (inr (inr c))) = trimmed c

pub told : {tells : Bool} {words : List (List ℕ)} {old new : Streams} {files : Files} {status : Status}
    → Stages tells words old new files status → Told (IsConverting words old new status) old new status
told (inl m) = idle (misused_read m) m.same
told (inr (inl h)) = helped h
told (inr (inr (inl t))) = came t.came
told (inr (inr (inr (inl c)))) = came_to_check c.came
told (inr (inr (inr (inr (inl b))))) = came_to_bench b.came
told (inr (inr (inr (inr (inr (inl m)))))) = came_to_make m.came
told (inr (inr (inr (inr (inr (inr (inl a))))))) = came_to_arrange a.came
told {words = words} (inr (inr (inr (inr (inr (inr (inr (inl d)))))))) = came_to_convert words d.asked d.came
told (inr (inr (inr (inr (inr (inr (inr (inr (inl d))))))))) = came_to_trim d.came
told (inr (inr (inr (inr (inr (inr (inr (inr (inr a))))))))) = came_to_ask a.came

pub failures : (run : Run) → Told (ConvertsAsItReads run) (streams_of run.before) (streams_of run.after) run.status → FailuresAreTold run
failures run counts = record { read = read; write = write } where
  read : run.status ≢ ReadFault → (role : Role) → IsInput role → (run.after role).faults ≡ (run.before role).faults
  read differs Cnf is = counts.cnf differs
  read differs Order is = counts.order differs
  read differs Buckets is = counts.buckets differs
  read differs Schedule is = counts.schedule differs
  read differs ProofIn is = counts.judged differs
  read differs Cubes is = counts.cubes differs
  read differs ProofOut is = absurd is
  read differs Made is = absurd is
  read differs Out is = absurd is
  read differs ErrRole is = absurd is

  write : run.status ≢ WriteFault → (role : Role) → IsCreated role ⊎ (role ≡ Out) → (run.after role).faults ≡ (run.before role).faults
  write differs Cnf (inl is) = absurd is
  write differs Cnf (inr is) = cc
  write differs Order (inl is) = absurd is
  write differs Order (inr is) = cc
  write differs Buckets (inl is) = absurd is
  write differs Buckets (inr is) = cc
  write differs Schedule (inl is) = absurd is
  write differs Schedule (inr is) = cc
  write differs ProofIn (inl is) = absurd is
  write differs Cubes (inl is) = absurd is
  write differs ProofIn (inr is) = cc
  write differs Cubes (inr is) = cc
  write differs ProofOut is = counts.proof differs
  write differs Made is = counts.made differs
  write differs Out is = counts.out differs
  write differs ErrRole (inl is) = absurd is
  write differs ErrRole (inr is) = cc

pub quiet : (run : Run) → Told (ConvertsAsItReads run) (streams_of run.before) (streams_of run.after) run.status → QuietAtFaults run
quiet run counts fault t = each where
  none : (role : Role) → (run.after role).written ≡ (run.before role).written → written_in run role ≡ []
  none role same = behind (run.before role) (run.after role) [] (nothing_more (run.before role) (run.after role) same)

  each : (role : Role) → role ≢ ErrRole → (written_in run role ≡ []) ⊎ ((role ≡ ProofOut) × ConvertsAsItReads run)
  each Cnf other = inl (none Cnf (counts.quiet fault).cnf)
  each Order other = inl (none Order (counts.quiet fault).order)
  each Buckets other = inl (none Buckets (counts.quiet fault).buckets)
  each Schedule other = inl (none Schedule (counts.quiet fault).schedule)
  each ProofIn other = inl (none ProofIn (counts.quiet fault).judged)
  each Cubes other = inl (none Cubes (counts.quiet fault).cubes)
  each ProofOut other = elim (counts.quiet_proof fault) [
    | inl same ↦ inl (none ProofOut same)
    | inr converting ↦ inr (refl, converting)
  ]
  each Made other = inl (none Made (counts.quiet fault).made)
  each Out other = inl (none Out (counts.quiet fault).out)
  each ErrRole other = absurd (other refl)
