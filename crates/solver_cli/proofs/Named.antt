-- The names of a run's roles, and its files.
use Rattle.std.proofs.Common.{◌≡◌, ℕ, Bool, List, refl, sym, ◌∙◌, Some, None, Ok, Err, inl, inr}
use Rattle.std.specs.Prelude.{Result, ⊤, ◌⊎◌}
use Rattle.host_io.specs.Channel.{Channel}
use Rattle.host_io.specs.declared.role.Role.{Role}
use Rattle.host_io.specs.declared.role.Role.TheVariants.{Cnf, Order, Buckets, Schedule, ProofIn, Cubes, ProofOut, Made, Out, Err as ErrRole}
use Rattle.host_io.specs.declared.source.Failed.{Failed}
use Rattle.command_line.specs.Command.{Command, ToSolve, ToCheck, ToBench, ToMake, ToOrder, Solve, Check, Bench, Make, Arrange}
use Rattle.command_line.specs.Command.{command}
use Rattle.solver_cli.specs.declared.status.Status.{Status}
use Rattle.solver_cli.specs.declared.status.Status.TheVariants.{Done, WriteFault}
use Rattle.solver_cli.specs.Stages.{FilesBeside, streams_of, Came, CameToArrange}
use Rattle.solver_cli.specs.Stages.{CameToBench, CameToCheck, CameToMake, CameToWrite, Stages}
use Rattle.solver_cli.specs.Stages.{status_of_written}
use Rattle.solver_cli.specs.Headline.{NamesAreGiven}
use Rattle.solver_cli.specs.Run.{Run, name_given}
use Rattle.solver_cli.proofs.Accepted.{posed_by_board, posed_by_files}
use Rattle.solver_cli.proofs.Names.{InputNames, IsNamed, StreamNames, answered_names, given, given_buckets, given_judged}
use Rattle.solver_cli.proofs.Names.{given_order, given_schedule, helped_names, left_made, name_of, quiet_names, same_names}
use Rattle.solver_cli.proofs.Names.{unnamed_opened, unnamed_proof, unnamed_trimmed, unread_names, untaken_names}
use Rattle.solver_cli.proofs.NamedProofs.{ask_names, convert_names, trim_names}

solve_names : (run : Run) (task : ToSolve) → ((role : Role) → (run.before role).name ≡ None) → command run.words ≡ Some (Solve task)
    → Came run.tells (streams_of run.before) (streams_of run.after) run.files task run.status → StreamNames run
solve_names run task unnamed asked (inl u) = untaken_names run (Solve task) task.file unnamed asked refl u
solve_names run task unnamed asked (inr (inl u)) = quiet_names run unnamed (record { proof = u.proof; made = u.made; out = u.out })
    (record {
      cnf = given run (Solve task) task.file asked refl u.takes.name;
      order = given_order run (Solve task) asked (unnamed Order) u.orders;
      buckets = inl (name_of u.buckets (unnamed Buckets));
      schedule = inl (name_of u.schedule (unnamed Schedule));
      judged = inl (name_of u.judged (unnamed ProofIn));
      cubes = inl (name_of u.cubes (unnamed Cubes));
    })
solve_names run task unnamed asked (inr (inr (inl u))) = quiet_names run unnamed (record { proof = u.proof; made = u.made; out = u.out })
    (record {
      cnf = given run (Solve task) task.file asked refl u.takes.name;
      order = given_order run (Solve task) asked (unnamed Order) u.orders;
      buckets = given_buckets run task asked (unnamed Buckets) u.bucketed;
      schedule = inl (name_of u.schedule (unnamed Schedule));
      judged = inl (name_of u.judged (unnamed ProofIn));
      cubes = inl (name_of u.cubes (unnamed Cubes));
    })
solve_names run task unnamed asked (inr (inr (inr (inl u)))) = quiet_names run unnamed
    (record { proof = u.proof; made = u.made; out = u.out })
    (record {
      cnf = given run (Solve task) task.file asked refl u.takes.name;
      order = given_order run (Solve task) asked (unnamed Order) u.orders;
      buckets = given_buckets run task asked (unnamed Buckets) u.bucketed;
      schedule = given_schedule run task asked (unnamed Schedule) u.plans;
      judged = inl (name_of u.judged (unnamed ProofIn));
      cubes = inl (name_of u.cubes (unnamed Cubes));
    })
solve_names run task unnamed asked (inr (inr (inr (inr s)))) = answered_names run unnamed (posed_by_files run task asked s.prepared)
    (Solve task) asked refl
    (record {
      cnf = given run (Solve task) task.file asked refl s.prepared.takes.name;
      order = given_order run (Solve task) asked (unnamed Order) s.prepared.orders;
      buckets = given_buckets run task asked (unnamed Buckets) s.prepared.bucketed;
      schedule = given_schedule run task asked (unnamed Schedule) s.prepared.plans;
      judged = inl (name_of s.prepared.judged (unnamed ProofIn));
      cubes = inl (name_of s.prepared.cubes (unnamed Cubes));
    })
    s.came

check_names : (run : Run) (task : ToCheck) → ((role : Role) → (run.before role).name ≡ None) → command run.words ≡ Some (Check task)
    → CameToCheck run.tells (streams_of run.before) (streams_of run.after) run.files task run.status → StreamNames run
check_names run task unnamed asked (inl u) = untaken_names run (Check task) task.file unnamed asked refl u
check_names run task unnamed asked (inr (inl u)) = quiet_names run unnamed (record { proof = u.proof; made = u.made; out = u.out })
    (record {
      cnf = given run (Check task) task.file asked refl u.takes.name;
      order = inl (name_of u.order (unnamed Order));
      buckets = inl (name_of u.buckets (unnamed Buckets));
      schedule = inl (name_of u.schedule (unnamed Schedule));
      judged = given_judged run (Check task) task.proof asked refl u.judges.name;
      cubes = inl (name_of u.cubes (unnamed Cubes));
    })
check_names run task unnamed asked (inr (inr j)) =
    let unmade = left_made run j.made (unnamed Made) in
    record {
      cnf = given run (Check task) task.file asked refl j.takes.name;
      order = inl (name_of j.order (unnamed Order));
      buckets = inl (name_of j.buckets (unnamed Buckets));
      schedule = inl (name_of j.schedule (unnamed Schedule));
      judged = given_judged run (Check task) task.proof asked refl j.judges.name;
      cubes = inl (name_of j.cubes (unnamed Cubes));
      proof = inl (name_of j.proof (unnamed ProofOut));
      made = unmade.named;
      out = inl (j.puts.only.name ∙ unnamed Out);
      read_first = λ _. inl (name_of j.proof (unnamed ProofOut));
      accepted = unnamed_proof run (name_of j.proof (unnamed ProofOut));
      opened = unnamed_opened run (name_of j.proof (unnamed ProofOut));
      trimmed = unnamed_trimmed run (name_of j.proof (unnamed ProofOut));
      finished = unmade.finished;
    }

bench_names : (run : Run) (task : ToBench) → ((role : Role) → (run.before role).name ≡ None) → command run.words ≡ Some (Bench task)
    → CameToBench run.tells (streams_of run.before) (streams_of run.after) task run.status → StreamNames run
bench_names run task unnamed asked (inl u) = same_names run unnamed u.same
bench_names run task unnamed asked (inr b) = answered_names run unnamed (posed_by_board run task asked b.board b.made)
    (Bench task) asked refl (unread_names run unnamed b.none_read) b.came

-- the text's file has the name that the words give it
given_made : (run : Run) (asked : Command) (file : List ℕ) → command run.words ≡ Some asked → name_given Made asked ≡ Some file
    → ((run.after Made).name ≡ Some file) ⊎ ((run.after Made).name ≡ None) → IsNamed run Made
given_made run asked file gives named (inl some) = inr (asked, gives, some ∙ sym named)
given_made run asked file gives named (inr none) = inl none

written_ends : {status : Status} (written : Result ⊤ Failed) → status ≡ status_of_written written → (status ≡ Done) ⊎ (status ≡ WriteFault)
written_ends (Ok x) ends = inl ends
written_ends (Err e) ends = inr ends

write_ends : {tells : Bool} {old new : Channel} {file text : List ℕ} {status : Status} → CameToWrite tells old new file text status
    → (status ≡ Done) ⊎ (status ≡ WriteFault)
write_ends (inl u) = inr u.ends
write_ends (inr w) = written_ends w.written w.ends

write_named : {tells : Bool} {old new : Channel} {file text : List ℕ} {status : Status} → CameToWrite tells old new file text status
    → (new.name ≡ Some file) ⊎ (new.name ≡ None)
write_named (inl u) = u.opens.failed u.failed
write_named (inr w) = inl (w.puts.only.name ∙ w.opens.named w.done)

made_names : (run : Run) (asked : Command) {file text : List ℕ} → ((role : Role) → (run.before role).name ≡ None) → command run.words
    ≡ Some asked → name_given Made asked ≡ Some file → InputNames run → run.after ProofOut ≡ run.before ProofOut → run.after Out
    ≡ run.before Out
    → CameToWrite run.tells (run.before Made) (run.after Made) file text run.status → StreamNames run
made_names run asked {file = file} unnamed gives named inputs proof out came = record {
  cnf = inputs.cnf;
  order = inputs.order;
  buckets = inputs.buckets;
  schedule = inputs.schedule;
  judged = inputs.judged;
  cubes = inputs.cubes;
  proof = inl (name_of proof (unnamed ProofOut));
  made = given_made run asked file gives named (write_named came);
  out = inl (name_of out (unnamed Out));
  read_first = λ _. inl (name_of proof (unnamed ProofOut));
  accepted = unnamed_proof run (name_of proof (unnamed ProofOut));
  opened = unnamed_opened run (name_of proof (unnamed ProofOut));
  trimmed = unnamed_trimmed run (name_of proof (unnamed ProofOut));
  finished = λ _. elim (write_ends came) [ inl done ↦ inl done | inr fault ↦ inr (inl fault) ];
}

make_names : (run : Run) (task : ToMake) → ((role : Role) → (run.before role).name ≡ None) → command run.words ≡ Some (Make task)
    → CameToMake run.tells (streams_of run.before) (streams_of run.after) task run.status → StreamNames run
make_names run task unnamed asked (inl u) = same_names run unnamed u.same
make_names run task unnamed asked (inr b) = made_names run (Make task) unnamed asked refl (unread_names run unnamed b.none_read) b.proof
    b.out b.came

arrange_names : (run : Run) (task : ToOrder) → ((role : Role) → (run.before role).name ≡ None) → command run.words ≡ Some (Arrange task)
    → CameToArrange run.tells (streams_of run.before) (streams_of run.after) run.files task run.status → StreamNames run
arrange_names run task unnamed asked (inl u) = untaken_names run (Arrange task) task.file unnamed asked refl u
arrange_names run task unnamed asked (inr (inl u)) = quiet_names run unnamed
    (record { proof = u.alone.proof; made = u.made; out = u.alone.out })
    (record {
      cnf = given run (Arrange task) task.file asked refl u.takes.name;
      order = inl (name_of u.alone.order (unnamed Order));
      buckets = inl (name_of u.alone.buckets (unnamed Buckets));
      schedule = inl (name_of u.alone.schedule (unnamed Schedule));
      judged = inl (name_of u.alone.judged (unnamed ProofIn));
      cubes = inl (name_of u.alone.cubes (unnamed Cubes));
    })
arrange_names run task unnamed asked (inr (inr a)) = made_names run (Arrange task) unnamed asked refl
    (record {
      cnf = given run (Arrange task) task.file asked refl a.takes.name;
      order = inl (name_of a.alone.order (unnamed Order));
      buckets = inl (name_of a.alone.buckets (unnamed Buckets));
      schedule = inl (name_of a.alone.schedule (unnamed Schedule));
      judged = inl (name_of a.alone.judged (unnamed ProofIn));
      cubes = inl (name_of a.alone.cubes (unnamed Cubes));
    })
    a.alone.proof a.alone.out a.came

pub stream_names : (run : Run) → ((role : Role) → (run.before role).name ≡ None)
    → Stages run.tells run.words (streams_of run.before) (streams_of run.after) run.files run.status → StreamNames run
stream_names run unnamed (inl m) = same_names run unnamed m.same
stream_names run unnamed (inr (inl h)) = helped_names run unnamed h
stream_names run unnamed (inr (inr (inl t))) = solve_names run t.task unnamed t.asked t.came
stream_names run unnamed (inr (inr (inr (inl c)))) = check_names run c.task unnamed c.asked c.came
stream_names run unnamed (inr (inr (inr (inr (inl b))))) = bench_names run b.task unnamed b.asked b.came
stream_names run unnamed (inr (inr (inr (inr (inr (inl m)))))) = make_names run m.task unnamed m.asked m.came
stream_names run unnamed (inr (inr (inr (inr (inr (inr (inl a))))))) = arrange_names run a.task unnamed a.asked a.came
stream_names run unnamed (inr (inr (inr (inr (inr (inr (inr (inl d)))))))) = convert_names run d.task unnamed d.asked d.came
stream_names run unnamed (inr (inr (inr (inr (inr (inr (inr (inr (inl d))))))))) = trim_names run d.task unnamed d.asked d.came
stream_names run unnamed (inr (inr (inr (inr (inr (inr (inr (inr (inr a))))))))) = ask_names run a.task unnamed a.asked a.came

-- the names of all roles
pub names : (run : Run) → StreamNames run → (run.after ErrRole).name ≡ None
    → FilesBeside (run.after ProofOut).name (run.after Made).name run.files run.files_after → NamesAreGiven run
names run streams error files = record {
  names = each;
  files = files;
  read_first = streams.read_first;
  accepted = streams.accepted;
  opened = streams.opened;
  trimmed = streams.trimmed;
  made = streams.finished;
} where
  each : (role : Role) → IsNamed run role
  each Cnf = streams.cnf
  each Order = streams.order
  each Buckets = streams.buckets
  each Schedule = streams.schedule
  each ProofIn = streams.judged
  each Cubes = streams.cubes
  each ProofOut = streams.proof
  each Made = streams.made
  each Out = streams.out
  each ErrRole = inl error
