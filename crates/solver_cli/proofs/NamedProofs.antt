-- The names of the roles of a run that writes a proof of another one, or answers cubes.
use Rattle.std.proofs.Common.{◌≡◌, ℕ, ℤ, true, false, List, refl, sym, ap, ◌∙◌, Some, None, Ok, Err, inl, inr}
use Rattle.std.specs.Prelude.{Option, Result, ⊤, ◌⊎◌}
use Rattle.host_io.specs.declared.role.Role.{Role}
use Rattle.host_io.specs.declared.role.Role.TheVariants.{Order, Buckets, Schedule, ProofIn, Cubes, ProofOut, Made, Out}
use Rattle.host_io.specs.declared.source.Failed.{Failed}
use Rattle.cnf_base.specs.Formula.{Formula}
use Rattle.command_line.specs.Command.{ToAsk, ToConvert, ToTrim, Ask}
use Rattle.command_line.specs.Command.{Convert, Trim}
use Rattle.command_line.specs.Command.{command}
use Rattle.solver_cli.specs.declared.status.Status.{Status}
use Rattle.solver_cli.specs.declared.status.Status.TheVariants.{Verified, WriteFault}
use Rattle.cube_queries.specs.declared.answer.Outcome.{Outcome as Replies}
use Rattle.cube_queries.specs.declared.answer.Outcome.TheVariants as replies
use Rattle.solver_cli.specs.Replies.{status_of_replies}
use Rattle.solver_cli.specs.ExitCode.{status_of_convert}
use Rattle.solver_cli.specs.Verdict.{status_of_verdict}
use Rattle.proof_judging.specs.declared.verdict.Verdict.{Verdict}
use Rattle.proof_judging.specs.declared.verdict.Verdict.TheVariants as judgement
use Rattle.proof_judging.specs.declared.verdict.CheckError.TheVariants as check_error
use Rattle.drat_proof.specs.declared.error.ConvertError.{ConvertError}
use Rattle.drat_proof.specs.declared.error.ConvertError.TheVariants as convert_error
use Rattle.solver_cli.specs.ConvertedProof.{RewritesProof}
use Rattle.solver_cli.specs.TrimmedProof.{PutsNamed}
use Rattle.solver_cli.specs.Stages.{streams_of}
use Rattle.solver_cli.specs.Stages.{CameToConvert, CameToKeep, CameToTrim}
use Rattle.solver_cli.specs.Stages.{status_of_printed}
use Rattle.solver_cli.specs.Stages.{CameToAsk, CameToReply, ask_job, status_after_replies}
use Rattle.solver_cli.specs.Headline.{ends_before_proof}
use Rattle.solver_cli.specs.Run.{Run}
use Rattle.solver_cli.specs.Faults.{ends_in_proof}
use Rattle.solver_cli.proofs.Facts.{named_apart, same_command}
use Rattle.solver_cli.proofs.Cut.{verified}
use Rattle.solver_cli.proofs.Untaken.{took}
use Rattle.solver_cli.proofs.Questions.{questions_of}
use Rattle.solver_cli.proofs.Names.{AnswerNames, IsNamed, IsReadFirst, StreamNames, given, given_judged, given_order, given_proof}
use Rattle.solver_cli.proofs.Names.{later, left_made, name_of, quiet_names, run_later, unnamed_opened, unnamed_proof, unnamed_trimmed}
use Rattle.solver_cli.proofs.Names.{untaken_names}

-- how a conversion ends that came to no verdict, and one that did
unconverted_first : (run : Run) {task : ToConvert} {problem : Formula} → command run.words ≡ Some (Convert task)
    → (error : ConvertError)
    → RewritesProof run.tells (run.before ProofIn) (run.after ProofIn) (run.before ProofOut)
    (run.after ProofOut) run.files task.proof task.out
    task.into problem (Err error) → run.status ≡ status_of_convert error → IsReadFirst run
unconverted_first run {task = task} asked convert_error.ReadFault rewrites ends before =
    inr (inl ((task, asked), inl ((rewrites.judges (Err check_error.ReadFault) refl).fault refl)))
unconverted_first run {task = task} asked convert_error.TooLong rewrites ends before = inr
    (inl ((task, asked), inr (ap ends_in_proof ends)))
unconverted_first run asked convert_error.OutOfMemory rewrites ends before = later run.status (ap ends_before_proof ends) before
unconverted_first run asked convert_error.WriteFault rewrites ends before = later run.status (ap ends_before_proof ends) before

ends_judged : (verdict : Verdict) → ends_in_proof (status_of_verdict verdict) ≡ true
ends_judged judgement.Verified = refl
ends_judged (judgement.Refused line reason) = refl

converted_first : (run : Run) {task : ToConvert} → command run.words ≡ Some (Convert task) → (verdict : Verdict)
    → (printed : Result ⊤ Failed) → run.status ≡ status_of_printed verdict printed → IsReadFirst run
converted_first run {task = task} asked verdict (Ok x) ends before =
    inr (inl ((task, asked), inr (ap ends_in_proof ends ∙ ends_judged verdict)))
converted_first run asked verdict (Err e) ends before = later run.status (ap ends_before_proof ends) before

no_trimming : {task : ToConvert} {other : ToTrim} → Convert task ≡ Trim other → ⊥
no_trimming e = cc

pub convert_names : (run : Run) (task : ToConvert) → ((role : Role) → (run.before role).name ≡ None) → command run.words ≡ Some
    (Convert task)
    → CameToConvert run.tells (streams_of run.before) (streams_of run.after) run.files task run.status → StreamNames run
convert_names run task unnamed asked (inl u) = untaken_names run (Convert task) task.file unnamed asked refl u
convert_names run task unnamed asked (inr (inl u)) =
    let unmade = left_made run u.made (unnamed Made) in
    record {
      cnf = given run (Convert task) task.file asked refl u.takes.name;
      order = inl (name_of u.order (unnamed Order));
      buckets = inl (name_of u.buckets (unnamed Buckets));
      schedule = inl (name_of u.schedule (unnamed Schedule));
      judged = given_judged run (Convert task) task.proof asked refl u.rewrites.read_name;
      cubes = inl (name_of u.cubes (unnamed Cubes));
      proof = given_proof run (Convert task) task.out asked refl u.rewrites.name;
      made = unmade.named;
      out = inl (name_of u.out (unnamed Out));
      read_first = unconverted_first run asked u.error u.rewrites u.ends;
      accepted = λ _. inr (inl ((task, asked), λ t. (task, u.problem, took run (Convert task) task.file u.problem asked refl u.takes t)));
      opened = λ named _. u.rewrites.opened named;
      trimmed = λ _ given. absurd (no_trimming (same_command asked given.1));
      finished = unmade.finished;
    }
convert_names run task unnamed asked (inr (inr c)) =
    let unmade = left_made run c.made (unnamed Made) in
    record {
      cnf = given run (Convert task) task.file asked refl c.takes.name;
      order = inl (name_of c.order (unnamed Order));
      buckets = inl (name_of c.buckets (unnamed Buckets));
      schedule = inl (name_of c.schedule (unnamed Schedule));
      judged = given_judged run (Convert task) task.proof asked refl c.rewrites.read_name;
      cubes = inl (name_of c.cubes (unnamed Cubes));
      proof = given_proof run (Convert task) task.out asked refl c.rewrites.name;
      made = unmade.named;
      out = inl (c.puts.only.name ∙ unnamed Out);
      read_first = converted_first run asked c.verdict c.printed c.ends;
      accepted = λ _. inr (inl ((task, asked), λ t. (task, c.problem, took run (Convert task) task.file c.problem asked refl c.takes t)));
      opened = λ named _. c.rewrites.opened named;
      trimmed = λ _ given. absurd (no_trimming (same_command asked given.1));
      finished = unmade.finished;
    }

-- how the verdict on a trimmed proof ends the run
verified_first : (run : Run) {task : ToTrim} → command run.words ≡ Some (Trim task) → (printed : Result ⊤ Failed)
    → run.status ≡ status_of_printed judgement.Verified printed → IsReadFirst run
verified_first run {task = task} asked (Ok x) ends before = inr (inr ((task, asked), ends))
verified_first run asked (Err e) ends before = later run.status (ap ends_before_proof ends) before

verified_ends : {status : Status} (printed : Result ⊤ Failed) → status ≡ status_of_printed judgement.Verified printed
    → (status ≡ Verified) ⊎ (status ≡ WriteFault)
verified_ends (Ok x) ends = inl ends
verified_ends (Err e) ends = inr ends

-- that of the core's file
given_core : (run : Run) (task : ToTrim) → command run.words ≡ Some (Trim task) → (run.before Made).name ≡ None
    → (named : Option (List ℕ)) → task.core ≡ named → {core : List ℕ} {answer : Result ⊤ Failed}
    → PutsNamed run.tells (run.before Made) (run.after Made) named core answer → IsNamed run Made
given_core run task asked unnamed None same puts = inl (name_of (puts.unasked refl).0 unnamed)
given_core run task asked unnamed (Some file) same puts = elim (puts.asked file refl).name [
  | inl some ↦ inr (Trim task, asked, some ∙ sym same)
  | inr none ↦ inl none
]

-- the names of the three streams that a trimmed proof, its core and the verdict are written to
record KeptNames (run : Run) : Type 0 where
  pub proof : IsNamed run ProofOut
  pub made : IsNamed run Made
  pub out : IsNamed run Out
  pub read_first : IsReadFirst run
  pub trimmed : (run.status ≡ Verified) ⊎ (run.status ≡ WriteFault)

kept_names : (run : Run) (task : ToTrim) {text core : List ℕ} {kept total : ℕ} → command run.words ≡ Some (Trim task)
    → (run.before Made).name ≡ None → (run.before Out).name ≡ None
    → CameToKeep run.tells (run.before ProofOut) (run.after ProofOut) (run.before Made) (run.after Made) (run.before Out) (run.after Out)
    task.out text task.core core kept total run.status
    → KeptNames run
kept_names run task asked unmade unnamed (inl u) = record {
  proof = given_proof run (Trim task) task.out asked refl u.puts.name;
  made = inl (name_of u.unmade unmade);
  out = inl (name_of u.same unnamed);
  read_first = later run.status (ap ends_before_proof u.ends);
  trimmed = inr u.ends;
}
kept_names run task asked unmade unnamed (inr (inl u)) = record {
  proof = given_proof run (Trim task) task.out asked refl u.puts.name;
  made = given_core run task asked unmade task.core refl u.cored;
  out = inl (name_of u.same unnamed);
  read_first = later run.status (ap ends_before_proof u.ends);
  trimmed = inr u.ends;
}
kept_names run task asked unmade unnamed (inr (inr k)) = record {
  proof = given_proof run (Trim task) task.out asked refl k.puts.name;
  made = given_core run task asked unmade task.core refl k.cored;
  out = inl (k.shows.puts.only.name ∙ unnamed);
  read_first = verified_first run asked k.shows.printed k.shows.ends;
  trimmed = verified_ends k.shows.printed k.shows.ends;
}

no_conversion : {task : ToTrim} {other : ToConvert} → Trim task ≡ Convert other → ⊥
no_conversion e = cc

pub trim_names : (run : Run) (task : ToTrim) → ((role : Role) → (run.before role).name ≡ None) → command run.words ≡ Some (Trim task)
    → CameToTrim run.tells (streams_of run.before) (streams_of run.after) run.files task run.status → StreamNames run
trim_names run task unnamed asked (inl u) = untaken_names run (Trim task) task.file unnamed asked refl u
trim_names run task unnamed asked (inr (inl u)) = quiet_names run unnamed (record { proof = u.proof; made = u.made; out = u.out })
    (record {
      cnf = given run (Trim task) task.file asked refl u.takes.name;
      order = inl (name_of u.order (unnamed Order));
      buckets = inl (name_of u.buckets (unnamed Buckets));
      schedule = inl (name_of u.schedule (unnamed Schedule));
      judged = given_judged run (Trim task) task.proof asked refl u.trims.name;
      cubes = inl (name_of u.cubes (unnamed Cubes));
    })
trim_names run task unnamed asked (inr (inr (inl r))) =
    let unmade = left_made run r.made (unnamed Made) in
    record {
      cnf = given run (Trim task) task.file asked refl r.takes.name;
      order = inl (name_of r.order (unnamed Order));
      buckets = inl (name_of r.buckets (unnamed Buckets));
      schedule = inl (name_of r.schedule (unnamed Schedule));
      judged = given_judged run (Trim task) task.proof asked refl r.trims.name;
      cubes = inl (name_of r.cubes (unnamed Cubes));
      proof = inl (name_of r.proof (unnamed ProofOut));
      made = unmade.named;
      out = inl (r.shows.puts.only.name ∙ unnamed Out);
      read_first = λ _. inl (name_of r.proof (unnamed ProofOut));
      accepted = unnamed_proof run (name_of r.proof (unnamed ProofOut));
      opened = unnamed_opened run (name_of r.proof (unnamed ProofOut));
      trimmed = unnamed_trimmed run (name_of r.proof (unnamed ProofOut));
      finished = unmade.finished;
    }
trim_names run task unnamed asked (inr (inr (inr c))) =
    let names = kept_names run task asked (unnamed Made) (unnamed Out) c.came in
    record {
      cnf = given run (Trim task) task.file asked refl c.takes.name;
      order = inl (name_of c.order (unnamed Order));
      buckets = inl (name_of c.buckets (unnamed Buckets));
      schedule = inl (name_of c.schedule (unnamed Schedule));
      judged = given_judged run (Trim task) task.proof asked refl c.trims.name;
      cubes = inl (name_of c.cubes (unnamed Cubes));
      proof = names.proof;
      made = names.made;
      out = names.out;
      read_first = names.read_first;
      accepted = λ _. inr (inr (inl (
        (task, asked),
        λ t.
            let has = verified run task c.problem asked (took run (Trim task) task.file c.problem asked refl c.takes) c.trims t in
            (c.problem, has.bytes, has.verdict),
      )));
      opened = λ _ given. absurd (no_conversion (same_command asked given.1));
      trimmed = λ _ _. names.trimmed;
      finished = λ _. elim names.trimmed [ inl verified ↦ inr (inr ((task, asked), verified)) | inr fault ↦ inr (inl fault) ];
    }

replies_later : (found : Replies) → ends_before_proof (status_of_replies found) ≡ false
replies_later (replies.Answered answers) = refl
replies_later replies.NodeLimit = refl
replies_later replies.IdLimit = refl

printed_later : (found : Replies) (printed : Result ⊤ Failed) → ends_before_proof (status_after_replies found printed) ≡ false
printed_later found (Ok x) = replies_later found
printed_later found (Err e) = refl

-- the names of the two streams that the answers to cubes are written to
reply_names : (run : Run) (task : ToAsk) {problem : Formula} {order : List ℕ} {cubes : List (List ℤ)} → command run.words
    ≡ Some (Ask task) → (run.before Out).name ≡ None
    → CameToReply run.tells (run.before ProofOut) (run.after ProofOut) (run.before Out) (run.after Out) problem order cubes (ask_job task)
    run.status → AnswerNames run
reply_names run task gives unnamed (inl u) = record {
  proof = given_proof run (Ask task) task.proof gives refl (u.opens.failed u.failed);
  out = inl (name_of u.same unnamed);
  read_first = later run.status (ap ends_before_proof u.ends);
}
reply_names run task gives unnamed (inr (inl u)) = record {
  proof = given_proof run (Ask task) task.proof gives refl (inl (u.writes.name ∙ u.opens.named u.done));
  out = inl (name_of u.same unnamed);
  read_first = later run.status (ap ends_before_proof u.ends ∙ run_later u.error);
}
reply_names run task gives unnamed (inr (inr a)) = record {
  proof = given_proof run (Ask task) task.proof gives refl (inl (a.writes.name ∙ a.opens.named a.done));
  out = inl (a.puts.only.name ∙ unnamed);
  read_first = later run.status (ap ends_before_proof a.ends ∙ printed_later a.found a.printed);
}

given_cubes_file : (run : Run) (task : ToAsk) → command run.words ≡ Some (Ask task)
    → ((run.after Cubes).name ≡ Some task.cubes) ⊎ ((run.after Cubes).name ≡ None) → IsNamed run Cubes
given_cubes_file run task gives (inl some) = inr (Ask task, gives, some)
given_cubes_file run task gives (inr none) = inl none

pub ask_names : (run : Run) (task : ToAsk) → ((role : Role) → (run.before role).name ≡ None) → command run.words ≡ Some (Ask task)
    → CameToAsk run.tells (streams_of run.before) (streams_of run.after) run.files task run.status → StreamNames run
ask_names run task unnamed asked (inl u) = untaken_names run (Ask task) task.file unnamed asked refl u
ask_names run task unnamed asked (inr (inl u)) = quiet_names run unnamed (record { proof = u.proof; made = u.made; out = u.out })
    (record {
      cnf = given run (Ask task) task.file asked refl u.takes.name;
      order = given_order run (Ask task) asked (unnamed Order) u.orders;
      buckets = inl (name_of u.buckets (unnamed Buckets));
      schedule = inl (name_of u.schedule (unnamed Schedule));
      judged = inl (name_of u.judged (unnamed ProofIn));
      cubes = inl (name_of u.cubes (unnamed Cubes));
    })
ask_names run task unnamed asked (inr (inr (inl u))) = quiet_names run unnamed (record { proof = u.proof; made = u.made; out = u.out })
    (record {
      cnf = given run (Ask task) task.file asked refl u.takes.name;
      order = given_order run (Ask task) asked (unnamed Order) u.orders;
      buckets = inl (name_of u.buckets (unnamed Buckets));
      schedule = inl (name_of u.schedule (unnamed Schedule));
      judged = inl (name_of u.judged (unnamed ProofIn));
      cubes = given_cubes_file run task asked u.cubed.name;
    })
ask_names run task unnamed asked (inr (inr (inr q))) =
    let unmade = left_made run q.made (unnamed Made) in
    let names = reply_names run task asked (unnamed Out) q.came in
    record {
      cnf = given run (Ask task) task.file asked refl q.takes.name;
      order = given_order run (Ask task) asked (unnamed Order) q.orders;
      buckets = inl (name_of q.buckets (unnamed Buckets));
      schedule = inl (name_of q.schedule (unnamed Schedule));
      judged = inl (name_of q.judged (unnamed ProofIn));
      cubes = given_cubes_file run task asked q.cubed.name;
      proof = names.proof;
      made = unmade.named;
      out = names.out;
      read_first = names.read_first;
      accepted = λ _. inr (inr (inr ((task, asked), λ t. (q.problem, q.given, q.cubes, questions_of run task asked q t))));
      opened = λ _ given. absurd (named_apart Cubes asked refl given.1 refl);
      trimmed = λ _ given. absurd (named_apart Cubes asked refl given.1 refl);
      finished = unmade.finished;
    }
