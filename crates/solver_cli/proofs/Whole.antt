-- The promises of a whole run, from those of its work, of its explanation and of the line on standard error.
use Rattle.std.proofs.Common.{◌≡◌, ℕ, List, refl, sym, ap, ◌∙◌, subst, Some, None, inl, inr}
use Rattle.std.specs.Prelude.{Option}
use Rattle.host_io.specs.Channel.{Channel}
use Rattle.host_io.specs.Files.{Files, Others, Kept}
use Rattle.host_io.specs.declared.role.Role.{Role}
use Rattle.host_io.specs.declared.role.Role.TheVariants.{Cnf, Order, Buckets, Schedule, ProofIn, Cubes, ProofOut, Made, Out, Err as ErrRole}
use Rattle.cnf_base.specs.Formula.{Formula}
use Rattle.schedule_plan.specs.declared.plan.Move.{Move}
use Rattle.solver_cli.specs.Phases.{Complains}
use Rattle.command_line.specs.Command.{ToConvert, ToTrim, Solve, Ask, Check, Bench, Make, Arrange, Convert, Trim, command, progress_asked}
use Rattle.solver_cli.specs.Stages.{Streams, FilesBeside, Job, streams_of, Came, CameToAnswer, CameToArrange, CameToBench, CameToCheck}
use Rattle.solver_cli.specs.Stages.{CameToAsk, CameToConvert, CameToMake, CameToTrim, Stages}
use Rattle.solver_cli.specs.Headline.{ErrorStands, Promises}
use Rattle.solver_cli.specs.Explained.{is_explained}
use Rattle.solver_cli.specs.Progress.{IsTold}
use Rattle.solver_cli.specs.Run.{Run}
use Rattle.solver_cli.specs.Faults.{ConvertsAsItReads}
use Rattle.solver_cli.proofs.Commented.{told_name}
use Rattle.solver_cli.proofs.Facts.{same_command}
use Rattle.solver_cli.proofs.Promised.{Core, misused}
use Rattle.solver_cli.proofs.Helped.{helped}
use Rattle.solver_cli.proofs.Untaken.{took, untaken, unordered, unbucketed, unplanned}
use Rattle.solver_cli.proofs.Accepted.{Posed, posed_by_board, posed_by_files, uncreated, undecided}
use Rattle.solver_cli.proofs.Printed.{answered}
use Rattle.solver_cli.proofs.VerdictLaws.{Laws}
use Rattle.solver_cli.proofs.Unjudged.{checks, unjudged}
use Rattle.solver_cli.proofs.Conversions.{converted, unconverted}
use Rattle.solver_cli.proofs.Trimmings.{rejected, trimmed, untrimmed}
use Rattle.solver_cli.proofs.Questions.{questioned, uncubed}
use Rattle.solver_cli.proofs.Verdicts.{judged, plainly}
use Rattle.solver_cli.proofs.Texts.{arranged, made, unarranged, unmade}
use Rattle.solver_cli.proofs.Named.{stream_names, names}
use Rattle.solver_cli.proofs.StandardError.{error_stands}
use Rattle.solver_cli.proofs.Told.{Told, told, failures, quiet}

answers : (run : Run) {problem : Formula} {order : List ℕ} {moves : List Move} {job : Job} → Posed run problem order moves job
    → CameToAnswer run.tells (run.before ProofOut) (run.after ProofOut) (run.before Out) (run.after Out) problem order moves job run.status
    → Core run
answers run posed (inl u) = uncreated run posed u
answers run posed (inr (inl u)) = undecided run posed u
answers run posed (inr (inr a)) = answered run posed a

core : Laws → (run : Run) → Stages run.tells run.words (streams_of run.before) (streams_of run.after) run.files run.status → Core run
core law run (inl m) = misused run m
core law run (inr (inl h)) = helped run h
core law run (inr (inr (inl t))) = came t.came where
  came : Came run.tells (streams_of run.before) (streams_of run.after) run.files t.task run.status → Core run
  came (inl u) = untaken run (Solve t.task) t.task.file t.asked refl u
  came (inr (inl u)) = unordered run (Solve t.task) t.task.file t.task.order t.asked refl refl refl u
  came (inr (inr (inl u))) = unbucketed run t.task t.asked u
  came (inr (inr (inr (inl u)))) = unplanned run t.task t.asked u
  came (inr (inr (inr (inr s)))) = answers run (posed_by_files run t.task t.asked s.prepared) s.came
core law run (inr (inr (inr (inl c)))) = came c.came where
  came : CameToCheck run.tells (streams_of run.before) (streams_of run.after) run.files c.task run.status → Core run
  came (inl u) = untaken run (Check c.task) c.task.file c.asked refl u
  came (inr (inl u)) =
      let asks = took run (Check c.task) c.task.file u.problem c.asked refl u.takes in
      unjudged law run (checks run c.task c.asked asks u.takes.fits.literals u.made u.proof) u.made u.out u.error u.judges u.ends
  came (inr (inr j)) =
      let asks = took run (Check c.task) c.task.file j.problem c.asked refl j.takes in
      judged law run (checks run c.task c.asked asks j.takes.fits.literals j.made j.proof) j.verdict j.judges
      (λ t bytes stands. record {
        converted = λ given. absurd (no_conversion (same_command c.asked given.1));
        trimmed = λ _ given. absurd (no_trimming (same_command c.asked given.1));
      })
      (λ t bytes stands. plainly run j.problem bytes c.asked refl j.verdict) j.printed j.puts j.ends where
        no_conversion : {other : ToConvert} → Check c.task ≡ Convert other → ⊥
        no_conversion e = cc

        no_trimming : {other : ToTrim} → Check c.task ≡ Trim other → ⊥
        no_trimming e = cc
core law run (inr (inr (inr (inr (inl b))))) = came b.came where
  came : CameToBench run.tells (streams_of run.before) (streams_of run.after) b.task run.status → Core run
  came (inl u) = unmade run (Bench b.task) b.asked u
  came (inr had) = answers run (posed_by_board run b.task b.asked had.board had.made) had.came
core law run (inr (inr (inr (inr (inr (inl m)))))) = came m.came where
  came : CameToMake run.tells (streams_of run.before) (streams_of run.after) m.task run.status → Core run
  came (inl u) = unmade run (Make m.task) m.asked u
  came (inr b) = made run m.task m.asked b
core law run (inr (inr (inr (inr (inr (inr (inl a))))))) = came a.came where
  came : CameToArrange run.tells (streams_of run.before) (streams_of run.after) run.files a.task run.status → Core run
  came (inl u) = untaken run (Arrange a.task) a.task.file a.asked refl u
  came (inr (inl u)) = unarranged run a.task a.asked u
  came (inr (inr had)) = arranged run a.task a.asked had
core law run (inr (inr (inr (inr (inr (inr (inr (inl d)))))))) = came d.came where
  came : CameToConvert run.tells (streams_of run.before) (streams_of run.after) run.files d.task run.status → Core run
  came (inl u) = untaken run (Convert d.task) d.task.file d.asked refl u
  came (inr (inl u)) = unconverted law run d.task d.asked u
  came (inr (inr had)) = converted law run d.task d.asked had
core law run (inr (inr (inr (inr (inr (inr (inr (inr (inl d))))))))) = came d.came where
  came : CameToTrim run.tells (streams_of run.before) (streams_of run.after) run.files d.task run.status → Core run
  came (inl u) = untaken run (Trim d.task) d.task.file d.asked refl u
  came (inr (inl u)) = untrimmed law run d.task d.asked u
  came (inr (inr (inl r))) = rejected law run d.task d.asked r
  came (inr (inr (inr had))) = trimmed law run d.task d.asked had
core law run (inr (inr (inr (inr (inr (inr (inr (inr (inr a))))))))) = came a.came where
  came : CameToAsk run.tells (streams_of run.before) (streams_of run.after) run.files a.task run.status → Core run
  came (inl u) = untaken run (Ask a.task) a.task.file a.asked refl u
  came (inr (inl u)) = unordered run (Ask a.task) a.task.file a.task.order a.asked refl refl refl u
  came (inr (inr (inl u))) = uncubed run a.task a.asked u
  came (inr (inr (inr had))) = questioned run a.task a.asked had

whole : Laws → (run : Run) → ((role : Role) → (run.before role).name ≡ None)
    → Stages run.tells run.words (streams_of run.before) (streams_of run.after) run.files run.status
    → (run.after ErrRole).name ≡ None → FilesBeside (run.after ProofOut).name (run.after Made).name run.files run.files_after
    → ErrorStands run → Promises run
whole law run unnamed stages error files stands =
    let c : Core run = core law run stages in
    let counts : Told (ConvertsAsItReads run) (streams_of run.before) (streams_of run.after) run.status = told stages in
    record {
      unsatisfiable = c.unsatisfiable;
      satisfiable = c.satisfiable;
      undecided = c.undecided;
      answered = c.answered;
      verdict = c.verdict;
      made = c.made;
      made_file = c.made_file;
      refusals = c.refusals;
      faults = c.faults (quiet run counts);
      failures = failures run counts;
      output = c.output;
      error = stands;
      proof = c.proof;
      names = names run (stream_names run unnamed stages) error files;
      complete = c.complete;
    }

-- the streams stay where only standard error was written
streams_kept : (old new : Role → Channel) → Others ErrRole old new → streams_of new ≡ streams_of old
streams_kept old new beside = λ i. record {
  cnf = beside Cnf refl i;
  order = beside Order refl i;
  buckets = beside Buckets refl i;
  schedule = beside Schedule refl i;
  judged = beside ProofIn refl i;
  cubes = beside Cubes refl i;
  proof = beside ProofOut refl i;
  made = beside Made refl i;
  out = beside Out refl i;
}

pub promises : Laws → (run : Run) (middle later : Role → Channel) (files files_later : Files)
    → ((role : Role) → (run.before role).name ≡ None)
    → Stages run.tells run.words (streams_of run.before) (streams_of middle) run.files run.status
    → IsTold (progress_asked (command run.words)) run.tells (run.before ErrRole) (middle ErrRole) → FilesBeside (middle ProofOut).name (middle Made).name run.files files
    → IsTold (is_explained run.words run.status) run.tells (middle ErrRole) (later ErrRole)
    → Kept ErrRole (middle ErrRole).name middle later files files_later
    → Complains run.tells (later ErrRole) (run.after ErrRole) run.status
    → Kept ErrRole (later ErrRole).name later run.after files_later run.files_after → Promises run
promises law run middle later files files_later unnamed stages told beside explained kept complains kept_last = whole law run unnamed
    (subst (λ (s : Streams). Stages run.tells run.words (streams_of run.before) s run.files run.status)
    (sym (streams_kept later run.after kept_last.others ∙ streams_kept middle later kept.others)) stages)
    (complains.only.name ∙ later_none)
    (λ file proof made. kept_last.files file (λ same. none_some (sym later_none ∙ same))
    ∙ kept.files file (λ same. none_some (sym err_none ∙ same))
    ∙ beside file (λ same. proof (ap (λ (c : Channel). c.name) (kept_last.others ProofOut refl ∙ kept.others ProofOut refl) ∙ same))
    (λ same. made (ap (λ (c : Channel). c.name) (kept_last.others Made refl ∙ kept.others Made refl) ∙ same)))
    (error_stands run (middle ErrRole) (later ErrRole) told explained complains) where
      err_none : (middle ErrRole).name ≡ None
      err_none = told_name told ∙ unnamed ErrRole

      later_none : (later ErrRole).name ≡ None
      later_none = told_name explained ∙ err_none

      none_some : {file : List ℕ} → ◌≡◌ {A = Option (List ℕ)} None (Some file) → ⊥
      none_some e = cc
