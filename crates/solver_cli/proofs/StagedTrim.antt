-- How the calls of `trim` make its stages.
use Rattle.std.proofs.Common.{◌≡◌, ℕ, ℤ, Bool, List, refl, sym, ap, ◌∙◌, subst, Some, None, Ok, Err, IsOk, inl, inr}
use Rattle.std.specs.Prelude.{Option, Result, IsErr, IsFalse, ⊤}
use Rattle.cnf_base.specs.Formula.{Formula}
use Rattle.host_io.specs.declared.role.Role.{Role}
use Rattle.host_io.specs.declared.role.Role.TheVariants.{Cnf, Order, Buckets, Schedule, ProofIn, Cubes, ProofOut, Made, Out}
use Rattle.host_io.specs.declared.source.Failed.{Failed}
use Rattle.host_io.specs.Channel.{Channel}
use Rattle.host_io.specs.Files.{Files, Kept, same_role}
use Rattle.answer_text.specs.Status.{trimmed_text}
use Rattle.lrat_rules.specs.declared.outcome.Reason.{Reason}
use Rattle.proof_judging.specs.declared.verdict.Verdict.{Verdict}
use Rattle.proof_judging.specs.declared.verdict.Verdict.TheVariants as judgement
use Rattle.proof_judging.specs.declared.verdict.CheckError.{CheckError}
use Rattle.drat_proof.specs.TwoRoles.{KeptButTwo}
use Rattle.proof_trim.specs.declared.text.Trimmed.{Trimmed}
use Rattle.proof_trim.specs.declared.text.Trimmed.TheVariants.{Steps, Refused}
use Rattle.command_line.specs.Command.{ToTrim}
use Rattle.solver_cli.specs.declared.status.Status.{Status}
use Rattle.solver_cli.specs.declared.status.Status.TheVariants.{WriteFault}
use Rattle.solver_cli.specs.ExitCode.{status_of_check}
use Rattle.solver_cli.specs.Verdict.{verdict_text}
use Rattle.solver_cli.specs.Phases.{TakesFormula, PutsText}
use Rattle.solver_cli.specs.TrimmedProof.{PutsFile, PutsNamed, TrimsProof}
use Rattle.solver_cli.specs.Stages.{streams_of, CameToKeep, CameToTrim, FilesBeside, KeptButThree, ShowsVerdict, status_of_printed}
use Rattle.solver_cli.proofs.Staged.{printed_from, same_files, still_taken}

-- what was told of a stream that earlier and later calls left alone, and of the files before
cut_from : {tells : Bool} {start old new now : Channel} {before files : Files} {file : List ℕ} {clauses : List (List ℤ)}
    {result : Result Trimmed CheckError} → old ≡ start → now ≡ new → files ≡ before
    → TrimsProof tells old new files file clauses result → TrimsProof tells start now before file clauses result
cut_from {tells = tells} {start = start} {new = new} {now = now} {files = files} {file = file} {clauses = clauses} {result = result} from to
    same trims =
    subst (λ (f : Files). TrimsProof tells start now f file clauses result) same
    (subst (λ (c : Channel). TrimsProof tells start c files file clauses result) (sym to)
    (subst (λ (c : Channel). TrimsProof tells c new files file clauses result) from trims))

-- the same of an answer that is known
trims_as : {tells : Bool} {old new : Channel} {files : Files} {file : List ℕ} {clauses : List (List ℤ)} {answer known : Trimmed}
    → answer ≡ known → TrimsProof tells old new files file clauses (Ok answer) → TrimsProof tells old new files file clauses (Ok known)
trims_as {tells = tells} {old = old} {new = new} {files = files} {file = file} {clauses = clauses} is trims =
    subst (λ (t : Trimmed). TrimsProof tells old new files file clauses (Ok t)) is trims

-- the verdict as printed, told from an earlier state of standard output
shown_from : {tells : Bool} {start old new : Channel} {text : List ℕ} {verdict : Verdict} {status : Status} → old ≡ start
    → ShowsVerdict tells old new text verdict status → ShowsVerdict tells start new text verdict status
shown_from {tells = tells} {new = new} {text = text} {verdict = verdict} {status = status} from shows =
    subst (λ (c : Channel). ShowsVerdict tells c new text verdict status) from shows

kept_from : {tells : Bool} {start old new start_made old_made made start_out old_out out : Channel} {file text : List ℕ}
    {named : Option (List ℕ)} {core : List ℕ} {kept total : ℕ} {status : Status}
    → old ≡ start → old_made ≡ start_made → old_out ≡ start_out
    → CameToKeep tells old new old_made made old_out out file text named core kept total status
    → CameToKeep tells start new start_made made start_out out file text named core kept total status
kept_from {tells = tells} {start = start} {new = new} {start_made = start_made} {old_made = old_made} {made = made} {old_out = old_out}
    {out = out} {file = file} {text = text} {named = named} {core = core} {kept = kept} {total = total} {status = status} from from_made
    from_out came =
    subst (λ (c : Channel). CameToKeep tells start new start_made made c out file text named core kept total status) from_out
    (subst (λ (c : Channel). CameToKeep tells start new c made old_out out file text named core kept total status) from_made
    (subst (λ (c : Channel). CameToKeep tells c new old_made made old_out out file text named core kept total status) from came))

pub untrimmed : {tells : Bool} {task : ToTrim} {problem : Formula} {error : CheckError} {status : Status}
    (old taken new : Role → Channel) (before files after : Files)
    → TakesFormula task.mode tells (old Cnf) (taken Cnf) before task.file (Ok problem) → Kept Cnf None old taken before files
    → TrimsProof tells (taken ProofIn) (new ProofIn) files task.proof problem.clauses (Err error)
    → Kept ProofIn None taken new files after → status ≡ status_of_check error
    → CameToTrim tells (streams_of old) (streams_of new) before task status
untrimmed {task = task} {problem = problem} {error = error} old taken new before files after takes beside_taken trims beside ends =
    inr (inl (record {
      problem = problem;
      takes = still_taken task.mode (beside.others Cnf refl) takes;
      order = beside.others Order refl ∙ beside_taken.others Order refl;
      buckets = beside.others Buckets refl ∙ beside_taken.others Buckets refl;
      schedule = beside.others Schedule refl ∙ beside_taken.others Schedule refl;
      error = error;
      trims = cut_from (beside_taken.others ProofIn refl) refl (same_files beside_taken.files) trims;
      cubes = beside.others Cubes refl ∙ beside_taken.others Cubes refl;
      proof = beside.others ProofOut refl ∙ beside_taken.others ProofOut refl;
      made = beside.others Made refl ∙ beside_taken.others Made refl;
      out = beside.others Out refl ∙ beside_taken.others Out refl;
      ends = ends;
    }))

pub rejected : {tells : Bool} {task : ToTrim} {problem : Formula} {answer : Trimmed} {line : ℕ} {reason : Reason} {name : Option (List ℕ)}
    {status : Status}
    (old taken judged new : Role → Channel) (before files after last : Files)
    → TakesFormula task.mode tells (old Cnf) (taken Cnf) before task.file (Ok problem) → Kept Cnf None old taken before files
    → TrimsProof tells (taken ProofIn) (judged ProofIn) files task.proof problem.clauses (Ok answer) → answer ≡ Refused line reason
    → Kept ProofIn None taken judged files after
    → ShowsVerdict tells (judged Out) (new Out) (verdict_text (judgement.Refused line reason)) (judgement.Refused line reason) status
    → Kept Out name judged new after last → CameToTrim tells (streams_of old) (streams_of new) before task status
rejected {task = task} {problem = problem} {line = line} {reason = reason} old taken judged new before files after last takes beside_taken
    trims is beside shows beside_new = inr (inr (inl (record {
      problem = problem;
      takes = still_taken task.mode (beside_new.others Cnf refl ∙ beside.others Cnf refl) takes;
      order = beside_new.others Order refl ∙ beside.others Order refl ∙ beside_taken.others Order refl;
      buckets = beside_new.others Buckets refl ∙ beside.others Buckets refl ∙ beside_taken.others Buckets refl;
      schedule = beside_new.others Schedule refl ∙ beside.others Schedule refl ∙ beside_taken.others Schedule refl;
      line = line;
      reason = reason;
      trims = cut_from (beside_taken.others ProofIn refl) (beside_new.others ProofIn refl) (same_files beside_taken.files)
          (trims_as is trims);
      cubes = beside_new.others Cubes refl ∙ beside.others Cubes refl ∙ beside_taken.others Cubes refl;
      proof = beside_new.others ProofOut refl ∙ beside.others ProofOut refl ∙ beside_taken.others ProofOut refl;
      made = beside_new.others Made refl ∙ beside.others Made refl ∙ beside_taken.others Made refl;
      shows = shown_from (beside.others Out refl ∙ beside_taken.others Out refl) shows;
    })))

pub trimmed : {tells : Bool} {task : ToTrim} {problem : Formula} {answer : Trimmed} {lines core : List ℕ} {kept total : ℕ}
    {one other : Option (List ℕ)} {status : Status} (old taken judged new : Role → Channel) (before files after last : Files)
    → TakesFormula task.mode tells (old Cnf) (taken Cnf) before task.file (Ok problem) → Kept Cnf None old taken before files
    → TrimsProof tells (taken ProofIn) (judged ProofIn) files task.proof problem.clauses (Ok answer) → answer ≡ Steps lines core kept total
    → Kept ProofIn None taken judged files after
    → CameToKeep tells (judged ProofOut) (new ProofOut) (judged Made) (new Made) (judged Out) (new Out) task.out lines task.core core kept
    total status
    → KeptButThree one other judged new after last → CameToTrim tells (streams_of old) (streams_of new) before task status
trimmed {task = task} {problem = problem} {lines = lines} {core = core} {kept = kept} {total = total} old taken judged new before files after last takes
    beside_taken trims is beside came beside_new = inr (inr (inr (record {
      problem = problem;
      takes = still_taken task.mode (beside_new.others Cnf refl refl refl ∙ beside.others Cnf refl) takes;
      order = beside_new.others Order refl refl refl ∙ beside.others Order refl ∙ beside_taken.others Order refl;
      buckets = beside_new.others Buckets refl refl refl ∙ beside.others Buckets refl ∙ beside_taken.others Buckets refl;
      schedule = beside_new.others Schedule refl refl refl ∙ beside.others Schedule refl ∙ beside_taken.others Schedule refl;
      lines = lines;
      core = core;
      kept = kept;
      total = total;
      trims = cut_from (beside_taken.others ProofIn refl) (beside_new.others ProofIn refl refl refl) (same_files beside_taken.files)
          (trims_as is trims);
      cubes = beside_new.others Cubes refl refl refl ∙ beside.others Cubes refl ∙ beside_taken.others Cubes refl;
      came = kept_from (beside.others ProofOut refl ∙ beside_taken.others ProofOut refl) (beside.others Made refl
          ∙ beside_taken.others Made refl) (beside.others Out refl ∙ beside_taken.others Out refl) came;
    })))

none_some : {name : List ℕ} → ◌≡◌ {A = Option (List ℕ)} None (Some name) → ⊥
none_some e = cc

pub files_rejected : {one other : Option (List ℕ)} {old taken judged new : Role → Channel} {before files after last : Files}
    → (old Out).name ≡ None → Kept Cnf None old taken before files → Kept ProofIn None taken judged files after
    → Kept Out (judged Out).name judged new after last → FilesBeside one other before last
files_rejected {judged = judged} unnamed beside_taken beside shows file one other =
    shows.files file (λ e. none_some (sym out_none ∙ e)) ∙ beside.files file none_some ∙ beside_taken.files file none_some where
      out_none : (judged Out).name ≡ None
      out_none = ap (λ (c : Channel). c.name) (beside.others Out refl ∙ beside_taken.others Out refl) ∙ unnamed

-- a role was left alone
pub still : {old taken judged : Role → Channel} {before files after : Files} → Kept Cnf None old taken before files
    → Kept ProofIn None taken judged files after → (role : Role) → IsFalse (same_role role Cnf) → IsFalse (same_role role ProofIn)
    → judged role ≡ old role
still beside_taken beside role a b = beside.others role b ∙ beside_taken.others role a

-- How the calls of `keep` make its ends: the steps were not written, or their core was not, or both were, and then the verdict was printed
-- or not.
pub unkept : {tells : Bool} {old new old_made made old_out out : Channel} {file text : List ℕ} {named : Option (List ℕ)} {core : List ℕ}
    {kept total : ℕ} {status : Status} (answer : Result ⊤ Failed) → PutsFile tells old new file text answer → IsErr answer
    → made ≡ old_made → out ≡ old_out → status ≡ WriteFault
    → CameToKeep tells old new old_made made old_out out file text named core kept total status
unkept (Ok x) puts failed same_made same ends = cc
unkept (Err error) puts failed same_made same ends =
    inl (record { error = error; puts = puts; unmade = same_made; same = same; ends = ends })

-- what was told of streams that other calls left alone
put_from : {tells : Bool} {old mid new : Channel} {file text : List ℕ} {answer : Result ⊤ Failed} → new ≡ mid
    → PutsFile tells old mid file text answer → PutsFile tells old new file text answer
put_from {tells = tells} {old = old} {file = file} {text = text} {answer = answer} to puts =
    subst (λ (c : Channel). PutsFile tells old c file text answer) (sym to) puts

named_from : {tells : Bool} {start old mid new : Channel} {named : Option (List ℕ)} {core : List ℕ} {answer : Result ⊤ Failed}
    → old ≡ start → new ≡ mid → PutsNamed tells old mid named core answer → PutsNamed tells start new named core answer
named_from {tells = tells} {start = start} {mid = mid} {named = named} {core = core} {answer = answer} from to puts =
    subst (λ (c : Channel). PutsNamed tells start c named core answer) (sym to)
    (subst (λ (c : Channel). PutsNamed tells c mid named core answer) from puts)

pub uncored : {tells : Bool} {old mid new old_made mid_made made old_out mid_out out : Channel} {file text : List ℕ}
    {named : Option (List ℕ)} {core : List ℕ} {kept total : ℕ} {status : Status} {answer : Result ⊤ Failed} (core_answer : Result ⊤ Failed)
    → PutsFile tells old mid file text answer → IsOk answer → new ≡ mid → mid_made ≡ old_made → mid_out ≡ old_out
    → PutsNamed tells mid_made made named core core_answer → IsErr core_answer → out ≡ mid_out → status ≡ WriteFault
    → CameToKeep tells old new old_made made old_out out file text named core kept total status
uncored (Ok x) puts done to from_made from cored failed same ends = cc
uncored {answer = answer} (Err error) puts done to from_made from cored failed same ends = inr (inl (record {
  answer = answer;
  done = done;
  puts = put_from to puts;
  error = error;
  cored = named_from from_made refl cored;
  same = same ∙ from;
  ends = ends;
}))

pub keeps : {tells : Bool} {old mid last new old_made mid_made last_made made old_out mid_out last_out out : Channel} {file text : List ℕ}
    {named : Option (List ℕ)} {core : List ℕ} {kept total : ℕ} {status : Status} {answer core_answer printed : Result ⊤ Failed}
    → PutsFile tells old mid file text answer → IsOk answer → last ≡ mid → new ≡ last
    → PutsNamed tells mid_made last_made named core core_answer → IsOk core_answer → mid_made ≡ old_made → made ≡ last_made
    → mid_out ≡ old_out → last_out ≡ mid_out
    → PutsText tells last_out out (trimmed_text kept total) printed → status ≡ status_of_printed judgement.Verified printed
    → CameToKeep tells old new old_made made old_out out file text named core kept total status
keeps {answer = answer} {core_answer = core_answer} {printed = printed} puts done to then cored core_done from_made to_made from from_last
    prints ends =
    inr (inr (record {
      answer = answer;
      done = done;
      puts = put_from (then ∙ to) puts;
      core_answer = core_answer;
      core_done = core_done;
      cored = named_from from_made to_made cored;
      shows = record { printed = printed; puts = printed_from (from_last ∙ from) prints; ends = ends };
    }))

-- what both calls leave alone
pub kept_file : {own : Option (List ℕ)} {old new : Role → Channel} {before after : Files} → Kept ProofOut own old new before after
    → KeptButTwo ProofOut Out own old new before after
kept_file kept = record { others = λ other a b. kept.others other a; files = kept.files }

pub kept_both : {old mid new : Role → Channel} {before between after : Files} → (old Out).name ≡ None
    → Kept ProofOut (mid ProofOut).name old mid before between → Kept Out (mid Out).name mid new between after
    → KeptButTwo ProofOut Out (new ProofOut).name old new before after
kept_both {mid = mid} {new = new} unnamed first second = record {
  others = λ other a b. second.others other b ∙ first.others other a;
  files = λ file own. second.files file (λ e. none_some (sym out_none ∙ e))
      ∙ first.files file (λ e. own (ap (λ (c : Channel). c.name) (second.others ProofOut refl) ∙ e));
} where
  out_none : (mid Out).name ≡ None
  out_none = ap (λ (c : Channel). c.name) (first.others Out refl) ∙ unnamed

-- what the calls of `keep` leave alone
pub kept_steps : {old new : Role → Channel} {other : Option (List ℕ)} {before after : Files}
    → Kept ProofOut (new ProofOut).name old new before after → KeptButThree (new ProofOut).name other old new before after
kept_steps kept = record { others = λ role a b c. kept.others role a; files = λ file own other. kept.files file own }

pub kept_core : {old mid new : Role → Channel} {before between after : Files} → Kept ProofOut (mid ProofOut).name old mid before between
    → Kept Made (new Made).name mid new between after → KeptButThree (new ProofOut).name (new Made).name old new before after
kept_core {mid = mid} {new = new} first second = record {
  others = λ role a b c. second.others role b ∙ first.others role a;
  files = λ file own other. second.files file other
      ∙ first.files file (λ e. own (ap (λ (c : Channel). c.name) (second.others ProofOut refl) ∙ e));
}

pub kept_all : {old mid last new : Role → Channel} {before between then after : Files} → (old Out).name ≡ None
    → Kept ProofOut (mid ProofOut).name old mid before between → Kept Made (last Made).name mid last between then
    → Kept Out (last Out).name last new then after → KeptButThree (new ProofOut).name (new Made).name old new before after
kept_all {last = last} {new = new} unnamed first second third = record {
  others = λ role a b c. third.others role c ∙ second.others role b ∙ first.others role a;
  files = λ file own other. third.files file (λ e. none_some (sym out_none ∙ e))
      ∙ second.files file (λ e. other (ap (λ (c : Channel). c.name) (third.others Made refl) ∙ e))
      ∙ first.files file (λ e. own (ap (λ (c : Channel). c.name) (third.others ProofOut refl ∙ second.others ProofOut refl) ∙ e));
} where
  out_none : (last Out).name ≡ None
  out_none = ap (λ (c : Channel). c.name) (second.others Out refl ∙ first.others Out refl) ∙ unnamed
