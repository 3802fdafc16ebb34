-- What the conversion of an opened proof says of the run.
use Rattle.std.proofs.Common.{◌≡◌, ℕ, Bool, List, [], ◌++◌, length, append-nil, refl, sym, ap, ◌∙◌, subst}
use Rattle.std.proofs.Common.{None, Some, Ok, Err, IsTrue, IsOk, inl, inr}
use Rattle.std.specs.Prelude.{Option, Result, IsErr, OnOk, ⊤, drop}
use Rattle.host_io.specs.Channel.{Channel, MayFollow, Flushes}
use Rattle.host_io.specs.Files.{Files, Offers, Kept, Opens}
use Rattle.host_io.specs.declared.role.Role.{Role}
use Rattle.host_io.specs.declared.role.Role.TheVariants.{ProofIn, ProofOut}
use Rattle.host_io.specs.declared.source.Failed.{Failed}
use Rattle.text_scan.specs.Decides.{gained}
use Rattle.proof_judging.specs.Verdict.{Answers}
use Rattle.cnf_base.specs.Formula.{Formula}
use Rattle.lrat_rules.specs.State.{start}
use Rattle.proof_judging.specs.declared.verdict.Verdict.{Verdict}
use Rattle.proof_judging.specs.declared.verdict.Verdict.TheVariants as judgement
use Rattle.proof_judging.specs.declared.verdict.CheckError.{CheckError}
use Rattle.proof_judging.specs.declared.verdict.CheckError.TheVariants as check_error
use Rattle.drat_proof.specs.Conversion.{HasVerdict, converted}
use Rattle.drat_proof.specs.TwoRoles.{KeptButTwo, added}
use Rattle.drat_proof.specs.declared.error.ConvertError.{ConvertError}
use Rattle.drat_proof.specs.declared.error.ConvertError.TheVariants as error
use Rattle.lrat_from_drat.specs.Lrat.{Outline}
use Rattle.lrat_from_drat.specs.Conversion.{AreFirstLinesOf, AreLinesOf, AreSteps, HasSteps}
use Rattle.command_line.specs.Command.{format_before}
use Rattle.command_line.specs.declared.conversion.Conversion.{Conversion}
use Rattle.command_line.specs.declared.conversion.Conversion.TheVariants.{IntoDrat, IntoLrat}
use Rattle.solver_cli.specs.Format.{verdict_in}
use Rattle.solver_cli.specs.Phases.{ChecksProof, JudgesProof}
use Rattle.solver_cli.specs.ConvertedProof.{Converts, ConvertsProof, HasConverted, RewritesProof}
use Rattle.solver_cli.proofs.Facts.{behind, nothing_more, whole_of}
use Rattle.solver_cli.proofs.Judging.{judged, unopened, wanted_by}
use Rattle.solver_cli.proofs.Reading.{of_content, ok_err, rose_since}

-- all lines are the first ones, and those with no rest
pub all_first : {becomes : List Outline} {written : List ℕ} → AreLinesOf becomes written → AreFirstLinesOf becomes written
all_first {becomes} {written} lines = record { front = becomes; rest = []; parts = sym (append-nil becomes); lines = lines }

pub no_rest : {becomes : List Outline} {written : List ℕ} → AreFirstLinesOf becomes written
    → (rest : List ℕ) × AreFirstLinesOf becomes (written ++ rest)
no_rest {becomes} {written} lines = ([], subst (AreFirstLinesOf becomes) (sym (append-nil written)) lines)

-- what was written stands where the flush failed
broken : (into : Conversion) (problem : Formula) (verdict : Verdict) (bytes written : List ℕ)
    → HasConverted into problem (Ok verdict) bytes written → HasConverted into problem (Err error.WriteFault) bytes written
broken (IntoDrat fresh) problem verdict bytes written has = ([], sym has ∙ sym (append-nil written))
broken (IntoLrat any_order) problem verdict bytes written has = (torn verdict has.0, no_rest (all_first has.1), λ e. cc) where
  with_rest : AreSteps (start problem.clauses) written → (rest : List ℕ) × AreSteps (start problem.clauses) (written ++ rest)
  with_rest are = ([], subst (AreSteps (start problem.clauses)) (sym (append-nil written)) are)

  torn : (verdict : Verdict) → HasSteps (Ok verdict) (start problem.clauses) written
      → (rest : List ℕ) × AreSteps (start problem.clauses) (written ++ rest)
  torn judgement.Verified are = with_rest (record { then = are.then; steps = are.steps; leads = are.leads; text = are.text })
  torn (judgement.Refused line reason) are = with_rest are

-- it came to no verdict, and nothing was flushed
pub unflushed : {tells : Bool} {in_old in_new out_old out_new : Channel} {into : Conversion} {problem : Formula}
    {result answer : Result Verdict ConvertError}
    {why : ConvertError}
    → Converts tells in_old in_new out_old out_new into problem result → result ≡ Err why → answer ≡ Err why
    → ConvertsProof tells in_old in_new out_old out_new into problem answer
unflushed {tells = tells} {in_old = in_old} {in_new = in_new} {out_old = out_old} {out_new = out_new} {into = into} {problem = problem}
    {why = why} c is
    ends = subst (λ (r : Result Verdict ConvertError). ConvertsProof tells in_old in_new out_old out_new into problem r) (sym ends)
    (told (subst (λ (r : Result Verdict ConvertError). Converts tells in_old in_new out_old out_new into problem r) is c)) where
      told : Converts tells in_old in_new out_old out_new into problem (Err why)
          → ConvertsProof tells in_old in_new out_old out_new into problem (Err why)
      told c = record {
        left = λ t. (c.decides t).left;
        judged = λ t. (c.decides t).holds;
        undecided = c.undecided;
        memory = λ t e. wanted_by (format_before into) problem.clauses in_old in_new (c.memory t e);
        read_fault = c.read_fault;
        unfailed_reads = c.unfailed_reads;
        read_written = c.reads.written;
        read_name = c.reads.name;
        read_faults = c.reads.faults;
        written = λ t. (c.written t).holds;
        flushed = λ t e. cc;
        write_fault = c.write_fault;
        unfailed_writes = c.unfailed_writes;
        name = c.writes.name;
      }

-- it came to a verdict, and the flush failed or didn't
pub flushed : {tells : Bool} {in_old in_new in_last out_old out_mid out_new : Channel} {into : Conversion} {problem : Formula}
    {result : Result Verdict ConvertError} {verdict : Verdict}
    → Converts tells in_old in_new out_old out_mid into problem result → result ≡ Ok verdict → (answer : Result ⊤ Failed)
    → Flushes tells out_mid out_new answer → IsOk answer → in_last ≡ in_new
    → ConvertsProof tells in_old in_last out_old out_new into problem (Ok verdict)
flushed {tells = tells} {in_old = in_old} {in_new = in_new} {out_old = out_old} {out_mid = out_mid} {out_new = out_new} {into = into}
    {problem = problem}
    {verdict = verdict} c is answer flushes done to =
    subst (λ (last : Channel). ConvertsProof tells in_old last out_old out_new into problem (Ok verdict)) (sym to)
    (told (subst (λ (r : Result Verdict ConvertError). Converts tells in_old in_new out_old out_mid into problem r) is c)) where
      told : Converts tells in_old in_new out_old out_mid into problem (Ok verdict)
          → ConvertsProof tells in_old in_new out_old out_new into problem (Ok verdict)
      told c = record {
        left = λ t. (c.decides t).left;
        judged = λ t. (c.decides t).holds;
        undecided = c.undecided;
        memory = λ t e. absurd (ok_err e);
        read_fault = c.read_fault;
        unfailed_reads = c.unfailed_reads;
        read_written = c.reads.written;
        read_name = c.reads.name;
        read_faults = c.reads.faults;
        written = λ t more may.
            subst (λ (l : List ℕ). HasConverted into problem (Ok verdict) (gained in_old in_new ++ more) (drop (length out_old.written) l))
            (sym flushes.written) ((c.written t).holds more may);
        flushed = λ t _. flushes.done t done;
        write_fault = λ e. absurd (ok_err e);
        unfailed_writes = λ differs. flushes.faults.unfailed done ∙ c.unfailed_writes differs;
        name = flushes.name ∙ c.writes.name;
      }

pub torn : {tells : Bool} {in_old in_new in_last out_old out_mid out_new : Channel} {into : Conversion} {problem : Formula}
    {result : Result Verdict ConvertError} {verdict : Verdict}
    → Converts tells in_old in_new out_old out_mid into problem result → result ≡ Ok verdict → (answer : Result ⊤ Failed)
    → Flushes tells out_mid out_new answer → IsErr answer → in_last ≡ in_new
    → ConvertsProof tells in_old in_last out_old out_new into problem (Err error.WriteFault)
torn {tells = tells} {in_old = in_old} {in_new = in_new} {out_old = out_old} {out_mid = out_mid} {out_new = out_new} {into = into}
    {problem = problem}
    {verdict = verdict} c is answer flushes failed to =
    subst (λ (last : Channel). ConvertsProof tells in_old last out_old out_new into problem (Err error.WriteFault)) (sym to)
    (told (subst (λ (r : Result Verdict ConvertError). Converts tells in_old in_new out_old out_mid into problem r) is c)) where
      told : Converts tells in_old in_new out_old out_mid into problem (Ok verdict)
          → ConvertsProof tells in_old in_new out_old out_new into problem (Err error.WriteFault)
      told c = record {
        left = λ t. (c.decides t).left;
        judged = λ t more may. tt;
        undecided = λ t e. cc;
        memory = λ t e. cc;
        read_fault = λ e. cc;
        unfailed_reads = λ _. c.unfailed_reads (λ e. ok_err e);
        read_written = c.reads.written;
        read_name = c.reads.name;
        read_faults = c.reads.faults;
        written = λ t more may. broken into problem verdict (gained in_old in_new ++ more) (added out_old out_new)
            (subst (λ (l : List ℕ). HasConverted into problem (Ok verdict) (gained in_old in_new ++ more) (drop (length out_old.written) l))
            (sym flushes.written) ((c.written t).holds more may));
        flushed = λ t e. cc;
        write_fault = λ _. rose_since c.writes.faults (flushes.faults.cause failed);
        unfailed_writes = λ differs. absurd (differs refl);
        name = flushes.name ∙ c.writes.name;
      }

-- the proof's file was not opened
no_answer_read : {tells : Bool} {old new : Channel} {files : Files} {file : List ℕ} {opened : Result ⊤ Failed}
    (into : Conversion) (problem : Formula)
    → Opens old new file opened → IsErr opened → (answer : Result Verdict CheckError)
    → ◌≡◌ {A = Result Verdict ConvertError} (Err error.ReadFault) (converted answer) → JudgesProof
    (format_before into) tells old new files file problem.clauses answer
no_answer_read into problem opens failed (Ok verdict) e = absurd (ok_err (sym e))
no_answer_read into problem opens failed (Err check_error.ReadFault) e = unopened opens failed
no_answer_read into problem opens failed (Err check_error.TooLong) e = cc
no_answer_read into problem opens failed (Err check_error.OutOfMemory) e = cc

none_added : {old new : Channel} → new ≡ old → added old new ≡ []
none_added {old = old} {new = new} same = behind old new [] (nothing_more old new (ap (λ (c : Channel). c.written) same))

pub unread : {tells : Bool} {in_old in_new out_old out_new : Channel} {files : Files} {file out : List ℕ} {into : Conversion}
    {problem : Formula}
    {opened : Result ⊤ Failed}
    → Opens in_old in_new file opened → IsErr opened → out_new ≡ out_old → out_old.name ≡ None
    → RewritesProof tells in_old in_new out_old out_new files file out into problem (Err error.ReadFault)
unread {into = into} {problem = problem} opens failed same unnamed =
    let none = ap (λ (c : Channel). c.name) same ∙ unnamed in
    record {
      judges = no_answer_read into problem opens failed;
      unfailed_reads = λ differs. absurd (differs refl);
      read_written = opens.idle.written ∙ sym opens.was_idle.written;
      read_name = opens.failed failed;
      written = λ t. inl (refl, none_added same);
      flushed = λ t e. cc;
      write_fault = λ e. cc;
      unfailed_writes = λ _. ap (λ (c : Channel). c.faults) same;
      name = inr none;
      opened = λ named. absurd (named none);
    }

-- the other one was not created
no_answer_written : {A : Type 0} (answer : Result Verdict CheckError)
    → ◌≡◌ {A = Result Verdict ConvertError} (Err error.WriteFault) (converted answer) → A
no_answer_written (Ok verdict) e = absurd (ok_err (sym e))
no_answer_written (Err check_error.ReadFault) e = cc
no_answer_written (Err check_error.TooLong) e = cc
no_answer_written (Err check_error.OutOfMemory) e = cc

some_none : {name : Option (List ℕ)} {file : List ℕ} → name ≡ Some file → name ≡ None → ⊥
some_none {file = file} e d = apart (sym e ∙ d) where
  apart : ◌≡◌ {A = Option (List ℕ)} (Some file) None → ⊥
  apart e = cc

pub uncreated : {tells : Bool} {in_old in_mid in_new out_old out_mid out_new : Channel} {files : Files} {file out : List ℕ}
    {into : Conversion} {problem : Formula} {opened created : Result ⊤ Failed}
    → Opens in_old in_mid file opened → IsOk opened → out_mid ≡ out_old → Opens out_mid out_new out created → IsErr created
    → in_new ≡ in_mid
    → RewritesProof tells in_old in_new out_old out_new files file out into problem (Err error.WriteFault)
uncreated {tells = tells} {in_old = in_old} {in_mid = in_mid} {out_old = out_old} {out_mid = out_mid} {out_new = out_new} {files = files}
    {file = file} {out = out} {into = into} {problem = problem}
    {created = created} opens ok from creates failed to =
    subst (λ (c : Channel). RewritesProof tells in_old c out_old out_new files file out into problem (Err error.WriteFault)) (sym to)
    (subst (λ (c : Channel). RewritesProof tells in_old in_mid c out_new files file out into problem (Err error.WriteFault)) from (record {
      judges = λ answer e. no_answer_written answer e;
      unfailed_reads = λ _. opens.faults.unfailed ok;
      read_written = opens.idle.written ∙ sym opens.was_idle.written;
      read_name = inl (opens.named ok);
      written = λ t. inl (refl, whole_of out_mid out_new creates.was_idle.written ∙ creates.idle.written);
      flushed = λ t e. cc;
      write_fault = λ _. creates.faults.cause failed;
      unfailed_writes = λ differs. absurd (differs refl);
      name = creates.failed failed;
      opened = λ _ none. some_none (opens.named ok) none;
    }))

-- a conversion judges as a check does
as_check : (answer : Result Verdict CheckError) (text : Option Verdict) → HasVerdict (converted answer) text → Answers answer text
as_check (Ok verdict) text has = has
as_check (Err check_error.TooLong) text has = has
as_check (Err check_error.ReadFault) text has = tt
as_check (Err check_error.OutOfMemory) text has = tt

read_failed : (answer : Result Verdict CheckError) → converted answer ≡ Err error.ReadFault → answer ≡ Err check_error.ReadFault
read_failed (Ok verdict) e = absurd (ok_err e)
read_failed (Err check_error.ReadFault) e = refl
read_failed (Err check_error.TooLong) e = cc
read_failed (Err check_error.OutOfMemory) e = cc

checks : {tells : Bool} {in_old in_new out_old out_new : Channel} {into : Conversion} {problem : Formula}
    (answer : Result Verdict CheckError)
    → ConvertsProof tells in_old in_new out_old out_new into problem (converted answer)
    → ChecksProof (format_before into) tells in_old in_new problem.clauses answer
checks {in_old = in_old} {in_new = in_new} {into = into} {problem = problem} answer c = record {
  left = c.left;
  judged = λ t more may. as_check answer (verdict_in (format_before into) problem.clauses (gained in_old in_new ++ more))
      (c.judged t more may);
  fault = λ e. c.read_fault (ap converted e);
  unfailed = λ differs. c.unfailed_reads (λ e. differs (read_failed answer e));
  undecided = λ t e. c.undecided t (ap converted e);
  memory = λ t e. c.memory t (ap converted e);
  written = c.read_written;
  name = c.read_name;
  faults = c.read_faults;
}

-- both files were there, and the proof was converted
pub rewritten : {tells : Bool} {in_old in_opened in_mid in_new out_old out_mid out_created out_new : Channel} {files : Files}
    {file out : List ℕ} {into : Conversion} {problem : Formula} {opened created : Result ⊤ Failed} {result : Result Verdict ConvertError}
    → Opens in_old in_opened file opened → IsOk opened → (IsTrue tells → OnOk opened (Offers (files file) in_opened.left)) → out_mid ≡ out_old
    → Opens out_mid out_created out created → IsOk created → in_mid ≡ in_opened
    → ConvertsProof tells in_mid in_new out_created out_new into problem result
    → RewritesProof tells in_old in_new out_old out_new files file out into problem result
rewritten {tells = tells} {in_old = in_old} {in_opened = in_opened} {in_mid = in_mid} {in_new = in_new} {out_old = out_old}
    {out_mid = out_mid}
    {out_created = out_created} {out_new = out_new} {files = files} {file = file} {out = out} {into = into} {problem = problem}
    {result = result} opens ok
    content from creates done to converts =
    subst (λ (c : Channel). RewritesProof tells in_old in_new c out_new files file out into problem result) from
    (told (subst (λ (c : Channel). ConvertsProof tells c in_new out_created out_new into problem result) to converts)) where
      -- nothing was written before
      same : added out_created out_new ≡ added out_mid out_new
      same = ap (λ (l : List ℕ). drop (length l) out_new.written) (creates.idle.written ∙ sym creates.was_idle.written)

      told : ConvertsProof tells in_opened in_new out_created out_new into problem result
          → RewritesProof tells in_old in_new out_mid out_new files file out into problem result
      told c = record {
        judges = λ answer e. judged opens ok content
            (checks answer (subst (λ (r : Result Verdict ConvertError). ConvertsProof tells in_opened in_new out_created out_new into problem r) e c));
        unfailed_reads = λ differs. c.unfailed_reads differs ∙ opens.faults.unfailed ok;
        read_written = c.read_written ∙ opens.idle.written ∙ sym opens.was_idle.written;
        read_name = inl (c.read_name ∙ opens.named ok);
        written = λ t. inr (λ texts fits.
            let found = of_content in_new files texts opens ok (content t) (c.left t) c.read_name fits in
            record { bytes = gained in_opened in_new ++ found.0; stands = found.2; holds = has t found.0 found.1 });
        flushed = c.flushed;
        write_fault = λ e. rose_since creates.faults.no_less (c.write_fault e);
        unfailed_writes = λ differs. c.unfailed_writes differs ∙ creates.faults.unfailed done;
        name = inl (c.name ∙ creates.named done);
        opened = λ _ none. some_none (c.read_name ∙ opens.named ok) none;
      } where
        has : IsTrue tells → (more : List ℕ) → MayFollow in_new more
            → HasConverted into problem result (gained in_opened in_new ++ more) (added out_mid out_new)
        has t more may = subst (λ (l : List ℕ). HasConverted into problem result (gained in_opened in_new ++ more) l) same (c.written t more may)

-- what calls of the two roles leave alone, one after another
none_some : {name : List ℕ} → ◌≡◌ {A = Option (List ℕ)} None (Some name) → ⊥
none_some e = cc

pub kept_read : {own : Option (List ℕ)} {old new : Role → Channel} {before after : Files} → Kept ProofIn None old new before after
    → KeptButTwo ProofIn ProofOut own old new before after
kept_read kept = record { others = λ other a b. kept.others other a; files = λ file n. kept.files file none_some }

pub kept_written : {own name : Option (List ℕ)} {old new : Role → Channel} {before after : Files}
    → Kept ProofOut name old new before after → name ≡ own → KeptButTwo ProofIn ProofOut own old new before after
kept_written kept same = record {
  others = λ other a b. kept.others other b;
  files = λ file n. kept.files file (λ e. n (sym same ∙ e));
}

pub then_kept : {own : Option (List ℕ)} {old mid new : Role → Channel} {before between after : Files}
    → KeptButTwo ProofIn ProofOut own old mid before between → KeptButTwo ProofIn ProofOut own mid new between after
    → KeptButTwo ProofIn ProofOut own old new before after
then_kept first second = record {
  others = λ other a b. second.others other a b ∙ first.others other a b;
  files = λ file n. second.files file n ∙ first.files file n;
}

pub kept_as : {own name : Option (List ℕ)} {old new : Role → Channel} {before after : Files} → own ≡ name
    → KeptButTwo ProofIn ProofOut own old new before after → KeptButTwo ProofIn ProofOut name old new before after
kept_as {old = old} {new = new} {before = before} {after = after} same kept =
    subst (λ (n : Option (List ℕ)). KeptButTwo ProofIn ProofOut n old new before after) same kept
