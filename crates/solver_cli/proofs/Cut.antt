-- What trimming an opened proof, and writing its trimmed form, says of the run.
use Rattle.std.proofs.Common.{◌≡◌, ℕ, ℤ, Bool, List, [], ◌++◌, refl, sym, ap, ◌∙◌, subst, arith, None, Some, Ok, Err, IsTrue, IsOk}
use Rattle.std.proofs.Common.{inl, inr}
use Rattle.std.specs.Prelude.{◌≢◌, Option, Result, IsErr, OnOk, ⊤}
use Rattle.cnf_base.specs.Formula.{Formula}
use Rattle.cnf_base.specs.declared.step.Step.{Step}
use Rattle.host_io.specs.Channel.{Channel, MayFollow, Rose}
use Rattle.host_io.specs.Files.{Files, Offers, Opens}
use Rattle.host_io.specs.declared.role.Role.TheVariants.{ProofIn}
use Rattle.host_io.specs.declared.source.Failed.{Failed}
use Rattle.text_scan.specs.Decides.{gained, Decides, OnlyReads}
use Rattle.dimacs_reader.specs.Cnf.{formula}
use Rattle.proof_judging.specs.Verdict.{Answers}
use Rattle.lrat_checker.specs.TextVerdict.{text_verdict, verdict_so_far}
use Rattle.proof_judging.specs.declared.verdict.Verdict.{Verdict}
use Rattle.proof_judging.specs.declared.verdict.Verdict.TheVariants as judgement
use Rattle.proof_judging.specs.declared.verdict.CheckError.{CheckError}
use Rattle.proof_judging.specs.declared.verdict.CheckError.TheVariants.{ReadFault, TooLong, OutOfMemory}
use Rattle.drat_proof.specs.TwoRoles.{added}
use Rattle.proof_trim.specs.Answer.{Trims, WantsMemory}
use Rattle.proof_trim.specs.Core.{core as core_numbers, core_text}
use Rattle.proof_trim.specs.Trimmed.{additions, additions_of_text, trim, trimmed}
use Rattle.proof_trim.specs.declared.text.Trimmed.{Trimmed}
use Rattle.proof_trim.specs.declared.text.Trimmed.TheVariants.{Steps, Refused}
use Rattle.command_line.specs.declared.format.ProofFormat.TheVariants.{Lrat}
use Rattle.command_line.specs.Command.{ToTrim, Trim, command}
use Rattle.solver_cli.specs.Phases.{JudgesProof, PutsText}
use Rattle.solver_cli.specs.TrimmedProof.{PutsFile, PutsNamed, TrimsBytes, TrimsOpened, TrimsProof, TrimsText, WantsTrimming}
use Rattle.solver_cli.specs.Run.{Run, taken_in, AsksOver, HasVerdict}
use Rattle.solver_cli.proofs.Facts.{whole_of}
use Rattle.solver_cli.proofs.Judging.{wanted_by as proof_wanted}
use Rattle.solver_cli.proofs.Reading.{none_taken, of_content, of_taken, ok_err, rose_since, taken_since}

-- want of memory, as trimming tells it
wanted_by : (clauses : List (List ℤ)) (old new : Channel) → WantsMemory clauses old new → (more : List ℕ) → MayFollow new more
    → WantsTrimming clauses (gained old new ++ more) (gained old new)
wanted_by clauses old new (inl same) more may = inl (proof_wanted Lrat clauses old new (inl same) more may)
wanted_by clauses old new (inr (inl wants)) more may = inl (proof_wanted Lrat clauses old new (inr wants) more may)
wanted_by clauses old new (inr (inr verified)) more may = inr (verified.holds more may)

-- an opened proof, as trimming tells it
seen : (tells : Bool) (old new : Channel) (clauses : List (List ℤ)) (result : Result Trimmed CheckError)
    → (IsTrue tells → Decides old new (λ bytes more. TrimsBytes result clauses bytes))
    → (result ≡ Err ReadFault → Rose old.faults new.faults) → (result ≢ Err ReadFault → new.faults ≡ old.faults)
    → (IsTrue tells → result ≡ Err ReadFault → verdict_so_far clauses (gained old new) ≡ None)
    → (IsTrue tells → result ≡ Err OutOfMemory → WantsMemory clauses old new) → OnlyReads old new
    → TrimsOpened tells old new clauses result
seen tells old new clauses result decides fault unfailed undecided memory reads = record {
  left = λ t. (decides t).left;
  told = λ t. (decides t).holds;
  fault = fault;
  unfailed = unfailed;
  undecided = undecided;
  memory = λ t e. wanted_by clauses old new (memory t e);
  written = reads.written;
  name = reads.name;
  faults = reads.faults;
}

pub cut : {tells : Bool} {seen_old seen_new old new : Channel} {clauses : List (List ℤ)} {result : Result Trimmed CheckError}
    → seen_old ≡ old → new ≡ seen_new
    → (IsTrue tells → Decides seen_old seen_new (λ bytes more. TrimsBytes result clauses bytes))
    → (result ≡ Err ReadFault → Rose seen_old.faults seen_new.faults) → (result ≢ Err ReadFault → seen_new.faults ≡ seen_old.faults)
    → (IsTrue tells → result ≡ Err ReadFault → verdict_so_far clauses (gained seen_old seen_new) ≡ None)
    → (IsTrue tells → result ≡ Err OutOfMemory → WantsMemory clauses seen_old seen_new) → OnlyReads seen_old seen_new
    → TrimsOpened tells old new clauses result
cut {tells = tells} {seen_old = seen_old} {seen_new = seen_new} {old = old} {new = new} {clauses = clauses} {result = result} from to
    decides fault unfailed undecided memory reads =
    subst (λ (o : Channel). TrimsOpened tells o new clauses result) from
    (subst (λ (n : Channel). TrimsOpened tells seen_old n clauses result) (sym to)
    (seen tells seen_old seen_new clauses result decides fault unfailed undecided memory reads))

empty_text : (clauses : List (List ℤ)) → verdict_so_far clauses [] ≡ None
empty_text clauses = refl

-- the file was not opened
pub unopened : {tells : Bool} {old new : Channel} {files : Files} {file : List ℕ} {clauses : List (List ℤ)} {answer : Result ⊤ Failed}
    → Opens old new file answer → IsErr answer → TrimsProof tells old new files file clauses (Err ReadFault)
unopened {clauses = clauses} opens failed = record {
  read = λ t. inl refl;
  fault = λ e. opens.faults.cause failed;
  unfailed = λ no. absurd (no refl);
  undecided = λ t e. ap (verdict_so_far clauses) (none_taken opens) ∙ empty_text clauses;
  written = opens.idle.written ∙ sym opens.was_idle.written;
  name = opens.failed failed;
  faults = opens.faults.no_less;
}

-- the file was opened, and then its text trimmed
pub cut_whole : {tells : Bool} {old opened new : Channel} {files : Files} {file : List ℕ} {clauses : List (List ℤ)}
    {answer : Result ⊤ Failed} {result : Result Trimmed CheckError}
    → Opens old opened file answer → IsOk answer → (IsTrue tells → OnOk answer (Offers (files file) opened.left))
    → TrimsOpened tells opened new clauses result → TrimsProof tells old new files file clauses result
cut_whole {old = old} {opened = opened} {new = new} {files = files} {clauses = clauses} {result = result} opens ok content trims =
    let same : gained opened new ≡ gained old new = taken_since new opens in
    record {
      read = λ t. inr (λ texts fits.
          let found = of_content new files texts opens ok (content t) (trims.left t) trims.name fits in
          record {
            bytes = gained opened new ++ found.0;
            stands = found.2;
            told = trims.told t found.0 found.1;
            decided = of_taken (TrimsBytes result clauses) opened new same (trims.told t);
            memory = λ e. subst (WantsTrimming clauses (gained opened new ++ found.0)) same (trims.memory t e found.0 found.1);
          });
      fault = λ e. rose_since opens.faults.no_less (trims.fault e);
      unfailed = λ no. trims.unfailed no ∙ opens.faults.unfailed ok;
      undecided = λ t e. ap (verdict_so_far clauses) (sym same) ∙ trims.undecided t e;
      written = trims.written ∙ opens.idle.written ∙ sym opens.was_idle.written;
      name = inl (trims.name ∙ opens.named ok);
      faults = omega (arith, opens.faults.no_less, trims.faults);
    }

-- trimming judges as a check does
abbrev pub answer_of : Result Trimmed CheckError → Result Verdict CheckError
answer_of (Ok (Steps steps core kept total)) = Ok judgement.Verified
answer_of (Ok (Refused line reason)) = Ok (judgement.Refused line reason)
answer_of (Err error) = Err error

as_answers : (result : Result Trimmed CheckError) (text : Option Verdict) (steps : List Step) (numbers : List ℕ) (count : ℕ)
    → Trims result text steps numbers count → Answers (answer_of result) text
as_answers (Ok (Steps kept_steps core kept total)) text steps numbers count is = is.0
as_answers (Ok (Refused line reason)) text steps numbers count is = is
as_answers (Err TooLong) text steps numbers count is = is
as_answers (Err ReadFault) text steps numbers count is = tt
as_answers (Err OutOfMemory) text steps numbers count is = tt

read_failed : (result : Result Trimmed CheckError) → answer_of result ≡ Err ReadFault → result ≡ Err ReadFault
read_failed (Ok (Steps steps core kept total)) e = absurd (ok_err e)
read_failed (Ok (Refused line reason)) e = absurd (ok_err e)
read_failed (Err TooLong) e = cc
read_failed (Err ReadFault) e = refl
read_failed (Err OutOfMemory) e = cc

pub judges_of : {tells : Bool} {old new : Channel} {files : Files} {file : List ℕ} {clauses : List (List ℤ)}
    (result : Result Trimmed CheckError) → TrimsProof tells old new files file clauses result → (answer_of result ≡ Err OutOfMemory → ⊥)
    → JudgesProof Lrat tells old new files file clauses (answer_of result)
judges_of {old = old} {new = new} {clauses = clauses} result trims plenty = record {
  read = λ t. elim (trims.read t) [
    | inl e ↦ inl (ap answer_of e)
    | inr trimmed_text ↦ inr (λ texts fits.
        let text = trimmed_text texts fits in
        record {
          bytes = text.bytes;
          stands = text.stands;
          judged = as_answers result (text_verdict clauses text.bytes) (trimmed clauses text.bytes) (core_numbers clauses text.bytes)
              (additions_of_text text.bytes) text.told;
          decided = as_answers result (text_verdict clauses (gained old new)) (trimmed clauses (gained old new))
              (core_numbers clauses (gained old new)) (additions_of_text (gained old new)) text.decided;
          memory = λ e. absurd (plenty e);
        })
  ];
  fault = λ e. trims.fault (read_failed result e);
  unfailed = λ differs. trims.unfailed (λ e. differs (ap answer_of e));
  undecided = λ t e. trims.undecided t (read_failed result e);
  written = trims.written;
  name = trims.name;
  faults = trims.faults;
}

-- The proof that the words name is verified, and these are the lines of its trimmed form, those of its core, and the counts.
pub record VerifiedBy (run : Run) (task : ToTrim) (problem : Formula) (lines core : List ℕ) (kept total : ℕ)
    : Type 0 where
  pub bytes : List ℕ
  pub stands : run.texts task.proof ≡ Some bytes
  pub judged : text_verdict problem.clauses bytes ≡ Some judgement.Verified
  pub verdict : HasVerdict run problem bytes judgement.Verified
  pub lines_are : lines ≡ trim problem.clauses bytes
  pub core_is : core ≡ core_text (core_numbers problem.clauses bytes)
  pub kept_are : kept ≡ additions (trimmed problem.clauses bytes)
  pub total_is : total ≡ additions_of_text bytes

pub verified : (run : Run) (task : ToTrim) (problem : Formula) {lines core : List ℕ} {kept total : ℕ}
    → command run.words ≡ Some (Trim task) → (IsTrue run.tells → AsksOver run (Trim task) (formula problem))
    → TrimsProof run.tells (run.before ProofIn) (run.after ProofIn) run.files task.proof problem.clauses (Ok (Steps lines core kept total))
    → IsTrue run.tells → VerifiedBy run task problem lines core kept total
verified run task problem {lines = lines} {core = core} {kept = kept} {total = total} asked read trims t = by (trimmed_text) where
  trimmed_text : TrimsText run.texts task.proof problem.clauses (taken_in run ProofIn) (Ok (Steps lines core kept total))
  trimmed_text = elim (trims.read t) [ inl e ↦ absurd (ok_err e) | inr text ↦ text run.texts (run.fits ProofIn tt task.proof) ]

  by : TrimsText run.texts task.proof problem.clauses (taken_in run ProofIn) (Ok (Steps lines core kept total))
      → VerifiedBy run task problem lines core kept total
  by text = record {
    bytes = text.bytes;
    stands = text.stands;
    judged = text.told.0;
    verdict = record {
      asked = record { asked = Trim task; asks = read t; file = task.proof; named = refl; stands = text.stands };
      judged = text.told.0;
    };
    lines_are = text.told.1;
    core_is = text.told.2;
    kept_are = text.told.3;
    total_is = text.told.4;
  }

-- the file of the trimmed proof was not created
pub uncreated : {tells : Bool} {old new : Channel} {file text : List ℕ} {answer : Result ⊤ Failed} {error : Failed}
    → Opens old new file answer → IsErr answer → PutsFile tells old new file text (Err error)
uncreated {old = old} {new = new} {text = text} opens failed =
    let none : added old new ≡ [] = whole_of old new opens.was_idle.written ∙ opens.idle.written in
    record {
      done = λ t ok. cc;
      flushed = λ t ok. cc;
      front = λ t. (text, ap (λ (l : List ℕ). l ++ text) (sym none));
      fault = λ _. opens.faults.cause failed;
      unfailed = λ ok. cc;
      name = opens.failed failed;
    }

-- it was created, and its lines written or not
pub put_whole : {tells : Bool} {old created new : Channel} {file text : List ℕ} {answer result : Result ⊤ Failed}
    → Opens old created file answer → IsOk answer → PutsText tells created new text result → PutsFile tells old new file text result
put_whole {old = old} {created = created} {new = new} {text = text} opens ok puts = record {
  done = λ t done. all text (puts.done t done);
  flushed = puts.flushed;
  front = λ t. let part = puts.front t in (part.1, part.3 ∙ ap (λ (l : List ℕ). l ++ part.1) (sym (all part.0 part.2)));
  fault = λ failed. rose_since opens.faults.no_less (puts.fault failed);
  unfailed = λ done. puts.unfailed done ∙ opens.faults.unfailed ok;
  name = inl (puts.only.name ∙ opens.named ok);
} where
  -- nothing stood in the file
  all : (part : List ℕ) → new.written ≡ created.written ++ part → added old new ≡ part
  all part grown = whole_of old new opens.was_idle.written ∙ grown ∙ ap (λ (l : List ℕ). l ++ part) opens.idle.written

-- a further file: the one that is named, or none
pub put_named : {tells : Bool} {old new : Channel} {named : Option (List ℕ)} {file text : List ℕ} {answer : Result ⊤ Failed}
    → named ≡ Some file → PutsFile tells old new file text answer → PutsNamed tells old new named text answer
put_named {tells = tells} {old = old} {new = new} {text = text} {answer = answer} is puts = record {
  unasked = λ none. absurd (some_none (sym is ∙ none));
  asked = λ other names. subst (λ (f : List ℕ). PutsFile tells old new f text answer) (one_file (sym is ∙ names)) puts;
} where
  some_none : {here : List ℕ} → ◌≡◌ {A = Option (List ℕ)} (Some here) None → ⊥
  some_none e = cc

  one_file : {here there : List ℕ} → ◌≡◌ {A = Option (List ℕ)} (Some here) (Some there) → here ≡ there
  one_file e = cc

pub put_unnamed : {tells : Bool} {channel : Channel} {named : Option (List ℕ)} {text : List ℕ} {x : ⊤} → named ≡ None
    → PutsNamed tells channel channel named text (Ok x)
put_unnamed is = record { unasked = λ _. (refl, refl); asked = λ file names. absurd (none_some (sym is ∙ names)) } where
  none_some : {here : List ℕ} → ◌≡◌ {A = Option (List ℕ)} None (Some here) → ⊥
  none_some e = cc
