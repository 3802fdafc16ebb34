-- What the check of an opened proof says of the run.
use Rattle.std.proofs.Common.{◌≡◌, ℕ, ◌+◌, ◌-◌, ℤ, Bool, List, [], ◌++◌, length, length-append, refl, sym, ap, ◌∙◌, subst, arith, None}
use Rattle.std.proofs.Common.{Err, IsTrue, IsOk, inl, inr}
use Rattle.std.specs.Prelude.{◌≢◌, ◌⊎◌, Result, IsErr, OnOk, ⊤}
use Rattle.host_io.specs.Channel.{Channel, MayFollow, Rose}
use Rattle.host_io.specs.Files.{Files, Offers, Opens}
use Rattle.host_io.specs.declared.source.Failed.{Failed}
use Rattle.text_scan.specs.Decides.{gained, gained-none, Decides, OnlyReads, Decides-taken}
use Rattle.proof_judging.specs.Verdict.{Answers}
use Rattle.proof_judging.specs.declared.verdict.Verdict.{Verdict}
use Rattle.proof_judging.specs.declared.verdict.CheckError.{CheckError}
use Rattle.proof_judging.specs.declared.verdict.CheckError.TheVariants.{ReadFault, OutOfMemory}
use Rattle.command_line.specs.declared.format.ProofFormat.{ProofFormat}
use Rattle.command_line.specs.declared.format.ProofFormat.TheVariants.{Lrat, Drat, DratBySet}
use Rattle.solver_cli.specs.Format.{may_want_memory_in, so_far_in, verdict_in}
use Rattle.solver_cli.specs.Phases.{ChecksProof, JudgesProof, WantsProof}
use Rattle.solver_cli.proofs.Reading.{none_taken, of_content, of_taken, rose_since, taken_since}

-- want of memory, as the check tells it
abbrev pub Wanted : ProofFormat → List (List ℤ) → Channel → Channel → Type 0
Wanted format clauses old new = (new ≡ old)
    ⊎ Decides old new (λ bytes more. IsTrue (may_want_memory_in format clauses (length more) bytes))

-- what a check tells of the text, by its format
pub record SaysInFormat (format : ProofFormat) (tells : Bool) (clauses : List (List ℤ)) (old new : Channel)
    (result : Result Verdict CheckError) : Type 0 where
  pub decides : IsTrue tells → Decides old new (λ bytes more. Answers result (verdict_in format clauses bytes))
  pub undecided : IsTrue tells → result ≡ Err ReadFault → so_far_in format clauses (gained old new) ≡ None
  pub memory : IsTrue tells → result ≡ Err OutOfMemory → Wanted format clauses old new

pub in_format : {format own : ProofFormat} {tells : Bool} {clauses : List (List ℤ)} {old new : Channel} {result : Result Verdict CheckError}
    → format ≡ own → SaysInFormat own tells clauses old new result → SaysInFormat format tells clauses old new result
in_format {tells = tells} {clauses = clauses} {old = old} {new = new} {result = result} is judges =
    subst (λ (f : ProofFormat). SaysInFormat f tells clauses old new result) (sym is) judges

pub wanted_by : (format : ProofFormat) (clauses : List (List ℤ)) (old new : Channel) → Wanted format clauses old new → (more : List ℕ)
    → MayFollow new more → WantsProof format clauses (gained old new ++ more) (gained old new)
wanted_by format clauses old new (inl same) more may = inl (ap (gained old) same ∙ gained-none old)
wanted_by format clauses old new (inr decides) more may =
    let parts : length (gained old new ++ more) ≡ length (gained old new) + length more = length-append (gained old new) more in
    let behind : length more ≡ length (gained old new ++ more) - length (gained old new) = omega (arith, parts) in
    inr (
      subst (λ n. IsTrue (may_want_memory_in format clauses n (gained old new ++ more))) behind (decides.holds more may),
      Decides-taken decides,
    )

seen : (format : ProofFormat) (tells : Bool) (old new : Channel) (clauses : List (List ℤ)) (result : Result Verdict CheckError)
    → (IsTrue tells → Decides old new (λ bytes more. Answers result (verdict_in format clauses bytes)))
    → (result ≡ Err ReadFault → Rose old.faults new.faults) → (result ≢ Err ReadFault → new.faults ≡ old.faults)
    → (IsTrue tells → result ≡ Err ReadFault → so_far_in format clauses (gained old new) ≡ None)
    → (IsTrue tells → result ≡ Err OutOfMemory → Wanted format clauses old new) → OnlyReads old new
    → ChecksProof format tells old new clauses result
seen format tells old new clauses result decides fault unfailed undecided memory reads = record {
  left = λ t. (decides t).left;
  judged = λ t. (decides t).holds;
  fault = fault;
  unfailed = unfailed;
  undecided = undecided;
  memory = λ t e. wanted_by format clauses old new (memory t e);
  written = reads.written;
  name = reads.name;
  faults = reads.faults;
}

pub checked : (format : ProofFormat) {tells : Bool} {seen_old seen_new old new : Channel} {clauses : List (List ℤ)}
    {result : Result Verdict CheckError} → seen_old ≡ old → new ≡ seen_new
    → (IsTrue tells → Decides seen_old seen_new (λ bytes more. Answers result (verdict_in format clauses bytes)))
    → (result ≡ Err ReadFault → Rose seen_old.faults seen_new.faults) → (result ≢ Err ReadFault → seen_new.faults ≡ seen_old.faults)
    → (IsTrue tells → result ≡ Err ReadFault → so_far_in format clauses (gained seen_old seen_new) ≡ None)
    → (IsTrue tells → result ≡ Err OutOfMemory → Wanted format clauses seen_old seen_new) → OnlyReads seen_old seen_new
    → ChecksProof format tells old new clauses result
checked format {tells = tells} {seen_old = seen_old} {seen_new = seen_new} {old = old} {new = new} {clauses = clauses} {result = result} from to
    decides fault unfailed undecided memory reads =
    subst (λ (o : Channel). ChecksProof format tells o new clauses result) from
    (subst (λ (n : Channel). ChecksProof format tells seen_old n clauses result) (sym to)
    (seen format tells seen_old seen_new clauses result decides fault unfailed undecided memory reads))

empty_text : (format : ProofFormat) (clauses : List (List ℤ)) → so_far_in format clauses [] ≡ None
empty_text Lrat clauses = refl
empty_text Drat clauses = refl
empty_text DratBySet clauses = refl

-- the file was not opened
pub unopened : {format : ProofFormat} {tells : Bool} {old new : Channel} {files : Files} {file : List ℕ} {clauses : List (List ℤ)} {answer : Result ⊤ Failed}
    → Opens old new file answer → IsErr answer → JudgesProof format tells old new files file clauses (Err ReadFault)
unopened {format = format} {clauses = clauses} opens failed = record {
  read = λ t. inl refl;
  fault = λ e. opens.faults.cause failed;
  unfailed = λ no. absurd (no refl);
  undecided = λ t e. ap (so_far_in format clauses) (none_taken opens) ∙ empty_text format clauses;
  written = opens.idle.written ∙ sym opens.was_idle.written;
  name = opens.failed failed;
  faults = opens.faults.no_less;
}

-- the file was opened, and then its text was judged
pub judged : {format : ProofFormat} {tells : Bool} {old opened new : Channel} {files : Files} {file : List ℕ} {clauses : List
    (List ℤ)} {answer : Result ⊤ Failed} {result : Result Verdict CheckError}
    → Opens old opened file answer → IsOk answer → (IsTrue tells → OnOk answer (Offers (files file) opened.left))
    → ChecksProof format tells opened new clauses result → JudgesProof format tells old new files file clauses result
judged {format = format} {tells = tells} {old = old} {opened = opened} {new = new} {files = files} {clauses = clauses} {result = result} opens ok content
    checks =
    let same : gained opened new ≡ gained old new = taken_since new opens in
    record {
      read = λ t. inr (λ texts fits.
          let found = of_content new files texts opens ok (content t) (checks.left t) checks.name fits in
          record {
            bytes = gained opened new ++ found.0;
            stands = found.2;
            judged = checks.judged t found.0 found.1;
            decided = of_taken (λ l. Answers result (verdict_in format clauses l)) opened new same (checks.judged t);
            memory = λ e. subst (WantsProof format clauses (gained opened new ++ found.0)) same (checks.memory t e found.0 found.1);
          });
      fault = λ e. rose_since opens.faults.no_less (checks.fault e);
      unfailed = λ no. checks.unfailed no ∙ opens.faults.unfailed ok;
      undecided = λ t e. ap (so_far_in format clauses) (sym same) ∙ checks.undecided t e;
      written = checks.written ∙ opens.idle.written ∙ sym opens.was_idle.written;
      name = inl (checks.name ∙ opens.named ok);
      faults = omega (arith, opens.faults.no_less, checks.faults);
    }
