-- What reading a text says of the run, whichever text it is.
use Rattle.std.proofs.Common.{◌≡◌, ℕ, ◌+◌, ◌-◌, ◌≤◌, Bool, List, [], ◌++◌, length, length-append, refl, sym, ap, ◌∙◌, subst, arith, Some}
use Rattle.std.proofs.Common.{Ok, Err, IsTrue, IsOk, inl, inr, append-nil}
use Rattle.std.specs.Prelude.{◌≢◌, ◌⊎◌, Result, IfOk, IsErr, OnOk, ⊤, drop}
use Rattle.host_io.specs.Channel.{Channel, Leaves, MayFollow, Rose}
use Rattle.host_io.specs.Files.{Files, Texts, Agrees, Offers, Opens}
use Rattle.host_io.specs.declared.source.Failed.{Failed}
use Rattle.text_scan.specs.Decides.{gained, gained-none, Decides, Fits, OnlyReads, agreed_text}
use Rattle.solver_cli.specs.Phases.{ReadsText, ReadsOpened, TakesText, Wanting}

-- want of memory, as the readers tell it
abbrev pub Wanted : {E : Type 0} → Wanting E → Channel → Channel → Type 0
Wanted wanting old new = (IsTrue wanting.early × (new ≡ old)) ⊎ Decides old new (λ bytes more. wanting.texts (length more) bytes)

-- of a reader that may want it before the first byte, and of one that may not
pub early_or : {E : Type 0} (wanting : Wanting E) (old new : Channel) → IsTrue wanting.early
    → (new ≡ old) ⊎ Decides old new (λ bytes more. wanting.texts (length more) bytes) → Wanted wanting old new
early_or wanting old new early (inl same) = inl (early, same)
early_or wanting old new early (inr decides) = inr decides

wanted_by : {E : Type 0} (wanting : Wanting E) (old new : Channel) → Wanted wanting old new
    → (IsTrue wanting.early × (gained old new ≡ []))
    ⊎ ((more : List ℕ) → MayFollow new more → wanting.texts (length more) (gained old new ++ more))
wanted_by wanting old new (inl none) = inl (none.0, ap (gained old) none.1 ∙ gained-none old)
wanted_by wanting old new (inr decides) = inr decides.holds

seen : {Text T E : Type 0} {whole so_far : List ℕ → Text} {unread : Text} {answers : Result T E → Text → Type 0} {fit : T
    → Type 0} {fault : E} {wanting : Wanting E} (tells : Bool) (old new : Channel) (result : Result T E)
    → (IsTrue tells → Decides old new (λ bytes more. answers result (whole bytes))) → IfOk result fit
    → (result ≡ Err fault → Rose old.faults new.faults) → (result ≢ Err fault → new.faults ≡ old.faults)
    → (IsTrue tells → result ≡ Err fault → so_far (gained old new) ≡ unread)
    → (IsTrue tells → result ≡ Err wanting.answer → Wanted wanting old new) → OnlyReads old new
    → ReadsOpened whole so_far unread answers fit fault wanting tells old new result
seen {wanting = wanting} tells old new result decides fits failed unfailed undecided memory reads = record {
  left = λ t. (decides t).left;
  told = λ t. (decides t).holds;
  fits = fits;
  failed = failed;
  unfailed = unfailed;
  undecided = undecided;
  memory = λ t e. wanted_by wanting old new (memory t e);
  written = reads.written;
  name = reads.name;
  faults = reads.faults;
}

pub read : {Text T E : Type 0} {whole so_far : List ℕ → Text} {unread : Text} {answers : Result T E → Text → Type 0} {fit : T
    → Type 0} {fault : E} {wanting : Wanting E} {tells : Bool} {seen_old seen_new old new : Channel} {result : Result T E}
    → seen_old ≡ old → new ≡ seen_new
    → (IsTrue tells → Decides seen_old seen_new (λ bytes more. answers result (whole bytes))) → IfOk result fit
    → (result ≡ Err fault → Rose seen_old.faults seen_new.faults) → (result ≢ Err fault → seen_new.faults ≡ seen_old.faults)
    → (IsTrue tells → result ≡ Err fault → so_far (gained seen_old seen_new) ≡ unread)
    → (IsTrue tells → result ≡ Err wanting.answer → Wanted wanting seen_old seen_new) → OnlyReads seen_old seen_new
    → ReadsOpened whole so_far unread answers fit fault wanting tells old new result
read {whole = whole} {so_far = so_far} {unread = unread} {answers = answers} {fit = fit} {fault = fault} {wanting = wanting} {tells = tells}
    {seen_old = seen_old} {seen_new = seen_new} {old = old} {new = new} {result = result} from to decides fits failed unfailed undecided
    memory reads =
    subst (λ (o : Channel). ReadsOpened whole so_far unread answers fit fault wanting tells o new result) from
    (subst (λ (n : Channel). ReadsOpened whole so_far unread answers fit fault wanting tells seen_old n result) (sym to)
    (seen tells seen_old seen_new result decides fits failed unfailed undecided memory reads))

-- a count that rose later has risen since
pub rose_since : {old middle new : ℕ} → old ≤ middle → Rose middle new → Rose old new
rose_since less rose = omega (arith, less, rose)

-- nothing is taken where a file is opened, or can't be
pub none_taken : {old new : Channel} {file : List ℕ} {answer : Result ⊤ Failed} → Opens old new file answer → gained old new ≡ []
none_taken {new = new} opens = ap (λ (l : List ℕ). drop (length l) new.taken) opens.was_idle.taken ∙ opens.idle.taken

-- the file was not opened; the empty text decides nothing
pub unopened : {Text T E : Type 0} {whole so_far : List ℕ → Text} {unread : Text} {answers : Result T E → Text → Type 0} {fit : T
    → Type 0} {fault : E} {wanting : Wanting E} {tells : Bool} {old new : Channel} {files : Files} {file : List ℕ}
    {answer : Result ⊤ Failed}
    → so_far [] ≡ unread → (◌≡◌ {A = Result T E} (Err fault) (Err wanting.answer) → ⊥) → Opens old new file answer → IsErr answer
    → TakesText whole so_far unread answers fit fault wanting tells old new files file (Err fault)
unopened {so_far = so_far} empty apart opens failed = record {
  read = λ t. inl refl;
  fits = tt;
  failed = λ e. opens.faults.cause failed;
  unfailed = λ differs. absurd (differs refl);
  undecided = λ t e. ap so_far (none_taken opens) ∙ empty;
  memory = λ t e. absurd (apart e);
  written = opens.idle.written ∙ sym opens.was_idle.written;
  name = opens.failed failed;
  faults = opens.faults.no_less;
}

-- what was taken since the file was opened was taken since before, when nothing had been
pub taken_since : {old opened : Channel} {file : List ℕ} {answer : Result ⊤ Failed} (new : Channel) → Opens old opened file answer
    → gained opened new ≡ gained old new
taken_since new opens = ap (λ (l : List ℕ). drop (length l) new.taken) (opens.idle.taken ∙ sym opens.was_idle.taken)

-- what is said of the bytes taken with whatever may follow them holds of the bytes taken, and of each content of the file that fits
pub of_taken : (P : List ℕ → Type 0) (opened new : Channel) {taken : List ℕ} → gained opened new ≡ taken
    → ((more : List ℕ) → MayFollow new more → P (gained opened new ++ more)) → P taken
of_taken P opened new same holds =
    subst P (append-nil (gained opened new) ∙ same) (holds [] (λ _. refl))

-- what follows those bytes is what is behind them
pub behind_taken : (front more taken : List ℕ) → front ≡ taken → length more ≡ length (front ++ more) - length taken
behind_taken front more taken same =
    let parts : length (front ++ more) ≡ length front + length more = length-append front more in
    let sizes : length front ≡ length taken = ap (λ (l : List ℕ). length l) same in
    omega (arith, parts, sizes)

-- what is said of an `Ok`, where the result is one
on_ok : {P : Type 0} (result : Result ⊤ Failed) → IsOk result → OnOk result P → P
on_ok (Ok x) done holds = holds
on_ok (Err e) done holds = cc

-- the bytes that were taken stand at the front of each content of the file that fits, and what is behind them may follow
pub of_content : {old opened : Channel} {file : List ℕ} {answer : Result ⊤ Failed} (new : Channel) (files : Files) (texts : Texts)
    → Opens old opened file answer → IsOk answer → OnOk answer (Offers (files file) opened.left)
    → Leaves opened.left (gained opened new) new.left → new.name ≡ opened.name → Fits files old new file texts
    → (more : List ℕ) × MayFollow new more × (texts file ≡ Some (gained opened new ++ more))
of_content {opened = opened} {file = file} {answer = answer} new files texts opens ok offers left name fits =
    agreed_text (files file) opened new (texts file) (on_ok answer ok offers) left
    (subst (λ (l : List ℕ). Agrees (files file) new l (texts file)) (sym (taken_since new opens)) (fits (name ∙ opens.named ok)))

-- the file was opened, and then read
pub taken : {Text T E : Type 0} {whole so_far : List ℕ → Text} {unread : Text} {answers : Result T E → Text → Type 0} {fit : T
    → Type 0} {fault : E} {wanting : Wanting E} {tells : Bool} {old opened new : Channel} {files : Files} {file : List ℕ}
    {answer : Result ⊤ Failed} {result : Result T E}
    → Opens old opened file answer → IsOk answer → (IsTrue tells → OnOk answer (Offers (files file) opened.left))
    → ReadsOpened whole so_far unread answers fit fault wanting tells opened new result
    → TakesText whole so_far unread answers fit fault wanting tells old new files file result
taken {whole = whole} {so_far = so_far} {answers = answers} {wanting = wanting} {old = old} {opened = opened} {new = new}
    {files = files} {result = result} opens ok content reads =
    let same : gained opened new ≡ gained old new = taken_since new opens in
    record {
      read = λ t. inr (λ texts fits.
          let found = of_content new files texts opens ok (content t) (reads.left t) reads.name fits in
          record {
            bytes = gained opened new ++ found.0;
            stands = found.2;
            told = reads.told t found.0 found.1;
            decided = of_taken (λ l. answers result (whole l)) opened new same (reads.told t);
          });
      fits = reads.fits;
      failed = λ e. rose_since opens.faults.no_less (reads.failed e);
      unfailed = λ differs. reads.unfailed differs ∙ opens.faults.unfailed ok;
      undecided = λ t e. ap so_far (sym same) ∙ reads.undecided t e;
      memory = λ t e. elim (reads.memory t e) [
        | inl none ↦ inl (none.0, sym same ∙ none.1)
        | inr wants ↦ inr (λ texts fits.
            let found = of_content new files texts opens ok (content t) (reads.left t) reads.name fits in
            record {
              bytes = gained opened new ++ found.0;
              stands = found.2;
              whole = subst (λ n. wanting.texts n (gained opened new ++ found.0))
                  (behind_taken (gained opened new) found.0 (gained old new) same) (wants found.0 found.1);
              front = subst (wanting.texts 0) (append-nil (gained opened new) ∙ same) (wants [] (λ _. refl));
            })
      ];
      written = reads.written ∙ opens.idle.written ∙ sym opens.was_idle.written;
      name = inl (reads.name ∙ opens.named ok);
      faults = omega (arith, opens.faults.no_less, reads.faults);
    }

-- what was read, where no call failed
pub text_read : {Text T E : Type 0} {whole so_far : List ℕ → Text} {unread : Text} {answers : Result T E → Text → Type 0} {fit : T
    → Type 0} {fault : E} {wanting : Wanting E} {tells : Bool} {old new : Channel} {files : Files} {file : List ℕ} {result : Result T E}
    (texts : Texts) → result ≢ Err fault → TakesText whole so_far unread answers fit fault wanting tells old new files file result
    → Fits files old new file texts → IsTrue tells → ReadsText whole answers texts file (gained old new) result
text_read texts differs takes fits t = elim (takes.read t) [
  | inl failed ↦ absurd (differs failed)
  | inr text ↦ text texts fits
]

-- no answer is both
pub ok_err : {T E : Type 0} {value : T} {error : E} → ◌≡◌ {A = Result T E} (Ok value) (Err error) → ⊥
ok_err e = cc

pub same_error : {T E : Type 0} {a b : E} → ◌≡◌ {A = Result T E} (Err a) (Err b) → a ≡ b
same_error e = cc
