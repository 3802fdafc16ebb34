-- What was written of a complaint.
use Rattle.std.proofs.Common.{◌≡◌, ℕ, Bool, List, [], ◌++◌, length, take, drop, refl, sym, ap₂, ◌∙◌, append_assoc, Ok, Err, arith}
use Rattle.std.specs.Prelude.{Result, IsTrue, codes, decimal}
use Rattle.std.proofs.lemmas.List.{append-nil, take-append-drop}
use Rattle.host_io.specs.declared.role.Role.{Role}
use Rattle.host_io.specs.declared.source.Failed.{Failed}
use Rattle.host_io.specs.Channel.{Channel, Rose, WritesAll, Flushes}
use Rattle.solver_cli.specs.declared.status.Status.{Status}
use Rattle.solver_cli.specs.ErrorText.{role_word, refused_line, error_text}
use Rattle.solver_cli.specs.Phases.{Complains}

-- a flush behind a write covers all bytes, where no call failed
flushed_whole : {T U : Type 0} (tells : Bool) (old mid new : Channel) (piece : List ℕ) (result : Result T Failed)
    (flushed : Result U Failed) → WritesAll tells old mid piece result → Flushes tells mid new flushed
    → IsTrue tells → (Rose old.faults new.faults → ⊥) → new.flushed ≡ length new.written
flushed_whole tells old mid new piece result (Ok u) writes flushes t none = flushes.done t refl
flushed_whole tells old mid new piece result (Err e) writes flushes t none = absurd
    (none (omega (arith, flushes.faults.cause refl, writes.faults.no_less)))

-- the text was written, and whatever came of the flush
pub complained : {T U : Type 0} (tells : Bool) (old mid new : Channel) (status : Status) (result : Result T Failed)
    (flushed : Result U Failed) → WritesAll tells old mid (error_text status) result → Flushes tells mid new flushed
    → Complains tells old new status
complained tells old mid new status (Ok u) flushed writes flushes = record {
  written = λ t. (error_text status, [], flushes.written ∙ writes.done t refl, sym (append-nil (error_text status)), λ _. refl);
  flushed = flushed_whole tells old mid new (error_text status) (Ok u) flushed writes flushes;
  only = record { name = flushes.name ∙ writes.name; faults = omega (arith, flushes.faults.no_less, writes.faults.no_less) };
}
complained tells old mid new status (Err e) flushed writes flushes = record {
  written = λ t.
      let front = writes.failed t refl in (
        take front.0 (error_text status),
        drop front.0 (error_text status),
        flushes.written ∙ front.1,
        sym (take-append-drop front.0 (error_text status)),
        λ none. absurd (none (omega (arith, writes.faults.cause refl, flushes.faults.no_less))),
      );
  flushed = flushed_whole tells old mid new (error_text status) (Err e) flushed writes flushes;
  only = record { name = flushes.name ∙ writes.name; faults = omega (arith, flushes.faults.no_less, writes.faults.no_less) };
}

-- the parts of the line about a text that was refused
pub parts : (start digits last kind : List ℕ) → ((start ++ digits) ++ last) ++ kind ++ codes "\n" ≡ start
    ++ (digits ++ (last ++ kind ++ codes "\n"))
parts start digits last kind = simp append_assoc

-- what is written behind the line's number
abbrev pub kind_part : List ℕ → List ℕ
kind_part kind = codes ": " ++ kind ++ codes "\n"

-- the line is made of the three parts
pub refused : (role : Role) (line : ℕ) (kind start rest : List ℕ) → start ≡ codes "error: " ++ role_word role ++ codes " line "
    → rest ≡ kind_part kind → refused_line role line kind ≡ start ++ (decimal line ++ rest)
refused role line kind start rest is_start is_rest =
    parts (codes "error: " ++ role_word role ++ codes " line ") (decimal line) (codes ": ") kind
    ∙ sym (ap₂ (λ (a b : List ℕ). a ++ (decimal line ++ b)) is_start is_rest)
