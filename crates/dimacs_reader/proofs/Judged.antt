-- What two calls say together of the answer: the second decides it, of the bytes that follow those of the first.
use Rattle.std.proofs.Common.{◌≡◌, ℕ, false, List, ◌++◌, Option, None, Result, Ok, Err, refl, sym, ◌∙◌, ap, subst}
use Rattle.std.specs.Result.{IsErrAnd}
use Rattle.std.specs.Prelude.{codes}
use Rattle.host_io.specs.Channel.{Channel}
use Rattle.cnf_base.specs.Formula.{Formula, Draft}
use Rattle.cnf_base.specs.Number.{signed_number}
use Rattle.cnf_base.specs.Text.{Word}
use Rattle.text_scan.specs.Items.{Items, next_word}
use Rattle.text_scan.specs.Decides.{gained, Decides, Decides-then, gained-then}
use Rattle.text_scan.specs.Scan.{Gives}
use Rattle.text_scan.specs.declared.scanner.ScanError.{ScanError}
use Rattle.text_scan.specs.declared.scanner.ScanError.TheVariants.{ReadFault as ScanFault, TooLong as ScanTooLong}
use Rattle.dimacs_reader.specs.declared.error.CnfError.{CnfError}
use Rattle.dimacs_reader.specs.declared.error.CnfError.TheVariants.{Refused, ReadFault, TooLong, OutOfMemory}
use Rattle.dimacs_reader.specs.declared.error.CnfKind.{CnfKind}
use Rattle.dimacs_reader.specs.declared.mode.Mode.{Mode}
use Rattle.dimacs_reader.specs.Answers.{Answers, error_of}
use Rattle.dimacs_reader.specs.Body.{Takes, Passes, pass_none, pass_one}
use Rattle.dimacs_reader.specs.Cnf.{CnfText, overlong, is_word, with_read, offence_of, body}

pub then_answers : {a b c : Channel} {Q : List ℕ → List ℕ → Type 0} (r : Result Formula CnfError) (whole rest : List ℕ → CnfText)
    → Decides a b (λ bytes more. whole bytes ≡ rest more) → Decides b c Q
    → ((middle more : List ℕ) → Q middle more → Answers r (rest middle))
    → Decides a c (λ bytes more. Answers r (whole bytes))
then_answers r whole rest first second ends =
    Decides-then (λ bytes more. Answers r (whole bytes)) first second
    (λ bytes middle more p q. subst (λ t. Answers r t) (sym p) (ends middle more q))

-- a token that neither ends the clauses nor offends
pub goes_on : (mode new_mode : Mode) (word : Word) (items : Items) (count new_count : ℕ) (draft new_draft : Draft)
    → is_word (codes "%") word.bytes ≡ false
    → offence_of mode (signed_number word.bytes) count draft ≡ None → new_draft ≡ with_read (signed_number word.bytes) draft → new_count
    ≡ count → new_mode ≡ mode
    → body mode (next_word word items) count draft ≡ body new_mode items new_count new_draft
goes_on mode new_mode word items count new_count draft new_draft percent none new_is count_is mode_is = rw (
  percent,
  none,
  new_is,
  count_is,
  mode_is,
) refl

-- an error that was handed on
pub error_is : {A E : Type 0} (r : Result A E) (e : E) → IsErrAnd r (λ f. f ≡ e) → r ≡ Err e
error_is (Ok value) e h = absurd h
error_is (Err f) e h = ap Err h

-- one of the scanner
pub error_answers : (mode : Mode) (r : Result Formula CnfError) (e : ScanError) (line count : ℕ) (draft : Draft) (before after : Items) → r
    ≡ Err (error_of e)
    → Gives (Err e) line before after → Answers r (body mode before count draft)
error_answers mode r ScanFault line count draft before after r_is q = rw r_is tt
error_answers mode r ScanTooLong line count draft before after r_is q = rw (r_is, q.0) refl

-- a token that offends, or want of memory
pub take_answers : (mode : Mode) (r : Result Formula CnfError) (e : CnfError) (word : Word) (items : Items) (count : ℕ) (draft new : Draft)
    → r ≡ Err e → is_word (codes "%") word.bytes ≡ false
    → Takes {T = Unit {0}} (Err e) (offence_of mode (signed_number word.bytes) count draft) word.line
    (with_read (signed_number word.bytes) draft) new → Answers r (body mode (next_word word items) count draft)
take_answers mode r (Refused kind at) word items count draft new r_is percent takes = rw (r_is, percent, takes.0, takes.1) refl
take_answers mode r ReadFault word items count draft new r_is percent takes = absurd takes
take_answers mode r TooLong word items count draft new r_is percent takes = absurd takes
take_answers mode r OutOfMemory word items count draft new r_is percent takes = rw r_is tt

-- behind good tokens the body is what it was
pub passes_same : {mode : Mode} {count : ℕ} {all : Items} {start : Draft} {items : Items} {draft : Draft}
    → Passes mode count all start items draft → body mode all count start ≡ body mode items count draft
passes_same pass_none = refl
passes_same {mode} {count} (pass_one {word} {items} {draft} before good) =
    passes_same before ∙ goes_on mode mode word items count count draft
    (with_read (signed_number word.bytes) draft) good.goes_on good.unoffending refl refl refl

-- Where those bytes decide nothing that follow others, both together don't.
pub undecided_behind : {a b c : Channel} {P Q : List ℕ → List ℕ → Type 0} (text rest : List ℕ → CnfText) → Decides a b P → Decides b c Q
    → ((more : List ℕ) → text (gained a b ++ more) ≡ rest more) → rest (gained b c) ≡ overlong → text (gained a c) ≡ overlong
undecided_behind {b = b} {c = c} text rest first second front last = ap text (gained-then first second) ∙ front (gained b c) ∙ last

-- which answers stand for a failed read, and which for want of memory
pub fault_of_scan : (e : ScanError) → error_of e ≡ ReadFault → e ≡ ScanFault
fault_of_scan ScanFault is = refl
fault_of_scan ScanTooLong is = cc

pub scan_wants_none : (e : ScanError) → error_of e ≡ OutOfMemory → ⊥
scan_wants_none ScanFault is = cc
scan_wants_none ScanTooLong is = cc

pub taken_no_fault : (e : CnfError) (offence : Option CnfKind) (line : ℕ) (with new : Draft)
    → Takes {T = Unit {0}} (Err e) offence line with new → e ≡ ReadFault → ⊥
taken_no_fault (Refused kind at) offence line with new takes is = cc
taken_no_fault ReadFault offence line with new takes is = absurd takes
taken_no_fault TooLong offence line with new takes is = absurd takes
taken_no_fault OutOfMemory offence line with new takes is = cc
