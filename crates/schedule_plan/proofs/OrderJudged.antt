-- What the calls of a reader say together of its answer: the tokens before don't offend, and the next item decides.
use Rattle.std.proofs.Common.{◌≡◌, ℕ, true, false, List, [], ◌++◌, Option, None, Some, Result, Ok, Err, refl, sym, ◌∙◌, ap, subst}
use Rattle.std.specs.Result.{IsErrAnd}
use Rattle.host_io.specs.Channel.{Channel}
use Rattle.cnf_base.specs.Number.{plain_number}
use Rattle.cnf_base.specs.Text.{Word}
use Rattle.text_scan.specs.Decides.{gained, Decides, gained-then}
use Rattle.text_scan.specs.Items.{Items, the_end, next_word}
use Rattle.text_scan.specs.Scan.{Scan, so_far, is_reading, is_faulted, Gives, GivesSoFar, last_answer}
use Rattle.text_scan.specs.declared.scanner.ScanStatus.{ScanStatus}
use Rattle.text_scan.specs.declared.scanner.ScanStatus.TheVariants.{Reading, Ended, Overlong, Faulted}
use Rattle.text_scan.specs.declared.scanner.ScanError.{ScanError}
use Rattle.text_scan.specs.declared.scanner.ScanError.TheVariants.{ReadFault as ScanFault, TooLong as ScanTooLong}
use Rattle.schedule_plan.specs.declared.order_error.OrderError.{OrderError}
use Rattle.schedule_plan.specs.declared.order_error.OrderError.TheVariants.{Refused, ReadFault, TooLong, OutOfMemory}
use Rattle.schedule_plan.specs.declared.order_error.OrderKind.{OrderKind}
use Rattle.schedule_plan.specs.OrderReader.{Answers, Takes, Passes, pass_none, pass_one, answer_of, error_of}
use Rattle.schedule_plan.specs.OrderText.{OrderText, order, refusal, overlong, offence_of, with_read, text_end, order_of}

answer_is : (text : OrderText) → Answers (answer_of text) text
answer_is (order variables) = refl
answer_is (refusal kind line) = refl
answer_is overlong = refl

-- a token that doesn't offend
pub goes_on : (word : Word) (items : Items) (vars : ℕ) (before new : List ℕ) → offence_of (plain_number word.bytes) vars before ≡ None
    → new ≡ with_read (plain_number word.bytes) before → order_of (next_word word items) vars before ≡ order_of items vars new
goes_on word items vars before new none new_is = rw (none, new_is) refl

-- behind such tokens the text is what it was
pub passes_same : {vars : ℕ} {all items : Items} {before : List ℕ} → Passes vars all items before → order_of all vars []
    ≡ order_of items vars before
passes_same pass_none = refl
passes_same {vars} (pass_one {word} {items} {before} passed good) =
    passes_same passed ∙ goes_on word items vars before (with_read (plain_number word.bytes) before) good refl

pub error_is : {A E : Type 0} (r : Result A E) (e : E) → IsErrAnd r (λ f. f ≡ e) → r ≡ Err e
error_is (Ok value) e h = absurd h
error_is (Err f) e h = ap Err h

-- the end of the text
pub end_answers : (r : Result (List ℕ) OrderError) (vars line : ℕ) (all items : Items) (before : List ℕ) → Passes vars all items before
    → items ≡ the_end line
    → r ≡ answer_of (text_end vars before line) → Answers r (order_of all vars [])
end_answers r vars line all items before passed end r_is =
    subst (λ t. Answers r t) (sym (passes_same passed ∙ ap (λ is. order_of is vars before) end))
    (rw r_is (answer_is (text_end vars before line)))

-- an error of the scanner
pub error_answers : (r : Result (List ℕ) OrderError) (e : ScanError) (line vars : ℕ) (all items after : Items) (before : List ℕ) → r
    ≡ Err (error_of e)
    → Passes vars all items before → Gives (Err e) line items after → Answers r (order_of all vars [])
error_answers r ScanFault line vars all items after before r_is passed q = rw r_is tt
error_answers r ScanTooLong line vars all items after before r_is passed q = rw r_is (passes_same passed
    ∙ ap (λ is. order_of is vars before) q.0)

-- a token that offends, or want of memory
pub take_answers : (r : Result (List ℕ) OrderError) (e : OrderError) (word : Word) (vars : ℕ) (all items : Items) (before new : List ℕ) → r
    ≡ Err e
    → Passes vars all (next_word word items) before
    → Takes {T = Unit {0}} (Err e) (offence_of (plain_number word.bytes) vars before) word.line
    (with_read (plain_number word.bytes) before) new → Answers r (order_of all vars [])
take_answers r (Refused kind at) word vars all items before new r_is passed takes =
    let same = passes_same passed in
    rw r_is (same ∙ rw (takes.0, takes.1) refl)
take_answers r ReadFault word vars all items before new r_is passed takes = absurd takes
take_answers r TooLong word vars all items before new r_is passed takes = absurd takes
take_answers r OutOfMemory word vars all items before new r_is passed takes = rw r_is tt

-- a scanner that goes on reading was reading
pub was_reading : (old new : Scan) → (is_reading old.status ≡ false → new ≡ old) → is_reading new.status ≡ true → is_reading old.status
    ≡ true
was_reading old new stays reads = elim (is_reading old.status) as (λ b. is_reading old.status ≡ b → b ≡ true) [
  | true ↦ λ _. refl
  | false ↦ λ stopped. sym stopped ∙ ap (λ (scan : Scan). is_reading scan.status) (sym (stays stopped)) ∙ reads
] refl

-- what is said of the front of a text behind its first token
pub front_of_next : (old mid : Scan) (word : Word) (bytes : List ℕ) (text rest : Items → OrderText)
    → ((items : Items) → text (next_word word items) ≡ rest items)
    → (is_reading old.status ≡ false → mid ≡ old) → (is_reading old.status ≡ true → GivesSoFar (Ok (Some word)) old mid bytes)
    → is_reading mid.status ≡ true → (is_reading old.status ≡ true)
    × ((more : List ℕ) → text (so_far old (bytes ++ more)) ≡ rest (so_far mid more))
front_of_next old mid word bytes text rest passes stays gives reads =
    let reading = was_reading old mid stays reads in
    (reading, λ more. ap text (gives reading reads more) ∙ passes (so_far mid more))

pub failed_status : (status : ScanStatus) → is_faulted status ≡ false
    → (is_reading status ≡ false → ◌≡◌ {A = Result (Option Word) ScanError} (Err ScanFault) (last_answer status)) → is_reading status ≡ true
failed_status Reading sound last = refl
failed_status Ended sound last = let same = last refl in cc
failed_status Overlong sound last = let same = last refl in cc
failed_status Faulted sound last = cc

-- a read that failed: the bytes since the last token give none
pub fault_so_far : (r : Result (List ℕ) OrderError) (e : ScanError) (old new : Scan) (bytes : List ℕ) (vars : ℕ) (before : List ℕ) → r
    ≡ Err (error_of e) → r ≡ Err ReadFault
    → is_faulted old.status ≡ false → (is_reading old.status ≡ false
    → ◌≡◌ {A = Result (Option Word) ScanError} (Err e) (last_answer old.status))
    → (is_reading old.status ≡ true → GivesSoFar (Err e) old new bytes) → (is_reading old.status ≡ true)
    × (order_of (so_far old bytes) vars before ≡ overlong)
fault_so_far r ScanFault old new bytes vars before r_is failed sound last gives =
    let reading = failed_status old.status sound last in
    (reading, ap (λ is. order_of is vars before) (gives reading))
fault_so_far r ScanTooLong old new bytes vars before r_is failed sound last gives = let same = sym r_is ∙ failed in cc

-- Where those bytes decide nothing that follow others, both together don't.
pub undecided_behind : {a b c : Channel} {P Q : List ℕ → List ℕ → Type 0} (text rest : List ℕ → OrderText) → Decides a b P → Decides b c Q
    → ((more : List ℕ) → text (gained a b ++ more) ≡ rest more) → rest (gained b c) ≡ overlong → text (gained a c) ≡ overlong
undecided_behind {b = b} {c = c} text rest first second front last = ap text (gained-then first second) ∙ front (gained b c) ∙ last

-- which answers stand for a failed read, and which for want of memory
pub fault_of_scan : (e : ScanError) → error_of e ≡ ReadFault → e ≡ ScanFault
fault_of_scan ScanFault is = refl
fault_of_scan ScanTooLong is = cc

pub scan_wants_none : (e : ScanError) → error_of e ≡ OutOfMemory → ⊥
scan_wants_none ScanFault is = cc
scan_wants_none ScanTooLong is = cc

pub taken_no_fault : (e : OrderError) (offence : Option OrderKind) (line : ℕ) (with new : List ℕ)
    → Takes {T = Unit {0}} (Err e) offence line with new → e ≡ ReadFault → ⊥
taken_no_fault (Refused kind at) offence line with new takes is = cc
taken_no_fault ReadFault offence line with new takes is = absurd takes
taken_no_fault TooLong offence line with new takes is = absurd takes
taken_no_fault OutOfMemory offence line with new takes is = cc

pub answer_no_fault : (text : OrderText) → answer_of text ≡ Err ReadFault → ⊥
answer_no_fault (order variables) is = cc
answer_no_fault (refusal kind line) is = cc
answer_no_fault overlong is = cc

pub answer_wants_none : (text : OrderText) → answer_of text ≡ Err OutOfMemory → ⊥
answer_wants_none (order variables) is = cc
answer_wants_none (refusal kind line) is = cc
answer_wants_none overlong is = cc
