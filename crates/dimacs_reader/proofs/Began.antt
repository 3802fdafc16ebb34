-- What two calls say together of the header, and of the bytes taken as the front of a text.
use Rattle.std.proofs.Common.{◌≡◌, ℕ, true, false, List, ◌++◌, Option, None, Some, Result, Ok, Err, refl, sym, ◌∙◌, ap, subst, append_assoc}
use Rattle.std.proofs.Common.{arith}
use Rattle.std.specs.Prelude.{nat_lt, min, ◌<◌}
use Rattle.std.specs.Option.{option_map}
use Rattle.std.proofs.lemmas.Bool.Decides.{nat_tests}
use Rattle.cnf_base.specs.Formula.{Formula, Draft}
use Rattle.cnf_base.specs.Text.{Word}
use Rattle.text_scan.specs.Capped.{capped}
use Rattle.text_scan.specs.Items.{Items, the_end, too_long, next_word}
use Rattle.text_scan.specs.Near.{is_near}
use Rattle.text_scan.specs.Scan.{Scan, so_far, is_reading, is_faulted, Gives, GivesSoFar, last_answer}
use Rattle.text_scan.specs.declared.scanner.ScanStatus.{ScanStatus}
use Rattle.text_scan.specs.declared.scanner.ScanStatus.TheVariants.{Reading, Ended, Overlong, Faulted}
use Rattle.text_scan.specs.declared.scanner.ScanError.{ScanError}
use Rattle.text_scan.specs.declared.scanner.ScanError.TheVariants.{ReadFault as ScanFault, TooLong as ScanTooLong}
use Rattle.dimacs_reader.specs.declared.error.CnfError.{CnfError}
use Rattle.dimacs_reader.specs.declared.error.CnfError.TheVariants.{Refused, ReadFault, TooLong, OutOfMemory}
use Rattle.dimacs_reader.specs.declared.mode.Mode.{Mode}
use Rattle.dimacs_reader.specs.Answers.{Answers, WantsMemory, error_of}
use Rattle.dimacs_reader.specs.Body.{BodyState, Wants, no_clauses}
use Rattle.dimacs_reader.specs.Cnf.{CnfText, overlong, max_vars, max_clauses, body, after_vars, after_format, after_p, cnf_of}
use Rattle.dimacs_reader.specs.Header.{HasCount, HasVars, HasFormat, HasHeader, Begins, BeginsSoFar}

-- A scanner that met a failed read was reading.
failed_status : (status : ScanStatus) → is_faulted status ≡ false → (is_reading status ≡ false
    → ◌≡◌ {A = Result (Option Word) ScanError} (Err ScanFault) (last_answer status)) → is_reading status ≡ true
failed_status Reading sound last = refl
failed_status Ended sound last = let same = last refl in cc
failed_status Overlong sound last = let same = last refl in cc
failed_status Faulted sound last = cc

pub failed_reading : (old : Scan) → is_faulted old.status ≡ false
    → (is_reading old.status ≡ false → ◌≡◌ {A = Result (Option Word) ScanError} (Err ScanFault) (last_answer old.status))
    → is_reading old.status ≡ true
failed_reading old sound last = failed_status old.status sound last

-- and so was one that goes on reading
pub was_reading : (old new : Scan) → (is_reading old.status ≡ false → new ≡ old) → is_reading new.status ≡ true → is_reading old.status
    ≡ true
was_reading old new stays reads = elim (is_reading old.status) as (λ b. is_reading old.status ≡ b → b ≡ true) [
  | true ↦ λ _. refl
  | false ↦ λ stopped. sym stopped ∙ ap (λ (scan : Scan). is_reading scan.status) (sym (stays stopped)) ∙ reads
] refl

-- what is said of the front of a text behind its first token
pub front_of_next : (old mid : Scan) (word : Word) (bytes : List ℕ) (text rest : Items → CnfText)
    → ((items : Items) → text (next_word word items) ≡ rest items)
    → (is_reading old.status ≡ false → mid ≡ old) → (is_reading old.status ≡ true → GivesSoFar (Ok (Some word)) old mid bytes)
    → is_reading mid.status ≡ true → (is_reading old.status ≡ true)
    × ((more : List ℕ) → text (so_far old (bytes ++ more)) ≡ rest (so_far mid more))
front_of_next old mid word bytes text rest passes stays gives reads =
    let reading = was_reading old mid stays reads in
    (reading, λ more. ap text (gives reading reads more) ∙ passes (so_far mid more))

-- a number under the bound at which values are cut is the token's own
pub uncapped : (number : Option ℕ) (n : ℕ) → option_map capped number ≡ Some n → n < 1000000000 → number ≡ Some n
uncapped None n is below = cc
uncapped (Some m) n is below =
    let cut : min m 1000000000000000000 ≡ n = cc in
    let same : m ≡ n = omega (arith, cut) in
    ap Some same

-- an error of the scanner
pub error_begins : (reads : Items → CnfText) → ((line : ℕ) → reads (too_long line) ≡ overlong)
    → (r : Result BodyState CnfError) (Good : ℕ → ℕ → Type 0) (e : ScanError) (line : ℕ) (before after : Items)
    → r ≡ Err (error_of e) → Gives (Err e) line before after → Begins r (reads before) Good
error_begins reads long r Good ScanFault line before after r_is q = rw r_is tt
error_begins reads long r Good ScanTooLong line before after r_is q = rw (r_is, q.0) (long line)

pub error_so_far : (reads : Items → CnfText) → ((line : ℕ) → reads (too_long line) ≡ overlong)
    → (r : Result BodyState CnfError) (e : ScanError) (old new : Scan) (bytes : List ℕ)
    → r ≡ Err (error_of e) → is_faulted old.status ≡ false → (is_reading old.status ≡ false
    → ◌≡◌ {A = Result (Option Word) ScanError} (Err e) (last_answer old.status))
    → (is_reading old.status ≡ true → GivesSoFar (Err e) old new bytes) → BeginsSoFar r old new (λ more. reads (so_far old more)) bytes
error_so_far reads long r ScanFault old new bytes r_is sound last gives =
    let reading = failed_reading old sound last in
    rw r_is (reading, ap reads (gives reading) ∙ long new.lex.line)
error_so_far reads long r ScanTooLong old new bytes r_is sound last gives = rw r_is tt

-- a read that failed in the body
pub fault_so_far : (mode : Mode) (r : Result Formula CnfError) (e : ScanError) (old new : Scan) (bytes : List ℕ) (count : ℕ) (draft : Draft)
    → r ≡ Err (error_of e) → r ≡ Err ReadFault
    → is_faulted old.status ≡ false → (is_reading old.status ≡ false
    → ◌≡◌ {A = Result (Option Word) ScanError} (Err e) (last_answer old.status))
    → (is_reading old.status ≡ true → GivesSoFar (Err e) old new bytes) → (is_reading old.status ≡ true)
    × (body mode (so_far old bytes) count draft ≡ overlong)
fault_so_far mode r ScanFault old new bytes count draft r_is failed sound last gives =
    let reading = failed_reading old sound last in
    (reading, ap (λ is. body mode is count draft) (gives reading))
fault_so_far mode r ScanTooLong old new bytes count draft r_is failed sound last gives = let same = sym r_is ∙ failed in cc

-- What a call said of the bytes that it took, behind those of the call before.
pub behind_so_far : (r : Result BodyState CnfError) (old mid new : Scan) (text rest : List ℕ → CnfText) (first second whole : List ℕ)
    → whole ≡ first ++ second
    → (is_reading mid.status ≡ true → (is_reading old.status ≡ true) × ((more : List ℕ) → text (first ++ more) ≡ rest more))
    → BeginsSoFar r mid new rest second → BeginsSoFar r old new text whole
behind_so_far (Ok state) old mid new text rest first second whole joined front began = λ reads.
    let later = began reads in
    let earlier = front later.0 in (
      earlier.0,
      λ more. ap (λ (l : List ℕ). text (l ++ more)) joined ∙ ap text (append_assoc first second more) ∙ earlier.1 (second ++ more)
          ∙ later.1 more,
    )
behind_so_far (Err (Refused kind line)) old mid new text rest first second whole joined front began = tt
behind_so_far (Err TooLong) old mid new text rest first second whole joined front began = tt
behind_so_far (Err ReadFault) old mid new text rest first second whole joined front began =
    let earlier = front began.0 in
    (earlier.0, ap text joined ∙ earlier.1 second ∙ began.1)
behind_so_far (Err OutOfMemory) old mid new text rest first second whole joined front began = tt

-- Behind a good header the text is what its body is.
count_body : (mode : Mode) (items : Items) (vars count : ℕ) (rest : Items) → HasCount items count rest → after_vars mode vars items
    ≡ body mode rest count (no_clauses vars)
count_body mode (the_end line) vars count rest header = absurd header
count_body mode (too_long line) vars count rest header = absurd header
count_body mode (next_word word items) vars count rest header =
    let within : nat_lt max_clauses count ≡ false = grind (arith, header.1) in
    rw (header.0, within, header.2) refl

vars_body : (mode : Mode) (items : Items) (vars count : ℕ) (rest : Items) → HasVars items vars count rest → after_format mode items
    ≡ body mode rest count (no_clauses vars)
vars_body mode (the_end line) vars count rest header = absurd header
vars_body mode (too_long line) vars count rest header = absurd header
vars_body mode (next_word word items) vars count rest header =
    let within : nat_lt max_vars vars ≡ false = grind (arith, header.1) in
    rw (header.0, within) (count_body mode items vars count rest header.2)

format_body : (mode : Mode) (items : Items) (vars count : ℕ) (rest : Items) → HasFormat items vars count rest → after_p mode items
    ≡ body mode rest count (no_clauses vars)
format_body mode (the_end line) vars count rest header = absurd header
format_body mode (too_long line) vars count rest header = absurd header
format_body mode (next_word word items) vars count rest header = rw (header.0) (vars_body mode items vars count rest header.1)

pub header_body : (mode : Mode) (items : Items) (vars count : ℕ) (rest : Items) → HasHeader items vars count rest → cnf_of mode items
    ≡ body mode rest count (no_clauses vars)
header_body mode (the_end line) vars count rest header = absurd header
header_body mode (too_long line) vars count rest header = absurd header
header_body mode (next_word word items) vars count rest header = rw (header.0) (format_body mode items vars count rest header.1)

pub began_body : (mode : Mode) (state : BodyState) (text : CnfText) (all rest : Items)
    → Begins (Ok state) text (λ vars count. HasHeader all vars count rest) → state.mode ≡ mode → cnf_of mode all
    ≡ body state.mode rest state.count state.draft
began_body mode state text all rest began mode_is = rw mode_is (header_body mode all state.draft.vars state.count rest began.0
    ∙ ap (body mode rest state.count) (sym began.1))

pub began_wants : (mode : Mode) (state : BodyState) (text : CnfText) (more : ℕ) (all rest after : Items)
    → Begins (Ok state) text (λ vars count. HasHeader all vars count rest) → state.mode ≡ mode
    → Wants state.mode state.count more rest state.draft after → WantsMemory mode more all
began_wants mode state text more all rest after began mode_is wants = record {
  vars = state.draft.vars;
  count = state.count;
  rest = rest;
  header = began.0;
  after = after;
  wants = subst (λ draft. Wants mode state.count more rest draft after) began.1 (rw mode_is at wants);
}

-- an error of the header is the answer
pub began_answers : (r : Result Formula CnfError) (e : CnfError) (text : CnfText) (Good : ℕ → ℕ → Type 0) → r ≡ Err e
    → Begins (Err e) text Good → Answers r text
began_answers r (Refused kind line) text Good r_is began = rw r_is began
began_answers r TooLong text Good r_is began = rw r_is began
began_answers r ReadFault text Good r_is began = rw r_is tt
began_answers r OutOfMemory text Good r_is began = absurd began

-- behind one token more, of which the text and what is good are those of its rest
pub begins_behind : (answer : Result BodyState CnfError) (before after : CnfText) (Good Better : ℕ → ℕ → Type 0) → before ≡ after
    → ((vars count : ℕ) → Good vars count → Better vars count) → Begins answer after Good → Begins answer before Better
begins_behind (Ok state) before after Good Better same better begins = (better state.draft.vars state.count begins.0, begins.1)
begins_behind (Err (Refused kind line)) before after Good Better same better begins = same ∙ begins
begins_behind (Err TooLong) before after Good Better same better begins = same ∙ begins
begins_behind (Err ReadFault) before after Good Better same better begins = tt
begins_behind (Err OutOfMemory) before after Good Better same better begins = begins

-- nothing is ahead at the end
pub end_near : (more line : ℕ) → is_near more (the_end line) ≡ true
end_near more line = grind (arith, nat_tests)
