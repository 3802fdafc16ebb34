-- The DIMACS CNF format: a header `p cnf V C`, then C clauses, each its literals and a zero. A clause may span lines;
-- comment lines begin with `c`; a token `%` ends the text, as in old benchmark files. Clauses are kept as they stand.
-- Many files announce another number of clauses than they have, or lack the last zero: in the mode Lax there are as many
-- clauses as stand there, and the last one needs no zero.
-- (DIMACS, 'Satisfiability: Suggested Format', 1993; the `%` is that of SATLIB's files uf20 to uf250. The limits, the mode
-- Lax, and which of several faults is told, are this project's own.)
use Rattle.std.specs.Prelude.{ℕ, zero, suc, ◌+◌, Bool, ◌&&◌, ℤ, pos, negsuc, nat_abs, List, [], ◌∷◌, ◌++◌, length, sum_by, Option, None}
use Rattle.std.specs.Prelude.{Some, nat_lt, nat_le, codes, if◌then◌else◌}
use Rattle.std.specs.Str.{bytes_eq}
use Rattle.cnf_base.specs.Formula.{Formula, Draft}
use Rattle.cnf_base.specs.Number.{is_short, plain_number, signed_number}
use Rattle.text_scan.specs.Items.{Items, the_end, too_long, next_word, items_of_front, items}
use Rattle.dimacs_reader.specs.declared.error.CnfKind.{CnfKind}
use Rattle.dimacs_reader.specs.declared.error.CnfKind.TheVariants.{NoHeader, BadHeader, BadToken, LiteralRange, TooManyClauses}
use Rattle.dimacs_reader.specs.declared.error.CnfKind.TheVariants.{ClauseMissing, NoEndingZero, Limit}
use Rattle.dimacs_reader.specs.declared.mode.Mode.{Mode}
use Rattle.dimacs_reader.specs.declared.mode.Mode.TheVariants.{Strict, Lax}
pub use Rattle.cnf_base.specs.Limits.{max_bytes, max_clauses, max_vars}

-- the most literals of a formula
abbrev pub max_literals : ℕ
max_literals = 100000000

-- What a text is: a formula; a refusal, its kind and line; or a text that is judged by its first bytes and not
-- refused by them.
pub data CnfText : Type 0 where
  formula : Formula → CnfText
  refusal : CnfKind → ℕ → CnfText
  overlong : CnfText

-- A token is this word.
abbrev pub is_word : List ℕ → List ℕ → Bool
is_word text token = is_short token && bytes_eq token text

-- how many literals stand in a draft
abbrev pub literals_of : Draft → ℕ
literals_of draft = sum_by length draft.clauses + length draft.begun

-- A number in the body: zero ends the clause, another is a literal of it.
abbrev pub with_number : ℤ → Draft → Draft
with_number (pos zero) draft = record { vars = draft.vars; clauses = draft.clauses ++ draft.begun ∷ []; begun = [] }
with_number (pos (suc n)) draft = record { vars = draft.vars; clauses = draft.clauses; begun = draft.begun ++ pos (suc n) ∷ [] }
with_number (negsuc n) draft = record { vars = draft.vars; clauses = draft.clauses; begun = draft.begun ++ negsuc n ∷ [] }

-- how many clauses a text may have that announces `count` of them
abbrev pub most_clauses : Mode → ℕ → ℕ
most_clauses Strict count = count
most_clauses Lax count = max_clauses

-- what is wrong with a number behind so many clauses
abbrev pub beyond : Mode → CnfKind
beyond Strict = TooManyClauses
beyond Lax = Limit

-- What is wrong with the next token of the body, of which this number is read, where `count` clauses are announced.
-- The first test that holds decides.
abbrev pub offence_of : Mode → Option ℤ → ℕ → Draft → Option CnfKind
offence_of mode None count draft = Some BadToken
offence_of mode (Some number) count draft =
    if nat_le (most_clauses mode count) (length draft.clauses) then Some (beyond mode)
    else if nat_lt draft.vars (nat_abs number) then Some LiteralRange
    else if nat_lt 0 (nat_abs number) && nat_le max_literals (literals_of draft) then Some Limit
    else None

-- the draft with the number, if one was read
abbrev pub with_read : Option ℤ → Draft → Draft
with_read None draft = draft
with_read (Some number) draft = with_number number draft

-- the formula of the ended clauses
abbrev pub formula_of : Draft → Formula
formula_of draft = record { vars = draft.vars; clauses = draft.clauses }

-- a clause that was begun is taken as ended
abbrev pub with_end : Draft → Draft
with_end draft = if nat_lt 0 (length draft.begun) then with_number (pos zero) draft else draft

-- the end of the clauses, at the end of the text or at `%`
abbrev pub text_end : Mode → ℕ → Draft → ℕ → CnfText
text_end Strict count draft line =
    if nat_lt 0 (length draft.begun) then refusal NoEndingZero line
    else if nat_lt (length draft.clauses) count then refusal ClauseMissing line
    else formula (formula_of draft)
text_end Lax count draft line = formula (formula_of (with_end draft))

-- a token that offends decides; after another the body goes on with its number
abbrev pub judged : Option CnfKind → ℕ → CnfText → CnfText
judged (Some kind) line more = refusal kind line
judged None line more = more

-- the body: the tokens after the header
abbrev pub body : Mode → Items → ℕ → Draft → CnfText
body mode (the_end line) count draft = text_end mode count draft line
body mode (too_long line) count draft = overlong
body mode (next_word word items) count draft =
    if is_word (codes "%") word.bytes then text_end mode count draft word.line
    else judged (offence_of mode (signed_number word.bytes) count draft) word.line
    (body mode items count (with_read (signed_number word.bytes) draft))

-- The header, from its last token to its first. The fourth is the number of clauses, within its limit in either mode.
abbrev pub with_count : Mode → ℕ → Option ℕ → ℕ → Items → CnfText
with_count mode vars None line items = refusal BadHeader line
with_count mode vars (Some count) line items =
    if nat_lt max_clauses count then refusal Limit line else body mode items count (record { vars = vars; clauses = []; begun = [] })

abbrev pub after_vars : Mode → ℕ → Items → CnfText
after_vars mode vars (the_end line) = refusal BadHeader line
after_vars mode vars (too_long line) = overlong
after_vars mode vars (next_word word items) = with_count mode vars (plain_number word.bytes) word.line items

-- the third is the number of variables
abbrev pub with_vars : Mode → Option ℕ → ℕ → Items → CnfText
with_vars mode None line items = refusal BadHeader line
with_vars mode (Some vars) line items = if nat_lt max_vars vars then refusal Limit line else after_vars mode vars items

abbrev pub after_format : Mode → Items → CnfText
after_format mode (the_end line) = refusal BadHeader line
after_format mode (too_long line) = overlong
after_format mode (next_word word items) = with_vars mode (plain_number word.bytes) word.line items

-- the second is `cnf`
abbrev pub after_p : Mode → Items → CnfText
after_p mode (the_end line) = refusal BadHeader line
after_p mode (too_long line) = overlong
after_p mode (next_word word items) = if is_word (codes "cnf") word.bytes then after_format mode items else refusal BadHeader word.line

-- the first is `p`
abbrev pub cnf_of : Mode → Items → CnfText
cnf_of mode (the_end line) = refusal NoHeader line
cnf_of mode (too_long line) = overlong
cnf_of mode (next_word word items) = if is_word (codes "p") word.bytes then after_p mode items else refusal NoHeader word.line

-- a whole text (99 is `c`)
abbrev pub cnf : Mode → List ℕ → CnfText
cnf mode bytes = cnf_of mode (items 99 max_bytes bytes)

-- What the front of a text decides, whatever comes after it. A token with no byte after it in the front isn't judged
-- yet, and `overlong` says that nothing is decided so far.
abbrev pub cnf_so_far : Mode → List ℕ → CnfText
cnf_so_far mode bytes = cnf_of mode (items_of_front 99 bytes)
