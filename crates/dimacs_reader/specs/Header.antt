-- A good header, and what a reader of the header answers.
use Rattle.std.specs.Prelude.{◌≡◌, ℕ, ◌≤◌, true, List, ◌++◌, Some, Result, Ok, Err, codes, ⊤}
use Rattle.cnf_base.specs.Number.{plain_number}
use Rattle.text_scan.specs.Items.{Items, the_end, too_long, next_word}
use Rattle.text_scan.specs.Scan.{Scan, so_far, is_reading}
use Rattle.dimacs_reader.specs.declared.error.CnfError.{CnfError}
use Rattle.dimacs_reader.specs.declared.error.CnfError.TheVariants.{Refused, ReadFault, TooLong, OutOfMemory}
use Rattle.dimacs_reader.specs.Body.{BodyState, no_clauses}
use Rattle.dimacs_reader.specs.Cnf.{CnfText, refusal, overlong, is_word, max_vars, max_clauses, body}

-- The header, from its last token to its first: the number of clauses, within its limit; behind it come those items.
abbrev pub HasCount : Items → ℕ → Items → Type 0
HasCount (the_end line) count after = ⊥
HasCount (too_long line) count after = ⊥
HasCount (next_word word items) count after = (plain_number word.bytes ≡ Some count) × (count ≤ max_clauses) × (items ≡ after)

-- before it the number of variables, within its limit
abbrev pub HasVars : Items → ℕ → ℕ → Items → Type 0
HasVars (the_end line) vars count after = ⊥
HasVars (too_long line) vars count after = ⊥
HasVars (next_word word items) vars count after = (plain_number word.bytes ≡ Some vars) × (vars ≤ max_vars) × HasCount items count after

-- before it `cnf`
abbrev pub HasFormat : Items → ℕ → ℕ → Items → Type 0
HasFormat (the_end line) vars count after = ⊥
HasFormat (too_long line) vars count after = ⊥
HasFormat (next_word word items) vars count after = (is_word (codes "cnf") word.bytes ≡ true) × HasVars items vars count after

-- before it `p`
abbrev pub HasHeader : Items → ℕ → ℕ → Items → Type 0
HasHeader (the_end line) vars count after = ⊥
HasHeader (too_long line) vars count after = ⊥
HasHeader (next_word word items) vars count after = (is_word (codes "p") word.bytes ≡ true) × HasFormat items vars count after

-- What the header, or its rest, is: good, with these numbers, so that the body begins; or the text is refused in it,
-- or ends by 'too long'. It takes no memory.
abbrev pub Begins : Result BodyState CnfError → CnfText → (ℕ → ℕ → Type 0) → Type 0
Begins (Ok state) text Good = Good state.draft.vars state.count × (state.draft ≡ no_clauses state.draft.vars)
Begins (Err (Refused kind line)) text Good = text ≡ refusal kind line
Begins (Err TooLong) text Good = text ≡ overlong
Begins (Err ReadFault) text Good = ⊤
Begins (Err OutOfMemory) text Good = ⊥

-- What these bytes, which were taken, decide of a text as its front: it is what its body is. Where a read failed, they
-- decide nothing yet.
abbrev pub BeginsSoFar : Result BodyState CnfError → Scan → Scan → (List ℕ → CnfText) → List ℕ → Type 0
BeginsSoFar (Ok state) old new text bytes = is_reading new.status ≡ true
    → (is_reading old.status ≡ true) × ((more : List ℕ) → text (bytes ++ more) ≡ body state.mode (so_far new more) state.count state.draft)
BeginsSoFar (Err (Refused kind line)) old new text bytes = ⊤
BeginsSoFar (Err TooLong) old new text bytes = ⊤
BeginsSoFar (Err ReadFault) old new text bytes = (is_reading old.status ≡ true) × (text bytes ≡ overlong)
BeginsSoFar (Err OutOfMemory) old new text bytes = ⊤
