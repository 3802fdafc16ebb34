-- A text that is a formula has no more variables than the limit says, and its literals are of these.
use Rattle.std.proofs.Common.{◌≡◌, ◌≤◌, ℕ, suc, zero, Bool, true, false, ℤ, pos, negsuc, List, [], ◌∷◌, ◌++◌, length, Option, None, Some}
use Rattle.std.proofs.Common.{refl, ◌∙◌, subst, arith}
use Rattle.std.specs.Prelude.{◌&&◌, codes, if◌then◌else◌, nat_abs, nat_le, nat_lt}
use Rattle.std.specs.List.{list_all}
use Rattle.std.proofs.lemmas.Bool.{le-leb, le-ltb, lt-ltb, ltb-false}
use Rattle.std.proofs.lemmas.List.Folds.{list_all-append}
use Rattle.cnf_base.specs.Formula.{Formula, Draft}
use Rattle.cnf_base.specs.Number.{plain_number, signed_number}
use Rattle.cnf_base.specs.Truth.{AreClausesOf, is_literal_of}
use Rattle.text_scan.specs.Items.{Items, the_end, too_long, next_word, items}
use Rattle.dimacs_reader.specs.declared.error.CnfKind.{CnfKind}
use Rattle.dimacs_reader.specs.declared.error.CnfKind.TheVariants.{BadHeader, ClauseMissing, LiteralRange, Limit, NoEndingZero, NoHeader}
use Rattle.dimacs_reader.specs.declared.mode.Mode.{Mode}
use Rattle.dimacs_reader.specs.declared.mode.Mode.TheVariants.{Strict, Lax}
use Rattle.dimacs_reader.specs.Cnf.{CnfText, formula, refusal, after_format, after_p, after_vars, beyond, body, cnf, cnf_of, formula_of, is_word}
use Rattle.dimacs_reader.specs.Cnf.{judged, literals_of, max_bytes, max_clauses, max_literals, max_vars, most_clauses, text_end, with_count}
use Rattle.dimacs_reader.specs.Cnf.{offence_of, with_number, with_read, with_vars}

both : {a b : Bool} → a ≡ true → b ≡ true → (a && b) ≡ true
both e d = rw (e, d) refl

-- the literals of a draft are of its variables
record Fits (draft : Draft) : Type 0 where
  pub clauses : AreClausesOf draft.vars draft.clauses
  pub begun : list_all (is_literal_of draft.vars) draft.begun ≡ true

-- and so are those of a formula
record OfVars (count : ℕ) (problem : Formula) : Type 0 where
  pub vars : problem.vars ≡ count
  pub literals : AreClausesOf problem.vars problem.clauses

more_begun : (vars : ℕ) (begun : List ℤ) (x : ℤ) → list_all (is_literal_of vars) begun ≡ true → is_literal_of vars x ≡ true
    → list_all (is_literal_of vars) (begun ++ x ∷ []) ≡ true
more_begun vars begun x all is = list_all-append (is_literal_of vars) begun (x ∷ []) ∙ both all (both is refl)

in_range : (vars n : ℕ) → nat_lt vars (suc n) ≡ false → (nat_lt 0 (suc n) && nat_le (suc n) vars) ≡ true
in_range vars n small = both (lt-ltb 0 (suc n) (omega arith)) (le-leb (suc n) vars (ltb-false vars (suc n) small))

number_fits : (number : ℤ) (draft : Draft) → Fits draft → nat_lt draft.vars (nat_abs number) ≡ false → Fits (with_number number draft)
number_fits (pos zero) draft fits small = record {
  clauses = list_all-append (list_all (is_literal_of draft.vars)) draft.clauses (draft.begun ∷ []) ∙ both fits.clauses (both fits.begun refl);
  begun = refl;
}
number_fits (pos (suc n)) draft fits small = record {
  clauses = fits.clauses;
  begun = more_begun draft.vars draft.begun (pos (suc n)) fits.begun (in_range draft.vars n small);
}
number_fits (negsuc n) draft fits small = record {
  clauses = fits.clauses;
  begun = more_begun draft.vars draft.begun (negsuc n) fits.begun (in_range draft.vars n small);
}

same_vars : (number : ℤ) (draft : Draft) → (with_number number draft).vars ≡ draft.vars
same_vars (pos zero) draft = refl
same_vars (pos (suc n)) draft = refl
same_vars (negsuc n) draft = refl

same_formula : {here there : Formula} → formula here ≡ formula there → here ≡ there
same_formula e = cc

ended : (draft : Draft) (problem : Formula) → Fits draft → formula (formula_of draft) ≡ formula problem → OfVars draft.vars problem
ended draft problem fits is = subst (λ p. OfVars draft.vars p) (same_formula is) (record { vars = refl; literals = fits.clauses })

end_fits : (mode : Mode) (count : ℕ) (draft : Draft) (line : ℕ) (problem : Formula) → Fits draft
    → text_end mode count draft line ≡ formula problem → OfVars draft.vars problem
end_fits Strict count draft line problem fits is =
    elim (nat_lt 0 (length draft.begun))
    as (λ b. (if b then refusal NoEndingZero line
    else if nat_lt (length draft.clauses) count then refusal ClauseMissing line else formula (formula_of draft))
    ≡ formula problem → OfVars draft.vars problem) [
      | true ↦ λ e. cc
      | false ↦ λ e.
          elim (nat_lt (length draft.clauses) count)
          as (λ b. (if b then refusal ClauseMissing line else formula (formula_of draft)) ≡ formula problem → OfVars draft.vars problem) [
            | true ↦ λ d. cc
            | false ↦ λ d. ended draft problem fits d
          ] e
    ] is
end_fits Lax count draft line problem fits is =
    elim (nat_lt 0 (length draft.begun))
    as (λ b. formula (formula_of (if b then with_number (pos zero) draft else draft)) ≡ formula problem → OfVars draft.vars problem) [
      | true ↦ λ e. ended (with_number (pos zero) draft) problem (number_fits (pos zero) draft fits (le-ltb draft.vars 0 (omega arith))) e
      | false ↦ λ e. ended draft problem fits e
    ] is

-- what a number may offend by, in turn
abbrev offence_by : Mode → Bool → Bool → Bool → Option CnfKind
offence_by mode many great full = if many then Some (beyond mode) else if great then Some LiteralRange else if full then Some Limit else None

no_offence : (mode : Mode) (many great full : Bool) (line : ℕ) (more : CnfText) (problem : Formula)
    → judged (offence_by mode many great full) line more ≡ formula problem → (great ≡ false) × (more ≡ formula problem)
no_offence mode true great full line more problem e = cc
no_offence mode false true full line more problem e = cc
no_offence mode false false true line more problem e = cc
no_offence mode false false false line more problem e = (refl, e)

number_taken : (mode : Mode) (items : Items) (count : ℕ) (draft : Draft) (problem : Formula) (line : ℕ) (number : ℤ) → Fits draft
    → (Fits (with_number number draft) → body mode items count (with_number number draft) ≡ formula problem
    → OfVars (with_number number draft).vars problem)
    → judged (offence_of mode (Some number) count draft) line (body mode items count (with_number number draft)) ≡ formula problem
    → OfVars draft.vars problem
number_taken mode items count draft problem line number fits rest is =
    let passed = no_offence mode (nat_le (most_clauses mode count) (length draft.clauses)) (nat_lt draft.vars (nat_abs number))
    (nat_lt 0 (nat_abs number) && nat_le max_literals (literals_of draft)) line
    (body mode items count (with_number number draft)) problem is in
    let behind : OfVars (with_number number draft).vars problem = rest (number_fits number draft fits passed.0) passed.1 in
    record { vars = behind.vars ∙ same_vars number draft; literals = behind.literals }

body_fits : (mode : Mode) (items : Items) (count : ℕ) (draft : Draft) (problem : Formula) → Fits draft
    → body mode items count draft ≡ formula problem → OfVars draft.vars problem
body_fits mode (the_end line) count draft problem fits is = end_fits mode count draft line problem fits is
body_fits mode (too_long line) count draft problem fits is = cc
body_fits mode (next_word word items) count draft problem fits is =
    elim (is_word (codes "%") word.bytes)
    as (λ b. (if b then text_end mode count draft word.line else judged (offence_of mode (signed_number word.bytes) count draft) word.line
    (body mode items count (with_read (signed_number word.bytes) draft))) ≡ formula problem → OfVars draft.vars problem) [
      | true ↦ λ e. end_fits mode count draft word.line problem fits e
      | false ↦ λ e.
          elim (signed_number word.bytes)
          as (λ n. judged (offence_of mode n count draft) word.line (body mode items count (with_read n draft)) ≡ formula problem
          → OfVars draft.vars problem) [
            | None ↦ λ d. cc
            | Some number ↦ λ d. number_taken mode items count draft problem word.line number fits
                (λ more_fits rest. body_fits mode items count (with_number number draft) problem more_fits rest) d
          ] e
    ] is

-- the header
pub record Accepted (problem : Formula) : Type 0 where
  pub vars : problem.vars ≤ max_vars
  pub literals : AreClausesOf problem.vars problem.clauses

count_fits : (mode : Mode) (vars : ℕ) (count : Option ℕ) (line : ℕ) (items : Items) (problem : Formula) → vars ≤ max_vars
    → with_count mode vars count line items ≡ formula problem → Accepted problem
count_fits mode vars None line items problem few is = cc
count_fits mode vars (Some count) line items problem few is =
    let start : Draft = record { vars = vars; clauses = []; begun = [] } in
    elim (nat_lt max_clauses count)
    as (λ b. (if b then refusal Limit line else body mode items count start) ≡ formula problem → Accepted problem) [
      | true ↦ λ e. cc
      | false ↦ λ e.
          let of : OfVars vars problem = body_fits mode items count start problem (record { clauses = refl; begun = refl }) e in
          record { vars = rw of.vars few; literals = of.literals }
    ] is

after_vars_fits : (mode : Mode) (vars : ℕ) (items : Items) (problem : Formula) → vars ≤ max_vars
    → after_vars mode vars items ≡ formula problem → Accepted problem
after_vars_fits mode vars (the_end line) problem few is = cc
after_vars_fits mode vars (too_long line) problem few is = cc
after_vars_fits mode vars (next_word word items) problem few is =
    count_fits mode vars (plain_number word.bytes) word.line items problem few is

vars_fit : (mode : Mode) (vars : Option ℕ) (line : ℕ) (items : Items) (problem : Formula)
    → with_vars mode vars line items ≡ formula problem → Accepted problem
vars_fit mode None line items problem is = cc
vars_fit mode (Some vars) line items problem is =
    elim (nat_lt max_vars vars)
    as (λ b. nat_lt max_vars vars ≡ b → (if b then refusal Limit line else after_vars mode vars items) ≡ formula problem → Accepted problem) [
      | true ↦ λ _ e. cc
      | false ↦ λ few e. after_vars_fits mode vars items problem (ltb-false max_vars vars few) e
    ] refl is

format_fits : (mode : Mode) (items : Items) (problem : Formula) → after_format mode items ≡ formula problem → Accepted problem
format_fits mode (the_end line) problem is = cc
format_fits mode (too_long line) problem is = cc
format_fits mode (next_word word items) problem is = vars_fit mode (plain_number word.bytes) word.line items problem is

p_fits : (mode : Mode) (items : Items) (problem : Formula) → after_p mode items ≡ formula problem → Accepted problem
p_fits mode (the_end line) problem is = cc
p_fits mode (too_long line) problem is = cc
p_fits mode (next_word word items) problem is =
    elim (is_word (codes "cnf") word.bytes)
    as (λ b. (if b then after_format mode items else refusal BadHeader word.line) ≡ formula problem → Accepted problem) [
      | true ↦ λ e. format_fits mode items problem e
      | false ↦ λ e. cc
    ] is

items_fit : (mode : Mode) (items : Items) (problem : Formula) → cnf_of mode items ≡ formula problem → Accepted problem
items_fit mode (the_end line) problem is = cc
items_fit mode (too_long line) problem is = cc
items_fit mode (next_word word items) problem is =
    elim (is_word (codes "p") word.bytes)
    as (λ b. (if b then after_p mode items else refusal NoHeader word.line) ≡ formula problem → Accepted problem) [
      | true ↦ λ e. p_fits mode items problem e
      | false ↦ λ e. cc
    ] is

pub cnf-accepted : (mode : Mode) (bytes : List ℕ) (problem : Formula) → cnf mode bytes ≡ formula problem → Accepted problem
cnf-accepted mode bytes problem is = items_fit mode (items 99 max_bytes bytes) problem is
