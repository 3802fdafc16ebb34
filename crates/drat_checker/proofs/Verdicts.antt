-- The verdict on the steps of lines is that of the rules on the steps that the lines spell.
use Rattle.std.proofs.Common.{◌≡◌, ℕ, ◌+◌, ◌≤◌, ◌<◌, Bool, true, false, ◌||◌, ◌&&◌, ℤ, List, [], ◌∷◌, map, length, Option, None, Some}
use Rattle.std.proofs.Common.{if◌then◌else◌, inl, inr, refl, sym, ap, ◌∙◌, subst}
use Rattle.std.specs.Prelude.{nat_abs, nat_lt, nat_le}
use Rattle.std.specs.List.{list_any, list_all}
use Rattle.std.specs.Option.{option_map, option_and_then}
use Rattle.std.proofs.lemmas.Bool.{and_parts, and_from, cases_lt}
use Rattle.cnf_base.specs.Truth.{is_literal_of}
use Rattle.cnf_base.specs.Number.{signed_number}
use Rattle.cnf_base.specs.Text.{Row, rows, end_line}
use Rattle.cnf_base.specs.ProofText.{max_literal, all_given, split_at, is_empty, is_zero, is_delete_word}
use Rattle.lrat_text.specs.LineSteps.{no_more, overlong, step_then}
use Rattle.lrat_rules.specs.declared.outcome.Reason.{Reason}
use Rattle.lrat_rules.specs.Soundness.{has_no_zero}
use Rattle.proof_judging.specs.declared.verdict.Verdict.TheVariants.{Verified}
use Rattle.proof_judging.specs.Verdict.{end_verdict, judged, verdict_as}
use Rattle.cnf_base.specs.Limits.{max_bytes}
use Rattle.drat_text.specs.declared.step.DratStep.{DratStep}
use Rattle.drat_text.specs.declared.step.DratStep.TheVariants.{Add as adds, Delete as deletes}
use Rattle.drat_text.specs.DratText.{DratLine, clause_with, clause_from, clause_of, drat_step_of, drat_line_of, drat_lines}
use Rattle.drat_text.specs.DratSteps.{drat_lines_then, drat_lines_within, drat_steps_in}
use Rattle.drat_rules.specs.Clauses.{Equality}
use Rattle.drat_rules.specs.Run.{after_by, adds_empty, drat_step_fault, fault_or, first_fault_by, drat_verdict_at, drat_verdict_by}
use Rattle.drat_rules.specs.Run.{DratRefutesBy}
use Rattle.drat_rules.specs.Soundness.{drat_step_has_no_zero}
use Rattle.drat_checker.specs.DratVerdict.{drat_steps_verdict_by, drat_text_verdict_by, numbered_lines, steps_of_lines, with_step}

or_assoc : (a b c : Bool) → ((a || b) || c) ≡ (a || (b || c))
or_assoc true b c = refl
or_assoc false b c = refl

or_false : (a : Bool) → (a || false) ≡ a
or_false true = refl
or_false false = refl

-- At the end.
at_end : (end : ℕ) (has_empty : Bool) → Some (end_verdict has_empty end) ≡ Some (verdict_as (drat_verdict_at end has_empty None))
at_end end true = refl
at_end end false = refl

-- Where each line spells a step, and they follow each other.
pub numbered-verdict : (same : Equality) (end : ℕ) (steps : List DratStep) (line : ℕ) (clauses : List (List ℤ)) (has_empty : Bool)
    → drat_steps_verdict_by same clauses has_empty (drat_lines_then (numbered_lines line steps) (no_more end))
    ≡ Some (verdict_as (drat_verdict_at end (has_empty || list_any adds_empty steps) (first_fault_by same line clauses steps)))
numbered-verdict same end [] line clauses has_empty = rw (or_false has_empty) (at_end end has_empty)
numbered-verdict same end (step ∷ steps) line clauses has_empty =
    elim (drat_step_fault clauses step)
    as (λ (fault : Option Reason). judged fault line (drat_steps_verdict_by same (after_by same clauses step) (has_empty || adds_empty step)
    (drat_lines_then (numbered_lines (line + 1) steps) (no_more end)))
    ≡ Some (verdict_as (drat_verdict_at end (has_empty || (adds_empty step || list_any adds_empty steps))
    (fault_or line fault (first_fault_by same (line + 1) (after_by same clauses step) steps))))) [
      | None ↦ numbered-verdict same end steps (line + 1) (after_by same clauses step) (has_empty || adds_empty step)
          ∙ ap (λ (b : Bool). Some (verdict_as (drat_verdict_at end b (first_fault_by same (line + 1) (after_by same clauses step) steps))))
          (or_assoc has_empty (adds_empty step) (list_any adds_empty steps))
      | Some reason ↦ refl
    ]

-- Lines that are verified: each spells a step, each step is good, and some step adds the empty clause.
pub record IsVerified (same : Equality) (clauses : List (List ℤ)) (has_empty : Bool) (lines : List DratLine) : Type 0 where
  pub steps : List DratStep
  pub spelled : steps_of_lines lines ≡ Some steps
  pub good : (place : ℕ) → first_fault_by same place clauses steps ≡ None
  pub empty : (has_empty || list_any adds_empty steps) ≡ true

end_is : (end : ℕ) (has_empty : Bool) → Some (end_verdict has_empty end) ≡ Some Verified → has_empty ≡ true
end_is end true e = refl
end_is end false e = cc

one_more : (same : Equality) (clauses : List (List ℤ)) (has_empty : Bool) (step : DratStep) (lines : List DratLine) (line : ℕ)
    → drat_step_fault clauses step ≡ None → IsVerified same (after_by same clauses step) (has_empty || adds_empty step) lines
    → IsVerified same clauses has_empty (record { line = line; step = Some step } ∷ lines)
one_more same clauses has_empty step lines line good v = record {
  steps = step ∷ v.steps;
  spelled = ap (with_step (Some step)) v.spelled;
  good = λ place. ap (λ (f : Option Reason). fault_or place f (first_fault_by same (place + 1) (after_by same clauses step) v.steps)) good
      ∙ v.good (place + 1);
  empty = sym (or_assoc has_empty (adds_empty step) (list_any adds_empty v.steps)) ∙ v.empty;
}

pub verified-lines : (same : Equality) (end : ℕ) (lines : List DratLine) (clauses : List (List ℤ)) (has_empty : Bool)
    → drat_steps_verdict_by same clauses has_empty (drat_lines_then lines (no_more end)) ≡ Some Verified
    → IsVerified same clauses has_empty lines
verified-lines same end [] clauses has_empty e = record {
  steps = [];
  spelled = refl;
  good = λ place. refl;
  empty = or_false has_empty ∙ end_is end has_empty e;
}
verified-lines same end (line ∷ lines) clauses has_empty e =
    elim line.step
    as (λ (given : Option DratStep). drat_steps_verdict_by same clauses has_empty (step_then given line.line (drat_lines_then lines (no_more
    end)))
    ≡ Some Verified → IsVerified same clauses has_empty (record { line = line.line; step = given } ∷ lines)) [
      | None ↦ λ refused. cc
      | Some step ↦ λ given. elim (drat_step_fault clauses step)
          as (λ (fault : Option Reason). drat_step_fault clauses step ≡ fault
          → judged fault line.line (drat_steps_verdict_by same (after_by same clauses step) (has_empty || adds_empty step)
          (drat_lines_then lines (no_more end))) ≡ Some Verified
          → IsVerified same clauses has_empty (record { line = line.line; step = Some step } ∷ lines)) [
            | None ↦ λ good later. one_more same clauses has_empty step lines line.line good
                (verified-lines same end lines (after_by same clauses step) (has_empty || adds_empty step) later)
            | Some reason ↦ λ bad later. cc
          ] refl given
    ] e

-- That the text is too long verifies nothing.
pub long-open : (same : Equality) (lines : List DratLine) (clauses : List (List ℤ)) (has_empty : Bool)
    → drat_steps_verdict_by same clauses has_empty (drat_lines_then lines overlong) ≡ Some Verified → ⊥
long-open same [] clauses has_empty = λ e. cc
long-open same (line ∷ lines) clauses has_empty =
    elim line.step
    as (λ (given : Option DratStep). drat_steps_verdict_by same clauses has_empty (step_then given line.line (drat_lines_then lines
    overlong))
    ≡ Some Verified → ⊥) [
      | None ↦ λ e. cc
      | Some step ↦ elim (drat_step_fault clauses step)
          as (λ (fault : Option Reason). judged fault line.line (drat_steps_verdict_by same (after_by same clauses step) (has_empty ||
          adds_empty step)
          (drat_lines_then lines overlong)) ≡ Some Verified → ⊥) [
            | None ↦ λ e. long-open same lines (after_by same clauses step) (has_empty || adds_empty step) e
            | Some reason ↦ λ e. cc
          ]
    ]

-- A text within the limit has a verdict.
pub some-verdict : (same : Equality) (end : ℕ) (lines : List DratLine) (clauses : List (List ℤ)) (has_empty : Bool)
    → drat_steps_verdict_by same clauses has_empty (drat_lines_then lines (no_more end)) ≡ None → ⊥
some-verdict same end [] clauses has_empty = λ e. cc
some-verdict same end (line ∷ lines) clauses has_empty =
    elim line.step
    as (λ (given : Option DratStep). drat_steps_verdict_by same clauses has_empty (step_then given line.line (drat_lines_then lines (no_more
    end)))
    ≡ None → ⊥) [
      | None ↦ λ e. cc
      | Some step ↦ elim (drat_step_fault clauses step)
          as (λ (fault : Option Reason). judged fault line.line (drat_steps_verdict_by same (after_by same clauses step) (has_empty ||
          adds_empty step)
          (drat_lines_then lines (no_more end))) ≡ None → ⊥) [
            | None ↦ λ e. some-verdict same end lines (after_by same clauses step) (has_empty || adds_empty step) e
            | Some reason ↦ λ e. cc
          ]
    ]

-- By the laws of texts.
abbrev pub WholeLaw : Type 0
WholeLaw = (limit : ℕ) (bytes : List ℕ) → length bytes ≤ limit → drat_steps_in limit bytes
    ≡ drat_lines_then (drat_lines bytes) (no_more (end_line bytes))

abbrev pub WithinLaw : Type 0
WithinLaw = (limit : ℕ) (bytes : List ℕ) → limit < length bytes → drat_steps_in limit bytes
    ≡ drat_lines_then (drat_lines_within limit bytes) overlong

pub same-verdict : (same : Equality) → WholeLaw → (clauses : List (List ℤ)) (bytes : List ℕ) (steps : List DratStep)
    → length bytes ≤ max_bytes
    → drat_lines bytes ≡ numbered_lines 1 steps → end_line bytes ≡ length steps + 1
    → drat_text_verdict_by same clauses bytes ≡ Some (verdict_as (drat_verdict_by same clauses steps))
same-verdict same law clauses bytes steps fits lines ends =
    ap (drat_steps_verdict_by same clauses false) (law max_bytes bytes fits)
    ∙ ap (λ ls. drat_steps_verdict_by same clauses false (drat_lines_then ls (no_more (end_line bytes)))) lines
    ∙ ap (λ (end : ℕ). drat_steps_verdict_by same clauses false (drat_lines_then (numbered_lines 1 steps) (no_more end))) ends
    ∙ numbered-verdict same (length steps + 1) steps 1 clauses false

module _ (same : Equality) (whole : WholeLaw) (within : WithinLaw) (clauses : List (List ℤ)) (bytes : List ℕ) where
  pub verified-text : drat_text_verdict_by same clauses bytes ≡ Some Verified → IsVerified same clauses false (drat_lines bytes)
  verified-text e =
      elim (cases_lt max_bytes (length bytes)) [
        | inl beyond ↦ absurd (long-open same (drat_lines_within max_bytes bytes) clauses false
            (sym (ap (drat_steps_verdict_by same clauses false) (within max_bytes bytes beyond)) ∙ e))
        | inr fits ↦ verified-lines same (end_line bytes) (drat_lines bytes) clauses false
            (sym (ap (drat_steps_verdict_by same clauses false) (whole max_bytes bytes fits)) ∙ e)
      ]

  pub overlong-text : drat_text_verdict_by same clauses bytes ≡ None → max_bytes < length bytes
  overlong-text e =
      elim (cases_lt max_bytes (length bytes)) [
        | inl beyond ↦ beyond
        | inr fits ↦ absurd (some-verdict same (end_line bytes) (drat_lines bytes) clauses false
            (sym (ap (drat_steps_verdict_by same clauses false) (whole max_bytes bytes fits)) ∙ e))
      ]

pub refutes : (same : Equality) (clauses : List (List ℤ)) (lines : List DratLine) (v : IsVerified same clauses false lines)
    → DratRefutesBy same clauses v.steps
refutes same clauses lines v = record {
  verified = ap (drat_verdict_at (length v.steps + 1) (list_any adds_empty v.steps)) (v.good 1)
      ∙ ap (λ (b : Bool). drat_verdict_at (length v.steps + 1) b None) v.empty;
}

-- What lines spell has no literal 0.
weaker : (literals : List ℤ) → list_all (is_literal_of max_literal) literals ≡ true → has_no_zero literals ≡ true
weaker [] h = refl
weaker (x ∷ xs) h =
    let parts = and_parts (is_literal_of max_literal x) (list_all (is_literal_of max_literal) xs) h in
    and_from _ _ (and_parts (nat_lt 0 (nat_abs x)) (nat_le (nat_abs x) max_literal) parts.0).0 (weaker xs parts.1)

pair-nonzero : (pair : List ℤ × List ℤ) (clause : List ℤ) → clause_with pair ≡ Some clause → has_no_zero clause ≡ true
pair-nonzero (literals, rest) clause =
    elim (list_all (is_literal_of max_literal) literals && is_empty rest)
    as (λ b. (list_all (is_literal_of max_literal) literals && is_empty rest) ≡ b → (if b then Some literals else None) ≡ Some clause
    → has_no_zero clause ≡ true) [
      | true ↦ λ good e.
          let same : literals ≡ clause = cc in
          subst (λ (l : List ℤ). has_no_zero l ≡ true) same
          (weaker literals (and_parts (list_all (is_literal_of max_literal) literals) (is_empty rest) good).0)
      | false ↦ λ bad e. cc
    ] refl

numbers-nonzero : (numbers clause : List ℤ) → clause_from numbers ≡ Some clause → has_no_zero clause ≡ true
numbers-nonzero numbers clause =
    elim (split_at is_zero numbers)
    as (λ (o : Option (List ℤ × List ℤ)). option_and_then clause_with o ≡ Some clause → has_no_zero clause ≡ true) [
      | None ↦ λ e. cc
      | Some pair ↦ λ e. pair-nonzero pair clause e
    ]

words-nonzero : (words : List (List ℕ)) (clause : List ℤ) → clause_of words ≡ Some clause → has_no_zero clause ≡ true
words-nonzero words clause =
    elim (all_given (map signed_number words))
    as (λ (o : Option (List ℤ)). option_and_then clause_from o ≡ Some clause → has_no_zero clause ≡ true) [
      | None ↦ λ e. cc
      | Some numbers ↦ λ e. numbers-nonzero numbers clause e
    ]

deleted-nonzero : (o : Option (List ℤ)) (step : DratStep) → option_map deletes o ≡ Some step → drat_step_has_no_zero step ≡ true
deleted-nonzero None step e = cc
deleted-nonzero (Some clause) step e =
    let same : deletes clause ≡ step = cc in
    subst (λ (s : DratStep). drat_step_has_no_zero s ≡ true) same refl

added-nonzero : (o : Option (List ℤ)) (step : DratStep) → ((clause : List ℤ) → o ≡ Some clause → has_no_zero clause ≡ true)
    → option_map adds o ≡ Some step → drat_step_has_no_zero step ≡ true
added-nonzero None step each e = cc
added-nonzero (Some clause) step each e =
    let same : adds clause ≡ step = cc in
    subst (λ (s : DratStep). drat_step_has_no_zero s ≡ true) same (each clause refl)

step-nonzero : (words : List (List ℕ)) (step : DratStep) → drat_step_of words ≡ Some step → drat_step_has_no_zero step ≡ true
step-nonzero [] step e = cc
step-nonzero (word ∷ words) step e =
    elim (is_delete_word word)
    as (λ b. (if b then option_map deletes (clause_of words) else option_map adds (clause_of (word ∷ words))) ≡ Some step
    → drat_step_has_no_zero step ≡ true) [
      | true ↦ λ given. deleted-nonzero (clause_of words) step given
      | false ↦ λ given. added-nonzero (clause_of (word ∷ words)) step (words-nonzero (word ∷ words)) given
    ] e

both-given : (o : Option DratStep) (more : Option (List DratStep)) (steps : List DratStep) → with_step o more ≡ Some steps
    → ((step : DratStep) → o ≡ Some step → drat_step_has_no_zero step ≡ true)
    → ((rest : List DratStep) → more ≡ Some rest → list_all drat_step_has_no_zero rest ≡ true)
    → list_all drat_step_has_no_zero steps ≡ true
both-given None more steps e first later = cc
both-given (Some step) None steps e first later = cc
both-given (Some step) (Some rest) steps e first later =
    let same : (step ∷ rest) ≡ steps = cc in
    subst (λ (l : List DratStep). list_all drat_step_has_no_zero l ≡ true) same (and_from _ _ (first step refl) (later rest refl))

rows-nonzero : (rows : List Row) (steps : List DratStep) → steps_of_lines (map drat_line_of rows) ≡ Some steps
    → list_all drat_step_has_no_zero steps ≡ true
rows-nonzero [] steps e =
    let same : ◌≡◌ {A = List DratStep} [] steps = cc in
    subst (λ (l : List DratStep). list_all drat_step_has_no_zero l ≡ true) same refl
rows-nonzero (row ∷ more) steps e =
    both-given (drat_step_of row.words) (steps_of_lines (map drat_line_of more)) steps e (step-nonzero row.words) (rows-nonzero more)

pub text-nonzero : (bytes : List ℕ) (steps : List DratStep) → steps_of_lines (drat_lines bytes) ≡ Some steps
    → list_all drat_step_has_no_zero steps ≡ true
text-nonzero bytes steps e = rows-nonzero (rows 99 bytes) steps e
