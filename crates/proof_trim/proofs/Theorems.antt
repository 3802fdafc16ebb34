-- The laws of trimming: what is left of a verified proof refutes the formula, is trimmed no more, and refutes its core alone.
use Rattle.std.proofs.Common.{◌≡◌, ℕ, ◌+◌, ◌<◌, ◌≤◌, true, ℤ, List, [], ◌∷◌, length, None, Some, is_some, refl, sym}
use Rattle.std.proofs.Common.{ap, ◌∙◌, inl, inr, arith, nat_le}
use Rattle.std.specs.Prelude.{map}
use Rattle.std.specs.Prelude.{slice_index_or}
use Rattle.std.specs.List.{list_all, list_any}
use Rattle.std.proofs.lemmas.Bool.{and_from, cases_lt, or_parts, leb-false, both_ways}
use Rattle.cnf_base.specs.declared.step.Step.{Step}
use Rattle.cnf_base.specs.Text.{Row, rows, end_line}
use Rattle.cnf_base.specs.ProofText.{is_printable, step_of, line_of_row, proof_lines}
use Rattle.lrat_text.specs.Steps.{Steps, no_more, step_then, lines_then, lines_within, steps}
use Rattle.cnf_base.specs.declared.list.Group.{Group}
use Rattle.cnf_base.specs.Truth.{Assignment, Satisfies}
use Rattle.lrat_rules.specs.State.{State, Live, SatisfiesLive, clause_at, start, with_clause, without_clauses}
use Rattle.lrat_rules.specs.Addition.{fault}
use Rattle.lrat_rules.specs.Soundness.{LiveHasNoZero, SatisfiesUpToPivot, lines_have_no_zero, step_has_no_zero}
use Rattle.lrat_rules.specs.Derivation.{lines_from, text_of}
use Rattle.lrat_rules.specs.Run.{Judged, Reached, Stopped, run, after_step, step_adds_empty, Refutes}
use Rattle.proof_judging.specs.declared.verdict.Verdict.TheVariants.{Verified}
use Rattle.lrat_checker.specs.TextVerdict.{max_bytes, text_verdict, verdict_within}
use Rattle.proof_trim.specs.Trimmed.{cut_steps, needed, is_there, each_named, trimmed_of, trimmed, trim}
use Rattle.proof_trim.specs.Core.{RefutesFrom, clauses_at, core, core_start}
use Rattle.proof_trim.proofs.Alone.{alone_runs, begins_alone, holds_alone, of_core, refuted_from, there, there-above, there-named}
use Rattle.proof_trim.proofs.Replay.{as_steps, Replays, Beside, replays}
use Rattle.proof_trim.proofs.Again.{each_named-rest, trimmed_again}
use Rattle.proof_trim.proofs.Printed.{are_printable, printable-cut_steps, printable-trimmed_of}

pub all_named : (clauses : List (List ℤ)) (bytes : List ℕ) → each_named (trimmed clauses bytes) ≡ true
all_named clauses bytes =
    let all : List Step = cut_steps (start clauses) (steps max_bytes bytes) in
    each_named-rest (length clauses) (needed all) all

not_within : (judged : Judged) → verdict_within judged ≡ Some Verified → ⊥
not_within (Reached state) h = cc
not_within (Stopped line reason) h = cc

-- lines as a reader gives their steps
as_lines : (behind : Steps) (line : ℕ) (steps : List Step) → lines_then (lines_from line steps) behind ≡ as_steps behind line steps
as_lines behind line [] = refl
as_lines behind line (step ∷ steps) = ap (step_then (Some step) line) (as_lines behind (line + 1) steps)

module _ (none_at_zero : (clauses : List (List ℤ)) → clause_at (start clauses).live 0 ≡ None)
    (none_above : (clauses : List (List ℤ)) (id : ℕ) → length clauses < id → clause_at (start clauses).live id ≡ None)
    (printable : (words : List (List ℕ)) (step : Step) → step_of words ≡ Some step → is_printable step ≡ true)
    (whole : (limit : ℕ) (bytes : List ℕ) → length bytes ≤ limit → steps limit bytes ≡ lines_then (proof_lines bytes) (no_more (end_line
    bytes)))
    (lines : (steps : List Step) → list_all is_printable steps ≡ true → proof_lines (text_of steps) ≡ lines_from 1 steps)
    (refutes : (clauses : List (List ℤ)) (steps : List Step) (state : State) → run (start clauses) (lines_from 1 steps) ≡ Reached state
    → list_all is_printable steps ≡ true → list_any step_adds_empty steps ≡ true → Refutes clauses (text_of steps))
    (long : (clauses : List (List ℤ)) (bytes : List ℕ) → max_bytes < length bytes → text_verdict clauses bytes
    ≡ verdict_within (run (start clauses) (lines_within max_bytes bytes))) where
  -- a text that is verified is within the limit
  fits : (clauses : List (List ℤ)) (bytes : List ℕ) → text_verdict clauses bytes ≡ Some Verified → length bytes ≤ max_bytes
  fits clauses bytes verified =
      elim (cases_lt max_bytes (length bytes)) [
        | inl beyond ↦ absurd (not_within (run (start clauses) (lines_within max_bytes bytes)) (sym (long clauses bytes beyond) ∙ verified))
        | inr within ↦ within
      ]

  printable_rows : (rows : List Row) (end : ℕ) → are_printable (lines_then (map line_of_row rows) (no_more end)) ≡ true
  printable_rows [] end = refl
  printable_rows (row ∷ rows) end =
      elim (step_of row.words) as (λ given. step_of row.words ≡ given
      → are_printable (step_then given row.line (lines_then (map line_of_row rows) (no_more end))) ≡ true) [
        | None ↦ λ is. refl
        | Some step ↦ λ is. and_from (is_printable step) (are_printable (lines_then (map line_of_row rows) (no_more end)))
            (printable row.words step is) (printable_rows rows end)
      ] refl

  module _ (clauses : List (List ℤ)) (bytes : List ℕ) (verified : text_verdict clauses bytes ≡ Some Verified) where
    abbrev all : List Step
    all = cut_steps (start clauses) (steps max_bytes bytes)

    at_start : Beside (length clauses) (is_there (length clauses) (needed all)) (start clauses) (start clauses)
    at_start = record {
      shadow = record {
        same = λ id h. refl;
        none = λ id h. none_above clauses id (leb-false id (length clauses) (or_parts (nat_le id (length clauses)) (needed all id) h).0);
      };
      top = omega arith;
      below = λ id h. elim (cases_lt (length clauses) id) [
        | inl above ↦ absurd (both_ways (is_some (clause_at (start clauses).live id)) (ap is_some (none_above clauses id above)) h)
        | inr within ↦ within
      ];
      formula = omega arith;
    }

    replayed : Replays (start clauses) (trimmed clauses bytes)
    replayed = replays (length clauses) (needed all) (steps max_bytes bytes) (start clauses) (start clauses) verified at_start
        (record { within = λ id h. h; fresh = λ id above. refl })

    can_be_read : list_all is_printable (trimmed clauses bytes) ≡ true
    can_be_read = printable-trimmed_of (length clauses) all (printable-cut_steps (steps max_bytes bytes) (start clauses)
        (ap are_printable (whole max_bytes bytes (fits clauses bytes verified)) ∙ printable_rows (rows 99 bytes) (end_line bytes)))

    pub trim-refutes : Refutes clauses (trim clauses bytes)
    trim-refutes = refutes clauses (trimmed clauses bytes) replayed.end (replayed.reached 1) can_be_read replayed.empty

    pub trim-again : length (trim clauses bytes) ≤ max_bytes → trim clauses (trim clauses bytes) ≡ trim clauses bytes
    trim-again short =
        let again : List Step = trimmed clauses bytes in
        let end : Steps = no_more (end_line (trim clauses bytes)) in
        let read : steps max_bytes (trim clauses bytes) ≡ as_steps end 1 again =
        whole max_bytes (trim clauses bytes) short ∙ ap (λ ls. lines_then ls end) (lines again can_be_read) ∙ as_lines end 1 again in
        ap text_of (ap (λ (s : Steps). trimmed_of (length clauses) (cut_steps (start clauses) s)) read
        ∙ ap (trimmed_of (length clauses)) (replayed.again end 1) ∙ trimmed_again (length clauses) all)

    pub core-refutes : RefutesFrom (core_start clauses (core clauses bytes)) (trimmed clauses bytes)
    core-refutes =
        let again : List Step = trimmed clauses bytes in
        let runs = alone_runs (length clauses) (there clauses again (none_at_zero clauses) (none_above clauses))
        (there-above clauses again (none_at_zero clauses) (none_above clauses)) again (start clauses)
        (core_start clauses (core clauses bytes)) replayed.each
        (there-named clauses again (none_at_zero clauses) (none_above clauses))
        (begins_alone clauses again (none_at_zero clauses) (none_above clauses)) in
        record { end = runs.0; reached = runs.1 1; empty = replayed.empty }

    -- no assignment satisfies it
    pub core-unsatisfiable : ((i : ℕ) → i < length clauses → clause_at (start clauses).live (i + 1) ≡ Some (slice_index_or clauses i []))
        → ((a : Assignment) (state : State) (id : ℕ) (clause : List ℤ) (hints : List ℕ) (groups : List Group)
        → LiveHasNoZero state.live → SatisfiesLive a state.live → fault state id clause hints groups ≡ None
        → SatisfiesUpToPivot a clause (with_clause state.live id clause))
        → ((a : Assignment) (live : Live) (ids : List ℕ) → SatisfiesLive a live → SatisfiesLive a (without_clauses live ids))
        → ((state : State) (step : Step) → LiveHasNoZero state.live → step_has_no_zero step ≡ true
        → LiveHasNoZero (after_step state step).live)
        → ((text : List ℕ) → lines_have_no_zero (proof_lines text) ≡ true) → LiveHasNoZero (start clauses).live
        → (a : Assignment) → Satisfies a (clauses_at clauses (core clauses bytes)) → ⊥
    core-unsatisfiable at addition deletion nonzero nonzero_text clean a satisfied =
        let again : List Step = trimmed clauses bytes in
        refuted_from addition deletion nonzero again (core_start clauses (core clauses bytes)) core-refutes.end 1 a core-refutes.reached
        core-refutes.empty
        (λ id clause stands. clean id clause (of_core clauses again (none_at_zero clauses) (none_above clauses) id clause stands).1)
        (sym (ap lines_have_no_zero (lines again can_be_read)) ∙ nonzero_text (trim clauses bytes))
        (holds_alone clauses again (none_at_zero clauses) (none_above clauses) at a satisfied)
