-- What a verified text tells, and that its formula has no satisfying assignment.
use Rattle.std.proofs.Common.{◌≡◌, ◌==◌, ℕ, Bool, true, false, ◌&&◌, ℤ, List, [], ◌∷◌, map, Option, None, Some, if◌then◌else◌, nat_lt}
use Rattle.std.proofs.Common.{nat_abs, refl, ◌∙◌, option_and_then}
use Rattle.std.specs.List.{list_all}
use Rattle.std.proofs.lemmas.Bool.{and_parts, both_ways}
use Rattle.std.proofs.lemmas.List.Folds.{list_all-map}
use Rattle.cnf_base.specs.declared.step.Step.{Step}
use Rattle.cnf_base.specs.declared.step.Step.TheVariants.{Add, Delete}
use Rattle.cnf_base.specs.Number.{plain_number, signed_number}
use Rattle.cnf_base.specs.Text.{rows, end_line}
use Rattle.cnf_base.specs.ProofText.{max_literal, is_id, is_hint, is_empty, is_zero, is_delete_word, given_if, all_given, split_at}
use Rattle.cnf_base.specs.ProofText.{hints_before_group, groups_of, addition_of, addition_from, deletion_of, step_with, step_of}
use Rattle.cnf_base.specs.ProofText.{line_of_row, proof_lines}
use Rattle.cnf_base.specs.Truth.{Assignment, clause_holds, Satisfies, is_literal_of, AreClausesOf}
use Rattle.lrat_rules.specs.State.{State, start}
use Rattle.lrat_rules.specs.Run.{Reached, Stopped, run, adds_empty_clause, verdict_at, Refutes, Spells}
use Rattle.lrat_rules.specs.Soundness.{is_nonzero, has_no_zero, LiveHasNoZero, step_has_no_zero, line_has_no_zero, lines_have_no_zero}
use Rattle.lrat_rules.proofs.Tests.{list_all_each, list_all_weaken}
use Rattle.lrat_rules.proofs.SoundSteps.{LivePass-start, IsModel, run-sound}

pub has_no_zero-literals : (vars : ℕ) (clause : List ℤ) → list_all (is_literal_of vars) clause ≡ true → has_no_zero clause ≡ true
has_no_zero-literals vars clause h = list_all_weaken (is_literal_of vars) is_nonzero clause
    (λ x l. (and_parts (nat_lt 0 (nat_abs x)) _ l).0) h

and_then_no_zero : {X : Type 0} (f : X → Option Step) (o : Option X) → ((x : X) → line_has_no_zero (f x) ≡ true)
    → line_has_no_zero (option_and_then f o) ≡ true
and_then_no_zero f None each = refl
and_then_no_zero f (Some x) each = each x

given_if_no_zero : (b : Bool) (step : Step) → (b ≡ true → step_has_no_zero step ≡ true) → line_has_no_zero (given_if b step) ≡ true
given_if_no_zero true step h = h refl
given_if_no_zero false step h = refl

addition_of_no_zero : (id : ℕ) (literals hints rest : List ℤ) → line_has_no_zero (addition_of id literals (hints, rest)) ≡ true
addition_of_no_zero id literals hints rest =
    given_if_no_zero (is_id id && list_all (is_literal_of max_literal) literals && list_all is_hint hints
    && is_empty rest) (Add id literals (hints_before_group hints) (groups_of hints))
    (λ h. has_no_zero-literals max_literal literals (and_parts (is_id id) _
    (and_parts (is_id id && list_all (is_literal_of max_literal) literals) _ (and_parts _ (is_empty rest) h).0).0).1)

step_with_no_zero : (id : ℕ) (words : List (List ℕ)) → line_has_no_zero (step_with id words) ≡ true
step_with_no_zero id [] = refl
step_with_no_zero id (word ∷ words) =
    elim (is_delete_word word)
    as (λ b. line_has_no_zero (if b then option_and_then (λ numbers. option_and_then (deletion_of id) (split_at (λ n. n == 0) numbers))
    (all_given (map plain_number words))
    else option_and_then (λ numbers. option_and_then (addition_from id) (split_at is_zero numbers))
    (all_given (map signed_number (word ∷ words)))) ≡ true) [
      | true ↦ and_then_no_zero _ (all_given (map plain_number words))
          (λ numbers. and_then_no_zero (deletion_of id) (split_at (λ n. n == 0) numbers)
          (λ (ids, rest). given_if_no_zero _ (Delete id ids) (λ h. refl)))
      | false ↦ and_then_no_zero _ (all_given (map signed_number (word ∷ words)))
          (λ numbers. and_then_no_zero (addition_from id) (split_at is_zero numbers)
          (λ (literals, more). and_then_no_zero (addition_of id literals) (split_at is_zero more)
          (λ (hints, rest). addition_of_no_zero id literals hints rest)))
    ]

step_of_no_zero : (words : List (List ℕ)) → line_has_no_zero (step_of words) ≡ true
step_of_no_zero [] = refl
step_of_no_zero (word ∷ words) = and_then_no_zero (λ id. step_with id words) (plain_number word) (λ id. step_with_no_zero id words)

pub proof_lines_no_zero : (bytes : List ℕ) → lines_have_no_zero (proof_lines bytes) ≡ true
proof_lines_no_zero bytes = list_all-map (λ line. line_has_no_zero line.step) line_of_row (rows 99 bytes)
    ∙ list_all_each _ (rows 99 bytes) (λ row. step_of_no_zero row.words)

-- a verified text leads to some state, and adds the empty clause
pub record IsVerifiedRun (clauses : List (List ℤ)) (bytes : List ℕ) : Type 0 where
  pub state : State
  pub reached : run (start clauses) (proof_lines bytes) ≡ Reached state
  pub empty : adds_empty_clause bytes ≡ true

has_empty : (end : ℕ) (b : Bool) (state : State) → verdict_at end b (Reached state) ≡ None → b ≡ true
has_empty end true state h = refl
has_empty end false state h = cc

pub IsVerifiedRun-Refutes : (clauses : List (List ℤ)) (bytes : List ℕ) → Refutes clauses bytes → IsVerifiedRun clauses bytes
IsVerifiedRun-Refutes clauses bytes r =
    elim (run (start clauses) (proof_lines bytes))
    as (λ j. run (start clauses) (proof_lines bytes) ≡ j → verdict_at (end_line bytes) (adds_empty_clause bytes) j ≡ None
    → IsVerifiedRun clauses bytes) [
      | Reached state ↦ λ e h. record { state = state; reached = e; empty = has_empty (end_line bytes) (adds_empty_clause bytes) state h }
      | Stopped line reason ↦ λ e h. cc
    ] refl r.verified

pub Refutes-Spells : (clauses : List (List ℤ)) (bytes : List ℕ) (state : State) → Spells clauses bytes state → adds_empty_clause bytes
    ≡ true → Refutes clauses bytes
Refutes-Spells clauses bytes state s e = record { verified = rw (s.reached, e) }

-- no literal of the formula is 0
pub LiveHasNoZero-start : (vars : ℕ) (clauses : List (List ℤ)) → AreClausesOf vars clauses → LiveHasNoZero (start clauses).live
LiveHasNoZero-start vars clauses ranges =
    LivePass-start has_no_zero clauses (list_all_weaken (list_all (is_literal_of vars)) has_no_zero clauses
    (has_no_zero-literals vars) ranges)

-- an assignment that satisfies the formula is a model of the live clauses at the start
pub start_model : (vars : ℕ) (clauses : List (List ℤ)) → AreClausesOf vars clauses → (a : Assignment) → Satisfies a clauses
    → IsModel a (start clauses).live
start_model vars clauses ranges a satisfies = record {
  nonzero = LiveHasNoZero-start vars clauses ranges;
  satisfied = LivePass-start (clause_holds a) clauses satisfies;
}

pub unsatisfiable : (vars : ℕ) (clauses : List (List ℤ)) (bytes : List ℕ) → AreClausesOf vars clauses → Refutes clauses bytes
    → (a : Assignment) → Satisfies a clauses → ⊥
unsatisfiable vars clauses bytes ranges refutes a satisfies =
    let verified = IsVerifiedRun-Refutes clauses bytes refutes in
    let survives = run-sound a (start clauses) verified.state (proof_lines bytes) (start_model vars clauses ranges a satisfies)
    (proof_lines_no_zero bytes) verified.reached in
    both_ways (adds_empty_clause bytes) survives.no_empty verified.empty
