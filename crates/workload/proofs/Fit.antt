-- The board's column schedule is admissible.
use Rattle.std.proofs.Common.{ℕ, zero, suc, ◌<◌, ◌≤◌, length, refl, arith, inl, inr}
use Rattle.std.proofs.lemmas.Bool.{cases_lt}
use Rattle.cnf_base.specs.Order.{natural}
use Rattle.schedule_plan.specs.Plan.{IsAdmissible}
use Rattle.workload.specs.Board.{board_clauses, board_formula}
use Rattle.workload.specs.Schedule.{board_moves}
use Rattle.workload.proofs.Standing.{standing, standing_natural, standing_outside}
use Rattle.workload.proofs.Exchange.{clauses_in_columns}
use Rattle.workload.proofs.Ended.{ended_are_pushed, ending_within, some_clauses}
use Rattle.workload.proofs.Admissible.{AreFit, board_is_admissible}

-- a number stands once in 1, 2, .. up to another where it is within, and else not at all
within : (i k : ℕ) → 0 < standing i (natural k) → (0 < i) × (i ≤ k)
within zero k there = absurd (omega (arith, there, standing_outside 0 k (inl refl)))
within (suc i) k there =
    elim (cases_lt k (suc i)) [
      | inl late ↦ absurd (omega (arith, there, standing_outside (suc i) k (inr late)))
      | inr early ↦ (omega arith, omega (arith, early))
    ]

once : (i k : ℕ) → standing i (natural k) ≤ 1
once zero k = omega (arith, standing_outside 0 k (inl refl))
once (suc i) k =
    elim (cases_lt k (suc i)) [
      | inl late ↦ omega (arith, standing_outside (suc i) k (inr late))
      | inr early ↦ omega (arith, standing_natural (suc i) k (omega arith) (omega (arith, early)))
    ]

are_fit : (n : ℕ) → 2 ≤ n → AreFit n
are_fit n large = record {
  clauses = clauses_in_columns n;
  once = λ i. once i (length (board_clauses n));
  within = λ i. within i (length (board_clauses n));
  each = λ i positive small. omega (arith, standing_natural i (length (board_clauses n)) positive small);
  some = λ column. some_clauses n column large;
  ended = ended_are_pushed n;
  variables = ending_within n;
}

pub admissible : (n : ℕ) → 2 ≤ n → IsAdmissible (board_formula n) (board_moves n)
admissible n large = board_is_admissible n large (are_fit n large)
