-- The moves of the board's column schedule are possible, and leave one term with all clauses pushed.
use Rattle.std.proofs.Common.{◌≡◌, ℕ, zero, suc, ◌-◌, ◌<◌, ◌≤◌, true, List, ◌++◌, length, refl, sym, ap, ◌∙◌, arith}
use Rattle.std.specs.Prelude.{map, replicate}
use Rattle.std.specs.List.{flat_map}
use Rattle.std.proofs.lemmas.Grind.{flat_map-append}
use Rattle.cnf_base.specs.Order.{natural}
use Rattle.schedule_plan.specs.declared.plan.Move.{Move}
use Rattle.schedule_plan.specs.declared.plan.Move.TheVariants.{Push, And}
use Rattle.schedule_plan.specs.Plan.{clause_has, clause_of_number, IsAdmissible, after_moves, no_stage}
use Rattle.workload.specs.Board.{dominoes, board_clauses, board_formula}
use Rattle.workload.specs.Schedule.{column_clauses, column_commands, conjoining, ending, moves_of, board_moves, quantifying}
use Rattle.workload.specs.Schedule.{terms_in_column}
use Rattle.workload.proofs.Standing.{standing}
use Rattle.workload.proofs.Scan.{IsScan, scan_moves, one_more, scan_is_admissible}
use Rattle.workload.proofs.Steps.{conjoining_moves, quantifying_moves}

-- what is to be known of the board's numbers, by columns
pub record AreFit (n : ℕ) : Type 0 where
  pub clauses : (i : ℕ) → standing i (flat_map (column_clauses n) (natural n)) ≡ standing i (natural (length (board_clauses n)))
  pub once : (i : ℕ) → standing i (natural (length (board_clauses n))) ≤ 1
  pub within : (i : ℕ) → 0 < standing i (natural (length (board_clauses n))) → (0 < i) × (i ≤ length (board_clauses n))
  pub each : (i : ℕ) → 0 < i → i ≤ length (board_clauses n) → 0 < standing i (natural (length (board_clauses n)))
  pub some : (column : ℕ) → 1 ≤ column → column ≤ n → 0 < length (column_clauses n column)
  pub ended : (column x i : ℕ) → 1 ≤ column → column ≤ n → 0 < standing x (ending n column) → 0 < i → i ≤ length (board_clauses n)
      → clause_has x (clause_of_number (board_formula n) i) ≡ true → 0 < standing i (flat_map (column_clauses n) (natural column))
  pub variables : (column x : ℕ) → 0 < standing x (ending n column) → (0 < x) × (x ≤ length (dominoes n))

is_scan : (n : ℕ) → AreFit n → IsScan (board_formula n) (column_clauses n) (ending n) n
is_scan n fit = record {
  once = λ i. omega (arith, fit.clauses i, fit.once i);
  within = λ i there. fit.within i (omega (arith, there, fit.clauses i));
  each = λ i positive small. omega (arith, fit.clauses i, fit.each i positive small);
  some = fit.some;
  ended = fit.ended;
  variables = fit.variables;
}

column_moves : (n column : ℕ) → flat_map moves_of (column_commands n column) ≡ scan_moves (column_clauses n) (ending n) column
column_moves n column =
    let pushed : List Move = map Push (column_clauses n column) in
    let terms : ℕ = terms_in_column n column in
    let ends : List ℕ = ending n column in
    ap (λ (l : List Move). pushed ++ l)
    (flat_map-append moves_of (conjoining terms) (quantifying ends)
    ∙ ap (λ (l : List Move). l ++ flat_map moves_of (quantifying ends)) (conjoining_moves terms)
    ∙ ap (λ (l : List Move). replicate (terms - 1) And ++ l) (quantifying_moves ends))

-- a list made column by column, in two steps and in one
in_one_step : {A B : Type 0} (g : A → List B) (f : ℕ → List A) (h : ℕ → List B) → ((column : ℕ) → flat_map g (f column) ≡ h column)
    → (k : ℕ) → flat_map g (flat_map f (natural k)) ≡ flat_map h (natural k)
in_one_step g f h same zero = refl
in_one_step g f h same (suc k) =
    ap (flat_map g) (one_more f k) ∙ flat_map-append g (flat_map f (natural k)) (f (suc k))
    ∙ (λ i. in_one_step g f h same k i ++ same (suc k) i) ∙ sym (one_more h k)

pub board_is_admissible : (n : ℕ) → 2 ≤ n → AreFit n → IsAdmissible (board_formula n) (board_moves n)
board_is_admissible n large fit =
    let scanned = scan_is_admissible (board_formula n) (column_clauses n) (ending n) n (is_scan n fit) in
    let moves : board_moves n ≡ flat_map (scan_moves (column_clauses n) (ending n)) (natural n) =
    in_one_step moves_of (column_commands n) (scan_moves (column_clauses n) (ending n)) (column_moves n) n in
    record {
      last = scanned.last;
      possible = ap (after_moves (board_formula n) no_stage) moves ∙ scanned.possible;
      all_pushed = scanned.all_pushed;
      one_term = scanned.one_term;
    }
