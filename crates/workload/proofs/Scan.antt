-- Column scanning of any formula: the clauses come by columns, and in each column those variables are quantified all of
-- whose clauses have come. Its moves are admissible.
use Rattle.std.proofs.Common.{◌≡◌, ℕ, zero, suc, ◌+◌, ◌-◌, ◌<◌, ◌≤◌, true, List, [], ◌∷◌, ◌++◌, length, refl, ap, ◌∙◌, arith}
use Rattle.std.specs.Prelude.{nat_le, map, cond, replicate}
use Rattle.std.specs.List.{flat_map}
use Rattle.std.proofs.lemmas.Bool.{le-leb}
use Rattle.std.proofs.lemmas.List.{append-nil}
use Rattle.std.proofs.lemmas.Grind.{flat_map-append}
use Rattle.cnf_base.specs.Formula.{Formula}
use Rattle.cnf_base.specs.Order.{natural}
use Rattle.schedule_plan.specs.declared.plan.Move.{Move}
use Rattle.schedule_plan.specs.declared.plan.Move.TheVariants.{Push, And, Exists}
use Rattle.schedule_plan.specs.Plan.{clause_has, clause_of_number, Stage, IsAdmissible, after_moves, no_stage}
use Rattle.workload.proofs.Standing.{standing, standing_append}
use Rattle.workload.proofs.Stages.{LeadsTo, append_possible, is_pushed-standing, pushing, conjoining_all, quantifying_all}

-- the clauses of the first columns
abbrev pub up_to : (ℕ → List ℕ) → ℕ → List ℕ
up_to clauses k = flat_map clauses (natural k)

-- Each clause stands in one column, each column has one, and a variable ends in a column where its clauses stand in the
-- columns up to it.
pub record IsScan (formula : Formula) (clauses ends : ℕ → List ℕ) (columns : ℕ) : Type 0 where
  pub once : (i : ℕ) → standing i (up_to clauses columns) ≤ 1
  pub within : (i : ℕ) → 0 < standing i (up_to clauses columns) → (0 < i) × (i ≤ length formula.clauses)
  pub each : (i : ℕ) → 0 < i → i ≤ length formula.clauses → 0 < standing i (up_to clauses columns)
  pub some : (column : ℕ) → 1 ≤ column → column ≤ columns → 0 < length (clauses column)
  pub ended : (column x i : ℕ) → 1 ≤ column → column ≤ columns → 0 < standing x (ends column) → 0 < i → i ≤ length formula.clauses
      → clause_has x (clause_of_number formula i) ≡ true → 0 < standing i (up_to clauses column)
  pub variables : (column x : ℕ) → 0 < standing x (ends column) → (0 < x) × (x ≤ formula.vars)

-- the terms that stand before a column, and the moves of a column
abbrev pub terms_before : ℕ → ℕ
terms_before column = cond (nat_le 2 column) 1 0

abbrev pub scan_moves : (clauses ends : ℕ → List ℕ) → ℕ → List Move
scan_moves clauses ends column = map Push (clauses column) ++ (replicate (length (clauses column) + terms_before column - 1) And
    ++ map Exists (ends column))

-- one more column
pub one_more : {A : Type 0} (f : ℕ → List A) (k : ℕ) → flat_map f (natural (suc k)) ≡ flat_map f (natural k) ++ f (suc k)
one_more f k = flat_map-append f (natural k) (suc k ∷ []) ∙ ap (λ l. flat_map f (natural k) ++ l) (append-nil (f (suc k)))

standing_more : (f : ℕ → List ℕ) (i k : ℕ) → standing i (up_to f (suc k)) ≡ standing i (up_to f k) + standing i (f (suc k))
standing_more f i k = ap (standing i) (one_more f k) ∙ standing_append i (up_to f k) (f (suc k))

fewer : (f : ℕ → List ℕ) (i k more columns : ℕ) → more + k ≡ columns → standing i (up_to f k) ≤ standing i (up_to f columns)
fewer f i k zero columns whole =
    let reached : k ≡ columns = omega (arith, whole) in
    let same : standing i (up_to f k) ≡ standing i (up_to f columns) = ap (λ (j : ℕ). standing i (up_to f j)) reached in
    omega (arith, same)
fewer f i k (suc more) columns whole =
    let reached : suc (more + k) ≡ columns = omega (arith, whole) in
    let same : standing i (up_to f (suc (more + k))) ≡ standing i (up_to f columns) = ap (λ (j : ℕ). standing i (up_to f j)) reached in
    omega (arith, same, standing_more f i (more + k), fewer f i k more (more + k) refl)

-- a column's moves, after those of the columns before
column_leads : (formula : Formula) (clauses ends : ℕ → List ℕ) (columns k : ℕ) → IsScan formula clauses ends columns → suc k ≤ columns
    → (stage : Stage) → length stage.stack ≡ terms_before (suc k) → ((i : ℕ) → standing i stage.pushed ≡ standing i (up_to clauses k))
    → LeadsTo formula stage (scan_moves clauses ends (suc k)) (clauses (suc k)) 1
column_leads formula clauses ends columns k scan small stage high before =
    let own : List ℕ = clauses (suc k) in
    let quantified : List Move = map Exists (ends (suc k)) in
    let conjoined : ℕ = length (clauses (suc k)) + terms_before (suc k) - 1 in
    let few : (i : ℕ) → standing i (up_to clauses (suc k)) ≤ standing i (up_to clauses columns) = λ i. fewer clauses i (suc k)
    (columns - suc k) columns (omega (arith, small)) in
    let pushes = pushing formula stage own (λ i there. scan.within i (omega (arith, there, standing_more clauses i k, few i)))
    (λ i. omega (arith, before i, standing_more clauses i k, few i, scan.once i)) in
    let conjoins = conjoining_all formula pushes.later conjoined
    (omega (arith, pushes.stacked, high, scan.some (suc k) (omega arith) small)) in
    let now : (i : ℕ) → standing i conjoins.later.pushed ≡ standing i (up_to clauses (suc k)) =
    λ i. omega (arith, conjoins.pushed i, pushes.pushed i, before i, standing_more clauses i k) in
    let quantifies = quantifying_all formula conjoins.later (ends (suc k)) conjoins.stacked (scan.variables (suc k))
    (λ x i there positive within has. omega (arith, now i, scan.ended (suc k) x i (omega arith) small there positive within has)) in
    record {
      later = quantifies.later;
      possible = append_possible formula stage pushes.later quantifies.later (map Push own) (replicate conjoined And
          ++ quantified) pushes.possible
          (append_possible formula pushes.later conjoins.later quantifies.later
          (replicate conjoined And) quantified conjoins.possible quantifies.possible);
      stacked = quantifies.stacked;
      pushed = λ i. omega (arith, quantifies.pushed i, conjoins.pushed i, pushes.pushed i);
    }

one_before : (k : ℕ) → terms_before (suc (suc k)) ≡ 1
one_before k = ap (λ b. cond b 1 0) (le-leb 2 (suc (suc k)) (omega arith))

columns_lead : (formula : Formula) (clauses ends : ℕ → List ℕ) (columns k : ℕ) → IsScan formula clauses ends columns → k ≤ columns
    → LeadsTo formula no_stage (flat_map (scan_moves clauses ends) (natural k)) (up_to clauses k) (terms_before (suc k))
columns_lead formula clauses ends columns zero scan small = record {
  later = no_stage;
  possible = refl;
  stacked = refl;
  pushed = λ i. omega arith;
}
columns_lead formula clauses ends columns (suc k) scan small =
    let moves : ℕ → List Move = scan_moves clauses ends in
    let before = columns_lead formula clauses ends columns k scan (omega (arith, small)) in
    let column = column_leads formula clauses ends columns k scan small before.later before.stacked (λ i. omega (arith, before.pushed i)) in
    record {
      later = column.later;
      possible = ap (after_moves formula no_stage) (one_more moves k)
          ∙ append_possible formula no_stage before.later column.later (flat_map moves (natural k))
          (moves (suc k)) before.possible column.possible;
      stacked = omega (arith, column.stacked, one_before k);
      pushed = λ i. omega (arith, column.pushed i, before.pushed i, standing_more clauses i k);
    }

few_terms : (k : ℕ) → terms_before (suc k) ≤ 1
few_terms zero = omega arith
few_terms (suc k) = omega (arith, one_before k)

pub scan_is_admissible : (formula : Formula) (clauses ends : ℕ → List ℕ) (columns : ℕ) → IsScan formula clauses ends columns
    → IsAdmissible formula (flat_map (scan_moves clauses ends) (natural columns))
scan_is_admissible formula clauses ends columns scan =
    let all = columns_lead formula clauses ends columns columns scan (omega arith) in
    record {
      last = all.later;
      possible = all.possible;
      all_pushed = λ i positive small. is_pushed-standing i all.later.pushed (omega (arith, all.pushed i, scan.each i positive small));
      one_term = omega (arith, all.stacked, few_terms columns);
    }
