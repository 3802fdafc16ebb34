-- A run between two moves of its plan.
use Rattle.std.proofs.Common.{◌≡◌, ℕ, zero, suc, ◌+◌, ◌<◌, ◌≤◌, List, [], ◌∷◌, take, drop, length, reverse, Option, None, Some, refl, sym}
use Rattle.std.proofs.Common.{ap, ◌∙◌, subst, arith}
use Rattle.std.specs.List.{slice_get}
use Rattle.std.specs.Option.{option_and_then}
use Rattle.cnf_base.specs.Formula.{Formula}
use Rattle.lrat_rules.specs.State.{Live}
use Rattle.node_table.specs.Diagram.{Graph}
use Rattle.reconstruction.specs.Copies.{AreCopies}
use Rattle.reconstruction.specs.Stack.{Stack, empty_stack}
use Rattle.schedule_plan.specs.declared.plan.Move.{Move}
use Rattle.schedule_plan.specs.SetMove.{in_order, move_in_order}
use Rattle.schedule_plan.specs.Plan.{Stage, after_move, after_moves, no_stage}
use Rattle.bdd_terms.specs.declared.held.HeldTerm.{HeldTerm}
use Rattle.term_runner.specs.Held.{AreHeld, IsAt}
use Rattle.term_runner.proofs.Trails.{trail_first}

-- The moves up to here lead to the stage, those from this one on lead where the whole plan does, and the stack and the
-- trail are the stage's.
pub record IsBetween (formula : Formula) (moves : List Move) (i : ℕ) (graph : Graph) (live : Live) (stack : List HeldTerm)
    (trail : Stack) : Type 0 where
  pub stage : Stage
  pub front : after_moves formula no_stage (take i moves) ≡ Some stage
  pub rest : after_moves formula stage (drop i moves) ≡ after_moves formula no_stage moves
  pub at : IsAt formula graph live stack trail stage

pub at_first : (formula : Formula) (graph : Graph) (live : Live) (stack : List HeldTerm) (trail : Stack)
    → stack ≡ [] → trail ≡ empty_stack → AreCopies graph [] [] → IsAt formula graph live stack trail no_stage
at_first formula graph live stack trail empty bare none = record {
  held = subst (λ (s : List HeldTerm). AreHeld formula graph live (reverse s) []) (sym empty) tt;
  kept = trail_first formula graph trail bare none;
}

pub move_at : (moves : List Move) (i : ℕ) (step : Move) → slice_get moves i ≡ Some step → drop i moves ≡ step ∷ drop (i + 1) moves
move_at [] zero step at = cc
move_at [] (suc i) step at = cc
move_at (move ∷ moves) zero step at = ap (λ m. m ∷ moves) (inside move step at)
  where
    inside : (x y : Move) → Some x ≡ Some y → x ≡ y
    inside x y e = cc
move_at (move ∷ moves) (suc i) step at = move_at moves i step at ∙ (λ k. step ∷ drop (shift k) (move ∷ moves))
  where
    shift : suc (i + 1) ≡ suc i + 1
    shift = omega arith

-- the move in order, at its place
pub step_at : (order : List ℕ) (moves : List Move) (i : ℕ) (step : Move) → slice_get moves i ≡ Some step
    → slice_get (in_order order moves) i ≡ Some (move_in_order order step)
step_at order [] zero step at = cc
step_at order [] (suc i) step at = cc
step_at order (move ∷ moves) zero step at = ap (λ (m : Move). Some (move_in_order order m)) (inside move step at)
  where
    inside : (x y : Move) → Some x ≡ Some y → x ≡ y
    inside x y e = cc
step_at order (move ∷ moves) (suc i) step at = step_at order moves i step at

pub leads_here : (formula : Formula) (one other : List ℕ) (stage next : Stage) (step : Move) → one ≡ other
    → after_move formula stage (move_in_order one step) ≡ Some next → after_move formula stage (move_in_order other step) ≡ Some next
leads_here formula one other stage next step same leads =
    subst (λ (order : List ℕ). after_move formula stage (move_in_order order step) ≡ Some next) same leads

pub some_at : (moves : List Move) (i : ℕ) → i < length moves → slice_get moves i ≡ None → ⊥
some_at [] i small none = omega (arith, small)
some_at (move ∷ moves) zero small none = let e : Some move ≡ None = none in cc
some_at (move ∷ moves) (suc i) small none = some_at moves i (omega (arith, small)) none

-- the next move is possible
pub record IsNext (formula : Formula) (moves : List Move) (i : ℕ) (stage : Stage) (step : Move) (last : Stage) : Type 0 where
  pub next : Stage
  pub is : after_move formula stage step ≡ Some next
  pub rest : after_moves formula next (drop (i + 1) moves) ≡ Some last

next_of : (formula : Formula) (moves : List Move) (i : ℕ) (stage last : Stage) (step : Move) → slice_get moves i ≡ Some step
    → after_moves formula stage (drop i moves) ≡ Some last → IsNext formula moves i stage step last
next_of formula moves i stage last step at reached =
    go (after_move formula stage step) refl (subst (λ (ms : List Move). after_moves formula stage ms
    ≡ Some last) (move_at moves i step at) reached)
  where
    go : (o : Option Stage) → after_move formula stage step ≡ o → option_and_then
        (λ later. after_moves formula later (drop (i + 1) moves)) o ≡ Some last → IsNext formula moves i stage step last
    go None is e = cc
    go (Some next) is e = record { next = next; is = is; rest = e }

-- so it is where the plan is possible
pub next_at : (formula : Formula) (moves : List Move) (i : ℕ) (graph : Graph) (live : Live) (stack : List HeldTerm)
    (trail : Stack) (last : Stage) (step : Move) → after_moves formula no_stage moves ≡ Some last → slice_get moves i ≡ Some step
    → (between : IsBetween formula moves i graph live stack trail) → IsNext formula moves i between.stage step last
next_at formula moves i graph live stack trail last step reached at between = next_of formula moves i between.stage last step at
    (between.rest ∙ reached)

drop_all : (moves : List Move) (i : ℕ) → length moves ≤ i → drop i moves ≡ []
drop_all [] zero large = refl
drop_all [] (suc i) large = refl
drop_all (move ∷ moves) zero large = absurd (omega (arith, large))
drop_all (move ∷ moves) (suc i) large = drop_all moves i (omega (arith, large))

-- at the end the stage is the plan's last
pub at_last : (formula : Formula) (moves : List Move) (i : ℕ) (graph : Graph) (live : Live) (stack : List HeldTerm)
    (trail : Stack) (last : Stage) → length moves ≤ i → after_moves formula no_stage moves ≡ Some last
    → IsBetween formula moves i graph live stack trail → IsAt formula graph live stack trail last
at_last formula moves i graph live stack trail last large reached between =
    subst (IsAt formula graph live stack trail)
    (inside between.stage last ((λ k. after_moves formula between.stage (sym (drop_all moves i large) k)) ∙ between.rest
    ∙ reached)) between.at
  where
    inside : (s t : Stage) → Some s ≡ Some t → s ≡ t
    inside s t e = cc
