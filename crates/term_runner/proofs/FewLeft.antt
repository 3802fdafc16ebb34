-- A reclamation that keeps no term of the trail leaves no more nodes than there are parts in hand at the move before it, or behind it.
use Rattle.std.proofs.Common.{◌≡◌, ◌≤◌, ◌<◌, ◌⊎◌, ◌-◌, ◌++◌, ℕ, Bool, true, false, zero, suc, List, [], ◌∷◌, take, length, Some, Contains}
use Rattle.std.proofs.Common.{is_some, refl, sym, ap, ◌∙◌, subst, arith, inl, inr}
use Rattle.std.proofs.lemmas.Bool.{cases_lt}
use Rattle.std.proofs.lemmas.List.{length-append}
use Rattle.cnf_base.specs.Formula.{Formula}
use Rattle.node_table.specs.declared.node.Branch.{Branch}
use Rattle.node_table.specs.Diagram.{IsOrder, branch_at}
use Rattle.node_table.specs.Laws.{Canonical, Subfunctions}
use Rattle.node_table.specs.Value.{IsSubfunction, Levels}
use Rattle.schedule_plan.specs.declared.plan.Move.{Move}
use Rattle.schedule_plan.specs.declared.plan.Move.TheVariants.{Push, And, Exists, ExistsAll}
use Rattle.schedule_plan.specs.Plan.{Stage, Term, after_move}
use Rattle.term_runner.specs.Tidy.{WereLeft}
use Rattle.term_runner.specs.Nodes.{IsGivenPart}
use Rattle.term_runner.specs.Width.{HoldsAtMost, IsInHand, IsPartInHand}
use Rattle.bdd_terms.specs.Parts.{part_at, term_function}
use Rattle.term_runner.proofs.InHand.{left_part}
use Rattle.bdd_terms.proofs.Listed.{differ_at, essential_at, function_at, functions_of, key_at, length-functions, listed, some_of}
use Rattle.term_runner.proofs.SetStages.{after_set, none_quantified}
use Rattle.term_runner.proofs.Taking.{and_of, exists_of, push_of}
use Rattle.std.specs.FinMap as finmap

module _ (law : Subfunctions) (canonical : Canonical) (formula : Formula) (order : List ℕ) (ordered : IsOrder order)
    (first last stage : Stage) (in_hand : (term : Term) → Contains stage.stack term → IsInHand false first last term)
    (left : ℕ) (were : WereLeft false formula order stage left) where
  abbrev es : List (ℕ × Branch)
  es = finmap.entries were.graph.nodes

  stands : (place : ℕ) → place < length es → is_some (branch_at were.graph (key_at es place)) ≡ true
  stands place small = finmap.contains_key-keys were.graph.nodes (key_at es place) ∙ listed es place small

  part : (place : ℕ) → place < length es → IsPartInHand false formula order first last (part_at (functions_of were.graph es) place)
  part place small =
      let found = some_of (branch_at were.graph (key_at es place)) (stands place small) in
      subst (IsPartInHand false formula order first last) (sym (function_at were.graph es place small))
      (inl (left_part false formula order ordered stage left were law false first last in_hand (key_at es place) found.0 found.1))

  pub few_left : (width : ℕ) → HoldsAtMost formula order first last width → left ≤ width
  few_left width most = elim (cases_lt width left) [
    | inr few ↦ few
    | inl many ↦
        let all = length-functions were.graph es in
        let count = finmap.len-entries were.graph.nodes in
        let within : (place : ℕ) → place < length (functions_of were.graph es) → place
        < length es = λ place small. omega (arith, small, all) in
        absurd (most (record {
          parts = functions_of were.graph es;
          more = omega (arith, many, all, count, were.count);
          are = λ place small. part place (within place small);
          essential = λ place small. essential_at canonical were.graph were.reduced es (finmap.entries_sorted were.graph.nodes) stands place
              (within place small);
          differ = λ place other less small. differ_at canonical were.graph were.reduced es
              (finmap.entries_sorted were.graph.nodes) stands place other less (within other small);
        }))
  ]

-- what is behind the first
behind : {X : Type 0} (x : X) (xs : List X) (y : X) → Contains xs y → Contains (x ∷ xs) y
behind x xs y there = (suc there.0, omega (arith, there.1), there.2)

-- the first, or one behind it
pub first_or : {X : Type 0} (x : X) (xs : List X) (y : X) → Contains (x ∷ xs) y → (x ≡ y) ⊎ Contains xs y
first_or x xs y (zero, small, at) = inl at
first_or x xs y (suc k, small, at) = inr (k, omega (arith, small), at)

-- the second of a list
pub in_front : (first second : Term) (rest : List Term) → Contains (first ∷ second ∷ rest) second
in_front first second rest = (1, omega arith, refl)

-- a move's result
pub result_given : (after : Stage) (top : Term) (rest : List Term) → after.stack ≡ top ∷ rest → Contains (take 1 after.stack) top
result_given after top rest same = subst (λ (s : List Term). Contains (take 1 s) top) (sym same) (zero, omega arith, refl)

pub result_part : (formula : Formula) (order : List ℕ) (before after : Stage) (top : Term) (rest : List Term) → after.stack ≡ top ∷ rest
    → (part : Levels → Bool) → IsSubfunction (term_function formula order top) part → IsGivenPart formula order before after part
result_part formula order before after top rest same part is =
    inl (record { term = top; is_result = result_given after top rest same; is_part = is })

take_front : (xs ys : List (ℕ × Term)) → take (length xs) (xs ++ ys) ≡ xs
take_front [] ys = refl
take_front (x ∷ xs) ys = ap (λ (l : List (ℕ × Term)). x ∷ l) (take_front xs ys)

-- what a move puts on the trail
pub fresh_given : (before after : Stage) (fresh : List (ℕ × Term)) (kept : ℕ × Term) → after.trail ≡ fresh ++ before.trail
    → Contains fresh kept → Contains (take (length after.trail - length before.trail) after.trail) kept
fresh_given before after fresh kept same there =
    let count : length (fresh ++ before.trail) - length before.trail ≡ length fresh = omega (arith, length-append fresh before.trail) in
    let front : take (length after.trail - length before.trail) after.trail ≡ fresh =
    (λ k. take (length (same k) - length before.trail) (same k))
    ∙ ap (λ (n : ℕ). take n (fresh ++ before.trail)) count ∙ take_front fresh before.trail in
    subst (λ (l : List (ℕ × Term)). Contains l kept) (sym front) there

-- a term that is stacked behind a move is in hand at it
pub in_hand_behind : (formula : Formula) (before after : Stage) (step : Move) → after_move formula before step ≡ Some after → (term : Term)
    → Contains after.stack term → IsInHand false before after term
in_hand_behind formula before after (Push i) leads term there =
    let push = push_of formula before after (Push i) i refl leads in
    elim (first_or _ before.stack term (subst (λ (s : List Term). Contains s term) push.stack there)) [
      | inl is ↦ inr (subst (Contains (take 1 after.stack)) is (result_given after _ before.stack push.stack))
      | inr was ↦ inl was
    ]
in_hand_behind formula before after And leads term there =
    let conjoined = and_of formula before after And refl leads in
    elim (first_or _ conjoined.rest term (subst (λ (s : List Term). Contains s term) conjoined.after there)) [
      | inl is ↦ inr (subst (Contains (take 1 after.stack)) is (result_given after _ conjoined.rest conjoined.after))
      | inr was ↦ inl (subst (λ (s : List Term). Contains s term) (sym conjoined.before)
          (behind conjoined.other (conjoined.one ∷ conjoined.rest) term (behind conjoined.one conjoined.rest term was)))
    ]
in_hand_behind formula before after (Exists x) leads term there =
    let quantified = exists_of formula before after (Exists x) x refl leads in
    let stack = ap (λ (s : Stage). s.stack) quantified.after in
    elim (first_or _ quantified.rest term (subst (λ (s : List Term). Contains s term) stack there)) [
      | inl is ↦ inr (subst (Contains (take 1 after.stack)) is (result_given after _ quantified.rest stack))
      | inr was ↦ inl (subst (λ (s : List Term). Contains s term) (sym quantified.stacked) (behind quantified.top quantified.rest term was))
    ]
in_hand_behind formula before after (ExistsAll xs) leads term there = by_stack before.stack refl
  where
    by_stack : (stack : List Term) → before.stack ≡ stack → IsInHand false before after term
    by_stack [] bare =
        let same = none_quantified formula before after xs bare leads in
        inl (subst (λ (s : Stage). Contains s.stack term) (sym same) there)
    by_stack (top ∷ rest) stacked =
        let set = after_set formula before after xs top rest stacked leads in
        elim (first_or _ rest term (subst (λ (s : List Term). Contains s term) set.stack there)) [
          | inl is ↦ inr (subst (Contains (take 1 after.stack)) is (result_given after _ rest set.stack))
          | inr was ↦ inl (subst (λ (s : List Term). Contains s term) (sym stacked) (behind top rest term was))
        ]
