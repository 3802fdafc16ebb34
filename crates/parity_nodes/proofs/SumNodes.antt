-- The node of a sum over the nodes of both sums of the later levels: its value, its place, and the nodes that are made or wanted for it.
use Rattle.std.proofs.Common.{◌≡◌, ◌⊎◌, ◌∙◌, ◌<◌, ℕ, Bool, true, false, not, List, [], ◌∷◌, length, Result, Ok, Err, Some, refl, sym, ap, subst, arith, inl, inr}
use Rattle.std.specs.Prelude.{IfOk, if◌then◌else◌}
use Rattle.std.specs.Bool.{beq}
use Rattle.node_table.specs.declared.node.Node.{Node}
use Rattle.node_table.specs.declared.node.Node.TheVariants.{False, True}
use Rattle.node_table.specs.declared.node.Branch.{Branch}
use Rattle.node_table.specs.Diagram.{Graph, IsBelow, IsReduced, KeepsNodes, branch_at, levels, low_at}
use Rattle.node_table.specs.Laws.{Cofactors, Growth, Missing, Subfunctions}
use Rattle.node_table.specs.Made.{LacksPart, MakesOnly, inner}
use Rattle.node_table.specs.Table.{HasChildren, IsWanted}
use Rattle.node_table.specs.Value.{IsSubfunction, Levels, value_of}
use Rattle.parity_nodes.specs.declared.sums.Sums.{Sums}
use Rattle.parity_nodes.specs.Sums.{AreSums, IsSum, exclusive_or, odd_over, sum_is}

-- what a variable that is chosen adds
pub chosen_sum : (t o bit : Bool) → (if t then beq o (not bit) else beq o bit) ≡ beq (exclusive_or t o) bit
chosen_sum false false false = refl
chosen_sum false false true = refl
chosen_sum false true false = refl
chosen_sum false true true = refl
chosen_sum true false false = refl
chosen_sum true false true = refl
chosen_sum true true false = refl
chosen_sum true true true = refl

-- the sum of no variables, as a constant
pub sum_of_none : (graph : Graph) (bit : Bool) → IsSum graph [] bit (if not bit then True else False)
sum_of_none graph false = record { stands = refl; value = λ a. refl; below = λ level small before. record { stands = refl; below = small } }
sum_of_none graph true = record { stands = refl; value = λ a. refl; below = λ level small before. record { stands = refl; below = small } }

pub sums_of_none : (graph : Graph) → AreSums graph [] (record { odd = False; even = True })
sums_of_none graph = record { odd = sum_of_none graph true; even = sum_of_none graph false }

-- as the graph grows
pub sum_kept : Growth → (old new : Graph) → IsReduced old → KeepsNodes old new → (set : List ℕ) (bit : Bool) (node : Node)
    → IsSum old set bit node → IsSum new set bit node
sum_kept growth old new reduced keeps set bit node is = record {
  stands = growth.stands old new keeps node is.stands;
  value = λ a. growth.value old new reduced keeps a node is.stands ∙ is.value a;
  below = λ level small before.
      let own = is.below level (omega (arith, small, ap (λ (g : List ℕ). length g) keeps.order)) before in
      record {
        stands = growth.stands old new keeps node is.stands;
        below = omega (arith, own.below, growth.level old new keeps node is.stands);
      };
}

module _ (cofactors : Cofactors) (growth : Growth) (old new : Graph) (reduced : IsReduced old) (more_reduced : IsReduced new)
    (keeps : KeepsNodes old new) (level : ℕ) (more : List ℕ) (bit : Bool) (high low : Node) (is_high : IsSum old more (not bit) high)
    (is_low : IsSum old more bit low) where
  pub sum_value : (node : Node) → HasChildren new level high low node → (a : Levels) → value_of new a node ≡ sum_is bit (level ∷ more) a
  sum_value node has a =
      cofactors.value new more_reduced a level node has.stands
      ∙ ap (λ n. if a level then value_of new a n else value_of new a (low_at new level node)) has.high_child
      ∙ ap (λ n. if a level then value_of new a high else value_of new a n) has.low_child
      ∙ ap (λ b. if a level then b else value_of new a low)
      (growth.value old new reduced keeps a high is_high.stands ∙ is_high.value a)
      ∙ ap (λ b. if a level then beq (odd_over more a) (not bit) else b)
      (growth.value old new reduced keeps a low is_low.stands ∙ is_low.value a)
      ∙ chosen_sum (a level) (odd_over more a) bit

  pub sum_from : (node : Node) → HasChildren new level high low node → IsSum new (level ∷ more) bit node
  sum_from node has = record {
    stands = has.stands;
    value = sum_value node has;
    below = λ before small less. record { stands = has.stands; below = omega (arith, less, has.not_above) };
  }

  pub sum_made : Subfunctions → (f : Levels → Bool) → IsSubfunction f (sum_is bit (level ∷ more))
      → ((key : ℕ) (branch : Branch) → branch_at new key ≡ Some branch → (branch_at old key ≡ Some branch)
      ⊎ HasChildren new level high low (inner key)) → MakesOnly old new f
  sum_made parts f part only = record {
    each = λ key branch is. elim (only key branch is) [
      | inl there ↦ inl there
      | inr has ↦ inr (subst (IsSubfunction f) (λ i a. sym (sum_value (inner key) has a) i) part)
    ];
  }

pub sum_lacks : Missing → (graph : Graph) → IsReduced graph → (level : ℕ) (more : List ℕ) (bit : Bool) (high low : Node)
    → level < levels graph → IsBelow graph level high → IsBelow graph level low → IsSum graph more (not bit) high → IsSum graph more bit low
    → (f : Levels → Bool) → IsSubfunction f (sum_is bit (level ∷ more)) → IsWanted graph level high low → LacksPart graph f
sum_lacks missing graph reduced level more bit high low small is_below_high is_below_low is_high is_low f part wanted = record {
  part = sum_is bit (level ∷ more);
  is_part = part;
  nowhere = λ node is equal. missing graph reduced level high low small is_below_high is_below_low wanted node is
      (λ a. equal a ∙ sym (ap (λ b. if a level then b else value_of graph a low) (is_high.value a)
      ∙ ap (λ b. if a level then beq (odd_over more a) (not bit) else b) (is_low.value a)
      ∙ chosen_sum (a level) (odd_over more a) bit));
}

-- what is said of an answer
pub if_ok : {T E : Type 0} (r : Result T E) (P Q : T → Type 0) → ((x : T) → P x → Q x) → IfOk r P → IfOk r Q
if_ok (Ok x) P Q each is = each x is
if_ok (Err e) P Q each is = tt

-- a node stays below a level
pub below_kept : Growth → (old new : Graph) → KeepsNodes old new → (level : ℕ) (node : Node) → IsBelow old level node
    → IsBelow new level node
below_kept growth old new keeps level node is = record {
  stands = growth.stands old new keeps node is.stands;
  below = omega (arith, is.below, growth.level old new keeps node is.stands);
}

-- the children of a sum's node
pub chosen_high : (graph : Graph) (set : List ℕ) (sums : Sums) → AreSums graph set sums → (bit : Bool) (n : Node)
    → n ≡ (if bit then sums.even else sums.odd) → IsSum graph set (not bit) n
chosen_high graph set sums are true n is = subst (IsSum graph set false) (sym is) are.even
chosen_high graph set sums are false n is = subst (IsSum graph set true) (sym is) are.odd

pub chosen_low : (graph : Graph) (set : List ℕ) (sums : Sums) → AreSums graph set sums → (bit : Bool) (n : Node)
    → n ≡ (if bit then sums.odd else sums.even) → IsSum graph set bit n
chosen_low graph set sums are true n is = subst (IsSum graph set true) (sym is) are.odd
chosen_low graph set sums are false n is = subst (IsSum graph set false) (sym is) are.even
