-- A call's price, by half of it for each try.
use Rattle.std.proofs.Common.{◌≡◌, ℕ, zero, suc, ◌+◌, ◌*◌, ◌^◌, ◌≤◌, Bool, Option, None, Some, refl, subst, arith, inl, inr}
use Rattle.std.proofs.Math.Nat.{add-mul, mul-add, mul-one, one-mul, two-pow-succ}
use Rattle.node_table.specs.declared.error.TableError.{TableError}
use Rattle.node_table.specs.declared.error.TableError.TheVariants.{NodeLimit, IdLimit, OutOfMemory, WriteFault}
use Rattle.node_table.specs.declared.node.Branch.{Branch}
use Rattle.node_table.specs.Diagram.{IsReduced, KeepsNodes, branch_at, levels}
use Rattle.node_table.specs.Laws.{Canonical, Growth}
use Rattle.node_table.specs.Made.{inner}
use Rattle.node_table.specs.Progress.{Leaves}
use Rattle.node_table.specs.Table.{TableState, AddsAtMost, live_nodes}
use Rattle.node_table.specs.Value.{Levels, value_of}
use Rattle.operations.specs.Budget.{most_additions}
use Rattle.bdd_terms.specs.Price.{IsMovePrice}
use Rattle.bdd_terms.specs.Parts.{AreMore}
use Rattle.bdd_terms.proofs.NewNodes.{few_made}

-- two for each pair of nodes, over all levels
most_is : (n : ℕ) → most_additions n + 2 ≡ 2 ^ n + 2 ^ n
most_is zero = refl
most_is (suc n) = omega (arith, most_is n, two-pow-succ n)

square : (n : ℕ) → (n + 1) * (n + 1) ≡ n * n + n + n + 1
square n = omega (arith, add-mul n 1 (n + 1), mul-add n n 1, mul-one n, one-mul (n + 1))

-- a try takes no more than half of a move's price
pub half_price : (vars size width price : ℕ) → IsMovePrice vars size width price → (first last : ℕ) → last ≤ first
    + (4 * width + (most_additions vars + 1))
    → (width * width ≤ size → last ≤ first + (4 * width + (2 * (width * width) + 1))) → 2 * last ≤ 2 * first + price
half_price vars size width price is first last any room = elim is [
  | inl by_variables ↦ omega (arith, any, by_variables, most_is vars)
  | inr by_width ↦ let own = room by_width.0 in omega (arith, own, by_width.1, square width)
]

-- where it makes no node, it leaves eight of these numbers for each part
pub spare_price : (vars size width price : ℕ) → IsMovePrice vars size width price → (first last : ℕ) → last ≤ first + (most_additions vars + 1)
    → (width * width ≤ size → last ≤ first + (2 * (width * width) + 1)) → last + 8 * width ≤ first + price
spare_price vars size width price is first last any room = elim is [
  | inl by_variables ↦ omega (arith, any, by_variables, most_is vars)
  | inr by_width ↦ let own = room by_width.0 in omega (arith, own, by_width.1, square width)
]

-- however a call ends, the nodes are reduced
reduced_left : {S : Type 0} (old new : TableState S) (error : Option TableError)
    → Leaves old new error → IsReduced new.graph
reduced_left old new None leaves = leaves.sound.tied.reduced
reduced_left old new (Some NodeLimit) leaves = leaves.0.sound.tied.reduced
reduced_left old new (Some IdLimit) leaves = leaves.0.sound.tied.reduced
reduced_left old new (Some OutOfMemory) leaves = leaves.sound.tied.reduced
reduced_left old new (Some WriteFault) leaves = leaves.reduced

-- One try, however it ends, that makes parts of some kind.
module _ {S : Type 0} (growth : Growth) (canonical : Canonical) (old new : TableState S) (error : Option TableError)
    (leaves : Leaves old new error) (keeps : KeepsNodes old.graph new.graph) (is_part : (Levels → Bool) → Type 0)
    (made : (key : ℕ) (branch : Branch) → branch_at new.graph key ≡ Some branch → branch_at old.graph key ≡ None
    → is_part (λ a. value_of new.graph a (inner key))) (width : ℕ) (most : AreMore is_part width → ⊥) where
  pub few_tried : live_nodes new.graph ≤ live_nodes old.graph + width
  few_tried = few_made old.graph new.graph keeps canonical (reduced_left old new error leaves) is_part made width most

  pub price_tried : (vars size price : ℕ) → levels old.graph ≡ vars → IsMovePrice vars size width price
      → AddsAtMost (most_additions (levels old.graph) + 1) old new
      → (width * width ≤ size → AddsAtMost (2 * (width * width) + 1) old new) → 2 * new.book.state.top ≤ 2 * old.book.state.top + price
  price_tried vars size price same is adds pairs =
      let four = growth.definitions old.graph new.graph keeps in
      half_price vars size width price is old.book.state.top new.book.state.top
      (subst (λ (n : ℕ). new.book.state.top ≤ old.book.state.top
      + (4 * width + (most_additions n + 1))) same (omega (arith, adds, few_tried, four)))
      (λ room. let own = pairs room in omega (arith, own, few_tried, four))
