-- The nodes that two operands reach, by their parts.
use Rattle.std.proofs.Common.{◌≡◌, ℕ, ◌*◌, ◌≤◌, Bool, true, List, length, refl, subst, arith}
use Rattle.std.proofs.Math.Nat.{mul-le-mul_left, mul-le-mul_right}
use Rattle.node_table.specs.declared.node.Node.{Node}
use Rattle.node_table.specs.Diagram.{IsReduced, is_node}
use Rattle.node_table.specs.Laws.{Canonical, Subfunctions}
use Rattle.node_table.specs.Table.{TableState, AddsAtMost}
use Rattle.node_table.specs.Value.{Levels, value_of}
use Rattle.operations.specs.Price.{HoldsReached}
use Rattle.bdd_terms.specs.declared.caches.Caches.{Caches}
use Rattle.bdd_terms.specs.Caches.{HaveRoom, HaveSize}
use Rattle.bdd_terms.specs.Parts.{HasAtMost}
use Rattle.bdd_terms.proofs.ReachedList.{reached_few}

-- a function with the same values has as many parts
pub at_most_same : (one other : Levels → Bool) → ((a : Levels) → one a ≡ other a) → (number : ℕ) → HasAtMost one number
    → HasAtMost other number
at_most_same one other same number few = subst (λ (function : Levels → Bool). HasAtMost function number) (λ i a. same a i) few

few_pairs : (us vs width : ℕ) → us ≤ width → vs ≤ width → us * vs ≤ width * width
few_pairs us vs width few_us few_vs =
    let first : us * vs ≤ width * vs = mul-le-mul_right vs few_us in
    let second : width * vs ≤ width * width = mul-le-mul_left width few_vs in
    omega (arith, first, second)

-- a call of two nodes, each with few parts
pub adds_pairs : {S : Type 0} → Subfunctions → Canonical → (old new : TableState S) → IsReduced old.graph → (u v : Node)
    → is_node old.graph u ≡ true → is_node old.graph v ≡ true → (caches : Caches) (width : ℕ)
    → HaveRoom caches width → HasAtMost (λ a. value_of old.graph a u) width → HasAtMost (λ a. value_of old.graph a v) width
    → ((size : ℕ) (us vs : List Node) → HaveSize caches size → HoldsReached old.graph u us → HoldsReached old.graph v vs → length us
    * length vs ≤ size → AddsAtMost (2 * (length us * length vs)) old new)
    → AddsAtMost (2 * (width * width)) old new
adds_pairs law canonical old new reduced u v is_u is_v caches width room few_u few_v price =
    let us = reached_few law canonical old.graph reduced u is_u (λ a. value_of old.graph a u) (λ a. refl) width few_u in
    let vs = reached_few law canonical old.graph reduced v is_v (λ a. value_of old.graph a v) (λ a. refl) width few_v in
    let pairs = few_pairs (length us.0) (length vs.0) width us.2 vs.2 in
    let own = price room.size us.0 vs.0 room.have us.1 vs.1 (omega (arith, pairs, room.room)) in
    omega (arith, own, pairs)
