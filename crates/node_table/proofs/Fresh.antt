-- A variable that is no node's is in no live clause, and a node more is one more.
use Rattle.std.proofs.Common.{◌≡◌, ℕ, ◌+◌, ◌<◌, ◌≤◌, true, ℤ, pos, Option, Some, is_some, cond, refl, sym, ap, ◌∙◌, subst, arith, ne_eqb}
use Rattle.std.specs.Prelude.{◌≢◌, nat_abs, not}
use Rattle.std.specs.FinMap as map
use Rattle.std.proofs.lemmas.Cmp.{nat_cmp_total}
use Rattle.lrat_rules.specs.State.{State}
use Rattle.hint_chain.specs.declared.atom.Atom.{Atom}
use Rattle.node_table.specs.declared.node.Node.{Node}
use Rattle.node_table.specs.declared.node.Node.TheVariants.{False, True, Inner}
use Rattle.node_table.specs.declared.node.Branch.{Branch}
use Rattle.node_table.specs.Diagram.{Graph, IsNew, KeepsNodes, branch_at, is_node, levels}
use Rattle.node_table.specs.Defined.{IsNewVariable, IsUnused, atom_of, atom_in, is_apart_from}
use Rattle.node_table.specs.Tied.{IsTied}
use Rattle.node_table.specs.Table.{live_nodes}
use Rattle.node_table.proofs.Values.{branch_of_node}
use Rattle.node_table.proofs.Grown.{KeepsNodes-joined}

-- the variable is no node's
abbrev pub IsNobodys : Graph → ℕ → Type 0
IsNobodys graph next = (key : ℕ) (branch : Branch) → branch_at graph key ≡ Some branch → branch.variable ≢ next

pub unused : (graph : Graph) (state : State) → IsTied graph state → (next : ℕ) → levels graph < next → IsNobodys graph next
    → IsUnused state.live next
unused graph state tied next above all id clause at literal among same =
    let owned = tied.over_nodes id clause at literal among (omega (arith, above, same)) in
    all owned.key owned.branch owned.stands (owned.own ∙ same)

apart_atom : (graph : Graph) (next : ℕ) → IsNobodys graph next → (node : Node) → is_node graph node ≡ true
    → is_apart_from next (atom_of graph node) ≡ true
apart_atom graph next all False is = refl
apart_atom graph next all True is = refl
apart_atom graph next all (Inner key) is =
    let branch = branch_of_node graph key is in
    ap (λ o. is_apart_from next (atom_in o)) branch.1
    ∙ ap not (ne_eqb branch.0.variable next (all key.index branch.0 branch.1))

pub new_variable : (graph : Graph) (state : State) → IsTied graph state → (next x : ℕ) → levels graph < next → IsNobodys graph next → x
    ≤ levels graph → (high low : Node)
    → is_node graph high ≡ true → is_node graph low ≡ true → (u y : ℤ) (high_atom low_atom : Atom) → u ≡ pos next → y ≡ pos x → high_atom
    ≡ atom_of graph high → low_atom ≡ atom_of graph low
    → IsNewVariable state.live u y high_atom low_atom
new_variable graph state tied next x above all small high low high_stands low_stands u y high_atom low_atom u_is y_is high_is low_is =
    let size : nat_abs u ≡ next = ap nat_abs u_is in
    record {
      positive = (omega (arith, size, above), u_is ∙ ap pos (sym size));
      unused = subst (IsUnused state.live) (sym size) (unused graph state tied next above all);
      apart = λ same. omega (arith, same, size, ap nat_abs y_is, small, above);
      high_apart = (λ i. is_apart_from (size i) (high_is i)) ∙ apart_atom graph next all high high_stands;
      low_apart = (λ i. is_apart_from (size i) (low_is i)) ∙ apart_atom graph next all low low_stands;
    }

-- one node more
pub live_more : (old new : Graph) (key : ℕ) {branch : Branch} → IsNew old new key branch → live_nodes new ≡ live_nodes old + 1
live_more old new key {branch} is =
    ap live_nodes is.joined ∙ map.len-insert nat_cmp_total old.nodes key branch
    ∙ ap (λ (o : Option Branch). cond (is_some o) (map.len old.nodes) (map.len old.nodes + 1)) is.unused

pub KeepsNodes-new : (old new : Graph) (key : ℕ) {branch : Branch} → IsNew old new key branch → KeepsNodes old new
KeepsNodes-new old new key {branch} is = subst (KeepsNodes old) (sym is.joined) (KeepsNodes-joined old key branch is.unused)
