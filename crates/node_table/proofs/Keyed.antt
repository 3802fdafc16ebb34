-- Stored nodes as a graph: each under its key.
use Rattle.std.proofs.Common.{◌≡◌, ◌≢◌, ℕ, zero, suc, ◌+◌, ◌<◌, List, [], ◌∷◌, get_or, Option, None, Some, is_some, nat_cmp, cond, refl}
use Rattle.std.proofs.Common.{sym, ap, ◌∙◌, arith, inl, inr, eq-eqb, ne_eqb}
use Rattle.std.specs.Prelude.{◌==◌, count_by}
use Rattle.std.specs.Option.{option_map}
use Rattle.std.specs.Cmp.{unsigned_tied}
use Rattle.std.specs.FinMap as map
use Rattle.std.proofs.lemmas.Bool.{cases_eq}
use Rattle.std.proofs.lemmas.Cmp.{nat_cmp_total}
use Rattle.std.proofs.lemmas.List.Sums.{sum_by-cons}
use Rattle.node_table.specs.declared.node.Branch.{Branch}
use Rattle.node_table.specs.declared.stored.StoredNode.{StoredNode}
use Rattle.node_table.specs.Diagram.{Graph, branch_at, with_branch}
use Rattle.node_table.specs.Stored.{branch_in, keyed_from, graph_of}

found_first : (first : ℕ) (node : StoredNode) (slots : List (Option StoredNode)) (key : ℕ) → key ≡ first
    → map.find nat_cmp key (keyed_from first (Some node ∷ slots)) ≡ Some (branch_in node)
found_first first node slots key e = rw (unsigned_tied key first, eq-eqb key first e)

found_later : (first : ℕ) (node : StoredNode) (slots : List (Option StoredNode)) (key : ℕ) → (key ≡ first → ⊥)
    → map.find nat_cmp key (keyed_from first (Some node ∷ slots)) ≡ map.find nat_cmp key (keyed_from (first + 1) slots)
found_later first node slots key e = rw (unsigned_tied key first, ne_eqb key first e)

found_below : (first : ℕ) (slots : List (Option StoredNode)) (key : ℕ) → key < first → map.find nat_cmp key (keyed_from first slots) ≡ None
found_below first [] key h = refl
found_below first (None ∷ slots) key h = found_below (first + 1) slots key (omega arith)
found_below first (Some node ∷ slots) key h = found_later first node slots key (λ same. omega arith)
    ∙ found_below (first + 1) slots key (omega arith)

found_at : (first : ℕ) (slots : List (Option StoredNode)) (i key : ℕ) → key ≡ first + i
    → map.find nat_cmp key (keyed_from first slots) ≡ option_map branch_in (get_or slots i None)
found_at first [] i key e = refl
found_at first (None ∷ slots) zero key e = found_below (first + 1) slots key (omega arith)
found_at first (None ∷ slots) (suc i) key e = found_at (first + 1) slots i key (omega arith)
found_at first (Some node ∷ slots) zero key e = found_first first node slots key (omega arith)
found_at first (Some node ∷ slots) (suc i) key e = found_later first node slots key (λ same. omega arith)
    ∙ found_at (first + 1) slots i key (omega arith)

-- a node is looked up by its key
pub branch_at-graph_of : (order : List ℕ) (slots : List (Option StoredNode)) (key : ℕ) → branch_at (graph_of order slots) key
    ≡ option_map branch_in (get_or slots key None)
branch_at-graph_of order slots key = map.get-from_entries nat_cmp_total (keyed_from 0 slots) key ∙ found_at 0 slots key key (omega arith)

pub len-keyed : (first : ℕ) (slots : List (Option StoredNode)) → map.len (map.from_entries {R = nat_cmp} (keyed_from first slots))
    ≡ count_by is_some slots
len-keyed first [] = map.len-empty nat_cmp Branch
len-keyed first (None ∷ slots) =
    let count : count_by is_some (None ∷ slots) ≡ 0 + count_by is_some slots = sum_by-cons (λ slot. cond (is_some slot) 1 0) None slots in
    omega (arith, count, len-keyed (first + 1) slots)
len-keyed first (Some node ∷ slots) =
    let m = map.from_entries {R = nat_cmp} (keyed_from (first + 1) slots) in
    let branch = branch_in node in
    let new : map.get m first ≡ None = map.get-from_entries nat_cmp_total (keyed_from (first + 1) slots) first
    ∙ found_below (first + 1) slots first (omega arith) in
    let more : map.len (map.insert m first branch) ≡ map.len m + 1 = map.len-insert nat_cmp_total m first branch
    ∙ ap (λ (o : Option Branch). cond (is_some o) (map.len m) (map.len m + 1)) new in
    let count : count_by is_some (Some node ∷ slots) ≡ 1 + count_by is_some slots = sum_by-cons (λ slot. cond (is_some slot) 1 0)
    (Some node) slots in
    omega (arith, more, count, len-keyed (first + 1) slots)

-- what stands under a key once a node was put under one
pub branch_at-with_branch : (graph : Graph) (key other : ℕ) (branch : Branch) → branch_at (with_branch graph key branch) other
    ≡ cond (other == key) (Some branch) (branch_at graph other)
branch_at-with_branch graph key other branch = map.get-insert nat_cmp_total graph.nodes key branch other
    ∙ ap (λ b. cond b (Some branch) (branch_at graph other)) (unsigned_tied other key)

-- one node more: under its key stands the new node, under each other key what stood there
pub graph_of-joined : (order : List ℕ) (old new : List (Option StoredNode)) (key : ℕ) (node : StoredNode) → get_or new key None ≡ Some node
    → ((other : ℕ) → other ≢ key → get_or new other None ≡ get_or old other None) → graph_of order new
    ≡ with_branch (graph_of order old) key (branch_in node)
graph_of-joined order old new key node changed others =
    let branch = branch_in node in
    let grown = with_branch (graph_of order old) key branch in
    let same : (q : ℕ) → branch_at (graph_of order new) q ≡ branch_at grown q = λ q. elim (cases_eq q key) [
      | inl here ↦ ap (branch_at (graph_of order new)) here ∙ branch_at-graph_of order new key ∙ ap (option_map branch_in) changed
          ∙ sym (branch_at-with_branch (graph_of order old) key q branch
          ∙ ap (λ b. cond b (Some branch) (branch_at (graph_of order old) q)) (eq-eqb q key here))
      | inr differ ↦ branch_at-graph_of order new q ∙ ap (option_map branch_in) (others q differ) ∙ sym (branch_at-graph_of order old q)
          ∙ sym (branch_at-with_branch (graph_of order old) key q branch
          ∙ ap (λ b. cond b (Some branch) (branch_at (graph_of order old) q)) (ne_eqb q key differ))
    ] in
    let nodes : (graph_of order new).nodes ≡ grown.nodes = map.same_map nat_cmp_total map.nat_cmp-IsAntisymmetric
    (graph_of order new).nodes grown.nodes same in
    λ i. record { order = order; nodes = nodes i }
