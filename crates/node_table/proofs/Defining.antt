-- How many clauses define the nodes: a new node's are so many more, and no node has more than four.
use Rattle.std.proofs.Common.{◌≡◌, ◌∙◌, ℕ, ◌+◌, ◌*◌, ◌≤◌, List, [], ◌∷◌, length, None, Some, nat_cmp, cond, T, refl, sym, ap, arith, inl, inr}
use Rattle.std.proofs.Common.{Less, Equal, Greater}
use Rattle.std.specs.Ordering.{is_eq}
use Rattle.std.specs.Cmp.{unsigned_tied}
use Rattle.std.specs.FinMap as map
use Rattle.std.specs.FinMap.Entries.{below_all, by_order, find, is_sorted, put}
use Rattle.std.proofs.lemmas.Cmp.{nat_cmp_total}
use Rattle.std.proofs.lemmas.Bool.{cases_eq}
use Rattle.std.proofs.Common.{eq-eqb, ne_eqb}
use Rattle.node_table.specs.declared.node.Branch.{Branch}
use Rattle.node_table.specs.Diagram.{Graph, IsNew, KeepsNodes}
use Rattle.node_table.specs.Defined.{definition_count}
use Rattle.node_table.specs.Table.{clauses_among, defining_clauses, live_nodes}
use Rattle.node_table.proofs.InUse.{above, both_parts, found_here, found_there}
use Rattle.node_table.proofs.Made.{few_definitions}

-- an entry with a new key
among_put : (key : ℕ) (b : Branch) (es : List (ℕ × Branch)) → find nat_cmp key es ≡ None
    → clauses_among (put nat_cmp key b es) ≡ definition_count b.high b.low + clauses_among es
among_put key b [] none = refl
among_put key b (e ∷ es) none =
    elim (nat_cmp key e.0) as (λ r. cond (is_eq r) (Some e.1) (find nat_cmp key es) ≡ None
    → clauses_among (by_order r ((key, b) ∷ e ∷ es) ((e.0, b) ∷ es) (e ∷ put nat_cmp key b es))
    ≡ definition_count b.high b.low + (definition_count e.1.high e.1.low + clauses_among es)) [
      | Less ↦ λ _. refl
      | Equal ↦ λ there. absurd (let wrong : Some e.1 ≡ None = there in cc)
      | Greater ↦ λ behind. let rest = among_put key b es behind in omega (arith, rest)
    ] none

pub defining_new : (old new : Graph) (key : ℕ) {branch : Branch} → IsNew old new key branch
    → defining_clauses new ≡ defining_clauses old + definition_count branch.high branch.low
defining_new old new key {branch} is =
    let more : clauses_among (map.entries (map.insert old.nodes key branch)) ≡ definition_count branch.high branch.low + defining_clauses old =
    ap clauses_among (map.entries-insert nat_cmp_total old.nodes key branch)
    ∙ among_put key branch (map.entries old.nodes) (sym (map.get-entries old.nodes key) ∙ is.unused) in
    let same : defining_clauses new ≡ clauses_among (map.entries (map.insert old.nodes key branch)) = ap defining_clauses is.joined in
    omega (arith, same, more)

-- each entry has four at most
at_most_four : (es : List (ℕ × Branch)) → clauses_among es ≤ 4 * length es
at_most_four [] = omega arith
at_most_four (e ∷ es) = omega (arith, at_most_four es, few_definitions e.1.high e.1.low)

abbrev AreFoundIn : List (ℕ × Branch) → List (ℕ × Branch) → Type 0
AreFoundIn few more = (key : ℕ) (b : Branch) → find nat_cmp key few ≡ Some b → find nat_cmp key more ≡ Some b

-- what isn't found in front is found behind
found_behind : (key q : ℕ) (b c : Branch) (es : List (ℕ × Branch)) → (key ≡ q → ⊥) → find nat_cmp key ((q, c) ∷ es) ≡ Some b
    → find nat_cmp key es ≡ Some b
found_behind key q b c es differ is = sym (ap (λ t. cond t (Some c) (find nat_cmp key es)) (unsigned_tied key q ∙ ne_eqb key q differ)) ∙ is

-- of entries that are all found among others the others have at most four more for each that they have more
four_each : (few more : List (ℕ × Branch)) → T (is_sorted nat_cmp few) → T (is_sorted nat_cmp more) → AreFoundIn few more
    → clauses_among more + 4 * length few ≤ clauses_among few + 4 * length more
four_each [] more g h found = let all = at_most_four more in omega (arith, all)
four_each ((k, b) ∷ few) [] g h found = absurd (let wrong : None ≡ Some b = found k b (found_here k b few) in cc)
four_each ((k, b) ∷ few) ((q, c) ∷ more) g h found =
    let gs = both_parts (below_all nat_cmp k few) (is_sorted nat_cmp few) g in
    let hs = both_parts (below_all nat_cmp q more) (is_sorted nat_cmp more) h in
    let first = found k b (found_here k b few) in
    elim (cases_eq k q) [
      | inl same ↦
          let here : Some c ≡ Some b = sym (ap (λ t. cond t (Some c) (find nat_cmp k more)) (unsigned_tied k q ∙ eq-eqb k q same)) ∙ first in
          let own : c ≡ b = cc in
          let count : definition_count c.high c.low ≡ definition_count b.high b.low = ap (λ (x : Branch). definition_count x.high x.low) own in
          let rest = four_each few more gs.1 hs.1 (λ x d is.
          let late = above k few gs.0 x d is in
          found_behind x q d c more (λ e. omega (arith, e, late, same)) (found x d (found_there k b few gs.0 x d is))) in
          omega (arith, rest, count)
      | inr differ ↦
          let there = found_behind k q b c more differ first in
          let early = above q more hs.0 k b there in
          let rest = four_each ((k, b) ∷ few) more g hs.1 (λ x d is.
          found_behind x q d c more (λ e. elim (cases_eq x k) [
            | inl is_k ↦ omega (arith, e, is_k, early)
            | inr other ↦ let late = above k few gs.0 x d (found_behind x k d b few other is) in omega (arith, e, late, early)
          ]) (found x d is)) in
          let four = few_definitions c.high c.low in
          omega (arith, rest, four)
    ]

pub definitions-kept : (old new : Graph) → KeepsNodes old new → defining_clauses new + 4 * live_nodes old
    ≤ defining_clauses old + 4 * live_nodes new
definitions-kept old new keeps =
    let each = four_each (map.entries old.nodes) (map.entries new.nodes) (map.entries_sorted old.nodes) (map.entries_sorted new.nodes)
    (λ key b is. sym (map.get-entries new.nodes key) ∙ keeps.nodes key b (map.get-entries old.nodes key ∙ is)) in
    omega (arith, each, map.len-entries old.nodes, map.len-entries new.nodes)
