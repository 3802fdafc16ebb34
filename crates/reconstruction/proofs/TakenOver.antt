-- Recent entries that become stored ones.
use Rattle.std.proofs.Common.{◌≡◌, ◌⊎◌, ◌+◌, ◌<◌, ◌≤◌, ℕ, zero, suc, true, List, [], ◌∷◌, ◌++◌, length, map, Contains, refl, sym, ap, subst}
use Rattle.std.proofs.Common.{arith, inl, inr}
use Rattle.std.proofs.lemmas.List.{length-append}
use Rattle.std.proofs.lemmas.List.Elements.{Contains-append_cases}
use Rattle.node_table.specs.declared.node.Node.{Node}
use Rattle.node_table.specs.Diagram.{Graph, is_node}
use Rattle.reconstruction.specs.declared.cells.Cell.{Cell}
use Rattle.reconstruction.specs.declared.entries.Entry.{Entry}
use Rattle.reconstruction.specs.declared.entries.Kept.{Kept}
use Rattle.reconstruction.specs.Cells.{HasMore}
use Rattle.reconstruction.specs.Copies.{AreCopies, Copies, has_copy}
use Rattle.reconstruction.specs.Stack.{AreStored, AreWithin, CopiesRecent, HaveCopies, IsStack, SayTheSame, Stack, Stores, entry_of, stored_over}
use Rattle.reconstruction.proofs.CellValues.{value_kept}
use Rattle.reconstruction.proofs.Copied.{key_within}

-- what is in a list of results
pub in_map : {X Y : Type 0} (f : X → Y) (xs : List X) (y : Y) → Contains (map f xs) y → (x : X) × Contains xs x × (f x ≡ y)
in_map {X} {Y} f [] y there = absurd (omega (arith, there.1))
in_map {X} {Y} f (x ∷ xs) y (zero, small, at) = (x, (zero, omega arith, refl), at)
in_map {X} {Y} f (x ∷ xs) y (suc k, small, at) =
    let rest = in_map f xs y (k, omega (arith, small), at) in
    (rest.0, (suc rest.1.0, omega (arith, rest.1.1), rest.1.2), rest.2)

pub map_has : {X Y : Type 0} (f : X → Y) (xs : List X) (x : X) → Contains xs x → Contains (map f xs) (f x)
map_has {X} {Y} f [] x there = absurd (omega (arith, there.1))
map_has {X} {Y} f (first ∷ xs) x (zero, small, at) = (zero, omega arith, ap f at)
map_has {X} {Y} f (first ∷ xs) x (suc k, small, at) =
    let rest = map_has f xs x (k, omega (arith, small), at) in
    (suc rest.0, omega (arith, rest.1), rest.2)

pub stored_now : (graph : Graph) (cells : List Cell) (copies : List ℕ) → AreCopies graph cells copies → (recent : List Kept)
    → ((kept : Kept) → Contains recent kept → has_copy copies kept.node ≡ true)
    → AreStored graph cells recent (map (entry_of copies) recent)
stored_now graph cells copies are [] all = tt
stored_now graph cells copies are (kept ∷ recent) all = (
  record { variable = refl; later = refl; value = are.value kept.node (all kept (0, omega arith, refl)) },
  stored_now graph cells copies are recent (λ other there. all other (suc there.0, omega (arith, there.1), there.2)),
)

longer : (before cells : List Cell) → HasMore before cells → length before ≤ length cells
longer before cells has = omega (arith, ap length has.is, length-append before has.more)

-- what was stored is of a cell still, and says the same
pub stack_more : (graph : Graph) (before cells : List Cell) (stored : List Entry) (held copies : List ℕ) → IsStack before stored held
    → Copies graph before held cells copies → IsStack cells stored copies
stack_more graph before cells stored held copies stack copied = record {
  sound = copied.sound;
  within = λ entry there. omega (arith, stack.within entry there, longer before cells copied.more);
}

pub say_the_same : (before cells : List Cell) (stored : List Entry) → AreWithin before stored → HasMore before cells
    → SayTheSame before cells stored
say_the_same before cells stored within has entry there a = value_kept before cells has a entry.key (within entry there)

-- entries of copies behind it
pub stack_stored : (cells : List Cell) (stored after : List Entry) (copies : List ℕ) (recent : List Kept) → IsStack cells stored copies
    → after ≡ stored ++ map (entry_of copies) recent → IsStack cells after copies
stack_stored cells stored after copies recent stack is = record {
  sound = stack.sound;
  within = λ entry there. by_part entry
      (Contains-append_cases stored (map (entry_of copies) recent) entry (subst (λ (list : List Entry). Contains list entry) is there));
}
  where
    by_part : (entry : Entry) → Contains stored entry ⊎ Contains (map (entry_of copies) recent) entry → entry.key < length cells + 2
    by_part entry (inl earlier) = stack.within entry earlier
    by_part entry (inr now) =
        let it = in_map (entry_of copies) recent entry now in
        subst (λ (e : Entry). e.key < length cells + 2) it.2 (key_within cells copies stack.sound it.0.node)

-- the nodes of the entries
pub nodes_stand : (graph : Graph) (recent : List Kept) (nodes : List Node) → nodes ≡ map (λ kept. kept.node) recent
    → ((kept : Kept) → Contains recent kept → is_node graph kept.node ≡ true) → (node : Node) → Contains nodes node → is_node graph node ≡ true
nodes_stand graph recent nodes is stand node there =
    let it = in_map (λ (kept : Kept). kept.node) recent node (subst (λ (list : List Node). Contains list node) is there) in
    subst (λ (n : Node). is_node graph n ≡ true) it.2 (stand it.0 it.1)

pub nodes_have : (recent : List Kept) (nodes : List Node) (copies : List ℕ) → nodes ≡ map (λ kept. kept.node) recent
    → ((node : Node) → Contains nodes node → has_copy copies node ≡ true) → (kept : Kept) → Contains recent kept
    → has_copy copies kept.node ≡ true
nodes_have recent nodes copies is all kept there =
    all kept.node (subst (λ (list : List Node). Contains list kept.node) (sym is) (map_has (λ (k : Kept). k.node) recent kept there))

-- copied, and then taken over
pub stores : (graph : Graph) (old mid new : Stack) → CopiesRecent graph old mid → HaveCopies mid → new ≡ stored_over mid
    → Stores graph old new
stores graph old mid new copies all is = subst (Stores graph old) (sym is) (record {
  entries = map (entry_of mid.copies) mid.recent;
  stored = ap (λ (s : Stack). s.stored ++ map (entry_of mid.copies) mid.recent) copies.same;
  are = subst (λ (recent : List Kept). AreStored graph mid.cells recent (map (entry_of mid.copies) mid.recent))
      (ap (λ (s : Stack). s.recent) copies.same)
      (stored_now graph mid.cells mid.copies copies.copied.are mid.recent all);
  none_recent = refl;
})
