-- Numbers of what a slab stores: different ones where the numbers tell the stored values apart. So there are at least as
-- many places as nodes that an index finds.
use Rattle.std.proofs.Common.{◌≡◌, ◌≢◌, ℕ, ◌+◌, ◌≤◌, Bool, true, false, not, List, [], ◌∷◌, length, map, get_or, Option, None, Some}
use Rattle.std.proofs.Common.{Contains, cond, refl, ap, ◌∙◌, subst, inl, inr, arith, ne_eqb}
use Rattle.std.specs.Prelude.{nat_eq}
use Rattle.std.specs.Cmp.{nat_eq_equiv}
use Rattle.std.specs.List.{IsDistinct, AllByRecursion}
use Rattle.std.specs.Set.{is_member}
use Rattle.std.proofs.lemmas.Bool.{cases_lt}
use Rattle.std.proofs.lemmas.Grind.{get_or_default_zero}
use Rattle.std.proofs.lemmas.List.{length-map, get_or_past}
use Rattle.std.proofs.lemmas.Map.Made.{length-le_from_is_member}
use Rattle.std.proofs.lemmas.Map.Views.{Contains-from_any, exact_unsigned_eq, list_any-from_Contains}
use Rattle.slab.specs.Slab.{Slab, get, entries, entries_from, slab_len}
use Rattle.slab.proofs.SlabLemmas.{Contains-cons, Contains-cons_cases, Contains-entries, length-entries}
use Rattle.node_table.specs.declared.stored.StoredNode.{StoredNode}
use Rattle.node_table.specs.declared.index.Index.{Index}
use Rattle.node_table.specs.Index.{home_of, place_at, IsIndexOf}
use Rattle.node_table.specs.Swept.{unmarked_among, unmarked}

-- what is in a list that was mapped
pub Contains-mapped : {X : Type 0} (f : X → ℕ) (xs : List X) (n : ℕ) → Contains (map f xs) n → (x : X) × Contains xs x × (f x ≡ n)
Contains-mapped f [] n among = absurd (omega (arith, among.1))
Contains-mapped f (x ∷ xs) n among = elim (Contains-cons_cases (f x) n (map f xs) among) [
  | inl here ↦ (x, (0, omega arith, refl), here)
  | inr there ↦ let later = Contains-mapped f xs n there in (later.0, Contains-cons x later.0 xs later.1, later.2)
]

all_differ : {X : Type 0} (f : X → ℕ) (n : ℕ) (xs : List X) → ((x : X) → Contains xs x → n ≢ f x)
    → AllByRecursion (λ m. nat_eq n m ≡ false) (map f xs)
all_differ f n [] differ = tt
all_differ f n (x ∷ xs) differ = (
  ne_eqb n (f x) (differ x (0, omega arith, refl)),
  all_differ f n xs (λ y among. differ y (Contains-cons x y xs among)),
)

module _ {T : Type 0} (marks : List Bool) where
  -- the values from a key on, of which the first is there unless it is marked
  abbrev from_here : Bool → ℕ → T → List (ℕ × T) → List (ℕ × T)
  from_here unmarked key value later = cond unmarked ((key, value) ∷ later) later

  no_less_here : (key : ℕ) (value : T) (later : List (ℕ × T)) (entry : ℕ × T) → (Contains later entry → key + 1 ≤ entry.0)
      → (unmarked : Bool) → Contains (from_here unmarked key value later) entry → key ≤ entry.0
  no_less_here key value later entry above true among = elim (Contains-cons_cases (key, value) entry later among) [
    | inl here ↦ omega (arith, ap (λ e. e.0) here)
    | inr there ↦ omega (arith, above there)
  ]
  no_less_here key value later entry above false among = omega (arith, above among)

  no_less : (key : ℕ) (slots : List (Option T)) (entry : ℕ × T) → Contains (unmarked_among marks (entries_from key slots)) entry → key
      ≤ entry.0
  no_less key [] entry among = absurd (omega (arith, among.1))
  no_less key (None ∷ slots) entry among = omega (arith, no_less (key + 1) slots entry among)
  no_less key (Some value ∷ slots) entry among =
      no_less_here key value (unmarked_among marks (entries_from (key + 1) slots)) entry (no_less (key + 1) slots entry)
      (not (get_or marks key false)) among

  -- numbers that tell the values of these entries apart
  abbrev pub TellsApart : (ℕ × T → ℕ) → List (ℕ × T) → Type 0
  TellsApart number listed = (a b : ℕ × T) → Contains listed a → Contains listed b → number a ≡ number b → a.0 ≡ b.0

  distinct_here : (number : ℕ × T → ℕ) (key : ℕ) (value : T) (later : List (ℕ × T))
      → ((entry : ℕ × T) → Contains later entry → key + 1 ≤ entry.0)
      → (TellsApart number later → IsDistinct nat_eq (map number later)) → (unmarked : Bool)
      → TellsApart number (from_here unmarked key value later) → IsDistinct nat_eq (map number (from_here unmarked key value later))
  unfolding IsDistinct
  distinct_here number key value later above distinct true apart = (
    all_differ number (number (key, value)) later (λ entry among same. omega
        (arith, above entry among, apart (key, value) entry (0, omega arith, refl) (Contains-cons (key, value) entry later among) same)),
    distinct (λ a b first second. apart a b (Contains-cons (key, value) a later first) (Contains-cons (key, value) b later second)),
  )
  distinct_here number key value later above distinct false apart = distinct apart

  distinct_from : (number : ℕ × T → ℕ) (key : ℕ) (slots : List (Option T))
      → TellsApart number (unmarked_among marks (entries_from key slots))
      → IsDistinct nat_eq (map number (unmarked_among marks (entries_from key slots)))
  unfolding IsDistinct
  distinct_from number key [] apart = tt
  distinct_from number key (None ∷ slots) apart = distinct_from number (key + 1) slots apart
  distinct_from number key (Some value ∷ slots) apart =
      distinct_here number key value (unmarked_among marks (entries_from (key + 1) slots)) (no_less (key + 1) slots)
      (distinct_from number (key + 1) slots) (not (get_or marks key false)) apart

  pub distinct_numbers : (number : ℕ × T → ℕ) (nodes : Slab T) → TellsApart number (unmarked marks nodes)
      → IsDistinct nat_eq (map number (unmarked marks nodes))
  distinct_numbers number nodes apart = distinct_from number 0 nodes.slots apart

-- without marks all are among them
none_marked : {T : Type 0} (stored : List (ℕ × T)) → unmarked_among [] stored ≡ stored
none_marked [] = refl
none_marked (entry ∷ stored) = ap (λ rest. entry ∷ rest) (none_marked stored)

-- the key of a stored node and one stand at a place
placed : (index : Index) (nodes : Slab StoredNode) → IsIndexOf index nodes → (key : ℕ) (node : StoredNode) → get nodes key ≡ Some node
    → Contains index.places.items (key + 1)
placed index nodes is key node stored =
    let met = is.found key node stored in
    let places = index.places.items in
    let at = place_at (length places) (home_of index.hasher (length places) node.level node.high.word node.low.word) met.steps in
    elim (cases_lt at (length places)) [
      | inl lt ↦ (at, lt, get_or_default_zero places at (key + 1) lt ∙ met.there)
      | inr le ↦ absurd (omega (arith, met.there, get_or_past places at 0 le))
    ]

-- each stored node has a place of its own
pub stored_few : (index : Index) (nodes : Slab StoredNode) → IsIndexOf index nodes → slab_len nodes ≤ length index.places.items
stored_few index nodes is =
    let number : ℕ × StoredNode → ℕ = λ entry. entry.0 + 1 in
    let listed = unmarked [] nodes in
    let numbers = map number listed in
    let same : listed ≡ entries nodes = none_marked (entries nodes) in
    let distinct : IsDistinct nat_eq numbers = distinct_numbers [] number nodes (λ a b _ _ same. omega (arith, same)) in
    let many : length numbers ≡ slab_len nodes = length-map listed number ∙ ap length same ∙ length-entries nodes in
    let among : (n : ℕ) → is_member nat_eq numbers n ≡ true → is_member nat_eq index.places.items n ≡ true = λ n is_number.
    let from = Contains-mapped number listed n (Contains-from_any exact_unsigned_eq n numbers is_number) in
    let stored = (Contains-entries nodes from.0.0 from.0.1).0 (subst (λ (es : List (ℕ × StoredNode)). Contains es from.0) same from.1) in
    list_any-from_Contains nat_eq_equiv n index.places.items (subst (Contains index.places.items) from.2
    (placed index nodes is from.0.0 from.0.1 stored)) in
    omega (arith, many, length-le_from_is_member nat_eq_equiv numbers index.places.items distinct among)
