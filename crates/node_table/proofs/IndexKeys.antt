-- What an index finds, before and after the key of a node took a place.
use Rattle.std.proofs.Common.{◌≡◌, ◌⊎◌, ℕ, ◌+◌, ◌^◌, ◌<◌, ◌≤◌, List, ◌∷◌, length, get_or, None, Some, Contains, refl, sym, subst, ap}
use Rattle.std.proofs.Common.{◌∙◌, inl, inr, arith}
use Rattle.std.proofs.lemmas.Bool.{cases_eq, cases_lt}
use Rattle.std.proofs.lemmas.List.{length-set}
use Rattle.slab.specs.Slab.{Slab, get, entries, slab_len, Updates}
use Rattle.slab.proofs.SlabLemmas.{Contains-cons, Contains-cons_cases, Contains-entries, length-entries}
use Rattle.node_table.specs.declared.stored.Child.{Child}
use Rattle.node_table.specs.declared.stored.StoredNode.{StoredNode}
use Rattle.node_table.specs.declared.index.Index.{Index}
use Rattle.node_table.specs.Index.{home_of, place_at, IsTriple, IsMet, IsFound, IsCounted, IsIndexOf, HasRoom, Enters}
use Rattle.node_table.proofs.IndexPlaces.{still_met, newly_met, one_more_taken}

-- an index of a slab's nodes is one of another slab that has the same
pub same_nodes_indexed : (index : Index) (old new : Slab StoredNode) → new.slots ≡ old.slots → IsIndexOf index old → IsIndexOf index new
same_nodes_indexed index old new same is =
    let was : (key : ℕ) → get new key ≡ get old key = λ key. ap (λ slots. get_or slots key None) same in
    record {
      counted = is.counted;
      keys = λ key node stored. is.keys key node (sym (was key) ∙ stored);
      found = λ key node stored. is.found key node (sym (was key) ∙ stored);
    }

-- no node of the triple stands at a place that was passed
abbrev pub IsPassed : Index → Slab StoredNode → ℕ → Child → Child → ℕ → ℕ → Type 0
IsPassed index nodes level high low home steps =
    (before key : ℕ) (node : StoredNode) → before < steps → get_or index.places.items (place_at (length index.places.items) home before) 0
    ≡ key + 1 → get nodes key ≡ Some node → IsTriple node level high low → ⊥

-- where the places are passed up to a free one, or all of them, no node of the triple is stored
pub none_stored : (index : Index) (nodes : Slab StoredNode) (level : ℕ) (high low : Child) (home steps : ℕ)
    → IsIndexOf index nodes
    → home ≡ home_of index.hasher (length index.places.items) level high.word low.word
    → IsPassed index nodes level high low home steps
    → (steps < length index.places.items → get_or index.places.items (place_at (length index.places.items) home steps) 0 ≡ 0)
    → (key : ℕ) (node : StoredNode) → get nodes key ≡ Some node → IsTriple node level high low → ⊥
none_stored index nodes level high low home steps is from passed free key node stored triple =
    let places = index.places.items in
    let high_word = ap (λ (c : Child). c.word) triple.high in
    let low_word = ap (λ (c : Child). c.word) triple.low in
    let same : home_of index.hasher (length places) node.level node.high.word node.low.word ≡ home =
    ap (λ (n : ℕ). home_of index.hasher (length places) n node.high.word node.low.word) triple.level
    ∙ ap (λ (n : ℕ). home_of index.hasher (length places) level n node.low.word) high_word
    ∙ ap (λ (n : ℕ). home_of index.hasher (length places) level high.word n) low_word ∙ sym from in
    let met : IsMet places home key = subst (λ (n : ℕ). IsMet places n key) same (is.found key node stored) in
    elim (cases_lt met.steps steps) [
      | inl lt ↦ passed met.steps key node lt met.there stored triple
      | inr le ↦
          elim (cases_eq steps met.steps) [
            | inl at ↦ let here : get_or places (place_at (length places) home steps) 0 ≡ key
                + 1 = ap (λ (n : ℕ). get_or places (place_at (length places) home n) 0) at ∙ met.there in
                omega (arith, here, free (omega (arith, met.few_steps, at)))
            | inr differs ↦
                let positive : 0 < get_or places (place_at (length places) home steps) 0 = met.before steps (omega arith) in
                omega (arith, positive, free (omega (arith, met.few_steps, le)))
          ]
    ]

module _ (old new : Index) (key : ℕ) (node : StoredNode) (enters : Enters old new key node) where
  as_many : length new.places.items ≡ length old.places.items
  as_many = ap length enters.written ∙ length-set old.places.items enters.place (key + 1)

  homes : (other : StoredNode) → home_of new.hasher (length new.places.items) other.level other.high.word other.low.word
      ≡ home_of old.hasher (length old.places.items) other.level other.high.word other.low.word
  homes other =
      ap (λ h. home_of h (length new.places.items) other.level other.high.word other.low.word) enters.hasher
      ∙ ap (λ (size : ℕ). home_of old.hasher size other.level other.high.word other.low.word) as_many

  pub still_found : (other_key : ℕ) (other : StoredNode) → IsFound old other_key other → IsFound new other_key other
  still_found other_key other found =
      subst (λ (n : ℕ). IsMet new.places.items n other_key) (sym (homes other))
      (still_met old.places.items new.places.items enters.place (key + 1) enters.written _ other_key enters.first.free found)

  pub newly_found : IsFound new key node
  newly_found = subst (λ (n : ℕ). IsMet new.places.items n key) (sym (homes node))
      (newly_met old.places.items new.places.items _ enters.place key enters.written enters.first)

  pub still_counted : IsCounted old → IsCounted new
  still_counted counted =
      record {
        taken = omega (
          arith,
          enters.taken,
          counted.taken,
          one_more_taken old.places.items new.places.items _ enters.place key
              enters.written enters.first,
        );
        few = omega (arith, as_many, counted.few);
      }

  -- the node joins the stored ones
  pub joined : (before after : Slab StoredNode) → key + 1 < 2 ^ 32 → IsIndexOf old before → Updates before after key (Some node)
      → IsIndexOf new after
  joined before after small is updates =
      record {
        counted = still_counted is.counted;
        keys = λ other_key other stored. elim (cases_eq other_key key) [
          | inl same ↦ omega (arith, same, small)
          | inr differs ↦ is.keys other_key other (sym (updates.others other_key differs) ∙ stored)
        ];
        found = λ other_key other stored. elim (cases_eq other_key key) [
          | inl same ↦
              let at_key : get after key ≡ Some other = subst (λ (n : ℕ). get after n ≡ Some other) same stored in
              let same_node : node ≡ other = cc (updates.changed, at_key) in
              subst (λ (n : ℕ). IsFound new n other) (sym same) (subst (λ (o : StoredNode). IsFound new key o) same_node newly_found)
          | inr differs ↦ still_found other_key other (is.found other_key other (sym (updates.others other_key differs) ∙ stored))
        ];
      }

-- while stored nodes are entered into so many places: each is left or found, and all have room
pub record IsPartOf (size : ℕ) (index : Index) (nodes : Slab StoredNode) (left : List (ℕ × StoredNode)) : Type 0 where
  pub counted : IsCounted index
  pub places : length index.places.items ≡ size
  pub all : index.taken + length left ≡ slab_len nodes
  pub room : slab_len nodes ≤ size
  pub stored : (key : ℕ) (node : StoredNode) → Contains left (key, node) → get nodes key ≡ Some node
  pub found : (key : ℕ) (node : StoredNode) → get nodes key ≡ Some node → Contains left (key, node) ⊎ IsFound index key node

pub one_fewer_left : (size : ℕ) (old new : Index) (nodes : Slab StoredNode) (key : ℕ) (node : StoredNode) (left : List (ℕ × StoredNode))
    → Enters old new key node → IsPartOf size old nodes ((key, node) ∷ left) → IsPartOf size new nodes left
one_fewer_left size old new nodes key node left enters part =
    record {
      counted = still_counted old new key node enters part.counted;
      places = as_many old new key node enters ∙ part.places;
      all = omega (arith, part.all, enters.taken);
      room = part.room;
      stored = λ other_key other there. part.stored other_key other (Contains-cons _ _ _ there);
      found = λ other_key other stored. elim (part.found other_key other stored) [
        | inl there ↦ elim (Contains-cons_cases _ _ _ there) [
          | inl same ↦ inr (subst (λ (p : ℕ × StoredNode). IsFound new p.0 p.1) same (newly_found old new key node enters))
          | inr rest ↦ inl rest
        ]
        | inr found ↦ inr (still_found old new key node enters other_key other found)
      ];
    }

pub all_left : (index : Index) (nodes : Slab StoredNode) (left : List (ℕ × StoredNode)) → left ≡ entries nodes → IsCounted index
    → index.taken ≡ 0 → slab_len nodes ≤ length index.places.items → IsPartOf (length index.places.items) index nodes left
all_left index nodes left all counted none room =
    record {
      counted = counted;
      places = refl;
      all = omega (arith, none, ap length all, length-entries nodes);
      room = room;
      stored = λ key node there. (Contains-entries nodes key node).0
          (subst (λ (es : List (ℕ × StoredNode)). Contains es (key, node)) all there);
      found = λ key node stored. inl (subst (λ (es : List (ℕ × StoredNode)). Contains es (key, node)) (sym all)
          ((Contains-entries nodes key node).1 stored));
    }

pub next_stored : (size : ℕ) (index : Index) (nodes : Slab StoredNode) (key : ℕ) (node : StoredNode) (left : List (ℕ × StoredNode))
    → IsPartOf size index nodes ((key, node) ∷ left) → get nodes key ≡ Some node
next_stored size index nodes key node left part = part.stored key node (0, omega arith, refl)

pub room_for_next : (size : ℕ) (index : Index) (nodes : Slab StoredNode) (key : ℕ) (node : StoredNode) (left : List (ℕ × StoredNode))
    → IsPartOf size index nodes ((key, node) ∷ left) → HasRoom index
room_for_next size index nodes key node left part = record {
  counted = part.counted;
  room = omega (arith, part.places, part.all, part.room);
}
