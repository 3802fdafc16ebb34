-- Extension variables: the least that no stored node has is taken, and it is then the new node's.
use Rattle.std.proofs.Common.{◌≡◌, ◌≢◌, ℕ, ◌+◌, ◌-◌, ◌<◌, ◌≤◌, List, [], ◌∷◌, ◌++◌, length, get_or, Some, None, Contains, sym, ap, ◌∙◌}
use Rattle.std.proofs.Common.{subst, arith, inl, inr}
use Rattle.std.proofs.lemmas.Bool.{cases_eq}
use Rattle.std.proofs.lemmas.List.{get_or-append-add, get_or_append_left, get_or_default, length-append}
use Rattle.std.proofs.lemmas.List.Elements.{Contains-append_left, Contains-get_or, Contains-push, Contains-push_cases}
use Rattle.slab.specs.Slab.{Slab, Updates, get, slab_len}
use Rattle.node_table.specs.declared.stored.StoredNode.{StoredNode}
use Rattle.node_table.specs.Stored.{HasVariables, IsFalling, IsStoredAs, Takes}
use Rattle.node_table.proofs.Falling.{falls_by, falling_left}
use Rattle.node_table.proofs.Pushed.{each_stored}

last_at : (left : List ℕ) (last : ℕ) → get_or (left ++ last ∷ []) (length left) 0 ≡ last
last_at left last = let same : length left + 0 ≡ length left = omega arith in ap (λ n. get_or (left ++ last ∷ []) n 0) (sym same)
    ∙ get_or-append-add left (last ∷ []) 0 0

-- the last one is the least
last_least : (left : List ℕ) (last : ℕ) → IsFalling (left ++ last ∷ []) → (number : ℕ) → Contains left number → last < number
last_least left last falling number among =
    let k = among.0 in
    let there : k + (length left - k) ≡ length left = omega (arith, among.1) in
    let falls = falls_by (left ++ last ∷ []) falling k (length left - k) (omega (arith, there, length-append left (last ∷ []))) in
    let end : get_or (left ++ last ∷ []) (k + (length left - k)) 0 ≡ last = ap (λ n. get_or (left ++ last ∷ []) n 0) there
    ∙ last_at left last in
    let at : get_or (left ++ last ∷ []) k 0 ≡ number = get_or_append_left left (last ∷ []) 0 k among.1
    ∙ get_or_default left k 0 number among.1 ∙ among.2 in
    omega (arith, falls, end, at, among.1)

-- so many numbers that fall need as many below a bound
few_above_last : (left : List ℕ) (last bound : ℕ) → IsFalling (left ++ last ∷ [])
    → ((number : ℕ) → Contains (left ++ last ∷ []) number → number < bound) → last + length left < bound
few_above_last left last bound falling below =
    let long = length-append left (last ∷ []) in
    let same : 0 + length left ≡ length left = omega arith in
    let falls = falls_by (left ++ last ∷ []) falling 0 (length left) (omega (arith, long)) in
    let end : get_or (left ++ last ∷ []) (0 + length left) 0 ≡ last = ap (λ n. get_or (left ++ last ∷ []) n 0) same ∙ last_at left last in
    omega (arith, falls, end, below (get_or (left ++ last ∷ []) 0 0) (Contains-get_or (left ++ last ∷ []) 0 0 (omega (arith, long))))

none_among : (number : ℕ) → Contains [] number → ⊥
none_among number among = omega (arith, among.1)

module _ {levels next : ℕ} {free : List ℕ} {capacity : ℕ} {nodes : Slab StoredNode}
    (have : HasVariables levels next free capacity nodes) {left : List ℕ} {after variable : ℕ}
    (takes : Takes free next left after variable) where
  pub taken_above : levels < variable
  taken_above = elim takes [
    | inl last ↦ (have.within variable (subst (λ list. Contains list variable) (sym last.0) (Contains-push left variable))).0
    | inr new ↦ omega (arith, new.2, have.counted)
  ]

  pub taken_few : variable ≤ levels + slab_len nodes + 1
  taken_few = elim takes [
    | inl last ↦
        let few = few_above_last left variable next (subst IsFalling last.0 have.falling)
        (λ number among. (have.within number (subst (λ list. Contains list number) (sym last.0) among)).1) in
        omega (arith, few, have.counted, ap length last.0, length-append left (variable ∷ []))
    | inr new ↦ omega (arith, new.2, have.counted, ap length new.0)
  ]

  -- no stored node has it
  pub taken_own : (key : ℕ) (node : StoredNode) → get nodes key ≡ Some node → node.variable ≢ variable
  taken_own key node is same = elim takes [
    | inl last ↦ have.unowned key node is (subst (λ list. Contains list node.variable) (sym last.0)
        (subst (Contains (left ++ variable ∷ [])) (sym same) (Contains-push left variable)))
    | inr new ↦ omega (arith, same, new.2, (have.stored key node is).1)
  ]

  taken_below : (other : ℕ) → other < variable → other < next
  taken_below other less = elim takes [
    | inl last ↦ omega (
      arith,
      less,
      (have.within variable (subst (λ list. Contains list variable) (sym last.0) (Contains-push left variable))).1,
    )
    | inr new ↦ omega (arith, less, new.2)
  ]

  not_free : (other : ℕ) → other < variable → Contains free other → ⊥
  not_free other less among = elim takes [
    | inl last ↦ elim (Contains-push_cases left variable other (subst (λ list. Contains list other) last.0 among)) [
      | inl before ↦ omega (arith, less, last_least left variable (subst IsFalling last.0 have.falling) other before)
      | inr same ↦ omega (arith, less, same)
    ]
    | inr new ↦ none_among other (subst (λ list. Contains list other) new.0 among)
  ]

  -- each smaller one is some stored node's
  pub taken_least : (other : ℕ) → levels < other → other < variable → IsStoredAs nodes other
  taken_least other above less = elim (have.covered other above (taken_below other less)) [
    | inl among ↦ absurd (not_free other less among)
    | inr stored ↦ stored
  ]

  -- what is free then was free, and is greater than the one taken
  still_free : (number : ℕ) → Contains left number → Contains free number × (variable < number)
  still_free number among = elim takes [
    | inl last ↦ (
      subst (λ list. Contains list number) (sym last.0) (Contains-append_left left (variable ∷ []) number among),
      last_least left variable (subst IsFalling last.0 have.falling) number among,
    )
    | inr new ↦ absurd (none_among number (subst (λ list. Contains list number) new.1 among))
  ]

  -- and what was free is so then, but for the one taken
  free_left : (number : ℕ) → Contains free number → number ≢ variable → Contains left number
  free_left number among differ = elim takes [
    | inl last ↦ elim (Contains-push_cases left variable number (subst (λ list. Contains list number) last.0 among)) [
      | inl before ↦ before
      | inr same ↦ absurd (differ (sym same))
    ]
    | inr new ↦ absurd (none_among number (subst (λ list. Contains list number) new.0 among))
  ]

  still_falling : IsFalling left
  still_falling = elim takes [
    | inl last ↦ falling_left left (variable ∷ []) (subst IsFalling last.0 have.falling)
    | inr new ↦ λ k within. absurd (omega (arith, within, ap length new.1))
  ]

  next_after : (variable < after) × (next ≤ after) × (after + length free ≡ next + length left + 1)
  next_after = elim takes [
    | inl last ↦
        let within = (have.within variable (subst (λ list. Contains list variable) (sym last.0) (Contains-push left variable))).1 in
        (omega (arith, within, last.1), omega (arith, last.1), omega (arith, last.1, ap length last.0, length-append left (variable ∷ [])))
    | inr new ↦ (omega (arith, new.2, new.3), omega (arith, new.3), omega (arith, new.3, ap length new.0, ap length new.1))
  ]

  few_after : slab_len nodes < 100000000 → after ≤ levels + 100000001
  few_after few = elim takes [
    | inl last ↦ omega (arith, last.1, have.few)
    | inr new ↦ omega (arith, new.3, have.counted, ap length new.0, few)
  ]

  given_before : (other : ℕ) → other < after → other ≢ variable → other < next
  given_before other less differ = elim takes [
    | inl last ↦ omega (arith, less, last.1)
    | inr new ↦ omega (arith, less, new.2, new.3, differ)
  ]

  -- the variables are those of the stored nodes, once the new one has joined them
  pub HasVariables-taken : (new : Slab StoredNode) (key : ℕ) (node : StoredNode) → node.variable ≡ variable → get nodes key ≡ None
      → Updates nodes new key (Some node) → slab_len new ≡ slab_len nodes + 1
      → slab_len nodes < 100000000 → (wider : ℕ) → length free + (slab_len nodes + 1) ≤ wider → HasVariables levels after left wider new
  HasVariables-taken new key node own vacant updates more few wider room = record {
    stored = each_stored nodes new key node updates (λ k one. (levels < one.variable)
        × (one.variable < after)) (omega (arith, own, taken_above), omega (arith, own, next_after.0))
        (λ k one is. ((have.stored k one is).0, omega (arith, (have.stored k one is).1, next_after.1)));
    falling = still_falling;
    within = λ number among. let before = have.within number (still_free number among).0 in
        (before.0, omega (arith, before.1, next_after.1));
    unowned = each_stored nodes new key node updates (λ k one. Contains left one.variable
        → ⊥) (λ among. omega (arith, own, (still_free node.variable among).1))
        (λ k one is among. have.unowned k one is (still_free one.variable among).0);
    covered = λ other above less. elim (cases_eq other variable) [
      | inl same ↦ inr (record { key = key; node = node; stands = updates.changed; own = own ∙ sym same })
      | inr differ ↦ elim (have.covered other above (given_before other less differ)) [
        | inl among ↦ inl (free_left other among differ)
        | inr is ↦ inr (record {
          key = is.key;
          node = is.node;
          stands = updates.others is.key (λ same. let none : None ≡ Some is.node = sym vacant ∙ ap (get nodes) (sym same) ∙ is.stands in cc)
              ∙ is.stands;
          own = is.own;
        })
      ]
    ];
    counted = omega (arith, have.counted, next_after.2, more);
    few = few_after few;
    room = omega (arith, have.counted, next_after.2, room);
  }

-- there is room for more
pub HasVariables-room : (levels next : ℕ) (free more : List ℕ) (capacity wider : ℕ) (old room : Slab StoredNode) → more ≡ free → capacity
    ≤ wider → room ≡ record old { capacity = room.capacity }
    → HasVariables levels next free capacity old → HasVariables levels next more wider room
HasVariables-room levels next free more capacity wider old room same no_less kept have =
    subst (HasVariables levels next more wider) (sym kept)
    (subst (λ list. HasVariables levels next list wider (record old { capacity = room.capacity })) (sym same) (record {
      stored = have.stored;
      falling = have.falling;
      within = have.within;
      unowned = have.unowned;
      covered = λ variable above below. elim (have.covered variable above below) [
        | inl among ↦ inl among
        | inr is ↦ inr (record { key = is.key; node = is.node; stands = is.stands; own = is.own })
      ];
      counted = have.counted;
      few = have.few;
      room = omega (arith, have.room, no_less);
    }))
