-- Copies of nodes: as the table grows, once nodes were given back, and with one more.
use Rattle.std.proofs.Common.{◌≡◌, ◌⊎◌, ◌∙◌, ◌+◌, ◌<◌, ◌≤◌, ℕ, zero, suc, Contains, Bool, true, false, List, [], ◌∷◌, ◌++◌, length, reverse, Some, is_some, refl, sym}
use Rattle.std.proofs.Common.{ap, subst, arith, inl, inr, eq-eqb, ne_eqb}
use Rattle.std.specs.Prelude.{◌==◌, ◌^◌, nat_lt, slice_index_or, slice_set, if◌then◌else◌}
use Rattle.std.proofs.lemmas.Bool.{cases_Bool, cases_eq, cases_lt, ltb-true, lt-ltb}
use Rattle.std.proofs.lemmas.List.{append_assoc, append-nil, get_or_past, get_or-set_other, get_or-set_same, length-append, length-set}
use Rattle.std.proofs.lemmas.List.Elements.{Contains-append_cases}
use Rattle.cnf_base.specs.Truth.{Assignment, with_value}
use Rattle.node_table.specs.declared.node.Node.{Node}
use Rattle.node_table.specs.declared.node.Node.TheVariants.{False, True, Inner}
use Rattle.node_table.specs.declared.node.Branch.{Branch}
use Rattle.node_table.specs.Diagram.{Graph, IsOrder, IsReduced, KeepsNodes, branch_at, child_in, high_at, is_node, level_of, low_at}
use Rattle.node_table.specs.Diagram.{variable_at}
use Rattle.node_table.specs.Laws.{Cofactors, Growth}
use Rattle.node_table.specs.Made.{inner}
use Rattle.node_table.specs.Value.{Levels, by_level, value_of}
use Rattle.reconstruction.specs.declared.cells.Cell.{Cell}
use Rattle.reconstruction.specs.Cells.{AreOrdered, HasMore, cell_value, most_cells}
use Rattle.reconstruction.specs.SetsBack.{AreFree, IsFreeOf}
use Rattle.reconstruction.specs.Copies.{AreCopies, AreSound, Copies, Forgets, KeepsCopies, copy_of, has_copy}
use Rattle.reconstruction.specs.Copying.{IsCopied, cell_of}
use Rattle.reconstruction.specs.Laws.{Copying}
use Rattle.reconstruction.proofs.CellValues.{IsCellAt, cell_at, ordered_pushed, value_false, value_more, value_pushed, value_true}

no_copy : (node : Node) → has_copy [] node ≡ true → (node ≡ False) ⊎ (node ≡ True)
no_copy False has = inl refl
no_copy True has = inr refl
no_copy (Inner key) has =
    let none : slice_index_or [] key.index 0 ≡ 0 = get_or_past {X = ℕ} [] key.index 0 (omega arith) in
    let some : 0 < slice_index_or [] key.index 0 = ltb-true 0 (slice_index_or [] key.index 0) has in
    absurd (omega (arith, none, some))

none : (graph : Graph) (cells : List Cell) → AreCopies graph cells []
none graph cells = record {
  stand = λ node has. elim (no_copy node has) [
    | inl is ↦ ap (is_node graph) is
    | inr is ↦ ap (is_node graph) is
  ];
  value = λ node has a. elim (no_copy node has) [
    | inl is ↦
        ap (λ (n : Node). cell_value cells a (copy_of [] n)) is ∙ value_false a (reverse cells)
        ∙ sym (ap (value_of graph (by_level graph.order a)) is)
    | inr is ↦
        ap (λ (n : Node). cell_value cells a (copy_of [] n)) is ∙ value_true a (reverse cells)
        ∙ sym (ap (value_of graph (by_level graph.order a)) is)
  ];
}

pub copying : Growth → Copying
copying growth = record {
  none = none;
  grown = λ old new reduced keeps cells copies are. record {
    stand = λ node has. growth.stands old new keeps node (are.stand node has);
    value = λ node has a. are.value node has a ∙ sym ((λ k. value_of new (by_level (keeps.order k) a) node)
        ∙ growth.value old new reduced keeps (by_level old.order a) node (are.stand node has));
  };
}

-- the same copies, maybe in a longer list
has_same : (one two : List ℕ) → ((key : ℕ) → slice_index_or two key 0 ≡ slice_index_or one key 0) → (node : Node)
    → has_copy two node ≡ has_copy one node
has_same one two same False = refl
has_same one two same True = refl
has_same one two same (Inner key) = ap (nat_lt 0) (same key.index)

of_same : (one two : List ℕ) → ((key : ℕ) → slice_index_or two key 0 ≡ slice_index_or one key 0) → (node : Node)
    → copy_of two node ≡ copy_of one node
of_same one two same False = refl
of_same one two same True = refl
of_same one two same (Inner key) = same key.index

no_more : (cells : List Cell) → HasMore cells cells
no_more cells = record { more = []; is = sym (append-nil cells) }

pub none_copied : (graph : Graph) (cells : List Cell) (one two : List ℕ) → AreSound cells one → AreCopies graph cells one
    → ((key : ℕ) → slice_index_or two key 0 ≡ slice_index_or one key 0) → length two < 2 ^ 32 → Copies graph cells one cells two
none_copied graph cells one two sound are same places = record {
  sound = record {
    ordered = sound.ordered;
    free = sound.free;
    few = sound.few;
    within = λ key. subst (λ n. n < length cells + 2) (sym (same key)) (sound.within key);
    places = places;
  };
  are = record {
    stand = λ node has. are.stand node (sym (has_same one two same node) ∙ has);
    value = λ node has a. ap (cell_value cells a) (of_same one two same node)
        ∙ are.value node (sym (has_same one two same node) ∙ has) a;
  };
  more = no_more cells;
  still = λ node has. has_same one two same node ∙ has;
}

-- what has a copy still is there, and had it
record IsLeft (graph : Graph) (one two : List ℕ) (node : Node) : Type 0 where
  pub stands : is_node graph node ≡ true
  pub same : copy_of two node ≡ copy_of one node

of_left : (graph : Graph) (one two : List ℕ) → Forgets graph one two → (node : Node) → has_copy two node ≡ true → IsLeft graph one two node
of_left graph one two forgets False has = record { stands = refl; same = refl }
of_left graph one two forgets True has = record { stands = refl; same = refl }
of_left graph one two forgets (Inner key) has = elim (cases_Bool (is_node graph (Inner key))) [
  | inl stands ↦ record {
    stands = stands;
    same = forgets key.index ∙ ap (λ t. if t then slice_index_or one key.index 0 else 0) stands;
  }
  | inr gone ↦
      let none : slice_index_or two key.index 0 ≡ 0 = forgets key.index ∙ ap (λ t. if t then slice_index_or one key.index 0 else 0) gone in
      absurd (omega (arith, none, ltb-true 0 (slice_index_or two key.index 0) has))
]

pub left_of : Growth → (graph : Graph) → IsReduced graph → (cells : List Cell) (one two : List ℕ) → Forgets graph one two
    → (before : Graph) → KeepsNodes graph before → AreCopies before cells one → AreCopies graph cells two
left_of growth graph reduced cells one two forgets before keeps are = record {
  stand = λ node has. (of_left graph one two forgets node has).stands;
  value = λ node has a.
      let it = of_left graph one two forgets node has in
      let had : has_copy one node ≡ true = had_copy node has in
      ap (cell_value cells a) it.same ∙ are.value node had a
      ∙ ((λ k. value_of before (by_level (keeps.order k) a) node)
      ∙ growth.value graph before reduced keeps (by_level graph.order a) node it.stands);
}
  where
    had_copy : (node : Node) → has_copy two node ≡ true → has_copy one node ≡ true
    had_copy False has = refl
    had_copy True has = refl
    had_copy (Inner key) has = ap (nat_lt 0) (sym (of_left graph one two forgets (Inner key) has).same) ∙ has

pub sound_left : (graph : Graph) (cells : List Cell) (one two : List ℕ) → Forgets graph one two → length two ≡ length one → AreSound cells one
    → AreSound cells two
sound_left graph cells one two forgets long sound = record {
  ordered = sound.ordered;
  free = sound.free;
  few = sound.few;
  within = λ key. elim (cases_Bool (is_node graph (inner key))) [
    | inl stands ↦
        let same : slice_index_or two key 0 ≡ slice_index_or one key 0 = forgets key
        ∙ ap (λ t. if t then slice_index_or one key 0 else 0) stands in
        omega (arith, same, sound.within key)
    | inr gone ↦
        let none : slice_index_or two key 0 ≡ 0 = forgets key ∙ ap (λ t. if t then slice_index_or one key 0 else 0) gone in
        omega (arith, none)
  ];
  places = subst (λ n. n < 2 ^ 32) (sym long) sound.places;
}

-- a copy is a key of the cells
pub key_within : (cells : List Cell) (copies : List ℕ) → AreSound cells copies → (node : Node) → copy_of copies node < length cells + 2
key_within cells copies sound False = omega arith
key_within cells copies sound True = omega arith
key_within cells copies sound (Inner key) = sound.within key.index

at_own : (level : ℕ) (x y : Node) → (if level == level then x else y) ≡ x
at_own level x y = ap (λ t. if t then x else y) (eq-eqb level level refl)

-- a node's value by its children
value_by_children : Cofactors → (graph : Graph) → IsReduced graph → (key : ℕ) (b : Branch) → branch_at graph key ≡ Some b → (a : Levels)
    → value_of graph a (inner key) ≡ (if a b.level then value_of graph a b.high else value_of graph a b.low)
value_by_children cofactors graph reduced key b at a =
    let high : high_at graph b.level (inner key) ≡ b.high = ap (child_in (λ x. x.high) b.level (inner key)) at
    ∙ at_own b.level b.high (inner key) in
    let low : low_at graph b.level (inner key) ≡ b.low = ap (child_in (λ x. x.low) b.level (inner key)) at
    ∙ at_own b.level b.low (inner key) in
    cofactors.value graph reduced a b.level (inner key) (ap is_some at)
    ∙ (λ i. if a b.level then value_of graph a (high i) else value_of graph a (low i))

-- the children of a cell are earlier ones
older : (cells : List Cell) → AreOrdered cells → (cell : Cell) → Contains cells cell → (cell.high < length cells + 2)
    × (cell.low < length cells + 2)
older cells ordered cell there =
    let at = subst (IsCellAt (λ x. false) (reverse cells) there.0) there.2 (cell_at (λ x. false) cells ordered there.0 cell there.1) in
    (omega (arith, at.high, there.1), omega (arith, at.low, there.1))

-- the only one of a list
only : (one cell : Cell) → Contains (one ∷ []) cell → one ≡ cell
only one cell (zero, small, at) = at
only one cell (suc place, small, at) = absurd (omega (arith, small))

-- one node copied
module _ (cofactors : Cofactors) (graph : Graph) (reduced : IsReduced graph) (ordered : IsOrder graph.order)
    (cells : List Cell) (copies : List ℕ) (sound : AreSound cells copies) (are : AreCopies graph cells copies)
    (key : ℕ) (b : Branch) (at : branch_at graph key ≡ Some b) (room : key < length copies)
    (high : has_copy copies b.high ≡ true) (low : has_copy copies b.low ≡ true) where
  abbrev after : List Cell
  after = cells ++ cell_of graph copies b ∷ []

  abbrev now : List ℕ
  now = slice_set copies key (length cells + 2)

  here : slice_index_or now key 0 ≡ length cells + 2
  here = get_or-set_same copies key (length cells + 2) 0 room

  there : (other : ℕ) → (other ≡ key → ⊥) → slice_index_or now other 0 ≡ slice_index_or copies other 0
  there other differ = get_or-set_other copies key other (length cells + 2) 0 differ

  longer : length after ≡ length cells + 1
  longer = length-append cells (cell_of graph copies b ∷ [])

  own_value : (a : Assignment) → cell_value after a (length cells + 2) ≡ value_of graph (by_level graph.order a) (inner key)
  own_value a =
      value_pushed cells (cell_of graph copies b) a
      ∙ (λ i. if a (variable_at graph b.level) then are.value b.high high a i else are.value b.low low a i)
      ∙ sym (value_by_children cofactors graph reduced key b at (by_level graph.order a))

  stand : (node : Node) → has_copy now node ≡ true → is_node graph node ≡ true
  stand False has = refl
  stand True has = refl
  stand (Inner k) has = elim (cases_eq k.index key) [
    | inl same ↦ ap (λ n. is_some (branch_at graph n)) same ∙ ap is_some at
    | inr differ ↦ are.stand (Inner k) (ap (nat_lt 0) (sym (there k.index differ)) ∙ has)
  ]

  old_value : (node : Node) → has_copy copies node ≡ true → copy_of now node ≡ copy_of copies node → (a : Assignment)
      → cell_value after a (copy_of now node) ≡ value_of graph (by_level graph.order a) node
  old_value node has same a =
      ap (cell_value after a) same
      ∙ value_more cells (cell_of graph copies b ∷ []) a (copy_of copies node) (key_within cells copies sound node) ∙ are.value node has a

  value : (node : Node) → has_copy now node ≡ true → (a : Assignment)
      → cell_value after a (copy_of now node) ≡ value_of graph (by_level graph.order a) node
  value False has a = old_value False refl refl a
  value True has a = old_value True refl refl a
  value (Inner k) has a = elim (cases_eq k.index key) [
    | inl same ↦
        ap (cell_value after a) (ap (λ n. slice_index_or now n 0) same ∙ here) ∙ own_value a
        ∙ ap (λ n. value_of graph (by_level graph.order a) (inner n)) (sym same)
    | inr differ ↦ old_value (Inner k) (ap (nat_lt 0) (sym (there k.index differ)) ∙ has) (there k.index differ) a
  ]

  still : (node : Node) → has_copy copies node ≡ true → has_copy now node ≡ true
  still False has = refl
  still True has = refl
  still (Inner k) has = elim (cases_eq k.index key) [
    | inl same ↦ ap (nat_lt 0) (ap (λ n. slice_index_or now n 0) same ∙ here) ∙ lt-ltb 0 (length cells + 2) (omega arith)
    | inr differ ↦ ap (nat_lt 0) (there k.index differ) ∙ has
  ]

  within : (k : ℕ) → slice_index_or now k 0 < length after + 2
  within k = elim (cases_eq k key) [
    | inl same ↦
        let at_key : slice_index_or now k 0 ≡ length cells + 2 = ap (λ n. slice_index_or now n 0) same ∙ here in
        omega (arith, at_key, longer)
    | inr differ ↦ omega (arith, there k differ, sound.within k, longer)
  ]

  -- the variable of the node's level matters to nothing below it
  other_variable : (i : ℕ) → b.level < i → (slice_index_or graph.order i 0 ≡ variable_at graph b.level → ⊥)
  other_variable i below same = elim (cases_lt i (length graph.order)) [
    | inl inside ↦
        let level : i ≡ b.level = ordered.apart i b.level inside (reduced.level key b at) same in
        omega (arith, level, below)
    | inr past ↦
        let none : slice_index_or graph.order i 0 ≡ 0 = get_or_past graph.order i 0 (omega (arith, past)) in
        omega (arith, none, same, (ordered.within b.level (reduced.level key b at)).0)
  ]

  free_child : (node : Node) → has_copy copies node ≡ true → b.level < level_of graph node
      → IsFreeOf (λ a. cell_value after a (copy_of copies node)) (variable_at graph b.level)
  free_child node has below a t =
      let says : (c : Assignment) → cell_value after c (copy_of copies node) ≡ value_of graph (by_level graph.order c) node =
      λ c. value_more cells (cell_of graph copies b ∷ []) c (copy_of copies node) (key_within cells copies sound node)
      ∙ are.value node has c in
      says (with_value a (variable_at graph b.level) t)
      ∙ cofactors.below graph reduced (by_level graph.order (with_value a (variable_at graph b.level) t)) (by_level graph.order a) node
      (are.stand node has)
      (λ i from. ap (λ s. if s then t else a (slice_index_or graph.order i 0)) (ne_eqb (slice_index_or graph.order i 0)
      (variable_at graph b.level) (other_variable i (omega (arith, from, below)))))
      ∙ sym (says a)

  -- what was free before
  free_before : (cell : Cell) → Contains cells cell → (child : ℕ) → child < length cells + 2
      → IsFreeOf (λ a. cell_value cells a child) cell.variable → IsFreeOf (λ a. cell_value after a child) cell.variable
  free_before cell there child small free a t =
      value_more cells (cell_of graph copies b ∷ []) (with_value a cell.variable t) child small
      ∙ free a t ∙ sym (value_more cells (cell_of graph copies b ∷ []) a child small)

  free_after : AreFree after
  free_after = record {
    high = λ cell there. elim (Contains-append_cases cells (cell_of graph copies b ∷ []) cell there) [
      | inl old ↦ free_before cell old cell.high (older cells sound.ordered cell old).0 (sound.free.high cell old)
      | inr new ↦ subst (λ (c : Cell). IsFreeOf (λ a. cell_value after a c.high) c.variable) (only (cell_of graph copies b) cell new)
          (free_child b.high high (reduced.high key b at).below)
    ];
    low = λ cell there. elim (Contains-append_cases cells (cell_of graph copies b ∷ []) cell there) [
      | inl old ↦ free_before cell old cell.low (older cells sound.ordered cell old).1 (sound.free.low cell old)
      | inr new ↦ subst (λ (c : Cell). IsFreeOf (λ a. cell_value after a c.low) c.variable) (only (cell_of graph copies b) cell new)
          (free_child b.low low (reduced.low key b at).below)
    ];
  }

  copied_one : length after ≤ most_cells → Copies graph cells copies after now
  copied_one few = record {
    sound = record {
      ordered = ordered_pushed cells (cell_of graph copies b) sound.ordered (ordered.within b.level (reduced.level key b at)).0
          (key_within cells copies sound b.high) (key_within cells copies sound b.low);
      free = free_after;
      few = few;
      within = within;
      places = subst (λ n. n < 2 ^ 32) (sym (length-set copies key (length cells + 2))) sound.places;
    };
    are = record { stand = stand; value = value };
    more = record { more = cell_of graph copies b ∷ []; is = refl };
    still = still;
  }

  has_now : has_copy now (inner key) ≡ true
  has_now = ap (nat_lt 0) here ∙ lt-ltb 0 (length cells + 2) (omega arith)

-- one call after another
pub copied_further : (graph : Graph) (one two three : List Cell) (held copies known : List ℕ) → Copies graph one held two copies
    → Copies graph two copies three known → Copies graph one held three known
copied_further graph one two three held copies known first later = record {
  sound = later.sound;
  are = later.are;
  more = record {
    more = first.more.more ++ later.more.more;
    is = later.more.is ∙ ap (λ (list : List Cell). list ++ later.more.more) first.more.is
        ∙ append_assoc one first.more.more later.more.more;
  };
  still = λ node has. later.still node (first.still node has);
}

pub copied : Cofactors → (graph : Graph) → IsReduced graph → IsOrder graph.order → (cells : List Cell) (copies : List ℕ)
    → AreSound cells copies → AreCopies graph cells copies → (key : ℕ) → key < length copies
    → ((b : Branch) → branch_at graph key ≡ Some b → (has_copy copies b.high ≡ true) × (has_copy copies b.low ≡ true))
    → (more : List Cell) (known : List ℕ) → length more ≤ most_cells → IsCopied graph key cells copies more known
    → Copies graph cells copies more known × (has_copy known (inner key) ≡ true)
copied cofactors graph reduced ordered cells copies sound are key room children more known few is =
    let b = is.branch in
    let child = children b is.stands in
    let one = copied_one cofactors graph reduced ordered cells copies sound are key b is.stands room child.0 child.1
    (subst (λ (list : List Cell). length list ≤ most_cells) is.appended few) in
    let has = has_now cofactors graph reduced ordered cells copies sound are key b is.stands room child.0 child.1 in (
      subst (λ (list : List Cell). Copies graph cells copies list known) (sym is.appended)
          (subst (λ (list : List ℕ). Copies graph cells copies (cells ++ cell_of graph copies b ∷ []) list) (sym is.known) one),
      subst (λ (list : List ℕ). has_copy list (inner key) ≡ true) (sym is.known) has,
    )

-- all others keep their copies
pub others_keep : (graph : Graph) (cells : List Cell) (copies : List ℕ) (key : ℕ) (more : List Cell) (known : List ℕ)
    → IsCopied graph key cells copies more known → (node : Node) → (node ≡ inner key → ⊥) → copy_of known node ≡ copy_of copies node
others_keep graph cells copies key more known is False differ = refl
others_keep graph cells copies key more known is True differ = refl
others_keep graph cells copies key more known is (Inner k) differ =
    ap (λ (list : List ℕ). slice_index_or list k.index 0) is.known
    ∙ get_or-set_other copies key k.index (length cells + 2) 0 (λ same. differ (ap inner same))

pub keeps_same : (one two : List ℕ) → ((key : ℕ) → slice_index_or two key 0 ≡ slice_index_or one key 0) → KeepsCopies one two
keeps_same one two same node has = of_same one two same node

pub keeps_behind : (one two three : List ℕ) → ((key : ℕ) → slice_index_or two key 0 ≡ slice_index_or one key 0) → KeepsCopies two three
    → KeepsCopies one three
keeps_behind one two three same keeps node has = keeps node (has_same one two same node ∙ has) ∙ of_same one two same node

-- behind the last place nothing stands
pub forgets_all : (graph : Graph) (old new : List ℕ) (end : ℕ) → length new ≡ length old → length old ≤ end
    → ((k : ℕ) → k < end → slice_index_or new k 0 ≡ (if is_node graph (inner k) then slice_index_or old k 0 else 0)) → Forgets graph old new
forgets_all graph old new end long behind below k = elim (cases_lt k end) [
  | inl less ↦ below k less
  | inr late ↦
      let none : slice_index_or old k 0 ≡ 0 = get_or_past old k 0 (omega (arith, late, behind)) in
      get_or_past new k 0 (omega (arith, late, behind, long))
      ∙ sym (ap (λ n. if is_node graph (inner k) then n else 0) none ∙ both (is_node graph (inner k)) 0)
]
  where
    both : (t : Bool) (n : ℕ) → (if t then n else n) ≡ n
    both true n = refl
    both false n = refl
