-- The values along a way, from its first cell to True.
use Rattle.std.proofs.Common.{◌≡◌, ◌∙◌, ◌+◌, ◌-◌, ◌<◌, ◌≤◌, ℕ, Bool, true, false, List, [], ◌∷◌, drop, length, refl, sym, ap, subst}
use Rattle.std.proofs.Common.{arith, inl, inr}
use Rattle.std.specs.Prelude.{reverse, slice_index_or, if◌then◌else◌}
use Rattle.std.proofs.lemmas.Bool.{cases_eq, cases_lt}
use Rattle.std.proofs.lemmas.List.{drop_all, drop_more}
use Rattle.std.proofs.lemmas.List.Elements.{Contains-get_or}
use Rattle.cnf_base.specs.Truth.{Assignment, with_value}
use Rattle.clause_terms.specs.Walk.{AreAlike}
use Rattle.reconstruction.specs.declared.cells.Cell.{Cell}
use Rattle.reconstruction.specs.Cells.{AreOrdered, cell_value}
use Rattle.reconstruction.specs.SetsBack.{AreFree}
use Rattle.reconstruction.specs.Way.{Agrees, AreDead, IsCleared, IsWalked, Leads, next_in, no_cell}
use Rattle.reconstruction.proofs.CellValues.{value_true}
use Rattle.reconstruction.proofs.Holds.{set_at, set_off}
use Rattle.reconstruction.proofs.Ways.{AreLive, IsCell, cell_of, chosen_less, chosen_same, fixed_is, goes, high_is, live_is, low_is}
use Rattle.reconstruction.proofs.Ways.{next_kind}

-- With the values so far, of variables up to this rank: those lead to the current key, and where one of them is true the first key is
-- false with it false, whatever those of higher ranks are. All of higher ranks are false.
pub record IsDown (cells : List Cell) (rank : ℕ → ℕ) (a w : Assignment) (first last key : ℕ) : Type 0 where
  pub within : key < length cells + 2
  pub rest : Agrees rank a w
  pub higher : (v : ℕ) → 0 < v → last < rank v → w v ≡ false
  pub leads : (b : Assignment) → ((v : ℕ) → 0 < v → rank v ≤ last → b v ≡ w v) → cell_value cells b first ≡ cell_value cells b key
  pub least : (x : ℕ) → 0 < x → 0 < rank x → rank x ≤ last → w x ≡ true → (b : Assignment)
      → ((v : ℕ) → 0 < v → rank v < rank x → b v ≡ w v) → b x ≡ false → cell_value cells b first ≡ false

taken_high : (t : Bool) (x y : Bool) → t ≡ true → (if t then x else y) ≡ x
taken_high t x y is = ap (λ c. if c then x else y) is

taken_low : (t : Bool) (x y : Bool) → t ≡ false → (if t then x else y) ≡ y
taken_low t x y is = ap (λ c. if c then x else y) is

module _ (cells : List Cell) (ordered : AreOrdered cells) (rank : ℕ → ℕ) (a w : Assignment) (alive : ℕ → ℕ) (shows : AreLive alive)
    (first last key : ℕ) (inner : 2 ≤ key) (down : IsDown cells rank a w first last key)
    (some : next_in cells rank a alive key ≡ 0 → ⊥) where
  abbrev pub cell : Cell
  cell = slice_index_or cells (key - 2) no_cell

  here : IsCell cells key cell
  here = cell_of cells ordered key inner down.within

  -- a child that comes next is the live one
  comes : (child : ℕ) → next_in cells rank a alive key ≡ alive child → next_in cells rank a alive key ≡ child
  comes child is = is ∙ live_is alive shows child (λ none. some (is ∙ none))

  -- the variable has no rank
  pub fixed : rank cell.variable ≡ 0 → IsDown cells rank a w first last (next_in cells rank a alive key)
  fixed zero =
      let v = cell.variable in
      let child = if a v then cell.high else cell.low in
      let is : next_in cells rank a alive key ≡ child = comes child (fixed_is rank a alive cell zero) in
      let less : child < key = chosen_less (a v) cell.high cell.low key here.high here.low in
      record {
        within = omega (arith, is, less, down.within);
        rest = down.rest;
        higher = down.higher;
        leads = λ b same. down.leads b same ∙ here.value b
            ∙ ap (λ t. if t then cell_value cells b cell.high else cell_value cells b cell.low)
            (same v here.some (omega (arith, zero)) ∙ down.rest v here.some zero)
            ∙ chosen_same (a v) cell.high cell.low (cell_value cells b) ∙ ap (cell_value cells b) (sym is);
        least = down.least;
      }

  -- what is true so far has at most the last rank
  low_rank : (x : ℕ) → 0 < x → w x ≡ true → rank x ≤ last
  low_rank x above on = elim (cases_lt last (rank x)) [
    | inl more ↦ absurd (let no : true ≡ false = sym on ∙ down.higher x above more in cc)
    | inr low ↦ low
  ]

  -- it has a greater one, and the low child is live
  pub stays_low : last < rank cell.variable → (alive cell.low ≡ 0 → ⊥)
      → IsDown cells rank a w first (rank cell.variable) (next_in cells rank a alive key)
  stays_low more lives =
      let v = cell.variable in
      let is : next_in cells rank a alive key ≡ cell.low = comes cell.low
      (low_is rank a alive cell (λ zero. omega (arith, more, zero)) lives) in
      record {
        within = omega (arith, is, here.low, down.within);
        rest = down.rest;
        higher = λ u above high. down.higher u above (omega (arith, more, high));
        leads = λ b same. down.leads b (λ u above low. same u above (omega (arith, low, more))) ∙ here.value b
            ∙ taken_low (b v) (cell_value cells b cell.high) (cell_value cells b cell.low)
            (same v here.some (omega arith) ∙ down.higher v here.some more)
            ∙ ap (cell_value cells b) (sym is);
        least = λ x above ranked upto on b same off. down.least x above ranked (low_rank x above on) on b same off;
      }

  -- the low child is dead
  pub goes_high : AreDead cells rank a alive → last < rank cell.variable → alive cell.low ≡ 0 → (new : Assignment)
      → AreAlike new (with_value w cell.variable true)
      → IsDown cells rank a new first (rank cell.variable) (next_in cells rank a alive key)
  goes_high known more shut new set =
      let v = cell.variable in
      let is : next_in cells rank a alive key ≡ cell.high = comes cell.high
      (high_is rank a alive cell (λ zero. omega (arith, more, zero)) shut) in
      let other : (u : ℕ) → 0 < u → (rank u ≡ rank v → ⊥) → new u ≡ w u =
      λ u above differ. set.same u above ∙ set_off w v true u (λ at. differ (ap rank at)) in
      let early : (b : Assignment) → ((u : ℕ) → 0 < u → rank u < rank v → b u ≡ new u) → (u : ℕ) → 0 < u → rank u ≤ last → b u ≡ w u =
      λ b same u above low. same u above (omega (arith, low, more)) ∙ other u above (λ at. omega (arith, low, more, at)) in
      record {
        within = omega (arith, is, here.high, down.within);
        rest = λ u above zero. other u above (λ at. omega (arith, more, zero, at)) ∙ down.rest u above zero;
        higher = λ u above high. other u above (λ at. omega (arith, high, at)) ∙ down.higher u above (omega (arith, more, high));
        leads = λ b same. down.leads b (early b (λ u above less. same u above (omega (arith, less)))) ∙ here.value b
            ∙ taken_high (b v) (cell_value cells b cell.high) (cell_value cells b cell.low)
            (same v here.some (omega arith) ∙ set.same v here.some ∙ set_at w v true v refl)
            ∙ ap (cell_value cells b) (sym is);
        least = λ x above ranked upto on b same off. elim (cases_eq x v) [
          | inl at ↦
              let as_x : rank x ≡ rank v = ap rank at in
              let before : (u : ℕ) → 0 < u → rank u < rank v → b u ≡ new u = λ u some less. same u some (omega (arith, less, as_x)) in
              down.leads b (early b before) ∙ here.value b
              ∙ taken_low (b v) (cell_value cells b cell.high) (cell_value cells b cell.low) (ap b (sym at) ∙ off)
              ∙ known cell.low (omega (arith, here.low, down.within)) shut b
              (λ u some zero. early b before u some (omega (arith, zero)) ∙ down.rest u some zero)
          | inr differ ↦
              let was : w x ≡ true = sym (set.same x above ∙ set_off w v true x differ) ∙ on in
              let low = low_rank x above was in
              down.least x above ranked low was b
              (λ u some less. same u some less ∙ other u some (λ at. omega (arith, less, low, more, at))) off
        ];
      }

-- Each way by this path leads on from the key at a place, with the values so far.
abbrev pub AreDown : List Cell → (ℕ → ℕ) → Assignment → (ℕ → ℕ) → List ℕ → Assignment → ℕ → ℕ → Type 0
AreDown cells rank a alive path w last place = (first : ℕ) → first < length cells + 2 → Leads (next_in cells rank a alive) first path 1
    → (key : ℕ) × (Leads (next_in cells rank a alive) key (drop place path) 1 × IsDown cells rank a w first last key)

-- a way to True leads on from no dead key
leads_on : (next : ℕ → ℕ) (key : ℕ) (keys : List ℕ) → Leads next key keys 1 → key ≡ 0 → ⊥
leads_on next key [] way none = omega (arith, way, none)
leads_on next key (one ∷ keys) way none = omega (arith, way.0, way.1, none)

module _ (cells : List Cell) (ordered : AreOrdered cells) (rank : ℕ → ℕ) (a w : Assignment) (alive : ℕ → ℕ) (shows : AreLive alive)
    (path : List ℕ) (last place : ℕ) (inside : place < length path) (are : AreDown cells rank a alive path w last place) where
  abbrev pub at : ℕ
  at = slice_index_or path place 0

  abbrev pub v : ℕ
  v = (slice_index_or cells (at - 2) no_cell).variable

  abbrev pub low : ℕ
  low = (slice_index_or cells (at - 2) no_cell).low

  record IsAt (first : ℕ) : Type 0 where
    inner : 2 ≤ at
    down : IsDown cells rank a w first last at
    way : Leads (next_in cells rank a alive) (next_in cells rank a alive at) (drop (place + 1) path) 1

  reached : (first : ℕ) → first < length cells + 2 → Leads (next_in cells rank a alive) first path 1 → IsAt first
  reached first within way =
      let it = are first within way in
      let leads : Leads (next_in cells rank a alive) it.0 (at ∷ drop (place + 1) path) 1 =
      subst (λ (l : List ℕ). Leads (next_in cells rank a alive) it.0 l 1) (drop_more path place 0 inside) it.1.0 in
      record { inner = leads.1; down = subst (IsDown cells rank a w first last) leads.0 it.1.1; way = leads.2 }

  pub at_fixed : rank v ≡ 0 → AreDown cells rank a alive path w last (place + 1)
  at_fixed zero first within way =
      let it = reached first within way in
      let next = next_in cells rank a alive at in (
        next,
        (
          it.way,
          fixed cells ordered rank a w alive shows first last at it.inner it.down
              (leads_on (next_in cells rank a alive) next (drop (place + 1) path) it.way) zero,
        ),
      )

  pub at_low : (given : ℕ) → given ≡ rank v → last < given → (alive low ≡ 0 → ⊥) → AreDown cells rank a alive path w given (place + 1)
  at_low given is more lives first within way =
      let it = reached first within way in
      let next = next_in cells rank a alive at in (
        next,
        (
          it.way,
          subst (λ (n : ℕ). IsDown cells rank a w first n next) (sym is)
              (stays_low cells ordered rank a w alive shows first last at it.inner it.down
              (leads_on (next_in cells rank a alive) next (drop (place + 1) path) it.way) (omega (arith, is, more)) lives),
        ),
      )

  pub at_high : AreDead cells rank a alive → (given : ℕ) → given ≡ rank v → last < given → alive low ≡ 0 → (new : Assignment)
      → AreAlike new (with_value w v true) → AreDown cells rank a alive path new given (place + 1)
  at_high known given is more shut new set first within way =
      let it = reached first within way in
      let next = next_in cells rank a alive at in (
        next,
        (
          it.way,
          subst (λ (n : ℕ). IsDown cells rank a new first n next) (sym is)
              (goes_high cells ordered rank a w alive shows first last at it.inner it.down
              (leads_on (next_in cells rank a alive) next (drop (place + 1) path) it.way) known (omega (arith, is, more)) shut new set),
        ),
      )

-- at first
start : (cells : List Cell) (rank : ℕ → ℕ) (a : Assignment) (first : ℕ) → first < length cells + 2 → IsCleared rank a
    → IsDown cells rank a a first 0 first
start cells rank a first within cleared = record {
  within = within;
  rest = λ v some zero. refl;
  higher = cleared;
  leads = λ b same. refl;
  least = λ x some ranked low. absurd (omega (arith, ranked, low));
}

pub start_down : (cells : List Cell) (rank : ℕ → ℕ) (a : Assignment) (alive : ℕ → ℕ) (path : List ℕ) → IsCleared rank a
    → AreDown cells rank a alive path a 0 0
start_down cells rank a alive path cleared first within way = (first, (way, start cells rank a first within cleared))

-- at True
true_walked : (cells : List Cell) (rank : ℕ → ℕ) (a w : Assignment) (first last : ℕ) → IsDown cells rank a w first last 1
    → IsWalked (λ b. cell_value cells b first) rank a w
true_walked cells rank a w first last down = record {
  rest = down.rest;
  holds = λ x above ranked off. down.leads w (λ v some low. refl) ∙ value_true w (reverse cells);
  least = λ x above ranked on b same off. elim (cases_lt last (rank x)) [
    | inl more ↦ absurd (let no : true ≡ false = sym on ∙ down.higher x above more in cc)
    | inr low ↦ down.least x above ranked low on b same off
  ];
}

-- The end of the path is reached.
pub walked : (cells : List Cell) (rank : ℕ → ℕ) (a w : Assignment) (alive : ℕ → ℕ) (path : List ℕ) (last place : ℕ) → length path ≤ place
    → AreDown cells rank a alive path w last place → (first : ℕ) → first < length cells + 2
    → Leads (next_in cells rank a alive) first path 1 → IsWalked (λ b. cell_value cells b first) rank a w
walked cells rank a w alive path last place all are first within way =
    let it = are first within way in
    let end : it.0 ≡ 1 = subst (λ (l : List ℕ). Leads (next_in cells rank a alive) it.0 l 1) (drop_all place path all) it.1.0 in
    true_walked cells rank a w first last (subst (IsDown cells rank a w first last) end it.1.1)

-- where there is no way, all ranked variables are true
pub none_walked : (f : Assignment → Bool) (rank : ℕ → ℕ) (a w : Assignment) → ((b : Assignment) → Agrees rank a b → f b ≡ false)
    → Agrees rank a w → ((x : ℕ) → 0 < x → 0 < rank x → w x ≡ true) → IsWalked f rank a w
none_walked f rank a w dead rest on = record {
  rest = rest;
  holds = λ x above ranked off. absurd (let no : true ≡ false = sym (on x above ranked) ∙ off in cc);
  least = λ x above ranked is b same off. dead b (λ v some zero. same v some (omega (arith, zero, ranked)) ∙ rest v some zero);
}

-- Where no cell's variable matters to its children, each way to True has values that follow it.
pub record HasWitness (cells : List Cell) (rank : ℕ → ℕ) (a : Assignment) (key : ℕ) : Type 0 where
  pub b : Assignment
  pub agrees : Agrees rank a b
  pub holds : cell_value cells b key ≡ true

pub way_true : (cells : List Cell) → AreOrdered cells → AreFree cells → (rank : ℕ → ℕ) (a : Assignment) (alive : ℕ → ℕ) → AreLive alive
    → (first : ℕ) (keys : List ℕ) → first < length cells + 2 → Leads (next_in cells rank a alive) first keys 1
    → HasWitness cells rank a first
way_true cells ordered free rank a alive shows first [] within way =
    record { b = a; agrees = λ v above zero. refl; holds = ap (cell_value cells a) way ∙ value_true a (reverse cells) }
way_true cells ordered free rank a alive shows first (key ∷ keys) within way =
    let cell : Cell = slice_index_or cells (key - 2) no_cell in
    let v = cell.variable in
    let small : key < length cells + 2 = omega (arith, way.0, within) in
    let here = cell_of cells ordered key way.1 small in
    let there = Contains-get_or cells (key - 2) no_cell (omega (arith, way.1, small)) in
    let next = next_in cells rank a alive key in
    let less : next < key = (goes cells ordered rank a alive shows key way.1 small).less in
    let rest = way_true cells ordered free rank a alive shows next keys (omega (arith, less, small)) way.2 in
    let comes : (child : ℕ) → next ≡ alive child → next ≡ child =
    λ child is. is ∙ live_is alive shows child (λ none. leads_on (next_in cells rank a alive) next keys way.2 (is ∙ none)) in
    let with_one : (t : Bool) → 0 < rank v → Agrees rank a (with_value rest.b v t) =
    λ t ranked u above zero. set_off rest.b v t u (λ at. let as_u : rank u ≡ rank v = ap rank at in omega (arith, ranked, zero, as_u))
    ∙ rest.agrees u above zero in
    elim (next_kind rank a alive cell) [
      | inl fixed ↦ record {
        b = rest.b;
        agrees = rest.agrees;
        holds = ap (cell_value cells rest.b) way.0 ∙ here.value rest.b
            ∙ ap (λ t. if t then cell_value cells rest.b cell.high else cell_value cells rest.b cell.low)
            (rest.agrees v here.some fixed.zero)
            ∙ chosen_same (a v) cell.high cell.low (cell_value cells rest.b)
            ∙ ap (cell_value cells rest.b) (sym (comes (if a v then cell.high else cell.low) fixed.is)) ∙ rest.holds;
      }
      | inr (inl low) ↦ record {
        b = with_value rest.b v false;
        agrees = with_one false low.ranked;
        holds = let b = with_value rest.b v false in ap (cell_value cells b) way.0 ∙ here.value b
            ∙ taken_low (b v) (cell_value cells b cell.high) (cell_value cells b cell.low) (set_at rest.b v false v refl)
            ∙ free.low cell there rest.b false ∙ ap (cell_value cells rest.b) (sym (comes cell.low low.is)) ∙ rest.holds;
      }
      | inr (inr high) ↦ record {
        b = with_value rest.b v true;
        agrees = with_one true high.ranked;
        holds = let b = with_value rest.b v true in ap (cell_value cells b) way.0 ∙ here.value b
            ∙ taken_high (b v) (cell_value cells b cell.high) (cell_value cells b cell.low) (set_at rest.b v true v refl)
            ∙ free.high cell there rest.b true ∙ ap (cell_value cells rest.b) (sym (comes cell.high high.is)) ∙ rest.holds;
      }
    ]
