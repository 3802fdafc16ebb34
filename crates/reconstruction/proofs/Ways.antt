-- Steps of the way down, and ways.
use Rattle.std.proofs.Common.{◌≡◌, ◌∙◌, ◌+◌, ◌-◌, ◌<◌, ◌≤◌, ℕ, Bool, true, false, List, [], ◌∷◌, ◌++◌, length, refl, sym, ap, subst, arith}
use Rattle.std.proofs.Common.{inl, inr, eq-eqb, ne_eqb}
use Rattle.std.specs.Prelude.{◌⊎◌, ◌==◌, slice_index_or, slice_set, if◌then◌else◌}
use Rattle.std.proofs.lemmas.Bool.{cases_eq}
use Rattle.std.proofs.lemmas.List.{get_or-set_other, get_or-set_same}
use Rattle.std.proofs.lemmas.List.Elements.{Contains-append_cases, Contains-push_cases}
use Rattle.cnf_base.specs.Truth.{Assignment}
use Rattle.reconstruction.specs.declared.cells.Cell.{Cell}
use Rattle.reconstruction.specs.Cells.{AreOrdered, cell_value}
use Rattle.reconstruction.specs.Way.{AreDead, AreInner, IsDead, Leads, live, next_in, next_of, no_cell}
use Rattle.reconstruction.proofs.CellValues.{cell_at}

-- the cell of a key: its children have lesser keys, and what it says
pub record IsCell (cells : List Cell) (key : ℕ) (cell : Cell) : Type 0 where
  pub some : 0 < cell.variable
  pub high : cell.high < key
  pub low : cell.low < key
  pub value : (b : Assignment) → cell_value cells b key
      ≡ (if b cell.variable then cell_value cells b cell.high else cell_value cells b cell.low)

pub cell_of : (cells : List Cell) → AreOrdered cells → (key : ℕ) → 2 ≤ key → key < length cells + 2
    → IsCell cells key (slice_index_or cells (key - 2) no_cell)
cell_of cells ordered key inner within =
    let less : key - 2 < length cells = omega (arith, inner, within) in
    let at : key - 2 + 2 ≡ key = omega (arith, inner) in
    let here = cell_at (λ v. false) cells ordered (key - 2) no_cell less in
    record {
      some = here.some;
      high = omega (arith, here.high, at);
      low = omega (arith, here.low, at);
      value = λ b. ap (cell_value cells b) (sym at) ∙ (cell_at b cells ordered (key - 2) no_cell less).value;
    }

-- a key is live or not
abbrev pub AreLive : (ℕ → ℕ) → Type 0
AreLive alive = (key : ℕ) → (alive key ≡ 0) ⊎ (alive key ≡ key)

pub are_live : (marks : List ℕ) (round : ℕ) → AreLive (live marks round)
are_live marks round key = elim (slice_index_or marks key 0 == round)
    as (λ t. ((if t then 0 else key) ≡ 0) ⊎ ((if t then 0 else key) ≡ key)) [
      | true ↦ inl refl
      | false ↦ inr refl
    ]

pub live_is : (alive : ℕ → ℕ) → AreLive alive → (key : ℕ) → (alive key ≡ 0 → ⊥) → alive key ≡ key
live_is alive shows key some = elim (shows key) [
  | inl none ↦ absurd (some none)
  | inr is ↦ is
]

-- one mark more
pub live_other : (marks : List ℕ) (round key other : ℕ) → (other ≡ key → ⊥)
    → live (slice_set marks key round) round other ≡ live marks round other
live_other marks round key other differ = ap (λ n. if n == round then 0 else other) (get_or-set_other marks key other round 0 differ)

pub live_marked : (marks : List ℕ) (round key : ℕ) → key < length marks → live (slice_set marks key round) round key ≡ 0
live_marked marks round key small = ap (λ b. if b then 0 else key) (eq-eqb _ _ (get_or-set_same marks key round 0 small))

-- Which child is next: that which the value of a variable without a rank chooses, or the low or the high one.
pub record IsFixed (rank : ℕ → ℕ) (a : Assignment) (alive : ℕ → ℕ) (cell : Cell) : Type 0 where
  pub zero : rank cell.variable ≡ 0
  pub is : next_of rank a alive cell ≡ alive (if a cell.variable then cell.high else cell.low)

pub record IsLow (rank : ℕ → ℕ) (a : Assignment) (alive : ℕ → ℕ) (cell : Cell) : Type 0 where
  pub ranked : 0 < rank cell.variable
  pub lives : alive cell.low ≡ 0 → ⊥
  pub is : next_of rank a alive cell ≡ alive cell.low

pub record IsHigh (rank : ℕ → ℕ) (a : Assignment) (alive : ℕ → ℕ) (cell : Cell) : Type 0 where
  pub ranked : 0 < rank cell.variable
  pub shut : alive cell.low ≡ 0
  pub is : next_of rank a alive cell ≡ alive cell.high

pub fixed_is : (rank : ℕ → ℕ) (a : Assignment) (alive : ℕ → ℕ) (cell : Cell) → rank cell.variable ≡ 0
    → next_of rank a alive cell ≡ alive (if a cell.variable then cell.high else cell.low)
fixed_is rank a alive cell zero =
    ap (λ b. if b then alive (if a cell.variable then cell.high else cell.low) else (if alive cell.low == 0 then alive cell.high
    else alive cell.low)) (eq-eqb (rank cell.variable) 0 zero)

ranked_is : (rank : ℕ → ℕ) (a : Assignment) (alive : ℕ → ℕ) (cell : Cell) → (rank cell.variable ≡ 0 → ⊥)
    → next_of rank a alive cell ≡ (if alive cell.low == 0 then alive cell.high else alive cell.low)
ranked_is rank a alive cell ranked =
    ap (λ b. if b then alive (if a cell.variable then cell.high else cell.low) else (if alive cell.low == 0 then alive cell.high
    else alive cell.low)) (ne_eqb (rank cell.variable) 0 ranked)

pub low_is : (rank : ℕ → ℕ) (a : Assignment) (alive : ℕ → ℕ) (cell : Cell) → (rank cell.variable ≡ 0 → ⊥) → (alive cell.low ≡ 0 → ⊥)
    → next_of rank a alive cell ≡ alive cell.low
low_is rank a alive cell ranked lit = ranked_is rank a alive cell ranked
    ∙ ap (λ b. if b then alive cell.high else alive cell.low) (ne_eqb (alive cell.low) 0 lit)

pub high_is : (rank : ℕ → ℕ) (a : Assignment) (alive : ℕ → ℕ) (cell : Cell) → (rank cell.variable ≡ 0 → ⊥) → alive cell.low ≡ 0
    → next_of rank a alive cell ≡ alive cell.high
high_is rank a alive cell ranked shut = ranked_is rank a alive cell ranked
    ∙ ap (λ b. if b then alive cell.high else alive cell.low) (eq-eqb (alive cell.low) 0 shut)

pub next_kind : (rank : ℕ → ℕ) (a : Assignment) (alive : ℕ → ℕ) (cell : Cell)
    → IsFixed rank a alive cell ⊎ (IsLow rank a alive cell ⊎ IsHigh rank a alive cell)
next_kind rank a alive cell = elim (cases_eq (rank cell.variable) 0) [
  | inl zero ↦ inl (record { zero = zero; is = fixed_is rank a alive cell zero })
  | inr ranked ↦ inr (elim (cases_eq (alive cell.low) 0) [
    | inl shut ↦ inr (record { ranked = omega (arith, ranked); shut = shut; is = high_is rank a alive cell ranked shut })
    | inr lit ↦ inl (record { ranked = omega (arith, ranked); lives = lit; is = low_is rank a alive cell ranked lit })
  ])
]

-- the child that a value chooses
pub chosen_less : (t : Bool) (x y n : ℕ) → x < n → y < n → (if t then x else y) < n
chosen_less true x y n one two = one
chosen_less false x y n one two = two

pub chosen_same : (t : Bool) (x y : ℕ) (g : ℕ → Bool) → (if t then g x else g y) ≡ g (if t then x else y)
chosen_same true x y g = refl
chosen_same false x y g = refl

-- what comes next is live, and a lesser key
pub record IsNext (alive : ℕ → ℕ) (key child : ℕ) : Type 0 where
  pub less : child < key
  pub lives : (child ≡ 0 → ⊥) → alive child ≡ child

is_next : (alive : ℕ → ℕ) → AreLive alive → (key child : ℕ) → child < key → 0 < key → IsNext alive key (alive child)
is_next alive shows key child less some = elim (shows child) [
  | inl none ↦ subst (IsNext alive key) (sym none) (record { less = some; lives = λ other. absurd (other refl) })
  | inr is ↦ subst (IsNext alive key) (sym is) (record { less = less; lives = λ other. is })
]

module _ (cells : List Cell) (ordered : AreOrdered cells) (rank : ℕ → ℕ) (a : Assignment) where
  pub goes : (alive : ℕ → ℕ) → AreLive alive → (key : ℕ) → 2 ≤ key → key < length cells + 2
      → IsNext alive key (next_in cells rank a alive key)
  goes alive shows key inner within =
      let cell : Cell = slice_index_or cells (key - 2) no_cell in
      let here = cell_of cells ordered key inner within in
      let some : 0 < key = omega (arith, inner) in
      elim (next_kind rank a alive cell) [
        | inl fixed ↦ subst (IsNext alive key) (sym fixed.is) (is_next alive shows key (if a cell.variable then cell.high else cell.low)
            (chosen_less (a cell.variable) cell.high cell.low key here.high here.low) some)
        | inr (inl low) ↦ subst (IsNext alive key) (sym low.is) (is_next alive shows key cell.low here.low some)
        | inr (inr high) ↦ subst (IsNext alive key) (sym high.is) (is_next alive shows key cell.high here.high some)
      ]

  -- A key without a live child that is open is dead.
  pub no_way : (alive : ℕ → ℕ) → AreDead cells rank a alive → (key : ℕ) → 2 ≤ key → key < length cells + 2
      → next_in cells rank a alive key ≡ 0 → IsDead cells rank a key
  no_way alive known key inner within none b agrees =
      let cell : Cell = slice_index_or cells (key - 2) no_cell in
      let here = cell_of cells ordered key inner within in
      let v = cell.variable in
      let of_high : alive cell.high ≡ 0 → cell_value cells b cell.high ≡ false =
      λ is. known cell.high (omega (arith, here.high, within)) is b agrees in
      let of_low : alive cell.low ≡ 0 → cell_value cells b cell.low ≡ false =
      λ is. known cell.low (omega (arith, here.low, within)) is b agrees in
      elim (next_kind rank a alive cell) [
        | inl fixed ↦
            let child = if a v then cell.high else cell.low in
            let small : child < key = chosen_less (a v) cell.high cell.low key here.high here.low in
            here.value b ∙ ap (λ t. if t then cell_value cells b cell.high else cell_value cells b cell.low) (agrees v here.some fixed.zero)
            ∙ chosen_same (a v) cell.high cell.low (cell_value cells b)
            ∙ known child (omega (arith, small, within)) (sym fixed.is ∙ none) b agrees
        | inr (inl low) ↦ absurd (low.lives (sym low.is ∙ none))
        | inr (inr high) ↦ here.value b ∙ either (b v) (of_high (sym high.is ∙ none)) (of_low high.shut)
      ]
    where
      either : {x y : Bool} (t : Bool) → x ≡ false → y ≡ false → (if t then x else y) ≡ false
      either {x} {y} true one two = one
      either {x} {y} false one two = two

  -- how far down a way ends, and how long it is at most
  pub deep : (alive : ℕ → ℕ) → AreLive alive → (first : ℕ) (keys : List ℕ) (end : ℕ) → first < length cells + 2
      → Leads (next_in cells rank a alive) first keys end → length keys + end ≤ first
  deep alive shows first [] end within way = omega (arith, way)
  deep alive shows first (key ∷ keys) end within way =
      let small : key < length cells + 2 = omega (arith, way.0, within) in
      let next = goes alive shows key way.1 small in
      let less : next_in cells rank a alive key < key = next.less in
      let rest : length keys + end ≤ next_in cells rank a alive key =
      deep alive shows (next_in cells rank a alive key) keys end (omega (arith, less, small)) way.2 in
      omega (arith, way.0, less, rest)

  -- the keys of a way are those of cells
  pub all_inner : (alive : ℕ → ℕ) → AreLive alive → (first : ℕ) (keys : List ℕ) (end : ℕ) → first < length cells + 2
      → Leads (next_in cells rank a alive) first keys end → AreInner cells keys
  all_inner alive shows first [] end within way key there = absurd (omega (arith, there.1))
  all_inner alive shows first (one ∷ keys) end within way key there =
      let small : one < length cells + 2 = omega (arith, way.0, within) in
      let less : next_in cells rank a alive one < one = (goes alive shows one way.1 small).less in
      elim (Contains-append_cases (one ∷ []) keys key there) [
        | inl left ↦ elim (Contains-push_cases [] one key left) [
          | inl none ↦ absurd (omega (arith, none.1))
          | inr same ↦ subst (λ (k : ℕ). (2 ≤ k) × (k < length cells + 2)) same (way.1, small)
        ]
        | inr later ↦ all_inner alive shows (next_in cells rank a alive one) keys end (omega (arith, less, small)) way.2 key later
      ]

  -- where a way from a live key ends is live
  pub end_live : (alive : ℕ → ℕ) → AreLive alive → (first : ℕ) (keys : List ℕ) (end : ℕ) → first < length cells + 2 → 2 ≤ end
      → alive first ≡ first → Leads (next_in cells rank a alive) first keys end → alive end ≡ end
  end_live alive shows first [] end within inner starts way = ap alive (sym way) ∙ starts ∙ way
  end_live alive shows first (key ∷ keys) end within inner starts way =
      let small : key < length cells + 2 = omega (arith, way.0, within) in
      let next = goes alive shows key way.1 small in
      let less : next_in cells rank a alive key < key = next.less in
      let child = next_in cells rank a alive key in
      let near : child < length cells + 2 = omega (arith, less, small) in
      let rest : length keys + end ≤ child = deep alive shows child keys end near way.2 in
      end_live alive shows child keys end near inner (next.lives (λ none. omega (arith, none, rest, inner))) way.2

  -- With one more key marked below it, a step stays.
  next_stays : (one two : ℕ → ℕ) → AreLive one → (mark : ℕ) → ((key : ℕ) → (key ≡ mark → ⊥) → two key ≡ one key) → two mark ≡ 0
      → (key : ℕ) → mark < next_in cells rank a one key → next_in cells rank a two key ≡ next_in cells rank a one key
  next_stays one two shows mark same marked key above =
      let cell : Cell = slice_index_or cells (key - 2) no_cell in
      let other : (child : ℕ) → next_in cells rank a one key ≡ one child → two child ≡ one child = λ child is.
      let lives : one child ≡ child = live_is one shows child (λ none. omega (arith, above, is, none)) in
      same child (λ at. omega (arith, above, is, lives, at)) in
      elim (next_kind rank a one cell) [
        | inl fixed ↦ fixed_is rank a two cell fixed.zero ∙ other (if a cell.variable then cell.high else cell.low) fixed.is ∙ sym fixed.is
        | inr (inl low) ↦
            let kept : two cell.low ≡ one cell.low = other cell.low low.is in
            low_is rank a two cell (λ zero. omega (arith, low.ranked, zero)) (λ none. low.lives (sym kept ∙ none)) ∙ kept ∙ sym low.is
        | inr (inr high) ↦
            high_is rank a two cell (λ zero. omega (arith, high.ranked, zero)) (elim (cases_eq cell.low mark) [
              | inl at ↦ ap two at ∙ marked
              | inr differ ↦ same cell.low differ ∙ high.shut
            ]) ∙ other cell.high high.is ∙ sym high.is
      ]

  pub way_stays : (one two : ℕ → ℕ) → AreLive one → (mark : ℕ) → ((key : ℕ) → (key ≡ mark → ⊥) → two key ≡ one key) → two mark ≡ 0
      → (first : ℕ) (keys : List ℕ) (end : ℕ) → first < length cells + 2 → mark < end
      → Leads (next_in cells rank a one) first keys end → Leads (next_in cells rank a two) first keys end
  way_stays one two shows mark same marked first [] end within above way = way
  way_stays one two shows mark same marked first (key ∷ keys) end within above way =
      let small : key < length cells + 2 = omega (arith, way.0, within) in
      let less : next_in cells rank a one key < key = (goes one shows key way.1 small).less in
      let near : next_in cells rank a one key < length cells + 2 = omega (arith, less, small) in
      let rest : length keys + end ≤ next_in cells rank a one key = deep one shows (next_in cells rank a one key) keys end near way.2 in
      let kept = next_stays one two shows mark same marked key (omega (arith, rest, above)) in (
        way.0,
        way.1,
        subst (λ (n : ℕ). Leads (next_in cells rank a two) n keys end) (sym kept)
            (way_stays one two shows mark same marked (next_in cells rank a one key) keys end near above way.2),
      )

-- a step more at the end, and one less
pub way_longer : (next : ℕ → ℕ) (first : ℕ) (keys : List ℕ) (key : ℕ) → 2 ≤ key → Leads next first keys key
    → Leads next first (keys ++ key ∷ []) (next key)
way_longer next first [] key inner way = (way, inner, refl)
way_longer next first (one ∷ keys) key inner way = (way.0, way.1, way_longer next (next one) keys key inner way.2)

pub record Ends (next : ℕ → ℕ) (first : ℕ) (keys : List ℕ) (key end : ℕ) : Type 0 where
  pub way : Leads next first keys key
  pub inner : 2 ≤ key
  pub last : next key ≡ end

pub way_shorter : (next : ℕ → ℕ) (first : ℕ) (keys : List ℕ) (key end : ℕ) → Leads next first (keys ++ key ∷ []) end
    → Ends next first keys key end
way_shorter next first [] key end way = record { way = way.0; inner = way.1; last = way.2 }
way_shorter next first (one ∷ keys) key end way =
    let rest = way_shorter next (next one) keys key end way.2 in
    record { way = (way.0, way.1, rest.way); inner = rest.inner; last = rest.last }
