-- What a cell says, by its place; what more cells behind it leave of that; and one cell more.
use Rattle.std.proofs.Common.{◌≡◌, ◌∙◌, ◌+◌, ◌-◌, ◌<◌, ◌≤◌, ℕ, zero, suc, Bool, true, false, List, [], ◌∷◌, ◌++◌, length, reverse, refl, sym, ap, subst, arith}
use Rattle.std.proofs.Common.{inl, inr, eq-eqb, ne_eqb}
use Rattle.std.specs.Prelude.{◌==◌, slice_index_or, if◌then◌else◌}
use Rattle.std.proofs.lemmas.Bool.{cases_eq}
use Rattle.std.proofs.lemmas.List.{get_or_append_left, length-append, length-reverse, reverse-append, reverse-reverse}
use Rattle.cnf_base.specs.Truth.{Assignment}
use Rattle.reconstruction.specs.declared.cells.Cell.{Cell}
use Rattle.reconstruction.specs.Cells.{AreOlder, AreOrdered, HasMore, cell_value, value_in}

-- what the newest cell says, and what it leaves of the keys below it
abbrev pub chosen : Assignment → List Cell → Cell → Bool
chosen a older cell = if a cell.variable then value_in a older cell.high else value_in a older cell.low

newest : (a : Assignment) (cell : Cell) (older : List Cell) (key : ℕ) → key ≡ length older + 2
    → value_in a (cell ∷ older) key ≡ chosen a older cell
newest a cell older key same = ap (λ t. if t then chosen a older cell else value_in a older key) (eq-eqb key (length older + 2) same)

below : (a : Assignment) (cell : Cell) (older : List Cell) (key : ℕ) → key < length older + 2
    → value_in a (cell ∷ older) key ≡ value_in a older key
below a cell older key less =
    ap (λ t. if t then chosen a older cell else value_in a older key)
    (ne_eqb key (length older + 2) (λ same. omega (arith, same, less)))

below_all : (a : Assignment) (newer older : List Cell) (key : ℕ) → key < length older + 2
    → value_in a (newer ++ older) key ≡ value_in a older key
below_all a [] older key less = refl
below_all a (cell ∷ newer) older key less =
    below a cell (newer ++ older) key (omega (arith, less, length-append newer older)) ∙ below_all a newer older key less

-- the constants
pub value_false : (a : Assignment) (cells : List Cell) → value_in a cells 0 ≡ false
value_false a [] = refl
value_false a (cell ∷ older) = below a cell older 0 (omega arith) ∙ value_false a older

pub value_true : (a : Assignment) (cells : List Cell) → value_in a cells 1 ≡ true
value_true a [] = refl
value_true a (cell ∷ older) = below a cell older 1 (omega arith) ∙ value_true a older

-- more cells leave what earlier keys say
pub value_more : (cells more : List Cell) (a : Assignment) (key : ℕ) → key < length cells + 2
    → cell_value (cells ++ more) a key ≡ cell_value cells a key
value_more cells more a key less =
    ap (λ (list : List Cell). value_in a list key) (reverse-append cells more)
    ∙ below_all a (reverse more) (reverse cells) key (omega (arith, less, length-reverse cells))

pub value_kept : (before cells : List Cell) → HasMore before cells → (a : Assignment) (key : ℕ) → key < length before + 2
    → cell_value cells a key ≡ cell_value before a key
value_kept before cells has a key less = ap (λ (list : List Cell). cell_value list a key) has.is ∙ value_more before has.more a key less

-- one cell more
reverse_push : (cells : List Cell) (cell : Cell) → reverse (cells ++ cell ∷ []) ≡ cell ∷ reverse cells
reverse_push cells cell = reverse-append cells (cell ∷ [])

pub value_pushed : (cells : List Cell) (cell : Cell) (a : Assignment)
    → cell_value (cells ++ cell ∷ []) a (length cells + 2)
    ≡ (if a cell.variable then cell_value cells a cell.high else cell_value cells a cell.low)
value_pushed cells cell a =
    ap (λ (list : List Cell). value_in a list (length cells + 2)) (reverse_push cells cell)
    ∙ newest a cell (reverse cells) (length cells + 2) (omega (arith, length-reverse cells))

pub ordered_pushed : (cells : List Cell) (cell : Cell) → AreOrdered cells → 0 < cell.variable → cell.high < length cells + 2 → cell.low
    < length cells + 2 → AreOrdered (cells ++ cell ∷ [])
ordered_pushed cells cell ordered some high low = record {
  older = subst AreOlder (sym (reverse_push cells cell)) (
    some,
    omega (arith, high, length-reverse cells),
    omega (arith, low, length-reverse cells),
    ordered.older,
  );
}

-- the cell at a place: its children are earlier ones, and what it says
pub record IsCellAt (a : Assignment) (list : List Cell) (place : ℕ) (cell : Cell) : Type 0 where
  pub some : 0 < cell.variable
  pub high : cell.high < place + 2
  pub low : cell.low < place + 2
  pub value : value_in a list (place + 2) ≡ (if a cell.variable then value_in a list cell.high else value_in a list cell.low)

-- the element behind a list
get_or_behind : (cells : List Cell) (cell d : Cell) → slice_index_or (cells ++ cell ∷ []) (length cells) d ≡ cell
get_or_behind [] cell d = refl
get_or_behind (first ∷ cells) cell d = get_or_behind cells cell d

at_place : (a : Assignment) (list : List Cell) → AreOlder list → (place : ℕ) (d : Cell) → place < length list
    → IsCellAt a list place (slice_index_or (reverse list) place d)
at_place a [] older place d less = absurd (omega (arith, less))
at_place a (cell ∷ list) older place d less = elim (cases_eq place (length list)) [
  | inl same ↦ subst (IsCellAt a (cell ∷ list) place) (sym (last same)) (record {
    some = older.0;
    high = omega (arith, older.1, same);
    low = omega (arith, older.2, same);
    value = newest a cell list (place + 2) (omega (arith, same))
        ∙ (λ i. if a cell.variable then sym (below a cell list cell.high older.1) i else sym (below a cell list cell.low older.2) i);
  })
  | inr differ ↦
      let near : place < length list = omega (arith, less, differ) in
      let was = at_place a list older.3 place d near in
      let it : Cell = slice_index_or (reverse list) place d in
      subst (IsCellAt a (cell ∷ list) place) (sym (earlier near)) (record {
        some = was.some;
        high = was.high;
        low = was.low;
        value = below a cell list (place + 2) (omega (arith, near)) ∙ was.value
            ∙ (λ i. if a it.variable then sym (below a cell list it.high (omega (arith, was.high, near))) i
            else sym (below a cell list it.low (omega (arith, was.low, near))) i);
      })
]
  where
    turned : reverse (cell ∷ list) ≡ reverse list ++ cell ∷ []
    turned = reverse-append (cell ∷ []) list

    last : place ≡ length list → slice_index_or (reverse (cell ∷ list)) place d ≡ cell
    last same = ap (λ (cells : List Cell). slice_index_or cells place d) turned
        ∙ ap (λ n. slice_index_or (reverse list ++ cell ∷ []) n d) (same ∙ sym (length-reverse list))
        ∙ get_or_behind (reverse list) cell d

    earlier : place < length list → slice_index_or (reverse (cell ∷ list)) place d ≡ slice_index_or (reverse list) place d
    earlier near = ap (λ (cells : List Cell). slice_index_or cells place d) turned
        ∙ get_or_append_left (reverse list) (cell ∷ []) d place (omega (arith, near, length-reverse list))

pub cell_at : (a : Assignment) (cells : List Cell) → AreOrdered cells → (place : ℕ) (d : Cell) → place < length cells
    → IsCellAt a (reverse cells) place (slice_index_or cells place d)
cell_at a cells ordered place d less =
    subst (λ (list : List Cell). IsCellAt a (reverse cells) place (slice_index_or list place d)) (reverse-reverse cells)
    (at_place a (reverse cells) ordered.older place d (omega (arith, less, length-reverse cells)))

-- the key of a constant
pub small_key : (a : Assignment) (cells : List Cell) (key : ℕ) → key < 2 → cell_value cells a key ≡ (key == 1)
small_key a cells zero less = value_false a (reverse cells)
small_key a cells (suc zero) less = value_true a (reverse cells)
small_key a cells (suc (suc key)) less = absurd (omega (arith, less))

-- One step down: the chosen child has a lesser key, and says the same.
pub record IsStepDown (a : Assignment) (cells : List Cell) (key : ℕ) (cell : Cell) (next : ℕ) : Type 0 where
  pub some : 0 < cell.variable
  pub less : next < key
  pub same : cell_value cells a next ≡ cell_value cells a key

pub step_down : (a : Assignment) (cells : List Cell) → AreOrdered cells → (key : ℕ) (cell d : Cell) → 2 ≤ key → key < length cells + 2 → cell
    ≡ slice_index_or cells (key - 2) d
    → IsStepDown a cells key cell (if a cell.variable then cell.high else cell.low)
step_down a cells ordered key cell d large within is =
    let it = subst (IsCellAt a (reverse cells) (key - 2)) (sym is) (cell_at a cells ordered (key - 2) d (omega (arith, large, within))) in
    let at : key - 2 + 2 ≡ key = omega (arith, large) in
    record {
      some = it.some;
      less = chosen_less (a cell.variable) cell.high cell.low key (omega (arith, it.high, at)) (omega (arith, it.low, at));
      same = chosen_same (a cell.variable) cell.high cell.low (cell_value cells a)
          ∙ sym it.value ∙ ap (cell_value cells a) at;
    }
  where
    chosen_less : (t : Bool) (x y n : ℕ) → x < n → y < n → (if t then x else y) < n
    chosen_less true x y n one two = one
    chosen_less false x y n one two = two

    chosen_same : (t : Bool) (x y : ℕ) (f : ℕ → Bool) → f (if t then x else y) ≡ (if t then f x else f y)
    chosen_same true x y f = refl
    chosen_same false x y f = refl
