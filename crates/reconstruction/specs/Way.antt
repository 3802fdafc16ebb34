-- The way down from a key to True, and the values along it. Ranked variables are open: those of a set, whose values are looked for.
use Rattle.std.specs.Prelude.{◌≡◌, ◌<◌, ◌≤◌, ◌-◌, ◌+◌, ◌==◌, ℕ, Bool, true, false, List, [], ◌∷◌, Contains, length, slice_index_or}
use Rattle.std.specs.Prelude.{if◌then◌else◌}
use Rattle.cnf_base.specs.Truth.{Assignment}
use Rattle.reconstruction.specs.declared.cells.Cell.{Cell}
use Rattle.reconstruction.specs.Cells.{cell_value}

-- the same values of variables without a rank
abbrev pub Agrees : (ℕ → ℕ) → Assignment → Assignment → Type 0
Agrees rank a b = (v : ℕ) → 0 < v → rank v ≡ 0 → b v ≡ a v

-- no values of the ranked variables make the key true
abbrev pub IsDead : List Cell → (ℕ → ℕ) → Assignment → ℕ → Type 0
IsDead cells rank a key = (b : Assignment) → Agrees rank a b → cell_value cells b key ≡ false

-- a key, but that of False where it is marked with this round
abbrev pub live : List ℕ → ℕ → ℕ → ℕ
live marks round key = if slice_index_or marks key 0 == round then 0 else key

-- keys that aren't live are dead
abbrev pub AreDead : List Cell → (ℕ → ℕ) → Assignment → (ℕ → ℕ) → Type 0
AreDead cells rank a alive = (key : ℕ) → key < length cells + 2 → alive key ≡ 0 → IsDead cells rank a key

-- all marks are of earlier rounds
abbrev pub AreMarksBefore : ℕ → List ℕ → Type 0
AreMarksBefore round marks = (key : ℕ) → slice_index_or marks key 0 < round

-- the child that is next: of a ranked variable the low one where it is live, else the high one; of another that which its value chooses
abbrev pub next_of : (ℕ → ℕ) → Assignment → (ℕ → ℕ) → Cell → ℕ
next_of rank a alive cell = if rank cell.variable == 0 then alive (if a cell.variable then cell.high else cell.low)
    else (if alive cell.low == 0 then alive cell.high else alive cell.low)

abbrev pub no_cell : Cell
no_cell = record { variable = 0; high = 0; low = 0 }

abbrev pub next_in : List Cell → (ℕ → ℕ) → Assignment → (ℕ → ℕ) → ℕ → ℕ
next_in cells rank a alive key = next_of rank a alive (slice_index_or cells (key - 2) no_cell)

-- the way from a key by the cells of these keys to another key
abbrev pub Leads : (ℕ → ℕ) → ℕ → List ℕ → ℕ → Type 0
Leads next first [] end = first ≡ end
Leads next first (key ∷ keys) end = (first ≡ key) × (2 ≤ key) × Leads next (next key) keys end

-- each key is that of a cell
abbrev pub AreInner : List Cell → List ℕ → Type 0
AreInner cells keys = (key : ℕ) → Contains keys key → (2 ≤ key) × (key < length cells + 2)

-- ranked variables are false
abbrev pub IsCleared : (ℕ → ℕ) → Assignment → Type 0
IsCleared rank a = (v : ℕ) → 0 < v → 0 < rank v → a v ≡ false

-- Values of the ranked variables that make a function true, but where all of them are true. A variable is true only where the function
-- is false with the variable false, whatever those of higher ranks are.
pub record IsWalked (f : Assignment → Bool) (rank : ℕ → ℕ) (a w : Assignment) : Type 0 where
  pub rest : Agrees rank a w
  pub holds : (x : ℕ) → 0 < x → 0 < rank x → w x ≡ false → f w ≡ true
  pub least : (x : ℕ) → 0 < x → 0 < rank x → w x ≡ true → (b : Assignment) → ((v : ℕ) → 0 < v → rank v < rank x → b v ≡ w v)
      → b x ≡ false → f b ≡ false
