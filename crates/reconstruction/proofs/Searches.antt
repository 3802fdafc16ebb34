-- A search for a way, step by step.
use Rattle.std.proofs.Common.{◌≡◌, ◌∙◌, ◌+◌, ◌*◌, ◌-◌, ◌<◌, ◌≤◌, ℕ, Bool, true, false, not, List, [], ◌∷◌, ◌++◌, length, refl, sym, ap}
use Rattle.std.proofs.Common.{subst, arith}
use Rattle.std.proofs.Common.{cond, count_by, get_or, inl, inr, eq-eqb, ne_eqb}
use Rattle.std.specs.Prelude.{◌==◌, reverse, slice_index_or, slice_set, if◌then◌else◌}
use Rattle.std.proofs.lemmas.Bool.{cases_eq}
use Rattle.std.proofs.lemmas.List.{get_or-set_other, get_or-set_same, length-set, length_push}
use Rattle.std.proofs.lemmas.List.Sums.{sum_by-set}
use Rattle.cnf_base.specs.Truth.{Assignment}
use Rattle.reconstruction.specs.declared.cells.Cell.{Cell}
use Rattle.reconstruction.specs.Cells.{AreOrdered, cell_value}
use Rattle.reconstruction.specs.Way.{AreDead, AreMarksBefore, IsDead, Leads, live, next_in}
use Rattle.reconstruction.proofs.CellValues.{value_false}
use Rattle.reconstruction.proofs.Ways.{are_live, deep, end_live, goes, live_marked, live_other, no_way, way_longer, way_shorter, way_stays}

-- The way so far leads to the current key. Keys that aren't live are dead.
pub record IsSearch (cells : List Cell) (rank : ℕ → ℕ) (a : Assignment) (round first : ℕ) (marks path : List ℕ) (key : ℕ) : Type 0 where
  pub known : AreDead cells rank a (live marks round)
  pub starts : live marks round first ≡ first
  pub way : Leads (next_in cells rank a (live marks round)) first path key
  pub inner : 2 ≤ key
  pub before : AreMarksBefore (round + 1) marks
  pub room : first < length marks

-- at first nothing is marked
fresh : (marks : List ℕ) (round : ℕ) → AreMarksBefore round marks → (key : ℕ) → live marks round key ≡ key
fresh marks round before key =
    let less : slice_index_or marks key 0 < round = before key in
    ap (λ b. if b then 0 else key) (ne_eqb (slice_index_or marks key 0) round (λ same. omega (arith, less, same)))

pub fresh_dead : (cells : List Cell) (rank : ℕ → ℕ) (a : Assignment) (marks : List ℕ) (round : ℕ) → AreMarksBefore round marks
    → AreDead cells rank a (live marks round)
fresh_dead cells rank a marks round before key within none b agrees =
    ap (cell_value cells b) (sym (fresh marks round before key) ∙ none) ∙ value_false b (reverse cells)

pub before_more : (marks : List ℕ) (round : ℕ) → AreMarksBefore round marks → AreMarksBefore (round + 1) marks
before_more marks round before key = let less : slice_index_or marks key 0 < round = before key in omega (arith, less)

pub begun : (cells : List Cell) (rank : ℕ → ℕ) (a : Assignment) (round first : ℕ) (marks path : List ℕ) → AreMarksBefore round marks
    → first < length marks → 2 ≤ first → path ≡ [] → IsSearch cells rank a round first marks path first
begun cells rank a round first marks path before room inner none = record {
  known = fresh_dead cells rank a marks round before;
  starts = fresh marks round before first;
  way = subst (λ (l : List ℕ). Leads (next_in cells rank a (live marks round)) first l first) (sym none) refl;
  inner = inner;
  before = before_more marks round before;
  room = room;
}

-- how many steps are left at most: two for each key that isn't marked, but one for each on the way
abbrev pub left : ℕ → ℕ → List ℕ → List ℕ → ℕ
left round first marks path = (2 * count_by (λ m. not (m == round)) marks + first) - length path

module _ (cells : List Cell) (ordered : AreOrdered cells) (rank : ℕ → ℕ) (a : Assignment) (round first : ℕ)
    (within : first < length cells + 2) (marks path : List ℕ) (key : ℕ) (search : IsSearch cells rank a round first marks path key) where
  pub small : length path + key ≤ first
  small = deep cells ordered rank a (live marks round) (are_live marks round) first path key within search.way

  -- what comes next, by the marks that were read
  pub comes : (read : List ℕ) (child : ℕ) → read ≡ marks → child ≡ next_in cells rank a (live read round) key
      → next_in cells rank a (live marks round) key ≡ child
  comes read child same is = sym (is ∙ ap (λ (m : List ℕ). next_in cells rank a (live m round) key) same)

  -- a child comes next
  pub step_down : (child : ℕ) (longer : List ℕ) → next_in cells rank a (live marks round) key ≡ child → 2 ≤ child
      → longer ≡ path ++ key ∷ [] → IsSearch cells rank a round first marks longer child
  step_down child longer is inner more = record {
    known = search.known;
    starts = search.starts;
    way = subst (λ (l : List ℕ). Leads (next_in cells rank a (live marks round)) first l child) (sym more)
        (subst (Leads (next_in cells rank a (live marks round)) first (path ++ key ∷ [])) is
        (way_longer (next_in cells rank a (live marks round)) first path key search.inner search.way));
    inner = inner;
    before = search.before;
    room = search.room;
  }

  pub fewer_down : (longer : List ℕ) → longer ≡ path ++ key ∷ [] → left round first marks longer < left round first marks path
  fewer_down longer more =
      let long : length longer ≡ length path + 1 = ap length more ∙ length_push path key in
      omega (arith, long, small, search.inner)

  -- True comes next
  pub step_out : (longer : List ℕ) → next_in cells rank a (live marks round) key ≡ 1 → longer ≡ path ++ key ∷ []
      → Leads (next_in cells rank a (live marks round)) first longer 1
  step_out longer is more =
      subst (λ (l : List ℕ). Leads (next_in cells rank a (live marks round)) first l 1) (sym more)
      (subst (Leads (next_in cells rank a (live marks round)) first (path ++ key ∷ [])) is
      (way_longer (next_in cells rank a (live marks round)) first path key search.inner search.way))

  -- nothing comes next: the key is marked
  pub near : key < length marks
  near = omega (arith, small, search.room)

  dead : next_in cells rank a (live marks round) key ≡ 0 → IsDead cells rank a key
  dead none = no_way cells ordered rank a (live marks round) search.known key search.inner (omega (arith, small, within)) none

  pub known_more : next_in cells rank a (live marks round) key ≡ 0 → AreDead cells rank a (live (slice_set marks key round) round)
  known_more none other inside is = elim (cases_eq other key) [
    | inl same ↦ subst (IsDead cells rank a) (sym same) (dead none)
    | inr differ ↦ search.known other inside (sym (live_other marks round key other differ) ∙ is)
  ]

  pub still_before : AreMarksBefore (round + 1) (slice_set marks key round)
  still_before other = elim (cases_eq other key) [
    | inl same ↦
        let is : slice_index_or (slice_set marks key round) other 0 ≡ round =
        ap (λ n. slice_index_or (slice_set marks key round) n 0) same ∙ get_or-set_same marks key round 0 near in
        omega (arith, is)
    | inr differ ↦
        let is : slice_index_or (slice_set marks key round) other 0 ≡ slice_index_or marks other 0 =
        get_or-set_other marks key other round 0 differ in
        let less : slice_index_or marks other 0 < round + 1 = search.before other in
        omega (arith, is, less)
  ]

  pub step_end : next_in cells rank a (live marks round) key ≡ 0 → path ≡ [] → IsDead cells rank a first
  step_end none empty =
      subst (IsDead cells rank a)
      (sym (subst (λ (l : List ℕ). Leads (next_in cells rank a (live marks round)) first l key) empty search.way)) (dead none)

  pub step_back : (rest : List ℕ) (above : ℕ) → next_in cells rank a (live marks round) key ≡ 0 → path ≡ rest ++ above ∷ []
      → IsSearch cells rank a round first (slice_set marks key round) rest above
  step_back rest above none is =
      let marked = slice_set marks key round in
      let ends = way_shorter (next_in cells rank a (live marks round)) first rest above key
      (subst (λ (l : List ℕ). Leads (next_in cells rank a (live marks round)) first l key) is search.way) in
      let long : length path ≡ length rest + 1 = ap length is ∙ length_push rest above in
      let high : length rest + above ≤ first =
      deep cells ordered rank a (live marks round) (are_live marks round) first rest above within ends.way in
      let less : next_in cells rank a (live marks round) above < above =
      (goes cells ordered rank a (live marks round) (are_live marks round) above ends.inner (omega (arith, high, within))).less in
      let last : next_in cells rank a (live marks round) above ≡ key = ends.last in
      record {
        known = known_more none;
        starts = live_other marks round key first (λ same. omega (arith, same, small, long)) ∙ search.starts;
        way = way_stays cells ordered rank a (live marks round) (live marked round) (are_live marks round) key (live_other marks round key)
            (live_marked marks round key near) first rest above within (omega (arith, less, last)) ends.way;
        inner = ends.inner;
        before = still_before;
        room = subst (λ (n : ℕ). first < n) (sym (length-set marks key round)) search.room;
      }

  pub fewer_back : (rest : List ℕ) (above : ℕ) → path ≡ rest ++ above ∷ []
      → left round first (slice_set marks key round) rest < left round first marks path
  fewer_back rest above is =
      let f : ℕ → ℕ = λ m. cond (not (m == round)) 1 0 in
      let count = sum_by-set f marks key round 0 near in
      let lives : live marks round key ≡ key = end_live cells ordered rank a (live marks round) (are_live marks round) first path key within
      search.inner search.starts search.way in
      let one : f (get_or marks key 0) ≡ 1 = ap (λ t. cond (not t) 1 0) (unmarked (slice_index_or marks key 0 == round) lives) in
      let none : f round ≡ 0 = ap (λ t. cond (not t) 1 0) (eq-eqb round round refl) in
      let long : length path ≡ length rest + 1 = ap length is ∙ length_push rest above in
      omega (arith, count, one, none, long, small, search.inner)
    where
      unmarked : (t : Bool) → (if t then 0 else key) ≡ key → t ≡ false
      unmarked true same = absurd (omega (arith, same, search.inner))
      unmarked false is = refl
