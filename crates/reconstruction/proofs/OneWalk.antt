-- What a walk over ranked variables says of a set.
use Rattle.std.proofs.Common.{◌≡◌, ◌∙◌, ◌+◌, ◌<◌, ℕ, Bool, true, false, List, Result, Ok, Err, length, refl, sym, ap, subst, arith, inl, inr}
use Rattle.std.specs.Prelude.{IfOk, IsTrue, if◌then◌else◌}
use Rattle.std.proofs.lemmas.Bool.{cases_Bool}
use Rattle.cnf_base.specs.Truth.{Assignment, assignment_of}
use Rattle.clause_terms.specs.Walk.{AreAlike}
use Rattle.reconstruction.specs.declared.cells.Cell.{Cell}
use Rattle.reconstruction.specs.declared.ranks.Rank.{Rank}
use Rattle.reconstruction.specs.Cells.{AreOrdered, cell_value}
use Rattle.reconstruction.specs.Ranks.{AreRising, rank_of}
use Rattle.reconstruction.specs.SetsBack.{AreFree, holds_by, is_among, set_back_by}
use Rattle.reconstruction.specs.Way.{IsDead, IsWalked, Leads, live, next_in}
use Rattle.reconstruction.proofs.Alike.{value_alike}
use Rattle.reconstruction.proofs.Holds.{AreBeside, back_same, holds_none, holds_some, walked_back}
use Rattle.reconstruction.proofs.Raised.{none_walked, way_true}
use Rattle.reconstruction.proofs.SetBackAlike.{AsksAlike}
use Rattle.reconstruction.proofs.Ways.{AreLive}

-- these variables have ranks, and no others
pub record IsRanking (rank : ℕ → ℕ) (xs : List ℕ) : Type 0 where
  pub some : (v : ℕ) → is_among xs v ≡ true → 0 < v
  pub ranked : (v : ℕ) → 0 < v → is_among xs v ≡ true → 0 < rank v
  pub others : (v : ℕ) → 0 < v → is_among xs v ≡ false → rank v ≡ 0

without : (rank : ℕ → ℕ) (xs : List ℕ) → IsRanking rank xs → (v : ℕ) → 0 < v → rank v ≡ 0 → is_among xs v ≡ false
without rank xs ranking v above zero = elim (cases_Bool (is_among xs v)) [
  | inl among ↦ absurd (let more = ranking.ranked v above among in omega (arith, more, zero))
  | inr none ↦ none
]

pub among_ranked : (rank : ℕ → ℕ) (xs : List ℕ) → IsRanking rank xs → (v : ℕ) → 0 < v → 0 < rank v → is_among xs v ≡ true
among_ranked rank xs ranking v above more = elim (cases_Bool (is_among xs v)) [
  | inl among ↦ among
  | inr none ↦ absurd (let zero = ranking.others v above none in omega (arith, more, zero))
]

pub filled_beside : (xs : List ℕ) (value : Bool) (a w : Assignment) → ((v : ℕ) → 0 < v → w v ≡ (if is_among xs v then value else a v))
    → AreBeside xs a w
filled_beside xs value a w filled v above none = filled v above ∙ ap (λ b. if b then value else a v) none

-- the walk's values are those that the set is set back to
pub walked_set : (f : Assignment → Bool) → AsksAlike f → (rank : ℕ → ℕ) (xs : List ℕ) → IsRanking rank xs → AreRising rank xs
    → (old mid w : Assignment) → AreBeside xs old mid → IsWalked f rank mid w → AreAlike w (set_back_by f old xs)
walked_set f asks rank xs ranking rising old mid w beside walked =
    let here = walked_back f asks rank mid w walked xs rising ranking.some ranking.ranked ranking.others in
    let same = back_same f asks xs old mid beside in
    record { same = λ v above. here.same v above ∙ same.same v above }

module _ (cells : List Cell) (ordered : AreOrdered cells) (key : ℕ) where
  pub asks : AsksAlike (λ b. cell_value cells b key)
  asks a b alike = value_alike cells ordered a b alike key

  -- no way: all of them are true
  pub none_set : (rank : ℕ → ℕ) (xs : List ℕ) → IsRanking rank xs → AreRising rank xs → (old mid w : Assignment) → AreBeside xs old mid
      → IsDead cells rank mid key → ((v : ℕ) → 0 < v → w v ≡ (if is_among xs v then true else mid v))
      → AreAlike w (set_back_by (λ b. cell_value cells b key) old xs)
  none_set rank xs ranking rising old mid w beside dead filled =
      walked_set (λ b. cell_value cells b key) asks rank xs ranking rising old mid w beside
      (none_walked (λ b. cell_value cells b key) rank mid w dead
      (λ v above zero. filled_beside xs true mid w filled v above (without rank xs ranking v above zero))
      (λ v above more. filled v above ∙ ap (λ b. if b then true else mid v) (among_ranked rank xs ranking v above more)))

  -- whether some of their values make the key true
  pub can_is : AreFree cells → key < length cells + 2 → (rank : ℕ → ℕ) (xs : List ℕ) → IsRanking rank xs → (a : Assignment)
      (alive : ℕ → ℕ) → AreLive alive → (path : List ℕ) (can : Bool) → (can ≡ true → Leads (next_in cells rank a alive) key path 1)
      → (can ≡ false → IsDead cells rank a key) → can ≡ holds_by (λ b. cell_value cells b key) xs a
  can_is free within rank xs ranking a alive shows path true leads dead =
      let it = way_true cells ordered free rank a alive shows key path within (leads refl) in
      sym (holds_some (λ b. cell_value cells b key) asks xs a it.b
      (λ v above none. it.agrees v above (ranking.others v above none)) it.holds)
  can_is free within rank xs ranking a alive shows path false leads dead =
      sym (holds_none (λ b. cell_value cells b key) xs a
      (λ b beside. dead refl b (λ v above zero. beside v above (without rank xs ranking v above zero))))

  pub can_all : {E : Type 0} → AreFree cells → key < length cells + 2 → (rank : ℕ → ℕ) (xs : List ℕ) → IsRanking rank xs
      → (a : Assignment) (alive : ℕ → ℕ) → AreLive alive → (path : List ℕ) (r : Result Bool E)
      → IfOk r (λ found. IsTrue found → Leads (next_in cells rank a alive) key path 1)
      → IfOk r (λ found. found ≡ false → IsDead cells rank a key) → IfOk r (λ can. can ≡ holds_by (λ b. cell_value cells b key) xs a)
  can_all {E} free within rank xs ranking a alive shows path (Ok can) leads dead =
      can_is free within rank xs ranking a alive shows path can leads dead
  can_all {E} free within rank xs ranking a alive shows path (Err e) leads dead = tt

-- a way by the same ranks, values, marks and keys
pub leads_same : (cells : List Cell) (round first : ℕ) (ranks ranks' : List Rank) (values values' : List Bool)
    (marks marks' path path' : List ℕ) → ranks' ≡ ranks → values' ≡ values → marks' ≡ marks → path' ≡ path
    → Leads (next_in cells (rank_of ranks round) (assignment_of values) (live marks round)) first path 1
    → Leads (next_in cells (rank_of ranks' round) (assignment_of values') (live marks' round)) first path' 1
leads_same cells round first ranks ranks' values values' marks marks' path path' one two three four way =
    subst (λ (r : List Rank). Leads (next_in cells (rank_of r round) (assignment_of values') (live marks' round)) first path' 1) (sym one)
    (subst (λ (l : List Bool). Leads (next_in cells (rank_of ranks round) (assignment_of l) (live marks' round)) first path' 1) (sym two)
    (subst (λ (m : List ℕ). Leads (next_in cells (rank_of ranks round) (assignment_of values) (live m round)) first path' 1) (sym three)
    (subst (λ (p : List ℕ). Leads (next_in cells (rank_of ranks round) (assignment_of values) (live marks round)) first p 1) (sym four)
    way)))
