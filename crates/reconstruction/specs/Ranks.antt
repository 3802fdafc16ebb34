-- Ranks of variables: where they stand in a set's order.
use Rattle.std.specs.Prelude.{◌≡◌, ◌<◌, ◌-◌, ◌==◌, ℕ, true, List, [], ◌∷◌, slice_index_or, if◌then◌else◌}
use Rattle.reconstruction.specs.declared.ranks.Rank.{Rank}
use Rattle.reconstruction.specs.SetsBack.{is_among}

abbrev pub unranked : Rank
unranked = record { round = 0; rank = 0 }

abbrev pub rank_in : ℕ → Rank → ℕ
rank_in round given = if given.round == round then given.rank else 0

-- the rank of a variable in a round, 0 where it has none
abbrev pub rank_of : List Rank → ℕ → ℕ → ℕ
rank_of ranks round v = rank_in round (slice_index_or ranks (v - 1) unranked)

-- all were given in earlier rounds
abbrev pub AreRanksBefore : ℕ → List Rank → Type 0
AreRanksBefore round ranks = (place : ℕ) → (slice_index_or ranks place unranked).round < round

-- each variable has a lesser rank than those behind it
abbrev pub AreRising : (ℕ → ℕ) → List ℕ → Type 0
AreRising rank [] = Unit {0}
AreRising rank (x ∷ xs) = ((v : ℕ) → 0 < v → is_among xs v ≡ true → rank x < rank v) × AreRising rank xs
