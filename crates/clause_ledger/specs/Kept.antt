-- The clauses that a ledger keeps, so that they can be read.
use Rattle.std.specs.Prelude.{◌≡◌, ◌^◌, ◌-◌, ℕ, zero, suc, ℤ, List, length, Option, None, Some, slice_index_or, refl}
use Rattle.std.specs.Coded.{Coded, code_by, coded×, coded_ℕ, coded_ℤ, coded_list, coded_option}
use Rattle.lrat_rules.specs.State.{State, clause_at}

-- nothing, or a live clause
abbrev pub Place : Type 0
Place = Option (List ℤ)

-- a place for each number from 1 on, and for how many more clauses of at most four literals there is room
pub record KeptClauses : Type 0 where
  pub places : List Place
  pub room : ℕ

-- kept clauses can be a model's value: they are stored as their fields
abbrev pub kept_code : Coded KeptClauses
kept_code = code_by (List Place × ℕ) (coded× (coded_list (coded_option (coded_list coded_ℤ))) coded_ℕ) (λ k. (k.places, k.room))
    (λ p. record { places = p.0; room = p.1 }) (λ _. refl)

-- what is kept under a number
abbrev pub kept_at : List Place → ℕ → Place
kept_at places zero = None
kept_at places (suc i) = slice_index_or places i None

-- exactly the live clauses are kept, each under its number
pub record AreKept (state : State) (kept : KeptClauses) : Type 0 where
  pub clauses : (id : ℕ) → kept_at kept.places id ≡ clause_at state.live id
  pub count : length kept.places ≡ state.top

-- more room than there are numbers: a ledger that keeps nothing never wants memory
abbrev pub ample_room : ℕ
ample_room = 2 ^ 64 - 1

-- for how many more clauses of at most four literals there is room
abbrev pub room_of : Option KeptClauses → ℕ
room_of None = ample_room
room_of (Some kept) = kept.room
