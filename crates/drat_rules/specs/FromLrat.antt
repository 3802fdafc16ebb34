-- The clauses that stand at a line of an LRAT proof, which have numbers, and those at a step of a DRAT proof, which are a
-- list: when they are the same. Which of two equal clauses has which number, or stands first, doesn't matter then.
use Rattle.std.specs.Prelude.{◌≡◌, ℕ, ◌<◌, ℤ, List, None}
use Rattle.std.specs.FinMap as map
use Rattle.lrat_rules.specs.State.{State, Live, clause_at}
use Rattle.drat_rules.specs.Clauses.{count_of}

-- each list of literals stands as often under live numbers as in the list
pub record HaveSame (live : Live) (clauses : List (List ℤ)) : Type 0 where
  pub counts : (clause : List ℤ) → count_of clause (map.values live) ≡ count_of clause clauses

-- the list has the live clauses of this state, in which no number above the greatest so far is live
pub record IsListOf (state : State) (clauses : List (List ℤ)) : Type 0 where
  pub same : HaveSame state.live clauses
  pub none_above : (id : ℕ) → state.top < id → clause_at state.live id ≡ None
