-- False literals in the order in which they became false, each once, none beside its negation, and the flags that tell which they are; and
-- for each of them why it is false.
use Rattle.std.specs.Prelude.{◌≡◌, ℕ, ◌<◌, true, false, ℤ, pos, neg_ℤ, List, [], ◌∷◌, ◌++◌, Option, Some, length, take, drop, set}
use Rattle.std.specs.Prelude.{if◌then◌else◌, slice_index_or}
use Rattle.drat_checker.specs.declared.flags.Flags.{Flags}
use Rattle.lrat_rules.specs.declared.by_literal.ByLiteral.{ByLiteral}
use Rattle.lrat_rules.specs.ByLiteral.{entry}
use Rattle.lrat_rules.specs.Chain.{literals_of}
use Rattle.drat_checker.specs.Flags.{is_set}

-- the literals, and for each the number of the clause that forced it; nothing where it was assumed
pub record Trail : Type 0 where
  pub literals : List ℤ
  pub reasons : List (Option ℕ)

-- no literal
abbrev pub no_literals : Trail
no_literals = record { literals = []; reasons = [] }

-- a literal at the end with its reason, unless it stands there already
abbrev pub with_reason : ℤ → Option ℕ → Trail → Trail
with_reason literal reason trail =
    if literals_of trail.literals literal then trail else record {
      literals = trail.literals ++ literal ∷ [];
      reasons = trail.reasons ++ reason ∷ [];
    }

-- the literal at a place is false by the clause of this number
abbrev pub with_other_reason : ℕ → ℕ → Trail → Trail
with_other_reason place number trail = record { literals = trail.literals; reasons = set trail.reasons place (Some number) }

-- the literal stands at this place
pub record IsAt (literals : List ℤ) (literal : ℤ) (place : ℕ) : Type 0 where
  pub within : place < length literals
  pub own : slice_index_or literals place (pos 0) ≡ literal

-- the first ones
abbrev pub cut : ℕ → Trail → Trail
cut count trail = record { literals = take count trail.literals; reasons = take count trail.reasons }

-- no literal stands beside its negation
pub record IsApart (literals : List ℤ) : Type 0 where
  pub apart : (x : ℤ) → literals_of literals x ≡ true → literals_of literals (neg_ℤ x) ≡ false

-- none that stands before a place stands behind it
pub record AreOnce (literals : List ℤ) : Type 0 where
  pub once : (place : ℕ) (x : ℤ) → literals_of (take place literals) x ≡ true → literals_of (drop place literals) x ≡ false

-- each literal has its place at hand
pub record ArePlaced (at : ByLiteral ℕ) (literals : List ℤ) : Type 0 where
  pub placed : (place : ℕ) → place < length literals → entry at (slice_index_or literals place (pos 0)) ≡ Some place

-- The flags that are set are those of the literals, none stands beside its negation, and none that stands before a place stands behind it.
-- Each has its reason, and its place at hand.
pub record IsFalseList (flags : Flags) (at : ByLiteral ℕ) (literals : List ℤ) (reasons : List (Option ℕ)) : Type 0 where
  pub apart : IsApart literals
  pub flagged : (x : ℤ) → is_set flags x ≡ literals_of literals x
  pub once : (place : ℕ) (x : ℤ) → literals_of (take place literals) x ≡ true → literals_of (drop place literals) x ≡ false
  pub many : length reasons ≡ length literals
  pub placed : ArePlaced at literals
