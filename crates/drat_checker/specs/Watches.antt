-- Two watched literals of each clause that has two different ones. A clause needs to be looked at only where one of them becomes false.
-- (Moskewicz, Madigan, Zhao, Zhang, Malik: Chaff, DAC 2001.)
use Rattle.std.specs.Prelude.{◌≡◌, ℕ, Bool, true, false, ◌||◌, ℤ, neg_ℤ, List, ◌++◌, length, take, Option, None, Some, is_some, slice_index_or}
use Rattle.std.specs.Prelude.{if◌then◌else◌}
use Rattle.std.specs.List.{list_any, list_all}
use Rattle.std.specs.Ordering.{int_eq}
use Rattle.lrat_rules.specs.Chain.{literals_of}
use Rattle.drat_checker.specs.declared.pair.Pair.{Pair}
use Rattle.drat_checker.specs.declared.watches.Watches.{Watches}
use Rattle.drat_checker.specs.declared.literal_lists.LiteralLists.{LiteralLists}
use Rattle.drat_checker.specs.Places.{Places, place_at}
use Rattle.drat_checker.specs.Numbers.{has_number}
use Rattle.drat_checker.specs.LiteralLists.{numbers_at}
use Rattle.drat_checker.specs.Database.{is_short}

-- the literal is one of the two
abbrev pub is_of : Pair → ℤ → Bool
is_of pair x = int_eq x pair.first || int_eq x pair.second

abbrev pub is_in : Option Pair → ℤ → Bool
is_in None x = false
is_in (Some pair) x = is_of pair x

-- what the clauses watch, by their numbers; a short clause watches nothing
abbrev pub Pairs : Type 0
Pairs = List (Option Pair)

abbrev pub pair_at : Pairs → ℕ → Option Pair
pair_at pairs number = slice_index_or pairs number None

-- the clause of the number watches the literal
abbrev pub watches : Pairs → ℕ → ℤ → Bool
watches pairs number x = is_in (pair_at pairs number) x

-- for each literal numbers, among them those of the clauses that watch it
abbrev pub Watchers : Type 0
Watchers = ℤ → List ℕ

abbrev pub watchers : LiteralLists → Watchers
watchers lists x = numbers_at lists x

-- those of two kinds of lists
abbrev pub beside : Watchers → Watchers → Watchers
beside one other x = one x ++ other x

-- the same while the list of one literal is taken out
abbrev pub watchers_with : LiteralLists → ℤ → List ℕ → Watchers
watchers_with lists literal out x = if int_eq x literal then out else numbers_at lists x

-- no literal loses a number from its watchers
pub record KeepsBoth (old new : Watchers) : Type 0 where
  pub kept : (number : ℕ) (x : ℤ) → has_number number (old x) ≡ true → has_number number (new x) ≡ true

-- the clause has a literal whose negation is false
abbrev pub is_true : List ℤ → List ℤ → Bool
is_true literals clause = list_any (λ y. literals_of literals (neg_ℤ y)) clause

-- all literals of the clause but this one are false
abbrev pub is_last : List ℤ → ℤ → List ℤ → Bool
is_last literals other clause = list_all (λ y. int_eq y other || literals_of literals y) clause

-- two different literals of the clause
pub record IsPair (pair : Pair) (clause : List ℤ) : Type 0 where
  pub first : literals_of clause pair.first ≡ true
  pub second : literals_of clause pair.second ≡ true
  pub apart : int_eq pair.first pair.second ≡ false

-- A clause that stands watches two different literals of its own, where it watches any; it does unless it is short.
pub record ArePairs (pairs : Pairs) (places : Places) : Type 0 where
  pub own : (number : ℕ) (clause : List ℤ) (pair : Pair) → place_at places number ≡ Some clause → pair_at pairs number ≡ Some pair
      → IsPair pair clause
  pub there : (number : ℕ) (clause : List ℤ) → place_at places number ≡ Some clause → is_short clause ≡ false
      → is_some (pair_at pairs number) ≡ true

-- and its number is among the watchers of each
pub record IsWatched (pairs : Pairs) (all : Watchers) (places : Places) : Type 0 where
  pub are : ArePairs pairs places
  pub listed : (number : ℕ) (clause : List ℤ) (x : ℤ) → place_at places number ≡ Some clause → watches pairs number x ≡ true
      → has_number number (all x) ≡ true

-- those of the lists, and of the late ones
abbrev pub all_watchers : Watches → Watchers
all_watchers kept = beside (watchers kept.lists) (watchers kept.late)

-- each number has its place among the pairs, and the clauses are watched
pub record AreWatched (kept : Watches) (places : Places) : Type 0 where
  pub many : length kept.pairs.items ≡ length places
  pub watched : IsWatched kept.pairs.items (all_watchers kept) places

-- where a literal that a clause watches is among the first ones, the clause is true by all
pub record IsGuarded (places : Places) (pairs : Pairs) (front literals : List ℤ) : Type 0 where
  pub guarded : (number : ℕ) (clause : List ℤ) (x : ℤ) → place_at places number ≡ Some clause → watches pairs number x ≡ true
      → literals_of front x ≡ true → is_true literals clause ≡ true

-- so it is but for the clauses that are among the late watchers of the literal
pub record IsGuardedBut (places : Places) (pairs : Pairs) (late : Watchers) (front literals : List ℤ) : Type 0 where
  pub guarded : (number : ℕ) (clause : List ℤ) (x : ℤ) → place_at places number ≡ Some clause → watches pairs number x ≡ true
      → literals_of front x ≡ true → (is_true literals clause || has_number number (late x)) ≡ true

-- what is watched now and is false was watched before
pub record MovesWatches (old new : Pairs) (literals : List ℤ) : Type 0 where
  pub moved : (number : ℕ) (x : ℤ) → watches new number x ≡ true → literals_of literals x ≡ true → watches old number x ≡ true

-- the short clauses are true
pub record AreTrue (places : Places) (literals : List ℤ) : Type 0 where
  pub holds : (number : ℕ) (clause : List ℤ) → place_at places number ≡ Some clause → is_short clause ≡ true
      → is_true literals clause ≡ true

-- each clause of these numbers that watches the literal is true, but those whose numbers are still to come
pub record AreVisited (places : Places) (pairs : Pairs) (literal : ℤ) (literals : List ℤ) (numbers left : List ℕ) : Type 0 where
  pub visited : (number : ℕ) (clause : List ℤ) → place_at places number ≡ Some clause → watches pairs number literal ≡ true
      → has_number number numbers ≡ true → (is_true literals clause || has_number number left) ≡ true

-- The first literals are propagated, but for the late clauses, and the first of these by all clauses.
pub record AreHeads (places : Places) (kept : Watches) (literals : List ℤ) (front back : ℕ) : Type 0 where
  pub next : IsGuardedBut places kept.pairs.items (watchers kept.late) (take front literals) literals
  pub late : IsGuarded places kept.pairs.items (take back literals) literals

-- Where propagation has ended: the short clauses are true, and so are those that watch a literal that is false.
pub record IsSettled (kept : Watches) (places : Places) (literals : List ℤ) : Type 0 where
  pub guarded : IsGuarded places kept.pairs.items literals literals
  pub holds : AreTrue places literals
