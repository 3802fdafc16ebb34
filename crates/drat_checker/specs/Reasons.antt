-- Why each literal of a trail is false: it is assumed, or the clause of its reason forces its negation under the literals before it. (Such
-- a clause is the literal's antecedent in the implication graph: Marques Silva, Sakallah: GRASP, ICCAD 1996.)
use Rattle.std.specs.Prelude.{◌≡◌, ℕ, ◌<◌, Bool, true, false, ℤ, pos, neg_ℤ, List, [], ◌++◌, Option, None, Some, length, take}
use Rattle.std.specs.Prelude.{slice_index_or}
use Rattle.std.specs.List.{list_all}
use Rattle.lrat_rules.specs.declared.outcome.Effect.TheVariants.{Unit as Forced}
use Rattle.lrat_rules.specs.Chain.{literals_of, effect}
use Rattle.drat_checker.specs.declared.addition.Refutation.{Refutation}
use Rattle.drat_checker.specs.declared.addition.Refutation.TheVariants.{Clash, Conflict}
use Rattle.drat_checker.specs.Places.{Place, Places, place_at}
use Rattle.drat_checker.specs.Propagation.{makes_false}
use Rattle.drat_checker.specs.Trail.{IsAt, Trail}
use Rattle.drat_checker.specs.Database.{is_short}

-- the clause of the place makes the literal false where those of the front are
abbrev pub place_forces : List ℤ → ℤ → Place → Bool
place_forces front x None = false
place_forces front x (Some clause) = makes_false x (effect (literals_of front) clause)

-- why a literal is false behind a front
abbrev pub is_reason : Places → List ℤ → List ℤ → ℤ → Option ℕ → Bool
is_reason places assumed front x None = literals_of assumed x
is_reason places assumed front x (Some number) = place_forces front x (place_at places number)

-- each literal has its reason
pub record AreReasons (places : Places) (assumed : List ℤ) (trail : Trail) : Type 0 where
  pub many : length trail.reasons ≡ length trail.literals
  pub reason : (k : ℕ) → k < length trail.literals → is_reason places assumed (take k trail.literals)
      (slice_index_or trail.literals k (pos 0)) (slice_index_or trail.reasons k None) ≡ true

-- the clause of this number is the reason of none
pub record IsNoReason (trail : Trail) (number : ℕ) : Type 0 where
  pub other : (k : ℕ) → k < length trail.literals → slice_index_or trail.reasons k None ≡ Some number → ⊥

-- The reasons that were there stay, and what comes behind them is forced, or is one of the literals that are assumed beside.
pub record KeepsReasons (places : Places) (more : List ℤ) (old new : Trail) : Type 0 where
  pub kept : (assumed : List ℤ) → list_all (literals_of assumed) more ≡ true → AreReasons places assumed old
      → AreReasons places assumed new
  pub rest : List (Option ℕ)
  pub parts : new.reasons ≡ old.reasons ++ rest

-- the reason is a clause of one literal, however often
abbrev pub is_short_place : Place → Bool
is_short_place None = false
is_short_place (Some clause) = is_short clause

abbrev pub is_by_unit : Places → Option ℕ → Bool
is_by_unit places None = false
is_by_unit places (Some number) = is_short_place (place_at places number)

-- so is each
pub record AllByUnits (places : Places) (trail : Trail) : Type 0 where
  pub all : list_all (is_by_unit places) trail.reasons ≡ true

-- It is for each literal whose negation is the one literal of some clause. The clauses are those that are asked about.
pub record AreByUnits (asked places : Places) (trail : Trail) : Type 0 where
  pub unit : (k number : ℕ) (clause : List ℤ) (y : ℤ) → IsAt trail.literals (neg_ℤ y) k → place_at asked number ≡ Some clause
      → effect (literals_of []) clause ≡ Forced y → is_by_unit places (slice_index_or trail.reasons k None) ≡ true

-- these literals are false, and each false one has its reason, a unit clause where there is one
pub record AreAssumed (places : Places) (assumed : List ℤ) (trail : Trail) : Type 0 where
  pub reasons : AreReasons places assumed trail
  pub units : AreByUnits places places trail
  pub held : list_all (literals_of trail.literals) assumed ≡ true

-- the clause of this number stands, and each of its literals is false
pub record IsFalsified (places : Places) (literals : List ℤ) (number : ℕ) : Type 0 where
  pub clause : List ℤ
  pub stands : place_at places number ≡ Some clause
  pub falsified : list_all (literals_of literals) clause ≡ true

-- none of these literals is the negation of one that is assumed
pub record AreFree (literals assumed : List ℤ) : Type 0 where
  pub free : (x : ℤ) → literals_of literals x ≡ true → literals_of assumed (neg_ℤ x) ≡ false

-- the literal is one of those that are assumed, and its negation is false
pub record ClashesAt (trail : Trail) (assumed : List ℤ) (literal : ℤ) : Type 0 where
  pub own : literals_of assumed literal ≡ true
  pub negation : literals_of trail.literals (neg_ℤ literal) ≡ true

abbrev pub Refutes : Places → Trail → List ℤ → Refutation → Type 0
Refutes places trail assumed (Clash literal) = ClashesAt trail assumed literal
Refutes places trail assumed (Conflict number) = IsFalsified places trail.literals number × AreFree trail.literals assumed
