-- Hints that refute a clause in an LRAT proof: where one of the clauses that stand is false, its number and those of the clauses that
-- forced its literals, each before those that need it. Each of these forces a literal that wasn't false yet, and only the last one is a
-- conflict. (Cruz-Filipe, Heule, Hunt, Kaufmann, Schneider-Kamp: Efficient Certified RAT Verification, CADE 2017.)
use Rattle.std.specs.Prelude.{◌≡◌, ℕ, ◌+◌, ◌<◌, Bool, true, false, not, ◌||◌, ◌&&◌, ℤ, pos, neg_ℤ, List, None, Some, length, take, reverse}
use Rattle.std.specs.Prelude.{slice_index_or, if◌then◌else◌}
use Rattle.std.specs.List.{list_any, list_all}
use Rattle.cnf_base.specs.ProofText.{is_id}
use Rattle.lrat_rules.specs.State.{Live, clause_at}
use Rattle.lrat_rules.specs.Chain.{FalseSet, literals_of}
use Rattle.drat_checker.specs.declared.flags.Flags.{Flags}
use Rattle.drat_checker.specs.declared.hints.FirstConflict.{FirstConflict}
use Rattle.drat_checker.specs.Flags.{is_set}
use Rattle.drat_checker.specs.Places.{Place, Places, place_at}
use Rattle.drat_checker.specs.Trail.{Trail}
use Rattle.drat_checker.specs.Reasons.{AreByUnits, AreFree, AreReasons}
use Rattle.drat_checker.specs.Exact.{is_exact, is_held}

-- a literal of the clause stands beside its negation
abbrev pub is_tautology : List ℤ → Bool
is_tautology clause = list_any (λ x. literals_of clause (neg_ℤ x)) clause

-- the flags that are set are those of the literals
pub record AreMarks (flags : Flags) (literals : List ℤ) : Type 0 where
  pub flagged : (x : ℤ) → is_set flags x ≡ literals_of literals x

-- a clause that is no tautology
abbrev pub plain : Place → Place
plain None = None
plain (Some clause) = if is_tautology clause then None else Some clause

-- The clauses that are live in the LRAT proof are those that stand and are no tautologies, each under the number behind its own.
pub record AreLive (live : Live) (places : Places) : Type 0 where
  pub same : (number : ℕ) → clause_at live (number + 1) ≡ plain (place_at places number)
  pub none_at_zero : clause_at live 0 ≡ None

-- the marked literals are those that are assumed
pub record HasSame (given assumed : List ℤ) : Type 0 where
  pub same : (x : ℤ) → literals_of given x ≡ literals_of assumed x

-- The clause of this number stands, is no tautology, and has only literals that are false or assumed.
pub record IsConflict (places : Places) (literals assumed : List ℤ) (number : ℕ) : Type 0 where
  pub clause : List ℤ
  pub stands : place_at places number ≡ Some clause
  pub plain : is_tautology clause ≡ false
  pub falsified : list_all (λ x. literals_of literals x || literals_of assumed x) clause ≡ true

-- so it is by the first literals, none of which is the negation of one that is assumed
pub record IsFirstConflict (places : Places) (literals assumed : List ℤ) (first : FirstConflict) : Type 0 where
  pub conflict : IsConflict places (take first.count literals) assumed first.number
  pub free : AreFree (take first.count literals) assumed

-- the literal at a place is the negation of one that is given, and none before it is
pub record IsFirstOpposed (literals given : List ℤ) (place : ℕ) : Type 0 where
  pub within : place < length literals
  pub negation : literals_of given (neg_ℤ (slice_index_or literals place (pos 0))) ≡ true
  pub free : AreFree (take place literals) given

-- no literal is the negation of one that is given
pub record NoneClashes (trail : Trail) (given : List ℤ) : Type 0 where
  pub none : AreFree trail.literals given

-- one is, and is assumed itself
pub record ClashesAssumed (trail : Trail) (given : List ℤ) : Type 0 where
  pub place : ℕ
  pub within : place < length trail.literals
  pub negation : literals_of given (neg_ℤ (slice_index_or trail.literals place (pos 0))) ≡ true
  pub reason : slice_index_or trail.reasons place None ≡ None

-- the first one that is was forced by the clause of this number
pub record IsFirstClash (trail : Trail) (given : List ℤ) (first : FirstConflict) : Type 0 where
  pub within : first.count < length trail.literals
  pub negation : literals_of given (neg_ℤ (slice_index_or trail.literals first.count (pos 0))) ≡ true
  pub reason : slice_index_or trail.reasons first.count None ≡ Some first.number
  pub free : AreFree (take first.count trail.literals) given

-- the clause of this number has the literal
pub record IsHeldAt (places : Places) (number : ℕ) (x : ℤ) : Type 0 where
  pub clause : List ℤ
  pub stands : place_at places number ≡ Some clause
  pub own : literals_of clause x ≡ true

-- the literal at a place isn't given, and was forced by the clause of this number
pub record IsForcedAt (trail : Trail) (given : List ℤ) (place number : ℕ) : Type 0 where
  pub new : literals_of given (slice_index_or trail.literals place (pos 0)) ≡ false
  pub reason : slice_index_or trail.reasons place None ≡ Some number

-- the first literals, but for those that were taken
abbrev pub untaken : FirstConflict → Trail → List ℤ → FalseSet
untaken first trail taken x = literals_of (take first.count trail.literals) x && not (literals_of taken x)

-- what a search for hints begins with
pub record IsStart (places : Places) (trail : Trail) (given assumed : List ℤ) (first : FirstConflict) : Type 0 where
  pub same : HasSame given assumed
  pub reasons : AreReasons places assumed trail
  pub units : AreByUnits places places trail
  pub conflict : IsFirstConflict places trail.literals assumed first

-- The hints are numbers in their range, and an exact refutation of what is assumed.
pub record Refute (places : Places) (trail : Trail) (given : List ℤ) (first : FirstConflict) (hints : List ℕ) : Type 0 where
  pub ids : list_all is_id hints ≡ true
  pub exact : (live : Live) (assumed : List ℤ) (n : FalseSet) → AreLive live places → IsStart places trail given assumed first
      → ((x : ℤ) → n x ≡ literals_of assumed x) → is_exact live n hints ≡ true

-- So are these, found from the conflict back, from each set that has besides no literals but those that are left, and of these all that are
-- needed. What is needed stands in one of their clauses.
pub record RefuteSoFar (places : Places) (trail : Trail) (given : List ℤ) (first : FirstConflict) (left needed : FalseSet)
    (found : List ℕ) : Type 0 where
  pub ids : list_all is_id found ≡ true
  pub held : (live : Live) (assumed : List ℤ) → AreLive live places → IsStart places trail given assumed first → (x : ℤ)
      → needed x ≡ true → is_held live (reverse found) x ≡ true
  pub exact : (live : Live) (assumed : List ℤ) (n : FalseSet) → AreLive live places → IsStart places trail given assumed first
      → list_all n assumed ≡ true → ((x : ℤ) → left x ≡ true → needed x ≡ true → n x ≡ true)
      → ((x : ℤ) → n x ≡ true → (literals_of assumed x || left x) ≡ true) → is_exact live n (reverse found) ≡ true
