-- The words of the soundness law: what a good step does to an assignment that satisfies the live clauses. (Järvisalo,
-- Heule, Biere: Inprocessing Rules, IJCAR 2012: a RAT clause keeps satisfiability.)
use Rattle.std.specs.Prelude.{◌≡◌, ◌⊎◌, ℕ, suc, Bool, true, false, ℤ, pos, negsuc, nat_abs, List, [], ◌∷◌, Option, None, Some, IsTrue}
use Rattle.std.specs.Prelude.{nat_lt, ◌==◌, if◌then◌else◌}
use Rattle.std.specs.List.{list_all}
use Rattle.cnf_base.specs.declared.step.Step.{Step}
use Rattle.cnf_base.specs.declared.step.Step.TheVariants.{Add, Delete}
use Rattle.cnf_base.specs.Truth.{Assignment}
use Rattle.cnf_base.specs.ProofText.{Line}
use Rattle.lrat_rules.specs.State.{Live, clause_at, SatisfiesLive}

-- the assignment, changed so that the literal holds
abbrev pub make_true : ℤ → Assignment → Assignment
make_true (pos n) a x = if x == n then true else a x
make_true (negsuc n) a x = if x == suc n then false else a x

-- the literal names a variable: it isn't 0, whose negation would be itself
abbrev pub is_nonzero : ℤ → Bool
is_nonzero literal = nat_lt 0 (nat_abs literal)

-- no literal of the clause is 0
abbrev pub has_no_zero : List ℤ → Bool
has_no_zero clause = list_all is_nonzero clause

-- no literal of a live clause is 0
abbrev pub LiveHasNoZero : Live → Type 0
LiveHasNoZero live = (id : ℕ) (clause : List ℤ) → clause_at live id ≡ Some clause → IsTrue (has_no_zero clause)

-- no literal that the step adds is 0
abbrev pub step_has_no_zero : Step → Bool
step_has_no_zero (Add id clause hints groups) = has_no_zero clause
step_has_no_zero (Delete id ids) = true

-- no literal that the line adds is 0
abbrev pub line_has_no_zero : Option Step → Bool
line_has_no_zero None = true
line_has_no_zero (Some step) = step_has_no_zero step

-- no literal that the lines add is 0
abbrev pub lines_have_no_zero : List Line → Bool
lines_have_no_zero lines = list_all (λ line. line_has_no_zero line.step) lines

-- the live clauses hold under the assignment, or under it with the clause's first literal made true
abbrev pub SatisfiesUpToPivot : Assignment → List ℤ → Live → Type 0
SatisfiesUpToPivot a [] live = SatisfiesLive a live
SatisfiesUpToPivot a (pivot ∷ clause) live = SatisfiesLive a live ⊎ SatisfiesLive (make_true pivot a) live
