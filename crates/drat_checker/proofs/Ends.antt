-- Where propagation ends: with a conflict, or with a quiet set.
use Rattle.std.proofs.Common.{◌≡◌, ℕ, Bool, true, false, not, ℤ, List, Option, None, Some, IfSome, is_some, refl}
use Rattle.std.specs.Option.{option_map}
use Rattle.std.specs.Prelude.{IsTrue, IsFalse}
use Rattle.drat_rules.specs.Quiet.{has_quiet}
use Rattle.drat_checker.specs.declared.addition.Refutation.TheVariants.{Conflict}
use Rattle.drat_checker.specs.Places.{Places}
use Rattle.drat_checker.specs.Reasons.{AreFree, IsFalsified, Refutes}
use Rattle.drat_checker.specs.Propagation.{IsClosed, SameQuiet}
use Rattle.drat_checker.specs.Trail.{IsApart, Trail}
use Rattle.drat_checker.proofs.Propagated.{NoneLaw, FailsLaw, ended, refuted, same-then}

pub ends-with : NoneLaw → FailsLaw → (clauses : List (List ℤ)) (start begun new : List ℤ) (conflict : Bool) → SameQuiet clauses start begun
    → SameQuiet clauses begun new → IsApart new → (IsTrue conflict → has_quiet clauses begun ≡ false)
    → (IsFalse conflict → IsClosed clauses new) → conflict ≡ not (has_quiet clauses start)
ends-with none fails clauses start begun new true s t apart clash ended-so = refuted none fails clauses start begun s (clash refl)
ends-with none fails clauses start begun new false s t apart clash ended-so =
    ended none fails clauses start new (same-then s t) apart (ended-so refl).closed

-- what a conflict's number refutes
pub some-map : (o : Option ℕ) → is_some (option_map Conflict o) ≡ is_some o
some-map None = refl
some-map (Some number) = refl

pub refuted-by : (places : Places) (trail : Trail) (assumed : List ℤ) (o : Option ℕ) → IfSome o (IsFalsified places trail.literals)
    → AreFree trail.literals assumed → IfSome (option_map Conflict o) (Refutes places trail assumed)
refuted-by places trail assumed None h free = tt
refuted-by places trail assumed (Some number) h free = (h, free)
