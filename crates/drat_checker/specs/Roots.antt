-- The literals that are false whatever is added: propagation finds them from the clauses alone.
use Rattle.std.specs.Prelude.{◌≡◌, ℕ, false, ℤ, List, [], ◌∷◌, ◌++◌, length, true, Some, ⊤}
use Rattle.lrat_rules.specs.declared.outcome.Effect.TheVariants.{NotUnit}
use Rattle.lrat_rules.specs.Chain.{literals_of, effect}
use Rattle.drat_rules.specs.Quiet.{has_quiet}
use Rattle.drat_checker.specs.declared.roots.Roots.{Roots}
use Rattle.drat_checker.specs.declared.roots.Roots.TheVariants.{Lost, Stale, Settled, Clash}
use Rattle.drat_checker.specs.declared.watches.Watches.{Watches}
use Rattle.drat_checker.specs.Places.{Places, standing}
use Rattle.drat_checker.specs.Propagation.{Derives, IsClosed}
use Rattle.drat_checker.specs.Trail.{Trail}
use Rattle.drat_checker.specs.Reasons.{AreByUnits, AreReasons, IsFalsified}
use Rattle.drat_checker.specs.Watches.{AreTrue, AreWatched, IsGuarded, IsSettled, is_in, pair_at}

-- propagation from nothing ends with these literals, each of which has a unit clause as its reason where there is one
pub record AreRoots (places : Places) (kept : Watches) (trail : Trail) : Type 0 where
  pub derives : Derives (standing places) [] trail.literals
  pub closed : IsClosed (standing places) trail.literals
  pub settled : IsSettled kept places trail.literals
  pub reasons : AreReasons places [] trail
  pub units : AreByUnits places places trail

-- propagation from nothing comes to a conflict with these literals: the clause of this number is false
pub record IsClash (places : Places) (trail : Trail) (number : ℕ) : Type 0 where
  pub none : has_quiet (standing places) [] ≡ false
  pub reasons : AreReasons places [] trail
  pub units : AreByUnits places places trail
  pub falsified : IsFalsified places trail.literals number

-- that the clauses are watched, and what is known of the literals: nothing, that they are the roots, or that propagation from nothing comes
-- to a conflict
abbrev pub AreKept : Roots → Places → Watches → Trail → Type 0
AreKept Lost places kept trail = ⊤
AreKept Stale places kept trail = AreWatched kept places
AreKept Settled places kept trail = AreWatched kept places × AreRoots places kept trail
AreKept (Clash number) places kept trail = AreWatched kept places × IsClash places trail number

-- what was known before the last clause came, which has this number
pub record WereKept (roots : Roots) (places : Places) (number : ℕ) (clause : List ℤ) (watches : Watches) (trail : Trail) : Type 0 where
  pub before : Places
  pub last : number ≡ length before
  pub is : places ≡ before ++ Some clause ∷ []
  pub kept : AreKept roots before watches trail

-- The last clause came where the roots were known: those of the others are derived still, and where it forces nothing it watches nothing
-- false.
pub record IsGrowing (places : Places) (number : ℕ) (clause : List ℤ) (watches : Watches) (trail : Trail) : Type 0 where
  pub before : Places
  pub last : number ≡ length before
  pub is : places ≡ before ++ Some clause ∷ []
  pub derives : Derives (standing before) [] trail.literals
  pub reasons : AreReasons before [] trail
  pub units : AreByUnits before before trail
  pub holds : AreTrue before trail.literals
  pub guarded : IsGuarded before watches.pairs.items trail.literals trail.literals
  pub unfalse : effect (literals_of trail.literals) clause ≡ NotUnit → (x : ℤ) → is_in (pair_at watches.pairs.items (length before)) x ≡
      true
      → literals_of trail.literals x ≡ false
