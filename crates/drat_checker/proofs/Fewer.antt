-- What is watched and what is known of the roots where a place is emptied.
use Rattle.std.proofs.Common.{◌≡◌, true, ap, ℕ, ℤ, List, [], length-set, set, None, sym, ◌∙◌}
use Rattle.lrat_rules.specs.Chain.{literals_of}
use Rattle.drat_rules.specs.Quiet.{closed_under}
use Rattle.drat_checker.specs.declared.watches.Watches.{Watches}
use Rattle.drat_checker.specs.Places.{Places}
use Rattle.drat_checker.specs.Watches.{AreWatched, IsSettled, watches}
use Rattle.drat_checker.specs.Trail.{Trail}
use Rattle.drat_checker.specs.Reasons.{IsNoReason}
use Rattle.drat_checker.specs.declared.roots.Roots.{Roots}
use Rattle.drat_checker.specs.declared.roots.Roots.TheVariants.{Lost, Stale, Settled, Clash}
use Rattle.drat_checker.specs.Roots.{AreKept, AreRoots}
use Rattle.drat_checker.proofs.Standing.{all-emptied, place-set}
use Rattle.drat_checker.proofs.Cited.{derives-reasons, reasons-emptied}
use Rattle.drat_checker.proofs.Units.{units-emptied}

module _ (places : Places) (number : ℕ) where
  pub watched-fewer : (kept : Watches) → AreWatched kept places → AreWatched kept (set places number None)
  watched-fewer kept w = record {
    many = w.many ∙ sym (length-set places number None);
    watched = record {
      are = record {
        own = λ n c pair at is. w.watched.are.own n c pair (place-set places number n c at) is;
        there = λ n c at long. w.watched.are.there n c (place-set places number n c at) long;
      };
      listed = λ n c x at watched. w.watched.listed n c x (place-set places number n c at) watched;
    };
  }

  settled-fewer : (kept : Watches) (literals : List ℤ) → IsSettled kept places literals → IsSettled kept (set places number None) literals
  settled-fewer kept literals s = record {
    guarded = record { guarded = λ n c x at watched m. s.guarded.guarded n c x (place-set places number n c at) watched m };
    holds = record { holds = λ n c at short. s.holds.holds n c (place-set places number n c at) short };
  }

  pub roots-fewer : (kept : Watches) (trail : Trail) → IsNoReason trail number → AreRoots places kept trail
      → AreRoots (set places number None) kept trail
  roots-fewer kept trail none roots =
      let reasons = reasons-emptied places number [] trail none roots.reasons in
      record {
        derives = derives-reasons (set places number None) trail reasons;
        closed = record { closed = all-emptied (closed_under (literals_of trail.literals)) places number roots.closed.closed };
        settled = settled-fewer kept trail.literals roots.settled;
        reasons = reasons;
        units = units-emptied places number trail none roots.units;
      }

-- What is known stays where the clauses are watched still, by the same literals.
module _ (places : Places) (kept kept' : Watches) (trail : Trail) (pairs : kept'.pairs ≡ kept.pairs)
    (watched : AreWatched kept places → AreWatched kept' places) where
  same-watch : (n : ℕ) (x : ℤ) → watches kept'.pairs.items n x ≡ true → watches kept.pairs.items n x ≡ true
  same-watch n x w = ap (λ p. watches p.items n x) (sym pairs) ∙ w

  pub roots-postponed : AreRoots places kept trail → AreRoots places kept' trail
  roots-postponed roots = record {
    derives = roots.derives;
    closed = roots.closed;
    settled = record {
      guarded = record {
        guarded = λ n clause x at w m. roots.settled.guarded.guarded n clause x at (same-watch n x w) m;
      };
      holds = roots.settled.holds;
    };
    reasons = roots.reasons;
    units = roots.units;
  }

pub kept-postponed : (roots : Roots) (places : Places) (kept kept' : Watches) (trail : Trail) → kept'.pairs ≡ kept.pairs
    → (AreWatched kept places → AreWatched kept' places) → AreKept roots places kept trail → AreKept roots places kept' trail
kept-postponed Lost places kept kept' trail pairs watched are = tt
kept-postponed Stale places kept kept' trail pairs watched are = watched are
kept-postponed Settled places kept kept' trail pairs watched are =
    (watched are.0, roots-postponed places kept kept' trail pairs watched are.1)
kept-postponed (Clash number) places kept kept' trail pairs watched are = (watched are.0, are.1)
