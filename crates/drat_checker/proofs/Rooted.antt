-- The roots as clauses come and go.
use Rattle.std.proofs.Common.{◌≡◌, false, ℤ, List, [], ◌∷◌, ◌++◌, refl, sym, ◌∙◌}
use Rattle.std.specs.List.{list_all}
use Rattle.std.proofs.lemmas.Bool.{and_parts}
use Rattle.std.proofs.lemmas.List.Folds.{list_all-append}
use Rattle.drat_rules.specs.Quiet.{closed_under, has_quiet}
use Rattle.drat_checker.specs.Propagation.{Derives}
use Rattle.drat_checker.proofs.Propagated.{NoneLaw, FailsLaw, ForcedLaw, has_quiet-same}
use Rattle.drat_checker.proofs.Derived.{derives-same}

-- where propagation comes to a conflict, it does with a clause more, and from more literals
pub clash-more : NoneLaw → FailsLaw → (clauses : List (List ℤ)) (clause : List ℤ) → has_quiet clauses [] ≡ false
    → has_quiet (clauses ++ clause ∷ []) [] ≡ false
clash-more none fails clauses clause h =
    fails (clauses ++ clause ∷ []) [] (λ q quiet has. none clauses [] h q (record {
      apart = quiet.apart;
      closed = (and_parts (list_all (closed_under q) clauses) _
          (sym (list_all-append (closed_under q) clauses (clause ∷ [])) ∙ quiet.closed)).0;
    }) refl)

pub clash-under : NoneLaw → FailsLaw → (clauses : List (List ℤ)) (literals : List ℤ) → has_quiet clauses [] ≡ false
    → has_quiet clauses literals ≡ false
clash-under none fails clauses literals h = fails clauses literals (λ q quiet has. none clauses [] h q quiet refl)

-- literals that propagation finds from the clauses alone
pub clash-from : NoneLaw → FailsLaw → ForcedLaw → (clauses : List (List ℤ)) (literals : List ℤ) → Derives clauses [] literals
    → has_quiet clauses literals ≡ false → has_quiet clauses [] ≡ false
clash-from none fails forced clauses literals d h = has_quiet-same none fails clauses [] literals (derives-same forced d) ∙ h
