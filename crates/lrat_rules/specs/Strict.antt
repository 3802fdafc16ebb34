-- The two kinds of addition that the solver writes. A strict refutation uses each of its hints: each but the last
-- forces a literal that wasn't forced before, the last is the conflict. A definition names all its candidates, and
-- each of them is blocked. (Extended resolution: Tseitin: On the Complexity of Derivation in Propositional Calculus, 1968.)
use Rattle.std.specs.Prelude.{◌≡◌, ℕ, Bool, false, not, ◌&&◌, ℤ, neg_ℤ, List, [], ◌∷◌, Option, None, Some, IsTrue, ◌==◌}
use Rattle.std.specs.List.{list_any}
use Rattle.cnf_base.specs.ProofText.{is_empty}
use Rattle.lrat_rules.specs.declared.outcome.Effect.{Effect}
use Rattle.lrat_rules.specs.declared.outcome.Effect.TheVariants.{Conflict, Unit as Forced, NotUnit}
use Rattle.lrat_rules.specs.State.{Live, clause_at}
use Rattle.lrat_rules.specs.Chain.{FalseSet, literals_of, with_literal, effect}
use Rattle.lrat_rules.specs.Addition.{is_candidate, is_blocked}

abbrev pub is_strict_effect : FalseSet → Bool → (FalseSet → Bool) → Effect → Bool
is_strict_effect n last more Conflict = last
is_strict_effect n last more (Forced literal) = not (n (neg_ℤ literal)) && more (with_literal (neg_ℤ literal) n)
is_strict_effect n last more NotUnit = false

abbrev pub is_strict_hint : FalseSet → Bool → (FalseSet → Bool) → Option (List ℤ) → Bool
is_strict_hint n last more None = false
is_strict_hint n last more (Some clause) = is_strict_effect n last more (effect n clause)

abbrev pub is_strict : Live → FalseSet → List ℕ → Bool
is_strict live n [] = false
is_strict live n (hint ∷ hints) = is_strict_hint n (is_empty hints) (λ n'. is_strict live n' hints) (clause_at live hint)

-- the hints are a strict refutation of the clause's negation
pub record RefutesStrictly (live : Live) (clause : List ℤ) (hints : List ℕ) : Type 0 where
  pub strict : IsTrue (is_strict live (literals_of clause) hints)

-- the clause has a first literal, its candidates are exactly these, and each is blocked
pub record IsDefinition (live : Live) (clause : List ℤ) (candidates : List ℕ) : Type 0 where
  pub pivot : ℤ
  pub others : List ℤ
  pub first : clause ≡ pivot ∷ others
  pub named : (id : ℕ) → is_candidate live pivot id ≡ list_any (λ candidate. candidate == id) candidates
  pub blocked : (id : ℕ) → IsTrue (is_candidate live pivot id) → IsTrue (is_blocked live (literals_of clause) pivot id)
