-- Lines of an LRAT proof that say what is needed and no more: hints that refute the clause, or a group for each candidate. Each hint but the
-- last forces a literal that wasn't forced yet, whose negation a later hint's clause has; where a live clause has that literal alone, the hint
-- is such a clause. The last hint is the conflict. The hints of a group begin with the literals that are false then: those of the clause, and
-- the candidate's others. (Cruz-Filipe, Heule, Hunt, Kaufmann, Schneider-Kamp: Efficient Certified RAT Verification, CADE 2017.)
use Rattle.std.specs.Prelude.{ℕ, Bool, false, not, ◌&&◌, ◌||◌, ℤ, neg_ℤ, List, [], ◌∷◌, Option, None, Some, if◌then◌else◌}
use Rattle.std.specs.List.{list_all, list_any}
use Rattle.std.specs.Ordering.{int_eq}
use Rattle.std.specs.FinMap as map
use Rattle.cnf_base.specs.declared.list.Group.{Group}
use Rattle.cnf_base.specs.ProofText.{is_empty}
use Rattle.lrat_rules.specs.declared.outcome.Effect.{Effect}
use Rattle.lrat_rules.specs.declared.outcome.Effect.TheVariants.{Conflict, Unit as Forced, NotUnit}
use Rattle.lrat_rules.specs.State.{Live, clause_at}
use Rattle.lrat_rules.specs.Chain.{FalseSet, effect, literals_of, with_literal}
use Rattle.lrat_rules.specs.Addition.{if_live, is_blocked_by, with_candidate}
use Rattle.drat_checker.specs.Database.{is_short}

-- the clause of one of these hints has the literal
abbrev pub is_held : Live → List ℕ → ℤ → Bool
is_held live hints x = list_any (λ hint. if_live (λ clause. literals_of clause x) (clause_at live hint)) hints

-- the clause has this literal alone, however often
abbrev pub forces_it : ℤ → Effect → Bool
forces_it y Conflict = false
forces_it y (Forced z) = int_eq z y
forces_it y NotUnit = false

abbrev pub is_unit_of : ℤ → List ℤ → Bool
is_unit_of y clause = forces_it y (effect (literals_of []) clause)

-- such a clause is live
abbrev pub has_unit : Live → ℤ → Bool
has_unit live y = list_any (λ id. if_live (is_unit_of y) (clause_at live id)) (map.keys live)

-- the clause that forces the literal is such a one, where one is live
abbrev pub is_direct : Live → List ℤ → ℤ → Bool
is_direct live clause y = not (has_unit live y) || is_short clause

abbrev pub is_exact_effect : Live → List ℤ → List ℕ → FalseSet → (FalseSet → Bool) → Effect → Bool
is_exact_effect live clause hints n more Conflict = is_empty hints
is_exact_effect live clause hints n more (Forced y) =
    not (n (neg_ℤ y)) && (is_held live hints (neg_ℤ y) && (is_direct live clause y && more (with_literal (neg_ℤ y) n)))
is_exact_effect live clause hints n more NotUnit = false

abbrev pub is_exact_hint : Live → List ℕ → FalseSet → (FalseSet → Bool) → Option (List ℤ) → Bool
is_exact_hint live hints n more None = false
is_exact_hint live hints n more (Some clause) = is_exact_effect live clause hints n more (effect n clause)

-- hints that refute what is false, and are exact
abbrev pub is_exact : Live → FalseSet → List ℕ → Bool
is_exact live n [] = false
is_exact live n (hint ∷ hints) = is_exact_hint live hints n (λ n'. is_exact live n' hints) (clause_at live hint)

-- the hints of a candidate refute it; one that is blocked has none
abbrev pub is_exact_candidate : Live → FalseSet → ℤ → List ℤ → List ℕ → Bool
is_exact_candidate live n pivot clause hints =
    if is_blocked_by n pivot clause then is_empty hints else is_exact live (with_candidate n pivot clause) hints

abbrev pub is_exact_group_at : Live → FalseSet → ℤ → List ℕ → Option (List ℤ) → Bool
is_exact_group_at live n pivot hints None = false
is_exact_group_at live n pivot hints (Some clause) = is_exact_candidate live n pivot clause hints

abbrev pub is_exact_group : Live → FalseSet → ℤ → Group → Bool
is_exact_group live n pivot group = is_exact_group_at live n pivot group.hints (clause_at live group.id)

abbrev pub are_exact_groups : Live → List ℤ → List Group → Bool
are_exact_groups live [] groups = false
are_exact_groups live (pivot ∷ others) groups = list_all (is_exact_group live (literals_of (pivot ∷ others)) pivot) groups

-- hints alone, or groups alone
abbrev pub is_exact_line : Live → List ℤ → List ℕ → List Group → Bool
is_exact_line live clause [] groups = are_exact_groups live clause groups
is_exact_line live clause (hint ∷ hints) groups = is_exact live (literals_of clause) (hint ∷ hints) && is_empty groups
