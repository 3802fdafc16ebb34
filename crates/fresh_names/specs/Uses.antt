-- Which variables above the formula's come into use in a proof, in turn: with each clause that is added, those that no clause holds that
-- stands.
use Rattle.std.specs.Prelude.{ℕ, Bool, not, ◌&&◌, ℤ, nat_abs, List, [], ◌∷◌, ◌++◌, nat_eq, nat_lt, if◌then◌else◌}
use Rattle.std.specs.List.{list_any}
use Rattle.drat_text.specs.declared.step.DratStep.{DratStep}
use Rattle.drat_text.specs.declared.step.DratStep.TheVariants.{Add as adds, Delete as deletes}
use Rattle.drat_rules.specs.Clauses.{without_first}

-- some clause holds the variable
abbrev pub is_in_use : List (List ℤ) → ℕ → Bool
is_in_use clauses v = list_any (list_any (λ x. nat_eq v (nat_abs x))) clauses

-- the variable is above these, and no clause holds it
abbrev pub is_unused : ℕ → List (List ℤ) → ℕ → Bool
is_unused vars clauses v = nat_lt vars v && not (is_in_use clauses v)

-- the variables that come into use with these literals, in their order, each once: beside a literal, those before it stand
abbrev pub come_with : ℕ → List (List ℤ) → List ℤ → List ℕ
come_with vars clauses [] = []
come_with vars clauses (x ∷ xs) =
    (if is_unused vars clauses (nat_abs x) then nat_abs x ∷ [] else []) ++ come_with vars (clauses ++ (x ∷ []) ∷ []) xs

-- those that come into use with steps
abbrev pub come_into_use : ℕ → List (List ℤ) → List DratStep → List ℕ
come_into_use vars clauses [] = []
come_into_use vars clauses (adds clause ∷ steps) =
    come_with vars clauses clause ++ come_into_use vars (clauses ++ clause ∷ []) steps
come_into_use vars clauses (deletes clause ∷ steps) = come_into_use vars (without_first clause clauses) steps
