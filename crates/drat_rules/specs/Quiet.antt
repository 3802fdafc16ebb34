-- Whether unit propagation from a clause's negation comes to a conflict, told without propagation: by the sets of false
-- literals at which propagation ends without one. Such a set is quiet: it has no literal beside its negation, no clause is
-- false under it, and where a clause has a single literal that isn't false, the negation of this one is in the set.
-- Propagation comes to a conflict where no quiet set has the clause's literals. (Reverse unit propagation: Wetzler, Heule,
-- Hunt: DRAT-trim, SAT 2014.)
use Rattle.std.specs.Prelude.{◌≡◌, Bool, true, false, not, ◌||◌, ◌&&◌, ℤ, neg_ℤ, List, [], ◌∷◌, IsTrue, if◌then◌else◌}
use Rattle.std.specs.List.{list_all, flat_map}
use Rattle.lrat_rules.specs.declared.outcome.Effect.{Effect}
use Rattle.lrat_rules.specs.declared.outcome.Effect.TheVariants.{Conflict, Unit as Forced, NotUnit}
use Rattle.lrat_rules.specs.Chain.{FalseSet, literals_of, effect}

-- an effect that adds nothing to the set
abbrev pub adds_nothing : FalseSet → Effect → Bool
adds_nothing n Conflict = false
adds_nothing n (Forced literal) = n (neg_ℤ literal)
adds_nothing n NotUnit = true

-- propagation on this clause finds nothing new
abbrev pub closed_under : FalseSet → List ℤ → Bool
closed_under n clause = adds_nothing n (effect n clause)

-- no literal stands beside its negation, and the set is closed under propagation on the clauses
pub record IsQuiet (clauses : List (List ℤ)) (n : FalseSet) : Type 0 where
  pub apart : (x : ℤ) → n x ≡ true → n (neg_ℤ x) ≡ false
  pub closed : IsTrue (list_all (closed_under n) clauses)

-- the set has all literals of the other one
pub record Includes (n other : FalseSet) : Type 0 where
  pub includes : (x : ℤ) → other x ≡ true → n x ≡ true

-- the set has all literals of the clause
abbrev pub Falsifies : FalseSet → List ℤ → Type 0
Falsifies n clause = IsTrue (list_all n clause)

-- the same of a list of literals, by a test
abbrev pub is_quiet : List (List ℤ) → List ℤ → Bool
is_quiet clauses literals =
    list_all (λ x. not (literals_of literals (neg_ℤ x))) literals && list_all (closed_under (literals_of literals)) clauses

-- a literal in front, unless it is there
abbrev pub with_first : ℤ → List ℤ → List ℤ
with_first literal literals = if literals_of literals literal then literals else literal ∷ literals

-- each literal once
abbrev pub distinct : List ℤ → List ℤ
distinct [] = []
distinct (literal ∷ literals) = with_first literal (distinct literals)

-- each literal, and its negation
abbrev pub with_negations : List ℤ → List ℤ
with_negations literals = flat_map (λ x. x ∷ neg_ℤ x ∷ []) literals

-- the literals of the clause and the clauses, and their negations: no others matter
abbrev pub at_hand : List (List ℤ) → List ℤ → List ℤ
at_hand clauses clause = distinct (with_negations (flat_map (λ c. c) (clause ∷ clauses)))

-- some of these literals, taken together, pass the test
abbrev pub some_subset : (List ℤ → Bool) → List ℤ → Bool
some_subset test [] = test []
some_subset test (literal ∷ literals) = some_subset test literals || some_subset (λ chosen. test (literal ∷ chosen)) literals

-- Some quiet set has all literals of the clause. (Proofs go by `quiet_law`; only examples compute it.)
unfoldable pub has_quiet : List (List ℤ) → List ℤ → Bool
has_quiet clauses clause =
    some_subset (λ literals. is_quiet clauses literals && list_all (literals_of literals) clause) (at_hand clauses clause)
