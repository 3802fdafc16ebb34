-- The bucket plan: the variables are quantified in their order, each as soon as all terms that hold it are conjoined.
-- (Dechter, Rish: Directional Resolution, 1994; Pan, Vardi: Search vs. Symbolic Techniques in Satisfiability Solving, 2004;
-- Bryant, Heule: Generating Extended Resolution Proofs with a BDD-Based SAT Solver, 2021, section 5.)
use Rattle.std.specs.Prelude.{ℕ, zero, suc, ◌==◌, List, [], ◌∷◌, ◌++◌, length, slice_index_or}
use Rattle.std.specs.List.{filter, position_or_len}
use Rattle.cnf_base.specs.Formula.{Formula}
use Rattle.schedule_plan.specs.declared.plan.Move.{Move}
use Rattle.schedule_plan.specs.declared.plan.Move.TheVariants.{Push, And, Exists}
use Rattle.schedule_plan.specs.Plan.{Term, input, both, some_value, term_has}

-- the place of the first variable, in the order, that a term holds; that behind the last one where it holds none
abbrev pub first_place : Formula → List ℕ → Term → ℕ
first_place formula order term = position_or_len (λ x. term_has formula x term) order

-- all clauses as terms, by rising number
abbrev pub all_inputs : ℕ → List Term
all_inputs zero = []
all_inputs (suc n) = all_inputs n ++ input (suc n) ∷ []

-- those terms that belong to the bucket of a place: their first variable is there
abbrev pub belonging : Formula → List ℕ → ℕ → List Term → List Term
belonging formula order place terms = filter (λ term. first_place formula order term == place) terms

-- a term, conjoined with further ones from the first to the last
abbrev pub conjunction : Term → List Term → Term
conjunction term [] = term
conjunction term (next ∷ more) = conjunction (both term next) more

-- The result of a bucket: its items conjoined, and its variable quantified. An empty bucket has none.
abbrev pub result_of : ℕ → List Term → List Term
result_of variable [] = []
result_of variable (first ∷ more) = some_value variable (conjunction first more) ∷ []

-- the results of the buckets of the first places, by rising place
abbrev pub results : Formula → List ℕ → ℕ → List Term
results formula order zero = []
results formula order (suc place) =
    results formula order place
    ++ result_of (slice_index_or order place 0) (belonging formula order place (all_inputs (length formula.clauses)
    ++ results formula order place))

-- A bucket's items: the clauses that belong to it, and then the results of earlier buckets. Behind the last variable's
-- bucket stands that of the terms that hold no variable.
abbrev pub items : Formula → List ℕ → ℕ → List Term
items formula order place = belonging formula order place (all_inputs (length formula.clauses) ++ results formula order place)

-- the moves that make a term
abbrev pub moves_of : Term → List Move
moves_of (input i) = Push i ∷ []
moves_of (both one other) = moves_of one ++ moves_of other ++ And ∷ []
moves_of (some_value x term) = moves_of term ++ Exists x ∷ []

-- those that make the conjunction of some terms
abbrev pub moves_of_all : List Term → List Move
moves_of_all [] = []
moves_of_all (first ∷ more) = moves_of (conjunction first more)

-- The plan makes the conjunction of the terms that hold no variable.
abbrev pub bucket : Formula → List ℕ → List Move
bucket formula order = moves_of_all (items formula order (length order))
