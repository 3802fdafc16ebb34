-- What is left to show of `has_opposites`.
use Rattle.std.proofs.Common.{rules, tests, ◌≡◌, List, [], ◌∷◌, ◌||◌, ℤ, refl, ◌∙◌, int_eq, int_cmp, neg_ℤ}
use Rattle.std.specs.List.{list_any}
use Rattle.std.specs.BTreeSet.{BTreeSet, contains, IsFromIterResult}
use Rattle.std.proofs.lemmas.Cmp.{int_eq_equiv}
use Rattle.std.proofs.lemmas.Iterator.{YieldsList-from_slice}
use Rattle.std.proofs.lemmas.Iterator.Search.{any_from_yields_List}
use Rattle.term_runner.proofs.open.has_opposites.Goals as goal

-- equality is asked the other way round
turned : (x : ℤ) (clause : List ℤ) → list_any (int_eq x) clause ≡ list_any (λ other. int_eq other x) clause
turned x [] = refl
turned x (y ∷ ys) = λ i. int_eq_equiv.symm x y i || turned x ys i

-- what the set answers is what the clause does, at each literal
each : (literals : BTreeSet ℤ) (clause part : List ℤ) → IsFromIterResult int_cmp clause literals
    → list_any (λ literal. contains int_cmp literals (neg_ℤ literal)) part
    ≡ list_any (λ literal. list_any (λ other. int_eq other (neg_ℤ literal)) clause) part
each literals clause [] made = refl
each literals clause (x ∷ xs) made = λ i. (made.0 (neg_ℤ x) ∙ turned (neg_ℤ x) clause) i || each literals clause xs made i

pub returns : goal.returns
returns c = any_from_yields_List (λ literal. contains int_cmp c.args.literals.now (neg_ℤ literal)) _ _ _ c.any.ensures.ran
    (YieldsList-from_slice c.args.clause.now cc) (λ x b q k. search (rules, tests))
    ∙ each c.args.literals.now c.args.clause.now c.args.clause.now c.requires
