-- What a call for a cube answers of the formula, and that answers stay true as the proof goes on.
use Rattle.std.proofs.Common.{◌≡◌, ◌++◌, ℕ, ℤ, List, [], ◌∷◌, None}
use Rattle.std.proofs.Common.{sym, ap, subst, inl, inr}
use Rattle.cnf_base.specs.Cube.{forbidding}
use Rattle.cnf_base.specs.declared.step.Step.{Step}
use Rattle.cnf_base.specs.Formula.{Formula}
use Rattle.clause_ledger.specs.Book.{Book}
use Rattle.lrat_rules.specs.Conservative.{IsAddedBy}
use Rattle.lrat_rules.specs.State.{Live}
use Rattle.node_table.specs.Tied.{KeepsClauses}
use Rattle.bdd_terms.specs.declared.runner.Runner.{Runner}
use Rattle.cube_queries.specs.declared.answer.Answer.{Answer}
use Rattle.cube_queries.specs.Answers.{AreAll, AreAnswers, AreTrue, IsAnswer, IsTrueOf}
use Rattle.cube_queries.specs.Steps.{Goes}

-- answers of more cubes
pub all_and_one : (is : List ℤ → Answer → Type 0) (cubes : List (List ℤ)) (answers : List Answer) (cube : List ℤ) (answer : Answer)
    → AreAll is cubes answers → is cube answer → AreAll is (cubes ++ cube ∷ []) (answers ++ answer ∷ [])
all_and_one is [] [] cube answer all one = (one, tt)
all_and_one is [] (first ∷ answers) cube answer all one = absurd all
all_and_one is (c ∷ cubes) [] cube answer all one = absurd all
all_and_one is (c ∷ cubes) (first ∷ answers) cube answer all one = (all.0, all_and_one is cubes answers cube answer all.1 one)

pub all_weaker : (is also : List ℤ → Answer → Type 0) → ((cube : List ℤ) (answer : Answer) → is cube answer → also cube answer)
    → (cubes : List (List ℤ)) (answers : List Answer) → AreAll is cubes answers → AreAll also cubes answers
all_weaker is also more [] [] all = tt
all_weaker is also more [] (answer ∷ answers) all = all
all_weaker is also more (cube ∷ cubes) [] all = all
all_weaker is also more (cube ∷ cubes) (answer ∷ answers) all =
    (more cube answer all.0, all_weaker is also more cubes answers all.1)

-- what was added stays so as the proof goes on
still_added : (front back : List Step) (clause : List ℤ) → IsAddedBy front clause → IsAddedBy (front ++ back) clause
still_added [] back clause is = absurd is
still_added (step ∷ front) back clause (inl here) = inl here
still_added (step ∷ front) back clause (inr later) = inr (still_added front back clause later)

pub answers_further : {S : Type 0} (old new : Runner S) → Goes old new None
    → KeepsClauses old.terms.table.book.state.live new.terms.table.book.state.live → (cubes : List (List ℤ)) (answers : List Answer)
    → AreAnswers old.formula.now old.terms.table.graph.order old.terms.table.book.steps old.terms.table.book.state.live cubes answers
    → AreAnswers new.formula.now new.terms.table.graph.order new.terms.table.book.steps new.terms.table.book.state.live cubes answers
answers_further {S} old new goes keeps cubes answers all =
    let live = new.terms.table.book.state.live in
    let told : new.terms.table.book.steps ≡ old.terms.table.book.steps ++ goes.leaves.more =
    ap (λ (b : Book S). b.steps) goes.leaves.told.is in
    subst (λ (f : Formula). AreAnswers f new.terms.table.graph.order new.terms.table.book.steps live cubes answers)
    (sym (ap (λ f. f.now) goes.formula))
    (subst (λ (o : List ℕ). AreAnswers old.formula.now o new.terms.table.book.steps live cubes answers) (sym goes.order)
    (subst (λ (s : List Step). AreAnswers old.formula.now old.terms.table.graph.order s live cubes answers) (sym told)
    (all_weaker (IsAnswer old.formula.now old.terms.table.graph.order old.terms.table.book.steps old.terms.table.book.state.live)
    (IsAnswer old.formula.now old.terms.table.graph.order (old.terms.table.book.steps ++ goes.leaves.more) live)
    (λ cube answer is. (
      is.0,
      λ unsat.
          let was = is.1 unsat in (
            still_added old.terms.table.book.steps goes.leaves.more (forbidding cube) was.0,
            (was.1.0, keeps was.1.0 (forbidding cube) was.1.1),
          ),
    ))
    cubes answers all)))

pub answers_true : (formula : Formula) (order : List ℕ) (steps : List Step) (live : Live) (cubes : List (List ℤ)) (answers : List Answer)
    → AreAnswers formula order steps live cubes answers → AreTrue formula order cubes answers
answers_true formula order steps live cubes answers =
    all_weaker (IsAnswer formula order steps live) (IsTrueOf formula order) (λ cube answer is. is.0) cubes answers
