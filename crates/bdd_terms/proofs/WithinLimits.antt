-- A proof that goes on stays within the limits.
use Rattle.std.proofs.Common.{◌≡◌, ◌∙◌, ◌+◌, ◌++◌, ℕ, true, List, [], ◌∷◌, sym, ap, subst, arith}
use Rattle.cnf_base.specs.declared.step.Step.{Step}
use Rattle.cnf_base.specs.Formula.{Formula}
use Rattle.lrat_rules.specs.Conservative.{are_conservative}
use Rattle.lrat_rules.specs.State.{State, start}
use Rattle.clause_ledger.specs.Book.{Book, after_steps}
use Rattle.clause_ledger.specs.Told.{after_steps-append, conservative_further, told_formula, told_steps}
use Rattle.node_table.specs.Progress.{AreStepsUpTo, Continues}
use Rattle.node_table.specs.Table.{TableState, last_variable}
use Rattle.operations.specs.Entries.{Entry}
use Rattle.schedule_plan.specs.declared.limits.Limits.{Limits}
use Rattle.bdd_terms.specs.declared.caches.Caches.{Caches}
use Rattle.bdd_terms.specs.Caches.{sizes}
use Rattle.bdd_terms.specs.OverFormula.{IsOver, IsWithinLimits}

pub further_steps : (most : ℕ) (front back : List Step) → AreStepsUpTo most front → AreStepsUpTo most back → AreStepsUpTo most (front ++ back)
further_steps most [] back few more = more
further_steps most (step ∷ front) back few more = (few.0, further_steps most front back few.1 more)

module _ {S : Type 0} (formula : Formula) (limits : Limits) (old : TableState S) (caches : Caches) (entries : List Entry)
    (over : IsOver formula old entries) (within : IsWithinLimits formula limits old caches) where
  pub last_is : last_variable old ≡ formula.vars + limits.max_nodes
  last_is = λ i. over.vars i + within.max_nodes i

  pub within_after : (new : TableState S) (after : Caches) → Continues old new → sizes after ≡ sizes caches
      → IsWithinLimits formula limits new after
  within_after new after more same = record {
    allowed = within.allowed;
    of_formula = told_formula more.told ∙ within.of_formula;
    max_ids = more.limit ∙ within.max_ids;
    max_nodes = more.max_nodes ∙ within.max_nodes;
    size = same ∙ within.size;
    numbers = omega (arith, more.numbers, within.max_ids, within.numbers);
    variables = subst (AreStepsUpTo (formula.vars + limits.max_nodes)) (sym (told_steps more.told))
        (further_steps (formula.vars + limits.max_nodes) old.book.steps more.more within.variables
        (subst (λ (most : ℕ). AreStepsUpTo most more.more) last_is more.variables));
    leads = ap (after_steps (start formula.clauses)) (told_steps more.told)
        ∙ after_steps-append (start formula.clauses) old.book.steps more.more
        ∙ ap (λ (s : State). after_steps s more.more) within.leads ∙ sym (ap (λ (b : Book S). b.state) more.told.is);
    conserves = subst (λ (steps : List Step). are_conservative formula.vars (start formula.clauses) steps ≡ true) (sym (told_steps
        more.told))
        (conservative_further formula.vars (start formula.clauses) old.book.steps more.more within.conserves
        ((λ i. are_conservative (sym over.vars i) (within.leads i) more.more) ∙ more.conserves));
  }
