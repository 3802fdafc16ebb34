-- What a possible move needs, and what it leaves on the stack.
use Rattle.std.proofs.Common.{◌≡◌, ℕ, ◌<◌, ◌≤◌, false, List, [], ◌∷◌, length, Some, refl, sym, ap, subst}
use Rattle.cnf_base.specs.Formula.{Formula}
use Rattle.node_table.specs.Table.{IsSound, TableState}
use Rattle.node_table.specs.Value.{value_of}
use Rattle.operations.specs.Entries.{Entry}
use Rattle.schedule_plan.specs.declared.plan.Move.{Move}
use Rattle.schedule_plan.specs.declared.plan.Move.TheVariants.{Push, And, Exists}
use Rattle.schedule_plan.specs.Plan.{Term, input, both, Stage, after_move, after_and}
use Rattle.bdd_terms.specs.declared.held.HeldTerm.{HeldTerm}
use Rattle.term_runner.specs.Held.{AreHeld, IsHeld}
use Rattle.bdd_terms.specs.Units.{HasUnits}
use Rattle.bdd_terms.specs.Parts.{HasAtMost, term_function}
use Rattle.term_runner.specs.Width.{HoldsAtMost, IsInHand}
use Rattle.bdd_terms.proofs.Pairs.{at_most_same}
use Rattle.term_runner.proofs.Pairs.{few_of_term}
use Rattle.term_runner.proofs.Planned.{node_function}
use Rattle.term_runner.proofs.Plans.{IsAfterExists, pushed_of, quantified_of}

pub record IsPushed (formula : Formula) (stage next : Stage) (i : ℕ) : Type 0 where
  pub from_one : 0 < i
  pub to_len : i ≤ length formula.clauses
  pub stack : next.stack ≡ input i ∷ stage.stack
  pub trail : next.trail ≡ stage.trail

pub push_of : (formula : Formula) (stage next : Stage) (step : Move) (i : ℕ) → step ≡ Push i → after_move formula stage step ≡ Some next
    → IsPushed formula stage next i
push_of formula stage next step i named is =
    let pushed = pushed_of formula stage next i (subst (λ (m : Move). after_move formula stage m ≡ Some next) named is) in
    record {
      from_one = pushed.0;
      to_len = pushed.1;
      stack = ap (λ (s : Stage). s.stack) pushed.2;
      trail = ap (λ (s : Stage). s.trail) pushed.2;
    }

pub record IsConjoined (stage next : Stage) : Type 0 where
  pub one : Term
  pub other : Term
  pub rest : List Term
  pub before : stage.stack ≡ other ∷ one ∷ rest
  pub after : next.stack ≡ both one other ∷ rest
  pub trail : next.trail ≡ stage.trail

two_of : (stage next : Stage) (stack : List Term) → stage.stack ≡ stack → after_and stage stack ≡ Some next → IsConjoined stage next
two_of stage next [] here is = cc
two_of stage next (top ∷ []) here is = cc
two_of stage next (top ∷ below ∷ rest) here is =
    record {
      one = below;
      other = top;
      rest = rest;
      before = here;
      after = sym (ap (λ (s : Stage). s.stack) (inside _ next is));
      trail = sym (ap (λ (s : Stage). s.trail) (inside _ next is));
    }
  where
    inside : (s t : Stage) → Some s ≡ Some t → s ≡ t
    inside s t e = cc

pub and_of : (formula : Formula) (stage next : Stage) (step : Move) → step ≡ And → after_move formula stage step ≡ Some next
    → IsConjoined stage next
and_of formula stage next step named is = two_of stage next stage.stack refl
    (subst (λ (m : Move). after_move formula stage m ≡ Some next) named is)

pub exists_of : (formula : Formula) (stage next : Stage) (step : Move) (x : ℕ) → step ≡ Exists x → after_move formula stage step ≡ Some next
    → IsAfterExists formula stage next x stage.stack
exists_of formula stage next step x named is = quantified_of formula stage next x stage.stack
    (subst (λ (m : Move). after_move formula stage m ≡ Some next) named is)

-- the last terms, as the stack has them
pub as_listed : {S : Type 0} (formula : Formula) (table : TableState S) (items list : List HeldTerm) (stack terms : List Term) → items ≡ list
    → stack ≡ terms → AreHeld formula table.graph table.book.state.live items stack
    → AreHeld formula table.graph table.book.state.live list terms
as_listed formula table items list stack terms same is are =
    subst (λ (l : List HeldTerm). AreHeld formula table.graph table.book.state.live l terms) same
    (subst (λ (s : List Term). AreHeld formula table.graph table.book.state.live items s) is are)

pub own_listed : {S : Type 0} (table : TableState S) (entries : List Entry) (items list : List HeldTerm) → items ≡ list
    → HasUnits table entries items → HasUnits table entries list
own_listed table entries items list same has = subst (λ (l : List HeldTerm). HasUnits table entries l) same has

-- a held term has few parts where few are in hand
pub few_held : {S : Type 0} (formula : Formula) (table : TableState S) (stage next : Stage) (held : HeldTerm) (term : Term) → IsSound table
    → IsHeld formula table.graph table.book.state.live held term → IsInHand false stage next term → (width : ℕ)
    → HoldsAtMost formula table.graph.order stage next width → HasAtMost (λ a. value_of table.graph a held.node) width
few_held formula table stage next held term sound is there width most =
    at_most_same (term_function formula table.graph.order term) (λ a. value_of table.graph a held.node)
    (λ a. sym (node_function table.graph sound.tied.reduced sound.tied.ordered formula held.node term is.is.stands is.is.value a)) width
    (few_of_term formula table.graph.order stage next term there width most)
