-- Told steps add up.
use Rattle.std.specs.Prelude.{◌≡◌, ◌++◌, ◌&&◌, ℕ, Bool, true, false, List, [], ◌∷◌, IsTrue, refl}
use Rattle.std.proofs.Common.{◌∙◌, ap, sym, append-nil, append_assoc}
use Rattle.cnf_base.specs.declared.step.Step.{Step}
use Rattle.lrat_rules.specs.State.{State}
use Rattle.lrat_rules.specs.Conservative.{are_conservative, is_conservative}
use Rattle.lrat_rules.specs.Run.{after_step}
use Rattle.clause_ledger.specs.Book.{AreTold, Book, after_steps}

pub after_steps-append : (state : State) (front back : List Step) → after_steps state (front ++ back)
    ≡ after_steps (after_steps state front) back
after_steps-append state [] back = refl
after_steps-append state (step ∷ front) back = after_steps-append (after_step state step) front back

and_assoc : (p q r : Bool) → (p && (q && r)) ≡ ((p && q) && r)
and_assoc true q r = refl
and_assoc false q r = refl

both : {p q : Bool} → IsTrue p → IsTrue q → IsTrue (p && q)
both {p} {q} one two = ap (λ b. b && q) one ∙ two

pub conservative-append : (vars : ℕ) (state : State) (front back : List Step) → are_conservative vars state (front ++ back)
    ≡ (are_conservative vars state front && are_conservative vars (after_steps state front) back)
conservative-append vars state [] back = refl
conservative-append vars state (step ∷ front) back =
    ap (λ b. is_conservative vars state step && b) (conservative-append vars (after_step state step) front back)
    ∙ and_assoc (is_conservative vars state step) (are_conservative vars (after_step state step) front)
    (are_conservative vars (after_steps (after_step state step) front) back)

pub conservative_further : (vars : ℕ) (state : State) (front back : List Step) → IsTrue (are_conservative vars state front)
    → IsTrue (are_conservative vars (after_steps state front) back) → IsTrue (are_conservative vars state (front ++ back))
conservative_further vars state front back first second = conservative-append vars state front back ∙ both first second

-- nothing was told, and the room may be another
pub told_none : {S : Type 0} (book : Book S) (spare : ℕ) → IsTrue book.in_step → AreTold true book (record book { spare = spare }) []
told_none book spare in_step = record {
  is = λ i. record book { steps = sym (append-nil book.steps) i; in_step = in_step i; spare = spare };
}

pub told_further : {S : Type 0} (in_step : Bool) (old mid new : Book S) (first second : List Step) → AreTold true old mid first
    → AreTold in_step mid new second → AreTold in_step old new (first ++ second)
told_further in_step old mid new first second one two = record {
  is =
      two.is
      ∙ (λ i. record (one.is i) {
        sink = new.sink;
        steps = (one.is i).steps ++ second;
        state = after_steps (one.is i).state second;
        in_step = in_step;
        spare = new.spare;
      })
      ∙ (λ i. record old {
        sink = new.sink;
        steps = append_assoc old.steps first second i;
        state = sym (after_steps-append old.state first second) i;
        in_step = in_step;
        spare = new.spare;
      });
}

-- what the told steps leave of each part
module _ {S : Type 0} {in_step : Bool} {old new : Book S} {more : List Step} (told : AreTold in_step old new more) where
  pub told_state : new.state ≡ after_steps old.state more
  told_state i = (told.is i).state

  pub told_steps : new.steps ≡ old.steps ++ more
  told_steps i = (told.is i).steps

  pub told_in_step : new.in_step ≡ in_step
  told_in_step i = (told.is i).in_step

  pub told_limit : new.limit ≡ old.limit
  told_limit i = (told.is i).limit

  pub told_origin : new.origin ≡ old.origin
  told_origin i = (told.is i).origin

  pub told_formula : new.formula ≡ old.formula
  told_formula i = (told.is i).formula
