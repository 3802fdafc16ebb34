-- Definitions that are written one after the other: their steps add up.
use Rattle.std.proofs.Common.{◌≡◌, ℕ, Bool, true, false, ℤ, List, [], ◌∷◌, ◌++◌, Option, None, Some, refl, sym, ap, ◌∙◌, subst}
use Rattle.std.specs.Prelude.{IsTrue}
use Rattle.std.proofs.lemmas.List.{append_assoc, append-nil}
use Rattle.cnf_base.specs.declared.step.Step.{Step}
use Rattle.lrat_rules.specs.State.{State}
use Rattle.clause_ledger.specs.Book.{AreTold, Book, after_steps}
use Rattle.clause_ledger.specs.Told.{after_steps-append, told_further, told_limit, told_none, told_state}
use Rattle.hint_chain.specs.declared.atom.Atom.{Atom}
use Rattle.hint_chain.specs.Atoms.{clause_from_atoms, high_up, low_up, high_down, low_down}
use Rattle.node_table.specs.Defined.{Definition, IsDefinedInPart, IsTornStep, definition_steps, step_of_some, ups_from, with_some}
use Rattle.node_table.specs.Defined.{with_definitions}

pub with_definitions-append : (state : State) (some more : List Definition) → with_definitions state (some ++ more)
    ≡ with_definitions (with_definitions state some) more
with_definitions-append state [] more = refl
with_definitions-append state (d ∷ some) more = with_definitions-append (with_some state d.clause) some more

pub steps-append : (state : State) (some more : List Definition) → definition_steps state (some ++ more) ≡ definition_steps state some
    ++ definition_steps (with_definitions state some) more
steps-append state [] more = refl
steps-append state (d ∷ some) more =
    ap (λ (steps : List Step). step_of_some state d.clause d.candidates ++ steps) (steps-append (with_some state d.clause) some more)
    ∙ sym (append_assoc (step_of_some state d.clause d.candidates) (definition_steps (with_some state d.clause) some)
    (definition_steps (with_definitions (with_some state d.clause) some) more))

some_leads : (state : State) (o : Option (List ℤ)) (candidates : List ℕ) → after_steps state (step_of_some state o candidates)
    ≡ with_some state o
some_leads state None candidates = refl
some_leads state (Some clause) candidates = refl

-- the steps lead where the definitions do
pub steps_lead : (state : State) (all : List Definition) → after_steps state (definition_steps state all) ≡ with_definitions state all
steps_lead state [] = refl
steps_lead state (d ∷ more) =
    after_steps-append state (step_of_some state d.clause d.candidates) (definition_steps (with_some state d.clause) more)
    ∙ ap (λ (s : State). after_steps s (definition_steps (with_some state d.clause) more)) (some_leads state d.clause d.candidates)
    ∙ steps_lead (with_some state d.clause) more

-- these definitions were written
pub record AreWritten {S : Type 0} (old new : Book S) (written : List Definition) : Type 0 where
  pub told : AreTold true old new (definition_steps old.state written)
  pub reached : new.state ≡ with_definitions old.state written
  pub limit : new.limit ≡ old.limit

-- nothing yet
pub AreWritten-none : {S : Type 0} (book : Book S) → IsTrue book.in_step → AreWritten book book []
AreWritten-none book in_step = record { told = told_none book book.spare in_step; reached = refl; limit = refl }

-- what is handed to a call is the definition
pub record IsCallOf (o : Option (List ℤ)) (ids : List ℕ) (d : Definition) : Type 0 where
  pub clause : o ≡ d.clause
  pub candidates : ids ≡ d.candidates

-- the steps of one more
pub told_next : {S : Type 0} {in_step : Bool} {old mid new : Book S} {written : List Definition} {o : Option (List ℤ)} {ids : List ℕ}
    {d : Definition} → AreWritten old mid written → IsCallOf o ids d → AreTold in_step mid new (step_of_some mid.state o ids)
    → AreTold in_step old new (definition_steps old.state (written ++ d ∷ []))
told_next {in_step = in_step} {old = old} {mid = mid} {new = new} {written = written} {o = o} {ids = ids} {d = d} so_far call told =
    let next = step_of_some (with_definitions old.state written) d.clause d.candidates in
    let same : step_of_some mid.state o ids ≡ definition_steps (with_definitions old.state written) (d ∷ []) =
    (λ i. step_of_some (so_far.reached i) (call.clause i) (call.candidates i)) ∙ sym (append-nil next) in
    subst (AreTold in_step old new)
    (ap (λ (steps : List Step). definition_steps old.state written ++ steps) same ∙ sym (steps-append old.state written (d ∷ [])))
    (told_further in_step old mid new (definition_steps old.state written) (step_of_some mid.state o ids) so_far.told told)

-- one more
pub AreWritten-more : {S : Type 0} {old mid new : Book S} {written : List Definition} {o : Option (List ℤ)} {ids : List ℕ} {d : Definition}
    → AreWritten old mid written → IsCallOf o ids d → AreTold true mid new (step_of_some mid.state o ids)
    → AreWritten old new (written ++ d ∷ [])
AreWritten-more {S = S} {old = old} {mid = mid} {new = new} {written = written} {o = o} {ids = ids} {d = d} so_far call told =
    let whole = told_next so_far call told in
    record {
      told = whole;
      reached = told_state whole ∙ steps_lead old.state (written ++ d ∷ []);
      limit = told_limit told ∙ so_far.limit;
    }

-- the next one is cut short
pub torn_next : {S : Type 0} {old mid new : Book S} {written : List Definition} {o : Option (List ℤ)} {ids : List ℕ} {d : Definition}
    → AreWritten old mid written → IsCallOf o ids d → (rest : List Definition) → IsTornStep mid new o ids
    → (more : List Step) × AreTold false old new more × IsDefinedInPart old.state new.state (written ++ d ∷ rest) more
torn_next {S = S} {old = old} {written = written} {d = d} so_far call rest torn =
    let all = written ++ d ∷ [] in
    let told = told_next so_far call torn.told in (
      definition_steps old.state all,
      told,
      record {
        earlier = written;
        last = d;
        rest = rest;
        parts = refl;
        clause = torn.clause;
        is = sym call.clause ∙ torn.is;
        written = refl;
        reached = told_state told ∙ steps_lead old.state all;
      },
    )

-- the four definitions of a new variable, one by one
abbrev pub hu_of : ℤ → ℤ → Atom → Definition
hu_of u x high = record { clause = clause_from_atoms (high_up u x high); candidates = [] }

abbrev pub lu_of : ℤ → ℤ → Atom → Definition
lu_of u x low = record { clause = clause_from_atoms (low_up u x low); candidates = [] }

abbrev pub hd_of : ℤ → ℤ → Atom → Atom → ℕ → Definition
hd_of u x high low first = record { clause = clause_from_atoms (high_down u x high); candidates = ups_from high low first }

abbrev pub ld_of : ℤ → ℤ → Atom → Atom → ℕ → Definition
ld_of u x high low first = record { clause = clause_from_atoms (low_down u x low); candidates = ups_from high low first }
