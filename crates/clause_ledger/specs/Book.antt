-- A ledger as callers see it: the steps of its proof, what they made of a formula's clauses, and the sink that holds their lines.
use Rattle.std.specs.Prelude.{◌≡◌, ◌<◌, ◌≤◌, ◌+◌, ◌++◌, ◌⊎◌, ℕ, Bool, true, false, ℤ, List, [], ◌∷◌, Some, IsTrue, length, take, slice_index_or, refl}
use Rattle.std.specs.Coded.{Coded, code_by, coded×, coded_ℕ, coded_bool, coded_ℤ, coded_list}
use Rattle.cnf_base.specs.declared.step.Step.{Step}
use Rattle.cnf_base.specs.declared.step.Step.TheVariants.{Add, Delete}
use Rattle.cnf_base.specs.ProofText.{line_of_step}
use Rattle.host_io.specs.Channel.{Channel, Rose}
use Rattle.lrat_rules.specs.State.{State, Live, state_code, clause_at, start, with_clause}
use Rattle.lrat_rules.specs.Run.{after_step}
use Rattle.lrat_rules.specs.Derivation.{IsDerivation, text_of}
use Rattle.lrat_write.specs.LineText.{bare_groups}
use Rattle.clause_ledger.specs.Steps.{step_code}

-- its sink, the sink as it was at first, the formula's clauses, the steps since, the live clauses with the greatest number,
-- the greatest number allowed, whether no write failed yet, whether all was flushed once, whether the live clauses can be
-- read, and for how many more clauses of at most four literals it has room
pub record Book (S : Type 0) : Type 0 where
  pub sink : S
  pub origin : S
  pub formula : List (List ℤ)
  pub steps : List Step
  pub state : State
  pub limit : ℕ
  pub in_step : Bool
  pub finished : Bool
  pub keeps : Bool
  pub spare : ℕ

-- a book can be a model's value: it is stored as its fields
abbrev pub book_code : {S : Type 0} → Coded S → Coded (Book S)
book_code {S} code =
    code_by (S × (S × (List (List ℤ) × (List Step × (State × (ℕ × (Bool × (Bool × (Bool × ℕ)))))))))
    (coded× code (coded× code (coded× (coded_list (coded_list coded_ℤ)) (coded× (coded_list step_code)
    (coded× state_code (coded× coded_ℕ (coded× coded_bool (coded× coded_bool (coded× coded_bool coded_ℕ)))))))))
    (λ b. (b.sink, (b.origin, (b.formula, (b.steps, (b.state, (b.limit, (b.in_step, (b.finished, (b.keeps, b.spare))))))))))
    (λ p. record {
      sink = p.0;
      origin = p.1.0;
      formula = p.1.1.0;
      steps = p.1.1.1.0;
      state = p.1.1.1.1.0;
      limit = p.1.1.1.1.1.0;
      in_step = p.1.1.1.1.1.1.0;
      finished = p.1.1.1.1.1.1.1.0;
      keeps = p.1.1.1.1.1.1.1.1.0;
      spare = p.1.1.1.1.1.1.1.1.1;
    }) (λ _. refl)

-- one clause more, under the next number
abbrev pub with_next : State → List ℤ → State
with_next state clause = record { live = with_clause state.live (state.top + 1) clause; top = state.top + 1 }

-- the step of an addition under the next number, and of one by its first literal, which names its candidates
abbrev pub addition : State → List ℤ → List ℕ → Step
addition state clause hints = Add (state.top + 1) clause hints []

abbrev pub definition : State → List ℤ → List ℕ → Step
definition state clause candidates = Add (state.top + 1) clause [] (bare_groups candidates)

-- the step of a deletion, under the last number; none where nothing is deleted
abbrev pub deletion : State → List ℕ → List Step
deletion state [] = []
deletion state (id ∷ ids) = Delete state.top (id ∷ ids) ∷ []

-- where steps lead
abbrev pub after_steps : State → List Step → State
after_steps state [] = state
after_steps state (step ∷ steps) = after_steps (after_step state step) steps

-- These steps were told, and nothing else changed but the sink and the room: they are in step with the sink, or the line of
-- the last one is cut short there.
pub record AreTold {S : Type 0} (in_step : Bool) (old new : Book S) (more : List Step) : Type 0 where
  pub is : new ≡ record old {
    sink = new.sink;
    steps = old.steps ++ more;
    state = after_steps old.state more;
    in_step = in_step;
    spare = new.spare;
  }

-- live numbers are from 1 up to the greatest
abbrev pub AreNumbers : Live → ℕ → Type 0
AreNumbers live top = (id : ℕ) (clause : List ℤ) → clause_at live id ≡ Some clause → (0 < id) × (id ≤ top)

-- The steps are a derivation from the formula's clauses to this state. The formula's clauses stand under 1, 2, .. and no
-- number is above the greatest.
pub record IsProofOf (clauses : List (List ℤ)) (steps : List Step) (state : State) : Type 0 where
  pub derived : IsDerivation clauses steps state
  pub leads : after_steps (start clauses) steps ≡ state
  pub formula : (i : ℕ) → i < length clauses → clause_at state.live (i + 1) ≡ Some (slice_index_or clauses i [])
  pub numbers : AreNumbers state.live state.top
  pub from_formula : length clauses ≤ state.top

-- the lines of these steps, but for the last one, of which a front stands
pub record IsCutText (steps : List Step) (bytes : List ℕ) : Type 0 where
  pub earlier : List Step
  pub last : Step
  pub parts : steps ≡ earlier ++ last ∷ []
  pub count : ℕ
  pub text : bytes ≡ text_of earlier ++ take count (line_of_step last)

-- the lines of these steps; out of step the last one may be cut short
abbrev pub IsTextOf : Bool → List Step → List ℕ → Type 0
IsTextOf in_step steps bytes = (bytes ≡ text_of steps) ⊎ ((in_step ≡ false) × IsCutText steps bytes)

-- Since the sink was handed in, the lines of these steps were written, and nothing was read. A failed write shows in its count.
pub record IsSince (tells in_step finished : Bool) (steps : List Step) (before after : Channel) : Type 0 where
  pub text : IsTrue tells → (bytes : List ℕ) × (after.written ≡ before.written ++ bytes) × IsTextOf in_step steps bytes
  pub flushed : finished ≡ false → after.flushed ≡ before.flushed
  pub taken : after.taken ≡ before.taken
  pub left : after.left ≡ before.left
  pub name : after.name ≡ before.name
  pub faults : before.faults ≤ after.faults
  pub unfailed : in_step ≡ true → after.faults ≡ before.faults
  pub rose : in_step ≡ false → Rose before.faults after.faults

-- what holds of a ledger at all times: its steps prove its live clauses, and its sink has their lines
pub record IsBook {S B : Type 0} (tells : Bool) (channel : S → Channel) (beside : S → B) (book : Book S) : Type 0 where
  pub proof : IsProofOf book.formula book.steps book.state
  pub since : IsSince tells book.in_step book.finished book.steps (channel book.origin) (channel book.sink)
  pub rest : beside book.sink ≡ beside book.origin
