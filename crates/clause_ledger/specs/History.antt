-- What a change makes of the story of a ledger.
use Rattle.std.specs.Prelude.{◌++◌, ℤ, List, [], ◌∷◌, Bool, true, false, refl}
use Rattle.std.specs.Coded.{Coded, code_by, coded×, coded_bool, coded_ℤ, coded_list}
use Rattle.cnf_base.specs.declared.step.Step.{Step}
use Rattle.lrat_rules.specs.State.{State, state_code, start}
use Rattle.clause_ledger.specs.Steps.{step_code}
use Rattle.clause_ledger.specs.Book.{addition, after_steps, definition, deletion}
use Rattle.clause_ledger.specs.declared.history.Change.{Change}
use Rattle.clause_ledger.specs.declared.history.Change.TheVariants.{Start, Add, Define, Delete, Finish}

-- a formula's clauses, the steps since, where they lead, and whether all was flushed once
pub record Story : Type 0 where
  pub formula : List (List ℤ)
  pub steps : List Step
  pub state : State
  pub finished : Bool

abbrev pub story_code : Coded Story
story_code =
    code_by (List (List ℤ) × (List Step × (State × Bool)))
    (coded× (coded_list (coded_list coded_ℤ)) (coded× (coded_list step_code) (coded× state_code coded_bool)))
    (λ s. (s.formula, (s.steps, (s.state, s.finished))))
    (λ p. record { formula = p.0; steps = p.1.0; state = p.1.1.0; finished = p.1.1.1 }) (λ _. refl)

-- the story of a formula as it is handed in
abbrev pub begun : List (List ℤ) → Story
begun clauses = record { formula = clauses; steps = []; state = start clauses; finished = false }

-- the same with more steps
abbrev pub with_steps : Story → List Step → Story
with_steps story more = record story { steps = story.steps ++ more; state = after_steps story.state more }

abbrev pub changed : Story → Change → Story
changed story (Start formula) = begun formula.now.clauses
changed story (Add clause hints) = with_steps story (addition story.state clause.now hints.now ∷ [])
changed story (Define clause candidates) = with_steps story (definition story.state clause.now candidates.now ∷ [])
changed story (Delete ids) = with_steps story (deletion story.state ids.now)
changed story Finish = record story { finished = true }
