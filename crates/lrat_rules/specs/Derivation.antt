-- A proof as the list of its steps, and the bytes that are its written form: a line for each step and nothing else. The
-- solver deletes only clauses that it added itself, while they are live. (The format: Cruz-Filipe, Heule, Hunt,
-- Kaufmann, Schneider-Kamp: Efficient Certified RAT Verification, CADE 2017; what may be deleted: this project's own.)
use Rattle.std.specs.Prelude.{◌≡◌, ◌==◌, ℕ, ◌+◌, Bool, true, not, ◌&&◌, ℤ, List, [], ◌∷◌, ◌++◌, length, None, Some, is_some, IsTrue, nat_lt}
use Rattle.std.specs.List.{flat_map, list_all}
use Rattle.std.specs.FinMap as map
use Rattle.cnf_base.specs.declared.step.Step.{Step}
use Rattle.cnf_base.specs.declared.step.Step.TheVariants.{Add, Delete}
use Rattle.cnf_base.specs.ProofText.{Line, is_empty, is_printable, line_of_step}
use Rattle.lrat_rules.specs.State.{State, Live, clause_at, start}
use Rattle.lrat_rules.specs.Run.{Reached, run, step_fault, after_step}

-- the steps as lines, numbered from this one on
abbrev pub lines_from : ℕ → List Step → List Line
lines_from line [] = []
lines_from line (step ∷ steps) = record { line = line; step = Some step } ∷ lines_from (line + 1) steps

-- the written form of steps: their lines, one after another
abbrev pub text_of : List Step → List ℕ
text_of steps = flat_map line_of_step steps

-- Each of these numbers, at its turn, is that of a live clause, and is above those of a formula of so many clauses.
abbrev pub are_added : ℕ → Live → List ℕ → Bool
are_added count live [] = true
are_added count live (id ∷ ids) = nat_lt count id && is_some (clause_at live id) && are_added count (map.remove live id) ids

-- A deletion stands under the last number, and names live clauses that were added, at least one.
abbrev pub deletes_added : ℕ → State → Step → Bool
deletes_added count state (Add id clause hints groups) = true
deletes_added count state (Delete id ids) = (id == state.top && not (is_empty ids)) && are_added count state.live ids

-- so does each of the steps at its turn
abbrev pub delete_added : ℕ → State → List Step → Bool
delete_added count state [] = true
delete_added count state (step ∷ steps) = deletes_added count state step && delete_added count (after_step state step) steps

-- The steps lead from the formula's clauses to this state, each of them good at its turn; their lines can be read again,
-- and they delete only clauses that were added.
pub record IsDerivation (clauses : List (List ℤ)) (steps : List Step) (state : State) : Type 0 where
  pub reached : run (start clauses) (lines_from 1 steps) ≡ Reached state
  pub printable : IsTrue (list_all is_printable steps)
  pub deletions : IsTrue (delete_added (length clauses) (start clauses) steps)

-- the text is exactly the written form of a derivation of this state
pub record IsWritten (clauses : List (List ℤ)) (bytes : List ℕ) (state : State) : Type 0 where
  pub steps : List Step
  pub derived : IsDerivation clauses steps state
  pub text : bytes ≡ text_of steps

-- The bytes are the front of the line of a step that is good and leads from the first state to the second. The formula
-- has so many clauses.
pub record IsCutLine (count : ℕ) (before after : State) (bytes : List ℕ) : Type 0 where
  pub step : Step
  pub good : step_fault before step ≡ None
  pub printable : IsTrue (is_printable step)
  pub deletions : IsTrue (deletes_added count before step)
  pub leads : after_step before step ≡ after
  pub rest : List ℕ
  pub line : line_of_step step ≡ bytes ++ rest

-- A proof that was cut short: the written form of a derivation of the first state, and the front of one more line, which
-- leads to the second.
pub record IsCutProof (clauses : List (List ℤ)) (bytes : List ℕ) (before after : State) : Type 0 where
  pub whole : List ℕ
  pub cut : List ℕ
  pub parts : bytes ≡ whole ++ cut
  pub written : IsWritten clauses whole before
  pub line : IsCutLine (length clauses) before after cut
