-- How an LRAT proof follows a DRAT proof: which of its states goes with the clauses that stand, and which steps lead from one to the next.
-- (LRAT: Cruz-Filipe, Heule, Hunt, Kaufmann, Schneider-Kamp, CADE 2017. DRAT: Wetzler, Heule, Hunt, SAT 2014.)
use Rattle.std.specs.Prelude.{◌≡◌, ℕ, ◌≤◌, Bool, true, ◌&&◌, List, [], ◌∷◌, IsTrue, length}
use Rattle.std.specs.List.{list_all}
use Rattle.cnf_base.specs.declared.step.Step.{Step}
use Rattle.cnf_base.specs.declared.step.Step.TheVariants.{Add, Delete}
use Rattle.cnf_base.specs.ProofText.{is_printable}
use Rattle.lrat_rules.specs.State.{State}
use Rattle.lrat_rules.specs.Run.{Reached, after_step, run}
use Rattle.lrat_rules.specs.Derivation.{lines_from}
use Rattle.drat_checker.specs.Places.{Places}
use Rattle.drat_checker.specs.Hints.{AreLive}
use Rattle.drat_checker.specs.Exact.{is_exact_line}

-- The clauses that stand and are no tautologies are live, each under the number behind its own, and no greater number was given.
pub record Follows (state : State) (places : Places) : Type 0 where
  pub live : AreLive state.live places
  pub top : state.top ≤ length places

-- each addition names what it needs where it stands, and no more
abbrev pub is_exact_step : State → Step → Bool
is_exact_step state (Add id clause hints groups) = is_exact_line state.live clause hints groups
is_exact_step state (Delete id ids) = true

abbrev pub are_exact : State → List Step → Bool
are_exact state [] = true
are_exact state (step ∷ steps) = is_exact_step state step && are_exact (after_step state step) steps

-- good steps from one state to another, exact, whose lines can be read again
pub record Leads (before after : State) (steps : List Step) : Type 0 where
  pub reached : (line : ℕ) → run before (lines_from line steps) ≡ Reached after
  pub exact : IsTrue (are_exact before steps)
  pub printable : IsTrue (list_all is_printable steps)
