-- The front of a text of cubes, as numbers are added: its counters, and its stamps.
use Rattle.std.proofs.Common.{◌≡◌, ◌∙◌, ◌<◌, ◌≤◌, ◌+◌, ◌==◌, ℕ, false, ℤ, List, [], ◌∷◌, ◌++◌, length, refl}
use Rattle.std.proofs.Common.{ap}
use Rattle.std.proofs.Common.{arith}
use Rattle.std.specs.Prelude.{nat_abs, slice_index_or, slice_set}
use Rattle.std.specs.Int.{is_negative}
use Rattle.std.proofs.lemmas.List.{length-append}
use Rattle.cnf_base.specs.Cube.{is_denied}
use Rattle.cnf_base.specs.Formula.{Draft}
use Rattle.cnf_base.specs.Limits.{max_vars}
use Rattle.dimacs_reader.specs.Cnf.{max_literals}
use Rattle.cube_text.specs.CubeReader.{AreStamps, IsFront, stamp}
use Rattle.cube_text.specs.CubeText.{no_cubes}
use Rattle.cube_text.proofs.Consistent.{one_more_literal}
use Rattle.cube_text.proofs.Stamped.{no_stamps, one_more}

-- before the first number
pub no_numbers : (vars : ℕ) → vars ≤ max_vars → IsFront vars 0 0 0 (no_cubes vars) []
no_numbers vars few = record {
  vars_are = refl;
  few_vars = few;
  ended_are = refl;
  few_ended = omega arith;
  begun_are = refl;
  literals_are = refl;
  few_literals = omega arith;
  consistent = refl;
  begun_consistent = refl;
  stamped = no_stamps;
}

-- the stamps may reach further
pub further : {ended : ℕ} {begun : List ℤ} {stamps : List ℕ} (longer : List ℕ)
    → ((i : ℕ) → slice_index_or longer i 0 ≡ slice_index_or stamps i 0) → AreStamps ended begun stamps → AreStamps ended begun longer
further {ended} longer same are = record {
  marks = λ literal some. ap (λ (n : ℕ). n == stamp ended (is_negative literal)) (same (nat_abs literal)) ∙ are.marks literal some;
  before = λ variable. let small = are.before variable in omega (arith, small, same variable);
}

-- a literal is added to the cube that was begun
pub literal_added : {vars ended begun literals : ℕ} {draft : Draft} {stamps : List ℕ} (longer : List ℕ) (y : ℤ)
    → ((i : ℕ) → slice_index_or longer i 0 ≡ slice_index_or stamps i 0) → nat_abs y < length longer → 0 < nat_abs y
    → literals < max_literals → is_denied y draft.begun ≡ false → IsFront vars ended begun literals draft stamps
    → IsFront vars ended (begun + 1) (literals + 1) (record draft { begun = draft.begun ++ y ∷ [] })
    (slice_set longer (nat_abs y) (stamp ended (is_negative y)))
literal_added {draft = draft} longer y same inside some room free front = record {
  vars_are = front.vars_are;
  few_vars = front.few_vars;
  ended_are = front.ended_are;
  few_ended = front.few_ended;
  begun_are = omega (arith, front.begun_are, length-append draft.begun (y ∷ []));
  literals_are = omega (arith, front.literals_are, length-append draft.begun (y ∷ []));
  few_literals = omega (arith, room);
  consistent = front.consistent;
  begun_consistent = one_more_literal y draft.begun some free front.begun_consistent;
  stamped = one_more y some free inside (further longer same front.stamped);
}
