-- No zero stands before this place, and it is known whether the numbers there fit.
use Rattle.std.proofs.Common.{◌≡◌, true, not, take}
use Rattle.std.specs.List.{list_all}
use Rattle.cnf_base.specs.Truth.{is_literal_of}
use Rattle.cnf_base.specs.ProofText.{is_zero}
use Rattle.lrat_text.proofs.build.first_zero.Given as goal

abbrev pub invariant-loop-place : goal.invariant-loop-place
invariant-loop-place l = record {
  before : list_all (λ number. not (is_zero number)) (take l.place l.numbers) ≡ true;
  fits : l.fits ≡ list_all (is_literal_of l.most) (take l.place l.numbers);
}
