-- Numbers that are cut, list by list.
use Rattle.cnf_base.specs.Number.{signed_number}
use Rattle.cnf_base.specs.Truth.{is_literal_of}
use Rattle.cnf_base.specs.ProofText.{max_literal, is_zero}
use Rattle.text_scan.specs.Capped.{capped_ℤ}
use Rattle.lrat_text.proofs.Cut.{all_given-map, split_at-map, list_all-under, map_same, is_zero-capped, is_literal-capped, literal_same}
use Rattle.lrat_text.proofs.LratForm.{signed_word_is, no_deletion}
use Rattle.lrat_text.proofs.laws.kept_numbers_law.Goals as goal

pub returns-clause-given : goal.returns-clause-given
returns-clause-given c = all_given-map capped_ℤ signed_number

pub returns-clause-split : goal.returns-clause-split
returns-clause-split c = split_at-map capped_ℤ is_zero is_zero is_zero-capped

pub returns-clause-literals : goal.returns-clause-literals
returns-clause-literals c = list_all-under capped_ℤ (is_literal_of max_literal) (is_literal_of max_literal) is_literal-capped

pub returns-clause-same : goal.returns-clause-same
returns-clause-same c = map_same capped_ℤ (is_literal_of max_literal) literal_same

pub returns-clause-small : goal.returns-clause-small
returns-clause-small c = signed_word_is

pub returns-clause-no_deletion : goal.returns-clause-no_deletion
returns-clause-no_deletion c = no_deletion
