-- What is left to show of `one_more_line_law`.
use Rattle.cnf_base.proofs.ProofTextLemmas.{proof_lines-line, whole-line, line_ends-step, first_byte}
use Rattle.cnf_base.proofs.laws.one_more_line_law.Goals as goal

pub returns-clause-appended : goal.returns-clause-appended
returns-clause-appended c = proof_lines-line

pub returns-clause-whole : goal.returns-clause-whole
returns-clause-whole c = whole-line

pub returns-clause-ends : goal.returns-clause-ends
returns-clause-ends c = line_ends-step

pub returns-clause-begins : goal.returns-clause-begins
returns-clause-begins c = first_byte
