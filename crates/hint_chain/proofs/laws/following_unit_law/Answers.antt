-- What is left to show of `following_unit_law`.
use Rattle.hint_chain.proofs.UnitsRefute.{conjunction_unit-refutes, implication_unit-refutes}
use Rattle.hint_chain.proofs.laws.following_unit_law.Goals as goal

pub returns-clause-conjunction : goal.returns-clause-conjunction
returns-clause-conjunction c live u v w clause justified unit_u unit_v id is_clause apart stands_u stands_v stands among =
    record { strict = conjunction_unit-refutes live u v w clause justified unit_u unit_v id is_clause apart stands_u stands_v stands among }

pub returns-clause-implication : goal.returns-clause-implication
returns-clause-implication c live u w clause justified unit_u id is_clause apart stands_u stands among =
    record { strict = implication_unit-refutes live u w clause justified unit_u id is_clause apart stands_u stands among }
