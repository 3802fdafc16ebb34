-- What is left to show of `check_in`.
use Rattle.solver_cli.proofs.Judging.{in_format}
use Rattle.solver_cli.proofs.judgement.check_in.Goals as goal

pub returns-in-Lrat-clause-decides : goal.returns-in-Lrat-clause-decides
returns-in-Lrat-clause-decides g c =
    let said = c.check.ensures in
    (in_format c.in-Lrat.is (record { decides = said.decides; undecided = said.undecided; memory = said.memory })).decides

pub returns-in-Lrat-clause-undecided : goal.returns-in-Lrat-clause-undecided
returns-in-Lrat-clause-undecided g c =
    let said = c.check.ensures in
    (in_format c.in-Lrat.is (record { decides = said.decides; undecided = said.undecided; memory = said.memory })).undecided

pub returns-in-Lrat-clause-memory : goal.returns-in-Lrat-clause-memory
returns-in-Lrat-clause-memory g c =
    let said = c.check.ensures in
    (in_format c.in-Lrat.is (record { decides = said.decides; undecided = said.undecided; memory = said.memory })).memory

pub returns-in-Drat-clause-decides : goal.returns-in-Drat-clause-decides
returns-in-Drat-clause-decides g c =
    let said = c.check_drat.ensures in
    (in_format c.in-Drat.is (record { decides = said.decides; undecided = said.undecided; memory = said.memory })).decides

pub returns-in-Drat-clause-undecided : goal.returns-in-Drat-clause-undecided
returns-in-Drat-clause-undecided g c =
    let said = c.check_drat.ensures in
    (in_format c.in-Drat.is (record { decides = said.decides; undecided = said.undecided; memory = said.memory })).undecided

pub returns-in-Drat-clause-memory : goal.returns-in-Drat-clause-memory
returns-in-Drat-clause-memory g c =
    let said = c.check_drat.ensures in
    (in_format c.in-Drat.is (record { decides = said.decides; undecided = said.undecided; memory = said.memory })).memory

pub returns-in-DratBySet-clause-decides : goal.returns-in-DratBySet-clause-decides
returns-in-DratBySet-clause-decides g c =
    let said = c.check_drat_by.ensures in
    (in_format c.in-DratBySet.is (record { decides = said.decides; undecided = said.undecided; memory = said.memory })).decides

pub returns-in-DratBySet-clause-undecided : goal.returns-in-DratBySet-clause-undecided
returns-in-DratBySet-clause-undecided g c =
    let said = c.check_drat_by.ensures in
    (in_format c.in-DratBySet.is (record { decides = said.decides; undecided = said.undecided; memory = said.memory })).undecided

pub returns-in-DratBySet-clause-memory : goal.returns-in-DratBySet-clause-memory
returns-in-DratBySet-clause-memory g c =
    let said = c.check_drat_by.ensures in
    (in_format c.in-DratBySet.is (record { decides = said.decides; undecided = said.undecided; memory = said.memory })).memory
