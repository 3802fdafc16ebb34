-- The laws of quiet sets are enough.
use Rattle.fresh_names.proofs.InTurn.{fresh-in-turn, fresh-stands}
use Rattle.fresh_names.proofs.Refuted.{refutes-by-names}
use Rattle.fresh_names.proofs.laws.fresh_law.Goals as goal

pub returns-clause-refutes : goal.returns-clause-refutes
returns-clause-refutes c = refutes-by-names record { none = c.quiet_law.ensures.none; fails = c.quiet_law.ensures.fails }

pub returns-clause-stand : goal.returns-clause-stand
returns-clause-stand c = fresh-stands record { none = c.quiet_law.ensures.none; fails = c.quiet_law.ensures.fails }

pub returns-clause-once : goal.returns-clause-once
returns-clause-once c = fresh-in-turn record { none = c.quiet_law.ensures.none; fails = c.quiet_law.ensures.fails }
