-- A pair whose answer isn't known is split.
use Rattle.std.proofs.Common.{refl}
use Rattle.quantify.proofs.OpenedOr.{split_answered}
use Rattle.quantify.proofs.disjoin.OrOperationOperation.ask.Goals as goal

pub returns-in-None-clause-answer : goal.returns-in-None-clause-answer
returns-in-None-clause-answer g c =
    split_answered c.steps_law.ensures c.cache_law.ensures c.operand_law.ensures c.growth_law.ensures c.entry_law.ensures
    c.subfunction_law.ensures c.reach_law.ensures c.args.table.now c.args.cache.now c.answer.new.cache
    c.args.question.0 c.args.question.1 c.requires c.split.result c.split.ensures.split c.split.ensures.operands
    (c.in-None.ensures.unknown refl)
