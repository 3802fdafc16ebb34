-- A pair whose answer isn't known is split.
use Rattle.std.proofs.Common.{refl}
use Rattle.apply_and.proofs.Opened.{inner_of, split_answered}
use Rattle.apply_and.proofs.conjoin.AndOperationOperation.ask.Goals as goal

pub split-requires-clause-first : goal.split-requires-clause-first
split-requires-clause-first g c = inner_of c.args.table.now.graph c.args.question.0 c.requires.first
    (c.in-None.ensures.unknown refl).1.first

pub split-requires-clause-second : goal.split-requires-clause-second
split-requires-clause-second g c = inner_of c.args.table.now.graph c.args.question.1 c.requires.second
    (c.in-None.ensures.unknown refl).1.second

pub returns-in-None-clause-answer : goal.returns-in-None-clause-answer
returns-in-None-clause-answer g c =
    split_answered c.steps_law.ensures c.budget_law.ensures c.operand_law.ensures c.growth_law.ensures c.entry_law.ensures
    c.accounts_law.ensures c.cache_law.ensures c.price_law.ensures c.subfunction_law.ensures c.reach_law.ensures c.args.table.now
    c.args.cache.now c.answer.new.cache
    c.args.question.0 c.args.question.1 c.requires c.split.result c.split.ensures.split c.split.ensures.operands
    (c.in-None.ensures.unknown refl)
