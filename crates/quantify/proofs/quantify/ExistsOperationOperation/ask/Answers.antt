-- A call that fails, and one whose node stands above the level.
use Rattle.std.proofs.Common.{Option, Ok, refl, subst}
use Rattle.node_table.specs.declared.node.Node.{Node}
use Rattle.quantify.specs.Quantification.{IsAnswered}
use Rattle.quantify.proofs.OpenedExists.{failed_answer, split_answered}
use Rattle.quantify.proofs.quantify.ExistsOperationOperation.ask.Goals as goal

pub returns-in_err-w-clause-answer : goal.returns-in_err-w-clause-answer
returns-in_err-w-clause-answer g c =
    failed_answer c.args.table.now c.args.caches.now _ c.args.question c.answer.new.table c.from_residual.result c.in_err-w.field-0.0
    c.from_residual.ensures.1 (c.in_err-w.ensures, record { exists = refl; ors = refl })

pub returns-in-None-clause-answer : goal.returns-in-None-clause-answer
returns-in-None-clause-answer g c =
    let old = c.args.table.now in
    let caches = c.args.caches.now in
    let question = c.args.question in
    let new = c.answer.new.table in
    let left = subst (λ (o : Option Node). IsAnswered old caches.exists.now caches.ors.now
    question.0 question.1 new c.answer.new.cache c.answer.new.ors (Ok o)) c.in-None.is c.in_ok-w.ensures in
    split_answered c.steps_law.ensures c.cache_law.ensures c.cache_law-2.ensures c.cofactor_law.ensures c.growth_law.ensures
    c.entry_law.ensures c.subfunction_law.ensures c.reach_law.ensures old new left.0 caches _
    (λ i. record caches { exists = record caches.exists { now = left.1 i }; ors = record caches.ors { now = left.2 i } }) question
    c.requires left.4 c.sides_of.result c.sides_of.ensures.above c.sides_of.ensures.question
