-- An error is that of the whole call, and with each turn fewer are left.
use Rattle.std.proofs.Common.{reverse, sym, ◌∙◌}
use Rattle.node_table.specs.declared.error.TableError.TheVariants.{OutOfMemory}
use Rattle.operations.proofs.OpenCalls.{ask_failed, close_failed, handed, low_smaller, open_refused, open_smaller}
use Rattle.operations.proofs.machine.work_off.Goals as goal

pub returns-in_err-parts-in-Ask : goal.returns-in_err-parts-in-Ask
returns-in_err-parts-in-Ask g c =
    let calls = g.O.Operation.calls in
    let ends = calls.ends c.args.table.now c.args.cache.now c.args.question in
    let error = c.in_err-parts-in-Ask.field-0.0 in
    handed ends c.ask.new.table c.ask.new.cache c.from_residual.result error c.from_residual.ensures.1
    (ask_failed calls ends (reverse c.calls.frames.items) c.calls.table c.calls.cache c.calls.turn c.calls.invariant c.in-Ask.question
    c.in-Ask.is c.ask.new.table c.ask.new.cache error
    c.in_err-parts-in-Ask.ensures.answer)

pub returns-in_err-push-in-Open : goal.returns-in_err-push-in-Open
returns-in_err-push-in-Open g c =
    let calls = g.O.Operation.calls in
    let ends = calls.ends c.args.table.now c.args.cache.now c.args.question in
    handed ends c.ask.new.table c.ask.new.cache c.from_residual-in_err-push-in-Open.result OutOfMemory
    c.from_residual-in_err-push-in-Open.ensures.1
    (open_refused calls ends (reverse c.calls.frames.items) c.calls.table c.calls.cache c.calls.turn c.calls.invariant c.in-Ask.question
    c.in-Ask.is c.ask.new.table c.ask.new.cache
    c.in_ok-parts-in-Ask.field-0 c.in_ok-parts-in-Ask.ensures.answer c.in-Open.parts c.in-Open.is)

pub calls-smaller-in-Open : goal.calls-smaller-in-Open
calls-smaller-in-Open g c =
    let calls = g.O.Operation.calls in
    open_smaller calls (calls.ends c.args.table.now c.args.cache.now c.args.question)
    (reverse c.calls.frames.items) c.calls.table c.calls.cache c.calls.turn c.calls.invariant c.in-Ask.question c.in-Ask.is
    c.ask.new.table c.ask.new.cache c.in_ok-parts-in-Ask.field-0 c.in_ok-parts-in-Ask.ensures.answer c.in-Open.parts c.in-Open.is
    (reverse c.push.new.frames.items) c.in_ok-push-in-Open.ensures c.high.result c.high.ensures c.in_ok-parts-in-Ask.ensures.levels

pub calls-smaller-in-Some-low : goal.calls-smaller-in-Some-low
calls-smaller-in-Some-low g c =
    let calls = g.O.Operation.calls in
    let frame = c.in-Some.frame.now in
    let below = c.in-Some.ensures.0 in
    low_smaller calls (calls.ends c.args.table.now c.args.cache.now c.args.question)
    (reverse c.calls.frames.items) c.calls.table c.calls.cache c.calls.turn c.calls.invariant c.in-Answer.found c.in-Answer.is
    frame below c.in-Some.ensures.1 c.in-None.is c.in-Some-low.question (sym c.in-Some-low.is ∙ c.low.ensures)
    (reverse c.answer_high.new.frames.items) (c.answer_high.ensures frame below c.in-Some.ensures.1)

pub returns-in_err-closed-in-Some-high : goal.returns-in_err-closed-in-Some-high
returns-in_err-closed-in-Some-high g c =
    let calls = g.O.Operation.calls in
    let ends = calls.ends c.args.table.now c.args.cache.now c.args.question in
    let error = c.in_err-closed-in-Some-high.field-0.0 in
    handed ends c.close.new.table c.close.new.cache c.from_residual-in_err-closed-in-Some-high.result error
    c.from_residual-in_err-closed-in-Some-high.ensures.1
    (close_failed calls ends (reverse c.calls.frames.items) c.calls.table c.calls.cache c.calls.turn c.calls.invariant c.in-Answer.found
    c.in-Answer.is
    c.in-Some.frame.now c.in-Some.ensures.0 c.in-Some.ensures.1 c.in-Some-high.high c.in-Some-high.is c.close.new.table
    c.close.new.cache error c.in_err-closed-in-Some-high.ensures.closes)
