-- What is left to show of `emit_step`.
use Rattle.std.proofs.Common.{ℕ, List, ◌∷◌, sym, ap, ◌∙◌}
use Rattle.proof_trim.specs.Lines.{text_from}
use Rattle.proof_trim.specs.Numbers.{has}
use Rattle.proof_trim.specs.Trimmed.{is_there}
use Rattle.proof_trim.specs.declared.place.Place.TheVariants.{Between}
use Rattle.proof_trim.proofs.Emitting.{addition_begun, deletion_begun, puts_all, puts_behind, spells_begun}
use Rattle.proof_trim.proofs.lines.emit_step.Goals as goal

pub returns-then-kind-eq1-clause-puts : goal.returns-then-kind-eq1-clause-puts
returns-then-kind-eq1-clause-puts g c =
    let there = is_there c.args.count (has c.args.numbers.now) in
    puts_behind (spells_begun (g.S.Sink.channel c.args.sink.now) c.args.held.now (text_from there Between (c.args.kind ∷ c.args.row.now)))
    (deletion_begun there c.args.kind c.in-Some.id c.args.row.now c.pop.new.self c.if-kind-eq1.true c.in-Some.ensures.some)
    c.emit_deletion.ensures.puts

pub returns-else-kind-eq1-clause-puts : goal.returns-else-kind-eq1-clause-puts
returns-else-kind-eq1-clause-puts g c =
    let there = is_there c.args.count (has c.args.numbers.now) in
    puts_behind (spells_begun (g.S.Sink.channel c.args.sink.now) c.args.held.now (text_from there Between (c.args.kind ∷ c.args.row.now)))
    (addition_begun there c.args.kind c.in-Some.id c.args.row.now c.pop.new.self c.if-kind-eq1.false c.in-Some.ensures.some)
    (c.emit_addition.ensures.puts there)

pub returns-in-None-clause-puts : goal.returns-in-None-clause-puts
returns-in-None-clause-puts g c =
    let there = is_there c.args.count (has c.args.numbers.now) in
    puts_all (spells_begun (g.S.Sink.channel c.args.sink.now) c.args.held.now (text_from there Between (c.args.kind ∷ c.args.row.now)))
    (ap (λ (l : List ℕ). text_from there Between (c.args.kind ∷ l)) c.in-None.ensures.none
    ∙ sym (ap (text_from there Between) c.in-None.ensures.left))
