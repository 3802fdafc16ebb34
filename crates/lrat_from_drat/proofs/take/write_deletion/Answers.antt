-- The line of the deletion, by how its write ended.
use Rattle.std.proofs.Common.{[], ◌∷◌, refl, sym, subst}
use Rattle.cnf_base.specs.declared.step.Step.TheVariants.{Delete}
use Rattle.lrat_from_drat.specs.Writing.{WritesLine}
use Rattle.lrat_from_drat.proofs.Taken.{by-answer}
use Rattle.lrat_from_drat.proofs.take.write_deletion.Goals as goal

pub returns-clause-writes : goal.returns-clause-writes
returns-clause-writes g c =
    let own = Delete c.args.last (c.args.id ∷ []) in
    subst (WritesLine g.S.Sink.tells (g.S.Sink.channel c.args.sink.now) (g.S.Sink.channel c.write_delete.new.sink) own)
    (sym c.answer_by.ensures)
    (by-answer g.S.Sink.tells (g.S.Sink.channel c.args.sink.now) (g.S.Sink.channel c.write_delete.new.sink) own c.write_delete.result refl
    c.write_delete.ensures.writes)
