-- What is left to show of `trim`.
use Rattle.std.proofs.Common.{◌≡◌, ℕ, List, Option, Some, None, refl, ◌∙◌}
use Rattle.host_io.specs.declared.role.Role.TheVariants.{Err as ErrRole}
use Rattle.command_line.specs.Reading.{trim_of}
use Rattle.solver_cli.proofs.StagedTrim.{rejected, trimmed, untrimmed}
use Rattle.solver_cli.proofs.program.trim.Goals as goal

pub returns-in-Err-trim_proof-clause-came : goal.returns-in-Err-trim_proof-clause-came
returns-in-Err-trim_proof-clause-came g c =
    untrimmed {task = trim_of c.args.asked.now} (g.H.Host.channel c.args.host.now) (g.H.Host.channel c.take_formula.new.host)
    (g.H.Host.channel c.trim_proof.new.host) (g.H.Host.files c.args.host.now) (g.H.Host.files c.take_formula.new.host)
    (g.H.Host.files c.trim_proof.new.host) c.in-Ok.ensures.takes c.in-Ok.ensures.kept c.in-Err-trim_proof.ensures.trims
    c.trim_proof.ensures.kept c.from-in-Err-trim_proof.ensures

pub returns-in-Steps-clause-came : goal.returns-in-Steps-clause-came
returns-in-Steps-clause-came g c =
    trimmed {task = trim_of c.args.asked.now} (g.H.Host.channel c.args.host.now) (g.H.Host.channel c.take_formula.new.host)
    (g.H.Host.channel c.trim_proof.new.host) (g.H.Host.channel c.keep.new.host) (g.H.Host.files c.args.host.now)
    (g.H.Host.files c.take_formula.new.host) (g.H.Host.files c.trim_proof.new.host) (g.H.Host.files c.keep.new.host)
    c.in-Ok.ensures.takes c.in-Ok.ensures.kept c.in-Ok-trim_proof.ensures.trims c.in-Steps.is c.trim_proof.ensures.kept c.keep.ensures.came
    c.keep.ensures.beside

pub returns-clause-came : goal.returns-clause-came
returns-clause-came g c =
    rejected {task = trim_of c.args.asked.now} (g.H.Host.channel c.args.host.now) (g.H.Host.channel c.take_formula.new.host)
    (g.H.Host.channel c.trim_proof.new.host) (g.H.Host.channel c.show.new.host) (g.H.Host.files c.args.host.now)
    (g.H.Host.files c.take_formula.new.host) (g.H.Host.files c.trim_proof.new.host) (g.H.Host.files c.show.new.host)
    c.in-Ok.ensures.takes c.in-Ok.ensures.kept c.in-Ok-trim_proof.ensures.trims c.in-Refused.is c.trim_proof.ensures.kept c.show.ensures.shows
    c.show.ensures.kept

-- what was left alone
none_some : {file : List ℕ} → ◌≡◌ {A = Option (List ℕ)} None (Some file) → ⊥
none_some e = cc

pub returns-in-Err-clause-error : goal.returns-in-Err-clause-error
returns-in-Err-clause-error g c = c.take_formula.ensures.kept.others ErrRole refl

pub returns-in-Err-clause-files : goal.returns-in-Err-clause-files
returns-in-Err-clause-files g c = λ file one other. c.take_formula.ensures.kept.files file none_some

pub returns-in-Err-trim_proof-clause-error : goal.returns-in-Err-trim_proof-clause-error
returns-in-Err-trim_proof-clause-error g c =
    c.trim_proof.ensures.kept.others ErrRole refl ∙ c.in-Ok.ensures.kept.others ErrRole refl

pub returns-in-Err-trim_proof-clause-files : goal.returns-in-Err-trim_proof-clause-files
returns-in-Err-trim_proof-clause-files g c = λ file one other.
    c.trim_proof.ensures.kept.files file none_some ∙ c.in-Ok.ensures.kept.files file none_some

pub returns-in-Steps-clause-error : goal.returns-in-Steps-clause-error
returns-in-Steps-clause-error g c =
    c.keep.ensures.beside.others ErrRole refl refl refl ∙ c.trim_proof.ensures.kept.others ErrRole refl
    ∙ c.in-Ok.ensures.kept.others ErrRole refl

pub returns-in-Steps-clause-files : goal.returns-in-Steps-clause-files
returns-in-Steps-clause-files g c = λ file one other.
    c.keep.ensures.beside.files file one other ∙ c.trim_proof.ensures.kept.files file none_some
    ∙ c.in-Ok.ensures.kept.files file none_some

pub returns-clause-error : goal.returns-clause-error
returns-clause-error g c =
    c.show.ensures.kept.others ErrRole refl ∙ c.trim_proof.ensures.kept.others ErrRole refl ∙ c.in-Ok.ensures.kept.others ErrRole refl
