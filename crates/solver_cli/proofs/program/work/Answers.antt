-- What is left to show of `work`: each command's own call says how far it came.
use Rattle.std.proofs.Common.{◌≡◌, Bool, List, ℕ, Some, None, Option, refl, sym, ap, ◌∙◌, subst, inl, inr, map, string_bytes}
use Rattle.host_io.specs.declared.role.Role.TheVariants.{Err as ErrRole}
use Rattle.command_line.specs.Command.{Command, command, progress_asked}
use Rattle.command_line.specs.Reading.{command_of, convert_of, trim_of}
use Rattle.command_line.specs.declared.words.Asked.{Asked}
use Rattle.solver_cli.specs.Progress.{IsTold}
use Rattle.solver_cli.specs.Stages.{arrange_of, ask_of, bench_of, check_of, make_of, task_of}
use Rattle.solver_cli.proofs.Commented.{untold}
use Rattle.solver_cli.proofs.program.work.Goals as goal

-- the command that the words give, where it is this one
given : {words : Option Command} {asked this : Asked} → words ≡ Some (command_of asked) → asked ≡ this → words ≡ Some (command_of this)
given meant is = meant ∙ ap (λ (a : Asked). Some (command_of a)) is

none_some : {file : List ℕ} → ◌≡◌ {A = Option (List ℕ)} None (Some file) → ⊥
none_some e = cc

pub returns-in-Ok-Solve-clause-stages : goal.returns-in-Ok-Solve-clause-stages
returns-in-Ok-Solve-clause-stages g c =
    inr (inr (inl (record {
      task = task_of c.in-Ok-Solve.task;
      asked = given c.in-Ok-Solve.ensures.meant c.in-Ok-Solve.field-0-is;
      came = c.solve.ensures.came;
    })))

pub returns-in-Ok-Solve-clause-told : goal.returns-in-Ok-Solve-clause-told
returns-in-Ok-Solve-clause-told g c =
    subst (λ (on : Bool). IsTold on g.H.Host.tells (g.H.Host.channel c.args.host.now ErrRole) (g.H.Host.channel c.solve.new.host ErrRole))
    (sym (ap progress_asked (given c.in-Ok-Solve.ensures.meant c.in-Ok-Solve.field-0-is))) c.solve.ensures.told

pub returns-in-Ok-Solve-clause-files : goal.returns-in-Ok-Solve-clause-files
returns-in-Ok-Solve-clause-files g c = λ file one other. c.solve.ensures.files file one

pub returns-in-Ok-Check-clause-stages : goal.returns-in-Ok-Check-clause-stages
returns-in-Ok-Check-clause-stages g c =
    inr (inr (inr (inl (record {
      task = check_of c.in-Ok-Check.task;
      asked = given c.in-Ok-Check.ensures.meant c.in-Ok-Check.field-0-is;
      came = c.serve.ensures.came;
    }))))

pub returns-in-Ok-Check-clause-told : goal.returns-in-Ok-Check-clause-told
returns-in-Ok-Check-clause-told g c =
    subst (λ (on : Bool). IsTold on g.H.Host.tells (g.H.Host.channel c.args.host.now ErrRole) (g.H.Host.channel c.serve.new.host ErrRole))
    (sym (ap progress_asked (given c.in-Ok-Check.ensures.meant c.in-Ok-Check.field-0-is))) c.serve.ensures.told

pub returns-in-Ok-Check-clause-files : goal.returns-in-Ok-Check-clause-files
returns-in-Ok-Check-clause-files g c = c.serve.ensures.files

pub returns-in-Ok-Bench-clause-stages : goal.returns-in-Ok-Bench-clause-stages
returns-in-Ok-Bench-clause-stages g c =
    inr (inr (inr (inr (inl (record {
      task = bench_of c.in-Ok-Bench.task;
      asked = given c.in-Ok-Bench.ensures.meant c.in-Ok-Bench.field-0-is;
      came = c.bench.ensures.came;
    })))))

pub returns-in-Ok-Bench-clause-told : goal.returns-in-Ok-Bench-clause-told
returns-in-Ok-Bench-clause-told g c =
    subst (λ (on : Bool). IsTold on g.H.Host.tells (g.H.Host.channel c.args.host.now ErrRole) (g.H.Host.channel c.bench.new.host ErrRole))
    (sym (ap progress_asked (given c.in-Ok-Bench.ensures.meant c.in-Ok-Bench.field-0-is))) c.bench.ensures.told

pub returns-in-Ok-Bench-clause-files : goal.returns-in-Ok-Bench-clause-files
returns-in-Ok-Bench-clause-files g c = λ file one other. c.bench.ensures.files file one

pub returns-in-Ok-Make-clause-stages : goal.returns-in-Ok-Make-clause-stages
returns-in-Ok-Make-clause-stages g c =
    inr (inr (inr (inr (inr (inl (record {
      task = make_of c.in-Ok-Make.task;
      asked = given c.in-Ok-Make.ensures.meant c.in-Ok-Make.field-0-is;
      came = c.make.ensures.came;
    }))))))

pub returns-in-Ok-Make-clause-told : goal.returns-in-Ok-Make-clause-told
returns-in-Ok-Make-clause-told g c = untold (progress_asked (command (map string_bytes c.args.words.now))) c.make.ensures.error

pub returns-in-Ok-Make-clause-files : goal.returns-in-Ok-Make-clause-files
returns-in-Ok-Make-clause-files g c = λ file one other. c.make.ensures.files file other

pub returns-in-Ok-Order-clause-stages : goal.returns-in-Ok-Order-clause-stages
returns-in-Ok-Order-clause-stages g c =
    inr (inr (inr (inr (inr (inr (inl (record {
      task = arrange_of c.in-Ok-Order.task;
      asked = given c.in-Ok-Order.ensures.meant c.in-Ok-Order.field-0-is;
      came = c.serve-in-Ok-Order.ensures.came;
    })))))))

pub returns-in-Ok-Order-clause-told : goal.returns-in-Ok-Order-clause-told
returns-in-Ok-Order-clause-told g c =
    subst (λ (on : Bool). IsTold on g.H.Host.tells (g.H.Host.channel c.args.host.now ErrRole) (g.H.Host.channel c.serve-in-Ok-Order.new.host ErrRole))
    (sym (ap progress_asked (given c.in-Ok-Order.ensures.meant c.in-Ok-Order.field-0-is))) c.serve-in-Ok-Order.ensures.told

pub returns-in-Ok-Order-clause-files : goal.returns-in-Ok-Order-clause-files
returns-in-Ok-Order-clause-files g c = c.serve-in-Ok-Order.ensures.files

pub returns-in-Ok-Convert-clause-stages : goal.returns-in-Ok-Convert-clause-stages
returns-in-Ok-Convert-clause-stages g c =
    inr (inr (inr (inr (inr (inr (inr (inl (record {
      task = convert_of c.in-Ok-Convert.task;
      asked = given c.in-Ok-Convert.ensures.meant c.in-Ok-Convert.field-0-is;
      came = c.serve-in-Ok-Convert.ensures.came;
    }))))))))

pub returns-in-Ok-Convert-clause-told : goal.returns-in-Ok-Convert-clause-told
returns-in-Ok-Convert-clause-told g c =
    subst (λ (on : Bool). IsTold on g.H.Host.tells (g.H.Host.channel c.args.host.now ErrRole) (g.H.Host.channel c.serve-in-Ok-Convert.new.host ErrRole))
    (sym (ap progress_asked (given c.in-Ok-Convert.ensures.meant c.in-Ok-Convert.field-0-is))) c.serve-in-Ok-Convert.ensures.told

pub returns-in-Ok-Convert-clause-files : goal.returns-in-Ok-Convert-clause-files
returns-in-Ok-Convert-clause-files g c = c.serve-in-Ok-Convert.ensures.files

pub returns-in-Ok-Trim-clause-stages : goal.returns-in-Ok-Trim-clause-stages
returns-in-Ok-Trim-clause-stages g c =
    inr (inr (inr (inr (inr (inr (inr (inr (inl (record {
      task = trim_of c.in-Ok-Trim.task;
      asked = given c.in-Ok-Trim.ensures.meant c.in-Ok-Trim.field-0-is;
      came = c.serve-in-Ok-Trim.ensures.came;
    })))))))))

pub returns-in-Ok-Trim-clause-told : goal.returns-in-Ok-Trim-clause-told
returns-in-Ok-Trim-clause-told g c =
    subst (λ (on : Bool). IsTold on g.H.Host.tells (g.H.Host.channel c.args.host.now ErrRole) (g.H.Host.channel c.serve-in-Ok-Trim.new.host ErrRole))
    (sym (ap progress_asked (given c.in-Ok-Trim.ensures.meant c.in-Ok-Trim.field-0-is))) c.serve-in-Ok-Trim.ensures.told

pub returns-in-Ok-Trim-clause-files : goal.returns-in-Ok-Trim-clause-files
returns-in-Ok-Trim-clause-files g c = c.serve-in-Ok-Trim.ensures.files

pub returns-in-Ok-Ask-clause-stages : goal.returns-in-Ok-Ask-clause-stages
returns-in-Ok-Ask-clause-stages g c =
    inr (inr (inr (inr (inr (inr (inr (inr (inr (record {
      task = ask_of c.in-Ok-Ask.task;
      asked = given c.in-Ok-Ask.ensures.meant c.in-Ok-Ask.field-0-is;
      came = c.serve-in-Ok-Ask.ensures.came;
    })))))))))

pub returns-in-Ok-Ask-clause-told : goal.returns-in-Ok-Ask-clause-told
returns-in-Ok-Ask-clause-told g c =
    subst (λ (on : Bool). IsTold on g.H.Host.tells (g.H.Host.channel c.args.host.now ErrRole) (g.H.Host.channel c.serve-in-Ok-Ask.new.host ErrRole))
    (sym (ap progress_asked (given c.in-Ok-Ask.ensures.meant c.in-Ok-Ask.field-0-is))) c.serve-in-Ok-Ask.ensures.told

pub returns-in-Ok-Ask-clause-files : goal.returns-in-Ok-Ask-clause-files
returns-in-Ok-Ask-clause-files g c = c.serve-in-Ok-Ask.ensures.files

pub returns-in-Err-OutOfMemory-clause-told : goal.returns-in-Err-OutOfMemory-clause-told
returns-in-Err-OutOfMemory-clause-told g c = untold (progress_asked (command (map string_bytes c.args.words.now))) refl

pub returns-in-Err-OutOfMemory-clause-files : goal.returns-in-Err-OutOfMemory-clause-files
returns-in-Err-OutOfMemory-clause-files g c = λ file one other. refl

pub returns-in-Err-Usage-clause-told : goal.returns-in-Err-Usage-clause-told
returns-in-Err-Usage-clause-told g c = untold (progress_asked (command (map string_bytes c.args.words.now))) refl

pub returns-in-Err-Usage-clause-files : goal.returns-in-Err-Usage-clause-files
returns-in-Err-Usage-clause-files g c = λ file one other. refl
