-- What is left to show of `bench_asked`.
use Rattle.std.proofs.Common.{rules, None, Some, ◌≡◌, refl}
use Rattle.clap.specs.Words.{found_of, rows_of}
use Rattle.command_line.specs.Command.{Misuse, bench_means, limits_among, progress_among}
use Rattle.command_line.proofs.Meant.{bench_values}
use Rattle.command_line.proofs.board.bench_asked.Goals as goal

pub returns-in_err-proof-clause-meant : goal.returns-in_err-proof-clause-meant
returns-in_err-proof-clause-meant c =
    let means : bench_means (rows_of (found_of c.args.values.now)) ≡ Misuse =
    bench_values c.args.values.now (Some c.in_ok-size.size) None
    (limits_among (rows_of (found_of c.args.values.now))) (progress_among (rows_of (found_of c.args.values.now)))
    c.in_ok-size.ensures.given c.in_err-proof.ensures refl refl in
    search (rules, means)

pub returns-clause-meant : goal.returns-clause-meant
returns-clause-meant c =
    bench_values c.args.values.now (Some c.in_ok-size.size) (Some c.in_ok-proof.proof.now) (Some c.in_ok-limits.limits)
    c.flag_among-progress.result c.in_ok-size.ensures.given c.in_ok-proof.ensures c.in_ok-limits.ensures.given
    c.flag_among-progress.ensures
