-- What is left to show of `write_out`.
use Rattle.std.proofs.Common.{ℕ, List, [], ◌++◌, refl, sym, ap}
use Rattle.host_io.proofs.Emitting.{cut_short}
use Rattle.proof_trim.proofs.lines.write_out.Goals as goal

pub returns-in_err-write_all-clause-emits : goal.returns-in_err-write_all-clause-emits
returns-in_err-write_all-clause-emits g c =
    cut_short c.in_err-write_all.ensures.writes refl c.from_residual.ensures.0 c.args.held.now [] c.args.held.now []
    (ap (λ (l : List ℕ). l ++ []) (sym c.as_slice.ensures))
