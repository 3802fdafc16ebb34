-- What is left to show of `convert_into`.
use Rattle.std.proofs.Common.{sym, subst}
use Rattle.host_io.specs.declared.role.Role.TheVariants.{ProofIn, ProofOut}
use Rattle.command_line.specs.declared.conversion.Conversion.{Conversion}
use Rattle.solver_cli.specs.ConvertedProof.{Converts}
use Rattle.solver_cli.proofs.conversion.convert_into.Goals as goal

pub returns-in-IntoDrat-clause-converts : goal.returns-in-IntoDrat-clause-converts
returns-in-IntoDrat-clause-converts g c =
    subst (λ (into : Conversion). Converts g.H.Host.tells (g.H.Host.channel c.args.host.now ProofIn)
    (g.H.Host.channel c.convert.new.host ProofIn) (g.H.Host.channel c.args.host.now ProofOut)
    (g.H.Host.channel c.convert.new.host ProofOut) into c.args.formula.now c.convert.result) (sym c.in-IntoDrat.is) (record {
      decides = c.convert.ensures.decides;
      written = c.convert.ensures.written;
      undecided = c.convert.ensures.undecided;
      memory = c.convert.ensures.memory;
      read_fault = c.convert.ensures.read_fault;
      write_fault = c.convert.ensures.write_fault;
      unfailed_reads = c.convert.ensures.read;
      unfailed_writes = c.convert.ensures.unfailed;
      reads = c.convert.ensures.reads;
      writes = c.convert.ensures.writes;
    })
