-- The same by sets, and by lists.
use Rattle.std.proofs.Common.{sym, subst}
use Rattle.host_io.specs.declared.role.Role.TheVariants.{ProofIn, ProofOut}
use Rattle.command_line.specs.declared.conversion.Conversion.TheVariants.{IntoLrat}
use Rattle.text_scan.specs.Decides.{Decides-map}
use Rattle.solver_cli.specs.ConvertedProof.{Converts}
use Rattle.solver_cli.proofs.conversion.to_lrat.Goals as goal

pub returns-then-any_order-clause-converts : goal.returns-then-any_order-clause-converts
returns-then-any_order-clause-converts g c =
    subst (λ b. Converts g.H.Host.tells (g.H.Host.channel c.args.host.now ProofIn) (g.H.Host.channel c.convert.new.host ProofIn)
    (g.H.Host.channel c.args.host.now ProofOut) (g.H.Host.channel c.convert.new.host ProofOut) (IntoLrat b) c.args.formula.now
    c.convert.result) (sym c.if-any_order.true) (record {
      decides = c.convert.ensures.decides;
      written = λ t. Decides-map _ (c.convert.ensures.lines t) (λ bytes more h. (c.convert.ensures.written t, h, c.convert.ensures.refutes t));
      undecided = c.convert.ensures.undecided;
      memory = c.convert.ensures.memory;
      read_fault = c.convert.ensures.read_fault;
      write_fault = c.convert.ensures.write_fault;
      unfailed_reads = c.convert.ensures.read;
      unfailed_writes = c.convert.ensures.unfailed;
      reads = c.convert.ensures.reads;
      writes = c.convert.ensures.writes;
    })

pub returns-else-any_order-clause-converts : goal.returns-else-any_order-clause-converts
returns-else-any_order-clause-converts g c =
    subst (λ b. Converts g.H.Host.tells (g.H.Host.channel c.args.host.now ProofIn) (g.H.Host.channel c.convert-else-any_order.new.host ProofIn)
    (g.H.Host.channel c.args.host.now ProofOut) (g.H.Host.channel c.convert-else-any_order.new.host ProofOut) (IntoLrat b) c.args.formula.now
    c.convert-else-any_order.result) (sym c.if-any_order.false) (record {
      decides = c.convert-else-any_order.ensures.decides;
      written = λ t. Decides-map _ (c.convert-else-any_order.ensures.lines t)
          (λ bytes more h. (c.convert-else-any_order.ensures.written t, h, c.convert-else-any_order.ensures.refutes t));
      undecided = c.convert-else-any_order.ensures.undecided;
      memory = c.convert-else-any_order.ensures.memory;
      read_fault = c.convert-else-any_order.ensures.read_fault;
      write_fault = c.convert-else-any_order.ensures.write_fault;
      unfailed_reads = c.convert-else-any_order.ensures.read;
      unfailed_writes = c.convert-else-any_order.ensures.unfailed;
      reads = c.convert-else-any_order.ensures.reads;
      writes = c.convert-else-any_order.ensures.writes;
    })
