-- A run that ends for want of memory before anything was written.
use Rattle.std.proofs.Common.{◌≡◌, ℕ, Bool, true, false, ℤ, List, [], Err, refl, arith, inl}
use Rattle.std.specs.Prelude.{IsTrue}
use Rattle.cnf_base.specs.Formula.{Formula}
use Rattle.cnf_base.specs.Truth.{AreClausesOf}
use Rattle.host_io.specs.Channel.{Channel}
use Rattle.lrat_rules.specs.Derivation.{IsDerivation, IsWritten}
use Rattle.lrat_rules.specs.Marks.{in_use}
use Rattle.lrat_rules.specs.State.{start}
use Rattle.node_table.specs.HandedOn.{same_error}
use Rattle.schedule_plan.specs.declared.plan.Move.{Move}
use Rattle.schedule_plan.specs.declared.limits.Limits.{Limits}
use Rattle.bdd_terms.specs.declared.error.RunError.TheVariants.{OutOfMemory, WriteFault}
use Rattle.term_runner.specs.Proofs.{IsProof, KeepsWithin}
use Rattle.parity_runs.specs.Ends.{EndsBehind, EndsWithParity}

module _ (none : (clauses : List (List ℤ)) → IsDerivation clauses [] (start clauses))
    (unused : (vars : ℕ) (clauses : List (List ℤ)) → AreClausesOf vars clauses → in_use vars (start clauses) ≡ 0)
    (tells : Bool) (channel : Channel) (formula : Formula) (order : List ℕ) (moves : List Move) (limits : Limits)
    (literals : AreClausesOf formula.vars formula.clauses) (fresh : IsTrue tells → channel.written ≡ []) where
  begun : IsTrue tells → IsWritten formula.clauses channel.written (start formula.clauses)
  begun t = record { steps = []; derived = none formula.clauses; text = fresh t }

  within : KeepsWithin formula limits (start formula.clauses)
  within = record {
    numbers = omega arith;
    nodes = omega (arith, unused formula.vars formula.clauses literals);
  }

  whole : IsTrue tells → IsProof formula limits channel.written
  whole t = record { state = start formula.clauses; written = begun t; within = within }

  nothing_behind : EndsBehind tells channel channel formula order moves limits (Err OutOfMemory)
  nothing_behind = record {
    says = tt;
    certain = λ width price has is ample. tt;
    shows = λ t. tt;
    last = λ t. tt;
    whole = λ fine t. whole t;
    so_far = λ t. inl (whole t);
    variables = λ t. record { steps = []; spelled = inl (fresh t); few = tt };
    price = λ width price has is t. inl (record {
      state = start formula.clauses;
      written = begun t;
      within = λ sum_width sum_price paid. omega arith;
    });
    flushed = λ is t. absurd (let e : false ≡ true = is in cc);
    fault = λ is. absurd (let e : OutOfMemory ≡ WriteFault = same_error is in cc);
    unfailed = λ fine. refl;
    tautologies = λ all. refl;
    name = refl;
    faults = omega arith;
  }

  pub nothing_ends : EndsWithParity tells channel channel formula order moves limits (Err OutOfMemory)
  nothing_ends = record {
    without = λ none memory. absurd (memory refl);
    behind = nothing_behind;
    conflict = λ full conflict. tt;
  }
