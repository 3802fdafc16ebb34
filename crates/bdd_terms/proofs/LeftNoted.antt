-- How many nodes a reclamation left is noted.
use Rattle.std.proofs.Common.{◌≡◌, ◌⊎◌, ◌+◌, ℕ, [], Some, Ok, Err, Result, sym, subst}
use Rattle.std.specs.Prelude.{◌≢◌, IsErrAnd}
use Rattle.node_table.specs.declared.error.TableError.{TableError}
use Rattle.node_table.specs.declared.error.TableError.TheVariants.{OutOfMemory, WriteFault}
use Rattle.node_table.specs.HandedOn.{no_error}
use Rattle.node_table.specs.Progress.{Continues, Leaves}
use Rattle.node_table.specs.Table.{live_nodes}
use Rattle.bdd_terms.specs.declared.runner.Runner.{Runner}
use Rattle.bdd_terms.specs.Caches.{sizes}
use Rattle.bdd_terms.specs.Runner.{IsRunner, IsSameRun, nodes_of}
use Rattle.bdd_terms.specs.Takes.{GivesBack}
use Rattle.bdd_terms.specs.Tidy.{LeavesReached}

module _ {S : Type 0} (old mid : Runner S) (out : mid.terms.out ≡ old.terms.out) (formula : mid.formula ≡ old.formula)
    (limits : mid.limits ≡ old.limits) (refuted : mid.refuted ≡ old.refuted) (kept : mid.kept ≡ old.kept)
    (refusals : mid.refusals ≡ old.refusals) (same_sizes : sizes mid.terms.caches ≡ sizes old.terms.caches)
    (origin : mid.terms.table.book.origin ≡ old.terms.table.book.origin)
    (top : mid.terms.table.book.state.top ≡ old.terms.table.book.state.top) where
  same_run : IsSameRun old mid
  same_run = record {
    formula = formula;
    limits = limits;
    kept = kept;
    refusals = refusals;
    sizes = same_sizes;
    origin = origin;
  }

  -- nodes were given back
  module _ (left : ℕ) (noted : left ≡ live_nodes mid.terms.table.graph) where
    abbrev new : Runner S
    new = record mid { terms = record mid.terms { left = left } }

    runner_noted : IsRunner mid → IsRunner new
    runner_noted is = record {
      over = is.over;
      within = is.within;
      proved = is.proved;
      units = is.units;
      refusals = is.refusals;
      kept = is.kept;
      refuted = is.refuted;
      unrefuted = is.unrefuted;
    }

    pub gives_back_noted : (count : ℕ) → IsRunner mid
        → LeavesReached old.terms.table.graph mid.terms.table.graph (nodes_of old.terms.out.items)
        → live_nodes mid.terms.table.graph + count ≡ live_nodes old.terms.table.graph → mid.terms.table.retired ≡ []
        → Continues old.terms.table mid.terms.table → GivesBack old new (Ok count)
    gives_back_noted count goes_on reached counted settled continues = record {
      goes_on = λ whole. runner_noted goes_on;
      reached = reached;
      count = counted;
      left = noted;
      settled = settled;
      memory = λ is. absurd (no_error is);
      kept = tt;
      top = top;
      out = out;
      refuted = refuted;
      same = record {
        formula = formula;
        limits = limits;
        kept = kept;
        refusals = refusals;
        sizes = same_sizes;
        origin = origin;
      };
      leaves = continues;
      error = tt;
    }

  -- or none
  pub gives_back_none : mid.terms.left ≡ old.terms.left → (came : TableError) → (result : Result ℕ TableError)
      → IsErrAnd result (λ e. e ≡ came)
      → (◌≢◌ {A = Result ℕ TableError} (Err came) (Err WriteFault) → IsRunner mid)
      → (◌≡◌ {A = Result ℕ TableError} (Err came) (Err OutOfMemory) → mid.terms.table ≡ old.terms.table)
      → mid.terms.table.graph ≡ old.terms.table.graph → Leaves old.terms.table mid.terms.table (Some came)
      → (came ≡ OutOfMemory) ⊎ (came ≡ WriteFault) → GivesBack old mid result
  gives_back_none left came (Ok count) is goes_on memory nodes leaves error = absurd is
  gives_back_none left came (Err e) is goes_on memory nodes leaves error =
      subst (λ (e : TableError). GivesBack old mid (Err e)) (sym is) (record {
        goes_on = λ whole. goes_on whole;
        reached = tt;
        count = tt;
        left = tt;
        settled = tt;
        memory = memory;
        kept = (nodes, left);
        top = top;
        out = out;
        refuted = refuted;
        same = same_run;
        leaves = leaves;
        error = error;
      })
