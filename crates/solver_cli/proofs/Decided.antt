-- From the end of a run of the plan to the proof that was written.
use Rattle.std.proofs.Common.{◌≡◌, ◌<◌, ℕ, ℤ, zero, suc, Bool, true, false, true≢false, List, [], ◌∷◌, length, length-append, refl, sym}
use Rattle.std.proofs.Common.{ap, ◌∙◌, subst, arith, Ok, Err}
use Rattle.std.specs.Prelude.{Result, IfOk, IsTrue, IsFalse}
use Rattle.cnf_base.specs.Formula.{Formula}
use Rattle.host_io.specs.Channel.{Channel}
use Rattle.host_io.specs.declared.role.Role.{Role}
use Rattle.host_io.specs.declared.role.Role.TheVariants.{ProofOut}
use Rattle.lrat_rules.specs.State.{State}
use Rattle.lrat_rules.specs.Run.{Spells}
use Rattle.lrat_rules.specs.Derivation.{IsWritten}
use Rattle.cnf_base.specs.Order.{natural}
use Rattle.schedule_plan.specs.declared.plan.Move.{Move}
use Rattle.schedule_plan.specs.declared.limits.Limits.{Limits}
use Rattle.bdd_terms.specs.declared.error.RunError.{RunError}
use Rattle.term_runner.specs.declared.outcome.Run.{Run}
use Rattle.term_runner.specs.Clauses.{has_empty_clause}
use Rattle.term_runner.specs.Ends.{Ends, EndsAs, Shows}
use Rattle.term_runner.specs.declared.outcome.Outcome.TheVariants.{NodeLimit}
use Rattle.parity_equations.specs.Conflict.{AreInConflict}
use Rattle.parity_equations.specs.Equations.{equations}
use Rattle.parity_terms.specs.Limit.{nodes_needed}
use Rattle.parity_runs.specs.Ends.{EndsWithParity}
use Rattle.solver_cli.specs.Sums.{AreAmpleAs, IsPaidAs, NeedsSums}
use Rattle.term_runner.specs.Proofs.{LeadsTo}
use Rattle.solver_cli.specs.Answer.{greatest_in, last_identifier}
use Rattle.solver_cli.specs.Phases.{WritesProof}

pub length_natural : (n : ℕ) → length (natural n) ≡ n
length_natural zero = refl
length_natural (suc n) = omega (arith, length-append (natural n) (suc n ∷ []), length_natural n)

-- the last identifier is that of the bytes
last_of : {formula : Formula} {limits : Limits} {bytes : List ℕ} {last : ℕ}
    → ((clauses : List (List ℤ)) (bytes : List ℕ) (state : State) → IsWritten clauses bytes state → Spells clauses bytes state)
    → LeadsTo formula limits bytes last → last ≡ last_identifier formula.clauses bytes
last_of {formula = formula} {bytes = bytes} spells leads =
    sym (ap greatest_in (spells formula.clauses bytes leads.proof.state leads.proof.written).reached ∙ leads.top)

-- the same of any evidence and price
ended : {parity tells : Bool} {old new : Channel} {problem : Formula} {order : List ℕ} {moves : List Move} {limits : Limits}
    → ((clauses : List (List ℤ)) (bytes : List ℕ) (state : State) → IsWritten clauses bytes state → Spells clauses bytes state)
    → (result : Result Run RunError)
    → EndsAs tells old new problem order moves limits (Shows problem limits) (IsPaidAs parity problem limits moves)
    (AreAmpleAs parity limits problem moves) result
    → (IsTrue parity → IfOk result (λ ending. ending.outcome ≡ NodeLimit → NeedsSums limits problem))
    → WritesProof parity tells old new problem order moves limits result
ended spells (Ok run) ends conflict = record {
  says = ends.says;
  certain = ends.certain;
  shows = ends.shows;
  last = λ t. last_of spells (ends.last t);
  whole = ends.whole;
  so_far = ends.so_far;
  price = ends.price;
  conflict = conflict;
  flushed = ends.flushed;
  fault = ends.fault;
  unfailed = ends.unfailed;
  only = record { name = ends.name; faults = ends.faults };
}
ended spells (Err error) ends conflict = record {
  says = tt;
  certain = ends.certain;
  shows = λ t. tt;
  last = λ t. tt;
  whole = ends.whole;
  so_far = ends.so_far;
  price = ends.price;
  conflict = conflict;
  flushed = ends.flushed;
  fault = ends.fault;
  unfailed = ends.unfailed;
  only = record { name = ends.name; faults = ends.faults };
}

-- without sums
pub written : {tells : Bool} {old new : Channel} {problem : Formula} {order : List ℕ} {moves : List Move} {limits : Limits}
    (parity : Bool) → parity ≡ false
    → ((clauses : List (List ℤ)) (bytes : List ℕ) (state : State) → IsWritten clauses bytes state → Spells clauses bytes state)
    → (result : Result Run RunError) → Ends tells old new problem order moves limits result
    → WritesProof parity tells old new problem order moves limits result
written true is spells result ends = absurd (true≢false is)
written false is spells result ends = ended {parity = false} spells result ends (λ e. absurd (true≢false (sym e)))

-- with them
conflict_of : (limits : Limits) (problem : Formula) (result : Result Run RunError)
    → (IsFalse (has_empty_clause problem.clauses) → AreInConflict (equations problem.clauses)
    → IfOk result (λ run. run.outcome ≡ NodeLimit → limits.max_nodes < nodes_needed (equations problem.clauses)))
    → IfOk result (λ ending. ending.outcome ≡ NodeLimit → NeedsSums limits problem)
conflict_of limits problem (Ok run) conflict = λ limit none are. conflict none are limit
conflict_of limits problem (Err error) conflict = tt

pub written_behind : {tells : Bool} {old new : Channel} {problem : Formula} {order : List ℕ} {moves : List Move} {limits : Limits}
    (parity : Bool) → parity ≡ true
    → ((clauses : List (List ℤ)) (bytes : List ℕ) (state : State) → IsWritten clauses bytes state → Spells clauses bytes state)
    → (result : Result Run RunError) → EndsWithParity tells old new problem order moves limits result
    → WritesProof parity tells old new problem order moves limits result
written_behind {problem = problem} {limits = limits} false is spells result ends = absurd (true≢false (sym is))
written_behind {problem = problem} {limits = limits} true is spells result ends =
    ended {parity = true} spells result ends.behind (λ _. conflict_of limits problem result ends.conflict)

-- the proof's channel in a host that was lent
pub written_between : {H : Type 0} (channel : H → Role → Channel) {tells : Bool} {start lent new end : H} {seen : Channel}
    {problem : Formula} {order : List ℕ} {moves : List Move} {limits : Limits} {result : Result Run RunError} {parity : Bool} → lent ≡ start → new ≡ end
    → channel end ProofOut ≡ seen → WritesProof parity tells (channel lent ProofOut) seen problem order moves limits result
    → WritesProof parity tells (channel start ProofOut) (channel new ProofOut) problem order moves limits result
written_between {H} channel {tells = tells} {start = start} {lent = lent} {new = new} {seen = seen} {problem = problem} {order = order} {moves = moves}
    {limits = limits} {result = result} {parity = parity} from to told writes =
    subst (λ (o : H). WritesProof parity tells (channel o ProofOut) (channel new ProofOut) problem order moves limits result) from
    (subst (λ (n : Channel). WritesProof parity tells (channel lent ProofOut) n problem order moves limits result) (sym (ap (λ (h : H). channel h ProofOut) to ∙ told))
    writes)
