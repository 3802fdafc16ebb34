-- What is left to show of `eliminate`.
use Rattle.std.proofs.Common.{◌≡◌, ℕ, Bool, true, List, Ok, Err, map, refl, sym, subst}
use Rattle.node_table.specs.declared.error.TableError.TheVariants.{NodeLimit}
use Rattle.parity_equations.specs.Walk.{listed}
use Rattle.parity_terms.specs.Ends.{Ends}
use Rattle.parity_terms.proofs.AllTaken.{ends_found, ends_limit, owns_left, runner_left}
use Rattle.parity_terms.proofs.elimination.eliminate.Goals as goal
use Rattle.std.proofs.Common.{◌<◌, Result, false, inl, inr, length}
use Rattle.std.specs.Prelude.{IfOk}
use Rattle.std.proofs.lemmas.List.{length-map}
use Rattle.node_table.specs.declared.error.TableError.{TableError}
use Rattle.parity_equations.specs.Conflict.{AreInConflict}
use Rattle.parity_terms.specs.Limit.{CostsElimination, all_variables, nodes_needed}
use Rattle.parity_terms.proofs.AllBounds.{costs_clauses, joined_numbers}

pub release_all-requires-clause-runner : goal.release_all-requires-clause-runner
release_all-requires-clause-runner g c on =
    runner_left c.steps_law.ensures _ c.take_all-found.new.rows.items c.args.runner.now c.take_all-found.new.runner c.take_all-found.result
    c.take_all-found.ensures.eliminates on

pub release_all-requires-clause-owns : goal.release_all-requires-clause-owns
release_all-requires-clause-owns g c on =
    owns_left c.steps_law.ensures _ c.take_all-found.new.rows.items c.args.runner.now c.take_all-found.new.runner c.take_all-found.result
    c.take_all-found.ensures.eliminates on

pub returns-clause-ends : goal.returns-clause-ends
returns-clause-ends g c =
    subst (λ (equations : List (List ℕ × Bool)). Ends equations c.args.runner.now c.release_all.new.runner c.take_all-found.result)
    c.requires.listed
    (ends_found c.steps_law.ensures (map listed c.args.equations.now.list.items) c.take_all-found.new.rows.items c.args.runner.now
    c.take_all-found.new.runner c.release_all.new.runner c.release_all.ensures.released c.release_all.ensures.torn
    c.take_all-found.result (λ is. let met : c.met_limit.result ≡ true = c.met_limit.ensures.1 is in cc)
    c.take_all-found.ensures.eliminates)

pub returns-then-met_limit-clause-ends : goal.returns-then-met_limit-clause-ends
returns-then-met_limit-clause-ends g c =
    let met : c.met_limit.result ≡ true = cc in
    let limit : c.take_all-found.result ≡ Err NodeLimit = c.met_limit.ensures.0 met in
    subst (λ (equations : List (List ℕ × Bool)). Ends equations c.args.runner.now c.release_all.new.runner (Ok c.is_refuted.result))
    c.requires.listed
    (subst (λ (b : Bool). Ends (map listed c.args.equations.now.list.items) c.args.runner.now c.release_all.new.runner (Ok b))
    (sym c.is_refuted.ensures)
    (ends_limit c.steps_law.ensures (map listed c.args.equations.now.list.items) c.take_all-found.new.rows.items c.args.runner.now
    c.take_all-found.new.runner c.release_all.new.runner c.release_all.ensures.released c.release_all.ensures.torn
    c.take_all-found.result limit c.take_all-found.ensures.eliminates (c.take_all-found.ensures.full limit)))

pub returns-clause-costs : goal.returns-clause-costs
returns-clause-costs g c =
    subst (λ (equations : List (List ℕ × Bool)). CostsElimination (length c.args.runner.now.formula.now.clauses) (length equations)
    (length (all_variables equations)) c.args.runner.now c.release_all.new.runner) c.requires.listed
    (subst (λ n. CostsElimination (length c.args.runner.now.formula.now.clauses) n
    (length (all_variables (map listed c.args.equations.now.list.items)))
    c.args.runner.now c.release_all.new.runner) (sym (length-map c.args.equations.now.list.items listed))
    (costs_clauses (joined_numbers c.args.equations.now.list.items) (length c.args.runner.now.formula.now.clauses)
    (length c.args.equations.now.list.items)
    (length (all_variables (map listed c.args.equations.now.list.items))) c.args.runner.now c.take_all-found.new.runner
    c.release_all.new.runner
    (c.own_clauses_law.ensures.no_more c.args.runner.now.formula.now.vars c.args.runner.now.formula.now.clauses
    c.args.equations.now.list.items c.requires.listed
    c.requires.clauses) c.release_all.ensures.top c.take_all-found.ensures.costs))

pub returns-then-met_limit-clause-costs : goal.returns-then-met_limit-clause-costs
returns-then-met_limit-clause-costs g c =
    subst (λ (equations : List (List ℕ × Bool)). CostsElimination (length c.args.runner.now.formula.now.clauses) (length equations)
    (length (all_variables equations)) c.args.runner.now c.release_all.new.runner) c.requires.listed
    (subst (λ n. CostsElimination (length c.args.runner.now.formula.now.clauses) n
    (length (all_variables (map listed c.args.equations.now.list.items)))
    c.args.runner.now c.release_all.new.runner) (sym (length-map c.args.equations.now.list.items listed))
    (costs_clauses (joined_numbers c.args.equations.now.list.items) (length c.args.runner.now.formula.now.clauses)
    (length c.args.equations.now.list.items)
    (length (all_variables (map listed c.args.equations.now.list.items))) c.args.runner.now c.take_all-found.new.runner
    c.release_all.new.runner
    (c.own_clauses_law.ensures.no_more c.args.runner.now.formula.now.vars c.args.runner.now.formula.now.clauses
    c.args.equations.now.list.items c.requires.listed
    c.requires.clauses) c.release_all.ensures.top c.take_all-found.ensures.costs))

pub returns-clause-limit : goal.returns-clause-limit
returns-clause-limit g c is =
    inl (subst (λ (equations : List (List ℕ × Bool)). AreInConflict equations → ⊥) c.requires.listed
    ((subst (λ (r : Result Bool TableError). IfOk r (λ refuted. refuted ≡ false → AreInConflict (map listed c.args.equations.now.list.items)
    → ⊥)) is
    c.take_all-found.ensures.eliminates.independent) refl))

pub returns-then-met_limit-clause-limit : goal.returns-then-met_limit-clause-limit
returns-then-met_limit-clause-limit g c is =
    let met : c.met_limit.result ≡ true = cc in
    inr (subst (λ (equations : List (List ℕ × Bool)). c.args.runner.now.limits.max_nodes < nodes_needed equations) c.requires.listed
    (c.take_all-found.ensures.limit (c.met_limit.ensures.0 met)))
