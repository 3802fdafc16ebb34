-- The node of a sum, tried once more behind a reclamation.
use Rattle.std.proofs.Common.{◌≡◌, ◌∙◌, true, false, refl, sym, ap, subst}
use Rattle.cnf_base.specs.Formula.{Formula}
use Rattle.parity_nodes.specs.Sums.{sum_is}
use Rattle.bdd_terms.specs.Parity.{AreVariables, always, in_place}
use Rattle.bdd_terms.proofs.Counted.{counting}
use Rattle.bdd_terms.proofs.NodeRetried.{node_again, node_failed, node_once, node_rests}
use Rattle.bdd_terms.proofs.Rests.{Rests, nodes_whole}
use Rattle.bdd_terms.proofs.runner.Runner.parity.Given.{Over}
use Rattle.bdd_terms.proofs.runner.Runner.parity.Goals as goal
use Rattle.bdd_terms.proofs.runner.Runner.parity.Goals.{In_ok-reclaim}

-- behind the reclamation
rests : (g : Over) (c : In_ok-reclaim g) → Rests c.args.self.now c.reclaim.new.self
rests g c =
    let met : c.met_limit.result ≡ true = cc in
    node_rests c.growth_law.ensures c.canonical_law.ensures
    (counting c.canonical_law.ensures c.growth_law.ensures c.subfunction_law.ensures) c.args.self.now c.try_parity-found.new.self
    c.requires.runner _ (sum_is c.args.bit c.args.variables.now) refl c.try_parity-found.result c.try_parity-found.ensures.gives_none
    c.try_parity-found.ensures.adds_none c.steps_law.ensures (c.met_limit.ensures.0 met) c.reclaim.new.self _ c.in_ok-reclaim.ensures

pub reclaim-requires : goal.reclaim-requires
reclaim-requires g c =
    let met : c.met_limit.result ≡ true = cc in
    let limit = c.met_limit.ensures.0 met in
    c.try_parity-found.ensures.gives_none.gives.goes_on (λ torn. nodes_whole (sym (ap (λ r. in_place always r) limit) ∙ torn))

pub try_parity-requires-clause-runner : goal.try_parity-requires-clause-runner
try_parity-requires-clause-runner g c = (rests g (goal.at.try_parity-requires-clause-runner g c).In_ok-reclaim).runner

pub try_parity-requires-clause-variables : goal.try_parity-requires-clause-variables
try_parity-requires-clause-variables g c =
    subst (λ (f : Formula). AreVariables f.vars c.args.variables.now)
    (sym (ap (λ f. f.now) (rests g (goal.at.try_parity-requires-clause-variables g c).In_ok-reclaim).same.formula)) c.requires.variables

pub returns-then-not-met_limit : goal.returns-then-not-met_limit
returns-then-not-met_limit g c =
    let within : c.met_limit.result ≡ false = cc in
    node_once c.growth_law.ensures c.canonical_law.ensures
    (counting c.canonical_law.ensures c.growth_law.ensures c.subfunction_law.ensures) c.args.self.now c.try_parity-found.new.self
    c.requires.runner _ (sum_is c.args.bit c.args.variables.now) refl c.try_parity-found.result c.try_parity-found.ensures.gives_none
    c.try_parity-found.ensures.adds_none
    (λ is. let met : c.met_limit.result ≡ true = c.met_limit.ensures.1 is in cc) c.try_parity-found.ensures.node

pub returns-in_err-reclaim : goal.returns-in_err-reclaim
returns-in_err-reclaim g c =
    let met : c.met_limit.result ≡ true = cc in
    node_failed c.growth_law.ensures c.canonical_law.ensures
    (counting c.canonical_law.ensures c.growth_law.ensures c.subfunction_law.ensures) c.args.self.now c.try_parity-found.new.self
    c.requires.runner _ (sum_is c.args.bit c.args.variables.now) refl c.try_parity-found.result c.try_parity-found.ensures.gives_none
    c.try_parity-found.ensures.adds_none c.steps_law.ensures (c.met_limit.ensures.0 met) c.reclaim.new.self c.in_err-reclaim.field-0.0
    c.in_err-reclaim.ensures _ c.from_residual.ensures.1

pub returns : goal.returns
returns g c =
    let met : c.met_limit.result ≡ true = cc in
    node_again c.growth_law.ensures c.canonical_law.ensures
    (counting c.canonical_law.ensures c.growth_law.ensures c.subfunction_law.ensures) c.args.self.now c.try_parity-found.new.self
    c.requires.runner _ (sum_is c.args.bit c.args.variables.now) refl c.try_parity-found.result c.try_parity-found.ensures.gives_none
    c.try_parity-found.ensures.adds_none c.steps_law.ensures (c.met_limit.ensures.0 met) c.reclaim.new.self _ c.in_ok-reclaim.ensures _ refl
    c.try_parity.new.self c.try_parity.result c.try_parity.ensures.gives_none c.try_parity.ensures.adds_none c.try_parity.ensures.node
