-- The weakened term, and a reclamation behind it.
use Rattle.std.proofs.Common.{Some, Ok}
use Rattle.node_table.specs.HandedOn.{no_error}
use Rattle.bdd_terms.specs.Parity.{Weakens, node_holds}
use Rattle.bdd_terms.proofs.Counted.{counting}
use Rattle.bdd_terms.proofs.NodeTaken.{weaker_costs, weaker_none, weaker_refused, weaker_takes, weaker_tidied, weaker_untidied}
use Rattle.bdd_terms.proofs.runner.Runner.weaken.Goals as goal

pub returns-in_err-term : goal.returns-in_err-term
returns-in_err-term g c =
    weaker_refused (counting c.canonical_law.ensures c.growth_law.ensures c.subfunction_law.ensures) c.growth_law.ensures c.args.u.now.held
    c.args.node c.args.self.now c.try_weaken.new.self c.requires.runner c.requires.good c.requires.stands c.in_err-term.field-0.0
    c.in_err-term.ensures.weakens _ c.from_residual.ensures.1

pub returns-in_default : goal.returns-in_default
returns-in_default g c =
    weaker_none (counting c.canonical_law.ensures c.growth_law.ensures c.subfunction_law.ensures) c.growth_law.ensures c.args.u.now.held
    c.args.node c.args.self.now c.try_weaken.new.self c.requires.runner c.requires.good c.requires.stands
    (rw c.in_default.is at c.in_ok-term.ensures.weakens) c.in_ok-term.ensures.settled

pub tidy-requires-clause-runner : goal.tidy-requires-clause-runner
tidy-requires-clause-runner g c =
    let own : Weakens c.args.u.now.held c.args.node c.args.self.now c.try_weaken.new.self (Ok (Some c.in-Some.term)) =
    rw c.in-Some.is at c.in_ok-term.ensures.weakens in
    own.gives.goes_on no_error

pub tidy-requires-clause-last : goal.tidy-requires-clause-last
tidy-requires-clause-last g c =
    let own : Weakens c.args.u.now.held c.args.node c.args.self.now c.try_weaken.new.self (Ok (Some c.in-Some.term)) =
    rw c.in-Some.is at c.in_ok-term.ensures.weakens in
    (c.args.self.now.terms.out.items, own.gives.listed)

pub returns-in_err-given : goal.returns-in_err-given
returns-in_err-given g c =
    let own : Weakens c.args.u.now.held c.args.node c.args.self.now c.try_weaken.new.self (Ok (Some c.in-Some.term)) =
    rw c.in-Some.is at c.in_ok-term.ensures.weakens in
    let law = counting c.canonical_law.ensures c.growth_law.ensures c.subfunction_law.ensures in
    let old = c.args.self.now in
    let mid = c.try_weaken.new.self in
    let node = c.args.node in
    let operand = c.args.u.now.held in
    let takes = weaker_takes law c.growth_law.ensures operand node old mid c.requires.runner c.requires.good c.requires.stands
    (Ok (Some c.in-Some.term)) own in
    let costs = weaker_costs law c.growth_law.ensures operand node old mid c.requires.runner c.requires.good c.requires.stands
    (Ok (Some c.in-Some.term)) own in
    weaker_untidied law c.growth_law.ensures operand node old mid c.requires.runner c.requires.good c.requires.stands c.in-Some.term own
    c.tidy.new.self c.tidy.ensures.top c.in_err-given.field-0.0 c.in_err-given.ensures.no_node_limit
    (c.in_err-given.ensures.takes (node_holds old.terms.table.graph node) old takes)
    (c.in_err-given.ensures.costs (node_holds old.terms.table.graph node) old c.requires.runner takes costs) _
    c.from_residual-in_err-given.ensures.1

pub returns : goal.returns
returns g c =
    let own : Weakens c.args.u.now.held c.args.node c.args.self.now c.try_weaken.new.self (Ok (Some c.in-Some.term)) =
    rw c.in-Some.is at c.in_ok-term.ensures.weakens in
    let law = counting c.canonical_law.ensures c.growth_law.ensures c.subfunction_law.ensures in
    let old = c.args.self.now in
    let mid = c.try_weaken.new.self in
    let node = c.args.node in
    let operand = c.args.u.now.held in
    let takes = weaker_takes law c.growth_law.ensures operand node old mid c.requires.runner c.requires.good c.requires.stands
    (Ok (Some c.in-Some.term)) own in
    let costs = weaker_costs law c.growth_law.ensures operand node old mid c.requires.runner c.requires.good c.requires.stands
    (Ok (Some c.in-Some.term)) own in
    weaker_tidied law c.growth_law.ensures operand node old mid c.requires.runner c.requires.good c.requires.stands c.in-Some.term own
    c.tidy.new.self c.tidy.ensures.top c.in_ok-given.given c.in_ok-given.ensures.given.0 c.in_ok-given.ensures.given.1
    (c.in_ok-given.ensures.settled c.in_ok-term.ensures.settled)
    (c.in_ok-given.ensures.takes (node_holds old.terms.table.graph node) old takes)
    (c.in_ok-given.ensures.costs (node_holds old.terms.table.graph node) old c.requires.runner takes costs)
