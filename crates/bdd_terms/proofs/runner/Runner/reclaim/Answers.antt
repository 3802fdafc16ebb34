-- What a reclamation left is noted.
use Rattle.bdd_terms.proofs.LeftNoted.{gives_back_none, gives_back_noted}
use Rattle.bdd_terms.proofs.runner.Runner.reclaim.Goals as goal

pub returns : goal.returns
returns g c =
    let own = c.in_ok-count.ensures in
    gives_back_noted c.args.self.now c.give_back.new.self own.same.0 own.same.1 own.same.2 own.same.3 own.same.4 own.same.5 own.sizes own.origin
    own.top c.live-self.result c.live-self.ensures c.in_ok-count.count (own.goes_on (λ is. cc)) own.reached own.count own.settled own.leaves

pub returns-in_err-count : goal.returns-in_err-count
returns-in_err-count g c =
    let own = c.in_err-count.ensures in
    gives_back_none c.args.self.now c.give_back.new.self own.same.0 own.same.1 own.same.2 own.same.3 own.same.4 own.same.5 own.sizes own.origin
    own.top own.same.6 c.in_err-count.field-0.0 _ c.from_residual.ensures.1 own.goes_on own.memory own.kept own.leaves own.error
