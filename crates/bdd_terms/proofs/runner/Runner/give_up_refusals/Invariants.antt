-- What the loop of `give_up_refusals` keeps.
use Rattle.std.proofs.Common.{◌≡◌, length}
use Rattle.bdd_terms.specs.Runner.{IsRunner}
use Rattle.bdd_terms.proofs.runner.Runner.give_up_refusals.Given as goal

abbrev pub invariant-refusals : goal.invariant-refusals
invariant-refusals g l = record {
  runner : IsRunner l.self;
  same : l.self ≡ record l.fn.self {
    terms = record l.fn.self.terms { table = record l.fn.self.terms.table { retired = l.self.terms.table.retired } };
    refusals = l.self.refusals;
  };
}

abbrev pub decreases-refusals : goal.decreases-refusals
decreases-refusals g l = length l.self.refusals.items
