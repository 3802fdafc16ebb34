-- What is left to show of `lean_law`.
use Rattle.std.proofs.lemmas.Map.Views.{list_any-from_Contains}
use Rattle.std.specs.Cmp.{nat_eq_equiv}
use Rattle.node_table.proofs.Lean.{few_above, lean}
use Rattle.node_table.proofs.laws.lean_law.Goals as goal

pub returns-clause-few : goal.returns-clause-few
returns-clause-few g c inputs live ids listed = few_above inputs live ids
    (λ id above is. list_any-from_Contains nat_eq_equiv id ids (listed id above is))

pub returns-clause-lean : goal.returns-clause-lean
returns-clause-lean g c old number state sound added since = lean old number state sound added since
