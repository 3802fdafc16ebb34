-- A term that isn't True comes onto the list.
use Rattle.std.proofs.Common.{◌≡◌, ◌∙◌, true, false, inr, sym}
use Rattle.bdd_terms.proofs.runner.Runner.place.Goals as goal

pub returns-clause-listed : goal.returns-clause-listed
returns-clause-listed g c =
    inr ((λ is. let e : true ≡ false = sym (c.is_same.ensures.1 is) ∙ c.if-is_same.false in cc), c.push_reserved.ensures.items)
