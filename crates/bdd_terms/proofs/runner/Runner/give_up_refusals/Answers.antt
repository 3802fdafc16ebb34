-- What is left to show of `give_up_refusals`.
use Rattle.std.proofs.Common.{◌≡◌, ◌∙◌, ℕ, [], ◌∷◌, length, Contains, refl, sym, ap, subst, arith, rules}
use Rattle.std.proofs.lemmas.List.{length-append}
use Rattle.node_table.specs.Table.{IsAddedTo}
use Rattle.bdd_terms.proofs.GivenUp.{given_up, last_added, last_unretired, none_left}
use Rattle.bdd_terms.proofs.OwnUnits.{same_clause}
use Rattle.bdd_terms.proofs.runner.Runner.give_up_refusals.Goals as goal

pub retire_unit-requires-clause-sound : goal.retire_unit-requires-clause-sound
retire_unit-requires-clause-sound g c = c.refusals.invariant.runner.over.sound

pub retire_unit-requires-clause-added : goal.retire_unit-requires-clause-added
retire_unit-requires-clause-added g c id is =
    subst (IsAddedTo c.refusals.self.terms.table) (same_clause c.in-Some.id id is)
    (last_added c.refusals.self c.refusals.invariant.runner c.pop.new.self.items c.in-Some.id c.in-Some.ensures.items)

pub retire_unit-requires-clause-unretired : goal.retire_unit-requires-clause-unretired
retire_unit-requires-clause-unretired g c id is there =
    last_unretired c.refusals.self c.refusals.invariant.runner c.pop.new.self.items c.in-Some.id c.in-Some.ensures.items
    (subst (λ (i : ℕ). Contains c.refusals.self.terms.table.retired i) (sym (same_clause c.in-Some.id id is)) there)

pub refusals-smaller : goal.refusals-smaller
refusals-smaller g c =
    let was = ap length c.in-Some.ensures.items in
    omega (arith, was, length-append c.pop.new.self.items (c.in-Some.id ∷ []))

pub refusals-preserved : goal.refusals-preserved
refusals-preserved g c =
    let old = c.refusals.self in
    let table = c.retire_unit.new.table in
    let list = c.pop.new.self in
    let retires = c.retire_unit.ensures.retired in
    record {
      runner = given_up old c.refusals.invariant.runner list.items c.in-Some.id c.in-Some.ensures.items c.entry_law.ensures
          (record old { terms = record old.terms { table = table }; refusals = list }) table refl refl retires c.retire_unit.ensures.steps;
      same = (λ k. record old { terms = record old.terms { table = retires.same k }; refusals = list })
          ∙ (λ k. record (c.refusals.invariant.same k) {
            terms = record (c.refusals.invariant.same k).terms {
              table = record (c.refusals.invariant.same k).terms.table { retired = table.retired };
            };
            refusals = list;
          });
    }

pub returns-clause-goes_on : goal.returns-clause-goes_on
returns-clause-goes_on g c =
    let was : length c.refusals.self.refusals.items ≡ 0 = search rules in
    let now : length c.pop.new.self.items ≡ 0 = search rules in
    none_left c.refusals.self c.refusals.invariant.runner (record c.refusals.self { refusals = c.pop.new.self }) refl was now
