-- The conjunction of two terms is found and put on the list.
use Rattle.std.proofs.Common.{◌≡◌, ◌&&◌, Bool, true, false, List, [], ◌∷◌, refl, subst}
use Rattle.cnf_base.specs.Truth.{Assignment}
use Rattle.node_table.specs.HandedOn.{handed_on}
use Rattle.node_table.specs.declared.error.TableError.TheVariants.{OutOfMemory}
use Rattle.apply_and.specs.Conjunction.{conjunction_of}
use Rattle.bdd_terms.specs.declared.held.HeldTerm.{HeldTerm}
use Rattle.bdd_terms.specs.Runner.{IsListed, holds_in}
use Rattle.bdd_terms.proofs.Given.{gives_none, gives_one, nothing_found, true_unit}
use Rattle.bdd_terms.proofs.Kept.{good_proved, good_term}
use Rattle.bdd_terms.proofs.runner.Runner.find_conjunction.Goals as goal

pub conjunction-requires-clause-first : goal.conjunction-requires-clause-first
conjunction-requires-clause-first g c = good_proved c.args.self.now c.requires.runner c.args.u.now.held c.requires.first

pub conjunction-requires-clause-second : goal.conjunction-requires-clause-second
conjunction-requires-clause-second g c = good_proved c.args.self.now c.requires.runner c.args.v.now.held c.requires.second

pub conjunction-requires-clause-shared : goal.conjunction-requires-clause-shared
conjunction-requires-clause-shared g c not_fresh = absurd (let e : true ≡ false = not_fresh in cc)

pub returns-then-is_err : goal.returns-then-is_err
returns-then-is_err g c =
    let old = c.args.self.now in
    let over = c.requires.runner.over in
    let function = conjunction_of old.terms.table.graph c.args.u.now.held.node c.args.v.now.held.node in
    let holds : Assignment → Bool = λ a. holds_in old c.args.u.now.held a && holds_in old c.args.v.now.held a in
    let operands = c.args.v.now.held ∷ c.args.u.now.held ∷ [] in
    record {
      gives = gives_none c.growth_law.ensures c.steps_law.ensures function holds operands old c.requires.runner old.terms.table old.terms.caches
          OutOfMemory
          (nothing_found c.steps_law.ensures c.subfunction_law.ensures function holds operands old.terms.table old.terms.caches over.sound over.fits)
          (λ whole terms has. has) (record old { terms = record old.terms { out = c.reserve.new.self } }) refl c.reserve.ensures.items _ refl;
    }

pub returns-in_err-held : goal.returns-in_err-held
returns-in_err-held g c =
    let old = c.args.self.now in
    let came = c.in_err-held.field-0.0 in
    let mid = c.conjunction.new.table in
    let caches = c.conjunction.new.caches in
    record {
      gives = gives_none c.growth_law.ensures c.steps_law.ensures (conjunction_of old.terms.table.graph c.args.u.now.held.node c.args.v.now.held.node)
          (λ a. holds_in old c.args.u.now.held a && holds_in old c.args.v.now.held a) (c.args.v.now.held ∷ c.args.u.now.held ∷ []) old
          c.requires.runner mid caches came
          (c.in_err-held.ensures.finds (holds_in old c.args.u.now.held) (holds_in old c.args.v.now.held)
          (good_term old c.requires.runner c.args.u.now.held c.requires.first) (good_term old c.requires.runner c.args.v.now.held c.requires.second))
          c.in_err-held.ensures.refused
          (record old { terms = record old.terms { table = mid; caches = caches; out = c.reserve.new.self } }) refl c.reserve.ensures.items _
          (handed_on _ came came c.from_residual.ensures.1 refl);
    }

pub place-requires-clause-true_alone : goal.place-requires-clause-true_alone
place-requires-clause-true_alone g c is =
    let old = c.args.self.now in
    let found = c.in_ok-held.ensures.finds (holds_in old c.args.u.now.held) (holds_in old c.args.v.now.held)
    (good_term old c.requires.runner c.args.u.now.held c.requires.first)
    (good_term old c.requires.runner c.args.v.now.held c.requires.second) in
    true_unit c.conjunction.new.table c.in_ok-held.held.node c.in_ok-held.held.unit is found.term.proved

pub returns : goal.returns
returns g c =
    let old = c.args.self.now in
    let found = c.in_ok-held.ensures.finds (holds_in old c.args.u.now.held) (holds_in old c.args.v.now.held)
    (good_term old c.requires.runner c.args.u.now.held c.requires.first)
    (good_term old c.requires.runner c.args.v.now.held c.requires.second) in
    record {
      gives = gives_one c.growth_law.ensures c.steps_law.ensures
          (conjunction_of old.terms.table.graph c.args.u.now.held.node c.args.v.now.held.node)
          (λ a. holds_in old c.args.u.now.held a && holds_in old c.args.v.now.held a) (c.args.v.now.held ∷ c.args.u.now.held ∷ []) old
          c.requires.runner c.conjunction.new.table c.conjunction.new.caches (record { held = c.in_ok-held.held }) found
          (c.in_ok-held.ensures.own refl) c.place.new.self c.place.ensures.same
          (subst (λ (items : List HeldTerm). IsListed items c.place.new.self.terms.out.items c.in_ok-held.held) c.reserve.ensures.items
          c.place.ensures.listed)
          c.place.ensures.refutes c.place.ensures.unrefuted;
    }
