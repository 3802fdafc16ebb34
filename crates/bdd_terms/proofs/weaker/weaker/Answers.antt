-- A term weakened to a node that it implies, with a unit of its own; none where it doesn't imply it.
use Rattle.std.proofs.Common.{◌*◌, ℕ, [], ◌∷◌, None, Err, Option, Result, ap, refl, sym, subst, ◌∙◌}
use Rattle.std.specs.Prelude.{IfOk}
use Rattle.node_table.specs.declared.error.TableError.{TableError}
use Rattle.node_table.specs.declared.error.TableError.TheVariants.{NodeLimit}
use Rattle.node_table.specs.HandedOn.{came_from, handed_on, if_handed, no_answer, no_error, no_ok, same_error}
use Rattle.node_table.specs.Diagram.{Graph}
use Rattle.node_table.specs.Table.{AddsAtMost}
use Rattle.node_table.specs.Value.{IsSubfunction, value_of}
use Rattle.imply.specs.Implication.{IsDecided, IsRefuted}
use Rattle.bdd_terms.specs.declared.held.HeldTerm.{HeldTerm}
use Rattle.bdd_terms.specs.Caches.{HaveRoom, all_entries}
use Rattle.bdd_terms.specs.Finds.{AreFew, Finds}
use Rattle.bdd_terms.specs.Units.{GivesUnit}
use Rattle.bdd_terms.specs.Parity.{Implies, holds_or, node_holds, some_or}
use Rattle.bdd_terms.specs.Runner.{true_term}
use Rattle.bdd_terms.specs.Parts.{HasAtMost}
use Rattle.bdd_terms.proofs.Pairs.{adds_pairs}
use Rattle.bdd_terms.proofs.StayingTerms.{justified_kept}
use Rattle.bdd_terms.proofs.WeakerFound.{none_finds, none_gives, refused_finds, refused_units, unit_refused, unit_refused_units, weaker_finds, weaker_gives}
use Rattle.bdd_terms.proofs.weaker.weaker.Given.{Over}
use Rattle.bdd_terms.proofs.weaker.weaker.Goals as goal
use Rattle.bdd_terms.proofs.weaker.weaker.Goals.{After-implies}

pub unit_of_implied-requires : goal.unit_of_implied-requires
unit_of_implied-requires g c =
    let old = c.args.table.now in
    let mid = c.implies.new.table in
    let extends = c.in_ok-just.ensures.steps.extends in
    let u = c.args.u.now in
    record {
      sound = c.in_ok-just.ensures.steps.leaves.sound;
      first = record {
        stands = c.growth_law.ensures.stands old.graph mid.graph extends.nodes u.node c.requires.proved.stands;
        unit = justified_kept c.growth_law.ensures old.graph mid.graph c.requires.sound.tied.reduced extends.nodes old.book.state.live
            mid.book.state.live extends.clauses u.node c.requires.proved.stands u.unit c.requires.proved.unit;
      };
      second = c.growth_law.ensures.stands old.graph mid.graph extends.nodes c.args.w c.requires.stands;
      implied = subst (IsDecided mid.graph mid.book.state.live u.node c.args.w) c.in-Some.is c.in_ok-just.ensures.decided;
    }

-- what the implication adds
pairs_found : (g : Over) (c : After-implies g) (width : ℕ) → HaveRoom c.args.caches.now width
    → AreFew c.args.table.now.graph (c.args.u.now ∷ []) width → HasAtMost (λ a. value_of c.args.table.now.graph a c.args.w) width
    → AddsAtMost (2 * (width * width)) c.args.table.now c.implies.new.table
pairs_found g c width room few all =
    adds_pairs c.subfunction_law.ensures c.canonical_law.ensures c.args.table.now c.implies.new.table c.requires.sound.tied.reduced
    c.args.u.now.node c.args.w c.requires.proved.stands c.requires.stands c.args.caches.now width room few.0 all c.implies.ensures.price

-- what is said of any result
abbrev FindsBy : (g : Over) (c : After-implies g) → Result (Option HeldTerm) TableError → Type 0
FindsBy g c r = Finds (IsSubfunction (λ a. value_of c.args.table.now.graph a c.args.w)) (λ a. value_of c.args.table.now.graph a c.args.w)
    (holds_or r (node_holds c.args.table.now.graph c.args.w)) (c.args.u.now ∷ []) c.args.table.now c.implies.new.table c.args.caches.now
    c.implies.new.self (some_or true_term r)

pub returns-in_err-just-clause-finds : goal.returns-in_err-just-clause-finds
returns-in_err-just-clause-finds g c =
    let came = c.in_err-just.field-0.0 in
    let found = c.in_err-just.ensures in
    let after = (goal.at.returns-in_err-just-clause-finds g c).After-implies in
    subst (FindsBy g after) (sym (handed_on _ came came c.from_residual.ensures.1 refl))
    (refused_finds c.steps_law.ensures c.entry_law.ensures c.subfunction_law.ensures c.args.table.now c.implies.new.table c.args.caches.now
    c.implies.new.self c.requires.sound c.args.u.now c.args.w c.implies.ensures.nodes c.implies.ensures.sizes (pairs_found g after) came
    (λ limit. found.no_node_limit (ap Err limit)) found.steps found.keeps (λ whole. found.accounts (λ torn. whole (same_error torn)))
    (node_holds c.args.table.now.graph c.args.w))

pub returns-in_err-just-clause-own : goal.returns-in_err-just-clause-own
returns-in_err-just-clause-own g c =
    let came = c.in_err-just.field-0.0 in
    subst (λ (r : Result (Option HeldTerm) TableError). IfOk (some_or true_term r) (λ held. GivesUnit c.args.table.now c.implies.new.table
    (all_entries c.args.caches.now) (all_entries c.implies.new.self) [] held.unit))
    (sym (handed_on _ came came c.from_residual.ensures.1 refl)) tt

pub returns-in_err-just-clause-node : goal.returns-in_err-just-clause-node
returns-in_err-just-clause-node g c = no_answer _ c.in_err-just.field-0.0 _ c.from_residual.ensures.1

pub returns-in_err-just-clause-implied : goal.returns-in_err-just-clause-implied
returns-in_err-just-clause-implied g c = no_answer _ c.in_err-just.field-0.0 _ c.from_residual.ensures.1

pub returns-in_err-just-clause-none : goal.returns-in_err-just-clause-none
returns-in_err-just-clause-none g c is = absurd (no_ok _ c.in_err-just.field-0.0 None c.from_residual.ensures.1 is)

pub returns-in_err-just-clause-no_node_limit : goal.returns-in_err-just-clause-no_node_limit
returns-in_err-just-clause-no_node_limit g c limit =
    c.in_err-just.ensures.no_node_limit (ap Err (came_from _ c.in_err-just.field-0.0 NodeLimit c.from_residual.ensures.1 limit))

pub returns-in_err-just-clause-refused : goal.returns-in_err-just-clause-refused
returns-in_err-just-clause-refused g c =
    let came = c.in_err-just.field-0.0 in
    let found = c.in_err-just.ensures in
    let after = (goal.at.returns-in_err-just-clause-refused g c).After-implies in
    if_handed _ came _ c.from_residual.ensures.1
    (refused_units c.steps_law.ensures c.entry_law.ensures c.subfunction_law.ensures c.args.table.now c.implies.new.table c.args.caches.now
    c.implies.new.self c.requires.sound c.args.u.now c.args.w c.implies.ensures.nodes c.implies.ensures.sizes (pairs_found g after) came
    (λ limit. found.no_node_limit (ap Err limit)) found.steps found.keeps (λ whole. found.accounts (λ torn. whole (same_error torn))))

pub returns-in_default-clause-finds : goal.returns-in_default-clause-finds
returns-in_default-clause-finds g c =
    let found = c.in_ok-just.ensures in
    none_finds c.steps_law.ensures c.entry_law.ensures c.subfunction_law.ensures c.args.table.now c.implies.new.table c.args.caches.now
    c.implies.new.self c.requires.sound c.args.u.now c.args.w c.implies.ensures.nodes c.implies.ensures.sizes
    (pairs_found g (goal.at.returns-in_default-clause-finds g c).After-implies) found.steps found.keeps (found.accounts no_error)

pub returns-in_default-clause-own : goal.returns-in_default-clause-own
returns-in_default-clause-own g c =
    let found = c.in_ok-just.ensures in
    none_gives c.steps_law.ensures c.entry_law.ensures c.subfunction_law.ensures c.args.table.now c.implies.new.table c.args.caches.now
    c.implies.new.self c.requires.sound c.args.u.now c.args.w c.implies.ensures.nodes c.implies.ensures.sizes
    (pairs_found g (goal.at.returns-in_default-clause-own g c).After-implies) found.steps found.keeps (found.accounts no_error)

pub returns-in_default-clause-none : goal.returns-in_default-clause-none
returns-in_default-clause-none g c is =
    let mid = c.implies.new.table in
    subst (λ (graph : Graph). IsRefuted graph c.args.u.now.node c.args.w) c.implies.ensures.nodes
    (subst (IsDecided mid.graph mid.book.state.live c.args.u.now.node c.args.w) c.in_default.is c.in_ok-just.ensures.decided)

pub returns-in_err-unit-clause-finds : goal.returns-in_err-unit-clause-finds
returns-in_err-unit-clause-finds g c =
    let came = c.in_err-unit.field-0.0 in
    let found = c.in_ok-just.ensures in
    let unit = c.in_err-unit.ensures.proves in
    let new = c.unit_of_implied.new.table in
    subst (λ (r : Result (Option HeldTerm) TableError). Finds (IsSubfunction (λ a. value_of c.args.table.now.graph a c.args.w))
    (λ a. value_of c.args.table.now.graph a c.args.w) (holds_or r (node_holds c.args.table.now.graph c.args.w)) (c.args.u.now ∷ [])
    c.args.table.now new c.args.caches.now c.implies.new.self (some_or true_term r))
    (sym (handed_on _ came came c.from_residual-in_err-unit.ensures.1 refl))
    (unit_refused c.steps_law.ensures c.entry_law.ensures c.subfunction_law.ensures c.args.table.now c.implies.new.table c.args.caches.now
    c.implies.new.self c.requires.sound c.args.u.now c.args.w c.implies.ensures.nodes c.implies.ensures.sizes
    (pairs_found g (goal.at.returns-in_err-unit-clause-finds g c).After-implies) found.steps found.keeps (found.accounts no_error)
    new unit.retired unit.nodes came (λ limit. unit.no_node_limit (ap Err limit)) unit.steps unit.refused unit.none_added
    (node_holds c.args.table.now.graph c.args.w))

pub returns-in_err-unit-clause-own : goal.returns-in_err-unit-clause-own
returns-in_err-unit-clause-own g c =
    let came = c.in_err-unit.field-0.0 in
    subst (λ (r : Result (Option HeldTerm) TableError). IfOk (some_or true_term r) (λ held. GivesUnit c.args.table.now
    c.unit_of_implied.new.table (all_entries c.args.caches.now) (all_entries c.implies.new.self) [] held.unit))
    (sym (handed_on _ came came c.from_residual-in_err-unit.ensures.1 refl)) tt

pub returns-in_err-unit-clause-node : goal.returns-in_err-unit-clause-node
returns-in_err-unit-clause-node g c = no_answer _ c.in_err-unit.field-0.0 _ c.from_residual-in_err-unit.ensures.1

pub returns-in_err-unit-clause-implied : goal.returns-in_err-unit-clause-implied
returns-in_err-unit-clause-implied g c = no_answer _ c.in_err-unit.field-0.0 _ c.from_residual-in_err-unit.ensures.1

pub returns-in_err-unit-clause-none : goal.returns-in_err-unit-clause-none
returns-in_err-unit-clause-none g c is = absurd (no_ok _ c.in_err-unit.field-0.0 None c.from_residual-in_err-unit.ensures.1 is)

pub returns-in_err-unit-clause-nodes : goal.returns-in_err-unit-clause-nodes
returns-in_err-unit-clause-nodes g c = c.unit_of_implied.ensures.proves.nodes ∙ c.implies.ensures.nodes

pub returns-in_err-unit-clause-no_node_limit : goal.returns-in_err-unit-clause-no_node_limit
returns-in_err-unit-clause-no_node_limit g c limit =
    c.in_err-unit.ensures.proves.no_node_limit (ap Err (came_from _ c.in_err-unit.field-0.0 NodeLimit c.from_residual-in_err-unit.ensures.1 limit))

pub returns-in_err-unit-clause-refused : goal.returns-in_err-unit-clause-refused
returns-in_err-unit-clause-refused g c =
    let came = c.in_err-unit.field-0.0 in
    let found = c.in_ok-just.ensures in
    let unit = c.in_err-unit.ensures.proves in
    if_handed _ came _ c.from_residual-in_err-unit.ensures.1
    (unit_refused_units c.steps_law.ensures c.entry_law.ensures c.subfunction_law.ensures c.args.table.now c.implies.new.table c.args.caches.now
    c.implies.new.self c.requires.sound c.args.u.now c.args.w c.implies.ensures.nodes c.implies.ensures.sizes
    (pairs_found g (goal.at.returns-in_err-unit-clause-refused g c).After-implies) found.steps found.keeps (found.accounts no_error)
    c.unit_of_implied.new.table unit.retired unit.nodes came (λ limit. unit.no_node_limit (ap Err limit)) unit.steps unit.refused
    unit.none_added)

pub returns-clause-finds : goal.returns-clause-finds
returns-clause-finds g c =
    let found = c.in_ok-just.ensures in
    let unit = c.in_ok-unit.ensures.proves in
    weaker_finds c.steps_law.ensures c.entry_law.ensures c.subfunction_law.ensures c.args.table.now c.implies.new.table c.args.caches.now
    c.implies.new.self c.requires.sound c.args.u.now c.args.w c.implies.ensures.nodes c.implies.ensures.sizes
    (pairs_found g (goal.at.returns-clause-finds g c).After-implies) found.steps found.keeps (found.accounts no_error)
    c.unit_of_implied.new.table unit.retired unit.nodes c.in_ok-unit.unit unit.steps unit.some c.requires.stands unit.unit (c.in_ok-unit.ensures.anew refl).last
    (c.in_ok-unit.ensures.anew refl).added unit.alone

pub returns-clause-own : goal.returns-clause-own
returns-clause-own g c =
    let found = c.in_ok-just.ensures in
    let unit = c.in_ok-unit.ensures.proves in
    weaker_gives c.steps_law.ensures c.entry_law.ensures c.subfunction_law.ensures c.args.table.now c.implies.new.table c.args.caches.now
    c.implies.new.self c.requires.sound c.args.u.now c.args.w c.implies.ensures.nodes c.implies.ensures.sizes
    (pairs_found g (goal.at.returns-clause-own g c).After-implies) found.steps found.keeps (found.accounts no_error)
    c.unit_of_implied.new.table unit.retired unit.nodes c.in_ok-unit.unit unit.steps unit.some c.requires.stands unit.unit (c.in_ok-unit.ensures.anew refl).last
    (c.in_ok-unit.ensures.anew refl).added unit.alone

pub returns-clause-implied : goal.returns-clause-implied
returns-clause-implied g c =
    let mid = c.implies.new.table in
    subst (λ (graph : Graph). Implies graph c.args.u.now.node c.args.w) c.implies.ensures.nodes
    (subst (IsDecided mid.graph mid.book.state.live c.args.u.now.node c.args.w) c.in-Some.is c.in_ok-just.ensures.decided).value

pub returns-clause-nodes : goal.returns-clause-nodes
returns-clause-nodes g c = c.unit_of_implied.ensures.proves.nodes ∙ c.implies.ensures.nodes
