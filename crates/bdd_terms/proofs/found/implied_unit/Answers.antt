-- What is left to show of `implied_unit`.
use Rattle.std.proofs.Common.{◌≡◌, ◌⊎◌, ◌*◌, ℕ, [], ◌∷◌, arith, subst, ◌∙◌}
use Rattle.node_table.specs.declared.node.Justification.TheVariants.{Clause}
use Rattle.node_table.specs.Diagram.{Graph, levels}
use Rattle.node_table.specs.Defined.{atom_of}
use Rattle.node_table.specs.Justification.{IsJustified}
use Rattle.operations.specs.Accounts.{none_whole, whole_error}
use Rattle.operations.specs.Budget.{most_additions}
use Rattle.node_table.specs.Table.{AddsAtMost, IsAddedTo}
use Rattle.node_table.specs.Value.{value_of}
use Rattle.node_table.specs.HandedOn.{no_error}
use Rattle.operations.specs.Entries.{IsAccounted, IsNewJustification}
use Rattle.bdd_terms.specs.Units.{GivesUnit}
use Rattle.imply.specs.Implication.{IsDecided, IsRefuted}
use Rattle.bdd_terms.specs.Caches.{HaveRoom, all_entries}
use Rattle.bdd_terms.specs.Parts.{HasAtMost}
use Rattle.bdd_terms.proofs.AllCaches.{keeps_all, keeps_further}
use Rattle.bdd_terms.proofs.Leaving.{went_on}
use Rattle.bdd_terms.proofs.OwnUnits.{unaccounted_after, unit_within}
use Rattle.bdd_terms.proofs.Giving.{one_give}
use Rattle.bdd_terms.proofs.Pairs.{adds_pairs}
use Rattle.bdd_terms.proofs.StayingTerms.{both_ok, if_ok, justified_kept}
use Rattle.bdd_terms.proofs.Units.{not_both}
use Rattle.bdd_terms.proofs.found.implied_unit.Given.{Over}
use Rattle.bdd_terms.proofs.found.implied_unit.Goals as goal
use Rattle.bdd_terms.proofs.found.implied_unit.Goals.{After-implies}

pub unreachable-requires : goal.unreachable-requires
unreachable-requires g c =
    let mid = c.implies.new.table in
    let u = c.args.u.now.node in
    let refuted : IsRefuted mid.graph u c.args.w = subst (IsDecided mid.graph mid.book.state.live u c.args.w) c.in_default.is
    c.in_ok-just.ensures.decided in
    let before : IsRefuted c.args.table.now.graph u c.args.w = subst
    (λ (graph : Graph). IsRefuted graph u c.args.w) c.implies.ensures.nodes refuted in
    not_both _ (c.requires.implied before.values before.holds) before.fails

pub unit_of_implied-requires : goal.unit_of_implied-requires
unit_of_implied-requires g c =
    let old = c.args.table.now in
    let mid = c.implies.new.table in
    let extends = c.in_ok-just.ensures.steps.extends in
    let u = c.args.u.now in
    record {
      sound = c.in_ok-just.ensures.steps.leaves.sound;
      first = record {
        stands = c.growth_law.ensures.stands old.graph mid.graph extends.nodes u.node c.requires.operand.stands;
        unit = justified_kept c.growth_law.ensures old.graph mid.graph c.requires.sound.tied.reduced extends.nodes old.book.state.live
            mid.book.state.live extends.clauses u.node c.requires.operand.stands u.unit c.requires.operand.unit;
      };
      second = c.growth_law.ensures.stands old.graph mid.graph extends.nodes c.args.w c.requires.second;
      implied = subst (IsDecided mid.graph mid.book.state.live u.node c.args.w) c.in-Some.is c.in_ok-just.ensures.decided;
    }

pub returns-clause-unit : goal.returns-clause-unit
returns-clause-unit g c =
    let new = c.unit_of_implied.new.table in
    if_ok c.unit_of_implied.result (λ unit. IsJustified new.book.state.live (atom_of c.implies.new.table.graph c.args.w ∷ []) unit)
    (λ unit. IsJustified new.book.state.live (atom_of c.args.table.now.graph c.args.w ∷ []) unit)
    (λ unit proved. subst (λ (graph : Graph). IsJustified new.book.state.live (atom_of graph c.args.w
    ∷ []) unit) c.implies.ensures.nodes proved) c.unit_of_implied.ensures.proves.unit

pub returns-clause-nodes : goal.returns-clause-nodes
returns-clause-nodes g c = c.unit_of_implied.ensures.proves.nodes ∙ c.implies.ensures.nodes

pub returns-clause-steps : goal.returns-clause-steps
returns-clause-steps g c =
    let old = c.args.table.now in
    c.steps_law.ensures.further old c.implies.new.table c.unit_of_implied.new.table
    (most_additions (levels old.graph)) 1 _ c.in_ok-just.ensures.steps
    (c.unit_of_implied.ensures.steps c.requires.operand.not_false)

pub returns-clause-keeps : goal.returns-clause-keeps
returns-clause-keeps g c =
    let old = c.args.table.now in
    let mid = c.implies.new.table in
    let new = c.unit_of_implied.new.table in
    let done = c.in_ok-just.ensures in
    let steps = c.unit_of_implied.ensures.steps c.requires.operand.not_false in
    let kept = all_entries c.implies.new.self in
    keeps_further old mid new (all_entries c.args.caches.now) kept kept _ done.steps.extends steps.extends done.keeps
    (keeps_all c.entry_law.ensures mid new kept _ done.steps.leaves.sound
    (λ whole. (went_on mid new c.unit_of_implied.result steps.leaves (whole_error c.unit_of_implied.result whole)).sound)
    steps.extends c.unit_of_implied.ensures.proves.retired
    (done.keeps.fits none_whole))

pub returns-clause-no_node_limit : goal.returns-clause-no_node_limit
returns-clause-no_node_limit g c = c.unit_of_implied.ensures.proves.no_node_limit

pub returns-clause-gives : goal.returns-clause-gives
returns-clause-gives g c =
    let old = c.args.table.now in
    let mid = c.implies.new.table in
    let new = c.unit_of_implied.new.table in
    let done = c.in_ok-just.ensures in
    let before = all_entries c.args.caches.now in
    let after = all_entries c.implies.new.self in
    let u = c.args.u.now in
    let given = c.unit_of_implied.ensures in
    let free : (id : ℕ) → u.unit ≡ Clause id → IsAccounted mid after id → ⊥ = λ id is.
    unaccounted_after old mid before after id (unit_within old c.requires.sound (atom_of old.graph u.node) u.unit id c.requires.operand.unit is)
    (c.requires.operand.own id is)
    done.keeps.retires (done.keeps.named none_whole) in
    both_ok c.unit_of_implied.result
    (λ unit. (unit ≡ u.unit) ⊎ IsNewJustification mid.book.state new.book.state unit)
    (λ unit. ((unit ≡ u.unit) ⊎ ((id : ℕ) → unit ≡ Clause id → IsAddedTo new id))
    × ((id : ℕ) → IsAddedTo new id → IsAddedTo mid id ⊎ (unit ≡ Clause id)))
    (λ unit. GivesUnit old new before after (u ∷ []) unit)
    (λ unit one two. one_give old mid new before after u unit done.steps.leaves.sound free done.keeps
    (done.accounts no_error) done.steps.leaves.no_less (given.steps c.requires.operand.not_false).extends.numbers.no_less given.proves.retired two.1 one two.0)
    given.given
    (both_ok c.unit_of_implied.result
    (λ unit. (unit ≡ u.unit) ⊎ ((id : ℕ) → unit ≡ Clause id → IsAddedTo new id)) (λ unit. (id : ℕ) → IsAddedTo new id → IsAddedTo mid id
    ⊎ (unit ≡ Clause id))
    (λ unit. ((unit ≡ u.unit) ⊎ ((id : ℕ) → unit ≡ Clause id → IsAddedTo new id))
    × ((id : ℕ) → IsAddedTo new id → IsAddedTo mid id ⊎ (unit ≡ Clause id)))
    (λ unit one two. (one, two)) given.added given.proves.alone)

-- the implication adds no more than two clauses for each pair of parts
pairs_found : (g : Over) (c : After-implies g) (width : ℕ) → HaveRoom c.args.caches.now width
    → HasAtMost (λ a. value_of c.args.table.now.graph a c.args.u.now.node) width
    → HasAtMost (λ a. value_of c.args.table.now.graph a c.args.w) width
    → AddsAtMost (2 * (width * width)) c.args.table.now c.implies.new.table
pairs_found g c width room few_u few_w =
    adds_pairs c.subfunction_law.ensures c.canonical_law.ensures c.args.table.now c.implies.new.table c.requires.sound.tied.reduced
    c.args.u.now.node c.args.w c.requires.operand.stands c.requires.second c.args.caches.now width room
    few_u few_w c.implies.ensures.price

pub returns-in_err-just-clause-pairs : goal.returns-in_err-just-clause-pairs
returns-in_err-just-clause-pairs g c width room few_u few_w =
    let own = pairs_found g (goal.at.returns-in_err-just-clause-pairs g c).After-implies width room few_u few_w in
    omega (arith, own)

pub returns-clause-pairs : goal.returns-clause-pairs
returns-clause-pairs g c width room few_u few_w =
    let own = pairs_found g (goal.at.returns-clause-pairs g c).After-implies width room few_u few_w in
    omega (arith, own, (c.unit_of_implied.ensures.steps c.requires.operand.not_false).adds)
