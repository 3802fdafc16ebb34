-- The conjunction of two terms, with its unit.
use Rattle.std.proofs.Common.{◌≡◌, ◌∙◌, ◌+◌, ◌*◌, ◌&&◌, ℕ, Bool, false, List, [], ◌∷◌, Contains, None, Some, Err, ap, sym, subst, inl, inr}
use Rattle.std.proofs.Common.{arith}
use Rattle.std.proofs.lemmas.Bool.{cases_Bool}
use Rattle.operations.specs.Accounts.{none_whole, whole_result}
use Rattle.operations.specs.Budget.{most_additions}
use Rattle.operations.specs.Entries.{IsAccounted}
use Rattle.node_table.specs.Defined.{atom_of}
use Rattle.node_table.specs.Diagram.{Graph, levels}
use Rattle.node_table.specs.Made.{MakesOnly}
use Rattle.node_table.specs.Table.{AddsAtMost}
use Rattle.node_table.specs.Value.{by_level}
use Rattle.node_table.specs.declared.error.TableError.TheVariants.{NodeLimit, WriteFault}
use Rattle.node_table.specs.declared.node.Node.{Node}
use Rattle.node_table.specs.declared.node.Justification.{Justification}
use Rattle.node_table.specs.declared.node.Justification.TheVariants.{Clause, Trivial}
use Rattle.node_table.specs.HandedOn.{came_from, handed_on, if_handed, no_answer, no_error, other_cause, same_error}
use Rattle.apply_and.specs.Conjunction.{conjunction_of}
use Rattle.clause_terms.specs.Term.{IsTerm}
use Rattle.bdd_terms.specs.Caches.{HaveRoom, all_entries}
use Rattle.bdd_terms.specs.Finds.{AreFew}
use Rattle.bdd_terms.proofs.MadeParts.{lacks_one, only_of}
use Rattle.bdd_terms.proofs.Giving.{given_behind, none_added, two_give, units_behind}
use Rattle.bdd_terms.proofs.Leaving.{limit_left, limit_whole, refutes_handed, steps_handed, went_on}
use Rattle.bdd_terms.proofs.NoEmpty.{further_empty}
use Rattle.bdd_terms.proofs.OwnUnits.{new_unit, no_clause, unaccounted_after, unit_own, unit_within}
use Rattle.bdd_terms.proofs.Pairs.{adds_pairs}
use Rattle.bdd_terms.proofs.StayingTerms.{justified_kept, term_kept}
use Rattle.bdd_terms.proofs.found.conjunction.Given.{Over}
use Rattle.bdd_terms.proofs.found.conjunction.Goals as goal
use Rattle.bdd_terms.proofs.found.conjunction.Goals.{After-and}

pub unit_of-requires : goal.unit_of-requires
unit_of-requires g c =
    let old = c.args.table.now in
    let mid = c.and.new.table in
    let extends = c.in_ok-node.ensures.steps.extends in
    let reduced = c.requires.sound.tied.reduced in
    let u = c.args.u.now in
    let v = c.args.v.now in
    record {
      sound = c.in_ok-node.ensures.steps.leaves.sound;
      first = record {
        stands = c.growth_law.ensures.stands old.graph mid.graph extends.nodes u.node c.requires.first.stands;
        unit = justified_kept c.growth_law.ensures old.graph mid.graph reduced extends.nodes old.book.state.live mid.book.state.live
            extends.clauses u.node c.requires.first.stands u.unit c.requires.first.unit;
      };
      second = record {
        stands = c.growth_law.ensures.stands old.graph mid.graph extends.nodes v.node c.requires.second.stands;
        unit = justified_kept c.growth_law.ensures old.graph mid.graph reduced extends.nodes old.book.state.live mid.book.state.live
            extends.clauses v.node c.requires.second.stands v.unit c.requires.second.unit;
      };
      conjoined = c.in_ok-node.ensures.conjoined;
    }

-- what the conjunction adds
pairs_found : (g : Over) (c : After-and g) (width : ℕ) → HaveRoom c.args.caches.now width
    → AreFew c.args.table.now.graph (c.args.v.now ∷ c.args.u.now ∷ []) width
    → AddsAtMost (2 * (width * width)) c.args.table.now c.and.new.table
pairs_found g c width room few =
    adds_pairs c.subfunction_law.ensures c.canonical_law.ensures c.args.table.now c.and.new.table c.requires.sound.tied.reduced
    c.args.u.now.node c.args.v.now.node c.requires.first.stands c.requires.second.stands c.args.caches.now width room few.1.0 few.0
    c.and.ensures.price

-- no unit of an operand is given
pub returns-clause-own : goal.returns-clause-own
returns-clause-own g c fresh =
    let old = c.args.table.now in
    let mid = c.and.new.table in
    let new = c.unit_of.new.table in
    let before = all_entries c.args.caches.now in
    let after = all_entries c.and.new.self in
    let found = c.in_ok-node.ensures in
    let unit = c.in_ok-unit.ensures.proves in
    let anew = c.in_ok-unit.ensures.anew fresh in
    given_behind old mid new before after [] c.in_ok-unit.unit (found.accounts no_error) found.keeps.retires (found.keeps.named none_whole)
    found.steps.leaves.no_less unit.steps.leaves.no_less unit.retired unit.alone (λ id is. inr ((anew.last id is).1, anew.added id is))
    (unit_own mid new after Trivial Trivial c.in_ok-unit.unit found.steps.leaves.sound (found.keeps.fits none_whole) unit.retired
    (λ id none. absurd (no_clause id none)) (λ id none. absurd (no_clause id none))
    (inr (inr (λ id is. new_unit mid new id (anew.last id is)))))

pub returns-in_err-node-clause-own : goal.returns-in_err-node-clause-own
returns-in_err-node-clause-own g c fresh = no_answer _ c.in_err-node.field-0.0 _ c.from_residual.ensures.1

pub returns-in_err-unit-clause-own : goal.returns-in_err-unit-clause-own
returns-in_err-unit-clause-own g c fresh = no_answer _ c.in_err-unit.field-0.0 _ c.from_residual-in_err-unit.ensures.1

pub returns-clause-finds : goal.returns-clause-finds
returns-clause-finds g c one other is_u is_v =
    let old = c.args.table.now in
    let mid = c.and.new.table in
    let new = c.unit_of.new.table in
    let before = all_entries c.args.caches.now in
    let after = all_entries c.and.new.self in
    let u = c.args.u.now in
    let v = c.args.v.now in
    let w = c.in_ok-node.node in
    let found = c.in_ok-node.ensures in
    let unit = c.in_ok-unit.ensures.proves in
    let free_u : (not_fresh : c.args.fresh ≡ false) (id : ℕ) → u.unit ≡ Clause id → IsAccounted mid after id → ⊥ = λ not_fresh id is.
    unaccounted_after old mid before after id
    (unit_within old c.requires.sound (atom_of old.graph u.node) u.unit id c.requires.first.unit is) ((c.requires.shared not_fresh).0.own id is)
    found.keeps.retires (found.keeps.named none_whole) in
    let free_v : (not_fresh : c.args.fresh ≡ false) (id : ℕ) → v.unit ≡ Clause id → IsAccounted mid after id → ⊥ = λ not_fresh id is.
    unaccounted_after old mid before after id
    (unit_within old c.requires.sound (atom_of old.graph v.node) v.unit id c.requires.second.unit is) ((c.requires.shared not_fresh).1.own id is)
    found.keeps.retires (found.keeps.named none_whole) in
    let kept = found.keeps.fits none_whole in
    let most = most_additions (levels old.graph) in
    let extends = found.steps.extends in
    let reduced = c.requires.sound.tied.reduced in
    let up_u = term_kept c.growth_law.ensures old.graph mid.graph reduced extends.nodes old.book.state.live mid.book.state.live
    extends.clauses one u.node u.unit is_u in
    let up_v = term_kept c.growth_law.ensures old.graph mid.graph reduced extends.nodes old.book.state.live mid.book.state.live
    extends.clauses other v.node v.unit is_v in
    record {
      term = subst (λ (graph : Graph). IsTerm graph new.book.state.live (λ a. one a && other a) w c.in_ok-unit.unit) (sym unit.nodes)
          (record {
            stands = found.conjoined.stands;
            value = λ a. found.conjoined.value (by_level mid.graph.order a) ∙ (λ k. up_u.value a k && up_v.value a k);
            proved = unit.unit;
          });
      gives = elim (cases_Bool c.args.fresh) [
        | inl fresh ↦
            let anew = c.in_ok-unit.ensures.anew fresh in
            given_behind old mid new before after (v ∷ u ∷ []) c.in_ok-unit.unit (found.accounts no_error) found.keeps.retires
            (found.keeps.named none_whole) found.steps.leaves.no_less unit.steps.leaves.no_less unit.retired unit.alone
            (λ id is. inr ((anew.last id is).1, anew.added id is))
            (unit_own mid new after Trivial Trivial c.in_ok-unit.unit found.steps.leaves.sound kept unit.retired
            (λ id none. absurd (no_clause id none)) (λ id none. absurd (no_clause id none))
            (inr (inr (λ id is. new_unit mid new id (anew.last id is)))))
        | inr not_fresh ↦ two_give old mid new before after u v c.in_ok-unit.unit found.steps.leaves.sound (free_u not_fresh) (free_v not_fresh)
            found.keeps (found.accounts no_error) found.steps.leaves.no_less unit.steps.leaves.no_less unit.retired unit.alone
            c.in_ok-unit.ensures.given c.in_ok-unit.ensures.added
      ];
      steps = c.steps_law.ensures.refute old mid new most 1 None found.steps unit.steps;
      no_empty = λ untorn open_yet. further_empty old mid new found.steps.no_empty (unit.some open_yet).no_empty;
      fits = λ untorn. c.entry_law.ensures.kept mid new after found.steps.leaves.sound unit.steps.leaves.sound unit.steps.extends kept
          (λ id named gone. kept.unretired id named (subst (λ (list : List ℕ). Contains list id) unit.retired gone));
      again = λ limit. absurd (no_error limit);
      made = only_of _ _ _ (subst (λ (graph : Graph). MakesOnly old.graph graph (conjunction_of old.graph u.node v.node)) (sym unit.nodes)
          found.made);
      lacks = λ limit. absurd (no_error limit);
      pairs = λ width room few all.
          let own = pairs_found g (goal.at.returns-clause-finds g c).After-and width room few in
          omega (arith, own, unit.steps.adds);
      sizes = c.and.ensures.sizes;
    }

pub returns-in_err-node-clause-finds : goal.returns-in_err-node-clause-finds
returns-in_err-node-clause-finds g c one other is_u is_v =
    let old = c.args.table.now in
    let mid = c.and.new.table in
    let before = all_entries c.args.caches.now in
    let after = all_entries c.and.new.self in
    let came = c.in_err-node.field-0.0 in
    let given = c.from_residual.ensures.1 in
    let found = c.in_err-node.ensures in
    let most = most_additions (levels old.graph) in
    record {
      term = no_answer _ came _ given;
      gives = no_answer _ came _ given;
      steps = c.steps_law.ensures.anyhow _ _ _ _ (steps_handed old mid _ _ came given
          (c.steps_law.ensures.at_most old mid most (most + 1) _ (omega arith) found.steps));
      no_empty = λ untorn open_yet. found.steps.no_empty;
      fits = λ untorn. found.keeps.fits (whole_result {T = Bool} (Err came) (other_cause _ came WriteFault given untorn));
      again = λ limit stack has.
          let is = came_from _ came NodeLimit given limit in
          let whole = limit_whole came is in
          units_behind c.steps_law.ensures old mid before after stack c.requires.sound
          (limit_left old mid came is found.steps.leaves).0.sound
          found.steps.extends has found.keeps.retires (found.keeps.named whole)
          (found.accounts (λ torn. whole (ap Some (same_error torn))));
      made = only_of _ _ _ (found.made);
      lacks = λ limit. lacks_one _ _ (found.lacks (ap Err (came_from _ came NodeLimit given limit)));
      pairs = λ width room few all.
          let own = pairs_found g (goal.at.returns-in_err-node-clause-finds g c).After-and width room few in omega (arith, own);
      sizes = c.and.ensures.sizes;
    }

pub returns-in_err-unit-clause-finds : goal.returns-in_err-unit-clause-finds
returns-in_err-unit-clause-finds g c one other is_u is_v =
    let old = c.args.table.now in
    let mid = c.and.new.table in
    let new = c.unit_of.new.table in
    let after = all_entries c.and.new.self in
    let came = c.in_err-unit.field-0.0 in
    let given = c.from_residual-in_err-unit.ensures.1 in
    let found = c.in_ok-node.ensures in
    let unit = c.in_err-unit.ensures.proves in
    let most = most_additions (levels old.graph) in
    let kept = found.keeps.fits none_whole in
    record {
      term = no_answer _ came _ given;
      gives = no_answer _ came _ given;
      steps = refutes_handed old new (most + 1) _ came given
          (c.steps_law.ensures.refute old mid new most 1 (Some came) found.steps unit.steps);
      no_empty = λ untorn open_yet. further_empty old mid new found.steps.no_empty
          (unit.refused (λ torn. untorn (handed_on _ came WriteFault given torn)));
      fits = λ untorn.
          let more = (went_on {T = Justification} mid new (Err came) unit.steps.leaves
          (λ torn. untorn (handed_on _ came WriteFault given (same_error torn)))).sound in
          c.entry_law.ensures.kept mid new after found.steps.leaves.sound more unit.steps.extends kept
          (λ id named gone. kept.unretired id named (subst (λ (list : List ℕ). Contains list id) unit.retired gone));
      again = λ limit. absurd (unit.no_node_limit (ap Err (came_from _ came NodeLimit given limit)));
      made = only_of _ _ _ (subst (λ (graph : Graph). MakesOnly old.graph graph
          (conjunction_of old.graph c.args.u.now.node c.args.v.now.node))
          (sym unit.nodes) found.made);
      lacks = λ limit. absurd (unit.no_node_limit (ap Err (came_from _ came NodeLimit given limit)));
      pairs = λ width room few all.
          let own = pairs_found g (goal.at.returns-in_err-unit-clause-finds g c).After-and width room few in
          omega (arith, own, unit.steps.adds);
      sizes = c.and.ensures.sizes;
    }

-- a refusal loses no unit
pub returns-in_err-node-clause-refused : goal.returns-in_err-node-clause-refused
returns-in_err-node-clause-refused g c =
    let came = c.in_err-node.field-0.0 in
    let found = c.in_err-node.ensures in
    if_handed _ came _ c.from_residual.ensures.1 (λ whole terms has.
    let untorn = whole_result {T = Node × Justification} (Err came) (λ torn. whole (same_error torn)) in
    units_behind c.steps_law.ensures c.args.table.now c.and.new.table (all_entries c.args.caches.now) (all_entries c.and.new.self) terms
    c.requires.sound (went_on {T = Node × Justification} c.args.table.now c.and.new.table (Err came) found.steps.leaves
    (λ torn. whole (same_error torn))).sound found.steps.extends has found.keeps.retires (found.keeps.named untorn)
    (found.accounts (λ torn. whole (same_error torn))))

pub returns-in_err-unit-clause-refused : goal.returns-in_err-unit-clause-refused
returns-in_err-unit-clause-refused g c =
    let old = c.args.table.now in
    let mid = c.and.new.table in
    let new = c.unit_of.new.table in
    let before = all_entries c.args.caches.now in
    let after = all_entries c.and.new.self in
    let came = c.in_err-unit.field-0.0 in
    let found = c.in_ok-node.ensures in
    let unit = c.in_err-unit.ensures.proves in
    if_handed _ came _ c.from_residual-in_err-unit.ensures.1 (λ whole terms has.
    let sound = found.steps.leaves.sound in
    let first = units_behind c.steps_law.ensures old mid before after terms c.requires.sound sound found.steps.extends has
    found.keeps.retires (found.keeps.named none_whole) (found.accounts no_error) in
    units_behind c.steps_law.ensures mid new after after terms sound
    (went_on {T = Justification} mid new (Err came) unit.steps.leaves (λ torn. whole (same_error torn))).sound unit.steps.extends first
    (record { each = λ id gone. inl (subst (λ (ids : List ℕ). Contains ids id) unit.retired gone) })
    (record { each = λ entry there. inl there }) (none_added mid new after sound unit.retired (unit.none_added whole)))
