-- A term without the variables of a set, with its unit.
use Rattle.std.proofs.Common.{◌≡◌, ◌∙◌, ◌+◌, ◌*◌, ℕ, Bool, true, List, [], ◌∷◌, length, None, Some, Err, ap, sym, subst, arith}
use Rattle.node_table.specs.declared.error.TableError.TheVariants.{NodeLimit, WriteFault}
use Rattle.node_table.specs.Diagram.{Graph, levels}
use Rattle.node_table.specs.Defined.{atom_of}
use Rattle.node_table.specs.HandedOn.{came_from, no_answer, no_error, other_cause, same_error}
use Rattle.quantify.specs.RunsFor.{MakesOnlyOf}
use Rattle.quantify.specs.SomeValues.{IsFromPlace, function_of, some_values}
use Rattle.operations.specs.Accounts.{none_whole, whole_result}
use Rattle.operations.specs.Budget.{most_additions}
use Rattle.node_table.specs.Table.{AddsAtMost}
use Rattle.node_table.specs.Value.{Levels, by_level, value_of}
use Rattle.clause_terms.specs.Term.{IsTerm}
use Rattle.bdd_terms.specs.Caches.{HaveRoom, all_entries}
use Rattle.bdd_terms.specs.Parts.{HasAtMost}
use Rattle.bdd_terms.proofs.AllCaches.{keeps_further}
use Rattle.bdd_terms.proofs.Giving.{given_further, units_behind}
use Rattle.bdd_terms.proofs.Leaving.{limit_left, limit_whole, steps_handed}
use Rattle.bdd_terms.proofs.NoEmpty.{implied_open}
use Rattle.bdd_terms.proofs.OwnUnits.{unaccounted_after, unit_within}
use Rattle.bdd_terms.proofs.Pairs.{at_most_same}
use Rattle.bdd_terms.proofs.Quantified.{implies_by}
use Rattle.bdd_terms.proofs.StayingTerms.{justified_kept}
use Rattle.bdd_terms.proofs.found.weaken_all.Given.{Over}
use Rattle.bdd_terms.proofs.found.weaken_all.Goals as goal
use Rattle.bdd_terms.proofs.found.weaken_all.Goals.{After-implied_unit}

pub implied_unit-requires : goal.implied_unit-requires
implied_unit-requires g c =
    let old = c.args.table.now in
    let mid = c.exists_all.new.table in
    let done = c.in_ok-node.ensures in
    let extends = done.steps.extends in
    let u = c.args.u.now in
    let own = c.requires.operand in
    record {
      sound = done.steps.leaves.sound;
      second = done.quantified.stands;
      implied = λ a holds. subst (λ (b : Bool). b ≡ true) (sym (done.quantified.value a))
          (implies_by c.set_law.ensures c.args.set.now (function_of mid.graph u.node) a holds);
      fits = done.keeps.fits none_whole;
      operand = record {
        stands = c.growth_law.ensures.stands old.graph mid.graph extends.nodes u.node own.stands;
        not_false = own.not_false;
        unit = justified_kept c.growth_law.ensures old.graph mid.graph c.requires.sound.tied.reduced extends.nodes old.book.state.live
            mid.book.state.live extends.clauses u.node own.stands u.unit own.unit;
        own = λ id is.
            unaccounted_after old mid (all_entries c.args.caches.now) (all_entries c.exists_all.new.self) id
            (unit_within old c.requires.sound (atom_of old.graph u.node) u.unit id own.unit is) (own.own id is)
            done.keeps.retires (done.keeps.named none_whole);
      };
    }

-- what the implication adds, whose nodes have the functions of the term and of its quantification
pairs_found : (g : Over) (c : After-implied_unit g) (width : ℕ) → HaveRoom c.args.caches.now width
    → HasAtMost (λ a. value_of c.args.table.now.graph a c.args.u.now.node) width
    → HasAtMost (some_values c.args.set.now (function_of c.args.table.now.graph c.args.u.now.node)) width
    → AddsAtMost (2 * (width * width) + 1) c.exists_all.new.table c.implied_unit.new.table
pairs_found g c width room few_u few_w =
    let old = c.args.table.now.graph in
    let mid = c.exists_all.new.table.graph in
    let u = c.args.u.now.node in
    let done = c.in_ok-node.ensures in
    let value : (a : Levels) → value_of mid a u ≡ value_of old a u = λ a.
    c.growth_law.ensures.value old mid c.requires.sound.tied.reduced done.steps.extends.nodes a u c.requires.operand.stands in
    let quantified : (a : Levels) → some_values c.args.set.now (function_of old u) a ≡ value_of mid a c.in_ok-node.node =
    λ a. (λ k. some_values c.args.set.now (λ b. sym (value b) k) a) ∙ sym (done.quantified.value a) in
    c.implied_unit.ensures.pairs width (record { size = room.size; have = c.exists_all.ensures.sizes ∙ room.have; room = room.room })
    (at_most_same (λ a. value_of old a u) (λ a. value_of mid a u) (λ a. sym (value a)) width few_u)
    (at_most_same (some_values c.args.set.now (function_of old u)) (λ a. value_of mid a c.in_ok-node.node) quantified width few_w)

pub returns-clause-finds : goal.returns-clause-finds
returns-clause-finds g c holds same_holds =
    let old = c.args.table.now in
    let mid = c.exists_all.new.table in
    let new = c.implied_unit.new.table in
    let first = all_entries c.args.caches.now in
    let second = all_entries c.exists_all.new.self in
    let third = all_entries c.implied_unit.new.caches in
    let one = c.in_ok-node.ensures in
    let two = c.in_ok-unit.ensures in
    let u = c.args.u.now in
    let keeps = keeps_further old mid new first second third None one.steps.extends two.steps.extends one.keeps two.keeps in
    let same : most_additions (levels mid.graph) ≡ most_additions (levels old.graph) = ap
    (λ (o : List ℕ). most_additions (length o)) one.steps.extends.nodes.order in
    let steps = c.steps_law.ensures.at_most old new (0 + (most_additions (levels mid.graph) + 1)) (most_additions (levels old.graph) + 1)
    None (omega (arith, same))
    (c.steps_law.ensures.further old mid new 0 (most_additions (levels mid.graph) + 1) None one.steps two.steps) in
    let extends = one.steps.extends in
    let value : (a : Levels) → value_of mid.graph a u.node ≡ value_of old.graph a u.node = λ a.
    c.growth_law.ensures.value old.graph mid.graph c.requires.sound.tied.reduced extends.nodes a u.node c.requires.operand.stands in
    record {
      term = subst (λ (graph : Graph). IsTerm graph new.book.state.live holds c.in_ok-node.node c.in_ok-unit.unit) (sym two.nodes)
          (record {
            stands = one.quantified.stands;
            value = λ a. one.quantified.value (by_level mid.graph.order a)
                ∙ (λ k. some_values c.args.set.now (λ b. value b k) (by_level (extends.nodes.order k) a)) ∙ same_holds a;
            proved = two.unit;
          });
      gives = given_further old mid new first second third (u ∷ []) c.in_ok-unit.unit (one.accounts no_error) keeps.retires
          (keeps.named none_whole) one.steps.leaves.no_less (c.steps_law.ensures.was_added mid new two.steps.extends) two.gives;
      steps = c.steps_law.ensures.anyhow _ _ _ _ steps;
      no_empty = λ untorn open_yet. steps.no_empty;
      fits = λ untorn. keeps.fits none_whole;
      again = λ limit. absurd (no_error limit);
      made = subst (λ (graph : Graph). MakesOnlyOf old.graph graph (IsFromPlace (function_of old.graph u.node) c.args.set.now)) (sym two.nodes) one.made;
      lacks = λ limit. absurd (no_error limit);
      pairs = λ width room few all.
          let own = pairs_found g (goal.at.returns-clause-finds g c).After-implied_unit width room few.0 all in
          omega (arith, own, one.steps.adds);
      sizes = c.implied_unit.ensures.sizes ∙ c.exists_all.ensures.sizes;
    }

pub returns-in_err-node-clause-finds : goal.returns-in_err-node-clause-finds
returns-in_err-node-clause-finds g c holds same_holds =
    let old = c.args.table.now in
    let mid = c.exists_all.new.table in
    let came = c.in_err-node.field-0.0 in
    let given = c.from_residual.ensures.1 in
    let one = c.in_err-node.ensures in
    let most = most_additions (levels old.graph) in
    record {
      term = no_answer _ came _ given;
      gives = no_answer _ came _ given;
      steps = c.steps_law.ensures.anyhow _ _ _ _ (steps_handed old mid _ _ came given
          (c.steps_law.ensures.at_most old mid 0 (most + 1) _ (omega arith) one.steps));
      no_empty = λ untorn open_yet. one.steps.no_empty;
      fits = λ untorn. one.keeps.fits (whole_result {T = Bool} (Err came) (other_cause _ came WriteFault given untorn));
      again = λ limit stack has.
          let is = came_from _ came NodeLimit given limit in
          let whole = limit_whole came is in
          units_behind c.steps_law.ensures old mid (all_entries c.args.caches.now) (all_entries c.exists_all.new.self) stack c.requires.sound
          (limit_left old mid came is one.steps.leaves).0.sound one.steps.extends has one.keeps.retires (one.keeps.named whole)
          (one.accounts (λ torn. whole (ap Some (same_error torn))));
      made = one.made;
      lacks = λ limit. one.lacks (ap Err (came_from _ came NodeLimit given limit));
      pairs = λ width room few all. omega (arith, one.steps.adds);
      sizes = c.exists_all.ensures.sizes;
    }

pub returns-in_err-unit-clause-finds : goal.returns-in_err-unit-clause-finds
returns-in_err-unit-clause-finds g c holds same_holds =
    let old = c.args.table.now in
    let mid = c.exists_all.new.table in
    let new = c.implied_unit.new.table in
    let came = c.in_err-unit.field-0.0 in
    let given = c.from_residual-in_err-unit.ensures.1 in
    let one = c.in_ok-node.ensures in
    let two = c.in_err-unit.ensures in
    let same : most_additions (levels mid.graph) ≡ most_additions (levels old.graph) = ap
    (λ (o : List ℕ). most_additions (length o)) one.steps.extends.nodes.order in
    let steps = c.steps_law.ensures.at_most old new (0 + (most_additions (levels mid.graph) + 1)) (most_additions (levels old.graph) + 1)
    (Some came) (omega (arith, same))
    (c.steps_law.ensures.further old mid new 0 (most_additions (levels mid.graph) + 1) (Some came) one.steps two.steps) in
    let keeps = keeps_further old mid new (all_entries c.args.caches.now) (all_entries c.exists_all.new.self)
    (all_entries c.implied_unit.new.caches) (Some came) one.steps.extends two.steps.extends one.keeps two.keeps in
    record {
      term = no_answer _ came _ given;
      gives = no_answer _ came _ given;
      steps = c.steps_law.ensures.anyhow _ _ _ _ (steps_handed old new _ _ came given steps);
      no_empty = λ untorn open_yet. steps.no_empty;
      fits = λ untorn. keeps.fits (whole_result {T = Bool} (Err came) (other_cause _ came WriteFault given untorn));
      again = λ limit. absurd (two.no_node_limit (ap Err (came_from _ came NodeLimit given limit)));
      made = subst (λ (graph : Graph). MakesOnlyOf old.graph graph (IsFromPlace (function_of old.graph c.args.u.now.node) c.args.set.now))
          (sym two.nodes) one.made;
      lacks = λ limit. absurd (two.no_node_limit (ap Err (came_from _ came NodeLimit given limit)));
      pairs = λ width room few all.
          let own = pairs_found g (goal.at.returns-in_err-unit-clause-finds g c).After-implied_unit width room few.0 all in
          omega (arith, own, one.steps.adds);
      sizes = c.implied_unit.ensures.sizes ∙ c.exists_all.ensures.sizes;
    }

pub returns-clause-some : goal.returns-clause-some
returns-clause-some g c =
    let mid = c.exists_all.new.table in
    let done = c.in_ok-node.ensures in
    let u = c.args.u.now in
    implied_open c.canonical_law.ensures mid.graph done.steps.leaves.sound.tied.reduced u.node c.in_ok-node.node
    (c.growth_law.ensures.stands c.args.table.now.graph mid.graph done.steps.extends.nodes u.node c.requires.operand.stands)
    c.requires.operand.not_false
    (λ a holds. subst (λ (b : Bool). b ≡ true) (sym (done.quantified.value a)) (implies_by c.set_law.ensures c.args.set.now (function_of mid.graph u.node) a holds))

pub returns-in_err-node-clause-some : goal.returns-in_err-node-clause-some
returns-in_err-node-clause-some g c = no_answer _ c.in_err-node.field-0.0 _ c.from_residual.ensures.1

pub returns-in_err-unit-clause-some : goal.returns-in_err-unit-clause-some
returns-in_err-unit-clause-some g c = no_answer _ c.in_err-unit.field-0.0 _ c.from_residual-in_err-unit.ensures.1
