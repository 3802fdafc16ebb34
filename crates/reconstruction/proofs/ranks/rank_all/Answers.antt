-- What is left to show of `rank_all`.
use Rattle.std.proofs.Common.{◌≡◌, ◌∙◌, ◌+◌, ◌-◌, ◌<◌, ℕ, true, false, List, ◌∷◌, length, refl, subst, sym, ap, arith, take}
use Rattle.std.specs.Prelude.{slice_index_or, slice_set}
use Rattle.std.proofs.lemmas.Bool.{eqb-true}
use Rattle.std.proofs.lemmas.List.{length-set}
use Rattle.std.proofs.lemmas.List.Elements.{Contains-get_or}
use Rattle.reconstruction.specs.declared.ranks.Rank.{Rank}
use Rattle.reconstruction.specs.Entries.{no_entry, variables_of}
use Rattle.reconstruction.specs.Ranks.{rank_of}
use Rattle.reconstruction.proofs.Ranked.{AreRanked, front_each, ranked_all, ranked_more, ranked_none, variables_more}
use Rattle.reconstruction.proofs.ranks.rank_all.Goals as goal
use Rattle.reconstruction.proofs.ranks.rank_all.Goals.{then-differ, else-differ}

pub entries-init : goal.entries-init
entries-init c = record {
  places = refl;
  are = ranked_none (length c.args.entries.now - 0) c.args.ranks.now.items c.args.round c.requires.before;
}

pub rank_of-fresh-requires : goal.rank_of-fresh-requires
rank_of-fresh-requires c = (c.requires.variables _ (Contains-get_or c.args.entries.now c.entries.place no_entry c.entries-test.true)).0

pub overflow_sub-variable : goal.overflow_sub-variable
overflow_sub-variable c = (c.requires.variables _ (Contains-get_or c.args.entries.now c.entries.place no_entry c.entries-test.true)).0

pub index_mut-requires : goal.index_mut-requires
index_mut-requires c =
    let it = c.requires.variables _ (Contains-get_or c.args.entries.now c.entries.place no_entry c.entries-test.true) in
    omega (arith, it.0, it.1, c.entries.invariant.places, c.entries.ranks.ok.0)

pub entries-preserved : goal.entries-preserved
entries-preserved c =
    let entries = c.args.entries.now in
    let place = c.entries.place in
    let ranks = c.entries.ranks.items in
    let round = c.args.round in
    let x = (slice_index_or entries place no_entry).variable in
    let xs = variables_of (take place entries) in
    let it = c.requires.variables _ (Contains-get_or entries place no_entry c.entries-test.true) in
    let count = length entries - (place + 1) in
    let more : length entries - place ≡ count + 1 = omega (arith, c.entries-test.true) in
    let differ = c.if-differ.differ in
    let given : ℕ → List Rank = λ n. slice_set ranks (x - 1) (record { round = round; rank = n }) in
    let fresh : differ ≡ true → (c.entries.differ ≡ true) × (rank_of ranks round x ≡ 0) = λ is. elim c.if-differ.branch [
      | then-differ w ↦ (
        w.if-differ.true,
        ap (λ (l : List Rank). rank_of l round x) (sym c.deref.ensures.value) ∙ sym c.rank_of-fresh.ensures
            ∙ eqb-true c.rank_of-fresh.result 0 (sym w.differ-is ∙ is),
      )
      | else-differ w ↦ absurd (let no : false ≡ true = sym w.if-differ.false ∙ sym w.differ-is ∙ is in cc)
    ] in
    record {
      places = length-set ranks (x - 1) (record { round = round; rank = length entries - place }) ∙ c.entries.invariant.places;
      are = subst (λ (l : List ℕ). AreRanked count (given (length entries - place)) round l differ)
          (sym (variables_more entries place no_entry c.entries-test.true))
          (subst (λ (n : ℕ). AreRanked count (given n) round (x ∷ xs) differ) (sym more)
          (ranked_more count ranks round xs c.entries.differ differ x
          (subst (λ (n : ℕ). AreRanked n ranks round xs c.entries.differ) more c.entries.invariant.are) it.0
          (omega (arith, it.1, c.entries.invariant.places))
          (front_each (λ v. 0 < v) entries place (λ entry there. (c.requires.variables entry there).0)) fresh));
    }

pub returns-clause-others : goal.returns-clause-others
returns-clause-others c =
    (ranked_all c.args.entries.now c.entries.place c.entries-test.false _ c.entries.ranks.items c.args.round c.entries.differ
    c.entries.invariant.are).others

pub returns-clause-ranked : goal.returns-clause-ranked
returns-clause-ranked c v above among =
    let more = (ranked_all c.args.entries.now c.entries.place c.entries-test.false _ c.entries.ranks.items c.args.round c.entries.differ
    c.entries.invariant.are).ranked v above among in
    omega (arith, more)

pub returns-clause-rising : goal.returns-clause-rising
returns-clause-rising c is =
    (ranked_all c.args.entries.now c.entries.place c.entries-test.false _ c.entries.ranks.items c.args.round c.entries.differ
    c.entries.invariant.are).rising is
