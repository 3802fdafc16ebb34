-- What is left to show of `raise`.
use Rattle.std.proofs.Common.{◌≡◌, ◌∙◌, ◌-◌, ◌<◌, ◌≤◌, Bool, true, List, length, subst, sym, ap, arith, refl}
use Rattle.std.specs.Prelude.{slice_index_or}
use Rattle.std.proofs.lemmas.List.{length-set}
use Rattle.std.proofs.lemmas.List.Elements.{Contains-get_or}
use Rattle.cnf_base.specs.Truth.{assignment_of, with_value}
use Rattle.clause_terms.specs.Walk.{AreAlike}
use Rattle.reconstruction.specs.Ranks.{rank_of}
use Rattle.reconstruction.specs.Way.{live, no_cell}
use Rattle.reconstruction.proofs.Alike.{value_set}
use Rattle.reconstruction.proofs.Holds.{set_off}
use Rattle.reconstruction.proofs.Raised.{at_fixed, at_high, at_low, start_down, walked}
use Rattle.reconstruction.proofs.Ways.{are_live, cell_of}
use Rattle.reconstruction.proofs.walked.raise.Goals as goal

pub overflow_sub-cell : goal.overflow_sub-cell
overflow_sub-cell c = (c.requires.inner _ (Contains-get_or c.args.path.now c.way.key-index 0 c.way-test.true)).0

pub bounds-cells-key : goal.bounds-cells-key
bounds-cells-key c =
    let it = c.requires.inner _ (Contains-get_or c.args.path.now c.way.key-index 0 c.way-test.true) in
    omega (arith, it.0, it.1)

pub rank_of-rank-requires : goal.rank_of-rank-requires
rank_of-rank-requires c =
    let key = slice_index_or c.args.path.now c.way.key-index 0 in
    let it = c.requires.inner key (Contains-get_or c.args.path.now c.way.key-index 0 c.way-test.true) in
    (cell_of c.args.cells.now c.requires.ordered key it.0 it.1).some

pub set-requires-clause-some : goal.set-requires-clause-some
set-requires-clause-some c =
    let key = slice_index_or c.args.path.now c.way.key-index 0 in
    let it = c.requires.inner key (Contains-get_or c.args.path.now c.way.key-index 0 c.way-test.true) in
    (cell_of c.args.cells.now c.requires.ordered key it.0 it.1).some

pub way-init : goal.way-init
way-init c = record {
  one_each = refl;
  rest = λ v some zero. refl;
  down = start_down c.args.cells.now (rank_of c.args.ranks.now c.args.round) (assignment_of c.args.values.now)
      (live c.args.marks.now c.args.round) c.args.path.now c.requires.cleared;
}

pub way-preserved-then-rank-eq0 : goal.way-preserved-then-rank-eq0
way-preserved-then-rank-eq0 c = record {
  one_each = c.way.invariant.one_each;
  rest = c.way.invariant.rest;
  down = at_fixed c.args.cells.now c.requires.ordered (rank_of c.args.ranks.now c.args.round) (assignment_of c.args.values.now)
      (assignment_of c.way.values) (live c.args.marks.now c.args.round) (are_live c.args.marks.now c.args.round) c.args.path.now c.way.last
      c.way.key-index c.way-test.true c.way.invariant.down (sym c.rank_of-rank.ensures ∙ c.if-rank-eq0.true);
}

pub way-preserved-then-live-gt0 : goal.way-preserved-then-live-gt0
way-preserved-then-live-gt0 c = record {
  one_each = c.way.invariant.one_each;
  rest = c.way.invariant.rest;
  down = at_low c.args.cells.now c.requires.ordered (rank_of c.args.ranks.now c.args.round) (assignment_of c.args.values.now)
      (assignment_of c.way.values) (live c.args.marks.now c.args.round) (are_live c.args.marks.now c.args.round) c.args.path.now c.way.last
      c.way.key-index c.way-test.true c.way.invariant.down c.rank_of-rank.result c.rank_of-rank.ensures c.if-rank-last.false
      (λ none. omega (arith, c.if-live-gt0.true, c.live.ensures, none));
}

pub way-preserved : goal.way-preserved
way-preserved c =
    let cells = c.args.cells.now in
    let rank = rank_of c.args.ranks.now c.args.round in
    let values = c.way.values in
    let key = slice_index_or c.args.path.now c.way.key-index 0 in
    let it = c.requires.inner key (Contains-get_or c.args.path.now c.way.key-index 0 c.way-test.true) in
    let v = (slice_index_or cells (key - 2) no_cell).variable in
    let some : 0 < v = (cell_of cells c.requires.ordered key it.0 it.1).some in
    let inside : v ≤ length values = subst (λ n. v ≤ n) (sym c.way.invariant.one_each)
    (c.requires.within v some (omega (arith, c.rank_of-rank.ensures, c.if-rank-last.false))) in
    let ranked : 0 < rank v = omega (arith, c.rank_of-rank.ensures, c.if-rank-last.false) in
    let set : AreAlike (assignment_of c.set.new.self) (with_value (assignment_of values) v true) = record {
      same = λ u above. ap (λ (l : List Bool). assignment_of l u) c.set.ensures ∙ (value_set values v true some inside).same u above;
    } in
    record {
      one_each = ap length c.set.ensures ∙ length-set values (v - 1) true ∙ c.way.invariant.one_each;
      rest = λ u above zero. set.same u above
          ∙ set_off (assignment_of values) v true u (λ at. let as_u : rank u ≡ rank v = ap rank at in omega (arith, ranked, zero, as_u))
          ∙ c.way.invariant.rest u above zero;
      down = at_high cells c.requires.ordered rank (assignment_of c.args.values.now) (assignment_of values)
          (live c.args.marks.now c.args.round) (are_live c.args.marks.now c.args.round) c.args.path.now c.way.last c.way.key-index
          c.way-test.true c.way.invariant.down c.requires.dead c.rank_of-rank.result c.rank_of-rank.ensures c.if-rank-last.false
          (sym c.live.ensures ∙ omega (arith, c.if-live-gt0.false)) (assignment_of c.set.new.self) set;
    }

pub returns-clause-walked : goal.returns-clause-walked
returns-clause-walked c done =
    walked c.args.cells.now (rank_of c.args.ranks.now c.args.round) (assignment_of c.args.values.now) (assignment_of c.way.values)
    (live c.args.marks.now c.args.round) c.args.path.now c.way.last c.way.key-index c.way-test.false c.way.invariant.down
