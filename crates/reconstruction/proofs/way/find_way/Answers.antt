-- What is left to show of `find_way`.
use Rattle.std.proofs.Common.{◌≡◌, ◌∙◌, ℕ, true, false, Option, None, is_some, length, sym, ap, arith, inl, inr}
use Rattle.std.proofs.lemmas.Bool.{cases_lt}
use Rattle.std.proofs.lemmas.List.{nil_from_length}
use Rattle.cnf_base.specs.Truth.{assignment_of}
use Rattle.reconstruction.specs.Ranks.{rank_of}
use Rattle.reconstruction.proofs.CellValues.{small_key}
use Rattle.reconstruction.proofs.Searches.{begun, comes, fewer_back, fewer_down, fresh_dead, known_more, near, small, step_back}
use Rattle.reconstruction.proofs.Searches.{step_down, step_end, step_out}
use Rattle.reconstruction.proofs.way.find_way.Goals as goal

pub returns-then-first-lt2-clause-dead : goal.returns-then-first-lt2-clause-dead
returns-then-first-lt2-clause-dead c =
    fresh_dead c.args.cells.now (rank_of c.args.ranks.now c.args.round) (assignment_of c.args.values.now) c.args.marks.now.items
    c.args.round c.requires.before

pub returns-then-first-lt2-clause-none : goal.returns-then-first-lt2-clause-none
returns-then-first-lt2-clause-none c none b agrees =
    small_key b c.args.cells.now c.args.first c.if-first-lt2.true ∙ none

pub cells-init : goal.cells-init
cells-init c =
    begun c.args.cells.now (rank_of c.args.ranks.now c.args.round) (assignment_of c.args.values.now) c.args.round c.args.first
    c.args.marks.now.items c.clear.new.self.items c.requires.before c.requires.room c.if-first-lt2.false c.clear.ensures.items

pub next_key-child-requires-clause-within : goal.next_key-child-requires-clause-within
next_key-child-requires-clause-within c =
    let down = small c.args.cells.now c.requires.ordered (rank_of c.args.ranks.now c.args.round) (assignment_of c.args.values.now)
    c.args.round c.args.first c.requires.within c.cells.marks.items c.cells.path.items c.cells.key c.cells.invariant in
    omega (arith, down, c.requires.within)

pub returns-then-child-eq1-clause-found : goal.returns-then-child-eq1-clause-found
returns-then-child-eq1-clause-found c found =
    let goes = comes c.args.cells.now c.requires.ordered (rank_of c.args.ranks.now c.args.round) (assignment_of c.args.values.now)
    c.args.round c.args.first c.requires.within c.cells.marks.items c.cells.path.items c.cells.key c.cells.invariant
    _ c.next_key-child.result c.deref.ensures.value c.next_key-child.ensures in
    step_out c.args.cells.now c.requires.ordered (rank_of c.args.ranks.now c.args.round) (assignment_of c.args.values.now)
    c.args.round c.args.first c.requires.within c.cells.marks.items c.cells.path.items c.cells.key c.cells.invariant
    c.push.new.self.items (goes ∙ c.if-child-eq1.true) c.in_ok-push.ensures.items

pub cells-smaller-then-child-gt0 : goal.cells-smaller-then-child-gt0
cells-smaller-then-child-gt0 c =
    fewer_down c.args.cells.now c.requires.ordered (rank_of c.args.ranks.now c.args.round) (assignment_of c.args.values.now)
    c.args.round c.args.first c.requires.within c.cells.marks.items c.cells.path.items c.cells.key c.cells.invariant
    c.push.new.self.items c.in_ok-push.ensures.items

pub cells-preserved-then-child-gt0 : goal.cells-preserved-then-child-gt0
cells-preserved-then-child-gt0 c =
    let goes = comes c.args.cells.now c.requires.ordered (rank_of c.args.ranks.now c.args.round) (assignment_of c.args.values.now)
    c.args.round c.args.first c.requires.within c.cells.marks.items c.cells.path.items c.cells.key c.cells.invariant
    _ c.next_key-child.result c.deref.ensures.value c.next_key-child.ensures in
    step_down c.args.cells.now c.requires.ordered (rank_of c.args.ranks.now c.args.round) (assignment_of c.args.values.now)
    c.args.round c.args.first c.requires.within c.cells.marks.items c.cells.path.items c.cells.key c.cells.invariant
    c.next_key-child.result c.push.new.self.items goes (omega (arith, c.if-child-gt0.true, c.if-child-eq1.false))
    c.in_ok-push.ensures.items

pub index_mut-requires : goal.index_mut-requires
index_mut-requires c =
    let inside = near c.args.cells.now c.requires.ordered (rank_of c.args.ranks.now c.args.round) (assignment_of c.args.values.now)
    c.args.round c.args.first c.requires.within c.cells.marks.items c.cells.path.items c.cells.key c.cells.invariant in
    omega (arith, inside, c.cells.marks.ok.0)

pub returns-in_default-clause-dead : goal.returns-in_default-clause-dead
returns-in_default-clause-dead c =
    let goes = comes c.args.cells.now c.requires.ordered (rank_of c.args.ranks.now c.args.round) (assignment_of c.args.values.now)
    c.args.round c.args.first c.requires.within c.cells.marks.items c.cells.path.items c.cells.key c.cells.invariant
    _ c.next_key-child.result c.deref.ensures.value c.next_key-child.ensures in
    let none : c.next_key-child.result ≡ 0 = omega (arith, c.if-child-gt0.false) in
    known_more c.args.cells.now c.requires.ordered (rank_of c.args.ranks.now c.args.round) (assignment_of c.args.values.now)
    c.args.round c.args.first c.requires.within c.cells.marks.items c.cells.path.items c.cells.key c.cells.invariant (goes ∙ none)

not_none : (o : Option ℕ) → is_some o ≡ true → o ≡ None → ⊥
not_none o some none = let no : true ≡ false = sym some ∙ ap is_some none in cc

pub returns-in_default-clause-none : goal.returns-in_default-clause-none
returns-in_default-clause-none c fails =
    let goes = comes c.args.cells.now c.requires.ordered (rank_of c.args.ranks.now c.args.round) (assignment_of c.args.values.now)
    c.args.round c.args.first c.requires.within c.cells.marks.items c.cells.path.items c.cells.key c.cells.invariant
    _ c.next_key-child.result c.deref.ensures.value c.next_key-child.ensures in
    let none : c.next_key-child.result ≡ 0 = omega (arith, c.if-child-gt0.false) in
    step_end c.args.cells.now c.requires.ordered (rank_of c.args.ranks.now c.args.round) (assignment_of c.args.values.now)
    c.args.round c.args.first c.requires.within c.cells.marks.items c.cells.path.items c.cells.key c.cells.invariant (goes ∙ none)
    (nil_from_length c.cells.path.items (elim (cases_lt 0 (length c.cells.path.items)) [
      | inl more ↦ absurd (not_none c.pop.result (c.pop.ensures.variant.1 (omega (arith, more, c.cells.path.ok.0))) c.in_default.is)
      | inr empty ↦ omega (arith, empty)
    ]))

pub cells-smaller : goal.cells-smaller
cells-smaller c =
    fewer_back c.args.cells.now c.requires.ordered (rank_of c.args.ranks.now c.args.round) (assignment_of c.args.values.now)
    c.args.round c.args.first c.requires.within c.cells.marks.items c.cells.path.items c.cells.key c.cells.invariant
    c.pop.new.self.items c.in-Some.above c.in-Some.ensures.items

pub cells-preserved : goal.cells-preserved
cells-preserved c =
    let goes = comes c.args.cells.now c.requires.ordered (rank_of c.args.ranks.now c.args.round) (assignment_of c.args.values.now)
    c.args.round c.args.first c.requires.within c.cells.marks.items c.cells.path.items c.cells.key c.cells.invariant
    _ c.next_key-child.result c.deref.ensures.value c.next_key-child.ensures in
    let none : c.next_key-child.result ≡ 0 = omega (arith, c.if-child-gt0.false) in
    step_back c.args.cells.now c.requires.ordered (rank_of c.args.ranks.now c.args.round) (assignment_of c.args.values.now)
    c.args.round c.args.first c.requires.within c.cells.marks.items c.cells.path.items c.cells.key c.cells.invariant
    c.pop.new.self.items c.in-Some.above (goes ∙ none) c.in-Some.ensures.items
