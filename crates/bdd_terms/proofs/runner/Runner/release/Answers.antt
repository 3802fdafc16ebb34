-- A term goes from the list, and its clause is retired, or kept.
use Rattle.std.proofs.Common.{◌≡◌, ◌∙◌, ◌<◌, ◌++◌, ◌∷◌, suc, true, false, List, Contains, Some, length, take, drop, inl, refl, sym, ap, subst}
use Rattle.std.specs.Prelude.{get_or, IsTrue}
use Rattle.std.specs.Option.{option_to_list}
use Rattle.std.proofs.lemmas.List.Elements.{Contains-append_left}
use Rattle.clause_ledger.specs.Book.{Book}
use Rattle.bdd_terms.specs.declared.held.HeldTerm.{HeldTerm}
use Rattle.bdd_terms.specs.Runner.{owners, refusals_of}
use Rattle.bdd_terms.proofs.Kept.{good_true}
use Rattle.bdd_terms.proofs.Released.{around, releases_kept, releases_retired, releases_true}
use Rattle.bdd_terms.proofs.runner.Runner.release.Given.{Over}
use Rattle.bdd_terms.proofs.runner.Runner.release.Goals as goal
use Rattle.bdd_terms.proofs.runner.Runner.release.Goals.{After-remove}

pub returns-then-is_same-clause-releases : goal.returns-then-is_same-clause-releases
returns-then-is_same-clause-releases g c on =
    let runner = c.requires.runner on in
    let table = c.args.self.now.terms.table in
    releases_true c.args.self.now c.args.term.held runner
    (good_true c.args.self.now runner c.args.term.held (c.requires.good on) (c.is_same.ensures.0 c.if-is_same.true))
    (c.steps_law.ensures.none table runner.over.sound).leaves

-- the list around the term
module _ (g : Over) (c : After-remove g) where
  pub in_step : IsTrue c.args.self.now.terms.table.book.in_step
  in_step = ap (λ (b : Book g.row.S.Denot). b.in_step) (sym c.ledger.ensures) ∙ sym c.is_in_step.ensures ∙ c.if-not-is_in_step.false

  abbrev items : List HeldTerm
  items = c.args.self.now.terms.out.items

  small : c.in-Some.place < length items
  small = subst (λ (list : List HeldTerm). c.in-Some.place < length list) c.as_slice.ensures.value c.in-Some.ensures.0

  at : get_or items c.in-Some.place c.args.term.held ≡ c.args.term.held
  at = subst (λ (list : List HeldTerm). get_or list c.in-Some.place c.args.term.held ≡ c.args.term.held) c.as_slice.ensures.value
      c.in-Some.ensures.1

  pub was : items ≡ take c.in-Some.place items ++ c.args.term.held ∷ drop (suc c.in-Some.place) items
  was = around items c.in-Some.place c.args.term.held small at

  among : Contains (owners c.args.self.now) c.args.term.held
  among = Contains-append_left items (option_to_list c.args.self.now.kept) c.args.term.held (c.in-Some.place, small, at)

  pub among_all : Contains (owners c.args.self.now ++ refusals_of c.args.self.now) c.args.term.held
  among_all = Contains-append_left (owners c.args.self.now) (refusals_of c.args.self.now) c.args.term.held among

pub returns-then-is_first_false-clause-releases : goal.returns-then-is_first_false-clause-releases
returns-then-is_first_false-clause-releases g c on =
    let inside = (goal.at.returns-then-is_first_false-clause-releases g c).After-remove in
    let old = c.args.self.now in
    let runner = c.requires.runner on in
    let first = c.is_first_false.ensures.first c.if-is_first_false.true in
    releases_kept old runner c.args.term.held (take c.in-Some.place old.terms.out.items) (drop (suc c.in-Some.place) old.terms.out.items)
    (was g inside) (record old { terms = record old.terms { out = c.remove.new.self }; kept = Some c.args.term.held }) refl
    c.remove.ensures.items first.0 first.1 (c.steps_law.ensures.none old.terms.table runner.over.sound).leaves

pub retire_unit-requires-clause-added : goal.retire_unit-requires-clause-added
retire_unit-requires-clause-added g c id is =
    let inside = (goal.at.retire_unit-requires-clause-added g c).After-remove in
    let runner = c.requires.runner (in_step g inside) in
    runner.units.added id (record { held = c.args.term.held; stacked = among_all g inside; unit = is })

pub retire_unit-requires-clause-unretired : goal.retire_unit-requires-clause-unretired
retire_unit-requires-clause-unretired g c id is gone =
    let inside = (goal.at.retire_unit-requires-clause-unretired g c).After-remove in
    let runner = c.requires.runner (in_step g inside) in
    runner.units.own c.args.term.held (among_all g inside) id is (inl gone)

pub returns-clause-releases : goal.returns-clause-releases
returns-clause-releases g c on =
    let inside = (goal.at.returns-clause-releases g c).After-remove in
    let old = c.args.self.now in
    let runner = c.requires.runner on in
    let table = c.retire_unit.new.table in
    releases_retired old runner c.args.term.held (take c.in-Some.place old.terms.out.items) (drop (suc c.in-Some.place) old.terms.out.items)
    (was g inside) c.steps_law.ensures c.entry_law.ensures table
    (record old { terms = record old.terms { table = table; out = c.remove.new.self } }) refl c.remove.ensures.items
    c.retire_unit.ensures.retired c.retire_unit.ensures.steps (c.is_first_false.ensures.other c.if-is_first_false.false)
    (λ is. let e : true ≡ false = sym (c.is_same.ensures.1 is) ∙ c.if-is_same.false in cc)
