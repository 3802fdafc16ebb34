-- What is assumed clashes by itself, or a clause is false under it.
use Rattle.std.proofs.Common.{◌≡◌, ◌≤◌, ℕ, List, ◌++◌, length, reverse, sym, ap, ◌∙◌, subst}
use Rattle.std.proofs.lemmas.Bool.{both_ways}
use Rattle.drat_checker.specs.Hints.{IsFirstConflict, Refute, is_tautology}
use Rattle.drat_checker.proofs.Lifts.{if-some-at}
use Rattle.drat_checker.proofs.line.explain_into.Goals as goal

pub returns-in-None : goal.returns-in-None
returns-in-None c = λ assumed same. record {
  closes = λ are units refutes plain.
      absurd (both_ways (is_tautology assumed) plain (c.conflict_of.ensures.none c.args.db.now assumed same are refutes c.in-None.is));
}

pub explain-requires : goal.explain-requires
explain-requires c = record {
  within = if-some-at (λ first. first.count ≤ length c.args.trail.now.literals) c.conflict_of.result c.in-Some.first c.in-Some.is
      c.conflict_of.ensures.within;
}

pub returns-in_ok-push_turned-in-Some : goal.returns-in_ok-push_turned-in-Some
returns-in_ok-push_turned-in-Some c = λ assumed same.
    let trail = c.args.trail.now in
    let first = c.in-Some.first in
    let hints : c.push_turned.new.hints ≡ reverse c.explain.new.found =
    c.in_ok-push_turned-in-Some.ensures ∙ ap (λ (l : List ℕ). l ++ reverse c.as_slice.result.now) c.clear.ensures
    ∙ ap reverse c.as_slice.ensures in
    let refute : Refute c.args.db.now trail c.args.given.now first c.push_turned.new.hints =
    subst (Refute c.args.db.now trail c.args.given.now first) (sym hints) c.in_ok-explain-in-Some.ensures in
    record {
      closes = λ are units refutes plain. record {
        ids = refute.ids;
        exact = λ live n live_are is. refute.exact live assumed n live_are (record {
          same = same;
          reasons = are;
          units = units;
          conflict = if-some-at (IsFirstConflict c.args.db.now trail.literals assumed) c.conflict_of.result first c.in-Some.is
              (c.conflict_of.ensures.first c.args.db.now assumed same are refutes);
        }) is;
      };
    }
