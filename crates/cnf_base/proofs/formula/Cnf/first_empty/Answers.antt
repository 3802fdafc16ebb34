-- What is left to show of `Cnf::first_empty`.
use Rattle.std.proofs.Common.{rules, ◌≡◌, ◌∙◌, ap, ◌+◌, ◌-◌, ◌<◌, [], false, length, slice_index_or, arith, sym, subst, ℕ, ℤ, List, zero, ◌∷◌, eqb-true}
use Rattle.std.proofs.lemmas.List.{take_all}
use Rattle.cnf_base.specs.EmptyClause.{has_empty_clause}
use Rattle.cnf_base.proofs.EmptyClauses.{first_at, none_at}
use Rattle.cnf_base.proofs.formula.Cnf.first_empty.Goals as goal

pub returns-then-is_empty : goal.returns-then-is_empty
returns-then-is_empty c =
    let clauses = c.args.self.now.clauses in
    let there : slice_index_or clauses (c.loop-i.i + 1 - 1) []
    ≡ [] = nil c.clause.result.now (eqb-true _ _ (sym c.if-is_empty.ensures)) c.clause.ensures in
    let back : c.loop-i.i + 1 - 1 ≡ c.loop-i.i = omega arith in
    let empty : slice_index_or clauses c.loop-i.i [] ≡ [] = subst (λ (k : ℕ). slice_index_or clauses k [] ≡ []) back there in
    let inside : c.loop-i.i < length clauses = search rules in
    let first = first_at clauses c.loop-i.i c.loop-i.invariant inside empty in
    record {
      first = omega (arith, first.0);
      some = first.1;
      from_one = omega arith;
      to_len = omega (arith, inside);
      empty = there;
    }
  where
    nil : {other : List ℤ} (clause : List ℤ) → length clause ≡ zero → clause ≡ other → other ≡ []
    nil [] e same = sym same
    nil (x ∷ xs) e same = cc

pub returns : goal.returns
returns c =
    let clauses = c.args.self.now.clauses in
    let none : has_empty_clause clauses ≡ false =
    ap has_empty_clause (sym (take_all c.loop-i.i clauses (omega (arith, c.loop-i-test.false, c.len-i-end.ensures))))
    ∙ c.loop-i.invariant in
    record { none = none; each = λ place within is. none_at clauses place none within is }
