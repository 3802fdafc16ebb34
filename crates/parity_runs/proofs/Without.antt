-- A run without sums, and when there are none.
use Rattle.std.proofs.Common.{◌≡◌, ◌∙◌, ◌||◌, ℕ, zero, suc, Bool, true, false, ℤ, List, [], ◌∷◌, length, map, Result}
use Rattle.std.proofs.Common.{refl, sym, ap, subst, arith, inl, inr}
use Rattle.std.specs.Prelude.{IsFalse, IsTrue, MatchOption, Option, None, Some, is_some, neg_ℤ, pos, negsuc}
use Rattle.std.specs.List.{flat_map, list_all, list_any}
use Rattle.std.specs.Ordering.{int_eq}
use Rattle.std.proofs.lemmas.Bool.{and_parts, cases_Bool, or_from, or_parts}
use Rattle.std.proofs.lemmas.Bool.Decides.{Decides-int_eq}
use Rattle.cnf_base.specs.EmptyClause.{HaveLiterals, IsFirstEmpty}
use Rattle.cnf_base.specs.Formula.{Formula}
use Rattle.cnf_base.specs.Truth.{AreClausesOf, is_literal_of}
use Rattle.host_io.specs.Channel.{Channel}
use Rattle.schedule_plan.specs.declared.plan.Move.{Move}
use Rattle.schedule_plan.specs.declared.limits.Limits.{Limits}
use Rattle.parity_equations.specs.Conflict.{AreInConflict}
use Rattle.parity_equations.specs.Equations.{equations, equations_over, sets_but}
use Rattle.parity_equations.specs.declared.equations.Equation.{Equation}
use Rattle.parity_equations.specs.Walk.{listed}
use Rattle.parity_equations.specs.LiteralSet.{has_both_signs}
use Rattle.bdd_terms.specs.declared.error.RunError.{RunError}
use Rattle.term_runner.specs.declared.outcome.Run.{Run}
use Rattle.term_runner.specs.Clauses.{has_empty_clause, is_tautology}
use Rattle.term_runner.specs.Ends.{Ends}
use Rattle.term_runner.specs.Price.{IsPaidFor}
use Rattle.parity_runs.specs.Ends.{EndsBehind, EndsWithParity, IsPaidBehind}
use Rattle.parity_runs.proofs.Stands.{so_far_wider}

-- whether a first empty clause is found tells whether there is one
pub told_empty : (clauses : List (List ℤ)) (found : Option ℕ) → MatchOption found (HaveLiterals clauses) (IsFirstEmpty clauses)
    → is_some found ≡ has_empty_clause clauses
told_empty clauses None have = sym have.none
told_empty clauses (Some number) is = sym is.some

none_in_conflict : AreInConflict [] → ⊥
none_in_conflict conflict = let e : false ≡ true = conflict.sum 0 in cc

module _ (tells : Bool) (before after : Channel) (formula : Formula) (order : List ℕ) (moves : List Move) (limits : Limits)
    (result : Result Run RunError) (ends : Ends tells before after formula order moves limits result) where
  behind_none : EndsBehind tells before after formula order moves limits result
  behind_none = record {
    says = ends.says;
    certain = λ width price has paid ample. ends.certain width price has paid
        (ample.nodes, (let most = ample.numbers in omega (arith, most)));
    shows = ends.shows;
    last = ends.last;
    whole = ends.whole;
    so_far = ends.so_far;
    variables = ends.variables;
    price = λ width price has paid t. so_far_wider formula.clauses (IsPaidFor formula limits moves width price)
        (IsPaidBehind formula limits moves width price)
        (λ s there sum_width sum_price is. let own = there.within.numbers in omega (arith, own)) after.written
        (ends.price width price has paid t);
    flushed = ends.flushed;
    fault = ends.fault;
    unfailed = ends.unfailed;
    tautologies = ends.tautologies;
    name = ends.name;
    faults = ends.faults;
  }

  -- a clause is empty
  pub ends_empty : IsTrue (has_empty_clause formula.clauses) → EndsWithParity tells before after formula order moves limits result
  ends_empty empty = record {
    without = λ none fine. ends;
    behind = behind_none;
    conflict = λ full. absurd (let e : true ≡ false = sym empty ∙ full in cc);
  }

  -- there is no equation
  pub ends_alone : equations formula.clauses ≡ [] → EndsWithParity tells before after formula order moves limits result
  ends_alone none = record {
    without = λ either fine. ends;
    behind = behind_none;
    conflict = λ full conflict. absurd (none_in_conflict (subst AreInConflict none conflict));
  }

-- a clause without both signs of a variable is no tautology
turned : (x y : ℤ) → int_eq x y ≡ false → int_eq y x ≡ false
turned x y differ = elim (cases_Bool (int_eq y x)) [
  | inl same ↦ absurd (let e : true ≡ false = sym ((Decides-int_eq x y).1 (sym ((Decides-int_eq y x).0 same))) ∙ differ in cc)
  | inr other ↦ other
]

not_negated : (vars : ℕ) (literal : ℤ) → is_literal_of vars literal ≡ true → int_eq literal (neg_ℤ literal) ≡ false
not_negated vars (pos zero) is = absurd (let e : false ≡ true = is in cc)
not_negated vars (pos (suc n)) is = refl
not_negated vars (negsuc n) is = refl

neg_turned : (x y : ℤ) → int_eq (neg_ℤ x) y ≡ false → int_eq x (neg_ℤ y) ≡ false
neg_turned x y differ = elim (cases_Bool (int_eq x (neg_ℤ y))) [
  | inl same ↦ absurd (
      let is : neg_ℤ x ≡ y = ap neg_ℤ ((Decides-int_eq x (neg_ℤ y)).0 same) ∙ twice y in
      let e : true ≡ false = sym ((Decides-int_eq (neg_ℤ x) y).1 is) ∙ differ in cc)
  | inr other ↦ other
]
  where
    twice : (z : ℤ) → neg_ℤ (neg_ℤ z) ≡ z
    twice (pos zero) = refl
    twice (pos (suc n)) = refl
    twice (negsuc n) = refl

none_turned : (x : ℤ) (list : List ℤ) → list_any (int_eq x) list ≡ false → list_any (λ other. int_eq other x) list ≡ false
none_turned x [] none = refl
none_turned x (y ∷ list) none =
    let parts = or_parts (int_eq x y) _ none in
    or_from (int_eq y x) _ (turned x y parts.0) (none_turned x list parts.1)

none_opposite : (x : ℤ) (list : List ℤ) → list_any (int_eq (neg_ℤ x)) list ≡ false → list_any (λ literal. int_eq x (neg_ℤ literal)) list
    ≡ false
none_opposite x [] none = refl
none_opposite x (y ∷ list) none =
    let parts = or_parts (int_eq (neg_ℤ x) y) _ none in
    or_from (int_eq x (neg_ℤ y)) _ (neg_turned x y parts.0) (none_opposite x list parts.1)

none_of_either : (p q : ℤ → Bool) (list : List ℤ) → list_any p list ≡ false → list_any q list ≡ false
    → list_any (λ x. p x || q x) list ≡ false
none_of_either p q [] none no_other = refl
none_of_either p q (x ∷ list) none no_other =
    let parts = or_parts (p x) _ none in
    let others = or_parts (q x) _ no_other in
    or_from (p x || q x) _ (or_from (p x) (q x) parts.0 others.0) (none_of_either p q list parts.1 others.1)

no_tautology : (vars : ℕ) (clause : List ℤ) → list_all (is_literal_of vars) clause ≡ true → has_both_signs clause ≡ false
    → is_tautology clause ≡ false
no_tautology vars [] of none = refl
no_tautology vars (x ∷ more) of none =
    let own = and_parts (is_literal_of vars x) _ of in
    let parts = or_parts (list_any (int_eq (neg_ℤ x)) more) _ none in
    or_from (list_any (λ other. int_eq other (neg_ℤ x)) (x ∷ more)) _
    (or_from (int_eq x (neg_ℤ x)) _ (not_negated vars x own.0) (none_turned (neg_ℤ x) more parts.0))
    (none_of_either (λ literal. int_eq x (neg_ℤ literal)) (λ literal. list_any (λ other. int_eq other (neg_ℤ literal)) more) more
    (none_opposite x more parts.0) (no_tautology vars more own.1 parts.1))

-- so tautologies have no equation
none_found : (vars : ℕ) (seen : List (List ℕ)) (clauses : List (List ℤ)) → list_all (list_all (is_literal_of vars)) clauses ≡ true
    → list_all is_tautology clauses ≡ true → sets_but seen clauses ≡ []
none_found vars seen [] of all = refl
none_found vars seen (clause ∷ more) of all =
    let own = and_parts (list_all (is_literal_of vars) clause) _ of in
    let here = and_parts (is_tautology clause) _ all in
    go (has_both_signs clause) refl own.0 here.0 (none_found vars seen more own.1 here.1)
  where
    go : (b : Bool) → has_both_signs clause ≡ b → list_all (is_literal_of vars) clause ≡ true → is_tautology clause ≡ true
        → sets_but seen more ≡ [] → sets_but seen (clause ∷ more) ≡ []
    go false none own taut rest = absurd (let e : true ≡ false = sym taut ∙ no_tautology vars clause own none in cc)
    go true both own taut rest = skipped both ∙ rest
      where
        skipped : has_both_signs clause ≡ true → sets_but seen (clause ∷ more) ≡ sets_but seen more
        skipped both = rw both refl

pub some_open : (vars : ℕ) (clauses : List (List ℤ)) → AreClausesOf vars clauses → (equations clauses ≡ [] → ⊥)
    → IsFalse (list_all is_tautology clauses)
some_open vars clauses of some = elim (cases_Bool (list_all is_tautology clauses)) [
  | inl all ↦ absurd (some (ap (flat_map (equations_over clauses)) (none_found vars [] clauses of all)))
  | inr other ↦ other
]

-- by the list that was found
pub some_found : (found : List Equation) (all : List (List ℕ × Bool)) → map listed found ≡ all → (length found ≡ 0 → ⊥) → all ≡ [] → ⊥
some_found [] all is some none = some refl
some_found (first ∷ more) all is some none = let e : listed first ∷ map listed more ≡ [] = is ∙ none in cc

pub none_listed : (found : List Equation) (all : List (List ℕ × Bool)) → map listed found ≡ all → length found ≡ 0 → all ≡ []
none_listed [] all is none = sym is
none_listed (first ∷ more) all is none = absurd (omega (arith, none))
