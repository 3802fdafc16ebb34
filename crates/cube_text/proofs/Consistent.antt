-- Cubes stay consistent: a literal is added only where its negation doesn't stand before it.
use Rattle.std.proofs.Common.{◌≡◌, ◌∙◌, ◌<◌, ◌≤◌, ◌&&◌, ◌||◌, ℕ, zero, suc, Bool, true, false, not, ℤ, pos, negsuc, neg_ℤ, List, [], ◌∷◌}
use Rattle.std.proofs.Common.{◌++◌, length}
use Rattle.std.proofs.Common.{Option, None, Some, refl, sym, ap, subst, arith, int_eq}
use Rattle.std.specs.Prelude.{nat_abs, nat_le, nat_lt, if◌then◌else◌}
use Rattle.std.specs.List.{list_all, list_any}
use Rattle.std.proofs.lemmas.Bool.{and_from, and_parts, le-leb, leb-false, ltb-false, lt-ltb, or_parts}
use Rattle.std.proofs.lemmas.Bool.Decides.{Decides-int_eq}
use Rattle.std.proofs.lemmas.List.Folds.{list_all-append, list_any-append}
use Rattle.cnf_base.specs.Cube.{is_consistent, is_denied}
use Rattle.cnf_base.specs.Formula.{Draft}
use Rattle.cnf_base.specs.Number.{signed_number}
use Rattle.cnf_base.specs.Truth.{AreClausesOf, is_literal_of}
use Rattle.text_scan.specs.Items.{Items, the_end, too_long, next_word}
use Rattle.dimacs_reader.specs.Cnf.{literals_of, max_literals, with_number, with_read}
use Rattle.cube_text.specs.declared.error.CubeKind.{CubeKind}
use Rattle.cube_text.specs.declared.error.CubeKind.TheVariants.{BothSigns, LiteralRange, Limit, NoEndingZero}
use Rattle.cube_text.specs.CubeText.{AreCubes, CubeText, cubes, refusal, cubes_of, judged, max_cubes, offence_of}

-- what a number that offends nothing is
pub record Unoffending (number : ℤ) (draft : Draft) : Type 0 where
  pub open_list : length draft.clauses < max_cubes
  pub room : 0 < nat_abs number → literals_of draft < max_literals
  pub range : nat_abs number ≤ draft.vars
  pub free : 0 < nat_abs number → is_denied number draft.begun ≡ false

four : (many full great denied : Bool) → ◌≡◌ {A = Option CubeKind}
    (if many then Some Limit else if full then Some Limit else if great then Some LiteralRange else if denied then Some BothSigns else None)
    None
    → (many ≡ false) × (full ≡ false) × (great ≡ false) × (denied ≡ false)
four true full great denied e = cc
four false true great denied e = cc
four false false true denied e = cc
four false false false true e = cc
four false false false false e = (refl, refl, refl, refl)

second : (one other : Bool) → one ≡ true → (one && other) ≡ false → other ≡ false
second one other is both = sym (ap (λ b. b && other) is) ∙ both

pub unoffending : (number : ℤ) (draft : Draft) → offence_of (Some number) draft ≡ None → Unoffending number draft
unoffending number draft none =
    let parts = four (nat_le max_cubes (length draft.clauses)) (nat_lt 0 (nat_abs number) && nat_le max_literals (literals_of draft))
    (nat_lt draft.vars (nat_abs number)) (nat_lt 0 (nat_abs number) && is_denied number draft.begun) none in
    record {
      open_list = leb-false max_cubes (length draft.clauses) parts.0;
      room = λ some. leb-false max_literals (literals_of draft)
          (second (nat_lt 0 (nat_abs number)) (nat_le max_literals (literals_of draft)) (lt-ltb 0 (nat_abs number) some) parts.1);
      range = ltb-false draft.vars (nat_abs number) parts.2;
      free = λ some. second (nat_lt 0 (nat_abs number)) (is_denied number draft.begun) (lt-ltb 0 (nat_abs number) some) parts.3;
    }

-- a literal more denies none of those before it where it isn't denied by them
negated_twice : (x : ℤ) → neg_ℤ (neg_ℤ x) ≡ x
negated_twice (pos zero) = refl
negated_twice (pos (suc n)) = refl
negated_twice (negsuc n) = refl

turned : (x y : ℤ) → int_eq (neg_ℤ x) y ≡ int_eq (neg_ℤ y) x
turned x y = elim (int_eq (neg_ℤ x) y) as (λ b. int_eq (neg_ℤ x) y ≡ b → b ≡ int_eq (neg_ℤ y) x) [
  | true ↦ λ e. sym ((Decides-int_eq (neg_ℤ y) x).1 (ap neg_ℤ (sym ((Decides-int_eq (neg_ℤ x) y).0 e)) ∙ negated_twice x))
  | false ↦ λ e. elim (int_eq (neg_ℤ y) x) as (λ b. int_eq (neg_ℤ y) x ≡ b → false ≡ b) [
    | true ↦ λ d. sym e ∙ (Decides-int_eq (neg_ℤ x) y).1 (ap neg_ℤ (sym ((Decides-int_eq (neg_ℤ y) x).0 d)) ∙ negated_twice y)
    | false ↦ λ d. refl
  ] refl
] refl

or_false : (a : Bool) → (a || false) ≡ a
or_false true = refl
or_false false = refl

still : (y : ℤ) (all some : List ℤ) → is_denied y some ≡ false → list_all (λ x. not (is_denied x all)) some ≡ true
    → list_all (λ x. not (is_denied x (all ++ y ∷ []))) some ≡ true
still y all [] free each = refl
still y all (x ∷ some) free each =
    let apart = or_parts (int_eq (neg_ℤ y) x) (list_any (int_eq (neg_ℤ y)) some) free in
    let parts = and_parts (not (is_denied x all)) (list_all (λ z. not (is_denied z all)) some) each in
    and_from (not (is_denied x (all ++ y ∷ []))) (list_all (λ z. not (is_denied z (all ++ y ∷ []))) some)
    (ap not (list_any-append (int_eq (neg_ℤ x)) all (y ∷ [])
    ∙ ap (λ b. is_denied x all || (b || false)) (turned x y ∙ apart.0) ∙ or_false (is_denied x all)) ∙ parts.0)
    (still y all some apart.1 parts.1)

itself : (y : ℤ) → 0 < nat_abs y → int_eq (neg_ℤ y) y ≡ false
itself (pos zero) some = absurd (omega (arith, some))
itself (pos (suc n)) some = refl
itself (negsuc n) some = refl

pub one_more_literal : (y : ℤ) (cube : List ℤ) → 0 < nat_abs y → is_denied y cube ≡ false → is_consistent cube ≡ true
    → is_consistent (cube ++ y ∷ []) ≡ true
one_more_literal y cube some free each =
    list_all-append (λ x. not (is_denied x (cube ++ y ∷ []))) cube (y ∷ [])
    ∙ and_from (list_all (λ x. not (is_denied x (cube ++ y ∷ []))) cube) (not (is_denied y (cube ++ y ∷ [])) && true)
    (still y cube cube free each)
    (and_from (not (is_denied y (cube ++ y ∷ []))) true
    (ap not (list_any-append (int_eq (neg_ℤ y)) cube (y ∷ [])
    ∙ ap (λ b. is_denied y cube || (b || false)) (itself y some) ∙ or_false (is_denied y cube) ∙ free)) refl)

-- the law of the texts: what is read as cubes is such
pub record AreGood (draft : Draft) : Type 0 where
  pub literals : AreClausesOf draft.vars draft.clauses
  pub begun : list_all (is_literal_of draft.vars) draft.begun ≡ true
  pub consistent : list_all is_consistent draft.clauses ≡ true
  pub begun_consistent : is_consistent draft.begun ≡ true

of_vars : (vars : ℕ) (x : ℤ) → 0 < nat_abs x → nat_abs x ≤ vars → is_literal_of vars x ≡ true
of_vars vars x some range = and_from (nat_lt 0 (nat_abs x)) (nat_le (nat_abs x) vars) (lt-ltb 0 (nat_abs x) some) (le-leb (nat_abs x) vars
    range)

pub one_more_clause : (test : List ℤ → Bool) (clauses : List (List ℤ)) (clause : List ℤ) → list_all test clauses ≡ true
    → test clause ≡ true → list_all test (clauses ++ clause ∷ []) ≡ true
one_more_clause test clauses clause each is = list_all-append test clauses (clause ∷ [])
    ∙ and_from (list_all test clauses) (test clause && true) each (and_from (test clause) true is refl)

good_number : (number : ℤ) (draft : Draft) → offence_of (Some number) draft ≡ None → AreGood draft → AreGood (with_number number draft)
good_number number draft none good = by number (unoffending number draft none)
  where
    more : (x : ℤ) → 0 < nat_abs x → nat_abs x ≤ draft.vars → list_all (is_literal_of draft.vars) (draft.begun ++ x ∷ []) ≡ true
    more x some range = list_all-append (is_literal_of draft.vars) draft.begun (x ∷ [])
        ∙ and_from (list_all (is_literal_of draft.vars) draft.begun) (is_literal_of draft.vars x && true) good.begun
        (and_from (is_literal_of draft.vars x) true (of_vars draft.vars x some range) refl)

    by : (x : ℤ) → Unoffending x draft → AreGood (with_number x draft)
    by (pos zero) is = record {
      literals = one_more_clause (list_all (is_literal_of draft.vars)) draft.clauses draft.begun good.literals good.begun;
      begun = refl;
      consistent = one_more_clause is_consistent draft.clauses draft.begun good.consistent good.begun_consistent;
      begun_consistent = refl;
    }
    by (pos (suc n)) is = record {
      literals = good.literals;
      begun = more (pos (suc n)) (omega arith) is.range;
      consistent = good.consistent;
      begun_consistent = one_more_literal (pos (suc n)) draft.begun (omega arith) (is.free (omega arith)) good.begun_consistent;
    }
    by (negsuc n) is = record {
      literals = good.literals;
      begun = more (negsuc n) (omega arith) is.range;
      consistent = good.consistent;
      begun_consistent = one_more_literal (negsuc n) draft.begun (omega arith) (is.free (omega arith)) good.begun_consistent;
    }

number_vars : (number : ℤ) (draft : Draft) → (with_number number draft).vars ≡ draft.vars
number_vars (pos zero) draft = refl
number_vars (pos (suc n)) draft = refl
number_vars (negsuc n) draft = refl

read_vars : (number : Option ℤ) (draft : Draft) → (with_read number draft).vars ≡ draft.vars
read_vars None draft = refl
read_vars (Some number) draft = number_vars number draft

pub same_vars : (number : Option ℤ) (draft new : Draft) → new ≡ with_read number draft → new.vars ≡ draft.vars
same_vars number draft new is = ap (λ (d : Draft). d.vars) is ∙ read_vars number draft

good_read : (number : Option ℤ) (draft : Draft) → offence_of number draft ≡ None → AreGood draft
    → AreGood (with_read number draft) × ((with_read number draft).vars ≡ draft.vars)
good_read None draft none good = cc
good_read (Some number) draft none good = (good_number number draft none good, number_vars number draft)

unrefused : (offence : Option CubeKind) (line : ℕ) (more : CubeText) (all : List (List ℤ)) → judged offence line more ≡ cubes all
    → (offence ≡ None) × (more ≡ cubes all)
unrefused (Some kind) line more all h = cc
unrefused None line more all h = (refl, h)

ended : (b : Bool) (line : ℕ) (clauses all : List (List ℤ)) → (if b then refusal NoEndingZero line else cubes clauses) ≡ cubes all
    → clauses ≡ all
ended true line clauses all h = cc
ended false line clauses all h = cc

pub text_is_cubes : (items : Items) (vars : ℕ) (draft : Draft) (all : List (List ℤ)) → draft.vars ≡ vars → AreGood draft
    → cubes_of items draft ≡ cubes all → AreCubes vars all
text_is_cubes (the_end line) vars draft all same good h =
    subst (AreCubes vars) (ended (nat_lt 0 (length draft.begun)) line draft.clauses all h)
    (record { literals = subst (λ (n : ℕ). AreClausesOf n draft.clauses) same good.literals; consistent = good.consistent })
text_is_cubes (too_long line) vars draft all same good h = cc
text_is_cubes (next_word word items) vars draft all same good h =
    let is = unrefused (offence_of (signed_number word.bytes) draft) word.line
    (cubes_of items (with_read (signed_number word.bytes) draft)) all h in
    let next = good_read (signed_number word.bytes) draft is.0 good in
    text_is_cubes items vars (with_read (signed_number word.bytes) draft) all (next.1 ∙ same) next.0 is.1
