-- Admissible plans: the terms that they stack say what the formula says, up to values for the quantified variables.
use Rattle.std.proofs.Common.{◌≡◌, ℕ, zero, suc, ◌-◌, ◌<◌, ◌≤◌, Bool, true, false, not, ◌&&◌, ◌||◌, ℤ, pos, negsuc, nat_abs, List, [], ◌∷◌}
use Rattle.std.proofs.Common.{length, Option, None, Some, refl, sym, ap, ap₂, ◌∙◌, subst, arith, inl, inr, eq-eqb, eqb-true}
use Rattle.std.specs.Prelude.{if◌then◌else◌, slice_index_or, nat_lt, nat_le, ◌==◌}
use Rattle.std.specs.List.{list_any, list_all}
use Rattle.std.specs.Option.{option_and_then}
use Rattle.std.proofs.lemmas.Bool.{or_parts, or_cases, or_left, or_right, or_from, and_parts, and_from, cases_eq, not-true}
use Rattle.cnf_base.specs.Truth.{Assignment, AreClausesOf, Satisfies, clause_holds, is_literal_of, literal_holds, with_value}
use Rattle.cnf_base.specs.Formula.{Formula}
use Rattle.schedule_plan.specs.declared.plan.Move.{Move}
use Rattle.schedule_plan.specs.declared.plan.Move.TheVariants.{Push, And, Exists, ExistsAll}
use Rattle.schedule_plan.specs.Plan.{Term, input, both, some_value, Stage, IsAdmissible, after_move, after_moves, after_push, after_and}
use Rattle.schedule_plan.specs.Plan.{after_all, after_exists, clause_has, clause_of_number, holds_later, is_pushed, no_stage, term_has}
use Rattle.schedule_plan.specs.Plan.{term_holds}
use Rattle.term_runner.specs.Recovered.{set_all_back, set_back, stack_holds}
use Rattle.bdd_terms.proofs.Inputs.{at_each}

-- Truth depends on the variables that are held, and on no other.
-- two assignments agree at the variables that pass a test
abbrev AgreeAt : (ℕ → Bool) → Assignment → Assignment → Type 0
AgreeAt test a b = (variable : ℕ) → test variable ≡ true → a variable ≡ b variable

same_literal : (a b : Assignment) (literal : ℤ) → a (nat_abs literal) ≡ b (nat_abs literal) → literal_holds a literal
    ≡ literal_holds b literal
same_literal a b (pos n) agree = agree
same_literal a b (negsuc n) agree = ap not agree

same_clause : (a b : Assignment) (clause : List ℤ) → AgreeAt (λ x. clause_has x clause) a b → clause_holds a clause ≡ clause_holds b clause
same_clause a b [] agree = refl
same_clause a b (literal ∷ more) agree =
    ap₂ (λ one other. one || other)
    (same_literal a b literal (agree (nat_abs literal) (or_left (nat_abs literal == nat_abs literal) _
    (eq-eqb (nat_abs literal) (nat_abs literal) refl))))
    (same_clause a b more (λ x has. agree x (or_right (nat_abs literal == x) _ has)))

-- agreeing assignments agree with a value set in both, also at that variable
with_same : (test : ℕ → Bool) (a b : Assignment) (y : ℕ) (value : Bool) → AgreeAt (λ x. test x && not (x == y)) a b
    → AgreeAt test (with_value a y value) (with_value b y value)
with_same test a b y value agree x has = go (x == y) refl
  where
    go : (same : Bool) → (x == y) ≡ same → (if same then value else a x) ≡ (if same then value else b x)
    go true at = refl
    go false at = agree x (and_from (test x) _ has (ap not at))

same_term : (formula : Formula) (term : Term) (a b : Assignment) → AgreeAt (λ x. term_has formula x term) a b → term_holds formula a term
    ≡ term_holds formula b term
same_term formula (input i) a b agree = same_clause a b (clause_of_number formula i) agree
same_term formula (both one other) a b agree =
    ap₂ (λ first second. first && second)
    (same_term formula one a b (λ x has. agree x (or_left (term_has formula x one) _ has)))
    (same_term formula other a b (λ x has. agree x (or_right (term_has formula x one) _ has)))
same_term formula (some_value y term) a b agree =
    ap₂ (λ first second. first || second)
    (same_term formula term (with_value a y true) (with_value b y true) (with_same (λ x. term_has formula x term) a b y true agree))
    (same_term formula term (with_value a y false) (with_value b y false) (with_same (λ x. term_has formula x term) a b y false agree))

-- a value set where a test fails leaves an assignment as it is where the test passes
set_elsewhere : (test : ℕ → Bool) (a : Assignment) (x : ℕ) (value : Bool) → test x ≡ false → AgreeAt test (with_value a x value) a
set_elsewhere test a x value lacks y has = go (y == x) refl
  where
    go : (same : Bool) → (y == x) ≡ same → (if same then value else a y) ≡ a y
    go true at = absurd (let e : true ≡ false = sym has ∙ ap test (eqb-true y x at) ∙ lacks in cc)
    go false at = refl

-- a variable's own value set changes nothing
set_own : (a : Assignment) (x : ℕ) (value : Bool) → a x ≡ value → (y : ℕ) → with_value a x value y ≡ a y
set_own a x value own y = go (y == x) refl
  where
    go : (same : Bool) → (y == x) ≡ same → (if same then value else a y) ≡ a y
    go true at = sym own ∙ ap a (sym (eqb-true y x at))
    go false at = refl

-- stacked terms don't change with a variable that none of them holds
stack_without : (formula : Formula) (a : Assignment) (x : ℕ) (value : Bool) (stack : List Term) → list_any (term_has formula x) stack
    ≡ false
    → stack_holds formula (with_value a x value) stack ≡ stack_holds formula a stack
stack_without formula a x value [] lacks = refl
stack_without formula a x value (term ∷ stack) lacks =
    let parts = or_parts (term_has formula x term) _ lacks in
    ap₂ (λ first second. first && second) (same_term formula term (with_value a x value) a
    (set_elsewhere (λ y. term_has formula y term) a x value parts.0)) (stack_without formula a x value stack parts.1)

-- literals of a formula are of variables above 0
held_above : (vars : ℕ) (clause : List ℤ) → list_all (is_literal_of vars) clause ≡ true → (x : ℕ) → clause_has x clause ≡ true → 0 < x
held_above vars [] literals x has = cc
held_above vars (literal ∷ more) literals x has =
    let parts = and_parts (is_literal_of vars literal) _ literals in
    elim (or_cases (nat_abs literal == x) _ has) [
      | inl same ↦ grind (arith, same, (and_parts (nat_lt 0 (nat_abs literal)) _ parts.0).0)
      | inr later ↦ held_above vars more parts.1 x later
    ]

-- whether clauses are satisfied depends on the variables above 0 alone
pub satisfied_alike : (vars : ℕ) (clauses : List (List ℤ)) → AreClausesOf vars clauses → (a b : Assignment)
    → ((variable : ℕ) → 0 < variable → a variable ≡ b variable) → Satisfies a clauses → Satisfies b clauses
satisfied_alike vars [] literals a b agree satisfied = satisfied
satisfied_alike vars (clause ∷ more) literals a b agree satisfied =
    let own = and_parts (list_all (is_literal_of vars) clause) _ literals in
    let parts = and_parts (clause_holds a clause) _ satisfied in
    and_from (clause_holds b clause) _ (sym (same_clause a b clause (λ x has. agree x (held_above vars clause own.0 x has)))
    ∙ parts.0) (satisfied_alike vars more own.1 a b agree parts.1)

-- What each move needs, and what it gives.
pub inside : (s t : Stage) → Some s ≡ Some t → s ≡ t
inside s t e = cc

-- moves that are possible, the first one and those behind it
pub record IsFirst (formula : Formula) (stage last : Stage) (move : Move) (moves : List Move) : Type 0 where
  pub later : Stage
  pub taken : after_move formula stage move ≡ Some later
  pub rest : after_moves formula later moves ≡ Some last

pub first_of_moves : (formula : Formula) (stage last : Stage) (move : Move) (moves : List Move) → after_moves formula stage (move ∷ moves)
    ≡ Some last → IsFirst formula stage last move moves
first_of_moves formula stage last move moves is = go (after_move formula stage move) refl is
  where
    go : (o : Option Stage) → after_move formula stage move ≡ o → option_and_then (λ later. after_moves formula later moves) o ≡ Some last
        → IsFirst formula stage last move moves
    go None at e = cc
    go (Some later) at e = record { later = later; taken = at; rest = e }

-- variables of a set that are quantified in turn, the first one and those behind it
pub record IsFirstOfSet (formula : Formula) (stage next : Stage) (x : ℕ) (xs : List ℕ) : Type 0 where
  pub later : Stage
  pub taken : after_exists formula stage x stage.stack ≡ Some later
  pub rest : after_all formula later xs ≡ Some next

pub first_of_set : (formula : Formula) (stage next : Stage) (x : ℕ) (xs : List ℕ) → after_all formula stage (x ∷ xs) ≡ Some next
    → IsFirstOfSet formula stage next x xs
first_of_set formula stage next x xs is = go (after_exists formula stage x stage.stack) refl is
  where
    go : (o : Option Stage) → after_exists formula stage x stage.stack ≡ o → option_and_then (λ later. after_all formula later xs) o
        ≡ Some next → IsFirstOfSet formula stage next x xs
    go None at e = cc
    go (Some later) at e = record { later = later; taken = at; rest = e }

-- what each of them keeps a set keeps
pub through_set : (P : Stage → Type 0) (formula : Formula)
    → ((stage next : Stage) (x : ℕ) → after_exists formula stage x stage.stack ≡ Some next → P stage → P next)
    → (xs : List ℕ) (stage next : Stage) → after_all formula stage xs ≡ Some next → P stage → P next
through_set P formula each [] stage next is own = subst P (inside stage next is) own
through_set P formula each (x ∷ xs) stage next is own =
    let first = first_of_set formula stage next x xs is in
    through_set P formula each xs first.later next first.rest (each stage first.later x first.taken own)

pub pushed_of : (formula : Formula) (stage next : Stage) (i : ℕ) → after_push formula stage i ≡ Some next
    → (0 < i) × (i ≤ length formula.clauses) × (next ≡ record {
      stack = input i ∷ stage.stack;
      pushed = i
          ∷ stage.pushed;
      trail = stage.trail;
    })
pushed_of formula stage next i is = go (nat_lt 0 i && nat_le i (length formula.clauses) && not (is_pushed stage.pushed i)) refl is
  where
    possible : Bool
    possible = nat_lt 0 i && nat_le i (length formula.clauses) && not (is_pushed stage.pushed i)

    go : (b : Bool) → possible ≡ b
        → (if b then Some (record { stack = input i ∷ stage.stack; pushed = i ∷ stage.pushed; trail = stage.trail }) else None) ≡ Some next
        → (0 < i) × (i ≤ length formula.clauses) × (next ≡ record {
          stack = input i ∷ stage.stack;
          pushed = i
              ∷ stage.pushed;
          trail = stage.trail;
        })
    go true can e =
        let first = and_parts (nat_lt 0 i && nat_le i (length formula.clauses)) _ can in
        let range = and_parts (nat_lt 0 i) _ first.0 in
        (grind (arith, range.0), grind (arith, range.1), sym (inside _ next e))
    go false can e = cc

-- a conjunction says what both terms say, and leaves the rest
record IsAfterAnd (formula : Formula) (stage next : Stage) (stack : List Term) : Type 0 where
  same : (a : Assignment) → stack_holds formula a next.stack ≡ stack_holds formula a stack
  pushed : next.pushed ≡ stage.pushed
  trail : next.trail ≡ stage.trail

conjoined_of : (formula : Formula) (stage next : Stage) (stack : List Term) → after_and stage stack ≡ Some next
    → IsAfterAnd formula stage next stack
conjoined_of formula stage next [] is = cc
conjoined_of formula stage next (top ∷ []) is = cc
conjoined_of formula stage next (top ∷ below ∷ rest) is =
    subst (λ (n : Stage). IsAfterAnd formula stage n (top ∷ below ∷ rest)) (inside _ next is)
    (record {
      same = λ a. swap (term_holds formula a below) (term_holds formula a top) (stack_holds formula a rest);
      pushed = refl;
      trail = refl;
    })
  where
    swap : (b t r : Bool) → ((b && t) && r) ≡ (t && (b && r))
    swap true true r = refl
    swap true false r = refl
    swap false true r = refl
    swap false false r = refl

-- a quantification needs a variable that no other term and no clause to come holds
pub record IsAfterExists (formula : Formula) (stage next : Stage) (x : ℕ) (stack : List Term) : Type 0 where
  pub top : Term
  pub rest : List Term
  pub stacked : stack ≡ top ∷ rest
  pub above : 0 < x
  pub within : x ≤ formula.vars
  pub lacked : list_any (term_has formula x) rest ≡ false
  pub not_later : holds_later formula stage.pushed x (length formula.clauses) ≡ false
  pub after : next ≡ record { stack = some_value x top ∷ rest; pushed = stage.pushed; trail = (x, top) ∷ stage.trail }

pub quantified_of : (formula : Formula) (stage next : Stage) (x : ℕ) (stack : List Term) → after_exists formula stage x stack ≡ Some next
    → IsAfterExists formula stage next x stack
quantified_of formula stage next x [] is = cc
quantified_of formula stage next x (top ∷ rest) is = go possible refl is
  where
    lacks : Bool
    lacks = not (list_any (term_has formula x) rest)

    comes : Bool
    comes = not (holds_later formula stage.pushed x (length formula.clauses))

    possible : Bool
    possible = nat_lt 0 x && nat_le x formula.vars && lacks && comes

    given : Stage
    given = record { stack = some_value x top ∷ rest; pushed = stage.pushed; trail = (x, top) ∷ stage.trail }

    go : (b : Bool) → possible ≡ b → (if b then Some given else None) ≡ Some next → IsAfterExists formula stage next x (top ∷ rest)
    go true can e =
        let third = and_parts (nat_lt 0 x && nat_le x formula.vars && lacks) comes can in
        let second = and_parts (nat_lt 0 x && nat_le x formula.vars) lacks third.0 in
        let first = and_parts (nat_lt 0 x) _ second.0 in
        record {
          top = top;
          rest = rest;
          stacked = refl;
          above = grind (arith, first.0);
          within = grind (arith, first.1);
          lacked = not-true _ second.1;
          not_later = not-true _ third.1;
          after = sym (inside given next e);
        }
    go false can e = cc

-- Backwards: what a satisfying assignment becomes where the quantified variables are set back.
-- the stacked terms are true, and so are the clauses that aren't pushed yet
record AreTrue (formula : Formula) (a : Assignment) (stack : List Term) (pushed : List ℕ) : Type 0 where
  stacked : stack_holds formula a stack ≡ true
  to_come : (i : ℕ) → 0 < i → i ≤ length formula.clauses → is_pushed pushed i ≡ false → clause_holds a (clause_of_number formula i) ≡ true

-- an assignment before some moves, of one that is behind them
record IsBefore (formula : Formula) (stage last : Stage) (a : Assignment) : Type 0 where
  assignment : Assignment
  are_true : AreTrue formula assignment stage.stack stage.pushed
  set_back_to : set_all_back formula a last.trail ≡ set_all_back formula assignment stage.trail

before_push : (formula : Formula) (a : Assignment) (stack : List Term) (pushed : List ℕ) (i : ℕ)
    → AreTrue formula a (input i ∷ stack) (i ∷ pushed) → AreTrue formula a stack pushed
before_push formula a stack pushed i true_of = record {
  stacked = parts.1;
  to_come = λ j some small lacks. go j some small lacks (i == j) refl;
}
  where
    parts : (clause_holds a (clause_of_number formula i) ≡ true) × (stack_holds formula a stack ≡ true)
    parts = and_parts (clause_holds a (clause_of_number formula i)) _ true_of.stacked

    go : (j : ℕ) → 0 < j → j ≤ length formula.clauses → is_pushed pushed j ≡ false → (same : Bool) → (i == j) ≡ same
        → clause_holds a (clause_of_number formula j) ≡ true
    go j some small lacks true at = subst (λ (k : ℕ). clause_holds a (clause_of_number formula k) ≡ true) (eqb-true i j at) parts.0
    go j some small lacks false at = true_of.to_come j some small (or_from (i == j) _ at lacks)

-- the value that is set back makes the term true that was quantified
chosen : (formula : Formula) (a : Assignment) (x : ℕ) (term : Term) → term_holds formula a (some_value x term) ≡ true
    → term_holds formula (set_back formula a (x, term)) term ≡ true
chosen formula a x term some = go (term_holds formula (with_value a x false) term) refl
  where
    go : (low : Bool) → term_holds formula (with_value a x false) term ≡ low → term_holds formula (with_value a x (not low)) term ≡ true
    go true at = at
    go false at =
        elim (or_cases (term_holds formula (with_value a x true) term) _ some) [
          | inl high ↦ high
          | inr other ↦ absurd (let e : true ≡ false = sym other ∙ at in cc)
        ]

-- no clause to come holds a variable that is quantified
lacked_later : (formula : Formula) (pushed : List ℕ) (x n : ℕ) → holds_later formula pushed x n ≡ false → (i : ℕ) → 0 < i → i ≤ n
    → is_pushed pushed i ≡ false → clause_has x (clause_of_number formula i) ≡ false
lacked_later formula pushed x zero none i some small lacks = absurd (omega (arith, some, small))
lacked_later formula pushed x (suc n) none i some small lacks =
    let parts = or_parts (not (is_pushed pushed (suc n)) && clause_has x (clause_of_number formula (suc n))) _ none in
    elim (cases_eq i (suc n)) [
      | inl same ↦ subst (λ (k : ℕ). clause_has x (clause_of_number formula k)
          ≡ false) (sym same) (sym (ap (λ b. not b && clause_has x (clause_of_number formula (suc n))) (ap (is_pushed pushed) (sym same)
          ∙ lacks)) ∙ parts.0)
      | inr differ ↦ lacked_later formula pushed x n parts.1 i some (omega (arith, small, differ)) lacks
    ]

before_exists : (formula : Formula) (a : Assignment) (x : ℕ) (top : Term) (rest : List Term) (pushed : List ℕ)
    → list_any (term_has formula x) rest ≡ false → holds_later formula pushed x (length formula.clauses) ≡ false
    → AreTrue formula a (some_value x top ∷ rest) pushed → AreTrue formula (set_back formula a (x, top)) (top ∷ rest) pushed
before_exists formula a x top rest pushed lacked not_later true_of = record {
  stacked =
      and_from (term_holds formula (set_back formula a (x, top)) top) _ (chosen formula a x top parts.0)
      (stack_without formula a x value rest lacked ∙ parts.1);
  to_come = λ i some small lacks.
      same_clause (with_value a x value) a (clause_of_number formula i)
      (set_elsewhere (λ y. clause_has y (clause_of_number formula i)) a x value
      (lacked_later formula pushed x (length formula.clauses) not_later i some small lacks))
      ∙ true_of.to_come i some small lacks;
}
  where
    value : Bool
    value = not (term_holds formula (with_value a x false) top)

    parts : (term_holds formula a (some_value x top) ≡ true) × (stack_holds formula a rest ≡ true)
    parts = and_parts (term_holds formula a (some_value x top)) _ true_of.stacked

before_one : (formula : Formula) (stage next : Stage) (x : ℕ) → after_exists formula stage x stage.stack ≡ Some next → (a : Assignment)
    → AreTrue formula a next.stack next.pushed → IsBefore formula stage next a
before_one formula stage next x is a true_of =
    let given = quantified_of formula stage next x stage.stack is in
    record {
      assignment = set_back formula a (x, given.top);
      are_true = subst (λ (stack : List Term). AreTrue formula (set_back formula a (x, given.top)) stack stage.pushed) (sym given.stacked)
          (before_exists formula a x given.top given.rest stage.pushed given.lacked given.not_later
          (subst (λ (s : Stage). AreTrue formula a s.stack s.pushed) given.after true_of));
      set_back_to = ap (λ (s : Stage). set_all_back formula a s.trail) given.after;
    }

before_set : (formula : Formula) (xs : List ℕ) (stage next : Stage) → after_all formula stage xs ≡ Some next → (a : Assignment)
    → AreTrue formula a next.stack next.pushed → IsBefore formula stage next a
before_set formula [] stage next is a true_of =
    subst (λ (s : Stage). IsBefore formula s next a) (sym (inside stage next is))
    (record { assignment = a; are_true = true_of; set_back_to = refl })
before_set formula (x ∷ xs) stage next is a true_of =
    let first = first_of_set formula stage next x xs is in
    let behind = before_set formula xs first.later next first.rest a true_of in
    let here = before_one formula stage first.later x first.taken behind.assignment behind.are_true in
    record { assignment = here.assignment; are_true = here.are_true; set_back_to = behind.set_back_to ∙ here.set_back_to }

before_move : (formula : Formula) (stage next : Stage) (move : Move) → after_move formula stage move ≡ Some next → (a : Assignment)
    → AreTrue formula a next.stack next.pushed → IsBefore formula stage next a
before_move formula stage next (Push i) is a true_of =
    let given = (pushed_of formula stage next i is).2 in
    record {
      assignment = a;
      are_true = before_push formula a stage.stack stage.pushed i (subst (λ (s : Stage). AreTrue formula a s.stack s.pushed) given true_of);
      set_back_to = ap (λ (s : Stage). set_all_back formula a s.trail) given;
    }
before_move formula stage next And is a true_of =
    let given = conjoined_of formula stage next stage.stack is in
    record {
      assignment = a;
      are_true = record {
        stacked = sym (given.same a) ∙ true_of.stacked;
        to_come = subst (λ (pushed : List ℕ). (i : ℕ) → 0 < i → i ≤ length formula.clauses → is_pushed pushed i ≡ false
            → clause_holds a (clause_of_number formula i) ≡ true) given.pushed true_of.to_come;
      };
      set_back_to = ap (set_all_back formula a) given.trail;
    }
before_move formula stage next (Exists x) is a true_of = before_one formula stage next x is a true_of
before_move formula stage next (ExistsAll xs) is a true_of = before_set formula xs stage next is a true_of

before_moves : (formula : Formula) (moves : List Move) (stage last : Stage) → after_moves formula stage moves ≡ Some last → (a : Assignment)
    → AreTrue formula a last.stack last.pushed → IsBefore formula stage last a
before_moves formula [] stage last is a true_of =
    subst (λ (s : Stage). IsBefore formula s last a) (sym (inside stage last is))
    (record { assignment = a; are_true = true_of; set_back_to = refl })
before_moves formula (move ∷ moves) stage last is a true_of =
    let first = first_of_moves formula stage last move moves is in
    let behind = before_moves formula moves first.later last first.rest a true_of in
    let here = before_move formula stage first.later move first.taken behind.assignment behind.are_true in
    record { assignment = here.assignment; are_true = here.are_true; set_back_to = behind.set_back_to ∙ here.set_back_to }

all_from : (test : List ℤ → Bool) (clauses : List (List ℤ)) → ((i : ℕ) → i < length clauses → test (slice_index_or clauses i []) ≡ true)
    → list_all test clauses ≡ true
all_from test [] each = refl
all_from test (clause ∷ more) each = and_from (test clause) _ (each 0 (omega arith))
    (all_from test more (λ i small. each (suc i) (omega (arith, small))))

-- where the stacked terms are true at a plan's end, the formula is satisfied once the quantified variables are set back
pub satisfied_by_recovered : (formula : Formula) (moves : List Move) (plan : IsAdmissible formula moves) (a : Assignment)
    → stack_holds formula a plan.last.stack ≡ true
    → Satisfies (set_all_back formula a plan.last.trail) formula.clauses
satisfied_by_recovered formula moves plan a holds =
    subst (λ (b : Assignment). Satisfies b formula.clauses) (sym first.set_back_to)
    (all_from (clause_holds first.assignment) formula.clauses (λ i small. subst
    (λ (k : ℕ). clause_holds first.assignment (slice_index_or formula.clauses k [])
    ≡ true) (one_less i) (first.are_true.to_come (suc i) (omega arith) (omega (arith, small)) refl)))
  where
    first : IsBefore formula no_stage plan.last a
    first = before_moves formula moves no_stage plan.last plan.possible a
        (record {
          stacked = holds;
          to_come = λ i some small lacks. absurd (let e : true ≡ false = sym (plan.all_pushed i some small)
              ∙ lacks in cc);
        })

    one_less : (i : ℕ) → suc i - 1 ≡ i
    one_less i = omega arith

-- Forwards: where all clauses hold, so do the stacked terms.
abbrev pub AllHold : Formula → Assignment → Type 0
AllHold formula a = (i : ℕ) → 0 < i → i ≤ length formula.clauses → clause_holds a (clause_of_number formula i) ≡ true

-- a variable's own value makes a quantified term true where the term is
some_of_own : (formula : Formula) (a : Assignment) (x : ℕ) (term : Term) → term_holds formula a term ≡ true
    → term_holds formula a (some_value x term) ≡ true
some_of_own formula a x term holds = go (a x) refl
  where
    same : (value : Bool) → a x ≡ value → term_holds formula (with_value a x value) term ≡ true
    same value own = same_term formula term (with_value a x value) a (λ y has. set_own a x value own y) ∙ holds

    go : (value : Bool) → a x ≡ value → term_holds formula a (some_value x term) ≡ true
    go true own = or_left (term_holds formula (with_value a x true) term) _ (same true own)
    go false own = or_right (term_holds formula (with_value a x true) term) _ (same false own)

pub true_after_one : (formula : Formula) (a : Assignment) (stage next : Stage) (x : ℕ)
    → after_exists formula stage x stage.stack ≡ Some next → stack_holds formula a stage.stack ≡ true
    → stack_holds formula a next.stack ≡ true
true_after_one formula a stage next x is holds =
    let given = quantified_of formula stage next x stage.stack is in
    let parts = and_parts (term_holds formula a given.top) _ (sym (ap (stack_holds formula a) given.stacked) ∙ holds) in
    ap (λ (s : Stage). stack_holds formula a s.stack) given.after
    ∙ and_from (term_holds formula a (some_value x given.top)) _ (some_of_own formula a x given.top parts.0) parts.1

pub true_after : (formula : Formula) (a : Assignment) → AllHold formula a → (stage next : Stage) (move : Move)
    → stack_holds formula a stage.stack ≡ true → after_move formula stage move ≡ Some next
    → stack_holds formula a next.stack ≡ true
true_after formula a all stage next (Push i) holds is =
    let pushed = pushed_of formula stage next i is in
    ap (λ (s : Stage). stack_holds formula a s.stack) pushed.2 ∙ and_from (clause_holds a (clause_of_number formula i)) _
    (all i pushed.0 pushed.1) holds
true_after formula a all stage next And holds is = (conjoined_of formula stage next stage.stack is).same a ∙ holds
true_after formula a all stage next (Exists x) holds is = true_after_one formula a stage next x is holds
true_after formula a all stage next (ExistsAll xs) holds is =
    through_set (λ (s : Stage). stack_holds formula a s.stack ≡ true) formula (true_after_one formula a) xs stage next is holds

pub true_after_all : (formula : Formula) (a : Assignment) → AllHold formula a → (moves : List Move) (stage last : Stage)
    → stack_holds formula a stage.stack ≡ true
    → after_moves formula stage moves ≡ Some last → stack_holds formula a last.stack ≡ true
true_after_all formula a all [] stage last holds is = subst (λ (s : Stage). stack_holds formula a s.stack
    ≡ true) (inside stage last is) holds
true_after_all formula a all (move ∷ moves) stage last holds is =
    let first = first_of_moves formula stage last move moves is in
    true_after_all formula a all moves first.later last (true_after formula a all stage first.later move holds first.taken) first.rest

pub all_hold : (formula : Formula) (a : Assignment) → Satisfies a formula.clauses → AllHold formula a
all_hold formula a satisfied i some small = at_each (clause_holds a) formula.clauses satisfied (i - 1) (omega (arith, some, small))
