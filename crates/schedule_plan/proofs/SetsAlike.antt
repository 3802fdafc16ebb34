-- Plans that differ in the order and the repetition of their sets' variables are admissible together.
use Rattle.std.proofs.Common.{◌≡◌, ◌∙◌, ◌<◌, ◌≤◌, ◌&&◌, ◌||◌, ◌==◌, ℕ, suc, Bool, true, false, List, [], ◌∷◌, Option, None, Some, length}
use Rattle.std.proofs.Common.{reverse, refl, sym, ap, subst, inl, inr, eq-eqb, ne_eqb}
use Rattle.std.specs.Prelude.{cond, if◌then◌else◌, nat_le, nat_lt, not, slice_index_or}
use Rattle.std.specs.List.{filter, list_all, list_any}
use Rattle.std.specs.Option.{option_and_then}
use Rattle.std.proofs.lemmas.Bool.{and_from, cases_eq, eqb-true, leb-true, ltb-true}
use Rattle.std.proofs.lemmas.List.{reverse-append}
use Rattle.std.proofs.lemmas.List.Folds.{list_any-append, list_any_at}
use Rattle.cnf_base.specs.Formula.{Formula}
use Rattle.cnf_base.specs.Order.{IsOrder}
use Rattle.schedule_plan.specs.declared.plan.Move.{Move}
use Rattle.schedule_plan.specs.declared.plan.Move.TheVariants.{Push, And, Exists, ExistsAll}
use Rattle.schedule_plan.specs.Plan.{IsAdmissible, Stage, Term, after_all, after_and, after_exists, after_move, after_moves, both, holds_later}
use Rattle.schedule_plan.specs.Plan.{input, is_pushed, no_stage, some_value, term_has}
use Rattle.schedule_plan.specs.ScheduleState.{is_among}
use Rattle.schedule_plan.specs.SetMove.{AreAlike, IsAlike, SameSet, SetMoves, falling, in_order, is_set, move_in_order, quantified_by}
use Rattle.schedule_plan.specs.SetMove.{staged, trail_by}
use Rattle.schedule_plan.proofs.SetMoves.{all_after, both_false, is_free, possible_set, refused_behind}

-- Tests over sets.
no_bool : {T : Type 0} → true ≡ false → T
no_bool is = cc

first_true : (a b : Bool) → (a && b) ≡ true → a ≡ true
first_true true b is = refl
first_true false b is = cc

second_true : (a b : Bool) → (a && b) ≡ true → b ≡ true
second_true true b is = is
second_true false b is = cc

later_true : (a b : Bool) → b ≡ true → (a || b) ≡ true
later_true true b is = refl
later_true false b is = is

and_none : (a : Bool) → (a && false) ≡ false
and_none true = refl
and_none false = refl

and_all : (a : Bool) → (a && true) ≡ a
and_all true = refl
and_all false = refl

passes : (p : ℕ → Bool) (ys : List ℕ) (x : ℕ) → list_all p ys ≡ true → is_among ys x ≡ true → p x ≡ true
passes p [] x all among = no_bool (sym among)
passes p (y ∷ ys) x all among = elim (x == y) as (λ b. (x == y) ≡ b → (b || is_among ys x) ≡ true → p x ≡ true) [
  | true ↦ λ is more. subst (λ z. p z ≡ true) (sym (eqb-true x y is)) (first_true (p y) (list_all p ys) all)
  | false ↦ λ is more. passes p ys x (second_true (p y) (list_all p ys) all) more
] refl among

all_of : (p : ℕ → Bool) (xs ys : List ℕ) → ((x : ℕ) → is_among xs x ≡ true → is_among ys x ≡ true) → list_all p ys ≡ true
    → list_all p xs ≡ true
all_of p [] ys within all = refl
all_of p (x ∷ xs) ys within all =
    and_from (p x) (list_all p xs) (passes p ys x all (within x (ap (λ (b : Bool). b || is_among xs x) (eq-eqb x x refl))))
    (all_of p xs ys (λ z among. within z (later_true (z == x) (is_among xs z) among)) all)

same_all : (p : ℕ → Bool) (xs ys : List ℕ) → SameSet xs ys → list_all p xs ≡ list_all p ys
same_all p xs ys same = elim (list_all p ys) as (λ b. list_all p ys ≡ b → list_all p xs ≡ b) [
  | true ↦ λ all. all_of p xs ys (λ x among. sym (same x) ∙ among) all
  | false ↦ λ not_all. elim (list_all p xs) as (λ c. list_all p xs ≡ c → c ≡ false) [
    | true ↦ λ all. no_bool (sym (all_of p ys xs (λ x among. same x ∙ among) all) ∙ not_all)
    | false ↦ λ _. refl
  ] refl
] refl

each_same : (p q : ℕ → Bool) → ((x : ℕ) → p x ≡ q x) → (xs : List ℕ) → list_all p xs ≡ list_all q xs
each_same p q same [] = refl
each_same p q same (x ∷ xs) = ap (λ (b : Bool). b && list_all p xs) (same x) ∙ ap (λ (b : Bool). q x && b) (each_same p q same xs)

none_same : (ys : List ℕ) → SameSet [] ys → ys ≡ []
none_same [] same = refl
none_same (y ∷ ys) same = no_bool (sym (ap (λ (b : Bool). b || is_among ys y) (eq-eqb y y refl)) ∙ sym (same y))

-- Stages with the same clauses pushed, whose terms hold the same variables.
abbrev SameTerms : Formula → List Term → List Term → Type 0
SameTerms formula [] [] = Unit {0}
SameTerms formula [] (t ∷ ts) = ⊥
SameTerms formula (s ∷ ss) [] = ⊥
SameTerms formula (s ∷ ss) (t ∷ ts) = ((x : ℕ) → term_has formula x s ≡ term_has formula x t) × SameTerms formula ss ts

record SameStage (formula : Formula) (one other : Stage) : Type 0 where
  pushed : one.pushed ≡ other.pushed
  terms : SameTerms formula one.stack other.stack

record SameBehind (formula : Formula) (later : Stage) (found : Option Stage) : Type 0 where
  next : Stage
  is : found ≡ Some next
  same : SameStage formula later next

some_is : {a b : Stage} → ◌≡◌ {A = Option Stage} (Some a) (Some b) → a ≡ b
some_is e = cc

none_is_some : {T : Type 0} {b : Stage} → ◌≡◌ {A = Option Stage} None (Some b) → T
none_is_some e = cc

same_any : (formula : Formula) (ss ts : List Term) → SameTerms formula ss ts → (x : ℕ)
    → list_any (term_has formula x) ss ≡ list_any (term_has formula x) ts
same_any formula [] [] are x = refl
same_any formula [] (t ∷ ts) are x = absurd are
same_any formula (s ∷ ss) [] are x = absurd are
same_any formula (s ∷ ss) (t ∷ ts) are x =
    ap (λ (b : Bool). b || list_any (term_has formula x) ss) (are.0 x)
    ∙ ap (λ (b : Bool). term_has formula x t || b) (same_any formula ss ts are.1 x)

same_count : (formula : Formula) (ss ts : List Term) → SameTerms formula ss ts → length ss ≡ length ts
same_count formula [] [] are = refl
same_count formula [] (t ∷ ts) are = absurd are
same_count formula (s ∷ ss) [] are = absurd are
same_count formula (s ∷ ss) (t ∷ ts) are = ap suc (same_count formula ss ts are.1)

kept_if : (formula : Formula) (b c : Bool) (one other later : Stage) → b ≡ c → SameStage formula one other
    → (if b then Some one else None) ≡ Some later → SameBehind formula later (if c then Some other else None)
kept_if formula true c one other later same stages is = record {
  next = other;
  is = ap (λ (d : Bool). if d then Some other else None) (sym same);
  same = subst (λ s. SameStage formula s other) (some_is is) stages;
}
kept_if formula false c one other later same stages is = none_is_some is

-- The moves.
push_same : (formula : Formula) (one other later : Stage) (i : ℕ) → SameStage formula one other → after_move formula one (Push i) ≡ Some later
    → SameBehind formula later (after_move formula other (Push i))
push_same formula one other later i same is =
    kept_if formula (nat_lt 0 i && nat_le i (length formula.clauses) && not (is_pushed one.pushed i))
    (nat_lt 0 i && nat_le i (length formula.clauses) && not (is_pushed other.pushed i))
    (staged (input i ∷ one.stack) (i ∷ one.pushed) one.trail) (staged (input i ∷ other.stack) (i ∷ other.pushed) other.trail) later
    (ap (λ (pushed : List ℕ). nat_lt 0 i && nat_le i (length formula.clauses) && not (is_pushed pushed i)) same.pushed)
    (record { pushed = ap (λ (pushed : List ℕ). i ∷ pushed) same.pushed; terms = ((λ x. refl), same.terms) }) is

and_same : (formula : Formula) (one other later : Stage) (ss ts : List Term) → one.pushed ≡ other.pushed → SameTerms formula ss ts
    → after_and one ss ≡ Some later → SameBehind formula later (after_and other ts)
and_same formula one other later [] ts pushed are is = none_is_some is
and_same formula one other later (top ∷ []) ts pushed are is = none_is_some is
and_same formula one other later (top ∷ below ∷ rest) [] pushed are is = absurd are
and_same formula one other later (top ∷ below ∷ rest) (t ∷ []) pushed are is = absurd are.1
and_same formula one other later (top ∷ below ∷ rest) (t ∷ u ∷ ts) pushed are is = record {
  next = staged (both u t ∷ ts) other.pushed other.trail;
  is = refl;
  same = subst (λ s. SameStage formula s (staged (both u t ∷ ts) other.pushed other.trail)) (some_is is) (record {
    pushed = pushed;
    terms = (
      λ x. ap (λ (b : Bool). b || term_has formula x top) (are.1.0 x) ∙ ap (λ (b : Bool). term_has formula x u || b) (are.0 x),
      are.1.1,
    );
  });
}

not_both : (a b c : Bool) → ((a && not b) && not c) ≡ (a && not (b || c))
not_both true true c = refl
not_both true false c = refl
not_both false true c = refl
not_both false false c = refl

-- a set takes its variables from the term
pub has_by : (formula : Formula) (xs : List ℕ) (top : Term) (x : ℕ)
    → term_has formula x (quantified_by xs top) ≡ (term_has formula x top && not (is_among xs x))
has_by formula [] top x = sym (and_all (term_has formula x top))
has_by formula (y ∷ xs) top x = has_by formula xs (some_value y top) x ∙ not_both (term_has formula x top) (x == y) (is_among xs x)

set_same : (formula : Formula) (xs ys : List ℕ) (ss ts : List Term) (pushed others : List ℕ) (trail kept : List (ℕ × Term)) (later : Stage)
    → SameSet xs ys → pushed ≡ others → SameTerms formula ss ts → after_all formula (staged ss pushed trail) xs ≡ Some later
    → SameBehind formula later (after_all formula (staged ts others kept) ys)
set_same formula [] ys [] [] pushed others trail kept later same pushes are is = record {
  next = staged [] others kept;
  is = ap (after_all formula (staged [] others kept)) (none_same ys same);
  same = subst (λ s. SameStage formula s (staged [] others kept)) (some_is is) (record { pushed = pushes; terms = tt });
}
set_same formula (x ∷ xs) ys [] [] pushed others trail kept later same pushes are is = none_is_some is
set_same formula xs ys [] (t ∷ ts) pushed others trail kept later same pushes are is = absurd are
set_same formula xs ys (top ∷ ss) [] pushed others trail kept later same pushes are is = absurd are
set_same formula xs ys (top ∷ ss) (t ∷ ts) pushed others trail kept later same pushes are is =
    let one = staged (quantified_by xs top ∷ ss) pushed (trail_by xs top trail) in
    let other = staged (quantified_by ys t ∷ ts) others (trail_by ys t kept) in
    let free : (x : ℕ) → is_free formula ss pushed x ≡ is_free formula ts others x =
    λ x. ap (λ (b : Bool). nat_lt 0 x && nat_le x formula.vars && not b && not (holds_later formula pushed x (length formula.clauses)))
    (same_any formula ss ts are.1 x)
    ∙ ap (λ (l : List ℕ). nat_lt 0 x && nat_le x formula.vars && not (list_any (term_has formula x) ts)
    && not (holds_later formula l x (length formula.clauses))) pushes in
    subst (SameBehind formula later) (sym (all_after formula ts others ys t kept))
    (kept_if formula (list_all (is_free formula ss pushed) xs) (list_all (is_free formula ts others) ys) one other later
    (same_all (is_free formula ss pushed) xs ys same ∙ each_same (is_free formula ss pushed) (is_free formula ts others) free ys)
    (record {
      pushed = pushes;
      terms = (
        λ x. has_by formula xs top x ∙ ap (λ (b : Bool). b && not (is_among xs x)) (are.0 x)
            ∙ ap (λ (b : Bool). term_has formula x t && not b) (same x) ∙ sym (has_by formula ys t x),
        are.1,
      );
    })
    (sym (all_after formula ss pushed xs top trail) ∙ is))

whole : (found : Option Stage) → option_and_then (λ (later : Stage). Some later) found ≡ found
whole None = refl
whole (Some later) = refl

move_same : (formula : Formula) (one other later : Stage) (step : Move) → SameStage formula one other → after_move formula one step ≡ Some later
    → SameBehind formula later (after_move formula other step)
move_same formula one other later (Push i) same is = push_same formula one other later i same is
move_same formula one other later And same is = and_same formula one other later one.stack other.stack same.pushed same.terms is
move_same formula one other later (Exists x) same is =
    subst (SameBehind formula later) (whole (after_exists formula other x other.stack))
    (set_same formula (x ∷ []) (x ∷ []) one.stack other.stack one.pushed other.pushed one.trail other.trail later (λ y. refl) same.pushed
    same.terms (whole (after_exists formula one x one.stack) ∙ is))
move_same formula one other later (ExistsAll xs) same is =
    set_same formula xs xs one.stack other.stack one.pushed other.pushed one.trail other.trail later (λ y. refl) same.pushed same.terms is

alike_same : (formula : Formula) (one other later : Stage) (step like : Move) → IsAlike step like → SameStage formula one other
    → after_move formula one step ≡ Some later → SameBehind formula later (after_move formula other like)
alike_same formula one other later step like (inl equal) same is =
    subst (λ (m : Move). SameBehind formula later (after_move formula other m)) equal (move_same formula one other later step same is)
alike_same formula one other later step like (inr sets) same is =
    subst (λ (m : Move). SameBehind formula later (after_move formula other m)) (sym sets.second)
    (set_same formula sets.xs sets.ys one.stack other.stack one.pushed other.pushed one.trail other.trail later sets.same same.pushed same.terms
    (ap (after_move formula one) (sym sets.first) ∙ is))

moves_same : (formula : Formula) (moves likes : List Move) (one other last : Stage) → AreAlike moves likes → SameStage formula one other
    → after_moves formula one moves ≡ Some last → SameBehind formula last (after_moves formula other likes)
moves_same formula [] [] one other last are same is = record {
  next = other;
  is = refl;
  same = subst (λ s. SameStage formula s other) (some_is is) same;
}
moves_same formula [] (like ∷ likes) one other last are same is = absurd are
moves_same formula (step ∷ moves) [] one other last are same is = absurd are
moves_same formula (step ∷ moves) (like ∷ likes) one other last are same is =
    elim (after_move formula one step) as (λ o. after_move formula one step ≡ o
    → option_and_then (λ later. after_moves formula later moves) o ≡ Some last
    → SameBehind formula last (after_moves formula other (like ∷ likes))) [
      | None ↦ λ leads ends. none_is_some ends
      | Some later ↦ λ leads ends.
          let first = alike_same formula one other later step like are.0 same leads in
          let rest = moves_same formula moves likes later first.next last are.1 first.same ends in
          record {
            next = rest.next;
            is = ap (option_and_then (λ (s : Stage). after_moves formula s likes)) first.is ∙ rest.is;
            same = rest.same;
          }
    ] refl is

pub alike_admissible : (formula : Formula) (moves likes : List Move) → AreAlike moves likes → IsAdmissible formula moves
    → IsAdmissible formula likes
alike_admissible formula moves likes are admissible =
    let ends = moves_same formula moves likes no_stage no_stage admissible.last are (record { pushed = refl; terms = tt }) admissible.possible in
    record {
      last = ends.next;
      possible = ends.is;
      all_pushed = λ i positive small. ap (λ (l : List ℕ). is_pushed l i) (sym ends.same.pushed) ∙ admissible.all_pushed i positive small;
      one_term = subst (λ (n : ℕ). n ≤ 1) (same_count formula admissible.last.stack ends.next.stack ends.same.terms) admissible.one_term;
    }

-- The order of the variables.
among_filter : (p : ℕ → Bool) (ys : List ℕ) (x : ℕ) → is_among (filter p ys) x ≡ (is_among ys x && p x)
among_filter p [] x = refl
among_filter p (y ∷ ys) x = elim (cases_eq x y) [
  | inl same ↦
      let at : (x == y) ≡ true = eq-eqb x y same in
      elim (p y) as (λ b. p y ≡ b → is_among (cond b (y ∷ filter p ys) (filter p ys)) x ≡ ((x == y || is_among ys x) && p x)) [
        | true ↦ λ is. ap (λ (b : Bool). b || is_among (filter p ys) x) at
            ∙ sym (ap (λ (b : Bool). (b || is_among ys x) && p x) at ∙ ap p same ∙ is)
        | false ↦ λ is. among_filter p ys x ∙ ap (λ (b : Bool). is_among ys x && b) (ap p same ∙ is) ∙ and_none (is_among ys x)
            ∙ sym (ap (λ (b : Bool). (x == y || is_among ys x) && b) (ap p same ∙ is) ∙ and_none (x == y || is_among ys x))
      ] refl
  | inr differ ↦
      let at : (x == y) ≡ false = ne_eqb x y differ in
      elim (p y) as (λ b. is_among (cond b (y ∷ filter p ys) (filter p ys)) x ≡ ((x == y || is_among ys x) && p x)) [
        | true ↦ ap (λ (b : Bool). b || is_among (filter p ys) x) at ∙ among_filter p ys x
            ∙ sym (ap (λ (b : Bool). (b || is_among ys x) && p x) at)
        | false ↦ among_filter p ys x ∙ sym (ap (λ (b : Bool). (b || is_among ys x) && p x) at)
      ]
]

swapped : (a b : Bool) → (a || b) ≡ (b || a)
swapped true true = refl
swapped true false = refl
swapped false true = refl
swapped false false = refl

or_none : (a : Bool) → (a || false) ≡ a
or_none true = refl
or_none false = refl

among_reverse : (xs : List ℕ) (x : ℕ) → is_among (reverse xs) x ≡ is_among xs x
among_reverse [] x = refl
among_reverse (y ∷ xs) x =
    ap (λ (l : List ℕ). is_among l x) (reverse-append (y ∷ []) xs)
    ∙ list_any-append (λ z. x == z) (reverse xs) (y ∷ [])
    ∙ ap (λ (b : Bool). b || (x == y || false)) (among_reverse xs x)
    ∙ ap (λ (b : Bool). is_among xs x || b) (or_none (x == y))
    ∙ swapped (is_among xs x) (x == y)

in_the_order : (order : List ℕ) (x : ℕ) → IsOrder order → 0 < x → x ≤ length order → is_among order x ≡ true
in_the_order order x is positive small =
    let found = is.each x positive small in
    list_any_at (λ z. x == z) order found.0 0 found.1 (eq-eqb x (slice_index_or order found.0 0) (sym found.2))

pub same_falling : (order xs : List ℕ) → ((x : ℕ) → is_among xs x ≡ true → is_among order x ≡ true) → SameSet xs (falling order xs)
same_falling order xs within x =
    sym (among_filter (is_among xs) (reverse order) x ∙ ap (λ (b : Bool). b && is_among xs x) (among_reverse order x)
    ∙ elim (is_among xs x) as (λ b. is_among xs x ≡ b → (is_among order x && b) ≡ b) [
      | true ↦ λ is. and_all (is_among order x) ∙ within x is
      | false ↦ λ is. and_none (is_among order x)
    ] refl)

record IsVariable (formula : Formula) (x : ℕ) : Type 0 where
  positive : 0 < x
  small : x ≤ formula.vars

free_within : (formula : Formula) (rest : List Term) (pushed : List ℕ) (x : ℕ) → is_free formula rest pushed x ≡ true → IsVariable formula x
free_within formula rest pushed x free =
    let range = first_true (nat_lt 0 x && nat_le x formula.vars) (not (list_any (term_has formula x) rest))
    (first_true (nat_lt 0 x && nat_le x formula.vars && not (list_any (term_has formula x) rest))
    (not (holds_later formula pushed x (length formula.clauses))) free) in
    record {
      positive = ltb-true 0 x (first_true (nat_lt 0 x) (nat_le x formula.vars) range);
      small = leb-true x formula.vars (second_true (nat_lt 0 x) (nat_le x formula.vars) range);
    }

if_some : (b : Bool) (one later : Stage) → (if b then Some one else None) ≡ Some later → b ≡ true
if_some true one later is = refl
if_some false one later is = none_is_some is

set_within : (formula : Formula) (xs : List ℕ) (stack : List Term) (pushed : List ℕ) (trail : List (ℕ × Term)) (later : Stage) (x : ℕ)
    → after_all formula (staged stack pushed trail) xs ≡ Some later → is_among xs x ≡ true → IsVariable formula x
set_within formula [] stack pushed trail later x is among = no_bool (sym among)
set_within formula (y ∷ xs) [] pushed trail later x is among = none_is_some is
set_within formula (y ∷ xs) (top ∷ rest) pushed trail later x is among =
    free_within formula rest pushed x (passes (is_free formula rest pushed) (y ∷ xs) x
    (if_some (list_all (is_free formula rest pushed) (y ∷ xs))
    (staged (quantified_by (y ∷ xs) top ∷ rest) pushed (trail_by (y ∷ xs) top trail)) later
    (sym (all_after formula rest pushed (y ∷ xs) top trail) ∙ is)) among)

module _ (formula : Formula) (order : List ℕ) (is_order : IsOrder order) (count : length order ≡ formula.vars) where
  one_ordered : (stage later : Stage) (step : Move) → after_move formula stage step ≡ Some later → IsAlike step (move_in_order order step)
  one_ordered stage later (Push i) leads = inl refl
  one_ordered stage later And leads = inl refl
  one_ordered stage later (Exists x) leads = inl refl
  one_ordered stage later (ExistsAll xs) leads = inr (record {
    xs = xs;
    ys = falling order xs;
    first = refl;
    second = refl;
    same = same_falling order xs (λ x among.
        let range = set_within formula xs stage.stack stage.pushed stage.trail later x leads among in
        in_the_order order x is_order range.positive (subst (λ (n : ℕ). x ≤ n) (sym count) range.small));
  })

  all_ordered : (moves : List Move) (stage last : Stage) → after_moves formula stage moves ≡ Some last → AreAlike moves (in_order order moves)
  all_ordered [] stage last leads = tt
  all_ordered (step ∷ moves) stage last leads =
      elim (after_move formula stage step) as (λ o. after_move formula stage step ≡ o
      → option_and_then (λ later. after_moves formula later moves) o ≡ Some last
      → AreAlike (step ∷ moves) (in_order order (step ∷ moves))) [
        | None ↦ λ first ends. none_is_some ends
        | Some later ↦ λ first ends. (one_ordered stage later step first, all_ordered moves later last ends)
      ] refl leads

unset : (order : List ℕ) (step : Move) → is_set step ≡ false → move_in_order order step ≡ step
unset order (Push i) none = refl
unset order And none = refl
unset order (Exists x) none = refl
unset order (ExistsAll xs) none = no_bool none

no_sets : (order : List ℕ) (moves : List Move) → list_any is_set moves ≡ false → in_order order moves ≡ moves
no_sets order [] none = refl
no_sets order (step ∷ moves) none =
    let neither = both_false (is_set step) (list_any is_set moves) none in
    ap (λ (m : Move). m ∷ in_order order moves) (unset order step neither.0) ∙ ap (λ (l : List Move). step ∷ l) (no_sets order moves neither.1)

pub set_moves : SetMoves
set_moves = record {
  possible = possible_set;
  refused = λ formula stage xs kind. refused_behind formula stage.stack stage.pushed stage.trail xs kind;
  alike = alike_admissible;
  ordered = λ formula order moves is_order count admissible.
      all_ordered formula order is_order count moves no_stage admissible.last admissible.possible;
  without_sets = no_sets;
}
