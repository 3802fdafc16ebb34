-- Literals are false by their stamps: what a stamp more, a new group and its end make of the sets.
use Rattle.std.proofs.Common.{◌≡◌, ℕ, ◌+◌, ◌<◌, ◌≤◌, Bool, true, false, not, ◌||◌, ◌&&◌, ◌==◌, if◌then◌else◌, ℤ, List, [], ◌∷◌, take, length}
use Rattle.std.proofs.Common.{inl, inr}
use Rattle.std.specs.List.{list_any}
use Rattle.std.proofs.lemmas.Bool.{or_cases, or_parts}
use Rattle.std.proofs.Common.{get_or, int_eq, Option, None, Some, is_some, Result, Ok, Err, refl, sym, ap, ◌∙◌, arith}
use Rattle.std.specs.Prelude.{OnErr}
use Rattle.std.proofs.lemmas.Bool.Decides.{nat_tests, Decides-int_eq}
use Rattle.std.proofs.lemmas.List.Folds.{list_any_more}
use Rattle.lrat_rules.specs.Chain.{FalseSet, literals_of}
use Rattle.lrat_rules.specs.Pass.{with_others}
use Rattle.lrat_rules.specs.Stamps.{stamp_of, stamp_with}
use Rattle.lrat_rules.specs.FalseLiterals.{SameSets, before_of, set_of}
use Rattle.lrat_rules.specs.declared.chain.Chain.{Chain}

-- the literals with this stamp, and with one of two
abbrev pub has_stamp : (ℤ → ℕ) → ℕ → FalseSet
has_stamp stamp own x = stamp x == own

abbrev pub has_either : (ℤ → ℕ) → ℕ → ℕ → FalseSet
has_either stamp own group x = (stamp x == own) || (stamp x == group)

-- nothing where both stamps are the same
abbrev pub before_if : Bool → FalseSet → Option FalseSet
before_if same set = if same then None else Some set

pub on_err : {T E A : Type 0} (r : Result T E) → A → OnErr r A
on_err (Ok t) a = tt
on_err (Err e) a = a

-- where no stamp changed, nor those of the addition and of the group, the sets are the same
pub same_sets : (old new : Chain) → ((x : ℤ) → stamp_of new.stamps x ≡ stamp_of old.stamps x) → new.own ≡ old.own → new.group ≡ old.group
    → SameSets old new
unfolding set_of before_of
same_sets old new same own group = record {
  set = λ i x. (same x i == own i) || (same x i == group i);
  before = λ i. if own i == group i then None else Some (λ x. same x i == own i);
}

same_stamp : (n : ℕ) → (n == n) ≡ true
same_stamp n = grind (arith, nat_tests)

or_true : (b : Bool) → (b || true) ≡ true
or_true true = refl
or_true false = refl

twice : (b : Bool) → (b || b) ≡ b
twice true = refl
twice false = refl

or_turn : (a b : Bool) → (a || b) ≡ (b || a)
or_turn true true = refl
or_turn true false = refl
or_turn false true = refl
or_turn false false = refl

-- a literal that was stamped is false
stamped : (own group s : ℕ) → ((stamp_with own group s == own) || (stamp_with own group s == group)) ≡ true
stamped own group s =
    elim (s == own) as (λ b. (s == own) ≡ b → (((if b then s else group) == own) || ((if b then s else group) == group)) ≡ true) [
      | true ↦ λ e. rw e refl
      | false ↦ λ e. rw (same_stamp group) (or_true (group == own))
    ] refl

-- one that was stamped or not
pub marked_set : (own group s new : ℕ) (b : Bool) → new ≡ (if b then stamp_with own group s else s)
    → ((new == own) || (new == group)) ≡ (b || ((s == own) || (s == group)))
marked_set own group s new true is = rw is (stamped own group s)
marked_set own group s new false is = rw is refl

-- none gets or loses the addition's own stamp in a group
kept_own : (own group s new : ℕ) (b : Bool) → (own == group) ≡ false → new ≡ (if b then stamp_with own group s else s)
    → (new == own) ≡ (s == own)
kept_own own group s new true apart is = rw is (elim (s == own) as (λ k. (s == own) ≡ k → ((if k then s else group) == own) ≡ k) [
  | true ↦ λ e. e
  | false ↦ λ e. grind (arith, nat_tests)
] refl)
kept_own own group s new false apart is = rw is refl

pub marked_before : (own group : ℕ) (old new : ℤ → ℕ) (literal : ℤ)
    → ((x : ℤ) → new x ≡ (if int_eq x literal then stamp_with own group (old x) else old x))
    → before_if (own == group) (has_stamp new own) ≡ before_if (own == group) (has_stamp old own)
marked_before own group old new literal is =
    elim (own == group) as (λ b. (own == group) ≡ b → before_if b (has_stamp new own) ≡ before_if b (has_stamp old own)) [
      | true ↦ λ e. refl
      | false ↦ λ e. let same : has_stamp new own ≡ has_stamp old own =
          λ i x. kept_own own group (old x) (new x) (int_eq x literal) e (is x) i in ap (before_if false) same
    ] refl

-- no literal has a stamp that is new
pub none_stamped : (s n : ℕ) → s < n → ((s == n) || (s == n)) ≡ false
none_stamped s n below = grind (arith, nat_tests)

pub no_group : (n : ℕ) (f : FalseSet) → (if n == n then None else Some f) ≡ None
no_group n f = rw (same_stamp n) refl

-- where no group is open
pub one_stamp : (own group : ℕ) (f : FalseSet) → (if own == group then None else Some f) ≡ None → group ≡ own
one_stamp own group f =
    elim (own == group) as (λ b. (own == group) ≡ b → (if b then None else Some f) ≡ None → group ≡ own) [
      | true ↦ λ e h. grind (arith, nat_tests)
      | false ↦ λ e h. absurd (cc)
    ] refl

-- and where one is
pub apart_if_open : (own group : ℕ) (f : FalseSet) → is_some (if own == group then None else Some f) ≡ true → (own == group) ≡ false
apart_if_open own group f =
    elim (own == group) as (λ b. is_some (if b then None else Some f) ≡ true → b ≡ false) [ true ↦ λ h. cc | false ↦ λ h. refl ]

-- a group that was opened makes none false yet
pub opened_set : (own group last s new : ℕ) → group ≡ own → s ≤ last → last < new → ((s == own) || (s == new)) ≡ ((s == own) || (s == group))
opened_set own group last s new same below above =
    let none : (s == new) ≡ false = grind (arith, nat_tests) in
    rw (none, same) (or_turn (s == own) false ∙ sym (twice (s == own)))

alone : (own : ℕ) (stamp : ℤ → ℕ) → has_stamp stamp own ≡ has_either stamp own own
alone own stamp = λ i x. sym (twice (stamp x == own)) i

pub opened_before : (own group last new : ℕ) (stamp : ℤ → ℕ) → group ≡ own → own ≤ last → last < new
    → before_if (own == new) (has_stamp stamp own) ≡ Some (has_either stamp own group)
opened_before own group last new stamp same below above =
    let none : (own == new) ≡ false = grind (arith, nat_tests) in
    ap (λ b. before_if b (has_stamp stamp own)) none ∙ ap (before_if false) (alone own stamp ∙ ap (has_either stamp own) (sym same))

-- and where it is closed, those before it are
pub closed_before : (own group : ℕ) (stamp : ℤ → ℕ) → (own == group) ≡ false
    → before_if (own == group) (has_stamp stamp own) ≡ Some (has_either stamp own own)
closed_before own group stamp apart = ap (λ b. before_if b (has_stamp stamp own)) apart ∙ ap (before_if false) (alone own stamp)

-- the literals of a clause in turn
pub marked_more : (clause : List ℤ) (place : ℕ) (literal x : ℤ) (before after : Bool) → place < length clause
    → literal ≡ get_or clause place literal → after ≡ (int_eq x literal || before) → before ≡ literals_of (take place clause) x
    → after ≡ literals_of (take (place + 1) clause) x
marked_more clause place literal x before after within at is so_far =
    is ∙ ap (λ b. int_eq x literal || b) so_far ∙ or_turn (int_eq x literal) (literals_of (take place clause) x)
    ∙ ap (λ y. literals_of (take place clause) x || int_eq x y) at ∙ sym (list_any_more (int_eq x) clause place literal within)

regroup : (e s a n : Bool) → (e ≡ true → s ≡ false) → (e || ((not s && a) || n)) ≡ ((not s && (a || e)) || n)
regroup true s a n other = rw (other refl, or_true a) refl
regroup false s a n other = ap (λ b. (not s && b) || n) (sym (or_turn a false))

skipped : (e a n : Bool) → ((not e && a) || n) ≡ ((not e && (a || e)) || n)
skipped true a n = refl
skipped false a n = ap (λ b. b || n) (sym (or_turn a false))

-- the same of those other than one
module _ (n : FalseSet) (other : ℤ) (clause : List ℤ) (place : ℕ) (literal x : ℤ) (before after : Bool) (within : place < length clause) (at : literal
    ≡ get_or clause place literal) (so_far : before ≡ with_others n other (take place clause) x) where
  more : literals_of (take (place + 1) clause) x ≡ (literals_of (take place clause) x || int_eq x literal)
  more = list_any_more (int_eq x) clause place literal within ∙ ap (λ y. literals_of (take place clause) x || int_eq x y) (sym at)

  pub other_marked : int_eq literal other ≡ false → after ≡ (int_eq x literal || before) → after ≡ with_others n other (take (place + 1) clause) x
  other_marked differs is = is ∙ ap (λ b. int_eq x literal || b) so_far
      ∙ regroup (int_eq x literal) (int_eq x other) (literals_of (take place clause) x) (n x)
      (λ same. ap (λ y. int_eq y other) ((Decides-int_eq x literal).0 same) ∙ differs)
      ∙ ap (λ b. (not (int_eq x other) && b) || n x) (sym more)

  pub other_skipped : int_eq literal other ≡ true → before ≡ with_others n other (take (place + 1) clause) x
  other_skipped same = so_far ∙ skipped (int_eq x other) (literals_of (take place clause) x) (n x)
      ∙ ap (λ y. (not (int_eq x other) && (literals_of (take place clause) x || int_eq x y)) || n x) (sym ((Decides-int_eq literal other).0 same))
      ∙ ap (λ b. (not (int_eq x other) && b) || n x) (sym more)

-- a clause without others adds none
others_absent : (clause : List ℤ) (other x : ℤ) → list_any (λ y. not (int_eq y other)) clause ≡ false → literals_of clause x ≡ true
    → int_eq x other ≡ true
others_absent [] other x none is = cc
others_absent (y ∷ clause) other x none is =
    let parts = or_parts (not (int_eq y other)) (list_any (λ z. not (int_eq z other)) clause) none in
    elim (or_cases (int_eq x y) (literals_of clause x) is) [
      | inl here ↦ ap (λ z. int_eq z other) ((Decides-int_eq x y).0 here) ∙ not_false (int_eq y other) parts.0
      | inr later ↦ others_absent clause other x parts.1 later
    ]
  where
    not_false : (b : Bool) → not b ≡ false → b ≡ true
    not_false true is = refl
    not_false false is = cc

pub none_added : (n : FalseSet) (other : ℤ) (clause : List ℤ) → list_any (λ y. not (int_eq y other)) clause ≡ false → (x : ℤ)
    → n x ≡ with_others n other clause x
none_added n other clause none x =
    elim (literals_of clause x) as (λ b. literals_of clause x ≡ b → n x ≡ ((not (int_eq x other) && b) || n x)) [
      | true ↦ λ is. rw (others_absent clause other x none is) refl
      | false ↦ λ other_is. ap (λ b. b || n x) (sym (and_false (not (int_eq x other))))
    ] refl
  where
    and_false : (b : Bool) → (b && false) ≡ false
    and_false true = refl
    and_false false = refl
