-- What one clause, a pass over all clauses, and passes to the end do to the quiet sets that have the false literals. The laws on
-- quiet sets and on propagation are given.
use Rattle.std.proofs.Common.{◌≡◌, Bool, true, false, cond, not, ◌||◌, ◌&&◌, ℤ, neg_ℤ, List, [], ◌∷◌, ◌++◌, length, take}
use Rattle.std.proofs.Common.{Option, None, Some, if◌then◌else◌, refl, sym, ap, ◌∙◌, subst, append_assoc}
use Rattle.std.specs.List.{list_all}
use Rattle.std.proofs.Math.Seq.{take-append_seam}
use Rattle.std.proofs.lemmas.List.{append-nil}
use Rattle.std.proofs.lemmas.List.Folds.{list_all-append}
use Rattle.lrat_rules.specs.declared.outcome.Effect.TheVariants.{Conflict, Unit as Forced}
use Rattle.lrat_rules.specs.declared.outcome.Reason.{Reason}
use Rattle.lrat_rules.specs.declared.outcome.Reason.TheVariants.{CandidateOpen}
use Rattle.lrat_rules.specs.Chain.{FalseSet, literals_of, effect}
use Rattle.lrat_rules.specs.Addition.{holds_negated}
use Rattle.lrat_rules.specs.Trail.{with_last}
use Rattle.drat_rules.specs.Clauses.{is_among}
use Rattle.drat_rules.specs.Quiet.{closed_under, IsQuiet, Includes, Falsifies, has_quiet}
use Rattle.drat_rules.specs.Addition.{others_of, passes_candidate, open_fault, drat_fault}
use Rattle.drat_checker.specs.Propagation.{Clashes, Extends, HasAlso, SameQuiet, fault_under}
use Rattle.drat_checker.specs.Trail.{IsApart}
use Rattle.drat_checker.proofs.FalseSets.{at_member, has_own}

-- what the laws say
abbrev pub NoneLaw : Type 0
NoneLaw = (clauses : List (List ℤ)) (clause : List ℤ) → has_quiet clauses clause ≡ false → (n : FalseSet) → IsQuiet clauses n
    → Falsifies n clause → ⊥

abbrev pub FailsLaw : Type 0
FailsLaw = (clauses : List (List ℤ)) (clause : List ℤ) → ((n : FalseSet) → IsQuiet clauses n → Falsifies n clause → ⊥)
    → has_quiet clauses clause ≡ false

abbrev pub ForcedLaw : Type 0
ForcedLaw = (clauses : List (List ℤ)) (n begun : FalseSet) (clause : List ℤ) (literal : ℤ) → IsQuiet clauses n
    → Includes n begun → is_among clauses clause ≡ true → effect begun clause ≡ Forced literal → n (neg_ℤ literal) ≡ true

abbrev pub ConflictLaw : Type 0
ConflictLaw = (clauses : List (List ℤ)) (n begun : FalseSet) (clause : List ℤ) → IsQuiet clauses n → Includes n begun
    → is_among clauses clause ≡ true → effect begun clause ≡ Conflict → ⊥

-- lists that grow
pub extends-none : (xs : List ℤ) → Extends xs xs
extends-none xs = record { rest = []; parts = sym (append-nil xs) }

pub extends-then : {a b c : List ℤ} → Extends a b → Extends b c → Extends a c
extends-then {a} {b} {c} e f = record {
  rest = e.rest ++ f.rest;
  parts = f.parts ∙ ap (λ (l : List ℤ). l ++ f.rest) e.parts ∙ append_assoc a e.rest f.rest;
}

pub extends-last : (x : ℤ) (xs : List ℤ) → Extends xs (with_last x xs)
extends-last x xs =
    elim (literals_of xs x) as (λ b. Extends xs (cond b xs (xs ++ x ∷ []))) [
      | true ↦ extends-none xs
      | false ↦ record { rest = x ∷ []; parts = refl }
    ]

pub extends-is : {a b c : List ℤ} → c ≡ b → Extends a b → Extends a c
extends-is is e = record { rest = e.rest; parts = is ∙ e.parts }

pub extends-front : {a b : List ℤ} → Extends a b → take (length a) b ≡ a
extends-front {a} {b} e = ap (take (length a)) e.parts ∙ take-append_seam a e.rest

pub same-then : {clauses : List (List ℤ)} {a b c : List ℤ} → SameQuiet clauses a b → SameQuiet clauses b c → SameQuiet clauses a c
same-then s t = record { same = λ q quiet. s.same q quiet ∙ t.same q quiet }

bool_same : (a b : Bool) → (b ≡ false → a ≡ false) → (a ≡ false → b ≡ false) → a ≡ b
bool_same true true f g = refl
bool_same true false f g = f refl
bool_same false true f g = sym (g refl)
bool_same false false f g = refl

module _ (none : NoneLaw) (fails : FailsLaw) where
  pub has_quiet-same : (clauses : List (List ℤ)) (a b : List ℤ) → SameQuiet clauses a b → has_quiet clauses a ≡ has_quiet clauses b
  has_quiet-same clauses a b s =
      bool_same (has_quiet clauses a) (has_quiet clauses b)
      (λ none_b. fails clauses a (λ q quiet has. none clauses b none_b q quiet (sym (s.same q quiet) ∙ has)))
      (λ none_a. fails clauses b (λ q quiet has. none clauses a none_a q quiet (s.same q quiet ∙ has)))

  pub has_quiet-some : (clauses : List (List ℤ)) (n : FalseSet) (clause : List ℤ) → IsQuiet clauses n → list_all n clause ≡ true
      → has_quiet clauses clause ≡ true
  has_quiet-some clauses n clause quiet has =
      elim (has_quiet clauses clause) as (λ b. has_quiet clauses clause ≡ b → b ≡ true) [
        | true ↦ λ e. refl
        | false ↦ λ e. absurd (none clauses clause e n quiet has)
      ] refl

  -- propagation has ended
  pub ended : (clauses : List (List ℤ)) (old new : List ℤ) → SameQuiet clauses old new → IsApart new
      → list_all (closed_under (literals_of new)) clauses ≡ true → false ≡ not (has_quiet clauses old)
  ended clauses old new s apart closed =
      sym (ap not (has_quiet-same clauses old new s
      ∙ has_quiet-some clauses (literals_of new) new (record { apart = apart.apart; closed = closed }) (has_own new)))

  pub refuted : (clauses : List (List ℤ)) (old new : List ℤ) → SameQuiet clauses old new → has_quiet clauses new ≡ false
      → true ≡ not (has_quiet clauses old)
  refuted clauses old new s none_has = sym (ap not (has_quiet-same clauses old new s ∙ none_has))

  pub clashed : (clauses : List (List ℤ)) (literals : List ℤ) → Clashes literals → true ≡ not (has_quiet clauses literals)
  clashed clauses literals clashes = sym (ap not (fails clauses literals (λ q quiet has. clashes.clash q quiet.apart has)))

pub same-also : (clauses : List (List ℤ)) (clause old new : List ℤ) → HasAlso clause old new → SameQuiet clauses (old ++ clause) new
same-also clauses clause old new h = record { same = λ q quiet. list_all-append q old clause ∙ sym (h.also q) }

includes : (q : FalseSet) (xs : List ℤ) → list_all q xs ≡ true → Includes q (literals_of xs)
includes q xs has = record { includes = λ x m. at_member q xs x has m }

-- one clause
module _ (fails : FailsLaw) (forced : ForcedLaw) (conflict : ConflictLaw) (xs clause : List ℤ) where
  pub false_clause : effect (literals_of xs) clause ≡ Conflict → (clauses : List (List ℤ)) → is_among clauses clause ≡ true
      → has_quiet clauses xs ≡ false
  false_clause e clauses among =
      fails clauses xs (λ q quiet has. conflict clauses q (literals_of xs) clause quiet (includes q xs has) among e)

-- a pass that comes to a false clause, from literals that the same quiet sets have
pub none-before : (none : NoneLaw) (fails : FailsLaw) (clauses : List (List ℤ)) (start old : List ℤ) → SameQuiet clauses start old
    → has_quiet clauses old ≡ false → has_quiet clauses start ≡ false
none-before none fails clauses start old s none_has = has_quiet-same none fails clauses start old s ∙ none_has

-- falsifying a literal: nothing changes where it clashes, and else it stands last
pub unclashed : (b : Bool) (new old last : List ℤ) → b ≡ false → new ≡ (if b then old else last) → new ≡ last
unclashed true new old last e is = cc
unclashed false new old last e is = is

pub either : (P : List ℤ → Type 0) (b : Bool) (new old last : List ℤ) → P old → P last → new ≡ (if b then old else last) → P new
either P true new old last o l is = subst P (sym is) o
either P false new old last o l is = subst P (sym is) l

-- the candidates by the literals that are false at the end of propagation from the clause
pub same-behind : (clauses : List (List ℤ)) (a b more : List ℤ) → SameQuiet clauses a b → SameQuiet clauses (a ++ more) (b ++ more)
same-behind clauses a b more s = record {
  same = λ q quiet. list_all-append q a more ∙ ap (λ x. x && list_all q more) (s.same q quiet) ∙ sym (list_all-append q b more);
}

all-same : (p q : List ℤ → Bool) → ((x : List ℤ) → p x ≡ q x) → (xs : List (List ℤ)) → list_all p xs ≡ list_all q xs
all-same p q each [] = refl
all-same p q each (x ∷ xs) = ap (λ b. b && list_all p xs) (each x) ∙ ap (λ b. q x && b) (all-same p q each xs)

abbrev fault_if : Bool → Option Reason
fault_if b = if b then None else Some CandidateOpen

module _ (none : NoneLaw) (fails : FailsLaw) (clauses : List (List ℤ)) where
  passes-same : (pivot : ℤ) (a b : List ℤ) → SameQuiet clauses a b → (other : List ℤ) → passes_candidate clauses pivot a other
      ≡ passes_candidate clauses pivot b other
  passes-same pivot a b s other =
      ap (λ x. not (holds_negated pivot other) || not x)
      (has_quiet-same none fails clauses (a ++ others_of pivot other) (b ++ others_of pivot other)
      (same-behind clauses a b (others_of pivot other) s))

  pub fault-open : (clause trail : List ℤ) → SameQuiet clauses clause trail → has_quiet clauses clause ≡ true
      → fault_under clauses trail clause ≡ drat_fault clauses clause
  fault-open [] trail s h = sym (ap (λ b. if b then open_fault clauses [] else None) h)
  fault-open (pivot ∷ others) trail s h =
      sym (ap fault_if
      (all-same (passes_candidate clauses pivot (pivot ∷ others)) (passes_candidate clauses pivot trail)
      (passes-same pivot (pivot ∷ others) trail s) clauses))
      ∙ sym (ap (λ b. if b then open_fault clauses (pivot ∷ others) else None) h)

pub fault-refuted : (clauses : List (List ℤ)) (clause : List ℤ) → has_quiet clauses clause ≡ false → None ≡ drat_fault clauses clause
fault-refuted clauses clause h = sym (ap (λ b. if b then open_fault clauses clause else None) h)

-- a clause that is no candidate, and one that is
pub passes-free : (clauses : List (List ℤ)) (pivot : ℤ) (trail other : List ℤ) → holds_negated pivot other ≡ false
    → true ≡ passes_candidate clauses pivot trail other
passes-free clauses pivot trail other h = sym (ap (λ b. not b || not (has_quiet clauses (trail ++ others_of pivot other))) h)

pub passes-refuted : (clauses : List (List ℤ)) (pivot : ℤ) (trail other : List ℤ) → holds_negated pivot other ≡ true
    → not (has_quiet clauses (trail ++ others_of pivot other)) ≡ passes_candidate clauses pivot trail other
passes-refuted clauses pivot trail other h = sym (ap (λ b. not b || not (has_quiet clauses (trail ++ others_of pivot other))) h)

-- what a test of none says of some
pub some-has : (b : Bool) → false ≡ not b → b ≡ true
some-has true e = refl
some-has false e = cc

pub none-has : (b : Bool) → true ≡ not b → b ≡ false
none-has true e = cc
none-has false e = refl
