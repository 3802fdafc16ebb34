-- The clauses that were added beside definitions as one list, between two moves: those that the entries of two caches name, and
-- the stacked units, of which there are no more than clauses of the formula.
use Rattle.std.proofs.Common.{◌≡◌, ◌∙◌, ℕ, suc, ◌+◌, ◌<◌, ◌≤◌, Bool, true, false, not, ◌||◌, List, [], ◌∷◌, ◌++◌, length, reverse, take}
use Rattle.std.proofs.Common.{None, Some, Contains, refl, sym, ap, subst, arith, inl, inr, eq-eqb, ne_eqb}
use Rattle.std.specs.Prelude.{nat_eq, nat_lt, nat_le, ◌&&◌, ◌==◌, if◌then◌else◌}
use Rattle.std.specs.List.{list_any, AllByRecursion, IsDistinct}
use Rattle.std.proofs.lemmas.Bool.{eqb-true, or_cases, or_left, or_right}
use Rattle.std.proofs.lemmas.List.{length-append}
use Rattle.std.proofs.lemmas.List.Elements.{Contains-append_left, Contains-append_right}
use Rattle.std.proofs.lemmas.Map.Keys.{IsDistinct-cons}
use Rattle.std.proofs.lemmas.Map.Steps.{length-le_from_distinct_below}
use Rattle.cnf_base.specs.Formula.{Formula}
use Rattle.lrat_rules.specs.State.{Live}
use Rattle.node_table.specs.Diagram.{Graph}
use Rattle.node_table.specs.Lean.{HasAdded}
use Rattle.node_table.specs.Table.{TableState}
use Rattle.operations.specs.Entries.{Entry, IsNamed}
use Rattle.reconstruction.specs.Stack.{Stack}
use Rattle.schedule_plan.specs.declared.plan.Move.{Move}
use Rattle.schedule_plan.specs.declared.plan.Move.TheVariants.{Push, And, Exists, ExistsAll}
use Rattle.schedule_plan.specs.Plan.{Stage, Term, after_and, after_exists, after_move, after_moves, after_push, input, is_pushed, no_stage}
use Rattle.bdd_terms.specs.declared.held.HeldTerm.{HeldTerm}
use Rattle.term_runner.specs.Held.{AreHeld}
use Rattle.bdd_terms.specs.Units.{HasUnits}
use Rattle.term_runner.proofs.Between.{IsBetween}
use Rattle.term_runner.proofs.Plans.{first_of_moves, inside, pushed_of, through_set}
use Rattle.term_runner.proofs.Taking.{and_of, exists_of}
use Rattle.bdd_terms.proofs.NamedClauses.{few_numbers, has_number, numbers}

-- between two moves
pub has_added : {S : Type 0} (table : TableState S) (entries : List Entry) (stack : List HeldTerm) (number : ℕ) (named : (ids : List ℕ)
    × (length ids ≤ number) × ((id : ℕ) → IsNamed entries id → Contains ids id))
    → table.retired ≡ [] → HasUnits table entries stack → HasAdded table (number + length stack)
has_added table entries stack number named settled has =
    let units = numbers (λ (held : HeldTerm). held.unit) stack in
    record {
      ids = named.0 ++ units;
      few = omega (arith, length-append named.0 units, named.1, few_numbers (λ (held : HeldTerm). held.unit) stack);
      all = λ id own. elim (has.known id own) [
        | inl known ↦ elim known [
          | inl retired ↦ let none : Contains [] id = subst (λ (ids : List ℕ). Contains ids id) settled retired in
              absurd (omega (arith, none.1))
          | inr by ↦ Contains-append_left named.0 units id (named.2 id by)
        ]
        | inr unit ↦ Contains-append_right named.0 units id (has_number
            (λ (held : HeldTerm). held.unit) stack unit.held id unit.stacked unit.unit)
      ];
    }

-- as many terms are stacked as nodes
pub held_length : (formula : Formula) (graph : Graph) (live : Live) (stack : List HeldTerm) (terms : List Term)
    → AreHeld formula graph live stack terms → length stack ≡ length terms
held_length formula graph live [] [] are = refl
held_length formula graph live [] (term ∷ terms) are = absurd are
held_length formula graph live (held ∷ stack) [] are = absurd are
held_length formula graph live (held ∷ stack) (term ∷ terms) are = ap suc (held_length formula graph live stack terms are.1)

-- each stacked term holds a clause that was pushed, and each clause is pushed once
record IsCounted (formula : Formula) (stage : Stage) : Type 0 where
  few : length stage.stack ≤ length stage.pushed
  distinct : IsDistinct nat_eq stage.pushed
  within : (i : ℕ) → list_any (nat_eq i) stage.pushed ≡ true → (0 < i) × (i ≤ length formula.clauses)

-- a clause that wasn't pushed differs from each that was
differs : (pushed : List ℕ) (i : ℕ) → is_pushed pushed i ≡ false → AllByRecursion (λ j. nat_eq i j ≡ false) pushed
differs [] i none = tt
differs (j ∷ pushed) i none =
    let parts = neither (j == i) (is_pushed pushed i) none in
    (ne_eqb i j (λ same. let e : true ≡ false = sym (eq-eqb j i (sym same)) ∙ parts.0 in cc), differs pushed i parts.1)
  where
    neither : (a b : Bool) → (a || b) ≡ false → (a ≡ false) × (b ≡ false)
    neither false b h = (refl, h)
    neither true b h = cc

-- it is pushed once
was_new : (formula : Formula) (stage next : Stage) (i : ℕ) → after_push formula stage i ≡ Some next → is_pushed stage.pushed i ≡ false
was_new formula stage next i is = go (nat_lt 0 i && nat_le i (length formula.clauses)) (is_pushed stage.pushed i) is
  where
    go : (small was : Bool)
        → (if small && not was then Some (record {
          stack = input i ∷ stage.stack;
          pushed = i
              ∷ stage.pushed;
          trail = stage.trail;
        }) else None) ≡ Some next → was ≡ false
    go true false e = refl
    go true true e = cc
    go false was e = cc

counted_one : (formula : Formula) (stage next : Stage) (x : ℕ) → after_exists formula stage x stage.stack ≡ Some next
    → IsCounted formula stage → IsCounted formula next
counted_one formula stage next x is before =
    let quantified = exists_of formula stage next (Exists x) x refl is in
    let pushed : next.pushed ≡ stage.pushed = ap (λ (s : Stage). s.pushed) quantified.after in
    record {
      few = omega (arith, ap length quantified.stacked, ap (λ (s : Stage). length s.stack) quantified.after, ap length pushed, before.few);
      distinct = subst (λ (ids : List ℕ). IsDistinct nat_eq ids) (sym pushed) before.distinct;
      within = λ i there. before.within i (sym (ap (list_any (nat_eq i)) pushed) ∙ there);
    }

counted : (formula : Formula) (stage next : Stage) (move : Move) → after_move formula stage move ≡ Some next → IsCounted formula stage
    → IsCounted formula next
counted formula stage next (Push i) is before =
    let push = pushed_of formula stage next i is in
    let stack = ap (λ (s : Stage). length s.stack) push.2 in
    let pushed : next.pushed ≡ i ∷ stage.pushed = ap (λ (s : Stage). s.pushed) push.2 in
    record {
      few = omega (arith, stack, ap length pushed, before.few);
      distinct = subst (λ (ids : List ℕ). IsDistinct nat_eq ids) (sym pushed)
          (IsDistinct-cons nat_eq i stage.pushed (differs stage.pushed i (was_new formula stage next i is)) before.distinct);
      within = λ j there. elim (or_cases (nat_eq j i) (list_any (nat_eq j) stage.pushed) (sym (ap (list_any (nat_eq j)) pushed) ∙ there)) [
        | inl same ↦ let one = eqb-true j i same in (omega (arith, one, push.0), omega (arith, one, push.1))
        | inr later ↦ before.within j later
      ];
    }
counted formula stage next And is before =
    let both = and_of formula stage next And refl is in
    let pushed = conjoined_pushed formula stage next stage.stack is in
    record {
      few = omega (arith, ap length both.before, ap length both.after, ap length pushed, before.few);
      distinct = subst (λ (ids : List ℕ). IsDistinct nat_eq ids) (sym pushed) before.distinct;
      within = λ i there. before.within i (sym (ap (list_any (nat_eq i)) pushed) ∙ there);
    }
  where
    conjoined_pushed : (formula : Formula) (stage next : Stage) (stack : List Term) → after_and stage stack ≡ Some next → next.pushed
        ≡ stage.pushed
    conjoined_pushed formula stage next [] e = cc
    conjoined_pushed formula stage next (top ∷ []) e = cc
    conjoined_pushed formula stage next (top ∷ below ∷ rest) e = sym (ap (λ (s : Stage). s.pushed) (inside _ next e))
counted formula stage next (Exists x) is before = counted_one formula stage next x is before
counted formula stage next (ExistsAll xs) is before = through_set (IsCounted formula) formula (counted_one formula) xs stage next is before

counted_all : (formula : Formula) (moves : List Move) (stage last : Stage) → after_moves formula stage moves ≡ Some last
    → IsCounted formula stage → IsCounted formula last
counted_all formula [] stage last is before = subst (IsCounted formula) (inside stage last is) before
counted_all formula (move ∷ moves) stage last is before =
    let first = first_of_moves formula stage last move moves is in
    counted_all formula moves first.later last first.rest (counted formula stage first.later move first.taken before)

none_counted : (formula : Formula) → IsCounted formula no_stage
unfolding IsDistinct
none_counted formula = record { few = omega arith; distinct = tt; within = λ i there. absurd (let e : false ≡ true = there in cc) }

-- no more terms are stacked than the formula has clauses
pub few_stacked : (formula : Formula) (moves : List Move) (stage : Stage) → after_moves formula no_stage moves ≡ Some stage
    → length stage.stack ≤ length formula.clauses
few_stacked formula moves stage reached =
    let all = counted_all formula moves no_stage stage reached (none_counted formula) in
    let zero_too : IsDistinct nat_eq (0 ∷ stage.pushed) = IsDistinct-cons nat_eq 0 stage.pushed
    (no_zero stage.pushed (λ i there. (all.within i there).0)) all.distinct in
    let few = length-le_from_distinct_below (0 ∷ stage.pushed) (length formula.clauses + 1) zero_too
    (λ i there. elim (or_cases (nat_eq i 0) (list_any (nat_eq i) stage.pushed) there) [
      | inl same ↦ let one = eqb-true i 0 same in omega (arith, one)
      | inr later ↦ let own = (all.within i later).1 in omega (arith, own)
    ]) in
    omega (arith, few, all.few)
  where
    no_zero : (pushed : List ℕ) → ((i : ℕ) → list_any (nat_eq i) pushed ≡ true → 0 < i) → AllByRecursion (λ j. nat_eq 0 j ≡ false) pushed
    no_zero [] above = tt
    no_zero (j ∷ pushed) above = (
      ne_eqb 0 j (λ same. let own = above j (or_left (nat_eq j j) (list_any (nat_eq j) pushed) (eq-eqb j j refl)) in
          omega (arith, same, own)),
      no_zero pushed (λ i there. above i (or_right (nat_eq i j) (list_any (nat_eq i) pushed) there)),
    )

-- between two moves, with the number of stacked terms
pub added_between : {S : Type 0} (formula : Formula) (moves : List Move) (i : ℕ) (table : TableState S) (entries : List Entry)
    (stack : List HeldTerm) (trail : Stack) (number : ℕ)
    → ((ids : List ℕ) × (length ids ≤ number) × ((id : ℕ) → IsNamed entries id → Contains ids id)) → table.retired ≡ []
    → HasUnits table entries (reverse stack)
    → IsBetween formula moves i table.graph table.book.state.live stack trail → HasAdded table (number + length (reverse stack))
    × (length (reverse stack) ≤ length formula.clauses)
added_between formula moves i table entries stack trail number named settled has between = (
  has_added table entries (reverse stack) number named settled has,
  let same = held_length formula table.graph table.book.state.live (reverse stack) between.stage.stack between.at.held in
      let few = few_stacked formula (take i moves) between.stage between.front in
      omega (arith, same, few),
)
