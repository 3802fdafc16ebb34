-- The four clauses that define a new extension variable are definitions: the candidates of those from the node down
-- are the clauses up to it, and each is blocked, by a child's literal or by the variable's.
use Rattle.std.proofs.Common.{◌≡◌, ◌≢◌, ℕ, ◌+◌, Bool, true, false, not, ◌&&◌, ℤ, neg_ℤ, nat_abs, List, [], ◌∷◌, ◌++◌, Option, None, Some}
use Rattle.std.proofs.Common.{is_some, refl, sym, ap, ◌∙◌, subst, arith, inl, inr}
use Rattle.std.specs.List.{list_any}
use Rattle.std.specs.Option.{option_to_list}
use Rattle.std.specs.Ordering.{int_eq}
use Rattle.std.proofs.lemmas.Bool.{or_cases, or_left, or_right, and_from, not_from_false, or_from}
use Rattle.cnf_base.specs.ProofText.{given_if}
use Rattle.lrat_rules.specs.State.{State, Live, clause_at}
use Rattle.lrat_rules.specs.Chain.{FalseSet, literals_of}
use Rattle.lrat_rules.specs.Addition.{if_live, holds_negated, is_blocked_by}
use Rattle.lrat_rules.specs.Strict.{IsDefinition}
use Rattle.hint_chain.specs.declared.atom.Atom.{Atom}
use Rattle.hint_chain.specs.declared.atom.Atom.TheVariants.{Always, Never, Of}
use Rattle.hint_chain.specs.Atoms.{neg_atom, clause_from_atoms, is_literal, high_up, low_up, high_down, low_down}
use Rattle.node_table.specs.Defined.{IsNewVariable, is_apart_from, is_never, is_always, one_if, ups_from, with_some}
use Rattle.node_table.proofs.DefineClauses.{literal_in_front, holds-clause_from_atoms, is_some-clause_from_atoms, is_always-neg_atom, neg_neg, abs_neg}
use Rattle.node_table.proofs.DefineClauses.{same_literal, same_from_test, apart_literals, opposite_literals, apart_atom, apart_neg_atom}
use Rattle.node_table.proofs.DefineHolders.{LiveLaw, AreNumbers, AreHolders, EachHolder, top-with_some, AreNumbers-some, AreHolders-some}
use Rattle.node_table.proofs.DefineHolders.{AreHolders-without, EachHolder-some, AreHolders-unused, EachHolder-unused, if_live-each}
use Rattle.node_table.proofs.DefineHolders.{and_true, and_false}

-- a clause is blocked by any literal of it whose negation is false
pub blocked_by : (n : FalseSet) (pivot y : ℤ) (clause : List ℤ) → list_any (int_eq y) clause ≡ true → int_eq y (neg_ℤ pivot) ≡ false
    → n (neg_ℤ y) ≡ true
    → is_blocked_by n pivot clause ≡ true
blocked_by n pivot y [] holds other negated = cc
blocked_by n pivot y (z ∷ zs) holds other negated =
    elim (or_cases (int_eq y z) (list_any (int_eq y) zs) holds) [
      | inl here ↦ or_left _ _ (subst (λ v. (not (int_eq v (neg_ℤ pivot)) && n (neg_ℤ v))
          ≡ true) (same_from_test y z here) (and_from _ _ (not_from_false _ other) negated))
      | inr later ↦ or_right _ _ (blocked_by n pivot y zs later other negated)
    ]

-- the second and the third literal of three
holds_second : (y a b : ℤ) (c : Atom) → int_eq y b ≡ true → list_any (is_literal y) (Of a ∷ Of b ∷ c ∷ []) ≡ true
holds_second y a b c h = or_right (int_eq y a) _ (or_left (int_eq y b) _ h)

holds_third : (y a b c : ℤ) → int_eq y c ≡ true → list_any (is_literal y) (Of a ∷ Of b ∷ Of c ∷ []) ≡ true
holds_third y a b c h = or_right (int_eq y a) _ (or_right (int_eq y b) _ (or_left (int_eq y c) false h))

-- none of three
holds_none : (y a b : ℤ) (c : Atom) → int_eq y a ≡ false → int_eq y b ≡ false → is_literal y c ≡ false
    → list_any (is_literal y) (Of a ∷ Of b ∷ c ∷ []) ≡ false
holds_none y a b c first second third = or_from (int_eq y a) _ first
    (or_from (int_eq y b) _ second (or_from (is_literal y c) false third refl))

-- The clause from a child up to the node is blocked by the child's literal where the clause down to it is added, and
-- by the variable's literal where the clause down to the other child is.
blocked_by_child : (u side other : ℤ) (child : Atom) (up down : List ℤ) → is_apart_from (nat_abs u) child ≡ true
    → clause_from_atoms (Of u ∷ Of side ∷ neg_atom child ∷ []) ≡ Some up → clause_from_atoms (Of (neg_ℤ u) ∷ Of other ∷ child ∷ []) ≡ Some down
    → is_blocked_by (literals_of down) (neg_ℤ u) up ≡ true
blocked_by_child u side other Always up down apart is also = cc
blocked_by_child u side other Never up down apart is also = cc
blocked_by_child u side other (Of h) up down apart is also =
    let differ : int_eq (neg_ℤ h) (neg_ℤ (neg_ℤ u)) ≡ false =
    apart_literals (neg_ℤ h) (neg_ℤ (neg_ℤ u)) (λ same.
    let itself : int_eq h h ≡ false = apart_atom (nat_abs u) (Of h) h apart (sym (abs_neg h) ∙ same ∙ ap nat_abs (neg_neg u)) in
    let also_itself : int_eq h h ≡ true = same_literal h h refl in
    cc) in
    blocked_by (literals_of down) (neg_ℤ u) (neg_ℤ h) up
    (holds-clause_from_atoms (neg_ℤ h) (Of u ∷ Of side ∷ Of (neg_ℤ h) ∷ []) up is
    ∙ holds_third (neg_ℤ h) u side (neg_ℤ h) (same_literal (neg_ℤ h) (neg_ℤ h) refl))
    differ
    (holds-clause_from_atoms (neg_ℤ (neg_ℤ h)) (Of (neg_ℤ u) ∷ Of other ∷ Of h ∷ []) down also
    ∙ holds_third (neg_ℤ (neg_ℤ h)) (neg_ℤ u) other h (same_literal (neg_ℤ (neg_ℤ h)) h (neg_neg h)))

blocked_by_side : (u side other : ℤ) (child opposite : Atom) (up down : List ℤ) → nat_abs side ≢ nat_abs u → neg_ℤ side ≡ other
    → clause_from_atoms (Of u ∷ Of side ∷ child ∷ []) ≡ Some up → clause_from_atoms (Of (neg_ℤ u) ∷ Of other ∷ opposite ∷ []) ≡ Some down
    → is_blocked_by (literals_of down) (neg_ℤ u) up ≡ true
blocked_by_side u side other child opposite up down apart negated is also =
    blocked_by (literals_of down) (neg_ℤ u) side up
    (holds-clause_from_atoms side (Of u ∷ Of side ∷ child ∷ []) up is ∙ holds_second side u side child (same_literal side side refl))
    (apart_literals side (neg_ℤ (neg_ℤ u)) (λ same. apart (same ∙ ap nat_abs (neg_neg u))))
    (holds-clause_from_atoms (neg_ℤ side) (Of (neg_ℤ u) ∷ Of other ∷ opposite ∷ []) down also
    ∙ holds_second (neg_ℤ side) (neg_ℤ u) other opposite (same_literal (neg_ℤ side) other negated))

-- a clause whose candidates are known and blocked is a definition
definition_of : (live : Live) (pivot : ℤ) (atoms : List Atom) (clause : List ℤ) (ids : List ℕ) → clause_from_atoms (Of pivot ∷ atoms) ≡ Some clause
    → AreHolders live (neg_ℤ pivot) ids → EachHolder live (neg_ℤ pivot) (is_blocked_by (literals_of clause) pivot)
    → IsDefinition live clause ids
definition_of live pivot atoms clause ids is holders blocked =
    let parts = literal_in_front pivot (clause_from_atoms atoms) clause is in
    record {
      pivot = pivot;
      others = parts.0;
      first = parts.2;
      named = holders.named;
      blocked = λ id candidate.
          elim (clause_at live id) as (λ o. clause_at live id ≡ o → if_live (holds_negated pivot) o ≡ true
          → if_live (is_blocked_by (literals_of clause) pivot) o ≡ true) [
            | None ↦ λ at holds. cc
            | Some other ↦ λ at holds. blocked.each id other at holds
          ] refl candidate;
    }

-- no candidates: nothing is to be blocked
EachHolder-none : (live : Live) (literal : ℤ) (test : List ℤ → Bool) → AreHolders live literal [] → EachHolder live literal test
EachHolder-none live literal test holders = record {
  each = λ id clause at holds. let none : list_any (int_eq literal) clause ≡ false = ap (if_live (list_any (int_eq literal))) (sym at)
      ∙ holders.named id in cc;
}

-- before the first of them
pub record IsStart (state : State) (u x : ℤ) (high low : Atom) : Type 0 where
  pub law : LiveLaw
  pub numbers : AreNumbers state.live state.top
  pub new : IsNewVariable state.live u x high low

-- The states between the clauses of a new variable.
module _ (state : State) (u x : ℤ) (high low : Atom) (start : IsStart state u x high low) where
  abbrev pub with_hu : State
  with_hu = with_some state (clause_from_atoms (high_up u x high))

  abbrev pub with_lu : State
  with_lu = with_some with_hu (clause_from_atoms (low_up u x low))

  abbrev pub with_hd : State
  with_hd = with_some with_lu (clause_from_atoms (high_down u x high))

  opposite : (int_eq u (neg_ℤ u) ≡ false) × (int_eq (neg_ℤ u) u ≡ false)
  opposite = opposite_literals u start.new.positive.0 start.new.positive.1

  numbers_hu : AreNumbers with_hu.live with_hu.top
  numbers_hu = AreNumbers-some start.law state (clause_from_atoms (high_up u x high)) start.numbers

  numbers_lu : AreNumbers with_lu.live with_lu.top
  numbers_lu = AreNumbers-some start.law with_hu (clause_from_atoms (low_up u x low)) numbers_hu

  -- a clause up to the node holds its literal, and not the negation; one down from it the other way round
  up_holds : (side : ℤ) (child : Atom) → if_live (list_any (int_eq u)) (clause_from_atoms (Of u ∷ Of side ∷ neg_atom child ∷ []))
      ≡ not (is_never child)
  up_holds side child =
      if_live-each (clause_from_atoms (Of u ∷ Of side ∷ neg_atom child ∷ [])) (list_any (int_eq u)) true
      (λ clause is. holds-clause_from_atoms u (Of u ∷ Of side ∷ neg_atom child ∷ []) clause is ∙ or_left (int_eq u u) _ (same_literal u u refl))
      ∙ ap (λ b. b && true) (is_some-clause_from_atoms u side (neg_atom child) ∙ ap not (is_always-neg_atom child))
      ∙ and_true (not (is_never child))

  without : (y first side : ℤ) (child : Atom) → nat_abs y ≡ nat_abs u → int_eq y first ≡ false → nat_abs side ≡ nat_abs x
      → is_apart_from (nat_abs u) child ≡ true
      → if_live (list_any (int_eq y)) (clause_from_atoms (Of first ∷ Of side ∷ child ∷ [])) ≡ false
  without y first side child own differ of_x apart =
      if_live-each (clause_from_atoms (Of first ∷ Of side ∷ child ∷ [])) (list_any (int_eq y)) false
      (λ clause is. holds-clause_from_atoms y (Of first ∷ Of side ∷ child ∷ []) clause is
      ∙ holds_none y first side child differ (apart_literals y side (λ same. start.new.apart (sym of_x ∙ sym same ∙ own)))
      (apart_atom (nat_abs u) child y apart own))
      ∙ and_false (is_some (clause_from_atoms (Of first ∷ Of side ∷ child ∷ [])))

  -- the two clauses up are the only ones that hold the variable's literal, and none holds its negation
  negated_at_first : AreHolders state.live (neg_ℤ u) []
  negated_at_first = AreHolders-unused state.live (nat_abs u) start.new.unused (neg_ℤ u) (abs_neg u)

  negated_after_hu : AreHolders with_hu.live (neg_ℤ u) []
  negated_after_hu =
      AreHolders-without start.law state start.numbers (clause_from_atoms (high_up u x high)) (neg_ℤ u) []
      (without (neg_ℤ u) u (neg_ℤ x) (neg_atom high) (abs_neg u) opposite.1 (abs_neg x)
      (apart_neg_atom (nat_abs u) high start.new.high_apart)) negated_at_first

  ups_after_hu : AreHolders with_hu.live u (option_to_list (given_if (not (is_never high)) (state.top + 1)))
  ups_after_hu =
      AreHolders-some start.law state start.numbers (clause_from_atoms (high_up u x high)) u [] (not (is_never high)) (up_holds (neg_ℤ x) high)
      (AreHolders-unused state.live (nat_abs u) start.new.unused u refl)

  top_after_hu : with_hu.top ≡ state.top + one_if (not (is_never high))
  top_after_hu =
      top-with_some state (clause_from_atoms (high_up u x high))
      ∙ ap (λ b. state.top + one_if b) (is_some-clause_from_atoms u (neg_ℤ x) (neg_atom high) ∙ ap not (is_always-neg_atom high))

  ups_after_lu : AreHolders with_lu.live u (ups_from high low (state.top + 1))
  ups_after_lu =
      let first : with_hu.top + 1 ≡ state.top + 1 + one_if (not (is_never high)) = omega (arith, top_after_hu) in
      subst (λ n. AreHolders with_lu.live u (option_to_list (given_if (not (is_never high)) (state.top + 1))
      ++ option_to_list (given_if (not (is_never low)) n))) first
      (AreHolders-some start.law with_hu numbers_hu (clause_from_atoms (low_up u x low)) u
      (option_to_list (given_if (not (is_never high)) (state.top + 1))) (not (is_never low)) (up_holds x low) ups_after_hu)

  ups_after_hd : AreHolders with_hd.live u (ups_from high low (state.top + 1))
  ups_after_hd =
      AreHolders-without start.law with_lu numbers_lu (clause_from_atoms (high_down u x high)) u (ups_from high low (state.top + 1))
      (without u (neg_ℤ u) (neg_ℤ x) high refl opposite.0 (abs_neg x) start.new.high_apart) ups_after_lu

  -- what holds of both clauses up holds of each clause with the variable's literal
  each_after_lu : (test : List ℤ → Bool) → ((up : List ℤ) → clause_from_atoms (high_up u x high) ≡ Some up → test up ≡ true)
      → ((up : List ℤ) → clause_from_atoms (low_up u x low) ≡ Some up → test up ≡ true) → EachHolder with_lu.live u test
  each_after_lu test hu lu =
      EachHolder-some start.law with_hu (clause_from_atoms (low_up u x low)) u test
      (EachHolder-some start.law state (clause_from_atoms (high_up u x high)) u test
      (EachHolder-unused state.live (nat_abs u) start.new.unused u test refl) (λ up is _. hu up is))
      (λ up is _. lu up is)

  each_after_hd : (test : List ℤ → Bool) → ((up : List ℤ) → clause_from_atoms (high_up u x high) ≡ Some up → test up ≡ true)
      → ((up : List ℤ) → clause_from_atoms (low_up u x low) ≡ Some up → test up ≡ true) → EachHolder with_hd.live u test
  each_after_hd test hu lu =
      EachHolder-some start.law with_lu (clause_from_atoms (high_down u x high)) u test (each_after_lu test hu lu)
      (λ down is holds.
      let none : list_any (int_eq u) down ≡ false =
      ap (if_live (list_any (int_eq u))) (sym is) ∙ without u (neg_ℤ u) (neg_ℤ x) high refl opposite.0 (abs_neg x) start.new.high_apart in
      cc)

  pub lu_definition : (clause : List ℤ) → clause_from_atoms (low_up u x low) ≡ Some clause → IsDefinition with_hu.live clause []
  lu_definition clause is =
      definition_of with_hu.live u (Of x ∷ neg_atom low ∷ []) clause [] is negated_after_hu
      (EachHolder-none with_hu.live (neg_ℤ u) (is_blocked_by (literals_of clause) u) negated_after_hu)

  pub hd_definition : (clause : List ℤ) → clause_from_atoms (high_down u x high) ≡ Some clause
      → IsDefinition with_lu.live clause (ups_from high low (state.top + 1))
  hd_definition clause is =
      let ids = ups_from high low (state.top + 1) in
      let test = is_blocked_by (literals_of clause) (neg_ℤ u) in
      definition_of with_lu.live (neg_ℤ u) (Of (neg_ℤ x) ∷ high ∷ []) clause ids is
      (subst (λ v. AreHolders with_lu.live v ids) (sym (neg_neg u)) ups_after_lu)
      (subst (λ v. EachHolder with_lu.live v test) (sym (neg_neg u)) (each_after_lu test
      (λ up at. blocked_by_child u (neg_ℤ x) (neg_ℤ x) high up clause start.new.high_apart at is)
      (λ up at. blocked_by_side u x (neg_ℤ x) (neg_atom low) high up clause start.new.apart refl at is)))

  pub ld_definition : (clause : List ℤ) → clause_from_atoms (low_down u x low) ≡ Some clause
      → IsDefinition with_hd.live clause (ups_from high low (state.top + 1))
  ld_definition clause is =
      let ids = ups_from high low (state.top + 1) in
      let test = is_blocked_by (literals_of clause) (neg_ℤ u) in
      definition_of with_hd.live (neg_ℤ u) (Of x ∷ low ∷ []) clause ids is
      (subst (λ v. AreHolders with_hd.live v ids) (sym (neg_neg u)) ups_after_hd)
      (subst (λ v. EachHolder with_hd.live v test) (sym (neg_neg u)) (each_after_hd test
      (λ up at. blocked_by_side u (neg_ℤ x) x (neg_atom high) low up clause (λ same. start.new.apart (sym (abs_neg x) ∙ same))
      (neg_neg x) at is)
      (λ up at. blocked_by_child u x x low up clause start.new.low_apart at is)))

  -- the numbers of the clauses up, as the calls that write them answer
  pub ups_are : {ids : List ℕ} {first second : Option ℕ} {hu lu : Option (List ℤ)} {after : State} → ids ≡ option_to_list first
      ++ option_to_list second
      → first ≡ given_if (is_some hu) (state.top + 1) → second ≡ given_if (is_some lu) (after.top + 1)
      → hu ≡ clause_from_atoms (high_up u x high) → lu ≡ clause_from_atoms (low_up u x low) → after ≡ with_hu → ids ≡ ups_from high low (state.top + 1)
  ups_are {hu = hu} {lu = lu} {after = after} are first_is second_is hu_is lu_is after_is =
      let some_hu : is_some hu ≡ not (is_never high) = ap is_some hu_is ∙ is_some-clause_from_atoms u (neg_ℤ x) (neg_atom high)
      ∙ ap not (is_always-neg_atom high) in
      let some_lu : is_some lu ≡ not (is_never low) = ap is_some lu_is ∙ is_some-clause_from_atoms u x (neg_atom low)
      ∙ ap not (is_always-neg_atom low) in
      let next : after.top + 1 ≡ state.top + 1 + one_if (not (is_never high)) = omega
      (arith, ap (λ (s : State). s.top) after_is, top_after_hu) in
      are ∙ (λ i. option_to_list (first_is i) ++ option_to_list (second_is i))
      ∙ (λ i. option_to_list (given_if (some_hu i) (state.top + 1)) ++ option_to_list (given_if (some_lu i) (next i)))

  -- so many numbers are given before the last clause
  pub top_after_hd : with_hd.top ≡ state.top + one_if (not (is_never high)) + one_if (not (is_never low)) + one_if (not (is_always high))
  top_after_hd =
      let lu : with_lu.top ≡ with_hu.top + one_if (not (is_never low)) =
      top-with_some with_hu (clause_from_atoms (low_up u x low)) ∙ ap (λ b. with_hu.top + one_if b) (is_some-clause_from_atoms u x (neg_atom low)
      ∙ ap not (is_always-neg_atom low)) in
      let hd : with_hd.top ≡ with_lu.top + one_if (not (is_always high)) =
      top-with_some with_lu (clause_from_atoms (high_down u x high)) ∙ ap (λ b. with_lu.top
      + one_if b) (is_some-clause_from_atoms (neg_ℤ u) (neg_ℤ x) high) in
      omega (arith, top_after_hu, lu, hd)
