-- One part of a hint list after another: a child's part is a conflict, or makes the child's negation false; the last
-- part is a conflict. The set of false literals stays consistent, and no case is made of constants.
use Rattle.std.proofs.Common.{◌≡◌, Bool, true, false, cond, not, ◌&&◌, ◌||◌, ℤ, neg_ℤ, List, [], ◌∷◌, ◌++◌, map, Option, None, Some}
use Rattle.std.proofs.Common.{if◌then◌else◌, int_eq, refl, sym, ap, ◌∙◌, subst, inl, inr, ◌⊎◌}
use Rattle.std.specs.List.{list_any, list_all}
use Rattle.std.proofs.lemmas.Bool.{and_parts, and_from, or_cases, or_left, or_right, both_ways, not-true}
use Rattle.lrat_rules.specs.declared.outcome.Effect.TheVariants.{Conflict, Unit as Forced, NotUnit}
use Rattle.lrat_rules.specs.Chain.{FalseSet, with_literal, outside, effect_of_outside, effect}
use Rattle.lrat_rules.specs.Soundness.{is_nonzero}
use Rattle.hint_chain.specs.declared.atom.Atom.{Atom}
use Rattle.hint_chain.specs.declared.atom.Atom.TheVariants.{Always, Never, Of}
use Rattle.hint_chain.specs.declared.part.Part.{Part}
use Rattle.hint_chain.specs.Atoms.{neg_atom, is_false, is_literal, is_nonzero_atom, is_trivial}
use Rattle.hint_chain.specs.Greedy.{PartsClose}
use Rattle.hint_chain.specs.Closing.{IsConsistent, are_false_but, leaves_child, IsChildPart, Child, AreChildParts, leaves_atoms, IsLastPart}
use Rattle.hint_chain.proofs.Sets.{int_eq-true, int_eq-same, Grows, Grows-same, Grows-further, Grows-with, with_literal-own}
use Rattle.hint_chain.proofs.Sets.{IsConsistent-with}

-- what a larger set keeps
pub is_false-kept : (n m : FalseSet) (atom : Atom) → Grows n m → is_false n atom ≡ true → is_false m atom ≡ true
is_false-kept n m Always g h = cc
is_false-kept n m Never g h = refl
is_false-kept n m (Of literal) g h = g.kept literal h

pub are_false_but-kept : (n m : FalseSet) (atoms : List Atom) (clause : List ℤ) → Grows n m → are_false_but n atoms clause ≡ true
    → are_false_but m atoms clause ≡ true
are_false_but-kept n m atoms [] g h = refl
are_false_but-kept n m atoms (x ∷ xs) g h =
    let parts = and_parts (n x || list_any (is_literal x) atoms) (are_false_but n atoms xs) h in
    and_from (m x || list_any (is_literal x) atoms) (are_false_but m atoms xs)
    (elim (or_cases (n x) (list_any (is_literal x) atoms) parts.0) [
      | inl here ↦ or_left (m x) (list_any (is_literal x) atoms) (g.kept x here)
      | inr among ↦ or_right (m x) (list_any (is_literal x) atoms) among
    ])
    (are_false_but-kept n m atoms xs g parts.1)

leaves_child-kept : (n m : FalseSet) (child : Atom) (part : Option Part) → Grows n m → leaves_child n child part ≡ true
    → leaves_child m child part ≡ true
leaves_child-kept n m child None g h = is_false-kept n m (neg_atom child) g h
leaves_child-kept n m child (Some part) g h = are_false_but-kept n m (child ∷ []) part.clause g h

pub IsChildPart-kept : (n m : FalseSet) (child : Atom) (part : Option Part) → Grows n m → IsChildPart n child part
    → IsChildPart m child part
IsChildPart-kept n m child part g c = record { nonzero = c.nonzero; leaves = leaves_child-kept n m child part g c.leaves }

AreChildParts-kept : (n m : FalseSet) (children : List Child) → Grows n m → AreChildParts n children → AreChildParts m children
AreChildParts-kept n m [] g are = tt
AreChildParts-kept n m (child ∷ children) g are = (
  IsChildPart-kept n m child.atom child.part g are.0,
  AreChildParts-kept n m children g are.1,
)

-- the literals that aren't false are the child's
pub all_outside : (n : FalseSet) (child : Atom) (clause : List ℤ) → are_false_but n (child ∷ []) clause ≡ true
    → list_all (λ x. not (n x) && is_literal x child) (outside n clause) ≡ true
all_outside n child [] h = refl
all_outside n child (x ∷ xs) h =
    let parts = and_parts (n x || (is_literal x child || false)) (are_false_but n (child ∷ []) xs) h in
    let rest : list_all (λ y. not (n y) && is_literal y child) (outside n xs) ≡ true = all_outside n child xs parts.1 in
    elim (n x) as (λ b. n x ≡ b → (b || (is_literal x child || false)) ≡ true
    → list_all (λ y. not (n y) && is_literal y child) (cond (not b) (x ∷ outside n xs) (outside n xs)) ≡ true) [
      | true ↦ λ e here. rest
      | false ↦ λ e here. and_from (not (n x) && is_literal x child) _
          (and_from (not (n x)) (is_literal x child) (ap not e) (only (is_literal x child) here)) rest
    ] refl parts.0 where
      only : (b : Bool) → (false || (b || false)) ≡ true → b ≡ true
      only true h = refl
      only false h = h

same_literals : (n : FalseSet) (literal : ℤ) (xs : List ℤ) → list_all (λ x. not (n x) && int_eq x literal) xs ≡ true
    → list_all (int_eq literal) xs ≡ true
same_literals n literal [] h = refl
same_literals n literal (x ∷ xs) h =
    let parts = and_parts (not (n x) && int_eq x literal) (list_all (λ y. not (n y) && int_eq y literal) xs) h in
    let same : x ≡ literal = int_eq-true x literal (and_parts (not (n x)) (int_eq x literal) parts.0).1 in
    and_from (int_eq literal x) _ (ap (int_eq literal) same ∙ int_eq-same literal) (same_literals n literal xs parts.1)

-- the part forces the child's literal
pub record ForcesChild (n : FalseSet) (child : Atom) (xs : List ℤ) : Type 0 where
  pub literal : ℤ
  pub own : child ≡ Of literal
  pub open_ : n literal ≡ false
  pub forced : effect_of_outside xs ≡ Forced literal

pub effect_outside : (n : FalseSet) (child : Atom) (xs : List ℤ) → list_all (λ x. not (n x) && is_literal x child) xs ≡ true
    → (effect_of_outside xs ≡ Conflict) ⊎ ForcesChild n child xs
effect_outside n child [] h = inl refl
effect_outside n Always (x ∷ xs) h = absurd (both_ways _ refl (and_parts (not (n x)) false (and_parts (not (n x) && false) _ h).0).1)
effect_outside n Never (x ∷ xs) h = absurd (both_ways _ refl (and_parts (not (n x)) false (and_parts (not (n x) && false) _ h).0).1)
effect_outside n (Of literal) (x ∷ xs) h =
    let parts = and_parts (not (n x) && int_eq x literal) (list_all (λ y. not (n y) && int_eq y literal) xs) h in
    let here = and_parts (not (n x)) (int_eq x literal) parts.0 in
    let same : x ≡ literal = int_eq-true x literal here.1 in
    let others : list_all (int_eq x) xs ≡ true = ap (λ y. list_all (int_eq y) xs) same ∙ same_literals n literal xs parts.1 in
    inr (record {
      literal = literal;
      own = refl;
      open_ = ap n (sym same)
          ∙ not-true (n x) here.0;
      forced = ap (λ b. if b then Forced x else NotUnit) others ∙ ap Forced same;
    })

-- the greedy choice from a part of this effect
closes_by_conflict : (n : FalseSet) (part : Part) (parts : List (Option Part)) → effect n part.clause ≡ Conflict
    → PartsClose n (Some part ∷ parts)
closes_by_conflict n part parts effects = record { hints = part.id ∷ []; found = rw effects refl }

closes_by_known : (n : FalseSet) (part : Part) (parts : List (Option Part)) (literal : ℤ) → effect n part.clause ≡ Forced literal
    → n (neg_ℤ literal) ≡ true
    → PartsClose n parts → PartsClose n (Some part ∷ parts)
closes_by_known n part parts literal effects known close = record { hints = close.hints; found = rw (effects, known) close.found }

closes_by_forced : (n : FalseSet) (part : Part) (parts : List (Option Part)) (literal : ℤ) → effect n part.clause ≡ Forced literal
    → n (neg_ℤ literal) ≡ false
    → PartsClose (with_literal (neg_ℤ literal) n) parts → PartsClose n (Some part ∷ parts)
closes_by_forced n part parts literal effects new close = record {
  hints = part.id
      ∷ close.hints;
  found = rw (effects, new, close.found) refl;
}

-- the choice closes from every consistent set that grew from this one and makes these atoms false
abbrev pub ClosesFrom : FalseSet → List Atom → List (Option Part) → Type 0
ClosesFrom n atoms parts = (m : FalseSet) → IsConsistent m → Grows n m → list_all (is_false m) atoms ≡ true → PartsClose m parts

-- a child's part: the step
pub child_step : (n : FalseSet) (child : Atom) (part : Option Part) (parts : List (Option Part)) → IsConsistent n → IsChildPart n child part
    → ClosesFrom n (neg_atom child ∷ []) parts → PartsClose n (part ∷ parts)
child_step n child None parts consistent c more =
    let close : PartsClose n parts = more n consistent (Grows-same n) (and_from (is_false n (neg_atom child)) true c.leaves refl) in
    record { hints = close.hints; found = close.found }
child_step n child (Some part) parts consistent c more =
    elim (effect_outside n child (outside n part.clause) (all_outside n child part.clause c.leaves)) [
      | inl conflict ↦ closes_by_conflict n part parts conflict
      | inr forces ↦
          let nonzero : is_nonzero forces.literal ≡ true = subst (λ a. is_nonzero_atom a ≡ true) forces.own c.nonzero in
          elim (n (neg_ℤ forces.literal)) as (λ b. n (neg_ℤ forces.literal) ≡ b → PartsClose n (Some part ∷ parts)) [
            | true ↦ λ known. closes_by_known n part parts forces.literal forces.forced known
                (more n consistent (Grows-same n) (and_from _ true
                (subst (λ a. is_false n (neg_atom a) ≡ true) (sym forces.own) known) refl))
            | false ↦ λ new. closes_by_forced n part parts forces.literal forces.forced new
                (more (with_literal (neg_ℤ forces.literal) n)
                (IsConsistent-with n forces.literal consistent nonzero forces.open_)
                (Grows-with n (neg_ℤ forces.literal))
                (and_from _ true (subst (λ a. is_false (with_literal (neg_ℤ forces.literal) n) (neg_atom a)
                ≡ true) (sym forces.own) (with_literal-own n (neg_ℤ forces.literal))) refl))
          ] refl
    ]

-- a literal of atoms that are all false is false
pub false_among : (n : FalseSet) (atoms : List Atom) (x : ℤ) → list_all (is_false n) atoms ≡ true → list_any (is_literal x) atoms ≡ true
    → n x ≡ true
false_among n [] x all any = cc
false_among n (Always ∷ atoms) x all any = cc
false_among n (Never ∷ atoms) x all any = false_among n atoms x all any
false_among n (Of literal ∷ atoms) x all any =
    let parts = and_parts (n literal) (list_all (is_false n) atoms) all in
    elim (or_cases (int_eq x literal) (list_any (is_literal x) atoms) any) [
      | inl here ↦ ap n (int_eq-true x literal here) ∙ parts.0
      | inr later ↦ false_among n atoms x parts.1 later
    ]

-- a clause that is true by itself has an atom that isn't false
not_trivial : (n : FalseSet) (atoms : List Atom) → IsConsistent n → list_all (is_false n) atoms ≡ true → is_trivial atoms ≡ true → ⊥
not_trivial n [] consistent all trivial = both_ways (is_trivial []) refl trivial
not_trivial n (Always ∷ atoms) consistent all trivial = both_ways (list_all (is_false n) (Always ∷ atoms)) refl all
not_trivial n (Never ∷ atoms) consistent all trivial = not_trivial n atoms consistent all trivial
not_trivial n (Of literal ∷ atoms) consistent all trivial =
    let parts = and_parts (n literal) (list_all (is_false n) atoms) all in
    elim (or_cases (list_any (is_literal (neg_ℤ literal)) atoms) (is_trivial atoms) trivial) [
      | inl opposite ↦ both_ways (n (neg_ℤ literal)) (consistent.apart literal parts.0)
          (false_among n atoms (neg_ℤ literal) parts.1 opposite)
      | inr later ↦ not_trivial n atoms consistent parts.1 later
    ]

pub none_outside : (n : FalseSet) (atoms : List Atom) (clause : List ℤ) → list_all (is_false n) atoms ≡ true → are_false_but n atoms clause
    ≡ true → outside n clause ≡ []
none_outside n atoms [] all h = refl
none_outside n atoms (x ∷ xs) all h =
    let parts = and_parts (n x || list_any (is_literal x) atoms) (are_false_but n atoms xs) h in
    let here : n x ≡ true = elim (or_cases (n x) (list_any (is_literal x) atoms) parts.0)
    [ inl is ↦ is | inr among ↦ false_among n atoms x all among ] in
    rw here (none_outside n atoms xs all parts.1)

-- the last part: a conflict
pub last_step : (n : FalseSet) (atoms : List Atom) (part : Option Part) → IsConsistent n → list_all (is_false n) atoms ≡ true
    → leaves_atoms n atoms part ≡ true → PartsClose n (part ∷ [])
last_step n atoms None consistent all h = absurd (not_trivial n atoms consistent all h)
last_step n atoms (Some part) consistent all h = closes_by_conflict n part []
    (ap effect_of_outside (none_outside n atoms part.clause all h))

pub leaves_atoms-kept : (n m : FalseSet) (atoms : List Atom) (part : Option Part) → Grows n m → leaves_atoms n atoms part ≡ true
    → leaves_atoms m atoms part ≡ true
leaves_atoms-kept n m atoms None g h = h
leaves_atoms-kept n m atoms (Some part) g h = are_false_but-kept n m atoms part.clause g h

-- the parts of many children
children_step : (n : FalseSet) (children : List Child) (parts : List (Option Part)) → IsConsistent n → AreChildParts n children
    → ClosesFrom n (map (λ child. neg_atom child.atom) children) parts → PartsClose n (map (λ child. child.part) children ++ parts)
children_step n [] parts consistent are more = more n consistent (Grows-same n) refl
children_step n (child ∷ children) parts consistent are more =
    child_step n child.atom child.part (map (λ c. c.part) children ++ parts) consistent are.0
    (λ m consistent' grows false_. children_step m children parts consistent' (AreChildParts-kept n m children grows are.1)
    (λ k consistent'' grows' falses. more k consistent'' (Grows-further n m k grows grows')
    (and_from _ _ (is_false-kept m k (neg_atom child.atom) grows' (and_parts (is_false m (neg_atom child.atom)) true false_).0) falses)))

pub closes-children : (n : FalseSet) (children : List Child) (last : Option Part) → IsConsistent n → AreChildParts n children
    → IsLastPart n (map (λ child. neg_atom child.atom) children) last → PartsClose n (map (λ child. child.part) children ++ last ∷ [])
closes-children n children last consistent are closes =
    children_step n children (last ∷ []) consistent are
    (λ m consistent' grows falses. last_step m (map (λ child. neg_atom child.atom) children) last consistent' falses
    (leaves_atoms-kept n m (map (λ child. neg_atom child.atom) children) last grows closes.leaves))

-- the same behind a first part that leaves one literal more
pub closes-behind : (n : FalseSet) (literal : ℤ) (first : Part) (children : List Child) (last : Option Part) → IsConsistent n
    → IsChildPart n (Of literal) (Some first)
    → AreChildParts (with_literal (neg_ℤ literal) n) children → IsLastPart (with_literal (neg_ℤ literal) n)
    (map (λ child. neg_atom child.atom) children) last
    → PartsClose n (Some first ∷ map (λ child. child.part) children ++ last ∷ [])
closes-behind n literal first children last consistent leaves are closes =
    child_step n (Of literal) (Some first) (map (λ child. child.part) children ++ last ∷ []) consistent leaves
    (λ m consistent' grows false_.
    let here : m (neg_ℤ literal) ≡ true = (and_parts (m (neg_ℤ literal)) true false_).0 in
    let grown : Grows (with_literal (neg_ℤ literal) n) m = record {
      kept = λ x h. elim (or_cases (int_eq x (neg_ℤ literal)) (n x) h) [
        | inl same ↦ ap m (int_eq-true x (neg_ℤ literal) same)
            ∙ here
        | inr before ↦ grows.kept x before
      ];
    } in
    closes-children m children last consistent' (AreChildParts-kept (with_literal (neg_ℤ literal) n) m children grown are)
    (record {
      leaves = leaves_atoms-kept (with_literal (neg_ℤ literal) n) m
          (map (λ child. neg_atom child.atom) children) last grown closes.leaves;
    }))
