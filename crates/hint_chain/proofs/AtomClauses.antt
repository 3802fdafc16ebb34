-- Clauses over atoms: their literals are the atoms', and with the clause each atom is false.
use Rattle.std.proofs.Common.{◌≡◌, ◌≤◌, ◌++◌, length, is_some, arith, true, false, ◌||◌, ℤ, neg_ℤ, List, [], ◌∷◌, Option, None, Some, int_eq}
use Rattle.std.proofs.Common.{refl, sym, ap, ◌∙◌, subst, inl, inr}
use Rattle.std.specs.List.{list_any, list_all}
use Rattle.std.specs.Option.{option_map}
use Rattle.std.proofs.Math.IntN.{neg_ℤ-neg_ℤ}
use Rattle.std.proofs.lemmas.Bool.{or_parts, and_parts, and_from, or_cases, or_left, or_right}
use Rattle.lrat_rules.specs.Chain.{FalseSet, literals_of}
use Rattle.hint_chain.specs.declared.atom.Atom.{Atom}
use Rattle.hint_chain.specs.declared.atom.Atom.TheVariants.{Always, Never, Of}
use Rattle.hint_chain.specs.declared.part.Part.{Part}
use Rattle.hint_chain.specs.Atoms.{neg_atom, clause_from_atoms, is_false, is_literal, is_nonzero_atom, is_trivial}
use Rattle.hint_chain.specs.Closing.{are_among, are_false_but, leaves_child, IsChildPart}
use Rattle.hint_chain.specs.Additions.{part_clause, IsUpPart, IsDownPart}
use Rattle.hint_chain.specs.Step.{has_child}
use Rattle.hint_chain.proofs.Sets.{int_eq-true, int_eq-same, is_nonzero-neg_ℤ, Grows}
use Rattle.hint_chain.proofs.ChildSteps.{is_false-kept}

pub neg_atom-neg_atom : (atom : Atom) → neg_atom (neg_atom atom) ≡ atom
neg_atom-neg_atom Always = refl
neg_atom-neg_atom Never = refl
neg_atom-neg_atom (Of literal) = ap Of (neg_ℤ-neg_ℤ literal)

is_nonzero_atom-neg_atom : (atom : Atom) → is_nonzero_atom atom ≡ true → is_nonzero_atom (neg_atom atom) ≡ true
is_nonzero_atom-neg_atom Always h = refl
is_nonzero_atom-neg_atom Never h = refl
is_nonzero_atom-neg_atom (Of literal) h = is_nonzero-neg_ℤ literal h

-- the clause of a list that begins with a literal
record BeginsWith (literal : ℤ) (o : Option (List ℤ)) (clause : List ℤ) : Type 0 where
  rest : List ℤ
  found : o ≡ Some rest
  whole : literal ∷ rest ≡ clause

BeginsWith-from : (literal : ℤ) (o : Option (List ℤ)) (clause : List ℤ) → option_map (λ literals. literal ∷ literals) o ≡ Some clause
    → BeginsWith literal o clause
BeginsWith-from literal None clause e = cc
BeginsWith-from literal (Some rest) clause e = let whole : literal ∷ rest ≡ clause = cc in
    record { rest = rest; found = refl; whole = whole }

-- what a larger set keeps
pub all_kept : (n m : FalseSet) (atoms : List Atom) → Grows n m → list_all (is_false n) atoms ≡ true → list_all (is_false m) atoms ≡ true
all_kept n m [] g h = refl
all_kept n m (atom ∷ atoms) g h =
    let parts = and_parts (is_false n atom) (list_all (is_false n) atoms) h in
    and_from (is_false m atom) (list_all (is_false m) atoms) (is_false-kept n m atom g parts.0) (all_kept n m atoms g parts.1)

-- where the clause is false, so is each atom
pub falsified : (atoms : List Atom) (clause : List ℤ) → clause_from_atoms atoms ≡ Some clause → list_all (is_false (literals_of clause)) atoms
    ≡ true
falsified [] clause e = refl
falsified (Always ∷ atoms) clause e = cc
falsified (Never ∷ atoms) clause e = falsified atoms clause e
falsified (Of literal ∷ atoms) clause e =
    let begins : BeginsWith literal (clause_from_atoms atoms) clause = BeginsWith-from literal (clause_from_atoms atoms) clause e in
    let grows : Grows (literals_of begins.rest) (literals_of (literal ∷ begins.rest)) =
    record { kept = λ x h. or_right (int_eq x literal) (literals_of begins.rest x) h } in
    subst (λ c. list_all (is_false (literals_of c)) (Of literal ∷ atoms) ≡ true) begins.whole
    (and_from (literals_of (literal ∷ begins.rest) literal) _ (or_left (int_eq literal literal) _ (int_eq-same literal))
    (all_kept (literals_of begins.rest) (literals_of (literal ∷ begins.rest)) atoms grows (falsified atoms begins.rest begins.found)))

among_more : (atom : Atom) (atoms : List Atom) (clause : List ℤ) → are_among atoms clause ≡ true → are_among (atom ∷ atoms) clause ≡ true
among_more atom atoms [] h = refl
among_more atom atoms (x ∷ xs) h =
    let parts = and_parts (list_any (is_literal x) atoms) (are_among atoms xs) h in
    and_from (is_literal x atom || list_any (is_literal x) atoms) (are_among (atom ∷ atoms) xs) (or_right (is_literal x atom) _ parts.0)
    (among_more atom atoms xs parts.1)

-- the clause's literals are the atoms'
pub are_among-clause_from_atoms : (atoms : List Atom) (clause : List ℤ) → clause_from_atoms atoms ≡ Some clause → are_among atoms clause ≡ true
are_among-clause_from_atoms [] clause e = let none : [] ≡ clause = cc in subst (λ c. are_among [] c ≡ true) none refl
are_among-clause_from_atoms (Always ∷ atoms) clause e = cc
are_among-clause_from_atoms (Never ∷ atoms) clause e = among_more Never atoms clause (are_among-clause_from_atoms atoms clause e)
are_among-clause_from_atoms (Of literal ∷ atoms) clause e =
    let begins : BeginsWith literal (clause_from_atoms atoms) clause = BeginsWith-from literal (clause_from_atoms atoms) clause e in
    subst (λ c. are_among (Of literal ∷ atoms) c ≡ true) begins.whole
    (and_from (int_eq literal literal || list_any (is_literal literal) atoms) (are_among (Of literal ∷ atoms) begins.rest)
    (or_left (int_eq literal literal) _ (int_eq-same literal)) (among_more (Of literal) atoms begins.rest
    (are_among-clause_from_atoms atoms begins.rest begins.found)))

-- no clause has more literals than there are atoms
pub length-clause_from_atoms : (atoms : List Atom) (clause : List ℤ) → clause_from_atoms atoms ≡ Some clause → length clause ≤ length atoms
length-clause_from_atoms [] clause e = let none : [] ≡ clause = cc in subst (λ (c : List ℤ). length c ≤ 0) none (omega arith)
length-clause_from_atoms (Always ∷ atoms) clause e = cc
length-clause_from_atoms (Never ∷ atoms) clause e = omega (arith, length-clause_from_atoms atoms clause e)
length-clause_from_atoms (Of literal ∷ atoms) clause e =
    let begins : BeginsWith literal (clause_from_atoms atoms) clause = BeginsWith-from literal (clause_from_atoms atoms) clause e in
    subst (λ (c : List ℤ). length c ≤ length (Of literal ∷ atoms)) begins.whole
    (omega (arith, length-clause_from_atoms atoms begins.rest begins.found))

some_more : (literal : ℤ) (o : Option (List ℤ)) → is_some o ≡ true → is_some (option_map (λ literals. literal ∷ literals) o) ≡ true
some_more literal None e = cc
some_more literal (Some rest) e = refl

-- a clause is given unless it is true by itself
pub given-clause_from_atoms : (atoms : List Atom) → is_trivial atoms ≡ false → is_some (clause_from_atoms atoms) ≡ true
given-clause_from_atoms [] e = refl
given-clause_from_atoms (Always ∷ atoms) e = cc
given-clause_from_atoms (Never ∷ atoms) e = given-clause_from_atoms atoms e
given-clause_from_atoms (Of literal ∷ atoms) e =
    some_more literal (clause_from_atoms atoms) (given-clause_from_atoms atoms (or_parts (list_any (is_literal (neg_ℤ literal)) atoms)
    (is_trivial atoms) e).1)

-- the literal of a false atom is false
false_literal : (n : FalseSet) (atom : Atom) (x : ℤ) → is_false n atom ≡ true → is_literal x atom ≡ true → n x ≡ true
false_literal n Always x f h = cc
false_literal n Never x f h = cc
false_literal n (Of literal) x f h = ap n (int_eq-true x literal h) ∙ f

-- of a clause over a, b and c, only c may be open where a and b are false
only_last : (n : FalseSet) (a b c : Atom) (clause : List ℤ) → is_false n a ≡ true → is_false n b ≡ true → are_among (a ∷ b ∷ c ∷ []) clause
    ≡ true → are_false_but n (c ∷ []) clause ≡ true
only_last n a b c [] fa fb h = refl
only_last n a b c (x ∷ xs) fa fb h =
    let parts = and_parts (is_literal x a || (is_literal x b || (is_literal x c || false))) (are_among (a ∷ b ∷ c ∷ []) xs) h in
    and_from (n x || (is_literal x c || false)) (are_false_but n (c ∷ []) xs)
    (elim (or_cases (is_literal x a) (is_literal x b || (is_literal x c || false)) parts.0) [
      | inl at_a ↦ or_left (n x) (is_literal x c || false) (false_literal n a x fa at_a)
      | inr further ↦ elim (or_cases (is_literal x b) (is_literal x c || false) further) [
        | inl at_b ↦ or_left (n x) (is_literal x c || false) (false_literal n b x fb at_b)
        | inr at_c ↦ or_right (n x) (is_literal x c || false) at_c
      ]
    ])
    (only_last n a b c xs fa fb parts.1)

-- of a clause over a and others, only a may be open where the others are false
pub only_first : (n : FalseSet) (a : Atom) (atoms : List Atom) (clause : List ℤ) → list_all (is_false n) atoms ≡ true
    → are_among (a ∷ atoms) clause ≡ true → are_false_but n (a ∷ []) clause ≡ true
only_first n a atoms [] all h = refl
only_first n a atoms (x ∷ xs) all h =
    let parts = and_parts (is_literal x a || list_any (is_literal x) atoms) (are_among (a ∷ atoms) xs) h in
    and_from (n x || (is_literal x a || false)) (are_false_but n (a ∷ []) xs)
    (elim (or_cases (is_literal x a) (list_any (is_literal x) atoms) parts.0) [
      | inl first ↦ or_right (n x) (is_literal x a || false) (or_left (is_literal x a) false first)
      | inr other ↦ or_left (n x) (is_literal x a || false) (one_false atoms all other)
    ])
    (only_first n a atoms xs all parts.1) where
      one_false : (atoms : List Atom) → list_all (is_false n) atoms ≡ true → list_any (is_literal x) atoms ≡ true → n x ≡ true
      one_false [] all any = cc
      one_false (atom ∷ atoms) all any =
          let split = and_parts (is_false n atom) (list_all (is_false n) atoms) all in
          elim (or_cases (is_literal x atom) (list_any (is_literal x) atoms) any) [
            | inl here ↦ false_literal n atom x split.0 here
            | inr later ↦ one_false atoms split.1 later
          ]

-- a defining clause that doesn't exist has a child that always holds
child_always : (n : FalseSet) (a : Atom) (side : ℤ) (c : Atom) → is_false n a ≡ true → None ≡ clause_from_atoms (a ∷ Of side ∷ c ∷ [])
    → is_false n (neg_atom c) ≡ true
child_always n Always side c f e = cc
child_always n Never side Always f e = refl
child_always n Never side Never f e = cc
child_always n Never side (Of l) f e = cc
child_always n (Of k) side Always f e = refl
child_always n (Of k) side Never f e = cc
child_always n (Of k) side (Of l) f e = cc

leaves_defined : (n : FalseSet) (a : Atom) (side : ℤ) (c : Atom) (part : Option Part) → is_false n a ≡ true → n side ≡ true
    → part_clause part ≡ clause_from_atoms (a ∷ Of side ∷ c ∷ []) → leaves_child n c part ≡ true
leaves_defined n a side c None fa fs e = child_always n a side c fa e
leaves_defined n a side c (Some part) fa fs e = only_last n a (Of side) c part.clause fa fs
    (are_among-clause_from_atoms (a ∷ Of side ∷ c ∷ []) part.clause (sym e))

-- the parts of a node's defining clauses leave its child
pub up_leaves : (n : FalseSet) (side : ℤ) (node child : Atom) (part : Option Part) → n side ≡ true → is_false n node ≡ true
    → IsUpPart side node child part → IsChildPart n (neg_atom child) part
up_leaves n side node child part fs fn up = record {
  nonzero = is_nonzero_atom-neg_atom child up.nonzero;
  leaves = elim up.up [
    | inl defined ↦ leaves_defined n node side (neg_atom child) part fn fs defined
    | inr below ↦ subst (λ p. leaves_child n (neg_atom child) p ≡ true) (sym below.0) (ap (is_false n) (neg_atom-neg_atom child ∙ below.1)
        ∙ fn)
  ];
}

pub down_leaves : (n : FalseSet) (side : ℤ) (node child : Atom) (part : Option Part) → n side ≡ true → is_false n (neg_atom node) ≡ true
    → IsDownPart side node child part → IsChildPart n child part
down_leaves n side node child part fs fn down = record {
  nonzero = down.nonzero;
  leaves = elim down.down [
    | inl defined ↦ leaves_defined n (neg_atom node) side child part fn fs defined
    | inr below ↦ subst (λ p. leaves_child n child p ≡ true) (sym below.0) (ap (λ a. is_false n (neg_atom a)) below.1 ∙ fn)
  ];
}

has_further : (own : ℤ) (child : Atom) (clause : List ℤ) → has_child child clause ≡ true → has_child child (own ∷ clause) ≡ true
has_further own Always clause h = h
has_further own Never clause h = refl
has_further own (Of literal) clause h = or_right (int_eq literal own) (literals_of clause literal) h

-- the clause of atoms has the literal of the last one
pub has_last : (before : List Atom) (child : Atom) (clause : List ℤ) → clause_from_atoms (before ++ child ∷ []) ≡ Some clause
    → has_child child clause ≡ true
has_last [] Always clause e = cc
has_last [] Never clause e = refl
has_last [] (Of literal) clause e =
    let is : literal ∷ [] ≡ clause = cc in
    subst (λ c. literals_of c literal ≡ true) is (or_left (int_eq literal literal) false (int_eq-same literal))
has_last (Always ∷ before) child clause e = cc
has_last (Never ∷ before) child clause e = has_last before child clause e
has_last (Of own ∷ before) child clause e =
    let begins : BeginsWith own (clause_from_atoms (before ++ child ∷ [])) clause =
    BeginsWith-from own (clause_from_atoms (before ++ child ∷ [])) clause e in
    subst (λ c. has_child child c ≡ true) begins.whole (has_further own child begins.rest (has_last before child begins.rest begins.found))
