-- The additions of a conjunction and of an implication close.
use Rattle.std.proofs.Common.{◌≡◌, true, ◌||◌, ℤ, neg_ℤ, List, [], ◌∷◌, Option, None, Some, refl, sym, ap, ◌∙◌}
use Rattle.std.specs.List.{list_any, list_all}
use Rattle.std.proofs.Math.IntN.{neg_ℤ-neg_ℤ}
use Rattle.std.proofs.lemmas.Bool.{and_parts, and_from, or_right}
use Rattle.lrat_rules.specs.Chain.{FalseSet, literals_of}
use Rattle.lrat_rules.specs.Soundness.{is_nonzero}
use Rattle.hint_chain.specs.declared.atom.Atom.{Atom}
use Rattle.hint_chain.specs.declared.atom.Atom.TheVariants.{Of}
use Rattle.hint_chain.specs.declared.part.Part.{Part}
use Rattle.hint_chain.specs.Atoms.{neg_atom, clause_from_atoms, is_false, is_literal}
use Rattle.hint_chain.specs.Greedy.{PartsClose}
use Rattle.hint_chain.specs.Closing.{IsConsistent, are_among, are_false_but, IsChildPart, leaves_atoms}
use Rattle.hint_chain.specs.Additions.{conjunction, implication, where_true, IsUpPart, IsDownPart, Justifies}
use Rattle.hint_chain.proofs.Sets.{is_nonzero-neg_ℤ, Grows, Grows-further}
use Rattle.hint_chain.proofs.ChildSteps.{is_false-kept, child_step, last_step}
use Rattle.hint_chain.proofs.AtomClauses.{neg_atom-neg_atom, all_kept, falsified, are_among-clause_from_atoms, only_first, up_leaves, down_leaves}

among_false_but : (n : FalseSet) (atoms : List Atom) (clause : List ℤ) → are_among atoms clause ≡ true → are_false_but n atoms clause ≡ true
among_false_but n atoms [] h = refl
among_false_but n atoms (x ∷ xs) h =
    let parts = and_parts (list_any (is_literal x) atoms) (are_among atoms xs) h in
    and_from (n x || list_any (is_literal x) atoms) (are_false_but n atoms xs) (or_right (n x) _ parts.0)
    (among_false_but n atoms xs parts.1)

justified_leaves : (n : FalseSet) (atoms : List Atom) (part : Option Part) → Justifies atoms part → leaves_atoms n atoms part ≡ true
justified_leaves n atoms None j = j.justified
justified_leaves n atoms (Some part) j = among_false_but n atoms part.clause j.justified

-- where the variable's literal of this side and the node are false, a part upwards makes the child false
up_step : (n : FalseSet) (side : ℤ) (node child : Atom) (part : Option Part) (parts : List (Option Part)) → IsConsistent n → n side ≡ true
    → is_false n node ≡ true
    → IsUpPart side node child part → ((m : FalseSet) → IsConsistent m → Grows n m → is_false m child ≡ true → PartsClose m parts)
    → PartsClose n (part ∷ parts)
up_step n side node child part parts consistent fs fn up more =
    child_step n (neg_atom child) part parts consistent (up_leaves n side node child part fs fn up)
    (λ m consistent' grows all. more m consistent' grows (ap (is_false m) (sym (neg_atom-neg_atom child))
    ∙ (and_parts (is_false m (neg_atom (neg_atom child))) true all).0))

-- a part downwards from a node that is true makes the child's negation false
down_step : (n : FalseSet) (side : ℤ) (node child : Atom) (part : Option Part) (parts : List (Option Part)) → IsConsistent n → n side ≡ true
    → is_false n (neg_atom node) ≡ true
    → IsDownPart side node child part → ((m : FalseSet) → IsConsistent m → Grows n m → is_false m (neg_atom child) ≡ true
    → PartsClose m parts) → PartsClose n (part ∷ parts)
down_step n side node child part parts consistent fs fn down more =
    child_step n child part parts consistent (down_leaves n side node child part fs fn down)
    (λ m consistent' grows all. more m consistent' grows (and_parts (is_false m (neg_atom child)) true all).0)

-- one side of a conjunction
pub conjunction_side : (n : FalseSet) (side : ℤ) (u v w u1 v1 h : Atom) (up down_u down_v last : Option Part) → IsConsistent n → n side ≡ true
    → list_all (is_false n) (conjunction u v w) ≡ true
    → IsUpPart side w h up → IsDownPart side u u1 down_u → IsDownPart side v v1 down_v → Justifies (conjunction u1 v1 h) last
    → PartsClose n (up ∷ down_u ∷ down_v ∷ last ∷ [])
conjunction_side n side u v w u1 v1 h up down_u down_v last consistent fs all is_up is_down_u is_down_v justified =
    let of_u = and_parts (is_false n (neg_atom u)) _ all in
    let of_v = and_parts (is_false n (neg_atom v)) _ of_u.1 in
    let of_w = and_parts (is_false n w) true of_v.1 in
    up_step n side w h up _ consistent fs of_w.0 is_up (λ m1 c1 g1 false_h.
    down_step m1 side u u1 down_u _ c1 (g1.kept side fs) (is_false-kept n m1 (neg_atom u) g1 of_u.0) is_down_u (λ m2 c2 g2 false_u1.
    let g12 = Grows-further n m1 m2 g1 g2 in
    down_step m2 side v v1 down_v _ c2 (g12.kept side fs) (is_false-kept n m2 (neg_atom v) g12 of_v.0) is_down_v (λ m3 c3 g3 false_v1.
    last_step m3 (conjunction u1 v1 h) last c3
    (and_from _ _ (is_false-kept m2 m3 (neg_atom u1) g3 false_u1)
    (and_from _ _ false_v1 (and_from _ true (is_false-kept m1 m3 h (Grows-further m1 m2 m3 g2 g3) false_h) refl)))
    (justified_leaves m3 (conjunction u1 v1 h) last justified))))

-- one side of an implication
pub implication_side : (n : FalseSet) (side : ℤ) (u v u1 v1 : Atom) (down_u up_v last : Option Part) → IsConsistent n → n side ≡ true
    → list_all (is_false n) (implication u v) ≡ true
    → IsDownPart side u u1 down_u → IsUpPart side v v1 up_v → Justifies (implication u1 v1) last → PartsClose n (down_u ∷ up_v ∷ last ∷ [])
implication_side n side u v u1 v1 down_u up_v last consistent fs all is_down is_up justified =
    let of_u = and_parts (is_false n (neg_atom u)) _ all in
    let of_v = and_parts (is_false n v) true of_u.1 in
    down_step n side u u1 down_u _ consistent fs of_u.0 is_down (λ m1 c1 g1 false_u1.
    up_step m1 side v v1 up_v _ c1 (g1.kept side fs) (is_false-kept n m1 v g1 of_v.0) is_up (λ m2 c2 g2 false_v1.
    last_step m2 (implication u1 v1) last c2
    (and_from _ _ (is_false-kept m1 m2 (neg_atom u1) g2 false_u1) (and_from _ true false_v1 refl))
    (justified_leaves m2 (implication u1 v1) last justified)))

-- the low side stands behind the addition of the high side, which makes the variable false
behind_high : (x : ℤ) (atoms : List Atom) (clause : List ℤ) (high : Part) (parts : List (Option Part)) → is_nonzero x ≡ true
    → clause_from_atoms (where_true x atoms) ≡ Some high.clause → clause_from_atoms atoms ≡ Some clause → IsConsistent (literals_of clause)
    → ((m : FalseSet) → IsConsistent m → m x ≡ true → list_all (is_false m) atoms ≡ true → PartsClose m parts)
    → PartsClose (literals_of clause) (Some high ∷ parts)
behind_high x atoms clause high parts nonzero is_high is_clause consistent more =
    let all : list_all (is_false (literals_of clause)) atoms ≡ true = falsified atoms clause is_clause in
    let leaves : IsChildPart (literals_of clause) (Of (neg_ℤ x)) (Some high) = record {
      nonzero = is_nonzero-neg_ℤ x nonzero;
      leaves = only_first (literals_of clause) (Of (neg_ℤ x)) atoms high.clause all
          (are_among-clause_from_atoms (where_true x atoms) high.clause is_high);
    } in
    child_step (literals_of clause) (Of (neg_ℤ x)) (Some high) parts consistent leaves
    (λ m consistent' grows false_x. more m consistent'
    (ap m (sym (neg_ℤ-neg_ℤ x)) ∙ (and_parts (m (neg_ℤ (neg_ℤ x))) true false_x).0)
    (all_kept (literals_of clause) m atoms grows all))

pub conjunction-high : (x : ℤ) (u v w u1 v1 h : Atom) (clause : List ℤ) (up down_u down_v last : Option Part)
    → clause_from_atoms (where_true x (conjunction u v w)) ≡ Some clause → IsConsistent (literals_of clause)
    → IsUpPart (neg_ℤ x) w h up → IsDownPart (neg_ℤ x) u u1 down_u → IsDownPart (neg_ℤ x) v v1 down_v → Justifies (conjunction u1 v1 h) last
    → PartsClose (literals_of clause) (up ∷ down_u ∷ down_v ∷ last ∷ [])
conjunction-high x u v w u1 v1 h clause up down_u down_v last is_clause consistent is_up is_down_u is_down_v justified =
    let all = and_parts (literals_of clause (neg_ℤ x)) _ (falsified (where_true x (conjunction u v w)) clause is_clause) in
    conjunction_side (literals_of clause) (neg_ℤ x) u v w u1 v1 h up down_u down_v last consistent all.0 all.1 is_up is_down_u is_down_v
    justified

pub conjunction-low : (x : ℤ) (u v w u0 v0 l : Atom) (clause : List ℤ) (high : Part) (up down_u down_v last : Option Part)
    → is_nonzero x ≡ true → clause_from_atoms (where_true x (conjunction u v w)) ≡ Some high.clause → clause_from_atoms (conjunction u v w) ≡ Some clause
    → IsConsistent (literals_of clause)
    → IsUpPart x w l up → IsDownPart x u u0 down_u → IsDownPart x v v0 down_v → Justifies (conjunction u0 v0 l) last
    → PartsClose (literals_of clause) (Some high ∷ up ∷ down_u ∷ down_v ∷ last ∷ [])
conjunction-low x u v w u0 v0 l clause high up down_u down_v last nonzero is_high is_clause consistent is_up is_down_u is_down_v justified =
    behind_high x (conjunction u v w) clause high (up ∷ down_u ∷ down_v ∷ last ∷ []) nonzero is_high is_clause consistent
    (λ m consistent' fx all. conjunction_side m x u v w u0 v0 l up down_u down_v last consistent' fx all is_up is_down_u is_down_v
    justified)

pub implication-high : (x : ℤ) (u v u1 v1 : Atom) (clause : List ℤ) (down_u up_v last : Option Part)
    → clause_from_atoms (where_true x (implication u v)) ≡ Some clause → IsConsistent (literals_of clause)
    → IsDownPart (neg_ℤ x) u u1 down_u → IsUpPart (neg_ℤ x) v v1 up_v → Justifies (implication u1 v1) last
    → PartsClose (literals_of clause) (down_u ∷ up_v ∷ last ∷ [])
implication-high x u v u1 v1 clause down_u up_v last is_clause consistent is_down is_up justified =
    let all = and_parts (literals_of clause (neg_ℤ x)) _ (falsified (where_true x (implication u v)) clause is_clause) in
    implication_side (literals_of clause) (neg_ℤ x) u v u1 v1 down_u up_v last consistent all.0 all.1 is_down is_up justified

pub implication-low : (x : ℤ) (u v u0 v0 : Atom) (clause : List ℤ) (high : Part) (down_u up_v last : Option Part)
    → is_nonzero x ≡ true → clause_from_atoms (where_true x (implication u v)) ≡ Some high.clause → clause_from_atoms (implication u v) ≡ Some clause
    → IsConsistent (literals_of clause)
    → IsDownPart x u u0 down_u → IsUpPart x v v0 up_v → Justifies (implication u0 v0) last
    → PartsClose (literals_of clause) (Some high ∷ down_u ∷ up_v ∷ last ∷ [])
implication-low x u v u0 v0 clause high down_u up_v last nonzero is_high is_clause consistent is_down is_up justified =
    behind_high x (implication u v) clause high (down_u ∷ up_v ∷ last ∷ []) nonzero is_high is_clause consistent
    (λ m consistent' fx all. implication_side m x u v u0 v0 down_u up_v last consistent' fx all is_down is_up justified)
