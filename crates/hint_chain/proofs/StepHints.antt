-- The hints of a step, part by part: what the clause of a child does, what is chosen from behind it, and the last part.
use Rattle.std.proofs.Common.{◌≡◌, ◌++◌, ℕ, Bool, true, false, cond, not, ◌||◌, ℤ, neg_ℤ, List, [], ◌∷◌, Option, None, Some, refl, sym, ap, ◌∙◌}
use Rattle.std.proofs.Common.{◌≤◌, ◌+◌, subst, inl, inr, int_eq, if◌then◌else◌, append_assoc, arith, length, length-append}
use Rattle.std.specs.List.{list_all}
use Rattle.std.specs.Option.{option_map}
use Rattle.std.proofs.Math.IntN.{neg_ℤ-neg_ℤ}
use Rattle.std.proofs.lemmas.Bool.{and_parts, and_from, or_cases, or_left, or_right, both_ways}
use Rattle.lrat_rules.specs.declared.outcome.Effect.TheVariants.{Conflict, Unit as Forced, NotUnit}
use Rattle.lrat_rules.specs.Chain.{FalseSet, literals_of, with_literal, outside, effect_of_outside, effect}
use Rattle.lrat_rules.specs.Soundness.{is_nonzero}
use Rattle.hint_chain.specs.declared.atom.Atom.{Atom}
use Rattle.hint_chain.specs.declared.atom.Atom.TheVariants.{Always, Never, Of}
use Rattle.hint_chain.specs.declared.part.Part.{Part}
use Rattle.hint_chain.specs.declared.step.ChildPart.{ChildPart}
use Rattle.hint_chain.specs.declared.step.StepParts.{StepParts}
use Rattle.hint_chain.specs.Atoms.{neg_atom, clause_from_atoms, is_false}
use Rattle.hint_chain.specs.Additions.{IsDownPart, IsUpPart, conjunction, implication, where_true}
use Rattle.hint_chain.specs.Closing.{IsConsistent, are_false_but}
use Rattle.hint_chain.specs.Greedy.{PartsClose, after_part, greedy}
use Rattle.hint_chain.specs.Step.{AreOfChild, GoesOn, IsConjunctionSide, IsImplicationSide, IsNamed, IsNumbered, IsOfChild, SideParts, Spells}
use Rattle.hint_chain.specs.Step.{falses_with, has_child, hints_with, parts_in}
use Rattle.hint_chain.proofs.Sets.{int_eq-true, int_eq-same, is_nonzero-neg_ℤ, Grows, Grows-with, with_literal-own, IsConsistent-with}
use Rattle.hint_chain.proofs.ChildSteps.{are_false_but-kept, all_outside, effect_outside, none_outside}
use Rattle.hint_chain.proofs.AtomClauses.{all_kept, falsified, has_last, up_leaves, down_leaves}
use Rattle.hint_chain.proofs.AdditionsClose.{conjunction_side, implication_side}

none_at_conflict : (xs : List ℤ) → effect_of_outside xs ≡ Conflict → xs ≡ []
none_at_conflict [] e = refl
none_at_conflict (x ∷ xs) e =
    elim (list_all (int_eq x) xs) as (λ b. (if b then Forced x else NotUnit) ≡ Conflict → x ∷ xs ≡ []) [ true ↦ λ h. cc | false ↦ λ h. cc ] e

-- a literal that isn't false is outside
some_outside : (n : FalseSet) (literal : ℤ) (clause : List ℤ) → literals_of clause literal ≡ true → n literal ≡ false → outside n clause
    ≡ [] → ⊥
some_outside n literal [] has open_ none = both_ways (literals_of [] literal) refl has
some_outside n literal (x ∷ xs) has open_ none =
    elim (n x) as (λ b. n x ≡ b → cond (not b) (x ∷ outside n xs) (outside n xs) ≡ [] → ⊥) [
      | true ↦ λ e left. elim (or_cases (int_eq literal x) (literals_of xs literal) has) [
        | inl here ↦ both_ways (n literal) open_ (ap n (int_eq-true literal x here) ∙ e)
        | inr later ↦ some_outside n literal xs later open_ left
      ]
      | false ↦ λ e left. cc
    ] refl none

-- what the clause of a child does: where its literal is false, where it isn't, and where it has none
module _ (n : FalseSet) (own : ChildPart) (part : Part) (of : IsOfChild n own part) where
  pub conflicts : (literal : ℤ) → own.child ≡ Of literal → n literal ≡ true → effect n part.clause ≡ Conflict
  conflicts literal is false_ =
      elim (effect_outside n own.child (outside n part.clause) (all_outside n own.child part.clause of.leaves)) [
        | inl conflict ↦ conflict
        | inr forces ↦
            let same : forces.literal ≡ literal = cc (forces.own, is) in
            absurd (both_ways (n literal) (ap n (sym same) ∙ forces.open_) false_)
      ]

  pub forces_own : (literal : ℤ) → own.child ≡ Of literal → n literal ≡ false → effect n part.clause ≡ Forced literal
  forces_own literal is open_ =
      elim (effect_outside n own.child (outside n part.clause) (all_outside n own.child part.clause of.leaves)) [
        | inl conflict ↦ absurd (some_outside n literal part.clause (subst (λ a. has_child a part.clause ≡ true) is of.has) open_
            (none_at_conflict (outside n part.clause) conflict))
        | inr forces ↦ let same : forces.literal ≡ literal = cc (forces.own, is) in forces.forced ∙ ap Forced same
      ]

  pub never_conflicts : own.child ≡ Never → effect n part.clause ≡ Conflict
  never_conflicts is =
      elim (effect_outside n own.child (outside n part.clause) (all_outside n own.child part.clause of.leaves)) [
        | inl conflict ↦ conflict
        | inr forces ↦ let none : ⊥ = cc (forces.own, is) in absurd none
      ]

  pub never_always : own.child ≡ Always → ⊥
  never_always is = both_ways (has_child Always part.clause) refl (subst (λ a. has_child a part.clause ≡ true) is of.has)

pub goes_on_none : (n : FalseSet) (hints : List ℕ) (part : Option Part) (rest : List (Option Part)) → AreOfChild n None part
    → GoesOn false hints hints n n part rest
goes_on_none n hints None rest of = refl
goes_on_none n hints (Some part) rest of = absurd of

pub goes_on_constant : (n : FalseSet) (hints : List ℕ) (own : ChildPart) (part : Option Part) (rest : List (Option Part))
    → ((literal : ℤ) → own.child ≡ Of literal → ⊥)
    → AreOfChild n (Some own) part → GoesOn true hints (hints ++ own.id ∷ []) n n part rest
goes_on_constant n hints own None rest other of = absurd of
goes_on_constant n hints own (Some part) rest other of =
    let effects : effect n part.clause ≡ Conflict = elim own.child as (λ a. own.child ≡ a → effect n part.clause ≡ Conflict) [
      | Always ↦ λ is. absurd (never_always n own part of is)
      | Never ↦ λ is. never_conflicts n own part of is
      | Of literal ↦ λ is. absurd (other literal is)
    ] refl in
    ap (λ e. option_map (λ more. hints ++ more) (after_part n part.id (λ m. greedy m rest) e)) effects
    ∙ ap (λ id. Some (hints ++ id ∷ [])) of.number

joined : (front : List ℕ) (id : ℕ) (o : Option (List ℕ)) → option_map (λ more. front ++ more) (option_map (λ ids. id ∷ ids) o)
    ≡ option_map (λ more. (front ++ id ∷ []) ++ more) o
joined front id None = refl
joined front id (Some more) = ap Some (sym (append_assoc front (id ∷ []) more))

pub goes_on_literal : (n : FalseSet) (hints : List ℕ) (own : ChildPart) (literal : ℤ) → own.child ≡ Of literal → (part : Option Part)
    (rest : List (Option Part)) → AreOfChild n (Some own) part
    → GoesOn (n literal) hints (hints_with (n literal) (n (neg_ℤ literal)) hints own.id) n
    (falses_with (n literal) (n (neg_ℤ literal)) literal n) part rest
goes_on_literal n hints own literal is None rest of = absurd of
goes_on_literal n hints own literal is (Some part) rest of =
    elim (n literal) as (λ b. n literal ≡ b → GoesOn b hints (hints_with b (n (neg_ℤ literal)) hints own.id) n
    (falses_with b (n (neg_ℤ literal)) literal n) (Some part) rest) [
      | true ↦ λ false_. ap (λ e. option_map (λ more. hints ++ more) (after_part n part.id (λ m. greedy m rest) e))
          (conflicts n own part of literal is false_)
          ∙ ap (λ id. Some (hints ++ id ∷ [])) of.number
      | false ↦ λ open_.
          let forced = ap (λ e. option_map (λ more. hints ++ more) (after_part n part.id (λ m. greedy m rest) e))
          (forces_own n own part of literal is open_) in
          elim (n (neg_ℤ literal)) as (λ k. n (neg_ℤ literal) ≡ k → GoesOn false hints (hints_with false k hints own.id) n
          (falses_with false k literal n) (Some part) rest) [
            | true ↦ λ known. forced ∙ ap (λ k. option_map (λ more. hints ++ more) (if k then greedy n rest else
                option_map (λ ids. part.id ∷ ids) (greedy (with_literal (neg_ℤ literal) n) rest))) known
            | false ↦ λ new. forced ∙ ap (λ k. option_map (λ more. hints ++ more) (if k then greedy n rest else
                option_map (λ ids. part.id ∷ ids) (greedy (with_literal (neg_ℤ literal) n) rest))) new
                ∙ joined hints part.id (greedy (with_literal (neg_ℤ literal) n) rest)
                ∙ ap (λ id. option_map (λ more. (hints ++ id ∷ []) ++ more) (greedy (with_literal (neg_ℤ literal) n) rest)) of.number
          ] refl
    ] refl

pub AreOfChild-kept : (n m : FalseSet) (own : Option ChildPart) (part : Option Part) → Grows n m → AreOfChild n own part
    → AreOfChild m own part
AreOfChild-kept n m None None g of = tt
AreOfChild-kept n m None (Some part) g of = of
AreOfChild-kept n m (Some own) None g of = of
AreOfChild-kept n m (Some own) (Some part) g of = record {
  number = of.number;
  leaves = are_false_but-kept n m (own.child ∷ []) part.clause g of.leaves;
  has = of.has;
}

-- a part that is a conflict, and one that isn't
pub ended : (conflict : Bool) (before after : List ℕ) (n m : FalseSet) (part : Option Part) (rest : List (Option Part)) → conflict ≡ true
    → GoesOn conflict before after n m part rest
    → option_map (λ more. before ++ more) (greedy n (part ∷ rest)) ≡ Some after
ended true before after n m part rest is goes = goes
ended false before after n m part rest is goes = cc

pub went_on : (conflict : Bool) (before after : List ℕ) (n m : FalseSet) (part : Option Part) (rest : List (Option Part)) → conflict ≡ false
    → GoesOn conflict before after n m part rest
    → option_map (λ more. before ++ more) (greedy n (part ∷ rest)) ≡ option_map (λ more. after ++ more) (greedy m rest)
went_on true before after n m part rest is goes = cc
went_on false before after n m part rest is goes = goes

-- A part that was taken: what is chosen from behind it, and what is false then.
pub record Took (conflict : Bool) (before after : List ℕ) (n m : FalseSet) (own : Option ChildPart) : Type 0 where
  pub goes_on : (part : Option Part) (rest : List (Option Part)) → AreOfChild n own part → GoesOn conflict before after n m part rest
  pub grows : (y : ℤ) → n y ≡ true → m y ≡ true

-- The parts of the children in turn, up to the first conflict.
module _ {b1 : Bool} {h0 h1 : List ℕ} {n0 n1 : FalseSet} (own : StepParts) (sides : SideParts) (spells : Spells n0 own sides)
    (one : Took b1 h0 h1 n0 n1 own.result) where
  pub ends_at_one : b1 ≡ true → option_map (λ more. h0 ++ more) (greedy n0 (parts_in sides)) ≡ Some h1
  ends_at_one is = ended b1 h0 h1 n0 n1 sides.result (sides.first ∷ sides.second ∷ sides.children ∷ []) is
      (one.goes_on sides.result (sides.first ∷ sides.second ∷ sides.children ∷ []) spells.result)

  after_one : b1 ≡ false → option_map (λ more. h0 ++ more) (greedy n0 (parts_in sides))
      ≡ option_map (λ more. h1 ++ more) (greedy n1 (sides.first ∷ sides.second ∷ sides.children ∷ []))
  after_one is = went_on b1 h0 h1 n0 n1 sides.result (sides.first ∷ sides.second ∷ sides.children ∷ []) is
      (one.goes_on sides.result (sides.first ∷ sides.second ∷ sides.children ∷ []) spells.result)

  module _ {b2 : Bool} {h2 : List ℕ} {n2 : FalseSet} (not_one : b1 ≡ false) (two : Took b2 h1 h2 n1 n2 own.first) where
    first_kept : AreOfChild n1 own.first sides.first
    first_kept = AreOfChild-kept n0 n1 own.first sides.first (record { kept = one.grows }) spells.first

    pub ends_at_two : b2 ≡ true → option_map (λ more. h0 ++ more) (greedy n0 (parts_in sides)) ≡ Some h2
    ends_at_two is = after_one not_one ∙ ended b2 h1 h2 n1 n2 sides.first (sides.second ∷ sides.children ∷ []) is
        (two.goes_on sides.first (sides.second ∷ sides.children ∷ []) first_kept)

    after_two : b2 ≡ false → option_map (λ more. h0 ++ more) (greedy n0 (parts_in sides))
        ≡ option_map (λ more. h2 ++ more) (greedy n2 (sides.second ∷ sides.children ∷ []))
    after_two is = after_one not_one ∙ went_on b2 h1 h2 n1 n2 sides.first (sides.second ∷ sides.children ∷ []) is
        (two.goes_on sides.first (sides.second ∷ sides.children ∷ []) first_kept)

    module _ {b3 : Bool} {h3 : List ℕ} {n3 : FalseSet} (not_two : b2 ≡ false) (three : Took b3 h2 h3 n2 n3 own.second) where
      second_kept : AreOfChild n2 own.second sides.second
      second_kept = AreOfChild-kept n1 n2 own.second sides.second (record { kept = two.grows })
          (AreOfChild-kept n0 n1 own.second sides.second (record { kept = one.grows }) spells.second)

      pub ends_at_three : b3 ≡ true → option_map (λ more. h0 ++ more) (greedy n0 (parts_in sides)) ≡ Some h3
      ends_at_three is = after_two not_two ∙ ended b3 h2 h3 n2 n3 sides.second (sides.children ∷ []) is
          (three.goes_on sides.second (sides.children ∷ []) second_kept)

      pub after_three : b3 ≡ false → option_map (λ more. h0 ++ more) (greedy n0 (parts_in sides))
          ≡ option_map (λ more. h3 ++ more) (greedy n3 (sides.children ∷ []))
      after_three is = after_two not_two ∙ went_on b3 h2 h3 n2 n3 sides.second (sides.children ∷ []) is
          (three.goes_on sides.second (sides.children ∷ []) second_kept)

-- the last part, where no other was a conflict
mapped_some : (front : List ℕ) (o : Option (List ℕ)) (hints : List ℕ) → option_map (λ more. front ++ more) o ≡ Some hints
    → (own : List ℕ) × (o ≡ Some own)
mapped_some front None hints e = cc
mapped_some front (Some own) hints e = (own, refl)

last_conflicts : (n : FalseSet) (id : ℕ) (last : Option Part) (hints : List ℕ) → IsNumbered (Some id) last
    → greedy n (last ∷ []) ≡ Some hints → greedy n (last ∷ []) ≡ Some (id ∷ [])
last_conflicts n id None hints numbered e = absurd numbered
last_conflicts n id (Some part) hints numbered e =
    elim (effect n part.clause) as (λ k. after_part n part.id (λ m. greedy m []) k ≡ Some hints
    → after_part n part.id (λ m. greedy m []) k ≡ Some (id ∷ [])) [
      | Conflict ↦ λ given. ap (λ k. Some (k ∷ [])) numbered
      | Forced literal ↦ λ given. absurd (unforced (n (neg_ℤ literal)) given)
      | NotUnit ↦ λ given. cc
    ] e where
      unforced : (b : Bool) → (if b then None else option_map (λ (ids : List ℕ). part.id ∷ ids) None) ≡ Some hints → ⊥
      unforced true h = cc
      unforced false h = cc

last_none : (n : FalseSet) (last : Option Part) (hints : List ℕ) → IsNumbered None last → greedy n (last ∷ []) ≡ Some hints → ⊥
last_none n None hints numbered e = cc
last_none n (Some part) hints numbered e = numbered

module _ (before after : List ℕ) (n m : FalseSet) (all : List (Option Part)) (last : Option Part) (closes : PartsClose n all)
    (goes : option_map (λ more. before ++ more) (greedy n all) ≡ option_map (λ more. after ++ more) (greedy m (last ∷ []))) where
  reached : (own : List ℕ) × (greedy m (last ∷ []) ≡ Some own)
  reached = mapped_some after (greedy m (last ∷ [])) (before ++ closes.hints)
      (sym goes ∙ ap (option_map (λ more. before ++ more)) closes.found)

  pub ends_at_last : (id : ℕ) → IsNumbered (Some id) last → option_map (λ more. before ++ more) (greedy n all) ≡ Some (after ++ id ∷ [])
  ends_at_last id numbered = goes ∙ ap (option_map (λ more. after ++ more)) (last_conflicts m id last reached.0 numbered reached.1)

  pub has_a_last : IsNumbered None last → ⊥
  has_a_last numbered = last_none m last reached.0 numbered reached.1

-- each literal of a clause is one of its literals
all_own : (clause : List ℤ) → are_false_but (literals_of clause) [] clause ≡ true
all_own [] = refl
all_own (x ∷ xs) =
    and_from (literals_of (x ∷ xs) x || false) (are_false_but (literals_of (x ∷ xs)) [] xs)
    (or_left (literals_of (x ∷ xs) x) false (or_left (int_eq x x) (literals_of xs x) (int_eq-same x)))
    (are_false_but-kept (literals_of xs) (literals_of (x ∷ xs)) [] xs
    (record { kept = λ y h. or_right (int_eq y x) (literals_of xs y) h }) (all_own xs))

-- the clause behind the negation of x forces that negation
pub behind_first : (id : ℕ) (x : ℤ) (clause : List ℤ) (rest : List (Option Part)) → literals_of clause x ≡ false
    → literals_of clause (neg_ℤ x) ≡ false
    → greedy (literals_of clause) (Some (record { id = id; clause = neg_ℤ x ∷ clause }) ∷ rest)
    ≡ option_map (λ ids. id ∷ ids) (greedy (with_literal x (literals_of clause)) rest)
behind_first id x clause rest new open_ =
    let n : FalseSet = literals_of clause in
    let more : FalseSet → Option (List ℕ) = λ m. greedy m rest in
    let effects : effect n (neg_ℤ x ∷ clause) ≡ Forced (neg_ℤ x) =
    ap (λ b. effect_of_outside (cond (not b) (neg_ℤ x ∷ outside n clause) (outside n clause))) open_
    ∙ ap (λ xs. effect_of_outside (neg_ℤ x ∷ xs)) (none_outside n [] clause refl (all_own clause)) in
    ap (after_part n id more) effects
    ∙ ap (λ y. if n y then more n else option_map (λ ids. id ∷ ids) (more (with_literal y n))) (neg_ℤ-neg_ℤ x)
    ∙ ap (λ b. if b then more n else option_map (λ ids. id ∷ ids) (more (with_literal x n))) new

pub none_before : (o : Option (List ℕ)) (hints : List ℕ) → option_map (λ more. [] ++ more) o ≡ Some hints → o ≡ Some hints
none_before None hints e = cc
none_before (Some own) hints e = e

-- what is kept of a defining clause is of its child
pub up_of_child : (n : FalseSet) (side : ℤ) (node child : Atom) (own : Option ChildPart) (part : Option Part) → n side ≡ true
    → is_false n node ≡ true
    → IsUpPart side node child part → IsNamed own part (neg_atom child) → AreOfChild n own part
up_of_child n side node child None None fs fn up named = tt
up_of_child n side node child None (Some part) fs fn up named = named
up_of_child n side node child (Some own) None fs fn up named = named
up_of_child n side node child (Some own) (Some part) fs fn up named = record {
  number = named.0;
  leaves = subst (λ a. are_false_but n (a ∷ []) part.clause ≡ true) (sym named.1) (up_leaves n side node child (Some part) fs fn up).leaves;
  has = subst (λ a. has_child a part.clause ≡ true) (sym named.1) (elim up.up [
    | inl defined ↦ has_last (node ∷ Of side ∷ []) (neg_atom child) part.clause (sym defined)
    | inr below ↦ let none : ⊥ = cc (below.0) in absurd none
  ]);
}

pub down_of_child : (n : FalseSet) (side : ℤ) (node child : Atom) (own : Option ChildPart) (part : Option Part) → n side ≡ true
    → is_false n (neg_atom node) ≡ true
    → IsDownPart side node child part → IsNamed own part child → AreOfChild n own part
down_of_child n side node child None None fs fn down named = tt
down_of_child n side node child None (Some part) fs fn down named = named
down_of_child n side node child (Some own) None fs fn down named = named
down_of_child n side node child (Some own) (Some part) fs fn down named = record {
  number = named.0;
  leaves = subst (λ a. are_false_but n (a ∷ []) part.clause ≡ true) (sym named.1) (down_leaves n side node child (Some part) fs fn down).leaves;
  has = subst (λ a. has_child a part.clause ≡ true) (sym named.1) (elim down.down [
    | inl defined ↦ has_last (neg_atom node ∷ Of side ∷ []) child part.clause (sym defined)
    | inr below ↦ let none : ⊥ = cc (below.0) in absurd none
  ]);
}

-- one side of a conjunction
conjunction_spells : (n : FalseSet) (side : ℤ) (u v w u1 v1 h : Atom) (own : StepParts) (sides : SideParts) → IsConsistent n → n side ≡ true
    → list_all (is_false n) (conjunction u v w) ≡ true → IsConjunctionSide side u v w u1 v1 h own sides → Spells n own sides
conjunction_spells n side u v w u1 v1 h own sides consistent fs all s =
    let of_u = and_parts (is_false n (neg_atom u)) _ all in
    let of_v = and_parts (is_false n (neg_atom v)) _ of_u.1 in
    let of_w = and_parts (is_false n w) true of_v.1 in record {
      closes = conjunction_side n side u v w u1 v1 h sides.result sides.first sides.second sides.children consistent fs all s.up s.first
          s.second s.children;
      result = up_of_child n side w h own.result sides.result fs of_w.0 s.up s.up_named;
      first = down_of_child n side u u1 own.first sides.first fs of_u.0 s.first s.first_named;
      second = down_of_child n side v v1 own.second sides.second fs of_v.0 s.second s.second_named;
      children = s.children_named;
    }

-- one side of an implication
implication_spells : (n : FalseSet) (side : ℤ) (u v u1 v1 : Atom) (own : StepParts) (sides : SideParts) → IsConsistent n → n side ≡ true
    → list_all (is_false n) (implication u v) ≡ true → IsImplicationSide side u v u1 v1 own sides → Spells n own sides
implication_spells n side u v u1 v1 own sides consistent fs all s =
    let of_u = and_parts (is_false n (neg_atom u)) _ all in
    let of_v = and_parts (is_false n v) true of_u.1 in
    let closes : PartsClose n (sides.first ∷ sides.second ∷ sides.children ∷ []) =
    implication_side n side u v u1 v1 sides.first sides.second sides.children consistent fs all s.first s.second s.children in record {
      closes = subst (λ (part : Option Part). PartsClose n (part ∷ sides.first ∷ sides.second ∷ sides.children ∷ [])) (sym s.no_result)
          (record { hints = closes.hints; found = closes.found });
      result = subst (λ (o : Option ChildPart). AreOfChild n o sides.result) (sym s.none_kept)
          (subst (λ (part : Option Part). AreOfChild n None part) (sym s.no_result) tt);
      first = down_of_child n side u u1 own.first sides.first fs of_u.0 s.first s.first_named;
      second = up_of_child n side v v1 own.second sides.second fs of_v.0 s.second s.second_named;
      children = s.children_named;
    }

-- where x is false, behind the high clause
with_false : (x : ℤ) (clause : List ℤ) → is_nonzero x ≡ true → IsConsistent (literals_of clause) → literals_of clause (neg_ℤ x) ≡ false
    → IsConsistent (with_literal x (literals_of clause))
with_false x clause nonzero consistent open_ =
    subst (λ (y : ℤ). IsConsistent (with_literal y (literals_of clause))) (neg_ℤ-neg_ℤ x)
    (IsConsistent-with (literals_of clause) (neg_ℤ x) consistent (is_nonzero-neg_ℤ x nonzero) open_)

pub conjunction_high : (x : ℤ) (u v w u1 v1 h : Atom) (clause : List ℤ) (own : StepParts) (sides : SideParts)
    → clause_from_atoms (where_true x (conjunction u v w)) ≡ Some clause → IsConsistent (literals_of clause)
    → IsConjunctionSide (neg_ℤ x) u v w u1 v1 h own sides → Spells (literals_of clause) own sides
conjunction_high x u v w u1 v1 h clause own sides is consistent s =
    let all = and_parts (literals_of clause (neg_ℤ x)) _ (falsified (where_true x (conjunction u v w)) clause is) in
    conjunction_spells (literals_of clause) (neg_ℤ x) u v w u1 v1 h own sides consistent all.0 all.1 s

pub conjunction_low : (x : ℤ) (u v w u0 v0 l : Atom) (clause : List ℤ) (own : StepParts) (sides : SideParts) → is_nonzero x ≡ true
    → clause_from_atoms (conjunction u v w) ≡ Some clause → IsConsistent (literals_of clause) → literals_of clause (neg_ℤ x) ≡ false
    → IsConjunctionSide x u v w u0 v0 l own sides → Spells (with_literal x (literals_of clause)) own sides
conjunction_low x u v w u0 v0 l clause own sides nonzero is consistent open_ s =
    conjunction_spells (with_literal x (literals_of clause)) x u v w u0 v0 l own sides (with_false x clause nonzero consistent open_)
    (with_literal-own (literals_of clause) x)
    (all_kept (literals_of clause) (with_literal x (literals_of clause)) (conjunction u v w) (Grows-with (literals_of clause) x)
    (falsified (conjunction u v w) clause is)) s

pub implication_high : (x : ℤ) (u v u1 v1 : Atom) (clause : List ℤ) (own : StepParts) (sides : SideParts)
    → clause_from_atoms (where_true x (implication u v)) ≡ Some clause → IsConsistent (literals_of clause)
    → IsImplicationSide (neg_ℤ x) u v u1 v1 own sides → Spells (literals_of clause) own sides
implication_high x u v u1 v1 clause own sides is consistent s =
    let all = and_parts (literals_of clause (neg_ℤ x)) _ (falsified (where_true x (implication u v)) clause is) in
    implication_spells (literals_of clause) (neg_ℤ x) u v u1 v1 own sides consistent all.0 all.1 s

pub implication_low : (x : ℤ) (u v u0 v0 : Atom) (clause : List ℤ) (own : StepParts) (sides : SideParts) → is_nonzero x ≡ true
    → clause_from_atoms (implication u v) ≡ Some clause → IsConsistent (literals_of clause) → literals_of clause (neg_ℤ x) ≡ false
    → IsImplicationSide x u v u0 v0 own sides → Spells (with_literal x (literals_of clause)) own sides
implication_low x u v u0 v0 clause own sides nonzero is consistent open_ s =
    implication_spells (with_literal x (literals_of clause)) x u v u0 v0 own sides (with_false x clause nonzero consistent open_)
    (with_literal-own (literals_of clause) x)
    (all_kept (literals_of clause) (with_literal x (literals_of clause)) (implication u v) (Grows-with (literals_of clause) x)
    (falsified (implication u v) clause is)) s

-- what was false stays so, and there is one hint more at most
pub falses_grow : (conflict known : Bool) (literal : ℤ) (n : FalseSet) (y : ℤ) → n y ≡ true → falses_with conflict known literal n y ≡ true
falses_grow true known literal n y is = is
falses_grow false true literal n y is = is
falses_grow false false literal n y is = or_right (int_eq y (neg_ℤ literal)) (n y) is

pub hints_few : (conflict known : Bool) (hints : List ℕ) (id : ℕ) → length (hints_with conflict known hints id) ≤ length hints + 1
hints_few true known hints id = omega (arith, length-append hints (id ∷ []))
hints_few false true hints id = omega arith
hints_few false false hints id = omega (arith, length-append hints (id ∷ []))
