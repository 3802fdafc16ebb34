-- The hints of a unit are a strict refutation: of a clause's top node, and of what follows from other units.
use Rattle.std.proofs.Common.{◌≡◌, ◌==◌, ℕ, true, false, ℤ, neg_ℤ, List, [], ◌∷◌, map, Some, nat_abs, int_eq, refl, sym, ap, ◌∙◌, subst}
use Rattle.std.proofs.Common.{inl, inr, ◌⊎◌, eq-eqb}
use Rattle.std.specs.List.{list_any, list_all}
use Rattle.std.proofs.Math.IntN.{neg_ℤ-neg_ℤ}
use Rattle.std.proofs.lemmas.Bool.{and_parts, and_from, or_cases, or_parts, or_from, or_left, or_right, both_ways, false_from_ne_true}
use Rattle.lrat_rules.specs.declared.outcome.Effect.TheVariants.{Conflict, Unit as Forced}
use Rattle.lrat_rules.specs.State.{Live, clause_at}
use Rattle.lrat_rules.specs.Chain.{FalseSet, literals_of, with_literal, outside, effect_of_outside, effect}
use Rattle.lrat_rules.specs.Strict.{is_strict}
use Rattle.hint_chain.specs.declared.atom.Atom.{Atom}
use Rattle.hint_chain.specs.declared.atom.Atom.TheVariants.{Of}
use Rattle.hint_chain.specs.declared.unit.UnitPart.{UnitPart}
use Rattle.hint_chain.specs.Atoms.{clause_from_atoms, is_false, is_literal}
use Rattle.hint_chain.specs.Closing.{are_apart, are_among}
use Rattle.hint_chain.specs.Additions.{conjunction, implication}
use Rattle.hint_chain.specs.Units.{unit_list, FalsifiesLiteral, FalsifiesNext, IsLinked, path_literals, IsUnitPath}
use Rattle.hint_chain.proofs.Sets.{int_eq-true, int_eq-same, nat_abs-neg_ℤ, Grows, Grows-with, with_literal-own, with_literal-other}
use Rattle.hint_chain.proofs.Sets.{has_variable, has_variable-neg_ℤ, absent, IsApart, IsApart-from}
use Rattle.hint_chain.proofs.StrictHints.{conflict_hint, forced_hint}
use Rattle.hint_chain.proofs.ChildSteps.{false_among}
use Rattle.hint_chain.proofs.AtomClauses.{all_kept, falsified}

-- the literals of these variables aren't in the set
pub record IsAbsent (n : FalseSet) (xs : List ℤ) : Type 0 where
  pub absent_ : (x : ℤ) → has_variable x xs ≡ true → n x ≡ false

has_own : (x : ℤ) (xs : List ℤ) → has_variable x (x ∷ xs) ≡ true
has_own x xs = or_left (nat_abs x == nat_abs x) (has_variable x xs) (eq-eqb (nat_abs x) (nat_abs x) refl)

has_own_negated : (x : ℤ) (xs : List ℤ) → has_variable (neg_ℤ x) (x ∷ xs) ≡ true
has_own_negated x xs = has_variable-neg_ℤ x (x ∷ xs) ∙ has_own x xs

-- a literal joins, whose variable is none of the others
IsAbsent-with : (n : FalseSet) (y : ℤ) (xs : List ℤ) → has_variable y xs ≡ false → IsAbsent n (y ∷ xs) → IsAbsent (with_literal y n) xs
IsAbsent-with n y xs other absent = record {
  absent_ = λ x has. with_literal-other n y x
      (λ same. both_ways (has_variable y xs) other (ap (λ z. has_variable z xs) (sym same) ∙ has))
      (absent.absent_ x (or_right (nat_abs x == nat_abs y) (has_variable x xs) has));
}

-- a clause of one literal that isn't false, and such clauses behind false literals
forced_alone : (n : FalseSet) (x : ℤ) → n x ≡ false → effect n (x ∷ []) ≡ Forced x
forced_alone n x open_ = rw open_ refl

forced_second : (n : FalseSet) (a x : ℤ) → n a ≡ true → n x ≡ false → effect n (a ∷ x ∷ []) ≡ Forced x
forced_second n a x fa open_ = rw (fa, open_) refl

forced_third : (n : FalseSet) (a b x : ℤ) → n a ≡ true → n b ≡ true → n x ≡ false → effect n (a ∷ b ∷ x ∷ []) ≡ Forced x
forced_third n a b x fa fb open_ = rw (fa, fb, open_) refl

conflict_all : (n : FalseSet) (clause : List ℤ) → list_all n clause ≡ true → effect n clause ≡ Conflict
conflict_all n clause all = ap effect_of_outside (none clause all) where
  none : (xs : List ℤ) → list_all n xs ≡ true → outside n xs ≡ []
  none [] h = refl
  none (x ∷ xs) h = let parts = and_parts (n x) (list_all n xs) h in rw (parts.0) (none xs parts.1)

-- each literal of the clause is false, or one of these
abbrev pub Covers : FalseSet → List ℤ → List ℤ → Type 0
Covers n clause literals = (x : ℤ) → literals_of clause x ≡ true → (n x ≡ true) ⊎ (literals_of literals x ≡ true)

all_covered : (n : FalseSet) (clause : List ℤ) → Covers n clause [] → list_all n clause ≡ true
all_covered n [] covers = refl
all_covered n (x ∷ xs) covers =
    and_from (n x) (list_all n xs)
    (elim (covers x (or_left (int_eq x x) (literals_of xs x) (int_eq-same x))) [ inl is ↦ is | inr none ↦ cc ])
    (all_covered n xs (λ y m. covers y (or_right (int_eq y x) (literals_of xs y) m)))

-- the literal at the head becomes false, or the set grows
covers_next : (n m : FalseSet) (clause literals : List ℤ) (x : ℤ) → Grows n m → m x ≡ true → Covers n clause (x ∷ literals)
    → Covers m clause literals
covers_next n m clause literals x grows here covers = λ y h. elim (covers y h) [
  | inl is ↦ inl (grows.kept y is)
  | inr among ↦ elim (or_cases (int_eq y x) (literals_of literals y) among) [
    | inl same ↦ inl (ap m (int_eq-true y x same) ∙ here)
    | inr later ↦ inr later
  ]
]

abbrev literals_on : List UnitPart → List ℤ
literals_on path = map (λ part. part.lit) path

-- the hint that makes a literal false
literal_hint : (live : Live) (n : FalseSet) (part : UnitPart) (node : ℤ) (others : List ℤ) (hints : List ℕ)
    → (link : FalsifiesLiteral live part node)
    → n node ≡ true → IsAbsent n (part.lit ∷ others) → is_strict live (with_literal part.lit n) hints ≡ true
    → is_strict live n (link.id ∷ hints) ≡ true
literal_hint live n part node others hints link fn absent rest =
    let back : neg_ℤ (neg_ℤ part.lit) ≡ part.lit = neg_ℤ-neg_ℤ part.lit in
    forced_hint live n link.id (node ∷ neg_ℤ part.lit ∷ []) (neg_ℤ part.lit) hints link.stands
    (forced_second n node (neg_ℤ part.lit) fn (absent.absent_ (neg_ℤ part.lit) (has_own_negated part.lit others)))
    (ap n back ∙ absent.absent_ part.lit (has_own part.lit others))
    (subst (λ l. is_strict live (with_literal l n) hints ≡ true) (sym back) rest)

-- the hint that makes the next node false
next_hint : (live : Live) (n : FalseSet) (part : UnitPart) (node next : ℤ) (others : List ℤ) (hints : List ℕ)
    → (link : FalsifiesNext live part node next)
    → n node ≡ true → n part.lit ≡ true → IsAbsent n (next ∷ others) → is_strict live (with_literal next n) hints ≡ true
    → is_strict live n (link.id ∷ hints) ≡ true
next_hint live n part node next others hints link fn fl absent rest =
    let back : neg_ℤ (neg_ℤ next) ≡ next = neg_ℤ-neg_ℤ next in
    forced_hint live n link.id (node ∷ part.lit ∷ neg_ℤ next ∷ []) (neg_ℤ next) hints link.stands
    (forced_third n node part.lit (neg_ℤ next) fn fl (absent.absent_ (neg_ℤ next) (has_own_negated next others)))
    (ap n back ∙ absent.absent_ next (has_own next others))
    (subst (λ l. is_strict live (with_literal l n) hints ≡ true) (sym back) rest)

-- from a node that is false, with the rest of the path still open
strict_path : (live : Live) (n : FalseSet) (part : UnitPart) (path : List UnitPart) (node : ℤ) (nodes clause : List ℤ) (input : ℕ)
    → IsLinked live (part ∷ path) (node ∷ nodes)
    → are_apart (part.lit ∷ path_literals path nodes) ≡ true → n node ≡ true → IsAbsent n (part.lit ∷ path_literals path nodes)
    → Covers n clause (literals_on (part ∷ path)) → clause_at live input ≡ Some clause → is_strict live n (unit_list (part ∷ path) input)
    ≡ true
strict_path live n part [] node [] clause input linked apart fn absent covers stands =
    let link = linked.0 in
    let m = with_literal part.lit n in
    rw (link.named, linked.1)
    (literal_hint live n part node [] (input ∷ []) link fn absent
    (conflict_hint live m input clause stands (conflict_all m clause (all_covered m clause
    (covers_next n m clause [] part.lit (Grows-with n part.lit) (with_literal-own n part.lit) covers)))))
strict_path live n part [] node (next ∷ nodes) clause input linked apart fn absent covers stands = absurd linked.2
strict_path live n part (after ∷ path) node [] clause input linked apart fn absent covers stands = absurd linked.2
strict_path live n part (after ∷ path) node (next ∷ nodes) clause input linked apart fn absent covers stands =
    let link = linked.0 in
    let step = linked.1 in
    let m = with_literal part.lit n in
    let k = with_literal next m in
    let rest = after.lit ∷ path_literals path nodes in
    let first : IsApart part.lit (next ∷ rest) = IsApart-from part.lit (next ∷ rest) apart in
    let second : IsApart next rest = IsApart-from next rest first.rest in
    let absent_m : IsAbsent m (next ∷ rest) = IsAbsent-with n part.lit (next ∷ rest) first.others absent in
    let absent_k : IsAbsent k rest = IsAbsent-with m next rest second.others absent_m in
    let grows : Grows n k = record { kept = λ x h. (Grows-with m next).kept x ((Grows-with n part.lit).kept x h) } in
    let false_lit : k part.lit ≡ true = (Grows-with m next).kept part.lit (with_literal-own n part.lit) in
    rw (link.named, step.named)
    (literal_hint live n part node (next ∷ rest) (step.id ∷ unit_list (after ∷ path) input) link fn absent
    (next_hint live m part node next rest (unit_list (after ∷ path) input) step ((Grows-with n part.lit).kept node fn)
    (with_literal-own n part.lit) absent_m
    (strict_path live k after path next nodes clause input linked.2 second.rest (with_literal-own m next) absent_k
    (covers_next n k clause (literals_on (after ∷ path)) part.lit grows false_lit covers) stands)))

pub unit-refutes : (live : Live) (path : List UnitPart) (node : ℤ) (nodes clause : List ℤ) (input : ℕ)
    → IsUnitPath live path (node ∷ nodes) clause
    → clause_at live input ≡ Some clause → is_strict live (literals_of (node ∷ [])) (unit_list path input) ≡ true
unit-refutes live [] node nodes clause input is stands = absurd is.linked
unit-refutes live (part ∷ path) node nodes clause input is stands =
    let rest = part.lit ∷ path_literals path nodes in
    let first : IsApart node rest = IsApart-from node rest is.apart in
    strict_path live (literals_of (node ∷ [])) part path node nodes clause input is.linked first.rest
    (or_left (int_eq node node) false (int_eq-same node))
    (record {
      absent_ = λ x has. or_from (int_eq x node) false
          (false_from_ne_true _ (λ same. both_ways (has_variable node rest) first.others
          (ap (λ z. has_variable z rest) (sym (int_eq-true x node same)) ∙ has))) refl;
    })
    (λ x h. inr (sym (is.exact x) ∙ h)) stands

-- each literal of a clause over false atoms is false
all_among : (n : FalseSet) (atoms : List Atom) (clause : List ℤ) → list_all (is_false n) atoms ≡ true → are_among atoms clause ≡ true
    → list_all n clause ≡ true
all_among n atoms [] all h = refl
all_among n atoms (x ∷ xs) all h =
    let parts = and_parts (list_any (is_literal x) atoms) (are_among atoms xs) h in
    and_from (n x) (list_all n xs) (false_among n atoms x all parts.0) (all_among n atoms xs all parts.1)

-- a unit whose literal isn't false, nor its negation
unit_hint : (live : Live) (n : FalseSet) (x : ℤ) (id : ℕ) (hints : List ℕ) → clause_at live id ≡ Some (x ∷ []) → n x ≡ false → n (neg_ℤ x)
    ≡ false
    → is_strict live (with_literal (neg_ℤ x) n) hints ≡ true → is_strict live n (id ∷ hints) ≡ true
unit_hint live n x id hints stands open_ new rest = forced_hint live n id (x ∷ []) x hints stands (forced_alone n x open_) new rest

pub implication_unit-refutes : (live : Live) (u : ℤ) (w : Atom) (clause justified : List ℤ) (unit_u id : ℕ) → clause_from_atoms (w ∷ [])
    ≡ Some clause → are_apart (u ∷ clause) ≡ true
    → clause_at live unit_u ≡ Some (u ∷ []) → clause_at live id ≡ Some justified → are_among (implication (Of u) w) justified ≡ true
    → is_strict live (literals_of clause) (unit_u ∷ id ∷ []) ≡ true
implication_unit-refutes live u w clause justified unit_u id is_clause apart stands_u stands among =
    let n = literals_of clause in
    let first : IsApart u clause = IsApart-from u clause apart in
    let m = with_literal (neg_ℤ u) n in
    unit_hint live n u unit_u (id ∷ []) stands_u (absent clause u first.others)
    (absent clause (neg_ℤ u) (has_variable-neg_ℤ u clause ∙ first.others))
    (conflict_hint live m id justified stands (conflict_all m justified (all_among m (implication (Of u) w) justified
    (and_from _ _ (with_literal-own n (neg_ℤ u)) (all_kept n m (w ∷ []) (Grows-with n (neg_ℤ u)) (falsified (w ∷ []) clause is_clause)))
    among)))

pub conjunction_unit-refutes : (live : Live) (u v : ℤ) (w : Atom) (clause justified : List ℤ) (unit_u unit_v id : ℕ) → clause_from_atoms (w ∷ [])
    ≡ Some clause → are_apart (u ∷ v ∷ clause) ≡ true
    → clause_at live unit_u ≡ Some (u ∷ []) → clause_at live unit_v ≡ Some (v ∷ []) → clause_at live id ≡ Some justified
    → are_among (conjunction (Of u) (Of v) w) justified ≡ true
    → is_strict live (literals_of clause) (unit_u ∷ unit_v ∷ id ∷ []) ≡ true
conjunction_unit-refutes live u v w clause justified unit_u unit_v id is_clause apart stands_u stands_v stands among =
    let n = literals_of clause in
    let first : IsApart u (v ∷ clause) = IsApart-from u (v ∷ clause) apart in
    let second : IsApart v clause = IsApart-from v clause first.rest in
    let differ = (or_parts (nat_abs u == nat_abs v) (has_variable u clause) first.others) in
    let m = with_literal (neg_ℤ u) n in
    let k = with_literal (neg_ℤ v) m in
    let grows : Grows n k = record { kept = λ x h. (Grows-with m (neg_ℤ v)).kept x ((Grows-with n (neg_ℤ u)).kept x h) } in
    let other : (x : ℤ) → nat_abs x ≡ nat_abs v → x ≡ neg_ℤ u → ⊥ = λ x same e. both_ways (nat_abs u == nat_abs v) differ.0
    (eq-eqb (nat_abs u) (nat_abs v) (sym (nat_abs-neg_ℤ u) ∙ sym (ap nat_abs e) ∙ same)) in
    unit_hint live n u unit_u (unit_v ∷ id ∷ []) stands_u (absent clause u differ.1)
    (absent clause (neg_ℤ u) (has_variable-neg_ℤ u clause ∙ differ.1))
    (unit_hint live m v unit_v (id ∷ []) stands_v
    (with_literal-other n (neg_ℤ u) v (other v refl) (absent clause v second.others))
    (with_literal-other n (neg_ℤ u) (neg_ℤ v) (other (neg_ℤ v) (nat_abs-neg_ℤ v))
    (absent clause (neg_ℤ v) (has_variable-neg_ℤ v clause ∙ second.others)))
    (conflict_hint live k id justified stands (conflict_all k justified (all_among k (conjunction (Of u) (Of v) w) justified
    (and_from _ _ ((Grows-with m (neg_ℤ v)).kept (neg_ℤ u) (with_literal-own n (neg_ℤ u)))
    (and_from _ _ (with_literal-own m (neg_ℤ v)) (all_kept n k (w ∷ []) grows (falsified (w ∷ []) clause is_clause)))) among))))
