-- How often the clauses that stand hold a variable, as clauses come and go; so the variables of those that stand are known.
use Rattle.std.proofs.Common.{◌≡◌, ℕ, ◌+◌, ◌-◌, ◌<◌, ◌≤◌, Bool, true, false, not, ◌||◌, ℤ, List, [], ◌∷◌, ◌++◌}
use Rattle.std.proofs.Common.{inl, inr, if◌then◌else◌, nat_eq, refl, sym, ap, ◌∙◌, arith}
use Rattle.std.specs.Prelude.{nat_abs}
use Rattle.std.specs.List.{list_all}
use Rattle.std.proofs.lemmas.Bool.{and_parts, and_from, cases_lt}
use Rattle.std.proofs.lemmas.Bool.Decides.{Decides-eqb, Decides-int_eq}
use Rattle.drat_rules.specs.Clauses.{same_list, is_among, without_first}
use Rattle.fresh_names.specs.Fresh.{Names, is_new, with_value, entered_as, entered, left, all_entered, all_left}
use Rattle.fresh_names.proofs.Given.{AreGiven, IsKnown, not-new, is-known, given-all_entered, given-all_left}

-- how often a clause holds a variable, and clauses
abbrev pub one_if : Bool → ℕ
one_if true = 1
one_if false = 0

abbrev pub held_in : ℕ → List ℤ → ℕ
held_in v [] = 0
held_in v (x ∷ xs) = one_if (nat_eq v (nat_abs x)) + held_in v xs

abbrev pub held : ℕ → List (List ℤ) → ℕ
held v [] = 0
held v (c ∷ cs) = held_in v c + held v cs

held-last : (v : ℕ) (cs : List (List ℤ)) (c : List ℤ) → held v (cs ++ c ∷ []) ≡ held v cs + held_in v c
held-last v [] c = let one : held_in v c + 0 ≡ 0 + held_in v c = omega arith in one
held-last v (d ∷ ds) c =
    let rest : held v (ds ++ c ∷ []) ≡ held v ds + held_in v c = held-last v ds c in
    let all : held_in v d + held v (ds ++ c ∷ []) ≡ (held_in v d + held v ds) + held_in v c = omega arith in
    all

value-more : (f : ℕ → ℕ) (u v : ℕ) → with_value f u (f u + 1) v ≡ f v + one_if (nat_eq v u)
value-more f u v = elim (nat_eq v u) as (λ b. nat_eq v u ≡ b → (if b then f u + 1 else f v) ≡ f v + one_if b) [
  | true ↦ λ e. ap (λ k. f k + 1) (sym ((Decides-eqb v u).0 e))
  | false ↦ λ _. omega arith
] refl

value-less : (f : ℕ → ℕ) (u v : ℕ) → with_value f u (f u - 1) v ≡ f v - one_if (nat_eq v u)
value-less f u v = elim (nat_eq v u) as (λ b. nat_eq v u ≡ b → (if b then f u - 1 else f v) ≡ f v - one_if b) [
  | true ↦ λ e. ap (λ k. f k - 1) (sym ((Decides-eqb v u).0 e))
  | false ↦ λ _. omega arith
] refl

uses-as : (b : Bool) (names : Names) (u v : ℕ) → (entered_as b names u).uses v ≡ with_value names.uses u (names.uses u + 1) v
uses-as true names u v = refl
uses-as false names u v = refl

pub uses-entered : (vars : ℕ) (names : Names) (clause : List ℤ) (v : ℕ)
    → (all_entered vars names clause).uses v ≡ names.uses v + held_in v clause
uses-entered vars names [] v = omega arith
uses-entered vars names (x ∷ xs) v =
    let rest : (all_entered vars (entered vars names (nat_abs x)) xs).uses v
    ≡ (entered vars names (nat_abs x)).uses v + held_in v xs = uses-entered vars (entered vars names (nat_abs x)) xs v in
    let one : (entered vars names (nat_abs x)).uses v ≡ names.uses v + one_if (nat_eq v (nat_abs x)) =
    uses-as (is_new vars names (nat_abs x)) names (nat_abs x) v ∙ value-more names.uses (nat_abs x) v in
    let together : (names.uses v + one_if (nat_eq v (nat_abs x))) + held_in v xs
    ≡ names.uses v + (one_if (nat_eq v (nat_abs x)) + held_in v xs) = omega arith in
    rest ∙ ap (λ k. k + held_in v xs) one ∙ together

pub uses-left : (names : Names) (clause : List ℤ) (v : ℕ) → (all_left names clause).uses v ≡ names.uses v - held_in v clause
uses-left names [] v = omega arith
uses-left names (x ∷ xs) v =
    let rest : (all_left (left names (nat_abs x)) xs).uses v ≡ (left names (nat_abs x)).uses v - held_in v xs =
    uses-left (left names (nat_abs x)) xs v in
    let one : (left names (nat_abs x)).uses v ≡ names.uses v - one_if (nat_eq v (nat_abs x)) = value-less names.uses (nat_abs x) v in
    let together : (names.uses v - one_if (nat_eq v (nat_abs x))) - held_in v xs
    ≡ names.uses v - (one_if (nat_eq v (nat_abs x)) + held_in v xs) = omega arith in
    rest ∙ ap (λ k. k - held_in v xs) one ∙ together

pub name-left : (names : Names) (clause : List ℤ) → (all_left names clause).name ≡ names.name
name-left names [] = refl
name-left names (x ∷ xs) = name-left (left names (nat_abs x)) xs

-- the names in use are given, and are those of the clauses that stand
pub record AreNames (vars : ℕ) (clauses : List (List ℤ)) (names : Names) : Type 0 where
  pub given : AreGiven vars names
  pub counted : (v : ℕ) → vars < v → names.uses v ≡ held v clauses

pub names-added : (vars : ℕ) (clauses : List (List ℤ)) (names : Names) (clause : List ℤ) → AreNames vars clauses names
    → AreNames vars (clauses ++ clause ∷ []) (all_entered vars names clause)
names-added vars clauses names clause are = record {
  given = given-all_entered vars names clause are.given;
  counted = λ v past.
      let now : (all_entered vars names clause).uses v ≡ names.uses v + held_in v clause = uses-entered vars names clause v in
      let was : names.uses v ≡ held v clauses = are.counted v past in
      let all : held v (clauses ++ clause ∷ []) ≡ held v clauses + held_in v clause = held-last v clauses clause in
      omega arith;
}

-- a clause that stands goes
pub same_list-true : (c d : List ℤ) → same_list c d ≡ true → c ≡ d
same_list-true [] [] h = refl
same_list-true [] (y ∷ ys) h = cc
same_list-true (x ∷ xs) [] h = cc
same_list-true (x ∷ xs) (y ∷ ys) h =
    let parts = and_parts _ _ h in
    λ i. (Decides-int_eq x y).0 parts.0 i ∷ same_list-true xs ys parts.1 i

held-without : (v : ℕ) (clauses : List (List ℤ)) (clause : List ℤ) → is_among clauses clause ≡ true
    → held v (without_first clause clauses) + held_in v clause ≡ held v clauses
held-without v [] clause among = cc
held-without v (other ∷ clauses) clause among =
    elim (same_list clause other)
    as (λ b. same_list clause other ≡ b → (b || is_among clauses clause) ≡ true
    → held v (if b then clauses else other ∷ without_first clause clauses) + held_in v clause ≡ held_in v other + held v clauses) [
      | true ↦ λ same _.
          let is : held_in v clause ≡ held_in v other = ap (held_in v) (same_list-true clause other same) in
          let together : held v clauses + held_in v clause ≡ held_in v other + held v clauses = omega arith in
          together
      | false ↦ λ _ later.
          let rest : held v (without_first clause clauses) + held_in v clause ≡ held v clauses = held-without v clauses clause later in
          let together : (held_in v other + held v (without_first clause clauses)) + held_in v clause ≡ held_in v other + held v clauses =
          omega arith in
          together
    ] refl among

pub names-deleted : (vars : ℕ) (clauses : List (List ℤ)) (names : Names) (clause : List ℤ) → AreNames vars clauses names
    → is_among clauses clause ≡ true → AreNames vars (without_first clause clauses) (all_left names clause)
names-deleted vars clauses names clause are among = record {
  given = given-all_left vars names clause are.given;
  counted = λ v past.
      let now : (all_left names clause).uses v ≡ names.uses v - held_in v clause = uses-left names clause v in
      let was : names.uses v ≡ held v clauses = are.counted v past in
      let all : held v (without_first clause clauses) + held_in v clause ≡ held v clauses = held-without v clauses clause among in
      omega arith;
}

-- what the clauses hold is known
abbrev pub known_literal : ℕ → Names → ℤ → Bool
known_literal vars names x = not (is_new vars names (nat_abs x))

known-literal : (vars : ℕ) (names : Names) (x : ℤ) → IsKnown vars names (nat_abs x) → known_literal vars names x ≡ true
known-literal vars names x known = ap not (not-new vars names (nat_abs x) known)

not-true : (b : Bool) → not b ≡ true → b ≡ false
not-true true h = sym h
not-true false h = refl

pub literal-known : (vars : ℕ) (names : Names) (x : ℤ) → known_literal vars names x ≡ true → IsKnown vars names (nat_abs x)
literal-known vars names x h = is-known vars names (nat_abs x) (not-true _ h)

known-list : (vars : ℕ) (names : Names) (xs : List ℤ) → ((v : ℕ) → vars < v → held_in v xs ≤ names.uses v)
    → list_all (known_literal vars names) xs ≡ true
known-list vars names [] most = refl
known-list vars names (x ∷ xs) most =
    and_from _ _
    (known-literal vars names x (elim (cases_lt vars (nat_abs x)) [
      | inl past ↦
          let here : one_if (nat_eq (nat_abs x) (nat_abs x)) ≡ 1 =
          ap one_if ((Decides-eqb (nat_abs x) (nat_abs x)).1 refl) in
          let all : one_if (nat_eq (nat_abs x) (nat_abs x)) + held_in (nat_abs x) xs ≤ names.uses (nat_abs x) = most (nat_abs x) past in
          inr (omega arith)
      | inr own ↦ inl own
    ]))
    (known-list vars names xs (λ v past.
    let all : one_if (nat_eq v (nat_abs x)) + held_in v xs ≤ names.uses v = most v past in omega arith))

known-lists : (vars : ℕ) (names : Names) (clauses : List (List ℤ)) → ((v : ℕ) → vars < v → held v clauses ≤ names.uses v)
    → list_all (list_all (known_literal vars names)) clauses ≡ true
known-lists vars names [] most = refl
known-lists vars names (c ∷ cs) most =
    and_from _ _
    (known-list vars names c (λ v past. let all : held_in v c + held v cs ≤ names.uses v = most v past in omega arith))
    (known-lists vars names cs (λ v past. let all : held_in v c + held v cs ≤ names.uses v = most v past in omega arith))

pub all-known : (vars : ℕ) (clauses : List (List ℤ)) (names : Names) → AreNames vars clauses names
    → list_all (list_all (known_literal vars names)) clauses ≡ true
all-known vars clauses names are =
    known-lists vars names clauses (λ v past. let is : names.uses v ≡ held v clauses = are.counted v past in omega arith)
