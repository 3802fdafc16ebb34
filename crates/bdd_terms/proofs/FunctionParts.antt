-- Parts of one function and of several, and how many there are.
use Rattle.std.proofs.Common.{◌≡◌, ◌⊎◌, ◌∙◌, ◌<◌, ◌≤◌, ℕ, zero, suc, Bool, List, [], ◌∷◌, length, map, Contains, refl, sym, subst, arith}
use Rattle.std.proofs.Common.{inl, inr}
use Rattle.node_table.specs.Diagram.{Graph}
use Rattle.node_table.specs.Made.{MakesOnly, inner}
use Rattle.node_table.specs.Value.{IsSubfunction, Levels}
use Rattle.quantify.specs.RunsFor.{Kind, MakesOnlyOf}
use Rattle.quantify.specs.SomeValues.{function_of}
use Rattle.bdd_terms.specs.Counting.{IsPartOfOne}
use Rattle.bdd_terms.specs.Parts.{AreMore, HasAtMost, part_at}

-- more of one kind are more of another that has all of them
pub more_of : (some all : Kind) → ((part : Levels → Bool) → some part → all part) → (few number : ℕ) → few ≤ number → AreMore some number
    → AreMore all few
more_of some all within few number less more = record {
  parts = more.parts;
  more = let many = more.more in omega (arith, many, less);
  are = λ place small. within (part_at more.parts place) (more.are place small);
  essential = more.essential;
  differ = more.differ;
}

-- those of some functions are those of more
pub part_within : (some all : List (Levels → Bool)) → ((f : Levels → Bool) → Contains some f → Contains all f) → (part : Levels → Bool)
    → IsPartOfOne some part → IsPartOfOne all part
part_within some all within part is = record { function = is.function; among = within is.function is.among; is_part = is.is_part }

-- the first of a list, and those behind it
pub first_among : {X : Type 0} (x : X) (xs : List X) → Contains (x ∷ xs) x
first_among x xs = (0, omega arith, refl)

pub later_among : {X : Type 0} (x y : X) (xs : List X) → Contains xs y → Contains (x ∷ xs) y
later_among x y xs there = (suc there.0, omega (arith, there.1), there.2)

pub among_cases : {X : Type 0} (x y : X) (xs : List X) → Contains (x ∷ xs) y → (x ≡ y) ⊎ Contains xs y
among_cases x y xs (zero, small, at) = inl at
among_cases x y xs (suc k, small, at) = inr (k, omega (arith, small), at)

pub map_same : {X Y : Type 0} (f g : X → Y) (xs : List X) → ((x : X) → Contains xs x → f x ≡ g x) → map f xs ≡ map g xs
map_same f g [] same = refl
map_same f g (x ∷ xs) same =
    let one = same x (first_among x xs) in
    let rest = map_same f g xs (λ y there. same y (later_among x y xs there)) in
    λ i. one i ∷ rest i

-- those of one function alone
pub part_of_one : (f part : Levels → Bool) → IsPartOfOne (f ∷ []) part → IsSubfunction f part
part_of_one f part is = elim (among_cases f is.function [] is.among) [
  | inl same ↦ subst (λ (g : Levels → Bool). IsSubfunction g part) (sym same) is.is_part
  | inr none ↦ absurd (let small = none.1 in omega (arith, small))
]

pub one_part : (f : Levels → Bool) (all : List (Levels → Bool)) → Contains all f → (part : Levels → Bool) → IsSubfunction f part
    → IsPartOfOne all part
one_part f all among part is = record { function = f; among = among; is_part = is }

pub few_of_one : (f : Levels → Bool) (width : ℕ) → HasAtMost f width → AreMore (IsPartOfOne (f ∷ [])) width → ⊥
few_of_one f width most more = most (more_of (IsPartOfOne (f ∷ [])) (IsSubfunction f) (part_of_one f) width width (omega arith) more)

pub made_one : (old new : Graph) (f : Levels → Bool) → MakesOnly old new f → MakesOnlyOf old new (IsPartOfOne (f ∷ []))
made_one old new f made = record {
  each = λ key branch at. elim (made.each key branch at) [
    | inl was ↦ inl was
    | inr part ↦ inr (one_part f (f ∷ []) (first_among f []) (function_of new (inner key)) part)
  ];
}

-- a constant has no parts that matter
pub constant_few : (f : Levels → Bool) (b : Bool) → ((a : Levels) → f a ≡ b) → (width : ℕ) → HasAtMost f width
constant_few f b constant width more =
    let some : 0 < length more.parts = let many = more.more in omega (arith, many) in
    let is = more.are 0 some in
    more.essential 0 some b (λ a. is.same a ∙ constant _)

pub few_same : (f g : Levels → Bool) → ((a : Levels) → f a ≡ g a) → (width : ℕ) → HasAtMost f width → HasAtMost g width
few_same f g same width few = subst (λ (h : Levels → Bool). HasAtMost h width) (λ i a. same a i) few
