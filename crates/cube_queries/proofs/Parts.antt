-- More parts of functions, and fewer.
use Rattle.std.proofs.Common.{◌≡◌, ℕ, zero, suc, Bool, List, [], ◌∷◌, map, Contains, refl, ap}
use Rattle.std.proofs.Common.{◌⊎◌, arith, inl, inr}
use Rattle.node_table.specs.Value.{IsSubfunction, Levels}
use Rattle.bdd_terms.specs.Counting.{IsPartOfOne}
use Rattle.bdd_terms.specs.Parts.{AreMore}
use Rattle.cube_queries.specs.Width.{HaveMore}

-- those of some functions are those of more
part_within : (some all : List (Levels → Bool)) → ((f : Levels → Bool) → Contains some f → Contains all f) → (part : Levels → Bool)
    → IsPartOfOne some part → IsPartOfOne all part
part_within some all within part is = record { function = is.function; among = within is.function is.among; is_part = is.is_part }

pub more_within : (some all : List (Levels → Bool)) → ((f : Levels → Bool) → Contains some f → Contains all f) → (number : ℕ)
    → HaveMore some number → HaveMore all number
more_within some all within number have = record {
  parts = have.parts;
  more = have.more;
  are = λ place small. part_within some all within _ (have.are place small);
  essential = have.essential;
  differ = have.differ;
}

pub more_of_one : (all : List (Levels → Bool)) (f : Levels → Bool) → Contains all f → (number : ℕ) → AreMore (IsSubfunction f) number
    → HaveMore all number
more_of_one all f among number have = record {
  parts = have.parts;
  more = have.more;
  are = λ place small. record { function = f; among = among; is_part = have.are place small };
  essential = have.essential;
  differ = have.differ;
}

-- the first of a list, and those behind it
pub first_among : {X : Type 0} (x : X) (xs : List X) → Contains (x ∷ xs) x
first_among x xs = (0, omega arith, refl)

pub later_among : {X : Type 0} (x y : X) (xs : List X) → Contains xs y → Contains (x ∷ xs) y
later_among x y xs there = (suc there.0, omega (arith, there.1), there.2)

pub among_cases : {X : Type 0} (x y : X) (xs : List X) → Contains (x ∷ xs) y → (x ≡ y) ⊎ Contains xs y
among_cases x y xs (zero, small, at) = inl at
among_cases x y xs (suc k, small, at) = inr (k, omega (arith, small), at)

-- images of a list's elements
pub among_map : {X Y : Type 0} (f : X → Y) (xs : List X) (x : X) → Contains xs x → Contains (map f xs) (f x)
among_map f [] x there = absurd (omega (arith, there.1))
among_map f (y ∷ xs) x (zero, small, at) = (0, omega arith, ap f at)
among_map f (y ∷ xs) x (suc k, small, at) = later_among (f y) (f x) (map f xs) (among_map f xs x (k, omega (arith, small), at))

pub of_map : {X Y : Type 0} (f : X → Y) (xs : List X) (y : Y) → Contains (map f xs) y → (x : X) × Contains xs x × (f x ≡ y)
of_map f [] y there = absurd (omega (arith, there.1))
of_map f (x ∷ xs) y (zero, small, at) = (x, first_among x xs, at)
of_map f (x ∷ xs) y (suc k, small, at) =
    let was = of_map f xs y (k, omega (arith, small), at) in (was.0, later_among x was.0 xs was.1, was.2)
