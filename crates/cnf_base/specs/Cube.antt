-- Cubes: literals that are assumed together. (Heule, Kullmann, Wieringa, Biere: Cube and Conquer, HVC 2011.)
use Rattle.std.specs.Prelude.{Bool, not, ℤ, neg_ℤ, List, map}
use Rattle.std.specs.List.{list_all, list_any}
use Rattle.std.specs.Ordering.{int_eq}
use Rattle.cnf_base.specs.Truth.{Assignment, literal_holds}

-- a cube holds where all its literals do
abbrev pub cube_holds : Assignment → List ℤ → Bool
cube_holds a cube = list_all (literal_holds a) cube

-- the literal's negation is among these
abbrev pub is_denied : ℤ → List ℤ → Bool
is_denied literal literals = list_any (int_eq (neg_ℤ literal)) literals

-- no literal of the cube stands beside its negation
abbrev pub is_consistent : List ℤ → Bool
is_consistent cube = list_all (λ literal. not (is_denied literal cube)) cube

-- the clause that forbids the cube: of the negations of its literals, in their order
abbrev pub forbidding : List ℤ → List ℤ
forbidding cube = map neg_ℤ cube
