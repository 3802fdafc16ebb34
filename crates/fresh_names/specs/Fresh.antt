-- New names for the variables above the formula's: each time that such a variable comes into use, since no clause that stands holds it, it
-- gets the next name. So two variables that are in use have different names, and no name is given twice, whatever is deleted in between.
-- (drat-trim passes over deletions of unit clauses, so that it would mix two definitions of one variable: Rebola-Pardo, Cruz-Filipe:
-- Complete and Efficient DRAT Proof Checking, FMCAD 2018.)
use Rattle.std.specs.Prelude.{ℕ, ◌+◌, ◌-◌, Bool, true, false, ◌&&◌, ℤ, pos, negsuc, neg_ℤ, nat_abs, List, [], ◌∷◌, map, nat_eq, nat_lt}
use Rattle.std.specs.Prelude.{if◌then◌else◌}
use Rattle.drat_text.specs.declared.step.DratStep.{DratStep}
use Rattle.drat_text.specs.declared.step.DratStep.TheVariants.{Add as adds, Delete as deletes}

-- the name of each variable, how often the clauses that stand hold it, and the name that comes next
pub record Names : Type 0 where
  pub name : ℕ → ℕ
  pub uses : ℕ → ℕ
  pub next : ℕ

-- the variable is none of the formula's, and no clause holds it
abbrev pub is_new : ℕ → Names → ℕ → Bool
is_new vars names v = nat_lt vars v && nat_eq (names.uses v) 0

-- a value more for one variable
abbrev pub with_value : (ℕ → ℕ) → ℕ → ℕ → ℕ → ℕ
with_value f v value w = if nat_eq w v then value else f w

-- a literal of this variable comes: the variable has the next name, where it is new
abbrev pub entered_as : Bool → Names → ℕ → Names
entered_as true names v = record {
  name = with_value names.name v names.next;
  uses = with_value names.uses v (names.uses v + 1);
  next = names.next + 1;
}
entered_as false names v = record names { uses = with_value names.uses v (names.uses v + 1) }

abbrev pub entered : ℕ → Names → ℕ → Names
entered vars names v = entered_as (is_new vars names v) names v

-- a literal goes
abbrev pub left : Names → ℕ → Names
left names v = record names { uses = with_value names.uses v (names.uses v - 1) }

-- the literals of a clause, in turn
abbrev pub all_entered : ℕ → Names → List ℤ → Names
all_entered vars names [] = names
all_entered vars names (x ∷ xs) = all_entered vars (entered vars names (nat_abs x)) xs

abbrev pub all_left : Names → List ℤ → Names
all_left names [] = names
all_left names (x ∷ xs) = all_left (left names (nat_abs x)) xs

abbrev pub names_after : ℕ → Names → DratStep → Names
names_after vars names (adds clause) = all_entered vars names clause
names_after vars names (deletes clause) = all_left names clause

-- a literal by its variable's name
abbrev pub named : (ℕ → ℕ) → ℤ → ℤ
named name (pos v) = pos (name v)
named name (negsuc v) = neg_ℤ (pos (name (v + 1)))

abbrev pub named_step : (ℕ → ℕ) → DratStep → DratStep
named_step name (adds clause) = adds (map (named name) clause)
named_step name (deletes clause) = deletes (map (named name) clause)

abbrev pub fresh_from : ℕ → Names → List DratStep → List DratStep
fresh_from vars names [] = []
fresh_from vars names (step ∷ steps) =
    named_step (names_after vars names step).name step ∷ fresh_from vars (names_after vars names step) steps

-- at first each variable has its own name
abbrev pub first_names : ℕ → Names
first_names vars = record { name = λ v. v; uses = λ _. 0; next = vars + 1 }

-- the steps of a proof over a formula of so many variables, by the new names
abbrev pub fresh : ℕ → List DratStep → List DratStep
fresh vars steps = fresh_from vars (first_names vars) steps
