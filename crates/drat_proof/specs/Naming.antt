-- By which names the steps are written that a conversion still has ahead: by their own, or by new ones for the variables above the
-- formula's (fresh_names).
use Rattle.std.specs.Prelude.{ℕ, Bool, true, false, List, [], ◌∷◌}
use Rattle.drat_text.specs.declared.step.DratStep.{DratStep}
use Rattle.fresh_names.specs.Fresh.{Names, names_after, named_step, fresh_from, first_names}
use Rattle.fresh_names.specs.Renaming.{names_of}
use Rattle.drat_proof.specs.declared.naming.Naming.{Naming}
use Rattle.drat_proof.specs.declared.naming.Naming.TheVariants.{Own, Fresh}

pub data NamesAhead : Type 0 where
  own_names : NamesAhead
  new_names : ℕ → Names → NamesAhead

-- at first; with new names over so many variables of the formula
abbrev pub names_at_first : Bool → ℕ → NamesAhead
names_at_first false vars = own_names
names_at_first true vars = new_names vars (first_names vars)

-- these of a conversion
abbrev pub names_ahead : Naming → NamesAhead
names_ahead Own = own_names
names_ahead (Fresh renaming) = new_names renaming.vars (names_of renaming)

-- the steps ahead by the names
abbrev pub named_by : NamesAhead → List DratStep → List DratStep
named_by own_names steps = steps
named_by (new_names vars names) steps = fresh_from vars names steps

-- behind a step
abbrev pub behind : NamesAhead → DratStep → NamesAhead
behind own_names step = own_names
behind (new_names vars names) step = new_names vars (names_after vars names step)

abbrev pub behind_all : NamesAhead → List DratStep → NamesAhead
behind_all names [] = names
behind_all names (step ∷ steps) = behind_all (behind names step) steps

-- a step by the names that stand behind it
abbrev pub step_by : NamesAhead → DratStep → DratStep
step_by own_names step = step
step_by (new_names vars names) step = named_step names.name step
