-- A list of steps can be a model's value: a step is stored as its fields.
use Rattle.std.proofs.Common.{inl, inr}
use Rattle.std.specs.Prelude.{◌≡◌, ◌⊎◌, ℕ, ℤ, List, refl}
use Rattle.std.specs.Coded.{Coded, code_by, coded×, coded⊎, coded_ℕ, coded_ℤ, coded_list}
use Rattle.cnf_base.specs.declared.list.Group.{Group}
use Rattle.cnf_base.specs.declared.step.Step.{Step}
use Rattle.cnf_base.specs.declared.step.Step.TheVariants.{Add, Delete}

abbrev pub group_code : Coded Group
group_code = code_by (ℕ × List ℕ) (coded× coded_ℕ (coded_list coded_ℕ)) (λ g. (g.id, g.hints)) (λ p. record { id = p.0; hints = p.1 }) (λ _. refl)

abbrev pub Parts : Type 0
Parts = (ℕ × (List ℤ × (List ℕ × List Group))) ⊎ (ℕ × List ℕ)

abbrev pub parts_of : Step → Parts
parts_of (Add id clause hints groups) = inl (id, (clause, (hints, groups)))
parts_of (Delete id ids) = inr (id, ids)

abbrev pub step_from : Parts → Step
step_from (inl (id, (clause, (hints, groups)))) = Add id clause hints groups
step_from (inr (id, ids)) = Delete id ids

pub step_from-parts : (step : Step) → step_from (parts_of step) ≡ step
step_from-parts (Add id clause hints groups) = refl
step_from-parts (Delete id ids) = refl

abbrev pub step_code : Coded Step
step_code =
    code_by Parts
    (coded⊎ (coded× coded_ℕ (coded× (coded_list coded_ℤ) (coded× (coded_list coded_ℕ) (coded_list group_code)))) (coded× coded_ℕ (coded_list coded_ℕ)))
    parts_of step_from step_from-parts
