-- What a good addition needs of its hints: where its positive hints reach a conflict, these hints up to it, and no group; else
-- all of them, and each group with its hints up to its conflict, none where its candidate is blocked. (The hints: Cruz-Filipe,
-- Heule, Hunt, Kaufmann, Schneider-Kamp: Efficient Certified RAT Verification, CADE 2017. That a blocked candidate's group needs
-- none is this project's own rule.)
use Rattle.std.specs.Prelude.{ℕ, suc, ℤ, neg_ℤ, List, [], ◌∷◌, map, take, Option, None, Some, if◌then◌else◌}
use Rattle.cnf_base.specs.declared.list.Group.{Group}
use Rattle.cnf_base.specs.declared.step.Step.{Step}
use Rattle.cnf_base.specs.declared.step.Step.TheVariants.{Add, Delete}
use Rattle.lrat_rules.specs.declared.outcome.Effect.{Effect}
use Rattle.lrat_rules.specs.declared.outcome.Effect.TheVariants.{Conflict, Unit as Forced, NotUnit}
use Rattle.lrat_rules.specs.State.{State, Live, clause_at}
use Rattle.lrat_rules.specs.Chain.{FalseSet, literals_of, with_literal, effect, chain, Outcome, Open, Closed, Bad}
use Rattle.lrat_rules.specs.Addition.{is_blocked_by, with_candidate}
use Rattle.lrat_checker.specs.declared.uses.Uses.{Uses}

-- the hints and the groups that an addition needs
pub record Cut : Type 0 where
  pub pos : List ℕ
  pub groups : List Group

-- how many hints are taken from one on, by its effect: no more behind a conflict or a bad hint
abbrev pub used_by_effect : FalseSet → (FalseSet → ℕ) → Effect → ℕ
used_by_effect n more Conflict = 1
used_by_effect n more (Forced literal) = suc (more (with_literal (neg_ℤ literal) n))
used_by_effect n more NotUnit = 1

abbrev pub used_by_clause : FalseSet → (FalseSet → ℕ) → Option (List ℤ) → ℕ
used_by_clause n more None = 1
used_by_clause n more (Some clause) = used_by_effect n more (effect n clause)

-- how many of the hints are taken: all, or those up to the first conflict or bad hint, with it
abbrev pub used : Live → FalseSet → List ℕ → ℕ
used live n [] = 0
used live n (hint ∷ hints) = used_by_clause n (λ n'. used live n' hints) (clause_at live hint)

-- how many hints of a group are needed
abbrev pub group_use_at : Live → FalseSet → ℤ → List ℕ → Option (List ℤ) → ℕ
group_use_at live n pivot hints None = 0
group_use_at live n pivot hints (Some clause) =
    if is_blocked_by n pivot clause then 0 else used live (with_candidate n pivot clause) hints

abbrev pub group_use : Live → FalseSet → ℤ → Group → ℕ
group_use live n pivot group = group_use_at live n pivot group.hints (clause_at live group.id)

-- the group with the hints that are needed
abbrev pub cut_group : Live → FalseSet → ℤ → Group → Group
cut_group live n pivot group = record { id = group.id; hints = take (group_use live n pivot group) group.hints }

-- after the positive hints: groups are needed where these reached no conflict
abbrev pub cut_groups : Live → List ℤ → List Group → Outcome → List Group
cut_groups live clause groups (Bad reason) = []
cut_groups live clause groups Closed = []
cut_groups live [] groups (Open n) = []
cut_groups live (pivot ∷ clause) groups (Open n) = map (cut_group live n pivot) groups

-- what the addition of this clause needs of these hints and groups
abbrev pub cut_of : Live → List ℤ → List ℕ → List Group → Cut
cut_of live clause hints groups = record {
  pos = take (used live (literals_of clause) hints) hints;
  groups = cut_groups live clause groups (chain live (literals_of clause) hints);
}

-- the same in numbers: of how many hints, and of each group that is needed, of how many of its hints
abbrev pub group_uses : Live → List ℤ → List Group → Outcome → List ℕ
group_uses live clause groups (Bad reason) = []
group_uses live clause groups Closed = []
group_uses live [] groups (Open n) = []
group_uses live (pivot ∷ clause) groups (Open n) = map (group_use live n pivot) groups

abbrev pub uses_of : Live → List ℤ → List ℕ → List Group → Uses
uses_of live clause hints groups = record {
  hints = used live (literals_of clause) hints;
  groups = group_uses live clause groups (chain live (literals_of clause) hints);
}

abbrev pub uses_of_step : State → Step → Uses
uses_of_step state (Add id clause hints groups) = uses_of state.live clause hints groups
uses_of_step state (Delete id ids) = record { hints = 0; groups = [] }

-- each of the first groups with so many of its hints
abbrev pub groups_by : List Group → List ℕ → List Group
groups_by [] counts = []
groups_by (group ∷ groups) [] = []
groups_by (group ∷ groups) (count ∷ counts) = record { id = group.id; hints = take count group.hints } ∷ groups_by groups counts

-- hints and groups cut to such numbers
abbrev pub cut_by : Uses → List ℕ → List Group → Cut
cut_by uses hints groups = record { pos = take uses.hints hints; groups = groups_by groups uses.groups }
