-- Each good addition has a number above all before it, so there are no more of them than the greatest number says; and an addition, cut to
-- what its check took, is the cut step.
use Rattle.std.proofs.Common.{◌≡◌, ℕ, ◌<◌, true, false, ℤ, List, Some, None, refl, ap, ◌∙◌, nat_le}
use Rattle.std.specs.Prelude.{if◌then◌else◌}
use Rattle.std.proofs.lemmas.Bool.{leb-false}
use Rattle.cnf_base.specs.declared.list.Group.{Group}
use Rattle.cnf_base.specs.declared.step.Step.TheVariants.{Add}
use Rattle.lrat_rules.specs.declared.outcome.Reason.TheVariants.{IdNotGreater}
use Rattle.lrat_rules.specs.State.{State, Live}
use Rattle.lrat_rules.specs.Chain.{literals_of, chain}
use Rattle.lrat_rules.specs.Addition.{fault, fault_after_hints}
use Rattle.lrat_checker.specs.declared.uses.Uses.{Uses}
use Rattle.lrat_checker.specs.Cuts.{cut_by, cut_of, uses_of}
use Rattle.proof_trim.specs.Trimmed.{cut_addition, cut_step}
use Rattle.proof_trim.specs.Answer.{cut_addition_by}

pub above : (state : State) (id : ℕ) (clause : List ℤ) (hints : List ℕ) (groups : List Group) → fault state id clause hints groups ≡ None
    → state.top < id
above state id clause hints groups none =
    elim (nat_le id state.top) as (λ b. nat_le id state.top ≡ b → (if b then Some IdNotGreater
    else fault_after_hints state.live clause groups (chain state.live (literals_of clause) hints)) ≡ None → state.top < id) [
      | true ↦ λ is h. cc
      | false ↦ λ is h. leb-false id state.top is
    ] refl none

pub kept_is : ((live : Live) (clause : List ℤ) (hints : List ℕ) (groups : List Group)
    → cut_by (uses_of live clause hints groups) hints groups ≡ cut_of live clause hints groups)
    → (state : State) (uses : Uses) (id : ℕ) (clause : List ℤ) (hints : List ℕ) (groups : List Group)
    → uses ≡ uses_of state.live clause hints groups
    → cut_addition_by uses (Add id clause hints groups) ≡ cut_step state (Add id clause hints groups)
kept_is law state uses id clause hints groups is =
    ap (λ (u : Uses). cut_addition id clause (cut_by u hints groups)) is ∙ ap (cut_addition id clause) (law state.live clause hints groups)
