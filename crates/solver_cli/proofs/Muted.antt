-- The channels of a host without that of standard error: what stays of them where progress is told.
use Rattle.std.proofs.Common.{◌≡◌, ℕ, true, false, cond, List, Option, refl}
use Rattle.std.specs.Prelude.{IsFalse}
use Rattle.host_io.specs.declared.role.Role.{Role}
use Rattle.host_io.specs.declared.role.Role.TheVariants.{Err}
use Rattle.host_io.specs.Channel.{Channel}
use Rattle.host_io.specs.Files.{Files, Kept, Others, same_role}
use Rattle.host_io.specs.Idle.{idle_channel}
use Rattle.drat_proof.specs.TwoRoles.{KeptButTwo}
use Rattle.solver_cli.specs.Progress.{with_error}
use Rattle.solver_cli.specs.Stages.{LeavesInputs}

abbrev pub muted : (Role → Channel) → Role → Channel
muted channels = with_error idle_channel channels

pub muted_two : (role : Role) {old new : Role → Channel} → ((other : Role) → IsFalse (same_role other role) → IsFalse (same_role other Err)
    → new other ≡ old other) → Others role (muted old) (muted new)
muted_two role {old = old} {new = new} kept other apart =
    elim (same_role other Err) as (λ b. same_role other Err ≡ b → cond b idle_channel (new other) ≡ cond b idle_channel (old other)) [
      | true ↦ λ _. refl
      | false ↦ λ e. kept other apart e
    ] refl

pub muted_others : (role : Role) {old new : Role → Channel} → Others role old new → Others role (muted old) (muted new)
muted_others role kept = muted_two role (λ other apart _. kept other apart)

pub muted_kept : {role : Role} {own : Option (List ℕ)} {old new : Role → Channel} {files after : Files} → Kept role own old new files after
    → Kept role own (muted old) (muted new) files after
muted_kept {role = role} kept = record { others = muted_others role kept.others; files = kept.files }

pub muted_but : {role : Role} {own : Option (List ℕ)} {old new : Role → Channel} {files after : Files}
    → KeptButTwo role Err own old new files after → Kept role own (muted old) (muted new) files after
muted_but {role = role} kept = record { others = muted_two role kept.others; files = kept.files }

-- the inputs are those of the host
pub of_muted : {old new : Role → Channel} → LeavesInputs (muted old) (muted new) → LeavesInputs old new
of_muted p = record { cnf = p.cnf; order = p.order; buckets = p.buckets; schedule = p.schedule; judged = p.judged; cubes = p.cubes; made = p.made }

pub muted_inputs : {old new : Role → Channel} → LeavesInputs old new → LeavesInputs (muted old) (muted new)
muted_inputs p = record { cnf = p.cnf; order = p.order; buckets = p.buckets; schedule = p.schedule; judged = p.judged; cubes = p.cubes; made = p.made }
