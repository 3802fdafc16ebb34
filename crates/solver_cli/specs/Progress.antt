-- What is told on standard error of the progress of a run.
use Rattle.std.specs.Prelude.{◌≡◌, ◌≤◌, ◌++◌, ℕ, Bool, false, List, [], ◌∷◌, Option, None, Some, IsTrue, IsFalse, if◌then◌else◌}
use Rattle.host_io.specs.declared.role.Role.{Role}
use Rattle.host_io.specs.declared.role.Role.TheVariants.{ProofOut, Err}
use Rattle.host_io.specs.Channel.{Channel, Rose}
use Rattle.host_io.specs.Files.{Files, same_role}
use Rattle.host_io.specs.Beside.{Beside, files_but}
use Rattle.drat_proof.specs.TwoRoles.{added}
use Rattle.solver_cli.specs.Comments.{are_comments, are_comments_so_far}

-- What was written from one moment to another: lines of comment. Only a call that failed cuts the last one short, and ends the telling.
pub record Comments (telling tells : Bool) (old new : Channel) : Type 0 where
  pub written : IsTrue tells → new.written ≡ old.written ++ added old new
  pub so_far : IsTrue tells → IsTrue (are_comments_so_far (added old new))
  pub whole : IsTrue tells → IsTrue telling → IsTrue (are_comments (added old new))
  pub broken : IsFalse telling → Rose old.faults new.faults
  pub name : new.name ≡ old.name
  pub faults : old.faults ≤ new.faults

-- The same where it is told before; else nothing is done.
pub record Notes (before after tells : Bool) (old new : Channel) : Type 0 where
  pub told : IsTrue before → Comments after tells old new
  pub silent : IsFalse before → (new ≡ old) × IsFalse after

-- progress was told, where that is asked for
abbrev pub IsTold : Bool → Bool → Channel → Channel → Type 0
IsTold asked tells old new = (after : Bool) × Notes asked after tells old new

-- the channels with that of standard error as it was at the start
abbrev pub with_error : Channel → (Role → Channel) → Role → Channel
with_error start channels other = if same_role other Err then start else channels other

-- What a view of a host leaves alone that tells of the progress: all but standard error, the role that it serves, if any, and that
-- one's own file.
abbrev pub beside_reported : ℕ → (Role → Bool) → Option (List ℕ) → Channel → (Role → Channel) → Files → Beside
beside_reported lender serves own start channels files = record {
  lenders = lender ∷ [];
  rest = Some (record {
    role = Err;
    name = own;
    others = λ other. if serves other then None else Some (with_error start channels other);
    files = files_but own files;
  });
}

-- the roles that are served: that of the proof that is written, and none
abbrev pub serves_written : Role → Bool
serves_written other = same_role other ProofOut

abbrev pub serves_none : Role → Bool
serves_none other = false
