-- Calls of one of two roles, one after another, leave alone what a call of both does.
use Rattle.std.proofs.Common.{◌≡◌, ℕ, Bool, List, None, Option, Result, refl, ◌∙◌, sym, subst, arith}
use Rattle.host_io.specs.declared.role.Role.{Role}
use Rattle.host_io.specs.declared.source.Failed.{Failed}
use Rattle.host_io.specs.Channel.{Channel, WritesAll}
use Rattle.host_io.specs.Files.{Files, Kept}
use Rattle.text_scan.specs.Decides.{OnlyReads}
use Rattle.drat_proof.specs.TwoRoles.{KeptButTwo, OnlyWrites}

module _ {first second : Role} {own : Option (List ℕ)} where
  pub kept_none : (channels : Role → Channel) (files : Files) → KeptButTwo first second own channels channels files files
  kept_none channels files = record { others = λ other a b. refl; files = λ file n. refl }

  pub kept_then_first : {old mid new : Role → Channel} {old_files mid_files new_files : Files}
      → KeptButTwo first second own old mid old_files mid_files → Kept first None mid new mid_files new_files
      → KeptButTwo first second own old new old_files new_files
  kept_then_first so_far kept = record {
    others = λ other a b. kept.others other a ∙ so_far.others other a b;
    files = λ file n. kept.files file (λ e. cc) ∙ so_far.files file n;
  }

  pub kept_then_second : {old mid new : Role → Channel} {old_files mid_files new_files : Files} {name : Option (List ℕ)}
      → KeptButTwo first second own old mid old_files mid_files → Kept second name mid new mid_files new_files → name ≡ own
      → KeptButTwo first second own old new old_files new_files
  kept_then_second so_far kept same = record {
    others = λ other a b. kept.others other b ∙ so_far.others other a b;
    files = λ file n. kept.files file (λ e. n (sym same ∙ e)) ∙ so_far.files file n;
  }

  pub kept_first : {old new : Role → Channel} {old_files new_files : Files} → Kept first None old new old_files new_files
      → KeptButTwo first second own old new old_files new_files
  kept_first kept = kept_then_first (kept_none _ _) kept

  pub kept_second : {old new : Role → Channel} {old_files new_files : Files} → Kept second own old new old_files new_files
      → KeptButTwo first second own old new old_files new_files
  kept_second kept = kept_then_second (kept_none _ _) kept refl

pub kept_both : {first second : Role} {own name : Option (List ℕ)} {old mid new : Role → Channel} {old_files mid_files new_files : Files}
    → KeptButTwo first second own old mid old_files mid_files → KeptButTwo first second name mid new mid_files new_files → name ≡ own
    → KeptButTwo first second own old new old_files new_files
kept_both before behind same = record {
  others = λ other a b. behind.others other a b ∙ before.others other a b;
  files = λ file n. behind.files file (λ e. n (sym same ∙ e)) ∙ before.files file n;
}

pub reads_none : (channel : Channel) → OnlyReads channel channel
reads_none channel = record { written = refl; flushed = refl; name = refl; faults = omega arith }

pub writes_none : (channel : Channel) → OnlyWrites channel channel
writes_none channel = record { taken = refl; left = refl; flushed = refl; name = refl; faults = omega arith }

pub OnlyWrites-then : {a b c : Channel} → OnlyWrites a b → OnlyWrites b c → OnlyWrites a c
OnlyWrites-then p q = record {
  taken = q.taken ∙ p.taken;
  left = q.left ∙ p.left;
  flushed = q.flushed ∙ p.flushed;
  name = q.name ∙ p.name;
  faults = omega (arith, p.faults, q.faults);
}

pub only_writes : {T : Type 0} {tells : Bool} {old new : Channel} {piece : List ℕ} {result : Result T Failed}
    → WritesAll tells old new piece result → OnlyWrites old new
only_writes w = record { taken = w.taken; left = w.left; flushed = w.flushed; name = w.name; faults = w.faults.no_less }

pub same_writes : {old new : Channel} → new ≡ old → OnlyWrites old new
same_writes {old} {new} same = subst (λ (c : Channel). OnlyWrites old c) (sym same) (writes_none old)
