-- What a caller concludes of a host that was lent while its run was watched.
use Rattle.std.proofs.Common.{◌≡◌, ℕ, Bool, true, false, cond, List, [], ◌∷◌, refl, sym, ◌∙◌, ap, subst}
use Rattle.std.specs.Prelude.{◌==◌}
use Rattle.host_io.specs.declared.role.Role.{Role}
use Rattle.host_io.specs.declared.role.Role.TheVariants.{Err}
use Rattle.host_io.specs.Channel.{Channel}
use Rattle.solver_cli.specs.Progress.{IsTold, Notes}
use Rattle.solver_cli.specs.Watched.{mark}

-- ---- what was lent, by the mark

abbrev first_in : List ℕ → ℕ
first_in [] = 0
first_in (n ∷ more) = n

abbrev behind_first : List ℕ → List ℕ
behind_first [] = []
behind_first (n ∷ more) = more

abbrev is_one : ℕ → Bool
is_one n = n == 1

one_again : (asked : Bool) → is_one (cond asked 1 0) ≡ asked
one_again true = refl
one_again false = refl

-- the channel that a mark was made of
abbrev unmarked : Channel → Channel
unmarked channel = record {
  name = channel.name;
  faults = first_in (behind_first (behind_first channel.taken));
  taken = behind_first (behind_first (behind_first channel.taken));
  left = channel.left;
  written = channel.written;
  flushed = channel.flushed;
}

-- what was told over the host that is lent was told over the host
pub told_back : {H : Type 0} (channel : H → Role → Channel) {asked begun ended telling tells : Bool} {old new end origin origin_end : H}
    {lender lent last refused refused' : ℕ} → lent ≡ lender → origin ≡ old → begun ≡ asked
    → mark last ended refused' (channel origin_end Err) ≡ mark lent begun refused (channel origin Err)
    → Notes ended telling tells (channel origin_end Err) (channel end Err) → (lender ≡ last → new ≡ end)
    → IsTold asked tells (channel old Err) (channel new Err)
told_back {H} channel {asked = asked} {begun = begun} {ended = ended} {telling = telling} {tells = tells} {old = old} {end = end}
    {origin = origin} {origin_end = origin_end} {lent = lent} {last = last} lent_is origin_is begun_is marks notes tie = (
      telling,
      subst (λ (x : H). Notes asked telling tells (channel old Err) (channel x Err)) (sym (tie (sym (last_is ∙ lent_is))))
          (subst (λ (c : Channel). Notes asked telling tells c (channel end Err)) (start_same ∙ ap (λ (x : H). channel x Err) origin_is)
          (subst (λ (b : Bool). Notes b telling tells (channel origin_end Err) (channel end Err)) (asked_same ∙ begun_is) notes)),
    ) where
      last_is : last ≡ lent
      last_is = ap (λ (c : Channel). first_in c.taken) marks

      asked_same : ended ≡ begun
      asked_same = sym (one_again ended) ∙ ap (λ (c : Channel). is_one (first_in (behind_first c.taken))) marks ∙ one_again begun

      start_same : channel origin_end Err ≡ channel origin Err
      start_same = ap unmarked marks
