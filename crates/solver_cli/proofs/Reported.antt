-- What a view of a host that tells of the progress leaves alone.
use Rattle.std.proofs.Common.{◌≡◌, ℕ, Bool, true, false, cond, Option, None, Some, List, [], ◌∷◌, refl, sym, ◌∙◌, ap, subst}
use Rattle.std.specs.Prelude.{IsFalse}
use Rattle.host_io.specs.declared.role.Role.{Role}
use Rattle.host_io.specs.declared.role.Role.TheVariants.{Err}
use Rattle.host_io.specs.Channel.{Channel}
use Rattle.host_io.specs.Files.{Files, Stored, FilesBut, Kept, same_role}
use Rattle.host_io.specs.Beside.{Beside, Rest, files_but, others_of}
use Rattle.host_io.specs.Idle.{idle_channel}
use Rattle.host_io.proofs.Kept.{kept_of_rest, rest_kept}
use Rattle.solver_cli.specs.Progress.{Comments, beside_reported, with_error}

left_in : {A : Type 0} (b : Bool) (x y : A) → cond b None (Some x) ≡ cond b None (Some y) → b ≡ false → x ≡ y
left_in true x y e h = cc
left_in false x y e h = cc

abbrev others_in : Option Rest → Role → Option Channel
others_in None other = None
others_in (Some rest) other = rest.others other

abbrev files_in : Option Rest → List ℕ → Option Stored
files_in None file = None
files_in (Some rest) file = rest.files file

abbrev lender_in : List ℕ → ℕ
lender_in [] = 0
lender_in (lender ∷ lenders) = lender

-- no channel at all
abbrev nowhere : Role → Channel
nowhere role = idle_channel

-- files that are the same but for the own one
files_kept : (own own' : Option (List ℕ)) (before after : Files) → files_but own' after ≡ files_but own before → FilesBut own before after
files_kept own own' before after same =
    (kept_of_rest 0 0 Err Err own own' nowhere nowhere before after (λ i. record {
      lenders = 0 ∷ [];
      rest = Some (record { role = Err; name = None; others = others_of Err nowhere; files = same i });
    })).files

files_same : (own : Option (List ℕ)) (before after : Files) → FilesBut own before after → files_but own after ≡ files_but own before
files_same own before after kept =
    ap (λ (b : Beside). files_in b.rest)
    (rest_kept 0 Err own own nowhere nowhere before after (record { others = λ other h. refl; files = kept }) refl refl)

-- What is beside the view is the same: so are the other roles and files, and what standard error was at the start.
pub record IsReported (serves : Role → Bool) (own : Option (List ℕ)) (start end : Channel) (old new : Role → Channel)
    (before after : Files) : Type 0 where
  pub error : end ≡ start
  pub others : (other : Role) → serves other ≡ false → IsFalse (same_role other Err) → new other ≡ old other
  pub files : FilesBut own before after

pub reported : (last lent : ℕ) (serves : Role → Bool) (own own' : Option (List ℕ)) (start end : Channel) (old new : Role → Channel)
    (before after : Files) → serves Err ≡ false
    → beside_reported last serves own' end new after ≡ beside_reported lent serves own start old before
    → IsReported serves own start end old new before after
reported last lent serves own own' start end old new before after free same = record {
  error = left_in (serves Err) end start (at Err) free;
  others = λ other h e. open_at other e (left_in (serves other) (with_error end new other) (with_error start old other) (at other) h);
  files = files_kept own own' before after (ap (λ (b : Beside). files_in b.rest) same);
} where
  at : (other : Role) → cond (serves other) None (Some (with_error end new other))
      ≡ cond (serves other) None (Some (with_error start old other))
  at other = ap (λ (b : Beside). others_in b.rest other) same

  inner : (b : Bool) (x y v w : Channel) → b ≡ false → cond b x v ≡ cond b y w → v ≡ w
  inner true x y v w f e = cc
  inner false x y v w f e = e

  open_at : (other : Role) → IsFalse (same_role other Err) → with_error end new other ≡ with_error start old other → new other ≡ old other
  open_at other f e = inner (same_role other Err) end start (new other) (old other) f e

pub same_lender : (last lent : ℕ) (serves : Role → Bool) (own own' : Option (List ℕ)) (start end : Channel) (old new : Role → Channel)
    (before after : Files) → beside_reported last serves own' end new after ≡ beside_reported lent serves own start old before → last ≡ lent
same_lender last lent serves own own' start end old new before after same = ap (λ (b : Beside). lender_in b.lenders) same

-- A call of a role that is served leaves it, and so does one of standard error.
same_beside : (lender : ℕ) (serves : Role → Bool) (own own' : Option (List ℕ)) (start : Channel) (old new : Role → Channel)
    (before after : Files) → own' ≡ own
    → ((other : Role) → serves other ≡ false → IsFalse (same_role other Err) → new other ≡ old other) → FilesBut own before after
    → beside_reported lender serves own' start new after ≡ beside_reported lender serves own start old before
same_beside lender serves own own' start old new before after named kept others =
    let files : files_but own' after ≡ files_but own before = ap (λ (o : Option (List ℕ)). files_but o after) named
    ∙ files_same own before after others in
    λ i. record {
      lenders = lender ∷ [];
      rest = Some (record { role = Err; name = named i; others = λ other. at other i; files = files i });
    }
  where
    but : (other : Role) → serves other ≡ false → with_error start new other ≡ with_error start old other
    but other h = elim (same_role other Err) as (λ b. same_role other Err ≡ b → cond b start (new other) ≡ cond b start (old other)) [
      | true ↦ λ _. refl
      | false ↦ λ e. kept other h e
    ] refl

    at : (other : Role) → cond (serves other) None (Some (with_error start new other))
        ≡ cond (serves other) None (Some (with_error start old other))
    at other = elim (serves other) as (λ b. serves other ≡ b → cond b None (Some (with_error start new other))
        ≡ cond b None (Some (with_error start old other))) [
          | true ↦ λ _. refl
          | false ↦ λ h. ap Some (but other h)
        ] refl

pub served : (lender : ℕ) (role : Role) (own own' : Option (List ℕ)) (start : Channel) (old new : Role → Channel) (before after : Files)
    → own' ≡ own → Kept role own old new before after
    → beside_reported lender (λ other. same_role other role) own' start new after
    ≡ beside_reported lender (λ other. same_role other role) own start old before
served lender role own own' start old new before after named kept =
    same_beside lender (λ other. same_role other role) own own' start old new before after named (λ other h _. kept.others other h) kept.files

pub noted : (lender : ℕ) (serves : Role → Bool) (own own' error : Option (List ℕ)) (start : Channel) (old new : Role → Channel)
    (before after : Files) → own' ≡ own → error ≡ None → Kept Err error old new before after
    → beside_reported lender serves own' start new after ≡ beside_reported lender serves own start old before
noted lender serves own own' error start old new before after named unnamed kept =
    same_beside lender serves own own' start old new before after named (λ other _ e. kept.others other e)
    (λ file _. kept.files file (λ is. none_some (sym unnamed ∙ is))) where
      none_some : {file : List ℕ} → ◌≡◌ {A = Option (List ℕ)} None (Some file) → ⊥
      none_some e = cc

-- a reference that is handed on is the same one
pub tied : {H : Type 0} {lender held last : ℕ} {new inner end : H} → last ≡ held → end ≡ inner → (lender ≡ last → new ≡ end)
    → lender ≡ held → new ≡ inner
tied last_is end_is tie e = tie (e ∙ sym last_is) ∙ end_is

-- What a host is, that was lent to such a view, when it comes back.
pub record IsLeft {H : Type 0} (channel : H → Role → Channel) (files : H → Files) (serves : Role → Bool) (own : H → Option (List ℕ))
    (telling tells : Bool) (old new end : H) : Type 0 where
  pub same : new ≡ end
  pub others : (other : Role) → serves other ≡ false → IsFalse (same_role other Err) → channel new other ≡ channel old other
  pub untouched : FilesBut (own old) (files old) (files new)
  pub told : Comments telling tells (channel old Err) (channel new Err)

pub left : {H : Type 0} (channel : H → Role → Channel) (files : H → Files) (serves : Role → Bool) (own : H → Option (List ℕ))
    {telling tells : Bool} {old new start end origin origin_end : H} {lender lent last : ℕ} {own' : Option (List ℕ)}
    → serves Err ≡ false → lent ≡ lender → start ≡ old → origin ≡ old
    → beside_reported last serves own' (channel origin_end Err) (channel end) (files end)
    ≡ beside_reported lent serves (own start) (channel origin Err) (channel start) (files start)
    → Comments telling tells (channel origin_end Err) (channel end Err) → (lender ≡ last → new ≡ end)
    → IsLeft channel files serves own telling tells old new end
left {H} channel files serves own {telling = telling} {tells = tells} {old = old} {new = new} {start = start} {end = end} {origin = origin}
    {origin_end = origin_end} {lender = lender} {lent = lent} {last = last} {own' = own'} free lent_is start_is origin_is same comments tie =
    record {
      same = back;
      others = λ other h e. ap (λ (x : H). channel x other) back ∙ seen.others other h e ∙ ap (λ (x : H). channel x other) start_is;
      untouched = subst (λ (x : H). FilesBut (own x) (files x) (files new)) start_is
          (subst (λ (x : H). FilesBut (own start) (files start) (files x)) (sym back) seen.files);
      told = subst (λ (x : H). Comments telling tells (channel old Err) (channel x Err)) (sym back)
          (subst (λ (c : Channel). Comments telling tells c (channel end Err)) (seen.error ∙ ap (λ (x : H). channel x Err) origin_is) comments);
    } where
      back : new ≡ end
      back = tie (sym (same_lender last lent serves (own start) own' (channel origin Err) (channel origin_end Err) (channel start) (channel end)
          (files start) (files end) same ∙ lent_is))

      seen : IsReported serves (own start) (channel origin Err) (channel origin_end Err) (channel start) (channel end) (files start) (files end)
      seen = reported last lent serves (own start) own' (channel origin Err) (channel origin_end Err) (channel start) (channel end) (files start)
          (files end) free same
