-- What is beside one role of a host is the same exactly where the host kept the rest.
use Rattle.std.proofs.Common.{◌≡◌, ◌≢◌, ℕ, Bool, true, false, cond, Option, None, Some, List, [], ◌∷◌, refl, sym, ◌∙◌, ap, subst}
use Rattle.std.proofs.lemmas.Slice.Eq.{bytes_eq-Decides}
use Rattle.host_io.specs.declared.role.Role.{Role}
use Rattle.host_io.specs.Channel.{Channel}
use Rattle.host_io.specs.Files.{Files, Stored, same_role, Others, FilesBut, Kept}
use Rattle.host_io.specs.Beside.{Rest, IsBack, KeepsBeside, is_named, others_of, files_but, beside_role}

named : (own : Option (List ℕ)) (file : List ℕ) → is_named own file ≡ true → own ≡ Some file
named None file h = cc
named (Some name) file h = ap Some ((bytes_eq-Decides name file).0 h)

unnamed : (own : Option (List ℕ)) (file : List ℕ) → own ≢ Some file → is_named own file ≡ false
unnamed own file n =
    elim (is_named own file) as (λ b. is_named own file ≡ b → b ≡ false) [
      | true ↦ λ h. absurd (n (named own file h))
      | false ↦ λ _. refl
    ] refl

named_not : (own : Option (List ℕ)) (file : List ℕ) → own ≡ Some file → is_named own file ≡ false → ⊥
named_not own file e h =
    let t : is_named (Some file) file ≡ true = (bytes_eq-Decides file file).1 refl in
    let f : is_named (Some file) file ≡ false = subst (λ o. is_named o file ≡ false) e h in
    cc

-- what is left out on neither side is the same
left_in : {A : Type 0} (a b : Bool) (x y : A) → cond a None (Some x) ≡ cond b None (Some y) → b ≡ false → x ≡ y
left_in true true x y e h = cc
left_in false true x y e h = cc
left_in true false x y e h = cc
left_in false false x y e h = cc

abbrev others_in : Option Rest → Role → Option Channel
others_in None other = None
others_in (Some rest) other = rest.others other

abbrev files_in : Option Rest → List ℕ → Option Stored
files_in None file = None
files_in (Some rest) file = rest.files file

-- the channels of the others are the same where each is
others_same : (role : Role) (old new : Role → Channel) → Others role old new → others_of role new ≡ others_of role old
others_same role old new kept = λ i other. at other i
  where
    at : (other : Role) → others_of role new other ≡ others_of role old other
    at other =
        elim (same_role other role) as (λ b. same_role other role ≡ b → cond b None (Some (new other)) ≡ cond b None (Some (old other))) [
          | true ↦ λ _. refl
          | false ↦ λ h. ap Some (kept other h)
        ] refl

files_same : (own : Option (List ℕ)) (old new : Files) → FilesBut own old new → files_but own new ≡ files_but own old
files_same own old new kept = λ i file. at file i
  where
    at : (file : List ℕ) → files_but own new file ≡ files_but own old file
    at file =
        elim (is_named own file) as (λ b. is_named own file ≡ b → cond b None (Some (new file)) ≡ cond b None (Some (old file))) [
          | true ↦ λ _. refl
          | false ↦ λ h. ap Some (kept file (λ e. named_not own file e h))
        ] refl

-- A call that kept the rest and the name left what is beside the role.
pub rest_kept : (lender : ℕ) (role : Role) (own own' : Option (List ℕ)) (old new : Role → Channel) (old_files new_files : Files)
    → Kept role own old new old_files new_files → (new role).name ≡ (old role).name → own' ≡ own
    → beside_role lender role own' new new_files ≡ beside_role lender role own old old_files
rest_kept lender role own own' old new old_files new_files kept name same =
    let others : others_of role new ≡ others_of role old = others_same role old new kept.others in
    let files : files_but own' new_files ≡ files_but own old_files =
    ap (λ o. files_but o new_files) same ∙ files_same own old_files new_files kept.files in
    λ i. record {
      lenders = lender ∷ [];
      rest = Some (record { role = role; name = name i; others = others i; files = files i });
    }

-- What is beside the role is the same, so the host kept the rest.
pub kept_of_rest : (last lent : ℕ) (role end_role : Role) (own end_own : Option (List ℕ)) (old new : Role
    → Channel) (old_files new_files : Files) → beside_role last end_role end_own new new_files ≡ beside_role lent role own old old_files
    → Kept role own old new old_files new_files
kept_of_rest last lent role end_role own end_own old new old_files new_files same = record {
  others = λ other h. left_in (same_role other end_role) (same_role other role) (new other) (old other) (others_at other) h;
  files = λ file h. left_in (is_named end_own file) (is_named own file) (new_files file) (old_files file) (files_at file)
      (unnamed own file h);
}
  where
    others_at : (other : Role) → others_of end_role new other ≡ others_of role old other
    others_at other = ap (λ b. others_in b.rest other) same

    files_at : (file : List ℕ) → files_but end_own new_files file ≡ files_but own old_files file
    files_at file = ap (λ b. files_in b.rest file) same

abbrev role_in : Role → Option Rest → Role
role_in none None = none
role_in none (Some rest) = rest.role

abbrev lender_in : List ℕ → ℕ
lender_in [] = 0
lender_in (lender ∷ lenders) = lender

-- The host that comes back from a view is the view's own at its end, and it kept the rest.
kept_back : {H : Type 0} (channel : H → Role → Channel) (files : H
    → Files) (old new start end : H) (role start_role end_role : Role) (lender lent last : ℕ) (own start_own end_own : Option (List ℕ))
    → lent ≡ lender → start ≡ old → start_role ≡ role → start_own ≡ own → beside_role last end_role end_own (channel end) (files end)
    ≡ beside_role lent start_role start_own (channel start) (files start) → (lender ≡ last → new ≡ end)
    → IsBack channel files role own old new (channel end end_role)
kept_back channel files old new start end role start_role end_role lender lent last own start_own end_own lent_is start_is role_is own_is
    same tie =
    let last_is : last ≡ lent = ap (λ b. lender_in b.lenders) same in
    let end_role_is : end_role ≡ start_role = ap (λ b. role_in start_role b.rest) same in
    let new_is : new ≡ end = tie (sym (last_is ∙ lent_is)) in
    let kept : Kept start_role start_own (channel start) (channel end) (files start)
    (files end) = kept_of_rest last lent start_role end_role start_own end_own (channel start) (channel end) (files start)
    (files end) same in
    record {
      same = cc;
      kept = subst (λ h. Kept role own (channel old) (channel h) (files old) (files h)) (sym new_is) (
          subst (λ r. Kept r own (channel old) (channel end) (files old) (files end)) role_is (
          subst (λ o. Kept start_role o (channel old) (channel end) (files old) (files end)) own_is (
          subst (λ h. Kept start_role start_own (channel h) (channel end) (files h) (files end)) start_is kept
          )
          )
          );
    }

pub keeps_beside : {H : Type 0} (channel : H → Role → Channel) (files : H → Files) → KeepsBeside channel files
keeps_beside channel files = record {
  source = λ {old} {new} {start} {end} {role} {start_role} {end_role} {lender} {lent} {last} lent_is start_is role_is same tie.
      kept_back channel files old new start end role start_role end_role lender lent last None None None lent_is start_is role_is refl same
      tie;
  sink = λ {old} {new} {start} {end} {role} {start_role} {end_role} {lender} {lent} {last} lent_is start_is role_is same tie.
      kept_back channel files old new start end role start_role end_role lender lent last _ _ _ lent_is start_is role_is (cc) same tie;
}
