-- How a host over the real system stays connected where a call changed one of its roles and maybe asked the system for more.
use Rattle.std.proofs.Common.{◌≡◌, ◌⊎◌, ℕ, ◌<◌, ◌≤◌, ◌==◌, cond, true, false, Option, None, Some, option_to_list, Result, Ok, Err}
use Rattle.std.proofs.Common.{List, [], ◌∷◌, ◌++◌, length, slice_index_or, slice_set, IfSome, All, refl, sym, ◌∙◌, ap, subst, inl, inr}
use Rattle.std.proofs.Common.{lit<, arith, length-set}
use Rattle.std.proofs.lemmas.Bool.Decides.{Decides-eqb}
use Rattle.std.proofs.lemmas.List.{get_or-set_same, get_or-set_other, get_or_read}
use Rattle.std.proofs.lemmas.List.Elements.{All-nil, All-cons, All-append, All-weaker}
use Rattle.host_io.specs.declared.source.Failed.{Failed}
use Rattle.host_io.specs.declared.role.Role.{Role}
use Rattle.host_io.specs.declared.role.Role.TheVariants.{Cnf, Order, Buckets, Schedule, ProofIn, Cubes, ProofOut, Made, Out, Err as ErrRole}
use Rattle.host_io.specs.Files.{code_of, IsInput, IsCreated, IsNamedFirst}
use Rattle.host_io.specs.Real.{Target, Opened, Created, StandardOutput, StandardError, Traffic, no_traffic, all_flushed, Passes}
use Rattle.host_io.specs.Real.{Counted, Hosted, counted_of, unmet, MayReach, Wants, IsWanted, IsConnected}
use Rattle.host_io.specs.Real.{Joins, Begins, begun, name_of, standard, or_standard, missed}

-- the role of a number
role_at : ℕ → Role
role_at n =
    cond (n == 0) Cnf (cond (n == 1) Order (cond (n == 2) Buckets (cond (n == 3) Schedule (cond (n == 4) ProofIn (
    cond (n == 5) Cubes (cond (n == 6) ProofOut (cond (n == 7) Made (cond (n == 8) Out ErrRole))))))))

role_at-code : (role : Role) → role_at (code_of role) ≡ role
unfolding role_at
role_at-code Cnf = refl
role_at-code Order = refl
role_at-code Buckets = refl
role_at-code Schedule = refl
role_at-code ProofIn = refl
role_at-code Cubes = refl
role_at-code ProofOut = refl
role_at-code Made = refl
role_at-code Out = refl
role_at-code ErrRole = refl

code_below : (role : Role) → code_of role < 10
code_below Cnf = lit< tt
code_below Order = lit< tt
code_below Buckets = lit< tt
code_below Schedule = lit< tt
code_below ProofIn = lit< tt
code_below Cubes = lit< tt
code_below ProofOut = lit< tt
code_below Made = lit< tt
code_below Out = lit< tt
code_below ErrRole = lit< tt

-- one role is the other, or has another number
own_or_other : (role other : Role) → (other ≡ role) ⊎ (code_of other ≡ code_of role → ⊥)
own_or_other role other =
    let a = code_of other in
    let b = code_of role in
    elim (a == b) as (λ t. (a == b) ≡ t → (other ≡ role) ⊎ (a ≡ b → ⊥)) [
      | true ↦ λ h. inl (sym (role_at-code other) ∙ ap role_at ((Decides-eqb a b).0 h) ∙ role_at-code role)
      | false ↦ λ h. inr (λ e. let t : (a == b) ≡ true = (Decides-eqb a b).1 e in cc)
    ] refl

-- What a call does to its role: it reaches nothing that it may not, loses nothing that it reached, and no byte passes before that.
-- The role wants what the system was asked for.
pub record Goes (role : Role) (old new : Counted) (more : List Target) : Type 0 where
  pub fits : IfSome new.device.target (MayReach role)
  pub idle : new.device.target ≡ None → new.device.traffic ≡ no_traffic
  pub stays : (target : Target) → old.device.target ≡ Some target → new.device.target ≡ Some target
  pub no_less : old.faults ≤ new.faults
  pub wanted : All (Wants role new) more

-- what a role wanted it wants still
wants_still : (role : Role) (old new : Counted) (more : List Target) (target : Target) → Goes role old new more → Wants role old target
    → Wants role new target
wants_still role old new more target goes wants = record {
  may = wants.may;
  reached = elim (wants.reached) [
    | inl e ↦ inl (goes.stays target e)
    | inr p ↦ let no_less = goes.no_less in inr (omega arith)
  ];
}

-- a host of which one role changed
abbrev with_role : Hosted → Role → Counted → List Target → Hosted
with_role host role new more = record { roles = slice_set host.roles (code_of role) new; made = host.made ++ more }

own : (host : Hosted) (role : Role) (new : Counted) (more : List Target) → length host.roles ≡ 10
    → counted_of (with_role host role new more) role ≡ new
own host role new more all =
    let below = code_below role in
    get_or-set_same host.roles (code_of role) new unmet (omega arith)

others : (host : Hosted) (role : Role) (new : Counted) (more : List Target) (other : Role) → (code_of other ≡ code_of role → ⊥)
    → counted_of (with_role host role new more) other ≡ counted_of host other
others host role new more other n = get_or-set_other host.roles (code_of role) (code_of other) new unmet n

-- what holds of the role that changed, and of each other that didn't, holds of each
each : (P : Role → Counted → Type 0) (host : Hosted) (role : Role) (new : Counted) (more : List Target) → length host.roles ≡ 10
    → P role new → (other : Role) → P other (counted_of host other) → P other (counted_of (with_role host role new more) other)
each P host role new more all here other there =
    let after = with_role host role new more in
    elim (own_or_other role other) [
      | inl e ↦ subst (λ r. P r (counted_of after r)) (sym e) (subst (P role) (sym (own host role new more all)) here)
      | inr n ↦ subst (P other) (sym (others host role new more other n)) there
    ]

-- what was wanted is wanted still
wanted_still : (host : Hosted) (role : Role) (new : Counted) (more : List Target) → length host.roles ≡ 10
    → Goes role (counted_of host role) new more → (target : Target) → IsWanted host target
    → IsWanted (with_role host role new more) target
wanted_still host role new more all goes target (inl held) = inl held
wanted_still host role new more all goes target (inr (other, wants)) =
    inr (elim (own_or_other role other) [
      | inl e ↦ (
        role,
        subst (λ c. Wants role c target) (sym (own host role new more all))
            (wants_still role (counted_of host role) new more target goes (subst (λ r. Wants r (counted_of host r) target) e wants)),
      )
      | inr n ↦ (other, subst (λ c. Wants other c target) (sym (others host role new more other n)) wants)
    ])

stays_connected : (host : Hosted) (role : Role) (new : Counted) (more : List Target) → IsConnected host
    → Goes role (counted_of host role) new more → IsConnected (with_role host role new more)
stays_connected host role new more connected goes = record {
  all = length-set host.roles (code_of role) new ∙ connected.all;
  fits = λ other.
      each (λ r c. IfSome c.device.target (MayReach r)) host role new more connected.all goes.fits other (connected.fits other);
  idle = λ other.
      each (λ r c. c.device.target ≡ None → c.device.traffic ≡ no_traffic) host role new more connected.all goes.idle other
      (connected.idle other);
  wanted =
      All-append (IsWanted (with_role host role new more)) host.made more
      (All-weaker (IsWanted host) (IsWanted (with_role host role new more)) (wanted_still host role new more connected.all goes) host.made
      connected.wanted)
      (All-weaker (Wants role new) (IsWanted (with_role host role new more)) (λ target wants.
      inr (role, subst (λ c. Wants role c target) (sym (own host role new more connected.all)) wants)) more goes.wanted);
}

-- The same, where the place of the role, what was found there and the list are known by equations.
pub connected_after : (roles : List Counted) (made : List Target) (role : Role) (found new : Counted) (more : List Target) (place : ℕ)
    (after : List Target) → IsConnected (record { roles = roles; made = made }) → place ≡ code_of role → place < 10
    → found ≡ slice_index_or roles place found → after ≡ made ++ more
    → let old = slice_index_or roles place found in
    (old ≡ slice_index_or roles (code_of role) unmet → IfSome old.device.target (MayReach role)
    → (old.device.target ≡ None → old.device.traffic ≡ no_traffic) → Goes role old new more)
    → IsConnected (record { roles = slice_set roles place new; made = after })
connected_after roles made role found new more place after connected at below is grown goes =
    let all = connected.all in
    let old : Counted = slice_index_or roles place found in
    let e : found ≡ slice_index_or roles place unmet = get_or_read roles place found (omega arith) is unmet in
    let was : old ≡ slice_index_or roles (code_of role) unmet = sym is ∙ e ∙ ap (λ p. slice_index_or roles p unmet) at in
    let fits : IfSome old.device.target (MayReach role) =
    subst (λ c. IfSome c.device.target (MayReach role)) (sym was) (connected.fits role) in
    let idle : old.device.target ≡ None → old.device.traffic ≡ no_traffic =
    subst (λ c. c.device.target ≡ None → c.device.traffic ≡ no_traffic) (sym was) (connected.idle role) in
    subst (λ p. IsConnected (record { roles = slice_set roles p new; made = after })) (sym at) (
    subst (λ m. IsConnected (record { roles = slice_set roles (code_of role) new; made = m })) (sym grown) (
    stays_connected (record { roles = roles; made = made }) role new more connected
    (subst (λ c. Goes role c new more) was (goes was fits idle))
    ))

-- a fault is counted
fault_goes : (role : Role) (old : Counted) (more : List Target) → IfSome old.device.target (MayReach role)
    → (old.device.target ≡ None → old.device.traffic ≡ no_traffic) → All (MayReach role) more → old.faults ≤ (missed old).faults
    → Goes role old (missed old) more
fault_goes role old more fits idle may no_less = record {
  fits = fits;
  idle = idle;
  stays = λ target e. e;
  no_less = no_less;
  wanted = All-weaker (MayReach role) (Wants role (missed old)) (λ target m. record { may = m; reached = inr (omega arith) }) more may;
}

-- a role that is named first and has no name reaches nothing
unnamed_reaches : (role : Role) (target : Option Target) → IfSome target (MayReach role) → IsNamedFirst role → name_of target ≡ None
    → target ≡ None
unnamed_reaches role None fits first unnamed = refl
unnamed_reaches role (Some (Opened name)) fits first unnamed = cc
unnamed_reaches role (Some (Created name)) fits first unnamed = cc
unnamed_reaches role (Some StandardOutput) fits first unnamed =
    absurd (elim first [ inl input ↦ subst IsInput fits input | inr created ↦ subst IsCreated fits created ])
unnamed_reaches role (Some StandardError) fits first unnamed =
    absurd (elim first [ inl input ↦ subst IsInput fits input | inr created ↦ subst IsCreated fits created ])

-- a file is opened or created
pub joins_goes : {T : Type 0} (role : Role) (target : Target) (old new : Counted) (result : Result T Failed)
    → IfSome old.device.target (MayReach role) → (old.device.target ≡ None → old.device.traffic ≡ no_traffic) → IsNamedFirst role
    → name_of old.device.target ≡ None → MayReach role target → old.faults ≤ new.faults → Joins target old new result
    → Goes role old new (target ∷ [])
joins_goes role target old new (Ok value) fits idle first unnamed may no_less joins =
    let none : old.device.target ≡ None = unnamed_reaches role old.device.target fits first unnamed in
    let reached : new.device.target ≡ Some target = ap (λ c. c.device.target) joins in
    record {
      fits = subst (λ o. IfSome o (MayReach role)) (sym reached) may;
      idle = λ _. ap (λ c. c.device.traffic) joins;
      stays = λ other e. cc;
      no_less = no_less;
      wanted = All-cons (Wants role new) target [] (record { may = may; reached = inl reached }) (All-nil (Wants role new));
    }
joins_goes role target old new (Err e) fits idle first unnamed may no_less joins =
    subst (λ c. old.faults ≤ c.faults → Goes role old c (target ∷ [])) (sym joins)
    (fault_goes role old (target ∷ []) fits idle (All-cons (MayReach role) target [] may (All-nil (MayReach role)))) no_less

standard_fits : (role : Role) → IfSome (standard role) (MayReach role)
standard_fits Cnf = tt
standard_fits Order = tt
standard_fits Buckets = tt
standard_fits Schedule = tt
standard_fits ProofIn = tt
standard_fits Cubes = tt
standard_fits ProofOut = tt
standard_fits Made = tt
standard_fits Out = refl
standard_fits ErrRole = refl

begun_fits : (role : Role) (target : Option Target) → IfSome target (MayReach role) → IfSome (or_standard role target) (MayReach role)
begun_fits role None fits = standard_fits role
begun_fits role (Some target) fits = fits

all_of : (P : Target → Type 0) (target : Option Target) → IfSome target P → All P (option_to_list target)
all_of P None holds = All-nil P
all_of P (Some target) holds = All-cons P target [] holds (All-nil P)

may_begin : (role : Role) (target : Option Target) → All (MayReach role) (begun role target)
unfolding begun
may_begin role None = all_of (MayReach role) (standard role) (standard_fits role)
may_begin role (Some target) = All-nil (MayReach role)

-- a role that reaches this
abbrev reaching : Option Target → Traffic → ℕ → Counted
reaching target traffic faults = record { device = record { target = target; traffic = traffic }; faults = faults }

wants_its : (role : Role) (target : Option Target) (traffic : Traffic) (faults : ℕ) → IfSome target (MayReach role)
    → IfSome target (Wants role (reaching target traffic faults))
wants_its role None traffic faults may = tt
wants_its role (Some target) traffic faults may = record { may = may; reached = inl refl }

wants_begun : (role : Role) (target : Option Target) (traffic : Traffic) (faults : ℕ)
    → All (Wants role (reaching (or_standard role target) traffic faults)) (begun role target)
unfolding begun
wants_begun role None traffic faults =
    all_of (Wants role (reaching (standard role) traffic faults)) (standard role)
    (wants_its role (standard role) traffic faults (standard_fits role))
wants_begun role (Some target) traffic faults = All-nil (Wants role (reaching (Some target) traffic faults))

none_before : (role : Role) (target : Option Target) → or_standard role target ≡ None → target ≡ None
none_before role None e = refl
none_before role (Some target) e = e

some_after : (role : Role) (target : Option Target) (reached : Target) → target ≡ Some reached → or_standard role target ≡ Some reached
some_after role None reached e = cc
some_after role (Some target) reached e = e

-- a standard stream is taken
pub begins_goes : {T : Type 0} (role : Role) (old new : Counted) (result : Result T Failed) → IfSome old.device.target (MayReach role)
    → (old.device.target ≡ None → old.device.traffic ≡ no_traffic) → old.faults ≤ new.faults → Begins role old new result
    → Goes role old new (begun role old.device.target)
begins_goes role old new (Ok value) fits idle no_less begins =
    subst (λ c. old.faults ≤ c.faults → Goes role old c (begun role old.device.target)) (sym begins) (λ less. record {
      fits = begun_fits role old.device.target fits;
      idle = λ e. idle (none_before role old.device.target e);
      stays = some_after role old.device.target;
      no_less = less;
      wanted = wants_begun role old.device.target old.device.traffic old.faults;
    }) no_less
begins_goes role old new (Err e) fits idle no_less begins =
    subst (λ c. old.faults ≤ c.faults → Goes role old c (begun role old.device.target)) (sym begins)
    (fault_goes role old (begun role old.device.target) fits idle (may_begin role old.device.target)) no_less

-- a role reaches what it reached before
pub same_goes : (role : Role) (old new : Counted) → IfSome old.device.target (MayReach role)
    → new.device.target ≡ old.device.target → old.faults ≤ new.faults
    → (old.device.target ≡ None → new.device.traffic ≡ no_traffic) → Goes role old new []
same_goes role old new fits same no_less idle = record {
  fits = subst (λ o. IfSome o (MayReach role)) (sym same) fits;
  idle = λ e. idle (sym same ∙ e);
  stays = λ target e. same ∙ e;
  no_less = no_less;
  wanted = All-nil (Wants role new);
}

-- a flush before any byte passed
pub flush_idle : {T : Type 0} (old new : Traffic) (result : Result T Failed) → Passes (λ _. all_flushed) old new result → old ≡ no_traffic
    → new ≡ no_traffic
flush_idle old new (Ok value) passes idle = passes ∙ ap all_flushed idle
flush_idle old new (Err e) passes idle = passes ∙ idle
