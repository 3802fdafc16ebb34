-- What a step that was taken wrote, by its line or without one.
use Rattle.std.proofs.Common.{◌≡◌, ℕ, ◌+◌, Bool, true, false, ℤ, List, [], ◌∷◌, ◌++◌, length, set, Option, None, Some, Result, Ok, Err}
use Rattle.std.proofs.Common.{IfNone, is_none, if◌then◌else◌, refl, sym, ap, ◌∙◌, subst, arith, ◌||◌}
use Rattle.std.specs.List.{list_all}
use Rattle.std.specs.FinMap as map
use Rattle.std.proofs.lemmas.Bool.{and_from}
use Rattle.std.proofs.lemmas.List.{append-nil}
use Rattle.cnf_base.specs.declared.list.Group.{Group}
use Rattle.cnf_base.specs.declared.step.Step.{Step}
use Rattle.cnf_base.specs.declared.step.Step.TheVariants.{Add, Delete}
use Rattle.cnf_base.specs.Truth.{is_literal_of}
use Rattle.cnf_base.specs.ProofText.{is_empty, is_id, is_printable, line_of_step, max_literal}
use Rattle.host_io.specs.declared.source.Failed.{Failed}
use Rattle.host_io.specs.Channel.{Channel, WritesAll}
use Rattle.lrat_rules.specs.declared.outcome.Reason.{Reason}
use Rattle.lrat_rules.specs.State.{with_clause}
use Rattle.lrat_rules.specs.Derivation.{text_of}
use Rattle.drat_text.specs.declared.step.DratStep.TheVariants.{Add as adds, Delete as deletes}
use Rattle.drat_rules.specs.Clauses.{Equality}
use Rattle.drat_rules.specs.Run.{after_by, drat_step_fault}
use Rattle.drat_proof.specs.declared.error.ConvertError.{ConvertError}
use Rattle.drat_proof.specs.declared.error.ConvertError.TheVariants.{ReadFault, TooLong, OutOfMemory, WriteFault}
use Rattle.drat_proof.specs.Conversion.{step_answer}
use Rattle.drat_checker.specs.Places.{Place, Places, place_at, standing}
use Rattle.drat_checker.specs.Hints.{is_tautology, plain}
use Rattle.drat_checker.specs.Lines.{IsGoodLine}
use Rattle.lrat_from_drat.specs.Following.{Follows, Leads}
use Rattle.lrat_from_drat.specs.Writing.{Takes, Writes, WritesLine, has_literals}
use Rattle.lrat_from_drat.proofs.Followed.{LiveLaw, follows-added, follows-deleted, follows-gone, follows-tautology, leads-added}
use Rattle.lrat_from_drat.proofs.Followed.{leads-deleted}
use Rattle.lrat_from_drat.proofs.Followed.{leads-none}
use Rattle.lrat_from_drat.specs.Lrat.{cleared, deletion_at, first_twin}
use Rattle.lrat_from_drat.proofs.Becoming.{no-addition, no-deletion, one-addition, one-deletion}

-- nothing, and one line
pub nothing : (tells : Bool) (channel : Channel) → WritesAll {T = Unit {0}} tells channel channel [] (Ok tt)
nothing tells channel = record {
  done = λ t ok. sym (append-nil channel.written);
  failed = λ t err. cc;
  flushed = refl;
  taken = refl;
  left = refl;
  name = refl;
  faults = record { no_less = omega arith; cause = λ err. cc; unfailed = λ ok. refl };
}

pub one-line : {tells : Bool} {old new : Channel} {written : Result (Unit {0}) Failed} (step : Step)
    → WritesAll tells old new (line_of_step step) written → WritesAll tells old new (text_of (step ∷ [])) written
one-line {tells} {old} {new} {written} step w =
    subst (λ (l : List ℕ). WritesAll tells old new l written) (sym (append-nil (line_of_step step))) w

-- at nothing
pub if-none-at : {T P : Type 0} (o : Option T) → o ≡ None → IfNone o P → P
if-none-at None e h = h
if-none-at (Some x) e h = cc

-- by how a write ended
pub by-answer : (tells : Bool) (old new : Channel) (step : Step) (written : Result (Unit {0}) Failed) → has_literals step ≡ true
    → WritesAll tells old new (line_of_step step) written → WritesLine tells old new step (step_answer written)
by-answer tells old new step (Ok u) range w = (range, w)
by-answer tells old new step (Err failed) range w = (range, (failed, w))

no-empty : (c : List ℤ) → is_tautology c ≡ true → is_empty c ≡ true → ⊥
no-empty [] taut e = cc
no-empty (x ∷ xs) taut e = cc

-- an addition
module _ (law : LiveLaw) (tells : Bool) (old new : Channel) (same : Equality) (before after : Places) (clause : List ℤ)
    (good : drat_step_fault (standing before) (adds clause) ≡ None)
    (moved : standing after ≡ after_by same (standing before) (adds clause)) (is : after ≡ before ++ Some clause ∷ []) where
  -- of a tautology
  pub takes-tautology : is_tautology clause ≡ true → new ≡ old → Takes tells old new same before after (adds clause) (Ok None)
  takes-tautology taut unwritten = (
    good,
    moved,
    record {
      places = is;
      from = λ state f. record {
        then = state;
        steps = [];
        leads = leads-none state;
        follows = subst (Follows state) (sym is) (follows-tautology law state before f clause taut);
        alike = no-addition before clause taut;
        empty = λ e. absurd (no-empty clause taut e);
        lines = subst (λ (c : Channel). WritesAll {T = Unit {0}} tells old c [] (Ok tt)) (sym unwritten) (nothing tells old);
      };
    },
  )

  -- by its line
  module _ (hints : List ℕ) (groups : List Group) (id : ℕ) (fails : is_tautology clause ≡ false)
      (line : IsGoodLine before clause hints groups) (at : id ≡ length before + 1) (range_of : is_id id ≡ true) where
    abbrev step : Step
    step = Add id clause hints groups

    written-line : (written : Result (Unit {0}) Failed) → list_all (is_literal_of max_literal) clause ≡ true
        → WritesAll tells old new (line_of_step step) written → Writes tells old new same before after (adds clause) written
    written-line written range w = record {
      places = is;
      from = λ state f.
          let printable : is_printable step ≡ true =
          and_from _ _ (and_from _ _ (and_from _ _ range_of range) line.ids) line.named in
          let same_step : step ≡ Add (length before + 1) clause hints groups = ap (λ n. Add n clause hints groups) at in
          record {
            then = record { live = with_clause state.live (length before + 1) clause; top = length before + 1 };
            steps = step ∷ [];
            leads = subst (λ (s : Step). Leads state (record {
              live = with_clause state.live (length before + 1) clause;
              top = length before + 1;
            }) (s ∷ [])) (sym same_step)
                (leads-added law state before f clause hints groups line (ap is_printable (sym same_step) ∙ printable));
            follows = subst (Follows (record { live = with_clause state.live (length before + 1) clause; top = length before + 1 }))
                (sym is)
                (follows-added law state before f clause fails);
            alike = one-addition before id clause hints groups at fails (line.by_hints state.live f.live) line.named_ids;
            empty = λ e. ap (λ b. b || false) e;
            lines = one-line step w;
          };
    }

    pub takes-line : (result : Result (Option Reason) ConvertError) → WritesLine tells old new step result
        → Takes tells old new same before after (adds clause) result
    takes-line (Ok None) w = (good, moved, written-line (Ok tt) w.0 w.1)
    takes-line (Ok (Some reason)) w = absurd w
    takes-line (Err OutOfMemory) w = w
    takes-line (Err WriteFault) w = (good, (w.1.0, written-line (Err w.1.0) w.0 w.1.1))
    takes-line (Err ReadFault) w = absurd w
    takes-line (Err TooLong) w = absurd w

gone-tautology : (c : List ℤ) → is_none (plain (Some c)) ≡ true → is_tautology c ≡ true
gone-tautology c gone =
    elim (is_tautology c) as (λ b. is_tautology c ≡ b → is_none (if b then None else Some c) ≡ true → b ≡ true) [
      | true ↦ λ e h. refl
      | false ↦ λ e h. cc
    ] refl gone

-- a deletion
module _ (tells : Bool) (old new : Channel) (same : Equality) (before after : Places) (clause : List ℤ)
    (moved : standing after ≡ after_by same (standing before) (deletes clause)) where
  pub takes-nothing : first_twin same clause before ≡ None → after ≡ before → new ≡ old
      → Takes tells old new same before after (deletes clause) (Ok None)
  takes-nothing none is unwritten = (
    refl,
    moved,
    record {
      places = is ∙ sym (ap (cleared before) none);
      from = λ state f. record {
        then = state;
        steps = [];
        leads = leads-none state;
        follows = subst (Follows state) (sym is) f;
        alike = sym (ap (deletion_at before) none);
        empty = λ e. cc;
        lines = subst (λ (c : Channel). WritesAll {T = Unit {0}} tells old c [] (Ok tt)) (sym unwritten) (nothing tells old);
      };
    },
  )

  module _ (number : ℕ) (own : List ℤ) (at : place_at before number ≡ Some own) (first : first_twin same clause before ≡ Some number)
      (is : after ≡ set before number None) where
    cleared-places : after ≡ cleared before (first_twin same clause before)
    cleared-places = is ∙ sym (ap (cleared before) first)

    pub takes-gone : is_none (plain (place_at before number)) ≡ true → new ≡ old
        → Takes tells old new same before after (deletes clause) (Ok None)
    takes-gone gone unwritten = (
      refl,
      moved,
      record {
        places = cleared-places;
        from = λ state f. record {
          then = state;
          steps = [];
          leads = leads-none state;
          follows = subst (Follows state) (sym is)
              (follows-gone state before f number own at (gone-tautology own (ap (λ (p : Place). is_none (plain p)) (sym at) ∙ gone)));
          alike = no-deletion (length before) number (plain (place_at before number)) gone ∙ sym (ap (deletion_at before) first);
          empty = λ e. cc;
          lines = subst (λ (c : Channel). WritesAll {T = Unit {0}} tells old c [] (Ok tt)) (sym unwritten) (nothing tells old);
        };
      },
    )

    module _ (stays : is_none (plain (place_at before number)) ≡ false) (last id : ℕ) (last_is : last ≡ length before)
        (id_is : id ≡ number + 1) (ids : is_printable (Delete last (id ∷ [])) ≡ true) where
      abbrev deletion : Step
      deletion = Delete last (id ∷ [])

      deleted-line : (written : Result (Unit {0}) Failed) → WritesAll tells old new (line_of_step deletion) written
          → Writes tells old new same before after (deletes clause) written
      deleted-line written w = record {
        places = cleared-places;
        from = λ state f. record {
          then = record { live = map.remove state.live (number + 1); top = state.top };
          steps = deletion ∷ [];
          leads = subst (λ (n : ℕ). Leads state (record { live = map.remove state.live (number + 1); top = state.top })
              (Delete last (n ∷ []) ∷ [])) (sym id_is)
              (leads-deleted state before f number last (ap (λ n. is_printable (Delete last (n ∷ []))) (sym id_is) ∙ ids));
          follows = subst (Follows (record { live = map.remove state.live (number + 1); top = state.top })) (sym is)
              (follows-deleted state before f number);
          alike = one-deletion last (length before) number id (plain (place_at before number)) last_is id_is stays
              ∙ sym (ap (deletion_at before) first);
          empty = λ e. cc;
          lines = one-line deletion w;
        };
      }

      pub takes-deletion : (result : Result (Option Reason) ConvertError) → WritesLine tells old new deletion result
          → Takes tells old new same before after (deletes clause) result
      takes-deletion (Ok None) w = (refl, moved, deleted-line (Ok tt) w.1)
      takes-deletion (Ok (Some reason)) w = absurd w
      takes-deletion (Err OutOfMemory) w = w
      takes-deletion (Err WriteFault) w = (refl, (w.1.0, deleted-line (Err w.1.0) w.1.1))
      takes-deletion (Err ReadFault) w = absurd w
      takes-deletion (Err TooLong) w = absurd w
