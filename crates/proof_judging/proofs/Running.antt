-- A run so far, and one step more.
use Rattle.std.proofs.Common.{◌≡◌, ℕ, ◌++◌, ◌∷◌, [], Bool, true, false, ◌||◌, List, Some, None, Ok, refl, sym, ◌∙◌, ap, subst, arith}
use Rattle.std.specs.Prelude.{Option, IsTrue}
use Rattle.host_io.specs.Channel.{Channel}
use Rattle.text_scan.specs.Decides.{gained, gained-none, Decides, Decides-none, Decides-then, OnlyReads, OnlyReads-then, front-then}
use Rattle.text_scan.specs.Scan.{is_reading as is_scanning}
use Rattle.lrat_text.specs.Form.{Form}
use Rattle.lrat_text.specs.LineReader.{ReaderOf, given, steps_ahead, so_far}
use Rattle.lrat_text.specs.LineSteps.{StepsOf, next_step}
use Rattle.lrat_text.specs.LineWants.{WantsOf, for_step, from_step, wants_ahead}
use Rattle.lrat_rules.specs.declared.outcome.Reason.{Reason}
use Rattle.proof_judging.specs.Rules.{Judges, ReadsStep, Rules}
use Rattle.proof_judging.specs.Run.{Leads, before_all}

-- one step more at the end
pub leads_more : {Judge World Step Error : Type 0} (rules : Rules Judge World Step Error) (taken : List (Step × ℕ))
    (place last : rules.Place)
    (work now read done : rules.Work) (had has : Bool) (step : Step) (at : ℕ) → Leads rules place work had taken last now has
    → rules.reads now read → rules.does last read done has step (Ok None) → rules.format.fault last step ≡ None
    → Leads rules place work had (taken ++ (step, at) ∷ []) (rules.format.after last step) done (has || rules.format.adds_empty step)
leads_more rules [] place last work now read done had has step at leads reads does good = (
  read,
  done,
  subst (λ w. rules.reads w read) (sym leads.1) reads,
  subst (λ h. rules.does place read done h step (Ok None)) (sym leads.2) (subst (λ p. rules.does p read done has step (Ok None))
      (sym leads.0) does),
  subst (λ p. rules.format.fault p step ≡ None) (sym leads.0) good,
  (ap (λ p. rules.format.after p step) leads.0, refl, ap (λ h. h || rules.format.adds_empty step) leads.2),
)
leads_more rules ((first, line) ∷ taken) place last work now read done had has step at leads reads does good = (
  leads.0,
  leads.1,
  leads.2,
  leads.3,
  leads.4,
  leads_more rules taken (rules.format.after place first) last leads.1 now read done
      (had || rules.format.adds_empty first) has step at leads.5
      reads does good,
)

pub before_more : {Step : Type 0} (taken : List (Step × ℕ)) (step : Step) (at : ℕ) (rest : StepsOf Step)
    → before_all (taken ++ (step, at) ∷ []) rest ≡ before_all taken (next_step step at rest)
before_more [] step at rest = refl
before_more ((first, line) ∷ taken) step at rest = ap (next_step first line) (before_more taken step at rest)

-- memory may be wanted for these steps in turn, and then for what is behind them
abbrev pub PassThrough : {Step : Type 0} → WantsOf Step → List (Step × ℕ) → WantsOf Step → Type 0
PassThrough before [] after = before ≡ after
PassThrough {Step} before ((step, line) ∷ steps) after = (middle : WantsOf Step) × (from_step before ≡ for_step step middle)
    × PassThrough middle steps after

pub pass_more : {Step : Type 0} (taken : List (Step × ℕ)) (step : Step) (at : ℕ) (before middle after : WantsOf Step)
    → PassThrough before taken middle → from_step middle ≡ for_step step after → PassThrough before (taken ++ (step, at) ∷ []) after
pass_more [] step at before middle after passed next = (after, ap from_step passed ∙ next, refl)
pass_more ((first, line) ∷ taken) step at before middle after passed next =
    (passed.0, passed.1, pass_more taken step at passed.0 middle after passed.2 next)

-- The steps ahead of a reader that were taken so far, and what is ahead now.
pub record SoFar {Draft Judge World Step Error : Type 0} (form : Form Draft Step) (tells : Bool) (rules : Rules Judge World Step Error)
    (in_old in_now : Channel) (place now : rules.Place) (work done : rules.Work) (has_empty : Bool)
    (before after : ReaderOf Draft) : Type 0 where
  pub taken : List (Step × ℕ)
  pub leads : Leads rules place work false taken now done has_empty
  pub ahead : IsTrue tells → Decides in_old in_now (λ bytes more. steps_ahead form before bytes ≡ before_all taken
      (steps_ahead form after more))
  pub wants : IsTrue tells → Decides in_old in_now (λ bytes more. PassThrough (wants_ahead form before bytes) taken
      (wants_ahead form after more))
  pub decided : IsTrue tells → is_scanning after.scan.status ≡ true → (more : List ℕ)
      → so_far form before (gained in_old in_now ++ more) ≡ before_all taken (so_far form after more)
  pub unfailed : in_now.faults ≡ in_old.faults
  pub reads : OnlyReads in_old in_now

-- nothing was read yet
pub none_yet : {Draft Judge World Step Error : Type 0} (form : Form Draft Step) (tells : Bool) (rules : Rules Judge World Step Error)
    (channel : Channel)
    (place : rules.Place) (work : rules.Work) (reader : ReaderOf Draft)
    → SoFar form tells rules channel channel place place work work false reader reader
none_yet form tells rules channel place work reader = record {
  taken = [];
  leads = (refl, refl, refl);
  ahead = λ told. Decides-none channel _ (λ more. refl);
  wants = λ told. Decides-none channel _ (λ more. refl);
  decided = λ told scanning more. ap (λ bytes. so_far form reader (bytes ++ more)) (gained-none channel);
  unfailed = refl;
  reads = record { written = refl; flushed = refl; name = refl; faults = omega (arith) };
}

module _ {Draft Judge World Step Error : Type 0} (form : Form Draft Step) (tells : Bool) (rules : Rules Judge World Step Error)
    (in_old in_now in_new : Channel) (place now : rules.Place) (work before_read read done : rules.Work) (has_empty : Bool)
    (before middle after : ReaderOf Draft)
    (begun : SoFar form tells rules in_old in_now place now work before_read has_empty before middle)
    (reading : rules.reads before_read read) where
  pub one_more : (step : Step) (at : ℕ) → ReadsStep form tells in_now in_new middle after (Ok (Some (step, at)))
      → rules.does now read done has_empty step (Ok None) → rules.format.fault now step ≡ None
      → SoFar form tells rules in_old in_new place (rules.format.after now step) work done
      (has_empty || rules.format.adds_empty step) before after
  one_more step at reads does good = record {
    taken = begun.taken ++ (step, at) ∷ [];
    leads = leads_more rules begun.taken place now work before_read read done false has_empty step at begun.leads reading does good;
    ahead = λ told. Decides-then _ (begun.ahead told) (reads.gives told)
        (λ bytes between more first second. first ∙ ap (before_all begun.taken) second ∙ sym (before_more begun.taken step at _));
    wants = λ told. Decides-then _ (begun.wants told) (reads.spends told)
        (λ bytes between more first second. pass_more begun.taken step at _ _ _ first second);
    decided = λ told scanning.
        let both = reads.so_far told scanning in
        λ more. front-then (λ bytes. so_far form before bytes) (λ bytes. before_all begun.taken (so_far form middle bytes))
        (λ bytes. before_all begun.taken (next_step step at (so_far form after bytes))) (begun.ahead told) (reads.gives told)
        (begun.decided told both.0) (λ rest. ap (before_all begun.taken) (both.1 rest)) more
        ∙ sym (before_more begun.taken step at (so_far form after more));
    unfailed = reads.unfailed (λ e. cc) ∙ begun.unfailed;
    reads = OnlyReads-then begun.reads reads.reads;
  }

  -- The same of what the calls of the loop say: the judge reads nothing while it takes a step.
  pub turn : (next : rules.Place) (in_last : Channel) → in_last ≡ in_new → (step : Step) (found : Option ℕ) (at : ℕ)
      (reason : Option Reason) (has : Bool) → ReadsStep form tells in_now in_new middle after (given step (Ok found)) → found ≡ Some at
      → Judges rules now next step (Ok reason) → rules.does now read done has_empty step (Ok reason)
      → reason ≡ None → has ≡ (has_empty || rules.format.adds_empty step)
      → SoFar form tells rules in_old in_last place next work done has before after
  turn next in_last channel_is step found at reason has reads is judges does none told =
      let r = subst (λ x. ReadsStep form tells in_now in_new middle after (given step (Ok x))) is reads in
      let j : (rules.format.fault now step ≡ None) × (next ≡ rules.format.after now step) =
      subst (λ x. Judges rules now next step (Ok x)) none judges in
      let d = subst (λ x. rules.does now read done has_empty step (Ok x)) none does in
      subst (λ h. SoFar form tells rules in_old in_last place next work done h before after) (sym told)
      (subst (λ p. SoFar form tells rules in_old in_last place p work done (has_empty || rules.format.adds_empty step) before after)
      (sym j.1)
      (subst (λ x. SoFar form tells rules in_old x place (rules.format.after now step) work done (has_empty || rules.format.adds_empty step)
      before after) (sym channel_is) (one_more step at r d j.0)))
