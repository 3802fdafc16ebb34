-- The verdict behind the steps that were taken is that from the start on.
use Rattle.std.proofs.Common.{◌≡◌, ℕ, ◌∷◌, [], Bool, true, false, ◌||◌, List, refl, sym, ◌∙◌, ap, subst}
use Rattle.std.specs.Prelude.{IsTrue}
use Rattle.lrat_text.specs.LineSteps.{StepsOf}
use Rattle.lrat_text.specs.LineWants.{WantsOf, no_further, for_number, for_step, from_step, is_near, may_want}
use Rattle.proof_judging.specs.Verdict.{Format, judged, verdict_by, wanted_by}
use Rattle.proof_judging.specs.Rules.{Rules}
use Rattle.proof_judging.specs.Run.{Leads, before_all}
use Rattle.proof_judging.proofs.Running.{PassThrough}

or_true : (b : Bool) → (b || true) ≡ true
or_true true = refl
or_true false = refl

pub verdict_behind : {Judge World Step Error : Type 0} (rules : Rules Judge World Step Error) (taken : List (Step × ℕ))
    (place last : rules.Place)
    (work now : rules.Work) (had has : Bool) (rest : StepsOf Step) → Leads rules place work had taken last now has
    → verdict_by rules.format place had (before_all taken rest) ≡ verdict_by rules.format last has rest
verdict_behind rules [] place last work now had has rest leads =
    ap (λ p. verdict_by rules.format p had rest) leads.0 ∙ ap (λ h. verdict_by rules.format last h rest) leads.2
verdict_behind rules ((step, line) ∷ taken) place last work now had has rest leads =
    let later = verdict_by rules.format (rules.format.after place step) (had || rules.format.adds_empty step) (before_all taken rest) in
    ap (λ f. judged f line later) leads.4
    ∙ verdict_behind rules taken (rules.format.after place step) last leads.1 now (had || rules.format.adds_empty step) has rest leads.5

-- for the next step, and so for its line
pub from_line : {Place Step : Type 0} (format : Format Place Step) (more : ℕ) (place : Place) (before after : WantsOf Step) (step : Step)
    → from_step before ≡ for_step step after → IsTrue (wanted_by format more place (for_step step after))
    → IsTrue (wanted_by format more place before)
from_line format more place no_further after step e w = cc
from_line format more place (for_number wants) after step e w =
    let later : wanted_by format more place wants ≡ true = from_line format more place wants after step e w in
    rw later (or_true (is_near more wants))
from_line format more place (for_step first wants) after step e w =
    subst (λ x. IsTrue (wanted_by format more place x)) (sym e) w

pub line_wants : {Place Step : Type 0} (format : Format Place Step) (more : ℕ) (place : Place) (wants : WantsOf Step)
    → IsTrue (may_want more wants) → IsTrue (wanted_by format more place wants)
line_wants format more place no_further w = cc
line_wants format more place (for_number wants) w =
    elim (is_near more wants) as (λ b. (b || may_want more wants) ≡ true → (b || wanted_by format more place wants) ≡ true) [
      | true ↦ λ h. refl
      | false ↦ λ h. line_wants format more place wants h
    ] w
line_wants format more place (for_step step wants) w = rw w refl

-- what is wanted behind the steps that were taken
pub wanted_behind : {Judge World Step Error : Type 0} (rules : Rules Judge World Step Error) (more : ℕ) (taken : List (Step × ℕ))
    (place last : rules.Place)
    (work now : rules.Work) (had has : Bool) (before after : WantsOf Step) → Leads rules place work had taken last now has
    → PassThrough before taken after → IsTrue (wanted_by rules.format more last after) → IsTrue (wanted_by rules.format more place before)
wanted_behind rules more [] place last work now had has before after leads passed w =
    subst (λ x. IsTrue (wanted_by rules.format more place x)) (sym passed)
    (subst (λ p. IsTrue (wanted_by rules.format more p after)) (sym leads.0) w)
wanted_behind rules more ((step, line) ∷ taken) place last work now had has before after leads passed w =
    let later : wanted_by rules.format more (rules.format.after place step) passed.0 ≡ true =
    wanted_behind rules more taken (rules.format.after place step) last leads.1 now (had || rules.format.adds_empty step) has passed.0 after
    leads.5 passed.2 w in
    from_line rules.format more place before passed.0 step passed.1 (rw (leads.4, later) (or_true (is_near more passed.0)))
